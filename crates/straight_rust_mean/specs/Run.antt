-- The meaning of a crate (the Rust Reference, "Statements and expressions", "Behavior considered undefined"), under a
-- budget of units: a call of a function takes a unit, and `std::process::exit` takes none.
use Rattle.std.specs.Prelude.{ℕ, zero, suc, ℤ, neg_ℤ, ◌+ℤ◌, ◌-ℤ◌, ◌*ℤ◌, List, [], ◌∷◌, ◌++◌, map, length, Option, Some, None, option_map, codes, slice_get, if◌then◌else◌, Result, Ok, Err}
use Rattle.cr_runs.specs.Runs.{Ran, came, halted, bad, out}
use Rattle.ext_calls.specs.Outside.{Outside, Events}
use Rattle.mem_bytes.specs.declared.fault.Fault.{Fault}
use Rattle.mem_bytes.specs.declared.value.Ptr.{Ptr}
use Rattle.mem_bytes.specs.declared.value.Value.{Value}
use Rattle.mem_bytes.specs.declared.value.Value.TheVariants.{Whole, Null, Object, Code}
use Rattle.mem_bytes.specs.Access.{value_at, after_put}
use Rattle.mem_bytes.specs.Memory.{Blocks}
use Rattle.straight_rust_mean.specs.declared.cause.Cause.{Cause}
use Rattle.straight_rust_mean.specs.declared.cause.Cause.TheVariants.{Overflow, WrongCall}
use Rattle.straight_rust_mean.specs.Functions.{Typed, zeroed, entered, left, accepts, outer_call}
use Rattle.straight_rust_mean.specs.Items.{Callee, outer, own, callee_in, callee_at, signature_of, statics_of, static_spot, Spot, local_spot}
use Rattle.straight_rust_mean.specs.Scalars.{scalar_of, in_range}
use Rattle.straight_rust_mean.specs.World.{World, Run, pure, fails, seq, takes_unit, cause_of, or_fault}
use Rattle.straight_rust_tree.specs.declared.tree.Operator.{Operator}
use Rattle.straight_rust_tree.specs.declared.tree.Operator.TheVariants.{Add, Sub, Mul}
use Rattle.straight_rust_tree.specs.Tree.{Ty, Place, named, static_at, Expr, Exprs, literal, read, call, neg, binary, no_exprs, expr_and, Stmt, Stmts, assign, eval, gives, no_stmts, stmt_and, LocalTree, FunctionTree, ModuleTree, CrateTree}

-- how the bodies of called functions run
abbrev pub Bodies : Type 0
Bodies = FunctionTree → List Typed → Run (Option Typed)

-- what stands around a place of a body: the crate, the parameters and locals of the function, the number of the first
-- one's block, and how the bodies of called functions run
pub record Frame : Type 0 where
  pub whole : CrateTree
  pub locals : List LocalTree
  pub first : ℕ
  pub bodies : Bodies

-- ---- places

-- the block that a place is; the static objects have the first blocks
abbrev pub spot_of : Frame → Place → Option Spot
spot_of frame (named x) = local_spot frame.first x frame.locals
spot_of frame (static_at m x) = static_spot 0 m x (statics_of frame.whole)

abbrev pub start_of : Spot → Ptr
start_of spot = record { block = spot.block; offset = 0 }

-- a load of the place's type
abbrev pub load : Option Spot → Run Typed
load None = fails WrongCall
load (Some spot) = λ world units.
    seq (or_fault (value_at world.memory (start_of spot) (scalar_of spot.ty)))
    (λ value. pure (record { ty = spot.ty; value = value })) world units

-- the world after a store, or its fault
abbrev pub with_memory : Result Blocks Fault → Run (Unit {0})
with_memory (Err why) = fails (cause_of why)
with_memory (Ok memory) = λ world units. came tt (record world { memory = memory }) units

-- a store of a value of the place's type
abbrev pub store : Option Spot → Typed → Run (Unit {0})
store None value = fails WrongCall
store (Some spot) value = λ world units.
    with_memory (after_put world.memory (start_of spot) (scalar_of spot.ty) value.value) world units

-- ---- operators

abbrev pub number_of : Value → Option ℤ
number_of (Whole n) = Some n
number_of Null = None
number_of (Object at) = None
number_of (Code f) = None

-- a result of arithmetic is a value of its type, or wrong
abbrev pub computed : Ty → Option ℤ → Run Typed
computed ty None = fails WrongCall
computed ty (Some n) = if in_range ty n then pure (record { ty = ty; value = Whole n }) else fails Overflow

abbrev pub applied : Operator → ℤ → ℤ → ℤ
applied Add a b = a +ℤ b
applied Sub a b = a -ℤ b
applied Mul a b = a *ℤ b

abbrev pub applied_to : Operator → Option ℤ → Option ℤ → Option ℤ
applied_to operator None right = None
applied_to operator (Some a) None = None
applied_to operator (Some a) (Some b) = Some (applied operator a b)

abbrev pub run_neg : Typed → Run Typed
run_neg operand = computed operand.ty (option_map neg_ℤ (number_of operand.value))

abbrev pub run_operator : Operator → Typed → Typed → Run Typed
run_operator operator left_value right_value =
    computed left_value.ty (applied_to operator (number_of left_value.value) (number_of right_value.value))

-- ---- calls

-- the body of a function that is called
abbrev pub run_callee : Bodies → List Typed → Callee → Run (Option Typed)
run_callee bodies args (own fun) = bodies fun args
run_callee bodies args (outer fun) = outer_call fun args

-- a call takes a unit; arguments of another number or other types are wrong
abbrev pub call_found : Bodies → List Typed → Option Callee → Run (Option Typed)
call_found bodies args None = fails WrongCall
call_found bodies args (Some callee) =
    if accepts (signature_of callee).params (signature_of callee).variadic args
    then takes_unit (run_callee bodies args callee)
    else fails WrongCall

-- a call of the function that a path names
abbrev pub call_at : CrateTree → Bodies → List ℕ → List ℕ → List Typed → Run (Option Typed)
call_at whole bodies m x args = call_found bodies args (callee_at whole m x)

-- a call of a function of a module
abbrev pub call_in : Bodies → ModuleTree → List ℕ → Run (Option Typed)
call_in bodies unit x = call_found bodies [] (callee_in x (Some unit))

-- the result of a call whose value is used
abbrev pub the_value : Option Typed → Run Typed
the_value None = fails WrongCall
the_value (Some value) = pure value

-- ---- expressions

abbrev mutual
  -- operands go from the left
  pub run_expr : Frame → Expr → Run Typed
  run_expr frame (literal value ty) = pure (record { ty = ty; value = Whole value })
  run_expr frame (read place) = load (spot_of frame place)
  run_expr frame (call m x args) = seq (run_exprs frame args) (λ values. seq (call_at frame.whole frame.bodies m x values) the_value)
  run_expr frame (neg operand) = seq (run_expr frame operand) run_neg
  run_expr frame (binary operator l r) =
      seq (run_expr frame l) (λ left_value. seq (run_expr frame r) (λ right_value. run_operator operator left_value right_value))

  pub run_exprs : Frame → Exprs → Run (List Typed)
  run_exprs frame no_exprs = pure []
  run_exprs frame (expr_and e es) = seq (run_expr frame e) (λ value. seq (run_exprs frame es) (λ values. pure (value ∷ values)))

-- ---- statements

-- what a statement does with the flow of control
pub data Flow : Type 0 where
  -- it goes on behind the statement
  normal : Flow
  -- the function gives back a value, if any
  returned : Option Typed → Flow

-- a call whose result, if there is one, is dropped; another expression is no statement, and its value is dropped too
abbrev pub run_dropped : Frame → Expr → Run Flow
run_dropped frame (call m x args) =
    seq (run_exprs frame args) (λ values. seq (call_at frame.whole frame.bodies m x values) (λ _. pure normal))
run_dropped frame (literal value ty) = seq (run_expr frame (literal value ty)) (λ _. pure normal)
run_dropped frame (read place) = seq (run_expr frame (read place)) (λ _. pure normal)
run_dropped frame (neg operand) = seq (run_expr frame (neg operand)) (λ _. pure normal)
run_dropped frame (binary operator l r) = seq (run_expr frame (binary operator l r)) (λ _. pure normal)

-- in `p = e;` the value goes first, then the place
abbrev pub run_stmt : Frame → Stmt → Run Flow
run_stmt frame (assign place value) = seq (run_expr frame value) (λ stored. seq (store (spot_of frame place) stored) (λ _. pure normal))
run_stmt frame (eval value) = run_dropped frame value
run_stmt frame (gives None) = pure (returned None)
run_stmt frame (gives (Some value)) = seq (run_expr frame value) (λ given. pure (returned (Some given)))

-- the rest of a body, where control goes on behind a statement
abbrev pub then_on : Run Flow → Flow → Run Flow
then_on rest normal = rest
then_on rest (returned value) = pure (returned value)

abbrev pub run_stmts : Frame → Stmts → Run Flow
run_stmts frame no_stmts = pure normal
run_stmts frame (stmt_and s ss) = seq (run_stmt frame s) (then_on (run_stmts frame ss))

-- ---- functions

-- what a call gives back
abbrev pub given_by : Flow → Option Typed
given_by normal = None
given_by (returned value) = value

-- the frame of a function that is called in a world
abbrev pub frame_of : CrateTree → Bodies → FunctionTree → World → Frame
frame_of whole bodies fun world = record { whole = whole; locals = fun.params ++ fun.locals; first = length world.memory; bodies = bodies }

-- a call's end: the blocks of the function end, and its value is given back
abbrev pub leave : ℕ → FunctionTree → Flow → Run (Option Typed)
leave first fun flow = λ world units. came (given_by flow) (left first fun world) units

-- the body of a called function: its parameters and locals begin at the call and end at its return
abbrev pub run_function : CrateTree → Bodies → Bodies
run_function whole bodies fun args = λ world units.
    seq (run_stmts (frame_of whole bodies fun world) fun.body) (leave (length world.memory) fun) (entered fun args world) units

-- bodies, where calls are nested at most so deep; each call takes a unit, so a budget of n units has no deeper ones
abbrev pub bodies_within : CrateTree → ℕ → Bodies
bodies_within whole zero = λ fun args world units. out world
bodies_within whole (suc depth) = run_function whole (bodies_within whole depth)

-- ---- the program

-- the initialisers of the modules, in order
abbrev pub run_initialisers : Bodies → List ModuleTree → Run (Unit {0})
run_initialisers bodies [] = pure tt
run_initialisers bodies (unit ∷ others) =
    seq (call_in bodies unit (codes "run_static_initializers")) (λ _. run_initialisers bodies others)

abbrev pub run_entry : Bodies → Option ModuleTree → Run (Option Typed)
run_entry bodies None = fails WrongCall
run_entry bodies (Some unit) = call_in bodies unit (codes "main_0")

-- `std::process::exit` of a status
abbrev pub exits : Option ℤ → Run (Unit {0})
exits None = fails WrongCall
exits (Some status) = λ world units. halted status world

abbrev pub status_of : Option Typed → Option ℤ
status_of None = None
status_of (Some given) = number_of given.value

-- `main.rs`: the initialisers of each module, then `main_0` of the entry, which gives the status of the program
abbrev pub run_main : CrateTree → Bodies → Run (Unit {0})
run_main whole bodies =
    seq (run_initialisers bodies whole.modules) (λ _.
    seq (run_entry bodies (slice_get whole.modules whole.entry)) (λ given. exits (status_of given)))

-- before `main.rs` the static objects begin, in the crate's order
abbrev pub world_before : CrateTree → Outside → World
world_before whole answers = record {
  memory = map (λ object. zeroed object.ty) (statics_of whole);
  events = [];
  answers = answers;
}

-- how far a run has come: a unit is asked for that isn't there, it has ended with a status, or it is wrong
pub data RProgress : Type 0 where
  going : RProgress
  ended : (status : ℤ) → RProgress
  wrong : (cause : Cause) → RProgress

-- what is seen of a run of a crate
pub record RSeen : Type 0 where
  pub events : Events
  pub progress : RProgress

abbrev pub seen_of : Ran Cause World (Unit {0}) → RSeen
seen_of (came value world units) = record { events = world.events; progress = going }
seen_of (halted status world) = record { events = world.events; progress = ended status }
seen_of (bad why world) = record { events = world.events; progress = wrong why }
seen_of (out world) = record { events = world.events; progress = going }

-- the run of a crate under an outside and a budget of units
abbrev pub rs_run : CrateTree → Outside → ℕ → RSeen
rs_run whole answers units = seen_of (run_main whole (bodies_within whole units) (world_before whole answers) units)
