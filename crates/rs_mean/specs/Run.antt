-- The meaning of a crate (the Rust Reference, "Statements and expressions" and "Behavior considered undefined"), under a budget of units:
-- each turn of a loop and each call of a function takes one.
use Rattle.std.specs.Prelude.{ℕ, zero, suc, Bool, true, false, ◌&&◌, ℤ, pos, List, [], ◌∷◌, ◌++◌, Option, Some, None, Result, Ok, Err, bytes_eq, codes, slice_get}
use Rattle.std.specs.Ordering.{int_eq}
use Rattle.cr_runs.specs.Runs.{Ran, came, halted, bad, out}
use Rattle.cr_world.specs.World.{World, Outside, Terms, open_ended, Stop, first_world, events_of}
use Rattle.ext_calls.specs.declared.call.Call.{Call}
use Rattle.mem_bytes.specs.Memory.{Blocks}
use Rattle.mem_bytes.specs.Pointers.{moved}
use Rattle.mem_bytes.specs.declared.value.Value.{Value}
use Rattle.mem_bytes.specs.declared.value.Value.TheVariants.{Whole, Null, Object, Code as Function}
use Rattle.rs_text.specs.Tree.{Ty, Integer, Pointer, Code, Record, Tys, no_tys, more_tys, OptionTy, no_ty, some_ty, Place, Local, Static, Deref, Field, Expr, Literal, Truth, NoFunction, Read, Call as CallTree, CallBy, Wrapped, WrappingNeg, Offset, OffsetFrom, IsNull, IsNone, AddressOf, NullPointer, SomeFunction, Transmute, Neg, Not, Cast, Binary, And, Or, Choose, Exprs, no_exprs, more_exprs, Stmt, Assign, Eval, CopyBytes, If, Loop, Block, Break, Continue, Match, Return, Stmts, no_stmts, more_stmts, LiteralArm, Arms, no_arms, more_arms, FunctionTree, ModuleTree, CrateTree}
use Rattle.rs_mean.specs.declared.cause.Cause.{Cause}
use Rattle.rs_mean.specs.declared.cause.Cause.TheVariants.{WrongCall, NoneCall}
use Rattle.rs_mean.specs.Calls.{Spot, based, spot, may_stand, load, store, begin_params, begin_locals, end_locals, begin_statics, accepts, outer_call, copies}
use Rattle.rs_mean.specs.Layout.{FieldPlace, laid_at, laid_of, field_at}
use Rattle.rs_mean.specs.Lookups.{Callee, outer, own, callee_at, callee_among, Signature, signature_of, own_signature, function_number, function_with, Home, static_home, statics_of, LocalBlock, local_home}
use Rattle.rs_mean.specs.Scalars.{alike}
use Rattle.rs_mean.specs.Values.{Typed, typed, truth, binary_of, wrapping_of, neg_of, wrapping_neg_of, not_of, cast_of, transmuted, is_null_of, is_none_of, offset_of, offset_from_of, test_of}
use Rattle.rs_mean.specs.World.{Run, pure, fails, ends, seq, takes_unit, either, looks, or_fails, Round, again, done, rounds, cause_of_pointer, or_cause}

-- how the bodies of called functions run
abbrev pub Bodies : Type 0
Bodies = FunctionTree → List Typed → Run (Option Typed)

-- what stands around a place of a body: the crate's modules, the parameters and locals of the function, with their blocks, and how the
-- bodies of called functions run
pub record Frame : Type 0 where
  pub modules : List ModuleTree
  pub locals : List LocalBlock
  pub bodies : Bodies

-- ---- places

abbrev pub spot_of_home : Option Home → Run Spot
spot_of_home None = fails WrongCall
spot_of_home (Some home) = pure (spot home.ty (Object (record { block = home.block; offset = 0 })))

-- whether what a pointer points to is aligned for its type, where that has fields; an access to a scalar asks for its own alignment
abbrev pub is_base : List ModuleTree → Blocks → Ty → Value → Bool
is_base modules blocks (Record m x) at = may_stand blocks (laid_at modules m x) at
is_base modules blocks _ at = true

abbrev pub spot_by_type : List ModuleTree → Ty → Value → Run Spot
spot_by_type modules (Pointer target) at = looks (λ held. Ok (based (is_base modules held.blocks target at) target at))
spot_by_type modules _ at = fails WrongCall

-- what a pointer points to
abbrev pub spot_of_pointer : List ModuleTree → Typed → Run Spot
spot_of_pointer modules pointer = spot_by_type modules pointer.ty pointer.value

abbrev pub moved_to : (is_based : Bool) → Ty → Result Value Cause → Result Spot Cause
moved_to is_based ty (Ok at) = Ok (based is_based ty at)
moved_to is_based ty (Err why) = Err why

abbrev pub field_spot : (is_based : Bool) → Value → Option FieldPlace → Run Spot
field_spot is_based at None = fails WrongCall
field_spot is_based at (Some field) =
    looks (λ held. moved_to is_based field.ty (or_cause cause_of_pointer (moved held.blocks at (pos field.byte))))

abbrev pub field_by_type : List ModuleTree → List ℕ → (is_based : Bool) → Value → Ty → Run Spot
field_by_type modules f is_based at (Record m x) = field_spot is_based at (field_at modules m x f)
field_by_type modules f is_based at _ = fails WrongCall

-- the field of a name: its place is inside the object, or at its end, and has the base of the whole
abbrev pub spot_of_field : List ModuleTree → List ℕ → Spot → Run Spot
spot_of_field modules f whole = field_by_type modules f whole.is_based whole.at whole.ty

-- ---- calls

-- a call takes a unit
abbrev pub run_callee : Bodies → List Typed → Callee → Run (Option Typed)
run_callee bodies args (own fun) = bodies fun args
run_callee bodies args (outer fun) = outer_call fun args

-- arguments of another number or other types are wrong, before the unit is taken
abbrev pub call_found : Bodies → List Typed → Option Callee → Run (Option Typed)
call_found bodies args None = fails WrongCall
call_found bodies args (Some callee) =
    either (accepts (signature_of callee).params (signature_of callee).variadic args)
    (takes_unit (run_callee bodies args callee)) (fails WrongCall)

-- a call of the function that a path names
abbrev pub call_at : List ModuleTree → Bodies → List ℕ → List ℕ → List Typed → Run (Option Typed)
call_at modules bodies m x args = call_found bodies args (callee_at modules m x)

-- ---- calls by pointer

abbrev pub results_alike : Option Ty → OptionTy → Bool
results_alike None no_ty = true
results_alike (Some one) (some_ty other) = alike one other
results_alike None (some_ty other) = false
results_alike (Some one) no_ty = false

abbrev pub params_alike : List Ty → Tys → Bool
params_alike [] no_tys = true
params_alike (one ∷ others) (more_tys first rest) = alike one first && params_alike others rest
params_alike [] (more_tys first rest) = false
params_alike (one ∷ others) no_tys = false

-- a function may be called by a pointer of these types
abbrev pub called_as : Tys → OptionTy → Signature → Bool
called_as params result signature = params_alike signature.params params && results_alike signature.result result

-- the result of a call by pointer has the type of the pointer
abbrev pub retyped : OptionTy → Option Typed → Option Typed
retyped (some_ty ty) (Some value) = Some (typed ty value.value)
retyped (some_ty ty) None = None
retyped no_ty value = None

abbrev pub call_pointed : Bodies → Tys → OptionTy → List Typed → Option FunctionTree → Run (Option Typed)
call_pointed bodies params result args None = fails WrongCall
call_pointed bodies params result args (Some fun) =
    either (called_as params result (own_signature fun))
    (seq (call_found bodies args (Some (own fun))) (λ value. pure (retyped result value))) (fails WrongCall)

-- a function pointer that isn't `None`
pub record Pointed : Type 0 where
  pub params : Tys
  pub result : OptionTy
  pub fun : Option FunctionTree

abbrev pub unwrapped_as : List ModuleTree → Tys → OptionTy → Value → Run Pointed
unwrapped_as modules params result (Function number) =
    pure (record { params = params; result = result; fun = function_with modules number })
unwrapped_as modules params result Null = fails NoneCall
unwrapped_as modules params result _ = fails WrongCall

abbrev pub unwrapped_by_type : List ModuleTree → Ty → Value → Run Pointed
unwrapped_by_type modules (Code params result) value = unwrapped_as modules params result value
unwrapped_by_type modules _ value = fails WrongCall

-- `unwrap`, before the arguments
abbrev pub unwrapped : List ModuleTree → Typed → Run Pointed
unwrapped modules pointer = unwrapped_by_type modules pointer.ty pointer.value

-- the result of a call whose value is used
abbrev pub the_value : Option Typed → Run Typed
the_value None = fails WrongCall
the_value (Some value) = pure value

-- ---- expressions

abbrev pub function_value : Tys → OptionTy → Option ℕ → Run Typed
function_value params result None = fails WrongCall
function_value params result (Some number) = pure (typed (Code params result) (Function number))

-- a test of a condition
abbrev pub tests : Typed → Run Bool
tests operand = or_fails (test_of operand)

abbrev mutual
  -- operands go from the left; a place is a pointer, which may be null or past the end of its object
  pub run_place : Frame → Place → Run Spot
  run_place frame (Local x) = spot_of_home (local_home x frame.locals)
  run_place frame (Static m x) = spot_of_home (static_home frame.modules m x)
  run_place frame (Deref e) = seq (run_expr frame e) (spot_of_pointer frame.modules)
  run_place frame (Field p f) = seq (run_place frame p) (spot_of_field frame.modules f)

  pub run_expr : Frame → Expr → Run Typed
  run_expr frame (Literal value ty) = pure (typed (Integer ty) (Whole value))
  run_expr frame (Truth value) = pure (truth value)
  run_expr frame NoFunction = pure (typed (Code no_tys no_ty) Null)
  run_expr frame (Read p) = seq (run_place frame p) load
  run_expr frame (CallTree m x args) =
      seq (run_exprs frame args) (λ values. seq (call_at frame.modules frame.bodies m x values) the_value)
  run_expr frame (CallBy e args) =
      seq (run_expr frame e) (λ pointer. seq (unwrapped frame.modules pointer) (λ pointed.
      seq (run_exprs frame args) (λ values.
      seq (call_pointed frame.bodies pointed.params pointed.result values pointed.fun) the_value)))
  run_expr frame (Wrapped e op arg) =
      seq (run_expr frame e) (λ left. seq (run_expr frame arg) (λ right. or_fails (wrapping_of op left right)))
  run_expr frame (WrappingNeg e) = seq (run_expr frame e) (λ value. or_fails (wrapping_neg_of value))
  run_expr frame (Offset e arg) =
      seq (run_expr frame e) (λ left. seq (run_expr frame arg) (λ right.
      looks (λ held. offset_of (laid_of frame.modules) held.blocks left right)))
  run_expr frame (OffsetFrom e arg) =
      seq (run_expr frame e) (λ left. seq (run_expr frame arg) (λ right.
      looks (λ held. offset_from_of (laid_of frame.modules) held.blocks left right)))
  run_expr frame (IsNull e) = seq (run_expr frame e) (λ value. or_fails (is_null_of value))
  run_expr frame (IsNone e) = seq (run_expr frame e) (λ value. or_fails (is_none_of value))
  run_expr frame (AddressOf p) = seq (run_place frame p) (λ place. pure (typed (Pointer place.ty) place.at))
  run_expr frame (NullPointer ty) = pure (typed (Pointer ty) Null)
  run_expr frame (SomeFunction m x params result) = function_value params result (function_number frame.modules m x)
  run_expr frame (Transmute from to e) = seq (run_expr frame e) (λ value. or_fails (transmuted to value))
  run_expr frame (Neg e) = seq (run_expr frame e) (λ value. or_fails (neg_of value))
  run_expr frame (Not e) = seq (run_expr frame e) (λ value. or_fails (not_of value))
  run_expr frame (Cast e ty) = seq (run_expr frame e) (λ value. or_fails (cast_of ty value))
  run_expr frame (Binary l op r) =
      seq (run_expr frame l) (λ left. seq (run_expr frame r) (λ right.
      looks (λ held. binary_of held.blocks op left right)))
  run_expr frame (And l r) =
      seq (run_expr frame l) (λ left. seq (tests left) (λ test. either test (run_expr frame r) (pure (truth false))))
  run_expr frame (Or l r) =
      seq (run_expr frame l) (λ left. seq (tests left) (λ test. either test (pure (truth true)) (run_expr frame r)))
  run_expr frame (Choose condition if_true if_false) =
      seq (run_expr frame condition) (λ value. seq (tests value) (λ test. either test (run_expr frame if_true) (run_expr frame if_false)))

  pub run_exprs : Frame → Exprs → Run (List Typed)
  run_exprs frame no_exprs = pure []
  run_exprs frame (more_exprs e es) = seq (run_expr frame e) (λ value. seq (run_exprs frame es) (λ values. pure (value ∷ values)))

-- a call by a function pointer
abbrev pub run_call_by : Frame → Expr → Exprs → Run (Option Typed)
run_call_by frame e args =
    seq (run_expr frame e) (λ pointer. seq (unwrapped frame.modules pointer) (λ pointed.
    seq (run_exprs frame args) (λ values. call_pointed frame.bodies pointed.params pointed.result values pointed.fun)))

-- ---- statements

-- what a statement does with the flow of control
pub data Flow : Type 0 where
  -- it goes on behind the statement
  normal : Flow
  -- the block or loop of this label is left
  breaks : (label : List ℕ) → Flow
  -- the next turn of the loop of this label begins
  continues : (label : List ℕ) → Flow
  -- the function gives back a value, if any
  returned : Option Typed → Flow

abbrev pub goes_on : {A : Type 0} → A → Run Flow
goes_on value = pure normal

-- a call whose result, if there is one, is dropped; another expression is no statement, and its value is dropped too
abbrev pub run_dropped : Frame → Expr → Run Flow
run_dropped frame (CallTree m x args) =
    seq (run_exprs frame args) (λ values. seq (call_at frame.modules frame.bodies m x values) goes_on)
run_dropped frame (CallBy e args) = seq (run_call_by frame e args) goes_on
run_dropped frame e = seq (run_expr frame e) goes_on

abbrev pub is_label : List ℕ → Option (List ℕ) → Bool
is_label label None = false
is_label label (Some name) = bytes_eq name label

-- what comes behind a block of a label
abbrev pub after_block : List ℕ → Flow → Run Flow
after_block name normal = pure normal
after_block name (breaks label) = either (bytes_eq name label) (pure normal) (pure (breaks label))
after_block name (continues label) = pure (continues label)
after_block name (returned value) = pure (returned value)

-- whether a turn of a loop of a label is followed by another
abbrev pub after_turn : Option (List ℕ) → Flow → Run (Round (Unit {0}) Flow)
after_turn name normal = pure (again tt)
after_turn name (breaks label) = either (is_label label name) (pure (done normal)) (pure (done (breaks label)))
after_turn name (continues label) = either (is_label label name) (pure (again tt)) (pure (done (continues label)))
after_turn name (returned value) = pure (done (returned value))

-- the rest of a list, where control goes on behind a statement
abbrev pub then_on : Run Flow → Flow → Run Flow
then_on rest normal = rest
then_on rest (breaks label) = pure (breaks label)
then_on rest (continues label) = pure (continues label)
then_on rest (returned value) = pure (returned value)

abbrev pub is_number : ℤ → Value → Bool
is_number number (Whole value) = int_eq value number
is_number number _ = false

-- the value of an arm is that of the `match`
abbrev pub is_arm : ℤ → Typed → Bool
is_arm number operand = is_number number operand.value

abbrev mutual
  -- in `p = e;` the value goes first, then the place
  pub run_stmt : Frame → Stmt → Run Flow
  run_stmt frame (Assign p e) =
      seq (run_expr frame e) (λ stored. seq (run_place frame p) (λ place. seq (store place stored.value) goes_on))
  run_stmt frame (Eval e) = run_dropped frame e
  run_stmt frame (CopyBytes source target count) =
      seq (run_expr frame source) (λ from. seq (run_expr frame target) (λ to. seq (run_expr frame count) (λ bytes.
      seq (copies from to bytes) goes_on)))
  run_stmt frame (If condition if_true if_false) =
      seq (run_expr frame condition) (λ value. seq (tests value) (λ test.
      either test (run_stmts frame if_true) (run_stmts frame if_false)))
  run_stmt frame (Loop label body) = rounds (λ _. seq (run_stmts frame body) (after_turn label)) tt
  run_stmt frame (Block label body) = seq (run_stmts frame body) (after_block label)
  run_stmt frame (Break label) = pure (breaks label)
  run_stmt frame (Continue label) = pure (continues label)
  run_stmt frame (Match e cases other) = seq (run_expr frame e) (λ value. run_arms frame value cases (run_stmts frame other))
  run_stmt frame (Return None) = pure (returned None)
  run_stmt frame (Return (Some e)) = seq (run_expr frame e) (λ value. pure (returned (Some value)))

  pub run_stmts : Frame → Stmts → Run Flow
  run_stmts frame no_stmts = pure normal
  run_stmts frame (more_stmts s ss) = seq (run_stmt frame s) (then_on (run_stmts frame ss))

  -- the first arm whose literal is the value, or the other statements
  pub run_arms : Frame → Typed → Arms → Run Flow → Run Flow
  run_arms frame value no_arms other = other
  run_arms frame value (more_arms (LiteralArm number ty body) others) other =
      either (is_arm number value) (run_stmts frame body) (run_arms frame value others other)

-- ---- functions

-- what a call gives back, as a value of the function's result type
abbrev pub given_by : Option Ty → Flow → Option Typed
given_by (Some ty) (returned (Some value)) = Some (typed ty value.value)
given_by result flow = None

abbrev pub in_frame : List ModuleTree → Bodies → FunctionTree → List LocalBlock → Run (Option Typed)
in_frame modules bodies fun locals =
    seq (run_stmts (record { modules = modules; locals = locals; bodies = bodies }) fun.body) (λ flow.
    seq (end_locals locals) (λ _. pure (given_by fun.result flow)))

-- the body of a called function: its parameters and locals begin at the call and end at its return
abbrev pub run_function : List ModuleTree → Bodies → Bodies
run_function modules bodies fun args =
    seq (begin_params modules fun.params args) (λ params.
    seq (begin_locals modules fun.locals) (λ locals. in_frame modules bodies fun (params ++ locals)))

-- bodies, where calls are nested fewer than so deep; each call takes a unit, so a budget of n units has none deeper than n
abbrev pub bodies_within : List ModuleTree → ℕ → Bodies
bodies_within modules zero = λ fun args world units. out world
bodies_within modules (suc depth) = run_function modules (bodies_within modules depth)

-- ---- the program

-- a call of a function of a module, without arguments
abbrev pub call_in : Bodies → ModuleTree → List ℕ → Run (Option Typed)
call_in bodies unit x = call_found bodies [] (callee_among x unit.items)

-- the initialisers of the modules, in order
abbrev pub run_initialisers : Bodies → List ModuleTree → Run (Unit {0})
run_initialisers bodies [] = pure tt
run_initialisers bodies (unit ∷ others) =
    seq (call_in bodies unit (codes "run_static_initializers")) (λ _. run_initialisers bodies others)

abbrev pub run_entry : Bodies → Option ModuleTree → Run (Option Typed)
run_entry bodies None = fails WrongCall
run_entry bodies (Some unit) = call_in bodies unit (codes "main_0")

abbrev pub exits_with : Value → Run (Unit {0})
exits_with (Whole status) = ends status
exits_with value = fails WrongCall

-- `std::process::exit` of what `main_0` gives, which takes no unit
abbrev pub exits : Option Typed → Run (Unit {0})
exits None = fails WrongCall
exits (Some given) = exits_with given.value

-- the static objects begin, in the crate's order; then `main.rs`: the initialisers of each module, then `main_0` of the entry, which gives
-- the status of the program
abbrev pub run_main : CrateTree → Bodies → Run (Unit {0})
run_main whole bodies =
    seq (begin_statics whole.modules (statics_of whole.modules)) (λ _.
    seq (run_initialisers bodies whole.modules) (λ _.
    seq (run_entry bodies (slice_get whole.modules whole.entry)) exits))

-- how far a run has come: a unit is asked for that isn't there, it has ended with a status, or it goes no further, as it is wrong or on
-- the terms of the outside
pub data RProgress : Type 0 where
  going : RProgress
  ended : (status : ℤ) → RProgress
  stopped : Stop Cause → RProgress

-- what is seen of a run of a crate
pub record RSeen : Type 0 where
  pub events : List Call
  pub progress : RProgress

abbrev pub seen_of : Ran (Stop Cause) World (Unit {0}) → RSeen
seen_of (came value world units) = record { events = events_of world; progress = going }
seen_of (halted status world) = record { events = events_of world; progress = ended status }
seen_of (bad stop world) = record { events = events_of world; progress = stopped stop }
seen_of (out world) = record { events = events_of world; progress = going }

abbrev pub ran : CrateTree → World → ℕ → Ran (Stop Cause) World (Unit {0})
ran whole world units = run_main whole (bodies_within whole.modules (suc units)) world units

-- the run of a crate on some terms, under an outside and a budget of units
abbrev pub rs_run_on : Terms → CrateTree → Outside → ℕ → RSeen
rs_run_on terms whole outside units = seen_of (ran whole (first_world terms outside) units)

-- the run of a crate under an outside and a budget of units
abbrev pub rs_run : CrateTree → Outside → ℕ → RSeen
rs_run = rs_run_on open_ended
