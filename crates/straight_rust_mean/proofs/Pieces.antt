-- The pieces of a body under a greater budget.
use Rattle.std.proofs.Common.{ℕ, zero, suc, ◌+◌, ℤ, List, [], ◌∷◌, length, Option, Some, None, Result, Ok, Err, refl, suc-add}
use Rattle.mem_bytes.specs.declared.fault.Fault.{Fault}
use Rattle.mem_bytes.specs.declared.value.Value.{Value}
use Rattle.mem_bytes.specs.declared.value.Value.TheVariants.{Whole}
use Rattle.mem_bytes.specs.Access.{value_at, after_put}
use Rattle.mem_bytes.specs.Memory.{Blocks}
use Rattle.straight_rust_mean.specs.declared.cause.Cause.TheVariants.{Overflow, WrongCall}
use Rattle.straight_rust_mean.specs.Functions.{Typed, entered, accepts, outer_call}
use Rattle.straight_rust_mean.specs.Items.{Callee, outer, own, callee_in, callee_at, signature_of, Spot}
use Rattle.straight_rust_mean.specs.Run.{Bodies, Frame, spot_of, start_of, load, with_memory, store, computed, run_neg, run_operator, run_callee, call_found, call_at, call_in, the_value, run_expr, run_exprs, Flow, normal, returned, run_dropped, run_stmt, then_on, run_stmts, frame_of, leave, run_function, bodies_within}
use Rattle.straight_rust_mean.specs.Scalars.{scalar_of, in_range}
use Rattle.straight_rust_mean.specs.World.{Run, pure, fails, seq, takes_unit, or_fault}
use Rattle.straight_rust_tree.specs.Tree.{Ty, Expr, Exprs, literal, read, call, neg, binary, no_exprs, expr_and, Stmt, Stmts, assign, eval, gives, no_stmts, stmt_and, FunctionTree, ModuleTree, CrateTree}
use Rattle.straight_rust_mean.proofs.Budget.{front_of_itself, Adds, adds_nothing, adds_seq, adds_unit, adds_or_fault, adds_if, Extends, extends_seq, extends_unit, extends_or_fault, extends_if}

-- ---- bodies

-- called bodies only add events
abbrev pub BodiesAdd : Bodies → Type 0
BodiesAdd bodies = (fun : FunctionTree) (args : List Typed) → Adds (bodies fun args)

-- called bodies do under a greater budget what others do under the smaller one
abbrev pub BodiesExtend : Bodies → Bodies → Type 0
BodiesExtend bodies later = (fun : FunctionTree) (args : List Typed) → Extends (bodies fun args) (later fun args)

-- a frame with other bodies
abbrev pub with_bodies : Frame → Bodies → Frame
with_bodies frame bodies = record frame { bodies = bodies }

-- ---- loads, stores and operators

abbrev typed : Ty → Value → Typed
typed ty value = record { ty = ty; value = value }

adds_load : (spot : Option Spot) → Adds (load spot)
adds_load None = adds_nothing
adds_load (Some spot) = λ world units.
    adds_seq (or_fault (value_at world.memory (start_of spot) (scalar_of spot.ty))) (λ value. pure (typed spot.ty value))
    (adds_or_fault (value_at world.memory (start_of spot) (scalar_of spot.ty)))
    (λ value. adds_nothing) world units

extends_load : (spot : Option Spot) → Extends (load spot) (load spot)
extends_load None = (λ world units more. refl)
extends_load (Some spot) = λ world units more.
    extends_seq (or_fault (value_at world.memory (start_of spot) (scalar_of spot.ty))) (or_fault (value_at world.memory (start_of spot) (scalar_of spot.ty)))
    (λ value. pure (typed spot.ty value)) (λ value. pure (typed spot.ty value))
    (extends_or_fault (value_at world.memory (start_of spot) (scalar_of spot.ty)))
    (λ value. (λ world units more. refl))
    (λ value. adds_nothing) world units more

adds_with_memory : (found : Result Blocks Fault) → Adds (with_memory found)
adds_with_memory (Ok memory) world units = front_of_itself world.events
adds_with_memory (Err why) world units = front_of_itself world.events

extends_with_memory : (found : Result Blocks Fault) → Extends (with_memory found) (with_memory found)
extends_with_memory (Ok memory) world units more = refl
extends_with_memory (Err why) world units more = refl

adds_store : (spot : Option Spot) (value : Typed) → Adds (store spot value)
adds_store None value = adds_nothing
adds_store (Some spot) value = λ world units.
    adds_with_memory (after_put world.memory (start_of spot) (scalar_of spot.ty) value.value) world units

extends_store : (spot : Option Spot) (value : Typed) → Extends (store spot value) (store spot value)
extends_store None value = (λ world units more. refl)
extends_store (Some spot) value = λ world units more.
    extends_with_memory (after_put world.memory (start_of spot) (scalar_of spot.ty) value.value) world units more

adds_computed : (ty : Ty) (number : Option ℤ) → Adds (computed ty number)
adds_computed ty None = adds_nothing
adds_computed ty (Some n) =
    adds_if (in_range ty n) (pure (typed ty (Whole n))) (fails {A = Typed} Overflow) (adds_nothing) (adds_nothing)

extends_computed : (ty : Ty) (number : Option ℤ) → Extends (computed ty number) (computed ty number)
extends_computed ty None = (λ world units more. refl)
extends_computed ty (Some n) =
    extends_if (in_range ty n) (pure (typed ty (Whole n))) (fails {A = Typed} Overflow) (pure (typed ty (Whole n))) (fails {A = Typed} Overflow) ((λ world units more. refl)) ((λ world units more. refl))

-- ---- calls

adds_outer : (fun : _) (args : List Typed) → Adds (outer_call fun args)
adds_outer fun args world units = (_, refl)

adds_callee : (bodies : Bodies) → BodiesAdd bodies → (args : List Typed) (callee : Callee) → Adds (run_callee bodies args callee)
adds_callee bodies adds args (own fun) = adds fun args
adds_callee bodies adds args (outer fun) = adds_outer fun args

extends_callee : (bodies later : Bodies) → BodiesExtend bodies later → (args : List Typed) (callee : Callee) →
    Extends (run_callee bodies args callee) (run_callee later args callee)
extends_callee bodies later extends args (own fun) = extends fun args
extends_callee bodies later extends args (outer fun) = λ world units more. refl

adds_found : (bodies : Bodies) → BodiesAdd bodies → (args : List Typed) (callee : Option Callee) → Adds (call_found bodies args callee)
adds_found bodies adds args None = adds_nothing
adds_found bodies adds args (Some callee) =
    adds_if (accepts (signature_of callee).params (signature_of callee).variadic args) (takes_unit (run_callee bodies args callee)) (fails {A = Option Typed} WrongCall)
    (adds_unit (run_callee bodies args callee) (adds_callee bodies adds args callee)) (adds_nothing)

extends_found : (bodies later : Bodies) → BodiesExtend bodies later → BodiesAdd later → (args : List Typed) (callee : Option Callee) →
    Extends (call_found bodies args callee) (call_found later args callee)
extends_found bodies later extends adds args None = (λ world units more. refl)
extends_found bodies later extends adds args (Some callee) =
    extends_if (accepts (signature_of callee).params (signature_of callee).variadic args)
    (takes_unit (run_callee bodies args callee)) (fails {A = Option Typed} WrongCall) (takes_unit (run_callee later args callee)) (fails {A = Option Typed} WrongCall)
    (extends_unit (run_callee bodies args callee) (run_callee later args callee) (extends_callee bodies later extends args callee) (adds_callee later adds args callee))
    ((λ world units more. refl))

pub adds_call : (whole : CrateTree) (bodies : Bodies) → BodiesAdd bodies → (m x : List ℕ) (args : List Typed) → Adds (call_at whole bodies m x args)
adds_call whole bodies adds m x args = adds_found bodies adds args (callee_at whole m x)

pub extends_call : (whole : CrateTree) (bodies later : Bodies) → BodiesExtend bodies later → BodiesAdd later → (m x : List ℕ) (args : List Typed) →
    Extends (call_at whole bodies m x args) (call_at whole later m x args)
extends_call whole bodies later extends adds m x args = extends_found bodies later extends adds args (callee_at whole m x)

pub adds_in : (bodies : Bodies) → BodiesAdd bodies → (unit : ModuleTree) (x : List ℕ) → Adds (call_in bodies unit x)
adds_in bodies adds unit x = adds_found bodies adds [] (callee_in x (Some unit))

pub extends_in : (bodies later : Bodies) → BodiesExtend bodies later → BodiesAdd later → (unit : ModuleTree) (x : List ℕ) →
    Extends (call_in bodies unit x) (call_in later unit x)
extends_in bodies later extends adds unit x = extends_found bodies later extends adds [] (callee_in x (Some unit))

adds_value : (given : Option Typed) → Adds (the_value given)
adds_value None = adds_nothing
adds_value (Some value) = adds_nothing

extends_value : (given : Option Typed) → Extends (the_value given) (the_value given)
extends_value None = (λ world units more. refl)
extends_value (Some value) = (λ world units more. refl)

-- ---- expressions

mutual
  adds_expr : (frame : Frame) → BodiesAdd frame.bodies → (e : Expr) → Adds (run_expr frame e)
  adds_expr frame adds (literal value ty) = adds_nothing
  adds_expr frame adds (read place) = adds_load (spot_of frame place)
  adds_expr frame adds (call m x args) =
      adds_seq (run_exprs frame args) (λ values. seq (call_at frame.whole frame.bodies m x values) the_value)
      (adds_exprs frame adds args)
      (λ values. adds_seq (call_at frame.whole frame.bodies m x values) the_value (adds_call frame.whole frame.bodies adds m x values) adds_value)
  adds_expr frame adds (neg operand) =
      adds_seq (run_expr frame operand) run_neg (adds_expr frame adds operand)
      (λ value. adds_computed value.ty _)
  adds_expr frame adds (binary operator l r) =
      adds_seq (run_expr frame l) (λ left_value. seq (run_expr frame r) (λ right_value. run_operator operator left_value right_value))
      (adds_expr frame adds l)
      (λ left_value. adds_seq (run_expr frame r) (λ right_value. run_operator operator left_value right_value)
      (adds_expr frame adds r) (λ right_value. adds_computed left_value.ty _))

  adds_exprs : (frame : Frame) → BodiesAdd frame.bodies → (es : Exprs) → Adds (run_exprs frame es)
  adds_exprs frame adds no_exprs = adds_nothing
  adds_exprs frame adds (expr_and e es) =
      adds_seq (run_expr frame e) (λ value. seq (run_exprs frame es) (λ values. pure (value ∷ values)))
      (adds_expr frame adds e)
      (λ value. adds_seq (run_exprs frame es) (λ values. pure (value ∷ values)) (adds_exprs frame adds es) (λ values. adds_nothing))

mutual
  extends_expr : (frame : Frame) (later : Bodies) → BodiesExtend frame.bodies later → BodiesAdd later → (e : Expr) →
      Extends (run_expr frame e) (run_expr (with_bodies frame later) e)
  extends_expr frame later extends adds (literal value ty) = (λ world units more. refl)
  extends_expr frame later extends adds (read place) = extends_load (spot_of frame place)
  extends_expr frame later extends adds (call m x args) =
      extends_seq (run_exprs frame args) (run_exprs (with_bodies frame later) args)
      (λ values. seq (call_at frame.whole frame.bodies m x values) the_value) (λ values. seq (call_at frame.whole later m x values) the_value)
      (extends_exprs frame later extends adds args)
      (λ values. extends_seq (call_at frame.whole frame.bodies m x values) (call_at frame.whole later m x values) the_value the_value
      (extends_call frame.whole frame.bodies later extends adds m x values) extends_value adds_value)
      (λ values. adds_seq (call_at frame.whole later m x values) the_value (adds_call frame.whole later adds m x values) adds_value)
  extends_expr frame later extends adds (neg operand) =
      extends_seq (run_expr frame operand) (run_expr (with_bodies frame later) operand) run_neg run_neg
      (extends_expr frame later extends adds operand)
      (λ value. extends_computed value.ty _) (λ value. adds_computed value.ty _)
  extends_expr frame later extends adds (binary operator l r) =
      extends_seq (run_expr frame l) (run_expr (with_bodies frame later) l)
      (λ left_value. seq (run_expr frame r) (λ right_value. run_operator operator left_value right_value))
      (λ left_value. seq (run_expr (with_bodies frame later) r) (λ right_value. run_operator operator left_value right_value))
      (extends_expr frame later extends adds l)
      (λ left_value. extends_seq (run_expr frame r) (run_expr (with_bodies frame later) r)
      (λ right_value. run_operator operator left_value right_value) (λ right_value. run_operator operator left_value right_value)
      (extends_expr frame later extends adds r)
      (λ right_value. extends_computed left_value.ty _) (λ right_value. adds_computed left_value.ty _))
      (λ left_value. adds_seq (run_expr (with_bodies frame later) r) (λ right_value. run_operator operator left_value right_value)
      (adds_expr (with_bodies frame later) adds r) (λ right_value. adds_computed left_value.ty _))

  extends_exprs : (frame : Frame) (later : Bodies) → BodiesExtend frame.bodies later → BodiesAdd later → (es : Exprs) →
      Extends (run_exprs frame es) (run_exprs (with_bodies frame later) es)
  extends_exprs frame later extends adds no_exprs = (λ world units more. refl)
  extends_exprs frame later extends adds (expr_and e es) =
      extends_seq (run_expr frame e) (run_expr (with_bodies frame later) e)
      (λ value. seq (run_exprs frame es) (λ values. pure (value ∷ values)))
      (λ value. seq (run_exprs (with_bodies frame later) es) (λ values. pure (value ∷ values)))
      (extends_expr frame later extends adds e)
      (λ value. extends_seq (run_exprs frame es) (run_exprs (with_bodies frame later) es) (λ values. pure (value ∷ values)) (λ values. pure (value ∷ values))
      (extends_exprs frame later extends adds es) (λ values. (λ world units more. refl)) (λ values. adds_nothing))
      (λ value. adds_seq (run_exprs (with_bodies frame later) es) (λ values. pure (value ∷ values))
      (adds_exprs (with_bodies frame later) adds es) (λ values. adds_nothing))

-- ---- statements

-- a piece whose result is dropped
adds_then_normal : {A : Type 0} (run : Run A) → Adds run → Adds (seq run (λ _. pure normal))
adds_then_normal run adds = adds_seq run (λ _. pure normal) adds (λ _. adds_nothing)

extends_then_normal : {A : Type 0} (run later : Run A) → Extends run later → Extends (seq run (λ _. pure normal)) (seq later (λ _. pure normal))
extends_then_normal run later extends =
    extends_seq run later (λ _. pure normal) (λ _. pure normal) extends (λ _. (λ world units more. refl)) (λ _. adds_nothing)

adds_dropped : (frame : Frame) → BodiesAdd frame.bodies → (e : Expr) → Adds (run_dropped frame e)
adds_dropped frame adds (literal value ty) = adds_then_normal (run_expr frame (literal value ty)) (adds_expr frame adds (literal value ty))
adds_dropped frame adds (read place) = adds_then_normal (run_expr frame (read place)) (adds_expr frame adds (read place))
adds_dropped frame adds (call m x args) =
    adds_seq (run_exprs frame args) (λ values. seq (call_at frame.whole frame.bodies m x values) (λ _. pure normal)) (adds_exprs frame adds args)
    (λ values. adds_then_normal (call_at frame.whole frame.bodies m x values) (adds_call frame.whole frame.bodies adds m x values))
adds_dropped frame adds (neg operand) = adds_then_normal (run_expr frame (neg operand)) (adds_expr frame adds (neg operand))
adds_dropped frame adds (binary operator l r) = adds_then_normal (run_expr frame (binary operator l r)) (adds_expr frame adds (binary operator l r))

extends_dropped : (frame : Frame) (later : Bodies) → BodiesExtend frame.bodies later → BodiesAdd later → (e : Expr) →
    Extends (run_dropped frame e) (run_dropped (with_bodies frame later) e)
extends_dropped frame later extends adds (literal value ty) =
    extends_then_normal (run_expr frame (literal value ty)) (run_expr (with_bodies frame later) (literal value ty)) (extends_expr frame later extends adds (literal value ty))
extends_dropped frame later extends adds (read place) =
    extends_then_normal (run_expr frame (read place)) (run_expr (with_bodies frame later) (read place)) (extends_expr frame later extends adds (read place))
extends_dropped frame later extends adds (call m x args) =
    extends_seq (run_exprs frame args) (run_exprs (with_bodies frame later) args)
    (λ values. seq (call_at frame.whole frame.bodies m x values) (λ _. pure normal)) (λ values. seq (call_at frame.whole later m x values) (λ _. pure normal))
    (extends_exprs frame later extends adds args)
    (λ values. extends_then_normal (call_at frame.whole frame.bodies m x values) (call_at frame.whole later m x values) (extends_call frame.whole frame.bodies later extends adds m x values))
    (λ values. adds_then_normal (call_at frame.whole later m x values) (adds_call frame.whole later adds m x values))
extends_dropped frame later extends adds (neg operand) =
    extends_then_normal (run_expr frame (neg operand)) (run_expr (with_bodies frame later) (neg operand)) (extends_expr frame later extends adds (neg operand))
extends_dropped frame later extends adds (binary operator l r) =
    extends_then_normal (run_expr frame (binary operator l r)) (run_expr (with_bodies frame later) (binary operator l r)) (extends_expr frame later extends adds (binary operator l r))

adds_stmt : (frame : Frame) → BodiesAdd frame.bodies → (s : Stmt) → Adds (run_stmt frame s)
adds_stmt frame adds (assign place value) =
    adds_seq (run_expr frame value) (λ stored. seq (store (spot_of frame place) stored) (λ _. pure normal)) (adds_expr frame adds value)
    (λ stored. adds_then_normal (store (spot_of frame place) stored) (adds_store (spot_of frame place) stored))
adds_stmt frame adds (eval value) = adds_dropped frame adds value
adds_stmt frame adds (gives None) = adds_nothing
adds_stmt frame adds (gives (Some value)) =
    adds_seq (run_expr frame value) (λ given. pure (returned (Some given))) (adds_expr frame adds value) (λ given. adds_nothing)

extends_stmt : (frame : Frame) (later : Bodies) → BodiesExtend frame.bodies later → BodiesAdd later → (s : Stmt) →
    Extends (run_stmt frame s) (run_stmt (with_bodies frame later) s)
extends_stmt frame later extends adds (assign place value) =
    extends_seq (run_expr frame value) (run_expr (with_bodies frame later) value)
    (λ stored. seq (store (spot_of frame place) stored) (λ _. pure normal)) (λ stored. seq (store (spot_of frame place) stored) (λ _. pure normal))
    (extends_expr frame later extends adds value)
    (λ stored. extends_then_normal (store (spot_of frame place) stored) (store (spot_of frame place) stored) (extends_store (spot_of frame place) stored))
    (λ stored. adds_then_normal (store (spot_of frame place) stored) (adds_store (spot_of frame place) stored))
extends_stmt frame later extends adds (eval value) = extends_dropped frame later extends adds value
extends_stmt frame later extends adds (gives None) = (λ world units more. refl)
extends_stmt frame later extends adds (gives (Some value)) =
    extends_seq (run_expr frame value) (run_expr (with_bodies frame later) value) (λ given. pure (returned (Some given))) (λ given. pure (returned (Some given)))
    (extends_expr frame later extends adds value) (λ given. (λ world units more. refl)) (λ given. adds_nothing)

adds_then_on : (rest : Run Flow) → Adds rest → (flow : Flow) → Adds (then_on rest flow)
adds_then_on rest adds normal = adds
adds_then_on rest adds (returned value) = adds_nothing

extends_then_on : (rest later : Run Flow) → Extends rest later → (flow : Flow) → Extends (then_on rest flow) (then_on later flow)
extends_then_on rest later extends normal = extends
extends_then_on rest later extends (returned value) = (λ world units more. refl)

adds_stmts : (frame : Frame) → BodiesAdd frame.bodies → (ss : Stmts) → Adds (run_stmts frame ss)
adds_stmts frame adds no_stmts = adds_nothing
adds_stmts frame adds (stmt_and s ss) =
    adds_seq (run_stmt frame s) (then_on (run_stmts frame ss)) (adds_stmt frame adds s) (adds_then_on (run_stmts frame ss) (adds_stmts frame adds ss))

extends_stmts : (frame : Frame) (later : Bodies) → BodiesExtend frame.bodies later → BodiesAdd later → (ss : Stmts) →
    Extends (run_stmts frame ss) (run_stmts (with_bodies frame later) ss)
extends_stmts frame later extends adds no_stmts = (λ world units more. refl)
extends_stmts frame later extends adds (stmt_and s ss) =
    extends_seq (run_stmt frame s) (run_stmt (with_bodies frame later) s)
    (then_on (run_stmts frame ss)) (then_on (run_stmts (with_bodies frame later) ss))
    (extends_stmt frame later extends adds s)
    (extends_then_on (run_stmts frame ss) (run_stmts (with_bodies frame later) ss) (extends_stmts frame later extends adds ss))
    (adds_then_on (run_stmts (with_bodies frame later) ss) (adds_stmts (with_bodies frame later) adds ss))

-- ---- functions

adds_leave : (first : ℕ) (fun : FunctionTree) (flow : Flow) → Adds (leave first fun flow)
adds_leave first fun flow world units = front_of_itself world.events

extends_leave : (first : ℕ) (fun : FunctionTree) (flow : Flow) → Extends (leave first fun flow) (leave first fun flow)
extends_leave first fun flow world units more = refl

adds_function : (whole : CrateTree) (bodies : Bodies) → BodiesAdd bodies → BodiesAdd (run_function whole bodies)
adds_function whole bodies adds fun args world units =
    adds_seq (run_stmts (frame_of whole bodies fun world) fun.body) (leave (length world.memory) fun)
    (adds_stmts (frame_of whole bodies fun world) adds fun.body) (adds_leave (length world.memory) fun) (entered fun args world) units

extends_function : (whole : CrateTree) (bodies later : Bodies) → BodiesExtend bodies later → BodiesAdd later →
    BodiesExtend (run_function whole bodies) (run_function whole later)
extends_function whole bodies later extends adds fun args world units more =
    extends_seq (run_stmts (frame_of whole bodies fun world) fun.body) (run_stmts (frame_of whole later fun world) fun.body)
    (leave (length world.memory) fun) (leave (length world.memory) fun)
    (extends_stmts (frame_of whole bodies fun world) later extends adds fun.body)
    (extends_leave (length world.memory) fun) (adds_leave (length world.memory) fun) (entered fun args world) units more

pub adds_within : (whole : CrateTree) (depth : ℕ) → BodiesAdd (bodies_within whole depth)
adds_within whole zero = λ fun args world units. front_of_itself world.events
adds_within whole (suc depth) = adds_function whole (bodies_within whole depth) (adds_within whole depth)

pub extends_within : (whole : CrateTree) (depth more : ℕ) → BodiesExtend (bodies_within whole depth) (bodies_within whole (depth + more))
extends_within whole zero more = λ fun args world units k. adds_within whole (0 + more) fun args world (units + k)
extends_within whole (suc depth) more =
    rw (suc-add depth more) (extends_function whole (bodies_within whole depth) (bodies_within whole (depth + more))
    (extends_within whole depth more) (adds_within whole (depth + more)))
