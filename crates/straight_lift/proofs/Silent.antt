-- Without a unit statements of a crate show nothing.
use Rattle.std.proofs.Common.{ℕ, ℤ, Bool, true, false, if◌then◌else◌, List, ◌∷◌, Option, Some, None, Result, Ok, Err, refl, sym, subst}
use Rattle.cr_runs.specs.Owes.{Rests}
use Rattle.cr_runs.specs.Runs.{Ran, came, halted, bad, out, bind}
use Rattle.ext_calls.specs.Outside.{Events}
use Rattle.mem_bytes.specs.Access.{value_at, after_put}
use Rattle.mem_bytes.specs.Memory.{Blocks}
use Rattle.mem_bytes.specs.declared.fault.Fault.{Fault}
use Rattle.mem_bytes.specs.declared.value.Value.{Value}
use Rattle.mem_bytes.specs.declared.value.Value.TheVariants.{Whole}
use Rattle.straight_rust_mean.specs.declared.cause.Cause.{Cause}
use Rattle.straight_rust_mean.specs.declared.cause.Cause.TheVariants.{Overflow, WrongCall}
use Rattle.straight_rust_mean.specs.Functions.{Typed, accepts}
use Rattle.straight_rust_mean.specs.Items.{Callee, callee_at, signature_of, Spot}
use Rattle.straight_rust_mean.specs.Run.{Frame, Bodies, spot_of, start_of, load, with_memory, store, computed, run_neg, run_operator, run_callee, call_found, call_at, the_value, run_expr, run_exprs, run_dropped, run_stmt, run_stmts, then_on, Flow, normal, returned}
use Rattle.straight_rust_mean.specs.Scalars.{scalar_of, in_range}
use Rattle.straight_rust_mean.specs.World.{World, Run, pure, fails, seq, takes_unit, or_fault}
use Rattle.straight_rust_tree.specs.Tree.{Ty, Expr, Exprs, literal, read, call, neg, binary, no_exprs, expr_and, Stmt, Stmts, assign, eval, gives, no_stmts, stmt_and}

-- the events of a world
abbrev pub events_in : World → Events
events_in world = world.events

-- without a unit a piece shows nothing
abbrev pub IsSilent : {A : Type 0} → Run A → Type 0
IsSilent run = (world : World) → Rests events_in world.events (run world 0)

silent_bind : {A B : Type 0} (events : Events) (piece : Ran Cause World A) (next : A → Run B) → Rests events_in events piece → ((value : A) → IsSilent (next value)) →
    Rests events_in events (bind piece next)
silent_bind events (came value world left) next rests all =
    subst (λ (n : ℕ). Rests events_in events (next value world n)) (sym rests.0)
    (subst (λ (seen : Events). Rests events_in seen (next value world 0)) rests.1 (all value world))
silent_bind events (halted status world) next rests all = rests
silent_bind events (bad fault world) next rests all = rests
silent_bind events (out world) next rests all = rests

pub silent_seq : {A B : Type 0} (first : Run A) (next : A → Run B) → IsSilent first → ((value : A) → IsSilent (next value)) → IsSilent (seq first next)
silent_seq first next one all world = silent_bind world.events (first world 0) next (one world) all

silent_pure : {A : Type 0} (value : A) → IsSilent (pure value)
silent_pure value world = (refl, refl)

silent_result : (outcome : Result Value Fault) → IsSilent (or_fault outcome)
silent_result (Ok value) world = (refl, refl)
silent_result (Err fault) world = refl

silent_memory : (outcome : Result Blocks Fault) (world : World) → Rests events_in world.events (with_memory outcome world 0)
silent_memory (Ok memory) world = (refl, refl)
silent_memory (Err fault) world = refl

silent_load : (spot : Option Spot) → IsSilent (load spot)
silent_load None world = refl
silent_load (Some spot) world =
    silent_bind world.events (or_fault (value_at world.memory (start_of spot) (scalar_of spot.ty)) world 0) _
    (silent_result (value_at world.memory (start_of spot) (scalar_of spot.ty)) world) (λ value after. (refl, refl))

silent_store : (spot : Option Spot) (value : Typed) → IsSilent (store spot value)
silent_store None value world = refl
silent_store (Some spot) value world = silent_memory (after_put world.memory (start_of spot) (scalar_of spot.ty) value.value) world

silent_if : {A : Type 0} (test : Bool) (first second : Run A) → IsSilent first → IsSilent second → IsSilent (if test then first else second)
silent_if true first second one other = one
silent_if false first second one other = other

silent_computed : (ty : Ty) (number : Option ℤ) → IsSilent (computed ty number)
silent_computed ty None world = refl
silent_computed ty (Some n) world = silent_if (in_range ty n) (pure (record { ty = ty; value = Whole n })) (fails Overflow) (λ now. (refl, refl)) (λ now. refl) world

silent_call : (bodies : Bodies) (args : List Typed) (found : Option Callee) → IsSilent (call_found bodies args found)
silent_call bodies args None world = refl
silent_call bodies args (Some callee) world =
    silent_if (accepts (signature_of callee).params (signature_of callee).variadic args) (takes_unit (run_callee bodies args callee)) (fails WrongCall)
    (λ now. refl) (λ now. refl) world

silent_value : (given : Option Typed) → IsSilent (the_value given)
silent_value None world = refl
silent_value (Some value) world = (refl, refl)

mutual
  pub silent_expr : (frame : Frame) (e : Expr) → IsSilent (run_expr frame e)
  silent_expr frame (literal value ty) world = (refl, refl)
  silent_expr frame (read place) world = silent_load (spot_of frame place) world
  silent_expr frame (call m x args) world =
      silent_seq (run_exprs frame args) _ (silent_exprs frame args)
      (λ values. silent_seq (call_at frame.whole frame.bodies m x values) the_value (silent_call frame.bodies values (callee_at frame.whole m x)) silent_value) world
  silent_expr frame (neg operand) world =
      silent_seq (run_expr frame operand) run_neg (silent_expr frame operand) (λ one. silent_computed one.ty _) world
  silent_expr frame (binary operator l r) world =
      silent_seq (run_expr frame l) _ (silent_expr frame l)
      (λ one. silent_seq (run_expr frame r) (λ other. run_operator operator one other) (silent_expr frame r) (λ other. silent_computed one.ty _)) world

  pub silent_exprs : (frame : Frame) (es : Exprs) → IsSilent (run_exprs frame es)
  silent_exprs frame no_exprs world = (refl, refl)
  silent_exprs frame (expr_and e es) world =
      silent_seq (run_expr frame e) _ (silent_expr frame e)
      (λ value. silent_seq (run_exprs frame es) (λ values. pure (value ∷ values)) (silent_exprs frame es) (λ values. silent_pure (value ∷ values))) world

silent_dropped : (frame : Frame) (e : Expr) → IsSilent (run_dropped frame e)
silent_dropped frame (call m x args) =
    silent_seq (run_exprs frame args) _ (silent_exprs frame args)
    (λ values. silent_seq (call_at frame.whole frame.bodies m x values) (λ _. pure normal) (silent_call frame.bodies values (callee_at frame.whole m x)) (λ _. silent_pure normal))
silent_dropped frame (literal value ty) = silent_seq (run_expr frame (literal value ty)) (λ _. pure normal) (silent_expr frame (literal value ty)) (λ _. silent_pure normal)
silent_dropped frame (read place) = silent_seq (run_expr frame (read place)) (λ _. pure normal) (silent_expr frame (read place)) (λ _. silent_pure normal)
silent_dropped frame (neg operand) = silent_seq (run_expr frame (neg operand)) (λ _. pure normal) (silent_expr frame (neg operand)) (λ _. silent_pure normal)
silent_dropped frame (binary operator l r) = silent_seq (run_expr frame (binary operator l r)) (λ _. pure normal) (silent_expr frame (binary operator l r)) (λ _. silent_pure normal)

pub silent_stmt : (frame : Frame) (s : Stmt) → IsSilent (run_stmt frame s)
silent_stmt frame (assign place value) =
    silent_seq (run_expr frame value) _ (silent_expr frame value)
    (λ stored. silent_seq (store (spot_of frame place) stored) (λ _. pure normal) (silent_store (spot_of frame place) stored) (λ _. silent_pure normal))
silent_stmt frame (eval value) = silent_dropped frame value
silent_stmt frame (gives None) = silent_pure (returned None)
silent_stmt frame (gives (Some value)) =
    silent_seq (run_expr frame value) (λ given. pure (returned (Some given))) (silent_expr frame value) (λ given. silent_pure (returned (Some given)))

pub silent_then : (rest : Run Flow) → IsSilent rest → (flow : Flow) → IsSilent (then_on rest flow)
silent_then rest all normal = all
silent_then rest all (returned value) = silent_pure (returned value)

pub silent_stmts : (frame : Frame) (ss : Stmts) → IsSilent (run_stmts frame ss)
silent_stmts frame no_stmts world = (refl, refl)
silent_stmts frame (stmt_and s ss) world =
    silent_seq (run_stmt frame s) (then_on (run_stmts frame ss)) (silent_stmt frame s) (silent_then (run_stmts frame ss) (silent_stmts frame ss)) world
