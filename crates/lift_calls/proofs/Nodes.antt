-- Where a call is reached: a step of C and a unit of the crate, and then both bodies.
use Rattle.std.proofs.Common.{◌≡◌, ℕ, zero, suc, pred, true, List, map, Option, Some, refl, sym, ap, arith}
use Rattle.cr_runs.specs.Owes.{Owes}
use Rattle.cr_runs.specs.Runs.{tick}
use Rattle.cr_runs.proofs.Rules.{renamed}
use Rattle.cr_runs_rules.proofs.Rules.{ticks_by}
use Rattle.cr_world.specs.World.{World, events_of}
use Rattle.cx_core.specs.Trees.{CFun}
use Rattle.cx_mean.specs.Operands.{CValue}
use Rattle.lift_stands.specs.Stands.{Images}
use Rattle.lift_stands_values.specs.Given.{align_or}
use Rattle.lift_calls.specs.Calls.{result_laid, CallMeets, CallStands, CallsOwe, Promise}
use Rattle.lift_calls.specs.Programs.{Setting, c_calls, crate_bodies}
use Rattle.mem_bytes.specs.declared.value.Ptr.{Ptr}
use Rattle.rs_mean.specs.Calls.{accepts}
use Rattle.rs_mean.specs.Lookups.{own, own_signature}
use Rattle.rs_mean.specs.Run.{run_callee, call_found}
use Rattle.rs_mean.specs.Values.{Typed}
use Rattle.rs_mean.specs.World.{takes_unit, either, fails}
use Rattle.rs_mean.specs.declared.cause.Cause.TheVariants.{WrongCall}
use Rattle.rs_text.specs.Tree.{FunctionTree}

-- what is owed behind a step and a unit
owed_behind : (s : Setting) (units steps : ℕ) → Promise s units steps → CallsOwe s (pred units) (pred steps)
owed_behind s zero zero promise = λ images place one tree args given c_world world stands. record { safe = λ n p. absurd (omega (arith, p)); reaches = λ m p. absurd (omega (arith, p)) }
owed_behind s zero (suc steps) promise = promise zero steps (omega arith) (omega arith) (omega arith)
owed_behind s (suc units) zero promise = promise units zero (omega arith) (omega arith) (omega arith)
owed_behind s (suc units) (suc steps) promise = promise units steps (omega arith) (omega arith) (omega arith)

module _ (s : Setting) (units steps : ℕ) (images : Images) (place : Option Ptr) (one : CFun) (tree : FunctionTree) (args : List CValue) (given : List Typed) (c_world world : World) where
  call_found_runs : accepts (own_signature tree).params (own_signature tree).variadic given ≡ true → (k : ℕ) → tick world (crate_bodies s tree given world) k ≡ call_found (crate_bodies s) given (Some (own tree)) world k
  unfolding takes_unit
  call_found_runs fits k = ap (λ b. either b (takes_unit (run_callee (crate_bodies s) given (own tree))) (fails WrongCall) world k) (sym fits)

  pub call_node_owes : Promise s units steps → CallStands s images place one tree args given c_world world → accepts (own_signature tree).params (own_signature tree).variadic given ≡ true →
      Owes events_of events_of (CallMeets images place (align_or (result_laid s one)) tree.result c_world world) units steps (tick c_world (c_calls s one args c_world)) (call_found (crate_bodies s) given (Some (own tree)) world)
  call_node_owes promise stands fits =
      renamed events_of events_of (CallMeets images place (align_or (result_laid s one)) tree.result c_world world) units steps (tick c_world (c_calls s one args c_world)) (tick c_world (c_calls s one args c_world)) (tick world (crate_bodies s tree given world)) (call_found (crate_bodies s) given (Some (own tree)) world)
      (λ k. refl) (call_found_runs fits)
      (ticks_by events_of events_of (CallMeets images place (align_or (result_laid s one)) tree.result c_world world) units steps c_world world (c_calls s one args c_world) (crate_bodies s tree given world)
      (ap (map (λ made. made.call)) (sym stands.worlds.made))
      (owed_behind s units steps promise images place one tree args given c_world world stands))
