-- What the marks of a lifted expression tell: the meaning of C says that an expression changes nothing else, and what
-- is written for its value is a literal or a temporary.
use Rattle.std.proofs.Common.{ℕ, ◌≤◌, Bool, List, Option, Some, None, ◌∙◌}
use Rattle.cr_base.specs.declared.refusal.Place.{Place as Origin}
use Rattle.cr_runs.proofs.Rules.{known, weaker}
use Rattle.cr_runs.specs.Owes.{Owes}
use Rattle.straight_core.specs.Linked.{IsLinked}
use Rattle.straight_core.specs.Trees.{CTy, CForm, CProgram}
use Rattle.straight_core.specs.Typing.{IsTypedForm}
use Rattle.straight_mean.proofs.Unwritten.{Since, value_kept}
use Rattle.straight_mean.specs.Leftmost.{c_form}
use Rattle.straight_mean.specs.Marks.{Range}
use Rattle.straight_mean.specs.Operands.{CValue, scalar, designates, missing, COperand, Frame as CFrame, CWorld}
use Rattle.straight_lift.specs.Agrees.{WorldsAgree, HasTemporaries, FramesAgree, FormCallsOnly, Holds, Gives, Meets, IsLater, IsLifted, at_temporary}
use Rattle.straight_lift.specs.declared.atom.Atom.TheVariants.{Fixed, Temporary}
use Rattle.straight_lift.specs.declared.atom.Atom.{Atom}
use Rattle.straight_lift.specs.Lifted.{Names, lift_form}
use Rattle.straight_lift.specs.StandsFor.{Images}
use Rattle.straight_lift.proofs.Induction.{lifts}
use Rattle.straight_lift.proofs.Pieces.{events_of, run_list}
use Rattle.straight_lift.proofs.Silent.{events_in}
use Rattle.straight_lift.proofs.Storing.{value_stays}
use Rattle.mem_bytes.specs.declared.value.Value.{Value}
use Rattle.straight_rust_mean.specs.Run.{Frame, Flow}
use Rattle.straight_rust_mean.specs.World.{World}

module _ (images : Images) (frame : Frame) (next : ℕ) (reads : List Range) (c_world : CWorld) (world : World) (c_later : CWorld) (later : World)
    (is_later : IsLater images frame next reads c_world world c_later later) where
  held_later : (atom : Option Atom) (value : Value) → Holds frame next world atom value → Holds frame next later atom value
  held_later None value holds = holds
  held_later (Some (Fixed n)) value holds = holds
  held_later (Some (Temporary number)) value holds =
      (holds.0, value_stays world.memory later.memory (at_temporary frame number) (is_later.temporaries number holds.0) ∙ holds.1)

  given_later : (atom : Option Atom) (value : CValue) → Gives frame next world atom value → Gives frame next later atom value
  given_later atom (scalar value) gives = held_later atom value gives
  given_later atom (designates at) gives = gives
  given_later atom missing gives = gives

module _ (program : CProgram) (linked : IsLinked program) (names : Names) (images : Images) (c_frame : CFrame) (frame : Frame) (limit : ℕ) (declared : ℕ → Bool)
    (agree : FramesAgree program names images c_frame frame limit declared) where
  marked : (from next : ℕ) (atom : Option Atom) (type : CTy) (c_before : CWorld) (before : World) (operand : COperand) (c_world : CWorld) (flow : Flow) (world : World) →
      Meets images frame limit from next atom type before operand c_world flow world × Since c_before.memory operand c_world →
      IsLifted images frame limit from next atom type c_before before operand c_world flow world
  marked from next atom type c_before before operand c_world flow world (meets, kept) = record {
    meets = meets;
    unwritten = kept;
    lasts = λ c_later later is_later. given_later images frame next operand.marks.reads c_world world c_later later is_later atom operand.value meets.gives;
  }

  pub lifts_marked : (type : CTy) (place : Origin) (form : CForm) (from : ℕ) (c_world : CWorld) (world : World) →
      WorldsAgree images c_world world → HasTemporaries frame limit world → IsTypedForm program type form → FormCallsOnly declared form → (lift_form names type form from).next ≤ limit → (n m : ℕ) →
      Owes events_of events_in (IsLifted images frame limit from (lift_form names type form from).next (lift_form names type form from).value type c_world world) n m
      (c_form program c_frame type place form c_world) (run_list frame (lift_form names type form from).stmts world)
  lifts_marked type place form from c_world world agrees has is only within n m =
      let one = lift_form names type form from in
      weaker events_of events_in
      (λ operand c_after flow after. Meets images frame limit from one.next one.value type world operand c_after flow after × Since c_world.memory operand c_after)
      (IsLifted images frame limit from one.next one.value type c_world world)
      (marked from one.next one.value type c_world world)
      n m (c_form program c_frame type place form c_world) (run_list frame one.stmts world)
      (known events_of events_in (Meets images frame limit from one.next one.value type world) (Since c_world.memory) n m
      (c_form program c_frame type place form c_world) (run_list frame one.stmts world)
      (λ bound. value_kept program c_frame linked agree.in_scope type place form c_world bound is)
      (lifts program linked names images c_frame frame limit declared agree type place form from c_world world agrees has is only within n m))
