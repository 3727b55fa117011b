-- Static objects begin, and the state before the first step is typed (ISO C99, 5.1.2, 6.2.4p3).
use Rattle.std.proofs.Common.{◌≡◌, ◌⊎◌, inl, inr, refl, sym, ap, ◌∙◌, subst, ℕ, zero, suc, ◌<◌, Bool, true, false, List, [], ◌∷◌, ◌++◌, length, Option, Some, None, IfSome, IsSome, All, Result, Ok, Err, arith}
use Rattle.std.proofs.lemmas.List.{append-nil}
use Rattle.std.proofs.lemmas.List.Elements.{All-contains_itself}
use Rattle.std.specs.List.{Contains}
use Rattle.cr_base.specs.declared.layout.Laid.{Laid}
use Rattle.cr_world.specs.Laws.{HeapLives}
use Rattle.cr_world.specs.Held.{nothing_held, with_blocks, fresh_block, next_place, with_block}
use Rattle.cr_world.specs.World.{World, Outside, Terms, blocks_of, with_memory, full, astray, limit_of, object_begun, begun_at}
use Rattle.cx_core.specs.Linked.{IsLinked}
use Rattle.cx_core.specs.Trees.{CObject, CProgram}
use Rattle.cx_core.specs.Typing.{object_with}
use Rattle.cx_mean.specs.Moves.{CMove, static_puts}
use Rattle.cx_mean.specs.Operands.{CStop, Slot, Frame, needed}
use Rattle.cx_mean.specs.Run.{c_start}
use Rattle.cx_mean.specs.Settings.{setting_of, extent_in}
use Rattle.cx_mean.specs.State.{CState, CControl, begins_static, as_stop, slot, no_place, statics_in, static_begins, after_static, beginning_statics, control_of, stopped}
use Rattle.mem_bytes.specs.Access.{and_then}
use Rattle.mem_bytes.specs.Counted.{after_alloc}
use Rattle.mem_bytes.specs.declared.fault.StoreFault.{StoreFault}
use Rattle.mem_bytes.specs.declared.fault.StoreFault.TheVariants.{Full, Memory}
use Rattle.mem_bytes.specs.Memory.{Blocks}
use Rattle.cx_typed_work.specs.Scenes.{IsTypedMemory}
use Rattle.cx_typed_runs.proofs.Begins.{IsMade, grown}
use Rattle.cx_typed_runs.proofs.Owned.{owned_back}
use Rattle.cx_typed_runs.proofs.Scenes.{contains_front, contains_back, objects_append, found_by_number}
use Rattle.cx_typed_runs.proofs.Statics.{IsFirst, static_of, static_is, rest_statics, first_static, statics_next, first_control, first_slots}
use Rattle.cx_typed_runs.specs.Runs.{RunsBeginTyped}
use Rattle.cx_typed_runs.specs.Sites.{objects_of, AreOwned}
use Rattle.cx_typed_runs.specs.States.{AreStatics, IsBegunOr, AreBegun, IsControl, slots_of_control, slots_of_callers, IsTypedState}

-- ---- which static objects live

all_statics : (program : CProgram) → AreStatics program (statics_in program.objects)
all_statics program = All-contains_itself (statics_in program.objects)

one_less : (first one : CObject) (others : List CObject) (statics : Frame) (at : Slot) → at.object ≡ first.object → IsBegunOr (first ∷ others) statics one → IsBegunOr others (statics ++ at ∷ []) one
one_less first one others statics at same (inl begun) =
    inl (subst (λ list. Contains list one.object) (sym (objects_append statics (at ∷ []))) (contains_front (objects_of statics) (objects_of (at ∷ [])) one.object begun))
one_less first one others statics at same (inr (zero, within, e)) =
    inl (subst (λ list. Contains list one.object) (sym (objects_append statics (at ∷ []))) (contains_back (objects_of statics) (objects_of (at ∷ [])) one.object (zero, omega arith, same ∙ ap (λ (o : CObject). o.object) e)))
one_less first one others statics at same (inr (suc k, within, e)) = inr (k, omega (arith, within), e)

begun_less : (program : CProgram) (first : CObject) (others : List CObject) (statics : Frame) (at : Slot) → at.object ≡ first.object → AreBegun program (first ∷ others) statics → AreBegun program others (statics ++ at ∷ [])
begun_less program first others statics at same all = λ k d within. one_less first _ others statics at same (all k d within)

-- ---- what is next

next_control : (program : CProgram) (others : List CObject) (statics : Frame) → IsLinked program → AreStatics program others → AreBegun program others statics → IsControl program statics [] (beginning_statics others (statics_in program.objects))
next_control program [] statics linked all begun =
    let first = statics_next program (statics_in program.objects) linked (all_statics program) in
    first_control program statics first.unit (static_puts (statics_in program.objects)) first.is begun
next_control program (one ∷ others) statics linked all begun = (refl, all, begun)

next_slots : (program : CProgram) (others : List CObject) → IsLinked program → slots_of_control (beginning_statics others (statics_in program.objects)) ≡ []
next_slots program [] linked =
    let first = statics_next program (statics_in program.objects) linked (all_statics program) in
    first_slots program first.unit (static_puts (statics_in program.objects)) first.is
next_slots program (one ∷ others) linked = refl

-- ---- a static object begins

made_is : (program : CProgram) (one : CObject) (it : IsMade program one.object) → IsLinked program → Contains program.objects one → it.one ≡ one
made_is program one it linked among = cc (it.object_is, found_by_number program.objects one linked.numbers.objects_differ among)

static_made : (program : CProgram) (one : CObject) (found : Option Laid) → IsLinked program → Contains program.objects one → extent_in (setting_of program) one.type ≡ found → IsSome found → IsMade program one.object
static_made program one None linked among e some = cc (some)
static_made program one (Some laid) linked among e some =
    record { one = one; object_is = found_by_number program.objects one linked.numbers.objects_differ among; laid = laid; laid_is = e }

-- what a state has before `main`, beside the static objects that live
record IsBefore (program : CProgram) (state : CState) (left : List CObject) : Type 0 where
  linked : IsLinked program
  memory : IsTypedMemory program (blocks_of state.world)
  held : HeapLives state.world.held
  owned : AreOwned program state.world.held state.statics
  callers : state.callers ≡ []
  all : AreStatics program left
  begun : AreBegun program left state.statics

static_begun : (program : CProgram) (state : CState) (one : CObject) (others : List CObject) (it : IsMade program one.object) → IsBefore program state (one ∷ others) → (outcome : Result Blocks StoreFault)
    → IsTypedState program (after_static (setting_of program) state one others (begun_at true it.laid.size it.laid.align state.world outcome))
static_begun program state one others it is (Ok made) =
    let blocks = with_block (fresh_block true it.laid.size it.laid.align) (blocks_of state.world) in
    let new = slot one.object (next_place (blocks_of state.world)) in
    let it_grows = grown program state.world state.statics [] one.object true it is.memory is.held (subst (AreOwned program state.world.held) (sym (append-nil state.statics)) is.owned) in
    record {
      memory = it_grows.memory;
      held = it_grows.held;
      owned = subst (λ callers. AreOwned program (with_blocks blocks state.world.held) (slots_of_control (beginning_statics others (statics_in program.objects)) ++ (slots_of_callers callers ++ (state.statics ++ new ∷ [])))) (sym is.callers)
          (subst (λ slots. AreOwned program (with_blocks blocks state.world.held) (slots ++ (state.statics ++ new ∷ []))) (sym (next_slots program others is.linked)) it_grows.owned);
      control = subst (λ callers. IsControl program (state.statics ++ new ∷ []) callers (beginning_statics others (statics_in program.objects))) (sym is.callers)
          (next_control program others (state.statics ++ new ∷ []) is.linked (rest_statics program one others is.all) (begun_less program one others state.statics new refl is.begun));
    }
static_begun program state one others it is (Err (Full need left)) = record { memory = is.memory; held = is.held; owned = subst (λ callers. AreOwned program state.world.held (slots_of_callers callers ++ state.statics)) (sym is.callers) is.owned; control = tt }
static_begun program state one others it is (Err Memory) = record { memory = is.memory; held = is.held; owned = subst (λ callers. AreOwned program state.world.held (slots_of_callers callers ++ state.statics)) (sym is.callers) is.owned; control = tt }

no_callers : (program : CProgram) (state : CState) → state.callers ≡ [] → AreOwned program state.world.held (slots_of_callers state.callers ++ state.statics) → AreOwned program state.world.held state.statics
no_callers program state e owned = subst (λ callers. AreOwned program state.world.held (slots_of_callers callers ++ state.statics)) e owned

pub static_typed : (program : CProgram) (state : CState) (one : CObject) (others : List CObject) → IsLinked program → IsTypedMemory program (blocks_of state.world) → HeapLives state.world.held
    → AreOwned program state.world.held (slots_of_callers state.callers ++ state.statics) → state.callers ≡ [] → AreStatics program (one ∷ others) → AreBegun program (one ∷ others) state.statics
    → IsTypedState program (after_static (setting_of program) state one others (static_begins (setting_of program) one state.world))
static_typed program state one others linked memory held owned callers all begun =
    let of = static_of program one (first_static program one others all) in
    let is = static_is program one of.puts linked of.among of.puts_are in
    let it = static_made program one (extent_in (setting_of program) one.type) linked of.among refl is.complete in
    let before : IsBefore program state (one ∷ others) = record { linked = linked; memory = memory; held = held; owned = no_callers program state callers owned; callers = callers; all = all; begun = begun } in
    subst (λ found. IsTypedState program (after_static (setting_of program) state one others (and_then (as_stop no_place (needed found)) (λ (laid : Laid). object_begun true laid.size laid.align state.world))))
    (sym (ap (λ (o : CObject). extent_in (setting_of program) o.type) (sym (made_is program one it linked of.among)) ∙ it.laid_is))
    (static_begun program state one others it before (after_alloc (limit_of state.world.terms) (blocks_of state.world) it.laid.size it.laid.align))

-- ---- the state before the first step

no_blocks : (program : CProgram) → IsTypedMemory program []
no_blocks program = record { objects = record { sizes = λ number block live. cc (live) }; cells = λ number block live. cc (live) }

pub runs_begin_typed : RunsBeginTyped
runs_begin_typed program order terms outside linked = record {
  memory = no_blocks program;
  held = tt;
  owned = subst (λ slots. AreOwned program nothing_held (slots ++ [])) (sym (next_slots program (statics_in program.objects) linked)) tt;
  control = next_control program (statics_in program.objects) [] linked (all_statics program) (λ k d within. inr (all_statics program k d within));
}
