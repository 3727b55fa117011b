-- Values of initialisers that are stored in parts of their objects, in declarations that are reached (ISO C99, 6.7.8p11 to p21).
use Rattle.std.proofs.Common.{◌≡◌, ◌∙◌, ℕ, ◌≤◌, true, false, List, [], ◌++◌, map, Option, Some, None, IfSome, Ok, refl, sym, ap, subst}
use Rattle.std.proofs.lemmas.List.{append-nil}
use Rattle.cr_base.specs.declared.layout.Spot.{Spot}
use Rattle.cr_runs.specs.Runs.{came}
use Rattle.cr_world.specs.World.{World, blocks_of}
use Rattle.cx_core.specs.Trees.{CTy, CExpr, type_of, put, CObject}
use Rattle.cx_core.specs.Typing.{CHome}
use Rattle.cx_mean.specs.Accesses.{CStored}
use Rattle.cx_mean.specs.Marks.{no_marks}
use Rattle.cx_mean.specs.Operands.{needed, with_marks, Slot, Frame as CFrame, slot_of}
use Rattle.cx_typed_runs.proofs.Owned.{object_number}
use Rattle.cx_typed_work.proofs.Puts.{IsLiteralAlive, slot_begins}
use Rattle.cx_typed_work.specs.Scenes.{IsAlive}
use Rattle.build_flow_lives.specs.Standing.{Calling, Standing, stage_of}
use Rattle.build_flow_moves.specs.Parts.{Stage, objects_in, put_piece, PutDone}
use Rattle.lift_does.proofs.Around.{Around, scope as scope_of, At, OweAs, Reached}
use Rattle.lift_does.proofs.LiteralFills.{stored_fixed}
use Rattle.lift_does.proofs.LiteralNodes.{put_has}
use Rattle.lift_does.proofs.Nodes.{PartOwes}
use Rattle.lift_does.proofs.Numbers.{rises, numbered}
use Rattle.lift_does.proofs.PutsOwed.{put_owes}
use Rattle.lift_does.proofs.Runs.{end_owes}
use Rattle.lift_does.specs.Does.{is_fixed}
use Rattle.lift_exprs.specs.Lifted.{lifted}
use Rattle.lift_exprs.specs.Objects.{object_at, part_target}
use Rattle.lift_exprs.specs.Stores.{stored_value, stores}
use Rattle.lift_exprs.specs.Written.{Written}
use Rattle.lift_forms_laws.proofs.Runs.{pure_is}
use Rattle.lift_held.specs.Held.{is_void, value_for}
use Rattle.lift_stands.specs.Stands.{Images}
use Rattle.lift_stands.specs.Worlds.{WorldsStand}
use Rattle.rs_mean.specs.Run.{Flow, normal}
use Rattle.rs_text.specs.Tree.{Stmt}
use Rattle.build_flow_parts.specs.Bodies.{ValuePut}
use Rattle.build_flow_parts.specs.Means.{home_in, PartsMean}
use Rattle.build_flow_parts.proofs.After.{stands_behind}
use Rattle.build_flow_parts.proofs.Values.{around_of, here_of, part_owes}

pub needed_is : {A : Type 0} (found : Option A) (at : A) → needed found ≡ Ok at → found ≡ Some at
needed_is (Some one) at is = let same : one ≡ at = cc in ap Some same
needed_is None at is = absurd cc

module _ (a : Calling) (units steps : ℕ) (mean : PartsMean a.s a.names a.of units steps) (started : WorldsStand a.images a.c_before a.before) (params_are : map (λ (slot : Slot). slot.object) a.params ≡ a.one.params)
    (scope : List ℕ) (object : ℕ) (spot : Spot) (type : CTy) (value : CExpr) (number : ℕ) (is_put : ValuePut a units steps scope object spot type value number) where
  abbrev stage : Stage
  stage = stage_of a units steps

  abbrev home : CHome
  home = home_in a.s a.one (scope ++ a.one.params)

  abbrev written : Written
  written = lifted a.of.names (value_for spot) value number

  abbrev Good : CFrame → Unit {0} → World → Flow → World → Type 0
  Good slots nothing c_after flow after = (flow ≡ normal) × Standing a slots c_after after

  abbrev stored_as : CTy → List Stmt
  stored_as holder = let to = part_target a.of.names holder (object_at a.of.names holder object) spot type in written.body ++ stores to (stored_value to written.given)

  module _ (slots : CFrame) (c_world world : World) (n m : ℕ) (few : n ≤ units) (little : m ≤ steps) (known_are : objects_in slots ≡ scope) (here : Standing a slots c_world world) where
    abbrev around : Around
    around = around_of a units steps mean started params_are scope slots c_world world n m few little here

    begins : At around here.later c_world world
    begins = here_of a units steps mean started params_are scope slots c_world world known_are here

    -- the object lives wherever both stand
    lives : (images : Images) (c_later later : World) → At around images c_later later → IsLiteralAlive home (scope_of around) (blocks_of c_later) is_put.one.type object
    lives images c_later later at =
        let alive : IsAlive a.s.program (scope_of around) (blocks_of c_later) is_put.one =
        subst (λ (found : Option CObject). IfSome found (IsAlive a.s.program (scope_of around) (blocks_of c_later))) is_put.object_is (at.typed.scene.alive.in_scope object is_put.among) in
        let there : slot_of (scope_of around) object ≡ Some alive.at = ap (slot_of (scope_of around)) (sym (object_number object a.s.program.objects is_put.one is_put.object_is)) ∙ alive.at_is in
        record { one = is_put.one; alive = alive; at_is = there; begins = slot_begins (scope_of around) object alive.at there; laid_is = alive.laid_is }

    -- what is stored has a value
    some : is_void (type_of value) ≡ false
    some = put_has around here.later c_world world is_put.one.type object spot type value begins (lives here.later c_world world begins) is_put.is

    value_owes : PartOwes around true (is_fixed (value_for spot) value) value written number here.later c_world world
    value_owes = part_owes a units steps mean started params_are (value_for spot) value number scope (record { used = λ _. some; base = λ _. refl }) is_put.value slots c_world world n m few little known_are here

    ends : (made : CStored) (later : Images) (c_end end : World) → Reached around number written.next here.later later c_world world c_end end → OweAs around (Good slots) (came tt c_end) [] end
    ends made later c_end end reached =
        end_owes around (Good slots) tt [] c_end end end (λ k. pure_is normal end k) (
          refl,
          stands_behind a started mean.apart slots c_world world here later reached.own number written.next reached.are_own c_end end reached.keeps reached.at.worlds
              (record { memory = reached.at.typed.scene.memory; owned = reached.at.typed.owned }),
        )

    put_done : OweAs around (Good slots) (put_piece stage object (put spot type value) slots c_world) (stored_as is_put.one.type) world
    put_done =
        subst (λ (list : List Stmt). OweAs around (Good slots) (put_piece stage object (put spot type value) slots c_world) list world) (append-nil (stored_as is_put.one.type))
        (put_owes around is_put.one.type object lives spot type value is_put.value.typed is_put.is (Good slots) (with_marks no_marks) (λ made. came tt) [] (is_fixed (value_for spot) value) written number here.later c_world world (λ one. refl) (λ one. refl) begins
        (rises written number (numbered a.of.names (value_for spot) value number)) (stored_fixed spot value) value_owes ends)

  pub value_put_done : PutDone stage scope object (put spot type value) number
  value_put_done slots c_world world n m few little known_are here =
      subst (λ (holder : CTy). OweAs (around slots c_world world n m few little known_are here) (Good slots) (put_piece stage object (put spot type value) slots c_world) (stored_as holder) world) (sym is_put.type_is)
      (put_done slots c_world world n m few little known_are here)
