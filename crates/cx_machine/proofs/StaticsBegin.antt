-- A static object that begins, as a step of a run.
use Rattle.std.proofs.Common.{◌≡◌, ◌∙◌, inl, refl, sym, ap, subst, ℤ, true, List, [], ◌∷◌, ◌++◌, Option, Some, Result, Err}
use Rattle.cr_base.specs.declared.layout.Laid.{Laid}
use Rattle.cr_world.specs.World.{World, Got, full, asks, object_begun}
use Rattle.cx_core.specs.Trees.{CObject}
use Rattle.cx_mean.specs.Operands.{CFault, CStop, needed}
use Rattle.cx_mean.specs.Settings.{CSetting, extent_in}
use Rattle.cx_mean.specs.State.{CState, has_stopped, at_control, after_static, as_stop, no_place, slot, beginning_statics, statics_in}
use Rattle.cx_outside.specs.Comes.{Comes, got, Steps}
use Rattle.cx_outside.specs.States.{Around, world_at}
use Rattle.cx_outside.specs.Wanting.{HostKept}
use Rattle.cx_outside.specs.declared.outside.Lack.{Lack}
use Rattle.cx_outside.specs.declared.outside.Lack.TheVariants as lack
use Rattle.ext_calls.specs.declared.call.Made.{Made}
use Rattle.mem_bytes.specs.Access.{and_then}
use Rattle.mem_bytes.specs.declared.value.Ptr.{Ptr}
use Rattle.cx_machine.specs.declared.machine.Machine.{Machine}
use Rattle.cx_machine.specs.declared.stop.Stop.TheVariants as stop
use Rattle.cx_machine.specs.Machines.{view_machine, IsAt}
use Rattle.cx_machine.specs.Statics.{static_step}
use Rattle.cx_machine.specs.Steps.{IsStopped, Advances}
use Rattle.cx_machine.proofs.Landing.{lands}

module _ (setting : CSetting) (old : Machine) (one : CObject) (others : List CObject) (laid : Laid) (is : extent_in setting one.type ≡ Some laid) where
  abbrev piece : World → CState
  piece world = static_step setting (view_machine old world) one others world

  begun_by : (world : World) → piece world ≡ after_static setting (view_machine old world) one others (object_begun true laid.size laid.align world)
  begun_by world =
      ap (λ (found : Option Laid). after_static setting (view_machine old world) one others
      (and_then (as_stop no_place (needed found)) (λ size. object_begun true size.size size.align world))) is

  stops_as : (made : List Made) (ahead : List ℤ) (at : Around) (why : CStop) → object_begun true laid.size laid.align (world_at at made ahead) ≡ Err why →
      IsStopped (has_stopped why) made ahead (piece (world_at at made ahead))
  stops_as made ahead at why stopped =
      let here : World = world_at at made ahead in
      subst (λ (state : CState). IsStopped (has_stopped why) made ahead state)
      (sym (begun_by here ∙ ap (λ (found : Result (Got Ptr) CStop). after_static setting (view_machine old here) one others found) stopped))
      (record { control_is = refl; made_is = refl; answers_are = refl })

  pub static_lacks : (why : Lack) (next : World → CState) (before after : Around) → HostKept before.host after.host → Steps {A = Ptr} (object_begun true laid.size laid.align) (Err why) before after →
      Advances piece (Err (stop.Lacks why)) next before after
  static_lacks (lack.Full need left) next before after kept found =
      record { quiet = found.quiet; stops = λ made ahead. stops_as made ahead before (full need left) (found.stops made ahead) }
  static_lacks (lack.Refused name) next before after kept found = record {
    call = found.call;
    named = found.named;
    declined = found.declined;
    asks = record { quiet = found.asks.quiet; stops = λ made. stops_as made [] before (asks found.call) (found.asks.stops made) };
  }
  static_lacks lack.Failed next before after kept found = record {
    call = found.call;
    taken = found.taken;
    rose = found.rose;
    asks = record { quiet = found.asks.quiet; stops = λ made. stops_as made [] before (asks found.call) (found.asks.stops made) };
  }
  static_lacks lack.Memory next before after kept found = inl kept

  pub static_begun : (mid new : Machine) (at : Ptr) (before later : Around) (all : List CObject) → all ≡ statics_in setting.program.objects →
      mid ≡ record old { statics = old.statics ++ slot one.object at ∷ [] } → IsAt mid new (beginning_statics others all) →
      Comes (object_begun {F = CFault} true laid.size laid.align) (got at) before later → Comes piece (view_machine new) before later
  static_begun mid new at before later all all_is mid_is goes comes = record {
    between = comes.between;
    goes = λ made ahead.
        let here : World = world_at before made (comes.between.answers ++ ahead) in
        let there : World = world_at later (made ++ comes.between.calls) ahead in
        begun_by here
        ∙ ap (λ (found : Result (Got Ptr) CStop). after_static setting (view_machine old here) one others found) (comes.goes made ahead)
        ∙ ap (λ (objects : List CObject). record (view_machine old there) { control = beginning_statics others objects; statics = old.statics ++ slot one.object at ∷ [] }) (sym all_is)
        ∙ ap (λ (machine : Machine). at_control (view_machine machine there) there (beginning_statics others all)) (sym mid_is)
        ∙ lands new mid (record { control = beginning_statics others all; blocks = there.held.blocks }) there.held.blocks there (record { at = goes; memory = refl });
  }
