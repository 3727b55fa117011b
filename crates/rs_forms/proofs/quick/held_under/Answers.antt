use Rattle.rs_forms.specs.Forms.{used_as}
use Rattle.rs_forms.specs.declared.forms.PlaceUse.TheVariants as place_use
use Rattle.rs_value.specs.Views.{spot_view}
use Rattle.rs_forms.proofs.Quickly.{place_held}
use Rattle.rs_forms.proofs.quick.held_under.Goals as goal

pub returns-in-Ok : goal.returns-in-Ok
returns-in-Ok g c = place_held _ (spot_view c.in-Ok.spot) (used_as place_use.Value) c.held_number.new.number c.held_number.result (g.S.Store.memory c.args.store.now) c.in-Ok.ensures c.held_number.ensures
