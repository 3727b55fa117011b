use Rattle.rs_mean.specs.Calls.{load}
use Rattle.rs_value.specs.Views.{spot_view, typed_view}
use Rattle.rs_forms.proofs.Quickly.{number_held}
use Rattle.rs_forms.proofs.quick.held_number.Goals as goal

pub returns-in-Ok : goal.returns-in-Ok
returns-in-Ok g c = number_held (load (spot_view c.args.spot)) (typed_view c.in-Ok.value) c.number_in.new.number c.number_in.result (g.S.Store.memory c.args.store.now) c.number_in.ensures c.in-Ok.ensures
