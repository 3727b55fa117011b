use Rattle.std.proofs.Common.{◌∙◌, ap, slice_get}
use Rattle.rs_scene.specs.Places.{in_state}
use Rattle.rs_scene.proofs.Spotted.{in_state_is}
use Rattle.rs_scene.proofs.spots.in_block.Goals as goal

pub returns : goal.returns
returns g c =
    c.in_state.ensures
    ∙ ap (in_state c.args.align c.args.at.offset) c.state.ensures
    ∙ in_state_is c.args.align c.args.at.offset (slice_get (g.S.Store.memory c.args.store.now) c.args.at.block)
