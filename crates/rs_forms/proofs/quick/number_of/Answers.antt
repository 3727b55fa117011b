use Rattle.rs_scene.specs.Scenes.{frame_view}
use Rattle.rs_forms.specs.Forms.{plain_run}
use Rattle.rs_forms.proofs.Quickly.{literal_held, number_formed}
use Rattle.rs_forms.proofs.quick.number_of.Goals as goal

pub returns-in-Alone : goal.returns-in-Alone
returns-in-Alone g c = number_formed (frame_view c.args.scene) c.args.of.now c.form_of.result _ c.plain_number.new.number c.plain_number.result (g.S.Store.memory c.args.store.now) c.form_of.ensures c.in-Alone.is
    (literal_held (plain_run (frame_view c.args.scene) c.in-Alone.plain) c.plain_number.new.number c.plain_number.result (g.S.Store.memory c.args.store.now) (c.plain_number.ensures (frame_view c.args.scene)))

pub returns-in-Place : goal.returns-in-Place
returns-in-Place g c = number_formed (frame_view c.args.scene) c.args.of.now c.form_of.result _ c.placed_number.new.number c.placed_number.result (g.S.Store.memory c.args.store.now) c.form_of.ensures c.in-Place.is
    c.placed_number.ensures
