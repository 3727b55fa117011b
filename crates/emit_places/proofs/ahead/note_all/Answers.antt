use Rattle.emit_places.proofs.Noted.{note_more}
use Rattle.std.proofs.Common.{◌==◌, refl}
use Rattle.std.specs.HashMap.{get_by}
use Rattle.emit_places.proofs.ahead.note_all.Goals as goal

pub loop-node-preserved : goal.loop-node-preserved
loop-node-preserved c = λ node.
    note_more c.args.nodes.now c.args.nodes.now c.loop-node.node-index _ _ c.args.number node (get_by (λ key. node == key) c.loop-node.places) (get_by (λ key. node == key) c.insert.new.self) _ refl refl c.loop-node-test.true
    (c.in_ok-insert.ensures.updates.0 node) (c.loop-node.invariant node)
