use Rattle.std.proofs.Common.{◌≡◌, drop, map}
use Rattle.reloop.specs.Shapes.{have_dispatch, shape_view, shapes}
use Rattle.whole_texts.proofs.shapes.+dispatching.Given as goal

abbrev pub invariant-have_dispatch-loop-one : goal.invariant-have_dispatch-loop-one
invariant-have_dispatch-loop-one l = have_dispatch (shapes (map shape_view (drop l.one-index l.members))) ≡ have_dispatch (shapes (map shape_view l.members))
