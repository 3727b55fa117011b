use Rattle.std.proofs.Common.{refl}
use Rattle.std.proofs.lemmas.Option.{slice_get_read}
use Rattle.emit_places.proofs.Placed.{inner_set, inner_out}
use Rattle.emit_places.specs.Sorted.{inner_view}
use Rattle.emit_places.proofs.placing.push_inner.Goals as goal

pub returns-in-Some : goal.returns-in-Some
returns-in-Some c =
    inner_set c.take_inner.result c.args.siblings.now.items c.args.number c.in-Some.sibling.now c.take_inner.new.sibling (inner_view c.args.inner)
    (slice_get_read _ _ _ _ refl c.in-Some.ensures.item.3.0 c.in-Some.ensures.item.1) c.take_inner.ensures

pub returns-in-None : goal.returns-in-None
returns-in-None c = inner_out c.args.siblings.now.items c.args.number (inner_view c.args.inner) c.in-None.ensures.item.2
