use Rattle.std.proofs.Common.{refl}
use Rattle.emit_places.specs.Places.{table_of}
use Rattle.emit_places.proofs.Noted.{see_more}
use Rattle.emit_places.proofs.seeing.see_all.Goals as goal

pub loop-way-preserved : goal.loop-way-preserved
loop-way-preserved c =
    see_more c.args.sibling c.args.is_direct c.args.ways.now c.args.ways.now c.loop-way.way-index _ _ (table_of c.loop-way.table) (table_of c.see_one.new.table) _ refl refl c.loop-way-test.true c.in_ok-see_one.ensures c.loop-way.invariant
