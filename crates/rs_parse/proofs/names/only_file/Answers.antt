use Rattle.rs_parse.proofs.FileLaws.{found_here, not_here}
use Rattle.rs_parse.proofs.names.only_file.Goals as goal
use Rattle.rs_parse.proofs.names.only_file.Goals.{then-eq+else-is_some, else-eq}

pub loop-index-preserved : goal.loop-index-preserved
loop-index-preserved c = elim c.if-eq.branch [
  | then-eq+else-is_some w ↦ found_here c.args.files.now c.args.name.now c.as_bytes.result.now c.loop-index.index c.index-files-index.result c.loop-index.found c.if-eq.found
      c.loop-index-test.true c.index-files-index.is c.as_bytes.ensures w.if-eq.ensures w.if-is_some.ensures c.loop-index.invariant w.found-is
  | else-eq w ↦ not_here c.args.files.now c.args.name.now c.as_bytes.result.now c.loop-index.index c.index-files-index.result c.loop-index.found c.if-eq.found
      c.loop-index-test.true c.index-files-index.is c.as_bytes.ensures w.if-eq.ensures c.loop-index.invariant w.found-is
]
