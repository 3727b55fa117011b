use Rattle.rs_parse.proofs.OutlineLaws.{named_here}
use Rattle.rs_parse.proofs.outline.number_of.Goals as goal

pub returns-then-eq-clause-found : goal.returns-then-eq-clause-found
returns-then-eq-clause-found c =
    λ among. named_here c.args.modules.now c.loop-index.index c.index-modules-index.result c.args.name.now c.bytes.result.now c.loop-index-test.true c.index-modules-index.is c.bytes.ensures c.if-eq.ensures
