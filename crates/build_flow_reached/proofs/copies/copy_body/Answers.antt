use Rattle.build_flow_reached.proofs.Copied.{copied}
use Rattle.build_flow_reached.proofs.copies.copy_body.Goals as goal

pub returns : goal.returns
returns c = copied c.args.body.now c.copy_stmts.result c.copy_stmts.ensures
