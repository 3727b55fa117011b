use Rattle.std.proofs.Common.{rules}
use Rattle.emit_stmts.proofs.Ending.{put_more}
use Rattle.emit_stmts.proofs.ends.put_other.Goals as goal

pub returns : goal.returns
returns c = put_more c.push.result c.args.made.now c.push.new.self c.args.label.now c.args.one.now c.in_ok-copy.field-0 c.push.ensures.ok c.in_ok-copy.ensures (search rules)
