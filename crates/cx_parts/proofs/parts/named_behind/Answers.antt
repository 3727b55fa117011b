use Rattle.std.proofs.Common.{None, Some}
use Rattle.cx_core.specs.Views.{view_member}
use Rattle.cx_parts.proofs.Members.{sliced}
use Rattle.cx_parts.proofs.parts.named_behind.Goals as goal

pub returns-in_default : goal.returns-in_default
returns-in_default c = sliced view_member c.args.from c.args.members.now c.those_from.result.now None c.in_default.ensures.number c.those_from.ensures

pub returns : goal.returns
returns c = sliced view_member c.args.from c.args.members.now c.those_from.result.now (Some c.in-Some.offset) c.in-Some.ensures.number c.those_from.ensures
