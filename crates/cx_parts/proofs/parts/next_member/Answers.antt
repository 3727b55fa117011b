use Rattle.std.proofs.Common.{arith}
use Rattle.cx_core.specs.Views.{view_member, view_types}
use Rattle.cx_parts.proofs.Members.{none_past}
use Rattle.cx_rules.specs.Initial.{members_of, record_at, is_union_of}
use Rattle.cx_parts.proofs.parts.next_member.Goals as goal

pub returns-then-from-members : goal.returns-then-from-members
returns-then-from-members c = none_past view_member c.members_of-members.result.now (members_of (record_at (view_types c.args.types.now) c.args.number))
    (is_union_of (record_at (view_types c.args.types.now) c.args.number)) c.args.index c.members_of-members.ensures (omega arith)
