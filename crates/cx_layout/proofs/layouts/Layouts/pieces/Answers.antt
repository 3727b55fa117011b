use Rattle.cx_core.specs.Views.{view_member}
use Rattle.cx_layout.proofs.Pieces.{member_has, has_large}
use Rattle.cx_layout.specs.Calls.{IsMemberComplete, HasFittingBits}
use Rattle.cx_layout.proofs.layouts.Layouts.pieces.Goals as goal

pub piece-requires-clause-complete : goal.piece-requires-clause-complete
piece-requires-clause-complete c =
    member_has view_member c.args.members.now c.loop-member.member-index (IsMemberComplete c.args.self.now) c.member-item.result c.loop-member-test.true c.member-item.is c.requires.complete

pub piece-requires-clause-bits : goal.piece-requires-clause-bits
piece-requires-clause-bits c =
    member_has view_member c.args.members.now c.loop-member.member-index HasFittingBits c.member-item.result c.loop-member-test.true c.member-item.is c.requires.bits

pub returns-in_default-clause-too_large : goal.returns-in_default-clause-too_large
returns-in_default-clause-too_large c = λ _.
    has_large view_member c.args.self.now c.args.members.now c.loop-member.member-index _ c.loop-member.pieces c.member-item.result c.loop-member-test.true c.member-item.is c.requires.complete
    c.in_default.ensures.too_large c.loop-member.invariant.left
