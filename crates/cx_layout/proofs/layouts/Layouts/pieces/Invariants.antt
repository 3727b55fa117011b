use Rattle.std.proofs.Common.{◌≡◌, All, map, drop}
use Rattle.cr_base.specs.Layout.{IsPiece}
use Rattle.cx_core.specs.Layouts.{pieces_of}
use Rattle.cx_core.specs.Views.{view_member}
use Rattle.cx_layout.proofs.Pieces.{with_pieces}
use Rattle.cx_layout.proofs.layouts.Layouts.pieces.Given as goal

abbrev pub invariant-loop-member : goal.invariant-loop-member
invariant-loop-member l = record {
  fine : All IsPiece l.pieces;
  left : with_pieces l.pieces (pieces_of l.self (map view_member (drop l.member-index l.members))) ≡ pieces_of l.self (map view_member l.members);
}
