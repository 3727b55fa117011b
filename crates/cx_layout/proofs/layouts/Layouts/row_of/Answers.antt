use Rattle.std.proofs.Common.{All, map, subst, sym}
use Rattle.cr_base.specs.Layout.{IsPiece}
use Rattle.cx_core.specs.Layouts.{pieces_of}
use Rattle.cx_core.specs.Views.{view_member, view_record}
use Rattle.cx_layout.proofs.Fronts.{fine_laid}
use Rattle.cx_layout.proofs.Pieces.{large_is_too_large}
use Rattle.cx_layout.specs.Rows.{IsFine, HasLarge}
use Rattle.cx_layout.proofs.layouts.Layouts.row_of.Goals as goal

pub returns-in-Err-clause-too_large : goal.returns-in-Err-clause-too_large
returns-in-Err-clause-too_large c = λ e.
    large_is_too_large c.args.self.now (view_record c.args.r.now)
    (subst (λ members. HasLarge (pieces_of c.args.self.now (map view_member members))) c.as_slice.ensures (c.in-Err.ensures.too_large e))

pub returns-clause-fine : goal.returns-clause-fine
returns-clause-fine c =
    subst (λ row. IsFine row.laid) (sym c.new.ensures)
    (fine_laid c.args.r.now.is_union c.as_slice-2.result.now c.in-Some.laid
    (subst (All IsPiece) (sym c.as_slice-2.ensures) c.in-Ok.ensures.fine) (sym c.in-Some.ensures))
