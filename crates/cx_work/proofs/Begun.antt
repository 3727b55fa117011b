-- The operands of a call, begun from the left.
use Rattle.std.proofs.Common.{◌≡◌, refl, sym, ◌∙◌, ap, ℕ, ◌≤◌, List, [], ◌∷◌, ◌++◌, map, drop, length}
use Rattle.std.proofs.lemmas.List.{append-nil}
use Rattle.std.proofs.Math.ListN.{drop_of_length-le}
use Rattle.cx_core.specs.declared.expr.CoreExpr.{CoreExpr}
use Rattle.cx_core.specs.Views.{exprs_of, view_expr}
use Rattle.cx_mean.specs.Work.{all_begun, CWorks, more_works}
use Rattle.cx_work.specs.declared.work.Work.{Work}
use Rattle.cx_work.specs.Views.{begun_of, view_work, view_works, works_of}

pub begun_in_order : (exprs : List CoreExpr) → all_begun (exprs_of (map view_expr exprs)) ≡ works_of (map begun_of exprs)
begun_in_order [] = refl
begun_in_order (first ∷ others) = ap (λ (works : CWorks). more_works (begun_of first) works) (begun_in_order others)

-- at the end of the list all are begun
pub begun_at_end : (made : List Work) (exprs : List CoreExpr) (index : ℕ) → length exprs ≤ index →
    map view_work made ++ map begun_of (drop index exprs) ≡ map begun_of exprs → view_works made ≡ all_begun (exprs_of (map view_expr exprs))
begun_at_end made exprs index behind left =
    ap works_of (sym (append-nil (map view_work made))
    ∙ ap (λ (rest : List CoreExpr). map view_work made ++ map begun_of rest) (sym (drop_of_length-le exprs behind)) ∙ left)
    ∙ sym (begun_in_order exprs)
