-- What trees stand for, open one node deep.
use Rattle.std.proofs.Common.{rules, ◌≡◌, List, Bor}
use Rattle.cx_core.specs.declared.expr.CoreExpr.{CoreExpr, fold_out-CoreExpr}
use Rattle.cx_core.specs.declared.expr.Put.{Put}
use Rattle.cx_core.specs.Trees.{type_of, place_of}
use Rattle.cx_core.specs.Views.{view_expr, view_type, view_put, view_puts}
use Rattle.cx_mean.specs.Marks.{Marks}
use Rattle.cx_mean.specs.Work.{needs, chooses, tests, carried, fills}
use Rattle.cx_work.specs.declared.work.Work.{Work}
use Rattle.cx_work.specs.declared.work.Work.TheFolds.{fold_out-Work}
use Rattle.cx_work.specs.declared.work.Work.TheViews as of
use Rattle.cx_work.specs.declared.work.Work.TheViews.{the_lemmas as work_lemmas}
use Rattle.cx_work.specs.Views.{view_work, view_works}

pub type_of_view : (e : CoreExpr) → type_of (view_expr e) ≡ view_type e.ty
type_of_view e = search (rules, fold_out-CoreExpr)

pub place_of_view : (e : CoreExpr) → place_of (view_expr e) ≡ e.place
place_of_view e = search (rules, fold_out-CoreExpr)

pub needs_view : (node : Bor CoreExpr) (operands : List Work) → view_work (of.Needs node operands) ≡ needs (view_expr node.now) (view_works operands)
needs_view node operands = search (rules, work_lemmas, fold_out-Work)

pub chooses_view : (node : Bor CoreExpr) (first : Work) → view_work (of.Chooses node first) ≡ chooses (view_expr node.now) (view_work first)
chooses_view node first = search (rules, work_lemmas, fold_out-Work)

pub tests_view : (node : Bor CoreExpr) (marks : Marks) (second : Work) →
    view_work (of.Tests node marks second) ≡ tests (view_expr node.now) marks (view_work second)
tests_view node marks second = search (rules, work_lemmas, fold_out-Work)

pub carries_view : (node : Bor CoreExpr) (marks : Marks) (part : Work) →
    view_work (of.Carries node marks part) ≡ carried (view_expr node.now) marks (view_work part)
carries_view node marks part = search (rules, work_lemmas, fold_out-Work)

pub fills_view : (node : Bor CoreExpr) (marks : Marks) (one : Bor Put) (others : Bor (List Put)) (value : Work) →
    view_work (of.Fills node marks one others value) ≡ fills (view_expr node.now) marks (view_put one.now) (view_puts others.now) (view_work value)
fills_view node marks one others value = search (rules, work_lemmas, fold_out-Work)
