-- What variants of the declared types are as trees.
use Rattle.std.proofs.Common.{◌≡◌, rules, map, List, Option, option_map}
use Rattle.rs_text.specs.Tree as tree
use Rattle.rs_text.specs.Tree.{tys, option_ty}
use Rattle.rs_tree.specs.declared.expr.RExpr.{RExpr}
use Rattle.rs_tree.specs.declared.expr.RExpr.TheFolds.{fold_out-RExpr}
use Rattle.rs_tree.specs.declared.expr.RExpr.TheBlock as plain
use Rattle.rs_tree.specs.declared.expr.RExpr.TheViews as of
use Rattle.rs_tree.specs.declared.expr.RExpr.TheViews.{the_lemmas as expr_lemmas}
use Rattle.rs_tree.specs.declared.ty.RPath.{RPath}
use Rattle.rs_tree.specs.declared.ty.RTy.{RTy, fold_out-RTy, fold-roll-RTy}
use Rattle.rs_tree.specs.declared.ty.RTy.TheBlock as raw
use Rattle.rs_tree.specs.declared.ty.RTy.TheViews as made
use Rattle.rs_tree.specs.declared.ty.RTy.TheViews.{the_lemmas}
use Rattle.rs_tree.specs.Views.{ty_view, expr_view}

pub void_view : ty_view raw.Void ≡ tree.Void
void_view = search (rules, the_lemmas, fold_out-RTy)

pub code_view : (params : List RTy) (result : Option RTy) →
    ty_view (made.Code params result) ≡ tree.Code (tys (map ty_view params)) (option_ty (option_map ty_view result))
code_view params result = search (rules, the_lemmas, fold_out-RTy, fold-roll-RTy)

pub choose_view : (condition if_true if_false : RExpr) →
    expr_view (of.Choose condition if_true if_false) ≡ tree.Choose (expr_view condition) (expr_view if_true) (expr_view if_false)
choose_view condition if_true if_false = search (rules, expr_lemmas, fold_out-RExpr)

pub transmute_view : (from to : RTy) (operand : RExpr) →
    expr_view (of.Transmute from to operand) ≡ tree.Transmute (ty_view from) (ty_view to) (expr_view operand)
transmute_view from to operand = search (rules, expr_lemmas, fold_out-RExpr)

pub cast_view : (operand : RExpr) (ty : RTy) → expr_view (of.Cast operand ty) ≡ tree.Cast (expr_view operand) (ty_view ty)
cast_view operand ty = search (rules, expr_lemmas, fold_out-RExpr)

pub wrapping_neg_view : (operand : RExpr) → expr_view (of.WrappingNeg operand) ≡ tree.WrappingNeg (expr_view operand)
wrapping_neg_view operand = search (rules, expr_lemmas, fold_out-RExpr)

pub offset_from_view : (operand arg : RExpr) → expr_view (of.OffsetFrom operand arg) ≡ tree.OffsetFrom (expr_view operand) (expr_view arg)
offset_from_view operand arg = search (rules, expr_lemmas, fold_out-RExpr)

pub some_view : (path : RPath) (params : List RTy) (result : Option RTy) →
    expr_view (plain.SomeFunction path params result)
    ≡ tree.SomeFunction path.home path.name (tys (map ty_view params)) (option_ty (option_map ty_view result))
some_view path params result = search (rules, expr_lemmas, fold_out-RExpr)
