-- What trees stand for, open one node deep.
use Rattle.std.proofs.Common.{rules, ◌≡◌, refl}
use Rattle.cx_core.specs.declared.expr.CoreExpr.{CoreExpr, fold_out-CoreExpr}
use Rattle.cx_core.specs.Trees.{CTy, ty, type_of, unqualified}
use Rattle.cx_core.specs.Views.{view_expr, view_type}

pub type_of_view : (e : CoreExpr) → type_of (view_expr e) ≡ view_type e.ty
type_of_view e = search (rules, fold_out-CoreExpr)

pub unqualified_twice : (type : CTy) → unqualified (unqualified type) ≡ unqualified type
unqualified_twice (ty form is_const) = refl
