-- What a view of a tree opens into.
use Rattle.std.proofs.Common.{rules, ◌≡◌}
use Rattle.cx_core.specs.declared.expr.CoreExpr.{CoreExpr, fold_out-CoreExpr}
use Rattle.cx_core.specs.Trees.{type_of}
use Rattle.cx_core.specs.Views.{view_expr, view_type}

pub type_of_view : (e : CoreExpr) → type_of (view_expr e) ≡ view_type e.ty
type_of_view e = search (rules, fold_out-CoreExpr)
