-- What trees stand for, open one node deep.
use Rattle.std.proofs.Common.{rules, ◌≡◌}
use Rattle.cx_core.specs.declared.expr.CoreExpr.{CoreExpr, fold_out-CoreExpr}
use Rattle.cx_core.specs.declared.ty.FunctionTy.{FunctionTy, fold_out-FunctionTy}
use Rattle.cx_core.specs.Trees.{function, type_of}
use Rattle.cx_core.specs.Views.{view_expr, view_function_type, view_params, view_type}

pub type_of_view : (e : CoreExpr) → type_of (view_expr e) ≡ view_type e.ty
type_of_view e = search (rules, fold_out-CoreExpr)

pub function_view : (f : FunctionTy) → view_function_type f ≡ function (view_type f.result_ty) (view_params f.params) f.is_variadic
function_view f = search (rules, fold_out-FunctionTy)
