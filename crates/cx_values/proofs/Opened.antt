-- What trees stand for, open one node deep.
use Rattle.std.proofs.Common.{rules, ◌≡◌, refl}
use Rattle.cx_core.specs.declared.expr.CoreExpr.{CoreExpr, fold_out-CoreExpr}
use Rattle.cx_core.specs.Trees.{ty, void, basic, enum_type, pointer, array, record_type, function, CExpr, expr, type_of, place_of}
use Rattle.cx_core.specs.Views.{view_expr, view_type}
use Rattle.cx_rules.specs.Operands.{value_of_place}
use Rattle.cx_values.specs.Places.{place_value}

pub type_of_view : (e : CoreExpr) → type_of (view_expr e) ≡ view_type e.ty
type_of_view e = search (rules, fold_out-CoreExpr)

pub place_of_view : (e : CoreExpr) → place_of (view_expr e) ≡ e.place
place_of_view e = search (rules, fold_out-CoreExpr)

-- the value of an lvalue
pub by_array : (core : CExpr) → value_of_place core ≡ place_value core
by_array (expr (ty void is_const) place form) = refl
by_array (expr (ty (basic which) is_const) place form) = refl
by_array (expr (ty (enum_type number) is_const) place form) = refl
by_array (expr (ty (pointer to) is_const) place form) = refl
by_array (expr (ty (array element length) is_const) place form) = refl
by_array (expr (ty (record_type number) is_const) place form) = refl
by_array (expr (ty (function result params variadic) is_const) place form) = refl
