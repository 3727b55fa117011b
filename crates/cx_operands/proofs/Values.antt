-- The values of lvalues, and what a pointer to `void` points to, are no constants.
use Rattle.std.proofs.Common.{rules, ◌≡◌, refl, ◌&&◌, Bool, true, false}
use Rattle.std.specs.Prelude.{ℤ, Option, None, if◌then◌else◌}
use Rattle.cx_core.specs.Trees.{ty, void, basic, enum_type, pointer, array, record_type, function, unqualified, CTypes, CExpr, expr, type_of}
use Rattle.cx_core.specs.declared.expr.CoreExpr.{CoreExpr, fold_out-CoreExpr}
use Rattle.cx_core.specs.Views.{view_expr, view_type}
use Rattle.cx_rules.specs.declared.kinds.OperandKind.TheVariants.{VoidPlace}
use Rattle.cx_rules.specs.Operands.{constant_of, is_constant_form, number_of, is_null_constant, is_null_pointer, value_by, value_of_place}
use Rattle.cx_rules.specs.Types.{is_integer}

and_false : (a : Bool) → a && false ≡ false
and_false true = refl
and_false false = refl

-- the type of what a tree stands for
pub type_of_view : (e : CoreExpr) → type_of (view_expr e) ≡ view_type e.ty
type_of_view e = search (rules, fold_out-CoreExpr)

-- of two that hold together the second, where the first is known to hold
pub second_of : (first second : Bool) → first ≡ true → second ≡ (first && second)
second_of first second is = rw (is) refl

none_if : (test : Bool) (value : Option ℤ) → test ≡ false → (if test then value else None) ≡ None
none_if test value is = rw (is) refl

pub place_no_constant : (types : CTypes) (core : CExpr) → constant_of types (value_of_place core) ≡ None
unfolding constant_of
place_no_constant types (expr (ty void is_const) place form) =
    none_if (is_constant_form types (value_of_place (expr (ty void is_const) place form))) (number_of types (value_of_place (expr (ty void is_const) place form))) (and_false (is_integer types (unqualified (ty void is_const))))
place_no_constant types (expr (ty (basic which) is_const) place form) =
    none_if (is_constant_form types (value_of_place (expr (ty (basic which) is_const) place form))) (number_of types (value_of_place (expr (ty (basic which) is_const) place form))) (and_false (is_integer types (unqualified (ty (basic which) is_const))))
place_no_constant types (expr (ty (enum_type number) is_const) place form) =
    none_if (is_constant_form types (value_of_place (expr (ty (enum_type number) is_const) place form))) (number_of types (value_of_place (expr (ty (enum_type number) is_const) place form))) (and_false (is_integer types (unqualified (ty (enum_type number) is_const))))
place_no_constant types (expr (ty (pointer to) is_const) place form) =
    none_if (is_constant_form types (value_of_place (expr (ty (pointer to) is_const) place form))) (number_of types (value_of_place (expr (ty (pointer to) is_const) place form))) (and_false (is_integer types (unqualified (ty (pointer to) is_const))))
place_no_constant types (expr (ty (array element length) is_const) place form) =
    none_if (is_constant_form types (value_of_place (expr (ty (array element length) is_const) place form))) (number_of types (value_of_place (expr (ty (array element length) is_const) place form))) (and_false (is_integer types (ty (pointer element) false)))
place_no_constant types (expr (ty (record_type number) is_const) place form) =
    none_if (is_constant_form types (value_of_place (expr (ty (record_type number) is_const) place form))) (number_of types (value_of_place (expr (ty (record_type number) is_const) place form))) (and_false (is_integer types (unqualified (ty (record_type number) is_const))))
place_no_constant types (expr (ty (function result params variadic) is_const) place form) =
    none_if (is_constant_form types (value_of_place (expr (ty (function result params variadic) is_const) place form))) (number_of types (value_of_place (expr (ty (function result params variadic) is_const) place form))) (and_false (is_integer types (unqualified (ty (function result params variadic) is_const))))

pub nothing_no_constant : (types : CTypes) (core : CExpr) → constant_of types (value_by VoidPlace core) ≡ None
unfolding constant_of
nothing_no_constant types (expr type place form) = refl

place_no_pointer : (core : CExpr) → is_null_pointer (value_of_place core) ≡ false
place_no_pointer (expr (ty void is_const) place form) = refl
place_no_pointer (expr (ty (basic which) is_const) place form) = refl
place_no_pointer (expr (ty (enum_type number) is_const) place form) = refl
place_no_pointer (expr (ty (pointer to) is_const) place form) = refl
place_no_pointer (expr (ty (array element length) is_const) place form) = refl
place_no_pointer (expr (ty (record_type number) is_const) place form) = refl
place_no_pointer (expr (ty (function result params variadic) is_const) place form) = refl

nothing_no_pointer : (core : CExpr) → is_null_pointer (value_by VoidPlace core) ≡ false
nothing_no_pointer (expr type place form) = refl

null_by : (types : CTypes) (value : CExpr) → constant_of types value ≡ None → is_null_pointer value ≡ false → is_null_constant types value ≡ false
unfolding is_null_constant
null_by types value no_constant_is no_pointer_is = rw (no_constant_is, no_pointer_is) refl

pub place_no_null : (types : CTypes) (core : CExpr) → is_null_constant types (value_of_place core) ≡ false
place_no_null types core = null_by types (value_of_place core) (place_no_constant types core) (place_no_pointer core)

pub nothing_no_null : (types : CTypes) (core : CExpr) → is_null_constant types (value_by VoidPlace core) ≡ false
nothing_no_null types core = null_by types (value_by VoidPlace core) (nothing_no_constant types core) (nothing_no_pointer core)
