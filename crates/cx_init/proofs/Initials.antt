-- Constants of static objects, by the forms of expressions.
use Rattle.std.proofs.Common.{◌≡◌, refl, ap, ◌∙◌, sym, ℕ, Bool, false, ◌&&◌, ◌||◌, None}
use Rattle.std.specs.Prelude.{is_some}
use Rattle.cx_core.specs.declared.expr.CoreExpr.{CoreExpr}
use Rattle.cx_core.specs.declared.expr.Op2.{Op2}
use Rattle.cx_core.specs.declared.expr.Op2.TheVariants as op2
use Rattle.cx_core.specs.Trees.{ty, void, basic, enum_type, pointer, array, record_type, function, CTypes, CExpr, expr, binary, type_of}
use Rattle.cx_core.specs.Views.{view_expr, view_type}
use Rattle.cx_init.specs.Constants.{adds}
use Rattle.cx_operands.proofs.Values.{place_no_constant, nothing_no_constant, type_of_view}
use Rattle.cx_rules.specs.declared.kinds.OperandKind.TheVariants.{Place, VoidPlace}
use Rattle.cx_rules.specs.Initial.{is_initial, is_initial_form, is_initial_pointer, is_fixed}
use Rattle.cx_rules.specs.Operands.{constant_of, value_by, value_of_place}
use Rattle.cx_rules.specs.Types.{is_array}

module _ (types : CTypes) (statics : ℕ → Bool) where
  pub initial_by : (value : CExpr) → (is_some (constant_of types value) || is_initial_pointer types statics value) ≡ is_initial types statics value
  initial_by (expr type place form) = refl

  pub sum_by : (op : Op2) (left right : CExpr) → (adds op && (is_initial types statics left && is_initial types statics right)) ≡ is_initial_form types statics (binary op left right)
  sum_by op2.Add left right = refl
  sum_by op2.Subtract left right = refl
  sum_by op2.Multiply left right = refl
  sum_by op2.Divide left right = refl
  sum_by op2.Remainder left right = refl
  sum_by op2.ShiftLeft left right = refl
  sum_by op2.ShiftRight left right = refl
  sum_by op2.Less left right = refl
  sum_by op2.Greater left right = refl
  sum_by op2.LessOrEqual left right = refl
  sum_by op2.GreaterOrEqual left right = refl
  sum_by op2.Equal left right = refl
  sum_by op2.NotEqual left right = refl
  sum_by op2.BitAnd left right = refl
  sum_by op2.BitXor left right = refl
  sum_by op2.BitOr left right = refl

  no_constant : (value : CExpr) (found : Bool) → constant_of types value ≡ None → is_initial_pointer types statics value ≡ found → is_initial types statics value ≡ found
  no_constant (expr type place form) found none is = rw none is

  place_pointer : (core : CExpr) → is_initial_pointer types statics (value_of_place core) ≡ (is_array (type_of core) && is_fixed types statics core)
  place_pointer (expr (ty void is_const) place form) = refl
  place_pointer (expr (ty (basic which) is_const) place form) = refl
  place_pointer (expr (ty (enum_type number) is_const) place form) = refl
  place_pointer (expr (ty (pointer to) is_const) place form) = refl
  place_pointer (expr (ty (array element length) is_const) place form) = refl
  place_pointer (expr (ty (record_type number) is_const) place form) = refl
  place_pointer (expr (ty (function result params variadic) is_const) place form) = refl

  pub of_place : (core : CExpr) → is_initial types statics (value_by Place core) ≡ (is_array (type_of core) && is_fixed types statics core)
  of_place core = no_constant (value_of_place core) (is_array (type_of core) && is_fixed types statics core) (place_no_constant types core) (place_pointer core)

  pub at_place : (core : CoreExpr) (here : Bool) → here ≡ is_array (view_type core.ty) → (here && is_fixed types statics (view_expr core)) ≡ is_initial types statics (value_by Place (view_expr core))
  at_place core here is =
      ap (λ b. b && is_fixed types statics (view_expr core)) (is ∙ ap is_array (sym (type_of_view core))) ∙ sym (of_place (view_expr core))

  nothing_pointer : (core : CExpr) → is_initial_pointer types statics (value_by VoidPlace core) ≡ false
  nothing_pointer (expr type place form) = refl

  pub of_nothing : (core : CExpr) → is_initial types statics (value_by VoidPlace core) ≡ false
  of_nothing core = no_constant (value_by VoidPlace core) false (nothing_no_constant types core) (nothing_pointer core)
