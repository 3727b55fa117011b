-- The value of a typed expression has a complete type, but where that is `void` (ISO C99, 6.3.2.1p2, 6.5.2.2p1, 6.5.16).
use Rattle.std.proofs.Common.{◌≡◌, ℕ, Bool, true, false, Option, Some, None, IsSome, IfSome, refl, sym, ap, subst, ◌∙◌, ◌⊎◌, inl, inr}
use Rattle.cx_core.specs.Conversions.{IsIntegerType, IsPromoted, IsScalarType}
use Rattle.cx_core.specs.Trees.{CTy, ty, CTyForm, void, basic, enum_type, pointer, array, record_type, function, form_of_type, is_const_type, unqualified, CTypes, CExpr, expr, whole, null, object, code, load, deref, member, address, convert, unary, binary, and, or, cond, assign, assign_by, step, call, call_by, comma, literal, CExprs, type_of}
use Rattle.cx_core.specs.Typing.{CCallee, CHome, IsAddressOf, IsBinaryOf, IsCallBy, IsCalleeOf, IsCallOf, IsCodeOf, IsConversion, IsElementPointer, IsMoved, IsPointer, IsResult, IsTyped, IsUnaryOf, callee_with}
use Rattle.cx_core.specs.ValidTypes.{AreTypes, IsComplete, IsResultForm, with_const}
use Rattle.cx_core.specs.declared.expr.Op1.{Op1}
use Rattle.cx_core.specs.declared.expr.Op1.TheVariants as op1
use Rattle.cx_core.specs.declared.expr.Op2.{Op2}
use Rattle.cx_core.specs.declared.expr.Op2.TheVariants as op2
use Rattle.cx_core.specs.declared.ty.Basic.{Basic}
use Rattle.cx_core.specs.declared.ty.Basic.TheVariants.{Truth, Char, SignedChar, UnsignedChar, Short, UnsignedShort, Int, Unsigned, Long, UnsignedLong, LongLong, UnsignedLongLong}
use Rattle.cx_typed_work.proofs.Fields.{member_in}
use Rattle.lift_held.specs.Held.{is_void}

module _ (types : CTypes) where
  basic_complete : (which : Basic) (is_const : Bool) → IsComplete types (ty (basic which) is_const)
  basic_complete Truth is_const = refl
  basic_complete Char is_const = refl
  basic_complete SignedChar is_const = refl
  basic_complete UnsignedChar is_const = refl
  basic_complete Short is_const = refl
  basic_complete UnsignedShort is_const = refl
  basic_complete Int is_const = refl
  basic_complete Unsigned is_const = refl
  basic_complete Long is_const = refl
  basic_complete UnsignedLong is_const = refl
  basic_complete LongLong is_const = refl
  basic_complete UnsignedLongLong is_const = refl

  pub integer_complete : (type : CTy) → IsIntegerType types type → IsComplete types type
  integer_complete (ty (basic which) is_const) is = basic_complete which is_const
  integer_complete (ty (enum_type number) is_const) is = refl
  integer_complete (ty void is_const) is = absurd cc
  integer_complete (ty (pointer to) is_const) is = absurd cc
  integer_complete (ty (array element length) is_const) is = absurd cc
  integer_complete (ty (record_type number) is_const) is = absurd cc
  integer_complete (ty (function result params variadic) is_const) is = absurd cc

  pub scalar_complete : (type : CTy) → IsScalarType types type → IsComplete types type
  scalar_complete (ty (basic which) is_const) is = basic_complete which is_const
  scalar_complete (ty (enum_type number) is_const) is = refl
  scalar_complete (ty (pointer to) is_const) is = refl
  scalar_complete (ty void is_const) is = absurd cc
  scalar_complete (ty (array element length) is_const) is = absurd cc
  scalar_complete (ty (record_type number) is_const) is = absurd cc
  scalar_complete (ty (function result params variadic) is_const) is = absurd cc

  pub promoted_complete : (type : CTy) → IsPromoted type → IsComplete types type
  promoted_complete (ty (basic which) is_const) is = basic_complete which is_const
  promoted_complete (ty void is_const) is = absurd (let h = is.0 in cc)
  promoted_complete (ty (enum_type number) is_const) is = refl
  promoted_complete (ty (pointer to) is_const) is = refl
  promoted_complete (ty (array element length) is_const) is = absurd (let h = is.0 in cc)
  promoted_complete (ty (record_type number) is_const) is = absurd (let h = is.0 in cc)
  promoted_complete (ty (function result params variadic) is_const) is = absurd (let h = is.0 in cc)

  pub pointer_complete : (type : CTy) → IsPointer type → IsComplete types type
  pointer_complete (ty (pointer to) is_const) is = refl
  pointer_complete (ty void is_const) is = absurd is
  pointer_complete (ty (basic which) is_const) is = absurd is
  pointer_complete (ty (enum_type number) is_const) is = absurd is
  pointer_complete (ty (array element length) is_const) is = absurd is
  pointer_complete (ty (record_type number) is_const) is = absurd is
  pointer_complete (ty (function result params variadic) is_const) is = absurd is

  element_complete : (type : CTy) → IsElementPointer types type → IsComplete types type
  element_complete (ty (pointer to) is_const) is = refl
  element_complete (ty void is_const) is = absurd is
  element_complete (ty (basic which) is_const) is = absurd is
  element_complete (ty (enum_type number) is_const) is = absurd is
  element_complete (ty (array element length) is_const) is = absurd is
  element_complete (ty (record_type number) is_const) is = absurd is
  element_complete (ty (function result params variadic) is_const) is = absurd is

  conversion_complete : (from type : CTy) → IsConversion types from type → is_void type ≡ false → IsComplete types type
  conversion_complete from (ty void is_const) is some = absurd cc
  conversion_complete from (ty (basic which) is_const) is some = basic_complete which is_const
  conversion_complete from (ty (enum_type number) is_const) is some = refl
  conversion_complete from (ty (pointer to) is_const) is some = refl
  conversion_complete from (ty (array element length) is_const) is some = absurd is.allowed
  conversion_complete from (ty (record_type number) is_const) is some = absurd is.allowed
  conversion_complete from (ty (function result params variadic) is_const) is some = absurd is.allowed

  pub plain_complete : (type : CTy) → IsComplete types type → IsComplete types (unqualified type)
  plain_complete (ty form is_const) is = is

  const_complete : (is_const : Bool) (type : CTy) → IsResultForm (form_of_type (with_const is_const type)) → IsComplete types type → IsComplete types (unqualified (with_const is_const type))
  const_complete false (ty form is_const) no_array is = is
  const_complete true (ty void is_const) no_array is = is
  const_complete true (ty (basic which) is_const) no_array is = is
  const_complete true (ty (enum_type number) is_const) no_array is = is
  const_complete true (ty (pointer to) is_const) no_array is = is
  const_complete true (ty (array element length) is_const) no_array is = absurd no_array
  const_complete true (ty (record_type number) is_const) no_array is = is
  const_complete true (ty (function result params variadic) is_const) no_array is = absurd no_array

  code_complete : (home : CHome) (number : ℕ) (type : CTy) → IsCodeOf home number type → IsComplete types type
  code_complete home number (ty (pointer to) is_const) is = refl
  code_complete home number (ty void is_const) is = absurd is
  code_complete home number (ty (basic which) is_const) is = absurd is
  code_complete home number (ty (enum_type n) is_const) is = absurd is
  code_complete home number (ty (array element length) is_const) is = absurd is
  code_complete home number (ty (record_type n) is_const) is = absurd is
  code_complete home number (ty (function result params variadic) is_const) is = absurd is

  -- the result of a call
  result_complete : (result : CTy) → IsResult types result → is_void (unqualified result) ≡ false → IsComplete types (unqualified result)
  result_complete (ty void is_const) is some = absurd cc
  result_complete (ty (basic which) is_const) is some = is
  result_complete (ty (enum_type number) is_const) is some = is
  result_complete (ty (pointer to) is_const) is some = is
  result_complete (ty (array element length) is_const) is some = is
  result_complete (ty (record_type number) is_const) is some = is
  result_complete (ty (function result params variadic) is_const) is some = is

  call_complete : (type : CTy) (args : CExprs) (form : CTyForm) → IsCallOf types type args form → is_void type ≡ false → IsComplete types type
  call_complete type args (function result params variadic) is some =
      subst (IsComplete types) (sym is.0) (result_complete result is.1 (ap is_void (sym is.0) ∙ some))
  call_complete type args void is some = absurd is
  call_complete type args (basic which) is some = absurd is
  call_complete type args (enum_type number) is some = absurd is
  call_complete type args (pointer to) is some = absurd is
  call_complete type args (array element length) is some = absurd is
  call_complete type args (record_type number) is some = absurd is

  call_by_complete : (type : CTy) (args : CExprs) (callee : CTy) → IsCallBy types type args callee → is_void type ≡ false → IsComplete types type
  call_by_complete type args (ty (pointer to) is_const) is some = call_complete type args (form_of_type to) is some
  call_by_complete type args (ty void is_const) is some = absurd is
  call_by_complete type args (ty (basic which) is_const) is some = absurd is
  call_by_complete type args (ty (enum_type number) is_const) is some = absurd is
  call_by_complete type args (ty (array element length) is_const) is some = absurd is
  call_by_complete type args (ty (record_type number) is_const) is some = absurd is
  call_by_complete type args (ty (function result params variadic) is_const) is some = absurd is

  unary_complete : (op : Op1) (type value : CTy) → IsUnaryOf types op type value → IsComplete types type
  unary_complete op1.Plus type value is = promoted_complete type is.promoted
  unary_complete op1.Minus type value is = promoted_complete type is.promoted
  unary_complete op1.Complement type value is = promoted_complete type is.promoted
  unary_complete op1.Not type value is = subst (IsComplete types) (sym is.type_is) refl

  moved_complete : (type at by : CTy) → IsMoved types type at by → IsComplete types type
  moved_complete type at by is = subst (IsComplete types) (sym is.type_is) (element_complete at is.elements)

  binary_complete : (op : Op2) (type left right : CTy) → IsBinaryOf types op type left right → IsComplete types type
  binary_complete op2.Multiply type left right is = promoted_complete type is.promoted
  binary_complete op2.Divide type left right is = promoted_complete type is.promoted
  binary_complete op2.Remainder type left right is = promoted_complete type is.promoted
  binary_complete op2.Add type left right (inl is) = promoted_complete type is.promoted
  binary_complete op2.Add type left right (inr (inl is)) = moved_complete type left right is
  binary_complete op2.Add type left right (inr (inr is)) = moved_complete type right left is
  binary_complete op2.Subtract type left right (inl is) = promoted_complete type is.promoted
  binary_complete op2.Subtract type left right (inr (inl is)) = moved_complete type left right is
  binary_complete op2.Subtract type left right (inr (inr is)) = subst (IsComplete types) (sym is.type_is) refl
  binary_complete op2.ShiftLeft type left right is = promoted_complete type is.promoted
  binary_complete op2.ShiftRight type left right is = promoted_complete type is.promoted
  binary_complete op2.Less type left right (inl is) = subst (IsComplete types) (sym is.type_is) refl
  binary_complete op2.Less type left right (inr is) = subst (IsComplete types) (sym is.type_is) refl
  binary_complete op2.Greater type left right (inl is) = subst (IsComplete types) (sym is.type_is) refl
  binary_complete op2.Greater type left right (inr is) = subst (IsComplete types) (sym is.type_is) refl
  binary_complete op2.LessOrEqual type left right (inl is) = subst (IsComplete types) (sym is.type_is) refl
  binary_complete op2.LessOrEqual type left right (inr is) = subst (IsComplete types) (sym is.type_is) refl
  binary_complete op2.GreaterOrEqual type left right (inl is) = subst (IsComplete types) (sym is.type_is) refl
  binary_complete op2.GreaterOrEqual type left right (inr is) = subst (IsComplete types) (sym is.type_is) refl
  binary_complete op2.Equal type left right (inl is) = subst (IsComplete types) (sym is.type_is) refl
  binary_complete op2.Equal type left right (inr is) = subst (IsComplete types) (sym is.type_is) refl
  binary_complete op2.NotEqual type left right (inl is) = subst (IsComplete types) (sym is.type_is) refl
  binary_complete op2.NotEqual type left right (inr is) = subst (IsComplete types) (sym is.type_is) refl
  binary_complete op2.BitAnd type left right is = promoted_complete type is.promoted
  binary_complete op2.BitXor type left right is = promoted_complete type is.promoted
  binary_complete op2.BitOr type left right is = promoted_complete type is.promoted

  address_complete : {B : Type 0} (type to : CTy) → (B → IsComplete types type) → (type ≡ ty (pointer to) false) ⊎ B → IsComplete types type
  address_complete type to of_first (inl same) = subst (IsComplete types) (sym same) refl
  address_complete type to of_first (inr first) = of_first first

  first_complete : (type : CTy) (of : CExpr) → IsAddressOf type of → IsComplete types type
  first_complete type (expr (ty (array element length) is_const) place form) is =
      address_complete type (ty (array element length) is_const) (λ first. subst (IsComplete types) (sym first) refl) is.type_is
  first_complete type (expr (ty void is_const) place form) is = address_complete type (ty void is_const) (λ none. absurd none) is.type_is
  first_complete type (expr (ty (basic which) is_const) place form) is = address_complete type (ty (basic which) is_const) (λ none. absurd none) is.type_is
  first_complete type (expr (ty (enum_type number) is_const) place form) is = address_complete type (ty (enum_type number) is_const) (λ none. absurd none) is.type_is
  first_complete type (expr (ty (pointer to) is_const) place form) is = address_complete type (ty (pointer to) is_const) (λ none. absurd none) is.type_is
  first_complete type (expr (ty (record_type number) is_const) place form) is = address_complete type (ty (record_type number) is_const) (λ none. absurd none) is.type_is
  first_complete type (expr (ty (function result params variadic) is_const) place form) is =
      address_complete type (ty (function result params variadic) is_const) (λ none. absurd none) is.type_is

pub value_complete : (home : CHome) (e : CExpr) → AreTypes home.program.types → IsTyped home e → is_void (type_of e) ≡ false → IsComplete home.program.types (type_of e)
value_complete home (expr type place (whole value)) are typed some = integer_complete home.program.types type typed.1.integer
value_complete home (expr type place null) are typed some = pointer_complete home.program.types type typed.1
value_complete home (expr type place (object number)) are typed some = absurd typed.1
value_complete home (expr type place (code number)) are typed some = code_complete home.program.types home number type typed.1
value_complete home (expr type place (load from)) are typed some = subst (IsComplete home.program.types) (sym typed.1.1.type_is) (plain_complete home.program.types (type_of from) typed.1.1.complete)
value_complete home (expr type place (deref from)) are typed some = absurd typed.1
value_complete home (expr type place (member of spot)) are typed some =
    let part = typed.1.1.member in
    subst (IsComplete home.program.types) (sym (typed.1.1.type_is ∙ ap unqualified part.type_is))
    (const_complete home.program.types (is_const_type (type_of of)) part.one.type (subst (λ (t : CTy). IsResultForm (form_of_type t)) part.type_is typed.1.1.no_array) (member_in home.program.types (form_of_type (type_of of)) part.index part.one are part.member_is).1.complete)
value_complete home (expr type place (address of)) are typed some = first_complete home.program.types type of typed.1.1
value_complete home (expr type place (convert value)) are typed some = conversion_complete home.program.types (type_of value) type typed.1.1 some
value_complete home (expr type place (unary op value)) are typed some = unary_complete home.program.types op type (type_of value) typed.1.1
value_complete home (expr type place (binary op left right)) are typed some = binary_complete home.program.types op type (type_of left) (type_of right) typed.1.2
value_complete home (expr type place (and left right)) are typed some = subst (IsComplete home.program.types) (sym typed.1.2.type_is) refl
value_complete home (expr type place (or left right)) are typed some = subst (IsComplete home.program.types) (sym typed.1.2.type_is) refl
value_complete home (expr type place (cond test first second)) are typed some =
    subst (IsComplete home.program.types) typed.1.3.first_is (value_complete home first are typed.1.1 (ap is_void typed.1.3.first_is ∙ some))
value_complete home (expr type place (assign target value)) are typed some =
    subst (IsComplete home.program.types) (sym typed.1.2.type_is) (plain_complete home.program.types (type_of target) typed.1.2.modifiable.complete)
value_complete home (expr type place (assign_by op computes target value)) are typed some =
    subst (IsComplete home.program.types) (sym typed.1.2.type_is) (plain_complete home.program.types (type_of target) typed.1.2.modifiable.complete)
value_complete home (expr type place (step up post on)) are typed some =
    subst (IsComplete home.program.types) (sym typed.1.1.type_is) (plain_complete home.program.types (type_of on) typed.1.1.modifiable.complete)
value_complete home (expr type place (call callee args)) are typed some = by (callee_with callee home.program) typed.1.1.0 typed.1.1.1
  where
    by : (found : Option CCallee) → IsSome found → IfSome found (IsCalleeOf home type args) → IsComplete home.program.types type
    by None some_callee is = absurd cc
    by (Some one) some_callee is = call_complete home.program.types type args (form_of_type is.visible) is.call some
value_complete home (expr type place (call_by callee args)) are typed some = call_by_complete home.program.types type args (type_of callee) typed.1.2 some
value_complete home (expr type place (comma first second)) are typed some =
    subst (IsComplete home.program.types) (sym typed.1.2) (value_complete home second are typed.1.1 (ap is_void (sym typed.1.2) ∙ some))
value_complete home (expr type place (literal number puts)) are typed some = absurd typed.1
