-- What the types of operands in a unit allow, the renumbered types allow in the program (ISO C99, 6.3, 6.5).
use Rattle.std.proofs.Common.{◌≡◌, ◌⊎◌, inl, inr, ℕ, ℤ, false, length, Option, Some, sym, ap, ◌∙◌, subst}
use Rattle.std.specs.Prelude.{IfSome}
use Rattle.cr_base.specs.Scalar.{IsInRange}
use Rattle.cr_base.specs.declared.layout.Spot.{Spot}
use Rattle.cr_base.specs.declared.scalar.Scalar.{Scalar}
use Rattle.cx_core.specs.declared.expr.Op1.{Op1}
use Rattle.cx_core.specs.declared.expr.Op1.TheVariants.{Plus, Minus, Complement, Not}
use Rattle.cx_core.specs.declared.expr.Op2.{Op2}
use Rattle.cx_core.specs.declared.expr.Op2.TheVariants.{Multiply, Divide, Remainder, Add, Subtract, ShiftLeft, ShiftRight, Less, Greater, LessOrEqual, GreaterOrEqual, Equal, NotEqual, BitAnd, BitXor, BitOr}
use Rattle.cx_core.specs.declared.ty.Basic.{Basic}
use Rattle.cx_core.specs.declared.ty.Basic.TheVariants.{Truth}
use Rattle.cx_core.specs.Compatible.{AreCompatible}
use Rattle.cx_core.specs.Conversions.{promoted, scalar_of, IsIntegerType, IsPromoted, IsScalarType}
use Rattle.cx_core.specs.Trees.{CTy, ty, CTyForm, void, basic, enum_type, pointer, array, record_type, function, form_of_type, unqualified, CTypes}
use Rattle.cx_core.specs.Typing.{IsConstantOf, IsPointer, IsLoadOf, IsDerefOf, IsMemberValue, IsConversion, IsPromotedOf, IsUnaryOf, AreCommon, IsElementPointer, IsMoved, PointAlike, IsDifference, IsShift, AreNumbers, AreOrdered, AreEqual, IsBinaryOf, AreTested, IsChoice, IsAssignOf, AreJoined, IsComputedIn, IsStepOf, IsPutOf}
use Rattle.cx_core.specs.ValidTypes.{IsTypeIn, IsComplete}
use Rattle.cx_renumber.specs.Numbers.{CCounts, type_there, form_there}
use Rattle.cx_typed_links.proofs.Compatible.{compatible_there}
use Rattle.cx_typed_links.proofs.Constant.{modifiable_there}
use Rattle.cx_typed_links.proofs.Parts.{is_member_there, is_part_there}
use Rattle.cx_typed_links.proofs.Sizes.{complete_there}
use Rattle.cx_typed_links.proofs.Types.{const_of_there, unqualified_there, of_object_there, of_result_there, is_promoted_there, common_type_there, pointer_scalar_there, scalar_same, integer_there, is_scalar_there, promoted_there}
use Rattle.cx_typed_links.specs.Embedding.{AreUnitTypes}

pub either : {A B C D : Type 0} → (A → C) → (B → D) → A ⊎ B → C ⊎ D
either first second (inl held) = inl (first held)
either first second (inr held) = inr (second held)

module _ (unit : ℕ) (before : CCounts) (one whole : CTypes) (in_unit : AreUnitTypes unit before one whole) where
  abbrev moved : CTy → CTy
  moved type = type_there before type

  abbrev Known : CTy → Type 0
  Known type = IsTypeIn one unit type

  scalar_is : (type : CTy) → Known type → scalar_of whole (form_of_type (moved type)) ≡ scalar_of one (form_of_type type)
  scalar_is type known = scalar_same before one whole in_unit.inside in_unit.types.enum_units unit type known

  integer_is : (type : CTy) → Known type → IsIntegerType one type → IsIntegerType whole (moved type)
  integer_is type known held = integer_there before one whole in_unit.inside in_unit.types.enum_units unit type known held

  pub scalar_goes : (type : CTy) → Known type → IsScalarType one type → IsScalarType whole (moved type)
  scalar_goes type known held = is_scalar_there before one whole in_unit.inside in_unit.types.enum_units unit type known held

  complete_is : (type : CTy) → IsComplete one type → IsComplete whole (moved type)
  complete_is type held = complete_there before one whole in_unit.inside type held

  -- ---- constants, loads, places and members

  pub constant_there : (type : CTy) (value : ℤ) → Known type → IsConstantOf one type value → IsConstantOf whole (moved type) value
  constant_there type value known held = record {
    plain = const_of_there before type ∙ held.plain;
    integer = integer_is type known held.integer;
    in_range = subst (λ (found : Option Scalar). IfSome found (λ scalar. IsInRange scalar value)) (sym (scalar_is type known)) held.in_range;
  }

  pub pointer_there : (type : CTy) → IsPointer type → IsPointer (moved type)
  pointer_there (ty (pointer to) is_const) held = held
  pointer_there (ty form is_const) held = absurd held

  pub load_there : (type from : CTy) → IsLoadOf one type from → IsLoadOf whole (moved type) (moved from)
  load_there type from held = record {
    complete = complete_is from held.complete;
    no_array = of_result_there before from held.no_array;
    type_is = ap moved held.type_is ∙ unqualified_there before from;
  }

  pub deref_there : (type pointer_type : CTy) → IsDerefOf type pointer_type → IsDerefOf (moved type) (moved pointer_type)
  deref_there type pointer_type held = record { object = of_object_there before type held.object; pointer_is = ap moved held.pointer_is }

  pub member_value_there : (holder : CTy) (spot : Spot) (type : CTy) → IsMemberValue one holder spot type → IsMemberValue whole (moved holder) spot (moved type)
  member_value_there holder spot type held = record {
    declared = moved held.declared;
    member = is_member_there before one whole in_unit.inside holder spot held.declared held.member;
    no_array = of_result_there before held.declared held.no_array;
    type_is = ap moved held.type_is ∙ unqualified_there before held.declared;
  }

  pub put_of_there : (holder : CTy) (spot : Spot) (type value : CTy) → IsPutOf one holder spot type value
      → IsPutOf whole (moved holder) spot (moved type) (moved value)
  put_of_there holder spot type value held = record {
    part = is_part_there before one whole in_unit.inside holder spot type held.part;
    no_array = of_result_there before type held.no_array;
    value_is = ap moved held.value_is ∙ unqualified_there before type;
  }

  -- ---- conversions

  abbrev IsToBasicOf : CTypes → CTy → Basic → Type 0
  IsToBasicOf types from Truth = IsScalarType types from
  IsToBasicOf types from _ = IsIntegerType types from

  to_basic_there : (from : CTy) (which : Basic) → Known from → IsToBasicOf one from which → IsToBasicOf whole (moved from) which
  to_basic_there from Truth known held = scalar_goes from known held
  to_basic_there from which known held = integer_is from known held

  abbrev IsConversionOf : CTypes → CTy → CTyForm → Type 0
  IsConversionOf types from void = Unit {0}
  IsConversionOf types from (basic which) = IsToBasicOf types from which
  IsConversionOf types from (enum_type number) = IsIntegerType types from
  IsConversionOf types from (pointer to) = IsPointer from × (scalar_of types (form_of_type from) ≡ scalar_of types (pointer to))
  IsConversionOf types from _ = ⊥

  conversion_to_there : (from : CTy) (form : CTyForm) → Known from → IsConversionOf one from form → IsConversionOf whole (moved from) (form_there before form)
  conversion_to_there from void known held = held
  conversion_to_there from (basic which) known held = to_basic_there from which known held
  conversion_to_there from (enum_type number) known held = integer_is from known held
  conversion_to_there from (pointer to) known held =
      (pointer_there from held.0, scalar_is from known ∙ held.1 ∙ ap (λ scalar. Some scalar) (sym (pointer_scalar_there before to)))
  conversion_to_there from form known held = absurd held

  pub conversion_there : (from type : CTy) → Known from → IsConversion one from type → IsConversion whole (moved from) (moved type)
  conversion_there from (ty form is_const) known held = record { plain = held.plain; allowed = conversion_to_there from form known held.allowed }

  -- ---- operators with one operand

  promoted_of_there : (type value : CTy) → IsPromotedOf type value → IsPromotedOf (moved type) (moved value)
  promoted_of_there type value held = record { promoted = is_promoted_there before type held.promoted; value_is = ap moved held.value_is }

  pub unary_there : (op : Op1) (type value : CTy) → Known value → IsUnaryOf one op type value → IsUnaryOf whole op (moved type) (moved value)
  unary_there Plus type value known held = promoted_of_there type value held
  unary_there Minus type value known held = promoted_of_there type value held
  unary_there Complement type value known held = promoted_of_there type value held
  unary_there Not type value known held = record { scalar = scalar_goes value known held.scalar; type_is = ap moved held.type_is }

  -- ---- operators with two operands

  common_there : (type left right : CTy) → AreCommon type left right → AreCommon (moved type) (moved left) (moved right)
  common_there type left right held = record {
    promoted = is_promoted_there before type held.promoted;
    left_is = ap moved held.left_is;
    right_is = ap moved held.right_is;
  }

  pub element_pointer_there : (type : CTy) → IsElementPointer one type → IsElementPointer whole (moved type)
  element_pointer_there (ty (pointer to) is_const) held = (held.0, complete_is to held.1)
  element_pointer_there (ty form is_const) held = absurd held

  moved_there : (type pointer_type by : CTy) → Known by → IsMoved one type pointer_type by → IsMoved whole (moved type) (moved pointer_type) (moved by)
  moved_there type pointer_type by known held = record {
    elements = element_pointer_there pointer_type held.elements;
    integer = integer_is by known held.integer;
    type_is = ap moved held.type_is;
  }

  point_alike_there : (left right : CTy) → PointAlike one left right → PointAlike whole (moved left) (moved right)
  point_alike_there (ty (pointer left) left_const) (ty (pointer right) right_const) held =
      subst (λ first. AreCompatible whole first (unqualified (moved right))) (unqualified_there before left)
      (subst (λ second. AreCompatible whole (moved (unqualified left)) second) (unqualified_there before right)
      (compatible_there unit before one whole in_unit (unqualified left) (unqualified right) held))
  point_alike_there left right held = absurd held

  difference_there : (type left right : CTy) → IsDifference one type left right → IsDifference whole (moved type) (moved left) (moved right)
  difference_there type left right held = record {
    left_elements = element_pointer_there left held.left_elements;
    right_elements = element_pointer_there right held.right_elements;
    alike = point_alike_there left right held.alike;
    type_is = ap moved held.type_is;
  }

  shift_there : (type left right : CTy) → IsShift type left right → IsShift (moved type) (moved left) (moved right)
  shift_there type left right held = record {
    promoted = is_promoted_there before type held.promoted;
    left_is = ap moved held.left_is;
    right_promoted = is_promoted_there before right held.right_promoted;
  }

  numbers_there : (type left right : CTy) → AreNumbers type left right → AreNumbers (moved type) (moved left) (moved right)
  numbers_there type left right held = record {
    promoted = is_promoted_there before left held.promoted;
    right_is = ap moved held.right_is;
    type_is = ap moved held.type_is;
  }

  ordered_there : (type left right : CTy) → Known left → AreOrdered one type left right → AreOrdered whole (moved type) (moved left) (moved right)
  ordered_there type left right known held = record {
    objects = scalar_is left known ∙ held.objects;
    alike = point_alike_there left right held.alike;
    type_is = ap moved held.type_is;
  }

  equal_there : (type left right : CTy) → AreEqual one type left right → AreEqual whole (moved type) (moved left) (moved right)
  equal_there type left right held = record { alike = point_alike_there left right held.alike; type_is = ap moved held.type_is }

  module _ (type left right : CTy) (left_known : Known left) (right_known : Known right) where
    sum_there : AreCommon type left right ⊎ (IsMoved one type left right ⊎ IsMoved one type right left)
        → AreCommon (moved type) (moved left) (moved right) ⊎ (IsMoved whole (moved type) (moved left) (moved right) ⊎ IsMoved whole (moved type) (moved right) (moved left))
    sum_there = either (common_there type left right) (either (moved_there type left right right_known) (moved_there type right left left_known))

    subtraction_there : AreCommon type left right ⊎ (IsMoved one type left right ⊎ IsDifference one type left right)
        → AreCommon (moved type) (moved left) (moved right) ⊎ (IsMoved whole (moved type) (moved left) (moved right) ⊎ IsDifference whole (moved type) (moved left) (moved right))
    subtraction_there = either (common_there type left right) (either (moved_there type left right right_known) (difference_there type left right))

    order_there : AreNumbers type left right ⊎ AreOrdered one type left right
        → AreNumbers (moved type) (moved left) (moved right) ⊎ AreOrdered whole (moved type) (moved left) (moved right)
    order_there = either (numbers_there type left right) (ordered_there type left right left_known)

    equality_there : AreNumbers type left right ⊎ AreEqual one type left right
        → AreNumbers (moved type) (moved left) (moved right) ⊎ AreEqual whole (moved type) (moved left) (moved right)
    equality_there = either (numbers_there type left right) (equal_there type left right)

    pub binary_there : (op : Op2) → IsBinaryOf one op type left right → IsBinaryOf whole op (moved type) (moved left) (moved right)
    binary_there Multiply held = common_there type left right held
    binary_there Divide held = common_there type left right held
    binary_there Remainder held = common_there type left right held
    binary_there Add held = sum_there held
    binary_there Subtract held = subtraction_there held
    binary_there ShiftLeft held = shift_there type left right held
    binary_there ShiftRight held = shift_there type left right held
    binary_there Less held = order_there held
    binary_there Greater held = order_there held
    binary_there LessOrEqual held = order_there held
    binary_there GreaterOrEqual held = order_there held
    binary_there Equal held = equality_there held
    binary_there NotEqual held = equality_there held
    binary_there BitAnd held = common_there type left right held
    binary_there BitXor held = common_there type left right held
    binary_there BitOr held = common_there type left right held

    pub tested_there : AreTested one type left right → AreTested whole (moved type) (moved left) (moved right)
    tested_there held = record {
      left_scalar = scalar_goes left left_known held.left_scalar;
      right_scalar = scalar_goes right right_known held.right_scalar;
      type_is = ap moved held.type_is;
    }

  -- ---- `?:`

  abbrev IsChosenForm : CTy → Type 0
  IsChosenForm (ty (basic which) is_const) = IsPromoted (ty (basic which) is_const)
  IsChosenForm (ty (enum_type number) is_const) = ⊥
  IsChosenForm (ty (array element length) is_const) = ⊥
  IsChosenForm (ty (function result params variadic) is_const) = ⊥
  IsChosenForm (ty form is_const) = is_const ≡ false

  choice_form_there : (type : CTy) → IsChosenForm type → IsChosenForm (moved type)
  choice_form_there (ty void is_const) held = held
  choice_form_there (ty (basic which) is_const) held = held
  choice_form_there (ty (enum_type number) is_const) held = held
  choice_form_there (ty (pointer to) is_const) held = held
  choice_form_there (ty (array element length) is_const) held = held
  choice_form_there (ty (record_type number) is_const) held = held
  choice_form_there (ty (function result params variadic) is_const) held = held

  pub choice_there : (type test first second : CTy) → Known test → IsChoice one type test first second
      → IsChoice whole (moved type) (moved test) (moved first) (moved second)
  choice_there type test first second known held = record {
    tested = scalar_goes test known held.tested;
    choice = choice_form_there type held.choice;
    first_is = ap moved held.first_is;
    second_is = ap moved held.second_is;
  }

  -- ---- assignment

  pub assign_there : (type target value : CTy) → IsAssignOf one type target value → IsAssignOf whole (moved type) (moved target) (moved value)
  assign_there type target value held = record {
    modifiable = modifiable_there before one whole in_unit.inside target held.modifiable;
    type_is = ap moved held.type_is ∙ unqualified_there before target;
    value_is = ap moved held.value_is;
  }

  joined_there : (computes target value : CTy) → AreJoined computes target value → AreJoined (moved computes) (moved target) (moved value)
  joined_there computes target value held = record {
    promoted = is_promoted_there before computes held.promoted;
    common = common_type_there before target computes ∙ ap moved held.common;
    value_is = ap moved held.value_is;
  }

  module _ (computes target value : CTy) (known : Known value) where
    joined_or_moved_there : AreJoined computes target value ⊎ IsMoved one computes target value
        → AreJoined (moved computes) (moved target) (moved value) ⊎ IsMoved whole (moved computes) (moved target) (moved value)
    joined_or_moved_there = either (joined_there computes target value) (moved_there computes target value known)

    computed_there : (op : Op2) → IsComputedIn one op computes target value → IsComputedIn whole op (moved computes) (moved target) (moved value)
    computed_there Multiply held = joined_there computes target value held
    computed_there Divide held = joined_there computes target value held
    computed_there Remainder held = joined_there computes target value held
    computed_there Add held = joined_or_moved_there held
    computed_there Subtract held = joined_or_moved_there held
    computed_there ShiftLeft held = shift_there computes target value held
    computed_there ShiftRight held = shift_there computes target value held
    computed_there BitAnd held = joined_there computes target value held
    computed_there BitXor held = joined_there computes target value held
    computed_there BitOr held = joined_there computes target value held
    computed_there Less held = held
    computed_there Greater held = held
    computed_there LessOrEqual held = held
    computed_there GreaterOrEqual held = held
    computed_there Equal held = held
    computed_there NotEqual held = held

  -- what is computed of a promoted target
  pub computed_of_there : (op : Op2) (computes target : CTy) (bits : Option ℕ) (value : CTy) → Known target → Known value
      → IsComputedIn one op computes (promoted one target bits) value
      → IsComputedIn whole op (moved computes) (promoted whole (moved target) bits) (moved value)
  computed_of_there op computes target bits value target_known value_known held =
      subst (λ found. IsComputedIn whole op (moved computes) found (moved value))
      (sym (promoted_there before one whole in_unit.inside in_unit.types.enum_units unit target bits target_known))
      (computed_there computes (promoted one target bits) value value_known op held)

  pub step_there : (type target : CTy) → Known type → IsStepOf one type target → IsStepOf whole (moved type) (moved target)
  step_there type target known held = record {
    modifiable = modifiable_there before one whole in_unit.inside target held.modifiable;
    type_is = ap moved held.type_is ∙ unqualified_there before target;
    stepped = either (integer_is type known) (element_pointer_there type) held.stepped;
  }
