-- `?:` (ISO C99, 6.5.15).
use Rattle.std.proofs.Common.{◌≡◌, ℕ, Bool, true, false, ◌||◌, ◌&&◌, if◌then◌else◌, List, Option, None, Some, is_some, is_none, refl, sym, ap, ◌∙◌, subst, inl, inr, ◌⊎◌}
use Rattle.std.specs.Prelude.{IfSome, ◌<◌}
use Rattle.cr_base.specs.declared.refusal.Place.{Place as TextPlace}
use Rattle.cr_base.specs.declared.scalar.Scalar.TheVariants as scalar
use Rattle.cx_core.specs.Conversions.{scalar_of_pointer, IsPromoted, IsScalarType}
use Rattle.cx_core.specs.Layouts.{CLayouts, array_extent, elements, whole_extent, layouts_of}
use Rattle.cx_core.specs.Trees.{CTy, ty, void, basic, enum_type, pointer, array, record_type, function, is_const_type, unqualified, CTypes, CExpr, type_of}
use Rattle.cx_core.specs.Typing.{CHome, IsTyped, IsConversion}
use Rattle.cx_core.specs.ValidTypes.{IsTypeIn, IsComplete}
use Rattle.cx_rules.specs.Meanings.{cond_meaning, chosen_as, choice_type, pointer_choice, unqualified_composite}
use Rattle.cx_rules.specs.Nodes.{cond_node}
use Rattle.cx_rules.specs.Operands.{COperand, value_of, value_type, gives_nothing, holds_nothing, converted_to, common_of, fitted, is_null_constant}
use Rattle.cx_rules.specs.Pairs.{void_beside}
use Rattle.cx_rules.specs.Scope.{CScope}
use Rattle.cx_rules.specs.Types.{is_integer, is_pointer, is_void, record_of, compatible, point_alike, composite, qualified, same_type, void_type}
use Rattle.cx_typed.proofs.Binary.{chooses}
use Rattle.cx_typed.proofs.Composites.{composite_in, composite_settled, complete_from}
use Rattle.cx_typed.proofs.Computing.{void_is_pointer}
use Rattle.cx_typed.proofs.Conversions.{IsConverted, converted_is}
use Rattle.cx_typed.proofs.Fitting.{same_scalar, void_scalar, record_number, same_record}
use Rattle.cx_typed.proofs.Growing.{type_stays}
use Rattle.cx_typed.proofs.Pointing.{points, object_is_pointer, first_is_pointer, second_is_pointer, pointer_from, pointer_fitted}
use Rattle.cx_typed.proofs.Promoted.{neither, not_not, common_value_type, common_there, scalar_there, have_common}
use Rattle.cx_typed.proofs.Same.{both}
use Rattle.cx_typed.proofs.Single.{no_less}
use Rattle.cx_typed.proofs.Values.{value_is, value_type_is, unqualified_known}
use Rattle.cx_typed.specs.Growth.{Grows, IsSettled}
use Rattle.cx_typed.specs.Operands.{IsKnownType, IsValueType, IsOperandType, IsTypedOperand}
use Rattle.cx_typed.specs.Unbroken.{IsUnbroken}

-- ---- qualified types (6.7.3)

qualified_size : (layouts : CLayouts) (is_const : Bool) (type : CTy) → whole_extent layouts (qualified is_const type) ≡ whole_extent layouts type
qualified_size layouts false type = refl
qualified_size layouts true (ty (array element length) is_const) = ap (array_extent length) (qualified_size layouts true element)
qualified_size layouts true (ty void is_const) = refl
qualified_size layouts true (ty (basic which) is_const) = refl
qualified_size layouts true (ty (enum_type number) is_const) = refl
qualified_size layouts true (ty (pointer to) is_const) = refl
qualified_size layouts true (ty (record_type number) is_const) = refl
qualified_size layouts true (ty (function result params variadic) is_const) = refl

module _ (types : CTypes) (unit : ℕ) where
  length_qualified : (element : CTy) (length : Option ℕ)
      → IfSome length (λ count. (0 < count) × IsComplete types (ty (array element length) false))
      → IfSome length (λ count. (0 < count) × IsComplete types (ty (array (qualified true element) length) false))
  length_qualified element None held = held
  length_qualified element (Some count) held = (
    held.0,
    complete_from (layouts_of types) (ty (array element (Some count)) false) (ty (array (qualified true element) (Some count)) false)
        (λ laid is. ap (elements count) (qualified_size (layouts_of types) true element) ∙ is) held.1,
  )

  pub qualified_in : (is_const : Bool) (type : CTy) → IsTypeIn types unit type → IsTypeIn types unit (qualified is_const type)
  qualified_in false type held = held
  qualified_in true (ty (array element length) is_const) held = (
    qualified_in true element held.0,
    record {
      plain = held.1.plain;
      complete = complete_from (layouts_of types) element (qualified true element) (λ laid is. qualified_size (layouts_of types) true element ∙ is) held.1.complete;
      length = length_qualified element length held.1.length;
    },
  )
  qualified_in true (ty void is_const) held = held
  qualified_in true (ty (basic which) is_const) held = held
  qualified_in true (ty (enum_type number) is_const) held = held
  qualified_in true (ty (pointer to) is_const) held = held
  qualified_in true (ty (record_type number) is_const) held = held
  qualified_in true (ty (function result params variadic) is_const) held = held

pub qualified_settled : (opens : List ℕ) (is_const : Bool) (type : CTy) → IsSettled opens type → IsSettled opens (qualified is_const type)
qualified_settled opens false type held = held
qualified_settled opens true (ty (array element length) is_const) held = qualified_settled opens true element held
qualified_settled opens true (ty void is_const) held = held
qualified_settled opens true (ty (basic which) is_const) held = held
qualified_settled opens true (ty (enum_type number) is_const) held = held
qualified_settled opens true (ty (pointer to) is_const) held = held
qualified_settled opens true (ty (record_type number) is_const) held = held
qualified_settled opens true (ty (function result params variadic) is_const) held = held

qualified_scalar : (is_const : Bool) (type : CTy) → scalar_of_pointer (qualified is_const type) ≡ scalar_of_pointer type
qualified_scalar false type = refl
qualified_scalar true (ty (array element length) is_const) = refl
qualified_scalar true (ty void is_const) = refl
qualified_scalar true (ty (basic which) is_const) = refl
qualified_scalar true (ty (enum_type number) is_const) = refl
qualified_scalar true (ty (pointer to) is_const) = refl
qualified_scalar true (ty (record_type number) is_const) = refl
qualified_scalar true (ty (function result params variadic) is_const) = refl

composite_scalar : (one other : CTy) → scalar_of_pointer (composite one other) ≡ scalar_of_pointer one
composite_scalar (ty (basic one) one_const) (ty (enum_type other) other_const) = refl
composite_scalar (ty (pointer one) one_const) (ty (pointer other) other_const) = refl
composite_scalar (ty (array one one_length) one_const) (ty (array other other_length) other_const) = refl
composite_scalar (ty (function one one_params one_more) one_const) (ty (function other other_params other_more) other_const) = refl
composite_scalar (ty void one_const) (ty other other_const) = refl
composite_scalar (ty (basic one) one_const) (ty other other_const) = refl
composite_scalar (ty (enum_type one) one_const) (ty other other_const) = refl
composite_scalar (ty (pointer one) one_const) (ty other other_const) = refl
composite_scalar (ty (array one one_length) one_const) (ty other other_const) = refl
composite_scalar (ty (record_type one) one_const) (ty other other_const) = refl
composite_scalar (ty (function one one_params one_more) one_const) (ty other other_const) = refl

plain_scalar : (type : CTy) → scalar_of_pointer (unqualified type) ≡ scalar_of_pointer type
plain_scalar (ty void is_const) = refl
plain_scalar (ty (basic which) is_const) = refl
plain_scalar (ty (enum_type number) is_const) = refl
plain_scalar (ty (pointer to) is_const) = refl
plain_scalar (ty (array element length) is_const) = refl
plain_scalar (ty (record_type number) is_const) = refl
plain_scalar (ty (function result params variadic) is_const) = refl

-- a pointer to what both point to, with the qualifiers of both
abbrev both_point : CTy → CTy → CTy
both_point one other = qualified (is_const_type one || is_const_type other) (unqualified_composite one other)

both_scalar : (one other : CTy) → scalar_of_pointer (both_point one other) ≡ scalar_of_pointer one
both_scalar one other =
    qualified_scalar (is_const_type one || is_const_type other) (unqualified_composite one other)
    ∙ composite_scalar (unqualified one) (unqualified other) ∙ plain_scalar one

-- ---- values that are given

plain_void : (type : CTy) → is_const_type type ≡ false → is_void type ≡ true → type ≡ void_type
plain_void (ty void is_const) plain is = ap (ty void) plain
plain_void (ty (basic which) is_const) plain is = absurd cc
plain_void (ty (enum_type number) is_const) plain is = absurd cc
plain_void (ty (pointer to) is_const) plain is = absurd cc
plain_void (ty (array element length) is_const) plain is = absurd cc
plain_void (ty (record_type number) is_const) plain is = absurd cc
plain_void (ty (function result params variadic) is_const) plain is = absurd cc

record IsRecordType (type : CTy) : Type 0 where
  number : ℕ
  type_is : type ≡ ty (record_type number) false

plain_record : (type : CTy) → is_const_type type ≡ false → is_some (record_of type) ≡ true → IsRecordType type
plain_record (ty (record_type number) is_const) plain is = record { number = number; type_is = ap (ty (record_type number)) plain }
plain_record (ty void is_const) plain is = absurd cc
plain_record (ty (basic which) is_const) plain is = absurd cc
plain_record (ty (enum_type number) is_const) plain is = absurd cc
plain_record (ty (pointer to) is_const) plain is = absurd cc
plain_record (ty (array element length) is_const) plain is = absurd cc
plain_record (ty (function result params variadic) is_const) plain is = absurd cc

-- what `?:` may give: `void`, a value of promoted integer type, a pointer or a record (6.5.15p3)
abbrev IsChosenForm : CTy → Type 0
IsChosenForm (ty (basic which) is_const) = IsPromoted (ty (basic which) is_const)
IsChosenForm (ty (enum_type number) is_const) = ⊥
IsChosenForm (ty (array element length) is_const) = ⊥
IsChosenForm (ty (function result params variadic) is_const) = ⊥
IsChosenForm (ty form is_const) = is_const ≡ false

pointer_chosen : (type : CTy) → is_const_type type ≡ false → is_pointer type ≡ true → IsChosenForm type
pointer_chosen (ty (pointer to) is_const) plain is = plain
pointer_chosen (ty void is_const) plain is = absurd cc
pointer_chosen (ty (basic which) is_const) plain is = absurd cc
pointer_chosen (ty (enum_type number) is_const) plain is = absurd cc
pointer_chosen (ty (array element length) is_const) plain is = absurd cc
pointer_chosen (ty (record_type number) is_const) plain is = absurd cc
pointer_chosen (ty (function result params variadic) is_const) plain is = absurd cc

-- ---- the type of both together

abbrev IfChosen : (CTy → Type 0) → Option CTy → Type 0
IfChosen P None = ⊥
IfChosen P (Some type) = P type

module _ (opens : List ℕ) (types : CTypes) (unit : ℕ) (first second : COperand) (first_held : IsOperandType opens types unit first) (second_held : IsOperandType opens types unit second) where
  abbrev one_type : CTy
  one_type = value_type first

  abbrev other_type : CTy
  other_type = value_type second

  one_value : IsValueType opens types unit one_type
  one_value = value_type_is opens types unit first first_held

  other_value : IsValueType opens types unit other_type
  other_value = value_type_is opens types unit second second_held

  pointer_value : (to : CTy) → IsTypeIn types unit to → IsSettled opens to → IsValueType opens types unit (ty (pointer to) false)
  pointer_value to known settled = record { known = record { type_in = known; settled = settled }; plain = refl; form = tt }

  both_value : (one other : CTy) → compatible types (unqualified one) (unqualified other) ≡ true → IsKnownType opens types unit one → IsKnownType opens types unit other
      → IsValueType opens types unit (ty (pointer (both_point one other)) false)
  both_value one other alike one_known other_known =
      let first_plain = unqualified_known opens types unit one one_known in
      let second_plain = unqualified_known opens types unit other other_known in
      pointer_value (both_point one other)
      (qualified_in types unit (is_const_type one || is_const_type other) (unqualified_composite one other)
      (composite_in types unit (unqualified one) (unqualified other) alike first_plain.type_in second_plain.type_in))
      (qualified_settled opens (is_const_type one || is_const_type other) (unqualified_composite one other)
      (composite_settled opens (unqualified one) (unqualified other) first_plain.settled second_plain.settled))

  void_value : (is_const : Bool) → IsValueType opens types unit (ty (pointer (qualified is_const void_type)) false)
  void_value false = record { known = record { type_in = tt; settled = tt }; plain = refl; form = tt }
  void_value true = record { known = record { type_in = tt; settled = tt }; plain = refl; form = tt }

  target_known : (type to : CTy) → type ≡ ty (pointer to) false → IsKnownType opens types unit type → IsKnownType opens types unit to
  target_known type to is known =
      let held : IsKnownType opens types unit (ty (pointer to) false) = subst (IsKnownType opens types unit) is known in
      record { type_in = held.type_in; settled = held.settled }

  abbrev GivesType : Option CTy → Type 0
  GivesType found = is_none found ≡ false → IfChosen (IsValueType opens types unit) found

  -- the two are pointers
  module _ (one other : CTy) (one_is : one_type ≡ ty (pointer one) false) (other_is : other_type ≡ ty (pointer other) false) where
    chosen_pointer : (P : Option CTy → Type 0) → P (pointer_choice types (ty (pointer one) false) (ty (pointer other) false)) → P (pointer_choice types one_type other_type)
    chosen_pointer P held = subst (λ t. P (pointer_choice types t other_type)) (sym one_is) (subst (λ t. P (pointer_choice types (ty (pointer one) false) t)) (sym other_is) held)

    gives_pointer : GivesType (pointer_choice types (ty (pointer one) false) (ty (pointer other) false))
    gives_pointer =
        chooses GivesType (point_alike types (ty (pointer one) false) (ty (pointer other) false)) _ _
        (λ alike found. both_value one other alike (target_known one_type one one_is one_value.known) (target_known other_type other other_is other_value.known))
        (λ fails. chooses GivesType (void_beside (ty (pointer one) false) (ty (pointer other) false) || void_beside (ty (pointer other) false) (ty (pointer one) false)) _ None
        (λ beside found. void_value (is_const_type one || is_const_type other)) (λ none found. absurd cc))

-- ---- where no rule is broken, both are pointers in the end

alike_second : (types : CTypes) (first second : CTy) → point_alike types first second ≡ true → is_pointer second ≡ true
alike_second types (ty (pointer to) is_const) second is = second_is_pointer types to is_const second is
alike_second types (ty void is_const) second is = absurd cc
alike_second types (ty (basic which) is_const) second is = absurd cc
alike_second types (ty (enum_type number) is_const) second is = absurd cc
alike_second types (ty (array element length) is_const) second is = absurd cc
alike_second types (ty (record_type number) is_const) second is = absurd cc
alike_second types (ty (function result params variadic) is_const) second is = absurd cc

found_by : (a b : Bool) (one other : Option CTy) → is_none (if a then one else if b then other else None) ≡ false → (a ≡ true) ⊎ (b ≡ true)
found_by true b one other is = inl refl
found_by false true one other is = inr refl
found_by false false one other is = absurd cc

either_way : (a b : Bool) → (a || b) ≡ true → (a ≡ true) ⊎ (b ≡ true)
either_way true b is = inl refl
either_way false b is = inr is

pub are_pointers : (types : CTypes) (first second : CTy) → is_none (pointer_choice types first second) ≡ false → (is_pointer first ≡ true) × (is_pointer second ≡ true)
are_pointers types first second is = elim (found_by (point_alike types first second) (void_beside first second || void_beside second first) _ _ is) as (λ _. (is_pointer first ≡ true) × (is_pointer second ≡ true)) [
  | inl alike ↦ (first_is_pointer types first second alike, alike_second types first second alike)
  | inr beside ↦ elim (either_way (void_beside first second) (void_beside second first) beside) as (λ _. (is_pointer first ≡ true) × (is_pointer second ≡ true)) [
    | inl one ↦ (void_is_pointer first (both one).0, object_is_pointer second (both one).1)
    | inr other ↦ (object_is_pointer first (both other).1, void_is_pointer second (both other).0)
  ]
]

module _ (opens : List ℕ) (types : CTypes) (unit : ℕ) (first second : COperand) (first_held : IsOperandType opens types unit first) (second_held : IsOperandType opens types unit second) where
  choice_known : is_none (choice_type types first second) ≡ false → IfChosen (IsValueType opens types unit) (choice_type types first second)
  choice_known =
      let Gives_it = GivesType opens types unit first second first_held second_held in
      chooses Gives_it (is_integer types (value_type first) && is_integer types (value_type second)) _ _
      (λ is found. common_value_type opens types unit first second (both is).0 (both is).1)
      (λ not_numbers. chooses Gives_it (is_void (value_type first) && is_void (value_type second)) _ _
      (λ is found. record { known = record { type_in = tt; settled = tt }; plain = refl; form = tt })
      (λ not_void. chooses Gives_it (is_some (record_of (value_type first)) && compatible types (value_type first) (value_type second)) _ _
      (λ is found. value_type_is opens types unit first first_held)
      (λ not_records. chooses Gives_it (is_pointer (value_type first) && is_null_constant types (value_of second)) _ _
      (λ is found. value_type_is opens types unit first first_held)
      (λ not_null. chooses Gives_it (is_pointer (value_type second) && is_null_constant types (value_of first)) _ _
      (λ is found. value_type_is opens types unit second second_held)
      (λ last found.
      let pointers = are_pointers types (value_type first) (value_type second) found in
      let one = points (value_type first) (value_type_is opens types unit first first_held).plain pointers.0 in
      let other = points (value_type second) (value_type_is opens types unit second second_held).plain pointers.1 in
      chosen_pointer opens types unit first second first_held second_held one.to other.to one.type_is other.type_is Gives_it
      (gives_pointer opens types unit first second first_held second_held one.to other.to one.type_is other.type_is) found)))))

  chosen_known : (at : TextPlace) (test : COperand) (found : Option CTy) → IfChosen (IsValueType opens types unit) found → IsOperandType opens types unit (chosen_as at types test first second found)
  chosen_known at test None held = absurd held
  chosen_known at test (Some type) held = held

  pub cond_known : (scope : CScope) (at : TextPlace) (test : COperand) → IsUnbroken scope types (cond_node test first second) → IsOperandType opens types unit (cond_meaning at types test first second)
  cond_known scope at test unbroken = chosen_known at test (choice_type types first second) (choice_known (neither unbroken.k16).1)

-- ---- in a program

module _ (opens : List ℕ) (types : CTypes) (home : CHome) (grows : Grows opens types home.program.types) where
  pub record AreChosen (first second : COperand) (type : CTy) : Type 0 where
    pub form : IsChosenForm type
    pub first_is : IsConverted home type (fitted types type (value_of first))
    pub second_is : IsConverted home type (fitted types type (value_of second))

  -- a record, where a record of the same type is wanted
  fitted_record : (number : ℕ) (value : CExpr) → type_of value ≡ ty (record_type number) false → IsTypeIn home.program.types home.unit (ty (record_type number) false) → IsTyped home value
      → IsConverted home (ty (record_type number) false) (fitted types (ty (record_type number) false) value)
  fitted_record number value is known typed =
      converted_is home (ty (record_type number) false) value known
      (λ other. absurd (let h : true ≡ false = sym (subst (λ t. same_type t (ty (record_type number) false) ≡ true) (sym is) (same_record number)) ∙ other in cc)) typed

  -- a value of type `void`, where that is wanted
  fitted_void : (value : CExpr) → IsTyped home value → IsConverted home void_type (fitted types void_type value)
  fitted_void value typed = converted_is home void_type value tt (λ other. record { plain = refl; allowed = tt }) typed

  module _ (first second : COperand) (first_held : IsOperandType opens types home.unit first) (second_held : IsOperandType opens types home.unit second)
      (first_holds : holds_nothing types first ≡ false) (second_holds : holds_nothing types second ≡ false)
      (first_typed : IsTypedOperand home first) (second_typed : IsTypedOperand home second) where
    first_there : IsTyped home (value_of first)
    first_there = value_is opens types home grows first first_held first_holds first_typed

    second_there : IsTyped home (value_of second)
    second_there = value_is opens types home grows second second_held second_holds second_typed

    first_value : IsValueType opens types home.unit (value_type first)
    first_value = value_type_is opens types home.unit first first_held

    second_value : IsValueType opens types home.unit (value_type second)
    second_value = value_type_is opens types home.unit second second_held

    abbrev Fits : Option CTy → Type 0
    Fits found = is_none found ≡ false → IfChosen (AreChosen first second) found

    numbers_chosen : (is_integer types (value_type first) && is_integer types (value_type second)) ≡ true → AreChosen first second (common_of types first second)
    numbers_chosen is =
        let made = have_common types first second (both is).0 (both is).1 in
        let one = common_there opens types home grows first second first (both is).0 (both is).1 first_held first_holds (both is).0 first_typed in
        let other = common_there opens types home grows first second second (both is).0 (both is).1 second_held second_holds (both is).1 second_typed in
        subst (AreChosen first second) (sym made.common_to) (record {
          form = (made.is_promoted, refl);
          first_is = subst (λ t. IsConverted home t (converted_to t (value_of first))) made.common_to one;
          second_is = subst (λ t. IsConverted home t (converted_to t (value_of second))) made.common_to other;
        })

    void_chosen : (is_void (value_type first) && is_void (value_type second)) ≡ true → AreChosen first second void_type
    void_chosen is = record { form = refl; first_is = fitted_void (value_of first) first_there; second_is = fitted_void (value_of second) second_there }

    records_chosen : (is_some (record_of (value_type first)) && compatible types (value_type first) (value_type second)) ≡ true → AreChosen first second (value_type first)
    records_chosen is =
        let one = plain_record (value_type first) first_value.plain (both is).0 in
        let same : value_type second ≡ ty (record_type one.number) false =
        record_number types one.number (value_type second) second_value.plain
        (subst (λ t. compatible types t (unqualified (value_type second)) ≡ true) one.type_is
        (subst (λ t. compatible types (value_type first) t ≡ true) (plain_is (value_type second) second_value.plain) (both is).1)) in
        let known = type_stays opens types home.program.types grows home.unit (ty (record_type one.number) false) (subst (IsKnownType opens types home.unit) one.type_is first_value.known).type_in in
        subst (AreChosen first second) (sym one.type_is) (record {
          form = refl;
          first_is = fitted_record one.number (value_of first) one.type_is known first_there;
          second_is = fitted_record one.number (value_of second) same known second_there;
        })
      where
        plain_is : (type : CTy) → is_const_type type ≡ false → type ≡ unqualified type
        plain_is (ty form is_const) plain = ap (ty form) plain

    -- a pointer, where its own type is wanted
    itself : (type : CTy) (value : CExpr) → type_of value ≡ type → IsValueType opens types home.unit type → is_pointer type ≡ true → IsTyped home value → IsConverted home type (fitted types type value)
    itself type value is held points_is typed =
        let made = points type held.plain points_is in
        pointer_fitted opens types home grows type value held points_is
        (λ not_null. subst (λ t. IsConversion home.program.types t type) (sym is)
        (subst (λ t. IsConversion home.program.types t t) (sym made.type_is) (pointer_from opens types home grows made.to made.to refl))) typed

    first_null : (is_pointer (value_type first) && is_null_constant types (value_of second)) ≡ true → AreChosen first second (value_type first)
    first_null is = record {
      form = pointer_chosen (value_type first) first_value.plain (both is).0;
      first_is = itself (value_type first) (value_of first) refl first_value (both is).0 first_there;
      second_is = pointer_fitted opens types home grows (value_type first) (value_of second) first_value (both is).0
          (λ not_null. absurd (let h : true ≡ false = sym (both is).1 ∙ not_null in cc)) second_there;
    }

    second_null : (is_pointer (value_type second) && is_null_constant types (value_of first)) ≡ true → AreChosen first second (value_type second)
    second_null is = record {
      form = pointer_chosen (value_type second) second_value.plain (both is).0;
      first_is = pointer_fitted opens types home grows (value_type second) (value_of first) second_value (both is).0
          (λ not_null. absurd (let h : true ≡ false = sym (both is).1 ∙ not_null in cc)) first_there;
      second_is = itself (value_type second) (value_of second) refl second_value (both is).0 second_there;
    }

    -- pointers to what is chosen
    pointers_to : (to one other : CTy) → value_type first ≡ ty (pointer one) false → value_type second ≡ ty (pointer other) false → IsValueType opens types home.unit (ty (pointer to) false)
        → scalar_of_pointer one ≡ scalar_of_pointer to → scalar_of_pointer other ≡ scalar_of_pointer to → AreChosen first second (ty (pointer to) false)
    pointers_to to one other one_is other_is held first_same second_same = record {
      form = refl;
      first_is = pointer_fitted opens types home grows (ty (pointer to) false) (value_of first) held refl
          (λ not_null. subst (λ t. IsConversion home.program.types t (ty (pointer to) false)) (sym one_is) (pointer_from opens types home grows to one first_same)) first_there;
      second_is = pointer_fitted opens types home grows (ty (pointer to) false) (value_of second) held refl
          (λ not_null. subst (λ t. IsConversion home.program.types t (ty (pointer to) false)) (sym other_is) (pointer_from opens types home grows to other second_same)) second_there;
    }

    module _ (one other : CTy) (one_is : value_type first ≡ ty (pointer one) false) (other_is : value_type second ≡ ty (pointer other) false) where
      alike_chosen : compatible types (unqualified one) (unqualified other) ≡ true → AreChosen first second (ty (pointer (both_point one other)) false)
      alike_chosen alike =
          pointers_to (both_point one other) one other one_is other_is
          (both_value opens types home.unit first second first_held second_held one other alike
          (target_known opens types home.unit first second first_held second_held (value_type first) one one_is first_value.known)
          (target_known opens types home.unit first second first_held second_held (value_type second) other other_is second_value.known))
          (sym (both_scalar one other)) (sym (same_scalar types one other alike) ∙ sym (both_scalar one other))

      void_scalars : (void_beside (ty (pointer one) false) (ty (pointer other) false) || void_beside (ty (pointer other) false) (ty (pointer one) false)) ≡ true
          → (scalar_of_pointer one ≡ scalar.Object) × (scalar_of_pointer other ≡ scalar.Object)
      void_scalars is = elim (either_way (void_beside (ty (pointer one) false) (ty (pointer other) false)) (void_beside (ty (pointer other) false) (ty (pointer one) false)) is) as (λ _. (scalar_of_pointer one ≡ scalar.Object) × (scalar_of_pointer other ≡ scalar.Object)) [
        | inl held ↦ void_scalar one other held
        | inr held ↦ ((void_scalar other one held).1, (void_scalar other one held).0)
      ]

      void_pointers : (is_const : Bool) → (void_beside (ty (pointer one) false) (ty (pointer other) false) || void_beside (ty (pointer other) false) (ty (pointer one) false)) ≡ true
          → AreChosen first second (ty (pointer (qualified is_const void_type)) false)
      void_pointers is_const is =
          let scalars = void_scalars is in
          let object : scalar_of_pointer (qualified is_const void_type) ≡ scalar.Object = qualified_scalar is_const void_type in
          pointers_to (qualified is_const void_type) one other one_is other_is (void_value opens types home.unit first second first_held second_held is_const)
          (scalars.0 ∙ sym object) (scalars.1 ∙ sym object)

      pointers_chosen : Fits (pointer_choice types (ty (pointer one) false) (ty (pointer other) false))
      pointers_chosen =
          chooses Fits (point_alike types (ty (pointer one) false) (ty (pointer other) false)) _ _ (λ alike found. alike_chosen alike)
          (λ fails. chooses Fits (void_beside (ty (pointer one) false) (ty (pointer other) false) || void_beside (ty (pointer other) false) (ty (pointer one) false)) _ None
          (λ beside found. void_pointers (is_const_type one || is_const_type other) beside) (λ none found. absurd cc))

    choice_fits : Fits (choice_type types first second)
    choice_fits =
        chooses Fits (is_integer types (value_type first) && is_integer types (value_type second)) _ _ (λ is found. numbers_chosen is)
        (λ not_numbers. chooses Fits (is_void (value_type first) && is_void (value_type second)) _ _ (λ is found. void_chosen is)
        (λ not_void. chooses Fits (is_some (record_of (value_type first)) && compatible types (value_type first) (value_type second)) _ _ (λ is found. records_chosen is)
        (λ not_records. chooses Fits (is_pointer (value_type first) && is_null_constant types (value_of second)) _ _ (λ is found. first_null is)
        (λ not_null. chooses Fits (is_pointer (value_type second) && is_null_constant types (value_of first)) _ _ (λ is found. second_null is)
        (λ last found.
        let pointers = are_pointers types (value_type first) (value_type second) found in
        let one = points (value_type first) first_value.plain pointers.0 in
        let other = points (value_type second) second_value.plain pointers.1 in
        chosen_pointer opens types home.unit first second first_held second_held one.to other.to one.type_is other.type_is Fits
        (pointers_chosen one.to other.to one.type_is other.type_is) found)))))

  chosen_typed : (at : TextPlace) (test first second : COperand) (found : Option CTy) → IfChosen (AreChosen first second) found → IfChosen (IsTypeIn home.program.types home.unit) found
      → IsTyped home (value_of test) → IsScalarType home.program.types (value_type test) → IsTypedOperand home (chosen_as at types test first second found)
  chosen_typed at test first second None held known typed scalar = absurd held
  chosen_typed at test first second (Some type) held known typed scalar =
      (known, (typed, held.first_is.typed, held.second_is.typed, record { tested = scalar; choice = held.form; first_is = held.first_is.type_is; second_is = held.second_is.type_is }))

  all_hold : (test first second : COperand) (other : Bool)
      → (((gives_nothing test || false) || (holds_nothing types test || (holds_nothing types first || (holds_nothing types second || false)))) || other) ≡ false
      → (holds_nothing types test ≡ false) × (holds_nothing types first ≡ false) × (holds_nothing types second ≡ false)
  all_hold test first second other is =
      let held : (holds_nothing types test || (holds_nothing types first || (holds_nothing types second || false))) ≡ false = (neither (neither is).0).1 in
      ((neither held).0, (neither (neither held).1).0, no_less (holds_nothing types second) (neither (neither held).1).1)

  stays_found : (found : Option CTy) → IfChosen (IsValueType opens types home.unit) found → IfChosen (IsTypeIn home.program.types home.unit) found
  stays_found None held = absurd held
  stays_found (Some type) held = type_stays opens types home.program.types grows home.unit type held.known.type_in

  pub cond_typed : (scope : CScope) (at : TextPlace) (test first second : COperand) → IsOperandType opens types home.unit test → IsOperandType opens types home.unit first → IsOperandType opens types home.unit second
      → IsUnbroken scope types (cond_node test first second) → IsTypedOperand home test → IsTypedOperand home first → IsTypedOperand home second → IsTypedOperand home (cond_meaning at types test first second)
  cond_typed scope at test first second test_held first_held second_held unbroken test_typed first_typed second_typed =
      let holds = all_hold test first second false unbroken.k10 in
      let found = (neither unbroken.k16).1 in
      chosen_typed at test first second (choice_type types first second)
      (choice_fits first second first_held second_held holds.1 holds.2 first_typed second_typed found)
      (stays_found (choice_type types first second) (choice_known opens types home.unit first second first_held second_held found))
      (value_is opens types home grows test test_held holds.0 test_typed)
      (scalar_there opens types home grows (value_type test) (value_type_is opens types home.unit test test_held) (not_not (neither unbroken.k16).0))
