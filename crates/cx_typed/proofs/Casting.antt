-- Casts, sizes, and elements of arrays (ISO C99, 6.5.2.1, 6.5.3.4, 6.5.4).
use Rattle.std.proofs.Common.{◌≡◌, ℕ, Bool, true, false, ◌||◌, ◌&&◌, not, if◌then◌else◌, List, [], ◌∷◌, ◌++◌, Option, None, Some, option_map, slice_get, is_some, refl, sym, ap, ◌∙◌, subst, inl, inr, ◌⊎◌}
use Rattle.std.specs.Prelude.{ℤ}
use Rattle.cr_base.specs.declared.refusal.Place.{Place as TextPlace}
use Rattle.std.specs.List.{list_any}
use Rattle.cr_base.specs.declared.scalar.Scalar.{Scalar}
use Rattle.cr_base.specs.declared.scalar.Scalar.TheVariants as scalar
use Rattle.cx_core.specs.declared.expr.Op2.TheVariants as op
use Rattle.cx_core.specs.declared.ty.Basic.{Basic}
use Rattle.cx_core.specs.Conversions.{scalar_of_basic, basic_of_enum, scalar_of_pointer, IsIntegerType, IsScalarType}
use Rattle.cx_core.specs.Trees.{CTy, ty, CTyForm, void, basic, enum_type, pointer, array, record_type, function, form_of_type, unqualified, CTypes, CExpr, expr, null, convert, type_of}
use Rattle.cx_core.specs.Typing.{CHome, IsTyped, IsTypedForm, IsConversion}
use Rattle.cx_core.specs.ValidTypes.{IsResultForm}
use Rattle.cx_rules.specs.declared.kinds.Pairing.{Pairing}
use Rattle.cx_rules.specs.declared.kinds.Pairing.TheVariants.{Arithmetic, Shift, PointerInteger, IntegerPointer, Pointers, LeftConverted, RightConverted, Tests, Nothing}
use Rattle.cx_rules.specs.Meanings.{cast_meaning, makes_null, index_meaning, by_pairing}
use Rattle.cx_rules.specs.Nodes.{cast_node, index_node}
use Rattle.cx_rules.specs.Operands.{COperand, value_of, value_type, gives_nothing, holds_nothing, is_null_constant, is_null_pointer, constant_of, has_value_zero, are_constant_parts, number_of_form}
use Rattle.cx_rules.specs.Pairs.{pairing, is_nothing, both_integers}
use Rattle.cx_rules.specs.Rules.{is_moved}
use Rattle.cx_rules.specs.Scope.{CScope}
use Rattle.cx_rules.specs.Types.{is_integer, is_scalar, is_pointer, is_void, is_function_pointer, is_object_pointer, is_element_pointer, same_type, truth_type, void_pointer_type}
use Rattle.cx_typed.proofs.Binary.{chooses, pair_known}
use Rattle.cx_typed.proofs.Computing.{pair_typed}
use Rattle.cx_typed.proofs.Conversions.{integer_conversion}
use Rattle.cx_typed.proofs.Growing.{type_stays}
use Rattle.cx_typed.proofs.Pointing.{points, element_is_pointer, pointer_from}
use Rattle.cx_typed.proofs.Promoted.{neither, not_not, integer_there}
use Rattle.cx_typed.proofs.Same.{both, type_is}
use Rattle.cx_typed.proofs.Single.{no_less, two_hold, deref_known, deref_typed}
use Rattle.cx_typed.proofs.Values.{value_is, value_type_is, unqualified_known}
use Rattle.cx_typed.specs.Growth.{Grows}
use Rattle.cx_typed.specs.Operands.{IsKnownType, IsValueType, IsOperandType, IsTypedOperand}
use Rattle.cx_typed.specs.Unbroken.{IsUnbroken}

-- ---- elements of arrays

moved_something : (how : Pairing) → is_moved how ≡ true → is_nothing how ≡ false
moved_something Arithmetic is = refl
moved_something Shift is = refl
moved_something PointerInteger is = refl
moved_something IntegerPointer is = refl
moved_something Pointers is = refl
moved_something LeftConverted is = refl
moved_something RightConverted is = refl
moved_something Tests is = refl
moved_something Nothing is = absurd cc

module _ (types : CTypes) (at : TextPlace) (of index : COperand) where
  abbrev GivesPointer : Pairing → Type 0
  GivesPointer how = is_moved how ≡ true → is_pointer (type_of (by_pairing at types op.Add of index how)) ≡ true

  moved_pointer : GivesPointer (pairing types op.Add (value_of of) (value_of index))
  unfolding pairing
  moved_pointer =
      chooses GivesPointer (both_integers types (value_type of) (value_type index)) Arithmetic _ (λ is moved. absurd cc)
      (λ fails. chooses GivesPointer (is_element_pointer types (value_type of) && is_integer types (value_type index)) PointerInteger _
      (λ is moved. element_is_pointer types (value_type of) (both is).0)
      (λ more. chooses GivesPointer (is_integer types (value_type of) && is_element_pointer types (value_type index)) IntegerPointer Nothing
      (λ is moved. element_is_pointer types (value_type index) (both is).1) (λ last moved. absurd cc)))

index_moves : (types : CTypes) (scope : CScope) (of index : COperand) → IsUnbroken scope types (index_node of index) → is_moved (pairing types op.Add (value_of of) (value_of index)) ≡ true
index_moves types scope of index unbroken = not_not (neither unbroken.k10).1

pub index_known : (opens : List ℕ) (scope : CScope) (types : CTypes) (unit : ℕ) (at : TextPlace) (of index : COperand) → IsOperandType opens types unit of → IsOperandType opens types unit index
    → IsUnbroken scope types (index_node of index) → IsOperandType opens types unit (index_meaning at types of index)
index_known opens scope types unit at of index one other unbroken =
    let moves = index_moves types scope of index unbroken in
    deref_known opens scope types at unit (by_pairing at types op.Add of index (pairing types op.Add (value_of of) (value_of index)))
    (pair_known opens types unit at of index one other op.Add (moved_something (pairing types op.Add (value_of of) (value_of index)) moves))
    (moved_pointer types at of index moves)

pub index_typed : (opens : List ℕ) (scope : CScope) (types : CTypes) (home : CHome) → Grows opens types home.program.types → (at : TextPlace) (of index : COperand)
    → IsOperandType opens types home.unit of → IsOperandType opens types home.unit index → IsUnbroken scope types (index_node of index)
    → IsTypedOperand home of → IsTypedOperand home index → IsTypedOperand home (index_meaning at types of index)
index_typed opens scope types home grows at of index one other unbroken one_typed other_typed =
    let moves = index_moves types scope of index unbroken in
    let something = moved_something (pairing types op.Add (value_of of) (value_of index)) moves in
    let holds = two_hold types of index (not (is_moved (pairing types op.Add (value_of of) (value_of index)))) unbroken.k10 in
    deref_typed opens scope types at home grows (by_pairing at types op.Add of index (pairing types op.Add (value_of of) (value_of index)))
    (pair_known opens types home.unit at of index one other op.Add something)
    (moved_pointer types at of index moves)
    (pair_typed opens types home grows at of index one other holds.0 holds.1 one_typed other_typed op.Add something)

-- ---- casts

cast_value : (opens : List ℕ) (types : CTypes) (unit : ℕ) (type : CTy) → IsKnownType opens types unit type → IsResultForm (form_of_type type) → IsValueType opens types unit (unqualified type)
cast_value opens types unit (ty form is_const) known held = record { known = unqualified_known opens types unit (ty form is_const) known; plain = refl; form = held }

cast_form : (types : CTypes) (type from : CTy) → (not (is_void type) && not (is_scalar types type && is_scalar types from)) ≡ false → IsResultForm (form_of_type type)
cast_form types (ty void is_const) from is = tt
cast_form types (ty (basic which) is_const) from is = tt
cast_form types (ty (enum_type number) is_const) from is = tt
cast_form types (ty (pointer to) is_const) from is = tt
cast_form types (ty (array element length) is_const) from is = absurd cc
cast_form types (ty (record_type number) is_const) from is = tt
cast_form types (ty (function result params variadic) is_const) from is = absurd cc

pub cast_known : (opens : List ℕ) (scope : CScope) (types : CTypes) (unit : ℕ) (at : TextPlace) (type : CTy) (on : COperand) → IsKnownType opens types unit type
    → IsUnbroken scope types (cast_node type on) → IsOperandType opens types unit (cast_meaning at types type on)
cast_known opens scope types unit at type on known unbroken = cast_value opens types unit type known (cast_form types type (value_type on) unbroken.k13)

-- a null pointer constant of pointer type is a null pointer to `void`
no_constant : (types : CTypes) (value : CExpr) → is_integer types (type_of value) ≡ false → has_value_zero (constant_of types value) ≡ false
unfolding constant_of
no_constant types (expr type place form) is = none_by (is_integer types type) (are_constant_parts types form) (number_of_form types type form) is
  where
    none_by : (test parts : Bool) (found : Option ℤ) → test ≡ false → has_value_zero (if test && parts then found else None) ≡ false
    none_by true parts found held = absurd cc
    none_by false parts found held = refl

null_void : (types : CTypes) (value : CExpr) → is_integer types (type_of value) ≡ false → is_null_constant types value ≡ true → type_of value ≡ void_pointer_type
unfolding is_null_constant
null_void types (expr type place form) not_integer is =
    type_is type void_pointer_type
    (both (later (has_value_zero (constant_of types (expr type place form))) (is_null_pointer (expr type place form)) (no_constant types (expr type place form) not_integer) is)).1
  where
    later : (a b : Bool) → a ≡ false → (a || b) ≡ true → b ≡ true
    later false b none held = held
    later true b none held = absurd cc

-- ---- what a cast converts

-- both point to functions, or both to objects
same_kind : (types : CTypes) (to from : CTy) (is_null : Bool)
    → (not is_null && ((is_function_pointer (ty (pointer to) false) && is_object_pointer (ty (pointer from) false)) || (is_object_pointer (ty (pointer to) false) && is_function_pointer (ty (pointer from) false)))) ≡ false
    → is_null ≡ false → scalar_of_pointer from ≡ scalar_of_pointer to
same_kind types (ty (function result params variadic) to_const) (ty (function other others more) from_const) is_null is plain = refl
same_kind types (ty (function result params variadic) to_const) (ty form from_const) false is plain = absurd cc
same_kind types (ty (function result params variadic) to_const) (ty form from_const) true is plain = absurd cc
same_kind types (ty form to_const) (ty (function other others more) from_const) false is plain = absurd cc
same_kind types (ty form to_const) (ty (function other others more) from_const) true is plain = absurd cc
same_kind types (ty form to_const) (ty other from_const) is_null is plain = refl

object_target : (to : CTy) → is_function_pointer (ty (pointer to) false) ≡ false → scalar_of_pointer to ≡ scalar.Object
object_target (ty (function result params variadic) to_const) is = absurd cc
object_target (ty void to_const) is = refl
object_target (ty (basic which) to_const) is = refl
object_target (ty (enum_type number) to_const) is = refl
object_target (ty (pointer to) to_const) is = refl
object_target (ty (array element length) to_const) is = refl
object_target (ty (record_type number) to_const) is = refl

-- a scalar is an integer or a pointer
scalar_kind : (types : CTypes) (type : CTy) → is_scalar types type ≡ true → (is_integer types type ≡ true) ⊎ (is_pointer type ≡ true)
scalar_kind types (ty (basic which) is_const) is = inl refl
scalar_kind types (ty (enum_type number) is_const) is = inl (listed (slice_get types.enums number) is)
  where
    listed : (found : Option Bool) → is_some (option_map (λ is_int. scalar_of_basic (basic_of_enum is_int)) found) ≡ true
        → is_some (option_map basic_of_enum found) ≡ true
    listed None held = absurd cc
    listed (Some is_int) held = refl
scalar_kind types (ty (pointer to) is_const) is = inr refl
scalar_kind types (ty void is_const) is = absurd cc
scalar_kind types (ty (array element length) is_const) is = absurd cc
scalar_kind types (ty (record_type number) is_const) is = absurd cc
scalar_kind types (ty (function result params variadic) is_const) is = absurd cc

pointer_no_integer : (types : CTypes) (type : CTy) → is_pointer type ≡ true → is_integer types type ≡ false
pointer_no_integer types (ty (pointer to) is_const) is = refl
pointer_no_integer types (ty void is_const) is = absurd cc
pointer_no_integer types (ty (basic which) is_const) is = absurd cc
pointer_no_integer types (ty (enum_type number) is_const) is = absurd cc
pointer_no_integer types (ty (array element length) is_const) is = absurd cc
pointer_no_integer types (ty (record_type number) is_const) is = absurd cc
pointer_no_integer types (ty (function result params variadic) is_const) is = absurd cc

module _ (opens : List ℕ) (types : CTypes) (home : CHome) (grows : Grows opens types home.program.types) where
  from_pointer : (from : CTy) → is_pointer from ≡ true → IsScalarType home.program.types from
  from_pointer (ty (pointer to) is_const) is = refl
  from_pointer (ty void is_const) is = absurd cc
  from_pointer (ty (basic which) is_const) is = absurd cc
  from_pointer (ty (enum_type number) is_const) is = absurd cc
  from_pointer (ty (array element length) is_const) is = absurd cc
  from_pointer (ty (record_type number) is_const) is = absurd cc
  from_pointer (ty (function result params variadic) is_const) is = absurd cc

  -- a pointer is cast to `_Bool` alone among integer types
  to_truth : (from : CTy) (which : Basic) → is_pointer from ≡ true → ty (basic which) false ≡ truth_type → IsConversion home.program.types from (ty (basic which) false)
  to_truth from which is same = subst (IsConversion home.program.types from) (sym same) (record { plain = refl; allowed = from_pointer from is })

  abbrev CastsTo : CTy → CExpr → Bool → Type 0
  CastsTo type value null_made = IsTypedForm home (unqualified type) (if null_made then null else convert value)

  module _ (value : CExpr) (held : IsValueType opens types home.unit (type_of value)) (typed : IsTyped home value) where
    cast_basic : (which : Basic) (is_const : Bool) → is_scalar types (type_of value) ≡ true
        → (is_pointer (type_of value) && (true && not (same_type (ty (basic which) false) truth_type))) ≡ false
        → IsConversion home.program.types (type_of value) (ty (basic which) false)
    cast_basic which is_const scalar is = elim (scalar_kind types (type_of value) scalar) as (λ _. IsConversion home.program.types (type_of value) (ty (basic which) false)) [
      | inl integer ↦ integer_conversion home.program.types (type_of value) which (integer_there opens types home grows (type_of value) held integer)
      | inr points_is ↦ to_truth (type_of value) which points_is
          (type_is (ty (basic which) false) truth_type (same_by (is_pointer (type_of value)) (same_type (ty (basic which) false) truth_type) points_is is))
    ]
      where
        same_by : (a b : Bool) → a ≡ true → (a && (true && not b)) ≡ false → b ≡ true
        same_by true true one two = refl
        same_by true false one two = absurd cc
        same_by false b one two = absurd cc

    cast_enum : (number : ℕ) → is_scalar types (type_of value) ≡ true → is_integer types (ty (enum_type number) false) ≡ true
        → (is_pointer (type_of value) && (is_integer types (ty (enum_type number) false) && true)) ≡ false → IsIntegerType home.program.types (type_of value)
    cast_enum number scalar listed is = elim (scalar_kind types (type_of value) scalar) as (λ _. IsIntegerType home.program.types (type_of value)) [
      | inl integer ↦ integer_there opens types home grows (type_of value) held integer
      | inr points_is ↦ absurd (never (is_pointer (type_of value)) (is_integer types (ty (enum_type number) false)) points_is listed is)
    ]
      where
        never : (a b : Bool) → a ≡ true → b ≡ true → (a && (b && true)) ≡ false → ⊥
        never true true one two three = cc
        never true false one two three = cc
        never false b one two three = cc

    -- a value that is no null pointer constant here keeps its kind of pointer
    cast_kept : (to from : CTy) → type_of value ≡ ty (pointer from) false → (is_null : Bool) → is_null_constant types value ≡ is_null
        → (is_null && (is_integer types (type_of value) || is_function_pointer (ty (pointer to) false))) ≡ false
        → (not is_null && ((is_function_pointer (ty (pointer to) false) && is_object_pointer (ty (pointer from) false)) || (is_object_pointer (ty (pointer to) false) && is_function_pointer (ty (pointer from) false)))) ≡ false
        → scalar_of_pointer from ≡ scalar_of_pointer to
    cast_kept to from is false null_is not_made o8 = same_kind types to from false o8 refl
    cast_kept to from is true null_is not_made o8 =
        let no_integer = pointer_no_integer types (type_of value) (ap is_pointer is) in
        let void_is : ty (pointer from) false ≡ void_pointer_type = sym is ∙ null_void types value no_integer null_is in
        scalar_from from void_is ∙ sym (object_target to (neither not_made).1)
      where
        scalar_from : (from : CTy) → ty (pointer from) false ≡ void_pointer_type → scalar_of_pointer from ≡ scalar.Object
        scalar_from from void_is = ap scalar_in_pointer void_is
          where
            scalar_in_pointer : CTy → Scalar
            scalar_in_pointer (ty (pointer target) is_const) = scalar_of_pointer target
            scalar_in_pointer type = scalar.Object

    cast_pointer : (to : CTy) → is_scalar types (type_of value) ≡ true → (made : Bool)
        → (is_null_constant types value && (is_integer types (type_of value) || is_function_pointer (ty (pointer to) false))) ≡ made
        → (is_integer types (type_of value) && (true && not (is_null_constant types value))) ≡ false
        → ((from : CTy) → type_of value ≡ ty (pointer from) false
        → (not (is_null_constant types value) && ((is_function_pointer (ty (pointer to) false) && is_object_pointer (ty (pointer from) false)) || (is_object_pointer (ty (pointer to) false) && is_function_pointer (ty (pointer from) false)))) ≡ false)
        → CastsTo (ty (pointer to) false) value made
    cast_pointer to scalar true made_is o7 o8 = refl
    cast_pointer to scalar false made_is o7 o8 = (
      typed,
      elim (scalar_kind types (type_of value) scalar) as (λ _. IsConversion home.program.types (type_of value) (ty (pointer to) false)) [
        | inl integer ↦ absurd (never (is_null_constant types value) (is_integer types (type_of value)) (is_function_pointer (ty (pointer to) false)) integer made_is o7)
        | inr points_is ↦
            (let made = points (type_of value) held.plain points_is in
            subst (λ t. IsConversion home.program.types t (ty (pointer to) false)) (sym made.type_is)
            (pointer_from opens types home grows to made.to (cast_kept to made.to made.type_is (is_null_constant types value) refl made_is (o8 made.to made.type_is))))
      ],
    )
      where
        never : (a b c : Bool) → b ≡ true → (a && (b || c)) ≡ false → (b && (true && not a)) ≡ false → ⊥
        never true true c one two three = cc
        never false true c one two three = cc
        never a false c one two three = cc

  -- ---- all casts

  abbrev NoKindChanges : CTy → COperand → Type 0
  NoKindChanges type on =
      (not (is_null_constant types (value_of on))
      && ((is_function_pointer type && is_object_pointer (value_type on)) || (is_object_pointer type && is_function_pointer (value_type on)))) ≡ false

  cast_there : (at : TextPlace) (form : CTyForm) (is_const : Bool) (on : COperand) → IsKnownType opens types home.unit (ty form is_const) → IsOperandType opens types home.unit on
      → IsTyped home (value_of on)
      → ((is_pointer (value_type on) && (is_integer types (ty form is_const) && not (same_type (ty form false) truth_type)))
      || (is_integer types (value_type on) && (is_pointer (ty form is_const) && not (is_null_constant types (value_of on))))) ≡ false
      → NoKindChanges (ty form is_const) on
      → (not (is_void (ty form is_const)) && not (is_scalar types (ty form is_const) && is_scalar types (value_type on))) ≡ false
      → CastsTo (ty form is_const) (value_of on) (makes_null types (ty form is_const) (value_of on))
  cast_there at void is_const on known held typed o7 o8 k13 = (typed, record { plain = refl; allowed = tt })
  cast_there at (basic which) is_const on known held typed o7 o8 k13 =
      (typed, cast_basic (value_of on) (value_type_is opens types home.unit on held) typed which is_const (not_not k13) (neither o7).0)
  cast_there at (enum_type number) is_const on known held typed o7 o8 k13 =
      let scalars = both {a = is_scalar types (ty (enum_type number) is_const)} {b = is_scalar types (value_type on)} (not_not k13) in (
        typed,
        record {
          plain = refl;
          allowed = cast_enum (value_of on) (value_type_is opens types home.unit on held) typed number scalars.1 (enum_integer number is_const scalars.0) (neither o7).0;
        },
      )
    where
      enum_integer : (number : ℕ) (is_const : Bool) → is_scalar types (ty (enum_type number) is_const) ≡ true → is_integer types (ty (enum_type number) false) ≡ true
      enum_integer number is_const scalar = elim (scalar_kind types (ty (enum_type number) is_const) scalar) as (λ _. is_integer types (ty (enum_type number) false) ≡ true) [
        | inl integer ↦ integer
        | inr points_is ↦ absurd (let h : false ≡ true = points_is in cc)
      ]
  cast_there at (pointer to) is_const on known held typed o7 o8 k13 =
      cast_pointer (value_of on) (value_type_is opens types home.unit on held) typed to (not_not k13)
      (is_null_constant types (value_of on) && (is_integer types (value_type on) || is_function_pointer (ty (pointer to) false))) refl (neither o7).1
      (λ from is. subst (λ t. (not (is_null_constant types (value_of on)) && ((is_function_pointer (ty (pointer to) false) && is_object_pointer t) || (is_object_pointer (ty (pointer to) false) && is_function_pointer t))) ≡ false) is o8)
  cast_there at (array element length) is_const on known held typed o7 o8 k13 = absurd cc
  cast_there at (record_type number) is_const on known held typed o7 o8 k13 = absurd cc
  cast_there at (function result params variadic) is_const on known held typed o7 o8 k13 = absurd cc

  cast_holds : (type : CTy) (on : COperand) (gives : Bool)
      → ((list_any gives_nothing (if is_void type then [] else on ∷ []) || list_any (holds_nothing types) ((if is_void type then [] else on ∷ []) ++ (if is_void type then on ∷ [] else []))) || false) ≡ false
      → holds_nothing types on ≡ false
  cast_holds type on gives is = by_void (is_void type) is
    where
      by_void : (test : Bool)
          → ((list_any gives_nothing (if test then [] else on ∷ []) || list_any (holds_nothing types) ((if test then [] else on ∷ []) ++ (if test then on ∷ [] else []))) || false) ≡ false
          → holds_nothing types on ≡ false
      by_void true held = no_less (holds_nothing types on) (no_less (holds_nothing types on || false) held)
      by_void false held = no_less (holds_nothing types on) (neither (no_less _ held)).1

  pub cast_typed : (scope : CScope) (at : TextPlace) (type : CTy) (on : COperand) → IsKnownType opens types home.unit type → IsOperandType opens types home.unit on
      → IsUnbroken scope types (cast_node type on) → IsTypedOperand home on → IsTypedOperand home (cast_meaning at types type on)
  cast_typed scope at (ty form is_const) on known held unbroken typed = (
    type_stays opens types home.program.types grows home.unit (ty form false) (unqualified_known opens types home.unit (ty form is_const) known).type_in,
    cast_there at form is_const on known held (value_is opens types home grows on held (cast_holds (ty form is_const) on false unbroken.k10) typed) unbroken.o7 unbroken.o8 unbroken.k13,
  )
