-- What is stored in lvalues: assignments, and `++` and `--` (ISO C99, 6.5.2.4, 6.5.3.1, 6.5.16).
use Rattle.std.proofs.Common.{◌≡◌, ℕ, Bool, true, false, ◌||◌, ◌&&◌, not, List, Option, None, Some, is_some, refl, sym, ap, ◌∙◌, subst, inl, inr, ◌⊎◌}
use Rattle.cr_base.specs.declared.refusal.Place.{Place as TextPlace}
use Rattle.cx_core.specs.declared.expr.Op2.{Op2}
use Rattle.cx_core.specs.declared.expr.Op2.TheVariants as op
use Rattle.cx_core.specs.declared.ty.Basic.{Basic}
use Rattle.cx_core.specs.Conversions.{basic_of, promoted, common_basic, common_type, IsPromoted, IsIntegerType}
use Rattle.cx_core.specs.Trees.{CTy, ty, CTyForm, void, basic, enum_type, pointer, array, record_type, function, form_of_type, unqualified, CTypes, CExpr, expr, CForm, assign_by, type_of}
use Rattle.cx_core.specs.Typing.{CHome, IsTyped, IsTypedForm, IsLvalue, IsComputedIn, AreJoined, IsMoved, IsShift, IsElementPointer, width_of}
use Rattle.cx_core.specs.ValidTypes.{IsTypeIn, IsObjectForm, IsResultForm, IsModifiable, holds_const}
use Rattle.cx_rules.specs.declared.kinds.OperandKind.{OperandKind}
use Rattle.cx_rules.specs.declared.kinds.OperandKind.TheVariants.{Value, Place, Function, VoidPlace}
use Rattle.cx_rules.specs.declared.kinds.Pairing.{Pairing}
use Rattle.cx_rules.specs.declared.kinds.Pairing.TheVariants.{Arithmetic, Shift, PointerInteger, IntegerPointer, Pointers, Nothing}
use Rattle.cx_rules.specs.Meanings.{assign_meaning, assign_by_meaning, assigned_by, step_meaning, is_comparison}
use Rattle.cx_rules.specs.Nodes.{assign_node, assign_by_node, step_node}
use Rattle.cx_rules.specs.Operands.{COperand, value_of, value_type, gives_nothing, holds_nothing, converted_to, common_of, promoted_type, promoted_value, width_of_operand}
use Rattle.cx_rules.specs.Pairs.{pairing, joins, both_integers, numbers_pair, shift_pair, sum_pair, difference_pair, differ}
use Rattle.cx_rules.specs.Rules.{is_modifiable}
use Rattle.cx_rules.specs.Scope.{CScope}
use Rattle.cx_rules.specs.Types.{is_integer, is_element_pointer, is_array, is_complete}
use Rattle.cx_typed.proofs.Binary.{chooses}
use Rattle.cx_typed.proofs.Conversions.{promotes, promoted_found}
use Rattle.cx_typed.proofs.Joined.{joined_is}
use Rattle.cx_typed.proofs.Fitting.{fitted_is}
use Rattle.cx_typed.proofs.Growing.{complete_stays, const_stays, type_stays, basic_grows}
use Rattle.cx_typed.proofs.Pointing.{elements_there}
use Rattle.cx_typed.proofs.Promoted.{neither, not_not, promoted_there, common_there, integer_there, common_promoted}
use Rattle.cx_typed.proofs.Same.{both}
use Rattle.cx_typed.proofs.Single.{one_holds}
use Rattle.cx_typed.proofs.Values.{value_is, value_type_is, unqualified_known}
use Rattle.cx_typed.specs.Growth.{Gives, Grows}
use Rattle.cx_typed.specs.Operands.{IsKnownType, IsValueType, IsPlaceType, IsOperandType, IsOperandTypeBy, IsTypedBy, IsTypedOperand}
use Rattle.cx_typed.specs.Unbroken.{IsUnbroken}

-- ---- modifiable lvalues (6.3.2.1p1)

-- an lvalue of complete type that is no array and has no `const` part
pub record IsTarget (opens : List ℕ) (types : CTypes) (unit : ℕ) (core : CExpr) : Type 0 where
  pub place : IsPlaceType opens types unit core
  pub no_array : is_array (type_of core) ≡ false
  pub complete : is_complete types (type_of core) ≡ true
  pub plain : holds_const types (type_of core) ≡ false

is_not : {a : Bool} → not a ≡ true → a ≡ false
is_not {a = true} is = absurd cc
is_not {a = false} is = refl

target_by : (opens : List ℕ) (types : CTypes) (unit : ℕ) (kind : OperandKind) (is_register : Bool) (core : CExpr) → IsOperandTypeBy kind opens types unit core
    → is_modifiable types (record { kind = kind; is_register = is_register; core = core }) ≡ true → IsTarget opens types unit core
target_by opens types unit Value is_register core held is = absurd cc
target_by opens types unit Place is_register core held is = record {
  place = held;
  no_array = is_not (both is).0;
  complete = (both (both is).1).0;
  plain = is_not (both (both is).1).1;
}
target_by opens types unit Function is_register core held is = absurd cc
target_by opens types unit VoidPlace is_register core held is = absurd cc

pub target_is : (opens : List ℕ) (types : CTypes) (unit : ℕ) (target : COperand) → IsOperandType opens types unit target → is_modifiable types target ≡ true → IsTarget opens types unit target.core
target_is opens types unit target held is = target_by opens types unit target.kind target.is_register target.core held is

lvalue_by : (types : CTypes) (home : CHome) (kind : OperandKind) (is_register : Bool) (core : CExpr)
    → is_modifiable types (record { kind = kind; is_register = is_register; core = core }) ≡ true → IsTypedBy kind home core → IsLvalue home core
lvalue_by types home Value is_register core is typed = absurd cc
lvalue_by types home Place is_register core is typed = typed
lvalue_by types home Function is_register core is typed = absurd cc
lvalue_by types home VoidPlace is_register core is typed = absurd cc

pub lvalue_is : (types : CTypes) (home : CHome) (target : COperand) → is_modifiable types target ≡ true → IsTypedOperand home target → IsLvalue home target.core
lvalue_is types home target is typed = lvalue_by types home target.kind target.is_register target.core is typed

result_form : (type : CTy) → is_array type ≡ false → IsObjectForm (form_of_type type) → IsResultForm (form_of_type type)
result_form (ty void is_const) is held = tt
result_form (ty (basic which) is_const) is held = tt
result_form (ty (enum_type number) is_const) is held = tt
result_form (ty (pointer to) is_const) is held = tt
result_form (ty (array element length) is_const) is held = absurd cc
result_form (ty (record_type number) is_const) is held = tt
result_form (ty (function result params variadic) is_const) is held = absurd held

result_plain : (type : CTy) → IsResultForm (form_of_type type) → IsResultForm (form_of_type (unqualified type))
result_plain (ty form is_const) held = held

-- its value has its type, unqualified
value_of_core : (type : CTy) (place : TextPlace) (form : CForm) → is_array type ≡ false → value_type (record { kind = Place; is_register = false; core = expr type place form }) ≡ unqualified type
value_of_core (ty void is_const) place form is = refl
value_of_core (ty (basic which) is_const) place form is = refl
value_of_core (ty (enum_type number) is_const) place form is = refl
value_of_core (ty (pointer to) is_const) place form is = refl
value_of_core (ty (array element length) is_const) place form is = absurd cc
value_of_core (ty (record_type number) is_const) place form is = refl
value_of_core (ty (function result params variadic) is_const) place form is = refl

target_value_by : (types : CTypes) (kind : OperandKind) (is_register : Bool) (core : CExpr) → is_modifiable types (record { kind = kind; is_register = is_register; core = core }) ≡ true
    → value_type (record { kind = kind; is_register = is_register; core = core }) ≡ unqualified (type_of core)
target_value_by types Value is_register core is = absurd cc
target_value_by types Place is_register (expr type place form) is = value_of_core type place form (is_not (both is).0)
target_value_by types Function is_register core is = absurd cc
target_value_by types VoidPlace is_register core is = absurd cc

pub target_value : (types : CTypes) (target : COperand) → is_modifiable types target ≡ true → value_type target ≡ unqualified (type_of target.core)
target_value types target is = target_value_by types target.kind target.is_register target.core is

-- its value may be taken
target_holds_by : (types : CTypes) (kind : OperandKind) (is_register : Bool) (core : CExpr) → is_modifiable types (record { kind = kind; is_register = is_register; core = core }) ≡ true
    → holds_nothing types (record { kind = kind; is_register = is_register; core = core }) ≡ false
target_holds_by types Value is_register core is = absurd cc
target_holds_by types Place is_register core is = holds (is_array (type_of core)) (is_complete types (type_of core)) (both (both is).1).0
  where
    holds : (array complete : Bool) → complete ≡ true → (not array && not complete) ≡ false
    holds true complete held = refl
    holds false true held = refl
    holds false false held = absurd cc
target_holds_by types Function is_register core is = absurd cc
target_holds_by types VoidPlace is_register core is = absurd cc

pub target_holds : (types : CTypes) (target : COperand) → is_modifiable types target ≡ true → holds_nothing types target ≡ false
target_holds types target is = target_holds_by types target.kind target.is_register target.core is

last_joins : (types : CTypes) (target value : COperand) (op : Op2)
    → (((gives_nothing value || false) || (holds_nothing types value || false)) || not (joins (pairing types op (value_of target) (value_of value)))) ≡ false
    → joins (pairing types op (value_of target) (value_of value)) ≡ true
last_joins types target value op is = not_not (neither is).1

module _ (opens : List ℕ) (types : CTypes) (unit : ℕ) where
  stored_value : (core : CExpr) → IsTarget opens types unit core → IsValueType opens types unit (unqualified (type_of core))
  stored_value (expr (ty form is_const) place core) held = record {
    known = unqualified_known opens types unit (ty form is_const) held.place.known;
    plain = refl;
    form = result_plain (ty form is_const) (result_form (ty form is_const) held.no_array held.place.object);
  }

  pub assign_known : (scope : CScope) (at : TextPlace) (target value : COperand) → IsOperandType opens types unit target → IsUnbroken scope types (assign_node target value)
      → IsOperandType opens types unit (assign_meaning at types target value)
  assign_known scope at target value held unbroken = stored_value target.core (target_is opens types unit target held (not_not unbroken.k11))

  pub assign_by_known : (scope : CScope) (at : TextPlace) (op : Op2) (target value : COperand) → IsOperandType opens types unit target → IsUnbroken scope types (assign_by_node op target value)
      → IsOperandType opens types unit (assign_by_meaning at types op target value)
  assign_by_known scope at op target value held unbroken = stored_value target.core (target_is opens types unit target held (not_not unbroken.k11))

  pub step_known : (scope : CScope) (at : TextPlace) (up post : Bool) (on : COperand) → IsOperandType opens types unit on → IsUnbroken scope types (step_node on)
      → IsOperandType opens types unit (step_meaning at up post on)
  step_known scope at up post on held unbroken = stored_value on.core (target_is opens types unit on held (not_not unbroken.k11))

-- ---- in a program

module _ (opens : List ℕ) (types : CTypes) (home : CHome) (grows : Grows opens types home.program.types) where
  modifiable_there : (core : CExpr) → IsTarget opens types home.unit core → IsModifiable home.program.types (type_of core)
  modifiable_there core held = record {
    no_array = result_form (type_of core) held.no_array held.place.object;
    complete = complete_stays opens types home.program.types grows (type_of core) held.complete;
    plain = const_stays opens types home.program.types grows (type_of core) held.complete ∙ held.plain;
  }

  stored_in : (core : CExpr) → IsTarget opens types home.unit core → IsTypeIn home.program.types home.unit (unqualified (type_of core))
  stored_in core held = type_stays opens types home.program.types grows home.unit (unqualified (type_of core)) (stored_value opens types home.unit core held).known.type_in

  pub assign_typed : (scope : CScope) (at : TextPlace) (target value : COperand) → IsOperandType opens types home.unit target → IsOperandType opens types home.unit value
      → IsUnbroken scope types (assign_node target value) → IsTypedOperand home target → IsTypedOperand home value → IsTypedOperand home (assign_meaning at types target value)
  assign_typed scope at target value one other unbroken one_typed other_typed =
      let held = target_is opens types home.unit target one (not_not unbroken.k11) in
      let given = value_is opens types home grows value other (one_holds types value false unbroken.k10) other_typed in
      let made = fitted_is opens types home grows (type_of target.core) (value_of value) held.place.known (value_type_is opens types home.unit value other) (not_not unbroken.k12) given in (
        stored_in target.core held,
        (
          lvalue_is types home target (not_not unbroken.k11) one_typed,
          made.typed,
          record { modifiable = modifiable_there target.core held; type_is = refl; value_is = made.type_is },
        ),
      )

  stepped_by : (type : CTy) → IsValueType opens types home.unit type → (is_integer types type || is_element_pointer types type) ≡ true
      → IsIntegerType home.program.types type ⊎ IsElementPointer home.program.types type
  stepped_by type held is = chosen (is_integer types type) (is_element_pointer types type) is (λ yes_it. integer_there opens types home grows type held yes_it) (λ yes_it. elements_there opens types home grows type held yes_it)
    where
      chosen : {A B : Type 0} (a b : Bool) → (a || b) ≡ true → (a ≡ true → A) → (b ≡ true → B) → A ⊎ B
      chosen true b is first second = inl (first refl)
      chosen false b is first second = inr (second is)

  pub step_typed : (scope : CScope) (at : TextPlace) (up post : Bool) (on : COperand) → IsOperandType opens types home.unit on
      → IsUnbroken scope types (step_node on) → IsTypedOperand home on → IsTypedOperand home (step_meaning at up post on)
  step_typed scope at up post on one unbroken typed =
      let modifiable = not_not unbroken.k11 in
      let held = target_is opens types home.unit on one modifiable in (
        stored_in on.core held,
        (
          lvalue_is types home on modifiable typed,
          record {
            modifiable = modifiable_there on.core held;
            type_is = refl;
            stepped = subst (λ type. IsIntegerType home.program.types type ⊎ IsElementPointer home.program.types type) (target_value types on modifiable)
                (stepped_by (value_type on) (value_type_is opens types home.unit on one) (not_not unbroken.k10));
          },
        ),
      )

  -- ---- compound assignments (6.5.16.2)

  -- the promoted type of an integer is the same in the whole program, whatever its qualifier
  promoted_same : (form : CTyForm) (is_const : Bool) (bits : Option ℕ) → IsKnownType opens types home.unit (ty form is_const) → is_integer types (ty form false) ≡ true
      → promoted home.program.types (ty form is_const) bits ≡ promoted types (ty form false) bits
  promoted_same form is_const bits known is = found (basic_of types form) (basic_of home.program.types form) (basic_grows opens types home.program.types grows form known.settled) is
    where
      found : (few many : Option Basic) → Gives few many → is_some few ≡ true → promoted_found (ty form is_const) bits many ≡ promoted_found (ty form false) bits few
      found None many gives some = absurd cc
      found (Some which) many gives some = ap (promoted_found (ty form is_const) bits) (gives which refl)

  target_promoted : (core : CExpr) → IsTarget opens types home.unit core → is_integer types (unqualified (type_of core)) ≡ true
      → promoted home.program.types (type_of core) (width_of core) ≡ promoted types (unqualified (type_of core)) (width_of core)
  target_promoted (expr (ty form is_const) place inner) held is = promoted_same form is_const (width_of (expr (ty form is_const) place inner)) held.place.known is

  module _ (scope : CScope) (at : TextPlace) (target value : COperand) (target_held : IsOperandType opens types home.unit target) (value_held : IsOperandType opens types home.unit value)
      (modifiable : is_modifiable types target ≡ true) (value_holds : holds_nothing types value ≡ false)
      (target_typed : IsTypedOperand home target) (value_typed : IsTypedOperand home value) where
    held_target : IsTarget opens types home.unit target.core
    held_target = target_is opens types home.unit target target_held modifiable

    abbrev target_type : CTy
    target_type = promoted home.program.types (type_of target.core) (width_of target.core)

    -- the promoted type of the target is that of its value
    promoted_target : is_integer types (value_type target) ≡ true → target_type ≡ promoted_type types target
    promoted_target is =
        target_promoted target.core held_target (subst (λ t. is_integer types t ≡ true) (target_value types target modifiable) is)
        ∙ ap (λ t. promoted types t (width_of target.core)) (sym (target_value types target modifiable))

    joined_there : both_integers types (value_type target) (value_type value) ≡ true
        → AreJoined (common_of types target value) target_type (type_of (converted_to (common_of types target value) (value_of value)))
    joined_there is =
        let first = promotes types (value_type target) (width_of_operand target) (both is).0 in
        let second = promotes types (value_type value) (width_of_operand value) (both is).1 in
        let common : common_of types target value ≡ ty (basic (common_basic first.which second.which)) false =
        ap (λ t. common_type t (promoted_type types value)) first.promoted_to ∙ ap (common_type (ty (basic first.which) false)) second.promoted_to in
        let made = common_there opens types home grows target value value (both is).0 (both is).1 value_held value_holds (both is).1 value_typed in
        record {
          promoted = common_promoted opens types home grows target value (both is).0 (both is).1;
          common = ap (λ t. common_type t (common_of types target value)) (promoted_target (both is).0 ∙ first.promoted_to)
              ∙ ap (common_type (ty (basic first.which) false)) common
              ∙ ap (λ which. ty (basic which) false) (joined_is first.which second.which first.is_promoted second.is_promoted)
              ∙ sym common;
          value_is = made.type_is;
        }

    abbrev Assigns : Op2 → Pairing → Type 0
    Assigns op how = joins how ≡ true → IsTypedForm home (unqualified (type_of target.core)) (assigned_by at types op target value how)

    abbrev stored_type : CTy
    stored_type = unqualified (type_of target.core)

    lvalue : IsLvalue home target.core
    lvalue = lvalue_is types home target modifiable target_typed

    assigned : (op : Op2) (computes : CTy) (given : CExpr) → IsTyped home given → IsComputedIn home.program.types op computes target_type (type_of given)
        → IsTypedForm home stored_type (assign_by op computes target.core given)
    assigned op computes given typed computed = (lvalue, typed, record { modifiable = modifiable_there target.core held_target; type_is = refl; computed = computed })

    abbrev common_value : CExpr
    common_value = converted_to (common_of types target value) (value_of value)

    assigned_common : (op : Op2) → both_integers types (value_type target) (value_type value) ≡ true
        → (AreJoined (common_of types target value) target_type (type_of common_value) → IsComputedIn home.program.types op (common_of types target value) target_type (type_of common_value))
        → IsTypedForm home stored_type (assign_by op (common_of types target value) target.core common_value)
    assigned_common op is given =
        assigned op (common_of types target value) common_value
        (common_there opens types home grows target value value (both is).0 (both is).1 value_held value_holds (both is).1 value_typed).typed (given (joined_there is))

    numbers_assigned : (op : Op2)
        → (AreJoined (common_of types target value) target_type (type_of common_value) → IsComputedIn home.program.types op (common_of types target value) target_type (type_of common_value))
        → Assigns op (numbers_pair types (value_type target) (value_type value))
    numbers_assigned op given =
        chooses (Assigns op) (both_integers types (value_type target) (value_type value)) Arithmetic Nothing (λ is other. assigned_common op is given) (λ fails is. absurd cc)

    -- a pointer that is moved
    promoted_pointer : (type : CTy) (bits : Option ℕ) → is_element_pointer types (unqualified type) ≡ true → promoted home.program.types type bits ≡ unqualified type
    promoted_pointer (ty (pointer to) is_const) bits is = refl
    promoted_pointer (ty void is_const) bits is = absurd cc
    promoted_pointer (ty (basic which) is_const) bits is = absurd cc
    promoted_pointer (ty (enum_type number) is_const) bits is = absurd cc
    promoted_pointer (ty (array element length) is_const) bits is = absurd cc
    promoted_pointer (ty (record_type number) is_const) bits is = absurd cc
    promoted_pointer (ty (function result params variadic) is_const) bits is = absurd cc

    moved_there : is_element_pointer types (value_type target) ≡ true → is_integer types (value_type value) ≡ true
        → IsMoved home.program.types (value_type target) target_type (value_type value)
    moved_there elements integer =
        let is : target_type ≡ value_type target =
        promoted_pointer (type_of target.core) (width_of target.core) (subst (λ t. is_element_pointer types t ≡ true) (target_value types target modifiable) elements)
        ∙ sym (target_value types target modifiable) in
        record {
          elements = subst (IsElementPointer home.program.types) (sym is) (elements_there opens types home grows (value_type target) (value_type_is opens types home.unit target target_held) elements);
          integer = integer_there opens types home grows (value_type value) (value_type_is opens types home.unit value value_held) integer;
          type_is = sym is;
        }

    value_there : IsTyped home (value_of value)
    value_there = value_is opens types home grows value value_held value_holds value_typed

    sum_assigned : Assigns op.Add (sum_pair types (value_type target) (value_type value))
    sum_assigned =
        chooses (Assigns op.Add) (both_integers types (value_type target) (value_type value)) Arithmetic _ (λ is other. assigned_common op.Add is (λ held. inl held))
        (λ fails. chooses (Assigns op.Add) (is_element_pointer types (value_type target) && is_integer types (value_type value)) PointerInteger _
        (λ is other. assigned op.Add (value_type target) (value_of value) value_there (inr (moved_there (both is).0 (both is).1)))
        (λ more. chooses (Assigns op.Add) (is_integer types (value_type target) && is_element_pointer types (value_type value)) IntegerPointer Nothing (λ is other. absurd cc) (λ last other. absurd cc)))

    difference_assigned : Assigns op.Subtract (difference_pair types (value_type target) (value_type value))
    difference_assigned =
        chooses (Assigns op.Subtract) (both_integers types (value_type target) (value_type value)) Arithmetic _ (λ is other. assigned_common op.Subtract is (λ held. inl held))
        (λ fails. chooses (Assigns op.Subtract) (is_element_pointer types (value_type target) && is_integer types (value_type value)) PointerInteger _
        (λ is other. assigned op.Subtract (value_type target) (value_of value) value_there (inr (moved_there (both is).0 (both is).1)))
        (λ more. chooses (Assigns op.Subtract) (differ types (value_type target) (value_type value)) Pointers Nothing (λ is other. absurd cc) (λ last other. absurd cc)))

    shift_assigned : (op : Op2)
        → (IsShift (promoted_type types target) target_type (type_of (promoted_value types value)) → IsComputedIn home.program.types op (promoted_type types target) target_type (type_of (promoted_value types value)))
        → Assigns op (shift_pair types (value_type target) (value_type value))
    shift_assigned op given =
        chooses (Assigns op) (both_integers types (value_type target) (value_type value)) Shift Nothing
        (λ is other.
        let first = promoted_there opens types home grows target target_held (target_holds types target modifiable) (both is).0 target_typed in
        let second = promoted_there opens types home grows value value_held value_holds (both is).1 value_typed in
        assigned op (promoted_type types target) (promoted_value types value) second.0.typed
        (given (record { promoted = first.1; left_is = promoted_target (both is).0; right_promoted = subst IsPromoted (sym second.0.type_is) second.1 })))
        (λ fails other. absurd cc)

    assigned_by_op : (op : Op2) → is_comparison op ≡ false → Assigns op (pairing types op (value_of target) (value_of value))
    unfolding pairing
    assigned_by_op op.Multiply plain = numbers_assigned op.Multiply (λ held. held)
    assigned_by_op op.Divide plain = numbers_assigned op.Divide (λ held. held)
    assigned_by_op op.Remainder plain = numbers_assigned op.Remainder (λ held. held)
    assigned_by_op op.Add plain = sum_assigned
    assigned_by_op op.Subtract plain = difference_assigned
    assigned_by_op op.ShiftLeft plain = shift_assigned op.ShiftLeft (λ held. held)
    assigned_by_op op.ShiftRight plain = shift_assigned op.ShiftRight (λ held. held)
    assigned_by_op op.Less plain = absurd cc
    assigned_by_op op.Greater plain = absurd cc
    assigned_by_op op.LessOrEqual plain = absurd cc
    assigned_by_op op.GreaterOrEqual plain = absurd cc
    assigned_by_op op.Equal plain = absurd cc
    assigned_by_op op.NotEqual plain = absurd cc
    assigned_by_op op.BitAnd plain = numbers_assigned op.BitAnd (λ held. held)
    assigned_by_op op.BitXor plain = numbers_assigned op.BitXor (λ held. held)
    assigned_by_op op.BitOr plain = numbers_assigned op.BitOr (λ held. held)

  -- an operator of a compound assignment is no comparison
  pub assign_by_typed : (scope : CScope) (at : TextPlace) (op : Op2) → is_comparison op ≡ false → (target value : COperand)
      → IsOperandType opens types home.unit target → IsOperandType opens types home.unit value → IsUnbroken scope types (assign_by_node op target value)
      → IsTypedOperand home target → IsTypedOperand home value → IsTypedOperand home (assign_by_meaning at types op target value)
  assign_by_typed scope at op plain target value one other unbroken one_typed other_typed =
      let modifiable = not_not unbroken.k11 in (
        stored_in target.core (target_is opens types home.unit target one modifiable),
        assigned_by_op scope at target value one other modifiable (one_holds types value (not (joins (pairing types op (value_of target) (value_of value)))) unbroken.k10) one_typed other_typed op plain
            (last_joins types target value op unbroken.k10),
      )
