-- What is given for a part of an object is stored there (ISO C99, 6.7.8p11 to p14).
use Rattle.std.proofs.Common.{◌≡◌, ℕ, ◌<◌, nat_lt, Bool, true, false, ◌&&◌, if◌then◌else◌, List, [], ◌∷◌, ◌++◌, length, Option, None, Some, refl, sym, ap, ◌∙◌, subst, arith}
use Rattle.std.proofs.lemmas.Bool.Decides.{nat_tests}
use Rattle.std.specs.Prelude.{IsSome, IfSome}
use Rattle.cx_core.specs.Trees.{CTy, ty, CTyForm, void, basic, enum_type, pointer, array, record_type, function, form_of_type, unqualified, CTypes, CExpr, expr, null, convert, type_of, place_of}
use Rattle.cx_core.specs.Typing.{CHome, IsTyped, IsConstant}
use Rattle.cx_core.specs.declared.ty.Basic.TheVariants.{Truth, Char, SignedChar, UnsignedChar, Short, UnsignedShort, Int, Unsigned, Long, UnsignedLong, LongLong, UnsignedLongLong}
use Rattle.cx_core.specs.ValidTypes.{IsComplete, IsResultForm}
use Rattle.cr_base.specs.declared.refusal.Place.{Place as TextPlace}
use Rattle.cx_rules.specs.Initial.{CAt, CStored, type_by, byte_value, bytes_from, most_elements, has_element, is_initial}
use Rattle.cx_rules.specs.Nodes.{given_node}
use Rattle.cx_rules.specs.Operands.{COperand, value_of, holds_nothing, fitted, converted_to, is_null_constant}
use Rattle.cx_rules.specs.Pairs.{is_assignable, types_match}
use Rattle.cx_rules.specs.Pieces.{at_line, CTarget, inside, from_whole, outside, kept_outside, is_within, with_more, value_facts, stored_value, bytes_stored, may_initialise, is_static_object, is_array_at}
use Rattle.cx_rules.specs.Scope.{CScope, with_object_number}
use Rattle.cx_rules.specs.Types.{size_of, is_pointer, same_type, is_character_array, is_character_form}
use Rattle.cx_tree.specs.Trees.{ExprTree}
use Rattle.cx_typed.proofs.Fitting.{fitted_is}
use Rattle.cx_typed.proofs.Fixed.{outside_of, initial_fixed}
use Rattle.cx_typed.proofs.Paths.{part_on, named_on, type_known}
use Rattle.cx_typed.proofs.Promoted.{not_not}
use Rattle.cx_typed.proofs.Numbered.{numbers_by}
use Rattle.cx_typed.proofs.Scopes.{grows_not, part_of, passes_on, stays_itself}
use Rattle.cx_typed.proofs.Single.{one_holds}
use Rattle.cx_typed.proofs.Sorted.{each_more}
use Rattle.cx_typed.proofs.Texts.{bytes_parts, bytes_typed}
use Rattle.cx_typed.proofs.Values.{value_is, value_type_is}
use Rattle.cx_typed.proofs.Walked.{makes_nothing, type_on, passes_keep, made_on}
use Rattle.cx_typed.specs.Initialised.{CWhole, IsKnownWhole, IsPart, IsStored, IsTypedStored, EachStored, AreStored, IsPlaced}
use Rattle.cx_typed.specs.Operands.{IsKnownType, IsOperandType, IsTypedOperand}
use Rattle.cx_typed.specs.Scopes.{Serves, Passes, AreTypedLiterals}
use Rattle.cx_typed.specs.Unbroken.{IsUnbroken}
use Rattle.cx_typed.specs.Walked.{IsGood, IsExpr}

-- ---- what was stored before stays

module _ (opens : List ℕ) (whole : CWhole) (before start after : CScope) where
  pub whole_on : Passes opens start after → IsKnownWhole opens start.types start.unit whole.type → IsKnownWhole opens after.types after.unit whole.type
  whole_on passes held = record { known = type_on opens start after whole.type passes held.known; object = held.object }

  pub stored_on : (stored : List CStored) → AreStored opens whole before stored start → Passes opens start after → IsGood opens after → AreTypedLiterals opens start after
      → AreStored opens whole before stored after
  stored_on stored held passes good made = record {
    good = good;
    passes = passes_on opens before start after held.passes passes;
    object = whole_on passes held.object;
    parts = each_more (IsStored start.types whole.type) (IsStored after.types whole.type) stored
        (λ one is. record {
          part = part_on opens start.types after.types passes.grows whole.type one.type one.path is.part;
          named = named_on opens start.types after.types passes.grows one.path whole.type one.type is.part is.named;
          no_array = is.no_array;
        }) held.parts;
    typed = λ home serves. held.typed home (part_of opens home before before start after serves (stays_itself opens before) (passes_keep opens _ _ start after passes));
    made = made_on opens before start after held.passes passes held.made made;
  }

-- ---- lists

module _ (P : CStored → Type 0) where
  if_outside : (test : Bool) (one : CStored) (others : List CStored) → P one → EachStored P others → EachStored P (if test then others else one ∷ others)
  if_outside true one others held more = more
  if_outside false one others held more = (held, more)

  outside_each : (part : List ℕ) (stored : List CStored) → EachStored P stored → EachStored P (kept_outside part stored)
  outside_each part [] held = tt
  outside_each part (one ∷ others) held = if_outside (is_within part one.path) one (kept_outside part others) held.0 (outside_each part others held.1)

  pub not_in : (at : Option CAt) (stored : List CStored) → EachStored P stored → EachStored P (outside at stored)
  not_in None stored held = held
  not_in (Some at) stored held = outside_each at.path stored held

  both_each : (first second : List CStored) → EachStored P first → EachStored P second → EachStored P (first ++ second)
  both_each [] second held more = more
  both_each (one ∷ first) second held more = (held.0, both_each first second held.1 more)

  pub more_each : (at : Option CAt) (more stored : List CStored) → EachStored P more → EachStored P stored → EachStored P (with_more at more stored)
  more_each at [] stored new held = held
  more_each at (first ∷ more) stored new held = both_each (outside at stored) (first ∷ more) (not_in at stored held) new

some_more : (at : Option CAt) (more stored : List CStored) → 0 < length more → 0 < length (with_more at more stored)
some_more at [] stored some = absurd (omega arith)
some_more at (first ∷ more) stored some = behind (outside at stored)
  where
    behind : (front : List CStored) → 0 < length (front ++ first ∷ more)
    behind [] = omega arith
    behind (one ∷ front) = omega arith

-- ---- more is stored

module _ (opens : List ℕ) (whole : CWhole) (before after : CScope) where
  pub stored_more : (at : Option CAt) (more stored : List CStored) → AreStored opens whole before stored after → EachStored (IsStored after.types whole.type) more
      → ((home : CHome) → Serves home opens before after → EachStored (IsTypedStored home whole.is_static) more) → AreStored opens whole before (with_more at more stored) after
  stored_more at more stored held parts typed = record {
    good = held.good;
    passes = held.passes;
    object = held.object;
    parts = more_each (IsStored after.types whole.type) at more stored parts held.parts;
    typed = λ home serves. more_each (IsTypedStored home whole.is_static) at more stored (typed home serves) (held.typed home serves);
    made = held.made;
  }

  pub stored_outside : (at : Option CAt) (stored : List CStored) → AreStored opens whole before stored after → AreStored opens whole before (outside at stored) after
  stored_outside at stored held = record {
    good = held.good;
    passes = held.passes;
    object = held.object;
    parts = not_in (IsStored after.types whole.type) at stored held.parts;
    typed = λ home serves. not_in (IsTypedStored home whole.is_static) at stored (held.typed home serves);
    made = held.made;
  }

-- ---- values

-- what may be assigned is for no array and no function
assigned_form : (types : CTypes) (type value : CTy) (is_null : Bool) → types_match types type value is_null ≡ true → IsResultForm (form_of_type type)
assigned_form types (ty void is_const) value is_null is = tt
assigned_form types (ty (basic which) is_const) value is_null is = tt
assigned_form types (ty (enum_type number) is_const) value is_null is = tt
assigned_form types (ty (pointer to) is_const) value is_null is = tt
assigned_form types (ty (record_type number) is_const) value is_null is = tt
assigned_form types (ty (array element length) is_const) value is_null is = absurd cc
assigned_form types (ty (function result params variadic) is_const) value is_null is = absurd cc

assigned_result : (types : CTypes) (type : CTy) (value : CExpr) → is_assignable types type value ≡ true → IsResultForm (form_of_type type)
unfolding is_assignable
assigned_result types type value is = assigned_form types type (type_of value) (is_null_constant types value) is

converted_constant : (home : CHome) (test : Bool) (type : CTy) (value : CExpr) → IsConstant home.program value → IsConstant home.program (if test then value else expr type (place_of value) (convert value))
converted_constant home true type value held = held
converted_constant home false type value held = held

null_constant : (home : CHome) (test : Bool) (type : CTy) (value other : CExpr) → IsConstant home.program other → IsConstant home.program (if test then expr type (place_of value) null else other)
null_constant home true type value other held = tt
null_constant home false type value other held = held

fitted_constant : (home : CHome) (types : CTypes) (type : CTy) (value : CExpr) → IsConstant home.program value → IsConstant home.program (fitted types type value)
fitted_constant home types type value held =
    null_constant home (is_pointer type && is_null_constant types value) (unqualified type) value (converted_to (unqualified type) value)
    (converted_constant home (same_type (type_of value) (unqualified type)) (unqualified type) value held)

either_static : (scope : CScope) (is_static : Bool) (value : CExpr) → may_initialise scope is_static value ≡ true → is_static ≡ true → is_initial scope.types (is_static_object scope) value ≡ true
either_static scope true value is static = is
either_static scope false value is static = absurd cc

-- a value that lands at a part
module _ (opens : List ℕ) (whole : CWhole) (before start after : CScope) (tree : ExprTree) (value : COperand) (held : IsExpr opens tree start value after) (stored : List CStored)
    (front : AreStored opens whole before stored start)
  where
    pub behind : AreStored opens whole before stored after
    behind = stored_on opens whole before start after stored front held.passes held.good held.made

    value_typed : (is_static : Bool) → is_static ≡ whole.is_static → (path : List ℕ) (type : CTy) → type_by after.types (Some whole.type) path ≡ Some type → is_assignable after.types type (value_of value) ≡ true
        → may_initialise after is_static (value_of value) ≡ true → holds_nothing after.types value ≡ false → (home : CHome) → Serves home opens before after
        → IsTypedStored home whole.is_static (record { path = path; type = type; value = fitted after.types type (value_of value) })
    value_typed is_static same path type part assignable constant holds home serves =
        let unit : home.unit ≡ after.unit = serves.unit_is ∙ sym behind.passes.unit_is in
        let typed : IsTypedOperand home value = held.typed home (part_of opens home before start after after serves front.passes (passes_keep opens _ _ after after (stays_itself opens after))) in
        let known : IsOperandType opens after.types home.unit value = subst (λ u. IsOperandType opens after.types u value) (sym unit) held.known in
        let one : IsTyped home (value_of value) = value_is opens after.types home serves.grows value known holds typed in
        let value_known = value_type_is opens after.types home.unit value known in
        let type_is_known : IsKnownType opens after.types home.unit type =
        subst (λ u. IsKnownType opens after.types u type) (sym unit) (type_known opens after.types after.unit held.good.sound path whole.type type behind.object part).known in
        let fits = fitted_is opens after.types home serves.grows type (value_of value) type_is_known value_known assignable one in
        record {
          typed = fits.typed;
          type_is = fits.type_is;
          constant = λ static.
              fitted_constant home after.types type (value_of value)
              (initial_fixed after.types (is_static_object after) home serves.statics (value_of value) (either_static after is_static (value_of value) constant (same ∙ static)) one).0;
          outside = λ static.
              (fitted_is opens after.types (outside_of home) serves.grows type (value_of value) type_is_known value_known assignable
              (initial_fixed after.types (is_static_object after) home serves.statics (value_of value) (either_static after is_static (value_of value) constant (same ∙ static)) one).1).typed;
        }

    module _ (is_static : Bool) (same : is_static ≡ whole.is_static) where
      abbrev target_of : Option CAt → CTarget
      target_of base = record { is_static = is_static; base = base }

      abbrev value_at : CAt → CStored
      value_at where_is = record { path = where_is.path; type = where_is.type; value = fitted after.types where_is.type (value_of value) }

      pub value_stores : (base at : Option CAt) → IsPlaced after.types whole.type (target_of base) at → IsUnbroken after after.types (given_node (value_facts after (target_of base) value at))
          → AreStored opens whole before (with_more (from_whole base at) (stored_value after.types value (from_whole base at)) stored) after
      value_stores base None placed unbroken = absurd (let h : true ≡ false = unbroken.k21 in cc)
      value_stores None (Some at) placed unbroken = absurd (let h : IsSome {T = CAt} None = placed.based refl in cc)
      value_stores (Some base) (Some at) placed unbroken =
          let assignable : is_assignable after.types at.type (value_of value) ≡ true = not_not unbroken.k12 in
          let holds = one_holds after.types value false unbroken.k10 in
          stored_more opens whole before after (Some (inside base at)) (value_at (inside base at) ∷ []) stored behind
          (record { part = placed.part.there; named = placed.part.named; no_array = assigned_result after.types at.type (value_of value) assignable }, tt)
          (λ home serves. (value_typed is_static same (inside base at).path at.type placed.part.there assignable (not_not unbroken.k17) holds home serves, tt))

      pub value_some : (base at : Option CAt) → IsPlaced after.types whole.type (target_of base) at → IsUnbroken after after.types (given_node (value_facts after (target_of base) value at))
          → 0 < length (with_more (from_whole base at) (stored_value after.types value (from_whole base at)) stored)
      value_some base None placed unbroken = absurd (let h : true ≡ false = unbroken.k21 in cc)
      value_some None (Some at) placed unbroken = absurd (let h : IsSome {T = CAt} None = placed.based refl in cc)
      value_some (Some base) (Some at) placed unbroken = some_more (Some (inside base at)) (value_at (inside base at) ∷ []) stored (omega arith)

      pub value_placed : (base at : Option CAt) → IsUnbroken after after.types (given_node (value_facts after (target_of base) value at)) → IsSome at
      value_placed base None unbroken = absurd (let h : true ≡ false = unbroken.k21 in cc)
      value_placed base (Some at) unbroken = refl

-- ---- string literals

is_array_there : (type : CTyForm) → is_character_array type ≡ true → (element : CTy) × (count : Option ℕ) × (type ≡ array element count) × (is_character_form (form_of_type element) ≡ true)
is_array_there (array element count) is = (element, count, refl, is)
is_array_there void is = absurd cc
is_array_there (basic which) is = absurd cc
is_array_there (enum_type number) is = absurd cc
is_array_there (pointer to) is = absurd cc
is_array_there (record_type number) is = absurd cc
is_array_there (function result params variadic) is = absurd cc

character_size : (types : CTypes) (element : CTy) → is_character_form (form_of_type element) ≡ true → size_of types element ≡ Some 1
character_size types (ty (basic Char) is_const) is = refl
character_size types (ty (basic SignedChar) is_const) is = refl
character_size types (ty (basic UnsignedChar) is_const) is = refl
character_size types (ty (basic Truth) is_const) is = absurd cc
character_size types (ty (basic Short) is_const) is = absurd cc
character_size types (ty (basic UnsignedShort) is_const) is = absurd cc
character_size types (ty (basic Int) is_const) is = absurd cc
character_size types (ty (basic Unsigned) is_const) is = absurd cc
character_size types (ty (basic Long) is_const) is = absurd cc
character_size types (ty (basic UnsignedLong) is_const) is = absurd cc
character_size types (ty (basic LongLong) is_const) is = absurd cc
character_size types (ty (basic UnsignedLongLong) is_const) is = absurd cc
character_size types (ty void is_const) is = absurd cc
character_size types (ty (enum_type number) is_const) is = absurd cc
character_size types (ty (pointer to) is_const) is = absurd cc
character_size types (ty (array element length) is_const) is = absurd cc
character_size types (ty (record_type number) is_const) is = absurd cc
character_size types (ty (function result params variadic) is_const) is = absurd cc

first_element : (types : CTypes) (element : CTy) (count : Option ℕ) → is_character_form (form_of_type element) ≡ true → IfSome count (λ n. 0 < n) → has_element types element count 0 ≡ true
first_element types element (Some n) is some = grind (arith, nat_tests, some)
first_element types element None is some = ap (λ found. nat_lt 0 (most_elements found)) (character_size types element is)

if_some : (test : Bool) (one : CStored) (others : List CStored) → test ≡ true → 0 < length (if test then one ∷ others else [])
if_some true one others e = omega arith
if_some false one others e = absurd cc

some_bytes : (types : CTypes) (at : TextPlace) (where_is : CAt) (element : CTy) (count : Option ℕ) (bytes : List ℕ) → 0 < length bytes → has_element types element count 0 ≡ true
    → 0 < length (bytes_from types at where_is element count 0 bytes)
some_bytes types at where_is element count [] some is = absurd (omega arith)
some_bytes types at where_is element count (byte ∷ bytes) some is =
    if_some (has_element types element count 0) (record { path = where_is.path ++ 0 ∷ []; type = element; value = byte_value types at element byte }) (bytes_from types at where_is element count 1 bytes) is

count_some : (types : CTypes) (element : CTy) (count : Option ℕ) → IfSome count (λ length. (0 < length) × IsComplete types (ty (array element count) false)) → IfSome count (λ n. 0 < n)
count_some types element None held = tt
count_some types element (Some n) held = held.0

-- where it fills an array of characters
module _ (opens : List ℕ) (whole : CWhole) (before start : CScope) (stored : List CStored) (front : AreStored opens whole before stored start) (line : ℕ) (bytes : List ℕ) (some : 0 < length bytes) where
  -- its object has a number, and isn't needed
  abbrev pub numbered : CScope
  numbered = with_object_number start

  numbered_passes : Passes opens start numbered
  numbered_passes = record {
    unit_is = refl;
    grows = grows_not opens start.types;
    declared = λ name meant thing is. is;
    mentions = λ number x is. is;
    literals = λ number x is. is;
    front = [];
    declared_is = refl;
    begins_is = refl;
    rest_is = refl;
    numbers = numbers_by start numbered (omega arith) refl;
  }

  text_behind : AreStored opens whole before stored numbered
  text_behind =
      stored_on opens whole before start numbered stored front numbered_passes (record { sound = front.good.sound; known = front.good.known; tags = front.good.tags })
      (makes_nothing opens start numbered refl)

  module _ (is_static : Bool) where
    abbrev text_target : Option CAt → CTarget
    text_target base = record { is_static = is_static; base = base }

    abbrev bytes_at : Option CAt → List CStored
    bytes_at found = bytes_stored start.types (at_line start line) bytes found

    -- the bytes of an array of characters
    record AreBytes (where_is : CAt) : Type 0 where
      stores : AreStored opens whole before (with_more (Some where_is) (bytes_at (Some where_is)) stored) numbered
      some_are : 0 < length (bytes_at (Some where_is))

    bytes_of : (path : List ℕ) (type : CTy) → IsPart start.types whole.type (record { path = path; type = type }) → is_character_array (form_of_type type) ≡ true → AreBytes (record { path = path; type = type })
    bytes_of path (ty (array element count) is_const) part is =
        let held = type_known opens start.types start.unit front.good.sound path whole.type (ty (array element count) is_const) front.object part.there in
        let first = first_element start.types element count is (count_some start.types element count held.known.type_in.1.length) in
        record {
          stores = stored_more opens whole before numbered (Some (record { path = path; type = ty (array element count) is_const })) _ stored text_behind
              (bytes_parts start.types (at_line start line) (record { path = path; type = ty (array element count) is_const }) element count is whole.type is_const part.there part.named bytes 0)
              (λ home serves. bytes_typed start.types (at_line start line) (record { path = path; type = ty (array element count) is_const }) element count is home whole.is_static bytes 0);
          some_are = some_bytes start.types (at_line start line) (record { path = path; type = ty (array element count) is_const }) element count bytes some first;
        }
    bytes_of path (ty void is_const) part is = absurd cc
    bytes_of path (ty (basic which) is_const) part is = absurd cc
    bytes_of path (ty (enum_type number) is_const) part is = absurd cc
    bytes_of path (ty (pointer to) is_const) part is = absurd cc
    bytes_of path (ty (record_type number) is_const) part is = absurd cc
    bytes_of path (ty (function result params variadic) is_const) part is = absurd cc

    pub record IsTextGiven (base at : Option CAt) : Type 0 where
      pub stores : AreStored opens whole before (with_more (from_whole base at) (bytes_at (from_whole base at)) stored) numbered
      pub some_are : 0 < length (with_more (from_whole base at) (bytes_at (from_whole base at)) stored)
      pub there : IsSome at

    pub text_given : (base at : Option CAt) → IsPlaced start.types whole.type (text_target base) at → is_array_at at ≡ true → IsTextGiven base at
    text_given base None placed is = absurd cc
    text_given None (Some at) placed is = absurd (let h : IsSome {T = CAt} None = placed.based refl in cc)
    text_given (Some base) (Some at) placed is =
        let held = bytes_of (inside base at).path at.type placed.part is in
        record { stores = held.stores; some_are = some_more (Some (inside base at)) (bytes_at (Some (inside base at))) stored held.some_are; there = refl }
