-- The list of an enumerated type begins and ends: what is known stays known (ISO C99, 6.7.2.2, 6.2.1p7).
use Rattle.std.proofs.Common.{◌≡◌, ⊎_elim, ℕ, suc, ◌<◌, ◌≤◌, ◌==◌, Bool, true, false, ◌||◌, if◌then◌else◌, List, [], ◌∷◌, ◌++◌, length, Option, None, Some, All, bytes_eq, slice_get, refl, sym, ap, ◌∙◌, subst, arith}
use Rattle.std.proofs.lemmas.Bool.Decides.{nat_tests}
use Rattle.std.proofs.lemmas.List.Elements.{All-nil, All-cons, All-head, All-tail}
use Rattle.std.specs.Option.{option_flatten}
use Rattle.cx_core.specs.Trees.{CTy, ty, CTyForm, void, basic, enum_type, pointer, array, record_type, function, CParams, unlisted, listed, CTys, no_types, more_types, CMember, CRecord, CTypes}
use Rattle.cx_core.specs.ValidTypes.{IsTypeIn, IsFormIn, AreParamsIn, AreTypesIn, IsMemberIn}
use Rattle.cx_layout.specs.Calls.{record_at}
use Rattle.cx_rules.specs.Pieces.{with_open_enum, with_closed_enum}
use Rattle.cx_rules.specs.Scope.{CMeant, an_object, a_function, a_type_name, an_enumerator, a_tag, CTag, CScope, ordinary, tag, with_enum, with_enum_type}
use Rattle.cx_typed.proofs.Completing.{set_length}
use Rattle.cx_typed.proofs.Puts.{whole_there, get_at}
use Rattle.cx_typed.proofs.Promoted.{neither}
use Rattle.cx_typed.proofs.Records.{one_longer, was_there, record_stays}
use Rattle.cx_typed.proofs.Scopes.{kept_before, pushed_at, set_other, within}
use Rattle.cx_typed.proofs.Tags.{meant_stays, tag_stays}
use Rattle.cx_typed.specs.Growth.{Grows, is_open, IsSettled, IsSettledForm, AreSettledParams, AreSettled}
use Rattle.cx_typed.specs.Names.{IsKnownMeant, IsKnownTag}
use Rattle.cx_typed.specs.Operands.{IsKnownType}
use Rattle.cx_typed.specs.Scopes.{Passes}
use Rattle.cx_typed.specs.Sound.{AreSound}
use Rattle.cx_typed.specs.Walked.{IsGood}

-- ---- one more list that hasn't ended

same_number : (n : ℕ) → (n == n) ≡ true
same_number n = grind (arith, nat_tests)

differs : (n k : ℕ) → k < n → (n == k) ≡ false
differs n k less = grind (arith, nat_tests, less)

apart : (n k : ℕ) → (n == k) ≡ false → k ≡ n → ⊥
apart n k is same = (let h : (n == n) ≡ false = subst (λ m. (n == m) ≡ false) same is in grind (arith, nat_tests, h))

none_of : (a b : Bool) → a ≡ false → b ≡ false → (a || b) ≡ false
none_of true b is other = absurd cc
none_of false b is other = other

pub fewer_open : (opens : List ℕ) (n k : ℕ) → is_open (n ∷ opens) k ≡ false → is_open opens k ≡ false
fewer_open opens n k is = (neither is).1

module _ (opens : List ℕ) (types : CTypes) (units : length types.enum_units ≡ length types.enums) where
  abbrev new : ℕ
  new = length types.enums

  pub more_open : (k unit : ℕ) → slice_get types.enum_units k ≡ Some unit → is_open opens k ≡ false → is_open (new ∷ opens) k ≡ false
  more_open k unit there closed = none_of (new == k) (is_open opens k) (differs new k (subst (λ n. k < n) units (within types.enum_units k unit there))) closed

  module _ (unit : ℕ) where
    mutual
      pub settle_more : (type : CTy) → IsTypeIn types unit type → IsSettled opens type → IsSettled (new ∷ opens) type
      settle_more (ty form is_const) in_unit held = form_more is_const form in_unit held

      form_more : (is_const : Bool) (form : CTyForm) → IsFormIn types unit is_const form → IsSettledForm opens form → IsSettledForm (new ∷ opens) form
      form_more is_const void in_unit held = tt
      form_more is_const (basic which) in_unit held = tt
      form_more is_const (enum_type number) in_unit held = more_open number unit in_unit held
      form_more is_const (pointer to) in_unit held = settle_more to in_unit held
      form_more is_const (array element length) in_unit held = settle_more element in_unit.0 held
      form_more is_const (record_type number) in_unit held = tt
      form_more is_const (function result params variadic) in_unit held = (settle_more result in_unit.0 held.0, params_more variadic params in_unit.2 held.1)

      params_more : (variadic : Bool) (params : CParams) → AreParamsIn types unit variadic params → AreSettledParams opens params → AreSettledParams (new ∷ opens) params
      params_more variadic unlisted in_unit held = tt
      params_more variadic (listed params) in_unit held = types_more params in_unit.1 held

      types_more : (params : CTys) → AreTypesIn types unit params → AreSettled opens params → AreSettled (new ∷ opens) params
      types_more no_types in_unit held = tt
      types_more (more_types first others) in_unit held = (settle_more first in_unit.0 held.0, types_more others in_unit.2 held.1)

    members_more : (members : List CMember) → All (IsMemberIn types unit) members → All (λ member. IsSettled opens member.type) members → All (λ member. IsSettled (new ∷ opens) member.type) members
    members_more [] in_unit held = All-nil (λ member. IsSettled (new ∷ opens) member.type)
    members_more (first ∷ others) in_unit held =
        All-cons (λ member. IsSettled (new ∷ opens) member.type) first others
        (settle_more first.type (All-head (IsMemberIn types unit) first others in_unit).type_in (All-head (λ member. IsSettled opens member.type) first others held))
        (members_more others (All-tail (IsMemberIn types unit) first others in_unit) (All-tail (λ member. IsSettled opens member.type) first others held))

-- ---- one fewer

module _ (opens : List ℕ) (n : ℕ) where
  mutual
    pub settle_less : (type : CTy) → IsSettled (n ∷ opens) type → IsSettled opens type
    settle_less (ty form is_const) held = form_less form held

    form_less : (form : CTyForm) → IsSettledForm (n ∷ opens) form → IsSettledForm opens form
    form_less void held = tt
    form_less (basic which) held = tt
    form_less (enum_type number) held = fewer_open opens n number held
    form_less (pointer to) held = settle_less to held
    form_less (array element length) held = settle_less element held
    form_less (record_type number) held = tt
    form_less (function result params variadic) held = (settle_less result held.0, params_less params held.1)

    params_less : (params : CParams) → AreSettledParams (n ∷ opens) params → AreSettledParams opens params
    params_less unlisted held = tt
    params_less (listed params) held = types_less params held

    types_less : (params : CTys) → AreSettled (n ∷ opens) params → AreSettled opens params
    types_less no_types held = tt
    types_less (more_types first others) held = (settle_less first held.0, types_less others held.1)

  members_less : (members : List CMember) → All (λ member. IsSettled (n ∷ opens) member.type) members → All (λ member. IsSettled opens member.type) members
  members_less [] held = All-nil (λ member. IsSettled opens member.type)
  members_less (first ∷ others) held =
      All-cons (λ member. IsSettled opens member.type) first others (settle_less first.type (All-head (λ member. IsSettled (n ∷ opens) member.type) first others held))
      (members_less others (All-tail (λ member. IsSettled (n ∷ opens) member.type) first others held))

  known_less : (types : CTypes) (unit : ℕ) (type : CTy) → IsKnownType (n ∷ opens) types unit type → IsKnownType opens types unit type
  known_less types unit type held = record { type_in = held.type_in; settled = settle_less type held.settled }

  meant_less : (types : CTypes) (unit : ℕ) (meant : CMeant) → IsKnownMeant (n ∷ opens) types unit meant → IsKnownMeant opens types unit meant
  meant_less types unit (an_object number type is_register linkage) held = (known_less types unit type held.0, held.1)
  meant_less types unit (a_function number type linkage) held = (known_less types unit type held.0, held.1)
  meant_less types unit (a_type_name type) held = known_less types unit type held
  meant_less types unit (an_enumerator value) held = held
  meant_less types unit (a_tag is_record goes_on number) held = tt

  tag_less_by : (types : CTypes) (unit : ℕ) (name : List ℕ) (is_record goes_on : Bool) (number : ℕ) → IsKnownTag (n ∷ opens) types unit name (record { is_record = is_record; is_open = goes_on; number = number })
      → IsKnownTag opens types unit name (record { is_record = is_record; is_open = goes_on; number = number })
  tag_less_by types unit name true goes_on number held = held
  tag_less_by types unit name false goes_on number held = (held.0, λ ended. fewer_open opens n number (held.1 ended))

  tag_less : (types : CTypes) (unit : ℕ) (name : List ℕ) (one : CTag) → IsKnownTag (n ∷ opens) types unit name one → IsKnownTag opens types unit name one
  tag_less types unit name one held = tag_less_by types unit name one.is_record one.is_open one.number held

-- ---- the list begins

module _ (opens : List ℕ) (scope : CScope) (good : IsGood opens scope) where
  abbrev units_same : length scope.types.enum_units ≡ length scope.types.enums
  units_same = good.sound.types_are.enum_units

  abbrev number : ℕ
  number = length scope.types.enums

  abbrev begun : CTypes
  begun = (with_enum scope).types

  begun_grows : Grows opens scope.types begun
  begun_grows = record {
    records = λ index x is. is;
    tags = λ index x is. is;
    record_units = λ index x is. is;
    enum_units = λ index x is. kept_before scope.types.enum_units (scope.unit ∷ []) index x is;
    enums = λ index closed x is. kept_before scope.types.enums (true ∷ []) index x is;
  }

  pub number_there : slice_get begun.enum_units number ≡ Some scope.unit
  number_there = subst (λ n. slice_get begun.enum_units n ≡ Some scope.unit) units_same (pushed_at scope.types.enum_units scope.unit)

  members_settled : (index : ℕ) (one : CRecord) → record_at scope.types index ≡ Some one → All (λ member. IsSettled (number ∷ opens) member.type) one.members
  members_settled index one is =
      let held = whole_there (slice_get scope.types.records index) one is in
      let of = get_at scope.types.record_units index (subst (λ n. index < n) (sym good.sound.types_are.record_units) (within scope.types.records index (Some one) held)) in
      members_more opens scope.types units_same of.0 one.members (good.sound.types_are.records index of.0 one held of.1).members (good.sound.settled index one is)

  longer_open : (index : ℕ) → length (scope.types.enums ++ true ∷ []) ≤ index → is_open (number ∷ opens) index ≡ false
  longer_open index from =
      let more : suc number ≤ index = subst (λ n. n ≤ index) (one_more scope.types.enums true) from in
      none_of (number == index) (is_open opens index) (before number index more) (good.sound.opens_here index (omega (arith, more)))
    where
      one_more : {X : Type 0} (xs : List X) (x : X) → length (xs ++ x ∷ []) ≡ suc (length xs)
      one_more [] x = refl
      one_more (first ∷ xs) x = ap suc (one_more xs x)

      before : (n k : ℕ) → suc n ≤ k → (n == k) ≡ false
      before n k more = grind (arith, nat_tests, more)

  begun_sound : AreSound (number ∷ opens) begun scope.unit
  begun_sound = record {
    types_are = record {
      tags = good.sound.types_are.tags;
      record_units = good.sound.types_are.record_units;
      enum_units = one_longer scope.types.enum_units scope.types.enums scope.unit true units_same;
      records = λ index unit one is of. record_stays opens scope.types begun unit begun_grows index one (good.sound.settled index one (ap option_flatten is)) (good.sound.types_are.records index unit one is of);
    };
    records_here = good.sound.records_here;
    enums_here = λ index other is. ⊎_elim (good.sound.enums_here index other) (λ same. same) (was_there scope.types.enum_units scope.unit index other is);
    settled = members_settled;
    opens_here = longer_open;
  }

  known_more : (type : CTy) → IsKnownType opens scope.types scope.unit type → IsKnownType opens begun scope.unit type → IsKnownType (number ∷ opens) begun scope.unit type
  known_more type was held = record { type_in = held.type_in; settled = settle_more opens scope.types units_same scope.unit type was.type_in was.settled }

  meant_more : (meant : CMeant) → IsKnownMeant opens scope.types scope.unit meant → IsKnownMeant opens begun scope.unit meant → IsKnownMeant (number ∷ opens) begun scope.unit meant
  meant_more (an_object index type is_register linkage) was held = (known_more type was.0 held.0, held.1)
  meant_more (a_function index type linkage) was held = (known_more type was.0 held.0, held.1)
  meant_more (a_type_name type) was held = known_more type was held
  meant_more (an_enumerator value) was held = held
  meant_more (a_tag is_record goes_on index) was held = tt

  tag_more_by : (name : List ℕ) (is_record goes_on : Bool) (index : ℕ) → IsKnownTag opens scope.types scope.unit name (record { is_record = is_record; is_open = goes_on; number = index })
      → IsKnownTag opens begun scope.unit name (record { is_record = is_record; is_open = goes_on; number = index })
      → IsKnownTag (number ∷ opens) begun scope.unit name (record { is_record = is_record; is_open = goes_on; number = index })
  tag_more_by name true goes_on index was held = held
  tag_more_by name false goes_on index was held = (held.0, λ ended. more_open opens scope.types units_same index scope.unit was.0 (was.1 ended))

  begun_known : (name : List ℕ) (meant : CMeant) → ordinary name scope.declared ≡ Some meant → IsKnownMeant (number ∷ opens) begun scope.unit meant
  begun_known name meant is = meant_more meant (good.known name meant is) (meant_stays opens scope.types begun begun_grows scope.unit meant (good.known name meant is))

  begun_tags : (name : List ℕ) (one : CTag) → tag name scope.declared ≡ Some one → IsKnownTag (number ∷ opens) begun scope.unit name one
  begun_tags name one is =
      tag_more_by name one.is_record one.is_open one.number (good.tags name one is) (tag_stays opens scope.types begun begun_grows scope.unit name one (good.tags name one is))

  open_tag : (name other : List ℕ) (one : CTag) (test : Bool) → (if test then Some (record { is_record = false; is_open = true; number = number }) else tag other scope.declared) ≡ Some one
      → IsKnownTag (number ∷ opens) begun scope.unit other one
  open_tag name other one true is =
      let e : record { is_record = false; is_open = true; number = number } ≡ one = cc in
      subst (IsKnownTag (number ∷ opens) begun scope.unit other) e (number_there, λ ended. absurd cc)
  open_tag name other one false is = begun_tags other one is

  pub begun_good : (name : Option (List ℕ)) → IsGood (number ∷ opens) (with_open_enum name scope)
  begun_good None = record { sound = begun_sound; known = begun_known; tags = begun_tags }
  begun_good (Some name) = record { sound = begun_sound; known = begun_known; tags = λ other one is. open_tag name other one (bytes_eq name other) is }

  -- ---- the list has ended

  module _ (name : Option (List ℕ)) (middle : CScope) (passes : Passes (number ∷ opens) (with_open_enum name scope) middle) (last : IsGood (number ∷ opens) middle) (negative : Bool) where
    abbrev ended : CTypes
    ended = (with_enum_type number negative middle).types

    begun_types : (with_open_enum name scope).types ≡ begun
    begun_types = by_name name
      where
        by_name : (name : Option (List ℕ)) → (with_open_enum name scope).types ≡ begun
        by_name None = refl
        by_name (Some name) = refl

    middle_unit : middle.unit ≡ scope.unit
    middle_unit = passes.unit_is ∙ by_name name
      where
        by_name : (name : Option (List ℕ)) → (with_open_enum name scope).unit ≡ scope.unit
        by_name None = refl
        by_name (Some name) = refl

    from_begun : Grows (number ∷ opens) begun middle.types
    from_begun = subst (λ types. Grows (number ∷ opens) types middle.types) begun_types passes.grows

    ended_grows : Grows (number ∷ opens) middle.types ended
    ended_grows = record {
      records = λ index x is. is;
      tags = λ index x is. is;
      record_units = λ index x is. is;
      enum_units = λ index x is. is;
      enums = λ index closed x is. set_other middle.types.enums number index negative (apart number index (neither closed).0) ∙ is;
    }

    pub whole_grows : Grows opens scope.types ended
    whole_grows = record {
      records = λ index x is. from_begun.records index x is;
      tags = λ index x is. from_begun.tags index x is;
      record_units = λ index x is. from_begun.record_units index x is;
      enum_units = λ index x is. from_begun.enum_units index x (begun_grows.enum_units index x is);
      enums = λ index closed x is.
          let less : index < number = within scope.types.enums index x is in
          let more : is_open (number ∷ opens) index ≡ false = none_of (number == index) (is_open opens index) (differs number index less) closed in
          ended_grows.enums index more x (from_begun.enums index more x (begun_grows.enums index closed x is));
    }

    pub ended_there : slice_get ended.enum_units number ≡ Some middle.unit
    ended_there = from_begun.enum_units number scope.unit number_there ∙ ap Some (sym middle_unit)

    pub ended_closed : is_open opens number ≡ false
    ended_closed = good.sound.opens_here number (omega arith)

    ended_sound : AreSound opens ended middle.unit
    ended_sound = record {
      types_are = record {
        tags = last.sound.types_are.tags;
        record_units = last.sound.types_are.record_units;
        enum_units = last.sound.types_are.enum_units ∙ sym (set_length middle.types.enums number negative);
        records = λ index unit one is of.
            record_stays (number ∷ opens) middle.types ended unit ended_grows index one (last.sound.settled index one (ap option_flatten is)) (last.sound.types_are.records index unit one is of);
      };
      records_here = last.sound.records_here;
      enums_here = last.sound.enums_here;
      settled = λ index one is. members_less opens number one.members (last.sound.settled index one is);
      opens_here = λ index from. fewer_open opens number index (last.sound.opens_here index (subst (λ n. n ≤ index) (set_length middle.types.enums number negative) from));
    }

    ended_known : (other : List ℕ) (meant : CMeant) → ordinary other middle.declared ≡ Some meant → IsKnownMeant opens ended middle.unit meant
    ended_known other meant is = meant_less opens number ended middle.unit meant (meant_stays (number ∷ opens) middle.types ended ended_grows middle.unit meant (last.known other meant is))

    ended_tags : (other : List ℕ) (one : CTag) → tag other middle.declared ≡ Some one → IsKnownTag opens ended middle.unit other one
    ended_tags other one is = tag_less opens number ended middle.unit other one (tag_stays (number ∷ opens) middle.types ended ended_grows middle.unit other one (last.tags other one is))

    closed_tag : (other : List ℕ) (one : CTag) (test : Bool) → (if test then Some (record { is_record = false; is_open = false; number = number }) else tag other middle.declared) ≡ Some one
        → IsKnownTag opens ended middle.unit other one
    closed_tag other one true is =
        let e : record { is_record = false; is_open = false; number = number } ≡ one = cc in
        subst (IsKnownTag opens ended middle.unit other) e (ended_there, λ closed. ended_closed)
    closed_tag other one false is = ended_tags other one is

    pub ended_good : IsGood opens (with_closed_enum name number negative middle)
    ended_good = by_name name
      where
        by_name : (name : Option (List ℕ)) → IsGood opens (with_closed_enum name number negative middle)
        by_name None = record { sound = ended_sound; known = ended_known; tags = ended_tags }
        by_name (Some name) = record { sound = ended_sound; known = ended_known; tags = λ other one is. closed_tag other one (bytes_eq name other) is }
