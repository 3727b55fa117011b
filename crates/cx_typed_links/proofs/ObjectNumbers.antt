-- No two objects of a program of typed units have one number.
use Rattle.std.proofs.Common.{◌≡◌, ℕ, ◌+◌, Bool, true, false, ◌&&◌, if◌then◌else◌, List, [], ◌∷◌, map, All, Option, None, Some, slice_get, eqb, bytes_eq, refl, sym, ap, ◌∙◌, arith, subst}
use Rattle.std.specs.Prelude.{cond}
use Rattle.std.specs.List.{find, IsDistinct}
use Rattle.std.proofs.lemmas.List.Elements.{All-nil, All-cons, All-head, All-tail, All-append}
use Rattle.std.proofs.lemmas.Slice.Eq.{bytes_eq-Decides}
use Rattle.cx_core.specs.declared.program.Linkage.{Linkage}
use Rattle.cx_core.specs.declared.program.Linkage.TheVariants.{External, Internal, Nothing}
use Rattle.cx_core.specs.Linked.{is_external, has_linkage, names_with}
use Rattle.cx_core.specs.Trees.{CTy, CPuts, CTypes, CObject, CFun, COuter, CUnit}
use Rattle.cx_core.specs.Typing.{object_with}
use Rattle.cx_links.specs.Program.{CFound, counts_before, is_object_named, has_name, object_of_name, object_at, numbers_of, is_in, there, external_object, objects_from, linked}
use Rattle.cx_renumber.specs.Numbers.{object_there}
use Rattle.cx_typed_links.proofs.Compatible.{both}
use Rattle.cx_typed_links.proofs.Distinct.{not_same_back, keys_joined, all_made, units_differ}
use Rattle.cx_typed_links.proofs.Objects.{number_of, IsOfUnit, same_object, own_number, all_own, named_thing, external_of, linked_objects}
use Rattle.cx_typed_links.proofs.Outers.{AreOtherNames, things_of, object_of, later_object}
use Rattle.cx_typed_links.proofs.Places.{AreOther, same_found, same_number}
use Rattle.cx_typed_links.specs.Laws.{AreTypedUnits}

-- ---- an external name is that of one object of a unit

-- found by its name, where that is external
abbrev IsNamedAlone : List CObject → CObject → Type 0
IsNamedAlone all known = (name : List ℕ) → is_external known.linkage ≡ true → known.name ≡ Some name → find (is_object_named name) all ≡ Some known

abbrev pub HasOtherName : List ℕ → CObject → Type 0
HasOtherName name known = is_external known.linkage ≡ true → known.name ≡ Some name → ⊥

module _ (types : CTypes) (functions : List CFun) (externals : List COuter) where
  abbrev names : List CObject → List (List ℕ)
  names objects = names_with has_linkage (things_of types objects functions externals)

  other_first : (text : List ℕ) (others : List CObject)
      (number unit : ℕ) (name : Option (List ℕ)) (is_text : Bool) (type : CTy) (linkage : Linkage) (puts : Option CPuts)
      → AreOtherNames text (names (object_of number unit name is_text type linkage puts ∷ others))
      → HasOtherName text (object_of number unit name is_text type linkage puts)
  other_first text others number unit None is_text type External puts apart external is = cc
  other_first text others number unit (Some name) is_text type External puts apart external is =
      let same : name ≡ text = cc (is) in
      (let h : true ≡ false = sym ((bytes_eq-Decides text name).1 (sym same)) ∙ apart.0 in cc)
  other_first text others number unit name is_text type Internal puts apart external is = cc
  other_first text others number unit name is_text type Nothing puts apart external is = cc

  pub other_rest : (text : List ℕ) (others : List CObject)
      (number unit : ℕ) (name : Option (List ℕ)) (is_text : Bool) (type : CTy) (linkage : Linkage) (puts : Option CPuts)
      → AreOtherNames text (names (object_of number unit name is_text type linkage puts ∷ others)) → AreOtherNames text (names others)
  other_rest text others number unit None is_text type External puts apart = apart
  other_rest text others number unit None is_text type Internal puts apart = apart
  other_rest text others number unit (Some name) is_text type External puts apart = apart.1
  other_rest text others number unit (Some name) is_text type Internal puts apart = apart.1
  other_rest text others number unit name is_text type Nothing puts apart = apart

  all_other : (text : List ℕ) (objects : List CObject) → AreOtherNames text (names objects) → All (HasOtherName text) objects
  all_other text [] apart = All-nil (HasOtherName text)
  all_other text (one ∷ others) apart =
      All-cons (HasOtherName text) one others
      (other_first text others one.object one.unit one.name one.is_text one.type one.linkage one.puts apart)
      (all_other text others (other_rest text others one.object one.unit one.name one.is_text one.type one.linkage one.puts apart))

  pub first_apart : (text : List ℕ) (others : List CObject)
      (number unit : ℕ) (name : Option (List ℕ)) (is_text : Bool) (type : CTy) (linkage : Linkage) (puts : Option CPuts)
      → IsDistinct bytes_eq (names (object_of number unit name is_text type linkage puts ∷ others)) → is_external linkage ≡ true → name ≡ Some text
      → AreOtherNames text (names others)
  unfolding IsDistinct
  first_apart text others number unit None is_text type External puts differ external is = absurd cc
  first_apart text others number unit (Some name) is_text type External puts differ external is =
      let same : name ≡ text = cc (is) in
      subst (λ found. AreOtherNames found (names others)) same differ.0
  first_apart text others number unit name is_text type Internal puts differ external is = absurd cc
  first_apart text others number unit name is_text type Nothing puts differ external is = absurd cc

  name_of : (text : List ℕ) (found : Option (List ℕ)) → has_name text found ≡ true → found ≡ Some text
  name_of text None is = absurd cc
  name_of text (Some other) is = ap (λ name. Some name) (sym ((bytes_eq-Decides text other).0 is))

  skip_by : (first known : CObject) (text : List ℕ) (later : Option CObject) → (passes : Bool) → is_object_named text first ≡ passes
      → (is_external first.linkage ≡ true → first.name ≡ Some text → ⊥) → later ≡ Some known → cond passes (Some first) later ≡ Some known
  skip_by first known text later false passes apart found = found
  skip_by first known text later true passes apart found =
      absurd (apart (both passes).0 (name_of text first.name (both passes).1))

  skip_first : (first : CObject) (rest others all : List CObject) → IsDistinct bytes_eq (names (first ∷ rest))
      → ((text : List ℕ) → is_external first.linkage ≡ true → first.name ≡ Some text → All (HasOtherName text) others)
      → All (IsNamedAlone all) others → All (IsNamedAlone (first ∷ all)) others
  skip_first first rest [] all differ apart found = All-nil (IsNamedAlone (first ∷ all))
  skip_first first rest (known ∷ others) all differ apart found =
      All-cons (IsNamedAlone (first ∷ all)) known others
      (λ text external is.
      skip_by first known text (find (is_object_named text) all) (is_object_named text first) refl
      (λ first_external first_is. All-head (HasOtherName text) known others (apart text first_external first_is) external is)
      (All-head (IsNamedAlone all) known others found text external is))
      (skip_first first rest others all differ
      (λ text first_external first_is. All-tail (HasOtherName text) known others (apart text first_external first_is))
      (All-tail (IsNamedAlone all) known others found))

  first_named : (first : CObject) (others : List CObject) → IsNamedAlone (first ∷ others) first
  first_named first others text external is =
      ap (λ (passes : Bool). cond passes (Some first) (find (is_object_named text) others))
      (ap (λ holds. holds && has_name text first.name) external
      ∙ ap (has_name text) is ∙ (bytes_eq-Decides text text).1 refl)

  pub named_alone : (objects : List CObject) → IsDistinct bytes_eq (names objects) → All (IsNamedAlone objects) objects
  named_alone [] differ = All-nil (IsNamedAlone [])
  named_alone (first ∷ others) differ =
      All-cons (IsNamedAlone (first ∷ others)) first others (first_named first others)
      (skip_first first others others others differ
      (λ text external is. all_other text others
      (first_apart text others first.object first.unit first.name first.is_text first.type first.linkage first.puts differ external is))
      (named_alone others (later_object types others functions externals first.object first.unit first.name first.is_text first.type first.linkage first.puts differ)))

module _ (units : List CUnit) (typed : AreTypedUnits units) where
  -- objects of the program with one number are one
  pub same_of : (x y : CObject) → IsOfUnit units x → IsOfUnit units y → x.object ≡ y.object → x ≡ y
  same_of x y one other same =
      one.is
      ∙ same_object units one.unit other.unit one.home other.home one.thing other.thing one.in_unit other.in_unit
      (sym one.number_is ∙ sym (ap number_of one.is) ∙ same ∙ ap number_of other.is ∙ other.number_is)
      ∙ sym other.is

  -- ---- where an object of the program stands

  abbrev unit_found : Option (CFound CObject) → ℕ
  unit_found None = 0
  unit_found (Some found) = found.unit

  abbrev named_position : Option (List ℕ) → ℕ
  named_position None = 0
  named_position (Some name) = unit_found (object_of_name units name)

  -- the unit of what stands for its name, or its own unit
  abbrev position : CObject → ℕ
  position known = if is_external known.linkage then named_position known.name else known.unit

  unit_in : (unit : ℕ) (o : Option (CFound CObject)) → is_in unit o ≡ true → unit_found o ≡ unit
  unit_in unit None is = absurd cc
  unit_in unit (Some found) is = same_number found.unit unit is

  -- what stands in the program for an object of a unit, where it stands there
  record IsGiven (unit : ℕ) (known given : CObject) : Type 0 where
    of : IsOfUnit units given
    here : position given ≡ unit
    external_is : is_external given.linkage ≡ is_external known.linkage
    named : is_external known.linkage ≡ true → (name : List ℕ) × (known.name ≡ Some name) × (given.name ≡ Some name)
    own_is : is_external known.linkage ≡ false → given.object ≡ object_at units unit known.object

  module _ (unit : ℕ) (one : CUnit) (is : slice_get units unit ≡ Some one) where
    abbrev IsKnown : CObject → Type 0
    IsKnown known = (object_with known.object one.objects ≡ Some known) × (known.unit ≡ unit) × IsNamedAlone one.objects known

    all_known : All IsKnown one.objects
    all_known =
        three_all (λ known. object_with known.object one.objects ≡ Some known) (λ known. known.unit ≡ unit) (IsNamedAlone one.objects) one.objects
        (all_own units typed unit one is) (typed unit one is).objects_here
        (named_alone one.types one.functions one.externals one.objects (typed unit one is).names_differ)
      where
        three_all : (P Q R : CObject → Type 0) (xs : List CObject) → All P xs → All Q xs → All R xs → All (λ x. P x × Q x × R x) xs
        three_all P Q R [] first second third = All-nil (λ x. P x × Q x × R x)
        three_all P Q R (x ∷ xs) first second third =
            All-cons (λ y. P y × Q y × R y) x xs (All-head P x xs first, All-head Q x xs second, All-head R x xs third)
            (three_all P Q R xs (All-tail P x xs first) (All-tail Q x xs second) (All-tail R x xs third))

    abbrev own_there : CObject → CObject
    own_there known = object_there (numbers_of units one unit) known

    own_given : (known : CObject) → IsKnown known → is_external known.linkage ≡ false → IsGiven unit known (own_there known)
    own_given known held not_external = record {
      of = record {
        unit = unit;
        home = one;
        thing = known;
        in_unit = record { unit_is = is; own = held.0 };
        is = refl;
        number_is = own_number units unit one known held.0 not_external;
      };
      here = ap (λ (external : Bool). if external then named_position known.name else known.unit) not_external ∙ held.1;
      external_is = refl;
      named = λ external. absurd (let h : false ≡ true = sym not_external ∙ external in cc);
      own_is = λ still. own_number units unit one known held.0 not_external;
    }

    external_given : (known : CObject) → is_external known.linkage ≡ true → (name : List ℕ) → known.name ≡ Some name
        → is_in unit (object_of_name units name) ≡ true → (found : CFound CObject) → object_of_name units name ≡ Some found
        → IsGiven unit known (object_there (numbers_of units found.home found.unit) found.thing)
    external_given known external name named first found found_is =
        let thing = named_thing units typed name found found_is in
        record {
          of = external_of units typed name found found_is;
          here =
              ap (λ (holds : Bool). if holds then named_position found.thing.name else found.thing.unit) thing.external
              ∙ ap named_position thing.name_is ∙ unit_in unit (object_of_name units name) first;
          external_is = thing.external ∙ sym external;
          named = λ still. (name, named, thing.name_is);
          own_is = λ not_external. absurd (let h : true ≡ false = sym external ∙ not_external in cc);
        }

    abbrev part_by : Bool → CObject → List CObject
    part_by external known = if external then external_object units unit known.name else own_there known ∷ []

    there_given : (known : CObject) → is_external known.linkage ≡ true → (name : List ℕ) → known.name ≡ Some name
        → is_in unit (object_of_name units name) ≡ true → (found : Option (CFound CObject)) → object_of_name units name ≡ found
        → All (IsGiven unit known) (there units found) × IsDistinct eqb (map number_of (there units found))
    unfolding IsDistinct
    there_given known external name named first None found_is = (All-nil (IsGiven unit known), tt)
    there_given known external name named first (Some found) found_is = (
      All-cons (IsGiven unit known) (object_there (numbers_of units found.home found.unit) found.thing) []
          (external_given known external name named first found found_is) (All-nil (IsGiven unit known)),
      (tt, tt),
    )

    if_given : (known : CObject) → is_external known.linkage ≡ true → (name : List ℕ) → known.name ≡ Some name
        → (test : Bool) → is_in unit (object_of_name units name) ≡ test
        → All (IsGiven unit known) (if test then there units (object_of_name units name) else [])
        × IsDistinct eqb (map number_of (if test then there units (object_of_name units name) else []))
    unfolding IsDistinct
    if_given known external name named true first = there_given known external name named first (object_of_name units name) refl
    if_given known external name named false first = (All-nil (IsGiven unit known), tt)

    named_given : (known : CObject) → is_external known.linkage ≡ true → (name : Option (List ℕ)) → known.name ≡ name
        → All (IsGiven unit known) (external_object units unit name) × IsDistinct eqb (map number_of (external_object units unit name))
    unfolding IsDistinct
    named_given known external None named = (All-nil (IsGiven unit known), tt)
    named_given known external (Some name) named =
        if_given known external name named (is_in unit (object_of_name units name)) refl

    part_given : (known : CObject) → IsKnown known → (external : Bool) → is_external known.linkage ≡ external
        → All (IsGiven unit known) (part_by external known) × IsDistinct eqb (map number_of (part_by external known))
    unfolding IsDistinct
    part_given known held true external = named_given known external known.name refl
    part_given known held false external =
        (All-cons (IsGiven unit known) (own_there known) [] (own_given known held external) (All-nil (IsGiven unit known)), (tt, tt))

    -- ---- objects of one unit

    same_rest : (base first second : ℕ) → base + first ≡ base + second → first ≡ second
    same_rest base first second same = omega (arith, same)

    apart_by : (known other x y : CObject) → IsKnown known → IsKnown other → (known.object ≡ other.object → ⊥) → IsGiven unit known x → IsGiven unit other y
        → x ≡ y → (external : Bool) → is_external known.linkage ≡ external → ⊥
    apart_by known other x y held also apart first second same false external =
        let other_external : is_external other.linkage ≡ false =
        sym second.external_is ∙ ap (λ (object : CObject). is_external object.linkage) (sym same) ∙ first.external_is ∙ external in
        apart (same_rest (counts_before unit units).objects known.object other.object
        (sym (first.own_is external) ∙ ap number_of same ∙ second.own_is other_external))
    apart_by known other x y held also apart first second same true external =
        let other_external : is_external other.linkage ≡ true =
        sym second.external_is ∙ ap (λ (object : CObject). is_external object.linkage) (sym same) ∙ first.external_is ∙ external in
        let name = first.named external in
        let other_name = second.named other_external in
        let names : Some name.0 ≡ Some other_name.0 = sym name.2 ∙ ap (λ (object : CObject). object.name) same ∙ other_name.2 in
        apart (ap number_of (same_found (find (is_object_named name.0) one.objects) known other
        (held.2 name.0 external name.1) (also.2 name.0 other_external (other_name.1 ∙ sym names))))

    given_apart : (known other x y : CObject) → IsKnown known → IsKnown other → eqb known.object other.object ≡ false → IsGiven unit known x → IsGiven unit other y
        → x.object ≡ y.object → ⊥
    given_apart known other x y held also apart first second same =
        apart_by known other x y held also (not_same_back known.object other.object apart) first second
        (same_of x y first.of second.of same) (is_external known.linkage) refl

    abbrev part : CObject → List CObject
    part known = part_by (is_external known.linkage) known

    rest_apart : (known x : CObject) → IsKnown known → IsGiven unit known x → (others : List CObject) → All IsKnown others
        → AreOther known.object (map number_of others) → All (λ y. x.object ≡ number_of y → ⊥) (objects_from units one unit others)
    rest_apart known x held first [] all apart = All-nil (λ y. x.object ≡ number_of y → ⊥)
    rest_apart known x held first (other ∷ others) all apart =
        All-append (λ y. x.object ≡ number_of y → ⊥) (part other) (objects_from units one unit others)
        (all_made (IsGiven unit other) (λ y. x.object ≡ number_of y → ⊥) (part other)
        (λ y second. given_apart known other x y held (All-head IsKnown other others all) apart.0 first second)
        (part_given other (All-head IsKnown other others all) (is_external other.linkage) refl).0)
        (rest_apart known x held first others (All-tail IsKnown other others all) apart.1)

    within_unit : (objects : List CObject) → All IsKnown objects → IsDistinct eqb (map number_of objects)
        → IsDistinct eqb (map number_of (objects_from units one unit objects))
    unfolding IsDistinct
    within_unit [] all differ = tt
    within_unit (known ∷ others) all differ =
        let held = All-head IsKnown known others all in
        let given = part_given known held (is_external known.linkage) refl in
        keys_joined number_of (part known) (objects_from units one unit others) given.1
        (within_unit others (All-tail IsKnown known others all) differ.1)
        (all_made (IsGiven unit known) (λ x. All (λ y. number_of x ≡ number_of y → ⊥) (objects_from units one unit others)) (part known)
        (λ x first. rest_apart known x held first others (All-tail IsKnown known others all) differ.0) given.0)

    abbrev StandsAt : CObject → Type 0
    StandsAt given = IsOfUnit units given × (position given ≡ unit)

    all_stand : (objects : List CObject) → All IsKnown objects → All StandsAt (objects_from units one unit objects)
    all_stand [] all = All-nil StandsAt
    all_stand (known ∷ others) all =
        All-append StandsAt (part known) (objects_from units one unit others)
        (all_made (IsGiven unit known) StandsAt (part known) (λ x given. (given.of, given.here))
        (part_given known (All-head IsKnown known others all) (is_external known.linkage) refl).0)
        (all_stand others (All-tail IsKnown known others all))

  pub all_objects_differ : IsDistinct eqb (map number_of (linked units).objects)
  all_objects_differ =
      subst (λ all. IsDistinct eqb (map number_of all)) (sym (linked_objects units typed))
      (units_differ number_of (λ one unit. objects_from units one unit one.objects) (λ unit given. IsOfUnit units given × (position given ≡ unit)) units
      (λ unit one is. all_stand unit one is one.objects (all_known unit one is))
      (λ unit one is. within_unit unit one is one.objects (all_known unit one is) (typed unit one is).numbers.objects_differ)
      (λ first second x y one other same. sym one.1 ∙ ap position (same_of x y one.0 other.0 same) ∙ other.1))
