-- What a unit names with external linkage is found in the program: what defines it, or else what declares it first (ISO C99, 6.2.2p2).
use Rattle.std.proofs.Common.{arith, ◌≡◌, ℕ, zero, suc, ◌+◌, ◌==◌, Bool, true, false, if◌then◌else◌, List, [], ◌∷◌, ◌++◌, Option, None, Some, slice_get, is_some, refl, sym, ap, ◌∙◌, subst}
use Rattle.std.specs.Prelude.{cond, IsSome}
use Rattle.std.specs.List.{find, list_any}
use Rattle.cx_core.specs.Linked.{is_external}
use Rattle.cx_core.specs.Trees.{CObject, CUnit}
use Rattle.cx_core.specs.Typing.{object_with}
use Rattle.cx_links.specs.Program.{CFound, found_or, first_unit, or_other, has_name, is_object_named, declared_object, defined_object, object_of_name, object_at, object_by, object_number, numbers_of, is_in, there, external_object, objects_from, linked}
use Rattle.cx_renumber.specs.Numbers.{object_there}
use Rattle.cx_typed_links.proofs.Compatible.{both, together_true}
use Rattle.cx_typed_links.proofs.Objects.{named_in, external_number, external_place, name_by, named_thing, object_at_number, linked_objects}
use Rattle.cx_typed_links.proofs.OwnObjects.{first_holds, any_in_first, any_in_second, any_given, own_of}
use Rattle.cx_typed_links.proofs.Places.{any_found, number_itself}
use Rattle.cx_typed_links.specs.Laws.{AreTypedUnits}
use Rattle.std.proofs.lemmas.Slice.Eq.{bytes_eq-Decides}

-- ---- what passes is found

pub some_of : {X : Type 0} (o : Option X) → IsSome o → (x : X) × (o ≡ Some x)
some_of None some = absurd cc
some_of (Some x) some = (x, refl)

module _ {X : Type 0} (known test : X → Bool) where
  too_by : (first x : X) (passes here : Bool) (later others : Option X) → test first ≡ here → cond passes (Some first) later ≡ Some x → test x ≡ true
      → (later ≡ Some x → IsSome others) → IsSome (cond here (Some first) others)
  too_by first x passes true later others is found passing goes = refl
  too_by first x true false later others is found passing goes =
      let same : first ≡ x = cc (found) in
      absurd (let h : false ≡ true = sym is ∙ (ap test same ∙ passing) in cc)
  too_by first x false false later others is found passing goes = goes found

  -- where one test finds something that another one passes, that one finds something
  pub found_too : (xs : List X) (x : X) → find known xs ≡ Some x → test x ≡ true → IsSome (find test xs)
  found_too [] x found passing = absurd cc
  found_too (first ∷ others) x found passing =
      too_by first x (known first) (test first) (find known others) (find test others) refl found passing (λ later. found_too others x later passing)

module _ {A : Type 0} (finds : CUnit → Option A) where
  first_here : (start : ℕ) (one : CUnit) (here : Option A) (later : Option (CFound A)) → IsSome here → IsSome (found_or start one here later)
  first_here start one None later some = absurd cc
  first_here start one (Some thing) later some = refl

  first_later : (start : ℕ) (one : CUnit) (here : Option A) (later : Option (CFound A)) → IsSome later → IsSome (found_or start one here later)
  first_later start one None later some = some
  first_later start one (Some thing) later some = refl

  -- where a unit has something, some unit is the first that has it
  pub some_first : (start : ℕ) (units : List CUnit) (at : ℕ) (one : CUnit) → slice_get units at ≡ Some one → IsSome (finds one) → IsSome (first_unit finds start units)
  some_first start [] at one is some = absurd cc
  some_first start (first ∷ others) zero one is some =
      first_here start first (finds first) (first_unit finds (suc start) others)
      (subst (λ (unit : CUnit). IsSome (finds unit)) (let h : first ≡ one = cc (is) in sym h) some)
  some_first start (first ∷ others) (suc at) one is some =
      first_later start first (finds first) (first_unit finds (suc start) others) (some_first (suc start) others at one is some)

pub some_other : {A : Type 0} (first second : Option A) → IsSome second → IsSome (or_other first second)
some_other None second some = some
some_other (Some one) second some = refl

has_its_name : (name : List ℕ) (found : Option (List ℕ)) → found ≡ Some name → has_name name found ≡ true
has_its_name name None is = absurd cc
has_its_name name (Some other) is = (let same : other ≡ name = cc (is) in (bytes_eq-Decides name other).1 (sym same))

module _ (units : List CUnit) (typed : AreTypedUnits units) (name : List ℕ) (found : CFound CObject) (found_is : object_of_name units name ≡ Some found) where
  abbrev standing : CObject
  standing = object_there (numbers_of units found.home found.unit) found.thing

  abbrev place : ℕ
  place = object_at units found.unit found.thing.object

  abbrev has_place : CObject → Bool
  has_place one = one.object == place

  standing_passes : has_place standing ≡ true
  standing_passes = subst (λ n. (n == place) ≡ true) (sym (external_place units typed name found found_is)) (number_itself place)

  if_holds : (test : Bool) (xs : List CObject) → test ≡ true → (if test then xs else []) ≡ xs
  if_holds true xs is = refl
  if_holds false xs is = absurd cc

  -- the object of the name stands in its own unit
  external_is : external_object units found.unit (Some name) ≡ standing ∷ []
  external_is =
      if_holds (is_in found.unit (object_of_name units name)) (there units (object_of_name units name))
      (ap (is_in found.unit) found_is ∙ number_itself found.unit)
      ∙ ap (there units) found_is

  part_passes : (known : CObject) (external : Bool) → external ≡ true → known.name ≡ Some name
      → list_any has_place (if external then external_object units found.unit known.name else object_there (numbers_of units found.home found.unit) known ∷ []) ≡ true
  part_passes known false is named = absurd cc
  part_passes known true is named =
      ap (λ other. list_any has_place (external_object units found.unit other)) named
      ∙ ap (list_any has_place) external_is
      ∙ first_holds (has_place standing) false standing_passes

  abbrev part : CObject → List CObject
  part known = if is_external known.linkage then external_object units found.unit known.name else object_there (numbers_of units found.home found.unit) known ∷ []

  parts_by : (known thing : CObject) (others : List CObject) (passes : Bool) → is_object_named name known ≡ passes
      → cond passes (Some known) (find (is_object_named name) others) ≡ Some thing
      → (find (is_object_named name) others ≡ Some thing → list_any has_place (objects_from units found.home found.unit others) ≡ true)
      → list_any has_place (part known ++ objects_from units found.home found.unit others) ≡ true
  parts_by known thing others true passes is later =
      any_in_first has_place (λ _ _. []) (part known) (objects_from units found.home found.unit others)
      (part_passes known (is_external known.linkage) (both passes).0 (name_by units typed name known.name (both passes).1))
  parts_by known thing others false passes is later =
      any_in_second has_place (λ _ _. []) (part known) (objects_from units found.home found.unit others) (later is)

  parts_pass : (objects : List CObject) (thing : CObject) → find (is_object_named name) objects ≡ Some thing
      → list_any has_place (objects_from units found.home found.unit objects) ≡ true
  parts_pass [] thing is = absurd cc
  parts_pass (known ∷ others) thing is =
      parts_by known thing others (is_object_named name known) refl is (λ there. parts_pass others thing there)

  some_named : (thing : CObject) × (find (is_object_named name) found.home.objects ≡ Some thing)
  some_named =
      let named = named_thing units typed name found found_is in
      some_of (find (is_object_named name) found.home.objects)
      (found_too (λ other. other.object == found.thing.object) (is_object_named name) found.home.objects found.thing named.own.own
      (together_true named.external (has_its_name name found.thing.name named.name_is)))

  some_standing : IsSome (object_with place (linked units).objects)
  some_standing =
      let same : 0 + found.unit ≡ found.unit = omega arith in
      any_found has_place (linked units).objects
      (subst (λ all. list_any has_place all ≡ true) (sym (linked_objects units typed))
      (any_given has_place (λ home n. objects_from units home n home.objects) 0 units found.unit found.home (named_thing units typed name found found_is).own.unit_is
      (subst (λ n. list_any has_place (objects_from units found.home n found.home.objects) ≡ true) (sym same)
      (parts_pass found.home.objects some_named.0 some_named.1))))

  found_by : (other : Option CObject) → object_with place (linked units).objects ≡ other → IsSome other → object_with place (linked units).objects ≡ Some standing
  found_by None is some = absurd cc
  found_by (Some other) is some =
      is ∙ ap (λ one. Some one) (object_at_number units typed found.unit found.home found.thing (named_thing units typed name found found_is).own other is)

  pub standing_found : object_with place (linked units).objects ≡ Some standing
  standing_found = found_by (object_with place (linked units).objects) refl some_standing

-- what a number of a unit stands for in the program, where it is that of an object with external linkage
pub record IsNamedObject (units : List CUnit) (name : List ℕ) (number : ℕ) : Type 0 where
  pub found : CFound CObject
  pub found_is : object_of_name units name ≡ Some found
  pub there : object_with number (linked units).objects ≡ Some (object_there (numbers_of units found.home found.unit) found.thing)

pub external_object_found : (units : List CUnit) → AreTypedUnits units → (unit : ℕ) (one : CUnit) → slice_get units unit ≡ Some one
    → (number : ℕ) (known : CObject) → object_with number one.objects ≡ Some known → is_external known.linkage ≡ true
    → (name : List ℕ) → known.name ≡ Some name → IsNamedObject units name (object_number units one unit number)
external_object_found units typed unit one is number known is_known external name named =
    let passes : is_object_named name known ≡ true = together_true external (has_its_name name known.name named) in
    let declared : IsSome (declared_object name one) =
    found_too (λ other. other.object == number) (is_object_named name) one.objects known is_known passes in
    let first = some_of (first_unit (declared_object name) 0 units) (some_first (declared_object name) 0 units unit one is declared) in
    let found = some_of (object_of_name units name)
    (some_other (first_unit (defined_object name) 0 units) (first_unit (declared_object name) 0 units) (ap is_some first.1)) in
    let own = own_of units typed unit one is number known is_known in
    let place : object_number units one unit number ≡ object_at units found.0.unit found.0.thing.object =
    subst (λ n. object_number units one unit n ≡ object_at units found.0.unit found.0.thing.object) own.1
    (external_number units unit one known own.0.own external
    ∙ ap (λ other. object_by units (object_at units unit known.object) (named_in units other)) named
    ∙ ap (object_by units (object_at units unit known.object)) found.1) in
    record {
      found = found.0;
      found_is = found.1;
      there = ap (λ n. object_with n (linked units).objects) place ∙ standing_found units typed name found.0 found.1;
    }
