-- The steps of which declarations are made: objects, names with linkage, mentions and declared names (ISO C99, 6.2.1, 6.2.2).
use Rattle.std.proofs.Common.{◌≡◌, ◌⊎◌, inl, inr, ℕ, zero, suc, ◌+◌, ◌<◌, ◌==◌, Bool, true, false, not, ◌&&◌, ◌||◌, is_some, if◌then◌else◌, List, [], ◌∷◌, ◌++◌, map, length, Option, Some, slice_get, bytes_eq, refl, sym, ap, ◌∙◌, subst, length-append, arith}
use Rattle.std.proofs.lemmas.Slice.Eq.{bytes_eq-Decides}
use Rattle.std.specs.List.{list_any}
use Rattle.cx_core.specs.declared.program.Linkage.{Linkage}
use Rattle.cx_core.specs.declared.program.Linkage.TheVariants.{Nothing}
use Rattle.cx_core.specs.Trees.{CTy, CObject, CMention}
use Rattle.cx_rules.specs.Declare.{is_linked, thing_named, with_object_at}
use Rattle.cx_rules.specs.Pieces.{made_static, object_static, has_linkage}
use Rattle.cx_rules.specs.Scope.{CMeant, an_object, a_function, CTag, CMade, CThing, CScope, ordinary, tag, tag_of, is_ordinary, with_declared, with_mention, with_object_number, with_function_number}
use Rattle.cx_typed.proofs.Same.{both, number_is}
use Rattle.cx_typed.proofs.Scopes.{grows_not, kept_before}
use Rattle.cx_typed.specs.Names.{IsKnownMeant}
use Rattle.cx_typed.specs.Walked.{IsGood}
use Rattle.cx_typed_units.proofs.Around.{known_thing}
use Rattle.cx_typed_units.proofs.Stretches.{Steps, kept_is, same_itself}
use Rattle.cx_typed_units.specs.Stretches.{IsThingOf, IsKnownThing, IsOrderly, IsCovered, AreCovered}

-- ---- a name that is declared

-- what is declared stands for what is linked
abbrev pub IsLinkedName : List ℕ → CScope → List ℕ → CMeant → Type 0
IsLinkedName opens scope name (an_object number type is_register linkage) = is_linked linkage ≡ true → IsThingOf opens scope name number type linkage false
IsLinkedName opens scope name (a_function number type linkage) = (is_linked linkage ≡ true) × IsThingOf opens scope name number type linkage true
IsLinkedName opens scope name _ = Unit {0}

tag_past : (plain same : Bool) (found few : Option CTag) → plain ≡ true → (if not plain && same then found else few) ≡ few
tag_past true same found few is = refl
tag_past false same found few is = absurd cc

second_of : (a b : Bool) → (a && b) ≡ true → b ≡ true
second_of true b is = is
second_of false b is = absurd cc

module _ (opens : List ℕ) (scope : CScope) (name : List ℕ) (meant : CMeant) where
  abbrev declared : CScope
  declared = with_declared name meant scope

  new_known : (other : List ℕ) (found : CMeant) (is_new : Bool) → IsGood opens scope → IsKnownMeant opens scope.types scope.unit meant
      → (if is_new then Some meant else ordinary other scope.declared) ≡ Some found → IsKnownMeant opens scope.types scope.unit found
  new_known other found true good known is = let e : meant ≡ found = cc in subst (IsKnownMeant opens scope.types scope.unit) e known
  new_known other found false good known is = good.known other found is

  pub good_declared : is_ordinary meant ≡ true → IsGood opens scope → IsKnownMeant opens scope.types scope.unit meant → IsGood opens declared
  good_declared plain good known = record {
    sound = good.sound;
    known = λ other found is. new_known other found (is_ordinary meant && bytes_eq name other) good known is;
    tags = λ other one is. good.tags other one (sym (tag_past (is_ordinary meant) (bytes_eq name other) (tag_of meant) (tag other scope.declared) plain) ∙ is);
  }

  new_object : (other : List ℕ) (number : ℕ) (type : CTy) (is_register : Bool) (linkage : Linkage) (is_new : Bool) → (is_ordinary meant && bytes_eq name other) ≡ is_new → IsOrderly opens scope
      → IsLinkedName opens scope name meant → (if is_new then Some meant else ordinary other scope.declared) ≡ Some (an_object number type is_register linkage) → is_linked linkage ≡ true
      → IsThingOf opens scope other number type linkage false
  new_object other number type is_register linkage true e orderly held is linked =
      let same : meant ≡ an_object number type is_register linkage = cc in
      let same_name : name ≡ other = (bytes_eq-Decides name other).0 (second_of (is_ordinary meant) (bytes_eq name other) e) in
      subst (λ n. IsThingOf opens scope n number type linkage false) same_name (subst (IsLinkedName opens scope name) same held linked)
  new_object other number type is_register linkage false e orderly held is linked = orderly.objects other number type is_register linkage is linked

  new_function : (other : List ℕ) (number : ℕ) (type : CTy) (linkage : Linkage) (is_new : Bool) → (is_ordinary meant && bytes_eq name other) ≡ is_new → IsOrderly opens scope
      → IsLinkedName opens scope name meant → (if is_new then Some meant else ordinary other scope.declared) ≡ Some (a_function number type linkage)
      → (is_linked linkage ≡ true) × IsThingOf opens scope other number type linkage true
  new_function other number type linkage true e orderly held is =
      let same : meant ≡ a_function number type linkage = cc in
      let same_name : name ≡ other = (bytes_eq-Decides name other).0 (second_of (is_ordinary meant) (bytes_eq name other) e) in
      let made = subst (IsLinkedName opens scope name) same held in
      (made.0, subst (λ n. IsThingOf opens scope n number type linkage true) same_name made.1)
  new_function other number type linkage false e orderly held is = orderly.functions other number type linkage is

  pub declared_leads : IsLinkedName opens scope name meant → Steps opens scope declared
  declared_leads held = record {
    declares = record {
      unit_is = refl;
      grows = grows_not opens scope.types;
      mentions = λ number x is. is;
      literals = λ number x is. is;
      front = record { name = name; meant = meant } ∷ [];
      declared_is = refl;
    };
    begins_is = refl;
    in_function_is = refl;
    functions_are = refl;
    objects_more = omega arith;
    statics = λ number is. is;
    objects = λ number one nothing is. is;
    things = λ other one is. kept_is opens scope.types one one (thing_named other scope.things) is (same_itself opens scope.types one);
    covered = λ orderly held. held;
    orderly = λ orderly. record {
      objects = λ other number type is_register linkage is linked. new_object other number type is_register linkage (is_ordinary meant && bytes_eq name other) refl orderly held is linked;
      functions = λ other number type linkage is. new_function other number type linkage (is_ordinary meant && bytes_eq name other) refl orderly held is;
      things = λ other one is. known_thing opens scope declared refl refl refl refl one (orderly.things other one is);
      numbers = orderly.numbers;
    };
  }

-- ---- mentions and numbers of functions

pub got_behind : {X : Type 0} (xs : List X) (new : X) (index : ℕ) (one : X) → slice_get (xs ++ new ∷ []) index ≡ Some one → (slice_get xs index ≡ Some one) ⊎ (new ≡ one)
got_behind [] new zero one is = inr cc
got_behind [] new (suc index) one is = absurd cc
got_behind (first ∷ xs) new zero one is = inl is
got_behind (first ∷ xs) new (suc index) one is = got_behind xs new index one is

module _ (opens : List ℕ) (scope : CScope) where
  last_covered : (new : CMention) → IsCovered opens scope.types scope.things new → AreCovered opens scope → (index : ℕ) (one : CMention) → (slice_get scope.mentions index ≡ Some one) ⊎ (new ≡ one)
      → IsCovered opens scope.types scope.things one
  last_covered new covered held index one (inl at) = held index one at
  last_covered new covered held index one (inr is) = subst (λ (mention : CMention). IsCovered opens scope.types scope.things mention) is covered

  pub mention_leads : (one : CMention) → IsCovered opens scope.types scope.things one → Steps opens scope (with_mention one scope)
  mention_leads new covered = record {
    declares = record {
      unit_is = refl;
      grows = grows_not opens scope.types;
      mentions = λ number x is. kept_before scope.mentions (new ∷ []) number x is;
      literals = λ number x is. is;
      front = [];
      declared_is = refl;
    };
    begins_is = refl;
    in_function_is = refl;
    functions_are = refl;
    objects_more = omega arith;
    statics = λ number is. is;
    objects = λ number one nothing is. is;
    things = λ other one is. kept_is opens scope.types one one (thing_named other scope.things) is (same_itself opens scope.types one);
    covered = λ orderly held index one at. last_covered new covered held index one (got_behind scope.mentions new index one at);
    orderly = λ orderly. record {
      objects = orderly.objects;
      functions = orderly.functions;
      things = λ other found is. known_thing opens scope (with_mention new scope) refl refl refl refl found (orderly.things other found is);
      numbers = orderly.numbers;
    };
  }

  pub number_leads : Steps opens scope (with_function_number scope)
  number_leads = record {
    declares = record {
      unit_is = refl;
      grows = grows_not opens scope.types;
      mentions = λ number x is. is;
      literals = λ number x is. is;
      front = [];
      declared_is = refl;
    };
    begins_is = refl;
    in_function_is = refl;
    functions_are = refl;
    objects_more = omega arith;
    statics = λ number is. is;
    objects = λ number one nothing is. is;
    things = λ other one is. kept_is opens scope.types one one (thing_named other scope.things) is (same_itself opens scope.types one);
    covered = λ orderly held. held;
    orderly = λ orderly. record {
      objects = orderly.objects;
      functions = orderly.functions;
      things = λ other found is. known_thing opens scope (with_function_number scope) refl refl refl refl found (orderly.things other found is);
      numbers = orderly.numbers;
    };
  }

-- ---- objects

-- what lives as long as the program goes on so
linked_or : (a b c d : Bool) → (a ≡ true → c ≡ true) → (b ≡ true → d ≡ true) → (a || b) ≡ true → (c || d) ≡ true
linked_or true b true d first second is = refl
linked_or true b false d first second is = absurd (let h : false ≡ true = first refl in cc)
linked_or false b true d first second is = refl
linked_or false b false d first second is = second is

static_of : (a b c : Bool) → a ≡ true → (b || c) ≡ true → (a && (b || c)) ≡ true
static_of true b c first second = second
static_of false b c first second = absurd cc

more_objects : (index : ℕ) (few more : List CObject) → list_any (object_static index) few ≡ true → list_any (object_static index) (few ++ more) ≡ true
more_objects index [] more held = absurd cc
more_objects index (first ∷ few) more held =
    linked_or (object_static index first) (list_any (object_static index) few) (object_static index first) (list_any (object_static index) (few ++ more)) (λ is. is) (more_objects index few more) held

more_static : (literals : List CMade) (index : ℕ) (few more : List CObject) → (list_any (made_static index) literals || list_any (object_static index) few) ≡ true
    → (list_any (made_static index) literals || list_any (object_static index) (few ++ more)) ≡ true
more_static literals index few more held =
    linked_or (list_any (made_static index) literals) (list_any (object_static index) few) (list_any (made_static index) literals) (list_any (object_static index) (few ++ more)) (λ is. is)
    (more_objects index few more) held

-- an object with the next number
abbrev pub with_next_object : CObject → CScope → CScope
with_next_object new scope = with_object_number (record scope { objects = scope.objects ++ new ∷ [] })

module _ (opens : List ℕ) (scope : CScope) (new : CObject) (next : new.object ≡ scope.next_object) where
  object_below : (index : ℕ) (object : CObject) → (slice_get scope.objects index ≡ Some object) ⊎ (new ≡ object) → ((index : ℕ) (object : CObject) → slice_get scope.objects index ≡ Some object → object.object < scope.next_object)
      → object.object < scope.next_object + 1
  object_below index object (inl at) below = let h : object.object < scope.next_object = below index object at in omega (arith, h)
  object_below index object (inr is) below = let h : object.object ≡ scope.next_object = ap (λ (x : CObject). x.object) (sym is) ∙ next in omega (arith, h)

  own_object : (one : CThing) (object : CObject) (index : ℕ) → one.number < scope.next_object → ((index : ℕ) (object : CObject) → slice_get scope.objects index ≡ Some object → object.object ≡ one.number → is_linked object.linkage ≡ true)
      → (slice_get scope.objects index ≡ Some object) ⊎ (new ≡ object) → object.object ≡ one.number → is_linked object.linkage ≡ true
  own_object one object index below own (inl at) same = own index object at same
  own_object one object index below own (inr is) same =
      absurd (let h : object.object ≡ scope.next_object = ap (λ (x : CObject). x.object) (sym is) ∙ next in omega (arith, h, same, below))

  pub next_leads : Steps opens scope (with_next_object new scope)
  next_leads = record {
    declares = record {
      unit_is = refl;
      grows = grows_not opens scope.types;
      mentions = λ number x is. is;
      literals = λ number x is. is;
      front = [];
      declared_is = refl;
    };
    begins_is = refl;
    in_function_is = refl;
    functions_are = refl;
    objects_more = let h : length (scope.objects ++ new ∷ []) ≡ length scope.objects + 1 = length-append scope.objects (new ∷ []) in omega (arith, h);
    objects = λ number one nothing is. kept_before scope.objects (new ∷ []) number one is;
    statics = λ number is. more_static scope.literals number scope.objects (new ∷ []) is;
    things = λ other one is. kept_is opens scope.types one one (thing_named other scope.things) is (same_itself opens scope.types one);
    covered = λ orderly held. held;
    orderly = λ orderly. record {
      objects = orderly.objects;
      functions = orderly.functions;
      things = λ other one is.
          let was = orderly.things other one is in
          record {
            known = was.known;
            linked = was.linked;
            function_is = was.function_is;
            below = λ object. let h : one.number < scope.next_object = was.below object in omega (arith, h);
            own = λ is_object index object at same. own_object one object index (was.below is_object) (was.own is_object) (got_behind scope.objects new index object at) same;
          };
      numbers = λ index object at. object_below index object (got_behind scope.objects new index object at) orderly.numbers;
    };
  }

-- the object with a number is changed
pub got_mapped : {X : Type 0} (f : X → X) (xs : List X) (index : ℕ) (one : X) → slice_get (map f xs) index ≡ Some one → (was : X) × (slice_get xs index ≡ Some was) × (f was ≡ one)
got_mapped f [] index one is = absurd cc
got_mapped f (first ∷ xs) zero one is = (first, refl, cc)
got_mapped f (first ∷ xs) (suc index) one is = got_mapped f xs index one is

pub mapped_at : {X : Type 0} (f : X → X) (xs : List X) (index : ℕ) (one : X) → slice_get xs index ≡ Some one → slice_get (map f xs) index ≡ Some (f one)
mapped_at f [] index one is = absurd cc
mapped_at f (first ∷ xs) zero one is = let e : first ≡ one = cc in ap (λ x. Some (f x)) e
mapped_at f (first ∷ xs) (suc index) one is = mapped_at f xs index one is

pub length_mapped : {X : Type 0} (f : X → X) (xs : List X) → length (map f xs) ≡ length xs
length_mapped f [] = refl
length_mapped f (first ∷ xs) = ap suc (length_mapped f xs)

changed_if : (number : ℕ) (change : CObject → CObject) (one : CObject) (same : Bool) → (one.object == number) ≡ same → one.linkage ≡ Nothing → (one.object ≡ number → is_linked one.linkage ≡ true)
    → (if same then change one else one) ≡ one
changed_if number change one true e nothing linked =
    absurd (let h : is_linked Nothing ≡ true = subst (λ l. is_linked l ≡ true) nothing (linked (number_is one.object number e)) in let k : false ≡ true = h in cc)
changed_if number change one false e nothing linked = refl

changed_number : (change : CObject → CObject) (one : CObject) (same : Bool) → (change one).object ≡ one.object → (if same then change one else one).object ≡ one.object
changed_number change one true e = e
changed_number change one false e = refl

changed_linkage : (change : CObject → CObject) (one : CObject) (same : Bool) → (change one).linkage ≡ one.linkage → (if same then change one else one).linkage ≡ one.linkage
changed_linkage change one true e = e
changed_linkage change one false e = refl

module _ (opens : List ℕ) (scope : CScope) (number : ℕ) (change : CObject → CObject) (number_kept : (one : CObject) → (change one).object ≡ one.object)
    (linkage_kept : (one : CObject) → (change one).linkage ≡ one.linkage) (static_kept : (one : CObject) → is_some one.puts ≡ true → is_some (change one).puts ≡ true) where
  abbrev pub change_one : CObject → CObject
  change_one one = if one.object == number then change one else one

  static_part : (index : ℕ) (one : CObject) (same : Bool) → object_static index one ≡ true → object_static index (if same then change one else one) ≡ true
  static_part index one true held =
      let parts = both held in
      static_of ((change one).object == index) (has_linkage (change one).linkage) (is_some (change one).puts) (ap (λ n. n == index) (number_kept one) ∙ parts.0)
      (linked_or (has_linkage one.linkage) (is_some one.puts) (has_linkage (change one).linkage) (is_some (change one).puts) (λ is. ap has_linkage (linkage_kept one) ∙ is) (static_kept one) parts.1)
  static_part index one false held = held

  changed_objects : (index : ℕ) (objects : List CObject) → list_any (object_static index) objects ≡ true → list_any (object_static index) (map change_one objects) ≡ true
  changed_objects index [] held = held
  changed_objects index (first ∷ objects) held =
      linked_or (object_static index first) (list_any (object_static index) objects) (object_static index (change_one first)) (list_any (object_static index) (map change_one objects))
      (static_part index first (first.object == number)) (changed_objects index objects) held

  pub changed_static : (literals : List CMade) (index : ℕ) (objects : List CObject) → (list_any (made_static index) literals || list_any (object_static index) objects) ≡ true
      → (list_any (made_static index) literals || list_any (object_static index) (map change_one objects)) ≡ true
  changed_static literals index objects held =
      linked_or (list_any (made_static index) literals) (list_any (object_static index) objects) (list_any (made_static index) literals) (list_any (object_static index) (map change_one objects))
      (λ is. is) (changed_objects index objects) held

  -- what stays of an object that is changed, and of where it stands
  pub changed_before : (index : ℕ) (object : CObject) → slice_get (map change_one scope.objects) index ≡ Some object
      → (was : CObject) × (slice_get scope.objects index ≡ Some was) × (object.object ≡ was.object) × (object.linkage ≡ was.linkage)
  changed_before index object at =
      let before = got_mapped change_one scope.objects index object at in (
        before.0,
        before.1,
        ap (λ (x : CObject). x.object) (sym before.2) ∙ changed_number change before.0 (before.0.object == number) (number_kept before.0),
        ap (λ (x : CObject). x.linkage) (sym before.2) ∙ changed_linkage change before.0 (before.0.object == number) (linkage_kept before.0),
      )

  pub changed_numbers : IsOrderly opens scope → (index : ℕ) (object : CObject) → slice_get (map change_one scope.objects) index ≡ Some object → object.object < scope.next_object
  changed_numbers orderly index object at =
      let before = changed_before index object at in
      let same : object.object ≡ before.0.object = before.2 in
      let h : before.0.object < scope.next_object = orderly.numbers index before.0 before.1 in
      omega (arith, h, same)

  pub changed_own : (one : CThing) → IsKnownThing opens scope one → one.is_function ≡ false → (index : ℕ) (object : CObject) → slice_get (map change_one scope.objects) index ≡ Some object
      → object.object ≡ one.number → is_linked object.linkage ≡ true
  changed_own one was is_object index object at same =
      let before = changed_before index object at in
      subst (λ l. is_linked l ≡ true) (sym before.3) (was.own is_object index before.0 before.1 (sym before.2 ∙ same))

  pub changed_leads : (linked : (index : ℕ) (object : CObject) → slice_get scope.objects index ≡ Some object → object.object ≡ number → is_linked object.linkage ≡ true)
      → Steps opens scope (with_object_at number change scope)
  changed_leads linked = record {
    declares = record {
      unit_is = refl;
      grows = grows_not opens scope.types;
      mentions = λ number x is. is;
      literals = λ number x is. is;
      front = [];
      declared_is = refl;
    };
    begins_is = refl;
    in_function_is = refl;
    functions_are = refl;
    objects_more = let h : length (map change_one scope.objects) ≡ length scope.objects = length_mapped change_one scope.objects in omega (arith, h);
    statics = λ index is. changed_static scope.literals index scope.objects is;
    objects = λ index one nothing is.
        mapped_at change_one scope.objects index one is ∙ ap (λ x. Some x) (changed_if number change one (one.object == number) refl nothing (linked index one is));
    things = λ other one is. kept_is opens scope.types one one (thing_named other scope.things) is (same_itself opens scope.types one);
    covered = λ orderly held. held;
    orderly = λ orderly. record {
      objects = orderly.objects;
      functions = orderly.functions;
      things = λ other one is.
          let was = orderly.things other one is in
          record { known = was.known; linked = was.linked; function_is = was.function_is; below = was.below; own = changed_own one was };
      numbers = changed_numbers orderly;
    };
  }
