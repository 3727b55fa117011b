-- Where the object or function of a name stands.
use Rattle.std.proofs.Common.{arith, ◌≡◌, refl, sym, ap, ◌∙◌, subst, ℕ, zero, suc, ◌<◌, ◌||◌, Bool, true, false, if◌then◌else◌, List, [], ◌∷◌, ◌++◌, length, map, reverse, Option, None, Some, IfSome, find, slice_get, slice_set, bytes_eq}
use Rattle.std.proofs.lemmas.List.{length-map, length-reverse, map-set, reverse-append, reverse-reverse}
use Rattle.std.proofs.lemmas.Slice.Eq.{bytes_eq-Decides}
use Rattle.std.specs.List.{list_any}
use Rattle.cx_rules.specs.Declare.{thing_named}
use Rattle.cx_rules.specs.Scope.{CThing}
use Rattle.cx_scope.proofs.Newest.{reversed_map}
use Rattle.cx_scope.proofs.Splits.{Splits, splits, there, set_there, held_is, turned}
use Rattle.cx_scope.specs.Indexed.{counted_places, NamesDiffer, AreNamed}
use Rattle.cx_scope.specs.Names.{CNamed, place_of, newest}
use Rattle.cx_scope.specs.Places.{IsThingAt, named, changed_by, get_found, set_found}
use Rattle.cx_scope.specs.Views.{view_thing}
use Rattle.cx_scope.specs.declared.thing.Thing.{Thing}

-- ---- none that passes a test

module _ {A : Type 0} (test : A → Bool) where
  none_or : (a b : Bool) → (a || b) ≡ false → (a ≡ false) × (b ≡ false)
  none_or true b e = absurd cc
  none_or false b e = (refl, e)

  or_none : (a b : Bool) → a ≡ false → b ≡ false → (a || b) ≡ false
  or_none true b fails e = absurd cc
  or_none false b fails e = e

  none_behind : (xs ys : List A) → list_any test xs ≡ false → list_any test ys ≡ false → list_any test (xs ++ ys) ≡ false
  none_behind [] ys one other = other
  none_behind (x ∷ xs) ys one other =
      let h = none_or (test x) (list_any test xs) one in
      or_none (test x) (list_any test (xs ++ ys)) h.0 (none_behind xs ys h.1 other)

  none_turned : (xs : List A) → list_any test xs ≡ false → list_any test (reverse xs) ≡ false
  none_turned [] e = refl
  none_turned (x ∷ xs) e =
      let h = none_or (test x) (list_any test xs) e in
      ap (list_any test) (reverse-append (x ∷ []) xs) ∙ none_behind (reverse xs) (x ∷ []) (none_turned xs h.1) (or_none (test x) false h.0 refl)

  newest_head : (b : Bool) (count : ℕ) (place : Option ℕ) (any : Bool) → (if b then Some count else place) ≡ None → (place ≡ None → any ≡ false) → (b || any) ≡ false
  newest_head true count place any e rest = absurd cc
  newest_head false count place any e rest = rest e

  none_newest : (xs : List A) → newest test xs ≡ None → list_any test xs ≡ false
  none_newest [] e = refl
  none_newest (x ∷ xs) e = newest_head (test x) (length xs) (newest test xs) (list_any test xs) e (λ f. none_newest xs f)

  head_newest : (b any : Bool) (count : ℕ) (place : Option ℕ) → (b || any) ≡ false → (any ≡ false → place ≡ None) → (if b then Some count else place) ≡ None
  head_newest true any count place e rest = absurd cc
  head_newest false any count place e rest = rest e

  newest_none : (xs : List A) → list_any test xs ≡ false → newest test xs ≡ None
  newest_none [] e = refl
  newest_none (x ∷ xs) e = head_newest (test x) (list_any test xs) (length xs) (newest test xs) e (λ f. newest_none xs f)

  found_head : (b : Bool) (x : A) (other : Option A) (any : Bool) → (if b then Some x else other) ≡ None → (other ≡ None → any ≡ false) → (b || any) ≡ false
  found_head true x other any e rest = absurd cc
  found_head false x other any e rest = rest e

  none_found : (xs : List A) → find test xs ≡ None → list_any test xs ≡ false
  none_found [] e = refl
  none_found (x ∷ xs) e = found_head (test x) x (find test xs) (list_any test xs) e (λ f. none_found xs f)

  skip_head : (b any : Bool) (x : A) (other found : Option A) → (b || any) ≡ false → (any ≡ false → other ≡ found) → (if b then Some x else other) ≡ found
  skip_head true any x other found e rest = absurd cc
  skip_head false any x other found e rest = rest e

  find_none : (xs ys : List A) → list_any test xs ≡ false → find test (xs ++ ys) ≡ find test ys
  find_none [] ys e = refl
  find_none (x ∷ xs) ys e = skip_head (test x) (list_any test xs) x (find test (xs ++ ys)) (find test ys) e (λ f. find_none xs ys f)

  taken_head : (b : Bool) (x : A) (other : Option A) → b ≡ true → (if b then Some x else other) ≡ Some x
  taken_head true x other e = refl
  taken_head false x other e = absurd cc

  module _ (change : A → A) where
    stays_head : (b any : Bool) (x y : A) (xs ys : List A) → (b || any) ≡ false → (any ≡ false → ys ≡ xs) → (if b then y else x) ∷ ys ≡ x ∷ xs
    stays_head true any x y xs ys e rest = absurd cc
    stays_head false any x y xs ys e rest = ap (λ others. x ∷ others) (rest e)

    stay : (xs ys zs : List A) → list_any test xs ≡ false → changed_by test change ys ≡ zs → changed_by test change (xs ++ ys) ≡ xs ++ zs
    stay [] ys zs e rest = rest
    stay (x ∷ xs) ys zs e rest =
        stays_head (test x) (list_any test xs) x (change x) (xs ++ zs) (changed_by test change (xs ++ ys)) e (λ f. stay xs ys zs f rest)

    changes_head : (b : Bool) (x : A) (xs ys : List A) → b ≡ true → xs ≡ ys → (if b then change x else x) ∷ xs ≡ change x ∷ ys
    changes_head true x xs ys is e = ap (λ others. change x ∷ others) e
    changes_head false x xs ys is e = absurd cc

    all_stay : (xs : List A) → list_any test xs ≡ false → changed_by test change xs ≡ xs
    all_stay [] e = refl
    all_stay (x ∷ xs) e = stays_head (test x) (list_any test xs) x (change x) xs (changed_by test change xs) e (λ f. all_stay xs f)

-- ---- names that differ

-- no two have one name
abbrev Differ : List CThing → Type 0
Differ [] = Unit {0}
Differ (one ∷ older) = (newest (named one.name) older ≡ None) × Differ older

differ_behind : (front back : List CThing) (one : CThing) → Differ (front ++ one ∷ back) → newest (named one.name) back ≡ None
differ_behind [] back one differ = differ.0
differ_behind (x ∷ front) back one differ = differ_behind front back one differ.1

same_name : (name : List ℕ) (one : CThing) → named name one ≡ true → one.name ≡ name
same_name name one is = (bytes_eq-Decides one.name name).0 is

module _ (name : List ℕ) (xs : List CThing) (differ : Differ (reverse xs)) where
  at_none : newest (named name) (reverse xs) ≡ None → IsThingAt name xs None
  at_none none =
      let absent : list_any (named name) xs ≡ false = ap (list_any (named name)) (sym (turned_twice xs)) ∙ none_turned (named name) (reverse xs) (none_newest (named name) (reverse xs) none) in
      record {
        is = none_there xs absent;
        set = λ new. all_stay (named name) (λ _. new) xs absent;
      } where
        turned_twice : (xs : List CThing) → reverse (reverse xs) ≡ xs
        turned_twice xs = reverse-reverse xs

        none_there : (xs : List CThing) → list_any (named name) xs ≡ false → thing_named name xs ≡ None
        none_there [] e = refl
        none_there (x ∷ xs) e = skip_head (named name) (named name x) (list_any (named name) xs) x (thing_named name xs) None e (λ f. none_there xs f)

  at_one : (n : ℕ) → newest (named name) (reverse xs) ≡ Some n → IsThingAt name xs (Some n)
  at_one n is =
      let s = splits (named name) n (reverse xs) is in
      let held = held_is (named name) n xs s in
      let same = same_name name s.one s.passes in
      let older : list_any (named name) (reverse s.back) ≡ false =
      none_turned (named name) s.back (none_newest (named name) s.back
      (subst (λ other. newest (named other) s.back ≡ None) same (differ_behind s.front s.back s.one (subst Differ s.is differ)))) in
      let newer = none_turned (named name) s.front s.none in
      record {
        is = ap (thing_named name) held ∙ find_none (named name) (reverse s.back) (s.one ∷ reverse s.front) older
            ∙ taken_head (named name) (named name s.one) s.one (find (named name) (reverse s.front)) s.passes
            ∙ sym (there (named name) n xs s);
        set = λ new. ap (changed_by (named name) (λ _. new)) held
            ∙ stay (named name) (λ _. new) (reverse s.back) (s.one ∷ reverse s.front) (new ∷ reverse s.front) older
            (changes_head (named name) (λ _. new) (named name s.one) s.one (changed_by (named name) (λ _. new) (reverse s.front)) (reverse s.front) s.passes
            (all_stay (named name) (λ _. new) (reverse s.front) newer))
            ∙ sym (placed (slice_set xs n new) (s.front ++ new ∷ s.back) (set_there (named name) n xs s new)
            ∙ turned s.front s.back new);
      } where
        placed : (ys zs : List CThing) → reverse ys ≡ zs → ys ≡ reverse zs
        placed ys zs e = sym (reverse-reverse ys) ∙ ap reverse e

-- ---- things and the index of their names

place_head : (t : Bool) (name : List ℕ) (one : CThing) (count other : ℕ) (found place : Option ℕ) → count ≡ other → found ≡ place
    → (if t then Some count else found) ≡ (if t then Some other else place)
place_head true name one count other found place e f = ap Some e
place_head false name one count other found place e f = f

abbrev names_of : List Thing → List CNamed
names_of list = counted_places (λ (one : Thing). true) (λ (one : Thing). one.name) list

placed_is : (name : List ℕ) (ys : List Thing) → place_of name (names_of ys) ≡ newest (named name) (map view_thing ys)
placed_is name [] = refl
placed_is name (y ∷ older) =
    place_head (bytes_eq y.name name) name (view_thing y) (length older) (length (map view_thing older)) (place_of name (names_of older)) (newest (named name) (map view_thing older))
    (sym (length-map older view_thing)) (placed_is name older)

differ_is : (ys : List Thing) → NamesDiffer (names_of ys) → Differ (map view_thing ys)
differ_is [] differ = tt
differ_is (y ∷ older) differ = (sym (placed_is y.name older) ∙ differ.0, differ_is older differ.1)

module _ (name : List ℕ) (list : List Thing) (names : List CNamed) (held : AreNamed list names) where
  held_differ : Differ (reverse (map view_thing list))
  held_differ = subst Differ (reversed_map view_thing list) (differ_is (reverse list) (subst NamesDiffer held.names_is held.differ))

  place_is : place_of name names ≡ newest (named name) (reverse (map view_thing list))
  place_is = ap (place_of name) held.names_is ∙ placed_is name (reverse list) ∙ ap (newest (named name)) (reversed_map view_thing list)

  standing : (found : Option ℕ) → found ≡ newest (named name) (reverse (map view_thing list)) → IsThingAt name (map view_thing list) found
  standing None e = at_none name (map view_thing list) held_differ (sym e)
  standing (Some n) e = at_one name (map view_thing list) held_differ n (sym e)

  pub thing_at_is : (found : Option ℕ) → found ≡ place_of name names → IsThingAt name (map view_thing list) found
  thing_at_is found e = standing found (e ∙ place_is)

  absent_is : thing_named name (map view_thing list) ≡ None → place_of name names ≡ None
  absent_is absent =
      place_is ∙ newest_none (named name) (reverse (map view_thing list)) (none_turned (named name) (map view_thing list) (none_found (named name) (map view_thing list) absent))

-- one more
pub named_more : (list more : List Thing) (names : List CNamed) (one : Thing) (count : ℕ) → AreNamed list names → count ≡ length list → more ≡ list ++ one ∷ []
    → thing_named one.name (map view_thing list) ≡ None → AreNamed more (record { name = one.name; place = count } ∷ names)
named_more list more names one count held counted made absent = record {
  names_is = ap (λ n. record { name = one.name; place = n } ∷ names) (counted ∙ sym (length-reverse list))
      ∙ ap (λ others. record { name = one.name; place = length (reverse list) } ∷ others) held.names_is
      ∙ sym (ap (λ all. names_of all) (ap reverse made ∙ reverse-append list (one ∷ [])));
  differ = (absent_is one.name list names held absent, held.differ);
}

-- ---- another one in the place of one

module _ {A : Type 0} (counts : A → Bool) (name : A → List ℕ) where
  abbrev key : A → Bool × List ℕ
  key one = (counts one, name one)

  abbrev first_of : Bool × List ℕ → Bool
  first_of pair = pair.0

  abbrev second_of : Bool × List ℕ → List ℕ
  second_of pair = pair.1

  keys_tell : (ys : List A) → counted_places counts name ys ≡ counted_places first_of second_of (map key ys)
  keys_tell [] = refl
  keys_tell (y ∷ older) =
      ap (λ others. if counts y then record { name = name y; place = length older } ∷ others else others) (keys_tell older)
      ∙ ap (λ n. if counts y then record { name = name y; place = n } ∷ counted_places first_of second_of (map key older) else counted_places first_of second_of (map key older))
      (sym (length-map older key))

  same_keys : (xs : List A) (n : ℕ) (was one : A) → slice_get xs n ≡ Some was → key one ≡ key was → map key (slice_set xs n one) ≡ map key xs
  same_keys [] n was one is e = refl
  same_keys (x ∷ xs) zero was one is e = ap (λ first. first ∷ map key xs) (e ∙ ap key (let h : x ≡ was = cc in sym h))
  same_keys (x ∷ xs) (suc n) was one is e = ap (λ others. key x ∷ others) (same_keys xs n was one is e)

  pub places_stay : (xs now : List A) (n : ℕ) (was one : A) → slice_get xs n ≡ Some was → counts was ≡ counts one → name was ≡ name one → now ≡ slice_set xs n one
      → counted_places counts name (reverse now) ≡ counted_places counts name (reverse xs)
  places_stay xs now n was one is counted named set =
      keys_tell (reverse now)
      ∙ ap (counted_places first_of second_of) (reversed_map key now ∙ ap reverse (ap (map key) set ∙ same_keys xs n was one is (ap (λ b. (b, name one)) (sym counted) ∙ ap (λ bytes. (counts was, bytes)) (sym named)))
      ∙ sym (reversed_map key xs))
      ∙ sym (keys_tell (reverse xs))

pub some_at : {A : Type 0} (xs : List A) (n : ℕ) → n < length xs → (was : A) × (slice_get xs n ≡ Some was)
some_at [] n less = absurd (omega (arith, less))
some_at (x ∷ xs) zero less = (x, refl)
some_at (x ∷ xs) (suc n) less = some_at xs n (omega (arith, less))

pub named_set : (list now : List Thing) (names : List CNamed) (n : ℕ) (one : Thing) → AreNamed list names → n < length list → IfSome (slice_get list n) (λ was. was.name ≡ one.name)
    → now ≡ slice_set list n one → AreNamed now names
named_set list now names n one held less same set =
    let was = some_at list n less in
    record {
      names_is = held.names_is ∙ sym (places_stay (λ (thing : Thing). true) (λ (thing : Thing). thing.name) list now n was.0 one was.1 refl (subst (λ o. IfSome o (λ (thing : Thing). thing.name ≡ one.name)) was.1 same) set);
      differ = held.differ;
    }
