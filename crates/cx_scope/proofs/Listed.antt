-- Members and the index of their names.
use Rattle.std.proofs.Common.{◌≡◌, refl, sym, ap, ◌∙◌, ℕ, ◌||◌, Bool, true, false, if◌then◌else◌, List, [], ◌∷◌, ◌++◌, length, drop, map, reverse, Option, None, Some, is_some, bytes_eq}
use Rattle.std.proofs.lemmas.List.{length-reverse, reverse-append}
use Rattle.std.specs.List.{list_any}
use Rattle.cx_core.specs.Views.{view_member}
use Rattle.cx_core.specs.declared.ty.Member.{Member}
use Rattle.cx_rules.specs.Rules.{has_name, is_given_name}
use Rattle.cx_scope.proofs.Newest.{reversed_map}
use Rattle.cx_scope.specs.Indexed.{counted_places}
use Rattle.cx_scope.specs.MemberNames.{is_named, name_of, noted, AreListed}
use Rattle.cx_scope.specs.Names.{CNamed, place_of}

or_more : (a b : Bool) → (a || b) ≡ (b || a)
or_more true true = refl
or_more true false = refl
or_more false true = refl
or_more false false = refl

or_assoc : (a b c : Bool) → ((a || b) || c) ≡ (a || (b || c))
or_assoc true b c = refl
or_assoc false b c = refl

or_false : (a : Bool) → (a || false) ≡ a
or_false true = refl
or_false false = refl

module _ {A : Type 0} (test : A → Bool) where
  any_behind : (xs ys : List A) → list_any test (xs ++ ys) ≡ (list_any test xs || list_any test ys)
  any_behind [] ys = refl
  any_behind (x ∷ xs) ys = ap (λ any. test x || any) (any_behind xs ys) ∙ sym (or_assoc (test x) (list_any test xs) (list_any test ys))

  pub any_turned : (xs : List A) → list_any test (reverse xs) ≡ list_any test xs
  any_turned [] = refl
  any_turned (x ∷ xs) =
      ap (list_any test) (reverse-append (x ∷ []) xs) ∙ any_behind (reverse xs) (x ∷ [])
      ∙ ap (λ any. any || (test x || false)) (any_turned xs) ∙ ap (λ one. list_any test xs || one) (or_false (test x))
      ∙ or_more (list_any test xs) (test x)

given_head : (wanted : List ℕ) (own : Option (List ℕ)) (count : ℕ) (older : List CNamed) (any : Bool) → is_some (place_of wanted older) ≡ any
    → is_some (place_of wanted (noted own count older)) ≡ (is_given_name wanted own || any)
given_head wanted None count older any e = e
given_head wanted (Some name) count older any e = given_by (bytes_eq name wanted) where
  given_by : (t : Bool) → is_some (if t then Some count else place_of wanted older) ≡ (t || any)
  given_by true = refl
  given_by false = e

counted_head : (own : Option (List ℕ)) (one : Member) (count : ℕ) (older : List CNamed) → one.name ≡ own
    → (if is_named one then record { name = name_of one; place = count } ∷ older else older) ≡ noted own count older
counted_head None one count older e = rw e refl
counted_head (Some name) one count older e = rw e refl

told : (wanted : List ℕ) (ys : List Member) → is_some (place_of wanted (counted_places is_named name_of ys)) ≡ list_any (has_name (Some wanted)) (map view_member ys)
told wanted [] = refl
told wanted (y ∷ older) =
    ap (λ names. is_some (place_of wanted names)) (counted_head y.name y (length older) (counted_places is_named name_of older) refl)
    ∙ given_head wanted y.name (length older) (counted_places is_named name_of older) (list_any (has_name (Some wanted)) (map view_member older)) (told wanted older)

pub has_is : (wanted : List ℕ) (list : List Member) (names : List CNamed) → AreListed list names
    → is_some (place_of wanted names) ≡ list_any (has_name (Some wanted)) (map view_member list)
has_is wanted list names held =
    ap (λ all. is_some (place_of wanted all)) held ∙ told wanted (reverse list)
    ∙ ap (list_any (has_name (Some wanted))) (reversed_map view_member list) ∙ any_turned (has_name (Some wanted)) (map view_member list)

pub listed_more : (list more : List Member) (names : List CNamed) (one : Member) (count : ℕ) → AreListed list names → count ≡ length list → more ≡ list ++ one ∷ []
    → AreListed more (noted one.name count names)
listed_more list more names one count held counted made =
    ap (λ n. noted one.name n names) (counted ∙ sym (length-reverse list)) ∙ ap (noted one.name (length (reverse list))) held
    ∙ sym (counted_head one.name one (length (reverse list)) (counted_places is_named name_of (reverse list)) refl)
    ∙ sym (ap (counted_places is_named name_of) (ap reverse made ∙ reverse-append list (one ∷ [])))

pub listed_again : (list now : List Member) (names added : List CNamed) (one : Member) (place : ℕ) → AreListed list names → added ≡ noted one.name place names → now ≡ list
    → AreListed now (if is_some one.name then drop 1 added else added)
listed_again list now names added one place held e same = again one.name e where
  again : (own : Option (List ℕ)) → added ≡ noted own place names → AreListed now (if is_some own then drop 1 added else added)
  again None e = e ∙ held ∙ ap (λ all. counted_places is_named name_of (reverse all)) (sym same)
  again (Some name) e = ap (drop 1) e ∙ held ∙ ap (λ all. counted_places is_named name_of (reverse all)) (sym same)
