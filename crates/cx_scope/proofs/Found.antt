-- What the places of names tell of declarations.
use Rattle.std.proofs.Common.{◌≡◌, refl, sym, ap, ◌∙◌, ℕ, ◌-◌, ◌<◌, ◌≤◌, ◌&&◌, Bool, true, false, not, if◌then◌else◌, List, [], ◌∷◌, map, reverse, take, length, Option, None, Some, option_map, find, slice_get, bytes_eq}
use Rattle.std.proofs.lemmas.List.{length-map}
use Rattle.std.proofs.lemmas.Option.{slice_get-map}
use Rattle.std.specs.Bool.{beq}
use Rattle.std.specs.Option.{option_and_then}
use Rattle.cx_rules.specs.Scope.{CDeclared, CMeant, CTag, is_ordinary, ordinary, tag, tag_of}
use Rattle.cx_scope.proofs.Newest.{reversed_map}
use Rattle.cx_scope.proofs.Splits.{found_inside, found_outside, found_nowhere, splits, there}
use Rattle.cx_scope.specs.Indexed.{is_plain, counted_places}
use Rattle.cx_scope.specs.Names.{CNamed, place_of, newest, declares}
use Rattle.cx_scope.specs.Views.{view_declared, view_meant}
use Rattle.cx_scope.specs.declared.meant.Declared.{Declared}
use Rattle.cx_scope.specs.declared.meant.Meant.{Meant}
use Rattle.cx_scope.specs.declared.meant.Meant.TheVariants as meant

-- ---- names in their places

place_head : (b : Bool) (one : CNamed) (older : List CNamed) (name : List ℕ)
    → place_of name (if b then one ∷ older else older) ≡ (if b && bytes_eq one.name name then Some one.place else place_of name older)
place_head true one older name = refl
place_head false one older name = refl

placed_by : (b : Bool) (counts : Declared → Bool) → ((y : Declared) → beq (is_ordinary (view_meant y.meant)) b ≡ counts y) → (name : List ℕ) (ys : List Declared)
    → place_of name (counted_places counts (λ y. y.name) ys) ≡ newest (declares b name) (map view_declared ys)
placed_by b counts is name [] = refl
placed_by b counts is name (y ∷ older) =
    place_head (counts y) (record { name = y.name; place = length older }) (counted_places counts (λ y. y.name) older) name
    ∙ ap (λ test. if test && bytes_eq y.name name then Some (length older) else place_of name (counted_places counts (λ y. y.name) older)) (sym (is y))
    ∙ ap (λ count. if declares b name (view_declared y) then Some count else place_of name (counted_places counts (λ y. y.name) older)) (sym (length-map older view_declared))
    ∙ ap (λ found. if declares b name (view_declared y) then Some (length (map view_declared older)) else found) (placed_by b counts is name older)

plain_is : (one : Meant) → beq (is_ordinary (view_meant one)) true ≡ is_plain one
plain_is (meant.Object number t register linkage) = refl
plain_is (meant.Function number t linkage) = refl
plain_is (meant.TypeName t) = refl
plain_is (meant.Enumerator value) = refl
plain_is (meant.Tag is_record is_open number) = refl

tag_is : (one : Meant) → beq (is_ordinary (view_meant one)) false ≡ not (is_plain one)
tag_is (meant.Object number t register linkage) = refl
tag_is (meant.Function number t linkage) = refl
tag_is (meant.TypeName t) = refl
tag_is (meant.Enumerator value) = refl
tag_is (meant.Tag is_record is_open number) = refl

pub ordinary_place : (name : List ℕ) (list : List Declared) (names : List CNamed) → names ≡ counted_places (λ one. is_plain one.meant) (λ one. one.name) (reverse list)
    → place_of name names ≡ newest (declares true name) (reverse (map view_declared list))
ordinary_place name list names is =
    ap (place_of name) is ∙ placed_by true (λ one. is_plain one.meant) (λ y. plain_is y.meant) name (reverse list)
    ∙ ap (newest (declares true name)) (reversed_map view_declared list)

pub tag_place : (name : List ℕ) (list : List Declared) (names : List CNamed) → names ≡ counted_places (λ one. not (is_plain one.meant)) (λ one. one.name) (reverse list)
    → place_of name names ≡ newest (declares false name) (reverse (map view_declared list))
tag_place name list names is =
    ap (place_of name) is ∙ placed_by false (λ one. not (is_plain one.meant)) (λ y. tag_is y.meant) name (reverse list)
    ∙ ap (newest (declares false name)) (reversed_map view_declared list)

-- ---- what a name means is what its newest declaration says

ordinary_head : (b t : Bool) (meant : CMeant) (one : CDeclared) (other : Option CMeant) (found : Option CDeclared) → other ≡ option_and_then (λ one. Some one.meant) found → one.meant ≡ meant
    → (if b && t then Some meant else other) ≡ option_and_then (λ one. Some one.meant) (if beq b true && t then Some one else found)
ordinary_head true true meant one other found e m = ap Some (sym m)
ordinary_head true false meant one other found e m = e
ordinary_head false t meant one other found e m = e

pub ordinary_find : (name : List ℕ) (ys : List CDeclared) → ordinary name ys ≡ option_and_then (λ one. Some one.meant) (find (declares true name) ys)
ordinary_find name [] = refl
ordinary_find name (y ∷ older) =
    ordinary_head (is_ordinary y.meant) (bytes_eq y.name name) y.meant y (ordinary name older) (find (declares true name) older) (ordinary_find name older) refl

tag_head : (b t : Bool) (one : CDeclared) (found : Option CDeclared) → (if not b && t then tag_of one.meant else option_and_then (λ one. tag_of one.meant) found)
    ≡ option_and_then (λ one. tag_of one.meant) (if beq b false && t then Some one else found)
tag_head true t one found = refl
tag_head false true one found = refl
tag_head false false one found = refl

pub tag_find : (name : List ℕ) (ys : List CDeclared) → tag name ys ≡ option_and_then (λ one. tag_of one.meant) (find (declares false name) ys)
tag_find name [] = refl
tag_find name (y ∷ older) =
    ap (λ found. if not (is_ordinary y.meant) && bytes_eq y.name name then tag_of y.meant else found) (tag_find name older)
    ∙ tag_head (is_ordinary y.meant) (bytes_eq y.name name) y (find (declares false name) older)

-- ---- behind so many of the oldest

abbrev behind : ℕ → List Declared → List CDeclared
behind count list = take (length (reverse (map view_declared list)) - count) (reverse (map view_declared list))

abbrev meant_of : Option CDeclared → Option CMeant
meant_of found = option_and_then (λ one. Some one.meant) found

abbrev tagged_of : Option CDeclared → Option CTag
tagged_of found = option_and_then (λ one. tag_of one.meant) found

module _ (name : List ℕ) (list : List Declared) (count : ℕ) where
  pub ordinary_nowhere : newest (declares true name) (reverse (map view_declared list)) ≡ None → ordinary name (behind count list) ≡ None
  ordinary_nowhere e = ordinary_find name (behind count list) ∙ ap meant_of (found_nowhere (declares true name) (reverse (map view_declared list)) _ e)

  pub ordinary_outside : (place : ℕ) → newest (declares true name) (reverse (map view_declared list)) ≡ Some place → place < count → ordinary name (behind count list) ≡ None
  ordinary_outside place e above =
      ordinary_find name (behind count list) ∙ ap meant_of (found_outside (declares true name) (reverse (map view_declared list)) count place e above)

  pub ordinary_inside : (place : ℕ) (one : Declared) → newest (declares true name) (reverse (map view_declared list)) ≡ Some place → count ≤ place → slice_get list place ≡ Some one
      → ordinary name (behind count list) ≡ Some (view_meant one.meant)
  ordinary_inside place one e within get =
      ordinary_find name (behind count list)
      ∙ ap meant_of (found_inside (declares true name) (map view_declared list) (reverse (map view_declared list)) count place (view_declared one) refl e within
      (slice_get-map view_declared list place ∙ ap (option_map view_declared) get))

  pub tag_nowhere : newest (declares false name) (reverse (map view_declared list)) ≡ None → tag name (behind count list) ≡ None
  tag_nowhere e = tag_find name (behind count list) ∙ ap tagged_of (found_nowhere (declares false name) (reverse (map view_declared list)) _ e)

  pub tag_outside : (place : ℕ) → newest (declares false name) (reverse (map view_declared list)) ≡ Some place → place < count → tag name (behind count list) ≡ None
  tag_outside place e above =
      tag_find name (behind count list) ∙ ap tagged_of (found_outside (declares false name) (reverse (map view_declared list)) count place e above)

  pub tag_inside : (place : ℕ) (one : Declared) → newest (declares false name) (reverse (map view_declared list)) ≡ Some place → count ≤ place → slice_get list place ≡ Some one
      → tag name (behind count list) ≡ tag_of (view_meant one.meant)
  tag_inside place one e within get =
      tag_find name (behind count list)
      ∙ ap tagged_of (found_inside (declares false name) (map view_declared list) (reverse (map view_declared list)) count place (view_declared one) refl e within
      (slice_get-map view_declared list place ∙ ap (option_map view_declared) get))

absent : {A B : Type 0} (view : A → B) (one : B) (found : Option A) → found ≡ None → option_map view found ≡ Some one → ⊥
absent view one None e is = cc
absent view one (Some other) e is = cc

-- where the newest stands there is one
pub stands : {P : Type 0} (test : CDeclared → Bool) (list : List Declared) (n : ℕ) → newest test (reverse (map view_declared list)) ≡ Some n → slice_get list n ≡ None → P
stands test list n e none =
    let s = splits test n (reverse (map view_declared list)) e in
    absurd (absent view_declared s.one (slice_get list n) none (sym (slice_get-map view_declared list n) ∙ there test n (map view_declared list) s))
