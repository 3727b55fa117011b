-- Lists whose items have places that differ.
use Rattle.std.proofs.Common.{◌≡◌, ◌∙◌, ◌⊎◌, inl, inr, ℕ, suc, Bool, true, false, List, [], ◌∷◌, ◌++◌, Option, Some, None, if◌then◌else◌, refl, sym, ap, subst}
use Rattle.build_flow_nodes.specs.Points.{FlowPlace, Point, Placed, same_place, point_at}
use Rattle.build_flow_numbers.proofs.Places.{same_place_itself, differ}

module _ {X : Type 0} (place_of : X → FlowPlace) where
  -- something holds of each place
  abbrev pub AllPlaces : (FlowPlace → Type 0) → List X → Type 0
  AllPlaces P [] = Unit {0}
  AllPlaces P (one ∷ others) = P (place_of one) × AllPlaces P others

  -- the places differ
  abbrev pub AreDistinct : List X → Type 0
  AreDistinct [] = Unit {0}
  AreDistinct (one ∷ others) = AllPlaces (λ place. place_of one ≡ place → ⊥) others × AreDistinct others

  pub places_both : (P : FlowPlace → Type 0) (first others : List X) → AllPlaces P first → AllPlaces P others → AllPlaces P (first ++ others)
  places_both P [] others one other = other
  places_both P (x ∷ first) others one other = (one.0, places_both P first others one.1 other)

  pub places_as : (P Q : FlowPlace → Type 0) → ((place : FlowPlace) → P place → Q place) → (list : List X) → AllPlaces P list → AllPlaces Q list
  places_as P Q more [] all = tt
  places_as P Q more (x ∷ list) all = (more (place_of x) all.0, places_as P Q more list all.1)

  pub distinct_both : (P Q : FlowPlace → Type 0) → ((place : FlowPlace) → P place → Q place → ⊥) → (first others : List X) → AllPlaces P first → AllPlaces Q others → AreDistinct first → AreDistinct others →
      AreDistinct (first ++ others)
  distinct_both P Q apart [] others one other first_is others_are = others_are
  distinct_both P Q apart (x ∷ first) others one other first_is others_are = (
    places_both (λ place. place_of x ≡ place → ⊥) first others first_is.0 (places_as Q (λ place. place_of x ≡ place → ⊥) (λ place q same. apart place (subst P same one.0) q) others other),
    distinct_both P Q apart first others one.1 other first_is.1 others_are,
  )

-- ---- points by their places

-- a point isn't found at a place that no item has
pub not_found : (place : FlowPlace) (list : List Placed) → AllPlaces (λ (one : Placed). one.place) (λ other. place ≡ other → ⊥) list → point_at place list ≡ None
not_found place [] all = refl
not_found place (one ∷ others) all = ap (λ (is : Bool). if is then Some one.point else point_at place others) (differ place one.place all.0) ∙ not_found place others all.1

abbrev pub AllFound : List Placed → List Placed → Type 0
AllFound whole [] = Unit {0}
AllFound whole (one ∷ others) = (point_at one.place whole ≡ Some one.point) × AllFound whole others

found_behind : (first : Placed) (whole list : List Placed) → AllPlaces (λ (one : Placed). one.place) (λ other. first.place ≡ other → ⊥) list → AllFound whole list → AllFound (first ∷ whole) list
found_behind first whole [] apart all = tt
found_behind first whole (one ∷ others) apart all =
    (ap (λ (is : Bool). if is then Some first.point else point_at one.place whole) (differ one.place first.place (λ same. apart.0 (sym same))) ∙ all.0, found_behind first whole others apart.1 all.1)

-- each is found where they differ
pub distinct_found : (list : List Placed) → AreDistinct (λ (one : Placed). one.place) list → AllFound list list
distinct_found [] distinct = tt
distinct_found (one ∷ others) distinct =
    (ap (λ (is : Bool). if is then Some one.point else point_at one.place others) (same_place_itself one.place), found_behind one others others distinct.0 (distinct_found others distinct.1))
