-- Places and their numbers, in linear code and in lists of points.
use Rattle.std.proofs.Common.{◌≡◌, ◌∙◌, ℕ, zero, suc, ◌+◌, Bool, true, false, ◌&&◌, ◌||◌, if◌then◌else◌, List, [], ◌∷◌, length, map, filter, Option, Some, None, option_map, is_some, unwrap_or, slice_get, slice_set, refl, sym, ap, subst, arith}
use Rattle.build_flow_linear.specs.Linear.{Instr, marks, does, leaves, places_in, read}
use Rattle.build_flow_nodes.specs.Flows.{branch_places, places_from, is_among, number_of}
use Rattle.build_flow_nodes.specs.Points.{FlowPlace, Point, Placed, same_place, point_at}
use Rattle.build_flow_numbers.proofs.Places.{same_place_is, same_place_itself, apart_back}
use Rattle.build_flow_reached.specs.Codes.{ended, placed_in, DiffersFrom, AllDiffer}
use Rattle.build_flow_reached.specs.Index.{number_from, count_from}
use Rattle.build_flow_reached.specs.Numbers.{numbers_from, counted_from, found_at}
use Rattle.build_flow_reached.specs.Tables.{branches_from, arms_in, row_or_none, row_at, arms_from}

-- ---- the numbers of an index

pub counts : (number : ℕ) (last : Point) (code : List Instr) → count_from number code ≡ number + length (places_in last code)
counts number last [] = omega arith
counts number last (marks one ∷ others) = let more = counts (suc number) last others in omega (arith, more)
counts number last (does body ∷ others) = counts number last others
counts number last (leaves branch ∷ others) = counts number last others

pub numbers : (number : ℕ) (place : FlowPlace) (last : Point) (code : List Instr) → unwrap_or (number_from number place code) (count_from number code) ≡ number + number_of place (places_in last code)
numbers number place last [] = omega arith
numbers number place last (marks one ∷ others) = by (same_place place one) (numbers (suc number) place last others)
  where
    by : (same : Bool) → unwrap_or (number_from (suc number) place others) (count_from (suc number) others) ≡ suc number + number_of place (places_in last others) →
        unwrap_or (if same then Some number else number_from (suc number) place others) (count_from (suc number) others) ≡ number + (if same then 0 else suc (number_of place (places_in last others)))
    by true more = omega arith
    by false more = omega (arith, more)
numbers number place last (does body ∷ others) = numbers number place last others
numbers number place last (leaves branch ∷ others) = numbers number place last others

-- ---- arms

module _ (number : FlowPlace → ℕ) where
  -- the first branch is that at which the first places end
  row_first : (code : List Instr) → row_or_none (slice_get (arms_in number code) 0) ≡ map number (branch_places (read ended code).last)
  row_first [] = refl
  row_first (marks one ∷ others) = row_first others
  row_first (does body ∷ others) = row_first others
  row_first (leaves branch ∷ others) = refl

  row_behind : (row : List ℕ) (arms : List (List ℕ)) (from : ℕ) (code : List Instr) (k : ℕ) →
      row_at (row ∷ arms) (slice_get (branches_from (suc from) code) k) ≡ row_at arms (slice_get (branches_from from code) k)
  row_behind row arms from [] k = refl
  row_behind row arms from (marks one ∷ others) zero = refl
  row_behind row arms from (marks one ∷ others) (suc k) = row_behind row arms from others k
  row_behind row arms from (does body ∷ others) k = row_behind row arms from others k
  row_behind row arms from (leaves branch ∷ others) k = row_behind row arms (suc from) others k

  abbrev pub arms_at : Option Placed → List ℕ
  arms_at None = []
  arms_at (Some one) = map number (branch_places one.point.last)

  pub arms_are : (code : List Instr) (k : ℕ) → arms_from (branches_from 0 code) (arms_in number code) k ≡ arms_at (slice_get (placed_in code) k)
  arms_are [] k = refl
  arms_are (marks one ∷ others) zero = row_first others
  arms_are (marks one ∷ others) (suc k) = arms_are others k
  arms_are (does body ∷ others) k = arms_are others k
  arms_are (leaves branch ∷ others) k = row_behind (map number (branch_places branch)) (arms_in number others) 0 others k ∙ arms_are others k

  point_found : (place : FlowPlace) (all : List Placed) → option_map (λ (one : Placed). one.point) (slice_get all (number_of place all)) ≡ point_at place all
  point_found place [] = refl
  point_found place (one ∷ others) = by (same_place place one.place) (point_found place others)
    where
      by : (same : Bool) → option_map (λ (it : Placed). it.point) (slice_get others (number_of place others)) ≡ point_at place others →
          option_map (λ (it : Placed). it.point) (slice_get (one ∷ others) (if same then 0 else suc (number_of place others))) ≡ (if same then Some one.point else point_at place others)
      by true more = refl
      by false more = more

  of_point : (one : Option Placed) → arms_at one ≡ map number (places_from (option_map (λ (it : Placed). it.point) one))
  of_point None = refl
  of_point (Some one) = refl

  pub arms_there : (code : List Instr) (place : FlowPlace) → arms_from (branches_from 0 code) (arms_in number code) (number_of place (placed_in code)) ≡ map number (places_from (point_at place (placed_in code)))
  arms_there code place =
      arms_are code (number_of place (placed_in code)) ∙ of_point (slice_get (placed_in code) (number_of place (placed_in code)))
      ∙ ap (λ (point : Option Point). map number (places_from point)) (point_found place (placed_in code))

-- ---- truth values of places

abbrev pub tells : (FlowPlace → Bool) → Placed → Bool
tells test one = test one.place

module _ (test : FlowPlace → Bool) (place : FlowPlace) where
  pub told_there : (all : List Placed) → slice_get (map (tells test) all) (number_of place all) ≡ option_map (λ (point : Point). test place) (point_at place all)
  told_there [] = refl
  told_there (one ∷ others) = by (same_place place one.place) refl (told_there others)
    where
      by : (same : Bool) → same_place place one.place ≡ same → slice_get (map (tells test) others) (number_of place others) ≡ option_map (λ (point : Point). test place) (point_at place others) →
          slice_get (tells test one ∷ map (tells test) others) (if same then 0 else suc (number_of place others)) ≡ option_map (λ (point : Point). test place) (if same then Some one.point else point_at place others)
      by true is more = ap (λ (it : FlowPlace). Some (test it)) (sym (same_place_is place one.place is))
      by false is more = more

  -- ---- numbers of those for which a test holds

  counted_is : (number : ℕ) (all : List Placed) → counted_from number (map (tells test) all) ≡ number + length (filter (tells test) all)
  counted_is number [] = omega arith
  counted_is number (one ∷ others) = by (tells test one) (counted_is number others) (counted_is (suc number) others)
    where
      by : (is : Bool) → counted_from number (map (tells test) others) ≡ number + length (filter (tells test) others) → counted_from (suc number) (map (tells test) others) ≡ suc number + length (filter (tells test) others) →
          counted_from number (is ∷ map (tells test) others) ≡ number + length (if is then one ∷ filter (tells test) others else filter (tells test) others)
      by true here more = omega (arith, more)
      by false here more = here

  absent : (all : List Placed) → test place ≡ false → number_of place (filter (tells test) all) ≡ length (filter (tells test) all)
  absent [] isnt = refl
  absent (one ∷ others) isnt = by (tells test one) refl (same_place place one.place) refl (absent others isnt)
    where
      by : (is : Bool) → tells test one ≡ is → (same : Bool) → same_place place one.place ≡ same → number_of place (filter (tells test) others) ≡ length (filter (tells test) others) →
          number_of place (if is then one ∷ filter (tells test) others else filter (tells test) others) ≡ length (if is then one ∷ filter (tells test) others else filter (tells test) others)
      by false is same same_is more = more
      by true is false same_is more = ap (λ (same : Bool). if same then 0 else suc (number_of place (filter (tells test) others))) same_is ∙ ap suc more
      by true is true same_is more = let there : test one.place ≡ test place = ap test (sym (same_place_is place one.place same_is)) in cc

  abbrev Kept : List Placed → ℕ → Type 0
  Kept list from = unwrap_or (found_at (numbers_from from (map (tells test) list)) (number_of place list)) (counted_from from (map (tells test) list)) ≡ from + number_of place (filter (tells test) list)

  pub number_kept : (number : ℕ) (all : List Placed) →
      unwrap_or (found_at (numbers_from number (map (tells test) all)) (number_of place all)) (counted_from number (map (tells test) all)) ≡ number + number_of place (filter (tells test) all)
  number_kept number [] = omega arith
  number_kept number (one ∷ others) = by (tells test one) refl (same_place place one.place) refl (number_kept number others) (number_kept (suc number) others)
    where
      by : (is : Bool) → tells test one ≡ is → (same : Bool) → same_place place one.place ≡ same → Kept others number → Kept others (suc number) →
          unwrap_or (found_at (numbers_from number (is ∷ map (tells test) others)) (if same then 0 else suc (number_of place others))) (counted_from number (is ∷ map (tells test) others))
          ≡ number + number_of place (if is then one ∷ filter (tells test) others else filter (tells test) others)
      by true is true same_is here more = let none : number_of place (one ∷ filter (tells test) others) ≡ 0 = ap (λ (same : Bool). if same then 0 else suc (number_of place (filter (tells test) others))) same_is in omega (arith, none)
      by true is false same_is here more =
          let one_more : number_of place (one ∷ filter (tells test) others) ≡ suc (number_of place (filter (tells test) others)) = ap (λ (same : Bool). if same then 0 else suc (number_of place (filter (tells test) others))) same_is in
          omega (arith, one_more, more)
      by false is true same_is here more =
          counted_is number others ∙ sym (ap (λ (n : ℕ). number + n) (absent others (ap test (same_place_is place one.place same_is) ∙ is)))
      by false is false same_is here more = here

  abbrev Found : List Placed → ℕ → Type 0
  Found list from = is_some (found_at (numbers_from from (map (tells test) list)) (number_of place list)) ≡ (is_some (point_at place list) && test place)

  pub reached_found : (number : ℕ) (all : List Placed) → is_some (found_at (numbers_from number (map (tells test) all)) (number_of place all)) ≡ (is_some (point_at place all) && test place)
  reached_found number [] = refl
  reached_found number (one ∷ others) = by (tells test one) refl (same_place place one.place) refl (reached_found number others) (reached_found (suc number) others)
    where
      by : (is : Bool) → tells test one ≡ is → (same : Bool) → same_place place one.place ≡ same → Found others number → Found others (suc number) →
          is_some (found_at (numbers_from number (is ∷ map (tells test) others)) (if same then 0 else suc (number_of place others))) ≡ (is_some (if same then Some one.point else point_at place others) && test place)
      by true is true same_is here more = sym (ap test (same_place_is place one.place same_is) ∙ is)
      by false is true same_is here more = sym (ap test (same_place_is place one.place same_is) ∙ is)
      by true is false same_is here more = more
      by false is false same_is here more = here

-- ---- one place more

abbrev pub among : List FlowPlace → FlowPlace → Bool
among seen place = is_among place seen

module _ (place : FlowPlace) (seen : List FlowPlace) where
  unmarked : (list : List Placed) → DiffersFrom place list → map (tells (among (place ∷ seen))) list ≡ map (tells (among seen)) list
  unmarked [] apart = refl
  unmarked (one ∷ others) apart =
      ap (λ (same : Bool). (same || is_among one.place seen) ∷ map (tells (among (place ∷ seen))) others) (apart_back place one.place apart.0)
      ∙ ap (λ (rest : List Bool). is_among one.place seen ∷ rest) (unmarked others apart.1)

  pub not_there : (list : List Placed) → point_at place list ≡ None → map (tells (among (place ∷ seen))) list ≡ map (tells (among seen)) list
  not_there list none = unmarked list (differs list none)
    where
      differs : (list : List Placed) → point_at place list ≡ None → DiffersFrom place list
      differs [] none = tt
      differs (one ∷ others) none = by (same_place place one.place) refl none (λ there. differs others there)
        where
          by : (same : Bool) → same_place place one.place ≡ same → (if same then Some one.point else point_at place others) ≡ None → (point_at place others ≡ None → DiffersFrom place others) → DiffersFrom place (one ∷ others)
          by true is none more = absurd cc
          by false is none more = (is, more none)

  pub marked_there : (all : List Placed) (point : Point) → AllDiffer all → point_at place all ≡ Some point → slice_set (map (tells (among seen)) all) (number_of place all) true ≡ map (tells (among (place ∷ seen))) all
  marked_there [] point differ found = absurd cc
  marked_there (one ∷ others) point differ found = by (same_place place one.place) refl found (λ there. marked_there others point differ.1 there)
    where
      by : (same : Bool) → same_place place one.place ≡ same → (if same then Some one.point else point_at place others) ≡ Some point →
          (point_at place others ≡ Some point → slice_set (map (tells (among seen)) others) (number_of place others) true ≡ map (tells (among (place ∷ seen))) others) →
          slice_set (is_among one.place seen ∷ map (tells (among seen)) others) (if same then 0 else suc (number_of place others)) true ≡ (same_place one.place place || is_among one.place seen) ∷ map (tells (among (place ∷ seen))) others
      by true is found more =
          let here : one.place ≡ place = sym (same_place_is place one.place is) in
          sym (ap (λ (same : Bool). (same || is_among one.place seen) ∷ map (tells (among (place ∷ seen))) others) (ap (same_place one.place) (sym here) ∙ same_place_itself one.place)
          ∙ ap (λ (rest : List Bool). true ∷ rest) (unmarked others (ap_differs here differ.0)))
        where
          ap_differs : one.place ≡ place → DiffersFrom one.place others → DiffersFrom place others
          ap_differs here apart = subst (λ (it : FlowPlace). DiffersFrom it others) here apart
      by false is found more =
          ap (λ (rest : List Bool). is_among one.place seen ∷ rest) (more found)
          ∙ sym (ap (λ (same : Bool). (same || is_among one.place seen) ∷ map (tells (among (place ∷ seen))) others) (apart_back place one.place is))
