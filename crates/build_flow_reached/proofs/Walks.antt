-- What the walk by numbers of places sees is what is reached.
use Rattle.std.proofs.Common.{◌≡◌, ◌∙◌, ℕ, zero, suc, ◌+◌, ◌≤◌, Bool, true, false, if◌then◌else◌, List, [], ◌∷◌, ◌++◌, length, map, flat_map, Option, Some, None, option_map, slice_get, slice_set, replicate, refl, sym, ap, arith}
use Rattle.std.proofs.lemmas.List.{length-append, length-map, map-append}
use Rattle.build_flow_nodes.specs.Builder.{statement_at}
use Rattle.build_flow_nodes.specs.Flows.{branch_places, places_from, is_among, reached_from, reached_in, number_of}
use Rattle.build_flow_nodes.specs.Points.{FlowPlace, Point, Placed, point_at}
use Rattle.build_flow_reached.specs.Codes.{AllDiffer}
use Rattle.build_flow_reached.specs.Walks.{is_new, seen_from, unseen_from, left_of, all_seen}
use Rattle.build_flow_reached.proofs.Numbered.{among, arms_at, marked_there, not_there, tells, told_there}
use Rattle.build_flow_reached.proofs.Walked.{enough}

module _ (all : List Placed) (differ : AllDiffer all) (arms : ℕ → List ℕ) where
  abbrev number : FlowPlace → ℕ
  number place = number_of place all

  abbrev marks_of : List FlowPlace → List Bool
  marks_of seen = map (tells (among seen)) all

  module _ (arms_there : (place : FlowPlace) → arms (number_of place all) ≡ map number (places_from (point_at place all))) where
    -- a place that is seen, or that isn't there, isn't new
    abbrev Step : (left : ℕ) (place : FlowPlace) (ahead seen : List FlowPlace) → Bool → Bool → Type 0
    Step left place ahead seen new was =
        (if new then seen_from arms left (arms (number place) ++ map number ahead) (slice_set (marks_of seen) (number place) true) else seen_from arms left (map number ahead) (marks_of seen))
        ≡ marks_of (if was then reached_from all left ahead seen else reached_from all left (places_from (point_at place all) ++ ahead) (place ∷ seen))

    walk_step : (left : ℕ) (place : FlowPlace) (ahead seen : List FlowPlace) (found : Option Point) → point_at place all ≡ found → (was : Bool) →
        seen_from arms left (map number ahead) (marks_of seen) ≡ marks_of (reached_from all left ahead seen) →
        ((more : List FlowPlace) → seen_from arms left (map number more) (marks_of (place ∷ seen)) ≡ marks_of (reached_from all left more (place ∷ seen))) →
        Step left place ahead seen (is_new (option_map (λ (point : Point). was) found)) was
    walk_step left place ahead seen None is true before after = before
    walk_step left place ahead seen (Some point) is true before after = before
    walk_step left place ahead seen None is false before after =
        ap (seen_from arms left (map number ahead)) (sym (not_there place seen all is))
        ∙ after ahead
        ∙ ap (λ (from : Option Point). marks_of (reached_from all left (places_from from ++ ahead) (place ∷ seen))) (sym is)
    walk_step left place ahead seen (Some point) is false before after =
        ap (λ (list : List ℕ). seen_from arms left (list ++ map number ahead) (slice_set (marks_of seen) (number place) true)) (arms_there place)
        ∙ ap (λ (list : List ℕ). seen_from arms left list (slice_set (marks_of seen) (number place) true)) (sym (map-append number (places_from (point_at place all)) ahead))
        ∙ ap (seen_from arms left (map number (places_from (point_at place all) ++ ahead))) (marked_there place seen all point differ is)
        ∙ after (places_from (point_at place all) ++ ahead)

    walks : (left : ℕ) (ahead seen : List FlowPlace) → seen_from arms left (map number ahead) (marks_of seen) ≡ marks_of (reached_from all left ahead seen)
    walks zero ahead seen = refl
    walks (suc left) [] seen = refl
    walks (suc left) (place ∷ ahead) seen =
        ap (λ (was : Option Bool). if is_new was then seen_from arms left (arms (number place) ++ map number ahead) (slice_set (marks_of seen) (number place) true)
        else seen_from arms left (map number ahead) (marks_of seen)) (told_there (among seen) place all)
        ∙ walk_step left place ahead seen (point_at place all) refl (is_among place seen) (walks left ahead seen) (λ more. walks left more (place ∷ seen))

  -- ---- how much is looked at

  none_marked : (list : List Placed) → replicate (length list) false ≡ map (tells (among [])) list
  none_marked [] = refl
  none_marked (one ∷ others) = ap (λ (rest : List Bool). false ∷ rest) (none_marked others)

  unseen_is : (f : FlowPlace → ℕ) (from : ℕ) (list : List Placed) → ((k : ℕ) → arms (from + k) ≡ arms_at f (slice_get list k)) →
      unseen_from arms from (map (tells (among [])) list) ≡ length (flat_map (λ (one : Placed). branch_places one.point.last) list)
  unseen_is f from [] are = refl
  unseen_is f from (one ∷ others) are =
      let here : length (arms from) ≡ length (branch_places one.point.last) = ap length (ap arms (none_more from) ∙ are 0) ∙ length-map (branch_places one.point.last) f in
      let more = unseen_is f (suc from) others (λ k. ap arms (one_more from k) ∙ are (suc k)) in
      omega (arith, here, more, length-append (branch_places one.point.last) (flat_map (λ (it : Placed). branch_places it.point.last) others))
    where
      none_more : (n : ℕ) → n ≡ n + 0
      none_more n = omega arith

      one_more : (n k : ℕ) → suc n + k ≡ n + suc k
      one_more n k = omega arith

  abbrev most : ℕ
  most = suc (suc (length (flat_map (λ (one : Placed). branch_places one.point.last) all)))

  -- all that is reached from the body on
  pub all_reached : (arms_there : (place : FlowPlace) → arms (number_of place all) ≡ map number (places_from (point_at place all))) → ((k : ℕ) → arms k ≡ arms_at number (slice_get all k)) →
      all_seen arms (number (statement_at []) ∷ []) (replicate (length all) false) ≡ map (tells (among (reached_in all))) all
  all_reached there are =
      ap (all_seen arms (number (statement_at []) ∷ [])) (none_marked all)
      ∙ sym (enough arms most (number (statement_at []) ∷ []) (marks_of []) fits)
      ∙ walks there most (statement_at [] ∷ []) []
    where
      none_before : (k : ℕ) → 0 + k ≡ k
      none_before k = omega arith

      fits : left_of arms (number (statement_at []) ∷ []) (marks_of []) ≤ most
      fits = let unseen = unseen_is number 0 all (λ k. ap arms (none_before k) ∙ are k) in omega (arith, unseen)
