-- What is reached: all of it leads to what is reached.
use Rattle.std.proofs.Common.{◌≡◌, ◌∙◌, ◌⊎◌, inl, inr, ℕ, zero, suc, ◌+◌, ◌<◌, ◌≤◌, Bool, true, false, ◌||◌, List, [], ◌∷◌, ◌++◌, length, map, flat_map, filter, Option, Some, None, if◌then◌else◌, refl, sym, ap, subst, arith}
use Rattle.std.proofs.lemmas.List.{length-append}
use Rattle.build_flow_nodes.specs.Builder.{statement_at}
use Rattle.build_flow_nodes.specs.Flows.{branch_places, places_from, is_among, reached_from, reached_in, reached_points, reached_part, number_of}
use Rattle.build_flow_nodes.specs.Points.{FlowPlace, Point, Placed, same_place, point_at}
use Rattle.reloop.proofs.Sets.{either, or_left, or_right}
use Rattle.build_flow_numbers.proofs.Places.{same_place_is, same_place_itself, apart_back, tells}

pub among_left : (place : FlowPlace) (first others : List FlowPlace) → is_among place first ≡ true → is_among place (first ++ others) ≡ true
among_left place [] others is = absurd cc
among_left place (one ∷ first) others is = by (either (same_place place one) (is_among place first) is) (λ there. among_left place first others there)
  where
    by : (same_place place one ≡ true) ⊎ (is_among place first ≡ true) → (is_among place first ≡ true → is_among place (first ++ others) ≡ true) → (same_place place one || is_among place (first ++ others)) ≡ true
    by (inl here) more = or_left (same_place place one) (is_among place (first ++ others)) here
    by (inr there) more = or_right (same_place place one) (is_among place (first ++ others)) (more there)

pub among_right : (place : FlowPlace) (first others : List FlowPlace) → is_among place others ≡ true → is_among place (first ++ others) ≡ true
among_right place [] others is = is
among_right place (one ∷ first) others is = or_right (same_place place one) (is_among place (first ++ others)) (among_right place first others is)

pub among_either : (place : FlowPlace) (first others : List FlowPlace) → is_among place (first ++ others) ≡ true → (is_among place first ≡ true) ⊎ (is_among place others ≡ true)
among_either place [] others is = inr is
among_either place (one ∷ first) others is = by (either (same_place place one) (is_among place (first ++ others)) is) (λ there. among_either place first others there)
  where
    behind : (is_among place first ≡ true) ⊎ (is_among place others ≡ true) → (is_among place (one ∷ first) ≡ true) ⊎ (is_among place others ≡ true)
    behind (inl it) = inl (or_right (same_place place one) (is_among place first) it)
    behind (inr it) = inr it

    by : (same_place place one ≡ true) ⊎ (is_among place (first ++ others) ≡ true) →
        (is_among place (first ++ others) ≡ true → (is_among place first ≡ true) ⊎ (is_among place others ≡ true)) →
        (is_among place (one ∷ first) ≡ true) ⊎ (is_among place others ≡ true)
    by (inl here) more = inl (or_left (same_place place one) (is_among place first) here)
    by (inr there) more = behind (more there)

-- ---- how much is left to look at

abbrev arms_of : Placed → ℕ
arms_of one = length (branch_places one.point.last)

unseen : List Placed → List FlowPlace → ℕ
unseen [] seen = 0
unseen (one ∷ others) seen = (if is_among one.place seen then 0 else arms_of one) + unseen others seen

none_seen : (all : List Placed) → unseen all [] ≡ length (flat_map (λ (one : Placed). branch_places one.point.last) all)
unfolding unseen
none_seen [] = refl
none_seen (one ∷ others) =
    ap (λ (n : ℕ). arms_of one + n) (none_seen others) ∙ sym (length-append (branch_places one.point.last) (flat_map (λ (it : Placed). branch_places it.point.last) others))

fewer_unseen : (all : List Placed) (place : FlowPlace) (seen : List FlowPlace) → unseen all (place ∷ seen) ≤ unseen all seen
unfolding unseen
fewer_unseen [] place seen = omega arith
fewer_unseen (one ∷ others) place seen = by (same_place one.place place) (is_among one.place seen) (fewer_unseen others place seen)
  where
    by : (here there : Bool) → unseen others (place ∷ seen) ≤ unseen others seen →
        (if here || there then 0 else arms_of one) + unseen others (place ∷ seen) ≤ (if there then 0 else arms_of one) + unseen others seen
    by true true less = omega (arith, less)
    by true false less = omega (arith, less)
    by false true less = omega (arith, less)
    by false false less = omega (arith, less)

-- a place that is seen now leads to no more than was unseen
now_seen : (all : List Placed) (place : FlowPlace) (seen : List FlowPlace) → is_among place seen ≡ false →
    unseen all (place ∷ seen) + length (places_from (point_at place all)) ≤ unseen all seen
unfolding unseen
now_seen [] place seen new = omega arith
now_seen (one ∷ others) place seen new = by (same_place place one.place) refl (now_seen others place seen new)
  where
    first_seen : (here there : Bool) → here ≡ true → there ≡ false → unseen others (place ∷ seen) ≤ unseen others seen →
        ((if here || there then 0 else arms_of one) + unseen others (place ∷ seen)) + arms_of one ≤ (if there then 0 else arms_of one) + unseen others seen
    first_seen true false is isnt less = omega (arith, less)
    first_seen true true is isnt less = absurd cc
    first_seen false there is isnt less = absurd cc

    later_seen : (here there : Bool) → here ≡ false → unseen others (place ∷ seen) + length (places_from (point_at place others)) ≤ unseen others seen →
        ((if here || there then 0 else arms_of one) + unseen others (place ∷ seen)) + length (places_from (point_at place others)) ≤ (if there then 0 else arms_of one) + unseen others seen
    later_seen false true is less = omega (arith, less)
    later_seen false false is less = omega (arith, less)
    later_seen true there is less = absurd cc

    by : (same : Bool) → same_place place one.place ≡ same → unseen others (place ∷ seen) + length (places_from (point_at place others)) ≤ unseen others seen →
        ((if same_place one.place place || is_among one.place seen then 0 else arms_of one) + unseen others (place ∷ seen)) + length (places_from (if same then Some one.point else point_at place others))
        ≤ (if is_among one.place seen then 0 else arms_of one) + unseen others seen
    by true is more =
        let there : place ≡ one.place = same_place_is place one.place is in
        first_seen (same_place one.place place) (is_among one.place seen) (ap (λ (x : FlowPlace). same_place x place) (sym there) ∙ same_place_itself place)
        (ap (λ (x : FlowPlace). is_among x seen) (sym there) ∙ new) (fewer_unseen others place seen)
    by false is more = later_seen (same_place one.place place) (is_among one.place seen) (apart_back place one.place is) more

-- ---- what is reached

module _ (all : List Placed) where
  -- what these lead to is among those
  abbrev pub LeadTo : List FlowPlace → List FlowPlace → Type 0
  LeadTo seen others = (place to : FlowPlace) → is_among place seen ≡ true → is_among to (places_from (point_at place all)) ≡ true → is_among to others ≡ true

  pub record Reaches (ahead seen found : List FlowPlace) : Type 0 where
    pub ahead_are : (place : FlowPlace) → is_among place ahead ≡ true → is_among place found ≡ true
    pub seen_are : (place : FlowPlace) → is_among place seen ≡ true → is_among place found ≡ true
    pub leads : LeadTo found found

  nothing_ahead : (seen : List FlowPlace) → LeadTo seen ([] ++ seen) → Reaches [] seen seen
  nothing_ahead seen leads = record { ahead_are = λ place is. absurd cc; seen_are = λ place is. is; leads = leads }

  module _ (place : FlowPlace) (ahead seen : List FlowPlace) (leads : LeadTo seen (place ∷ (ahead ++ seen))) where
    -- it was seen before
    known : (found : List FlowPlace) → is_among place seen ≡ true → Reaches ahead seen found → Reaches (place ∷ ahead) seen found
    known found is more = record {
      ahead_are = λ one there. first_or one (either (same_place one place) (is_among one ahead) there);
      seen_are = more.seen_are;
      leads = more.leads;
    }
      where
        first_or : (one : FlowPlace) → (same_place one place ≡ true) ⊎ (is_among one ahead ≡ true) → is_among one found ≡ true
        first_or one (inl same) = more.seen_are one (subst (λ (x : FlowPlace). is_among x seen ≡ true) (sym (same_place_is one place same)) is)
        first_or one (inr there) = more.ahead_are one there

    leads_known : is_among place seen ≡ true → LeadTo seen (ahead ++ seen)
    leads_known is one to there from = first_or (either (same_place to place) (is_among to (ahead ++ seen)) (leads one to there from))
      where
        first_or : (same_place to place ≡ true) ⊎ (is_among to (ahead ++ seen) ≡ true) → is_among to (ahead ++ seen) ≡ true
        first_or (inl same) = among_right to ahead seen (subst (λ (x : FlowPlace). is_among x seen ≡ true) (sym (same_place_is to place same)) is)
        first_or (inr it) = it

    -- it is new
    abbrev beyond : List FlowPlace
    beyond = places_from (point_at place all)

    new : (found : List FlowPlace) → Reaches (beyond ++ ahead) (place ∷ seen) found → Reaches (place ∷ ahead) seen found
    new found more = record {
      ahead_are = λ one there. first_or one (either (same_place one place) (is_among one ahead) there);
      seen_are = λ one there. more.seen_are one (or_right (same_place one place) (is_among one seen) there);
      leads = more.leads;
    }
      where
        first_or : (one : FlowPlace) → (same_place one place ≡ true) ⊎ (is_among one ahead ≡ true) → is_among one found ≡ true
        first_or one (inl same) = more.seen_are one (or_left (same_place one place) (is_among one seen) same)
        first_or one (inr there) = more.ahead_are one (among_right one beyond ahead there)

    leads_new : LeadTo (place ∷ seen) ((beyond ++ ahead) ++ (place ∷ seen))
    leads_new one to there from = by_one (either (same_place one place) (is_among one seen) there)
      where
        by_rest : (is_among to ahead ≡ true) ⊎ (is_among to seen ≡ true) → is_among to ((beyond ++ ahead) ++ (place ∷ seen)) ≡ true
        by_rest (inl here) = among_left to (beyond ++ ahead) (place ∷ seen) (among_right to beyond ahead here)
        by_rest (inr here) = among_right to (beyond ++ ahead) (place ∷ seen) (or_right (same_place to place) (is_among to seen) here)

        by_to : (same_place to place ≡ true) ⊎ (is_among to (ahead ++ seen) ≡ true) → is_among to ((beyond ++ ahead) ++ (place ∷ seen)) ≡ true
        by_to (inl same) = among_right to (beyond ++ ahead) (place ∷ seen) (or_left (same_place to place) (is_among to seen) same)
        by_to (inr it) = by_rest (among_either to ahead seen it)

        by_one : (same_place one place ≡ true) ⊎ (is_among one seen ≡ true) → is_among to ((beyond ++ ahead) ++ (place ∷ seen)) ≡ true
        by_one (inl same) =
            among_left to (beyond ++ ahead) (place ∷ seen)
            (among_left to beyond ahead (subst (λ (x : FlowPlace). is_among to (places_from (point_at x all)) ≡ true) (same_place_is one place same) from))
        by_one (inr it) = by_to (either (same_place to place) (is_among to (ahead ++ seen)) (leads one to it from))

    by_seen : (left : ℕ) (is : Bool) → is_among place seen ≡ is → (is_among place seen ≡ true → Reaches ahead seen (reached_from all left ahead seen)) →
        (is_among place seen ≡ false → Reaches (beyond ++ ahead) (place ∷ seen) (reached_from all left (beyond ++ ahead) (place ∷ seen))) →
        Reaches (place ∷ ahead) seen (if is then reached_from all left ahead seen else reached_from all left (beyond ++ ahead) (place ∷ seen))
    by_seen left true is before after = known (reached_from all left ahead seen) is (before is)
    by_seen left false is before after = new (reached_from all left (beyond ++ ahead) (place ∷ seen)) (after is)

  reaches : (left : ℕ) (ahead seen : List FlowPlace) → length ahead + unseen all seen ≤ left → LeadTo seen (ahead ++ seen) → Reaches ahead seen (reached_from all left ahead seen)
  reaches zero [] seen enough leads = nothing_ahead seen leads
  reaches zero (place ∷ ahead) seen enough leads = absurd (omega (arith, enough))
  reaches (suc left) [] seen enough leads = nothing_ahead seen leads
  reaches (suc left) (place ∷ ahead) seen enough leads =
      by_seen place ahead seen leads left (is_among place seen) refl
      (λ is. reaches left ahead seen (omega (arith, enough)) (leads_known place ahead seen leads is))
      (λ is. reaches left (places_from (point_at place all) ++ ahead) (place ∷ seen)
      (let less = now_seen all place seen is in omega (arith, enough, less, length-append (places_from (point_at place all)) ahead)) (leads_new place ahead seen leads))

  -- from the body on
  pub all_reached : Reaches (statement_at [] ∷ []) [] (reached_in all)
  all_reached =
      reaches (suc (suc (length (flat_map (λ (one : Placed). branch_places one.point.last) all)))) (statement_at [] ∷ []) []
      (let count = none_seen all in omega (arith, count)) (λ place to is from. absurd cc)

  -- ---- the points that are reached

  pub found_in : (seen : List FlowPlace) (list : List Placed) (place : FlowPlace) → is_among place seen ≡ true → point_at place (reached_points seen list) ≡ point_at place list
  found_in seen [] place is = refl
  found_in seen (one ∷ others) place is = by (same_place place one.place) refl (is_among one.place seen) refl (found_in seen others place is)
    where
      by : (same : Bool) → same_place place one.place ≡ same → (here : Bool) → is_among one.place seen ≡ here → point_at place (reached_points seen others) ≡ point_at place others →
          point_at place (if here then one ∷ reached_points seen others else reached_points seen others) ≡ (if same then Some one.point else point_at place others)
      by same same_is true here_is more = ap (λ (it : Bool). if it then Some one.point else point_at place (reached_points seen others)) same_is ∙ ap (λ (it : Option Point). if same then Some one.point else it) more
      by false same_is false here_is more = more
      by true same_is false here_is more = let no : is_among one.place seen ≡ true = subst (λ (x : FlowPlace). is_among x seen ≡ true) (same_place_is place one.place same_is) is in cc
