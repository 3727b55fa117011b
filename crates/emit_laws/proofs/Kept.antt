-- What sorting keeps: every nest of a list is in it, or inside of one of its nests, and no other.
use Rattle.std.proofs.Common.{◌≡◌, ℕ, zero, suc, ◌+◌, ◌<◌, ◌==◌, Bool, true, false, ◌&&◌, not, List, [], ◌∷◌, ◌++◌, length, map, Option, Some, None, slice_get, if◌then◌else◌, arith, refl, sym, subst}
use Rattle.std.specs.Prelude.{⊤}
use Rattle.std.specs.List.{filter}
use Rattle.flow.specs.Flows.{FlowTree}
use Rattle.emit_rules.specs.Nests.{Nest, nest_entries}
use Rattle.emit_rules.specs.Places.{Seen}
use Rattle.emit_rules.specs.Sorting.{Inner, Sibling, Sorted, nothing_sorted, only_entry, seen_at, stays, sibling_holds, goes_inside, with_inner, put_inside, first_from, put_behind, put_seen, put, all_entries, put_all, nest_of, at_arm}
use Rattle.emit_laws.proofs.Closing.{and_right}

-- ---- what holds of each

module _ (Holds : Nest → Type 0) where
  abbrev pub AllNests : List Nest → Type 0
  AllNests [] = ⊤
  AllNests (nest ∷ others) = Holds nest × AllNests others

  abbrev pub AllInners : List Inner → Type 0
  AllInners [] = ⊤
  AllInners (inner ∷ others) = Holds inner.nest × AllInners others

  inners_behind : (inside : List Inner) (new : Inner) → AllInners inside → Holds new.nest → AllInners (inside ++ new ∷ [])
  inners_behind [] new all one = (one, tt)
  inners_behind (inner ∷ others) new all one = (all.0, inners_behind others new all.1 one)

  -- of what is at an arm
  pub all_at_arm : (arm : ℕ) (inside : List Inner) → AllInners inside → AllNests (at_arm arm inside)
  all_at_arm arm [] all = tt
  all_at_arm arm (inner ∷ others) all = by_test (inner.arm == arm) (all_at_arm arm others all.1)
    where
      by_test : (here : Bool) → AllNests (at_arm arm others) → AllNests (map nest_of (if here then inner ∷ filter (λ inner. inner.arm == arm) others else filter (λ inner. inner.arm == arm) others))
      by_test true rest = (all.0, rest)
      by_test false rest = rest

-- the nests of a list, and those inside of them
module _ (Stays Goes : Nest → Type 0) where
  abbrev pub AllSiblings : List Sibling → Type 0
  AllSiblings [] = ⊤
  AllSiblings (sibling ∷ others) = Stays sibling.nest × AllInners Goes sibling.inside × AllSiblings others

  siblings_behind : (siblings : List Sibling) (new : Sibling) → AllSiblings siblings → Stays new.nest → AllInners Goes new.inside → AllSiblings (siblings ++ new ∷ [])
  siblings_behind [] new all stay go = (stay, go, tt)
  siblings_behind (sibling ∷ others) new all stay go = (all.0, all.1, siblings_behind others new all.2 stay go)

  siblings_with : (number : ℕ) (inner : Inner) (siblings : List Sibling) → AllSiblings siblings → Goes inner.nest → AllSiblings (with_inner number inner siblings)
  siblings_with zero inner [] all go = tt
  siblings_with (suc number) inner [] all go = tt
  siblings_with zero inner (sibling ∷ others) all go = (all.0, inners_behind Goes sibling.inside inner all.1 go, all.2)
  siblings_with (suc number) inner (sibling ∷ others) all go = (all.0, all.1, siblings_with number inner others all.2 go)

  module _ (flow : FlowTree) (may : Bool) where
    put_keeps : (left : List ℕ) (sorted : Sorted) (nest : Nest) → Stays nest → Goes nest → AllSiblings sorted.siblings → AllSiblings (put flow may left sorted nest).siblings
    put_keeps left sorted nest stay go all = by_entry (seen_at sorted.table (only_entry (nest_entries nest)))
      where
        by_goes : (seen : Seen) (goes : Bool) → AllSiblings (if goes then put_inside flow left sorted nest seen else put_behind flow left sorted nest).siblings
        by_goes seen true = siblings_with seen.sibling (record { node = seen.node; arm = seen.arm; nest = nest }) sorted.siblings all go
        by_goes seen false = siblings_behind sorted.siblings _ all stay tt

        by_entry : (found : Option Seen) → AllSiblings (put_seen flow may left sorted nest found).siblings
        by_entry None = siblings_behind sorted.siblings _ all stay tt
        by_entry (Some seen) = by_goes seen (may && goes_inside flow sorted nest seen)

    all_keep : (after : List ℕ) (sorted : Sorted) (nests : List Nest) → AllNests Stays nests → AllNests Goes nests → AllSiblings sorted.siblings → AllSiblings (put_all flow may after sorted nests)
    all_keep after sorted [] stay go all = all
    all_keep after sorted (nest ∷ others) stay go all =
        all_keep after (put flow may (all_entries others ++ after) sorted nest) others stay.1 go.1 (put_keeps (all_entries others ++ after) sorted nest stay.0 go.0 all)

    first_stays : (left : List ℕ) (nest : Nest) → Stays nest → AllSiblings (put flow may left nothing_sorted nest).siblings
    first_stays left nest stay = by_entry (only_entry (nest_entries nest))
      where
        by_entry : (found : Option ℕ) → AllSiblings (put_seen flow may left nothing_sorted nest (seen_at nothing_sorted.table found)).siblings
        by_entry None = (stay, tt, tt)
        by_entry (Some entry) = (stay, tt, tt)

    -- the first nest of a list stays in it
    pub list_keeps : (after : List ℕ) (first : Nest) (others : List Nest) → Stays first → AllNests Stays others → AllNests Goes others → AllSiblings (put_all flow may after nothing_sorted (first ∷ others))
    list_keeps after first others one stay go = all_keep after (put flow may (all_entries others ++ after) nothing_sorted first) others stay go (first_stays (all_entries others ++ after) first one)

-- ---- what is counted of each

module _ (weigh : Nest → ℕ) where
  abbrev pub nests_weigh : List Nest → ℕ
  nests_weigh [] = 0
  nests_weigh (nest ∷ others) = weigh nest + nests_weigh others

  abbrev pub inners_weigh : List Inner → ℕ
  inners_weigh [] = 0
  inners_weigh (inner ∷ others) = weigh inner.nest + inners_weigh others

  abbrev pub siblings_weigh : List Sibling → ℕ
  siblings_weigh [] = 0
  siblings_weigh (sibling ∷ others) = weigh sibling.nest + inners_weigh sibling.inside + siblings_weigh others

  inner_weighs : (inside : List Inner) (new : Inner) → inners_weigh (inside ++ new ∷ []) ≡ inners_weigh inside + weigh new.nest
  inner_weighs [] new = omega arith
  inner_weighs (inner ∷ others) new = let rest = inner_weighs others new in omega (arith, rest)

  new_weighs : (siblings : List Sibling) (new : Sibling) → siblings_weigh (siblings ++ new ∷ []) ≡ siblings_weigh siblings + (weigh new.nest + inners_weigh new.inside)
  new_weighs [] new = omega arith
  new_weighs (sibling ∷ others) new = let rest = new_weighs others new in omega (arith, rest)

  with_weighs : (number : ℕ) (inner : Inner) (siblings : List Sibling) → number < length siblings → siblings_weigh (with_inner number inner siblings) ≡ siblings_weigh siblings + weigh inner.nest
  with_weighs number inner [] less = absurd (omega (arith, less))
  with_weighs zero inner (sibling ∷ others) less = let one = inner_weighs sibling.inside inner in omega (arith, one)
  with_weighs (suc number) inner (sibling ∷ others) less = let rest = with_weighs number inner others (omega (arith, less)) in omega (arith, rest)

  got_less : (siblings : List Sibling) (number : ℕ) (found : Option Sibling) → slice_get siblings number ≡ found → (flow : FlowTree) (nest : Nest) (direct : Bool) → sibling_holds flow found nest direct ≡ true →
      number < length siblings
  got_less [] number found is flow nest direct holds =
      let none : sibling_holds flow None nest direct ≡ true = subst (λ (one : Option Sibling). sibling_holds flow one nest direct ≡ true) (sym is) holds in absurd cc
  got_less (sibling ∷ others) zero found is flow nest direct holds = omega arith
  got_less (sibling ∷ others) (suc number) found is flow nest direct holds = let rest = got_less others number found is flow nest direct holds in omega (arith, rest)

  module _ (flow : FlowTree) (may : Bool) where
    put_weighs : (left : List ℕ) (sorted : Sorted) (nest : Nest) → siblings_weigh (put flow may left sorted nest).siblings ≡ siblings_weigh sorted.siblings + weigh nest
    put_weighs left sorted nest = by_entry (seen_at sorted.table (only_entry (nest_entries nest)))
      where
        by_goes : (seen : Seen) (goes : Bool) → (may && goes_inside flow sorted nest seen) ≡ goes →
            siblings_weigh (if goes then put_inside flow left sorted nest seen else put_behind flow left sorted nest).siblings ≡ siblings_weigh sorted.siblings + weigh nest
        by_goes seen true is =
            with_weighs seen.sibling (record { node = seen.node; arm = seen.arm; nest = nest }) sorted.siblings
            (got_less sorted.siblings seen.sibling (slice_get sorted.siblings seen.sibling) refl flow nest seen.is_direct
            (and_right (seen.is_one && not (stays sorted seen)) (sibling_holds flow (slice_get sorted.siblings seen.sibling) nest seen.is_direct) (and_right may (goes_inside flow sorted nest seen) is)))
        by_goes seen false is = let one = new_weighs sorted.siblings (record { nest = nest; from = first_from sorted.table (length sorted.siblings) (nest_entries nest); inside = [] }) in omega (arith, one)

        by_entry : (found : Option Seen) → siblings_weigh (put_seen flow may left sorted nest found).siblings ≡ siblings_weigh sorted.siblings + weigh nest
        by_entry None = let one = new_weighs sorted.siblings (record { nest = nest; from = first_from sorted.table (length sorted.siblings) (nest_entries nest); inside = [] }) in omega (arith, one)
        by_entry (Some seen) = by_goes seen (may && goes_inside flow sorted nest seen) refl

    pub all_weigh : (after : List ℕ) (sorted : Sorted) (nests : List Nest) → siblings_weigh (put_all flow may after sorted nests) ≡ siblings_weigh sorted.siblings + nests_weigh nests
    all_weigh after sorted [] = omega arith
    all_weigh after sorted (nest ∷ others) =
        let one = put_weighs (all_entries others ++ after) sorted nest in
        let rest = all_weigh after (put flow may (all_entries others ++ after) sorted nest) others in omega (arith, one, rest)

-- ---- the first nest

abbrev pub head_nest : List Sibling → Option Nest
head_nest [] = None
head_nest (sibling ∷ others) = Some sibling.nest

behind_head : (siblings : List Sibling) (new : Sibling) (nest : Nest) → head_nest siblings ≡ Some nest → head_nest (siblings ++ new ∷ []) ≡ Some nest
behind_head [] new nest is = absurd cc
behind_head (sibling ∷ others) new nest is = is

with_head : (number : ℕ) (inner : Inner) (siblings : List Sibling) (nest : Nest) → head_nest siblings ≡ Some nest → head_nest (with_inner number inner siblings) ≡ Some nest
with_head number inner [] nest is = absurd cc
with_head zero inner (sibling ∷ others) nest is = is
with_head (suc number) inner (sibling ∷ others) nest is = is

module _ (flow : FlowTree) (may : Bool) where
  put_head : (left : List ℕ) (sorted : Sorted) (nest first : Nest) → head_nest sorted.siblings ≡ Some first → head_nest (put flow may left sorted nest).siblings ≡ Some first
  put_head left sorted nest first is = by_entry (seen_at sorted.table (only_entry (nest_entries nest)))
    where
      by_goes : (seen : Seen) (goes : Bool) → head_nest (if goes then put_inside flow left sorted nest seen else put_behind flow left sorted nest).siblings ≡ Some first
      by_goes seen true = with_head seen.sibling (record { node = seen.node; arm = seen.arm; nest = nest }) sorted.siblings first is
      by_goes seen false = behind_head sorted.siblings _ first is

      by_entry : (found : Option Seen) → head_nest (put_seen flow may left sorted nest found).siblings ≡ Some first
      by_entry None = behind_head sorted.siblings _ first is
      by_entry (Some seen) = by_goes seen (may && goes_inside flow sorted nest seen)

  all_head : (after : List ℕ) (sorted : Sorted) (nests : List Nest) (first : Nest) → head_nest sorted.siblings ≡ Some first → head_nest (put_all flow may after sorted nests) ≡ Some first
  all_head after sorted [] first is = is
  all_head after sorted (nest ∷ others) first is =
      all_head after (put flow may (all_entries others ++ after) sorted nest) others first (put_head (all_entries others ++ after) sorted nest first is)

  -- the first nest of a list is the first that stays in it
  pub list_head : (after : List ℕ) (first : Nest) (others : List Nest) → head_nest (put_all flow may after nothing_sorted (first ∷ others)) ≡ Some first
  list_head after first others = all_head after (put flow may (all_entries others ++ after) nothing_sorted first) others first (by_entry (only_entry (nest_entries first)))
    where
      by_entry : (found : Option ℕ) → head_nest (put_seen flow may (all_entries others ++ after) nothing_sorted first (seen_at nothing_sorted.table found)).siblings ≡ Some first
      by_entry None = refl
      by_entry (Some entry) = refl
