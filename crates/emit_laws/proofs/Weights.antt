-- What is counted of nodes, choices and loops is the same of the nests of a shape as of the shape.
use Rattle.std.proofs.Common.{◌≡◌, ◌∙◌, inl, inr, ℕ, zero, suc, ◌+◌, ◌≤◌, ◌<◌, ◌==◌, nat_lt, Bool, true, false, List, [], ◌∷◌, ◌++◌, map, length, Option, Some, None, slice_get, if◌then◌else◌, arith, refl, ap, subst}
use Rattle.std.proofs.lemmas.Bool.{ltb-false, ltb-true}
use Rattle.std.specs.List.{filter}
use Rattle.reloop.proofs.Sets.{same_number, equal_itself, not_both}
use Rattle.flow.specs.Flows.{FlowTree, targets_of}
use Rattle.emit_rules.specs.Chains.{Ranked, Piece, gathered, joined, in_front, chained_from, chained}
use Rattle.emit_rules.specs.Nests.{Nest, single, choice, group, repeated, dispatched, Chain, no_nests, more_nests, Chains, no_chains, more_chains, chain, listed, nest_entries, nest_nodes, chain_nodes}
use Rattle.emit_rules.specs.Places.{Leaving, Seen, Table, leavings_from, is_inner, leavings, node_leavings}
use Rattle.emit_rules.specs.Sorting.{Inner, Sibling, Sort, Sorted, first_from, nothing_sorted, only_entry, seen_at, put_seen, put, all_entries, put_all, nest_of, at_arm, behind_nodes, arms_from, filled, entries_behind, all_filled, unfilled, arranged, level, all_level, sorted_within}
use Rattle.emit_laws.specs.Covers.{Nodes, nowhere, with_nodes, either_of, all_entries_in, CoversNest, CoversChain}
use Rattle.emit_laws.proofs.Arms.{IsPlain, ChainPlain, OwnPlain, IsLater, ListPlain, IsListed, SortsWell, arm_listed}
use Rattle.emit_laws.proofs.Behind.{times_in}
use Rattle.emit_laws.proofs.Filling.{behind_weighs, loop_listed, listed_put}
use Rattle.emit_laws.proofs.Kept.{AllNests, AllInners, AllSiblings, nests_weigh, inners_weigh, siblings_weigh, all_weigh}
use Rattle.emit_laws.proofs.Leveling.{sorts_well}
use Rattle.emit_laws.proofs.Placing.{inner_entries, around_of, seen_from, IsFine, AllFine}
use Rattle.emit_laws.proofs.Seeing.{IsAmong}
use Rattle.emit_laws.proofs.Ways.{is_arm}

-- ---- sums over arms

module _ (weigh : Nest → ℕ) where
  abbrev arms_weigh : (arm left : ℕ) → List Inner → ℕ
  arms_weigh arm zero inside = 0
  arms_weigh arm (suc left) inside = nests_weigh weigh (at_arm arm inside) + arms_weigh (suc arm) left inside

  -- how much one of an arm adds
  abbrev hit : (arm left at weight : ℕ) → ℕ
  hit arm zero at weight = 0
  hit arm (suc left) at weight = (if at == arm then weight else 0) + hit (suc arm) left at weight

  before_hit : (arm left at weight : ℕ) → at < arm → hit arm left at weight ≡ 0
  before_hit arm zero at weight less = refl
  before_hit arm (suc left) at weight less = by_test (at == arm) refl (before_hit (suc arm) left at weight (omega (arith, less)))
    where
      by_test : (test : Bool) → (at == arm) ≡ test → hit (suc arm) left at weight ≡ 0 → (if test then weight else 0) + hit (suc arm) left at weight ≡ 0
      by_test true is rest = absurd (let same = same_number at arm is in omega (arith, same, less))
      by_test false is rest = omega (arith, rest)

  one_hit : (arm left at weight : ℕ) → arm ≤ at → at < arm + left → hit arm left at weight ≡ weight
  one_hit arm zero at weight more less = absurd (omega (arith, more, less))
  one_hit arm (suc left) at weight more less = by_test (at == arm) refl (λ is. one_hit (suc arm) left at weight is (omega (arith, less)))
    where
      differ : (at == arm) ≡ false → at ≡ arm → ⊥
      differ is same = not_both (at == arm) (subst (λ (a : ℕ). (at == a) ≡ true) same (equal_itself at)) is

      later : (at == arm) ≡ false → suc arm ≤ at
      later is = by_order (nat_lt arm at) refl
        where
          by_order : (test : Bool) → nat_lt arm at ≡ test → suc arm ≤ at
          by_order true less = ltb-true arm at less
          by_order false less = absurd (differ is (let no = ltb-false arm at less in omega (arith, no, more)))

      by_test : (test : Bool) → (at == arm) ≡ test → (suc arm ≤ at → hit (suc arm) left at weight ≡ weight) → (if test then weight else 0) + hit (suc arm) left at weight ≡ weight
      by_test true is rest = let none = before_hit (suc arm) left at weight (let same = same_number at arm is in omega (arith, same)) in omega (arith, none)
      by_test false is rest = let all = rest (later is) in omega (arith, all)

  one_more : (arm left : ℕ) (inner : Inner) (others : List Inner) → arms_weigh arm left (inner ∷ others) ≡ arms_weigh arm left others + hit arm left inner.arm (weigh inner.nest)
  one_more arm zero inner others = refl
  one_more arm (suc left) inner others = by_test (inner.arm == arm) (one_more (suc arm) left inner others)
    where
      by_test : (test : Bool) → arms_weigh (suc arm) left (inner ∷ others) ≡ arms_weigh (suc arm) left others + hit (suc arm) left inner.arm (weigh inner.nest) →
          nests_weigh weigh (map nest_of (if test then inner ∷ filter (λ inner. inner.arm == arm) others else filter (λ inner. inner.arm == arm) others)) + arms_weigh (suc arm) left (inner ∷ others)
          ≡ nests_weigh weigh (at_arm arm others) + arms_weigh (suc arm) left others + ((if test then weigh inner.nest else 0) + hit (suc arm) left inner.arm (weigh inner.nest))
      by_test true rest = omega (arith, rest)
      by_test false rest = omega (arith, rest)

  none_weigh : (arm left : ℕ) → arms_weigh arm left [] ≡ 0
  none_weigh arm zero = refl
  none_weigh arm (suc left) = let rest = none_weigh (suc arm) left in omega (arith, rest)

  -- all of the arms together
  all_arms_weigh : (count : ℕ) (inside : List Inner) → ((one : Inner) → IsAmong one inside → one.arm < count) → arms_weigh 0 count inside ≡ inners_weigh weigh inside
  all_arms_weigh count [] less = none_weigh 0 count
  all_arms_weigh count (inner ∷ others) less =
      let rest = all_arms_weigh count others (λ one there. less one (inr there)) in
      let one = one_more 0 count inner others in
      let own = one_hit 0 count inner.arm (weigh inner.nest) (omega arith) (let is = less inner (inl refl) in omega (arith, is)) in
      omega (arith, rest, one, own)

got_less : (targets : List ℕ) (number to : ℕ) → slice_get targets number ≡ Some to → number < length targets
got_less [] number to is = absurd cc
got_less (target ∷ targets) zero to is = omega arith
got_less (target ∷ targets) (suc number) to is = let rest = got_less targets number to is in omega (arith, rest)

-- ---- weights of nests

module _ (of_node : ℕ → ℕ) (of_choice : List ℕ → ℕ) (of_loop : ℕ) (of_dispatch : List ℕ → ℕ) where
  abbrev mutual
    pub nest_weight : Nest → ℕ
    nest_weight (single node arms) = of_node node + chains_weight arms
    nest_weight (choice heads arms) = of_choice heads + chains_weight arms
    nest_weight (group members) = chain_weight members
    nest_weight (repeated head body) = of_loop + chain_weight body
    nest_weight (dispatched heads body) = of_dispatch heads + chain_weight body

    pub chain_weight : Chain → ℕ
    chain_weight no_nests = 0
    chain_weight (more_nests nest others) = nest_weight nest + chain_weight others

    pub chains_weight : Chains → ℕ
    chains_weight no_chains = 0
    chains_weight (more_chains first others) = chain_weight first + chains_weight others

  pub weigh_chain : (nests : List Nest) → chain_weight (chain nests) ≡ nests_weigh nest_weight nests
  weigh_chain [] = refl
  weigh_chain (nest ∷ others) = ap (λ (n : ℕ). nest_weight nest + n) (weigh_chain others)

  weigh_list : (nests : Chain) → nests_weigh nest_weight (listed nests) ≡ chain_weight nests
  weigh_list no_nests = refl
  weigh_list (more_nests nest others) = ap (λ (n : ℕ). nest_weight nest + n) (weigh_list others)

  -- ---- chains

  abbrev pieces_weight : List Piece → ℕ
  pieces_weight [] = 0
  pieces_weight (piece ∷ pieces) = nest_weight piece.nest + pieces_weight pieces

  abbrev ranked_weight : List Ranked → ℕ
  ranked_weight [] = 0
  ranked_weight (ranked ∷ others) = nest_weight ranked.nest + ranked_weight others

  gathered_weigh : (from : ℕ) (nests : List Nest) (pieces : List Piece) → pieces_weight (gathered from nests pieces) ≡ nests_weigh nest_weight nests + pieces_weight pieces
  gathered_weigh from nests [] = let whole = weigh_chain nests in omega (arith, whole)
  gathered_weigh from nests (piece ∷ pieces) = by_start (nat_lt from piece.start) (gathered_weigh from (piece.nest ∷ nests) pieces)
    where
      by_start : (behind : Bool) → pieces_weight (gathered from (piece.nest ∷ nests) pieces) ≡ nests_weigh nest_weight (piece.nest ∷ nests) + pieces_weight pieces →
          pieces_weight (if behind then gathered from (piece.nest ∷ nests) pieces else record { start = piece.start; nest = group (chain (piece.nest ∷ nests)) } ∷ pieces)
          ≡ nests_weigh nest_weight nests + (nest_weight piece.nest + pieces_weight pieces)
      by_start true rest = omega (arith, rest)
      by_start false rest = let whole = weigh_chain nests in omega (arith, whole)

  joined_weigh : (from : ℕ) (pieces : List Piece) → pieces_weight (joined from pieces) ≡ pieces_weight pieces
  joined_weigh from [] = refl
  joined_weigh from (piece ∷ pieces) = by_start (nat_lt from piece.start)
    where
      by_start : (behind : Bool) → pieces_weight (if behind then gathered from (piece.nest ∷ []) pieces else piece ∷ pieces) ≡ nest_weight piece.nest + pieces_weight pieces
      by_start true = let whole = gathered_weigh from (piece.nest ∷ []) pieces in omega (arith, whole)
      by_start false = refl

  front_weigh : (pieces : List Piece) (others : Chain) → chain_weight (in_front pieces others) ≡ pieces_weight pieces + chain_weight others
  front_weigh [] others = omega arith
  front_weigh (piece ∷ pieces) others = let rest = front_weigh pieces (more_nests piece.nest others) in omega (arith, rest)

  chained_from_weigh : (number : ℕ) (nests : List Ranked) (pieces : List Piece) → chain_weight (chained_from number nests pieces) ≡ ranked_weight nests + pieces_weight pieces
  chained_from_weigh number [] pieces = let front = front_weigh pieces no_nests in omega (arith, front)
  chained_from_weigh number (ranked ∷ others) pieces =
      let rest = chained_from_weigh (suc number) others (record { start = number; nest = ranked.nest } ∷ joined ranked.from pieces) in
      let same = joined_weigh ranked.from pieces in omega (arith, rest, same)

  chained_weigh : (nests : List Ranked) → chain_weight (chained nests) ≡ ranked_weight nests
  chained_weigh nests = let whole = chained_from_weigh 0 nests [] in omega (arith, whole)

  -- ---- lists

  module _ (flow : FlowTree) where
    -- a sorted list weighs what the list does
    pub record SortKeeps (sort : Sort) : Type 0 where
      pub keeps : (may : Bool) (ahead known : Nodes) (after : List ℕ) (nests : List Nest) → IsListed flow may ahead known nests → chain_weight (sort after nests) ≡ nests_weigh nest_weight nests

    -- ---- lists in which nothing goes inside

    unfilled_behind : (siblings : List Sibling) (new : Sibling) → ranked_weight (map unfilled (siblings ++ new ∷ [])) ≡ ranked_weight (map unfilled siblings) + nest_weight new.nest
    unfilled_behind [] new = omega arith
    unfilled_behind (sibling ∷ others) new = let rest = unfilled_behind others new in omega (arith, rest)

    put_unfilled : (left : List ℕ) (sorted : Sorted) (nest : Nest) → ranked_weight (map unfilled (put flow false left sorted nest).siblings) ≡ ranked_weight (map unfilled sorted.siblings) + nest_weight nest
    put_unfilled left sorted nest = by_entry (seen_at sorted.table (only_entry (nest_entries nest)))
      where
        by_entry : (found : Option Seen) → ranked_weight (map unfilled (put_seen flow false left sorted nest found).siblings) ≡ ranked_weight (map unfilled sorted.siblings) + nest_weight nest
        by_entry None = unfilled_behind sorted.siblings (record { nest = nest; from = first_from sorted.table (length sorted.siblings) (nest_entries nest); inside = [] })
        by_entry (Some seen) = unfilled_behind sorted.siblings (record { nest = nest; from = first_from sorted.table (length sorted.siblings) (nest_entries nest); inside = [] })

    all_unfilled : (after : List ℕ) (sorted : Sorted) (nests : List Nest) →
        ranked_weight (map unfilled (put_all flow false after sorted nests)) ≡ ranked_weight (map unfilled sorted.siblings) + nests_weigh nest_weight nests
    all_unfilled after sorted [] = omega arith
    all_unfilled after sorted (nest ∷ others) =
        let one = put_unfilled (all_entries others ++ after) sorted nest in
        let rest = all_unfilled after (put flow false (all_entries others ++ after) sorted nest) others in omega (arith, one, rest)

    arranged_weigh : (after : List ℕ) (nests : List Nest) → chain_weight (arranged flow after nests) ≡ nests_weigh nest_weight nests
    arranged_weigh after nests =
        let whole = chained_weigh (map unfilled (put_all flow false after nothing_sorted nests)) in
        let all = all_unfilled after nothing_sorted nests in omega (arith, whole, all)

    mutual
      level_weigh : (nest : Nest) → IsPlain nest → nest_weight (level flow nest) ≡ nest_weight nest
      level_weigh (single node no_chains) plain = refl
      level_weigh (single node (more_chains first others)) plain = elim plain [ ]
      level_weigh (choice heads no_chains) plain = refl
      level_weigh (choice heads (more_chains first others)) plain = elim plain [ ]
      level_weigh (group members) plain = elim plain [ ]
      level_weigh (repeated head body) plain = let all = arranged_weigh [] (all_level flow body) in let own = body_weigh body plain in omega (arith, all, own)
      level_weigh (dispatched heads body) plain = let all = arranged_weigh [] (all_level flow body) in let own = body_weigh body plain in omega (arith, all, own)

      body_weigh : (nests : Chain) → ChainPlain nests → nests_weigh nest_weight (all_level flow nests) ≡ chain_weight nests
      body_weigh no_nests plain = elim plain [ ]
      body_weigh (more_nests first others) plain = let one = level_weigh first plain.0 in let rest = own_weigh others plain.1 in omega (arith, one, rest)

      own_weigh : (nests : Chain) → OwnPlain nests → nests_weigh nest_weight (all_level flow nests) ≡ chain_weight nests
      own_weigh no_nests plain = refl
      own_weigh (more_nests nest others) plain = let one = level_weigh nest plain.1 in let rest = own_weigh others plain.2 in omega (arith, one, rest)

    later_weigh : (nests : List Nest) → AllNests IsLater nests → nests_weigh nest_weight (map (level flow) nests) ≡ nests_weigh nest_weight nests
    later_weigh [] all = refl
    later_weigh (nest ∷ others) all = let one = level_weigh nest (all.0).1 in let rest = later_weigh others all.1 in omega (arith, one, rest)

    list_weigh : (nests : List Nest) → ListPlain nests → nests_weigh nest_weight (map (level flow) nests) ≡ nests_weigh nest_weight nests
    list_weigh [] plain = refl
    list_weigh (first ∷ others) plain = let one = level_weigh first plain.0 in let rest = later_weigh others plain.1 in omega (arith, one, rest)

    -- ---- nests with what goes inside

    module _ (sort : Sort) (sorts : SortsWell flow sort) (weighs : SortKeeps sort) where
      module _ (ahead known sees : Nodes) (after : List ℕ) (table : Table) (number : ℕ) (sibling : Sibling)
          (fine : IsFine flow all_entries_in true ahead known [] table sees number sibling) (inners : AllInners IsLater sibling.inside)
          (once : (node : ℕ) → times_in node sibling.nest + inners_weigh (times_in node) sibling.inside ≤ 1) where
        arms_keep : (node : ℕ) (targets : List ℕ) (ways_are : leavings flow sibling.nest ≡ leavings_from true node 0 targets) (arm left : ℕ) →
            chains_weight (arms_from sort after sibling.inside arm left) ≡ arms_weigh nest_weight arm left sibling.inside
        arms_keep node targets ways_are arm zero = refl
        arms_keep node targets ways_are arm (suc left) =
            let one = weighs.keeps true (around_of flow all_entries_in true ahead known [] sees) known after (at_arm arm sibling.inside)
            (arm_listed flow sort sorts true ahead known sees after table number sibling fine inners (λ one. let both = once one in omega (arith, both)) node targets ways_are arm) in
            let rest = arms_keep node targets ways_are (suc arm) left in omega (arith, one, rest)

        arms_filled : (node : ℕ) (targets : List ℕ) → leavings flow sibling.nest ≡ leavings_from true node 0 targets →
            chains_weight (arms_from sort after sibling.inside 0 (length targets)) ≡ inners_weigh nest_weight sibling.inside
        arms_filled node targets ways_are = arms_keep node targets ways_are 0 (length targets) ∙ all_arms_weigh nest_weight (length targets) sibling.inside is_less
          where
            is_less : (one : Inner) → IsAmong one sibling.inside → one.arm < length targets
            is_less one there =
                let has = fine.armed one there in
                let out = is_arm true node 0 targets has.way (subst (λ (ways : List Leaving). IsAmong has.way ways) ways_are has.among) in
                let less = got_less targets out.after has.way.to out.target in
                let first = out.arm_is in let second = has.arm_is in omega (arith, less, first, second)

        loop_filled : (heads : List ℕ) (body : Chain) (test : ℕ → Bool) → leavings flow sibling.nest ≡ node_leavings flow test (chain_nodes body) → nest_nodes sibling.nest ≡ chain_nodes body →
            ChainPlain body → CoversChain flow all_entries_in nowhere (with_nodes heads (either_of (with_nodes (inner_entries sibling.inside) (either_of sees ahead)) known)) body →
            chain_weight (sort [] (behind_nodes (listed body) sibling.inside)) ≡ chain_weight body + inners_weigh nest_weight sibling.inside
        loop_filled heads body test ways_are nodes_are plain covers =
            let all = weighs.keeps true nowhere (with_nodes heads (either_of (either_of sees ahead) known)) [] (behind_nodes (listed body) sibling.inside)
            (loop_listed flow sort sorts ahead known sees after table number sibling fine inners once heads body test ways_are nodes_are plain covers) in
            let both = behind_weighs nest_weight (listed body) sibling.inside in
            let own = weigh_list body in omega (arith, all, both, own)

        of_nest : (nest : Nest) → sibling.nest ≡ nest → IsPlain nest → CoversNest flow all_entries_in (with_nodes (inner_entries sibling.inside) (either_of sees ahead)) known nest →
            nest_weight (filled flow sort after nest sibling.inside) ≡ nest_weight nest + inners_weigh nest_weight sibling.inside
        of_nest (single node (more_chains first others)) is plain covers = elim plain [ ]
        of_nest (single node no_chains) is plain covers = let all = arms_filled node (targets_of flow node) (ap (leavings flow) is) in omega (arith, all)
        of_nest (choice heads (more_chains first others)) is plain covers = elim plain [ ]
        of_nest (choice heads no_chains) is plain covers = let all = arms_filled 0 heads (ap (leavings flow) is) in omega (arith, all)
        of_nest (group members) is plain covers = elim plain [ ]
        of_nest (repeated head body) is plain covers =
            let all = loop_filled (head ∷ []) body (is_inner flow head) (ap (leavings flow) is) (ap nest_nodes is) plain covers.1 in omega (arith, all)
        of_nest (dispatched heads body) is plain covers =
            let all = loop_filled heads body (λ node. false) (ap (leavings flow) is) (ap nest_nodes is) plain covers.1 in omega (arith, all)

        sibling_weighs : IsPlain sibling.nest → nest_weight (filled flow sort after sibling.nest sibling.inside) ≡ nest_weight sibling.nest + inners_weigh nest_weight sibling.inside
        sibling_weighs plain = of_nest sibling.nest refl plain fine.own

      siblings_weighed : (ahead known : Nodes) (after : List ℕ) (table : Table) (number : ℕ) (siblings : List Sibling) → AllFine flow all_entries_in true ahead known [] table number siblings →
          AllSiblings IsPlain IsLater siblings → ((node : ℕ) → siblings_weigh (times_in node) siblings ≤ 1) → ranked_weight (all_filled flow sort after siblings) ≡ siblings_weigh nest_weight siblings
      siblings_weighed ahead known after table number [] fine plain once = refl
      siblings_weighed ahead known after table number (sibling ∷ others) fine plain once =
          let one = sibling_weighs ahead known (seen_from (suc number) others) (entries_behind after others) table number sibling fine.0 plain.1 (λ node. let all = once node in omega (arith, all)) plain.0 in
          let rest = siblings_weighed ahead known after table (suc number) others fine.1 plain.2 (λ node. let all = once node in omega (arith, all)) in
          omega (arith, one, rest)

      keeps_deeper : SortKeeps (λ after nests. chained (all_filled flow sort after (put_all flow true after nothing_sorted nests)))
      keeps_deeper = record {
        keeps = λ may ahead known after nests is.
            let comes = listed_put flow sort sorts may ahead known after nests is in
            let whole = chained_weigh (all_filled flow sort after (put_all flow true after nothing_sorted nests)) in
            let each = siblings_weighed ahead known after comes.table 0 (put_all flow true after nothing_sorted nests) comes.fine comes.plain comes.once in
            let all = all_weigh nest_weight flow true after nothing_sorted nests in
            omega (arith, whole, each, all);
      }

    pub sort_keeps : (depth : ℕ) → SortKeeps (sorted_within flow depth)
    sort_keeps zero = record {
      keeps = λ may ahead known after nests is. arranged_weigh after (map (level flow) nests) ∙ list_weigh nests is.plain;
    }
    sort_keeps (suc depth) = keeps_deeper (sorted_within flow depth) (sorts_well flow depth) (sort_keeps depth)
