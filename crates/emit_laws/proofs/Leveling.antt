-- Lists in which no nest goes into an arm are sorted well, and so are all lists.
use Rattle.std.proofs.Common.{◌≡◌, ◌∙◌, ℕ, zero, suc, nat_lt, Bool, false, ◌&&◌, ◌||◌, List, [], ◌∷◌, ◌++◌, map, Some, refl, sym, ap, subst}
use Rattle.std.proofs.Math.Path.{fun_ext}
use Rattle.reloop.specs.Graphs.{is_in, IsIn}
use Rattle.flow.specs.Flows.{FlowTree}
use Rattle.emit_rules.specs.Chains.{chained}
use Rattle.emit_rules.specs.Nests.{Nest, single, choice, group, repeated, dispatched, Chain, no_nests, more_nests, no_chains, more_chains, nest_entries, chain_entries}
use Rattle.emit_rules.specs.Places.{Table}
use Rattle.emit_rules.specs.Sorting.{Sibling, nothing_sorted, all_entries, put_all, unfilled, arranged, level, all_level, sorted_within}
use Rattle.emit_laws.specs.Covers.{Nodes, nowhere, with_nodes, either_of, all_entries_in, CoversNest, CoversChain}
use Rattle.emit_laws.proofs.Arms.{IsPlain, ChainPlain, OwnPlain, IsLater, ListPlain, SortsWell}
use Rattle.emit_laws.proofs.Chaining.{entered_from, RankedCover, chained_covers, chained_entries}
use Rattle.emit_laws.proofs.Filling.{sorts_deeper}
use Rattle.emit_laws.proofs.Kept.{AllNests, head_nest, list_head}
use Rattle.emit_laws.proofs.Placing.{inner_entries, seen_from, AllFine, ListCovers, list_comes}
use Rattle.emit_laws.proofs.Ways.{IsFlat}

-- ---- lists in which nothing goes inside

entered_unfilled : (limit : ℕ) (siblings : List Sibling) (node : ℕ) → entered_from limit (map unfilled siblings) node ≡ seen_from limit siblings node
entered_unfilled limit [] node = refl
entered_unfilled limit (sibling ∷ others) node = ap (λ (rest : Bool). (nat_lt sibling.from limit && is_in node (nest_entries sibling.nest)) || rest) (entered_unfilled limit others node)

module _ (flow : FlowTree) where
  siblings_unfilled : (ahead known : Nodes) (table : Table) (number : ℕ) (siblings : List Sibling) → AllFine flow chain_entries false ahead known [] table number siblings →
      RankedCover flow ahead known number (map unfilled siblings)
  siblings_unfilled ahead known table number [] fine = tt
  siblings_unfilled ahead known table number (sibling ∷ others) fine = (
    subst (λ (sees : Nodes). CoversNest flow chain_entries (either_of sees ahead) known sibling.nest) (fun_ext (λ node. sym (entered_unfilled (suc number) others node))) bare,
    siblings_unfilled ahead known table (suc number) others fine.1,
  )
    where
      bare : CoversNest flow chain_entries (either_of (seen_from (suc number) others) ahead) known sibling.nest
      bare =
          subst (λ (inside : List ℕ). CoversNest flow chain_entries (with_nodes inside (either_of (seen_from (suc number) others) ahead)) known sibling.nest) (ap inner_entries ((fine.0).bare refl)) (fine.0).own

  arranged_covers : (ahead known : Nodes) (after : List ℕ) (nests : List Nest) → ListCovers flow chain_entries false ahead known nests → CoversChain flow chain_entries ahead known (arranged flow after nests)
  arranged_covers ahead known after nests covers =
      let comes = list_comes flow chain_entries false ahead known after nests covers in
      chained_covers flow ahead known (map unfilled (put_all flow false after nothing_sorted nests)) (siblings_unfilled ahead known comes.table 0 (put_all flow false after nothing_sorted nests) comes.fine)

  unfilled_first : (siblings : List Sibling) (first : Nest) → head_nest siblings ≡ Some first → chain_entries (chained (map unfilled siblings)) ≡ nest_entries first
  unfilled_first [] first is = absurd cc
  unfilled_first (sibling ∷ others) first is = chained_entries (unfilled sibling) (map unfilled others) ∙ ap nest_entries (some_nest sibling.nest first is)
    where
      some_nest : (one other : Nest) → Some one ≡ Some other → one ≡ other
      some_nest one other same = cc

  arranged_entries : (after : List ℕ) (first : Nest) (others : List Nest) → chain_entries (arranged flow after (first ∷ others)) ≡ nest_entries first
  arranged_entries after first others = unfilled_first (put_all flow false after nothing_sorted (first ∷ others)) first (list_head flow false after first others)

  -- ---- loops

  level_entries : (nest : Nest) → IsPlain nest → nest_entries (level flow nest) ≡ nest_entries nest
  level_entries (single node arms) plain = refl
  level_entries (choice heads arms) plain = refl
  level_entries (group members) plain = elim plain [ ]
  level_entries (repeated head body) plain = refl
  level_entries (dispatched heads body) plain = refl

  own_entries : (nests : Chain) → OwnPlain nests → all_entries (all_level flow nests) ≡ all_entries_in nests
  own_entries no_nests plain = refl
  own_entries (more_nests nest others) plain = ap (λ (entries : List ℕ). entries ++ all_entries (all_level flow others)) (level_entries nest plain.1) ∙ ap (λ (entries : List ℕ). nest_entries nest ++ entries) (own_entries others plain.2)

  chain_level_entries : (nests : Chain) → ChainPlain nests → chain_entries (arranged flow [] (all_level flow nests)) ≡ chain_entries nests
  chain_level_entries no_nests plain = elim plain [ ]
  chain_level_entries (more_nests first others) plain = arranged_entries [] (level flow first) (all_level flow others) ∙ level_entries first plain.0

  level_flat : (nest : Nest) → IsPlain nest → IsFlat (level flow nest)
  level_flat (single node arms) plain = tt
  level_flat (choice heads arms) plain = tt
  level_flat (group members) plain = elim plain [ ]
  level_flat (repeated head body) plain = tt
  level_flat (dispatched heads body) plain = tt

  mutual
    level_covers : (nest : Nest) → IsPlain nest → (ahead known : Nodes) → CoversNest flow all_entries_in ahead known nest → CoversNest flow chain_entries ahead known (level flow nest)
    level_covers (single node no_chains) plain ahead known covers = covers
    level_covers (single node (more_chains first others)) plain ahead known covers = elim plain [ ]
    level_covers (choice heads no_chains) plain ahead known covers = covers
    level_covers (choice heads (more_chains first others)) plain ahead known covers = elim plain [ ]
    level_covers (group members) plain ahead known covers = elim plain [ ]
    level_covers (repeated head body) plain ahead known covers = (
      subst (λ (entries : List ℕ). IsIn head entries) (sym (chain_level_entries body plain)) covers.0,
      arranged_covers nowhere (with_nodes (head ∷ []) (either_of ahead known)) [] (all_level flow body) (body_covers body plain nowhere (with_nodes (head ∷ []) (either_of ahead known)) covers.1),
    )
    level_covers (dispatched heads body) plain ahead known covers = (
      λ head there. subst (λ (entries : List ℕ). IsIn head entries) (sym (chain_level_entries body plain)) (covers.0 head there),
      arranged_covers nowhere (with_nodes heads (either_of ahead known)) [] (all_level flow body) (body_covers body plain nowhere (with_nodes heads (either_of ahead known)) covers.1),
    )

    body_covers : (nests : Chain) → ChainPlain nests → (ahead known : Nodes) → CoversChain flow all_entries_in ahead known nests → ListCovers flow chain_entries false ahead known (all_level flow nests)
    body_covers no_nests plain ahead known covers = elim plain [ ]
    body_covers (more_nests first others) plain ahead known covers = (
      level_flat first plain.0,
      subst (λ (entries : List ℕ). CoversNest flow chain_entries (with_nodes entries ahead) known (level flow first)) (sym (own_entries others plain.1))
          (level_covers first plain.0 (with_nodes (all_entries_in others) ahead) known covers.0),
      own_covers others plain.1 ahead known covers.1,
    )

    own_covers : (nests : Chain) → OwnPlain nests → (ahead known : Nodes) → CoversChain flow all_entries_in ahead known nests → ListCovers flow chain_entries false ahead known (all_level flow nests)
    own_covers no_nests plain ahead known covers = tt
    own_covers (more_nests nest others) plain ahead known covers = (
      level_flat nest plain.1,
      subst (λ (entries : List ℕ). CoversNest flow chain_entries (with_nodes entries ahead) known (level flow nest)) (sym (own_entries others plain.2))
          (level_covers nest plain.1 (with_nodes (all_entries_in others) ahead) known covers.0),
      own_covers others plain.2 ahead known covers.1,
    )

  -- ---- all lists

  later_entries : (nests : List Nest) → AllNests IsLater nests → all_entries (map (level flow) nests) ≡ all_entries nests
  later_entries [] all = refl
  later_entries (nest ∷ others) all = ap (λ (entries : List ℕ). entries ++ all_entries (map (level flow) others)) (level_entries nest (all.0).1) ∙ ap (λ (entries : List ℕ). nest_entries nest ++ entries) (later_entries others all.1)

  later_covers : (may : Bool) (ahead known : Nodes) (nests : List Nest) → AllNests IsLater nests → ListCovers flow all_entries_in may ahead known nests → ListCovers flow chain_entries false ahead known (map (level flow) nests)
  later_covers may ahead known [] all covers = tt
  later_covers may ahead known (nest ∷ others) all covers = (
    level_flat nest (all.0).1,
    subst (λ (entries : List ℕ). CoversNest flow chain_entries (with_nodes entries ahead) known (level flow nest)) (sym (later_entries others all.1))
        (level_covers nest (all.0).1 (with_nodes (all_entries others) ahead) known covers.1),
    later_covers may ahead known others all.1 covers.2,
  )

  list_covers : (may : Bool) (ahead known : Nodes) (nests : List Nest) → ListPlain nests → ListCovers flow all_entries_in may ahead known nests → ListCovers flow chain_entries false ahead known (map (level flow) nests)
  list_covers may ahead known [] plain covers = tt
  list_covers may ahead known (first ∷ others) plain covers = (
    level_flat first plain.0,
    subst (λ (entries : List ℕ). CoversNest flow chain_entries (with_nodes entries ahead) known (level flow first)) (sym (later_entries others plain.1))
        (level_covers first plain.0 (with_nodes (all_entries others) ahead) known covers.1),
    later_covers may ahead known others plain.1 covers.2,
  )

  pub sorts_well : (depth : ℕ) → SortsWell flow (sorted_within flow depth)
  sorts_well zero = record {
    covers = λ may ahead known after nests is. arranged_covers ahead known after (map (level flow) nests) (list_covers may ahead known nests is.plain is.covers);
    entries = λ after first others plain. arranged_entries after (level flow first) (map (level flow) others) ∙ level_entries first plain.0;
    nothing = λ after. refl;
  }
  sorts_well (suc depth) = sorts_deeper flow (sorted_within flow depth) (sorts_well depth)
