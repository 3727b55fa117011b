-- Lists are sorted well where the lists inside of their nests are.
use Rattle.std.proofs.Common.{◌≡◌, ◌∙◌, ℕ, suc, ◌+◌, ◌≤◌, nat_lt, Bool, true, false, ◌&&◌, ◌||◌, not, List, [], ◌∷◌, ◌++◌, map, Some, if◌then◌else◌, arith, refl, sym, ap, subst}
use Rattle.std.proofs.Math.Path.{fun_ext}
use Rattle.std.specs.List.{filter}
use Rattle.reloop.specs.Fits.{times}
use Rattle.reloop.specs.Graphs.{is_in, IsIn}
use Rattle.reloop.proofs.Sets.{times_append}
use Rattle.flow.specs.Flows.{FlowTree, targets_of}
use Rattle.emit_rules.specs.Chains.{chained}
use Rattle.emit_rules.specs.Nests.{Nest, single, choice, group, repeated, dispatched, Chain, no_nests, more_nests, no_chains, more_chains, listed, nest_nodes, chain_nodes, nest_entries, chain_entries}
use Rattle.emit_rules.specs.Places.{Leaving, Table, node_leavings, is_inner, leavings}
use Rattle.emit_rules.specs.Sorting.{Inner, Sibling, Sort, nothing_sorted, all_entries, put_all, nest_of, behind_nodes, filled, entries_behind, all_filled}
use Rattle.emit_laws.specs.Covers.{Nodes, nowhere, with_nodes, either_of, all_entries_in, CoversNest, CoversChain}
use Rattle.emit_laws.proofs.Arms.{IsPlain, ChainPlain, OwnPlain, IsLater, ListPlain, IsListed, SortsWell, in_inners, arms_cover, arms_are_apart}
use Rattle.emit_laws.proofs.Behind.{IsOwn, times_in, AreOnce, all_nodes, AreHeld, behind_covers}
use Rattle.emit_laws.proofs.Chaining.{entered_from, RankedCover, chained_covers, chained_entries}
use Rattle.emit_laws.proofs.Kept.{AllNests, AllInners, AllSiblings, nests_weigh, inners_weigh, siblings_weigh, list_keeps, all_weigh, head_nest, list_head}
use Rattle.emit_laws.proofs.Placing.{inner_entries, seen_from, IsFine, AllFine, ListCovers, list_comes}
use Rattle.emit_laws.proofs.Seeing.{IsAmong}
use Rattle.emit_laws.proofs.Ways.{IsFlat, node_way}

-- ---- chains as lists

pub entries_listed : (nests : Chain) → all_entries_in nests ≡ all_entries (listed nests)
entries_listed no_nests = refl
entries_listed (more_nests nest others) = ap (λ (entries : List ℕ). nest_entries nest ++ entries) (entries_listed others)

nodes_listed : (nests : Chain) → chain_nodes nests ≡ all_nodes (listed nests)
nodes_listed no_nests = refl
nodes_listed (more_nests nest others) = ap (λ (nodes : List ℕ). nest_nodes nest ++ nodes) (nodes_listed others)

weigh_listed : (node : ℕ) (nests : Chain) → nests_weigh (times_in node) (listed nests) ≡ times node (chain_nodes nests)
weigh_listed node no_nests = refl
weigh_listed node (more_nests nest others) = let rest = weigh_listed node others in let both = times_append node (nest_nodes nest) (chain_nodes others) in omega (arith, rest, both)

pub plain_flat : (nest : Nest) → IsPlain nest → IsFlat nest
plain_flat (single node no_chains) plain = tt
plain_flat (single node (more_chains first others)) plain = plain
plain_flat (choice heads no_chains) plain = tt
plain_flat (choice heads (more_chains first others)) plain = plain
plain_flat (group members) plain = plain
plain_flat (repeated head body) plain = tt
plain_flat (dispatched heads body) plain = tt

own_listed : (nests : Chain) → OwnPlain nests → AllNests IsLater (listed nests)
own_listed no_nests plain = tt
own_listed (more_nests nest others) plain = ((plain.0, plain.1), own_listed others plain.2)

module _ (flow : FlowTree) (may : Bool) (ahead known : Nodes) where
  own_covers : (nests : Chain) → OwnPlain nests → CoversChain flow all_entries_in ahead known nests → ListCovers flow all_entries_in may ahead known (listed nests)
  own_covers no_nests plain covers = tt
  own_covers (more_nests nest others) plain covers = (
    plain_flat nest plain.1,
    subst (λ (entries : List ℕ). CoversNest flow all_entries_in (with_nodes entries ahead) known nest) (entries_listed others) covers.0,
    own_covers others plain.2 covers.1,
  )

  pub listed_covers : (nests : Chain) → ChainPlain nests → CoversChain flow all_entries_in ahead known nests → ListCovers flow all_entries_in may ahead known (listed nests)
  listed_covers no_nests plain covers = elim plain [ ]
  listed_covers (more_nests nest others) plain covers = (
    plain_flat nest plain.0,
    subst (λ (entries : List ℕ). CoversNest flow all_entries_in (with_nodes entries ahead) known nest) (entries_listed others) covers.0,
    own_covers others plain.1 covers.1,
  )

  pub of_any : (other : Bool) (nests : List Nest) → ListCovers flow all_entries_in other ahead known nests → ListCovers flow all_entries_in may ahead known nests
  of_any other [] covers = tt
  of_any other (nest ∷ others) covers = (covers.0, covers.1, of_any other others covers.2)

-- ---- lists with what goes behind their nodes

split_weighs : (weigh : Nest → ℕ) (test : Inner → Bool) (inside : List Inner) →
    nests_weigh weigh (map nest_of (filter test inside)) + inners_weigh weigh (filter (λ inner. not (test inner)) inside) ≡ inners_weigh weigh inside
split_weighs weigh test [] = refl
split_weighs weigh test (inner ∷ others) = by_test (test inner) (split_weighs weigh test others)
  where
    by_test : (here : Bool) → nests_weigh weigh (map nest_of (filter test others)) + inners_weigh weigh (filter (λ inner. not (test inner)) others) ≡ inners_weigh weigh others →
        nests_weigh weigh (map nest_of (if here then inner ∷ filter test others else filter test others))
        + inners_weigh weigh (if not here then inner ∷ filter (λ inner. not (test inner)) others else filter (λ inner. not (test inner)) others) ≡ weigh inner.nest + inners_weigh weigh others
    by_test true rest = omega (arith, rest)
    by_test false rest = omega (arith, rest)

append_weighs : (weigh : Nest → ℕ) (first second : List Nest) → nests_weigh weigh (first ++ second) ≡ nests_weigh weigh first + nests_weigh weigh second
append_weighs weigh [] second = omega arith
append_weighs weigh (nest ∷ others) second = let rest = append_weighs weigh others second in omega (arith, rest)

inners_listed : (weigh : Nest → ℕ) (inside : List Inner) → nests_weigh weigh (map nest_of inside) ≡ inners_weigh weigh inside
inners_listed weigh [] = refl
inners_listed weigh (inner ∷ others) = ap (λ (n : ℕ). weigh inner.nest + n) (inners_listed weigh others)

pub behind_weighs : (weigh : Nest → ℕ) (nests : List Nest) (inside : List Inner) → nests_weigh weigh (behind_nodes nests inside) ≡ nests_weigh weigh nests + inners_weigh weigh inside
behind_weighs weigh [] inside = let same = inners_listed weigh inside in omega (arith, same)
behind_weighs weigh (nest ∷ others) inside =
    let split = split_weighs weigh (λ inner. is_in inner.node (nest_nodes nest)) inside in
    let rest = behind_weighs weigh others (filter (λ inner. not (is_in inner.node (nest_nodes nest))) inside) in
    let both = append_weighs weigh (map nest_of (filter (λ inner. is_in inner.node (nest_nodes nest)) inside)) (behind_nodes others (filter (λ inner. not (is_in inner.node (nest_nodes nest))) inside)) in
    omega (arith, split, rest, both)

all_append : (Holds : Nest → Type 0) (first second : List Nest) → AllNests Holds first → AllNests Holds second → AllNests Holds (first ++ second)
all_append Holds [] second one other = other
all_append Holds (nest ∷ others) second one other = (one.0, all_append Holds others second one.1 other)

all_of_filter : (Holds : Nest → Type 0) (test : Inner → Bool) (inside : List Inner) → AllInners Holds inside → AllNests Holds (map nest_of (filter test inside)) × AllInners Holds (filter test inside)
all_of_filter Holds test [] all = (tt, tt)
all_of_filter Holds test (inner ∷ others) all = by_test (test inner) (all_of_filter Holds test others all.1)
  where
    by_test : (here : Bool) → AllNests Holds (map nest_of (filter test others)) × AllInners Holds (filter test others) →
        AllNests Holds (map nest_of (if here then inner ∷ filter test others else filter test others)) × AllInners Holds (if here then inner ∷ filter test others else filter test others)
    by_test true rest = ((all.0, rest.0), (all.0, rest.1))
    by_test false rest = rest

all_inners_listed : (Holds : Nest → Type 0) (inside : List Inner) → AllInners Holds inside → AllNests Holds (map nest_of inside)
all_inners_listed Holds [] all = tt
all_inners_listed Holds (inner ∷ others) all = (all.0, all_inners_listed Holds others all.1)

pub all_behind : (Holds : Nest → Type 0) (nests : List Nest) (inside : List Inner) → AllNests Holds nests → AllInners Holds inside → AllNests Holds (behind_nodes nests inside)
all_behind Holds [] inside one other = all_inners_listed Holds inside other
all_behind Holds (nest ∷ others) inside one other = (
  one.0,
  all_append Holds (map nest_of (filter (λ inner. is_in inner.node (nest_nodes nest)) inside)) (behind_nodes others (filter (λ inner. not (is_in inner.node (nest_nodes nest))) inside))
      (all_of_filter Holds (λ inner. is_in inner.node (nest_nodes nest)) inside other).0
      (all_behind Holds others (filter (λ inner. not (is_in inner.node (nest_nodes nest))) inside) one.1 (all_of_filter Holds (λ inner. not (is_in inner.node (nest_nodes nest))) inside other).1),
)

-- a list with a plain first nest stays plain
behind_plain : (first : Nest) (others : List Nest) (inside : List Inner) → IsPlain first → AllNests IsLater others → AllInners IsLater inside → ListPlain (behind_nodes (first ∷ others) inside)
behind_plain first others inside plain later inner = (
  plain,
  all_append IsLater (map nest_of (filter (λ one. is_in one.node (nest_nodes first)) inside)) (behind_nodes others (filter (λ one. not (is_in one.node (nest_nodes first))) inside))
      (all_of_filter IsLater (λ one. is_in one.node (nest_nodes first)) inside inner).0
      (all_behind IsLater others (filter (λ one. not (is_in one.node (nest_nodes first))) inside) later (all_of_filter IsLater (λ one. not (is_in one.node (nest_nodes first))) inside inner).1),
)

only_own : (inside : List Inner) → AllInners IsLater inside → AllInners IsOwn inside
only_own [] all = tt
only_own (inner ∷ others) all = ((all.0).0, only_own others all.1)

-- ---- nests with what goes inside

module _ (flow : FlowTree) (sort : Sort) (sorts : SortsWell flow sort) where
  filled_entries : (after : List ℕ) (nest : Nest) (inside : List Inner) → IsPlain nest → nest_entries (filled flow sort after nest inside) ≡ nest_entries nest
  filled_entries after (single node arms) inside plain = refl
  filled_entries after (choice heads arms) inside plain = refl
  filled_entries after (group members) inside plain = elim plain [ ]
  filled_entries after (repeated head body) inside plain = refl
  filled_entries after (dispatched heads body) inside plain = refl

  -- the lists of later nests are entered where they were
  entered_filled : (after : List ℕ) (limit : ℕ) (siblings : List Sibling) (node : ℕ) → AllSiblings IsPlain IsLater siblings →
      entered_from limit (all_filled flow sort after siblings) node ≡ seen_from limit siblings node
  entered_filled after limit [] node plain = refl
  entered_filled after limit (sibling ∷ others) node plain =
      ap (λ (entries : List ℕ). (nat_lt sibling.from limit && is_in node entries) || entered_from limit (all_filled flow sort after others) node)
      (filled_entries (entries_behind after others) sibling.nest sibling.inside plain.0)
      ∙ ap (λ (rest : Bool). (nat_lt sibling.from limit && is_in node (nest_entries sibling.nest)) || rest) (entered_filled after limit others node plain.2)

  module _ (ahead known sees : Nodes) (after : List ℕ) (table : Table) (number : ℕ) (sibling : Sibling)
      (fine : IsFine flow all_entries_in true ahead known [] table sees number sibling) (inners : AllInners IsLater sibling.inside)
      (once : (node : ℕ) → times_in node sibling.nest + inners_weigh (times_in node) sibling.inside ≤ 1) where
    abbrev there : Nodes
    there = either_of sees ahead

    once_inside : (node : ℕ) → inners_weigh (times_in node) sibling.inside ≤ 1
    once_inside node = let both = once node in omega (arith, both)

    -- what goes inside of a loop, whose body is covered with that ahead, is a covered list with the body
    pub loop_listed : (heads : List ℕ) (body : Chain) (test : ℕ → Bool) → leavings flow sibling.nest ≡ node_leavings flow test (chain_nodes body) → nest_nodes sibling.nest ≡ chain_nodes body →
        ChainPlain body → CoversChain flow all_entries_in nowhere (with_nodes heads (either_of (with_nodes (inner_entries sibling.inside) there) known)) body →
        IsListed flow true nowhere (with_nodes heads (either_of there known)) (behind_nodes (listed body) sibling.inside)
    loop_listed heads no_nests test ways_are nodes_are plain covers = elim plain [ ]
    loop_listed heads (more_nests first others) test ways_are nodes_are plain covers = record {
      plain = behind_plain first (listed others) sibling.inside plain.0 (own_listed others plain.1) inners;
      covers = behind_covers flow true ahead known there heads (inner_entries sibling.inside) (listed (more_nests first others)) sibling.inside
          (listed_covers flow true nowhere (with_nodes heads (either_of (with_nodes (inner_entries sibling.inside) there) known)) (more_nests first others) plain covers)
          once_listed (only_own sibling.inside inners) fine.inner held;
      once = λ node.
          let weight = behind_weighs (times_in node) (listed (more_nests first others)) sibling.inside in
          let body = weigh_listed node (more_nests first others) in
          let both = once node in
          let same : times_in node sibling.nest ≡ times node (chain_nodes (more_nests first others)) = ap (times node) nodes_are in
          omega (arith, weight, body, both, same);
    }
      where
        once_listed : AreOnce (listed (more_nests first others))
        once_listed node =
            let body = weigh_listed node (more_nests first others) in
            let both = once node in
            let same : times_in node sibling.nest ≡ times node (chain_nodes (more_nests first others)) = ap (times node) nodes_are in
            omega (arith, body, both, same)

        held : AreHeld flow true ahead known there heads (inner_entries sibling.inside) (all_nodes (listed (more_nests first others))) sibling.inside
        held node to in_body goes entered =
            let found = in_inners sibling.inside to entered in
            let way = node_way flow test (chain_nodes (more_nests first others)) node to (subst (λ (nodes : List ℕ). IsIn node nodes) (sym (nodes_listed (more_nests first others))) in_body) goes in
            let placed = fine.placed found.0 found.1 way.0 (subst (λ (ways : List Leaving). IsAmong way.0 ways) (sym ways_are) way.1)
            (subst (λ (one : ℕ). IsIn one (nest_entries (found.0).nest)) (sym way.2) found.2) in
            (found.0, found.1, found.2, sym placed.0 ∙ way.3)

    loop_filled : (heads : List ℕ) (body : Chain) (test : ℕ → Bool) → leavings flow sibling.nest ≡ node_leavings flow test (chain_nodes body) → nest_nodes sibling.nest ≡ chain_nodes body →
        ChainPlain body → CoversChain flow all_entries_in nowhere (with_nodes heads (either_of (with_nodes (inner_entries sibling.inside) there) known)) body →
        CoversChain flow chain_entries nowhere (with_nodes heads (either_of there known)) (sort [] (behind_nodes (listed body) sibling.inside))
    loop_filled heads body test ways_are nodes_are plain covers =
        sorts.covers true nowhere (with_nodes heads (either_of there known)) [] (behind_nodes (listed body) sibling.inside) (loop_listed heads body test ways_are nodes_are plain covers)

    -- which is entered where the body is
    loop_entries : (body : Chain) → ChainPlain body → chain_entries (sort [] (behind_nodes (listed body) sibling.inside)) ≡ chain_entries body
    loop_entries no_nests plain = elim plain [ ]
    loop_entries (more_nests first others) plain = sorts.entries [] first _ (behind_plain first (listed others) sibling.inside plain.0 (own_listed others plain.1) inners)

    -- a node with what goes into its arms, a choice, a loop
    of_nest : (nest : Nest) → sibling.nest ≡ nest → IsPlain nest → CoversNest flow all_entries_in (with_nodes (inner_entries sibling.inside) there) known nest →
        CoversNest flow chain_entries there known (filled flow sort after nest sibling.inside)
    of_nest (single node (more_chains first others)) is plain covers = elim plain [ ]
    of_nest (single node no_chains) is plain covers = (
      covers.0,
      arms_cover flow sort sorts true ahead known sees after table number sibling fine inners once_inside node (targets_of flow node) (ap (leavings flow) is) (either_of there known)
          (λ to there_too. grouped (is_in to (inner_entries sibling.inside)) (there to) (known to) (covers.1 to there_too)),
      arms_are_apart flow sort sorts true ahead known sees after table number sibling fine inners once_inside node (targets_of flow node) (ap (leavings flow) is),
    )
      where
        grouped : (a b c : Bool) → ((a || b) || c) ≡ true → (a || (b || c)) ≡ true
        grouped true b c is = refl
        grouped false b c is = is
    of_nest (choice heads (more_chains first others)) is plain covers = elim plain [ ]
    of_nest (choice heads no_chains) is plain covers =
        arms_cover flow sort sorts true ahead known sees after table number sibling fine inners once_inside 0 heads (ap (leavings flow) is) there covers
    of_nest (group members) is plain covers = elim plain [ ]
    of_nest (repeated head body) is plain covers = (
      subst (λ (entries : List ℕ). IsIn head entries) (sym (loop_entries body plain)) covers.0,
      loop_filled (head ∷ []) body (is_inner flow head) (ap (leavings flow) is) (ap nest_nodes is) plain covers.1,
    )
    of_nest (dispatched heads body) is plain covers = (
      λ head there_too. subst (λ (entries : List ℕ). IsIn head entries) (sym (loop_entries body plain)) (covers.0 head there_too),
      loop_filled heads body (λ node. false) (ap (leavings flow) is) (ap nest_nodes is) plain covers.1,
    )

    sibling_filled : IsPlain sibling.nest → CoversNest flow chain_entries there known (filled flow sort after sibling.nest sibling.inside)
    sibling_filled plain = of_nest sibling.nest refl plain fine.own

  -- ---- whole lists

  siblings_filled : (ahead known : Nodes) (after : List ℕ) (table : Table) (number : ℕ) (siblings : List Sibling) → AllFine flow all_entries_in true ahead known [] table number siblings →
      AllSiblings IsPlain IsLater siblings → ((node : ℕ) → siblings_weigh (times_in node) siblings ≤ 1) → RankedCover flow ahead known number (all_filled flow sort after siblings)
  siblings_filled ahead known after table number [] fine plain once = tt
  siblings_filled ahead known after table number (sibling ∷ others) fine plain once = (
    subst (λ (sees : Nodes). CoversNest flow chain_entries (either_of sees ahead) known (filled flow sort (entries_behind after others) sibling.nest sibling.inside))
        (fun_ext (λ node. sym (entered_filled after (suc number) others node plain.2)))
        (sibling_filled ahead known (seen_from (suc number) others) (entries_behind after others) table number sibling fine.0 plain.1 (λ node. let all = once node in omega (arith, all)) plain.0),
    siblings_filled ahead known after table (suc number) others fine.1 plain.2 (λ node. let all = once node in omega (arith, all)),
  )

  later_all : (nests : List Nest) → AllNests IsLater nests → AllNests IsPlain nests
  later_all [] all = tt
  later_all (nest ∷ others) all = ((all.0).1, later_all others all.1)

  all_plain : (after : List ℕ) (nests : List Nest) → ListPlain nests → AllSiblings IsPlain IsLater (put_all flow true after nothing_sorted nests)
  all_plain after [] plain = tt
  all_plain after (first ∷ others) plain = list_keeps IsPlain IsLater flow true after first others plain.0 (later_all others plain.1) plain.1

  -- what comes of a covered list
  pub record IsPut (ahead known : Nodes) (siblings : List Sibling) : Type 0 where
    pub table : Table
    pub fine : AllFine flow all_entries_in true ahead known [] table 0 siblings
    pub plain : AllSiblings IsPlain IsLater siblings
    pub once : (node : ℕ) → siblings_weigh (times_in node) siblings ≤ 1

  pub listed_put : (may : Bool) (ahead known : Nodes) (after : List ℕ) (nests : List Nest) → IsListed flow may ahead known nests → IsPut ahead known (put_all flow true after nothing_sorted nests)
  listed_put may ahead known after nests is =
      let comes = list_comes flow all_entries_in true ahead known after nests (of_any flow true ahead known may nests is.covers) in
      record {
        table = comes.table;
        fine = comes.fine;
        plain = all_plain after nests is.plain;
        once = λ node. let all = all_weigh (times_in node) flow true after nothing_sorted nests in let most = is.once node in omega (arith, all, most);
      }

  sorted_covers : (may : Bool) (ahead known : Nodes) (after : List ℕ) (nests : List Nest) → IsListed flow may ahead known nests →
      CoversChain flow chain_entries ahead known (chained (all_filled flow sort after (put_all flow true after nothing_sorted nests)))
  sorted_covers may ahead known after nests is =
      let comes = listed_put may ahead known after nests is in
      chained_covers flow ahead known (all_filled flow sort after (put_all flow true after nothing_sorted nests))
      (siblings_filled ahead known after comes.table 0 (put_all flow true after nothing_sorted nests) comes.fine comes.plain comes.once)

  -- a list is entered where its first nest is
  filled_first : (after : List ℕ) (siblings : List Sibling) (first : Nest) → head_nest siblings ≡ Some first → IsPlain first → chain_entries (chained (all_filled flow sort after siblings)) ≡ nest_entries first
  filled_first after [] first is plain = absurd cc
  filled_first after (sibling ∷ others) first is plain =
      let same : sibling.nest ≡ first = some_nest sibling.nest first is in
      chained_entries (record { nest = filled flow sort (entries_behind after others) sibling.nest sibling.inside; from = sibling.from }) (all_filled flow sort after others)
      ∙ filled_entries (entries_behind after others) sibling.nest sibling.inside (subst IsPlain (sym same) plain) ∙ ap nest_entries same
    where
      some_nest : (one other : Nest) → Some one ≡ Some other → one ≡ other
      some_nest one other same = cc

  pub sorts_deeper : SortsWell flow (λ after nests. chained (all_filled flow sort after (put_all flow true after nothing_sorted nests)))
  sorts_deeper = record {
    covers = sorted_covers;
    entries = λ after first others plain. filled_first after (put_all flow true after nothing_sorted (first ∷ others)) first (list_head flow true after first others) plain.0;
    nothing = λ after. refl;
  }
