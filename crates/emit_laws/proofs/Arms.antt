-- What goes into the arms of a branch covers there.
use Rattle.std.proofs.Common.{◌≡◌, ◌∙◌, ◌⊎◌, inl, inr, ℕ, zero, suc, ◌+◌, ◌≤◌, ◌==◌, Bool, true, false, ◌&&◌, List, [], ◌∷◌, ◌++◌, map, length, Some, slice_get, if◌then◌else◌, arith, refl, sym, ap, subst}
use Rattle.std.specs.Prelude.{⊤}
use Rattle.std.specs.List.{filter}
use Rattle.reloop.specs.Graphs.{is_in, IsIn}
use Rattle.reloop.proofs.Sets.{either, or_left, or_right, in_append, same_number, equal_itself, not_both}
use Rattle.flow.specs.Flows.{FlowTree}
use Rattle.emit_rules.specs.Nests.{Nest, single, choice, group, repeated, dispatched, Chain, no_nests, more_nests, no_chains, more_chains, nest_entries, chain_entries}
use Rattle.emit_rules.specs.Places.{Leaving, leavings_from, leavings, Table}
use Rattle.emit_rules.specs.Sorting.{Inner, Sibling, Sort, all_entries, nest_of, at_arm, arms_from}
use Rattle.emit_laws.specs.Covers.{Nodes, with_nodes, all_entries_in, held_targets, AreApart, CoversChain, CoverArms}
use Rattle.emit_laws.proofs.Behind.{IsOwn, times_in, AreOnce}
use Rattle.emit_laws.proofs.Closing.{and_right}
use Rattle.emit_laws.proofs.Covering.{either_by, in_left, in_right, in_first, nest_more}
use Rattle.emit_laws.proofs.Kept.{AllNests, AllInners, nests_weigh, inners_weigh, all_at_arm}
use Rattle.emit_laws.proofs.Placing.{inner_entries, is_at, entries_at, first_at, around_of, InnersCover, IsFine, ListCovers}
use Rattle.emit_laws.proofs.Seeing.{IsAmong}
use Rattle.emit_laws.proofs.Ways.{is_arm, got_in}

-- ---- nests before sorting

abbrev mutual
  -- nothing stands in arms, and no nests stand together, in a nest or in the loops in it; a choice stands in front of others alone
  pub IsPlain : Nest → Type 0
  IsPlain (single node no_chains) = ⊤
  IsPlain (single node (more_chains first others)) = ⊥
  IsPlain (choice heads no_chains) = ⊤
  IsPlain (choice heads (more_chains first others)) = ⊥
  IsPlain (group members) = ⊥
  IsPlain (repeated head body) = ChainPlain body
  IsPlain (dispatched heads body) = ChainPlain body

  pub ChainPlain : Chain → Type 0
  ChainPlain no_nests = ⊥
  ChainPlain (more_nests first others) = IsPlain first × OwnPlain others

  pub OwnPlain : Chain → Type 0
  OwnPlain no_nests = ⊤
  OwnPlain (more_nests nest others) = IsOwn nest × IsPlain nest × OwnPlain others

-- a nest that may stand behind others
abbrev pub IsLater : Nest → Type 0
IsLater nest = IsOwn nest × IsPlain nest

abbrev pub ListPlain : List Nest → Type 0
ListPlain [] = ⊤
ListPlain (first ∷ others) = IsPlain first × AllNests IsLater others

pub later_plain : (nests : List Nest) → AllNests IsLater nests → ListPlain nests
later_plain [] all = tt
later_plain (nest ∷ others) all = ((all.0).1, all.1)

-- a list that is covered
pub record IsListed (flow : FlowTree) (may : Bool) (ahead known : Nodes) (nests : List Nest) : Type 0 where
  pub plain : ListPlain nests
  pub covers : ListCovers flow all_entries_in may ahead known nests
  pub once : AreOnce nests

-- lists are sorted well
pub record SortsWell (flow : FlowTree) (sort : Sort) : Type 0 where
  pub covers : (may : Bool) (ahead known : Nodes) (after : List ℕ) (nests : List Nest) → IsListed flow may ahead known nests → CoversChain flow chain_entries ahead known (sort after nests)
  pub entries : (after : List ℕ) (first : Nest) (others : List Nest) → ListPlain (first ∷ others) → chain_entries (sort after (first ∷ others)) ≡ nest_entries first
  pub nothing : (after : List ℕ) → sort after [] ≡ no_nests

-- ---- what goes into an arm

pub in_inners : (inside : List Inner) (to : ℕ) → IsIn to (inner_entries inside) → (one : Inner) × IsAmong one inside × IsIn to (nest_entries one.nest)
in_inners [] to there = absurd cc
in_inners (inner ∷ others) to there = by_side (either (is_in to (nest_entries inner.nest)) (is_in to (inner_entries others)) (sym (in_append to (nest_entries inner.nest) (inner_entries others)) ∙ there)) (in_inners others to)
  where
    by_side : IsIn to (nest_entries inner.nest) ⊎ IsIn to (inner_entries others) → (IsIn to (inner_entries others) → (one : Inner) × IsAmong one others × IsIn to (nest_entries one.nest)) →
        (one : Inner) × IsAmong one (inner ∷ others) × IsIn to (nest_entries one.nest)
    by_side (inl here) rest = (inner, inl refl, here)
    by_side (inr later) rest = let found = rest later in (found.0, inr found.1, found.2)

-- the first in an arm
record IsFirst (node arm : ℕ) (inside : List Inner) : Type 0 where
  one : Inner
  among : IsAmong one inside
  at : one.arm ≡ arm
  first : first_at node arm inside ≡ Some one
  others : List Nest
  list : at_arm arm inside ≡ one.nest ∷ others

-- nothing goes into an arm, or there is a first one
first_or_none : (node arm : ℕ) (inside : List Inner) → ((one : Inner) → IsAmong one inside → one.node ≡ node) → IsFirst node arm inside ⊎ (at_arm arm inside ≡ [])
first_or_none node arm [] all = inr refl
first_or_none node arm (inner ∷ others) all = by_test (inner.arm == arm) refl (first_or_none node arm others (λ one there. all one (inr there)))
  where
    at_node : (inner.node == node) ≡ true
    at_node = subst (λ (n : ℕ). (inner.node == n) ≡ true) (all inner (inl refl)) (equal_itself inner.node)

    here : (test : Bool) → (inner.arm == arm) ≡ test → is_at node arm inner ≡ test
    here test is = ap (λ (b : Bool). b && (inner.arm == arm)) at_node ∙ is

    by_test : (test : Bool) → (inner.arm == arm) ≡ test → IsFirst node arm others ⊎ (at_arm arm others ≡ []) → IsFirst node arm (inner ∷ others) ⊎ (at_arm arm (inner ∷ others) ≡ [])
    by_test true is rest = inl (record {
      one = inner;
      among = inl refl;
      at = same_number inner.arm arm is;
      first = ap (λ (test : Bool). if test then Some inner else first_at node arm others) (here true is);
      others = at_arm arm others;
      list = ap (λ (test : Bool). map nest_of (if test then inner ∷ filter (λ inner. inner.arm == arm) others else filter (λ inner. inner.arm == arm) others)) is;
    })
    by_test false is (inl found) = inl (record {
      one = found.one;
      among = inr found.among;
      at = found.at;
      first = ap (λ (test : Bool). if test then Some inner else first_at node arm others) (here false is) ∙ found.first;
      others = found.others;
      list = ap (λ (test : Bool). map nest_of (if test then inner ∷ filter (λ inner. inner.arm == arm) others else filter (λ inner. inner.arm == arm) others)) is ∙ found.list;
    })
    by_test false is (inr none) =
        inr (ap (λ (test : Bool). map nest_of (if test then inner ∷ filter (λ inner. inner.arm == arm) others else filter (λ inner. inner.arm == arm) others)) is ∙ none)

-- where nothing goes into an arm, none goes there
none_at : (arm : ℕ) (inside : List Inner) (one : Inner) → IsAmong one inside → one.arm ≡ arm → at_arm arm inside ≡ [] → ⊥
none_at arm [] one none at is = elim none [ ]
none_at arm (inner ∷ others) one there at is = by_test (inner.arm == arm) refl there is (λ later. none_at arm others one later at)
  where
    by_test : (test : Bool) → (inner.arm == arm) ≡ test → IsAmong one (inner ∷ others) →
        map nest_of (if test then inner ∷ filter (λ inner. inner.arm == arm) others else filter (λ inner. inner.arm == arm) others) ≡ [] → (IsAmong one others → at_arm arm others ≡ [] → ⊥) → ⊥
    by_test true so there is rest = cc
    by_test false so (inl same) is rest =
        not_both (inner.arm == arm) (subst (λ (a : ℕ). (inner.arm == a) ≡ true) (sym (ap (λ (x : Inner). x.arm) same) ∙ at) (equal_itself inner.arm)) so
    by_test false so (inr later) is rest = rest later is

-- ---- lists in arms

module _ (flow : FlowTree) (may : Bool) (ahead known around : Nodes) where
  at_arm_covers : (arm : ℕ) (inside : List Inner) → InnersCover flow all_entries_in may ahead known around inside → ListCovers flow all_entries_in may around known (at_arm arm inside)
  at_arm_covers arm [] cover = tt
  at_arm_covers arm (inner ∷ others) cover = by_test (inner.arm == arm) refl (at_arm_covers arm others cover.2)
    where
      in_arm : (inside : List Inner) (to : ℕ) → inner.arm ≡ arm → IsIn to (entries_at inner.node inner.arm inside) → IsIn to (all_entries (at_arm arm inside))
      in_arm [] to same there = there
      in_arm (one ∷ inside) to same there = by_tests (is_at inner.node inner.arm one) refl (one.arm == arm) refl there (in_arm inside to same)
        where
          by_tests : (here : Bool) → is_at inner.node inner.arm one ≡ here → (at : Bool) → (one.arm == arm) ≡ at →
              IsIn to (if here then nest_entries one.nest ++ entries_at inner.node inner.arm inside else entries_at inner.node inner.arm inside) →
              (IsIn to (entries_at inner.node inner.arm inside) → IsIn to (all_entries (at_arm arm inside))) →
              IsIn to (all_entries (map nest_of (if at then one ∷ filter (λ inner. inner.arm == arm) inside else filter (λ inner. inner.arm == arm) inside)))
          by_tests true is true at there rest =
              either_by (is_in to (nest_entries one.nest)) (is_in to (entries_at inner.node inner.arm inside)) (in_left to (nest_entries one.nest) (all_entries (at_arm arm inside)))
              (λ later. in_right to (nest_entries one.nest) (all_entries (at_arm arm inside)) (rest later)) (sym (in_append to (nest_entries one.nest) (entries_at inner.node inner.arm inside)) ∙ there)
          by_tests true is false at there rest =
              not_both (one.arm == arm) (subst (λ (a : ℕ). (one.arm == a) ≡ true) same (and_right (one.node == inner.node) (one.arm == inner.arm) is)) at
          by_tests false is true at there rest = in_right to (nest_entries one.nest) (all_entries (at_arm arm inside)) (rest there)
          by_tests false is false at there rest = rest there

      by_test : (test : Bool) → (inner.arm == arm) ≡ test → ListCovers flow all_entries_in may around known (at_arm arm others) →
          ListCovers flow all_entries_in may around known (map nest_of (if test then inner ∷ filter (λ inner. inner.arm == arm) others else filter (λ inner. inner.arm == arm) others))
      by_test true is rest = (
        cover.0,
        nest_more flow all_entries_in inner.nest (with_nodes (entries_at inner.node inner.arm others) around) (with_nodes (all_entries (at_arm arm others)) around) known
            (λ node. either_by (is_in node (entries_at inner.node inner.arm others)) (around node)
            (λ there. or_left (is_in node (all_entries (at_arm arm others))) (around node) (in_arm others node (same_number inner.arm arm is) there))
            (or_right (is_in node (all_entries (at_arm arm others))) (around node))) cover.1,
        rest,
      )
      by_test false is rest = rest

at_arm_less : (weigh : Nest → ℕ) (arm : ℕ) (inside : List Inner) → nests_weigh weigh (at_arm arm inside) ≤ inners_weigh weigh inside
at_arm_less weigh arm [] = omega arith
at_arm_less weigh arm (inner ∷ others) = by_test (inner.arm == arm) (at_arm_less weigh arm others)
  where
    by_test : (test : Bool) → nests_weigh weigh (at_arm arm others) ≤ inners_weigh weigh others →
        nests_weigh weigh (map nest_of (if test then inner ∷ filter (λ inner. inner.arm == arm) others else filter (λ inner. inner.arm == arm) others)) ≤ weigh inner.nest + inners_weigh weigh others
    by_test true rest = omega (arith, rest)
    by_test false rest = omega (arith, rest)

-- ---- ways by arms

arm_way : (node arm after : ℕ) (targets : List ℕ) (to : ℕ) → slice_get targets after ≡ Some to → IsAmong (record { node = node; arm = arm + after; to = to; may_hold = true }) (leavings_from true node arm targets)
arm_way node arm after [] to is = absurd cc
arm_way node arm zero (target ∷ targets) to is =
    let same : target ≡ to = cc in
    inl (ap (λ (one : ℕ). record { node = node; arm = one; to = to; may_hold = true }) (let e : arm + 0 ≡ arm = omega arith in e)
    ∙ ap (λ (one : ℕ). record { node = node; arm = arm; to = one; may_hold = true }) (sym same))
arm_way node arm (suc after) (target ∷ targets) to is =
    inr (subst (λ (one : ℕ). IsAmong (record { node = node; arm = one; to = to; may_hold = true }) (leavings_from true node (suc arm) targets)) (let e : suc arm + after ≡ arm + suc after = omega arith in e)
    (arm_way node (suc arm) after targets to is))

got_where : (targets : List ℕ) (to : ℕ) → IsIn to targets → (number : ℕ) × (slice_get targets number ≡ Some to)
got_where [] to there = absurd cc
got_where (target ∷ targets) to there = by_side (either (to == target) (is_in to targets) there) (got_where targets to)
  where
    by_side : ((to == target) ≡ true) ⊎ IsIn to targets → (IsIn to targets → (number : ℕ) × (slice_get targets number ≡ Some to)) → (number : ℕ) × (slice_get (target ∷ targets) number ≡ Some to)
    by_side (inl same) rest = (0, ap Some (sym (same_number to target same)))
    by_side (inr later) rest = let found = rest later in (suc found.0, found.1)

some_number : (one other : ℕ) → Some one ≡ Some other → one ≡ other
some_number one other same = cc

module _ (flow : FlowTree) (sort : Sort) (sorts : SortsWell flow sort) (may : Bool) (ahead known sees : Nodes) (after : List ℕ) (table : Table) (number : ℕ) (sibling : Sibling)
    (fine : IsFine flow all_entries_in may ahead known [] table sees number sibling) (inners : AllInners IsLater sibling.inside) (once : (node : ℕ) → inners_weigh (times_in node) sibling.inside ≤ 1)
    (node : ℕ) (targets : List ℕ) (ways_are : leavings flow sibling.nest ≡ leavings_from true node 0 targets) where
  abbrev around : Nodes
  around = around_of flow all_entries_in may ahead known [] sees

  abbrev held_chain : ℕ → Chain
  held_chain arm = sort after (at_arm arm sibling.inside)

  -- all that goes inside is at the node
  at_node : (one : Inner) → IsAmong one sibling.inside → one.node ≡ node
  at_node one there =
      let has = fine.armed one there in
      sym has.node_is ∙ (is_arm true node 0 targets has.way (subst (λ (ways : List Leaving). IsAmong has.way ways) ways_are has.among)).node_is

  -- what is entered at a target of an arm goes into that arm
  at_its_arm : (one : Inner) → IsAmong one sibling.inside → (arm to : ℕ) → slice_get targets arm ≡ Some to → IsIn to (nest_entries one.nest) → one.arm ≡ arm
  at_its_arm one there arm to is entered =
      let way : Leaving = record { node = node; arm = 0 + arm; to = to; may_hold = true } in
      let among : IsAmong way (leavings flow sibling.nest) = subst (λ (ways : List Leaving). IsAmong way ways) (sym ways_are) (arm_way node 0 arm targets to is) in
      let placed = (fine.placed one there way among entered).1 in omega (arith, placed)

  -- and what is held at a target is
  held_by : (arm to : ℕ) → is_in to (chain_entries (held_chain arm)) ≡ true → (one : Inner) × IsAmong one sibling.inside × (one.arm ≡ arm) × IsIn to (nest_entries one.nest)
  held_by arm to held = by_side (first_or_none node arm sibling.inside at_node)
    where
      by_side : IsFirst node arm sibling.inside ⊎ (at_arm arm sibling.inside ≡ []) → (one : Inner) × IsAmong one sibling.inside × (one.arm ≡ arm) × IsIn to (nest_entries one.nest)
      by_side (inl first) =
          let plain : ListPlain (first.one.nest ∷ first.others) = subst ListPlain first.list (later_plain (at_arm arm sibling.inside) (all_at_arm IsLater arm sibling.inside inners)) in (
            first.one,
            first.among,
            first.at,
            subst (λ (entries : List ℕ). IsIn to entries) (ap (λ (nests : List Nest). chain_entries (sort after nests)) first.list ∙ sorts.entries after first.one.nest first.others plain) held,
          )
      by_side (inr none) =
          absurd (in_nothing to (subst (λ (entries : List ℕ). IsIn to entries) (ap (λ (nests : List Nest). chain_entries (sort after nests)) none ∙ ap chain_entries (sorts.nothing after)) held))
        where
          in_nothing : (to : ℕ) → IsIn to [] → ⊥
          in_nothing to there = cc

  -- the first in an arm is entered at its target
  first_entered : (arm to : ℕ) → slice_get targets arm ≡ Some to → IsFirst node arm sibling.inside → IsIn to (chain_entries (held_chain arm))
  first_entered arm to is first =
      let plain : ListPlain (first.one.nest ∷ first.others) = subst ListPlain first.list (later_plain (at_arm arm sibling.inside) (all_at_arm IsLater arm sibling.inside inners)) in
      let leads = fine.first node arm first.one first.first in
      let out = is_arm true node 0 targets leads.out.way (subst (λ (ways : List Leaving). IsAmong leads.out.way ways) ways_are leads.out.among) in
      let index : out.after ≡ arm = (let first_is = out.arm_is in let other = leads.out.arm_is in omega (arith, first_is, other)) in
      let target : leads.out.way.to ≡ to = some_number leads.out.way.to to (sym out.target ∙ ap (slice_get targets) index ∙ is) in
      let entries : chain_entries (held_chain arm) ≡ leads.out.way.to ∷ [] =
      ap (λ (nests : List Nest). chain_entries (sort after nests)) first.list ∙ sorts.entries after first.one.nest first.others plain ∙ leads.enters in
      subst (λ (list : List ℕ). IsIn to list) (sym entries) (subst (λ (one : ℕ). IsIn one (leads.out.way.to ∷ [])) target (in_first leads.out.way.to []))

  nothing_held : (arm to : ℕ) → slice_get targets arm ≡ Some to → is_in to (chain_entries (held_chain arm)) ≡ false → IsFirst node arm sibling.inside ⊎ (at_arm arm sibling.inside ≡ []) → held_chain arm ≡ no_nests
  nothing_held arm to is none (inl first) = not_both (is_in to (chain_entries (held_chain arm))) (first_entered arm to is first) none
  nothing_held arm to is none (inr nothing) = ap (sort after) nothing ∙ sorts.nothing after

  -- what isn't held at a target of an arm doesn't go inside
  not_inside : (arm to : ℕ) → slice_get targets arm ≡ Some to → is_in to (chain_entries (held_chain arm)) ≡ false → IsIn to (inner_entries sibling.inside) → ⊥
  not_inside arm to is none there =
      let found = in_inners sibling.inside to there in
      by_side found.0 found.1 (at_its_arm found.0 found.1 arm to is found.2) (first_or_none node arm sibling.inside at_node)
    where
      by_side : (one : Inner) → IsAmong one sibling.inside → one.arm ≡ arm → IsFirst node arm sibling.inside ⊎ (at_arm arm sibling.inside ≡ []) → ⊥
      by_side one among at (inl first) = not_both (is_in to (chain_entries (held_chain arm))) (first_entered arm to is first) none
      by_side one among at (inr nothing) = none_at arm sibling.inside one among at nothing

  arm_target : (arm target : ℕ) (rest : List ℕ) → ((later to : ℕ) → slice_get (target ∷ rest) later ≡ Some to → slice_get targets (arm + later) ≡ Some to) → slice_get targets arm ≡ Some target
  arm_target arm target rest at = subst (λ (one : ℕ). slice_get targets one ≡ Some target) (let e : arm + 0 ≡ arm = omega arith in e) (at 0 target refl)

  later_targets : (arm target : ℕ) (rest : List ℕ) → ((later to : ℕ) → slice_get (target ∷ rest) later ≡ Some to → slice_get targets (arm + later) ≡ Some to) →
      (later to : ℕ) → slice_get rest later ≡ Some to → slice_get targets (suc arm + later) ≡ Some to
  later_targets arm target rest at later to is = subst (λ (one : ℕ). slice_get targets one ≡ Some to) (let e : arm + suc later ≡ suc arm + later = omega arith in e) (at (suc later) to is)

  -- what goes into an arm is a covered list
  pub arm_listed : (arm : ℕ) → IsListed flow may around known (at_arm arm sibling.inside)
  arm_listed arm = record {
    plain = later_plain (at_arm arm sibling.inside) (all_at_arm IsLater arm sibling.inside inners);
    covers = at_arm_covers flow may ahead known around arm sibling.inside fine.inner;
    once = λ one. let less = at_arm_less (times_in one) arm sibling.inside in let most = once one in omega (arith, less, most);
  }

  module _ (ways : Nodes) (own : (to : ℕ) → IsIn to targets → with_nodes (inner_entries sibling.inside) ways to ≡ true) where
    arms_cover_from : (arm : ℕ) (rest : List ℕ) → ((later to : ℕ) → slice_get rest later ≡ Some to → slice_get targets (arm + later) ≡ Some to) →
        CoverArms flow chain_entries ways around known (arms_from sort after sibling.inside arm (length rest)) rest
    arms_cover_from arm [] at = λ to none. absurd cc
    arms_cover_from arm (target ∷ rest) at = (
      λ held. sorts.covers may around known after (at_arm arm sibling.inside) (arm_listed arm),
      λ none.
          let here = arm_target arm target rest at in (
            nothing_held arm target here none (first_or_none node arm sibling.inside at_node),
            either_by (is_in target (inner_entries sibling.inside)) (ways target) (λ there. absurd (not_inside arm target here none there)) (λ there. there) (own target (got_in targets arm target here)),
          ),
      arms_cover_from (suc arm) rest (later_targets arm target rest at),
    )

  held_target : (arm : ℕ) (rest : List ℕ) (to : ℕ) → IsIn to (held_targets (arms_from sort after sibling.inside arm (length rest)) rest) →
      (later : ℕ) × (slice_get rest later ≡ Some to) × (is_in to (chain_entries (held_chain (arm + later))) ≡ true)
  held_target arm [] to there = absurd cc
  held_target arm (target ∷ rest) to there = by_test (is_in target (chain_entries (held_chain arm))) refl there (held_target (suc arm) rest to)
    where
      later_one : (later : ℕ) × (slice_get rest later ≡ Some to) × (is_in to (chain_entries (held_chain (suc arm + later))) ≡ true) →
          (later : ℕ) × (slice_get (target ∷ rest) later ≡ Some to) × (is_in to (chain_entries (held_chain (arm + later))) ≡ true)
      later_one found =
          (suc found.0, found.1, subst (λ (one : ℕ). is_in to (chain_entries (held_chain one)) ≡ true) (let e : suc arm + found.0 ≡ arm + suc found.0 = omega arith in e) found.2)

      by_test : (held : Bool) → is_in target (chain_entries (held_chain arm)) ≡ held →
          IsIn to (if held then target ∷ held_targets (arms_from sort after sibling.inside (suc arm) (length rest)) rest else held_targets (arms_from sort after sibling.inside (suc arm) (length rest)) rest) →
          (IsIn to (held_targets (arms_from sort after sibling.inside (suc arm) (length rest)) rest) →
          (later : ℕ) × (slice_get rest later ≡ Some to) × (is_in to (chain_entries (held_chain (suc arm + later))) ≡ true)) →
          (later : ℕ) × (slice_get (target ∷ rest) later ≡ Some to) × (is_in to (chain_entries (held_chain (arm + later))) ≡ true)
      by_test true is there found = by_side (either (to == target) (is_in to (held_targets (arms_from sort after sibling.inside (suc arm) (length rest)) rest)) there)
        where
          by_side : ((to == target) ≡ true) ⊎ IsIn to (held_targets (arms_from sort after sibling.inside (suc arm) (length rest)) rest) →
              (later : ℕ) × (slice_get (target ∷ rest) later ≡ Some to) × (is_in to (chain_entries (held_chain (arm + later))) ≡ true)
          by_side (inl same) =
              let at = same_number to target same in (
                0,
                ap Some (sym at),
                subst (λ (one : ℕ). is_in to (chain_entries (held_chain one)) ≡ true) (let e : arm ≡ arm + 0 = omega arith in e)
                    (subst (λ (one : ℕ). is_in one (chain_entries (held_chain arm)) ≡ true) (sym at) is),
              )
          by_side (inr later) = later_one (found later)
      by_test false is there found = later_one (found there)

  arms_apart_from : (arm : ℕ) (rest : List ℕ) → ((later to : ℕ) → slice_get rest later ≡ Some to → slice_get targets (arm + later) ≡ Some to) → AreApart (arms_from sort after sibling.inside arm (length rest)) rest
  arms_apart_from arm [] at = tt
  arms_apart_from arm (target ∷ rest) at = (
    λ held. not_later held (is_in target rest) refl,
    not_held (is_in target (held_targets (arms_from sort after sibling.inside (suc arm) (length rest)) rest)) refl,
    arms_apart_from (suc arm) rest (later_targets arm target rest at),
  )
    where
      not_later : is_in target (chain_entries (held_chain arm)) ≡ true → (there : Bool) → is_in target rest ≡ there → there ≡ false
      not_later held false is = refl
      not_later held true is =
          let where_it_is = got_where rest target is in
          let one = held_by arm target held in
          let other = at_its_arm one.0 one.1 (suc arm + where_it_is.0) target (later_targets arm target rest at where_it_is.0 target where_it_is.1) one.3 in
          absurd (let first = one.2 in omega (arith, first, other))

      not_held : (there : Bool) → is_in target (held_targets (arms_from sort after sibling.inside (suc arm) (length rest)) rest) ≡ there → there ≡ false
      not_held false is = refl
      not_held true is =
          let found = held_target (suc arm) rest target is in
          let one = held_by (suc arm + found.0) target found.2 in
          let other = at_its_arm one.0 one.1 arm target (arm_target arm target rest at) one.3 in
          absurd (let first = one.2 in omega (arith, first, other))

  pub arms_cover : (ways : Nodes) → ((to : ℕ) → IsIn to targets → with_nodes (inner_entries sibling.inside) ways to ≡ true) →
      CoverArms flow chain_entries ways around known (arms_from sort after sibling.inside 0 (length targets)) targets
  arms_cover ways own = arms_cover_from ways own 0 targets (λ later to is. subst (λ (one : ℕ). slice_get targets one ≡ Some to) (let e : later ≡ 0 + later = omega arith in e) is)

  pub arms_are_apart : AreApart (arms_from sort after sibling.inside 0 (length targets)) targets
  arms_are_apart = arms_apart_from 0 targets (λ later to is. subst (λ (one : ℕ). slice_get targets one ≡ Some to) (let e : later ≡ 0 + later = omega arith in e) is)
