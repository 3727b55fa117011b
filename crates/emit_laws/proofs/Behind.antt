-- What goes behind the nodes of a loop covers there.
use Rattle.std.proofs.Common.{◌≡◌, ◌∙◌, inl, inr, ℕ, ◌≤◌, ◌<◌, ◌==◌, Bool, true, false, ◌||◌, not, List, [], ◌∷◌, ◌++◌, map, if◌then◌else◌, arith, refl, sym, ap, subst}
use Rattle.std.specs.Prelude.{⊤}
use Rattle.std.specs.List.{filter}
use Rattle.reloop.specs.Fits.{times}
use Rattle.reloop.specs.Graphs.{is_in, IsIn}
use Rattle.reloop.proofs.Sets.{or_left, or_right, in_append, in_some, same_number, not_both}
use Rattle.flow.specs.Flows.{FlowTree, targets_of}
use Rattle.emit_rules.specs.Nests.{Nest, single, choice, group, repeated, dispatched, Chain, no_chains, more_chains, nest_nodes, nest_entries}
use Rattle.emit_rules.specs.Sorting.{Inner, all_entries, nest_of, behind_nodes}
use Rattle.emit_laws.specs.Covers.{Nodes, nowhere, with_nodes, either_of, all_entries_in}
use Rattle.emit_laws.proofs.Closing.{and_left}
use Rattle.emit_laws.proofs.Covering.{GoTo, either_by, in_left, in_right, nest_heads, nest_grows, nest_more}
use Rattle.emit_laws.proofs.Kept.{AllInners, nests_weigh}
use Rattle.emit_laws.proofs.Placing.{is_at, entries_at, InnersCover, ListCovers}
use Rattle.emit_laws.proofs.Seeing.{IsAmong}
use Rattle.emit_laws.proofs.Ways.{IsFlat}

-- a nest that isn't the choice of a head
abbrev pub IsOwn : Nest → Type 0
IsOwn (single node arms) = ⊤
IsOwn (choice heads arms) = ⊥
IsOwn (group members) = ⊤
IsOwn (repeated head body) = ⊤
IsOwn (dispatched heads body) = ⊤

-- how often a node stands in a nest
abbrev pub times_in : ℕ → Nest → ℕ
times_in node nest = times node (nest_nodes nest)

-- each node stands once at most
abbrev pub AreOnce : List Nest → Type 0
AreOnce nests = (node : ℕ) → nests_weigh (times_in node) nests ≤ 1

-- some nests have a node
abbrev pub all_nodes : List Nest → List ℕ
all_nodes [] = []
all_nodes (nest ∷ others) = nest_nodes nest ++ all_nodes others

-- ---- entries

pub entries_append : (first second : List Nest) (node : ℕ) → IsIn node (all_entries second) → IsIn node (all_entries (first ++ second))
entries_append [] second node there = there
entries_append (nest ∷ others) second node there = in_right node (nest_entries nest) (all_entries (others ++ second)) (entries_append others second node there)

pub entries_front : (first second : List Nest) (node : ℕ) → IsIn node (all_entries first) → IsIn node (all_entries (first ++ second))
entries_front [] second node there = absurd cc
entries_front (nest ∷ others) second node there =
    either_by (is_in node (nest_entries nest)) (is_in node (all_entries others)) (in_left node (nest_entries nest) (all_entries (others ++ second)))
    (λ rest. in_right node (nest_entries nest) (all_entries (others ++ second)) (entries_front others second node rest)) (sym (in_append node (nest_entries nest) (all_entries others)) ∙ there)

behind_entries : (nests : List Nest) (inside : List Inner) (node : ℕ) → IsIn node (all_entries nests) → IsIn node (all_entries (behind_nodes nests inside))
behind_entries [] inside node there = absurd cc
behind_entries (nest ∷ others) inside node there =
    either_by (is_in node (nest_entries nest)) (is_in node (all_entries others))
    (in_left node (nest_entries nest) (all_entries (map nest_of (filter (λ inner. is_in inner.node (nest_nodes nest)) inside) ++ behind_nodes others (filter (λ inner. not (is_in inner.node (nest_nodes nest))) inside))))
    (λ rest. in_right node (nest_entries nest) _
    (entries_append (map nest_of (filter (λ inner. is_in inner.node (nest_nodes nest)) inside)) (behind_nodes others (filter (λ inner. not (is_in inner.node (nest_nodes nest))) inside)) node
    (behind_entries others (filter (λ inner. not (is_in inner.node (nest_nodes nest))) inside) node rest)))
    (sym (in_append node (nest_entries nest) (all_entries others)) ∙ there)

among_entries : (inside : List Inner) (one : Inner) (node : ℕ) → IsAmong one inside → IsIn node (nest_entries one.nest) → IsIn node (all_entries (map nest_of inside))
among_entries [] one node none there = elim none [ ]
among_entries (inner ∷ others) one node (inl same) there =
    in_left node (nest_entries inner.nest) (all_entries (map nest_of others)) (subst (λ (other : Inner). IsIn node (nest_entries other.nest)) same there)
among_entries (inner ∷ others) one node (inr later) there = in_right node (nest_entries inner.nest) (all_entries (map nest_of others)) (among_entries others one node later there)

-- ---- parts of what goes inside

module _ (test : ℕ → Bool) where
  abbrev passing : List Inner → List Inner
  passing inside = filter (λ (inner : Inner). test inner.node) inside

  among_passing : (inside : List Inner) (one : Inner) → IsAmong one inside → test one.node ≡ true → IsAmong one (passing inside)
  among_passing [] one none is = elim none [ ]
  among_passing (inner ∷ others) one there is = by_test (test inner.node) refl there (λ later. among_passing others one later is)
    where
      by_test : (here : Bool) → test inner.node ≡ here → IsAmong one (inner ∷ others) → (IsAmong one others → IsAmong one (passing others)) → IsAmong one (if here then inner ∷ passing others else passing others)
      by_test true so (inl same) rest = inl same
      by_test true so (inr later) rest = inr (rest later)
      by_test false so (inl same) rest = not_both (test inner.node) (subst (λ (other : Inner). test other.node ≡ true) same is) so
      by_test false so (inr later) rest = rest later

  all_passing : (Holds : Nest → Type 0) (inside : List Inner) → AllInners Holds inside → AllInners Holds (passing inside)
  all_passing Holds [] all = tt
  all_passing Holds (inner ∷ others) all = by_test (test inner.node) (all_passing Holds others all.1)
    where
      by_test : (here : Bool) → AllInners Holds (passing others) → AllInners Holds (if here then inner ∷ passing others else passing others)
      by_test true rest = (all.0, rest)
      by_test false rest = rest

  entries_passing : (node arm : ℕ) (inside : List Inner) (to : ℕ) → test node ≡ true → IsIn to (entries_at node arm inside) → IsIn to (entries_at node arm (passing inside))
  entries_passing node arm [] to is there = there
  entries_passing node arm (inner ∷ others) to is there = by_tests (is_at node arm inner) refl (test inner.node) refl there (entries_passing node arm others to is)
    where
      passes : is_at node arm inner ≡ true → test inner.node ≡ true
      passes here = subst (λ (one : ℕ). test one ≡ true) (sym (same_number inner.node node (and_left (inner.node == node) (inner.arm == arm) here))) is

      by_tests : (here : Bool) → is_at node arm inner ≡ here → (passed : Bool) → test inner.node ≡ passed →
          IsIn to (if here then nest_entries inner.nest ++ entries_at node arm others else entries_at node arm others) →
          (IsIn to (entries_at node arm others) → IsIn to (entries_at node arm (passing others))) → IsIn to (entries_at node arm (if passed then inner ∷ passing others else passing others))
      by_tests true so true passed there rest =
          subst (λ (here : Bool). IsIn to (if here then nest_entries inner.nest ++ entries_at node arm (passing others) else entries_at node arm (passing others))) (sym so)
          (either_by (is_in to (nest_entries inner.nest)) (is_in to (entries_at node arm others)) (in_left to (nest_entries inner.nest) (entries_at node arm (passing others)))
          (λ later. in_right to (nest_entries inner.nest) (entries_at node arm (passing others)) (rest later)) (sym (in_append to (nest_entries inner.nest) (entries_at node arm others)) ∙ there))
      by_tests true so false passed there rest = not_both (test inner.node) (passes so) passed
      by_tests false so true passed there rest =
          subst (λ (here : Bool). IsIn to (if here then nest_entries inner.nest ++ entries_at node arm (passing others) else entries_at node arm (passing others))) (sym so) (rest there)
      by_tests false so false passed there rest = rest there

  module _ (flow : FlowTree) (behind : Chain → List ℕ) (may : Bool) (ahead known around : Nodes) where
    inners_passing : (inside : List Inner) → InnersCover flow behind may ahead known around inside → InnersCover flow behind may ahead known around (passing inside)
    inners_passing [] cover = tt
    inners_passing (inner ∷ others) cover = by_test (test inner.node) refl (inners_passing others cover.2)
      where
        by_test : (here : Bool) → test inner.node ≡ here → InnersCover flow behind may ahead known around (passing others) →
            InnersCover flow behind may ahead known around (if here then inner ∷ passing others else passing others)
        by_test true is rest = (
          cover.0,
          nest_more flow behind inner.nest (with_nodes (entries_at inner.node inner.arm others) around) (with_nodes (entries_at inner.node inner.arm (passing others)) around) known
              (λ node. either_by (is_in node (entries_at inner.node inner.arm others)) (around node)
              (λ there. or_left (is_in node (entries_at inner.node inner.arm (passing others))) (around node) (entries_passing inner.node inner.arm others node is there))
              (or_right (is_in node (entries_at inner.node inner.arm (passing others))) (around node))) cover.1,
          rest,
        )
        by_test false is rest = rest

-- ---- lists in a loop

no_heads : (nest : Nest) (node : ℕ) → IsFlat nest → IsOwn nest → IsIn node (nest_heads nest) → ⊥
no_heads (single node no_chains) one flat own there = cc
no_heads (single node (more_chains first others)) one flat own there = elim flat [ ]
no_heads (choice heads arms) one flat own there = own
no_heads (group members) one flat own there = elim flat [ ]
no_heads (repeated head body) one flat own there = cc
no_heads (dispatched heads body) one flat own there = cc

module _ (flow : FlowTree) (may : Bool) (ahead known around : Nodes) (heads : List ℕ) where
  -- the nodes that are known in the loop, without what goes inside and with it
  abbrev known_within : Nodes
  known_within = with_nodes heads (either_of around known)

  abbrev known_with : List ℕ → Nodes
  known_with entries = with_nodes heads (either_of (with_nodes entries around) known)

  abbrev Covered : List Nest → Type 0
  Covered nests = ListCovers flow all_entries_in may nowhere known_within nests

  -- what goes behind one node, and a list behind that
  group_covers : (inside : List Inner) (rest : List Nest) → AllInners IsOwn inside → InnersCover flow all_entries_in may ahead known around inside → Covered rest → Covered (map nest_of inside ++ rest)
  group_covers [] rest own cover covers = covers
  group_covers (inner ∷ others) rest own cover covers = (
    cover.0,
    nest_grows flow all_entries_in inner.nest (with_nodes (entries_at inner.node inner.arm others) around) known (with_nodes (all_entries (map nest_of others ++ rest)) nowhere) known_within
        ((λ to going. grows to), λ to there. absurd (no_heads inner.nest to cover.0 own.0 there)) cover.1,
    group_covers others rest own.1 cover.2 covers,
  )
    where
      at_later : (node arm to : ℕ) (inside : List Inner) → IsIn to (entries_at node arm inside) → IsIn to (all_entries (map nest_of inside))
      at_later node arm to [] there = there
      at_later node arm to (one ∷ inside) there = by_test (is_at node arm one) there (at_later node arm to inside)
        where
          by_test : (here : Bool) → IsIn to (if here then nest_entries one.nest ++ entries_at node arm inside else entries_at node arm inside) →
              (IsIn to (entries_at node arm inside) → IsIn to (all_entries (map nest_of inside))) → IsIn to (nest_entries one.nest ++ all_entries (map nest_of inside))
          by_test true there rest =
              either_by (is_in to (nest_entries one.nest)) (is_in to (entries_at node arm inside)) (in_left to (nest_entries one.nest) (all_entries (map nest_of inside)))
              (λ later. in_right to (nest_entries one.nest) (all_entries (map nest_of inside)) (rest later)) (sym (in_append to (nest_entries one.nest) (entries_at node arm inside)) ∙ there)
          by_test false there rest = in_right to (nest_entries one.nest) (all_entries (map nest_of inside)) (rest there)

      grows : (to : ℕ) → either_of (with_nodes (entries_at inner.node inner.arm others) around) known to ≡ true →
          either_of (with_nodes (all_entries (map nest_of others ++ rest)) nowhere) known_within to ≡ true
      grows to =
          either_by (is_in to (entries_at inner.node inner.arm others) || around to) (known to)
          (either_by (is_in to (entries_at inner.node inner.arm others)) (around to)
          (λ there. or_left (is_in to (all_entries (map nest_of others ++ rest)) || false) (known_within to)
          (or_left (is_in to (all_entries (map nest_of others ++ rest))) false (entries_front (map nest_of others) rest to (at_later inner.node inner.arm to others there))))
          (λ there. or_right (is_in to (all_entries (map nest_of others ++ rest)) || false) (known_within to)
          (or_right (is_in to heads) (around to || known to) (or_left (around to) (known to) there))))
          (λ there. or_right (is_in to (all_entries (map nest_of others ++ rest)) || false) (known_within to) (or_right (is_in to heads) (around to || known to) (or_right (around to) (known to) there)))

  -- what goes inside and is entered where a node goes stands behind that node
  abbrev pub AreHeld : (entries nodes : List ℕ) → List Inner → Type 0
  AreHeld entries nodes inside =
      (node to : ℕ) → IsIn node nodes → IsIn to (targets_of flow node) → IsIn to entries → (one : Inner) × IsAmong one inside × IsIn to (nest_entries one.nest) × (one.node ≡ node)

  -- a node of one nest is none of another
  apart : (nest : Nest) (others : List Nest) (node : ℕ) → AreOnce (nest ∷ others) → IsIn node (nest_nodes nest) → IsIn node (all_nodes others) → ⊥
  apart nest others node once here there =
      let one : 0 < times node (nest_nodes nest) = in_some node (nest_nodes nest) here in
      let other = counted others there in
      let all = once node in omega (arith, one, other, all)
    where
      counted : (nests : List Nest) → IsIn node (all_nodes nests) → 0 < nests_weigh (times_in node) nests
      counted [] there = absurd cc
      counted (first ∷ rest) there =
          either_by (is_in node (nest_nodes first)) (is_in node (all_nodes rest))
          (λ here. let one : 0 < times node (nest_nodes first) = in_some node (nest_nodes first) here in omega (arith, one))
          (λ later. let more = counted rest later in omega (arith, more)) (sym (in_append node (nest_nodes first) (all_nodes rest)) ∙ there)

  once_behind : (nest : Nest) (others : List Nest) → AreOnce (nest ∷ others) → AreOnce others
  once_behind nest others once node = let all = once node in omega (arith, all)

  pub behind_covers : (entries : List ℕ) (nests : List Nest) (inside : List Inner) → ListCovers flow all_entries_in may nowhere (known_with entries) nests → AreOnce nests → AllInners IsOwn inside →
      InnersCover flow all_entries_in may ahead known around inside → AreHeld entries (all_nodes nests) inside → Covered (behind_nodes nests inside)
  behind_covers entries [] inside covers once own cover held = subst Covered (without_nothing (map nest_of inside)) (group_covers inside [] own cover tt)
    where
      without_nothing : (nests : List Nest) → nests ++ [] ≡ nests
      without_nothing [] = refl
      without_nothing (nest ∷ others) = ap (λ (rest : List Nest). nest ∷ rest) (without_nothing others)
  behind_covers entries (nest ∷ others) inside covers once own cover held = (
    covers.0,
    nest_grows flow all_entries_in nest (with_nodes (all_entries others) nowhere) (known_with entries) (with_nodes (all_entries (held_here ++ rest)) nowhere) known_within
        (grows, λ to head. either_by (is_in to (all_entries others)) false (λ there. or_left (is_in to (all_entries (held_here ++ rest))) false (in_rest to there)) (λ none. absurd cc)) covers.1,
    group_covers (passing here inside) rest (all_passing here IsOwn inside own) (inners_passing here flow all_entries_in may ahead known around inside cover)
        (behind_covers entries others (passing (λ node. not (here node)) inside) covers.2 (once_behind nest others once) (all_passing (λ node. not (here node)) IsOwn inside own)
        (inners_passing (λ node. not (here node)) flow all_entries_in may ahead known around inside cover) held_later),
  )
    where
      here : ℕ → Bool
      here node = is_in node (nest_nodes nest)

      held_here : List Nest
      held_here = map nest_of (passing (λ node. is_in node (nest_nodes nest)) inside)

      rest : List Nest
      rest = behind_nodes others (passing (λ node. not (is_in node (nest_nodes nest))) inside)

      in_rest : (to : ℕ) → IsIn to (all_entries others) → IsIn to (all_entries (held_here ++ rest))
      in_rest to there = entries_append held_here rest to (behind_entries others (passing (λ node. not (is_in node (nest_nodes nest))) inside) to there)

      in_front : (to : ℕ) → IsIn to (all_entries (held_here ++ rest)) → either_of (with_nodes (all_entries (held_here ++ rest)) nowhere) known_within to ≡ true
      in_front to there = or_left (is_in to (all_entries (held_here ++ rest)) || false) (known_within to) (or_left (is_in to (all_entries (held_here ++ rest))) false there)

      in_known : (to : ℕ) → known_within to ≡ true → either_of (with_nodes (all_entries (held_here ++ rest)) nowhere) known_within to ≡ true
      in_known to there = or_right (is_in to (all_entries (held_here ++ rest)) || false) (known_within to) there

      entered : (to : ℕ) → GoTo flow (nest_nodes nest) to → is_in to entries ≡ true → either_of (with_nodes (all_entries (held_here ++ rest)) nowhere) known_within to ≡ true
      entered to going there =
          let found = held going.node to (in_left going.node (nest_nodes nest) (all_nodes others) going.there) going.goes there in
          in_front to (entries_front held_here rest to (among_entries (passing (λ node. is_in node (nest_nodes nest)) inside) found.0 to
          (among_passing (λ node. is_in node (nest_nodes nest)) inside found.0 found.1 (subst (λ (one : ℕ). IsIn one (nest_nodes nest)) (sym found.3) going.there)) found.2))

      grows : (to : ℕ) → GoTo flow (nest_nodes nest) to → either_of (with_nodes (all_entries others) nowhere) (known_with entries) to ≡ true →
          either_of (with_nodes (all_entries (held_here ++ rest)) nowhere) known_within to ≡ true
      grows to going =
          either_by (is_in to (all_entries others) || false) (known_with entries to)
          (either_by (is_in to (all_entries others)) false (λ there. in_front to (in_rest to there)) (λ none. absurd cc))
          (either_by (is_in to heads) ((is_in to entries || around to) || known to) (λ there. in_known to (or_left (is_in to heads) (around to || known to) there))
          (either_by (is_in to entries || around to) (known to)
          (either_by (is_in to entries) (around to) (entered to going) (λ there. in_known to (or_right (is_in to heads) (around to || known to) (or_left (around to) (known to) there))))
          (λ there. in_known to (or_right (is_in to heads) (around to || known to) (or_right (around to) (known to) there)))))

      held_later : AreHeld entries (all_nodes others) (passing (λ node. not (here node)) inside)
      held_later node to there goes inside_is =
          let found = held node to (in_right node (nest_nodes nest) (all_nodes others) there) goes inside_is in
          (found.0, among_passing (λ node. not (is_in node (nest_nodes nest))) inside found.0 found.1 (by_test found.0 found.3 (is_in found.0.node (nest_nodes nest)) refl), found.2, found.3)
        where
          by_test : (one : Inner) → one.node ≡ node → (test : Bool) → is_in one.node (nest_nodes nest) ≡ test → not test ≡ true
          by_test one same true is = absurd (apart nest others node once (subst (λ (n : ℕ). IsIn n (nest_nodes nest)) same is) there)
          by_test one same false is = refl
