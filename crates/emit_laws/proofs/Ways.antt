-- The ways out of nests in whose arms nothing stands.
use Rattle.std.proofs.Common.{◌≡◌, ◌∙◌, ◌⊎◌, inl, inr, ℕ, zero, suc, ◌+◌, ◌==◌, Bool, true, false, ◌||◌, List, [], ◌∷◌, ◌++◌, Some, slice_get, arith, refl, sym, subst}
use Rattle.std.specs.Prelude.{⊤}
use Rattle.reloop.specs.Graphs.{is_in, IsIn}
use Rattle.reloop.proofs.Sets.{either, or_left, or_right, in_append, same_number}
use Rattle.flow.specs.Flows.{FlowTree, targets_of}
use Rattle.emit_rules.specs.Nests.{Nest, single, choice, group, repeated, dispatched, Chain, no_chains, more_chains, nest_nodes, chain_nodes}
use Rattle.emit_rules.specs.Places.{Leaving, leavings_from, node_leavings, is_inner, leavings}
use Rattle.emit_laws.specs.Covers.{Nodes, either_of, CoversNest}
use Rattle.emit_laws.proofs.Covering.{GoTo, in_first, either_by, nest_heads, nest_grows}
use Rattle.emit_laws.proofs.Seeing.{IsAmong}

-- nothing stands in the arms of a nest, and it is one nest
abbrev pub IsFlat : Nest → Type 0
IsFlat (single node no_chains) = ⊤
IsFlat (single node (more_chains first others)) = ⊥
IsFlat (choice heads no_chains) = ⊤
IsFlat (choice heads (more_chains first others)) = ⊥
IsFlat (group members) = ⊥
IsFlat (repeated head body) = ⊤
IsFlat (dispatched heads body) = ⊤

pub among_append : {A : Type 0} (one : A) (first second : List A) → IsAmong one (first ++ second) → IsAmong one first ⊎ IsAmong one second
among_append one [] second there = inr there
among_append one (x ∷ first) second (inl same) = inl (inl same)
among_append one (x ∷ first) second (inr later) = by_side (among_append one first second later)
  where
    by_side : IsAmong one first ⊎ IsAmong one second → IsAmong one (x ∷ first) ⊎ IsAmong one second
    by_side (inl there) = inl (inr there)
    by_side (inr there) = inr there

pub among_left : {A : Type 0} (one : A) (first second : List A) → IsAmong one first → IsAmong one (first ++ second)
among_left one [] second none = elim none [ ]
among_left one (x ∷ first) second (inl same) = inl same
among_left one (x ∷ first) second (inr later) = inr (among_left one first second later)

pub among_right : {A : Type 0} (one : A) (first second : List A) → IsAmong one second → IsAmong one (first ++ second)
among_right one [] second there = there
among_right one (x ∷ first) second there = inr (among_right one first second there)

pub alone : (one node : ℕ) → IsIn one (node ∷ []) → one ≡ node
alone one node there = same_number one node (by_test (one == node) there)
  where
    by_test : (here : Bool) → (here || false) ≡ true → here ≡ true
    by_test true is = refl
    by_test false is = is

without_nothing : (node : ℕ) (nodes : List ℕ) → IsIn node (nodes ++ []) → IsIn node nodes
without_nothing node nodes there = by_test (is_in node nodes) (sym (in_append node nodes []) ∙ there)
  where
    by_test : (here : Bool) → (here || false) ≡ true → here ≡ true
    by_test true is = refl
    by_test false is = is

-- ---- the ways by the arms of a node

-- a way out of some arm from one on to a target
record ArmTo (may_hold : Bool) (node arm : ℕ) (targets : List ℕ) (to : ℕ) : Type 0 where
  way : Leaving
  among : IsAmong way (leavings_from may_hold node arm targets)
  goes : way.to ≡ to
  node_is : way.node ≡ node

arm_to : (may_hold : Bool) (node arm : ℕ) (targets : List ℕ) (to : ℕ) → IsIn to targets → ArmTo may_hold node arm targets to
arm_to may_hold node arm [] to there = absurd cc
arm_to may_hold node arm (target ∷ targets) to there = by_side (either (to == target) (is_in to targets) there) (arm_to may_hold node (suc arm) targets to)
  where
    by_side : ((to == target) ≡ true) ⊎ IsIn to targets → (IsIn to targets → ArmTo may_hold node (suc arm) targets to) → ArmTo may_hold node arm (target ∷ targets) to
    by_side (inl same) later = record { way = record { node = node; arm = arm; to = target; may_hold = may_hold }; among = inl refl; goes = sym (same_number to target same); node_is = refl }
    by_side (inr there) later = let found = later there in record { way = found.way; among = inr found.among; goes = found.goes; node_is = found.node_is }

-- what a way out of arms from one on is
pub record IsArm (node arm : ℕ) (targets : List ℕ) (way : Leaving) : Type 0 where
  pub node_is : way.node ≡ node
  pub after : ℕ
  pub arm_is : way.arm ≡ arm + after
  pub target : slice_get targets after ≡ Some way.to

pub is_arm : (may_hold : Bool) (node arm : ℕ) (targets : List ℕ) (way : Leaving) → IsAmong way (leavings_from may_hold node arm targets) → IsArm node arm targets way
is_arm may_hold node arm [] way none = elim none [ ]
is_arm may_hold node arm (target ∷ targets) way (inl same) =
    subst (IsArm node arm (target ∷ targets)) (sym same) (record { node_is = refl; after = 0; arm_is = omega arith; target = refl })
is_arm may_hold node arm (target ∷ targets) way (inr later) =
    let found = is_arm may_hold node (suc arm) targets way later in
    record { node_is = found.node_is; after = suc found.after; arm_is = let is = found.arm_is in omega (arith, is); target = found.target }

pub got_in : (targets : List ℕ) (number to : ℕ) → slice_get targets number ≡ Some to → IsIn to targets
got_in [] number to is = absurd cc
got_in (target ∷ targets) zero to is = let same : target ≡ to = cc in subst (λ (one : ℕ). IsIn one (target ∷ targets)) same (in_first target targets)
got_in (target ∷ targets) (suc number) to is = or_right (to == target) (is_in to targets) (got_in targets number to is)

-- ---- the ways out of a nest

module _ (flow : FlowTree) where
  -- a way out of a nest to a node, out of one of its own nodes
  pub record WayTo (nest : Nest) (to : ℕ) : Type 0 where
    pub way : Leaving
    pub among : IsAmong way (leavings flow nest)
    pub goes : way.to ≡ to

  -- a way out of a node of some to one of its targets
  pub node_way : (test : ℕ → Bool) (nodes : List ℕ) (node to : ℕ) → IsIn node nodes → IsIn to (targets_of flow node) →
      (way : Leaving) × IsAmong way (node_leavings flow test nodes) × (way.to ≡ to) × (way.node ≡ node)
  node_way test [] node to none goes = absurd cc
  node_way test (first ∷ nodes) node to there goes = by_side (either (node == first) (is_in node nodes) there) (λ later. node_way test nodes node to later goes)
    where
      by_side : ((node == first) ≡ true) ⊎ IsIn node nodes → (IsIn node nodes → (way : Leaving) × IsAmong way (node_leavings flow test nodes) × (way.to ≡ to) × (way.node ≡ node)) →
          (way : Leaving) × IsAmong way (node_leavings flow test (first ∷ nodes)) × (way.to ≡ to) × (way.node ≡ node)
      by_side (inl same) later =
          let found = arm_to (test first) first 0 (targets_of flow first) to (subst (λ (one : ℕ). is_in to (targets_of flow one) ≡ true) (same_number node first same) goes) in
          (found.way, among_left found.way (leavings_from (test first) first 0 (targets_of flow first)) (node_leavings flow test nodes) found.among, found.goes, found.node_is ∙ sym (same_number node first same))
      by_side (inr there) later =
          let found = later there in
          (found.0, among_right found.0 (leavings_from (test first) first 0 (targets_of flow first)) (node_leavings flow test nodes) found.1, found.2, found.3)

  -- a way is out of one of the nodes
  pub way_from : (test : ℕ → Bool) (nodes : List ℕ) (way : Leaving) → IsAmong way (node_leavings flow test nodes) → IsIn way.node nodes × IsIn way.to (targets_of flow way.node)
  way_from test [] way none = elim none [ ]
  way_from test (first ∷ nodes) way there = by_side (among_append way (leavings_from (test first) first 0 (targets_of flow first)) (node_leavings flow test nodes) there) (way_from test nodes way)
    where
      by_side : IsAmong way (leavings_from (test first) first 0 (targets_of flow first)) ⊎ IsAmong way (node_leavings flow test nodes) →
          (IsAmong way (node_leavings flow test nodes) → IsIn way.node nodes × IsIn way.to (targets_of flow way.node)) → IsIn way.node (first ∷ nodes) × IsIn way.to (targets_of flow way.node)
      by_side (inl one) later =
          let arm = is_arm (test first) first 0 (targets_of flow first) way one in (
            subst (λ (node : ℕ). IsIn node (first ∷ nodes)) (sym arm.node_is) (in_first first nodes),
            subst (λ (node : ℕ). IsIn way.to (targets_of flow node)) (sym arm.node_is) (got_in (targets_of flow first) arm.after way.to arm.target),
          )
      by_side (inr rest) later = let found = later rest in (or_right (way.node == first) (is_in way.node nodes) found.0, found.1)

  pub goes_by : (nest : Nest) (to : ℕ) → IsFlat nest → GoTo flow (nest_nodes nest) to → WayTo nest to
  goes_by (single node no_chains) to flat going =
      let same : going.node ≡ node = alone going.node node going.there in
      let found = arm_to true node 0 (targets_of flow node) to (subst (λ (one : ℕ). IsIn to (targets_of flow one)) same going.goes) in
      record { way = found.way; among = found.among; goes = found.goes }
  goes_by (single node (more_chains first others)) to flat going = elim flat [ ]
  goes_by (choice heads no_chains) to flat going = absurd (let there = going.there in cc)
  goes_by (choice heads (more_chains first others)) to flat going = elim flat [ ]
  goes_by (group members) to flat going = elim flat [ ]
  goes_by (repeated head body) to flat going =
      let found = node_way (is_inner flow head) (chain_nodes body) going.node to going.there going.goes in record { way = found.0; among = found.1; goes = found.2 }
  goes_by (dispatched heads body) to flat going =
      let found = node_way (λ node. false) (chain_nodes body) going.node to going.there going.goes in record { way = found.0; among = found.1; goes = found.2 }

  pub heads_by : (nest : Nest) (to : ℕ) → IsFlat nest → IsIn to (nest_heads nest) → WayTo nest to
  heads_by (single node no_chains) to flat there = absurd cc
  heads_by (single node (more_chains first others)) to flat there = elim flat [ ]
  heads_by (choice heads no_chains) to flat there =
      let found = arm_to true 0 0 heads to (without_nothing to heads there) in record { way = found.way; among = found.among; goes = found.goes }
  heads_by (choice heads (more_chains first others)) to flat there = elim flat [ ]
  heads_by (group members) to flat there = elim flat [ ]
  heads_by (repeated head body) to flat there = absurd cc
  heads_by (dispatched heads body) to flat there = absurd cc

  -- a nest covers with other nodes ahead, as far as its ways lead to these
  pub flat_grows : (behind : Chain → List ℕ) (nest : Nest) (ahead more known : Nodes) → IsFlat nest →
      ((way : Leaving) → IsAmong way (leavings flow nest) → ahead way.to ≡ true → more way.to ≡ true) → CoversNest flow behind ahead known nest → CoversNest flow behind more known nest
  flat_grows behind nest ahead more known flat grows covers = nest_grows flow behind nest ahead known more known (goes_too, heads_too) covers
    where
      by_way : (to : ℕ) → WayTo nest to → ahead to ≡ true → more to ≡ true
      by_way to found is = subst (λ (one : ℕ). more one ≡ true) found.goes (grows found.way found.among (subst (λ (one : ℕ). ahead one ≡ true) (sym found.goes) is))

      goes_too : (to : ℕ) → GoTo flow (nest_nodes nest) to → either_of ahead known to ≡ true → either_of more known to ≡ true
      goes_too to going is = either_by (ahead to) (known to) (λ there. or_left (more to) (known to) (by_way to (goes_by nest to flat going) there)) (or_right (more to) (known to)) is

      heads_too : (to : ℕ) → IsIn to (nest_heads nest) → ahead to ≡ true → more to ≡ true
      heads_too to there is = by_way to (heads_by nest to flat there) is
