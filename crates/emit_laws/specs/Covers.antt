-- Nests that cover a flow: from where each node stands there is a way to each of its targets.
use Rattle.std.specs.Prelude.{◌≡◌, ⊤, ℕ, Bool, true, false, ◌||◌, List, [], ◌∷◌, ◌++◌, is_some, if◌then◌else◌}
use Rattle.reloop.specs.Graphs.{is_in, IsIn}
use Rattle.flow.specs.Flows.{FlowTree, node_at, targets_of}
use Rattle.emit_rules.specs.Nests.{Nest, single, choice, group, repeated, dispatched, Chain, no_nests, more_nests, Chains, no_chains, more_chains, nest_entries, chain_entries}

-- nodes
abbrev pub Nodes : Type 0
Nodes = ℕ → Bool

abbrev pub nowhere : Nodes
nowhere node = false

-- those of a list, too
abbrev pub with_nodes : List ℕ → Nodes → Nodes
with_nodes list others node = is_in node list || others node

-- those of both
abbrev pub either_of : Nodes → Nodes → Nodes
either_of some others node = some node || others node

-- the targets at which nests stand in their arm
abbrev pub held_targets : Chains → List ℕ → List ℕ
held_targets no_chains targets = []
held_targets (more_chains inner others) [] = []
held_targets (more_chains inner others) (target ∷ targets) =
    if is_in target (chain_entries inner) then target ∷ held_targets others targets else held_targets others targets

-- where nests stand in an arm, no other arm goes to their node
abbrev pub AreApart : Chains → List ℕ → Type 0
AreApart no_chains targets = ⊤
AreApart (more_chains inner others) [] = ⊤
AreApart (more_chains inner others) (target ∷ targets) =
    (is_in target (chain_entries inner) ≡ true → is_in target targets ≡ false) × (is_in target (held_targets others targets) ≡ false) × AreApart others targets

-- the nodes at which some of these nests are entered
abbrev pub all_entries_in : Chain → List ℕ
all_entries_in no_nests = []
all_entries_in (more_nests first others) = nest_entries first ++ all_entries_in others

-- of nests in order each can be left for the nodes at which those behind it are entered: the next one alone, or all of them
module _ (flow : FlowTree) (behind : Chain → List ℕ) where
  abbrev mutual
    -- A nest covers, where control may go at once to the nodes ahead, and to those that are known where a node was run: its nodes are there, and each goes to nodes that stand
    -- in its arms, are ahead or are known; and a loop is entered where its body is.
    pub CoversNest : (ahead known : Nodes) → Nest → Type 0
    CoversNest ahead known (single node arms) =
        (is_some (node_at flow node) ≡ true) × CoverArms (either_of ahead known) ahead known arms (targets_of flow node) × AreApart arms (targets_of flow node)
    CoversNest ahead known (choice heads arms) = CoverArms ahead ahead known arms heads
    CoversNest ahead known (group members) = CoversChain ahead known members
    CoversNest ahead known (repeated head body) =
        (is_in head (chain_entries body) ≡ true) × CoversChain nowhere (with_nodes (head ∷ []) (either_of ahead known)) body
    CoversNest ahead known (dispatched heads body) =
        ((head : ℕ) → IsIn head heads → IsIn head (chain_entries body)) × CoversChain nowhere (with_nodes heads (either_of ahead known)) body

    -- so do nests in order, each with those behind it ahead
    pub CoversChain : (ahead known : Nodes) → Chain → Type 0
    CoversChain ahead known no_nests = ⊤
    CoversChain ahead known (more_nests first others) = CoversNest (with_nodes (behind others) ahead) known first × CoversChain ahead known others

    -- each arm holds nests that are entered at its target and cover, or it holds none and there is a way to this
    pub CoverArms : (ways ahead known : Nodes) → Chains → List ℕ → Type 0
    CoverArms ways ahead known no_chains targets = (target : ℕ) → IsIn target targets → ways target ≡ true
    CoverArms ways ahead known (more_chains inner others) [] = ⊥
    CoverArms ways ahead known (more_chains inner others) (target ∷ targets) =
        (is_in target (chain_entries inner) ≡ true → CoversChain ahead known inner) × (is_in target (chain_entries inner) ≡ false → (inner ≡ no_nests) × (ways target ≡ true))
        × CoverArms ways ahead known others targets

-- nests that are written as they stand cover: each can be left for the beginning of the next one
abbrev pub Covers : FlowTree → Chain → Type 0
Covers flow nests = CoversChain flow chain_entries nowhere nowhere nests
