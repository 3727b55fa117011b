-- Which branches lead to a nest of a list, and from where.
use Rattle.std.specs.Prelude.{ℕ, suc, Bool, true, false, not, ◌&&◌, ◌||◌, ◌==◌, nat_lt, List, [], ◌∷◌, flat_map, Option, Some, None, if◌then◌else◌}
use Rattle.std.specs.List.{list_any}
use Rattle.reloop.specs.Graphs.{is_in}
use Rattle.rs_text.specs.Tree.{Stmts, no_stmts, more_stmts}
use Rattle.flow.specs.Flows.{BranchTree, go, if_test, switch, gives, NodeTree, FlowTree, node_at, targets_of}
use Rattle.emit_rules.specs.Nests.{Nest, single, choice, group, repeated, dispatched, chain_nodes}

-- a way out of a nest: an arm of a node's branch, the node to which it goes, and whether that may stand in this arm
pub record Leaving : Type 0 where
  pub node : ℕ
  pub arm : ℕ
  pub to : ℕ
  pub may_hold : Bool

-- the ways out of a node by its arms, counted from one on
abbrev pub leavings_from : (may_hold : Bool) → (node arm : ℕ) → List ℕ → List Leaving
leavings_from may_hold node arm [] = []
leavings_from may_hold node arm (to ∷ others) =
    record { node = node; arm = arm; to = to; may_hold = may_hold } ∷ leavings_from may_hold node (suc arm) others

-- those of some nodes, of which a test says whether others may stand in their arms
abbrev pub node_leavings : FlowTree → (ℕ → Bool) → List ℕ → List Leaving
node_leavings flow may_hold nodes = flat_map (λ node. leavings_from (may_hold node) node 0 (targets_of flow node)) nodes

-- a node of a loop goes round to its head
abbrev pub goes_to : FlowTree → ℕ → ℕ → Bool
goes_to flow head node = is_in head (targets_of flow node)

-- What a loop is left for stands in the loop only where it is left neither from its head nor from a node that goes round to that: else what follows a `while` or a `do`
-- would stand in its body.
abbrev pub is_inner : FlowTree → ℕ → ℕ → Bool
is_inner flow head node = not (node == head) && not (goes_to flow head node)

-- the ways out of a nest in whose arms nothing stands yet
abbrev pub leavings : FlowTree → Nest → List Leaving
leavings flow (single node arms) = leavings_from true node 0 (targets_of flow node)
leavings flow (choice heads arms) = leavings_from true 0 0 heads
leavings flow (group members) = node_leavings flow (λ node. false) (chain_nodes members)
leavings flow (repeated head body) = node_leavings flow (is_inner flow head) (chain_nodes body)
leavings flow (dispatched heads body) = node_leavings flow (λ node. false) (chain_nodes body)

-- one of these nodes isn't in a list
abbrev pub any_outside : List ℕ → List ℕ → Bool
any_outside nodes others = list_any (λ node. not (is_in node nodes)) others

-- a loop is left as a `while` or a `do` is: from its head, or from a node that goes round to that
abbrev pub is_left_at_a_test : FlowTree → ℕ → List ℕ → Bool
is_left_at_a_test flow head nodes =
    list_any (λ node. (node == head || goes_to flow head node) && any_outside nodes (targets_of flow node)) nodes

abbrev pub is_gives : BranchTree → Bool
is_gives (go to) = false
is_gives (if_test test if_true if_false) = false
is_gives (switch choices) = false
is_gives (gives value) = true

abbrev pub is_empty : Stmts → Bool
is_empty no_stmts = true
is_empty (more_stmts first others) = false

abbrev pub node_gives : Option NodeTree → Bool
node_gives None = false
node_gives (Some node) = is_empty node.body && is_gives node.last

-- a nest is a node with nothing but a `return`
abbrev pub gives_back : FlowTree → Nest → Bool
gives_back flow (single node arms) = node_gives (node_at flow node)
gives_back flow nest = false

-- What was seen of the ways to a node: in which nest of a list the first of them is, of how many, whether all come out of one arm that may hold the node, which arm that is, and
-- whether none comes from what stands in that arm already.
pub record Seen : Type 0 where
  pub sibling : ℕ
  pub node : ℕ
  pub arm : ℕ
  pub count : ℕ
  pub is_one : Bool
  pub is_direct : Bool

abbrev pub least : ℕ → ℕ → ℕ
least a b = if nat_lt b a then b else a

-- one way more is seen
abbrev pub see : (sibling : ℕ) → (is_direct : Bool) → Leaving → Option Seen → Seen
see sibling is_direct way None =
    record { sibling = sibling; node = way.node; arm = way.arm; count = 1; is_one = way.may_hold; is_direct = is_direct }
see sibling is_direct way (Some seen) = record {
  sibling = least seen.sibling sibling;
  node = seen.node;
  arm = seen.arm;
  count = suc seen.count;
  is_one = seen.is_one && way.may_hold && seen.sibling == sibling && seen.node == way.node && seen.arm == way.arm;
  is_direct = seen.is_direct && is_direct;
}

-- the lesser of a number and that of the first nest with a way
abbrev pub first_of : ℕ → Option Seen → ℕ
first_of number None = number
first_of number (Some seen) = least number seen.sibling

-- what was seen of the ways to each node
abbrev pub Table : Type 0
Table = ℕ → Option Seen

abbrev pub with_seen : ℕ → Seen → Table → Table
with_seen to seen table = λ node. if node == to then Some seen else table node

abbrev pub see_all : (sibling : ℕ) → (is_direct : Bool) → List Leaving → Table → Table
see_all sibling is_direct [] table = table
see_all sibling is_direct (way ∷ others) table =
    see_all sibling is_direct others (with_seen way.to (see sibling is_direct way (table way.to)) table)
