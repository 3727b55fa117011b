-- Which nests of a list go into arms of others: a nest to which all branches lead out of one arm stands in that arm. A list is gone through once, and each way out of a nest is looked
-- at once; nests stand in one another at most so deep, and are left in one list from there on.
use Rattle.std.specs.Prelude.{ℕ, zero, suc, ◌+◌, ◌-◌, Bool, true, false, not, ◌&&◌, ◌||◌, ◌==◌, List, [], ◌∷◌, ◌++◌, length, map, flat_map, Option, Some, None, slice_get, if◌then◌else◌}
use Rattle.std.specs.List.{filter}
use Rattle.reloop.specs.Graphs.{is_in}
use Rattle.reloop.specs.Shapes.{ShapeTree}
use Rattle.flow.specs.Flows.{FlowTree, targets_of}
use Rattle.emit_rules.specs.Chains.{Ranked, chained}
use Rattle.emit_rules.specs.Nests.{Nest, single, choice, group, repeated, dispatched, Chain, no_nests, more_nests, Chains, no_chains, more_chains, listed, nest_entries, chain_nodes, nest_nodes, flat}
use Rattle.emit_rules.specs.Places.{Leaving, leavings, is_left_at_a_test, gives_back, Seen, first_of, Table, see_all}

-- a nest that goes into an arm of a node
pub record Inner : Type 0 where
  pub node : ℕ
  pub arm : ℕ
  pub nest : Nest

-- A nest of a list, the first nest of the list from which control comes to it otherwise than from the nest before, and what goes into its arms, in order.
pub record Sibling : Type 0 where
  pub nest : Nest
  pub from : ℕ
  pub inside : List Inner

-- how far a list was gone through: what was seen of ways, the nests that stay in the list, and how many ways out of the last of these lead to what is ahead
pub record Sorted : Type 0 where
  pub table : Table
  pub siblings : List Sibling
  pub ahead : ℕ

abbrev pub nothing_sorted : Sorted
nothing_sorted = record { table = λ node. None; siblings = []; ahead = 0 }

-- how many ways lead to one of these nodes
abbrev pub count_to : List ℕ → List Leaving → ℕ
count_to nodes [] = 0
count_to nodes (way ∷ others) = if is_in way.to nodes then suc (count_to nodes others) else count_to nodes others

-- the one node at which a nest is entered
abbrev pub only_entry : List ℕ → Option ℕ
only_entry [] = None
only_entry (node ∷ []) = Some node
only_entry (node ∷ other ∷ others) = None

abbrev pub seen_at : Table → Option ℕ → Option Seen
seen_at table None = None
seen_at table (Some node) = table node

-- whether a nest stays behind the last one: that leads to nothing else that is ahead
abbrev pub stays : Sorted → Seen → Bool
stays sorted seen = suc seen.sibling == length sorted.siblings && sorted.ahead == seen.count

-- A loop holds what it is left for from one arm. What follows this stands there too only where the loop is left as a `while` or a `do` is, or where it is a `return` alone: else all
-- that follows the loop could stand in it.
abbrev pub holds : FlowTree → (around : Nest) → (inner : Nest) → (is_direct : Bool) → Bool
holds flow (repeated head body) inner is_direct = is_direct || gives_back flow inner || is_left_at_a_test flow head (chain_nodes body)
holds flow around inner is_direct = true

abbrev pub sibling_holds : FlowTree → Option Sibling → (inner : Nest) → (is_direct : Bool) → Bool
sibling_holds flow None inner is_direct = false
sibling_holds flow (Some sibling) inner is_direct = holds flow sibling.nest inner is_direct

-- whether a nest goes into an arm
abbrev pub goes_inside : FlowTree → Sorted → Nest → Seen → Bool
goes_inside flow sorted nest seen =
    seen.is_one && not (stays sorted seen) && sibling_holds flow (slice_get sorted.siblings seen.sibling) nest seen.is_direct

-- ---- one nest more

-- the ways out of a nest that stands in an arm, as ways out of that arm
abbrev pub out_of_arm : Seen → List Leaving → List Leaving
out_of_arm seen ways = map (λ (way : Leaving). record { node = seen.node; arm = seen.arm; to = way.to; may_hold = true }) ways

abbrev pub with_inner : ℕ → Inner → List Sibling → List Sibling
with_inner number inner [] = []
with_inner zero inner (sibling ∷ others) = record sibling { inside = sibling.inside ++ inner ∷ [] } ∷ others
with_inner (suc number) inner (sibling ∷ others) = sibling ∷ with_inner number inner others

-- how many ways out of the last nest lead to what is ahead, where one went into an arm of a nest
abbrev pub ahead_with : (is_last : Bool) → (ahead gone more : ℕ) → ℕ
ahead_with true ahead gone more = ahead - gone + more
ahead_with false ahead gone more = ahead

-- it goes into an arm
abbrev pub put_inside : FlowTree → (left : List ℕ) → Sorted → Nest → Seen → Sorted
put_inside flow left sorted nest seen = record {
  table = see_all seen.sibling false (out_of_arm seen (leavings flow nest)) sorted.table;
  siblings = with_inner seen.sibling (record { node = seen.node; arm = seen.arm; nest = nest }) sorted.siblings;
  ahead = ahead_with (suc seen.sibling == length sorted.siblings) sorted.ahead seen.count (count_to left (leavings flow nest));
}

-- the first nest of the list with a way to one of these nodes
abbrev pub first_from : Table → ℕ → List ℕ → ℕ
first_from table number [] = number
first_from table number (node ∷ others) = first_from table (first_of number (table node)) others

-- it stays in the list
abbrev pub put_behind : FlowTree → (left : List ℕ) → Sorted → Nest → Sorted
put_behind flow left sorted nest = record {
  table = see_all (length sorted.siblings) true (leavings flow nest) sorted.table;
  siblings = sorted.siblings ++ record { nest = nest; from = first_from sorted.table (length sorted.siblings) (nest_entries nest); inside = [] } ∷ [];
  ahead = count_to left (leavings flow nest);
}

abbrev pub put_seen : FlowTree → (may_go_inside : Bool) → (left : List ℕ) → Sorted → Nest → Option Seen → Sorted
put_seen flow may_go_inside left sorted nest None = put_behind flow left sorted nest
put_seen flow may_go_inside left sorted nest (Some seen) =
    if may_go_inside && goes_inside flow sorted nest seen then put_inside flow left sorted nest seen else put_behind flow left sorted nest

abbrev pub put : FlowTree → (may_go_inside : Bool) → (left : List ℕ) → Sorted → Nest → Sorted
put flow may_go_inside left sorted nest = put_seen flow may_go_inside left sorted nest (seen_at sorted.table (only_entry (nest_entries nest)))

-- the nodes at which nests are entered
abbrev pub all_entries : List Nest → List ℕ
all_entries nests = flat_map nest_entries nests

-- a list is gone through; `after` are the entries of what comes behind it
abbrev pub put_all : FlowTree → (may_go_inside : Bool) → (after : List ℕ) → Sorted → List Nest → List Sibling
put_all flow may_go_inside after sorted [] = sorted.siblings
put_all flow may_go_inside after sorted (nest ∷ others) =
    put_all flow may_go_inside after (put flow may_go_inside (all_entries others ++ after) sorted nest) others

-- ---- what stands in arms

abbrev pub nest_of : Inner → Nest
nest_of inner = inner.nest

-- what goes into an arm of a node
abbrev pub at_arm : ℕ → List Inner → List Nest
at_arm arm inside = map nest_of (filter (λ inner. inner.arm == arm) inside)

-- what goes behind the nodes of a list, each right behind the nest with its node
abbrev pub behind_nodes : List Nest → List Inner → List Nest
behind_nodes [] inside = map nest_of inside
behind_nodes (nest ∷ others) inside =
    nest ∷ map nest_of (filter (λ inner. is_in inner.node (nest_nodes nest)) inside)
    ++ behind_nodes others (filter (λ inner. not (is_in inner.node (nest_nodes nest))) inside)

-- how a list is sorted, where these are the entries of what comes behind it
abbrev pub Sort : Type 0
Sort = (after : List ℕ) → List Nest → Chain

-- the arms of a branch, from one on
abbrev pub arms_from : Sort → (after : List ℕ) → List Inner → (arm left : ℕ) → Chains
arms_from sort after inside arm zero = no_chains
arms_from sort after inside arm (suc left) = more_chains (sort after (at_arm arm inside)) (arms_from sort after inside (suc arm) left)

-- a nest with what goes inside, sorted
abbrev pub filled : FlowTree → Sort → (after : List ℕ) → Nest → List Inner → Nest
filled flow sort after (single node arms) inside = single node (arms_from sort after inside 0 (length (targets_of flow node)))
filled flow sort after (choice heads arms) inside = choice heads (arms_from sort after inside 0 (length heads))
filled flow sort after (group members) inside = group (sort after (behind_nodes (listed members) inside))
filled flow sort after (repeated head body) inside = repeated head (sort [] (behind_nodes (listed body) inside))
filled flow sort after (dispatched heads body) inside = dispatched heads (sort [] (behind_nodes (listed body) inside))

-- the entries of what comes behind a nest of a list
abbrev pub entries_behind : (after : List ℕ) → List Sibling → List ℕ
entries_behind after [] = after
entries_behind after (sibling ∷ others) = nest_entries sibling.nest

abbrev pub all_filled : FlowTree → Sort → (after : List ℕ) → List Sibling → List Ranked
all_filled flow sort after [] = []
all_filled flow sort after (sibling ∷ others) =
    record { nest = filled flow sort (entries_behind after others) sibling.nest sibling.inside; from = sibling.from } ∷ all_filled flow sort after others

-- ---- all lists

abbrev pub unfilled : Sibling → Ranked
unfilled sibling = record { nest = sibling.nest; from = sibling.from }

-- a list in which no nest goes into an arm
abbrev pub arranged : FlowTree → Sort
arranged flow after nests = chained (map unfilled (put_all flow false after nothing_sorted nests))

abbrev mutual
  -- a nest in whose lists no nest goes into an arm
  pub level : FlowTree → Nest → Nest
  level flow (single node arms) = single node no_chains
  level flow (choice heads arms) = choice heads no_chains
  level flow (group members) = group (arranged flow [] (all_level flow members))
  level flow (repeated head body) = repeated head (arranged flow [] (all_level flow body))
  level flow (dispatched heads body) = dispatched heads (arranged flow [] (all_level flow body))

  pub all_level : FlowTree → Chain → List Nest
  all_level flow no_nests = []
  all_level flow (more_nests nest others) = level flow nest ∷ all_level flow others

-- a list is sorted, and what goes inside of its nests, so deep
abbrev pub sorted_within : FlowTree → ℕ → Sort
sorted_within flow zero after nests = arranged flow after (map (level flow) nests)
sorted_within flow (suc depth) after nests =
    chained (all_filled flow (sorted_within flow depth) after (put_all flow true after nothing_sorted nests))

-- how deep nests stand in one another
abbrev pub most_depth : ℕ
most_depth = 30

-- the nests of a shape
abbrev pub nests_of : FlowTree → ShapeTree → Chain
nests_of flow shape = sorted_within flow most_depth [] (flat shape)
