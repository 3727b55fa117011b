-- The statements that are written from a flow and its shape.
use Rattle.std.specs.Prelude.{ℕ, suc, List, [], ◌∷◌, map, Option, Some, None, if◌then◌else◌}
use Rattle.reloop.specs.Graphs.{is_in}
use Rattle.reloop.specs.Shapes.{ShapeTree}
use Rattle.rs_mean.specs.Laws.{behind}
use Rattle.rs_text.specs.Tree.{Stmt, Return, Stmts, no_stmts, more_stmts}
use Rattle.flow.specs.Flows.{NodeTree, FlowTree, node_at, targets_of}
use Rattle.emit_rules.specs.Jumps.{Jumps, no_jumps, told, goes_to, jumps_before, jumps_within}
use Rattle.emit_rules.specs.Labels.{numbered}
use Rattle.emit_rules.specs.Nests.{Nest, single, choice, group, repeated, dispatched, Chain, no_nests, more_nests, Chains, no_chains, more_chains, chain_entries, chain_is_told}
use Rattle.emit_rules.specs.Sorting.{nests_of}
use Rattle.emit_rules.specs.Texts.{one_stmt, choice_stmts, branch_stmts, block_then, loop_of}

-- a node's statements, and its branch with the statements that stand at each of its targets
abbrev pub node_stmts : Option NodeTree → List Stmts → Stmts
node_stmts None texts = no_stmts
node_stmts (Some node) texts = behind node.body (branch_stmts node.last texts)

-- what stands in an arm that goes to a node: the nests that are entered there, or a way to it
abbrev pub arm_stmts : Jumps → (target : ℕ) → Chain → Stmts → Stmts
arm_stmts jumps target inner text =
    if is_in target (chain_entries inner) then told (chain_is_told inner) target text else goes_to jumps target

-- the number of a label in front of these nests, if there are some, is taken
abbrev pub label_within : ℕ → Chain → ℕ
label_within label no_nests = label
label_within label (more_nests second others) = suc label

-- jumps in front of these nests
abbrev pub jumps_in_front : ℕ → Chain → Jumps → Jumps
jumps_in_front label no_nests jumps = jumps
jumps_in_front label (more_nests second others) jumps = jumps_before label second jumps

-- the statements of a nest, and behind them those of the others, if there are some
abbrev pub then_others : ℕ → Chain → (first others : Stmts) → Stmts
then_others label no_nests first others = first
then_others label (more_nests second rest) first others = block_then label first others

abbrev mutual
  -- the statements of a nest, whose labels have this number or greater ones
  pub nest_stmts : FlowTree → Nest → (label : ℕ) → Jumps → Stmts
  nest_stmts flow (single node arms) label jumps = node_stmts (node_at flow node) (arms_stmts flow arms label jumps (targets_of flow node))
  nest_stmts flow (choice heads arms) label jumps = choice_stmts heads (arms_stmts flow arms label jumps heads)
  nest_stmts flow (group members) label jumps = chain_stmts flow members label jumps
  nest_stmts flow (repeated head body) label jumps =
      one_stmt (loop_of label (chain_stmts flow body (suc label) (jumps_within label (head ∷ []) (chain_is_told body) jumps)))
  nest_stmts flow (dispatched heads body) label jumps =
      one_stmt (loop_of label (chain_stmts flow body (suc label) (jumps_within label heads (chain_is_told body) jumps)))

  pub chain_stmts : FlowTree → Chain → (label : ℕ) → Jumps → Stmts
  chain_stmts flow no_nests label jumps = no_stmts
  chain_stmts flow (more_nests first others) label jumps =
      then_others label others (nest_stmts flow first (label_within label others) (jumps_in_front label others jumps)) (chain_stmts flow others label jumps)

  -- what stands in each arm, by its target
  pub arms_stmts : FlowTree → Chains → (label : ℕ) → Jumps → (targets : List ℕ) → List Stmts
  arms_stmts flow no_chains label jumps targets = map (goes_to jumps) targets
  arms_stmts flow (more_chains inner others) label jumps [] = []
  arms_stmts flow (more_chains inner others) label jumps (target ∷ targets) =
      arm_stmts jumps target inner (chain_stmts flow inner label jumps) ∷ arms_stmts flow others label jumps targets

abbrev pub without_return : Stmt → Stmts
without_return (Return None) = no_stmts
without_return s = one_stmt s

-- without a `return;` at the end
abbrev pub without_last_return : Stmts → Stmts
without_last_return no_stmts = no_stmts
without_last_return (more_stmts s no_stmts) = without_return s
without_last_return (more_stmts s (more_stmts other others)) = more_stmts s (without_last_return (more_stmts other others))

-- the statements of nests, whose labels aren't numbered by depth
abbrev pub draft_of : FlowTree → Chain → Stmts
draft_of flow nests = told (chain_is_told nests) flow.entry (chain_stmts flow nests 0 no_jumps)

-- the statements of the body of a function
abbrev pub body_of : FlowTree → Chain → Stmts
body_of flow nests = without_last_return (numbered [] (draft_of flow nests))

-- the statements that are written from a flow and its shape
abbrev pub emitted : FlowTree → ShapeTree → Stmts
emitted flow shape = body_of flow (nests_of flow shape)
