-- Which flow a value of the declared types is.
use Rattle.std.specs.Prelude.{map, option_map}
use Rattle.rs_text.specs.Tree.{stmts}
use Rattle.rs_tree.specs.Views.{expr_view, stmt_view}
use Rattle.flow.specs.declared.flows.Branch.{Branch}
use Rattle.flow.specs.declared.flows.Branch.TheVariants as branch
use Rattle.flow.specs.declared.flows.Case.{Case}
use Rattle.flow.specs.declared.flows.Flow.{Flow}
use Rattle.flow.specs.declared.flows.FlowNode.{FlowNode}
use Rattle.flow.specs.Flows.{CaseTree, BranchTree, go, if_test, switch, gives, NodeTree, FlowTree}

abbrev pub case_view : Case → CaseTree
case_view one = record { value = one.value; to = one.to }

abbrev pub branch_view : Branch → BranchTree
branch_view (branch.Go to) = go to
branch_view (branch.If test if_true if_false) = if_test (expr_view test) if_true if_false
branch_view (branch.Switch on by cases other) = switch (record { on = expr_view on; by = by; cases = map case_view cases; other = other })
branch_view (branch.Return value) = gives (option_map expr_view value)

abbrev pub node_view : FlowNode → NodeTree
node_view node = record { body = stmts (map stmt_view node.body); last = branch_view node.last }

abbrev pub flow_view : Flow → FlowTree
flow_view flow = record { nodes = map node_view flow.nodes; entry = flow.entry }
