-- Flows: the body of a function as nodes, each some statements and a branch (ISO C99, 6.8: control goes from one full expression, declaration or jump to
-- the next).
use Rattle.std.specs.Prelude.{ℕ, ◌<◌, ℤ, List, [], ◌∷◌, ◌++◌, length, map, Option, Some, None, slice_get}
use Rattle.reloop.specs.Graphs.{FlowGraph, IsIn}
use Rattle.rs_text.specs.declared.integer.IntegerTy.{IntegerTy}
use Rattle.rs_text.specs.Tree.{Expr, Stmts}

-- a value, and the node to which control goes where the operand has it
pub record CaseTree : Type 0 where
  pub value : ℤ
  pub to : ℕ

-- a choice by the value of an operand
pub record SwitchTree : Type 0 where
  pub on : Expr
  -- the integer type of the operand
  pub by : IntegerTy
  pub cases : List CaseTree
  -- the node to which control goes where the operand has another value
  pub other : ℕ

-- how control leaves a node
pub data BranchTree : Type 0 where
  go : (to : ℕ) → BranchTree
  if_test : Expr → (if_true if_false : ℕ) → BranchTree
  switch : SwitchTree → BranchTree
  -- the function gives back a value, if any
  gives : Option Expr → BranchTree

-- a node: its statements run, then its branch
pub record NodeTree : Type 0 where
  pub body : Stmts
  pub last : BranchTree

-- a flow: its nodes by their numbers from 0 on, and the node that is entered first
pub record FlowTree : Type 0 where
  pub nodes : List NodeTree
  pub entry : ℕ

-- the nodes to which the cases go
abbrev pub case_targets : List CaseTree → List ℕ
case_targets cases = map (λ (one : CaseTree). one.to) cases

-- The nodes to which a branch goes, in its order: the true side of a test before the false one, cases in their order and then the other values. A node to
-- which it goes twice is listed twice.
abbrev pub targets : BranchTree → List ℕ
targets (go to) = to ∷ []
targets (if_test test if_true if_false) = if_true ∷ if_false ∷ []
targets (switch choice) = case_targets choice.cases ++ choice.other ∷ []
targets (gives value) = []

-- those of a node
abbrev pub node_targets : NodeTree → List ℕ
node_targets node = targets node.last

-- the node of a number
abbrev pub node_at : FlowTree → ℕ → Option NodeTree
node_at flow number = slice_get flow.nodes number

abbrev pub targets_in : Option NodeTree → List ℕ
targets_in None = []
targets_in (Some node) = node_targets node

-- the nodes to which the node of a number goes
abbrev pub targets_of : FlowTree → ℕ → List ℕ
targets_of flow number = targets_in (node_at flow number)

-- the graph of a flow: each node's row lists the targets of its branch, in its order
abbrev pub graph_of : FlowTree → FlowGraph
graph_of flow = record { next = map node_targets flow.nodes; entry = flow.entry }

-- the entry and the targets of all branches are nodes
pub record IsClosed (flow : FlowTree) : Type 0 where
  pub entry : flow.entry < length flow.nodes
  pub targets : (number to : ℕ) → IsIn to (targets_of flow number) → to < length flow.nodes
