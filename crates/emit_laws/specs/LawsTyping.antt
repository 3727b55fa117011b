-- Laws of the text that is written from a flow and its shape: it is well typed where the nodes and branches of the flow are (the Rust Reference, "Statements and expressions").
use Rattle.std.specs.Prelude.{◌≡◌, ℕ, ◌^◌, ◌≤◌, ℤ, Bool, true, not, ◌&&◌, List, [], ◌∷◌, length, Option, Some}
use Rattle.std.specs.Ordering.{int_eq}
use Rattle.reloop.specs.Fits.{IsFit}
use Rattle.reloop.specs.Shapes.{ShapeTree, has_dispatch}
use Rattle.rs_text.specs.declared.integer.IntegerTy.{IntegerTy}
use Rattle.rs_text.specs.declared.integer.IntegerTy.TheVariants.{U32}
use Rattle.rs_text.specs.Tree.{Ty, Integer, Boolean}
use Rattle.rs_mean.specs.Typing.{Scope, BodyScope, own_type, is_of_type, place_type, kind_of, gives_type, matches, is_matched, stmts_typed}
use Rattle.flow.specs.Flows.{CaseTree, BranchTree, go, if_test, switch, gives, NodeTree, FlowTree, node_at, graph_of}
use Rattle.emit_rules.specs.Bodies.{emitted}
use Rattle.emit_rules.specs.Jumps.{current_block}
use Rattle.emit_laws.specs.LawsText.{NodesClosed}

-- cases with this value aren't among others
abbrev pub value_differs : ℤ → List CaseTree → Bool
value_differs value [] = true
value_differs value (one ∷ others) = not (int_eq value one.value) && value_differs value others

-- the values of cases are literals of the operand's type, and differ
abbrev pub cases_typed : Option Ty → IntegerTy → List CaseTree → Bool
cases_typed operand by [] = true
cases_typed operand by (one ∷ others) = matches operand one.value by && value_differs one.value others && cases_typed operand by others

-- a branch tests a `bool`, chooses by an integer, and gives back a value of the function's result type
abbrev pub branch_typed : Scope → Option Ty → BranchTree → Bool
branch_typed names result (go to) = true
branch_typed names result (if_test test if_true if_false) = is_of_type Boolean (kind_of names test)
branch_typed names result (switch choices) = is_matched (own_type (kind_of names choices.on)) && cases_typed (own_type (kind_of names choices.on)) choices.by choices.cases
branch_typed names result (gives value) = gives_type names result value

-- what the names of the body of a function stand for
abbrev pub whole_body : Scope → Option Ty → BodyScope
whole_body names result = record { names = names; result = result; labels = [] }

-- the statements of each node and its branch are well typed
pub record NodesTyped (names : Scope) (result : Option Ty) (flow : FlowTree) : Type 0 where
  pub bodies : (number : ℕ) (node : NodeTree) → node_at flow number ≡ Some node → stmts_typed (whole_body names result) node.body ≡ true
  pub branches : (number : ℕ) (node : NodeTree) → node_at flow number ≡ Some node → branch_typed names result node.last ≡ true

-- `current_block` is a `u32`, and so are the numbers of all nodes
pub record TellsTyped (names : Scope) (flow : FlowTree) : Type 0 where
  pub block : place_type names current_block ≡ Some (Integer U32)
  pub numbers : length flow.nodes ≤ 2 ^ 32

-- the text is well typed, and it has no labels around it
pub record TextTyped : Type 0 where
  pub typed : (names : Scope) (result : Option Ty) (flow : FlowTree) (shape : ShapeTree) → NodesTyped names result flow → IsFit (graph_of flow) shape → (has_dispatch shape ≡ true → TellsTyped names flow) →
      stmts_typed (whole_body names result) (emitted flow shape) ≡ true
  -- nodes that are well typed where no label is around break and continue to labels inside of themselves alone
  pub closed : (names : Scope) (result : Option Ty) (flow : FlowTree) → NodesTyped names result flow → NodesClosed flow
