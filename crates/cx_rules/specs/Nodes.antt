-- The nodes of a unit, each with what its children mean.
use Rattle.std.specs.Prelude.{ℕ, ℤ, Bool, List, Option}
use Rattle.cx_core.specs.declared.expr.Op1.{Op1}
use Rattle.cx_core.specs.declared.expr.Op2.{Op2}
use Rattle.cx_core.specs.declared.program.Linkage.{Linkage}
use Rattle.cx_core.specs.Trees.{CTy, CMember}
use Rattle.cx_rules.specs.declared.kinds.SpecsPlace.{SpecsPlace}
use Rattle.cx_rules.specs.Operands.{COperand}
use Rattle.cx_rules.specs.Scope.{CMeant, CScope, CTag}
use Rattle.cx_rules.specs.Shapes.{CSpecs, CStep}

-- a value in an initialiser, or a list in braces (6.7.8): the value, where it is one; whether there is a place for it, whether it may
-- be assigned there, and whether it is a constant where one is needed
pub record CGivenFacts : Type 0 where
  pub value : Option COperand
  pub has_place : Bool
  pub is_assignable : Bool
  pub is_constant : Bool

-- a declarator of a declaration, behind its initialiser (6.7)
pub record CDeclaredFacts : Type 0 where
  pub where_stands : SpecsPlace
  pub specs : CSpecs
  -- the type that it has then
  pub type : CTy
  pub linkage : Linkage
  -- whether another declaration stood in its way when its scope began
  pub clashes : Bool
  pub has_init : Bool

-- the head of a function definition (6.9.1)
pub record CHeadFacts : Type 0 where
  pub specs : CSpecs
  pub type : CTy
  pub steps : List CStep
  pub clashes : Bool

pub data CNode : Type 0 where
  -- expressions (6.5)
  name_node : (meant : Option CMeant) → CNode
  -- a string literal, or a compound literal behind what is stored in it
  literal_node : (type : CTy) → CNode
  index_node : (of index : COperand) → CNode
  call_node : (callee : COperand) → (args : List COperand) → CNode
  dot_node : (of : COperand) → (name : List ℕ) → CNode
  arrow_node : (of : COperand) → (name : List ℕ) → CNode
  -- `++` and `--`, behind the operand or in front of it
  step_node : (on : COperand) → CNode
  address_node : (of : COperand) → CNode
  deref_node : (of : COperand) → CNode
  unary_node : Op1 → (on : COperand) → CNode
  sizeof_expr_node : (of : COperand) → CNode
  sizeof_type_node : (type : CTy) → CNode
  cast_node : (type : CTy) → (on : COperand) → CNode
  binary_node : Op2 → (left right : COperand) → CNode
  -- `&&` and `||`
  tests_node : (left right : COperand) → CNode
  cond_node : (test first second : COperand) → CNode
  assign_node : (target value : COperand) → CNode
  assign_by_node : Op2 → (target value : COperand) → CNode
  comma_node : (first second : COperand) → CNode
  -- specifiers (6.7.1 to 6.7.4)
  specs_node : SpecsPlace → CSpecs → CNode
  -- a structure or union without a list, and the visible declaration of its tag
  record_use_node : (is_union : Bool) → (found : Option CTag) → CNode
  -- a list of members has ended: the declaration of its tag that stood in the same scope, the number and the members
  record_node : (is_union : Bool) → (found : Option CTag) → (number : ℕ) → (members : List CMember) → CNode
  -- an enumerated type without a list, and the visible declaration of its tag
  enum_use_node : (found : Option CTag) → CNode
  -- a list of enumerators has ended: the declaration of its tag that stood in the same scope
  enum_node : (found : Option CTag) → CNode
  -- an enumerator: its value as it is written, and as it is
  enumerator_node : (name : List ℕ) → (written : Option COperand) → (value : ℤ) → CNode
  -- a member: whether it is the last one of its record, its width as it is written, and the members before it
  member_node : (is_last : Bool) → (name : Option (List ℕ)) → (type : CTy) → (width : Option COperand) → (before : List CMember) → CNode
  -- declarators (6.7.5): an array, plain where nothing but a length stands in its brackets
  array_node : (is_plain : Bool) → (length : Option COperand) → CNode
  identifiers_node : (names : List (List ℕ)) → CNode
  -- a whole declarator: the type of its specifiers, and the steps from it
  derives_node : (from : CTy) → (steps : List CStep) → CNode
  -- a parameter: whether it is the only one, its name, and its type before it is adjusted
  param_node : (is_only : Bool) → CSpecs → (name : Option (List ℕ)) → (type : CTy) → CNode
  -- initialisers (6.7.8)
  given_node : CGivenFacts → CNode
  element_node : (index : COperand) → (has_place : Bool) → CNode
  designated_node : (has_place : Bool) → CNode
  -- declarations (6.7, 6.9.1)
  declares_node : CDeclaredFacts → CNode
  -- a declaration without declarators
  empty_node : CSpecs → CNode
  head_node : CHeadFacts → CNode
  -- the end of a unit, for an object that has a tentative definition (6.9.2p2)
  tentative_node : (type : CTy) → CNode
  -- statements (6.8)
  label_node : (name : List ℕ) → (before : List (List ℕ)) → CNode
  -- the type of the innermost `switch`, and the values of its labels before
  case_node : (switch : Option CTy) → (value : COperand) → (before : List ℤ) → CNode
  default_node : (switch : Option CTy) → (before : Bool) → CNode
  dropped_node : (value : COperand) → CNode
  controls_node : (value : COperand) → CNode
  switch_node : (value : COperand) → CNode
  goto_node : (name : List ℕ) → (labels : List (List ℕ)) → CNode
  -- `continue` or `break`, and whether it stands in its statement
  jump_node : (is_inside : Bool) → CNode
  return_node : (result : CTy) → (value : Option COperand) → CNode

-- a node, with the scope in which it stands and the line of its first token
pub record CPlaced : Type 0 where
  pub scope : CScope
  pub line : ℕ
  pub node : CNode
