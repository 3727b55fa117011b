-- What nodes of expressions mean is typed, where they break no rule and their operands are typed (ISO C99, 6.5).
use Rattle.std.specs.Prelude.{◌≡◌, ℕ, Bool, false, List, [], ◌∷◌}
use Rattle.cr_base.specs.declared.refusal.Place.{Place as TextPlace}
use Rattle.cx_core.specs.declared.expr.Op1.{Op1}
use Rattle.cx_core.specs.declared.expr.Op2.{Op2}
use Rattle.cx_core.specs.Trees.{CTy, CTypes}
use Rattle.cx_core.specs.Typing.{CHome}
use Rattle.cx_rules.specs.Meanings.{unary_meaning, deref_meaning, address_meaning, and_meaning, or_meaning, comma_meaning, binary_meaning, index_meaning, cond_meaning, assign_meaning, assign_by_meaning, step_meaning, cast_meaning, dot_meaning, arrow_meaning, is_comparison}
use Rattle.cx_rules.specs.Nodes.{CNode, unary_node, deref_node, address_node, tests_node, comma_node, binary_node, index_node, cond_node, assign_node, assign_by_node, step_node, cast_node, dot_node, arrow_node}
use Rattle.cx_rules.specs.Operands.{COperand, value_of}
use Rattle.cx_rules.specs.Scope.{CScope}
use Rattle.cx_typed.specs.Growth.{Grows}
use Rattle.cx_typed.specs.Operands.{IsKnownType, IsOperandType, IsTypedOperand}
use Rattle.cx_typed.specs.Sound.{AreSound}
use Rattle.cx_typed.specs.Unbroken.{IsUnbroken}

-- P holds of each operand
abbrev pub EachOf : (COperand → Type 0) → List COperand → Type 0
EachOf P [] = Unit {0}
EachOf P (one ∷ others) = P one × EachOf P others

-- where a node stands: the number of its unit, the enumerated types whose lists haven't ended, its scope, the types of the unit so far, and the
-- place in the text
pub record CStanding : Type 0 where
  pub unit : ℕ
  pub opens : List ℕ
  pub scope : CScope
  pub types : CTypes
  pub at : TextPlace

abbrev pub IsKnownOperand : CStanding → COperand → Type 0
IsKnownOperand standing operand = IsOperandType standing.opens standing.types standing.unit operand

-- where operands are known by the types of their unit, so is what a node means; and where they are typed in a program whose types have
-- grown from these, so is that
pub record MeansTyped (standing : CStanding) (node : CNode) (operands : List COperand) (meaning : COperand) : Type 0 where
  pub known : AreSound standing.opens standing.types standing.unit → IsUnbroken standing.scope standing.types node
      → EachOf (IsKnownOperand standing) operands → IsKnownOperand standing meaning
  pub typed : (home : CHome) → home.unit ≡ standing.unit → Grows standing.opens standing.types home.program.types
      → AreSound standing.opens standing.types standing.unit → IsUnbroken standing.scope standing.types node
      → EachOf (IsKnownOperand standing) operands → EachOf (IsTypedOperand home) operands → IsTypedOperand home meaning

-- the operators, assignments, casts, members and elements
pub record OperatorsAreTyped (standing : CStanding) : Type 0 where
  pub unary : (op : Op1) (on : COperand) → MeansTyped standing (unary_node op on) (on ∷ []) (unary_meaning standing.at standing.types op on)
  pub follows : (on : COperand) → MeansTyped standing (deref_node on) (on ∷ []) (deref_meaning standing.at (value_of on))
  pub address : (of : COperand) → MeansTyped standing (address_node of) (of ∷ []) (address_meaning standing.at of)
  pub both : (left right : COperand) → MeansTyped standing (tests_node left right) (left ∷ right ∷ []) (and_meaning standing.at left right)
  pub either : (left right : COperand) → MeansTyped standing (tests_node left right) (left ∷ right ∷ []) (or_meaning standing.at left right)
  pub comma : (first second : COperand) → MeansTyped standing (comma_node first second) (first ∷ second ∷ []) (comma_meaning standing.at first second)
  pub binary : (op : Op2) (left right : COperand) → MeansTyped standing (binary_node op left right) (left ∷ right ∷ []) (binary_meaning standing.at standing.types op left right)
  pub index : (of index : COperand) → MeansTyped standing (index_node of index) (of ∷ index ∷ []) (index_meaning standing.at standing.types of index)
  pub choice : (test first second : COperand)
      → MeansTyped standing (cond_node test first second) (test ∷ first ∷ second ∷ []) (cond_meaning standing.at standing.types test first second)
  pub assign : (target value : COperand) → MeansTyped standing (assign_node target value) (target ∷ value ∷ []) (assign_meaning standing.at standing.types target value)
  -- the operator of a compound assignment is no comparison (6.5.16p1)
  pub assign_by : (op : Op2) → is_comparison op ≡ false → (target value : COperand)
      → MeansTyped standing (assign_by_node op target value) (target ∷ value ∷ []) (assign_by_meaning standing.at standing.types op target value)
  pub step : (up post : Bool) (on : COperand) → MeansTyped standing (step_node on) (on ∷ []) (step_meaning standing.at up post on)
  pub cast : (type : CTy) → IsKnownType standing.opens standing.types standing.unit type → (on : COperand)
      → MeansTyped standing (cast_node type on) (on ∷ []) (cast_meaning standing.at standing.types type on)
  pub dot : (of : COperand) (name : List ℕ) → MeansTyped standing (dot_node of name) (of ∷ []) (dot_meaning standing.at standing.types of name)
  pub arrow : (of : COperand) (name : List ℕ) → MeansTyped standing (arrow_node of name) (of ∷ []) (arrow_meaning standing.at standing.types of name)
