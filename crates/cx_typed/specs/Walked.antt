-- What the walk over an expression gives where it finds no broken node (ISO C99, 6.5).
use Rattle.std.specs.Prelude.{◌≡◌, ℕ, true, List, None, Some}
use Rattle.cx_core.specs.Trees.{CTy}
use Rattle.cx_core.specs.Typing.{CHome}
use Rattle.cx_rules.specs.Meanings.{name_meaning}
use Rattle.cx_rules.specs.Operands.{COperand, value_of}
use Rattle.cx_rules.specs.Pieces.{at_line, is_name, used}
use Rattle.cx_rules.specs.Readings.{Seen, seen_gives, seen_chain, seen_here, seen_becomes, seen_look, first_broken}
use Rattle.cx_rules.specs.Scope.{CMeant, CTag, CScope, ordinary, tag}
use Rattle.cx_rules.specs.Units.{seen_expr, seen_type_name}
use Rattle.cx_rules.specs.Walk as walk
use Rattle.cx_tree.specs.Trees.{ExprTree, ExprTrees, TypeNameTree}
use Rattle.cx_typed.specs.Constants.{IsOfNumbers}
use Rattle.cx_typed.specs.Names.{IsKnownMeant, IsKnownTag}
use Rattle.cx_typed.specs.Nodes.{EachOf}
use Rattle.cx_typed.specs.Operands.{IsKnownType, IsOperandType, IsTypedOperand}
use Rattle.cx_typed.specs.Scopes.{Serves, Passes, AreTypedLiterals}
use Rattle.cx_typed.specs.Sound.{AreSound}

-- the types of the unit so far are sound, and what is declared is known by them
pub record IsGood (opens : List ℕ) (scope : CScope) : Type 0 where
  pub sound : AreSound opens scope.types scope.unit
  pub known : (name : List ℕ) (meant : CMeant) → ordinary name scope.declared ≡ Some meant → IsKnownMeant opens scope.types scope.unit meant
  pub tags : (name : List ℕ) (one : CTag) → tag name scope.declared ≡ Some one → IsKnownTag opens scope.types scope.unit name one

-- where nothing that is seen is broken, this holds of the meaning and of the scope behind
pub record Ends {A : Type 0} (seen : Seen A) (scope : CScope) (Post : A → CScope → Type 0) : Type 0 where
  pub ends : first_broken (seen scope).nodes ≡ None → Post (seen scope).meaning (seen scope).scope

-- a name means what the newest declaration says, and is mentioned
pub record IsNameOf (before : CScope) (operand : COperand) (after : CScope) : Type 0 where
  pub name : List ℕ
  pub line : ℕ
  pub operand_is : operand ≡ name_meaning (at_line before line) (ordinary name before.declared)
  pub after_is : after ≡ used line name (ordinary name before.declared) before

-- the meaning of an expression is known by the types of the unit so far, and typed in each program that serves what was named and made in it
pub record IsExpr (opens : List ℕ) (tree : ExprTree) (before : CScope) (operand : COperand) (after : CScope) : Type 0 where
  pub good : IsGood opens after
  pub passes : Passes opens before after
  pub known : IsOperandType opens after.types after.unit operand
  pub typed : (home : CHome) → Serves home opens before after → IsTypedOperand home operand
  pub named : is_name tree ≡ true → IsNameOf before operand after
  pub made : AreTypedLiterals opens before after
  -- a constant has no literals but those of which it asks the size
  pub makes_none : IsOfNumbers (value_of operand) → after.literals ≡ before.literals

-- so are the meanings of expressions one behind the other
pub record AreExprs (opens : List ℕ) (before : CScope) (operands : List COperand) (after : CScope) : Type 0 where
  pub good : IsGood opens after
  pub passes : Passes opens before after
  pub known : EachOf (IsOperandType opens after.types after.unit) operands
  pub typed : (home : CHome) → Serves home opens before after → EachOf (IsTypedOperand home) operands
  pub made : AreTypedLiterals opens before after
  pub makes_none : EachOf (λ operand. IsOfNumbers (value_of operand)) operands → after.literals ≡ before.literals

pub record IsTypeName (opens : List ℕ) (before : CScope) (type : CTy) (after : CScope) : Type 0 where
  pub good : IsGood opens after
  pub passes : Passes opens before after
  pub makes_none : after.literals ≡ before.literals
  pub known : IsKnownType opens after.types after.unit type

abbrev pub ExprGoes : ExprTree → Type 0
ExprGoes tree = (opens : List ℕ) (scope : CScope) → IsGood opens scope → Ends (seen_expr tree) scope (IsExpr opens tree scope)

-- the arguments of a call
abbrev pub ArgsGo : ExprTrees → Type 0
ArgsGo trees = (opens : List ℕ) (scope : CScope) → IsGood opens scope
    → Ends (walk.exprs_walk Seen seen_gives seen_chain seen_here seen_becomes seen_look trees) scope (AreExprs opens scope)

abbrev pub TypeNameGoes : TypeNameTree → Type 0
TypeNameGoes tree = (opens : List ℕ) (scope : CScope) → IsGood opens scope → Ends (seen_type_name tree) scope (IsTypeName opens scope)
