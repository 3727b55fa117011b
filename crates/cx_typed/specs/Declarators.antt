-- What declarators and type names give where the walk over them finds no broken node (ISO C99, 6.7.5, 6.7.6).
use Rattle.std.specs.Prelude.{◌≡◌, ℕ, List}
use Rattle.cx_lex.specs.declared.token.Keyword.{Keyword}
use Rattle.cx_rules.specs.Readings.{Seen, seen_gives, seen_chain, seen_here, seen_becomes, seen_look}
use Rattle.cx_rules.specs.Scope.{CScope}
use Rattle.cx_rules.specs.Shapes.{CShape, CStep}
use Rattle.cx_rules.specs.Walk as walk
use Rattle.cx_tree.specs.Trees.{ExprTree, TypeName, SpecTrees, DeclaratorTree, Missing, Identifier, Group, Pointer, Array, Identifiers, BracketsTree, Unsized, Length, StaticFirst, StaticLast, Star}
use Rattle.cx_typed.specs.Derived.{IsKnownStep, AreKnownSteps}
use Rattle.cx_typed.specs.Scopes.{Passes}
use Rattle.cx_typed.specs.Specifiers.{SpecsGo}
use Rattle.cx_typed.specs.Walked.{IsGood, Ends, ExprGoes, TypeNameGoes}

-- the steps of a declarator are known
pub record IsShape (opens : List ℕ) (before : CScope) (shape : CShape) (after : CScope) : Type 0 where
  pub good : IsGood opens after
  pub passes : Passes opens before after
  pub makes_none : after.literals ≡ before.literals
  pub known : AreKnownSteps opens after.types after.unit shape.steps

pub record IsStep (opens : List ℕ) (before : CScope) (step : CStep) (after : CScope) : Type 0 where
  pub good : IsGood opens after
  pub passes : Passes opens before after
  pub makes_none : after.literals ≡ before.literals
  pub known : IsKnownStep opens after.types after.unit step

abbrev pub ShapeGoes : DeclaratorTree → Type 0
ShapeGoes tree = (opens : List ℕ) (scope : CScope) → IsGood opens scope
    → Ends (walk.declarator_walk Seen seen_gives seen_chain seen_here seen_becomes seen_look tree) scope (IsShape opens scope)

abbrev pub BracketsGo : BracketsTree → Type 0
BracketsGo tree = (opens : List ℕ) (line : ℕ) (scope : CScope) → IsGood opens scope
    → Ends (walk.brackets_walk Seen seen_gives seen_chain seen_here seen_becomes seen_look line tree) scope (IsStep opens scope)

-- all but parameters
pub record DeclaratorFormsGo : Type 0 where
  pub missing : ShapeGoes Missing
  pub identifier : (name lines : List ℕ) → ShapeGoes (Identifier name lines)
  pub group : (inner : DeclaratorTree) (lines : List ℕ) → ShapeGoes inner → ShapeGoes (Group inner lines)
  pub pointer : (qualifiers : List Keyword) (of : DeclaratorTree) (lines : List ℕ) → ShapeGoes of → ShapeGoes (Pointer qualifiers of lines)
  pub array : (of : DeclaratorTree) (brackets : BracketsTree) (lines : List ℕ) → ShapeGoes of → BracketsGo brackets → ShapeGoes (Array of brackets lines)
  pub identifiers : (of : DeclaratorTree) (names : List (List ℕ)) (lines : List ℕ) → ShapeGoes of → ShapeGoes (Identifiers of names lines)
  pub unsized : (qualifiers : List Keyword) → BracketsGo (Unsized qualifiers)
  pub length : (qualifiers : List Keyword) (size : ExprTree) → ExprGoes size → BracketsGo (Length qualifiers size)
  pub static_first : (qualifiers : List Keyword) (size : ExprTree) → ExprGoes size → BracketsGo (StaticFirst qualifiers size)
  pub static_last : (qualifiers : List Keyword) (size : ExprTree) → ExprGoes size → BracketsGo (StaticLast qualifiers size)
  pub star : (qualifiers : List Keyword) → BracketsGo (Star qualifiers)
  pub type_name : (specs : SpecTrees) (declarator : DeclaratorTree) (lines : List ℕ) → SpecsGo specs → ShapeGoes declarator → TypeNameGoes (TypeName specs declarator lines)
