-- Statements whose expressions and declarations go (ISO C99, 6.8).
use Rattle.std.specs.Prelude.{◌≡◌, ℕ, true, false, List, [], ◌∷◌, Some, IfSome}
use Rattle.cx_core.specs.Trees.{CTy}
use Rattle.cx_rules.specs.declared.kinds.SpecsPlace.{SpecsPlace}
use Rattle.cx_rules.specs.declared.kinds.SpecsPlace.TheVariants.{Block as InBlock}
use Rattle.cx_rules.specs.Declare.{is_outside}
use Rattle.cx_rules.specs.Readings.{Seen, seen_gives, seen_chain, seen_here, seen_becomes, seen_look}
use Rattle.cx_rules.specs.Scope.{CScope}
use Rattle.cx_rules.specs.Shapes.{CSpecs, CShape}
use Rattle.cx_rules.specs.UnitWalk as unit
use Rattle.cx_tree.specs.Trees.{InitialiserTree, InitDeclaratorTree, DeclTree, StmtTree, Label, Case, Default, Block, ExprStmt, If, Switch, While, Do, For, Goto, Continue, Break, Return, OptionStmtTree, no_stmt, some_stmt, Statement, Declared, ItemTrees, no_items, more_items}
use Rattle.cx_typed.specs.Declarators.{ShapeGoes}
use Rattle.cx_typed.specs.Initialised.{InitialiserGoes, NothingToFill}
use Rattle.cx_typed.specs.Operands.{IsKnownType}
use Rattle.cx_typed.specs.Specifiers.{SpecsGo}
use Rattle.cx_typed.specs.Walked.{IsGood, Ends, ExprGoes}
use Rattle.cx_typed_units.specs.Statements.{StmtGoes, ItemsGo, IsDeclaration, DeclGoes, OptionGoes, FirstGoes}
use Rattle.cx_typed_units.specs.Stretches.{IsOrderly}

abbrev mutual
  -- its expressions, and the declarations of its blocks
  pub PartsGo : StmtTree → Type 0
  PartsGo (Label name inner lines) = PartsGo inner
  PartsGo (Case value inner lines) = ExprGoes value × PartsGo inner
  PartsGo (Default inner lines) = PartsGo inner
  PartsGo (Block items lines) = ItemPartsGo items
  PartsGo (ExprStmt value lines) = OptionGoes value
  PartsGo (If condition branch otherwise lines) = ExprGoes condition × PartsGo branch × ElsePartsGo otherwise
  PartsGo (Switch on body lines) = ExprGoes on × PartsGo body
  PartsGo (While condition body lines) = ExprGoes condition × PartsGo body
  PartsGo (Do body condition lines) = PartsGo body × ExprGoes condition
  PartsGo (For first second third body lines) = FirstGoes first × OptionGoes second × OptionGoes third × PartsGo body
  PartsGo (Goto name lines) = Unit {0}
  PartsGo (Continue lines) = Unit {0}
  PartsGo (Break lines) = Unit {0}
  PartsGo (Return value lines) = OptionGoes value

  pub ElsePartsGo : OptionStmtTree → Type 0
  ElsePartsGo no_stmt = Unit {0}
  ElsePartsGo (some_stmt inner) = PartsGo inner

  pub ItemPartsGo : ItemTrees → Type 0
  ItemPartsGo no_items = Unit {0}
  ItemPartsGo (more_items (Statement inner) others) = PartsGo inner × ItemPartsGo others
  ItemPartsGo (more_items (Declared decl) others) = DeclGoes InBlock decl × ItemPartsGo others

-- where they go, the statement does, and what stands in a block
pub record StatementsGo : Type 0 where
  pub stmt : (tree : StmtTree) → PartsGo tree → StmtGoes tree
  pub items : (trees : ItemTrees) → ItemPartsGo trees → ItemsGo trees

-- ---- declarations in blocks (6.7)

-- a declarator whose initialiser goes so
abbrev pub InitGoes : SpecsPlace → InitialiserTree → Type 0
InitGoes place init = (opens : List ℕ) (specs : CSpecs) (line : ℕ) (written : CTy) (shape : CShape) (scope : CScope) → IsGood opens scope → IsOrderly opens scope → scope.in_function ≡ true
    → IsKnownType opens scope.types scope.unit written
    → Ends (unit.named_walk Seen seen_gives seen_chain seen_here seen_becomes seen_look place specs line written shape (Some init)) scope (IsDeclaration opens scope)

abbrev pub DeclaratorsGo : SpecsPlace → List InitDeclaratorTree → Type 0
DeclaratorsGo place [] = Unit {0}
DeclaratorsGo place (d ∷ ds) = ShapeGoes d.declarator × IfSome d.init (InitGoes place) × DeclaratorsGo place ds

abbrev pub DeclPartsGo : SpecsPlace → DeclTree → Type 0
DeclPartsGo place decl = SpecsGo decl.specs × DeclaratorsGo place decl.list

-- where its specifiers, its declarators and their initialisers go so, a declaration in a block does
abbrev pub DeclarationsGo : Type 0
DeclarationsGo = (place : SpecsPlace) (decl : DeclTree) → DeclPartsGo place decl → DeclGoes place decl

-- so a declarator does whose initialiser is walked so (6.7.8)
abbrev pub InitialisersGo : Type 0
InitialisersGo = (place : SpecsPlace) → is_outside place ≡ false → (init : InitialiserTree) → InitialiserGoes init → NothingToFill init → InitGoes place init
