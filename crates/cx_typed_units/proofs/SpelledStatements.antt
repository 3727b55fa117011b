-- Statements and declarations of spelled trees (ISO C99, 6.7, 6.8).
use Rattle.std.proofs.Common.{◌≡◌, false, List, [], ◌∷◌, Option, None, Some, refl}
use Rattle.std.specs.Prelude.{IfSome}
use Rattle.cx_rules.specs.declared.kinds.SpecsPlace.{SpecsPlace}
use Rattle.cx_rules.specs.declared.kinds.SpecsPlace.TheVariants.{Block as InBlock, ForClause}
use Rattle.cx_rules.specs.Declare.{is_outside}
use Rattle.cx_tree.specs.Trees.{OptionExprTree, no_expr, some_expr, InitialiserTree, InitDeclaratorTree, DeclTree, ForFirstTree, FirstValue, FirstDeclared, StmtTree, Label, Case, Default, Block, ExprStmt, If, Switch, While, Do, For, Goto, Continue, Break, Return, OptionStmtTree, no_stmt, some_stmt, Statement, Declared, ItemTrees, no_items, more_items}
use Rattle.cx_typed.proofs.Spelled.{spelled_trees}
use Rattle.cx_typed.specs.Spelled.{IsSpelledOption, IsSpelledInit}
use Rattle.cx_typed_units.proofs.Declarations.{declarations_go}
use Rattle.cx_typed_units.proofs.Filling.{initialisers_go}
use Rattle.cx_typed_units.proofs.Forms.{statements}
use Rattle.cx_typed_units.specs.Forms.{InitGoes, DeclaratorsGo, PartsGo, ElsePartsGo, ItemPartsGo}
use Rattle.cx_typed_units.specs.Spelled.{AreSpelledDeclarators, IsSpelledDecl, IsSpelledFirst, IsSpelledStmt, IsSpelledElse, AreSpelledItems, SpelledStatementsGo}
use Rattle.cx_typed_units.specs.Statements.{DeclGoes, OptionGoes, FirstGoes}

option_is : (tree : OptionExprTree) → IsSpelledOption tree → OptionGoes tree
option_is no_expr spelled = tt
option_is (some_expr one) spelled = spelled_trees.expressions one spelled

module _ (place : SpecsPlace) (outside : is_outside place ≡ false) where
  init_is : (init : Option InitialiserTree) → IfSome init IsSpelledInit → IfSome init (InitGoes place)
  init_is None spelled = tt
  init_is (Some init) spelled = initialisers_go place outside init (spelled_trees.initialisers init spelled) (spelled_trees.nowhere init spelled)

  declarators_are : (ds : List InitDeclaratorTree) → AreSpelledDeclarators ds → DeclaratorsGo place ds
  declarators_are [] spelled = tt
  declarators_are (d ∷ ds) spelled = (spelled_trees.declarators d.declarator spelled.0, init_is d.init spelled.1, declarators_are ds spelled.2)

  decl_is : (decl : DeclTree) → IsSpelledDecl decl → DeclGoes place decl
  decl_is decl spelled = declarations_go place decl (spelled_trees.specifiers decl.specs spelled.0, declarators_are decl.list spelled.1)

first_is : (tree : ForFirstTree) → IsSpelledFirst tree → FirstGoes tree
first_is (FirstValue value) spelled = option_is value spelled
first_is (FirstDeclared decl) spelled = decl_is ForClause refl decl spelled

mutual
  parts_are : (tree : StmtTree) → IsSpelledStmt tree → PartsGo tree
  parts_are (Label name inner lines) spelled = parts_are inner spelled
  parts_are (Case value inner lines) spelled = (spelled_trees.expressions value spelled.0, parts_are inner spelled.1)
  parts_are (Default inner lines) spelled = parts_are inner spelled
  parts_are (Block items lines) spelled = items_are items spelled
  parts_are (ExprStmt value lines) spelled = option_is value spelled
  parts_are (If condition branch otherwise lines) spelled = (spelled_trees.expressions condition spelled.0, parts_are branch spelled.1, else_is otherwise spelled.2)
  parts_are (Switch on body lines) spelled = (spelled_trees.expressions on spelled.0, parts_are body spelled.1)
  parts_are (While condition body lines) spelled = (spelled_trees.expressions condition spelled.0, parts_are body spelled.1)
  parts_are (Do body condition lines) spelled = (parts_are body spelled.0, spelled_trees.expressions condition spelled.1)
  parts_are (For first second third body lines) spelled = (first_is first spelled.0, option_is second spelled.1, option_is third spelled.2, parts_are body spelled.3)
  parts_are (Goto name lines) spelled = tt
  parts_are (Continue lines) spelled = tt
  parts_are (Break lines) spelled = tt
  parts_are (Return value lines) spelled = option_is value spelled

  else_is : (tree : OptionStmtTree) → IsSpelledElse tree → ElsePartsGo tree
  else_is no_stmt spelled = tt
  else_is (some_stmt inner) spelled = parts_are inner spelled

  items_are : (trees : ItemTrees) → AreSpelledItems trees → ItemPartsGo trees
  items_are no_items spelled = tt
  items_are (more_items (Statement inner) others) spelled = (parts_are inner spelled.0, items_are others spelled.1)
  items_are (more_items (Declared decl) others) spelled = (decl_is InBlock refl decl spelled.0, items_are others spelled.1)

pub spelled_statements : SpelledStatementsGo
spelled_statements = record {
  stmt = λ tree spelled. statements.stmt tree (parts_are tree spelled);
  items = λ trees spelled. statements.items trees (items_are trees spelled);
}
