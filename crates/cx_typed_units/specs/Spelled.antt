-- Statements and declarations whose expressions, specifiers, declarators and initialisers are spelled as tokens spell them (ISO C99, 6.7, 6.8).
use Rattle.std.specs.Prelude.{List, [], ◌∷◌, IfSome}
use Rattle.cx_tree.specs.Trees.{InitDeclaratorTree, DeclTree, ForFirstTree, FirstValue, FirstDeclared, StmtTree, Label, Case, Default, Block, ExprStmt, If, Switch, While, Do, For, Goto, Continue, Break, Return, OptionStmtTree, no_stmt, some_stmt, Statement, Declared, ItemTrees, no_items, more_items}
use Rattle.cx_typed.specs.Spelled.{IsSpelled, IsSpelledOption, AreSpelledSpecs, IsSpelledDeclarator, IsSpelledInit}
use Rattle.cx_typed_units.specs.Statements.{StmtGoes, ItemsGo}

abbrev pub AreSpelledDeclarators : List InitDeclaratorTree → Type 0
AreSpelledDeclarators [] = Unit {0}
AreSpelledDeclarators (d ∷ ds) = IsSpelledDeclarator d.declarator × IfSome d.init IsSpelledInit × AreSpelledDeclarators ds

abbrev pub IsSpelledDecl : DeclTree → Type 0
IsSpelledDecl decl = AreSpelledSpecs decl.specs × AreSpelledDeclarators decl.list

abbrev pub IsSpelledFirst : ForFirstTree → Type 0
IsSpelledFirst (FirstValue value) = IsSpelledOption value
IsSpelledFirst (FirstDeclared decl) = IsSpelledDecl decl

abbrev mutual
  pub IsSpelledStmt : StmtTree → Type 0
  IsSpelledStmt (Label name inner lines) = IsSpelledStmt inner
  IsSpelledStmt (Case value inner lines) = IsSpelled value × IsSpelledStmt inner
  IsSpelledStmt (Default inner lines) = IsSpelledStmt inner
  IsSpelledStmt (Block items lines) = AreSpelledItems items
  IsSpelledStmt (ExprStmt value lines) = IsSpelledOption value
  IsSpelledStmt (If condition branch otherwise lines) = IsSpelled condition × IsSpelledStmt branch × IsSpelledElse otherwise
  IsSpelledStmt (Switch on body lines) = IsSpelled on × IsSpelledStmt body
  IsSpelledStmt (While condition body lines) = IsSpelled condition × IsSpelledStmt body
  IsSpelledStmt (Do body condition lines) = IsSpelledStmt body × IsSpelled condition
  IsSpelledStmt (For first second third body lines) = IsSpelledFirst first × IsSpelledOption second × IsSpelledOption third × IsSpelledStmt body
  IsSpelledStmt (Goto name lines) = Unit {0}
  IsSpelledStmt (Continue lines) = Unit {0}
  IsSpelledStmt (Break lines) = Unit {0}
  IsSpelledStmt (Return value lines) = IsSpelledOption value

  pub IsSpelledElse : OptionStmtTree → Type 0
  IsSpelledElse no_stmt = Unit {0}
  IsSpelledElse (some_stmt inner) = IsSpelledStmt inner

  pub AreSpelledItems : ItemTrees → Type 0
  AreSpelledItems no_items = Unit {0}
  AreSpelledItems (more_items (Statement inner) others) = IsSpelledStmt inner × AreSpelledItems others
  AreSpelledItems (more_items (Declared decl) others) = IsSpelledDecl decl × AreSpelledItems others

-- where they break no rule, they are typed
pub record SpelledStatementsGo : Type 0 where
  pub stmt : (tree : StmtTree) → IsSpelledStmt tree → StmtGoes tree
  pub items : (trees : ItemTrees) → AreSpelledItems trees → ItemsGo trees
