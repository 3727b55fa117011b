-- Statements, declarations and units that tokens derive are such as tokens can spell (ISO C99, 6.7, 6.8, 6.9).
use Rattle.std.proofs.Common.{ℕ, List, [], ◌∷◌, drop, Option, None, Some, All, sym, subst}
use Rattle.std.specs.Prelude.{IsTrue, IfSome}
use Rattle.cx_lex.specs.declared.token.Token.{Token}
use Rattle.cx_lex.specs.declared.token.Punct.TheVariants as punct
use Rattle.cx_tree.specs.Derives.{Derives}
use Rattle.cx_tree.specs.Levels.{expression_level}
use Rattle.cx_tree.specs.Tokens.{ended, option_tokens, specs_tokens, expr_tokens, declarator_tokens, init_tokens, init_declarators_tokens, decl_tokens, first_tokens, behind_first, clauses_tokens, stmt_tokens, else_tokens, items_tokens, definition_tokens, external_tokens, externals_tokens}
use Rattle.cx_tree.specs.Trees.{OptionExprTree, no_expr, some_expr, InitialiserTree, InitDeclaratorTree, DeclTree, ForFirstTree, FirstValue, FirstDeclared, StmtTree, Label, Case, Default, Block, ExprStmt, If, Switch, While, Do, For, Goto, Continue, Break, Return, OptionStmtTree, no_stmt, some_stmt, Statement, Declared, ItemTrees, no_items, more_items, DefinitionTree, ExternalTree, Defined, Declaration, UnitTree}
use Rattle.cx_tree.specs.Valid.{IsValidOption, IsValidInit, AreValidInitDeclarators, IsValidDecl, IsValidFirst, IsValidStmt, IsValidElse, AreValidItems, is_block, IsValidDefinition, IsValidExternal, AreValidExternals}
use Rattle.cx_typed.proofs.Lexed.{spelled_constants}
use Rattle.cx_typed.proofs.Valid.{AreFit, EachFits, all_fit, front, back, listed_fit, expr_fits, specs_fit, declarator_fits, init_fits}
use Rattle.cx_typed.specs.Constants.{IsFitKind}
use Rattle.cx_typed.specs.Spelled.{IsSpelledOption, IsSpelledInit}
use Rattle.cx_typed_files.proofs.UnbrokenUnits.{units_are_typed}
use Rattle.cx_typed_files.specs.FileUnits.{IsSpelledBody, IsSpelledDefinition, IsSpelledExternal, AreSpelledExternals}
use Rattle.cx_typed_files.specs.UnbrokenUnits.{ReadUnitsAreTyped}
use Rattle.cx_typed_units.specs.Spelled.{AreSpelledDeclarators, IsSpelledDecl, IsSpelledFirst, IsSpelledStmt, IsSpelledElse, AreSpelledItems}

-- ---- declarations

option_fits : (tree : OptionExprTree) → IsValidOption expression_level tree → AreFit (option_tokens tree) → IsSpelledOption tree
option_fits no_expr valid held = tt
option_fits (some_expr one) valid held = expr_fits one valid.valid held

declarators_fit : (ds : List InitDeclaratorTree) → AreValidInitDeclarators ds → EachFits (init_declarators_tokens ds) → AreSpelledDeclarators ds
declarators_fit [] valid held = tt
declarators_fit (d ∷ ds) valid held = (
  declarator_fits d.declarator valid.0.declarator (front (declarator_tokens d.declarator) _ held.0),
  by_init d.init valid.0.behind (back (declarator_tokens d.declarator) _ held.0),
  declarators_fit ds valid.1 held.1,
)
  where
    by_init : (init : Option InitialiserTree) → IsValidInit init → AreFit (init_tokens d.lines init) → IfSome init IsSpelledInit
    by_init None valid held = tt
    by_init (Some one) valid held = init_fits one valid held.1

decl_fits : (decl : DeclTree) → IsValidDecl decl → AreFit (decl_tokens decl) → IsSpelledDecl decl
decl_fits decl valid held = (
  specs_fit decl.specs valid.first.each (front (specs_tokens decl.specs) _ held),
  declarators_fit decl.list valid.second (listed_fit (ended punct.Semicolon) (init_declarators_tokens decl.list) decl.lines (back (specs_tokens decl.specs) _ held)),
)

-- ---- statements

first_fits : (tree : ForFirstTree) → IsValidFirst tree → (lines : List ℕ) → AreFit (first_tokens tree lines) → IsSpelledFirst tree
first_fits (FirstValue value) valid lines held = option_fits value valid (front (option_tokens value) _ held)
first_fits (FirstDeclared decl) valid lines held = decl_fits decl valid held

mutual
  stmt_fits : (tree : StmtTree) → IsValidStmt tree → AreFit (stmt_tokens tree) → IsSpelledStmt tree
  stmt_fits (Label name inner lines) valid held = stmt_fits inner valid.part held.1.1
  stmt_fits (Case value inner lines) valid held = (expr_fits value valid.first.valid (front (expr_tokens value) _ held.1), stmt_fits inner valid.second (back (expr_tokens value) _ held.1).1)
  stmt_fits (Default inner lines) valid held = stmt_fits inner valid.part held.1.1
  stmt_fits (Block items lines) valid held = items_fit items valid.part (front (items_tokens items) _ held.1)
  stmt_fits (ExprStmt value lines) valid held = option_fits value valid.part (front (option_tokens value) _ held)
  stmt_fits (If condition branch otherwise lines) valid held =
      let rest = (back (expr_tokens condition) _ held.1.1).1 in (
        expr_fits condition valid.condition.valid (front (expr_tokens condition) _ held.1.1),
        stmt_fits branch valid.branch (front (stmt_tokens branch) _ rest),
        else_fits lines otherwise valid.otherwise (back (stmt_tokens branch) _ rest),
      )
  stmt_fits (Switch on body lines) valid held = (expr_fits on valid.first.valid (front (expr_tokens on) _ held.1.1), stmt_fits body valid.second (back (expr_tokens on) _ held.1.1).1)
  stmt_fits (While condition body lines) valid held =
      (expr_fits condition valid.first.valid (front (expr_tokens condition) _ held.1.1), stmt_fits body valid.second (back (expr_tokens condition) _ held.1.1).1)
  stmt_fits (Do body condition lines) valid held =
      (stmt_fits body valid.first (front (stmt_tokens body) _ held.1), expr_fits condition valid.second.valid (front (expr_tokens condition) _ (back (stmt_tokens body) _ held.1).1.1))
  stmt_fits (For first second third body lines) valid held =
      let behind = back (first_tokens first (drop 2 lines)) _ held.1.1 in
      let clauses = front (clauses_tokens second third (behind_first first (drop 2 lines))) _ behind in (
        first_fits first valid.first (drop 2 lines) (front (first_tokens first (drop 2 lines)) _ held.1.1),
        option_fits second valid.second (front (option_tokens second) _ clauses),
        option_fits third valid.third (front (option_tokens third) _ (back (option_tokens second) _ clauses).1),
        stmt_fits body valid.fourth (back (clauses_tokens second third (behind_first first (drop 2 lines))) _ behind),
      )
  stmt_fits (Goto name lines) valid held = tt
  stmt_fits (Continue lines) valid held = tt
  stmt_fits (Break lines) valid held = tt
  stmt_fits (Return value lines) valid held = option_fits value valid.part (front (option_tokens value) _ held.1)

  else_fits : (lines : List ℕ) (tree : OptionStmtTree) → IsValidElse tree → AreFit (else_tokens lines tree) → IsSpelledElse tree
  else_fits lines no_stmt valid held = tt
  else_fits lines (some_stmt inner) valid held = stmt_fits inner valid held.1

  items_fit : (trees : ItemTrees) → AreValidItems trees → AreFit (items_tokens trees) → AreSpelledItems trees
  items_fit no_items valid held = tt
  items_fit (more_items (Statement inner) others) valid held = (stmt_fits inner valid.0 (front (stmt_tokens inner) _ held), items_fit others valid.1 (back (stmt_tokens inner) _ held))
  items_fit (more_items (Declared decl) others) valid held = (decl_fits decl valid.0 (front (decl_tokens decl) _ held), items_fit others valid.1 (back (decl_tokens decl) _ held))

-- ---- units

body_fits : (tree : StmtTree) → IsTrue (is_block tree) → IsSpelledStmt tree → IsSpelledBody tree
body_fits (Block items lines) block held = held
body_fits (Label name inner lines) block held = absurd cc
body_fits (Case value inner lines) block held = absurd cc
body_fits (Default inner lines) block held = absurd cc
body_fits (ExprStmt value lines) block held = absurd cc
body_fits (If condition branch otherwise lines) block held = absurd cc
body_fits (Switch on body lines) block held = absurd cc
body_fits (While condition body lines) block held = absurd cc
body_fits (Do body condition lines) block held = absurd cc
body_fits (For first second third body lines) block held = absurd cc
body_fits (Goto name lines) block held = absurd cc
body_fits (Continue lines) block held = absurd cc
body_fits (Break lines) block held = absurd cc
body_fits (Return value lines) block held = absurd cc

definition_fits : (d : DefinitionTree) → IsValidDefinition d → AreFit (definition_tokens d) → IsSpelledDefinition d
definition_fits d valid held =
    let behind = back (specs_tokens d.specs) _ held in (
      specs_fit d.specs valid.specs.each (front (specs_tokens d.specs) _ held),
      declarator_fits d.declarator valid.declarator (front (declarator_tokens d.declarator) _ behind),
      body_fits d.body valid.block (stmt_fits d.body valid.body (back (declarator_tokens d.declarator) _ behind)),
    )

external_fits : (part : ExternalTree) → IsValidExternal part → AreFit (external_tokens part) → IsSpelledExternal part
external_fits (Defined d) valid held = definition_fits d valid held
external_fits (Declaration decl) valid held = decl_fits decl valid held

externals_fit : (parts : List ExternalTree) → AreValidExternals parts → AreFit (externals_tokens parts) → AreSpelledExternals parts
externals_fit [] valid held = tt
externals_fit (part ∷ parts) valid held = (external_fits part valid.0 (front (external_tokens part) _ held), externals_fit parts valid.1 (back (external_tokens part) _ held))

pub derived_fits : (tokens : List Token) (tree : UnitTree) → Derives tokens tree → All (λ one. IsFitKind one.kind) tokens → AreSpelledExternals tree.parts
derived_fits tokens tree derived held = externals_fit tree.parts derived.valid.part.each (all_fit (externals_tokens tree.parts) (subst (All (λ one. IsFitKind one.kind)) (sym derived.spelled) held))

pub read_units : ReadUnitsAreTyped
read_units number bytes tokens tree given spells derived fine = units_are_typed number tree (derived_fits tokens tree derived (spelled_constants bytes tokens given spells)) fine
