-- What it means that the readers of declarations, statements and units are exact.
use Rattle.std.proofs.Common.{◌≡◌, ℕ, Bool, true, false, List, [], ◌∷◌}
use Rattle.cx_cursor.specs.Reading.{State}
use Rattle.cx_cursor.specs.Sights.{sight, sees_key}
use Rattle.cx_cursor.proofs.Readers.{token}
use Rattle.cx_expr.specs.Specifiers.{SpecsRead}
use Rattle.cx_words.specs.Beginnings.{shows_spec}
use Rattle.cx_lex.specs.declared.token.Keyword.TheVariants as keywords
use Rattle.cx_lex.specs.declared.token.Token.{Token}
use Rattle.cx_lex.specs.declared.token.TokenKind.TheVariants as kind
use Rattle.cx_parse.proofs.Stood.{Fits, Stood}
use Rattle.cx_tree.specs.Depth.{specs_depth, option_depth, first_depth, decl_depth, init_declarator_depth, stmt_depth, item_depth, external_depth}
use Rattle.cx_tree.specs.Names.{Binding, has_type_specifier, new_specs, new_option, new_decl, new_init_declarator, new_stmt, new_item, new_external, SpecsStand, OptionStands, FirstStands, DeclStands, InitDeclaratorStands, StmtStands, ItemStands, ExternalStands}
use Rattle.cx_tree.specs.Tokens.{specs_tokens, option_tokens, decl_tokens, init_declarator_tokens, stmt_tokens, item_tokens, external_tokens}
use Rattle.cx_tree.specs.Trees.{SpecTrees, OptionExprTree, ForFirstTree, InitDeclaratorTree, DeclTree, StmtTree, ItemTree, ExternalTree}
use Rattle.cx_tree.specs.Valid.{OneOrMore, specs_count, AreValidSpecs, IsValidOption, IsValidFirst, IsValidInitDeclarator, IsValidDecl, is_open, IsValidStmt, IsValidItem, IsValidExternal}
use Rattle.cx_tree.specs.Views.{specs}

abbrev pub SpecsFit : ℕ → List Binding → SpecTrees → Type 0
SpecsFit most names ss = Fits (OneOrMore (specs_count ss) (AreValidSpecs ss)) (SpecsStand names false ss) (specs_depth ss) most

abbrev pub OptionFits : ℕ → ℕ → List Binding → OptionExprTree → Type 0
OptionFits most least names e = Fits (IsValidOption least e) (OptionStands names e) (option_depth e) most

abbrev pub InitDeclaratorFits : ℕ → SpecTrees → List Binding → InitDeclaratorTree → Type 0
InitDeclaratorFits most specs names d = Fits (IsValidInitDeclarator d) (InitDeclaratorStands specs names d) (init_declarator_depth d) most

abbrev pub DeclFits : ℕ → List Binding → DeclTree → Type 0
DeclFits most names d = Fits (IsValidDecl d) (DeclStands names d) (decl_depth d) most

abbrev pub FirstFits : ℕ → List Binding → ForFirstTree → Type 0
FirstFits most names f = Fits (IsValidFirst f) (FirstStands names f) (first_depth f) most

abbrev pub StmtFits : ℕ → List Binding → StmtTree → Type 0
StmtFits most names s = Fits (IsValidStmt s) (StmtStands names s) (stmt_depth s) most

abbrev pub ItemFits : ℕ → List Binding → ItemTree → Type 0
ItemFits most names i = Fits (IsValidItem i) (ItemStands names i) (item_depth i) most

abbrev pub ExternalFits : ℕ → List Binding → ExternalTree → Type 0
ExternalFits most names e = Fits (IsValidExternal e) (ExternalStands names e) (external_depth e) most

-- ---- soundness

-- specifiers: behind them no further one stands ahead
pub record SpecsStood (most : ℕ) (all : Bool) (state : State) (read : SpecsRead) (after : State) : Type 0 where
  pub stood : Stood (specs_tokens (specs read.list)) (new_specs (specs read.list)) (SpecsFit most state.names (specs read.list)) state after
  pub typed : read.typed ≡ has_type_specifier (specs read.list)
  pub stopped : shows_spec all read.typed (sight after) ≡ false

abbrev pub OptionStood : ℕ → ℕ → State → OptionExprTree → State → Type 0
OptionStood most least state e after = Stood (option_tokens e) (new_option e) (OptionFits most least state.names e) state after

abbrev pub InitDeclaratorStood : ℕ → SpecTrees → State → InitDeclaratorTree → State → Type 0
InitDeclaratorStood most specs state d after = Stood (init_declarator_tokens d) (new_init_declarator specs d) (InitDeclaratorFits most specs state.names d) state after

abbrev pub DeclStood : ℕ → State → DeclTree → State → Type 0
DeclStood most state d after = Stood (decl_tokens d) (new_decl d) (DeclFits most state.names d) state after

-- a statement: behind one that an `else` would belong to, none stands
pub record StmtStood (most : ℕ) (state : State) (s : StmtTree) (after : State) : Type 0 where
  pub stood : Stood (stmt_tokens s) (new_stmt s) (StmtFits most state.names s) state after
  pub closed : is_open s ≡ true → sees_key keywords.Else after ≡ false

abbrev pub ItemStood : ℕ → State → ItemTree → State → Type 0
ItemStood most state i after = Stood (item_tokens i) (new_item i) (ItemFits most state.names i) state after

abbrev pub ExternalStood : ℕ → State → ExternalTree → State → Type 0
ExternalStood most state e after = Stood (external_tokens e) (new_external e) (ExternalFits most state.names e) state after

-- ---- completeness

-- no `else` stands in front
abbrev pub NoElse : List Token → Type 0
NoElse [] = Unit {0}
NoElse (t ∷ rest) = (line : ℕ) → t ≡ token (kind.Key keywords.Else) line → ⊥

-- what stands behind a statement: no `else` that would belong to it
abbrev pub EndsStmt : StmtTree → List Token → Type 0
EndsStmt s rest = is_open s ≡ true → NoElse rest
