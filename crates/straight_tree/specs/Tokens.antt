-- The tokens of a tree, in text order (ISO C99, 6.5 to 6.9).
use Rattle.std.specs.Prelude.{ℕ, List, [], ◌∷◌, ◌++◌, Option, Some, None, get_or, drop}
use Rattle.cx_lex.specs.declared.token.Keyword.{Keyword}
use Rattle.cx_lex.specs.declared.token.Keyword.TheVariants as keyword
use Rattle.cx_lex.specs.declared.token.Punct.{Punct}
use Rattle.cx_lex.specs.declared.token.Punct.TheVariants.{LeftParenthesis, RightParenthesis, LeftBrace, RightBrace, Comma, Semicolon, Equal}
use Rattle.cx_lex.specs.declared.token.Token.{Token}
use Rattle.cx_lex.specs.declared.token.TokenKind.{TokenKind}
use Rattle.cx_lex.specs.declared.token.TokenKind.TheVariants as kind
use Rattle.straight_tree.specs.Trees.{ExprTree, Name, Number, Paren, Call, Unary, Binary, Assign, ExprTrees, no_exprs, more_exprs, SpecTree, Int, Void, SpecTrees, no_specs, more_specs, SpecsTree, Specs, DeclaratorTree, Missing, Identifier, Function, ParamTree, Param, ParamTrees, no_params, more_params, InitialiserTree, ExprInitialiser, InitDeclaratorTree, DeclTree, StmtTree, Block, ExprStmt, Return, ItemTree, StmtItem, ItemTrees, no_items, more_items, ExternalTree, Definition, Declaration, UnitTree}

-- ---- a node's own tokens

-- the token of a node's own that has this index among them
abbrev pub own : List ℕ → ℕ → TokenKind → Token
own lines index kind = record { kind = kind; line = get_or lines index 0 }

abbrev pub mark : List ℕ → ℕ → Punct → Token
mark lines index punct = own lines index (kind.Mark punct)

abbrev pub key : List ℕ → ℕ → Keyword → Token
key lines index word = own lines index (kind.Key word)

-- Parts that follow one, each behind a comma, and then the closing mark. The lines are those of the commas and of the mark.
abbrev pub behind_commas : Punct → List (List Token) → List ℕ → List Token
behind_commas closing [] lines = mark lines 0 closing ∷ []
behind_commas closing (part ∷ parts) lines = mark lines 0 Comma ∷ part ++ behind_commas closing parts (drop 1 lines)

-- parts with commas between them, and then the closing mark
abbrev pub listed : Punct → List (List Token) → List ℕ → List Token
listed closing [] lines = mark lines 0 closing ∷ []
listed closing (part ∷ parts) lines = part ++ behind_commas closing parts lines

abbrev pub joined : List (List Token) → List Token
joined [] = []
joined (part ∷ parts) = part ++ joined parts

-- ---- expressions (6.5)

abbrev mutual
  pub expr_tokens : ExprTree → List Token
  expr_tokens (Name name lines) = own lines 0 (kind.Word name) ∷ []
  expr_tokens (Number value ty lines) = own lines 0 (kind.Number value ty) ∷ []
  expr_tokens (Paren inner lines) = mark lines 0 LeftParenthesis ∷ expr_tokens inner ++ mark lines 1 RightParenthesis ∷ []
  expr_tokens (Call of args lines) = expr_tokens of ++ mark lines 0 LeftParenthesis ∷ listed RightParenthesis (exprs_tokens args) (drop 1 lines)
  expr_tokens (Unary op on lines) = mark lines 0 op ∷ expr_tokens on
  expr_tokens (Binary left op right lines) = expr_tokens left ++ mark lines 0 op ∷ expr_tokens right
  expr_tokens (Assign left op right lines) = expr_tokens left ++ mark lines 0 op ∷ expr_tokens right

  -- those of each
  pub exprs_tokens : ExprTrees → List (List Token)
  exprs_tokens no_exprs = []
  exprs_tokens (more_exprs e es) = expr_tokens e ∷ exprs_tokens es

abbrev pub option_tokens : Option ExprTree → List Token
option_tokens None = []
option_tokens (Some e) = expr_tokens e

-- ---- specifiers, declarators and initialisers (6.7)

abbrev pub spec_keyword : SpecTree → Keyword
spec_keyword Int = keyword.Int
spec_keyword Void = keyword.Void

abbrev pub spec_list_tokens : SpecTrees → List ℕ → List Token
spec_list_tokens no_specs lines = []
spec_list_tokens (more_specs s ss) lines = key lines 0 (spec_keyword s) ∷ spec_list_tokens ss (drop 1 lines)

abbrev pub specs_tokens : SpecsTree → List Token
specs_tokens (Specs list lines) = spec_list_tokens list lines

abbrev mutual
  pub declarator_tokens : DeclaratorTree → List Token
  declarator_tokens Missing = []
  declarator_tokens (Identifier name lines) = own lines 0 (kind.Word name) ∷ []
  declarator_tokens (Function of params lines) =
      declarator_tokens of ++ mark lines 0 LeftParenthesis ∷ listed RightParenthesis (params_tokens params) (drop 1 lines)

  pub param_tokens : ParamTree → List Token
  param_tokens (Param specs declarator) = specs_tokens specs ++ declarator_tokens declarator

  pub params_tokens : ParamTrees → List (List Token)
  params_tokens no_params = []
  params_tokens (more_params p ps) = param_tokens p ∷ params_tokens ps

abbrev pub initialiser_tokens : InitialiserTree → List Token
initialiser_tokens (ExprInitialiser e) = expr_tokens e

-- ---- declarations (6.7)

abbrev pub init_tokens : List ℕ → Option InitialiserTree → List Token
init_tokens lines None = []
init_tokens lines (Some init) = mark lines 0 Equal ∷ initialiser_tokens init

abbrev pub init_declarator_tokens : InitDeclaratorTree → List Token
init_declarator_tokens d = declarator_tokens d.declarator ++ init_tokens d.lines d.init

abbrev pub init_declarators_tokens : List InitDeclaratorTree → List (List Token)
init_declarators_tokens [] = []
init_declarators_tokens (d ∷ ds) = init_declarator_tokens d ∷ init_declarators_tokens ds

abbrev pub decl_tokens : DeclTree → List Token
decl_tokens d = specs_tokens d.specs ++ listed Semicolon (init_declarators_tokens d.list) d.lines

-- ---- statements (6.8)

abbrev mutual
  pub stmt_tokens : StmtTree → List Token
  stmt_tokens (Block items lines) = mark lines 0 LeftBrace ∷ joined (items_tokens items) ++ mark lines 1 RightBrace ∷ []
  stmt_tokens (ExprStmt expr lines) = option_tokens expr ++ mark lines 0 Semicolon ∷ []
  stmt_tokens (Return value lines) = key lines 0 keyword.Return ∷ option_tokens value ++ mark lines 1 Semicolon ∷ []

  pub item_tokens : ItemTree → List Token
  item_tokens (StmtItem s) = stmt_tokens s

  pub items_tokens : ItemTrees → List (List Token)
  items_tokens no_items = []
  items_tokens (more_items i is) = item_tokens i ∷ items_tokens is

-- ---- units (6.9)

abbrev pub external_tokens : ExternalTree → List Token
external_tokens (Definition specs declarator body lines) = specs_tokens specs ++ declarator_tokens declarator ++ stmt_tokens body
external_tokens (Declaration d) = decl_tokens d

abbrev pub externals_tokens : List ExternalTree → List (List Token)
externals_tokens [] = []
externals_tokens (e ∷ es) = external_tokens e ∷ externals_tokens es

abbrev pub unit_tokens : UnitTree → List Token
unit_tokens unit = joined (externals_tokens unit.parts)
