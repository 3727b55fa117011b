-- The tokens of a tree, in text order (ISO C99, 6.5 to 6.9).
use Rattle.std.specs.Prelude.{ℕ, Bool, true, false, List, [], ◌∷◌, ◌++◌, Option, Some, None, get_or, drop, length, map}
use Rattle.cx_lex.specs.declared.token.Keyword.{Keyword}
use Rattle.cx_lex.specs.declared.token.Keyword.TheVariants as keyword
use Rattle.cx_lex.specs.declared.token.Punct.{Punct}
use Rattle.cx_lex.specs.declared.token.Punct.TheVariants as punct
use Rattle.cx_lex.specs.declared.token.Token.{Token}
use Rattle.cx_lex.specs.declared.token.TokenKind.{TokenKind}
use Rattle.cx_lex.specs.declared.token.TokenKind.TheVariants as kind
use Rattle.cx_tree.specs.Trees.{ExprTree, Name, Number, Letter, Text, Paren, Index, Call, Dot, Arrow, PostUp, PostDown, Literal, PreUp, PreDown, Unary, SizeofExpr, SizeofType, Cast, Binary, Cond, Assign, Comma, ExprTrees, no_exprs, more_exprs, OptionExprTree, no_expr, some_expr, TypeNameTree, TypeName, SpecTree, Key, Typedef, Record, Enum, SpecTrees, no_specs, more_specs, MemberDeclTree, MemberDecl, MemberDeclTrees, no_member_decls, more_member_decls, OptionMemberDeclTrees, no_members, some_members, MemberDeclaratorTree, MemberDeclarator, MemberDeclaratorTrees, no_member_declarators, more_member_declarators, EnumeratorTree, Enumerator, EnumeratorTrees, no_enumerators, more_enumerators, OptionEnumeratorTrees, no_enumerator_list, some_enumerator_list, DeclaratorTree, Missing, Identifier, Group, Pointer, Array, Function, Identifiers, BracketsTree, Unsized, Length, StaticFirst, StaticLast, Star, ParamTree, Param, ParamTrees, no_params, more_params, InitialiserTree, Single, Braced, InitialiserListTree, InitialiserList, EntryTree, Entry, EntryTrees, no_entries, more_entries, DesignatorTree, Element, Member, DesignatorTrees, no_designators, more_designators, InitDeclaratorTree, DeclTree, ForFirstTree, FirstValue, FirstDeclared, StmtTree, Label, Case, Default, Block, ExprStmt, If, Switch, While, Do, For, Goto, Continue, Break, Return, OptionStmtTree, no_stmt, some_stmt, ItemTree, Statement, Declared, ItemTrees, no_items, more_items, DefinitionTree, ExternalTree, Defined, Declaration, UnitTree}

-- ---- a node's own tokens

-- the token of a node's own that has this index among them
abbrev pub own : List ℕ → ℕ → TokenKind → Token
own lines index kind = record { kind = kind; line = get_or lines index 0 }

abbrev pub mark : List ℕ → ℕ → Punct → Token
mark lines index punct = own lines index (kind.Mark punct)

abbrev pub key : List ℕ → ℕ → Keyword → Token
key lines index word = own lines index (kind.Key word)

abbrev pub word : List ℕ → ℕ → List ℕ → Token
word lines index name = own lines index (kind.Word name)

-- own tokens that stand side by side, from the first line on
abbrev pub owns : List TokenKind → List ℕ → List Token
owns [] lines = []
owns (kind ∷ kinds) lines = own lines 0 kind ∷ owns kinds (drop 1 lines)

abbrev pub keys : List Keyword → List TokenKind
keys words = map (λ word. kind.Key word) words

-- Parts that follow one, each behind a comma, and then closing marks. The lines are those of the commas and of these marks.
abbrev pub behind_commas : List TokenKind → List (List Token) → List ℕ → List Token
behind_commas closing [] lines = owns closing lines
behind_commas closing (part ∷ parts) lines = mark lines 0 punct.Comma ∷ (part ++ behind_commas closing parts (drop 1 lines))

-- parts with commas between them, and then closing marks
abbrev pub listed : List TokenKind → List (List Token) → List ℕ → List Token
listed closing [] lines = owns closing lines
listed closing (part ∷ parts) lines = part ++ behind_commas closing parts lines

-- one mark at the end of a list
abbrev pub ended : Punct → List TokenKind
ended closing = kind.Mark closing ∷ []

-- the end of a list in braces; true: a comma stands behind the last part
abbrev pub brace : Bool → List TokenKind
brace true = kind.Mark punct.Comma ∷ ended punct.RightBrace
brace false = ended punct.RightBrace

-- the end of a list of parameters; true: `, ...` stands behind the last one
abbrev pub parenthesis : Bool → List TokenKind
parenthesis true = kind.Mark punct.Comma ∷ kind.Mark punct.Ellipsis ∷ ended punct.RightParenthesis
parenthesis false = ended punct.RightParenthesis

abbrev pub joined : List (List Token) → List Token
joined [] = []
joined (part ∷ parts) = part ++ joined parts

-- ---- identifiers and string literals

-- a tag, where there is one
abbrev pub tag_tokens : Option (List ℕ) → List ℕ → List Token
tag_tokens None lines = []
tag_tokens (Some name) lines = word lines 0 name ∷ []

-- the lines behind that of a tag
abbrev pub behind_tag : Option (List ℕ) → List ℕ → List ℕ
behind_tag None lines = lines
behind_tag (Some name) lines = drop 1 lines

-- identifiers that follow one, each behind a comma, and the closing parenthesis
abbrev pub behind_names : List (List ℕ) → List ℕ → List Token
behind_names [] lines = mark lines 0 punct.RightParenthesis ∷ []
behind_names (name ∷ names) lines = mark lines 0 punct.Comma ∷ word lines 1 name ∷ behind_names names (drop 2 lines)

abbrev pub names_tokens : List (List ℕ) → List ℕ → List Token
names_tokens [] lines = mark lines 0 punct.RightParenthesis ∷ []
names_tokens (name ∷ names) lines = word lines 0 name ∷ behind_names names (drop 1 lines)

-- adjacent string literals
abbrev pub texts_tokens : List (List ℕ) → List ℕ → List Token
texts_tokens [] lines = []
texts_tokens (part ∷ parts) lines = own lines 0 (kind.Text part) ∷ texts_tokens parts (drop 1 lines)

-- ---- the brackets of an array (6.7.5.2)

-- what stands in front of the length, or in the place of one
abbrev pub brackets_front : BracketsTree → List TokenKind
brackets_front (Unsized qualifiers) = kind.Mark punct.LeftBracket ∷ keys qualifiers
brackets_front (Length qualifiers size) = kind.Mark punct.LeftBracket ∷ keys qualifiers
brackets_front (StaticFirst qualifiers size) = kind.Mark punct.LeftBracket ∷ kind.Key keyword.Static ∷ keys qualifiers
brackets_front (StaticLast qualifiers size) = kind.Mark punct.LeftBracket ∷ (keys qualifiers ++ kind.Key keyword.Static ∷ [])
brackets_front (Star qualifiers) = kind.Mark punct.LeftBracket ∷ (keys qualifiers ++ kind.Mark punct.Star ∷ [])

-- the lines behind those tokens: that of the closing bracket
abbrev pub behind_front : BracketsTree → List ℕ → List ℕ
behind_front brackets lines = drop (length (brackets_front brackets)) lines

-- `union` where true, or `struct`
abbrev pub record_keyword : Bool → Keyword
record_keyword true = keyword.Union
record_keyword false = keyword.Struct

-- ---- expressions, and what stands in them (6.5, 6.7)

abbrev mutual
  pub expr_tokens : ExprTree → List Token
  expr_tokens (Name name lines) = word lines 0 name ∷ []
  expr_tokens (Number value ty lines) = own lines 0 (kind.Number value ty) ∷ []
  expr_tokens (Letter value lines) = own lines 0 (kind.Letter value) ∷ []
  expr_tokens (Text parts lines) = texts_tokens parts lines
  expr_tokens (Paren inner lines) = mark lines 0 punct.LeftParenthesis ∷ (expr_tokens inner ++ mark lines 1 punct.RightParenthesis ∷ [])
  expr_tokens (Index of index lines) = expr_tokens of ++ (mark lines 0 punct.LeftBracket ∷ (expr_tokens index ++ mark lines 1 punct.RightBracket ∷ []))
  expr_tokens (Call of args lines) = expr_tokens of ++ (mark lines 0 punct.LeftParenthesis ∷ listed (ended punct.RightParenthesis) (exprs_tokens args) (drop 1 lines))
  expr_tokens (Dot of member lines) = expr_tokens of ++ mark lines 0 punct.Dot ∷ word lines 1 member ∷ []
  expr_tokens (Arrow of member lines) = expr_tokens of ++ mark lines 0 punct.Arrow ∷ word lines 1 member ∷ []
  expr_tokens (PostUp of lines) = expr_tokens of ++ mark lines 0 punct.PlusPlus ∷ []
  expr_tokens (PostDown of lines) = expr_tokens of ++ mark lines 0 punct.MinusMinus ∷ []
  expr_tokens (Literal of list lines) = mark lines 0 punct.LeftParenthesis ∷ (type_name_tokens of ++ (mark lines 1 punct.RightParenthesis ∷ initialiser_list_tokens list))
  expr_tokens (PreUp on lines) = mark lines 0 punct.PlusPlus ∷ expr_tokens on
  expr_tokens (PreDown on lines) = mark lines 0 punct.MinusMinus ∷ expr_tokens on
  expr_tokens (Unary op on lines) = mark lines 0 op ∷ expr_tokens on
  expr_tokens (SizeofExpr on lines) = key lines 0 keyword.Sizeof ∷ expr_tokens on
  expr_tokens (SizeofType of lines) =
      key lines 0 keyword.Sizeof ∷ mark lines 1 punct.LeftParenthesis ∷ (type_name_tokens of ++ mark lines 2 punct.RightParenthesis ∷ [])
  expr_tokens (Cast to on lines) = mark lines 0 punct.LeftParenthesis ∷ (type_name_tokens to ++ (mark lines 1 punct.RightParenthesis ∷ expr_tokens on))
  expr_tokens (Binary left op right lines) = expr_tokens left ++ (mark lines 0 op ∷ expr_tokens right)
  expr_tokens (Cond condition if_true if_false lines) =
      expr_tokens condition ++ (mark lines 0 punct.Question ∷ (expr_tokens if_true ++ (mark lines 1 punct.Colon ∷ expr_tokens if_false)))
  expr_tokens (Assign left op right lines) = expr_tokens left ++ (mark lines 0 op ∷ expr_tokens right)
  expr_tokens (Comma left right lines) = expr_tokens left ++ (mark lines 0 punct.Comma ∷ expr_tokens right)

  -- those of each
  pub exprs_tokens : ExprTrees → List (List Token)
  exprs_tokens no_exprs = []
  exprs_tokens (more_exprs e es) = expr_tokens e ∷ exprs_tokens es

  pub option_tokens : OptionExprTree → List Token
  option_tokens no_expr = []
  option_tokens (some_expr e) = expr_tokens e

  -- an expression behind a token, both of which may be missing
  pub prefixed_tokens : Token → OptionExprTree → List Token
  prefixed_tokens token no_expr = []
  prefixed_tokens token (some_expr e) = token ∷ expr_tokens e

  pub type_name_tokens : TypeNameTree → List Token
  type_name_tokens (TypeName specs declarator lines) = specs_tokens specs ++ declarator_tokens declarator

  pub spec_tokens : SpecTree → List Token
  spec_tokens (Key word lines) = key lines 0 word ∷ []
  spec_tokens (Typedef name lines) = word lines 0 name ∷ []
  spec_tokens (Record is_union tag members lines) =
      key lines 0 (record_keyword is_union) ∷ (tag_tokens tag (drop 1 lines) ++ members_tokens members (behind_tag tag (drop 1 lines)))
  spec_tokens (Enum tag list last_comma lines) =
      key lines 0 keyword.Enum ∷ (tag_tokens tag (drop 1 lines) ++ enumerator_list_tokens list last_comma (behind_tag tag (drop 1 lines)))

  pub specs_tokens : SpecTrees → List Token
  specs_tokens no_specs = []
  specs_tokens (more_specs s ss) = spec_tokens s ++ specs_tokens ss

  -- a list of members in braces, where there is one
  pub members_tokens : OptionMemberDeclTrees → List ℕ → List Token
  members_tokens no_members lines = []
  members_tokens (some_members list) lines = mark lines 0 punct.LeftBrace ∷ (member_decls_tokens list ++ mark lines 1 punct.RightBrace ∷ [])

  pub member_decl_tokens : MemberDeclTree → List Token
  member_decl_tokens (MemberDecl specs list lines) = specs_tokens specs ++ listed (ended punct.Semicolon) (member_declarators_tokens list) lines

  pub member_decls_tokens : MemberDeclTrees → List Token
  member_decls_tokens no_member_decls = []
  member_decls_tokens (more_member_decls m ms) = member_decl_tokens m ++ member_decls_tokens ms

  pub member_declarator_tokens : MemberDeclaratorTree → List Token
  member_declarator_tokens (MemberDeclarator declarator width lines) = declarator_tokens declarator ++ prefixed_tokens (mark lines 0 punct.Colon) width

  pub member_declarators_tokens : MemberDeclaratorTrees → List (List Token)
  member_declarators_tokens no_member_declarators = []
  member_declarators_tokens (more_member_declarators m ms) = member_declarator_tokens m ∷ member_declarators_tokens ms

  -- a list of enumerators in braces, where there is one
  pub enumerator_list_tokens : OptionEnumeratorTrees → Bool → List ℕ → List Token
  enumerator_list_tokens no_enumerator_list last_comma lines = []
  enumerator_list_tokens (some_enumerator_list list) last_comma lines =
      mark lines 0 punct.LeftBrace ∷ listed (brace last_comma) (enumerators_tokens list) (drop 1 lines)

  pub enumerator_tokens : EnumeratorTree → List Token
  enumerator_tokens (Enumerator name value lines) = word lines 0 name ∷ prefixed_tokens (mark lines 1 punct.Equal) value

  pub enumerators_tokens : EnumeratorTrees → List (List Token)
  enumerators_tokens no_enumerators = []
  enumerators_tokens (more_enumerators e es) = enumerator_tokens e ∷ enumerators_tokens es

  pub declarator_tokens : DeclaratorTree → List Token
  declarator_tokens Missing = []
  declarator_tokens (Identifier name lines) = word lines 0 name ∷ []
  declarator_tokens (Group inner lines) = mark lines 0 punct.LeftParenthesis ∷ (declarator_tokens inner ++ mark lines 1 punct.RightParenthesis ∷ [])
  declarator_tokens (Pointer qualifiers of lines) = mark lines 0 punct.Star ∷ (owns (keys qualifiers) (drop 1 lines) ++ declarator_tokens of)
  declarator_tokens (Array of brackets lines) =
      declarator_tokens of ++ (owns (brackets_front brackets) lines ++ (length_tokens brackets ++ mark (behind_front brackets lines) 0 punct.RightBracket ∷ []))
  declarator_tokens (Function of params variadic lines) =
      declarator_tokens of ++ (mark lines 0 punct.LeftParenthesis ∷ listed (parenthesis variadic) (params_tokens params) (drop 1 lines))
  declarator_tokens (Identifiers of names lines) = declarator_tokens of ++ (mark lines 0 punct.LeftParenthesis ∷ names_tokens names (drop 1 lines))

  -- the length of an array, where there is one
  pub length_tokens : BracketsTree → List Token
  length_tokens (Unsized qualifiers) = []
  length_tokens (Length qualifiers size) = expr_tokens size
  length_tokens (StaticFirst qualifiers size) = expr_tokens size
  length_tokens (StaticLast qualifiers size) = expr_tokens size
  length_tokens (Star qualifiers) = []

  pub param_tokens : ParamTree → List Token
  param_tokens (Param specs declarator lines) = specs_tokens specs ++ declarator_tokens declarator

  pub params_tokens : ParamTrees → List (List Token)
  params_tokens no_params = []
  params_tokens (more_params p ps) = param_tokens p ∷ params_tokens ps

  pub initialiser_tokens : InitialiserTree → List Token
  initialiser_tokens (Single e) = expr_tokens e
  initialiser_tokens (Braced list) = initialiser_list_tokens list

  pub initialiser_list_tokens : InitialiserListTree → List Token
  initialiser_list_tokens (InitialiserList entries last_comma lines) =
      mark lines 0 punct.LeftBrace ∷ listed (brace last_comma) (entries_tokens entries) (drop 1 lines)

  pub entry_tokens : EntryTree → List Token
  entry_tokens (Entry designators init lines) = designation_tokens designators lines ++ initialiser_tokens init

  pub entries_tokens : EntryTrees → List (List Token)
  entries_tokens no_entries = []
  entries_tokens (more_entries e es) = entry_tokens e ∷ entries_tokens es

  -- a list of designators and `=`, or nothing
  pub designation_tokens : DesignatorTrees → List ℕ → List Token
  designation_tokens no_designators lines = []
  designation_tokens (more_designators d ds) lines = designator_tokens d ++ (designators_tokens ds ++ mark lines 0 punct.Equal ∷ [])

  pub designator_tokens : DesignatorTree → List Token
  designator_tokens (Element at lines) = mark lines 0 punct.LeftBracket ∷ (expr_tokens at ++ mark lines 1 punct.RightBracket ∷ [])
  designator_tokens (Member name lines) = mark lines 0 punct.Dot ∷ word lines 1 name ∷ []

  pub designators_tokens : DesignatorTrees → List Token
  designators_tokens no_designators = []
  designators_tokens (more_designators d ds) = designator_tokens d ++ designators_tokens ds

-- ---- declarations (6.7)

abbrev pub init_tokens : List ℕ → Option InitialiserTree → List Token
init_tokens lines None = []
init_tokens lines (Some init) = mark lines 0 punct.Equal ∷ initialiser_tokens init

abbrev pub init_declarator_tokens : InitDeclaratorTree → List Token
init_declarator_tokens d = declarator_tokens d.declarator ++ init_tokens d.lines d.init

abbrev pub init_declarators_tokens : List InitDeclaratorTree → List (List Token)
init_declarators_tokens [] = []
init_declarators_tokens (d ∷ ds) = init_declarator_tokens d ∷ init_declarators_tokens ds

abbrev pub decl_tokens : DeclTree → List Token
decl_tokens d = specs_tokens d.specs ++ listed (ended punct.Semicolon) (init_declarators_tokens d.list) d.lines

-- ---- statements (6.8)

-- the first clause of a `for` statement, and the semicolon behind it
abbrev pub first_tokens : ForFirstTree → List ℕ → List Token
first_tokens (FirstValue value) lines = option_tokens value ++ mark lines 0 punct.Semicolon ∷ []
first_tokens (FirstDeclared decl) lines = decl_tokens decl

-- the lines behind that of this semicolon, which a declaration prints itself
abbrev pub behind_first : ForFirstTree → List ℕ → List ℕ
behind_first (FirstValue value) lines = drop 1 lines
behind_first (FirstDeclared decl) lines = lines

-- the second and the third clause, and the parenthesis
abbrev pub clauses_tokens : OptionExprTree → OptionExprTree → List ℕ → List Token
clauses_tokens second third lines =
    option_tokens second ++ (mark lines 0 punct.Semicolon ∷ (option_tokens third ++ mark lines 1 punct.RightParenthesis ∷ []))

abbrev mutual
  pub stmt_tokens : StmtTree → List Token
  stmt_tokens (Label name stmt lines) = word lines 0 name ∷ mark lines 1 punct.Colon ∷ stmt_tokens stmt
  stmt_tokens (Case value stmt lines) = key lines 0 keyword.Case ∷ (expr_tokens value ++ (mark lines 1 punct.Colon ∷ stmt_tokens stmt))
  stmt_tokens (Default stmt lines) = key lines 0 keyword.Default ∷ mark lines 1 punct.Colon ∷ stmt_tokens stmt
  stmt_tokens (Block items lines) = mark lines 0 punct.LeftBrace ∷ (items_tokens items ++ mark lines 1 punct.RightBrace ∷ [])
  stmt_tokens (ExprStmt expr lines) = option_tokens expr ++ mark lines 0 punct.Semicolon ∷ []
  stmt_tokens (If condition branch otherwise lines) =
      key lines 0 keyword.If ∷ mark lines 1 punct.LeftParenthesis ∷ (expr_tokens condition
      ++ (mark lines 2 punct.RightParenthesis ∷ (stmt_tokens branch ++ else_tokens lines otherwise)))
  stmt_tokens (Switch on body lines) =
      key lines 0 keyword.Switch ∷ mark lines 1 punct.LeftParenthesis ∷ (expr_tokens on ++ (mark lines 2 punct.RightParenthesis ∷ stmt_tokens body))
  stmt_tokens (While condition body lines) =
      key lines 0 keyword.While ∷ mark lines 1 punct.LeftParenthesis ∷ (expr_tokens condition ++ (mark lines 2 punct.RightParenthesis ∷ stmt_tokens body))
  stmt_tokens (Do body condition lines) =
      key lines 0 keyword.Do ∷ (stmt_tokens body ++ (key lines 1 keyword.While ∷ mark lines 2 punct.LeftParenthesis ∷ (expr_tokens condition
      ++ mark lines 3 punct.RightParenthesis ∷ mark lines 4 punct.Semicolon ∷ [])))
  stmt_tokens (For first second third body lines) =
      key lines 0 keyword.For ∷ mark lines 1 punct.LeftParenthesis ∷ (first_tokens first (drop 2 lines)
      ++ (clauses_tokens second third (behind_first first (drop 2 lines)) ++ stmt_tokens body))
  stmt_tokens (Goto name lines) = key lines 0 keyword.Goto ∷ word lines 1 name ∷ mark lines 2 punct.Semicolon ∷ []
  stmt_tokens (Continue lines) = key lines 0 keyword.Continue ∷ mark lines 1 punct.Semicolon ∷ []
  stmt_tokens (Break lines) = key lines 0 keyword.Break ∷ mark lines 1 punct.Semicolon ∷ []
  stmt_tokens (Return value lines) = key lines 0 keyword.Return ∷ (option_tokens value ++ mark lines 1 punct.Semicolon ∷ [])

  -- `else` and its branch, where there is one; the lines are those of the whole statement
  pub else_tokens : List ℕ → OptionStmtTree → List Token
  else_tokens lines no_stmt = []
  else_tokens lines (some_stmt stmt) = key lines 3 keyword.Else ∷ stmt_tokens stmt

  pub item_tokens : ItemTree → List Token
  item_tokens (Statement stmt) = stmt_tokens stmt
  item_tokens (Declared decl) = decl_tokens decl

  pub items_tokens : ItemTrees → List Token
  items_tokens no_items = []
  items_tokens (more_items i is) = item_tokens i ++ items_tokens is

-- ---- units (6.9)

abbrev pub definition_tokens : DefinitionTree → List Token
definition_tokens definition = specs_tokens definition.specs ++ (declarator_tokens definition.declarator ++ stmt_tokens definition.body)

abbrev pub external_tokens : ExternalTree → List Token
external_tokens (Defined definition) = definition_tokens definition
external_tokens (Declaration decl) = decl_tokens decl

abbrev pub externals_tokens : List ExternalTree → List Token
externals_tokens [] = []
externals_tokens (e ∷ es) = external_tokens e ++ externals_tokens es

abbrev pub unit_tokens : UnitTree → List Token
unit_tokens unit = externals_tokens unit.parts
