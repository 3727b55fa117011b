-- The depth of a tree: how many nodes stand on its longest path. A node is a value of a tree type. Lists, options, the brackets of
-- an array, a missing declarator, and what only wraps another node (an initialiser that is an expression, the first clause of a
-- `for`, a block item, an external declaration) are none.
use Rattle.std.specs.Prelude.{ℕ, suc, max, List, [], ◌∷◌, Option, Some, None}
use Rattle.cx_tree.specs.Trees.{ExprTree, Name, Number, Letter, Text, Paren, Index, Call, Dot, Arrow, PostUp, PostDown, Literal, PreUp, PreDown, Unary, SizeofExpr, SizeofType, Cast, Binary, Cond, Assign, Comma, ExprTrees, no_exprs, more_exprs, OptionExprTree, no_expr, some_expr, TypeNameTree, TypeName, SpecTree, Key, Typedef, Record, Enum, SpecTrees, no_specs, more_specs, MemberDeclTree, MemberDecl, MemberDeclTrees, no_member_decls, more_member_decls, OptionMemberDeclTrees, no_members, some_members, MemberDeclaratorTree, MemberDeclarator, MemberDeclaratorTrees, no_member_declarators, more_member_declarators, EnumeratorTree, Enumerator, EnumeratorTrees, no_enumerators, more_enumerators, OptionEnumeratorTrees, no_enumerator_list, some_enumerator_list, DeclaratorTree, Missing, Identifier, Group, Pointer, Array, Function, Identifiers, BracketsTree, Unsized, Length, StaticFirst, StaticLast, Star, ParamTree, Param, ParamTrees, no_params, more_params, InitialiserTree, Single, Braced, InitialiserListTree, InitialiserList, EntryTree, Entry, EntryTrees, no_entries, more_entries, DesignatorTree, Element, Member, DesignatorTrees, no_designators, more_designators, InitDeclaratorTree, DeclTree, ForFirstTree, FirstValue, FirstDeclared, StmtTree, Label, Case, Default, Block, ExprStmt, If, Switch, While, Do, For, Goto, Continue, Break, Return, OptionStmtTree, no_stmt, some_stmt, ItemTree, Statement, Declared, ItemTrees, no_items, more_items, DefinitionTree, ExternalTree, Defined, Declaration, UnitTree}

-- ---- expressions, and what stands in them (6.5, 6.7)

abbrev mutual
  pub expr_depth : ExprTree → ℕ
  expr_depth (Name name lines) = 1
  expr_depth (Number value ty lines) = 1
  expr_depth (Letter value lines) = 1
  expr_depth (Text parts lines) = 1
  expr_depth (Paren inner lines) = suc (expr_depth inner)
  expr_depth (Index of index lines) = suc (max (expr_depth of) (expr_depth index))
  expr_depth (Call of args lines) = suc (max (expr_depth of) (exprs_depth args))
  expr_depth (Dot of member lines) = suc (expr_depth of)
  expr_depth (Arrow of member lines) = suc (expr_depth of)
  expr_depth (PostUp of lines) = suc (expr_depth of)
  expr_depth (PostDown of lines) = suc (expr_depth of)
  expr_depth (Literal of list lines) = suc (max (type_name_depth of) (initialiser_list_depth list))
  expr_depth (PreUp on lines) = suc (expr_depth on)
  expr_depth (PreDown on lines) = suc (expr_depth on)
  expr_depth (Unary op on lines) = suc (expr_depth on)
  expr_depth (SizeofExpr on lines) = suc (expr_depth on)
  expr_depth (SizeofType of lines) = suc (type_name_depth of)
  expr_depth (Cast to on lines) = suc (max (type_name_depth to) (expr_depth on))
  expr_depth (Binary left op right lines) = suc (max (expr_depth left) (expr_depth right))
  expr_depth (Cond condition if_true if_false lines) = suc (max (expr_depth condition) (max (expr_depth if_true) (expr_depth if_false)))
  expr_depth (Assign left op right lines) = suc (max (expr_depth left) (expr_depth right))
  expr_depth (Comma left right lines) = suc (max (expr_depth left) (expr_depth right))

  -- the greatest depth in a list, 0 where it is empty
  pub exprs_depth : ExprTrees → ℕ
  exprs_depth no_exprs = 0
  exprs_depth (more_exprs e es) = max (expr_depth e) (exprs_depth es)

  pub option_depth : OptionExprTree → ℕ
  option_depth no_expr = 0
  option_depth (some_expr e) = expr_depth e

  pub type_name_depth : TypeNameTree → ℕ
  type_name_depth (TypeName specs declarator lines) = suc (max (specs_depth specs) (declarator_depth declarator))

  pub spec_depth : SpecTree → ℕ
  spec_depth (Key word lines) = 1
  spec_depth (Typedef name lines) = 1
  spec_depth (Record is_union tag members lines) = suc (members_depth members)
  spec_depth (Enum tag list last_comma lines) = suc (enumerator_list_depth list)

  pub specs_depth : SpecTrees → ℕ
  specs_depth no_specs = 0
  specs_depth (more_specs s ss) = max (spec_depth s) (specs_depth ss)

  pub members_depth : OptionMemberDeclTrees → ℕ
  members_depth no_members = 0
  members_depth (some_members list) = member_decls_depth list

  pub member_decl_depth : MemberDeclTree → ℕ
  member_decl_depth (MemberDecl specs list lines) = suc (max (specs_depth specs) (member_declarators_depth list))

  pub member_decls_depth : MemberDeclTrees → ℕ
  member_decls_depth no_member_decls = 0
  member_decls_depth (more_member_decls m ms) = max (member_decl_depth m) (member_decls_depth ms)

  pub member_declarator_depth : MemberDeclaratorTree → ℕ
  member_declarator_depth (MemberDeclarator declarator width lines) = suc (max (declarator_depth declarator) (option_depth width))

  pub member_declarators_depth : MemberDeclaratorTrees → ℕ
  member_declarators_depth no_member_declarators = 0
  member_declarators_depth (more_member_declarators m ms) = max (member_declarator_depth m) (member_declarators_depth ms)

  pub enumerator_list_depth : OptionEnumeratorTrees → ℕ
  enumerator_list_depth no_enumerator_list = 0
  enumerator_list_depth (some_enumerator_list list) = enumerators_depth list

  pub enumerator_depth : EnumeratorTree → ℕ
  enumerator_depth (Enumerator name value lines) = suc (option_depth value)

  pub enumerators_depth : EnumeratorTrees → ℕ
  enumerators_depth no_enumerators = 0
  enumerators_depth (more_enumerators e es) = max (enumerator_depth e) (enumerators_depth es)

  pub declarator_depth : DeclaratorTree → ℕ
  declarator_depth Missing = 0
  declarator_depth (Identifier name lines) = 1
  declarator_depth (Group inner lines) = suc (declarator_depth inner)
  declarator_depth (Pointer qualifiers of lines) = suc (declarator_depth of)
  declarator_depth (Array of brackets lines) = suc (max (declarator_depth of) (brackets_depth brackets))
  declarator_depth (Function of params variadic lines) = suc (max (declarator_depth of) (params_depth params))
  declarator_depth (Identifiers of names lines) = suc (declarator_depth of)

  pub brackets_depth : BracketsTree → ℕ
  brackets_depth (Unsized qualifiers) = 0
  brackets_depth (Length qualifiers size) = expr_depth size
  brackets_depth (StaticFirst qualifiers size) = expr_depth size
  brackets_depth (StaticLast qualifiers size) = expr_depth size
  brackets_depth (Star qualifiers) = 0

  pub param_depth : ParamTree → ℕ
  param_depth (Param specs declarator lines) = suc (max (specs_depth specs) (declarator_depth declarator))

  pub params_depth : ParamTrees → ℕ
  params_depth no_params = 0
  params_depth (more_params p ps) = max (param_depth p) (params_depth ps)

  pub initialiser_depth : InitialiserTree → ℕ
  initialiser_depth (Single e) = expr_depth e
  initialiser_depth (Braced list) = initialiser_list_depth list

  pub initialiser_list_depth : InitialiserListTree → ℕ
  initialiser_list_depth (InitialiserList entries last_comma lines) = suc (entries_depth entries)

  pub entry_depth : EntryTree → ℕ
  entry_depth (Entry designators init lines) = suc (max (designators_depth designators) (initialiser_depth init))

  pub entries_depth : EntryTrees → ℕ
  entries_depth no_entries = 0
  entries_depth (more_entries e es) = max (entry_depth e) (entries_depth es)

  pub designator_depth : DesignatorTree → ℕ
  designator_depth (Element at lines) = suc (expr_depth at)
  designator_depth (Member name lines) = 1

  pub designators_depth : DesignatorTrees → ℕ
  designators_depth no_designators = 0
  designators_depth (more_designators d ds) = max (designator_depth d) (designators_depth ds)

-- ---- declarations (6.7)

abbrev pub init_depth : Option InitialiserTree → ℕ
init_depth None = 0
init_depth (Some init) = initialiser_depth init

abbrev pub init_declarator_depth : InitDeclaratorTree → ℕ
init_declarator_depth d = suc (max (declarator_depth d.declarator) (init_depth d.init))

abbrev pub init_declarators_depth : List InitDeclaratorTree → ℕ
init_declarators_depth [] = 0
init_declarators_depth (d ∷ ds) = max (init_declarator_depth d) (init_declarators_depth ds)

abbrev pub decl_depth : DeclTree → ℕ
decl_depth d = suc (max (specs_depth d.specs) (init_declarators_depth d.list))

-- ---- statements (6.8)

abbrev pub first_depth : ForFirstTree → ℕ
first_depth (FirstValue value) = option_depth value
first_depth (FirstDeclared decl) = decl_depth decl

abbrev mutual
  pub stmt_depth : StmtTree → ℕ
  stmt_depth (Label name stmt lines) = suc (stmt_depth stmt)
  stmt_depth (Case value stmt lines) = suc (max (expr_depth value) (stmt_depth stmt))
  stmt_depth (Default stmt lines) = suc (stmt_depth stmt)
  stmt_depth (Block items lines) = suc (items_depth items)
  stmt_depth (ExprStmt expr lines) = suc (option_depth expr)
  stmt_depth (If condition branch otherwise lines) = suc (max (expr_depth condition) (max (stmt_depth branch) (else_depth otherwise)))
  stmt_depth (Switch on body lines) = suc (max (expr_depth on) (stmt_depth body))
  stmt_depth (While condition body lines) = suc (max (expr_depth condition) (stmt_depth body))
  stmt_depth (Do body condition lines) = suc (max (stmt_depth body) (expr_depth condition))
  stmt_depth (For first second third body lines) =
      suc (max (first_depth first) (max (option_depth second) (max (option_depth third) (stmt_depth body))))
  stmt_depth (Goto name lines) = 1
  stmt_depth (Continue lines) = 1
  stmt_depth (Break lines) = 1
  stmt_depth (Return value lines) = suc (option_depth value)

  pub else_depth : OptionStmtTree → ℕ
  else_depth no_stmt = 0
  else_depth (some_stmt stmt) = stmt_depth stmt

  pub item_depth : ItemTree → ℕ
  item_depth (Statement stmt) = stmt_depth stmt
  item_depth (Declared decl) = decl_depth decl

  pub items_depth : ItemTrees → ℕ
  items_depth no_items = 0
  items_depth (more_items i is) = max (item_depth i) (items_depth is)

-- ---- units (6.9)

abbrev pub definition_depth : DefinitionTree → ℕ
definition_depth definition = suc (max (specs_depth definition.specs) (max (declarator_depth definition.declarator) (stmt_depth definition.body)))

abbrev pub external_depth : ExternalTree → ℕ
external_depth (Defined definition) = definition_depth definition
external_depth (Declaration decl) = decl_depth decl

abbrev pub externals_depth : List ExternalTree → ℕ
externals_depth [] = 0
externals_depth (e ∷ es) = max (external_depth e) (externals_depth es)

abbrev pub unit_depth : UnitTree → ℕ
unit_depth unit = suc (externals_depth unit.parts)
