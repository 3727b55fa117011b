-- The depth of a tree: how many nodes stand on its longest path. A node stands for a production of its own; an alternative that
-- only wraps another production and a list are none.
use Rattle.std.specs.Prelude.{ℕ, suc, max, List, [], ◌∷◌, Option, Some, None}
use Rattle.straight_tree.specs.Trees.{ExprTree, Name, Number, Paren, Call, Unary, Binary, Assign, ExprTrees, no_exprs, more_exprs, SpecsTree, DeclaratorTree, Missing, Identifier, Function, ParamTree, Param, ParamTrees, no_params, more_params, InitialiserTree, ExprInitialiser, InitDeclaratorTree, DeclTree, StmtTree, Block, ExprStmt, Return, ItemTree, StmtItem, ItemTrees, no_items, more_items, ExternalTree, Definition, Declaration, UnitTree}

abbrev mutual
  pub expr_depth : ExprTree → ℕ
  expr_depth (Name name lines) = 1
  expr_depth (Number value ty lines) = 1
  expr_depth (Paren inner lines) = suc (expr_depth inner)
  expr_depth (Call of args lines) = suc (max (expr_depth of) (exprs_depth args))
  expr_depth (Unary op on lines) = suc (expr_depth on)
  expr_depth (Binary left op right lines) = suc (max (expr_depth left) (expr_depth right))
  expr_depth (Assign left op right lines) = suc (max (expr_depth left) (expr_depth right))

  -- the greatest depth in a list, 0 where it is empty
  pub exprs_depth : ExprTrees → ℕ
  exprs_depth no_exprs = 0
  exprs_depth (more_exprs e es) = max (expr_depth e) (exprs_depth es)

abbrev pub option_depth : Option ExprTree → ℕ
option_depth None = 0
option_depth (Some e) = expr_depth e

abbrev pub specs_depth : SpecsTree → ℕ
specs_depth specs = 1

abbrev mutual
  pub declarator_depth : DeclaratorTree → ℕ
  declarator_depth Missing = 1
  declarator_depth (Identifier name lines) = 1
  declarator_depth (Function of params lines) = suc (max (declarator_depth of) (params_depth params))

  pub param_depth : ParamTree → ℕ
  param_depth (Param specs declarator) = suc (max (specs_depth specs) (declarator_depth declarator))

  pub params_depth : ParamTrees → ℕ
  params_depth no_params = 0
  params_depth (more_params p ps) = max (param_depth p) (params_depth ps)

abbrev pub initialiser_depth : InitialiserTree → ℕ
initialiser_depth (ExprInitialiser e) = expr_depth e

abbrev pub init_depth : Option InitialiserTree → ℕ
init_depth None = 0
init_depth (Some init) = initialiser_depth init

abbrev pub init_declarator_depth : InitDeclaratorTree → ℕ
init_declarator_depth d = suc (max (declarator_depth d.declarator) (init_depth d.init))

abbrev pub init_declarators_depth : List InitDeclaratorTree → ℕ
init_declarators_depth [] = 0
init_declarators_depth (d ∷ ds) = max (init_declarator_depth d) (init_declarators_depth ds)

abbrev pub decl_depth : DeclTree → ℕ
decl_depth d = suc (max (specs_depth d.specs) (init_declarators_depth d.list))

abbrev mutual
  pub stmt_depth : StmtTree → ℕ
  stmt_depth (Block items lines) = suc (items_depth items)
  stmt_depth (ExprStmt expr lines) = suc (option_depth expr)
  stmt_depth (Return value lines) = suc (option_depth value)

  pub item_depth : ItemTree → ℕ
  item_depth (StmtItem s) = stmt_depth s

  pub items_depth : ItemTrees → ℕ
  items_depth no_items = 0
  items_depth (more_items i is) = max (item_depth i) (items_depth is)

abbrev pub external_depth : ExternalTree → ℕ
external_depth (Definition specs declarator body lines) = suc (max (specs_depth specs) (max (declarator_depth declarator) (stmt_depth body)))
external_depth (Declaration d) = decl_depth d

abbrev pub externals_depth : List ExternalTree → ℕ
externals_depth [] = 0
externals_depth (e ∷ es) = max (external_depth e) (externals_depth es)

abbrev pub unit_depth : UnitTree → ℕ
unit_depth unit = suc (externals_depth unit.parts)
