-- Valid trees (ISO C99, 6.5 to 6.9): each child stands at the level that its production asks for, operators are those of the
-- production, and a node has as many lines as tokens that it prints itself.
use Rattle.std.specs.Prelude.{◌≡◌, ℕ, suc, ◌≤◌, ◌<◌, ◌⊎◌, max, ⊤, IsTrue, List, [], ◌∷◌, length, Option, Some, None}
use Rattle.straight_tree.specs.Levels.{expression_level, assignment_level, cast_level, unary_level, postfix_level, binary_level, is_unary_operator, is_assignment_operator, level}
use Rattle.straight_tree.specs.Trees.{ExprTree, Name, Number, Paren, Call, Unary, Binary, Assign, ExprTrees, no_exprs, more_exprs, SpecTrees, no_specs, more_specs, SpecsTree, Specs, DeclaratorTree, Missing, Identifier, Function, ParamTree, Param, ParamTrees, no_params, more_params, InitialiserTree, ExprInitialiser, InitDeclaratorTree, DeclTree, StmtTree, Block, ExprStmt, Return, ItemTree, StmtItem, ItemTrees, no_items, more_items, ExternalTree, Definition, Declaration, UnitTree}

-- a node has this many lines
abbrev pub Lines : List ℕ → ℕ → Type 0
Lines lines count = length lines ≡ count

-- the commas between parts, and the closing mark behind them
abbrev pub list_marks : ℕ → ℕ
list_marks parts = max 1 parts

-- ---- expressions (6.5)

abbrev pub exprs_count : ExprTrees → ℕ
exprs_count no_exprs = 0
exprs_count (more_exprs e es) = suc (exprs_count es)

abbrev mutual
  pub IsValidExpr : ExprTree → Type 0
  IsValidExpr (Name name lines) = Lines lines 1
  IsValidExpr (Number value ty lines) = Lines lines 1
  IsValidExpr (Paren inner lines) = IsValidExpr inner × Lines lines 2
  IsValidExpr (Call of args lines) = IsValidExpr of × (postfix_level ≤ level of) × AreValidArgs args × Lines lines (suc (list_marks (exprs_count args)))
  IsValidExpr (Unary op on lines) = IsTrue (is_unary_operator op) × IsValidExpr on × (cast_level ≤ level on) × Lines lines 1
  IsValidExpr (Binary left op right lines) =
      (0 < binary_level op) × IsValidExpr left × (binary_level op ≤ level left) × IsValidExpr right × (binary_level op < level right) × Lines lines 1
  IsValidExpr (Assign left op right lines) =
      IsTrue (is_assignment_operator op) × IsValidExpr left × (unary_level ≤ level left) × IsValidExpr right × (assignment_level ≤ level right) × Lines lines 1

  -- arguments (6.5.2)
  pub AreValidArgs : ExprTrees → Type 0
  AreValidArgs no_exprs = ⊤
  AreValidArgs (more_exprs e es) = IsValidExpr e × (assignment_level ≤ level e) × AreValidArgs es

-- an expression that may be missing (6.8.3, 6.8.6)
abbrev pub IsValidOption : Option ExprTree → Type 0
IsValidOption None = ⊤
IsValidOption (Some e) = IsValidExpr e × (expression_level ≤ level e)

-- ---- specifiers, declarators and initialisers (6.7)

abbrev pub specs_count : SpecTrees → ℕ
specs_count no_specs = 0
specs_count (more_specs s ss) = suc (specs_count ss)

-- one or more
abbrev pub IsValidSpecs : SpecsTree → Type 0
IsValidSpecs (Specs list lines) = (0 < specs_count list) × Lines lines (specs_count list)

abbrev pub params_count : ParamTrees → ℕ
params_count no_params = 0
params_count (more_params p ps) = suc (params_count ps)

abbrev mutual
  -- a declarator with a name (6.7.5): an identifier, or a function of such a one
  pub IsNamed : DeclaratorTree → Type 0
  IsNamed Missing = ⊥
  IsNamed (Identifier name lines) = Lines lines 1
  IsNamed (Function of params lines) = IsNamed of × (0 < params_count params) × AreValidParams params × Lines lines (suc (list_marks (params_count params)))

  -- a parameter's declarator may be missing (6.7.5)
  pub IsValidParam : ParamTree → Type 0
  IsValidParam (Param specs declarator) = IsValidSpecs specs × ((declarator ≡ Missing) ⊎ IsNamed declarator)

  pub AreValidParams : ParamTrees → Type 0
  AreValidParams no_params = ⊤
  AreValidParams (more_params p ps) = IsValidParam p × AreValidParams ps

abbrev pub IsValidInitialiser : InitialiserTree → Type 0
IsValidInitialiser (ExprInitialiser e) = IsValidExpr e × (assignment_level ≤ level e)

-- ---- declarations (6.7)

abbrev pub IsValidInit : List ℕ → Option InitialiserTree → Type 0
IsValidInit lines None = Lines lines 0
IsValidInit lines (Some init) = IsValidInitialiser init × Lines lines 1

abbrev pub IsValidInitDeclarator : InitDeclaratorTree → Type 0
IsValidInitDeclarator d = IsNamed d.declarator × IsValidInit d.lines d.init

abbrev pub AreValidInitDeclarators : List InitDeclaratorTree → Type 0
AreValidInitDeclarators [] = ⊤
AreValidInitDeclarators (d ∷ ds) = IsValidInitDeclarator d × AreValidInitDeclarators ds

abbrev pub IsValidDecl : DeclTree → Type 0
IsValidDecl d = IsValidSpecs d.specs × AreValidInitDeclarators d.list × Lines d.lines (list_marks (length d.list))

-- ---- statements (6.8)

abbrev mutual
  pub IsValidStmt : StmtTree → Type 0
  IsValidStmt (Block items lines) = AreValidItems items × Lines lines 2
  IsValidStmt (ExprStmt expr lines) = IsValidOption expr × Lines lines 1
  IsValidStmt (Return value lines) = IsValidOption value × Lines lines 2

  pub IsValidItem : ItemTree → Type 0
  IsValidItem (StmtItem s) = IsValidStmt s

  pub AreValidItems : ItemTrees → Type 0
  AreValidItems no_items = ⊤
  AreValidItems (more_items i is) = IsValidItem i × AreValidItems is

-- ---- units (6.9)

abbrev pub IsBlock : StmtTree → Type 0
IsBlock (Block items lines) = ⊤
IsBlock _ = ⊥

abbrev pub IsValidExternal : ExternalTree → Type 0
IsValidExternal (Definition specs declarator body lines) =
    IsValidSpecs specs × IsNamed declarator × IsValidStmt body × IsBlock body × Lines lines 0
IsValidExternal (Declaration d) = IsValidDecl d

abbrev pub AreValidExternals : List ExternalTree → Type 0
AreValidExternals [] = ⊤
AreValidExternals (e ∷ es) = IsValidExternal e × AreValidExternals es

-- one part or more
abbrev pub IsValidUnit : UnitTree → Type 0
IsValidUnit unit = (0 < length unit.parts) × AreValidExternals unit.parts × Lines unit.lines 0
