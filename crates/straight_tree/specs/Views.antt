-- The syntax tree that a value of each declared type stands for.
use Rattle.std.specs.Prelude.{List, [], ◌∷◌, map, option_map}
use Rattle.straight_tree.specs.declared.declaration.Decl.{Decl}
use Rattle.straight_tree.specs.declared.declaration.InitDeclarator.{InitDeclarator}
use Rattle.straight_tree.specs.declared.declaration.Initialiser.{Initialiser}
use Rattle.straight_tree.specs.declared.declaration.Initialiser.TheVariants as initialiser
use Rattle.straight_tree.specs.declared.declarator.Declarator.{Declarator, fold-Declarator}
use Rattle.straight_tree.specs.declared.declarator.Declarator.TheOpen.{Declarator-F, Param-F}
use Rattle.straight_tree.specs.declared.declarator.Param.{Param, fold-Param}
use Rattle.straight_tree.specs.declared.declarator.Spec.{Spec}
use Rattle.straight_tree.specs.declared.declarator.Spec.TheVariants as spec
use Rattle.straight_tree.specs.declared.declarator.Specs.{Specs}
use Rattle.straight_tree.specs.declared.expr.Expr.{Expr, fold-Expr}
use Rattle.straight_tree.specs.declared.expr.Expr.TheOpen.{Expr-F}
use Rattle.straight_tree.specs.declared.stmt.BlockItem.{BlockItem, fold-BlockItem}
use Rattle.straight_tree.specs.declared.stmt.Stmt.{Stmt, fold-Stmt}
use Rattle.straight_tree.specs.declared.stmt.BlockItem.TheOpen.{Stmt-F, BlockItem-F}
use Rattle.straight_tree.specs.declared.unit.External.{External}
use Rattle.straight_tree.specs.declared.unit.External.TheVariants as external
use Rattle.straight_tree.specs.declared.unit.Unit.{Unit as UnitValue}
use Rattle.straight_tree.specs.Trees as tree
use Rattle.straight_tree.specs.Trees.{ExprTree, ExprTrees, SpecTree, SpecTrees, SpecsTree, DeclaratorTree, ParamTree, ParamTrees, InitialiserTree, InitDeclaratorTree, DeclTree, StmtTree, ItemTree, ItemTrees, ExternalTree, UnitTree}

-- ---- lists

abbrev pub exprs : List ExprTree → ExprTrees
exprs [] = tree.no_exprs
exprs (e ∷ es) = tree.more_exprs e (exprs es)

abbrev pub specs_list : List SpecTree → SpecTrees
specs_list [] = tree.no_specs
specs_list (s ∷ ss) = tree.more_specs s (specs_list ss)

abbrev pub params : List ParamTree → ParamTrees
params [] = tree.no_params
params (p ∷ ps) = tree.more_params p (params ps)

abbrev pub items : List ItemTree → ItemTrees
items [] = tree.no_items
items (i ∷ is) = tree.more_items i (items is)

-- ---- expressions

abbrev expr_step : Expr-F ExprTree → ExprTree
expr_step (Expr-F.Name name lines) = tree.Name name lines
expr_step (Expr-F.Number value ty lines) = tree.Number value ty lines
expr_step (Expr-F.Paren inner lines) = tree.Paren inner lines
expr_step (Expr-F.Call of args lines) = tree.Call of (exprs args) lines
expr_step (Expr-F.Unary op on lines) = tree.Unary op on lines
expr_step (Expr-F.Binary left op right lines) = tree.Binary left op right lines
expr_step (Expr-F.Assign left op right lines) = tree.Assign left op right lines

abbrev pub expr_view : Expr → ExprTree
expr_view = fold-Expr ExprTree expr_step

-- ---- specifiers, declarators and initialisers

abbrev pub spec_view : Spec → SpecTree
spec_view spec.Int = tree.Int
spec_view spec.Void = tree.Void

abbrev pub specs_view : Specs → SpecsTree
specs_view specs = tree.Specs (specs_list (map spec_view specs.list)) specs.lines

abbrev declarator_step : Declarator-F DeclaratorTree ParamTree → DeclaratorTree
declarator_step Declarator-F.Missing = tree.Missing
declarator_step (Declarator-F.Identifier name lines) = tree.Identifier name lines
declarator_step (Declarator-F.Function of list lines) = tree.Function of (params list) lines

abbrev param_step : Param-F DeclaratorTree ParamTree → ParamTree
param_step param = tree.Param (specs_view param.specs) param.declarator

abbrev pub declarator_view : Declarator → DeclaratorTree
declarator_view = fold-Declarator DeclaratorTree ParamTree declarator_step param_step

abbrev pub param_view : Param → ParamTree
param_view = fold-Param DeclaratorTree ParamTree declarator_step param_step

abbrev pub initialiser_view : Initialiser → InitialiserTree
initialiser_view (initialiser.Expr e) = tree.ExprInitialiser (expr_view e)

-- ---- declarations

abbrev pub init_declarator_view : InitDeclarator → InitDeclaratorTree
init_declarator_view d = record { declarator = declarator_view d.declarator; init = option_map initialiser_view d.init; lines = d.lines }

abbrev pub decl_view : Decl → DeclTree
decl_view d = record { specs = specs_view d.specs; list = map init_declarator_view d.list; lines = d.lines }

-- ---- statements

abbrev stmt_step : Stmt-F ItemTree StmtTree → StmtTree
stmt_step (Stmt-F.Block list lines) = tree.Block (items list) lines
stmt_step (Stmt-F.Expr e lines) = tree.ExprStmt (option_map expr_view e) lines
stmt_step (Stmt-F.Return e lines) = tree.Return (option_map expr_view e) lines

abbrev item_step : BlockItem-F ItemTree StmtTree → ItemTree
item_step (BlockItem-F.Stmt s) = tree.StmtItem s

abbrev pub stmt_view : Stmt → StmtTree
stmt_view = fold-Stmt ItemTree StmtTree item_step stmt_step

abbrev pub item_view : BlockItem → ItemTree
item_view = fold-BlockItem ItemTree StmtTree item_step stmt_step

-- ---- units

abbrev pub external_view : External → ExternalTree
external_view (external.Function specs declarator body lines) = tree.Definition (specs_view specs) (declarator_view declarator) (stmt_view body) lines
external_view (external.Decl d) = tree.Declaration (decl_view d)

abbrev pub unit_view : UnitValue → UnitTree
unit_view unit = record { parts = map external_view unit.parts; lines = unit.lines }
