-- Which tree a value of each declared type is.
use Rattle.std.specs.Prelude.{map, option_map}
use Rattle.rs_text.specs.Tree as tree
use Rattle.rs_text.specs.Tree.{Ty, Place, Expr, Stmt, ArmTree, FieldTree, RecordTree, StaticTree, OuterTree, LocalTree, FunctionTree, ItemTree, ModuleTree, CrateTree, tys, option_ty, exprs, stmts, arms}
use Rattle.rs_tree.specs.declared.expr.RExpr.{RExpr}
use Rattle.rs_tree.specs.declared.expr.RExpr.TheFolds.{fold-RExpr, fold-RPlace}
use Rattle.rs_tree.specs.declared.expr.RExpr.TheOpen as e
use Rattle.rs_tree.specs.declared.expr.RPlace.{RPlace}
use Rattle.rs_tree.specs.declared.item.Crate.{Crate}
use Rattle.rs_tree.specs.declared.item.Field.{Field}
use Rattle.rs_tree.specs.declared.item.Function.{Function}
use Rattle.rs_tree.specs.declared.item.Item.{Item}
use Rattle.rs_tree.specs.declared.item.Item.TheVariants as item
use Rattle.rs_tree.specs.declared.item.Local.{Local}
use Rattle.rs_tree.specs.declared.item.Module.{Module}
use Rattle.rs_tree.specs.declared.item.Outer.{Outer}
use Rattle.rs_tree.specs.declared.item.Record.{Record}
use Rattle.rs_tree.specs.declared.item.Static.{Static}
use Rattle.rs_tree.specs.declared.stmt.Arm.{Arm}
use Rattle.rs_tree.specs.declared.stmt.RStmt.{RStmt}
use Rattle.rs_tree.specs.declared.stmt.RStmt.TheFolds.{fold-RStmt, fold-Arm}
use Rattle.rs_tree.specs.declared.stmt.RStmt.TheOpen as s
use Rattle.rs_tree.specs.declared.ty.RTy.{RTy, fold-RTy}
use Rattle.rs_tree.specs.declared.ty.RTy.TheOpen as t

-- ---- one node, with the trees of its children

abbrev ty_step : t.RTy-F Ty → Ty
ty_step (t.RTy-F.Integer ty) = tree.Integer ty
ty_step t.RTy-F.Boolean = tree.Boolean
ty_step t.RTy-F.Void = tree.Void
ty_step (t.RTy-F.Pointer target) = tree.Pointer target
ty_step (t.RTy-F.Array element size) = tree.Array element size
ty_step (t.RTy-F.Code params result) = tree.Code (tys params) (option_ty result)
ty_step (t.RTy-F.Record path) = tree.Record path.home path.name

abbrev pub ty_view : RTy → Ty
ty_view = fold-RTy Ty ty_step

abbrev place_step : e.RPlace-F Expr Place → Place
place_step (e.RPlace-F.Local name) = tree.Local name
place_step (e.RPlace-F.Static path) = tree.Static path.home path.name
place_step (e.RPlace-F.Deref operand) = tree.Deref operand
place_step (e.RPlace-F.Field place name) = tree.Field place name

abbrev expr_step : e.RExpr-F Expr Place → Expr
expr_step (e.RExpr-F.Literal value ty) = tree.Literal value ty
expr_step (e.RExpr-F.Truth value) = tree.Truth value
expr_step e.RExpr-F.NoFunction = tree.NoFunction
expr_step (e.RExpr-F.Read place) = tree.Read place
expr_step (e.RExpr-F.Call path args) = tree.Call path.home path.name (exprs args)
expr_step (e.RExpr-F.CallBy operand args) = tree.CallBy operand (exprs args)
expr_step (e.RExpr-F.Wrapping operand op arg) = tree.Wrapped operand op arg
expr_step (e.RExpr-F.WrappingNeg operand) = tree.WrappingNeg operand
expr_step (e.RExpr-F.Offset operand arg) = tree.Offset operand arg
expr_step (e.RExpr-F.OffsetFrom operand arg) = tree.OffsetFrom operand arg
expr_step (e.RExpr-F.IsNull operand) = tree.IsNull operand
expr_step (e.RExpr-F.IsNone operand) = tree.IsNone operand
expr_step (e.RExpr-F.AddressOf place) = tree.AddressOf place
expr_step (e.RExpr-F.NullPointer ty) = tree.NullPointer (ty_view ty)
expr_step (e.RExpr-F.SomeFunction path params result) =
    tree.SomeFunction path.home path.name (tys (map ty_view params)) (option_ty (option_map ty_view result))
expr_step (e.RExpr-F.Transmute from to operand) = tree.Transmute (ty_view from) (ty_view to) operand
expr_step (e.RExpr-F.Neg operand) = tree.Neg operand
expr_step (e.RExpr-F.Not operand) = tree.Not operand
expr_step (e.RExpr-F.Cast operand ty) = tree.Cast operand (ty_view ty)
expr_step (e.RExpr-F.Binary left op right) = tree.Binary left op right
expr_step (e.RExpr-F.And left right) = tree.And left right
expr_step (e.RExpr-F.Or left right) = tree.Or left right
expr_step (e.RExpr-F.Choose condition if_true if_false) = tree.Choose condition if_true if_false

abbrev pub place_view : RPlace → Place
place_view = fold-RPlace Expr Place expr_step place_step

abbrev pub expr_view : RExpr → Expr
expr_view = fold-RExpr Expr Place expr_step place_step

abbrev stmt_step : s.RStmt-F Stmt ArmTree → Stmt
stmt_step (s.RStmt-F.Assign place value) = tree.Assign (place_view place) (expr_view value)
stmt_step (s.RStmt-F.Eval value) = tree.Eval (expr_view value)
stmt_step (s.RStmt-F.CopyBytes source target count) = tree.CopyBytes (expr_view source) (expr_view target) (expr_view count)
stmt_step (s.RStmt-F.If condition if_true if_false) = tree.If (expr_view condition) (stmts if_true) (stmts if_false)
stmt_step (s.RStmt-F.Loop label body) = tree.Loop label (stmts body)
stmt_step (s.RStmt-F.Block label body) = tree.Block label (stmts body)
stmt_step (s.RStmt-F.Break label) = tree.Break label
stmt_step (s.RStmt-F.Continue label) = tree.Continue label
stmt_step (s.RStmt-F.Match value cases other) = tree.Match (expr_view value) (arms cases) (stmts other)
stmt_step (s.RStmt-F.Return value) = tree.Return (option_map expr_view value)

abbrev arm_step : s.Arm-F Stmt ArmTree → ArmTree
arm_step one = tree.LiteralArm one.value one.ty (stmts one.body)

abbrev pub stmt_view : RStmt → Stmt
stmt_view = fold-RStmt Stmt ArmTree stmt_step arm_step

abbrev pub arm_view : Arm → ArmTree
arm_view = fold-Arm Stmt ArmTree stmt_step arm_step

-- ---- items

abbrev pub field_view : Field → FieldTree
field_view field = record { name = field.name; ty = ty_view field.ty }

abbrev pub record_view : Record → RecordTree
record_view of = record { align = of.align; is_union = of.is_union; name = of.name; fields = map field_view of.fields }

abbrev pub static_view : Static → StaticTree
static_view object = record { attribute = object.attribute; name = object.name; ty = ty_view object.ty; values = object.values }

abbrev pub outer_view : Outer → OuterTree
outer_view outer = record {
  link_name = outer.link_name;
  name = outer.name;
  params = map ty_view outer.params;
  variadic = outer.variadic;
  result = option_map ty_view outer.result;
}

abbrev pub local_view : Local → LocalTree
local_view local = record { name = local.name; ty = ty_view local.ty }

abbrev pub function_view : Function → FunctionTree
function_view function = record {
  attribute = function.attribute;
  name = function.name;
  params = map local_view function.params;
  result = option_map ty_view function.result;
  locals = map local_view function.locals;
  body = stmts (map stmt_view function.body);
}

abbrev pub item_view : Item → ItemTree
item_view (item.Record of) = tree.RecordItem (record_view of)
item_view (item.Static object) = tree.StaticItem (static_view object)
item_view (item.Extern outers) = tree.ExternItem (map outer_view outers)
item_view (item.Function fun) = tree.FunctionItem (function_view fun)

abbrev pub module_view : Module → ModuleTree
module_view unit = record { name = unit.name; items = map item_view unit.items }

abbrev pub crate_view : Crate → CrateTree
crate_view whole = record { modules = map module_view whole.modules; entry = whole.entry }
