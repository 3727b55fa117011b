-- Which tree a value of src/tree.rt is.
use Rattle.std.specs.Prelude.{map, option_map}
use Rattle.straight_rust_tree.specs.declared.tree.Crate.{Crate}
use Rattle.straight_rust_tree.specs.declared.tree.Function.{Function}
use Rattle.straight_rust_tree.specs.declared.tree.Item.{Item}
use Rattle.straight_rust_tree.specs.declared.tree.Item.TheVariants as item
use Rattle.straight_rust_tree.specs.declared.tree.Local.{Local}
use Rattle.straight_rust_tree.specs.declared.tree.Module.{Module}
use Rattle.straight_rust_tree.specs.declared.tree.Outer.{Outer}
use Rattle.straight_rust_tree.specs.declared.tree.RExpr.{RExpr, fold-RExpr}
use Rattle.straight_rust_tree.specs.declared.tree.RExpr.TheOpen.{RExpr-F}
use Rattle.straight_rust_tree.specs.declared.tree.RPlace.{RPlace}
use Rattle.straight_rust_tree.specs.declared.tree.RPlace.TheVariants as rplace
use Rattle.straight_rust_tree.specs.declared.tree.RStmt.{RStmt}
use Rattle.straight_rust_tree.specs.declared.tree.RStmt.TheVariants as rstmt
use Rattle.straight_rust_tree.specs.declared.tree.RTy.{RTy}
use Rattle.straight_rust_tree.specs.declared.tree.RTy.TheVariants as rty
use Rattle.straight_rust_tree.specs.declared.tree.Static.{Static}
use Rattle.straight_rust_tree.specs.Tree.{Ty, i8, i16, i32, i64, u8, u16, u32, u64, isize, usize, bool, Place, named, static_at, Expr, literal, read, call, neg, binary, exprs, Stmt, assign, eval, gives, stmts, LocalTree, StaticTree, OuterTree, FunctionTree, ItemTree, static, extern, defined, ModuleTree, CrateTree}

abbrev pub ty_view : RTy → Ty
ty_view rty.I8 = i8
ty_view rty.I16 = i16
ty_view rty.I32 = i32
ty_view rty.I64 = i64
ty_view rty.U8 = u8
ty_view rty.U16 = u16
ty_view rty.U32 = u32
ty_view rty.U64 = u64
ty_view rty.Isize = isize
ty_view rty.Usize = usize
ty_view rty.Bool = bool

abbrev pub place_view : RPlace → Place
place_view (rplace.Name x) = named x
place_view (rplace.Path path) = static_at path.home path.name

-- one level of an expression, whose operands are seen as trees already
abbrev pub expr_step : RExpr-F Expr → Expr
expr_step (RExpr-F.Literal value ty) = literal value (ty_view ty)
expr_step (RExpr-F.Place place) = read (place_view place)
expr_step (RExpr-F.Call path args) = call path.home path.name (exprs args)
expr_step (RExpr-F.Neg operand) = neg operand
expr_step (RExpr-F.Binary operator left right) = binary operator left right

abbrev pub expr_view : RExpr → Expr
expr_view = fold-RExpr Expr expr_step

abbrev pub stmt_view : RStmt → Stmt
stmt_view (rstmt.Assign place value) = assign (place_view place) (expr_view value)
stmt_view (rstmt.Eval value) = eval (expr_view value)
stmt_view (rstmt.Return value) = gives (option_map expr_view value)

abbrev pub local_view : Local → LocalTree
local_view local = record { name = local.name; ty = ty_view local.ty }

abbrev pub static_view : Static → StaticTree
static_view object = record { attribute = object.attribute; name = object.name; ty = ty_view object.ty }

abbrev pub outer_view : Outer → OuterTree
outer_view outer = record {
  link_name = outer.link_name;
  name = outer.name;
  params = map ty_view outer.params;
  variadic = outer.variadic;
  result = option_map ty_view outer.result;
}

abbrev pub function_view : Function → FunctionTree
function_view function = record {
  attribute = function.attribute;
  name = function.name;
  params = map local_view function.params;
  result = option_map ty_view function.result;
  locals = map local_view function.locals;
  body = stmts (map stmt_view function.body);
}

abbrev pub item_view : Item → ItemTree
item_view (item.Static object) = static (static_view object)
item_view (item.Extern outers) = extern (map outer_view outers)
item_view (item.Function fun) = defined (function_view fun)

abbrev pub module_view : Module → ModuleTree
module_view unit = record { name = unit.name; items = map item_view unit.items }

abbrev pub crate_view : Crate → CrateTree
crate_view whole = record { modules = map module_view whole.modules; entry = whole.entry }
