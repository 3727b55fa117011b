-- The plain tree of each value of the declared types.
use Rattle.std.specs.Prelude.{List, [], ◌∷◌, map, Option, Some, None, option_map}
use Rattle.straight_core.specs.declared.expr.CoreExpr.{CoreExpr}
use Rattle.straight_core.specs.declared.expr.Form.TheFolds.{fold-CoreExpr}
use Rattle.straight_core.specs.declared.expr.Form.TheOpen as e
use Rattle.straight_core.specs.declared.program.CoreObject.{CoreObject}
use Rattle.straight_core.specs.declared.program.Fun.{Fun}
use Rattle.straight_core.specs.declared.program.Outer.{Outer}
use Rattle.straight_core.specs.declared.program.Parts.{Parts}
use Rattle.straight_core.specs.declared.program.Put.{Put}
use Rattle.straight_core.specs.declared.stmt.CoreStmt.{CoreStmt}
use Rattle.straight_core.specs.declared.stmt.StmtForm.TheFolds.{fold-CoreStmt}
use Rattle.straight_core.specs.declared.stmt.StmtForm.TheOpen as s
use Rattle.straight_core.specs.declared.ty.Member.{Member}
use Rattle.straight_core.specs.declared.ty.RecordTy.{RecordTy}
use Rattle.straight_core.specs.declared.ty.Ty.{Ty}
use Rattle.straight_core.specs.declared.ty.TyForm.TheFolds.{fold-Ty}
use Rattle.straight_core.specs.declared.ty.TyForm.TheOpen as t
use Rattle.straight_core.specs.declared.ty.Types.{Types}
use Rattle.straight_core.specs.Trees.{CTy, ty, CTyForm, void, int, function, CParams, unlisted, listed, CTys, no_types, more_types, CExpr, expr, CForm, whole, object, load, convert, unary, binary, assign, call, CExprs, no_exprs, more_exprs, CStmt, stmt, CStmtForm, block, expression, returns, CStmts, no_stmts, more_stmts, CPut, put, CMember, CRecord, CTypes, CObject, CFun, COuter, CProgram}

-- ---- types

abbrev pub types_of : List CTy → CTys
types_of [] = no_types
types_of (first ∷ others) = more_types first (types_of others)

abbrev pub params_of : Option (List CTy) → CParams
params_of None = unlisted
params_of (Some types) = listed (types_of types)

abbrev ty_form : t.TyForm-F CTyForm CTy → CTyForm
ty_form t.Void = void
ty_form t.Int = int
ty_form (t.Function result params variadic) = function result (params_of params) variadic

abbrev pub view_type : Ty → CTy
view_type = fold-Ty CTyForm CTy ty_form (λ one. ty one.form one.is_const)

-- ---- expressions

abbrev pub exprs_of : List CExpr → CExprs
exprs_of [] = no_exprs
exprs_of (first ∷ others) = more_exprs first (exprs_of others)

abbrev expr_form : e.Form-F CForm CExpr → CForm
expr_form (e.Whole value) = whole value
expr_form (e.Object number) = object number
expr_form (e.Load from) = load from
expr_form (e.Convert value) = convert value
expr_form (e.Unary op value) = unary op value
expr_form (e.Binary op left right) = binary op left right
expr_form (e.Assign target value) = assign target value
expr_form (e.Call callee args) = call callee (exprs_of args)

abbrev pub view_expr : CoreExpr → CExpr
view_expr = fold-CoreExpr CForm CExpr expr_form (λ one. expr (view_type one.ty) one.place one.form)

-- ---- statements

abbrev pub stmts_of : List CStmt → CStmts
stmts_of [] = no_stmts
stmts_of (first ∷ others) = more_stmts first (stmts_of others)

abbrev stmt_form : s.StmtForm-F CStmtForm CStmt → CStmtForm
stmt_form (s.Block stmts) = block (stmts_of stmts)
stmt_form (s.Expr value) = expression (view_expr value)
stmt_form (s.Return value) = returns (option_map view_expr value)

abbrev pub view_stmt : CoreStmt → CStmt
view_stmt = fold-CoreStmt CStmtForm CStmt stmt_form (λ one. stmt one.place one.objects one.form)

-- ---- programs

abbrev pub view_put : Put → CPut
view_put one = put one.spot (view_type one.ty) (view_expr one.value)

abbrev pub view_member : Member → CMember
view_member one = record { name = one.name; type = view_type one.ty; bits = one.bits }

abbrev pub view_record : RecordTy → CRecord
view_record one = record {
  number = one.number;
  tag = one.tag;
  is_union = one.is_union;
  members = map view_member one.members;
}

abbrev pub view_types : Types → CTypes
view_types one = record {
  records = map (option_map view_record) one.records;
  enums = one.enums;
  record_units = one.record_units;
  enum_units = one.enum_units;
}

abbrev pub view_object : CoreObject → CObject
view_object one = record {
  object = one.object;
  unit = one.unit;
  name = one.name;
  is_text = one.is_text;
  type = view_type one.ty;
  linkage = one.linkage;
  puts = option_map (map view_put) one.puts;
}

abbrev pub view_function : Fun → CFun
view_function one = record {
  function = one.function;
  name = one.name;
  unit = one.unit;
  linkage = one.linkage;
  type = view_type one.ty;
  params = one.params;
  body = view_stmt one.body;
}

abbrev pub view_outer : Outer → COuter
view_outer one = record { function = one.function; name = one.name; type = view_type one.ty }

abbrev pub view_program : Parts → CProgram
view_program one = record {
  types = view_types one.types;
  objects = map view_object one.objects;
  functions = map view_function one.functions;
  externals = map view_outer one.externals;
}
