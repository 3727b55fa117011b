-- The plain tree of each value of the declared types.
use Rattle.std.specs.Prelude.{List, [], ◌∷◌, map, Option, Some, None, option_map}
use Rattle.cx_core.specs.declared.expr.CoreExpr.{CoreExpr}
use Rattle.cx_core.specs.declared.expr.Form.TheFolds.{fold-CoreExpr, fold-Put}
use Rattle.cx_core.specs.declared.expr.Form.TheOpen as e
use Rattle.cx_core.specs.declared.expr.Put.{Put}
use Rattle.cx_core.specs.declared.order.DeclaredOrder.{DeclaredOrder}
use Rattle.cx_core.specs.declared.order.Key.{Key}
use Rattle.cx_core.specs.declared.order.Key.TheVariants as key
use Rattle.cx_core.specs.declared.program.CoreObject.{CoreObject}
use Rattle.cx_core.specs.declared.program.Fun.{Fun}
use Rattle.cx_core.specs.declared.program.Outer.{Outer}
use Rattle.cx_core.specs.declared.program.Parts.{Parts}
use Rattle.cx_core.specs.declared.stmt.CoreStmt.{CoreStmt}
use Rattle.cx_core.specs.declared.stmt.StmtForm.TheFolds.{fold-CoreStmt}
use Rattle.cx_core.specs.declared.stmt.StmtForm.TheOpen as s
use Rattle.cx_core.specs.declared.ty.FunctionTy.{FunctionTy}
use Rattle.cx_core.specs.declared.ty.Member.{Member}
use Rattle.cx_core.specs.declared.ty.RecordTag.{RecordTag}
use Rattle.cx_core.specs.declared.ty.RecordTy.{RecordTy}
use Rattle.cx_core.specs.declared.ty.Ty.{Ty}
use Rattle.cx_core.specs.declared.ty.Params.{Params}
use Rattle.cx_core.specs.declared.ty.Params.TheFolds.{fold-Ty, fold-FunctionTy, fold-Params}
use Rattle.cx_core.specs.declared.ty.Params.TheOpen as t
use Rattle.cx_core.specs.declared.ty.Types.{Types}
use Rattle.cx_core.specs.declared.unit.CoreUnit.{CoreUnit}
use Rattle.cx_core.specs.declared.unit.Does.{Does}
use Rattle.cx_core.specs.declared.unit.Does.TheVariants.{Declares, Defines, Calls, Uses}
use Rattle.cx_core.specs.declared.unit.Mention.{Mention}
use Rattle.cx_core.specs.Trees.{CTy, ty, CTyForm, void, basic, enum_type, pointer, array, record_type, function, CParams, unlisted, listed, CTys, no_types, more_types, CExpr, expr, CForm, whole, null, object, code, load, deref, member, address, convert, unary, binary, and, or, cond, assign, assign_by, step, call, call_by, comma, literal, CExprs, no_exprs, more_exprs, CPut, put, CPuts, no_puts, more_puts, CStmt, stmt, CStmtForm, label, case, default, block, expression, if_then, switch, while, do_while, for_loop, goto, continue, break, returns, begin, COtherwise, no_else, else_do, CStmts, no_stmts, more_stmts, CMember, CRecord, CRecordTag, CTypes, CObject, CFun, COuter, CKey, a_function, an_object, a_record, a_calloc, CDeclaredOrder, CProgram, CDoes, declares, defines, calls, uses, CMention, CUnit}

-- ---- types

abbrev pub types_of : List CTy → CTys
types_of [] = no_types
types_of (first ∷ others) = more_types first (types_of others)

abbrev ty_params : t.Params-F CParams CTyForm CTyForm CTy → CParams
ty_params t.Unlisted = unlisted
ty_params (t.Listed types) = listed (types_of types)

abbrev ty_form : t.TyForm-F CParams CTyForm CTyForm CTy → CTyForm
ty_form t.Void = void
ty_form (t.Basic which) = basic which
ty_form (t.Enum number) = enum_type number
ty_form (t.Pointer to) = pointer to
ty_form (t.Array element length) = array element length
ty_form (t.Record number) = record_type number
ty_form (t.Function signature) = signature

abbrev pub view_type : Ty → CTy
view_type = fold-Ty CParams CTyForm CTyForm CTy ty_params ty_form
    (λ one. function one.result_ty one.params one.is_variadic) (λ one. ty one.form one.is_const)

abbrev pub view_function_type : FunctionTy → CTyForm
view_function_type = fold-FunctionTy CParams CTyForm CTyForm CTy ty_params ty_form
    (λ one. function one.result_ty one.params one.is_variadic) (λ one. ty one.form one.is_const)

abbrev pub view_params : Params → CParams
view_params = fold-Params CParams CTyForm CTyForm CTy ty_params ty_form
    (λ one. function one.result_ty one.params one.is_variadic) (λ one. ty one.form one.is_const)

-- ---- expressions

abbrev pub exprs_of : List CExpr → CExprs
exprs_of [] = no_exprs
exprs_of (first ∷ others) = more_exprs first (exprs_of others)

abbrev pub puts_of : List CPut → CPuts
puts_of [] = no_puts
puts_of (first ∷ others) = more_puts first (puts_of others)

abbrev expr_form : e.Form-F CForm CExpr CPut → CForm
expr_form (e.Whole value) = whole value
expr_form e.Null = null
expr_form (e.Object number) = object number
expr_form (e.Code number) = code number
expr_form (e.Load from) = load from
expr_form (e.Deref from) = deref from
expr_form (e.Member of spot) = member of spot
expr_form (e.Address of) = address of
expr_form (e.Convert value) = convert value
expr_form (e.Unary op value) = unary op value
expr_form (e.Binary op left right) = binary op left right
expr_form (e.And left right) = and left right
expr_form (e.Or left right) = or left right
expr_form (e.Cond test first second) = cond test first second
expr_form (e.Assign target value) = assign target value
expr_form (e.AssignBy op computes target value) = assign_by op (view_type computes) target value
expr_form (e.Step up post on) = step up post on
expr_form (e.Call callee args) = call callee (exprs_of args)
expr_form (e.CallBy callee args) = call_by callee (exprs_of args)
expr_form (e.Comma left right) = comma left right
expr_form (e.Literal number puts) = literal number (puts_of puts)

abbrev pub view_expr : CoreExpr → CExpr
view_expr = fold-CoreExpr CForm CExpr CPut expr_form
    (λ one. expr (view_type one.ty) one.place one.form)
    (λ one. put one.spot (view_type one.ty) one.value)

abbrev pub view_put : Put → CPut
view_put = fold-Put CForm CExpr CPut expr_form
    (λ one. expr (view_type one.ty) one.place one.form)
    (λ one. put one.spot (view_type one.ty) one.value)

abbrev pub view_puts : List Put → CPuts
view_puts puts = puts_of (map view_put puts)

-- ---- statements

abbrev pub stmts_of : List CStmt → CStmts
stmts_of [] = no_stmts
stmts_of (first ∷ others) = more_stmts first (stmts_of others)

abbrev pub otherwise_of : Option CStmt → COtherwise
otherwise_of None = no_else
otherwise_of (Some one) = else_do one

abbrev stmt_form : s.StmtForm-F CStmtForm CStmt → CStmtForm
stmt_form (s.Label name labelled) = label name labelled
stmt_form (s.Case value labelled) = case value labelled
stmt_form (s.Default labelled) = default labelled
stmt_form (s.Block stmts) = block (stmts_of stmts)
stmt_form (s.Expr value) = expression (option_map view_expr value)
stmt_form (s.If test first second) = if_then (view_expr test) first (otherwise_of second)
stmt_form (s.Switch value body) = switch (view_expr value) body
stmt_form (s.While test body) = while (view_expr test) body
stmt_form (s.Do body test) = do_while body (view_expr test)
stmt_form (s.For first test next body) = for_loop (stmts_of first) (option_map view_expr test) (option_map view_expr next) body
stmt_form (s.Goto name) = goto name
stmt_form s.Continue = continue
stmt_form s.Break = break
stmt_form (s.Return value) = returns (option_map view_expr value)
stmt_form (s.Begin number puts) = begin number (option_map view_puts puts)

abbrev pub view_stmt : CoreStmt → CStmt
view_stmt = fold-CoreStmt CStmtForm CStmt stmt_form (λ one. stmt one.place one.objects one.form)

-- ---- programs

abbrev pub view_member : Member → CMember
view_member one = record { name = one.name; type = view_type one.ty; bits = one.bits }

abbrev pub view_record : RecordTy → CRecord
view_record one = record {
  number = one.number;
  tag = one.tag;
  is_union = one.is_union;
  members = map view_member one.members;
}

abbrev pub view_tag : RecordTag → CRecordTag
view_tag one = record { tag = one.tag; is_union = one.is_union }

abbrev pub view_types : Types → CTypes
view_types one = record {
  records = map (option_map view_record) one.records;
  record_tags = map view_tag one.record_tags;
  record_units = one.record_units;
  enums = one.enums;
  enum_units = one.enum_units;
}

abbrev pub view_object : CoreObject → CObject
view_object one = record {
  object = one.object;
  unit = one.unit;
  name = one.name;
  is_text = one.is_text;
  type = view_type one.ty;
  linkage = one.linkage;
  puts = option_map view_puts one.puts;
}

abbrev pub view_function : Fun → CFun
view_function one = record {
  function = one.function;
  name = one.name;
  unit = one.unit;
  linkage = one.linkage;
  type = view_type one.ty;
  params = one.params;
  body = view_stmt one.body;
}

abbrev pub view_outer : Outer → COuter
view_outer one = record {
  function = one.function;
  name = one.name;
  linkage = one.linkage;
  type = view_type one.ty;
}

abbrev pub view_key : Key → CKey
view_key (key.Function number) = a_function number
view_key (key.Object number) = an_object number
view_key (key.Record number) = a_record number
view_key key.Calloc = a_calloc

abbrev pub view_order : DeclaredOrder → CDeclaredOrder
view_order one = record { things = map view_key one.things; completed = one.completed }

abbrev pub view_program : Parts → CProgram
view_program one = record {
  types = view_types one.types;
  objects = map view_object one.objects;
  functions = map view_function one.functions;
  externals = map view_outer one.externals;
  orders = map view_order one.orders;
}

-- ---- units

abbrev pub view_does : Does → CDoes
view_does Declares = declares
view_does Defines = defines
view_does (Calls trailing) = calls (map view_type trailing)
view_does Uses = uses

abbrev pub view_mention : Mention → CMention
view_mention one = record {
  name = one.name;
  place = one.place;
  type = view_type one.ty;
  linkage = one.linkage;
  does = view_does one.does;
}

abbrev pub view_unit : CoreUnit → CUnit
view_unit one = record {
  types = view_types one.types;
  objects = map view_object one.objects;
  functions = map view_function one.functions;
  externals = map view_outer one.externals;
  mentions = map view_mention one.mentions;
  order = view_order one.order;
}
