-- The numbers of a unit's types and things in the whole program: those of each unit stand behind those of the units before it.
use Rattle.std.specs.Prelude.{ℕ, suc, ◌+◌, max, List, [], ◌∷◌, map, length, option_map}
use Rattle.cx_core.specs.Trees.{CTy, ty, CTyForm, void, basic, enum_type, pointer, array, record_type, function, CParams, unlisted, listed, CTys, no_types, more_types, CExpr, expr, CForm, whole, null, object, code, load, deref, member, address, convert, unary, binary, and, or, cond, assign, assign_by, step, call, call_by, comma, literal, CExprs, no_exprs, more_exprs, CPut, put, CPuts, no_puts, more_puts, CStmt, stmt, CStmtForm, label, case, default, block, expression, if_then, switch, while, do_while, for_loop, goto, continue, break, returns, begin, COtherwise, no_else, else_do, CStmts, no_stmts, more_stmts, CMember, CRecord, CObject, CFun, COuter, CKey, a_function, an_object, a_record, a_calloc, CDeclaredOrder, CDoes, declares, defines, calls, uses, CMention, CUnit}

-- ---- how many numbers units take

pub record CCounts : Type 0 where
  pub records : ℕ
  pub enums : ℕ
  pub objects : ℕ
  pub functions : ℕ

abbrev pub no_counts : CCounts
no_counts = record { records = 0; enums = 0; objects = 0; functions = 0 }

abbrev pub together : CCounts → CCounts → CCounts
together first second = record {
  records = first.records + second.records;
  enums = first.enums + second.enums;
  objects = first.objects + second.objects;
  functions = first.functions + second.functions;
}

-- the least number above all of a list
abbrev pub above : List ℕ → ℕ
above [] = 0
above (one ∷ others) = max (suc one) (above others)

abbrev pub counts_of : CUnit → CCounts
counts_of one = record {
  records = length one.types.records;
  enums = length one.types.enums;
  objects = above (map (λ known. known.object) one.objects);
  functions = max (above (map (λ known. known.function) one.functions)) (above (map (λ known. known.function) one.externals));
}

-- ---- what the numbers of a unit become

pub record CNumbers : Type 0 where
  pub before : CCounts
  -- the object and the function that stand in the program for those of the unit with a number
  pub object_for : ℕ → ℕ
  pub function_for : ℕ → ℕ

module _ (before : CCounts) where
  -- ---- types

  abbrev mutual
    pub type_there : CTy → CTy
    type_there (ty form is_const) = ty (form_there form) is_const

    pub form_there : CTyForm → CTyForm
    form_there void = void
    form_there (basic which) = basic which
    form_there (enum_type number) = enum_type (before.enums + number)
    form_there (pointer to) = pointer (type_there to)
    form_there (array element count) = array (type_there element) count
    form_there (record_type number) = record_type (before.records + number)
    form_there (function result params variadic) = function (type_there result) (params_there params) variadic

    pub params_there : CParams → CParams
    params_there unlisted = unlisted
    params_there (listed types) = listed (types_there types)

    pub types_there : CTys → CTys
    types_there no_types = no_types
    types_there (more_types first others) = more_types (type_there first) (types_there others)

  abbrev pub member_there : CMember → CMember
  member_there one = record one { type = type_there one.type }

  abbrev pub record_there : CRecord → CRecord
  record_there one = record one { number = before.records + one.number; members = map member_there one.members }

  -- ---- mentions

  abbrev pub does_there : CDoes → CDoes
  does_there declares = declares
  does_there defines = defines
  does_there (calls trailing) = calls (map type_there trailing)
  does_there uses = uses

  -- a mention stands in the unit with this number
  abbrev pub mention_there : (unit : ℕ) → CMention → CMention
  mention_there unit one = record one {
    place = record { unit = unit; line = one.place.line };
    type = type_there one.type;
    does = does_there one.does;
  }

module _ (numbers : CNumbers) where
  -- ---- expressions

  abbrev mutual
    pub expr_there : CExpr → CExpr
    expr_there (expr type place form) = expr (type_there numbers.before type) place (value_there form)

    pub value_there : CForm → CForm
    value_there (whole value) = whole value
    value_there null = null
    value_there (object number) = object (numbers.object_for number)
    value_there (code number) = code (numbers.function_for number)
    value_there (load from) = load (expr_there from)
    value_there (deref from) = deref (expr_there from)
    value_there (member of spot) = member (expr_there of) spot
    value_there (address of) = address (expr_there of)
    value_there (convert value) = convert (expr_there value)
    value_there (unary op value) = unary op (expr_there value)
    value_there (binary op left right) = binary op (expr_there left) (expr_there right)
    value_there (and left right) = and (expr_there left) (expr_there right)
    value_there (or left right) = or (expr_there left) (expr_there right)
    value_there (cond test first second) = cond (expr_there test) (expr_there first) (expr_there second)
    value_there (assign target value) = assign (expr_there target) (expr_there value)
    value_there (assign_by op computes target value) = assign_by op (type_there numbers.before computes) (expr_there target) (expr_there value)
    value_there (step up post on) = step up post (expr_there on)
    value_there (call callee args) = call (numbers.function_for callee) (exprs_there args)
    value_there (call_by callee args) = call_by (expr_there callee) (exprs_there args)
    value_there (comma first second) = comma (expr_there first) (expr_there second)
    value_there (literal number puts) = literal (numbers.object_for number) (puts_there puts)

    pub exprs_there : CExprs → CExprs
    exprs_there no_exprs = no_exprs
    exprs_there (more_exprs first others) = more_exprs (expr_there first) (exprs_there others)

    pub put_there : CPut → CPut
    put_there (put spot type value) = put spot (type_there numbers.before type) (expr_there value)

    pub puts_there : CPuts → CPuts
    puts_there no_puts = no_puts
    puts_there (more_puts first others) = more_puts (put_there first) (puts_there others)

  -- ---- statements

  abbrev mutual
    pub stmt_there : CStmt → CStmt
    stmt_there (stmt place objects form) = stmt place (map numbers.object_for objects) (action_there form)

    pub action_there : CStmtForm → CStmtForm
    action_there (label name one) = label name (stmt_there one)
    action_there (case value one) = case value (stmt_there one)
    action_there (default one) = default (stmt_there one)
    action_there (block all) = block (stmts_there all)
    action_there (expression value) = expression (option_map expr_there value)
    action_there (if_then test one other) = if_then (expr_there test) (stmt_there one) (else_there other)
    action_there (switch value one) = switch (expr_there value) (stmt_there one)
    action_there (while test one) = while (expr_there test) (stmt_there one)
    action_there (do_while one test) = do_while (stmt_there one) (expr_there test)
    action_there (for_loop first test next one) =
        for_loop (stmts_there first) (option_map expr_there test) (option_map expr_there next) (stmt_there one)
    action_there (goto name) = goto name
    action_there continue = continue
    action_there break = break
    action_there (returns value) = returns (option_map expr_there value)
    action_there (begin number puts) = begin (numbers.object_for number) (option_map puts_there puts)

    pub else_there : COtherwise → COtherwise
    else_there no_else = no_else
    else_there (else_do one) = else_do (stmt_there one)

    pub stmts_there : CStmts → CStmts
    stmts_there no_stmts = no_stmts
    stmts_there (more_stmts first others) = more_stmts (stmt_there first) (stmts_there others)

  -- ---- things

  abbrev pub object_there : CObject → CObject
  object_there one = record one {
    object = numbers.object_for one.object;
    type = type_there numbers.before one.type;
    puts = option_map puts_there one.puts;
  }

  abbrev pub function_there : CFun → CFun
  function_there one = record one {
    function = numbers.function_for one.function;
    type = type_there numbers.before one.type;
    params = map numbers.object_for one.params;
    body = stmt_there one.body;
  }

  abbrev pub outer_there : COuter → COuter
  outer_there one = record one { function = numbers.function_for one.function; type = type_there numbers.before one.type }

  -- ---- the order of declarations

  abbrev pub key_there : CKey → CKey
  key_there (a_function number) = a_function (numbers.function_for number)
  key_there (an_object number) = an_object (numbers.object_for number)
  key_there (a_record number) = a_record (numbers.before.records + number)
  key_there a_calloc = a_calloc

  abbrev pub order_there : CDeclaredOrder → CDeclaredOrder
  order_there one = record {
    things = map key_there one.things;
    completed = map (λ number. numbers.before.records + number) one.completed;
  }
