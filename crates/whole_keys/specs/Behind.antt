-- The calls by name behind others, as trees are gone through.
use Rattle.std.specs.Prelude.{ℕ, ◌==◌, if◌then◌else◌, List, [], ◌∷◌, ◌++◌, Option, Some, None}
use Rattle.cx_core.specs.Trees.{CExpr, expr, CForm, whole, null, object, code, load, deref, member, address, convert, unary, binary, and, or, cond, assign, assign_by, step, call, call_by, comma, literal, CExprs, no_exprs, more_exprs, CPut, put, CPuts, no_puts, more_puts, CStmt, stmt, CStmtForm, label, case, default, block, expression, if_then, switch, while, do_while, for_loop, goto, continue, break, returns, begin, COtherwise, no_else, else_do, CStmts, no_stmts, more_stmts, CObject, CFun}
use Rattle.whole_names.specs.Calls.{NamedCall, is_bare}

abbrev mutual
  pub calls_behind : CExpr → List NamedCall → List NamedCall
  calls_behind (expr type place form) before = calls_behind_form form before

  pub calls_behind_form : CForm → List NamedCall → List NamedCall
  calls_behind_form (whole value) before = before
  calls_behind_form null before = before
  calls_behind_form (object number) before = before
  calls_behind_form (code number) before = before
  calls_behind_form (load from) before = calls_behind from before
  calls_behind_form (deref pointer) before = calls_behind pointer before
  calls_behind_form (member of spot) before = calls_behind of before
  calls_behind_form (address of) before = calls_behind of before
  calls_behind_form (convert value) before = calls_behind value before
  calls_behind_form (unary op value) before = calls_behind value before
  calls_behind_form (binary op left right) before = calls_behind right (calls_behind left before)
  calls_behind_form (and left right) before = calls_behind right (calls_behind left before)
  calls_behind_form (or left right) before = calls_behind right (calls_behind left before)
  calls_behind_form (cond test first second) before = calls_behind second (calls_behind first (calls_behind test before))
  calls_behind_form (assign target value) before = calls_behind value (calls_behind target before)
  calls_behind_form (assign_by op computes target value) before = calls_behind value (calls_behind target before)
  calls_behind_form (step up post on) before = calls_behind on before
  calls_behind_form (call callee args) before = calls_behind_list args (before ++ record { callee = callee; is_bare = is_bare args } ∷ [])
  calls_behind_form (call_by callee args) before = calls_behind_list args (calls_behind callee before)
  calls_behind_form (comma first second) before = calls_behind second (calls_behind first before)
  calls_behind_form (literal number puts) before = calls_behind_puts puts before

  pub calls_behind_list : CExprs → List NamedCall → List NamedCall
  calls_behind_list no_exprs before = before
  calls_behind_list (more_exprs first others) before = calls_behind_list others (calls_behind first before)

  pub calls_behind_put : CPut → List NamedCall → List NamedCall
  calls_behind_put (put spot type value) before = calls_behind value before

  pub calls_behind_puts : CPuts → List NamedCall → List NamedCall
  calls_behind_puts no_puts before = before
  calls_behind_puts (more_puts first others) before = calls_behind_puts others (calls_behind_put first before)

abbrev pub calls_behind_option : Option CExpr → List NamedCall → List NamedCall
calls_behind_option None before = before
calls_behind_option (Some one) before = calls_behind one before

abbrev pub calls_behind_contents : Option CPuts → List NamedCall → List NamedCall
calls_behind_contents None before = before
calls_behind_contents (Some puts) before = calls_behind_puts puts before

abbrev mutual
  pub calls_behind_stmt : CStmt → List NamedCall → List NamedCall
  calls_behind_stmt (stmt place objects form) before = calls_behind_stmt_form form before

  pub calls_behind_stmt_form : CStmtForm → List NamedCall → List NamedCall
  calls_behind_stmt_form (label name body) before = calls_behind_stmt body before
  calls_behind_stmt_form (case value body) before = calls_behind_stmt body before
  calls_behind_stmt_form (default body) before = calls_behind_stmt body before
  calls_behind_stmt_form (block stmts) before = calls_behind_stmts stmts before
  calls_behind_stmt_form (expression value) before = calls_behind_option value before
  calls_behind_stmt_form (if_then test body otherwise) before = calls_behind_else otherwise (calls_behind_stmt body (calls_behind test before))
  calls_behind_stmt_form (switch value body) before = calls_behind_stmt body (calls_behind value before)
  calls_behind_stmt_form (while test body) before = calls_behind_stmt body (calls_behind test before)
  calls_behind_stmt_form (do_while body test) before = calls_behind test (calls_behind_stmt body before)
  calls_behind_stmt_form (for_loop first test next body) before =
      calls_behind_stmt body (calls_behind_option next (calls_behind_option test (calls_behind_stmts first before)))
  calls_behind_stmt_form (goto name) before = before
  calls_behind_stmt_form continue before = before
  calls_behind_stmt_form break before = before
  calls_behind_stmt_form (returns value) before = calls_behind_option value before
  calls_behind_stmt_form (begin number puts) before = calls_behind_contents puts before

  pub calls_behind_else : COtherwise → List NamedCall → List NamedCall
  calls_behind_else no_else before = before
  calls_behind_else (else_do body) before = calls_behind_stmt body before

  pub calls_behind_stmts : CStmts → List NamedCall → List NamedCall
  calls_behind_stmts no_stmts before = before
  calls_behind_stmts (more_stmts first others) before = calls_behind_stmts others (calls_behind_stmt first before)

-- those of the objects of a unit, and those of its functions
abbrev pub calls_behind_object : (unit : ℕ) → CObject → List NamedCall → List NamedCall
calls_behind_object unit one before = if one.unit == unit then calls_behind_contents one.puts before else before

abbrev pub calls_behind_objects : (unit : ℕ) → List CObject → List NamedCall → List NamedCall
calls_behind_objects unit [] before = before
calls_behind_objects unit (one ∷ others) before = calls_behind_objects unit others (calls_behind_object unit one before)

abbrev pub calls_behind_function : (unit : ℕ) → CFun → List NamedCall → List NamedCall
calls_behind_function unit one before = if one.unit == unit then calls_behind_stmt one.body before else before

abbrev pub calls_behind_functions : (unit : ℕ) → List CFun → List NamedCall → List NamedCall
calls_behind_functions unit [] before = before
calls_behind_functions unit (one ∷ others) before = calls_behind_functions unit others (calls_behind_function unit one before)
