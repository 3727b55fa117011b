-- Which functions a program calls.
use Rattle.std.specs.Prelude.{ℕ, Bool, false, ◌||◌, ◌==◌, List, Option, Some, None}
use Rattle.std.specs.List.{list_any, filter}
use Rattle.straight_core.specs.Trees.{CExpr, expr, CForm, whole, object, load, convert, unary, binary, assign, call, CExprs, no_exprs, more_exprs, CStmt, stmt, CStmtForm, block, expression, returns, CStmts, no_stmts, more_stmts, CFun, COuter, CProgram}

abbrev mutual
  -- an expression has a call of the function with this number
  pub calls_in : ℕ → CExpr → Bool
  calls_in number (expr type place form) = calls_in_form number form

  pub calls_in_form : ℕ → CForm → Bool
  calls_in_form number (whole value) = false
  calls_in_form number (object one) = false
  calls_in_form number (load from) = calls_in number from
  calls_in_form number (convert value) = calls_in number value
  calls_in_form number (unary op value) = calls_in number value
  calls_in_form number (binary op left right) = calls_in number left || calls_in number right
  calls_in_form number (assign target value) = calls_in number target || calls_in number value
  calls_in_form number (call callee args) = callee == number || calls_in_args number args

  pub calls_in_args : ℕ → CExprs → Bool
  calls_in_args number no_exprs = false
  calls_in_args number (more_exprs first others) = calls_in number first || calls_in_args number others

abbrev pub calls_in_option : ℕ → Option CExpr → Bool
calls_in_option number None = false
calls_in_option number (Some value) = calls_in number value

abbrev mutual
  pub calls_in_stmt : ℕ → CStmt → Bool
  calls_in_stmt number (stmt place objects form) = calls_in_stmt_form number form

  pub calls_in_stmt_form : ℕ → CStmtForm → Bool
  calls_in_stmt_form number (block stmts) = calls_in_stmts number stmts
  calls_in_stmt_form number (expression value) = calls_in number value
  calls_in_stmt_form number (returns value) = calls_in_option number value

  pub calls_in_stmts : ℕ → CStmts → Bool
  calls_in_stmts number no_stmts = false
  calls_in_stmts number (more_stmts first others) = calls_in_stmt number first || calls_in_stmts number others

-- the functions of a unit
abbrev pub functions_of : CProgram → ℕ → List CFun
functions_of program unit = filter (λ one. one.unit == unit) program.functions

-- the external functions that the functions of a unit call
abbrev pub called_by : CProgram → ℕ → List COuter
called_by program unit = filter (λ outer. list_any (λ one. calls_in_stmt outer.function one.body) (functions_of program unit)) program.externals
