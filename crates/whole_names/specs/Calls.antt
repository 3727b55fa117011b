-- The functions that are called by name (ISO C99, 6.5.2.2).
use Rattle.std.specs.Prelude.{ℕ, ◌==◌, ◌&&◌, ◌||◌, Bool, true, false, List, [], ◌∷◌, ◌++◌, Option, Some, None}
use Rattle.cx_core.specs.Trees.{CExpr, expr, CForm, whole, null, object, code, load, deref, member, address, convert, unary, binary, and, or, cond, assign, assign_by, step, call, call_by, comma, literal, CExprs, no_exprs, more_exprs, CPut, put, CPuts, no_puts, more_puts, CStmt, stmt, CStmtForm, label, case, default, block, expression, if_then, switch, while, do_while, for_loop, goto, continue, break, returns, begin, COtherwise, no_else, else_do, CStmts, no_stmts, more_stmts}

-- a call by name: the number of the function, and whether it has no argument
pub record NamedCall : Type 0 where
  pub callee : ℕ
  pub is_bare : Bool

abbrev pub is_bare : CExprs → Bool
is_bare no_exprs = true
is_bare (more_exprs first others) = false

abbrev mutual
  -- the calls by name in an expression
  pub calls_in : CExpr → List NamedCall
  calls_in (expr type place form) = calls_in_form form

  pub calls_in_form : CForm → List NamedCall
  calls_in_form (whole value) = []
  calls_in_form null = []
  calls_in_form (object number) = []
  calls_in_form (code number) = []
  calls_in_form (load from) = calls_in from
  calls_in_form (deref pointer) = calls_in pointer
  calls_in_form (member of spot) = calls_in of
  calls_in_form (address of) = calls_in of
  calls_in_form (convert value) = calls_in value
  calls_in_form (unary op value) = calls_in value
  calls_in_form (binary op left right) = calls_in left ++ calls_in right
  calls_in_form (and left right) = calls_in left ++ calls_in right
  calls_in_form (or left right) = calls_in left ++ calls_in right
  calls_in_form (cond test first second) = calls_in test ++ (calls_in first ++ calls_in second)
  calls_in_form (assign target value) = calls_in target ++ calls_in value
  calls_in_form (assign_by op computes target value) = calls_in target ++ calls_in value
  calls_in_form (step up post on) = calls_in on
  calls_in_form (call callee args) = record { callee = callee; is_bare = is_bare args } ∷ calls_in_list args
  calls_in_form (call_by callee args) = calls_in callee ++ calls_in_list args
  calls_in_form (comma first second) = calls_in first ++ calls_in second
  calls_in_form (literal number puts) = calls_in_puts puts

  pub calls_in_list : CExprs → List NamedCall
  calls_in_list no_exprs = []
  calls_in_list (more_exprs first others) = calls_in first ++ calls_in_list others

  pub calls_in_put : CPut → List NamedCall
  calls_in_put (put spot type value) = calls_in value

  pub calls_in_puts : CPuts → List NamedCall
  calls_in_puts no_puts = []
  calls_in_puts (more_puts first others) = calls_in_put first ++ calls_in_puts others

abbrev pub calls_in_option : Option CExpr → List NamedCall
calls_in_option None = []
calls_in_option (Some one) = calls_in one

abbrev pub calls_in_contents : Option CPuts → List NamedCall
calls_in_contents None = []
calls_in_contents (Some puts) = calls_in_puts puts

abbrev mutual
  -- the calls by name in a statement
  pub calls_in_stmt : CStmt → List NamedCall
  calls_in_stmt (stmt place objects form) = calls_in_stmt_form form

  pub calls_in_stmt_form : CStmtForm → List NamedCall
  calls_in_stmt_form (label name body) = calls_in_stmt body
  calls_in_stmt_form (case value body) = calls_in_stmt body
  calls_in_stmt_form (default body) = calls_in_stmt body
  calls_in_stmt_form (block stmts) = calls_in_stmts stmts
  calls_in_stmt_form (expression value) = calls_in_option value
  calls_in_stmt_form (if_then test body otherwise) = calls_in test ++ (calls_in_stmt body ++ calls_in_else otherwise)
  calls_in_stmt_form (switch value body) = calls_in value ++ calls_in_stmt body
  calls_in_stmt_form (while test body) = calls_in test ++ calls_in_stmt body
  calls_in_stmt_form (do_while body test) = calls_in_stmt body ++ calls_in test
  calls_in_stmt_form (for_loop first test next body) = calls_in_stmts first ++ (calls_in_option test ++ (calls_in_option next ++ calls_in_stmt body))
  calls_in_stmt_form (goto name) = []
  calls_in_stmt_form continue = []
  calls_in_stmt_form break = []
  calls_in_stmt_form (returns value) = calls_in_option value
  calls_in_stmt_form (begin number puts) = calls_in_contents puts

  pub calls_in_else : COtherwise → List NamedCall
  calls_in_else no_else = []
  calls_in_else (else_do body) = calls_in_stmt body

  pub calls_in_stmts : CStmts → List NamedCall
  calls_in_stmts no_stmts = []
  calls_in_stmts (more_stmts first others) = calls_in_stmt first ++ calls_in_stmts others
