-- What stands in some units stands, renumbered, in all that these are among: renumbering keeps each place (ISO C99, 5.1.1.1).
use Rattle.std.proofs.Common.{ℕ, Option, None, Some, option_map}
use Rattle.std.specs.Prelude.{IfSome}
use Rattle.cx_core.specs.Trees.{CExpr, expr, CForm, whole, null, object, code, load, deref, member, address, convert, unary, binary, and, or, cond, assign, assign_by, step, call, call_by, comma, literal, CExprs, no_exprs, more_exprs, CPut, put, CPuts, no_puts, more_puts, CStmt, stmt, CStmtForm, label, case, default, block, expression, if_then, switch, while, do_while, for_loop, goto, continue, break, returns, begin, COtherwise, no_else, else_do, CStmts, no_stmts, more_stmts, CObject, CFun}
use Rattle.cx_placed.specs.Places.{ExprStandsIn, FormStandsIn, ExprsStandIn, PutStandsIn, PutsStandIn, StmtStandsIn, StmtFormStandsIn, OtherwiseStandsIn, StmtsStandIn, ObjectStandsIn, FunctionStandsIn}
use Rattle.cx_renumber.specs.Numbers.{CNumbers, expr_there, value_there, exprs_there, put_there, puts_there, stmt_there, action_there, else_there, stmts_there, object_there, function_there}

module _ (Among More : ℕ → Type 0) (more : (unit : ℕ) → Among unit → More unit) (numbers : CNumbers) where
  mutual
    on_expr : (one : CExpr) → ExprStandsIn Among one → ExprStandsIn More (expr_there numbers one)
    on_expr (expr type place form) held = (more place.unit held.0, on_form form held.1)

    on_form : (one : CForm) → FormStandsIn Among one → FormStandsIn More (value_there numbers one)
    on_form (whole value) held = tt
    on_form null held = tt
    on_form (object number) held = tt
    on_form (code number) held = tt
    on_form (load from) held = on_expr from held
    on_form (deref from) held = on_expr from held
    on_form (member of spot) held = on_expr of held
    on_form (address of) held = on_expr of held
    on_form (convert value) held = on_expr value held
    on_form (unary op value) held = on_expr value held
    on_form (binary op left right) held = (on_expr left held.0, on_expr right held.1)
    on_form (and left right) held = (on_expr left held.0, on_expr right held.1)
    on_form (or left right) held = (on_expr left held.0, on_expr right held.1)
    on_form (cond test first second) held = (on_expr test held.0, on_expr first held.1, on_expr second held.2)
    on_form (assign target value) held = (on_expr target held.0, on_expr value held.1)
    on_form (assign_by op computes target value) held = (on_expr target held.0, on_expr value held.1)
    on_form (step up post on) held = on_expr on held
    on_form (call callee args) held = on_exprs args held
    on_form (call_by callee args) held = (on_expr callee held.0, on_exprs args held.1)
    on_form (comma first second) held = (on_expr first held.0, on_expr second held.1)
    on_form (literal number puts) held = on_puts puts held

    on_exprs : (all : CExprs) → ExprsStandIn Among all → ExprsStandIn More (exprs_there numbers all)
    on_exprs no_exprs held = tt
    on_exprs (more_exprs first others) held = (on_expr first held.0, on_exprs others held.1)

    on_put : (one : CPut) → PutStandsIn Among one → PutStandsIn More (put_there numbers one)
    on_put (put spot type value) held = on_expr value held

    on_puts : (all : CPuts) → PutsStandIn Among all → PutsStandIn More (puts_there numbers all)
    on_puts no_puts held = tt
    on_puts (more_puts first others) held = (on_put first held.0, on_puts others held.1)

  if_expr : (one : Option CExpr) → IfSome one (ExprStandsIn Among) → IfSome (option_map (expr_there numbers) one) (ExprStandsIn More)
  if_expr None held = tt
  if_expr (Some one) held = on_expr one held

  if_puts : (one : Option CPuts) → IfSome one (PutsStandIn Among) → IfSome (option_map (puts_there numbers) one) (PutsStandIn More)
  if_puts None held = tt
  if_puts (Some puts) held = on_puts puts held

  mutual
    on_stmt : (one : CStmt) → StmtStandsIn Among one → StmtStandsIn More (stmt_there numbers one)
    on_stmt (stmt place objects form) held = (more place.unit held.0, on_action form held.1)

    on_action : (one : CStmtForm) → StmtFormStandsIn Among one → StmtFormStandsIn More (action_there numbers one)
    on_action (label name one) held = on_stmt one held
    on_action (case value one) held = on_stmt one held
    on_action (default one) held = on_stmt one held
    on_action (block all) held = on_stmts all held
    on_action (expression value) held = if_expr value held
    on_action (if_then test one other) held = (on_expr test held.0, on_stmt one held.1, on_else other held.2)
    on_action (switch value one) held = (on_expr value held.0, on_stmt one held.1)
    on_action (while test one) held = (on_expr test held.0, on_stmt one held.1)
    on_action (do_while one test) held = (on_stmt one held.0, on_expr test held.1)
    on_action (for_loop first test next one) held = (on_stmts first held.0, if_expr test held.1, if_expr next held.2, on_stmt one held.3)
    on_action (goto name) held = tt
    on_action continue held = tt
    on_action break held = tt
    on_action (returns value) held = if_expr value held
    on_action (begin number puts) held = if_puts puts held

    on_else : (one : COtherwise) → OtherwiseStandsIn Among one → OtherwiseStandsIn More (else_there numbers one)
    on_else no_else held = tt
    on_else (else_do one) held = on_stmt one held

    on_stmts : (all : CStmts) → StmtsStandIn Among all → StmtsStandIn More (stmts_there numbers all)
    on_stmts no_stmts held = tt
    on_stmts (more_stmts first others) held = (on_stmt first held.0, on_stmts others held.1)

  pub object_renumbered : (one : CObject) → ObjectStandsIn Among one → ObjectStandsIn More (object_there numbers one)
  object_renumbered one held = if_puts one.puts held

  pub function_renumbered : (one : CFun) → FunctionStandsIn Among one → FunctionStandsIn More (function_there numbers one)
  function_renumbered one held = on_stmt one.body held
