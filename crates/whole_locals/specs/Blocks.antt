-- The objects of blocks behind others, as statements are gone through.
use Rattle.std.specs.Prelude.{ℕ, List, ◌++◌}
use Rattle.cx_core.specs.Trees.{CStmt, stmt, CStmtForm, label, case, default, block, expression, if_then, switch, while, do_while, for_loop, goto, continue, break, returns, begin, COtherwise, no_else, else_do, CStmts, no_stmts, more_stmts}

abbrev mutual
  pub objects_behind : CStmt → List ℕ → List ℕ
  objects_behind (stmt place objects form) before = objects_behind_form form (before ++ objects)

  pub objects_behind_form : CStmtForm → List ℕ → List ℕ
  objects_behind_form (label name body) before = objects_behind body before
  objects_behind_form (case value body) before = objects_behind body before
  objects_behind_form (default body) before = objects_behind body before
  objects_behind_form (block stmts) before = objects_behind_list stmts before
  objects_behind_form (if_then test body otherwise) before = objects_behind_else otherwise (objects_behind body before)
  objects_behind_form (switch value body) before = objects_behind body before
  objects_behind_form (while test body) before = objects_behind body before
  objects_behind_form (do_while body test) before = objects_behind body before
  objects_behind_form (for_loop first test next body) before = objects_behind body (objects_behind_list first before)
  objects_behind_form (expression value) before = before
  objects_behind_form (goto name) before = before
  objects_behind_form continue before = before
  objects_behind_form break before = before
  objects_behind_form (returns value) before = before
  objects_behind_form (begin number puts) before = before

  pub objects_behind_else : COtherwise → List ℕ → List ℕ
  objects_behind_else no_else before = before
  objects_behind_else (else_do body) before = objects_behind body before

  pub objects_behind_list : CStmts → List ℕ → List ℕ
  objects_behind_list no_stmts before = before
  objects_behind_list (more_stmts first others) before = objects_behind_list others (objects_behind first before)
