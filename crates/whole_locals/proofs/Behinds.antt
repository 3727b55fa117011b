-- The objects of blocks behind others are those of the statement, behind them.
use Rattle.std.proofs.Common.{◌≡◌, ℕ, List, [], ◌++◌, append_assoc, refl, sym, ap, ◌∙◌}
use Rattle.std.proofs.lemmas.List.{append-nil}
use Rattle.cx_core.specs.Statements.{objects_in, objects_in_form, objects_in_else, objects_in_list}
use Rattle.cx_core.specs.Trees.{CStmt, stmt, CStmtForm, label, case, default, block, expression, if_then, switch, while, do_while, for_loop, goto, continue, break, returns, begin, COtherwise, no_else, else_do, CStmts, no_stmts, more_stmts}
use Rattle.whole_locals.specs.Blocks.{objects_behind, objects_behind_form, objects_behind_else, objects_behind_list}

then_behind : {first second : List ℕ} (before one other : List ℕ) → first ≡ before ++ one → second ≡ first ++ other → second ≡ before ++ (one ++ other)
then_behind before one other e f = f ∙ ap (λ list. list ++ other) e ∙ append_assoc before one other

mutual
  behind : (s : CStmt) (before : List ℕ) → objects_behind s before ≡ before ++ objects_in s
  behind (stmt place objects form) before = then_behind before objects _ refl (behind_form form (before ++ objects))

  behind_form : (form : CStmtForm) (before : List ℕ) → objects_behind_form form before ≡ before ++ objects_in_form form
  behind_form (label name body) before = behind body before
  behind_form (case value body) before = behind body before
  behind_form (default body) before = behind body before
  behind_form (block stmts) before = behind_list stmts before
  behind_form (if_then test body otherwise) before = then_behind before _ _ (behind body before) (behind_else otherwise (objects_behind body before))
  behind_form (switch value body) before = behind body before
  behind_form (while test body) before = behind body before
  behind_form (do_while body test) before = behind body before
  behind_form (for_loop first test next body) before = then_behind before _ _ (behind_list first before) (behind body (objects_behind_list first before))
  behind_form (expression value) before = sym (append-nil before)
  behind_form (goto name) before = sym (append-nil before)
  behind_form continue before = sym (append-nil before)
  behind_form break before = sym (append-nil before)
  behind_form (returns value) before = sym (append-nil before)
  behind_form (begin number puts) before = sym (append-nil before)

  behind_else : (otherwise : COtherwise) (before : List ℕ) → objects_behind_else otherwise before ≡ before ++ objects_in_else otherwise
  behind_else no_else before = sym (append-nil before)
  behind_else (else_do body) before = behind body before

  behind_list : (stmts : CStmts) (before : List ℕ) → objects_behind_list stmts before ≡ before ++ objects_in_list stmts
  behind_list no_stmts before = sym (append-nil before)
  behind_list (more_stmts first others) before = then_behind before _ _ (behind first before) (behind_list others (objects_behind first before))

pub objects_are : (s : CStmt) → objects_behind s [] ≡ objects_in s
objects_are s = behind s []
