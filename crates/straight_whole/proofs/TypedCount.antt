-- How many temporaries are taken: numbers only grow, and how many there are doesn't depend on names.
use Rattle.std.proofs.Common.{◌≡◌, ℕ, suc, ◌≤◌, Option, Some, None, refl, ap, subst, arith}
use Rattle.straight_core.specs.declared.expr.Op1.{Op1}
use Rattle.straight_core.specs.declared.expr.Op1.TheVariants.{Minus}
use Rattle.straight_core.specs.Trees.{CTy, CTyForm, void, int, function, form_of_type, CExpr, expr, CForm, whole, object, load, convert, unary, binary, assign, call, CExprs, no_exprs, more_exprs, CStmt, stmt, CStmtForm, block, expression, returns, CStmts, no_stmts, more_stmts}
use Rattle.straight_lift.specs.declared.atom.Atom.{Atom}
use Rattle.straight_lift.specs.declared.atom.Atom.TheVariants.{Fixed, Temporary}
use Rattle.straight_lift.specs.Lifted.{Names, Lifted, LiftedArgs, held_atom, held, lifted_call, lifted_conversion, lifted_unary, lift_form, lift_args, lift_return, lift_stmt, lift_stmt_form, lift_stmts}

-- ---- numbers grow

held_grows_by : (names : Names) (one : Lifted) (value : Option Atom) → one.next ≤ (held_atom names one value).next
held_grows_by names one None = omega arith
held_grows_by names one (Some (Fixed value)) = omega arith
held_grows_by names one (Some (Temporary number)) = omega arith

pub held_grows : (names : Names) (one : Lifted) → one.next ≤ (held names one).next
held_grows names one = held_grows_by names one one.value

unary_grows : (names : Names) (op : Op1) (one : Lifted) → one.next ≤ (lifted_unary names op one).next
unary_grows names Minus one = omega arith

conversion_grows : (form : CTyForm) (one : Lifted) → one.next ≤ (lifted_conversion form one).next
conversion_grows void one = omega arith
conversion_grows int one = omega arith
conversion_grows (function result params variadic) one = omega arith

call_grows : (names : Names) (form : CTyForm) (callee : ℕ) (args : LiftedArgs) → args.next ≤ (lifted_call names form callee args).next
call_grows names void callee args = omega arith
call_grows names int callee args = omega arith
call_grows names (function result params variadic) callee args = omega arith

trans : (a b c : ℕ) → a ≤ b → b ≤ c → a ≤ c
trans a b c one other = omega arith

after : (a b : ℕ) → a ≤ b → a ≤ suc b
after a b one = omega arith

same : (a : ℕ) → a ≤ a
same a = omega arith

mutual
  pub form_grows : (names : Names) (type : CTy) (form : CForm) (next : ℕ) → next ≤ (lift_form names type form next).next
  form_grows names type (whole value) next = same next
  form_grows names type (object number) next = same next
  form_grows names type (load from) next = after next next (same next)
  form_grows names type (convert (expr t p form)) next =
      trans _ _ _ (form_grows names t form next) (conversion_grows (form_of_type type) (lift_form names t form next))
  form_grows names type (unary op (expr t p form)) next =
      trans _ _ _ (form_grows names t form next)
      (trans _ _ _ (held_grows names (lift_form names t form next)) (unary_grows names op (held names (lift_form names t form next))))
  form_grows names type (binary op (expr t p left) (expr s q right)) next =
      after _ _ (trans _ _ _ (form_grows names t left next) (form_grows names s right (lift_form names t left next).next))
  form_grows names type (assign target (expr t p form)) next = form_grows names t form next
  form_grows names type (call callee args) next =
      trans _ _ _ (args_grow names args next) (call_grows names (form_of_type type) callee (lift_args names args next))

  pub args_grow : (names : Names) (args : CExprs) (next : ℕ) → next ≤ (lift_args names args next).next
  args_grow names no_exprs next = same next
  args_grow names (more_exprs (expr t p form) others) next =
      trans _ _ _ (form_grows names t form next) (args_grow names others (lift_form names t form next).next)

pub return_grows : (names : Names) (value : Option CExpr) (next : ℕ) → next ≤ (lift_return names value next).next
return_grows names None next = same next
return_grows names (Some (expr t p form)) next = form_grows names t form next

mutual
  pub stmt_form_grows : (names : Names) (form : CStmtForm) (next : ℕ) → next ≤ (lift_stmt_form names form next).next
  stmt_form_grows names (block stmts) next = stmts_grow names stmts next
  stmt_form_grows names (expression (expr t p form)) next = form_grows names t form next
  stmt_form_grows names (returns value) next = return_grows names value next

  pub stmts_grow : (names : Names) (stmts : CStmts) (next : ℕ) → next ≤ (lift_stmts names stmts next).next
  stmts_grow names no_stmts next = same next
  stmts_grow names (more_stmts (stmt p objects form) others) next =
      trans _ _ _ (stmt_form_grows names form next) (stmts_grow names others (lift_stmt_form names form next).next)

-- ---- names don't count

-- what is written is the same but for the statements
record IsSame (one other : Lifted) : Type 0 where
  pub value : one.value ≡ other.value
  pub next : one.next ≡ other.next

held_same_by : (a b : Names) (one other : Lifted) (value : Option Atom) → IsSame one other → IsSame (held_atom a one value) (held_atom b other value)
held_same_by a b one other None same = same
held_same_by a b one other (Some (Fixed value)) same = record { value = ap (λ n. Some (Temporary n)) same.next; next = ap suc same.next }
held_same_by a b one other (Some (Temporary number)) same = same

held_same : (a b : Names) (one other : Lifted) → IsSame one other → IsSame (held a one) (held b other)
held_same a b one other same =
    subst (λ value. IsSame (held_atom a one one.value) (held_atom b other value)) same.value (held_same_by a b one other one.value same)

unary_same : (a b : Names) (op : Op1) (one other : Lifted) → IsSame one other → IsSame (lifted_unary a op one) (lifted_unary b op other)
unary_same a b Minus one other same = record { value = ap (λ n. Some (Temporary n)) same.next; next = ap suc same.next }

conversion_same : (form : CTyForm) (one other : Lifted) → IsSame one other → IsSame (lifted_conversion form one) (lifted_conversion form other)
conversion_same void one other same = record { value = refl; next = same.next }
conversion_same int one other same = same
conversion_same (function result params variadic) one other same = same

call_same : (a b : Names) (form : CTyForm) (callee : ℕ) (one other : LiftedArgs) → one.next ≡ other.next → IsSame (lifted_call a form callee one) (lifted_call b form callee other)
call_same a b void callee one other same = record { value = refl; next = same }
call_same a b int callee one other same = record { value = ap (λ n. Some (Temporary n)) same; next = ap suc same }
call_same a b (function result params variadic) callee one other same = record { value = refl; next = same }

mutual
  form_same : (a b : Names) (type : CTy) (form : CForm) (n m : ℕ) → n ≡ m → IsSame (lift_form a type form n) (lift_form b type form m)
  form_same a b type (whole value) n m e = record { value = refl; next = e }
  form_same a b type (object number) n m e = record { value = refl; next = e }
  form_same a b type (load from) n m e = record { value = ap (λ k. Some (Temporary k)) e; next = ap suc e }
  form_same a b type (convert (expr t p form)) n m e =
      conversion_same (form_of_type type) (lift_form a t form n) (lift_form b t form m) (form_same a b t form n m e)
  form_same a b type (unary op (expr t p form)) n m e =
      unary_same a b op (held a (lift_form a t form n)) (held b (lift_form b t form m))
      (held_same a b (lift_form a t form n) (lift_form b t form m) (form_same a b t form n m e))
  form_same a b type (binary op (expr t p left) (expr s q right)) n m e =
      let other = form_same a b s right (lift_form a t left n).next (lift_form b t left m).next (form_same a b t left n m e).next in
      record { value = ap (λ k. Some (Temporary k)) other.next; next = ap suc other.next }
  form_same a b type (assign target (expr t p form)) n m e =
      record { value = (form_same a b t form n m e).value; next = (form_same a b t form n m e).next }
  form_same a b type (call callee args) n m e =
      call_same a b (form_of_type type) callee (lift_args a args n) (lift_args b args m) (args_same a b args n m e)

  args_same : (a b : Names) (args : CExprs) (n m : ℕ) → n ≡ m → (lift_args a args n).next ≡ (lift_args b args m).next
  args_same a b no_exprs n m e = e
  args_same a b (more_exprs (expr t p form) others) n m e =
      args_same a b others (lift_form a t form n).next (lift_form b t form m).next (form_same a b t form n m e).next

return_same : (a b : Names) (value : Option CExpr) (n m : ℕ) → n ≡ m → (lift_return a value n).next ≡ (lift_return b value m).next
return_same a b None n m e = e
return_same a b (Some (expr t p form)) n m e = (form_same a b t form n m e).next

mutual
  stmt_form_same : (a b : Names) (form : CStmtForm) (n m : ℕ) → n ≡ m → (lift_stmt_form a form n).next ≡ (lift_stmt_form b form m).next
  stmt_form_same a b (block stmts) n m e = stmts_same a b stmts n m e
  stmt_form_same a b (expression (expr t p form)) n m e = (form_same a b t form n m e).next
  stmt_form_same a b (returns value) n m e = return_same a b value n m e

  stmts_same : (a b : Names) (stmts : CStmts) (n m : ℕ) → n ≡ m → (lift_stmts a stmts n).next ≡ (lift_stmts b stmts m).next
  stmts_same a b no_stmts n m e = e
  stmts_same a b (more_stmts (stmt p objects form) others) n m e =
      stmts_same a b others (lift_stmt_form a form n).next (lift_stmt_form b form m).next (stmt_form_same a b form n m e)

-- how many temporaries a body takes doesn't depend on names
pub same_count : (a b : Names) (body : CStmt) → (lift_stmt a body 0).next ≡ (lift_stmt b body 0).next
same_count a b (stmt p objects form) = stmt_form_same a b form 0 0 refl
