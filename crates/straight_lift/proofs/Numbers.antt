-- The numbers of temporaries don't depend on names.
use Rattle.std.proofs.Common.{◌≡◌, ℕ, suc, Option, Some, None, refl, ap, ◌∙◌}
use Rattle.straight_core.specs.declared.expr.Op1.TheVariants.{Minus}
use Rattle.straight_core.specs.Trees.{CTy, ty, void, int, function, form_of_type, CTyForm, expr, CForm, whole, object, load, convert, unary, binary, assign, call, CExprs, no_exprs, more_exprs, CStmt, stmt, CStmtForm, block, expression, returns, CStmts, no_stmts, more_stmts}
use Rattle.straight_lift.specs.declared.atom.Atom.{Atom}
use Rattle.straight_lift.specs.declared.atom.Atom.TheVariants.{Fixed, Temporary}
use Rattle.straight_lift.specs.Lifted.{Names, Lifted, LiftedArgs, held_atom, lifted_call, lift_form, lift_args, lift_stmt, lift_stmt_form, lift_stmts}

-- two pieces have the same value and the same next number
record Same (one second : Lifted) : Type 0 where
  value : one.value ≡ second.value
  next : one.next ≡ second.next

held_same : (names other : Names) (one second : Lifted) (a b : Option Atom) → a ≡ b → one.next ≡ second.next → (held_atom names one a).next ≡ (held_atom other second b).next
held_same names other one second (Some (Fixed v)) (Some (Fixed w)) same next = ap suc next
held_same names other one second (Some (Temporary v)) (Some (Temporary w)) same next = next
held_same names other one second None None same next = next
held_same names other one second (Some (Fixed v)) (Some (Temporary w)) same next = cc
held_same names other one second (Some (Fixed v)) None same next = cc
held_same names other one second (Some (Temporary v)) (Some (Fixed w)) same next = cc
held_same names other one second (Some (Temporary v)) None same next = cc
held_same names other one second None (Some b) same next = cc

call_same : (names other : Names) (form : CTyForm) (callee : ℕ) (one second : LiftedArgs) → one.next ≡ second.next → Same (lifted_call names form callee one) (lifted_call other form callee second)
call_same names other void callee one second next = record { value = refl; next = next }
call_same names other int callee one second next = record { value = ap (λ (n : ℕ). Some (Temporary n)) next; next = ap suc next }
call_same names other (function result params variadic) callee one second next = record { value = refl; next = next }

module _ (names other : Names) where
  mutual
    form_same : (type : CTy) (form : CForm) (from : ℕ) → Same (lift_form names type form from) (lift_form other type form from)
    form_same type (whole value) from = record { value = refl; next = refl }
    form_same type (object number) from = record { value = refl; next = refl }
    form_same type (load of) from = record { value = refl; next = refl }
    form_same (ty void is_const) (convert (expr t p form)) from = record { value = refl; next = (form_same t form from).next }
    form_same (ty int is_const) (convert (expr t p form)) from = form_same t form from
    form_same (ty (function result params variadic) is_const) (convert (expr t p form)) from = form_same t form from
    form_same type (unary Minus (expr t p form)) from =
        let one = form_same t form from in
        let next = held_same names other (lift_form names t form from) (lift_form other t form from) (lift_form names t form from).value (lift_form other t form from).value one.value one.next in
        record { value = ap (λ (n : ℕ). Some (Temporary n)) next; next = ap suc next }
    form_same type (binary op (expr t p left) (expr u q right)) from =
        let one = form_same t left from in
        let second = form_same u right (lift_form names t left from).next in
        let next : (lift_form names u right (lift_form names t left from).next).next ≡ (lift_form other u right (lift_form other t left from).next).next =
        second.next ∙ ap (λ (n : ℕ). (lift_form other u right n).next) one.next in
        record { value = ap (λ (n : ℕ). Some (Temporary n)) next; next = ap suc next }
    form_same type (assign target (expr u q value)) from =
        let one = form_same u value from in
        record { value = one.value; next = one.next }
    form_same type (call callee args) from = call_same names other (form_of_type type) callee (lift_args names args from) (lift_args other args from) (args_same args from)

    args_same : (args : CExprs) (from : ℕ) → (lift_args names args from).next ≡ (lift_args other args from).next
    args_same no_exprs from = refl
    args_same (more_exprs (expr t p form) others) from =
        args_same others (lift_form names t form from).next ∙ ap (λ (n : ℕ). (lift_args other others n).next) (form_same t form from).next

  mutual
    stmt_same : (form : CStmtForm) (from : ℕ) → (lift_stmt_form names form from).next ≡ (lift_stmt_form other form from).next
    stmt_same (block list) from = list_same list from
    stmt_same (expression (expr t p form)) from = (form_same t form from).next
    stmt_same (returns None) from = refl
    stmt_same (returns (Some (expr t p form))) from = (form_same t form from).next

    list_same : (list : CStmts) (from : ℕ) → (lift_stmts names list from).next ≡ (lift_stmts other list from).next
    list_same no_stmts from = refl
    list_same (more_stmts (stmt place objects form) others) from =
        list_same others (lift_stmt_form names form from).next ∙ ap (λ (n : ℕ). (lift_stmts other others n).next) (stmt_same form from)

  pub numbers_stay : (body : CStmt) (from : ℕ) → (lift_stmt names body from).next ≡ (lift_stmt other body from).next
  numbers_stay (stmt place objects form) from = stmt_same form from
