-- The statements that are written for an expression and for a statement. Every operand that isn't a literal gets a
-- temporary, a local of type `i32`.
use Rattle.std.specs.Prelude.{ℕ, suc, List, [], ◌∷◌, ◌++◌, Option, Some, None, pos}
use Rattle.straight_core.specs.declared.expr.Op1.{Op1}
use Rattle.straight_core.specs.declared.expr.Op1.TheVariants.{Minus}
use Rattle.straight_core.specs.declared.expr.Op2.{Op2}
use Rattle.straight_core.specs.declared.expr.Op2.TheVariants.{Add, Subtract, Multiply}
use Rattle.straight_core.specs.Trees.{CTy, CTyForm, void, int, function, form_of_type, CExpr, expr, CForm, whole, object, load, convert, unary, binary, assign as stores, call as calls, CExprs, no_exprs, more_exprs, CStmt, stmt, CStmtForm, block, expression, returns, CStmts, no_stmts, more_stmts}
use Rattle.straight_lift.specs.declared.atom.Atom.{Atom}
use Rattle.straight_lift.specs.declared.atom.Atom.TheVariants.{Fixed, Temporary}
use Rattle.straight_rust_tree.specs.declared.tree.Operator.{Operator}
use Rattle.straight_rust_tree.specs.declared.tree.Operator.TheVariants.{Add as Plus, Sub, Mul}
use Rattle.straight_rust_tree.specs.Tree.{i32, Place, named, static_at, Expr, literal, read, call, neg, binary as operates, exprs, Stmt, assign, eval, gives}

-- the Rust names of what a function mentions: the module of all, and the names of objects and functions by their
-- numbers, and of temporaries by theirs
pub record Names : Type 0 where
  pub home : List ℕ
  pub objects : ℕ → List ℕ
  pub functions : ℕ → List ℕ
  pub temporaries : ℕ → List ℕ

-- what is written for an expression: statements, what stands for its value, if it has one, behind them, and the
-- number of the next temporary
pub record Lifted : Type 0 where
  pub stmts : List Stmt
  pub value : Option Atom
  pub next : ℕ

-- the same for arguments
pub record LiftedArgs : Type 0 where
  pub stmts : List Stmt
  pub values : List (Option Atom)
  pub next : ℕ

-- ---- parts of statements

abbrev pub temporary_place : Names → ℕ → Place
temporary_place names number = named (names.temporaries number)

abbrev pub atom_expr : Names → Atom → Expr
atom_expr names (Fixed value) = literal value i32
atom_expr names (Temporary number) = read (temporary_place names number)

-- an atom as an operand; where there is none, nothing is read
abbrev pub operand_expr : Names → Option Atom → Expr
operand_expr names None = literal (pos 0) i32
operand_expr names (Some atom) = atom_expr names atom

abbrev pub operand_exprs : Names → List (Option Atom) → List Expr
operand_exprs names [] = []
operand_exprs names (one ∷ more) = operand_expr names one ∷ operand_exprs names more

-- the static object that an lvalue names
abbrev pub form_place : Names → CForm → Place
form_place names (object number) = static_at names.home (names.objects number)
form_place names _ = static_at names.home []

abbrev pub lvalue_place : Names → CExpr → Place
lvalue_place names (expr type place form) = form_place names form

abbrev pub operator_of : Op2 → Operator
operator_of Add = Plus
operator_of Subtract = Sub
operator_of Multiply = Mul

-- a value is stored in the next temporary, behind other statements
abbrev pub in_temporary : Names → List Stmt → ℕ → Expr → Lifted
in_temporary names stmts next value = record {
  stmts = stmts ++ assign (temporary_place names next) value ∷ [];
  value = Some (Temporary next);
  next = suc next;
}

-- a literal is stored in a temporary, since `-` in front of one is a literal
abbrev pub held_atom : Names → Lifted → Option Atom → Lifted
held_atom names one (Some (Fixed value)) = in_temporary names one.stmts one.next (literal value i32)
held_atom names one (Some (Temporary number)) = one
held_atom names one None = one

abbrev pub held : Names → Lifted → Lifted
held names one = held_atom names one one.value

-- the statement of a call by the form of its result
abbrev pub lifted_call : Names → CTyForm → ℕ → LiftedArgs → Lifted
lifted_call names void callee args = record {
  stmts = args.stmts ++ eval (call names.home (names.functions callee) (exprs (operand_exprs names args.values))) ∷ [];
  value = None;
  next = args.next;
}
lifted_call names int callee args =
    in_temporary names args.stmts args.next (call names.home (names.functions callee) (exprs (operand_exprs names args.values)))
lifted_call names (function result params variadic) callee args = record { stmts = args.stmts; value = None; next = args.next }

abbrev pub lifted_conversion : CTyForm → Lifted → Lifted
lifted_conversion void one = record one { value = None }
lifted_conversion int one = one
lifted_conversion (function result params variadic) one = one

-- an operator with one operand, which is in a temporary
abbrev pub lifted_unary : Names → Op1 → Lifted → Lifted
lifted_unary names Minus one = in_temporary names one.stmts one.next (neg (operand_expr names one.value))

-- an operator between two operands, behind both
abbrev pub lifted_binary : Names → Op2 → Lifted → Lifted → Lifted
lifted_binary names op one other =
    in_temporary names (one.stmts ++ other.stmts) other.next
    (operates (operator_of op) (operand_expr names one.value) (operand_expr names other.value))

-- the store of an assignment, behind its value
abbrev pub lifted_assign : Names → CExpr → Lifted → Lifted
lifted_assign names target one =
    record one { stmts = one.stmts ++ assign (lvalue_place names target) (operand_expr names one.value) ∷ [] }

-- ---- expressions

abbrev mutual
  pub lift_of : Names → CExpr → ℕ → Lifted
  lift_of names (expr type place form) next = lift_form names type form next

  pub lift_form : Names → CTy → CForm → ℕ → Lifted
  lift_form names type (whole value) next = record { stmts = []; value = Some (Fixed value); next = next }
  lift_form names type (object number) next = record { stmts = []; value = None; next = next }
  lift_form names type (load from) next = in_temporary names [] next (read (lvalue_place names from))
  lift_form names type (convert value) next = lifted_conversion (form_of_type type) (lift_of names value next)
  lift_form names type (unary op value) next = lifted_unary names op (held names (lift_of names value next))
  lift_form names type (binary op left right) next =
      let one = lift_of names left next in
      lifted_binary names op one (lift_of names right one.next)
  lift_form names type (stores target value) next = lifted_assign names target (lift_of names value next)
  lift_form names type (calls callee args) next = lifted_call names (form_of_type type) callee (lift_args names args next)

  pub lift_args : Names → CExprs → ℕ → LiftedArgs
  lift_args names no_exprs next = record { stmts = []; values = []; next = next }
  lift_args names (more_exprs first others) next =
      let one = lift_of names first next in
      let more = lift_args names others one.next in
      record { stmts = one.stmts ++ more.stmts; values = one.value ∷ more.values; next = more.next }

-- ---- statements

-- what is written for statements, and the number of the next temporary
pub record LiftedStmts : Type 0 where
  pub stmts : List Stmt
  pub next : ℕ

abbrev pub lift_return : Names → Option CExpr → ℕ → LiftedStmts
lift_return names None next = record { stmts = gives None ∷ []; next = next }
lift_return names (Some value) next =
    let one = lift_of names value next in
    record { stmts = one.stmts ++ gives (Some (operand_expr names one.value)) ∷ []; next = one.next }

abbrev mutual
  pub lift_stmt : Names → CStmt → ℕ → LiftedStmts
  lift_stmt names (stmt place objects form) next = lift_stmt_form names form next

  pub lift_stmt_form : Names → CStmtForm → ℕ → LiftedStmts
  lift_stmt_form names (block stmts) next = lift_stmts names stmts next
  lift_stmt_form names (expression value) next =
      let one = lift_of names value next in
      record { stmts = one.stmts; next = one.next }
  lift_stmt_form names (returns value) next = lift_return names value next

  pub lift_stmts : Names → CStmts → ℕ → LiftedStmts
  lift_stmts names no_stmts next = record { stmts = []; next = next }
  lift_stmts names (more_stmts first others) next =
      let one = lift_stmt names first next in
      let more = lift_stmts names others one.next in
      record { stmts = one.stmts ++ more.stmts; next = more.next }
