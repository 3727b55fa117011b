-- How many statements of a kind stand in others, at any depth.
use Rattle.std.specs.Prelude.{ℕ, ◌+◌, Bool, true, false, ◌||◌, List, Some, None, bytes_eq}
use Rattle.rs_text.specs.Tree.{Place, Local, Static, Deref, Field, Expr, Literal, Truth, NoFunction, Read, Call, CallBy, Wrapped, WrappingNeg, Offset, OffsetFrom, IsNull, IsNone, AddressOf, NullPointer, SomeFunction, Transmute, Neg, Not, Cast, Binary, And, Or, Choose, Exprs, no_exprs, more_exprs, Stmt, Assign, Eval, CopyBytes, If, Loop, Block, Break, Continue, Match, Return, Stmts, no_stmts, more_stmts, LiteralArm, Arms, no_arms, more_arms}

abbrev pub one_if : Bool → ℕ
one_if true = 1
one_if false = 0

module _ (is : Stmt → Bool) where
  abbrev mutual
    pub stmt_count : Stmt → ℕ
    stmt_count (Assign p e) = one_if (is (Assign p e))
    stmt_count (Eval e) = one_if (is (Eval e))
    stmt_count (CopyBytes source target count) = one_if (is (CopyBytes source target count))
    stmt_count (If condition if_true if_false) = one_if (is (If condition if_true if_false)) + (count_of if_true + count_of if_false)
    stmt_count (Loop label body) = one_if (is (Loop label body)) + count_of body
    stmt_count (Block label body) = one_if (is (Block label body)) + count_of body
    stmt_count (Break label) = one_if (is (Break label))
    stmt_count (Continue label) = one_if (is (Continue label))
    stmt_count (Match e cases other) = one_if (is (Match e cases other)) + (arms_count cases + count_of other)
    stmt_count (Return value) = one_if (is (Return value))

    -- the statements among these, and in them, that are of the kind
    pub count_of : Stmts → ℕ
    count_of no_stmts = 0
    count_of (more_stmts s ss) = stmt_count s + count_of ss

    pub arms_count : Arms → ℕ
    arms_count no_arms = 0
    arms_count (more_arms (LiteralArm value ty body) others) = count_of body + arms_count others

-- ---- kinds of statements

abbrev pub is_loop : Stmt → Bool
is_loop (Loop label body) = true
is_loop _ = false

abbrev pub is_match : Stmt → Bool
is_match (Match e cases other) = true
is_match _ = false

module _ (x : List ℕ) where
  abbrev mutual
    -- a place names a local
    pub place_uses : Place → Bool
    place_uses (Local y) = bytes_eq x y
    place_uses (Static m y) = false
    place_uses (Deref e) = expr_uses e
    place_uses (Field p f) = place_uses p

    -- and an expression does
    pub expr_uses : Expr → Bool
    expr_uses (Literal value ty) = false
    expr_uses (Truth value) = false
    expr_uses NoFunction = false
    expr_uses (Read p) = place_uses p
    expr_uses (Call m y args) = exprs_use args
    expr_uses (CallBy e args) = expr_uses e || exprs_use args
    expr_uses (Wrapped e op arg) = expr_uses e || expr_uses arg
    expr_uses (WrappingNeg e) = expr_uses e
    expr_uses (Offset e arg) = expr_uses e || expr_uses arg
    expr_uses (OffsetFrom e arg) = expr_uses e || expr_uses arg
    expr_uses (IsNull e) = expr_uses e
    expr_uses (IsNone e) = expr_uses e
    expr_uses (AddressOf p) = place_uses p
    expr_uses (NullPointer ty) = false
    expr_uses (SomeFunction m y params result) = false
    expr_uses (Transmute from to e) = expr_uses e
    expr_uses (Neg e) = expr_uses e
    expr_uses (Not e) = expr_uses e
    expr_uses (Cast e ty) = expr_uses e
    expr_uses (Binary left op right) = expr_uses left || expr_uses right
    expr_uses (And left right) = expr_uses left || expr_uses right
    expr_uses (Or left right) = expr_uses left || expr_uses right
    expr_uses (Choose condition if_true if_false) = expr_uses condition || (expr_uses if_true || expr_uses if_false)

    pub exprs_use : Exprs → Bool
    exprs_use no_exprs = false
    exprs_use (more_exprs e es) = expr_uses e || exprs_use es

  -- a statement names it itself, not by statements that stand in it
  abbrev pub stmt_uses : Stmt → Bool
  stmt_uses (Assign p e) = place_uses p || expr_uses e
  stmt_uses (Eval e) = expr_uses e
  stmt_uses (CopyBytes source target count) = expr_uses source || (expr_uses target || expr_uses count)
  stmt_uses (If condition if_true if_false) = expr_uses condition
  stmt_uses (Loop label body) = false
  stmt_uses (Block label body) = false
  stmt_uses (Break label) = false
  stmt_uses (Continue label) = false
  stmt_uses (Match e cases other) = expr_uses e
  stmt_uses (Return None) = false
  stmt_uses (Return (Some value)) = expr_uses value
