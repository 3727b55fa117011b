-- The two parts of an expression and of a statement are the whole.
use Rattle.std.proofs.Common.{ℕ, ◌≡◌, ◌++◌, refl, append-nil, append_assoc}
use Rattle.rs_text.specs.Lines.{stmt_lines, expr_text}
use Rattle.rs_text.specs.Parts.{first_text, second_text, simple_lines, compound_lines}
use Rattle.rs_text.specs.Tree.{Expr, Literal, Truth, NoFunction, Read, Call, CallBy, Wrapped, WrappingNeg, Offset, OffsetFrom, IsNull, IsNone, AddressOf, NullPointer, SomeFunction, Transmute, Neg, Not, Cast, Binary, And, Or, Choose, Stmt, Assign, Eval, CopyBytes, If, Loop, Block, Break, Continue, Match, Return}

pub expr_in_parts : (e : Expr) → first_text e ++ second_text e ≡ expr_text e
expr_in_parts (Literal value ty) = append-nil (expr_text (Literal value ty))
expr_in_parts (Truth value) = append-nil (expr_text (Truth value))
expr_in_parts NoFunction = refl
expr_in_parts (Read p) = append-nil (expr_text (Read p))
expr_in_parts (Call m x args) = append-nil (expr_text (Call m x args))
expr_in_parts (CallBy e args) = refl
expr_in_parts (Wrapped e op arg) = refl
expr_in_parts (WrappingNeg e) = refl
expr_in_parts (Offset e arg) = refl
expr_in_parts (OffsetFrom e arg) = refl
expr_in_parts (IsNull e) = refl
expr_in_parts (IsNone e) = refl
expr_in_parts (AddressOf p) = append-nil (expr_text (AddressOf p))
expr_in_parts (NullPointer ty) = append-nil (expr_text (NullPointer ty))
expr_in_parts (SomeFunction m x params result) = append-nil (expr_text (SomeFunction m x params result))
expr_in_parts (Transmute from to e) = simp append_assoc refl
expr_in_parts (Neg e) = append-nil (expr_text (Neg e))
expr_in_parts (Not e) = append-nil (expr_text (Not e))
expr_in_parts (Cast e ty) = refl
expr_in_parts (Binary left op right) = refl
expr_in_parts (And left right) = refl
expr_in_parts (Or left right) = refl
expr_in_parts (Choose condition if_true if_false) = simp append_assoc refl

pub stmt_in_parts : (depth : ℕ) (s : Stmt) → simple_lines depth s ++ compound_lines depth s ≡ stmt_lines depth s
stmt_in_parts depth (Assign place value) = append-nil (stmt_lines depth (Assign place value))
stmt_in_parts depth (Eval value) = append-nil (stmt_lines depth (Eval value))
stmt_in_parts depth (CopyBytes source target count) = append-nil (stmt_lines depth (CopyBytes source target count))
stmt_in_parts depth (If condition if_true if_false) = refl
stmt_in_parts depth (Loop label body) = refl
stmt_in_parts depth (Block label body) = refl
stmt_in_parts depth (Break label) = append-nil (stmt_lines depth (Break label))
stmt_in_parts depth (Continue label) = append-nil (stmt_lines depth (Continue label))
stmt_in_parts depth (Match value cases other) = refl
stmt_in_parts depth (Return value) = append-nil (stmt_lines depth (Return value))
