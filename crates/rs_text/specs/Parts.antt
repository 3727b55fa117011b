-- The text of an expression and the lines of a statement, in two parts each, in the order in which they are written, so that each is
-- written by a function that looks at the tree's form once. A part is empty for the forms that it isn't about.
use Rattle.std.specs.Prelude.{ℕ, List, [], ◌++◌, codes}
use Rattle.rs_text.specs.Forms.{is_compound}
use Rattle.rs_text.specs.declared.line.Line.{Line}
use Rattle.rs_text.specs.Lines.{item_path, ty_text, tys_texts, result_text, signature, literal_text, operand, listed, place_text, expr_text, exprs_texts, address_of, null_of, transmute_of, stmt_lines}
use Rattle.rs_text.specs.Tree.{Expr, Literal, Truth, NoFunction, Read, Call, CallBy, Wrapped, WrappingNeg, Offset, OffsetFrom, IsNull, IsNone, AddressOf, NullPointer, SomeFunction, Transmute, Neg, Not, Cast, Binary, And, Or, Choose, Stmt, Assign, Eval, CopyBytes, If, Loop, Block, Break, Continue, Match, Return}
use Rattle.rs_text.specs.Words.{operator_mark, wrapping_word, truth_word}

-- an operand
abbrev pub operand_text : Expr → List ℕ
operand_text e = operand (is_compound e) (expr_text e)

-- an expression without operands behind the first one, or the first operand and what stands before it
abbrev pub first_text : Expr → List ℕ
first_text (Literal value ty) = literal_text value ty
first_text (Truth value) = truth_word value
first_text NoFunction = codes "None"
first_text (Read p) = place_text p
first_text (Call m x args) = item_path m x ++ (codes "(" ++ (listed (exprs_texts args) ++ codes ")"))
first_text (CallBy e args) = operand_text e
first_text (Wrapped e op arg) = operand_text e
first_text (WrappingNeg e) = operand_text e
first_text (Offset e arg) = operand_text e
first_text (OffsetFrom e arg) = operand_text e
first_text (IsNull e) = operand_text e
first_text (IsNone e) = operand_text e
first_text (AddressOf p) = address_of ++ (place_text p ++ codes ")")
first_text (NullPointer ty) = null_of ++ (ty_text ty ++ codes ">()")
first_text (SomeFunction m x params result) =
    codes "Some(" ++ (item_path m x ++ (codes " as " ++ signature (tys_texts params) (result_text result) (codes ")")))
first_text (Transmute from to e) = transmute_of ++ (ty_text from ++ (codes ", " ++ (ty_text to ++ codes ">(")))
first_text (Neg e) = codes "-" ++ operand_text e
first_text (Not e) = codes "!" ++ operand_text e
first_text (Cast e ty) = operand_text e
first_text (Binary left op right) = operand_text left
first_text (And left right) = operand_text left
first_text (Or left right) = operand_text left
first_text (Choose condition if_true if_false) = codes "if " ++ (expr_text condition ++ codes " { ")

-- a method with its argument
abbrev pub method_text : List ℕ → Expr → List ℕ
method_text name arg = codes "." ++ (name ++ (codes "(" ++ (expr_text arg ++ codes ")")))

-- an operator and the operand behind it
abbrev pub right_text : List ℕ → Expr → List ℕ
right_text operator right = codes " " ++ (operator ++ (codes " " ++ operand_text right))

-- what stands behind that
abbrev pub second_text : Expr → List ℕ
second_text (CallBy e args) = codes ".unwrap()(" ++ (listed (exprs_texts args) ++ codes ")")
second_text (Wrapped e op arg) = method_text (wrapping_word op) arg
second_text (WrappingNeg e) = codes ".wrapping_neg()"
second_text (Offset e arg) = method_text (codes "offset") arg
second_text (OffsetFrom e arg) = method_text (codes "offset_from") arg
second_text (IsNull e) = codes ".is_null()"
second_text (IsNone e) = codes ".is_none()"
second_text (Transmute from to e) = expr_text e ++ codes ")"
second_text (Cast e ty) = codes " as " ++ ty_text ty
second_text (Binary left op right) = right_text (operator_mark op) right
second_text (And left right) = right_text (codes "&&") right
second_text (Or left right) = right_text (codes "||") right
second_text (Choose condition if_true if_false) = (expr_text if_true ++ codes " } else { ") ++ (expr_text if_false ++ codes " }")
second_text _ = []

-- ---- statements

-- the line of a statement without others in it
abbrev pub simple_lines : ℕ → Stmt → List Line
simple_lines depth (Assign place value) = stmt_lines depth (Assign place value)
simple_lines depth (Eval value) = stmt_lines depth (Eval value)
simple_lines depth (CopyBytes source target count) = stmt_lines depth (CopyBytes source target count)
simple_lines depth (Break label) = stmt_lines depth (Break label)
simple_lines depth (Continue label) = stmt_lines depth (Continue label)
simple_lines depth (Return value) = stmt_lines depth (Return value)
simple_lines depth _ = []

-- the lines of a statement that holds others
abbrev pub compound_lines : ℕ → Stmt → List Line
compound_lines depth (If condition if_true if_false) = stmt_lines depth (If condition if_true if_false)
compound_lines depth (Loop label body) = stmt_lines depth (Loop label body)
compound_lines depth (Block label body) = stmt_lines depth (Block label body)
compound_lines depth (Match value cases other) = stmt_lines depth (Match value cases other)
compound_lines depth _ = []
