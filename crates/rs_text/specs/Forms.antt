-- Forms of expressions that the text and the validity of a tree ask for.
use Rattle.std.specs.Prelude.{Bool, true, false, pos, negsuc}
use Rattle.rs_text.specs.Tree.{Place, Deref, Expr, Literal, Read, Call, CallBy, Neg, Not, Cast, Binary, And, Or, Choose}

-- a place `*o`
abbrev pub is_deref : Place → Bool
is_deref (Deref operand) = true
is_deref _ = false

-- A compound: a negative literal, a unary operator before an operand, a cast, an operator between two operands, or an `if`. Every
-- other expression is an atom. An operand is an atom, or a compound in parentheses.
abbrev pub is_compound : Expr → Bool
is_compound (Literal (pos n) ty) = false
is_compound (Literal (negsuc n) ty) = true
is_compound (Read place) = is_deref place
is_compound (Neg operand) = true
is_compound (Not operand) = true
is_compound (Cast operand ty) = true
is_compound (Binary left operator right) = true
is_compound (And left right) = true
is_compound (Or left right) = true
is_compound (Choose condition if_true if_false) = true
is_compound _ = false

abbrev pub is_literal : Expr → Bool
is_literal (Literal value ty) = true
is_literal _ = false

-- a call, which may stand as a statement
abbrev pub is_call : Expr → Bool
is_call (Call m x args) = true
is_call (CallBy operand args) = true
is_call _ = false
