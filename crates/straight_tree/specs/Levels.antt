-- The levels of expressions and of operators (ISO C99, 6.5). A production of a higher level binds tighter.
use Rattle.std.specs.Prelude.{ℕ, Bool, true, false}
use Rattle.cx_lex.specs.declared.token.Punct.{Punct}
use Rattle.cx_lex.specs.declared.token.Punct.TheVariants.{Ampersand, Star, Plus, Minus, Slash, Percent, ShiftLeft, ShiftRight, Less, Greater, LessEqual, GreaterEqual, EqualEqual, NotEqual, Caret, Bar, AndAnd, BarBar, Equal}
use Rattle.straight_tree.specs.Trees.{ExprTree, Name, Number, Paren, Call, Unary, Binary, Assign}

-- An expression (6.5.17) has level 1, a conditional expression (6.5.15) 3, and the binary operators 4 to 13.
abbrev pub expression_level : ℕ
expression_level = 1

-- an assignment expression (6.5.16)
abbrev pub assignment_level : ℕ
assignment_level = 2

-- a cast expression (6.5.4)
abbrev pub cast_level : ℕ
cast_level = 14

-- a unary expression (6.5.3)
abbrev pub unary_level : ℕ
unary_level = 15

-- a postfix expression (6.5.2)
abbrev pub postfix_level : ℕ
postfix_level = 16

-- a primary expression (6.5.1)
abbrev pub primary_level : ℕ
primary_level = 17

-- the level of a binary operator's expressions (6.5.5 to 6.5.14), or 0 for a mark that is no binary operator
unfoldable pub binary_level : Punct → ℕ
binary_level BarBar = 4
binary_level AndAnd = 5
binary_level Bar = 6
binary_level Caret = 7
binary_level Ampersand = 8
binary_level EqualEqual = 9
binary_level NotEqual = 9
binary_level Less = 10
binary_level Greater = 10
binary_level LessEqual = 10
binary_level GreaterEqual = 10
binary_level ShiftLeft = 11
binary_level ShiftRight = 11
binary_level Plus = 12
binary_level Minus = 12
binary_level Star = 13
binary_level Slash = 13
binary_level Percent = 13
binary_level _ = 0

-- a unary operator that is a mark, other than `++` and `--` (6.5.3; today `-`)
unfoldable pub is_unary_operator : Punct → Bool
is_unary_operator Minus = true
is_unary_operator _ = false

-- an assignment operator (6.5.16; today `=`)
unfoldable pub is_assignment_operator : Punct → Bool
is_assignment_operator Equal = true
is_assignment_operator _ = false

-- the level of an expression
abbrev pub level : ExprTree → ℕ
level (Name name lines) = primary_level
level (Number value ty lines) = primary_level
level (Paren inner lines) = primary_level
level (Call of args lines) = postfix_level
level (Unary op on lines) = unary_level
level (Binary left op right lines) = binary_level op
level (Assign left op right lines) = assignment_level
