-- The levels of expressions and the operators (ISO C99, 6.5). A production of a higher level binds tighter.
use Rattle.std.specs.Prelude.{ℕ, Bool, true, false}
use Rattle.cx_lex.specs.declared.token.Punct.{Punct}
use Rattle.cx_lex.specs.declared.token.Punct.TheVariants as punct
use Rattle.cx_tree.specs.Trees.{ExprTree, Name, Number, Letter, Text, Paren, Index, Call, Dot, Arrow, PostUp, PostDown, Literal, PreUp, PreDown, Unary, SizeofExpr, SizeofType, Cast, Binary, Cond, Assign, Comma}

-- an expression (6.5.17)
abbrev pub expression_level : ℕ
expression_level = 1

-- an assignment expression (6.5.16)
abbrev pub assignment_level : ℕ
assignment_level = 2

-- a conditional expression (6.5.15); a constant expression is one (6.6)
abbrev pub conditional_level : ℕ
conditional_level = 3

-- a logical OR expression (6.5.14), which binds loosest among the binary operators; their levels are 4 to 13
abbrev pub logical_or_level : ℕ
logical_or_level = 4

-- a cast expression (6.5.4)
abbrev pub cast_level : ℕ
cast_level = 14

-- a unary expression (6.5.3)
abbrev pub unary_level : ℕ
unary_level = 15

-- a postfix expression (6.5.2)
abbrev pub postfix_level : ℕ
postfix_level = 16

-- a primary expression (6.5.1)
abbrev pub primary_level : ℕ
primary_level = 17

-- the level of a binary operator's expressions (6.5.5 to 6.5.14), or 0 for a mark that is no binary operator
unfoldable pub binary_level : Punct → ℕ
binary_level punct.BarBar = 4
binary_level punct.AndAnd = 5
binary_level punct.Bar = 6
binary_level punct.Caret = 7
binary_level punct.Ampersand = 8
binary_level punct.EqualEqual = 9
binary_level punct.NotEqual = 9
binary_level punct.Less = 10
binary_level punct.Greater = 10
binary_level punct.LessEqual = 10
binary_level punct.GreaterEqual = 10
binary_level punct.ShiftLeft = 11
binary_level punct.ShiftRight = 11
binary_level punct.Plus = 12
binary_level punct.Minus = 12
binary_level punct.Star = 13
binary_level punct.Slash = 13
binary_level punct.Percent = 13
binary_level _ = 0

-- a unary operator that is a mark, other than `++` and `--` (6.5.3)
unfoldable pub is_unary_operator : Punct → Bool
is_unary_operator punct.Ampersand = true
is_unary_operator punct.Star = true
is_unary_operator punct.Plus = true
is_unary_operator punct.Minus = true
is_unary_operator punct.Tilde = true
is_unary_operator punct.Exclamation = true
is_unary_operator _ = false

-- an assignment operator (6.5.16)
unfoldable pub is_assignment_operator : Punct → Bool
is_assignment_operator punct.Equal = true
is_assignment_operator punct.StarEqual = true
is_assignment_operator punct.SlashEqual = true
is_assignment_operator punct.PercentEqual = true
is_assignment_operator punct.PlusEqual = true
is_assignment_operator punct.MinusEqual = true
is_assignment_operator punct.ShiftLeftEqual = true
is_assignment_operator punct.ShiftRightEqual = true
is_assignment_operator punct.AmpersandEqual = true
is_assignment_operator punct.CaretEqual = true
is_assignment_operator punct.BarEqual = true
is_assignment_operator _ = false

-- the level of an expression
abbrev pub level : ExprTree → ℕ
level (Name name lines) = primary_level
level (Number value ty lines) = primary_level
level (Letter value lines) = primary_level
level (Text parts lines) = primary_level
level (Paren inner lines) = primary_level
level (Index of index lines) = postfix_level
level (Call of args lines) = postfix_level
level (Dot of member lines) = postfix_level
level (Arrow of member lines) = postfix_level
level (PostUp of lines) = postfix_level
level (PostDown of lines) = postfix_level
level (Literal of list lines) = postfix_level
level (PreUp on lines) = unary_level
level (PreDown on lines) = unary_level
level (Unary op on lines) = unary_level
level (SizeofExpr on lines) = unary_level
level (SizeofType of lines) = unary_level
level (Cast to on lines) = cast_level
level (Binary left op right lines) = binary_level op
level (Cond condition if_true if_false lines) = conditional_level
level (Assign left op right lines) = assignment_level
level (Comma left right lines) = expression_level
