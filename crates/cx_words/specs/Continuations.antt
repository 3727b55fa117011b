-- Where an expression goes on behind an operand (ISO C99, 6.5).
use Rattle.std.specs.Prelude.{ℕ, Bool, ◌&&◌, nat_lt, nat_le, if◌then◌else◌}
use Rattle.cx_cursor.specs.declared.sight.Sight.{Sight}
use Rattle.cx_cursor.specs.declared.sight.Sight.TheVariants.{Mark}
use Rattle.cx_words.specs.declared.continuation.Continuation.{Continuation}
use Rattle.cx_words.specs.declared.continuation.Continuation.TheVariants.{Nothing, Operates, Assigns, Chooses, Commas, Indexes, Calls, Picks, Steps}
use Rattle.cx_lex.specs.declared.token.Punct.{Punct}
use Rattle.cx_lex.specs.declared.token.Punct.TheVariants.{LeftBracket, LeftParenthesis, Dot, Arrow, PlusPlus, MinusMinus, Question, Comma}
use Rattle.cx_tree.specs.Levels.{expression_level, assignment_level, conditional_level, unary_level, postfix_level, binary_level, is_assignment_operator}

-- how a mark that is no operator of two operands makes an operand part of a larger expression
unfoldable pub continuation_of_other : Punct → Continuation
continuation_of_other LeftBracket = Indexes
continuation_of_other LeftParenthesis = Calls
continuation_of_other Dot = Picks
continuation_of_other Arrow = Picks
continuation_of_other PlusPlus = Steps
continuation_of_other MinusMinus = Steps
continuation_of_other Question = Chooses
continuation_of_other Comma = Commas
continuation_of_other _ = Nothing

-- how a mark behind an operand makes it part of a larger expression
unfoldable pub continuation_of_mark : Punct → Continuation
continuation_of_mark punct =
    if nat_lt 0 (binary_level punct) then Operates (binary_level punct)
    else (if is_assignment_operator punct then Assigns else continuation_of_other punct)

abbrev pub continuation_of : Sight → Continuation
continuation_of (Mark punct) = continuation_of_mark punct
continuation_of _ = Nothing

-- the level of that larger expression, 0 for none
abbrev pub strength : Continuation → ℕ
strength Nothing = 0
strength (Operates level) = level
strength Assigns = assignment_level
strength Chooses = conditional_level
strength Commas = expression_level
strength Indexes = postfix_level
strength Calls = postfix_level
strength Picks = postfix_level
strength Steps = postfix_level

-- the level that the operand needs
abbrev pub needs : Continuation → ℕ
needs Nothing = 0
needs (Operates level) = level
needs Assigns = unary_level
needs Chooses = 4
needs Commas = expression_level
needs Indexes = postfix_level
needs Calls = postfix_level
needs Picks = postfix_level
needs Steps = postfix_level

-- an expression of a level that is asked for goes on behind an operand of this level
unfoldable pub goes_on : ℕ → Continuation → ℕ → Bool
goes_on least continuation level = nat_lt 0 (strength continuation) && (nat_le least (strength continuation) && nat_le (needs continuation) level)
