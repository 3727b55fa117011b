-- Where an expression goes on behind an operand (ISO C99, 6.5).
use Rattle.std.specs.Prelude.{ℕ, Bool, ◌&&◌, nat_lt, nat_le, if◌then◌else◌}
use Rattle.cx_lex.specs.declared.token.Punct.{Punct}
use Rattle.cx_lex.specs.declared.token.Punct.TheVariants.{LeftParenthesis}
use Rattle.straight_parse.specs.declared.continuation.Continuation.{Continuation}
use Rattle.straight_parse.specs.declared.continuation.Continuation.TheVariants.{Nothing, Operates, Assigns, Calls}
use Rattle.straight_parse.specs.declared.sight.Sight.{Sight}
use Rattle.straight_parse.specs.declared.sight.Sight.TheVariants.{End, Word, Number, Key, Mark, Literal}
use Rattle.straight_parse.specs.Sights.{same_mark}
use Rattle.straight_tree.specs.Levels.{assignment_level, unary_level, postfix_level, binary_level, is_assignment_operator}

-- how a mark behind an operand makes it part of a larger expression
unfoldable pub continuation_of_mark : Punct → Continuation
continuation_of_mark punct =
    if nat_lt 0 (binary_level punct) then Operates (binary_level punct)
    else (if is_assignment_operator punct then Assigns
    else (if same_mark punct LeftParenthesis then Calls else Nothing))

abbrev pub continuation_of : Sight → Continuation
continuation_of (Mark punct) = continuation_of_mark punct
continuation_of End = Nothing
continuation_of Word = Nothing
continuation_of Number = Nothing
continuation_of (Key keyword) = Nothing
continuation_of Literal = Nothing

-- the level of that larger expression, 0 for none
abbrev pub strength : Continuation → ℕ
strength Nothing = 0
strength (Operates level) = level
strength Assigns = assignment_level
strength Calls = postfix_level

-- the level that the operand needs
abbrev pub needs : Continuation → ℕ
needs Nothing = 0
needs (Operates level) = level
needs Assigns = unary_level
needs Calls = postfix_level

-- an expression of a level that is asked for goes on behind an operand of this level
unfoldable pub goes_on : ℕ → Continuation → ℕ → Bool
goes_on least continuation level = nat_lt 0 (strength continuation) && (nat_le least (strength continuation) && nat_le (needs continuation) level)
