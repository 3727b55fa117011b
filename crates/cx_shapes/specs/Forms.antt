-- Parts of what lists of keywords give.
use Rattle.std.specs.Prelude.{ℕ, ◌+◌, ◌-◌, ◌==◌, nat_le, Bool, ◌&&◌, if◌then◌else◌, List, length, Option, Some, None}
use Rattle.std.specs.Option.{option_and_then}
use Rattle.cx_core.specs.Trees.{CTyForm}
use Rattle.cx_lex.specs.declared.token.Keyword.{Keyword}
use Rattle.cx_lex.specs.declared.token.Keyword.TheVariants as keyword
use Rattle.cx_rules.specs.Shapes.{count_of, at_most_once, one_sign, char_form, sign_count, one_size, integer_count}

abbrev pub form_of_char : List Keyword → Option CTyForm
form_of_char words = if one_sign words && (length words == 1 + sign_count words) then Some (char_form words) else None

abbrev pub rest_of : ℕ → ℕ → Option ℕ
rest_of whole part = if nat_le part whole then Some (whole - part) else None

-- how many words are left without the signs and `short`
abbrev pub unsized_count : List Keyword → Option ℕ
unsized_count words =
    option_and_then (λ plain. rest_of plain (count_of keyword.Short words))
    (option_and_then (λ rest. rest_of rest (count_of keyword.Unsigned words)) (rest_of (length words) (count_of keyword.Signed words)))

-- the words are those of an integer type
abbrev pub is_sized : List Keyword → Bool
is_sized words = one_sign words && (one_size words && (at_most_once keyword.Int words && (length words == integer_count words)))
