-- Lengths of arrays. Named by the contracts of parts alone.
use Rattle.std.specs.Prelude.{ℤ, pos, int_lt, Bool, Option}
use Rattle.cx_rules.specs.Rules.{value_is}

abbrev pub is_short : Option ℤ → Bool
is_short length = value_is (λ value. int_lt value (pos 1)) length
