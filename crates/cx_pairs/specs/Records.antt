-- Numbers of structures and unions. Named by the contracts of parts alone.
use Rattle.std.specs.Prelude.{ℕ, ◌==◌, Bool, false, Option, None, Some}

-- a structure or union that has this number
abbrev pub is_numbered : ℕ → Option ℕ → Bool
is_numbered number None = false
is_numbered number (Some other) = number == other
