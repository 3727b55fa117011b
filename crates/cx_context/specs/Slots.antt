-- The numbers of structures and unions.
use Rattle.std.specs.Prelude.{Bool, true, false, Option, None, Some}
use Rattle.cx_core.specs.Trees.{CRecord}

-- there is a structure or union at a number, and it isn't completed
abbrev pub is_open : Option (Option CRecord) → Bool
is_open None = false
is_open (Some None) = true
is_open (Some (Some one)) = false
