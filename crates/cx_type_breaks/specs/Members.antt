-- Widths of members, by parts. Named by the contracts of parts alone.
use Rattle.std.specs.Prelude.{ℕ, ℤ, Bool, not, ◌||◌, List, Option}
use Rattle.cx_core.specs.Trees.{CTy, CTypes}
use Rattle.cx_rules.specs.Rules.{not_width, value_is}
use Rattle.cx_rules.specs.Types.{is_integer}

-- a bit-field of a type can't have a width
unfoldable pub is_misfit : CTypes → CTy → Option (List ℕ) → Option ℤ → Bool
is_misfit types type name width = not (is_integer types type) || value_is (not_width types type name) width
