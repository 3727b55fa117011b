-- Bit-fields that are no wider than their declared types, as a test (ISO C99, 6.7.2.1p3).
use Rattle.std.specs.Prelude.{ℕ, Bool, true, false, nat_le, Option, None, Some}
use Rattle.cx_core.specs.Conversions.{width_of_basic}
use Rattle.cx_core.specs.Trees.{CTyForm, void, basic, enum_type, pointer, array, record_type, function, form_of_type, CMember}

abbrev pub is_wide_enough : CTyForm → ℕ → Bool
is_wide_enough void width = false
is_wide_enough (basic which) width = nat_le width (width_of_basic which)
is_wide_enough (enum_type number) width = nat_le width 32
is_wide_enough (pointer to) width = false
is_wide_enough (array element length) width = false
is_wide_enough (record_type number) width = false
is_wide_enough (function result params variadic) width = false

abbrev pub bits_fit : CTyForm → Option ℕ → Bool
bits_fit form None = true
bits_fit form (Some width) = is_wide_enough form width

abbrev pub has_fitting_bits : CMember → Bool
has_fitting_bits one = bits_fit (form_of_type one.type) one.bits
