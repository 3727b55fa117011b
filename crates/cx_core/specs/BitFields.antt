-- Bit-fields (ISO C99, 6.7.2.1p9).
use Rattle.std.specs.Prelude.{Bool, false, Option, Some, None, is_some}
use Rattle.std.specs.List.{list_any}
use Rattle.cx_core.specs.Trees.{CMember, CRecord, CTypes}

-- a member is a bit-field, named or unnamed (6.7.2.1p11)
abbrev pub is_bit_field : CMember → Bool
is_bit_field one = is_some one.bits

-- a record is completed, and has one
abbrev pub has_bit_field : Option CRecord → Bool
has_bit_field None = false
has_bit_field (Some one) = list_any is_bit_field one.members

-- some completed record of a program has one
abbrev pub has_bit_fields : CTypes → Bool
has_bit_fields types = list_any has_bit_field types.records
