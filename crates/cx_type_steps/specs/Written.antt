-- Numbers that are written in declarations: lengths, widths and values of enumerators.
use Rattle.std.specs.Prelude.{ℕ, ℤ, pos, negsuc, List, Option, Some, None}
use Rattle.cx_core.specs.Trees.{CTy, CTypes, CMember}
use Rattle.cx_rules.specs.Operands.{COperand, value_of, constant_of}
use Rattle.cx_rules.specs.Pieces.{enumerator_value}

-- 0 of what is negative
abbrev pub natural_of : ℤ → ℕ
natural_of (pos n) = n
natural_of (negsuc n) = 0

-- the value of an enumerator
abbrev pub value_given : CTypes → ℤ → Option COperand → ℤ
value_given types next None = next
value_given types next (Some written) = enumerator_value next (constant_of types (value_of written))

-- a member with a width
abbrev pub member_with : Option (List ℕ) → CTy → Option ℕ → CMember
member_with name type bits = record { name = name; type = type; bits = bits }
