-- Types of several declarations (ISO C99, 6.2.7p3, p4).
use Rattle.std.specs.Prelude.{ℕ, List}
use Rattle.cx_core.specs.Trees.{CTy, CTypes}
use Rattle.cx_typed.specs.Growth.{Grows}
use Rattle.cx_typed_units.specs.Covers.{Covers}

-- the later type says all that the earlier one says, in all types that have grown from these
abbrev pub Fills : List ℕ → CTypes → CTy → CTy → Type 0
Fills opens types earlier later = (now : CTypes) → Grows opens types now → Covers now later earlier
