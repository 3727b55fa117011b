-- Bit-fields of the profile: each begins in one of the 8 bits of its first byte, and has 1 to 32 bits (ISO C99, 6.7.2.1p3, p9).
use Rattle.std.specs.Prelude.{◌≡◌, ℕ, ◌<◌}
use Rattle.cr_base.specs.declared.layout.Spot.{Spot}
use Rattle.cx_core.specs.Trees.{CExpr, expr, CForm, member}
use Rattle.lift_exprs.specs.Stores.{Target, a_scalar, a_structure, a_field}
use Rattle.mem_bytes.specs.Calls.{IsFieldPlace}

-- what a bit-field stands at
abbrev pub Fits : Spot → Type 0
Fits spot = 0 < spot.width → IsFieldPlace spot.bit spot.width

-- a store to a bit-field of the profile, or to anything else
abbrev pub TargetFits : Target → Type 0
TargetFits (a_scalar p ty) = Unit {0}
TargetFits (a_structure p ty size) = Unit {0}
TargetFits (a_field base spot ty) = IsFieldPlace spot.bit spot.width

-- an lvalue that isn't a bit-field, or one of the profile
abbrev pub LvalueFits : CExpr → Type 0
LvalueFits (expr type place (member of spot)) = Fits spot
LvalueFits (expr type place form) = Unit {0}
