-- What a conversion gives.
use Rattle.std.specs.Prelude.{ℕ, Bool, Option, Some, None, Result, Ok}
use Rattle.cr_base.specs.declared.scalar.Scalar.TheVariants.{Whole}
use Rattle.cr_base.specs.Scalar.{converted}
use Rattle.cx_mean.specs.Operands.{CWhy, CValue, scalar, missing}
use Rattle.cx_mean.specs.Values.{number_in}
use Rattle.mem_bytes.specs.Access.{and_then}
use Rattle.mem_bytes.specs.declared.value.Value.{Value}
use Rattle.mem_bytes.specs.declared.value.Value.TheVariants.{Whole as Number}

-- a scalar value, or none
abbrev pub given_value : Option Value → CValue
given_value (Some value) = scalar value
given_value None = missing

abbrev pub whole_of : ℕ → Bool → Value → Result Value CWhy
whole_of width signed value = and_then (number_in value) (λ number. Ok (Number (converted (Whole width signed) number)))
