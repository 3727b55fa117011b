-- The computation of `op=`, `++` or `--`.
use Rattle.std.proofs.Common.{◌≡◌, refl, Result, Ok, Err}
use Rattle.cx_mean.specs.Operands.{CValue, CWhy, scalar_value}
use Rattle.cx_mean.specs.Settings.{CSetting}
use Rattle.cx_mean.specs.Values.{binary_value}
use Rattle.cx_mean.specs.Work.{CUpdate}
use Rattle.mem_bytes.specs.Access.{and_then}
use Rattle.mem_bytes.specs.Memory.{Blocks}

pub converted_first : (setting : CSetting) (update : CUpdate) (blocks : Blocks) (found : Result CValue CWhy) →
    and_then found (λ value. and_then (scalar_value value) (λ left.
    binary_value setting update.op update.computes blocks (record { type = update.computes; value = left }) update.right)) ≡
    and_then (and_then found scalar_value) (λ left.
    binary_value setting update.op update.computes blocks (record { type = update.computes; value = left }) update.right)
converted_first setting update blocks (Ok value) = refl
converted_first setting update blocks (Err why) = refl
