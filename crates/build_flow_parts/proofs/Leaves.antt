-- Initialisers that leave no bit of their object: C unsets all of its cells before their values are stored (ISO C99, 6.7.8).
use Rattle.std.proofs.Common.{◌≡◌, ℕ, ◌*◌, false, List, length, replicate, Option, Some, None, IfSome, Ok, refl}
use Rattle.cr_base.specs.declared.layout.Laid.{Laid}
use Rattle.cx_core.specs.BitFields.{has_bit_fields}
use Rattle.cx_core.specs.Trees.{CTy, CPuts}
use Rattle.cx_core.specs.Typing.{CHome, ArePuts}
use Rattle.cx_mean.specs.Initialisers.{first_cells}
use Rattle.cx_mean.specs.Settings.{extent_in}
use Rattle.build_flow_nodes.specs.Parts.{leaves_bits_of}
use Rattle.lift_calls.specs.Programs.{Setting, setting_in}
use Rattle.lift_does.proofs.LiteralLeaves.{are_plain, first_unset as values_unset}
use Rattle.lift_exprs.specs.Names.{Names}
use Rattle.lift_exprs.specs.Objects.{leave_bits}
use Rattle.mem_bytes.specs.declared.cell.Cell.{Cell}
use Rattle.mem_bytes.specs.Memory.{unset_cell}
use Rattle.std.proofs.Common.{subst}

-- what C has before the values of an initialiser that leaves no bit, in a program without bit-fields
pub first_unset : (s : Setting) (names : Names) (home : CHome) (sizes : (type : CTy) (laid : Laid) → extent_in (setting_in s) type ≡ Some laid → names.size_of type ≡ laid.size) (size : ℕ) (puts : Option CPuts) (type : CTy) (given : List Cell) →
    has_bit_fields home.program.types ≡ false → IfSome puts (ArePuts home type) → names.size_of type ≡ size → leaves_bits_of names type puts ≡ false → first_cells (setting_in s) size puts ≡ Ok given → length given ≡ size →
    first_cells (setting_in s) size puts ≡ Ok (replicate size unset_cell)
first_unset s names home sizes size None type given none are size_is leaves e many = refl
first_unset s names home sizes size (Some puts) type given none are size_is leaves e many =
    values_unset s names sizes size puts given (are_plain home type puts none are) (subst (λ (one : ℕ). leave_bits names puts 0 (8 * one) ≡ false) size_is leaves) e many
