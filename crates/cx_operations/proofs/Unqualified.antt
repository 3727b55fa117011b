-- Qualifiers make no difference to the form of a type.
use Rattle.std.proofs.Common.{◌≡◌, refl}
use Rattle.cx_mean.specs.Operands.{CValue}
use Rattle.cx_mean.specs.Settings.{CSetting}
use Rattle.cx_mean.specs.Values.{converted_value}
use Rattle.mem_bytes.specs.Memory.{Blocks}
use Rattle.cx_core.specs.Trees.{CTy, ty, form_of_type, unqualified}

pub same_form : (type : CTy) → form_of_type (unqualified type) ≡ form_of_type type
same_form (ty form is_const) = refl

pub same_conversion : (setting : CSetting) (type : CTy) (blocks : Blocks) (value : CValue) →
    converted_value setting (unqualified type) blocks value ≡ converted_value setting type blocks value
same_conversion setting (ty form is_const) blocks value = refl
