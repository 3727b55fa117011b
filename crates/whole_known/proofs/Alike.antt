-- The types of a program, as they are kept.
use Rattle.std.proofs.Common.{◌≡◌, ℕ, Bool, true, false, Option, Some, None, slice_get, refl, ap, ◌∙◌}
use Rattle.std.proofs.Math.Path.{fun_ext}
use Rattle.rs_items.specs.Known.{KnownThing, Knows}
use Rattle.rs_items.specs.Types.{TypeNames, enum_integer, record_path as path_of, type_names}
use Rattle.rs_items.specs.declared.known.Named.TheVariants.{Record, Enum}
use Rattle.rs_text.specs.declared.integer.IntegerTy.{IntegerTy}
use Rattle.rs_tree.specs.declared.ty.RPath.{RPath}
use Rattle.whole_known.specs.Stages.{HasTypes, enum_at, enum_with, record_at}
use Rattle.whole_names.specs.Kept.{NamedProgram, enum_type, record_path, record_thing, types_of}

path_is : (whole : NamedProgram) (number : ℕ) (path : Option RPath) → path_of (record_thing whole number path) ≡ path
path_is whole number None = refl
path_is whole number (Some path) = refl

enum_is : (number : ℕ) (unit : Option ℕ) (is_int : Option Bool) → enum_integer (enum_with number unit is_int) ≡ enum_type is_int
enum_is number unit None = refl
enum_is number unit (Some true) = refl
enum_is number unit (Some false) = refl

abbrev names_of : (ℕ → Option RPath) → (ℕ → IntegerTy) → TypeNames
names_of records enums = record { records = records; enums = enums }

pub types_alike : (whole : NamedProgram) (known : Knows) → HasTypes whole known → type_names known ≡ types_of whole
types_alike whole known has =
    ap (λ (records : ℕ → Option RPath). names_of records (λ number. enum_integer (known (Enum number))))
    (fun_ext (λ number. ap path_of (has.has_records number) ∙ path_is whole number (record_path whole number)))
    ∙ ap (λ (enums : ℕ → IntegerTy). names_of (record_path whole) enums)
    (fun_ext (λ number. ap enum_integer (has.has_enums number) ∙ enum_is number (slice_get whole.program.types.enum_units number) (slice_get whole.program.types.enums number)))
