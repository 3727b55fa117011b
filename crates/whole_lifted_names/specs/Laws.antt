-- Laws of names that are kept.
use Rattle.std.specs.Prelude.{◌≡◌, ◌≤◌, ℕ, length, List, None}
use Rattle.cx_core.specs.BitFields.{has_bit_fields}
use Rattle.cx_core.specs.Trees.{CFun}
use Rattle.lift_stores.specs.Names.{lift_names}
use Rattle.rs_items.specs.Known.{Names}
use Rattle.rs_text.specs.Tree.{Ty}
use Rattle.whole_bodies.specs.Names.{fields_in, names_in}
use Rattle.whole_known.specs.Modules.{KnowsAll}
use Rattle.whole_locals.specs.Functions.{own_names_of}
use Rattle.whole_names.specs.FunctionNames.{a_temporary}
use Rattle.whole_names.specs.Kept.{LocalNames, NamedProgram, local_among}

-- no temporary has a name without a type
abbrev pub HasFewTemporaries : LocalNames → Type 0
HasFewTemporaries own = (number : ℕ) → length own.temporaries ≤ number → local_among (a_temporary number) own.names ≡ None

abbrev pub KeptNamesAreLifted : Type 0
KeptNamesAreLifted = (whole : NamedProgram) (unit : ℕ) (own : LocalNames) (names : Names) → KnowsAll whole unit own names → HasFewTemporaries own →
    ((number : ℕ) → names.fields number ≡ fields_in whole number) → names.has_bits ≡ has_bit_fields whole.program.types → lift_names names ≡ names_in whole unit own

abbrev pub TemporariesAreFew : Type 0
TemporariesAreFew = (whole : NamedProgram) (fun : CFun) (temporaries : List Ty) → HasFewTemporaries (own_names_of whole fun temporaries)
