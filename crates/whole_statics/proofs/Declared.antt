-- The external functions of a module.
use Rattle.std.proofs.Common.{◌≡◌, ℕ, ◌&&◌, Bool, List, [], ◌∷◌, ◌++◌, flat_map, append_assoc, Option, Some, None, refl, sym, ap, ◌∙◌}
use Rattle.std.proofs.lemmas.List.{append-nil}
use Rattle.cx_core.specs.BitFields.{has_bit_fields}
use Rattle.cx_core.specs.Trees.{CTys, no_types, more_types, COuter}
use Rattle.cx_core.specs.Typing.{outer_with}
use Rattle.rs_items.specs.Types.{TypeNames, is_record, passed, rust_type, rust_types}
use Rattle.rs_text.specs.Tree.{Ty, OuterTree}
use Rattle.whole_items.specs.Items.{outer_if, outers_of, outers_of_key, tys_in}
use Rattle.whole_names.specs.Calls.{NamedCall}
use Rattle.whole_names.specs.Keys.{NameKey, a_function, an_object, a_record, a_calloc, a_bare_function, calls_malloc, calls_of, module_keys}
use Rattle.whole_names.specs.Kept.{NamedProgram}
use Rattle.whole_statics.specs.Outers.{declared_by, key_by, outers_behind, types_behind}

behind : (names : TypeNames) (types : CTys) (before : List Ty) → types_behind names types before ≡ before ++ tys_in (rust_types names types)
behind names no_types before = sym (append-nil before)
behind names (more_types first others) before =
    behind names others (before ++ passed (is_record first) (rust_type names first) ∷ []) ∙ append_assoc before (passed (is_record first) (rust_type names first) ∷ []) (tys_in (rust_types names others))

pub types_are : (names : TypeNames) (types : CTys) → types_behind names types [] ≡ tys_in (rust_types names types)
types_are names types = behind names types []

declared_is : (whole : NamedProgram) (unit number : ℕ) (found : Option COuter) →
    declared_by whole unit (calls_of whole.program unit) (has_bit_fields whole.program.types && calls_malloc whole.program unit) number found ≡ outer_if whole unit (a_function number) found
declared_is whole unit number None = refl
declared_is whole unit number (Some one) = refl

key_is : (whole : NamedProgram) (unit : ℕ) (key : NameKey) →
    key_by whole unit (calls_of whole.program unit) (has_bit_fields whole.program.types && calls_malloc whole.program unit) key ≡ outers_of_key whole unit key
key_is whole unit (a_function number) = declared_is whole unit number (outer_with number whole.program.externals)
key_is whole unit (an_object number) = refl
key_is whole unit (a_record number) = refl
key_is whole unit a_calloc = refl
key_is whole unit (a_bare_function number) = refl

outers_are : (whole : NamedProgram) (unit : ℕ) (keys : List NameKey) (before : List OuterTree) →
    outers_behind whole unit (calls_of whole.program unit) (has_bit_fields whole.program.types && calls_malloc whole.program unit) keys before ≡ before ++ flat_map (outers_of_key whole unit) keys
outers_are whole unit [] before = sym (append-nil before)
outers_are whole unit (key ∷ keys) before =
    ap (λ (here : List OuterTree). outers_behind whole unit (calls_of whole.program unit) (has_bit_fields whole.program.types && calls_malloc whole.program unit) keys (before ++ here)) (key_is whole unit key)
    ∙ outers_are whole unit keys (before ++ outers_of_key whole unit key) ∙ append_assoc before (outers_of_key whole unit key) (flat_map (outers_of_key whole unit) keys)

pub all_outers : (whole : NamedProgram) (unit : ℕ) (calls : List NamedCall) (for_malloc : Bool) (keys : List NameKey) (none outers : List OuterTree) → calls ≡ calls_of whole.program unit →
    for_malloc ≡ (has_bit_fields whole.program.types && calls_malloc whole.program unit) → keys ≡ module_keys whole.program unit → none ≡ [] →
    outers ≡ outers_behind whole unit calls for_malloc keys none → outers ≡ outers_of whole unit
all_outers whole unit calls for_malloc keys none outers same_calls same_malloc same_keys empty e =
    e ∙ ap (λ (list : List NamedCall). outers_behind whole unit list for_malloc keys none) same_calls
    ∙ ap (λ (t : Bool). outers_behind whole unit (calls_of whole.program unit) t keys none) same_malloc
    ∙ outers_are whole unit keys none ∙ ap (λ (list : List OuterTree). list ++ flat_map (outers_of_key whole unit) keys) empty
    ∙ ap (λ (list : List NameKey). flat_map (outers_of_key whole unit) list) same_keys
