-- External functions behind others, as keys are gone through.
use Rattle.std.specs.Prelude.{ℕ, ◌&&◌, ◌||◌, Bool, if◌then◌else◌, List, [], ◌∷◌, ◌++◌, map, Option, Some, None, codes}
use Rattle.cx_core.specs.Trees.{CTys, no_types, more_types, COuter}
use Rattle.cx_core.specs.Typing.{outer_with}
use Rattle.rs_items.specs.Types.{TypeNames, is_record, passed, rust_type}
use Rattle.rs_text.specs.Tree.{Ty, OuterTree}
use Rattle.whole_items.specs.Items.{calloc_outer, is_called_so, outer_of, without_params}
use Rattle.whole_names.specs.Calls.{NamedCall}
use Rattle.whole_names.specs.Keys.{NameKey, a_function, an_object, a_record, a_calloc, a_bare_function, is_outer_named}
use Rattle.whole_names.specs.Kept.{NamedProgram, name_in}

abbrev pub list_of : {A : Type 0} → Option A → List A
list_of None = []
list_of (Some one) = one ∷ []

abbrev pub types_behind : TypeNames → CTys → List Ty → List Ty
types_behind names no_types before = before
types_behind names (more_types first others) before = types_behind names others (before ++ passed (is_record first) (rust_type names first) ∷ [])

abbrev pub is_declared_by : List NamedCall → (for_malloc : Bool) → COuter → Bool
is_declared_by calls for_malloc one = is_called_so calls one || for_malloc && is_outer_named (codes "calloc") one

abbrev pub declared_by : NamedProgram → (unit : ℕ) → List NamedCall → Bool → (number : ℕ) → Option COuter → List OuterTree
declared_by whole unit calls for_malloc number None = []
declared_by whole unit calls for_malloc number (Some one) = if is_declared_by calls for_malloc one then outer_of whole unit (a_function number) (Some one) else []

abbrev pub function_by : NamedProgram → (unit : ℕ) → List NamedCall → Bool → ℕ → List OuterTree
function_by whole unit calls for_malloc number = declared_by whole unit calls for_malloc number (outer_with number whole.program.externals)

abbrev pub bare_by : NamedProgram → (unit : ℕ) → ℕ → List OuterTree
bare_by whole unit number = map without_params (outer_of whole unit (a_bare_function number) (outer_with number whole.program.externals))

abbrev pub key_by : NamedProgram → (unit : ℕ) → List NamedCall → Bool → NameKey → List OuterTree
key_by whole unit calls for_malloc (a_function number) = function_by whole unit calls for_malloc number
key_by whole unit calls for_malloc (an_object number) = []
key_by whole unit calls for_malloc (a_record number) = []
key_by whole unit calls for_malloc a_calloc = calloc_outer (name_in whole unit a_calloc) ∷ []
key_by whole unit calls for_malloc (a_bare_function number) = bare_by whole unit number

abbrev pub outers_behind : NamedProgram → (unit : ℕ) → List NamedCall → Bool → List NameKey → List OuterTree → List OuterTree
outers_behind whole unit calls for_malloc [] before = before
outers_behind whole unit calls for_malloc (key ∷ keys) before = outers_behind whole unit calls for_malloc keys (before ++ key_by whole unit calls for_malloc key)
