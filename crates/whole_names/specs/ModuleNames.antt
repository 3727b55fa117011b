-- The names of a module's items.
use Rattle.std.specs.Prelude.{ℕ, Bool, true, false, List, [], ◌∷◌, ◌++◌, Option, Some, None, codes, if◌then◌else◌, slice_get}
use Rattle.cx_core.specs.Trees.{CRecordTag, CObject, CFun, COuter, CProgram}
use Rattle.cx_core.specs.Typing.{function_with, outer_with, object_with}
use Rattle.rs_items_sets.specs.Names.{rust_name}
use Rattle.rs_items_sets.specs.declared.scope.NameScope.TheVariants.{Module}
use Rattle.whole_names.specs.Keys.{NameKey, a_function, an_object, a_record, a_calloc, a_bare_function, same_key, module_keys, entries_of}

-- ---- the names that are wanted

abbrev pub name_or : List ℕ → Option (List ℕ) → List ℕ
name_or other None = other
name_or other (Some name) = name

abbrev pub function_name : Option CFun → Option COuter → List ℕ
function_name (Some one) outer = one.name
function_name None (Some outer) = outer.name
function_name None None = []

-- a string literal is `lit`, a compound literal `val`
abbrev pub object_name : Option CObject → List ℕ
object_name None = []
object_name (Some one) = name_or (if one.is_text then codes "lit" else codes "val") one.name

-- a record without a tag is `anon`
abbrev pub record_name : Option CRecordTag → List ℕ
record_name None = []
record_name (Some one) = name_or (codes "anon") one.tag

-- the name that a key is to get where it is free
abbrev pub wanted_name : CProgram → NameKey → List ℕ
wanted_name program (a_function number) = function_name (function_with number program.functions) (outer_with number program.externals)
wanted_name program (an_object number) = object_name (object_with number program.objects)
wanted_name program (a_record number) = record_name (slice_get program.types.record_tags number)
wanted_name program a_calloc = codes "calloc"
wanted_name program (a_bare_function number) = function_name None (outer_with number program.externals)

-- ---- the names that are given

-- a key and its Rust name
pub record GivenName : Type 0 where
  pub key : NameKey
  pub name : List ℕ

-- keys get names behind those that are taken, in order
abbrev pub given_from : CProgram → (taken : List (List ℕ)) → List NameKey → List GivenName
given_from program taken [] = []
given_from program taken (key ∷ keys) =
    let name = rust_name taken Module (wanted_name program key) in
    record { key = key; name = name } ∷ given_from program (taken ++ name ∷ []) keys

-- `main` is `main_0`, and each module has its initialiser
abbrev pub own_names : List (List ℕ)
own_names = codes "main_0" ∷ codes "run_static_initializers" ∷ []

abbrev pub entry_names : List NameKey → List GivenName
entry_names [] = []
entry_names (key ∷ keys) = record { key = key; name = codes "main_0" } ∷ entry_names keys

-- the names of the module of a unit
abbrev pub module_names : CProgram → ℕ → List GivenName
module_names program unit = entry_names (entries_of program unit) ++ given_from program own_names (module_keys program unit)

-- those that are taken in it
abbrev pub names_only : List GivenName → List (List ℕ)
names_only [] = []
names_only (one ∷ others) = one.name ∷ names_only others

abbrev pub taken_names : CProgram → ℕ → List (List ℕ)
taken_names program unit = own_names ++ names_only (given_from program own_names (module_keys program unit))

-- the name of a key
abbrev pub name_among : NameKey → List GivenName → Option (List ℕ)
name_among key [] = None
name_among key (one ∷ others) = if same_key key one.key then Some one.name else name_among key others
