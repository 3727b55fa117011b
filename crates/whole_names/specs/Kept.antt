-- What the things of a C program have become, as a module of the written crate sees them: a function or object that a unit defines is an item of that unit's module, an external function one of
-- the block of each module that calls it, a record one of the module of its own unit.
use Rattle.std.specs.Prelude.{ℕ, ◌&&◌, ◌==◌, Bool, true, false, if◌then◌else◌, List, [], ◌∷◌, ◌++◌, Option, Some, None, is_some, bytes_eq, codes, slice_get, option_map}
use Rattle.std.specs.Option.{option_flatten}
use Rattle.cr_base.specs.declared.layout.Laid.{Laid}
use Rattle.cx_core.specs.BitFields.{has_bit_fields}
use Rattle.cx_core.specs.Layouts.{extent, layouts_of}
use Rattle.cx_core.specs.Trees.{CTy, ty, CTyForm, pointer, record_type, CRecord, CObject, CFun, COuter, CProgram}
use Rattle.cx_core.specs.Typing.{function_with, outer_with, object_with}
use Rattle.rs_items.specs.Known.{KnownThing, Names}
use Rattle.rs_items_sets.specs.Sets.{TakenNames}
use Rattle.rs_items.specs.Types.{TypeNames, rust_type, record_or_void}
use Rattle.rs_items.specs.declared.known.Named.{Named}
use Rattle.rs_items.specs.declared.known.Named.TheVariants.{Object, Function, BareFunction, Record, Enum, Temporary, Result}
use Rattle.rs_text.specs.Tree.{Ty, Integer, Void, Pointer, Code, more_tys, no_tys, some_ty}
use Rattle.rs_text.specs.declared.integer.IntegerTy.{IntegerTy}
use Rattle.rs_text.specs.declared.integer.IntegerTy.TheVariants.{I32, U32, U64}
use Rattle.rs_tree.specs.declared.ty.RPath.{RPath}
use Rattle.whole_names.specs.FunctionNames.{LocalKey, a_result, a_passed, a_local, a_temporary, LocalName}
use Rattle.whole_names.specs.Keys.{NameKey, a_function, an_object, a_record, a_calloc, a_bare_function, same_key, module_keys, is_outer_named, is_key_outer, needs_calloc, things_of}
use Rattle.whole_names.specs.ModuleNames.{name_or, GivenName, module_names, name_among}

-- ---- a function's names

abbrev pub same_local : LocalKey → LocalKey → Bool
same_local a_result a_result = true
same_local (a_passed one) (a_passed other) = one == other
same_local (a_local one) (a_local other) = one == other
same_local (a_temporary one) (a_temporary other) = one == other
same_local _ _ = false

abbrev pub local_among : LocalKey → List LocalName → Option (List ℕ)
local_among key [] = None
local_among key (one ∷ others) = if same_local key one.key then Some one.name else local_among key others

-- what surrounds an expression: the names of the function's own, the types of its temporaries, and the place to which it gives a structure or union
pub record LocalNames : Type 0 where
  pub names : List LocalName
  pub temporaries : List Ty
  pub result : Option CTy

-- ---- the types of a program

-- the program, and the names of its modules, one for each unit
pub record NamedProgram : Type 0 where
  pub program : CProgram
  pub module_names : List (List ℕ)

abbrev pub module_of : NamedProgram → (unit : ℕ) → List ℕ
module_of whole unit = name_or [] (slice_get whole.module_names unit)

-- the name of a thing in the module of a unit
abbrev pub name_in : NamedProgram → (unit : ℕ) → NameKey → List ℕ
name_in whole unit key = name_or [] (name_among key (module_names whole.program unit))

abbrev pub unit_or : ℕ → Option ℕ → ℕ
unit_or other None = other
unit_or other (Some unit) = unit

-- the unit of a record
abbrev pub record_unit : NamedProgram → ℕ → ℕ
record_unit whole number = unit_or 0 (slice_get whole.program.types.record_units number)

abbrev pub path_if : Bool → RPath → Option RPath
path_if true path = Some path
path_if false path = None

abbrev pub is_completed : NamedProgram → ℕ → Bool
is_completed whole number = is_some (option_flatten (slice_get whole.program.types.records number))

-- the record that a structure or union became
abbrev pub record_path : NamedProgram → ℕ → Option RPath
record_path whole number =
    path_if (is_completed whole number) (record { home = module_of whole (record_unit whole number); name = name_in whole (record_unit whole number) (a_record number) })

abbrev pub enum_type : Option Bool → IntegerTy
enum_type (Some false) = U32
enum_type (Some true) = I32
enum_type None = I32

abbrev pub types_of : NamedProgram → TypeNames
types_of whole = record { records = record_path whole; enums = λ number. enum_type (slice_get whole.program.types.enums number) }

abbrev pub size_or_none : Option Laid → ℕ
size_or_none None = 0
size_or_none (Some laid) = laid.size

-- the size of a type in bytes; 0 where it is incomplete
abbrev pub size_of : NamedProgram → CTy → ℕ
size_of whole type = size_or_none (extent (layouts_of whole.program.types) type)

-- the type of a pointer to a function of a type
abbrev pub code_type : NamedProgram → CTy → Ty
code_type whole type = rust_type (types_of whole) (ty (pointer type) false)

-- ---- things

-- an item of a module
abbrev pub item : Named → (unit : ℕ) → (home name : List ℕ) → Ty → (size : ℕ) → KnownThing
item named unit home name rust size =
    record { named = named; unit = unit; module_name = Some home; name = name; symbol = None; ty = rust; size = size }

-- a local, a parameter or a temporary
abbrev pub own_thing : Named → (unit : ℕ) → (name : List ℕ) → Ty → (size : ℕ) → KnownThing
own_thing named unit name rust size = record { named = named; unit = unit; module_name = None; name = name; symbol = None; ty = rust; size = size }

-- an object that isn't one of the function's blocks
abbrev pub object_item : NamedProgram → CObject → KnownThing
object_item whole one =
    item (Object one.object) one.unit (module_of whole one.unit) (name_in whole one.unit (an_object one.object)) (rust_type (types_of whole) one.type) (size_of whole one.type)

abbrev pub local_or_item : NamedProgram → CObject → Option (List ℕ) → KnownThing
local_or_item whole one None = object_item whole one
local_or_item whole one (Some name) = own_thing (Object one.object) one.unit name (rust_type (types_of whole) one.type) (size_of whole one.type)

abbrev pub object_thing : NamedProgram → LocalNames → Option CObject → Option KnownThing
object_thing whole own None = None
object_thing whole own (Some one) = Some (local_or_item whole one (local_among (a_local one.object) own.names))

abbrev pub function_item : NamedProgram → CFun → KnownThing
function_item whole one =
    item (Function one.function) one.unit (module_of whole one.unit) (name_in whole one.unit (a_function one.function)) (code_type whole one.type) 0

-- `calloc`: its type, and the name by which a module has it
abbrev pub calloc_type : Ty
calloc_type = Code (more_tys (Integer U64) (more_tys (Integer U64) no_tys)) (some_ty (Pointer Void))

abbrev pub first_key : (NameKey → Bool) → List NameKey → NameKey
first_key test [] = a_calloc
first_key test (key ∷ keys) = if test key then key else first_key test keys

-- the program's own external `calloc`, where the unit has it, or the one that the module declares
abbrev pub calloc_key : NamedProgram → (unit : ℕ) → NameKey
calloc_key whole unit = first_key (is_key_outer whole.program (codes "calloc")) (things_of whole.program unit)

abbrev pub outer_item : NamedProgram → (unit : ℕ) → COuter → KnownThing
outer_item whole unit one = record {
  named = Function one.function;
  unit = unit;
  module_name = Some (module_of whole unit);
  name = name_in whole unit (a_function one.function);
  symbol = Some one.name;
  ty = code_type whole one.type;
  size = 0;
}

-- in a program with a bit-field member `calloc` stands for `malloc`
abbrev pub calloc_item : NamedProgram → (unit : ℕ) → COuter → KnownThing
calloc_item whole unit one = record (outer_item whole unit one) { name = name_in whole unit (calloc_key whole unit); ty = calloc_type }

abbrev pub is_replaced : NamedProgram → COuter → Bool
is_replaced whole one = has_bit_fields whole.program.types && is_outer_named (codes "malloc") one

abbrev pub outer_thing : NamedProgram → (unit : ℕ) → Option COuter → Option KnownThing
outer_thing whole unit None = None
outer_thing whole unit (Some one) = Some (if is_replaced whole one then calloc_item whole unit one else outer_item whole unit one)

abbrev pub function_thing : NamedProgram → (unit : ℕ) → Option CFun → Option COuter → Option KnownThing
function_thing whole unit (Some one) outer = Some (function_item whole one)
function_thing whole unit None outer = outer_thing whole unit outer

-- the item without parameters of an external function, where the module has one
abbrev pub without_params : Ty → Ty
without_params (Code params result) = Code no_tys result
without_params rust = rust

abbrev pub bare_item : NamedProgram → (unit : ℕ) → COuter → KnownThing
bare_item whole unit one = record (outer_item whole unit one) {
  named = BareFunction one.function;
  name = name_in whole unit (a_bare_function one.function);
  ty = without_params (code_type whole one.type);
}

abbrev pub is_key_among : NameKey → List NameKey → Bool
is_key_among key [] = false
is_key_among key (one ∷ others) = if same_key key one then true else is_key_among key others

abbrev pub bare_thing : NamedProgram → (unit number : ℕ) → Option COuter → Option KnownThing
bare_thing whole unit number None = None
bare_thing whole unit number (Some one) = if is_key_among (a_bare_function number) (module_keys whole.program unit) then Some (bare_item whole unit one) else None

abbrev pub record_thing : NamedProgram → ℕ → Option RPath → Option KnownThing
record_thing whole number None = None
record_thing whole number (Some path) =
    Some (item (Record number) (record_unit whole number) path.home path.name (record_or_void (Some path)) (size_of whole (ty (record_type number) false)))

abbrev pub enum_thing : NamedProgram → (unit number : ℕ) → Option Bool → Option KnownThing
enum_thing whole unit number None = None
enum_thing whole unit number (Some is_int) = Some (own_thing (Enum number) (unit_or unit (slice_get whole.program.types.enum_units number)) [] (Integer (enum_type (Some is_int))) 4)

abbrev pub temporary_thing : (unit number : ℕ) → Option (List ℕ) → Option Ty → Option KnownThing
temporary_thing unit number (Some name) (Some rust) = Some (own_thing (Temporary number) unit name rust 0)
temporary_thing unit number _ _ = None

abbrev pub result_thing : NamedProgram → (unit : ℕ) → Option (List ℕ) → Option CTy → Option KnownThing
result_thing whole unit (Some name) (Some type) = Some (own_thing Result unit name (Pointer (rust_type (types_of whole) type)) (size_of whole type))
result_thing whole unit _ _ = None

-- what the things of a program are in the module of a unit, in a function with these names
abbrev pub known_thing : NamedProgram → (unit : ℕ) → LocalNames → Named → Option KnownThing
known_thing whole unit own (Object number) = object_thing whole own (object_with number whole.program.objects)
known_thing whole unit own (Function number) = function_thing whole unit (function_with number whole.program.functions) (outer_with number whole.program.externals)
known_thing whole unit own (BareFunction number) = bare_thing whole unit number (outer_with number whole.program.externals)
known_thing whole unit own (Record number) = record_thing whole number (record_path whole number)
known_thing whole unit own (Enum number) = enum_thing whole unit number (slice_get whole.program.types.enums number)
known_thing whole unit own (Temporary number) = temporary_thing unit number (local_among (a_temporary number) own.names) (slice_get own.temporaries number)
known_thing whole unit own Result = result_thing whole unit (local_among a_result own.names) own.result

-- what those of a module are outside of functions
abbrev pub no_locals : LocalNames
no_locals = record { names = []; temporaries = []; result = None }
