-- What gets a name in a module of the written crate, in the order in which names are given (ISO C99, 6.2.1, 6.2.2 and 6.2.4): the function `main`; the functions and objects of the
-- unit with linkage by first declaration, but those that another unit defines; its records by completion; static objects of blocks; string literals; static compound literals; last what
-- the module declares beside these, `calloc` and external functions that are called without the arguments that they have elsewhere.
use Rattle.std.specs.Prelude.{ℕ, ◌==◌, ◌&&◌, ◌||◌, not, Bool, true, false, List, [], ◌∷◌, ◌++◌, map, filter, flat_map, Option, Some, None, is_some, is_none, bytes_eq, codes, if◌then◌else◌, slice_get}
use Rattle.std.specs.List.{list_any}
use Rattle.std.specs.Option.{option_flatten}
use Rattle.cx_core.specs.BitFields.{has_bit_fields}
use Rattle.cx_core.specs.Trees.{CTy, form_of_type, CTyForm, void, basic, enum_type, pointer, array, record_type, function, CParams, unlisted, listed, CTys, no_types, more_types, CRecord, CTypes, CObject, CFun, COuter, CKey, CDeclaredOrder, CProgram}
use Rattle.cx_core.specs.Trees as core
use Rattle.cx_core.specs.Typing.{function_with, outer_with, object_with}
use Rattle.cx_core.specs.declared.program.Linkage.{Linkage}
use Rattle.cx_core.specs.declared.program.Linkage.TheVariants.{External, Internal, Nothing}
use Rattle.whole_names.specs.Calls.{NamedCall, calls_in_stmt, calls_in_contents}

-- ---- keys

pub data NameKey : Type 0 where
  -- a function, an object or a record of the program, by its number
  a_function : (number : ℕ) → NameKey
  an_object : (number : ℕ) → NameKey
  a_record : (number : ℕ) → NameKey
  -- the `calloc` that is called in the place of `malloc`
  a_calloc : NameKey
  -- an external function, declared once more without parameters
  a_bare_function : (number : ℕ) → NameKey

abbrev pub same_key : NameKey → NameKey → Bool
same_key (a_function one) (a_function other) = one == other
same_key (an_object one) (an_object other) = one == other
same_key (a_record one) (a_record other) = one == other
same_key a_calloc a_calloc = true
same_key (a_bare_function one) (a_bare_function other) = one == other
same_key _ _ = false

-- ---- the function `main`

abbrev pub is_external : Linkage → Bool
is_external External = true
is_external Internal = false
is_external Nothing = false

-- the program's entry (5.1.2.2.1)
abbrev pub is_entry : CFun → Bool
is_entry one = is_external one.linkage && bytes_eq one.name (codes "main")

-- ---- things with linkage

abbrev pub is_defined_in : ℕ → Option CFun → Option COuter → Bool
is_defined_in unit (Some one) outer = one.unit == unit && not (is_entry one)
is_defined_in unit None outer = is_some outer

-- an object that another unit defines has that unit
abbrev pub is_object_of : ℕ → Option CObject → Bool
is_object_of unit None = false
is_object_of unit (Some one) = one.unit == unit

-- a thing has a name in the module of a unit: no other unit defines it, and it isn't `main`
abbrev pub is_named_in : CProgram → ℕ → CKey → Bool
is_named_in program unit (core.a_function number) = is_defined_in unit (function_with number program.functions) (outer_with number program.externals)
is_named_in program unit (core.an_object number) = is_object_of unit (object_with number program.objects)
is_named_in program unit (core.a_record number) = false
is_named_in program unit core.a_calloc = false

abbrev pub key_of : CKey → NameKey
key_of (core.a_function number) = a_function number
key_of (core.an_object number) = an_object number
key_of (core.a_record number) = a_record number
key_of core.a_calloc = a_calloc

abbrev pub no_order : CDeclaredOrder
no_order = record { things = []; completed = [] }

abbrev pub order_or_none : Option CDeclaredOrder → CDeclaredOrder
order_or_none None = no_order
order_or_none (Some order) = order

-- in which order a unit declares
abbrev pub order_of : CProgram → ℕ → CDeclaredOrder
order_of program unit = order_or_none (slice_get program.orders unit)

abbrev pub things_of : CProgram → ℕ → List NameKey
things_of program unit = map key_of (filter (is_named_in program unit) (order_of program unit).things)

abbrev pub records_of : CProgram → ℕ → List NameKey
records_of program unit = map a_record (order_of program unit).completed

-- ---- objects without linkage

abbrev pub is_unlinked : Linkage → Bool
is_unlinked External = false
is_unlinked Internal = false
is_unlinked Nothing = true

-- a static object of a block (6.2.4p3)
abbrev pub is_block_static : ℕ → CObject → Bool
is_block_static unit one = one.unit == unit && is_unlinked one.linkage && is_some one.name && is_some one.puts

-- the array of a string literal (6.4.5p5)
abbrev pub is_text_of : ℕ → CObject → Bool
is_text_of unit one = one.unit == unit && one.is_text

-- a compound literal outside of functions (6.5.2.5p6)
abbrev pub is_static_literal : ℕ → CObject → Bool
is_static_literal unit one = one.unit == unit && is_none one.name && not one.is_text && is_some one.puts

abbrev pub objects_that : (CObject → Bool) → CProgram → List NameKey
objects_that test program = map (λ (one : CObject). an_object one.object) (filter test program.objects)

-- ---- calls of external functions

abbrev pub calls_of_function : ℕ → CFun → List NamedCall
calls_of_function unit one = if one.unit == unit then calls_in_stmt one.body else []

abbrev pub calls_of_object : ℕ → CObject → List NamedCall
calls_of_object unit one = if one.unit == unit then calls_in_contents one.puts else []

-- the calls by name of a unit
abbrev pub calls_of : CProgram → ℕ → List NamedCall
calls_of program unit = flat_map (calls_of_object unit) program.objects ++ flat_map (calls_of_function unit) program.functions

-- a unit calls a function by name
abbrev pub is_called : List NamedCall → ℕ → Bool
is_called calls number = list_any (λ (one : NamedCall). one.callee == number) calls

abbrev pub is_called_with : List NamedCall → ℕ → Bool
is_called_with calls number = list_any (λ (one : NamedCall). one.callee == number && not one.is_bare) calls

abbrev pub is_called_bare : List NamedCall → ℕ → Bool
is_called_bare calls number = list_any (λ (one : NamedCall). one.callee == number && one.is_bare) calls

abbrev pub has_params : CTyForm → Bool
has_params (function result (listed (more_types first others)) variadic) = true
has_params _ = false

-- A unit that sees an external function without a list of parameters may call it without arguments where another list says otherwise (6.5.2.2p6); then an item without parameters stands for
-- it beside the one with them.
abbrev pub is_bare_too : List NamedCall → COuter → Bool
is_bare_too calls one = has_params (form_of_type one.type) && is_called_bare calls one.function

abbrev pub bare_functions : CProgram → ℕ → List NameKey
bare_functions program unit = map (λ (one : COuter). a_bare_function one.function) (filter (is_bare_too (calls_of program unit)) program.externals)

-- In a program with a bit-field member `calloc` is called in the place of `malloc`. A unit that calls an external `malloc` declares it, where it doesn't have the program's external
-- `calloc` among its things.
abbrev pub is_outer_named : List ℕ → COuter → Bool
is_outer_named name one = bytes_eq one.name name

abbrev pub is_key_outer : CProgram → List ℕ → NameKey → Bool
is_key_outer program name (a_function number) = list_any (λ (one : COuter). one.function == number && is_outer_named name one) program.externals
is_key_outer program name _ = false

abbrev pub calls_malloc : CProgram → ℕ → Bool
calls_malloc program unit = list_any (λ (one : COuter). is_outer_named (codes "malloc") one && is_called (calls_of program unit) one.function) program.externals

abbrev pub needs_calloc : CProgram → ℕ → Bool
needs_calloc program unit =
    has_bit_fields program.types && calls_malloc program unit && not (list_any (is_key_outer program (codes "calloc")) (things_of program unit))

-- ---- all of them

abbrev pub entries_of : CProgram → ℕ → List NameKey
entries_of program unit = map (λ (one : CFun). a_function one.function) (filter (λ (one : CFun). one.unit == unit && is_entry one) program.functions)

-- in order, without `main`
abbrev pub module_keys : CProgram → ℕ → List NameKey
module_keys program unit =
    things_of program unit ++ (records_of program unit ++ (objects_that (is_block_static unit) program ++ (objects_that (is_text_of unit) program
    ++ (objects_that (is_static_literal unit) program ++ ((if needs_calloc program unit then a_calloc ∷ [] else []) ++ bare_functions program unit)))))
