-- The items of the modules of a written crate (ISO C99, 6.2.2, 6.2.4, 6.9; the Rust Reference, "Items" and "Application binary interface"): the records that a unit completes, its static objects, string literals and
-- static compound literals, the external functions that it calls, its functions, and last its initialiser.
use Rattle.std.specs.Prelude.{ℕ, zero, suc, pos, ◌==◌, ◌&&◌, ◌||◌, not, Bool, true, false, if◌then◌else◌, ℤ, List, [], ◌∷◌, ◌++◌, map, filter, flat_map, Option, Some, None, is_some, bytes_eq, codes, slice_get, option_map}
use Rattle.std.specs.List.{list_any}
use Rattle.std.specs.Option.{option_flatten}
use Rattle.cr_base.specs.Scalar.{converted}
use Rattle.cr_base.specs.declared.scalar.Scalar.TheVariants.{Whole}
use Rattle.cx_core.specs.BitFields.{has_bit_fields}
use Rattle.cx_core.specs.Layouts.{CRow, layouts_of, row_at}
use Rattle.cx_core.specs.Trees.{CTy, CTyForm, void, basic, enum_type, pointer, array, record_type, function, form_of_type, CParams, unlisted, listed, CExpr, expr, CForm, whole, CPut, put, CPuts, no_puts, more_puts, CRecord, CObject, CFun, COuter, CProgram}
use Rattle.cx_core.specs.Typing.{function_with, outer_with, object_with}
use Rattle.cx_core.specs.declared.program.Linkage.{Linkage}
use Rattle.cx_core.specs.declared.program.Linkage.TheVariants.{External, Internal, Nothing}
use Rattle.rs_items.specs.Records.{record_tree}
use Rattle.rs_items.specs.Types.{rust_type, rust_params}
use Rattle.rs_text.specs.Names.{bare_name}
use Rattle.rs_text.specs.Tree.{Ty, Integer, Void, Pointer, Tys, no_tys, more_tys, Stmts, RecordTree, StaticTree, OuterTree, LocalTree, FunctionTree, ItemTree, RecordItem, StaticItem, ExternItem, FunctionItem, ModuleTree, CrateTree}
use Rattle.rs_text.specs.declared.attribute.Attribute.{Attribute}
use Rattle.rs_text.specs.declared.attribute.Attribute.TheVariants.{Mangled, NoMangle, ExportName}
use Rattle.rs_text.specs.declared.integer.IntegerTy.TheVariants.{U32, U64}
use Rattle.whole_names.specs.Calls.{NamedCall}
use Rattle.whole_names.specs.FunctionNames.{LocalKey, a_result, a_passed, a_local, a_temporary, LocalName, local_names, gives_record, object_is_record}
use Rattle.whole_names.specs.Keys.{NameKey, a_function, an_object, a_record, a_calloc, a_bare_function, module_keys, order_of, calls_of, is_called, is_called_with, has_params, is_outer_named, calls_malloc, is_entry}
use Rattle.whole_names.specs.Kept.{NamedProgram, LocalNames, no_locals, module_of, name_in, types_of, known_thing, local_among}
use Rattle.whole_names.specs.ModuleNames.{name_or}

-- ---- symbols

-- A function or object with external linkage has its name in C as its symbol, and others have none of their own.
abbrev pub attribute_of : Linkage → (symbol name : List ℕ) → Attribute
attribute_of External symbol name = if bytes_eq (bare_name name) symbol then NoMangle else ExportName symbol
attribute_of Internal symbol name = Mangled
attribute_of Nothing symbol name = Mangled

-- the symbol of an external function, where its name is another
abbrev pub link_name_of : (symbol name : List ℕ) → Option (List ℕ)
link_name_of symbol name = if bytes_eq (bare_name name) symbol then None else Some symbol

-- ---- records

abbrev pub record_with_row : NamedProgram → ℕ → (unit : ℕ) → CRecord → Option CRow → List ItemTree
record_with_row program number unit one None = []
record_with_row program number unit one (Some row) = RecordItem (record_tree (known_thing program unit no_locals) one row.spots row.laid.align) ∷ []

abbrev pub record_items_of : NamedProgram → (unit number : ℕ) → Option CRecord → List ItemTree
record_items_of program unit number None = []
record_items_of program unit number (Some one) = record_with_row program number unit one (row_at (layouts_of program.program.types) number)

-- in the order in which the unit completes them, so that each stands behind those that it holds
abbrev pub record_items : NamedProgram → ℕ → List ItemTree
record_items program unit =
    flat_map (λ number. record_items_of program unit number (option_flatten (slice_get program.program.types.records number))) (order_of program.program unit).completed

-- ---- static objects

abbrev pub literal_value : CForm → ℤ
literal_value (whole value) = converted (Whole 8 true) value
literal_value _ = converted (Whole 8 true) (pos 0)

abbrev pub stored_value : CExpr → ℤ
stored_value (expr type place form) = literal_value form

abbrev pub put_value : CPut → ℤ
put_value (put spot type value) = stored_value value

-- the elements of a string literal's array (6.4.5p5)
abbrev pub text_values : CPuts → List ℤ
text_values no_puts = []
text_values (more_puts first others) = put_value first ∷ text_values others

abbrev pub values_of : Bool → CPuts → Option (List ℤ)
values_of true puts = Some (text_values puts)
values_of false puts = None

abbrev pub static_with : NamedProgram → CObject → Option CPuts → List ItemTree
static_with program one None = []
static_with program one (Some puts) =
    let name = name_in program one.unit (an_object one.object) in
    StaticItem (record {
      attribute = attribute_of one.linkage (name_or [] one.name) name;
      name = name;
      ty = rust_type (types_of program) one.type;
      values = values_of one.is_text puts;
    }) ∷ []

abbrev pub static_of : NamedProgram → (unit : ℕ) → CObject → List ItemTree
static_of program unit one = if one.unit == unit then static_with program one one.puts else []

-- in the program's order
abbrev pub static_items : NamedProgram → ℕ → List ItemTree
static_items program unit = flat_map (static_of program unit) program.program.objects

-- ---- external functions

abbrev pub tys_in : Tys → List Ty
tys_in no_tys = []
tys_in (more_tys first others) = first ∷ tys_in others

abbrev pub value_type : Ty → Option Ty
value_type Void = None
value_type ty = Some ty

-- an external function of this type
abbrev pub outer_of_form : NamedProgram → (symbol name : List ℕ) → CTyForm → List OuterTree
outer_of_form program symbol name (function result params variadic) = record {
  link_name = link_name_of symbol name;
  name = name;
  params = tys_in (rust_params (types_of program) params);
  variadic = variadic;
  result = value_type (rust_type (types_of program) result);
} ∷ []
outer_of_form program symbol name _ = []

-- the same without parameters
abbrev pub without_params : OuterTree → OuterTree
without_params one = record one { params = []; variadic = false }

-- `calloc`, as the C library has it (7.20.3.1)
abbrev pub calloc_outer : List ℕ → OuterTree
calloc_outer name = record {
  link_name = link_name_of (codes "calloc") name;
  name = name;
  params = Integer U64 ∷ Integer U64 ∷ [];
  variadic = false;
  result = Some (Pointer Void);
}

-- a unit calls a function with the arguments that its type lists, or with none where it lists none
abbrev pub is_called_so : List NamedCall → COuter → Bool
is_called_so calls one = if has_params (form_of_type one.type) then is_called_with calls one.function else is_called calls one.function

-- the program's own external `calloc` is declared, too, where it stands for `malloc`
abbrev pub stands_for_malloc : NamedProgram → (unit : ℕ) → COuter → Bool
stands_for_malloc program unit one = has_bit_fields program.program.types && calls_malloc program.program unit && is_outer_named (codes "calloc") one

abbrev pub is_declared : NamedProgram → (unit : ℕ) → COuter → Bool
is_declared program unit one = is_called_so (calls_of program.program unit) one || stands_for_malloc program unit one

abbrev pub outer_of : NamedProgram → (unit : ℕ) → NameKey → Option COuter → List OuterTree
outer_of program unit key None = []
outer_of program unit key (Some one) = outer_of_form program one.name (name_in program unit key) (form_of_type one.type)

abbrev pub outer_if : NamedProgram → (unit : ℕ) → NameKey → Option COuter → List OuterTree
outer_if program unit key None = []
outer_if program unit key (Some one) = if is_declared program unit one then outer_of program unit key (Some one) else []

-- what a key declares in the block of external functions
abbrev pub outers_of_key : NamedProgram → (unit : ℕ) → NameKey → List OuterTree
outers_of_key program unit (a_function number) = outer_if program unit (a_function number) (outer_with number program.program.externals)
outers_of_key program unit (an_object number) = []
outers_of_key program unit (a_record number) = []
outers_of_key program unit a_calloc = calloc_outer (name_in program unit a_calloc) ∷ []
outers_of_key program unit (a_bare_function number) = map without_params (outer_of program unit (a_bare_function number) (outer_with number program.program.externals))

abbrev pub outers_of : NamedProgram → ℕ → List OuterTree
outers_of program unit = flat_map (outers_of_key program unit) (module_keys program.program unit)

-- no block where nothing stands in it
abbrev pub extern_items : List OuterTree → List ItemTree
extern_items [] = []
extern_items (one ∷ others) = ExternItem (one ∷ others) ∷ []

-- ---- functions

-- what a body gives to its function: the types of its temporaries, whether it says where it goes on by a number, and its statements
pub record WrittenBody : Type 0 where
  pub temporaries : List Ty
  pub has_dispatch : Bool
  pub statements : Stmts

abbrev pub result_of_form : CTyForm → Option CTy
result_of_form (function result params variadic) = Some result
result_of_form _ = None

abbrev pub written_result : NamedProgram → Bool → Option CTy → Option Ty
written_result program gives_one None = None
written_result program true (Some result) = None
written_result program false (Some result) = value_type (rust_type (types_of program) result)

abbrev pub count_of : {A : Type 0} → List A → ℕ
count_of [] = zero
count_of (one ∷ others) = suc (count_of others)

abbrev pub names_of_body : NamedProgram → CFun → WrittenBody → List LocalName
names_of_body program fun body = local_names program.program fun (count_of body.temporaries)

abbrev pub type_of_object : NamedProgram → Option CObject → Ty
type_of_object program None = Void
type_of_object program (Some one) = rust_type (types_of program) one.type

abbrev pub is_param : List ℕ → ℕ → Bool
is_param params number = list_any (λ other. other == number) params

abbrev pub named : List ℕ → Ty → List LocalTree
named name ty = record { name = name; ty = ty } ∷ []

abbrev pub result_param : NamedProgram → List ℕ → Option CTy → List LocalTree
result_param program name None = []
result_param program name (Some result) = named name (Pointer (rust_type (types_of program) result))

-- an object is a parameter of the crate's function, too: it isn't a structure or union, which is passed by a pointer
abbrev pub is_plain_param : NamedProgram → CFun → ℕ → Bool
is_plain_param program fun number = is_param fun.params number && not (object_is_record (object_with number program.program.objects))

abbrev pub object_local : NamedProgram → List ℕ → ℕ → List LocalTree
object_local program name number = named name (type_of_object program (object_with number program.program.objects))

-- the parameter that a key is: the place of the result, the pointer to a structure or union that is passed, or a parameter with a scalar type
abbrev pub param_by : NamedProgram → CFun → List ℕ → LocalKey → List LocalTree
param_by program fun name a_result = result_param program name (result_of_form (form_of_type fun.type))
param_by program fun name (a_passed number) = named name (Pointer (type_of_object program (object_with number program.program.objects)))
param_by program fun name (a_local number) = if is_plain_param program fun number then object_local program name number else []
param_by program fun name (a_temporary number) = []

abbrev pub param_of : NamedProgram → CFun → LocalName → List LocalTree
param_of program fun one = param_by program fun one.name one.key

abbrev pub temporary_named : List ℕ → Option Ty → List LocalTree
temporary_named name None = []
temporary_named name (Some ty) = named name ty

-- the local that a key is
abbrev pub local_by : NamedProgram → CFun → WrittenBody → List ℕ → LocalKey → List LocalTree
local_by program fun body name a_result = []
local_by program fun body name (a_passed number) = []
local_by program fun body name (a_local number) = if is_plain_param program fun number then [] else object_local program name number
local_by program fun body name (a_temporary number) = temporary_named name (slice_get body.temporaries number)

abbrev pub local_of : NamedProgram → CFun → WrittenBody → LocalName → List LocalTree
local_of program fun body one = local_by program fun body one.name one.key

-- where the function goes on, by a number
abbrev pub dispatch_local : Bool → List LocalTree
dispatch_local true = record { name = codes "current_block"; ty = Integer U32 } ∷ []
dispatch_local false = []

-- `main` aside
abbrev pub function_attribute : CFun → List ℕ → Attribute
function_attribute fun name = if is_entry fun then Mangled else attribute_of fun.linkage fun.name name

abbrev pub function_tree : NamedProgram → CFun → WrittenBody → FunctionTree
function_tree program fun body =
    let name = name_in program fun.unit (a_function fun.function) in
    let names = names_of_body program fun body in
    record {
      attribute = function_attribute fun name;
      name = name;
      params = flat_map (param_of program fun) names;
      result = written_result program (gives_record (form_of_type fun.type)) (result_of_form (form_of_type fun.type));
      locals = flat_map (local_of program fun body) names ++ dispatch_local body.has_dispatch;
      body = body.statements;
    }

-- the initialiser of a module stores what its static objects begin with beyond zeros and texts
abbrev pub initialiser_tree : Stmts → FunctionTree
initialiser_tree statements = record {
  attribute = Mangled;
  name = codes "run_static_initializers";
  params = [];
  result = None;
  locals = [];
  body = statements;
}

-- ---- modules

-- the bodies of a program's functions, and what its initialisers do
pub record WrittenBodies : Type 0 where
  pub of_function : CFun → WrittenBody
  pub initialiser : (unit : ℕ) → Stmts

abbrev pub function_of_unit : NamedProgram → WrittenBodies → (unit : ℕ) → CFun → List ItemTree
function_of_unit program bodies unit fun = if fun.unit == unit then FunctionItem (function_tree program fun (bodies.of_function fun)) ∷ [] else []

abbrev pub function_items : NamedProgram → WrittenBodies → ℕ → List ItemTree
function_items program bodies unit = flat_map (function_of_unit program bodies unit) program.program.functions

abbrev pub module_tree : NamedProgram → WrittenBodies → ℕ → ModuleTree
module_tree program bodies unit = record {
  name = module_of program unit;
  items = record_items program unit ++ (static_items program unit ++ (extern_items (outers_of program unit) ++ (function_items program bodies unit
      ++ FunctionItem (initialiser_tree (bodies.initialiser unit)) ∷ [])));
}
