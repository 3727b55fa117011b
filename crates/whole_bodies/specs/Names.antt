-- What the names are with which the body of a function is written (ISO C99, 6.2.1, 6.9.1).
use Rattle.std.specs.Prelude.{ℕ, suc, ◌+◌, ◌==◌, false, if◌then◌else◌, List, [], ◌∷◌, ◌++◌, length, map, Option, Some, None, slice_get, option_map}
use Rattle.std.specs.Option.{option_flatten}
use Rattle.build_flow_nodes.specs.Parts.{BodyNames, temporaries_in_stmt, zeroed_in}
use Rattle.cx_core.specs.BitFields.{has_bit_fields}
use Rattle.cx_core.specs.Layouts.{CRow, row_at, layouts_of}
use Rattle.cx_core.specs.Trees.{CTy, ty, void, form_of_type, CRecord, CObject, CFun}
use Rattle.cx_core.specs.Typing.{object_with}
use Rattle.lift_exprs.specs.Names.{KeptFunction, Names, type_in}
use Rattle.lift_forms.specs.Places.{Kept}
use Rattle.rs_items.specs.Known.{KnownThing, MemberField}
use Rattle.rs_items.specs.Records.{fields_walk, size_of}
use Rattle.rs_items.specs.declared.known.Named.TheVariants.{Object, Function, BareFunction}
use Rattle.rs_text.specs.Tree.{Ty, Place, Local, Static}
use Rattle.whole_items.specs.Items.{result_of_form}
use Rattle.whole_names.specs.FunctionNames.{LocalName, a_result, a_temporary, local_names}
use Rattle.whole_names.specs.Kept.{NamedProgram, LocalNames, known_thing, no_locals, local_among, record_unit, types_of}
use Rattle.whole_names.specs.ModuleNames.{name_or}

-- ---- things

abbrev pub place_of : Option (List ℕ) → List ℕ → Place
place_of None name = Local name
place_of (Some m) name = Static m name

abbrev pub kept_object : KnownThing → Kept
kept_object one = record { place = place_of one.module_name one.name; ty = one.ty }

abbrev pub kept_function : KnownThing → KeptFunction
kept_function one = record { home = name_or [] one.module_name; name = one.name; ty = one.ty; symbol = one.symbol }

-- ---- members

abbrev pub fields_with_row : NamedProgram → (number : ℕ) → CRecord → Option CRow → Option (List MemberField)
fields_with_row program number one None = None
fields_with_row program number one (Some row) =
    Some (fields_walk (known_thing program (record_unit program number) no_locals) one row.spots).members

abbrev pub fields_of_record : NamedProgram → (number : ℕ) → Option CRecord → Option (List MemberField)
fields_of_record program number None = None
fields_of_record program number (Some one) = fields_with_row program number one (row_at (layouts_of program.program.types) number)

-- the fields of a structure or union, in its own module
abbrev pub fields_in : NamedProgram → ℕ → Option (List MemberField)
fields_in program number = fields_of_record program number (option_flatten (slice_get program.program.types.records number))

-- ---- the names

-- those with which expressions are written in the module of a unit, in a function with these names
abbrev pub names_in : NamedProgram → (unit : ℕ) → LocalNames → Names
names_in program unit own = record {
  objects = λ number. option_map kept_object (known_thing program unit own (Object number));
  functions = λ number. option_map kept_function (known_thing program unit own (Function number));
  bare_functions = λ number. option_map kept_function (known_thing program unit own (BareFunction number));
  fields = fields_in program;
  types = types_of program;
  -- a structure or union has the size that is kept of it
  size_of = size_of (known_thing program unit no_locals);
  temporary = λ number. name_or [] (local_among (a_temporary number) own.names);
  has_bits = has_bit_fields program.program.types;
}

-- outside of functions: there are no temporaries
abbrev pub module_names_in : NamedProgram → ℕ → Names
module_names_in program unit = names_in program unit no_locals

abbrev pub void_type : CTy
void_type = ty void false

abbrev pub type_of_found : Option CObject → CTy
type_of_found None = void_type
type_of_found (Some one) = one.type

abbrev pub object_type : NamedProgram → ℕ → CTy
object_type program number = type_of_found (object_with number program.program.objects)

-- the types of temporaries don't depend on names of locals: those of held operands in the order of the text, and then those from which zero bytes are copied
abbrev pub zeroed_objects : NamedProgram → CFun → List ℕ
zeroed_objects program fun = zeroed_in (module_names_in program fun.unit) (object_type program) fun.body

abbrev pub held_in_body : NamedProgram → CFun → List Ty
held_in_body program fun = temporaries_in_stmt (module_names_in program fun.unit) fun.body

abbrev pub temporaries_of : NamedProgram → CFun → List Ty
temporaries_of program fun =
    held_in_body program fun ++ map (λ number. type_in (module_names_in program fun.unit) (object_type program number)) (zeroed_objects program fun)

-- the first place of a number in a list
abbrev pub index_in : ℕ → List ℕ → ℕ
index_in number [] = 0
index_in number (one ∷ others) = if number == one then 0 else suc (index_in number others)

abbrev pub own_names : NamedProgram → CFun → List LocalName
own_names program fun = local_names program.program fun (length (temporaries_of program fun))

abbrev pub result_or_void : Option CTy → CTy
result_or_void None = void_type
result_or_void (Some result) = result

abbrev pub result_type : CFun → CTy
result_type fun = result_or_void (result_of_form (form_of_type fun.type))

abbrev pub locals_of : NamedProgram → CFun → LocalNames
locals_of program fun = record { names = own_names program fun; temporaries = temporaries_of program fun; result = None }

-- the temporary from which zero bytes are copied to an object
abbrev pub zero_name : NamedProgram → CFun → List LocalName → ℕ → List ℕ
zero_name program fun names number =
    name_or [] (local_among (a_temporary (length (held_in_body program fun) + index_in number (zeroed_objects program fun))) names)

abbrev pub body_names : NamedProgram → CFun → BodyNames
body_names program fun = record {
  names = names_in program fun.unit (locals_of program fun);
  type_of_object = object_type program;
  zeros = zero_name program fun (own_names program fun);
  result_type = result_type fun;
  result = name_or [] (local_among a_result (own_names program fun));
}
