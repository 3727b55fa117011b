-- What is kept, as the names with which expressions are written.
use Rattle.std.proofs.Common.{◌≡◌, ◌<◌, ◌≤◌, ℕ, ◌⊎◌, inl, inr, get_or, Bool, true, false, List, [], length, Option, Some, None, option_map, slice_get, refl, sym, ap, ◌∙◌}
use Rattle.std.proofs.Math.Path.{fun_ext}
use Rattle.std.proofs.lemmas.Bool.{cases_lt}
use Rattle.std.proofs.lemmas.Option.{slice_get-get_or}
use Rattle.cx_core.specs.BitFields.{has_bit_fields}
use Rattle.cx_core.specs.Trees.{CTy, ty, void, basic, enum_type, pointer, array, record_type, function}
use Rattle.lift_exprs.specs.Names as lifted
use Rattle.lift_exprs.specs.Names.{KeptFunction}
use Rattle.lift_forms.specs.Places.{Kept}
use Rattle.lift_stores.specs.Names as stores
use Rattle.lift_stores.specs.Names.{lift_names, name_or_none, thing_name}
use Rattle.rs_items.specs.Known.{KnownThing, Knows, MemberField, Names}
use Rattle.rs_items.specs.Records.{elements_size, kept_size, size_of}
use Rattle.rs_items.specs.Types.{TypeNames, enum_integer, record_path as path_of}
use Rattle.rs_items.specs.declared.known.Named.TheVariants.{Object, Function, BareFunction, Record, Enum, Temporary}
use Rattle.rs_text.specs.Tree.{Ty, Void, Place}
use Rattle.rs_text.specs.declared.integer.IntegerTy.{IntegerTy}
use Rattle.rs_tree.specs.declared.ty.RPath.{RPath}
use Rattle.whole_bodies.specs.Names as bodies
use Rattle.whole_bodies.specs.Names.{fields_in, names_in}
use Rattle.whole_known.specs.Modules.{KnowsAll}
use Rattle.whole_lifted_names.specs.Laws.{HasFewTemporaries}
use Rattle.whole_names.specs.FunctionNames.{a_temporary}
use Rattle.whole_names.specs.Kept as kept
use Rattle.whole_names.specs.Kept.{LocalNames, NamedProgram, enum_thing, known_thing, local_among, no_locals, record_path, record_thing, temporary_thing, types_of}
use Rattle.whole_names.specs.ModuleNames.{name_or}

-- ---- things

place_alike : (home : Option (List ℕ)) (name : List ℕ) → stores.place_by home name ≡ bodies.place_of home name
place_alike None name = refl
place_alike (Some m) name = refl

home_alike : (home : Option (List ℕ)) → name_or_none home ≡ name_or [] home
home_alike None = refl
home_alike (Some m) = refl

abbrev placed : Ty → Place → Kept
placed type place = record { place = place; ty = type }

abbrev homed : KnownThing → List ℕ → KeptFunction
homed one home = record { home = home; name = one.name; ty = one.ty; symbol = one.symbol }

object_alike : (found : Option KnownThing) → option_map stores.kept_object found ≡ option_map bodies.kept_object found
object_alike None = refl
object_alike (Some one) = ap (λ (place : Place). Some (placed one.ty place)) (place_alike one.module_name one.name)

function_alike : (found : Option KnownThing) → option_map stores.kept_function found ≡ option_map bodies.kept_function found
function_alike None = refl
function_alike (Some one) = ap (λ (home : List ℕ). Some (homed one home)) (home_alike one.module_name)

-- ---- types

path_is : (whole : NamedProgram) (number : ℕ) (path : Option RPath) → path_of (record_thing whole number path) ≡ path
path_is whole number None = refl
path_is whole number (Some path) = refl

enum_is : (whole : NamedProgram) (unit number : ℕ) (is_int : Option Bool) → enum_integer (enum_thing whole unit number is_int) ≡ kept.enum_type is_int
enum_is whole unit number None = refl
enum_is whole unit number (Some true) = refl
enum_is whole unit number (Some false) = refl

abbrev types_by : (ℕ → Option RPath) → (ℕ → IntegerTy) → TypeNames
types_by records enums = record { records = records; enums = enums }

-- ---- sizes

sizes_in : (one other : Knows) → ((number : ℕ) → one (Record number) ≡ other (Record number)) → (type : CTy) → size_of one type ≡ size_of other type
sizes_in one other same (ty void is_const) = refl
sizes_in one other same (ty (basic which) is_const) = refl
sizes_in one other same (ty (enum_type number) is_const) = refl
sizes_in one other same (ty (pointer to) is_const) = refl
sizes_in one other same (ty (array element count) is_const) = ap (λ (size : ℕ). elements_size count size) (sizes_in one other same element)
sizes_in one other same (ty (record_type number) is_const) = ap kept_size (same number)
sizes_in one other same (ty (function result params variadic) is_const) = refl

-- ---- temporaries

temporary_by : (unit number : ℕ) (held : Option (List ℕ)) (type : Option Ty) → (type ≡ None → held ≡ None) → name_or_none (option_map thing_name (temporary_thing unit number held type)) ≡ name_or [] held
temporary_by unit number None None few = refl
temporary_by unit number None (Some type) few = refl
temporary_by unit number (Some name) (Some type) few = refl
temporary_by unit number (Some name) None few = let none : Some name ≡ None = few refl in cc

module _ (whole : NamedProgram) (unit : ℕ) (own : LocalNames) (names : Names) (knows : KnowsAll whole unit own names) (few : HasFewTemporaries own) where
  untyped : (number : ℕ) → (number < length own.temporaries) ⊎ (length own.temporaries ≤ number) → slice_get own.temporaries number ≡ None → local_among (a_temporary number) own.names ≡ None
  untyped number (inl low) none =
      let there = slice_get-get_or own.temporaries number Void low in
      let contradiction : None ≡ Some (get_or own.temporaries number Void) = sym none ∙ there in
      cc
  untyped number (inr far) none = few number far

  abbrev all_by : (objects : ℕ → Option Kept) → (functions bare : ℕ → Option KeptFunction) → (fields : ℕ → Option (List MemberField)) → TypeNames → (sizes : CTy → ℕ) → (temporary : ℕ → List ℕ) → Bool → lifted.Names
  all_by objects functions bare fields types sizes temporary bits =
      record { objects = objects; functions = functions; bare_functions = bare; fields = fields; types = types; size_of = sizes; temporary = temporary; has_bits = bits }

  pub lifted_is : ((number : ℕ) → names.fields number ≡ fields_in whole number) → names.has_bits ≡ has_bit_fields whole.program.types → lift_names names ≡ names_in whole unit own
  lifted_is fields bits =
      let to = names_in whole unit own in
      let from = lift_names names in
      ap (λ (o : ℕ → Option Kept). all_by o from.functions from.bare_functions from.fields from.types from.size_of from.temporary from.has_bits)
      (fun_ext (λ number. ap (option_map stores.kept_object) (knows (Object number) refl) ∙ object_alike (known_thing whole unit own (Object number))))
      ∙ ap (λ (f : ℕ → Option KeptFunction). all_by to.objects f from.bare_functions from.fields from.types from.size_of from.temporary from.has_bits)
      (fun_ext (λ number. ap (option_map stores.kept_function) (knows (Function number) refl) ∙ function_alike (known_thing whole unit own (Function number))))
      ∙ ap (λ (f : ℕ → Option KeptFunction). all_by to.objects to.functions f from.fields from.types from.size_of from.temporary from.has_bits)
      (fun_ext (λ number. ap (option_map stores.kept_function) (knows (BareFunction number) refl) ∙ function_alike (known_thing whole unit own (BareFunction number))))
      ∙ ap (λ (f : ℕ → Option (List MemberField)). all_by to.objects to.functions to.bare_functions f from.types from.size_of from.temporary from.has_bits) (fun_ext fields)
      ∙ ap (λ (records : ℕ → Option RPath). all_by to.objects to.functions to.bare_functions to.fields (types_by records from.types.enums) from.size_of from.temporary from.has_bits)
      (fun_ext (λ number. ap path_of (knows (Record number) refl) ∙ path_is whole number (record_path whole number)))
      ∙ ap (λ (enums : ℕ → IntegerTy). all_by to.objects to.functions to.bare_functions to.fields (types_by (record_path whole) enums) from.size_of from.temporary from.has_bits)
      (fun_ext (λ number. ap enum_integer (knows (Enum number) refl) ∙ enum_is whole unit number (slice_get whole.program.types.enums number)))
      ∙ ap (λ (sizes : CTy → ℕ). all_by to.objects to.functions to.bare_functions to.fields to.types sizes from.temporary from.has_bits)
      (fun_ext (sizes_in names.known (known_thing whole unit no_locals) (λ number. knows (Record number) refl)))
      ∙ ap (λ (temporary : ℕ → List ℕ). all_by to.objects to.functions to.bare_functions to.fields to.types to.size_of temporary from.has_bits)
      (fun_ext (λ number. ap (λ (found : Option KnownThing). name_or_none (option_map thing_name found)) (knows (Temporary number) refl)
      ∙ temporary_by unit number (local_among (a_temporary number) own.names) (slice_get own.temporaries number) (untyped number (cases_lt number (length own.temporaries)))))
      ∙ ap (λ (has : Bool). all_by to.objects to.functions to.bare_functions to.fields to.types to.size_of to.temporary has) bits
