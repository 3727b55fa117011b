-- The names with which expressions are written, by what is kept of the things of a program.
use Rattle.std.specs.Prelude.{ℕ, List, [], Option, Some, None, option_map}
use Rattle.lift_exprs.specs.Names as spec
use Rattle.lift_exprs.specs.Names.{KeptFunction}
use Rattle.lift_forms.specs.Places.{Kept}
use Rattle.rs_items.specs.Known.{KnownThing, Names}
use Rattle.rs_items.specs.Records.{size_of}
use Rattle.rs_items.specs.Types.{type_names}
use Rattle.rs_items.specs.declared.known.Named.TheVariants.{Object, Function, BareFunction, Temporary}
use Rattle.rs_text.specs.Tree.{Place, Local, Static}

abbrev pub name_or_none : Option (List ℕ) → List ℕ
name_or_none None = []
name_or_none (Some name) = name

-- a local by its name, a static object by the path of its item
abbrev pub place_by : Option (List ℕ) → List ℕ → Place
place_by None name = Local name
place_by (Some m) name = Static m name

abbrev pub kept_object : KnownThing → Kept
kept_object one = record { place = place_by one.module_name one.name; ty = one.ty }

abbrev pub kept_function : KnownThing → KeptFunction
kept_function one = record { home = name_or_none one.module_name; name = one.name; ty = one.ty; symbol = one.symbol }

abbrev pub thing_name : KnownThing → List ℕ
thing_name one = one.name

abbrev pub lift_names : Names → spec.Names
lift_names names = record {
  objects = λ number. option_map kept_object (names.known (Object number));
  functions = λ number. option_map kept_function (names.known (Function number));
  bare_functions = λ number. option_map kept_function (names.known (BareFunction number));
  fields = names.fields;
  types = type_names names.known;
  size_of = size_of names.known;
  temporary = λ number. name_or_none (option_map thing_name (names.known (Temporary number)));
  has_bits = names.has_bits;
}
