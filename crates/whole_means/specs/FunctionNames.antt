-- What the names of a function of the crate are: its locals, and the static objects that its text may name (ISO C99, 6.2.1, 6.2.4 and 6.9.1).
use Rattle.std.specs.Prelude.{ℕ, ◌+◌, ◌==◌, if◌then◌else◌, List, length, Option, None, Some, is_some, slice_get}
use Rattle.std.specs.List.{list_any}
use Rattle.cx_core.specs.Trees.{CFun, CObject}
use Rattle.cx_core.specs.Typing.{object_with}
use Rattle.lift_calls.specs.Frames.{FunctionNames, KeptTemporary}
use Rattle.lift_exprs.specs.Names.{type_in}
use Rattle.lift_forms.specs.Places.{Kept}
use Rattle.rs_items.specs.Types.{rust_type}
use Rattle.rs_items_sets.specs.LawsNames.{AreFewWith}
use Rattle.rs_text.specs.Tree.{Ty, Local}
use Rattle.whole_bodies.specs.Names.{held_in_body, index_in, kept_object, module_names_in, object_type, own_names, temporaries_of, zeroed_objects}
use Rattle.whole_names.specs.FunctionNames.{a_local, a_result, a_temporary}
use Rattle.whole_names.specs.Kept.{NamedProgram, local_among, object_item, types_of}
use Rattle.whole_names.specs.Laws.{wanted_of_function}
use Rattle.whole_names.specs.ModuleNames.{taken_names}

-- an object: a local, or a static object; another function's objects have no home here
abbrev pub kept_by : NamedProgram → CObject → Option (List ℕ) → Option Kept
kept_by whole one (Some name) = Some (record { place = Local name; ty = rust_type (types_of whole) one.type })
kept_by whole one None = if is_some one.puts then Some (kept_object (object_item whole one)) else None

abbrev pub kept_found : NamedProgram → CFun → Option CObject → Option Kept
kept_found whole fun None = None
kept_found whole fun (Some one) = kept_by whole one (local_among (a_local one.object) (own_names whole fun))

abbrev pub kept_temporary : Option (List ℕ) → Option Ty → Option KeptTemporary
kept_temporary (Some name) (Some ty) = Some (record { name = name; ty = ty })
kept_temporary None ty = None
kept_temporary (Some name) None = None

-- the number of the temporary of zero bytes for an object, where there is one
abbrev pub zero_number : NamedProgram → CFun → ℕ → ℕ
zero_number whole fun number = length (held_in_body whole fun) + index_in number (zeroed_objects whole fun)

abbrev pub kept_zero : NamedProgram → CFun → ℕ → Option (List ℕ) → Option KeptTemporary
kept_zero whole fun number None = None
kept_zero whole fun number (Some name) =
    if list_any (λ other. other == number) (zeroed_objects whole fun) then
    Some (record { name = name; ty = type_in (module_names_in whole fun.unit) (object_type whole number) })
    else None

-- temporaries of held operands, and those of zero bytes behind them
abbrev pub kept_names : NamedProgram → CFun → FunctionNames
kept_names whole fun = record {
  objects = λ number. kept_found whole fun (object_with number whole.program.objects);
  types = types_of whole;
  temporaries = λ number. kept_temporary (local_among (a_temporary number) (own_names whole fun)) (slice_get (held_in_body whole fun) number);
  result = local_among a_result (own_names whole fun);
  zeros = λ number. kept_zero whole fun number (local_among (a_temporary (zero_number whole fun number)) (own_names whole fun));
}

-- a function has no more names than a 64-bit number can tell
abbrev pub HasFewNames : NamedProgram → CFun → Type 0
HasFewNames whole fun = AreFewWith (taken_names whole.program fun.unit) (wanted_of_function whole.program fun (length (temporaries_of whole fun)))
