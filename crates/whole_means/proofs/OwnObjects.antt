-- Each object of a function's blocks has a local of its type (ISO C99, 6.2.4p5).
use Rattle.std.proofs.Common.{arith, length-append, map, ◌+◌, ◌==◌, ◌≡◌, ℕ, ◌&&◌, Bool, true, false, List, [], ◌++◌, codes, filter, if◌then◌else◌, ◌∷◌, length, Option, Some, None, is_some, is_none, refl, ap, ◌∙◌}
use Rattle.std.proofs.lemmas.Option.{slice_get_within}
use Rattle.std.specs.List.{list_any}
use Rattle.cx_core.specs.Trees.{CObject, CFun, CProgram, form_of_type}
use Rattle.lift_calls.specs.Frames.{KeptTemporary}
use Rattle.lift_exprs.specs.Names.{type_in}
use Rattle.rs_items.specs.Types.{rust_type}
use Rattle.rs_text.specs.Tree.{Local, Ty}
use Rattle.whole_bodies.specs.Names.{held_in_body, index_in, locals_of, module_names_in, names_in, object_type, own_names, temporaries_of, zero_name, zeroed_objects}
use Rattle.whole_means.proofs.Entries.{index_at}
use Rattle.whole_means.proofs.Lists.{Among, among_filter_in, among_left, among_map_in, among_right}
use Rattle.whole_means.proofs.Things.{object_there}
use Rattle.whole_means.proofs.Whole.{local_some, name_there, temporary_named}
use Rattle.whole_means.specs.FunctionNames.{kept_by, kept_found, kept_names, kept_zero, zero_number}
use Rattle.whole_means.specs.Written.{IsNamed}
use Rattle.whole_names.specs.FunctionNames.{WantedLocal, a_local, a_result, gives_record, is_local_of, locals_that, wanted_in, wanted_locals, wanted_object, wanted_params, wanted_temporaries}
use Rattle.whole_names.specs.Kept.{NamedProgram, local_among, types_of}
use Rattle.whole_names.specs.ModuleNames.{name_or, taken_names}

unnamed : (name : Option (List ℕ)) → is_some name ≡ false → is_none name ≡ true
unnamed None is = refl
unnamed (Some x) is = absurd cc

module _ (whole : NamedProgram) (fun : CFun) where
  abbrev program : CProgram
  program = whole.program

  abbrev named : List WantedLocal
  named = locals_that (λ one. is_some one.name) program fun

  abbrev nameless : List WantedLocal
  nameless = locals_that (λ one. is_none one.name) program fun

  wanted_there : (o : CObject) → Among program.objects o → is_local_of fun o ≡ true → Among (named ++ nameless) (wanted_object o)
  wanted_there o there local = by_name (is_some o.name) refl
    where
      by_name : (t : Bool) → is_some o.name ≡ t → Among (named ++ nameless) (wanted_object o)
      by_name true e =
          among_left named nameless (wanted_object o)
          (among_map_in wanted_object (filter (λ (one : CObject). is_local_of fun one && is_some one.name) program.objects) o
          (among_filter_in (λ (one : CObject). is_local_of fun one && is_some one.name) program.objects o there (ap (λ (t : Bool). t && is_some o.name) local ∙ e)))
      by_name false e =
          among_right named nameless (wanted_object o)
          (among_map_in wanted_object (filter (λ (one : CObject). is_local_of fun one && is_none one.name) program.objects) o
          (among_filter_in (λ (one : CObject). is_local_of fun one && is_none one.name) program.objects o there (ap (λ (t : Bool). t && is_none o.name) local ∙ unnamed o.name e)))

  -- it has a name
  pub own_name : (o : CObject) → Among program.objects o → is_local_of fun o ≡ true → (x : List ℕ) × (local_among (a_local o.object) (own_names whole fun) ≡ Some x)
  own_name o there local =
      let count = length (temporaries_of whole fun) in
      let result : List WantedLocal = if gives_record (form_of_type fun.type) then record { key = a_result; wanted = codes "ret" } ∷ [] else [] in
      let found = local_among (a_local o.object) (own_names whole fun) in (
        name_or [] found,
        name_there found (local_some (taken_names program fun.unit) (wanted_in program fun count) (a_local o.object)
            (among_map_in (λ (one : WantedLocal). one.key) (wanted_in program fun count) (wanted_object o)
            (among_left (wanted_locals program fun) (wanted_temporaries 0 count) (wanted_object o)
            (among_right result (wanted_params program fun.params ++ (named ++ nameless)) (wanted_object o)
            (among_right (wanted_params program fun.params) (named ++ nameless) (wanted_object o) (wanted_there o there local)))))),
      )

  -- and is kept with it
  pub own_kept : (is : IsNamed whole) (o : CObject) → Among program.objects o → is_local_of fun o ≡ true →
      (x : List ℕ) × ((kept_names whole fun).objects o.object ≡ Some (record { place = Local x; ty = rust_type (types_of whole) o.type }))
  own_kept is o there local =
      let name = own_name o there local in (name.0, ap (kept_found whole fun) (object_there whole is o there) ∙ ap (kept_by whole o) name.1)

  -- ---- zero bytes

  -- an object to which zero bytes are copied has a temporary from which they come, of its type
  pub record HasZeros (number : ℕ) : Type 0 where
    pub zero : KeptTemporary
    pub zero_is : (kept_names whole fun).zeros number ≡ Some zero
    pub name_is : zero_name whole fun (own_names whole fun) number ≡ zero.name
    pub ty_is : zero.ty ≡ rust_type (types_of whole) (object_type whole number)

  pub has_zeros : (number : ℕ) → list_any (λ other. other == number) (zeroed_objects whole fun) ≡ true → HasZeros number
  has_zeros number there =
      let type_at : ℕ → Ty = λ n. type_in (module_names_in whole fun.unit) (object_type whole n) in
      let numbers = zeroed_objects whole fun in
      let held = held_in_body whole fun in
      let within = slice_get_within (map type_at numbers) (index_in number numbers) (type_at number) (index_at type_at numbers number there) in
      let count : length (temporaries_of whole fun) ≡ length held + length (map type_at numbers) = length-append held (map type_at numbers) in
      let name = temporary_named whole fun (zero_number whole fun number) (omega (arith, within, count)) in
      let x = (names_in whole fun.unit (locals_of whole fun)).temporary (zero_number whole fun number) in
      record {
        zero = record { name = x; ty = type_at number };
        zero_is = ap (kept_zero whole fun number) name ∙ ap (λ (t : Bool). if t then Some (record { name = x; ty = type_at number }) else None) there;
        name_is = ap (name_or []) name;
        ty_is = refl;
      }
