-- Each function, each static object and each structure or union that is completed has a name in the module of its unit.
use Rattle.std.proofs.Common.{◌≡◌, ℕ, ◌==◌, Bool, true, false, not, ◌&&◌, List, [], ◌++◌, map, filter, Option, Some, None, is_none, is_some, IsSome, refl, sym, ap, subst, ◌∙◌, slice_get, eqb, append-nil}
use Rattle.std.proofs.lemmas.Bool.{and_from}
use Rattle.std.specs.List.{IsDistinct}
use Rattle.cx_core.specs.Linked.{has_linkage}
use Rattle.cx_core.specs.Trees.{CFun, CObject, CKey, COuter, CProgram, CPuts, CRecord}
use Rattle.cx_core.specs.Trees as core
use Rattle.cx_core.specs.Typing.{function_with, object_with, outer_with}
use Rattle.cx_core.specs.declared.program.Linkage.{Linkage}
use Rattle.cx_core.specs.declared.program.Linkage.TheVariants.{External, Internal, Nothing}
use Rattle.whole_means.proofs.Keys.{number_self, numbered}
use Rattle.whole_means.proofs.Lists.{Among, among_filter_in, among_map_in, contains_among}
use Rattle.whole_means.proofs.Named.{HasName, block_static_key, entry_named, key_named, literal_key, record_key, text_key, thing_key}
use Rattle.whole_means.specs.Written.{IsNamed}
use Rattle.whole_names.specs.Keys.{a_function, an_object, a_record, is_block_static, is_defined_in, is_entry, is_named_in, is_object_of, is_static_literal, is_text_of, is_unlinked, key_of, objects_that, order_of, things_of}
use Rattle.whole_names.specs.Kept.{NamedProgram}

module _ (whole : NamedProgram) (is : IsNamed whole) where
  abbrev program : CProgram
  program = whole.program

  pub function_there : (f : CFun) → Among program.functions f → function_with f.function program.functions ≡ Some f
  function_there f there = numbered (λ (one : CFun). one.function) program.functions (map (λ (one : COuter). one.function) program.externals) f is.linked.numbers.functions_differ there

  abbrev thing : (f : CFun) → Among program.functions f → is_entry f ≡ false → Among (things_of program f.unit) (a_function f.function)
  thing f there apart =
      let defined : is_named_in program f.unit (core.a_function f.function) ≡ true =
      ap (λ found. is_defined_in f.unit found (outer_with f.function program.externals)) (function_there f there)
      ∙ and_from (f.unit == f.unit) (not (is_entry f)) (number_self f.unit) (ap not apart) in
      among_map_in key_of (filter (is_named_in program f.unit) (order_of program f.unit).things) (core.a_function f.function)
      (among_filter_in (is_named_in program f.unit) (order_of program f.unit).things (core.a_function f.function)
      (contains_among (order_of program f.unit).things (core.a_function f.function) (is.ordered.functions f.function f (function_there f there))) defined)

  pub function_named : (f : CFun) → Among program.functions f → HasName whole f.unit (a_function f.function)
  function_named f there = by_test (is_entry f) refl
    where
      by_test : (t : Bool) → is_entry f ≡ t → HasName whole f.unit (a_function f.function)
      by_test true e = entry_named whole f.unit (a_function f.function)
          (among_map_in (λ (one : CFun). a_function one.function) (filter (λ (one : CFun). one.unit == f.unit && is_entry one) program.functions) f
          (among_filter_in (λ (one : CFun). one.unit == f.unit && is_entry one) program.functions f there (and_from (f.unit == f.unit) (is_entry f) (number_self f.unit) e)))
      by_test false e = key_named whole f.unit (a_function f.function) (thing_key whole f.unit (a_function f.function) (thing f there e))

  -- ---- objects

  no_more : IsDistinct eqb (map (λ (one : CObject). one.object) program.objects ++ [])
  no_more = subst (λ (numbers : List ℕ). IsDistinct eqb numbers) (sym (append-nil (map (λ (one : CObject). one.object) program.objects))) is.linked.numbers.objects_differ

  pub object_there : (o : CObject) → Among program.objects o → object_with o.object program.objects ≡ Some o
  object_there o there = numbered (λ (one : CObject). one.object) program.objects [] o no_more there

  object_that : (o : CObject) (test : CObject → Bool) → Among program.objects o → test o ≡ true → Among (objects_that test program) (an_object o.object)
  object_that o test there holds = among_map_in (λ (one : CObject). an_object one.object) (filter test program.objects) o (among_filter_in test program.objects o there holds)

  object_thing : (o : CObject) → Among program.objects o → has_linkage o.linkage ≡ true → IsSome o.puts → HasName whole o.unit (an_object o.object)
  object_thing o there linked static =
      let named : is_named_in program o.unit (core.an_object o.object) ≡ true = ap (is_object_of o.unit) (object_there o there) ∙ number_self o.unit in
      key_named whole o.unit (an_object o.object) (thing_key whole o.unit (an_object o.object)
      (among_map_in key_of (filter (is_named_in program o.unit) (order_of program o.unit).things) (core.an_object o.object)
      (among_filter_in (is_named_in program o.unit) (order_of program o.unit).things (core.an_object o.object)
      (contains_among (order_of program o.unit).things (core.an_object o.object) (is.ordered.objects o.object o (object_there o there) linked static)) named)))

  unlinked_is : (linkage : Linkage) → has_linkage linkage ≡ false → is_unlinked linkage ≡ true
  unlinked_is External e = absurd cc
  unlinked_is Internal e = absurd cc
  unlinked_is Nothing e = refl

  object_alone : (o : CObject) → Among program.objects o → has_linkage o.linkage ≡ false → IsSome o.puts → HasName whole o.unit (an_object o.object)
  object_alone o there alone static = by_cases (is_some o.name) o.is_text refl refl
    where
      none_is : (name : Option (List ℕ)) → is_some name ≡ false → is_none name ≡ true
      none_is None e = refl
      none_is (Some x) e = absurd cc

      by_cases : (named text : Bool) → is_some o.name ≡ named → o.is_text ≡ text → HasName whole o.unit (an_object o.object)
      by_cases true text e f =
          key_named whole o.unit (an_object o.object) (block_static_key whole o.unit (an_object o.object)
          (object_that o (is_block_static o.unit) there
          (and_from (o.unit == o.unit && is_unlinked o.linkage && is_some o.name) (is_some o.puts)
          (and_from (o.unit == o.unit && is_unlinked o.linkage) (is_some o.name) (and_from (o.unit == o.unit) (is_unlinked o.linkage) (number_self o.unit) (unlinked_is o.linkage alone)) e) static)))
      by_cases false true e f =
          key_named whole o.unit (an_object o.object) (text_key whole o.unit (an_object o.object)
          (object_that o (is_text_of o.unit) there (and_from (o.unit == o.unit) o.is_text (number_self o.unit) f)))
      by_cases false false e f =
          key_named whole o.unit (an_object o.object) (literal_key whole o.unit (an_object o.object)
          (object_that o (is_static_literal o.unit) there
          (and_from (o.unit == o.unit && is_none o.name && not o.is_text) (is_some o.puts)
          (and_from (o.unit == o.unit && is_none o.name) (not o.is_text) (and_from (o.unit == o.unit) (is_none o.name) (number_self o.unit) (none_is o.name e)) (ap not f)) static)))

  pub object_named : (o : CObject) → Among program.objects o → IsSome o.puts → HasName whole o.unit (an_object o.object)
  object_named o there static = by_test (has_linkage o.linkage) refl
    where
      by_test : (t : Bool) → has_linkage o.linkage ≡ t → HasName whole o.unit (an_object o.object)
      by_test true e = object_thing o there e static
      by_test false e = object_alone o there e static

  -- ---- structures and unions

  pub record_named : (number unit : ℕ) (one : CRecord) → slice_get program.types.records number ≡ Some (Some one) → slice_get program.types.record_units number ≡ Some unit →
      HasName whole unit (a_record number)
  record_named number unit one there here =
      key_named whole unit (a_record number) (record_key whole unit (a_record number)
      (among_map_in a_record (order_of program unit).completed number (contains_among (order_of program unit).completed number (is.ordered.records number unit one there here))))
