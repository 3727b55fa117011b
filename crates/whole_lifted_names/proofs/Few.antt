-- A function's temporaries are those that have types.
use Rattle.std.proofs.Common.{arith, ◌≡◌, ◌≤◌, ◌+◌, ℕ, zero, suc, ◌==◌, ◌&&◌, Bool, true, false, if◌then◌else◌, List, [], ◌∷◌, ◌++◌, length, map, filter, Some, None, is_some, is_none, codes, refl, ap, ◌∙◌}
use Rattle.std.proofs.lemmas.Bool.Decides.{nat_tests}
use Rattle.cx_core.specs.Trees.{form_of_type, CObject, CFun, CProgram}
use Rattle.cx_core.specs.Typing.{object_with}
use Rattle.rs_items_sets.specs.Names.{rust_name}
use Rattle.rs_items_sets.specs.declared.scope.NameScope.TheVariants.{Function}
use Rattle.whole_lifted_names.specs.Laws.{TemporariesAreFew}
use Rattle.whole_names.specs.FunctionNames.{LocalKey, a_passed, a_local, a_result, a_temporary, object_name, WantedLocal, gives_record, is_local_of, locals_from, object_is_record, wanted_in, wanted_locals, wanted_object, wanted_param, wanted_params, wanted_temporaries}
use Rattle.whole_names.specs.Kept.{local_among, same_local}
use Rattle.whole_names.specs.ModuleNames.{taken_names}

-- a key isn't wanted
abbrev IsAbsent : LocalKey → List WantedLocal → Type 0
IsAbsent key [] = Unit {0}
IsAbsent key (one ∷ others) = (same_local key one.key ≡ false) × IsAbsent key others

absent_both : (key : LocalKey) (front others : List WantedLocal) → IsAbsent key front → IsAbsent key others → IsAbsent key (front ++ others)
absent_both key [] others first second = second
absent_both key (one ∷ front) others first second = (first.0, absent_both key front others first.1 second)

none_among : (key : LocalKey) (taken : List (List ℕ)) (wanted : List WantedLocal) → IsAbsent key wanted → local_among key (locals_from taken wanted) ≡ None
none_among key taken [] absent = refl
none_among key taken (one ∷ others) absent =
    let name = rust_name taken Function one.wanted in
    ap (λ (t : Bool). if t then Some name else local_among key (locals_from (taken ++ name ∷ []) others)) absent.0 ∙ none_among key (taken ++ name ∷ []) others absent.1

module _ (program : CProgram) (fun : CFun) (number : ℕ) where
  absent_where : (param : ℕ) (name : List ℕ) (t : Bool) → IsAbsent (a_temporary number)
      (if t then record { key = a_passed param; wanted = name } ∷ record { key = a_local param; wanted = name } ∷ [] else record { key = a_local param; wanted = name } ∷ [])
  absent_where param name true = (refl, (refl, tt))
  absent_where param name false = (refl, tt)

  absent_param : (param : ℕ) → IsAbsent (a_temporary number) (wanted_param program param)
  absent_param param = absent_where param (object_name (codes "arg") (object_with param program.objects)) (object_is_record (object_with param program.objects))

  absent_params : (params : List ℕ) → IsAbsent (a_temporary number) (wanted_params program params)
  absent_params [] = tt
  absent_params (param ∷ params) = absent_both (a_temporary number) (wanted_param program param) (wanted_params program params) (absent_param param) (absent_params params)

  absent_objects : (objects : List CObject) → IsAbsent (a_temporary number) (map wanted_object objects)
  absent_objects [] = tt
  absent_objects (one ∷ others) = (refl, absent_objects others)

  absent_temporaries : (from count : ℕ) → from + count ≤ number → IsAbsent (a_temporary number) (wanted_temporaries from count)
  absent_temporaries from zero far = tt
  absent_temporaries from (suc count) far =
      let apart : (number == from) ≡ false = grind (arith, nat_tests, far) in
      (apart, absent_temporaries (suc from) count (omega (arith, far)))

  absent_result : (t : Bool) → IsAbsent (a_temporary number) (if t then record { key = a_result; wanted = codes "ret" } ∷ [] else [])
  absent_result true = (refl, tt)
  absent_result false = tt

  absent_locals : IsAbsent (a_temporary number) (wanted_locals program fun)
  absent_locals =
      absent_both (a_temporary number) _ _ (absent_result (gives_record (form_of_type fun.type)))
      (absent_both (a_temporary number) _ _ (absent_params fun.params)
      (absent_both (a_temporary number) _ _ (absent_objects (filter (λ (one : CObject). is_local_of fun one && is_some one.name) program.objects))
      (absent_objects (filter (λ (one : CObject). is_local_of fun one && is_none one.name) program.objects))))

  absent_all : (count : ℕ) → count ≤ number → IsAbsent (a_temporary number) (wanted_in program fun count)
  absent_all count far = absent_both (a_temporary number) (wanted_locals program fun) (wanted_temporaries 0 count) absent_locals (absent_temporaries 0 count (omega (arith, far)))

pub few_temporaries : TemporariesAreFew
few_temporaries whole fun temporaries = λ number far.
    none_among (a_temporary number) (taken_names whole.program fun.unit) (wanted_in whole.program fun (length temporaries)) (absent_all whole.program fun number (length temporaries) far)
