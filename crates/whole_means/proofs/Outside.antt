-- A static object is none of a function's parameters and locals.
use Rattle.std.proofs.Common.{◌≡◌, ℕ, zero, suc, ◌==◌, Bool, true, false, not, ◌&&◌, if◌then◌else◌, List, [], ◌∷◌, ◌++◌, filter, length, codes, Option, Some, None, is_some, is_none, IsSome, IfSome, refl, sym, ap, subst, ◌∙◌, ◌⊎◌, inl, inr}
use Rattle.std.proofs.lemmas.Bool.{and_parts}
use Rattle.std.proofs.lemmas.List.Elements.{All-contains}
use Rattle.cx_core.specs.Linked.{IsTypedFunction, home_of}
use Rattle.cx_core.specs.Statements.{AreParams, AreParamsOf, IsDefinitionOf, IsParamObject, objects_in}
use Rattle.cx_core.specs.Trees.{CFun, CObject, CPuts, CProgram, CTy, ty, void, basic, enum_type, pointer, array, record_type, function, CParams, unlisted, listed, CTys, no_types, more_types, form_of_type}
use Rattle.cx_core.specs.Typing.{object_with}
use Rattle.lift_forms.specs.Places.{Kept}
use Rattle.rs_items_sets.specs.Names.{rust_name}
use Rattle.rs_items_sets.specs.declared.scope.NameScope.TheVariants.{Function}
use Rattle.rs_text.specs.Tree.{Static}
use Rattle.rs_tree.specs.declared.ty.RPath.{RPath}
use Rattle.whole_bodies.specs.Names.{kept_object, own_names, temporaries_of}
use Rattle.whole_means.proofs.Entries.{entry_of}
use Rattle.whole_means.proofs.Locals.{local_number}
use Rattle.whole_means.proofs.Lists.{Among, among_cases, among_contains, among_filter, among_map, find_there}
use Rattle.whole_means.proofs.Things.{object_there}
use Rattle.whole_means.specs.FunctionNames.{kept_by, kept_found, kept_names}
use Rattle.whole_means.specs.Settings.{object_path}
use Rattle.whole_means.specs.Written.{IsNamed}
use Rattle.whole_names.specs.FunctionNames.{LocalKey, a_result, a_passed, a_local, a_temporary, LocalName, WantedLocal, gives_record, is_local_of, is_among, locals_from, locals_that, object_is_record, object_name, wanted_in, wanted_locals, wanted_object, wanted_param, wanted_params, wanted_temporaries}
use Rattle.whole_names.specs.Keys.{an_object}
use Rattle.whole_names.specs.Kept.{NamedProgram, local_among, module_of, name_in, object_item, path_if}
use Rattle.whole_names.specs.ModuleNames.{taken_names}

-- a name is wanted
abbrev IsWanted : List WantedLocal → LocalKey → Type 0
IsWanted wanted key = (one : WantedLocal) × Among wanted one × (one.key ≡ key)

later : (first : WantedLocal) (wanted : List WantedLocal) (key : LocalKey) → IsWanted wanted key → IsWanted (first ∷ wanted) key
later first wanted key (one, there, same) = (one, inr there, same)

wanted_there : (taken : List (List ℕ)) (wanted : List WantedLocal) (one : LocalName) → Among (locals_from taken wanted) one → IsWanted wanted one.key
wanted_there taken [] one there = absurd there
wanted_there taken (first ∷ wanted) one (inl same) = (first, inl refl, ap (λ (n : LocalName). n.key) same)
wanted_there taken (first ∷ wanted) one (inr there) = later first wanted one.key (wanted_there (taken ++ rust_name taken Function first.wanted ∷ []) wanted one there)

no_temporary : (from count n : ℕ) (one : WantedLocal) → Among (wanted_temporaries from count) one → one.key ≡ a_local n → ⊥
no_temporary from zero n one there key = there
no_temporary from (suc count) n one (inl same) key = absurd (let h : a_temporary from ≡ a_local n = ap (λ (w : WantedLocal). w.key) same ∙ key in cc)
no_temporary from (suc count) n one (inr there) key = no_temporary (suc from) count n one there key

module _ (program : CProgram) where
  one_param : (number n : ℕ) (t : Bool) (x : List ℕ) (one : WantedLocal) →
      Among (if t then record { key = a_passed number; wanted = x } ∷ record { key = a_local number; wanted = x } ∷ [] else record { key = a_local number; wanted = x } ∷ []) one → one.key ≡ a_local n → number ≡ n
  one_param number n true x one (inl same) key = absurd (let h : a_passed number ≡ a_local n = ap (λ (w : WantedLocal). w.key) same ∙ key in cc)
  one_param number n true x one (inr (inl same)) key = local_number number n (ap (λ (w : WantedLocal). w.key) same ∙ key)
  one_param number n true x one (inr (inr none)) key = absurd none
  one_param number n false x one (inl same) key = local_number number n (ap (λ (w : WantedLocal). w.key) same ∙ key)
  one_param number n false x one (inr none) key = absurd none

  param_among : (numbers : List ℕ) (n : ℕ) (one : WantedLocal) → Among (wanted_params program numbers) one → one.key ≡ a_local n → Among numbers n
  param_among [] n one there key = absurd there
  param_among (number ∷ numbers) n one there key =
      by_place (among_cases (wanted_param program number) (wanted_params program numbers) one there) (λ rest. param_among numbers n one rest key)
    where
      by_place : Among (wanted_param program number) one ⊎ Among (wanted_params program numbers) one → (Among (wanted_params program numbers) one → Among numbers n) → Among (number ∷ numbers) n
      by_place (inl here) more =
          inl (one_param number n (object_is_record (object_with number program.objects)) (object_name (codes "arg") (object_with number program.objects)) one here key)
      by_place (inr rest) more = inr (more rest)

  -- a parameter isn't static
  param_by : (found : Option CObject) (o : CObject) (unit : ℕ) (type : CTy) → found ≡ Some o → IfSome found (IsParamObject (home_of program None unit) type) → o.puts ≡ None
  param_by None o unit type e are = absurd cc
  param_by (Some p) o unit type e are = let same : p ≡ o = cc (e) in ap (λ (q : CObject). q.puts) (sym same) ∙ are.object.not_static

  params_not_static : (unit : ℕ) (numbers : List ℕ) (types : CTys) (n : ℕ) (o : CObject) → AreParams (home_of program None unit) numbers types → Among numbers n → object_with n program.objects ≡ Some o → o.puts ≡ None
  params_not_static unit [] types n o are there found = absurd there
  params_not_static unit (number ∷ numbers) no_types n o are there found = absurd are
  params_not_static unit (number ∷ numbers) (more_types type types) n o are (inl same) found =
      param_by (object_with number program.objects) o unit type (ap (λ k. object_with k program.objects) same ∙ found) are.1
  params_not_static unit (number ∷ numbers) (more_types type types) n o are (inr there) found = params_not_static unit numbers types n o are.2 there found

  listed_not_static : (unit : ℕ) (numbers : List ℕ) (params : CParams) (n : ℕ) (o : CObject) → AreParamsOf (home_of program None unit) numbers params → Among numbers n → object_with n program.objects ≡ Some o → o.puts ≡ None
  listed_not_static unit numbers unlisted n o are there found = absurd (subst (λ (ns : List ℕ). Among ns n) are there)
  listed_not_static unit numbers (listed types) n o are there found = params_not_static unit numbers types n o are there found

  defined_not_static : (fun : CFun) (type : CTy) (n : ℕ) (o : CObject) → IsDefinitionOf (home_of program None fun.unit) fun (form_of_type type) → Among fun.params n → object_with n program.objects ≡ Some o → o.puts ≡ None
  defined_not_static fun (ty (function result params variadic) is_const) n o definition there found = listed_not_static fun.unit fun.params params n o definition.params_are there found
  defined_not_static fun (ty void is_const) n o definition there found = absurd definition
  defined_not_static fun (ty (basic which) is_const) n o definition there found = absurd definition
  defined_not_static fun (ty (enum_type number) is_const) n o definition there found = absurd definition
  defined_not_static fun (ty (pointer to) is_const) n o definition there found = absurd definition
  defined_not_static fun (ty (array element size) is_const) n o definition there found = absurd definition
  defined_not_static fun (ty (record_type number) is_const) n o definition there found = absurd definition

module _ (whole : NamedProgram) (is : IsNamed whole) (fun : CFun) (there : Among whole.program.functions fun) where
  not_both : (o : CObject) → IsSome o.puts → o.puts ≡ None → ⊥
  not_both o some none = let h : false ≡ true = sym (ap is_some none) ∙ some in cc

  block_object : (test : CObject → Bool) (o : CObject) → Among whole.program.objects o → IsSome o.puts → (one : WantedLocal) → Among (locals_that test whole.program fun) one → one.key ≡ a_local o.object → ⊥
  block_object test o among static one wanted key =
      let from = among_map wanted_object (filter (λ (p : CObject). is_local_of fun p && test p) whole.program.objects) one wanted in
      let p = from.0 in
      let in_list = among_filter (λ (q : CObject). is_local_of fun q && test q) whole.program.objects p from.1 in
      let local = (and_parts (is_local_of fun p) (test p) in_list.1).0 in
      let none = (and_parts (is_none p.puts) (is_among (objects_in fun.body) p.object)
      (and_parts (is_none p.puts && is_among (objects_in fun.body) p.object) (not (is_among fun.params p.object)) local).0).0 in
      let number : p.object ≡ o.object = local_number p.object o.object (ap (λ (w : WantedLocal). w.key) from.2 ∙ key) in
      let found : Some p ≡ Some o = sym (object_there whole is p in_list.0) ∙ ap (λ n. object_with n whole.program.objects) number ∙ object_there whole is o among in
      let same : p ≡ o = cc (found) in
      by_puts o.puts static (ap (λ (q : CObject). is_none q.puts) (sym same) ∙ none)
    where
      by_puts : (puts : Option CPuts) → IsSome puts → is_none puts ≡ true → ⊥
      by_puts None some none = absurd cc
      by_puts (Some puts) some none = absurd cc

  in_result : (t : Bool) (n : ℕ) (one : WantedLocal) → Among (if t then record { key = a_result; wanted = codes "ret" } ∷ [] else []) one → one.key ≡ a_local n → ⊥
  in_result true n one (inl same) key = absurd (let h : a_result ≡ a_local n = ap (λ (w : WantedLocal). w.key) same ∙ key in cc)
  in_result true n one (inr none) key = none
  in_result false n one there_too key = there_too

  not_wanted : (o : CObject) → Among whole.program.objects o → IsSome o.puts → IsWanted (wanted_in whole.program fun (length (temporaries_of whole fun))) (a_local o.object) → ⊥
  not_wanted o among static (one, wanted, key) =
      by_temporary (among_cases (wanted_locals whole.program fun) (wanted_temporaries 0 (length (temporaries_of whole fun))) one wanted)
    where
      by_name : Among (locals_that (λ p. is_some p.name) whole.program fun) one ⊎ Among (locals_that (λ p. is_none p.name) whole.program fun) one → ⊥
      by_name (inl here) = block_object (λ p. is_some p.name) o among static one here key
      by_name (inr here) = block_object (λ p. is_none p.name) o among static one here key

      by_param : Among (wanted_params whole.program fun.params) one ⊎ Among (locals_that (λ p. is_some p.name) whole.program fun ++ locals_that (λ p. is_none p.name) whole.program fun) one → ⊥
      by_param (inl here) =
          not_both o static (defined_not_static whole.program fun fun.type o.object o
          (All-contains (IsTypedFunction whole.program None) whole.program.functions fun is.linked.functions (among_contains whole.program.functions fun there)).definition
          (param_among whole.program fun.params o.object one here key) (object_there whole is o among))
      by_param (inr rest) = by_name (among_cases (locals_that (λ p. is_some p.name) whole.program fun) (locals_that (λ p. is_none p.name) whole.program fun) one rest)

      by_result : Among (if gives_record (form_of_type fun.type) then record { key = a_result; wanted = codes "ret" } ∷ [] else []) one
          ⊎ Among (wanted_params whole.program fun.params ++ (locals_that (λ p. is_some p.name) whole.program fun ++ locals_that (λ p. is_none p.name) whole.program fun)) one → ⊥
      by_result (inl here) = in_result (gives_record (form_of_type fun.type)) o.object one here key
      by_result (inr rest) =
          by_param (among_cases (wanted_params whole.program fun.params) (locals_that (λ p. is_some p.name) whole.program fun ++ locals_that (λ p. is_none p.name) whole.program fun) one rest)

      by_temporary : Among (wanted_locals whole.program fun) one ⊎ Among (wanted_temporaries 0 (length (temporaries_of whole fun))) one → ⊥
      by_temporary (inl here) =
          by_result (among_cases (if gives_record (form_of_type fun.type) then record { key = a_result; wanted = codes "ret" } ∷ [] else [])
          (wanted_params whole.program fun.params ++ (locals_that (λ p. is_some p.name) whole.program fun ++ locals_that (λ p. is_none p.name) whole.program fun)) one here)
      by_temporary (inr here) = no_temporary 0 (length (temporaries_of whole fun)) o.object one here key

  pub not_local : (o : CObject) → Among whole.program.objects o → IsSome o.puts → local_among (a_local o.object) (own_names whole fun) ≡ None
  not_local o among static = by_name (local_among (a_local o.object) (own_names whole fun)) refl
    where
      by_name : (name : Option (List ℕ)) → local_among (a_local o.object) (own_names whole fun) ≡ name → local_among (a_local o.object) (own_names whole fun) ≡ None
      by_name None e = e
      by_name (Some x) e =
          absurd (not_wanted o among static
          (wanted_there (taken_names whole.program fun.unit) (wanted_in whole.program fun (length (temporaries_of whole fun))) (record { key = a_local o.object; name = x })
          (entry_of (own_names whole fun) (a_local o.object) x e).among))

  -- each static object is kept where it stands
  pub statics_kept : (number : ℕ) (path : RPath) → object_path whole (object_with number whole.program.objects) ≡ Some path →
      (it : Kept) × ((kept_names whole fun).objects number ≡ Some it) × (it.place ≡ Static path.home path.name)
  statics_kept number path found = by_object (object_with number whole.program.objects) refl found
    where
      by_test : (o : CObject) → Among whole.program.objects o → object_with number whole.program.objects ≡ Some o → (t : Bool) → is_some o.puts ≡ t →
          path_if t (record { home = module_of whole o.unit; name = name_in whole o.unit (an_object o.object) }) ≡ Some path →
          (it : Kept) × ((kept_names whole fun).objects number ≡ Some it) × (it.place ≡ Static path.home path.name)
      by_test o among e false f at = absurd cc
      by_test o among e true f at =
          let some : Some (record { home = module_of whole o.unit; name = name_in whole o.unit (an_object o.object) }) ≡ Some path = at in
          let same : record { home = module_of whole o.unit; name = name_in whole o.unit (an_object o.object) } ≡ path = cc (some) in (
            kept_object (object_item whole o),
            ap (kept_found whole fun) e ∙ ap (kept_by whole o) (not_local o among f) ∙ ap (λ t. if t then Some (kept_object (object_item whole o)) else None) f,
            ap (λ (p : RPath). Static p.home p.name) same,
          )

      by_object : (object : Option CObject) → object_with number whole.program.objects ≡ object → object_path whole object ≡ Some path →
          (it : Kept) × ((kept_names whole fun).objects number ≡ Some it) × (it.place ≡ Static path.home path.name)
      by_object None e at = absurd cc
      by_object (Some o) e at = by_test o (find_there (λ (one : CObject). one.object == number) whole.program.objects o e).0 e (is_some o.puts) refl at
