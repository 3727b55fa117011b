-- What a function of the crate takes: first the place of the structure or union that it gives, then the parameters of C (ISO C99, 6.5.2.2p4 and 6.9.1p10).
use Rattle.std.proofs.Common.{◌≡◌, ℕ, zero, suc, ◌==◌, ◌&&◌, not, Bool, true, false, if◌then◌else◌, List, [], ◌∷◌, ◌++◌, map, filter, length, codes, Option, Some, None, is_some, is_none, IsSome, refl, sym, ap, subst, ◌∙◌, ◌⊎◌, inl, inr, append_assoc}
use Rattle.std.proofs.lemmas.Bool.{and_parts, not-true}
use Rattle.std.proofs.lemmas.List.Elements.{All-contains}
use Rattle.std.specs.List.{flat_map}
use Rattle.cr_base.specs.declared.layout.Laid.{Laid}
use Rattle.cx_core.specs.Layouts.{extent, layouts_of}
use Rattle.cx_core.specs.Linked.{IsTypedFunction, home_of}
use Rattle.cx_core.specs.Statements.{IsDefinitionOf, objects_in}
use Rattle.cx_core.specs.Trees.{CFun, CObject, CTy, ty, void, basic, enum_type, pointer, array, record_type, function, CProgram, form_of_type}
use Rattle.cx_core.specs.Typing.{object_with}
use Rattle.cx_mean.specs.Operands.{Frame as CFrame}
use Rattle.lift_calls.specs.Calls.{result_laid}
use Rattle.lift_calls.specs.Frames.{FunctionNames}
use Rattle.lift_calls.specs.Programs.{Setting}
use Rattle.lift_calls_entry.specs.Entry.{AreParams, ResultParam}
use Rattle.rs_items.specs.Types.{rust_type}
use Rattle.rs_items_sets.specs.Names.{rust_name}
use Rattle.rs_items_sets.specs.declared.scope.NameScope.TheVariants.{Function}
use Rattle.rs_text.specs.Tree.{Pointer, LocalTree, FunctionTree, Stmts}
use Rattle.whole_bodies.specs.Bodies.{copies_of_passed}
use Rattle.whole_bodies.specs.Names.{own_names, temporaries_of}
use Rattle.whole_items.specs.Items.{WrittenBodies, module_tree, object_local, param_by, param_of, result_of_form, result_param}
use Rattle.whole_means.proofs.Entries.{own_same, params_differ, tree_with}
use Rattle.whole_means.proofs.Keys.{any_there, number_self}
use Rattle.whole_means.proofs.Lists.{Among, among_cases, among_contains, among_filter, among_map}
use Rattle.whole_means.proofs.Modules.{modules_by}
use Rattle.whole_means.proofs.ParamObjects.{all_params}
use Rattle.whole_means.proofs.Passing.{all_named}
use Rattle.whole_means.specs.FunctionNames.{kept_names}
use Rattle.whole_means.specs.Settings.{setting_with}
use Rattle.whole_means.specs.Written.{IsNamed}
use Rattle.whole_names.specs.FunctionNames.{a_local, a_passed, a_result, LocalName, WantedLocal, gives_record, is_among, is_local_of, locals_from, locals_that, object_is_record, object_name, wanted_object, wanted_params, wanted_temporaries}
use Rattle.whole_names.specs.Kept.{NamedProgram, local_among, types_of}
use Rattle.whole_names.specs.ModuleNames.{taken_names}

-- ---- nothing else is a parameter

module _ (whole : NamedProgram) (fun : CFun) where
  abbrev program : CProgram
  program = whole.program

  abbrev NoParam : WantedLocal → Type 0
  NoParam wanted = (x : List ℕ) → param_by whole fun x wanted.key ≡ []

  none_of : (wanted : List WantedLocal) → ((one : WantedLocal) → Among wanted one → NoParam one) → (taken : List (List ℕ)) → flat_map (param_of whole fun) (locals_from taken wanted) ≡ []
  none_of [] each taken = refl
  none_of (one ∷ wanted) each taken =
      let x = rust_name taken Function one.wanted in
      ap (λ (list : List LocalTree). list ++ flat_map (param_of whole fun) (locals_from (taken ++ x ∷ []) wanted)) (each one (inl refl) x)
      ∙ none_of wanted (λ other there. each other (inr there)) (taken ++ x ∷ [])

  object_no_param : (test : CObject → Bool) (wanted : WantedLocal) → Among (locals_that test program fun) wanted → NoParam wanted
  object_no_param test wanted there x =
      let one = among_map wanted_object (filter (λ (o : CObject). is_local_of fun o && test o) program.objects) wanted there in
      let o = one.0 in
      let local = (and_parts (is_local_of fun o) (test o) (among_filter (λ (other : CObject). is_local_of fun other && test other) program.objects o one.1).1).0 in
      let outside : is_among fun.params o.object ≡ false = not-true (is_among fun.params o.object) (and_parts (is_none o.puts && is_among (objects_in fun.body) o.object) (not (is_among fun.params o.object)) local).1 in
      subst (λ (w : WantedLocal). param_by whole fun x w.key ≡ []) one.2
      (ap (λ (t : Bool). if t && not (object_is_record (object_with o.object program.objects)) then object_local whole x o.object else []) outside)

  temporary_no_param : (from count : ℕ) (wanted : WantedLocal) → Among (wanted_temporaries from count) wanted → NoParam wanted
  temporary_no_param from zero wanted there = absurd there
  temporary_no_param from (suc count) wanted (inl same) = subst (λ (w : WantedLocal). NoParam w) same (λ x. refl)
  temporary_no_param from (suc count) wanted (inr there) = temporary_no_param (suc from) count wanted there

  abbrev objects_wanted : List WantedLocal
  objects_wanted = locals_that (λ one. is_some one.name) program fun ++ locals_that (λ one. is_none one.name) program fun

  abbrev temporaries_wanted : List WantedLocal
  temporaries_wanted = wanted_temporaries 0 (length (temporaries_of whole fun))

  abbrev pub after : List WantedLocal
  after = objects_wanted ++ temporaries_wanted

  after_no_param : (wanted : WantedLocal) → Among after wanted → NoParam wanted
  after_no_param wanted there = first (among_cases objects_wanted temporaries_wanted wanted there)
    where
      second : Among (locals_that (λ one. is_some one.name) program fun) wanted ⊎ Among (locals_that (λ one. is_none one.name) program fun) wanted → NoParam wanted
      second (inl named) = object_no_param (λ one. is_some one.name) wanted named
      second (inr unnamed) = object_no_param (λ one. is_none one.name) wanted unnamed

      first : Among objects_wanted wanted ⊎ Among temporaries_wanted wanted → NoParam wanted
      first (inl object) = second (among_cases (locals_that (λ one. is_some one.name) program fun) (locals_that (λ one. is_none one.name) program fun) wanted object)
      first (inr temporary) = temporary_no_param 0 (length (temporaries_of whole fun)) wanted temporary

  pub none_after : (taken : List (List ℕ)) → flat_map (param_of whole fun) (locals_from taken after) ≡ []
  none_after taken = none_of after after_no_param taken

  -- ---- nor the place of the result

  abbrev NoResult : List WantedLocal → Type 0
  NoResult wanted = (taken : List (List ℕ)) → local_among a_result (locals_from taken wanted) ≡ None

  temporaries_no_result : (from count : ℕ) → NoResult (wanted_temporaries from count)
  temporaries_no_result from zero taken = refl
  temporaries_no_result from (suc count) taken = temporaries_no_result (suc from) count (taken ++ rust_name taken Function (codes "t") ∷ [])

  objects_no_result : (objects : List CObject) (others : List WantedLocal) → NoResult others → NoResult (map wanted_object objects ++ others)
  objects_no_result [] others none taken = none taken
  objects_no_result (o ∷ objects) others none taken = objects_no_result objects others none (taken ++ rust_name taken Function (wanted_object o).wanted ∷ [])

  params_no_result : (numbers : List ℕ) (others : List WantedLocal) → NoResult others → NoResult (wanted_params program numbers ++ others)
  params_no_result [] others none taken = none taken
  params_no_result (number ∷ numbers) others none taken = by_test (object_is_record (object_with number program.objects)) refl (params_no_result numbers others none)
    where
      wanted_by : Bool → List WantedLocal
      wanted_by t =
          if t then record { key = a_passed number; wanted = object_name (codes "arg") (object_with number program.objects) } ∷ record { key = a_local number; wanted = object_name (codes "arg") (object_with number program.objects) } ∷ []
          else record { key = a_local number; wanted = object_name (codes "arg") (object_with number program.objects) } ∷ []

      each : (t : Bool) → NoResult (wanted_params program numbers ++ others) → local_among a_result (locals_from taken ((wanted_by t ++ wanted_params program numbers) ++ others)) ≡ None
      each true more = more _
      each false more = more _

      by_test : (t : Bool) → object_is_record (object_with number program.objects) ≡ t → NoResult (wanted_params program numbers ++ others) →
          local_among a_result (locals_from taken (wanted_params program (number ∷ numbers) ++ others)) ≡ None
      by_test t e more = ap (λ (test : Bool). local_among a_result (locals_from taken ((wanted_by test ++ wanted_params program numbers) ++ others))) e ∙ each t more

  no_result : (taken : List (List ℕ)) → local_among a_result (locals_from taken (wanted_params program fun.params ++ after)) ≡ None
  no_result =
      params_no_result fun.params after
      (subst NoResult (sym (append_assoc (locals_that (λ one. is_some one.name) program fun) (locals_that (λ one. is_none one.name) program fun) temporaries_wanted))
      (objects_no_result (filter (λ (o : CObject). is_local_of fun o && is_some o.name) program.objects) (locals_that (λ one. is_none one.name) program fun ++ temporaries_wanted)
      (objects_no_result (filter (λ (o : CObject). is_local_of fun o && is_none o.name) program.objects) temporaries_wanted (temporaries_no_result 0 (length (temporaries_of whole fun))))))

  -- ---- the names, in order

  abbrev own : List LocalName
  own = own_names whole fun

  abbrev result_wanted : Bool → List WantedLocal
  result_wanted gives = if gives then record { key = a_result; wanted = codes "ret" } ∷ [] else []

  abbrev names_by : Bool → List LocalName
  names_by gives = locals_from (taken_names program fun.unit) (result_wanted gives ++ (wanted_params program fun.params ++ after))

  own_is : (gives : Bool) → gives_record (form_of_type fun.type) ≡ gives → own ≡ names_by gives
  own_is gives e =
      ap (λ (t : Bool). locals_from (taken_names program fun.unit) ((result_wanted t ++ (wanted_params program fun.params ++ objects_wanted)) ++ temporaries_wanted)) e
      ∙ ap (locals_from (taken_names program fun.unit)) (append_assoc (result_wanted gives) (wanted_params program fun.params ++ objects_wanted) temporaries_wanted
      ∙ ap (λ (list : List WantedLocal). result_wanted gives ++ list) (append_assoc (wanted_params program fun.params) objects_wanted temporaries_wanted))

-- ---- what a function takes

module _ (whole : NamedProgram) (is : IsNamed whole) (bodies : WrittenBodies) (fun : CFun) (there : Among whole.program.functions fun) (statics : CFrame) (has_dispatch : Bool) (statements : Stmts) where
  abbrev s : Setting
  s = setting_with whole (modules_by (module_tree whole bodies) 0 (length whole.module_names)) statics

  abbrev kept : FunctionNames
  kept = kept_names whole fun

  abbrev tree : FunctionTree
  tree = tree_with whole fun has_dispatch statements

  pub record Takes : Type 0 where
    pub params : List LocalTree
    pub result : ResultParam (result_laid s fun) kept.result tree.params params
    pub are : AreParams s kept tree.locals fun.params params (copies_of_passed whole fun)

  typed : IsTypedFunction whole.program None fun
  typed = All-contains (IsTypedFunction whole.program None) whole.program.functions fun is.linked.functions (among_contains whole.program.functions fun there)

  abbrev with_type : CTy → CFun
  with_type type = record fun { type = type }

  pub record GivesRecord (type : CTy) : Type 0 where
    pub given : CTy
    pub laid : Laid
    pub given_is : result_of_form (form_of_type type) ≡ Some given
    pub laid_is : result_laid s (with_type type) ≡ Some laid

  found_laid : (found : Option Laid) → IsSome found → (laid : Laid) × (found ≡ Some laid)
  found_laid None some = absurd cc
  found_laid (Some laid) some = (laid, refl)

  -- the structure or union that it gives is complete
  gives_complete : (type : CTy) → IsDefinitionOf (home_of whole.program None fun.unit) fun (form_of_type type) → gives_record (form_of_type type) ≡ true → GivesRecord type
  gives_complete (ty (function (ty (record_type number) also) params variadic) is_const) definition gives =
      let found = found_laid (extent (layouts_of whole.program.types) (ty (record_type number) also)) definition.result_complete in
      record { given = ty (record_type number) also; laid = found.0; given_is = refl; laid_is = found.1 }
  gives_complete (ty (function (ty void also) params variadic) is_const) definition gives = absurd cc
  gives_complete (ty (function (ty (basic which) also) params variadic) is_const) definition gives = absurd cc
  gives_complete (ty (function (ty (enum_type number) also) params variadic) is_const) definition gives = absurd cc
  gives_complete (ty (function (ty (pointer to) also) params variadic) is_const) definition gives = absurd cc
  gives_complete (ty (function (ty (array element size) also) params variadic) is_const) definition gives = absurd cc
  gives_complete (ty (function (ty (function result inner more) also) params variadic) is_const) definition gives = absurd cc
  gives_complete (ty void is_const) definition gives = absurd definition
  gives_complete (ty (basic which) is_const) definition gives = absurd definition
  gives_complete (ty (enum_type number) is_const) definition gives = absurd definition
  gives_complete (ty (pointer to) is_const) definition gives = absurd definition
  gives_complete (ty (array element size) is_const) definition gives = absurd definition
  gives_complete (ty (record_type number) is_const) definition gives = absurd definition

  gives_none : (type : CTy) → IsDefinitionOf (home_of whole.program None fun.unit) fun (form_of_type type) → gives_record (form_of_type type) ≡ false → result_laid s (with_type type) ≡ None
  gives_none (ty (function (ty (record_type number) also) params variadic) is_const) definition gives = absurd cc
  gives_none (ty (function (ty void also) params variadic) is_const) definition gives = refl
  gives_none (ty (function (ty (basic which) also) params variadic) is_const) definition gives = refl
  gives_none (ty (function (ty (enum_type number) also) params variadic) is_const) definition gives = refl
  gives_none (ty (function (ty (pointer to) also) params variadic) is_const) definition gives = refl
  gives_none (ty (function (ty (array element size) also) params variadic) is_const) definition gives = refl
  gives_none (ty (function (ty (function result inner more) also) params variadic) is_const) definition gives = refl
  gives_none (ty void is_const) definition gives = absurd definition
  gives_none (ty (basic which) is_const) definition gives = absurd definition
  gives_none (ty (enum_type number) is_const) definition gives = absurd definition
  gives_none (ty (pointer to) is_const) definition gives = absurd definition
  gives_none (ty (array element size) is_const) definition gives = absurd definition
  gives_none (ty (record_type number) is_const) definition gives = absurd definition

  abbrev params_of : List LocalName → List LocalTree
  params_of list = flat_map (param_of whole fun) list

  abbrev rest : List (List ℕ) → List LocalName
  rest taken = locals_from taken (wanted_params whole.program fun.params ++ after whole fun)

  -- the parameters of C, where these names stand from here on
  passed_by : (taken : List (List ℕ)) → ((number : ℕ) → (local_among (a_local number) (own_names whole fun) ≡ local_among (a_local number) (rest taken)) × (local_among (a_passed number) (own_names whole fun) ≡ local_among (a_passed number) (rest taken))) →
      AreParams s kept tree.locals fun.params (params_of (rest taken)) (copies_of_passed whole fun)
  passed_by taken found =
      all_named whole is bodies fun statics has_dispatch statements (after whole fun) (none_after whole fun) fun.params (all_params whole.program fun.unit fun fun.type typed.type_in typed.definition)
      (params_differ whole.program.functions fun is.linked.numbers.blocks_differ there) (λ number among. any_there (λ other. other == number) fun.params number among (number_self number)) taken (λ number among. found number)

  tree_params : (gives : Bool) → gives_record (form_of_type fun.type) ≡ gives → tree.params ≡ params_of (names_by whole fun gives)
  tree_params gives e = ap params_of (sym (own_same whole fun has_dispatch statements) ∙ own_is whole fun gives e)

  takes_by : (gives : Bool) → gives_record (form_of_type fun.type) ≡ gives → Takes
  takes_by true e =
      let taken = taken_names whole.program fun.unit in
      let ret = rust_name taken Function (codes "ret") in
      let names = own_is whole fun true e in
      let gives = gives_complete fun.type typed.definition e in
      let first : LocalTree = record { name = ret; ty = Pointer (rust_type (types_of whole) gives.given) } in
      let all : tree.params ≡ first ∷ params_of (rest (taken ++ ret ∷ [])) =
      tree_params true e ∙ ap (λ (result : Option CTy). result_param whole ret result ++ params_of (rest (taken ++ ret ∷ []))) gives.given_is in
      let place : kept.result ≡ Some ret = ap (local_among a_result) names in
      record {
        params = params_of (rest (taken ++ ret ∷ []));
        result = subst (λ (laid : Option Laid). ResultParam laid kept.result tree.params (params_of (rest (taken ++ ret ∷ [])))) (sym gives.laid_is)
            (subst (λ (name : Option (List ℕ)). ResultParam (Some gives.laid) name tree.params (params_of (rest (taken ++ ret ∷ [])))) (sym place) (first, rust_type (types_of whole) gives.given, all, refl, refl));
        are = passed_by (taken ++ ret ∷ []) (λ number. (ap (local_among (a_local number)) names, ap (local_among (a_passed number)) names));
      }
  takes_by false e =
      let taken = taken_names whole.program fun.unit in
      let names = own_is whole fun false e in
      let place : kept.result ≡ None = ap (local_among a_result) names ∙ no_result whole fun taken in
      record {
        params = params_of (rest taken);
        result = subst (λ (laid : Option Laid). ResultParam laid kept.result tree.params (params_of (rest taken))) (sym (gives_none fun.type typed.definition e))
            (subst (λ (name : Option (List ℕ)). ResultParam None name tree.params (params_of (rest taken))) (sym place) (tree_params false e));
        are = passed_by taken (λ number. (ap (local_among (a_local number)) names, ap (local_among (a_passed number)) names));
      }

  pub takes : Takes
  takes = takes_by (gives_record (form_of_type fun.type)) refl
