-- A function of the crate has the parameters and the result that the type of a pointer to it says (ISO C99, 6.7.5.3, 6.9.1p7; the Rust Reference, "Function pointer types").
use Rattle.std.proofs.Common.{◌≡◌, ℕ, zero, suc, ◌==◌, Bool, true, false, not, ◌&&◌, if◌then◌else◌, List, [], ◌∷◌, ◌++◌, map, filter, codes, Option, Some, None, is_some, is_none, IsSome, IfSome, refl, sym, ap, ◌∙◌, inl, inr, append_assoc, append-nil}
use Rattle.std.proofs.lemmas.Bool.{and_parts, not-true}
use Rattle.std.proofs.lemmas.Grind.{flat_map-append}
use Rattle.std.specs.List.{flat_map}
use Rattle.cx_core.specs.Linked.{IsTypedFunction, home_of}
use Rattle.cx_core.specs.Statements.{AreParams, AreParamsOf, IsDefinitionOf, IsParamObject, objects_in}
use Rattle.cx_core.specs.Trees.{CFun, CObject, CTy, ty, void, basic, enum_type, pointer, array, record_type, function, CParams, unlisted, listed, CTys, no_types, more_types, CProgram, form_of_type, unqualified}
use Rattle.cx_core.specs.Typing.{CHome, object_with}
use Rattle.rs_items.specs.Types.{TypeNames, passed, rust_form, rust_params, rust_pointer, rust_type, rust_types, with_result}
use Rattle.rs_items.specs.Types as types
use Rattle.rs_items_sets.specs.Names.{rust_name}
use Rattle.rs_items_sets.specs.declared.scope.NameScope.TheVariants.{Function}
use Rattle.rs_text.specs.Tree.{Ty, Integer, Boolean, Void, Pointer, Array, Code, Record, Tys, more_tys, OptionTy, no_ty, some_ty, LocalTree, tys, option_ty}
use Rattle.rs_text.specs.Valid.{is_void}
use Rattle.whole_items.specs.Items.{WrittenBody, count_of, function_tree, is_param, is_plain_param, object_local, param_by, param_of, result_of_form, result_param, type_of_object, value_type, written_result}
use Rattle.whole_means.proofs.Keys.{any_there, number_self}
use Rattle.whole_means.proofs.Lists.{Among}
use Rattle.whole_names.specs.FunctionNames.{LocalKey, a_result, a_passed, a_local, a_temporary, WantedLocal, gives_record, is_local_of, is_among, is_record, locals_from, locals_that, object_is_record, object_name, wanted_in, wanted_locals, wanted_object, wanted_param, wanted_params, wanted_temporaries}
use Rattle.whole_names.specs.Kept.{NamedProgram, code_type, types_of}
use Rattle.whole_names.specs.ModuleNames.{taken_names}

-- ---- results

pub same_void : (t : Ty) → option_ty (value_type t) ≡ (if is_void t then no_ty else some_ty t)
same_void (Integer which) = refl
same_void Boolean = refl
same_void Void = refl
same_void (Pointer target) = refl
same_void (Array element size) = refl
same_void (Code params result) = refl
same_void (Record m x) = refl

pub same_record : (t : CTy) → types.is_record t ≡ is_record (form_of_type t)
same_record (ty void is_const) = refl
same_record (ty (basic which) is_const) = refl
same_record (ty (enum_type number) is_const) = refl
same_record (ty (pointer to) is_const) = refl
same_record (ty (array element size) is_const) = refl
same_record (ty (record_type number) is_const) = refl
same_record (ty (function result params variadic) is_const) = refl

pub same_unqualified : (names : TypeNames) (one other : CTy) → unqualified one ≡ unqualified other → rust_type names one ≡ rust_type names other
same_unqualified names (ty form is_const) (ty other also) same = ap (λ (t : CTy). rust_type names t) same

unqualified_record : (one other : CTy) → unqualified one ≡ unqualified other → types.is_record one ≡ types.is_record other
unqualified_record (ty form is_const) (ty other also) same = same_record (ty form is_const) ∙ ap (λ (t : CTy). is_record (form_of_type t)) same ∙ sym (same_record (ty other also))

module _ (whole : NamedProgram) (fun : CFun) where
  abbrev program : CProgram
  program = whole.program

  abbrev names : TypeNames
  names = types_of whole

  -- the types of the parameters that a key is
  abbrev types_by : List ℕ → LocalKey → List Ty
  types_by name key = map (λ (one : LocalTree). one.ty) (param_by whole fun name key)

  result_same : (name : List ℕ) (result : Option CTy) → map (λ (one : LocalTree). one.ty) (result_param whole name result) ≡ map (λ (one : LocalTree). one.ty) (result_param whole [] result)
  result_same name None = refl
  result_same name (Some result) = refl

  nameless : (name : List ℕ) (key : LocalKey) → types_by name key ≡ types_by [] key
  nameless name a_result = result_same name (result_of_form (form_of_type fun.type))
  nameless name (a_passed number) = refl
  nameless name (a_local number) = by_test (is_plain_param whole fun number)
    where
      by_test : (t : Bool) → map (λ (one : LocalTree). one.ty) (if t then object_local whole name number else []) ≡ map (λ (one : LocalTree). one.ty) (if t then object_local whole [] number else [])
      by_test true = refl
      by_test false = refl
  nameless name (a_temporary number) = refl

  abbrev wanted_types : List WantedLocal → List Ty
  wanted_types wanted = flat_map (λ (one : WantedLocal). types_by [] one.key) wanted

  map_append : (xs ys : List LocalTree) → map (λ (one : LocalTree). one.ty) (xs ++ ys) ≡ map (λ (one : LocalTree). one.ty) xs ++ map (λ (one : LocalTree). one.ty) ys
  map_append [] ys = refl
  map_append (x ∷ xs) ys = ap (λ (rest : List Ty). x.ty ∷ rest) (map_append xs ys)

  types_of_params : (taken : List (List ℕ)) (wanted : List WantedLocal) → map (λ (one : LocalTree). one.ty) (flat_map (param_of whole fun) (locals_from taken wanted)) ≡ wanted_types wanted
  types_of_params taken [] = refl
  types_of_params taken (one ∷ wanted) =
      let name = rust_name taken Function one.wanted in
      map_append (param_by whole fun name one.key) (flat_map (param_of whole fun) (locals_from (taken ++ name ∷ []) wanted))
      ∙ ap (λ (ts : List Ty). ts ++ map (λ (l : LocalTree). l.ty) (flat_map (param_of whole fun) (locals_from (taken ++ name ∷ []) wanted))) (nameless name one.key)
      ∙ ap (λ (rest : List Ty). types_by [] one.key ++ rest) (types_of_params (taken ++ name ∷ []) wanted)

  -- temporaries are no parameters
  no_temporaries : (from count : ℕ) → wanted_types (wanted_temporaries from count) ≡ []
  no_temporaries from zero = refl
  no_temporaries from (suc count) = no_temporaries (suc from) count

  -- nor are objects of blocks
  no_objects : (test : CObject → Bool) (objects : List CObject) → wanted_types (map wanted_object (filter (λ one. is_local_of fun one && test one) objects)) ≡ []
  no_objects test [] = refl
  no_objects test (o ∷ objects) = by_test (is_local_of fun o && test o) refl (no_objects test objects)
    where
      by_test : (t : Bool) → (is_local_of fun o && test o) ≡ t → wanted_types (map wanted_object (filter (λ one. is_local_of fun one && test one) objects)) ≡ [] →
          wanted_types (map wanted_object (if t then o ∷ filter (λ one. is_local_of fun one && test one) objects else filter (λ one. is_local_of fun one && test one) objects)) ≡ []
      by_test true e rest =
          let local = (and_parts (is_local_of fun o) (test o) e).0 in
          let outside : is_among fun.params o.object ≡ false = not-true (is_among fun.params o.object) (and_parts (is_none o.puts && is_among (objects_in fun.body) o.object) (not (is_among fun.params o.object)) local).1 in
          ap (λ t. map (λ (one : LocalTree). one.ty) (if t && not (object_is_record (object_with o.object program.objects)) then object_local whole [] o.object else [])
          ++ wanted_types (map wanted_object (filter (λ one. is_local_of fun one && test one) objects))) outside
          ∙ rest
      by_test false e rest = rest

  -- the type with which a parameter is passed
  abbrev passed_type : ℕ → Ty
  passed_type number = passed (object_is_record (object_with number program.objects)) (type_of_object whole (object_with number program.objects))

  abbrev param_name : ℕ → List ℕ
  param_name number = object_name (codes "arg") (object_with number program.objects)

  param_types : (number : ℕ) (others : List WantedLocal) → is_param fun.params number ≡ true → wanted_types (wanted_param program number ++ others) ≡ passed_type number ∷ wanted_types others
  param_types number others among = by_record (object_is_record (object_with number program.objects)) refl
    where
      plain_is : (t : Bool) → object_is_record (object_with number program.objects) ≡ t →
          map (λ (one : LocalTree). one.ty) (if is_plain_param whole fun number then object_local whole [] number else []) ≡ (if not t then type_of_object whole (object_with number program.objects) ∷ [] else [])
      plain_is true e = ap (λ t. map (λ (one : LocalTree). one.ty) (if t then object_local whole [] number else [])) (ap (λ p. p && not (object_is_record (object_with number program.objects))) among ∙ ap not e)
      plain_is false e = ap (λ t. map (λ (one : LocalTree). one.ty) (if t then object_local whole [] number else [])) (ap (λ p. p && not (object_is_record (object_with number program.objects))) among ∙ ap not e)

      by_record : (t : Bool) → object_is_record (object_with number program.objects) ≡ t → wanted_types (wanted_param program number ++ others) ≡ passed_type number ∷ wanted_types others
      by_record true e =
          ap (λ t. wanted_types ((if t then record { key = a_passed number; wanted = param_name number } ∷ record { key = a_local number; wanted = param_name number } ∷ [] else record { key = a_local number; wanted = param_name number } ∷ []) ++ others)) e
          ∙ ap (λ (ts : List Ty). Pointer (type_of_object whole (object_with number program.objects)) ∷ (ts ++ wanted_types others)) (plain_is true e)
          ∙ ap (λ t. passed t (type_of_object whole (object_with number program.objects)) ∷ wanted_types others) (sym e)
      by_record false e =
          ap (λ t. wanted_types ((if t then record { key = a_passed number; wanted = param_name number } ∷ record { key = a_local number; wanted = param_name number } ∷ [] else record { key = a_local number; wanted = param_name number } ∷ []) ++ others)) e
          ∙ ap (λ (ts : List Ty). ts ++ wanted_types others) (plain_is false e)
          ∙ ap (λ t. passed t (type_of_object whole (object_with number program.objects)) ∷ wanted_types others) (sym e)

  params_types : (numbers : List ℕ) (others : List WantedLocal) → ((number : ℕ) → Among numbers number → is_param fun.params number ≡ true) →
      wanted_types (wanted_params program numbers ++ others) ≡ map passed_type numbers ++ wanted_types others
  params_types [] others among = refl
  params_types (number ∷ numbers) others among =
      ap wanted_types (append_assoc (wanted_param program number) (wanted_params program numbers) others)
      ∙ param_types number (wanted_params program numbers ++ others) (among number (inl refl))
      ∙ ap (λ (rest : List Ty). passed_type number ∷ rest) (params_types numbers others (λ other there. among other (inr there)))

  abbrev result_types : Bool → Option CTy → List Ty
  result_types gives result = if gives then map (λ (one : LocalTree). one.ty) (result_param whole [] result) else []

  abbrev own_objects : List WantedLocal
  own_objects = locals_that (λ one. is_some one.name) program fun ++ locals_that (λ one. is_none one.name) program fun

  -- the types of all parameters
  pub all_types : (body : WrittenBody) → map (λ (one : LocalTree). one.ty) (function_tree whole fun body).params
      ≡ result_types (gives_record (form_of_type fun.type)) (result_of_form (form_of_type fun.type)) ++ map passed_type fun.params
  all_types body =
      types_of_params (taken_names program fun.unit) (wanted_in program fun (count_of body.temporaries))
      ∙ flat_map-append (λ (one : WantedLocal). types_by [] one.key) (wanted_locals program fun) (wanted_temporaries 0 (count_of body.temporaries))
      ∙ ap (λ (rest : List Ty). wanted_types (wanted_locals program fun) ++ rest) (no_temporaries 0 (count_of body.temporaries))
      ∙ append-nil (wanted_types (wanted_locals program fun))
      ∙ flat_map-append (λ (one : WantedLocal). types_by [] one.key) (if gives_record (form_of_type fun.type) then record { key = a_result; wanted = codes "ret" } ∷ [] else [])
      (wanted_params program fun.params ++ own_objects)
      ∙ ap (λ (first : List Ty). first ++ wanted_types (wanted_params program fun.params ++ own_objects)) (result_is (gives_record (form_of_type fun.type)))
      ∙ ap (λ (rest : List Ty). result_types (gives_record (form_of_type fun.type)) (result_of_form (form_of_type fun.type)) ++ rest)
      (params_types fun.params own_objects (λ number there. any_there (λ other. other == number) fun.params number there (number_self number))
      ∙ ap (λ (rest : List Ty). map passed_type fun.params ++ rest)
      (flat_map-append (λ (one : WantedLocal). types_by [] one.key) (locals_that (λ one. is_some one.name) program fun) (locals_that (λ one. is_none one.name) program fun)
      ∙ ap (λ (first : List Ty). first ++ wanted_types (locals_that (λ one. is_none one.name) program fun)) (no_objects (λ one. is_some one.name) program.objects)
      ∙ no_objects (λ one. is_none one.name) program.objects)
      ∙ append-nil (map passed_type fun.params))
    where
      result_is : (gives : Bool) → wanted_types (if gives then record { key = a_result; wanted = codes "ret" } ∷ [] else []) ≡ result_types gives (result_of_form (form_of_type fun.type))
      result_is true = append-nil (map (λ (one : LocalTree). one.ty) (result_param whole [] (result_of_form (form_of_type fun.type))))
      result_is false = refl

  -- ---- the type of a pointer to the function

  one_passed : (home : CHome) (number : ℕ) (type : CTy) (found : Option CObject) → object_with number program.objects ≡ found → IsSome found → IfSome found (IsParamObject home type) →
      passed_type number ≡ passed (types.is_record type) (rust_type names type)
  one_passed home number type None e is param = absurd cc
  one_passed home number type (Some o) e is param =
      ap (λ (found : Option CObject). passed (object_is_record found) (type_of_object whole found)) e
      ∙ ap (λ t. passed t (rust_type names o.type)) (sym (same_record o.type) ∙ unqualified_record o.type type param.type_is)
      ∙ ap (passed (types.is_record type)) (same_unqualified names o.type type param.type_is)

  params_match : (unit : ℕ) (numbers : List ℕ) (all : CTys) → AreParams (home_of program None unit) numbers all → tys (map passed_type numbers) ≡ rust_types names all
  params_match unit [] no_types are = refl
  params_match unit [] (more_types first others) are = absurd are
  params_match unit (number ∷ numbers) no_types are = absurd are
  params_match unit (number ∷ numbers) (more_types first others) are =
      ap (λ (t : Ty). more_tys t (tys (map passed_type numbers))) (one_passed (home_of program None unit) number first (object_with number program.objects) refl are.0 are.1)
      ∙ ap (more_tys (passed (types.is_record first) (rust_type names first))) (params_match unit numbers others are.2)

  list_match : (unit : ℕ) (numbers : List ℕ) (params : CParams) → AreParamsOf (home_of program None unit) numbers params → tys (map passed_type numbers) ≡ rust_params names params
  list_match unit numbers unlisted are = ap (λ (ns : List ℕ). tys (map passed_type ns)) are
  list_match unit numbers (listed all) are = params_match unit numbers all are

  code_by : (gives : Bool) (result : CTy) (params : CParams) → tys (map passed_type fun.params) ≡ rust_params names params →
      types.code_type gives (rust_type names result) (rust_params names params) ≡ Code (tys (result_types gives (Some result) ++ map passed_type fun.params)) (option_ty (written_result whole gives (Some result)))
  code_by true result params same = ap (λ (ps : Tys). Code (more_tys (Pointer (rust_type names result)) ps) no_ty) (sym same)
  code_by false result params same =
      ap (λ (ps : Tys). Code ps (if is_void (rust_type names result) then no_ty else some_ty (rust_type names result))) (sym same)
      ∙ ap (λ (r : OptionTy). Code (tys (map passed_type fun.params)) r) (sym (same_void (rust_type names result)))

  code_of_type : (type : CTy) → IsDefinitionOf (home_of program None fun.unit) fun (form_of_type type) →
      code_type whole type ≡ Code (tys (result_types (gives_record (form_of_type type)) (result_of_form (form_of_type type)) ++ map passed_type fun.params))
      (option_ty (written_result whole (gives_record (form_of_type type)) (result_of_form (form_of_type type))))
  code_of_type (ty (function result params variadic) is_const) definition =
      ap (λ t. types.code_type t (rust_type names result) (rust_params names params)) (same_record result)
      ∙ code_by (is_record (form_of_type result)) result params (list_match fun.unit fun.params params definition.params_are)
  code_of_type (ty void is_const) definition = absurd definition
  code_of_type (ty (basic which) is_const) definition = absurd definition
  code_of_type (ty (enum_type number) is_const) definition = absurd definition
  code_of_type (ty (pointer to) is_const) definition = absurd definition
  code_of_type (ty (array element size) is_const) definition = absurd definition
  code_of_type (ty (record_type number) is_const) definition = absurd definition

  -- a pointer to the function has the type of its item
  pub code_is : (body : WrittenBody) → IsTypedFunction program None fun →
      code_type whole fun.type ≡ Code (tys (map (λ (one : LocalTree). one.ty) (function_tree whole fun body).params)) (option_ty (function_tree whole fun body).result)
  code_is body typed =
      code_of_type fun.type typed.definition
      ∙ ap (λ (ts : List Ty). Code (tys ts) (option_ty (written_result whole (gives_record (form_of_type fun.type)) (result_of_form (form_of_type fun.type))))) (sym (all_types body))
