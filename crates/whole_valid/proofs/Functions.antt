-- The functions of a module are valid where their bodies are (ISO C99, 6.9.1; the Rust Reference, "Functions").
use Rattle.std.proofs.Common.{◌≡◌, ℕ, zero, suc, ◌==◌, Bool, true, false, not, ◌&&◌, ◌||◌, if◌then◌else◌, List, [], ◌∷◌, ◌++◌, codes, filter, map, Option, Some, None, IfSome, All, is_none, is_some, slice_get, refl, sym, ap, subst, ◌∙◌, ◌⊎◌, inl, inr}
use Rattle.std.proofs.lemmas.Bool.{and_from, and_parts}
use Rattle.std.specs.List.{flat_map, list_all}
use Rattle.std.specs.Str.{bytes_eq}
use Rattle.cx_core.specs.Linked.{IsTypedFunction, IsTypedObject, home_of}
use Rattle.cx_core.specs.Statements.{objects_in}
use Rattle.cx_core.specs.Trees.{CFun, CObject, CProgram, CTy, ty, CTyForm, void, basic, enum_type, pointer, array, record_type, function, form_of_type}
use Rattle.cx_core.specs.Typing.{object_with}
use Rattle.cx_core.specs.ValidTypes.{IsFormIn, IsTypeIn}
use Rattle.cx_core.specs.declared.program.Linkage.{Linkage}
use Rattle.cx_core.specs.declared.program.Linkage.TheVariants.{External, Internal, Nothing}
use Rattle.rs_items.specs.Types.{rust_type}
use Rattle.rs_text.specs.declared.attribute.Attribute.TheVariants.{Mangled, NoMangle, ExportName}
use Rattle.rs_text.specs.Names.{bare_name, is_identifier, is_word, keywords, path_words}
use Rattle.rs_text.specs.Tree.{LocalTree, ModuleTree, Pointer, Ty, Stmts, option_ty}
use Rattle.rs_text.specs.Valid.{is_void, valid_attribute, valid_function, valid_local, valid_result, valid_stmts, valid_target, valid_ty}
use Rattle.rs_items_sets.specs.Names.{rust_name}
use Rattle.rs_items_sets.specs.declared.scope.NameScope.TheVariants.{Function}
use Rattle.whole_items.specs.Items.{WrittenBody, attribute_of, count_of, dispatch_local, function_attribute, function_tree, initialiser_tree, is_plain_param, local_by, local_of, named, names_of_body, object_local, param_by, param_of, result_of_form, result_param, temporary_named, type_of_object, written_result}
use Rattle.whole_means.proofs.Keys.{number_same}
use Rattle.whole_means.proofs.Lists.{Among, among_at, among_cases, among_filter, among_flat, among_left, among_map, among_map_in, among_right, find_there}
use Rattle.whole_means.proofs.Things.{function_named}
use Rattle.whole_means.specs.Written.{IsNamed}
use Rattle.whole_names.proofs.Named.{of_functions}
use Rattle.whole_names.specs.FunctionNames.{LocalKey, a_result, a_passed, a_local, a_temporary, LocalName, WantedLocal, gives_record, is_among, is_local_of, locals_from, locals_that, object_is_record, object_name, wanted_in, wanted_locals, wanted_object, wanted_param, wanted_params, wanted_temporaries}
use Rattle.whole_names.specs.Keys.{a_function, is_entry}
use Rattle.whole_names.specs.Kept.{NamedProgram, name_in, types_of}
use Rattle.whole_names.specs.Laws.{names_of_locals, wanted_of_function}
use Rattle.whole_names.specs.ModuleNames.{name_or, taken_names}
use Rattle.whole_valid.proofs.Blocks.{IsBlockOf, of_definition}
use Rattle.whole_valid.proofs.Names.{all_of, all_test, name_identifier, test_of, wanted_words}
use Rattle.whole_valid.proofs.Types.{complete_valid, target_valid, value_valid}
use Rattle.whole_valid.specs.Given.{BodyFits, HasModuleNames, HasWords}

-- ---- names of their own

block_identifier : is_identifier (codes "current_block") ≡ true
unfolding path_words keywords
block_identifier = refl

initialiser_identifier : is_identifier (codes "run_static_initializers") ≡ true
unfolding path_words keywords
initialiser_identifier = refl

-- ---- attributes

symbol_valid : (symbol name : List ℕ) → is_word symbol ≡ true → valid_attribute (attribute_of External symbol name) ≡ true
symbol_valid symbol name word = by_test (bytes_eq (bare_name name) symbol)
  where
    by_test : (t : Bool) → valid_attribute (if t then NoMangle else ExportName symbol) ≡ true
    by_test true = refl
    by_test false = word

pub attribute_valid : (linkage : Linkage) (symbol name : List ℕ) → (linkage ≡ External → is_word symbol ≡ true) → valid_attribute (attribute_of linkage symbol name) ≡ true
attribute_valid External symbol name word = symbol_valid symbol name (word refl)
attribute_valid Internal symbol name word = refl
attribute_valid Nothing symbol name word = refl

-- ---- names of parameters and locals

-- what has a name has one of those that are wanted
pub name_wanted : (taken : List (List ℕ)) (wanted : List WantedLocal) (one : LocalName) → Among (locals_from taken wanted) one → Among (map (λ (w : WantedLocal). w.key) wanted) one.key
name_wanted taken [] one there = absurd there
name_wanted taken (first ∷ wanted) one (inl same) = inl (ap (λ (n : LocalName). n.key) same)
name_wanted taken (first ∷ wanted) one (inr there) = inr (name_wanted (taken ++ rust_name taken Function first.wanted ∷ []) wanted one there)

module _ (whole : NamedProgram) (is : IsNamed whole) (words : HasWords whole.program) (modules : HasModuleNames whole.module_names) where
  abbrev program : CProgram
  program = whole.program

  object_name_word : (other : List ℕ) (found : Option CObject) → is_word other ≡ true → ((one : CObject) → found ≡ Some one → Among program.objects one) → is_word (object_name other found) ≡ true
  object_name_word other None word there = word
  object_name_word other (Some one) word there =
      by_name one.name (all_of (λ (o : CObject). IfSome o.name (λ name. is_word name ≡ true)) program.objects one words.objects (there one refl))
    where
      by_name : (name : Option (List ℕ)) → IfSome name (λ x. is_word x ≡ true) → is_word (name_or other name) ≡ true
      by_name None named = word
      by_name (Some x) named = named

  found_among : (number : ℕ) (one : CObject) → object_with number program.objects ≡ Some one → Among program.objects one
  found_among number one found = (find_there (λ (o : CObject). o.object == number) program.objects one found).0

  -- ---- the names that are wanted

  abbrev AreWords : List WantedLocal → Type 0
  AreWords list = (one : WantedLocal) → Among list one → is_word one.wanted ≡ true

  both_words : (xs ys : List WantedLocal) → AreWords xs → AreWords ys → AreWords (xs ++ ys)
  both_words xs ys first second one there = by_case (among_cases xs ys one there)
    where
      by_case : Among xs one ⊎ Among ys one → is_word one.wanted ≡ true
      by_case (inl here) = first one here
      by_case (inr here) = second one here

  param_words : (number : ℕ) → AreWords (wanted_param program number)
  param_words number one there = by_test (object_is_record (object_with number program.objects)) there
    where
      name : List ℕ
      name = object_name (codes "arg") (object_with number program.objects)

      word : is_word (object_name (codes "arg") (object_with number program.objects)) ≡ true
      word = object_name_word (codes "arg") (object_with number program.objects) refl (found_among number)

      by_test : (t : Bool) → Among (if t then record { key = a_passed number; wanted = object_name (codes "arg") (object_with number program.objects) } ∷ record { key = a_local number; wanted = object_name (codes "arg") (object_with number program.objects) } ∷ []
          else record { key = a_local number; wanted = object_name (codes "arg") (object_with number program.objects) } ∷ []) one → is_word one.wanted ≡ true
      by_test true (inl same) = subst (λ (w : WantedLocal). is_word w.wanted ≡ true) same word
      by_test true (inr (inl same)) = subst (λ (w : WantedLocal). is_word w.wanted ≡ true) same word
      by_test true (inr (inr none)) = absurd none
      by_test false (inl same) = subst (λ (w : WantedLocal). is_word w.wanted ≡ true) same word
      by_test false (inr none) = absurd none

  params_words : (numbers : List ℕ) → AreWords (wanted_params program numbers)
  params_words [] = λ one there. absurd there
  params_words (number ∷ numbers) = both_words (wanted_param program number) (wanted_params program numbers) (param_words number) (params_words numbers)

  objects_words : (test : CObject → Bool) (fun : CFun) → AreWords (locals_that test program fun)
  objects_words test fun one there =
      let from = among_map wanted_object (filter (λ o. is_local_of fun o && test o) program.objects) one there in
      let among = (among_filter (λ o. is_local_of fun o && test o) program.objects from.0 from.1).0 in
      subst (λ (w : WantedLocal). is_word w.wanted ≡ true) from.2 (object_name_word (codes "val") (Some from.0) refl (λ o same. subst (λ (x : CObject). Among program.objects x) (some_same from.0 o same) among))
    where
      some_same : (x y : CObject) → Some x ≡ Some y → x ≡ y
      some_same x y same = cc (same)

  result_words : (t : Bool) → AreWords (if t then record { key = a_result; wanted = codes "ret" } ∷ [] else [])
  result_words true one (inl same) = subst (λ (w : WantedLocal). is_word w.wanted ≡ true) same refl
  result_words true one (inr none) = absurd none
  result_words false one there = absurd there

  temporaries_words : (from count : ℕ) → AreWords (wanted_temporaries from count)
  temporaries_words from zero one there = absurd there
  temporaries_words from (suc count) one (inl same) = subst (λ (w : WantedLocal). is_word w.wanted ≡ true) same refl
  temporaries_words from (suc count) one (inr there) = temporaries_words (suc from) count one there

  own_words : (fun : CFun) → AreWords (wanted_locals program fun)
  own_words fun =
      both_words (if gives_record (form_of_type fun.type) then record { key = a_result; wanted = codes "ret" } ∷ [] else [])
      (wanted_params program fun.params ++ (locals_that (λ one. is_some one.name) program fun ++ locals_that (λ one. is_none one.name) program fun))
      (result_words (gives_record (form_of_type fun.type)))
      (both_words (wanted_params program fun.params) (locals_that (λ one. is_some one.name) program fun ++ locals_that (λ one. is_none one.name) program fun) (params_words fun.params)
      (both_words (locals_that (λ one. is_some one.name) program fun) (locals_that (λ one. is_none one.name) program fun)
      (objects_words (λ one. is_some one.name) fun) (objects_words (λ one. is_none one.name) fun)))

  local_words : (fun : CFun) (count : ℕ) → list_all is_word (wanted_of_function program fun count) ≡ true
  local_words fun count = all_test is_word (wanted_of_function program fun count) (λ x there. by_wanted x (among_map (λ (one : WantedLocal). one.wanted) (wanted_in program fun count) x there))
    where
      by_wanted : (x : List ℕ) → (one : WantedLocal) × Among (wanted_in program fun count) one × (one.wanted ≡ x) → is_word x ≡ true
      by_wanted x one = ap is_word (sym one.2) ∙ both_words (wanted_locals program fun) (wanted_temporaries 0 count) (own_words fun) (temporaries_words 0 count) one.0 one.1

  -- ---- a function of the program

  module _ (crate_modules : List ModuleTree) (fun : CFun) (body : WrittenBody) (fits : BodyFits whole crate_modules fun body) (there : Among program.functions fun) where
    abbrev names : List LocalName
    names = names_of_body whole fun body

    identifier : (one : LocalName) → Among names one → is_identifier one.name ≡ true
    identifier one among =
        test_of is_identifier (taken_names program fun.unit ++ names_of_locals program fun (count_of body.temporaries)) one.name
        (of_functions.identifiers program fun (count_of body.temporaries) (is.few_names fun.unit) fits.few (wanted_words whole is words fun.unit) (local_words fun (count_of body.temporaries)))
        (among_right (taken_names program fun.unit) (names_of_locals program fun (count_of body.temporaries)) one.name (among_map_in (λ (n : LocalName). n.name) names one among))

    typed : IsTypedFunction program None fun
    typed = all_of (IsTypedFunction program None) program.functions fun is.linked.functions there

    blocks : All (IsBlockOf program) (fun.params ++ objects_in fun.body)
    blocks = of_definition (home_of program None fun.unit) fun (form_of_type fun.type) typed.definition

    -- the type of an object of a block is valid
    object_valid : (number : ℕ) → Among (fun.params ++ objects_in fun.body) number → valid_ty (type_of_object whole (object_with number program.objects)) ≡ true
    object_valid number among =
        let block = all_of (IsBlockOf program) (fun.params ++ objects_in fun.body) number blocks among in
        let of = all_of (IsTypedObject program None) program.objects block.known is.linked.objects (found_among number block.known block.found) in
        ap (λ found. valid_ty (type_of_object whole found)) block.found ∙ complete_valid whole is words modules block.known.unit block.known.type of.type_in block.complete

    -- what a key says of its number
    abbrev IsOwn : LocalKey → Type 0
    IsOwn a_result = Unit {0}
    IsOwn (a_passed number) = Among (fun.params ++ objects_in fun.body) number
    IsOwn (a_local number) = Among (fun.params ++ objects_in fun.body) number
    IsOwn (a_temporary number) = Unit {0}

    abbrev AreOwn : List WantedLocal → Type 0
    AreOwn list = (one : WantedLocal) → Among list one → IsOwn one.key

    both_own : (xs ys : List WantedLocal) → AreOwn xs → AreOwn ys → AreOwn (xs ++ ys)
    both_own xs ys first second one here = by_case (among_cases xs ys one here)
      where
        by_case : Among xs one ⊎ Among ys one → IsOwn one.key
        by_case (inl left) = first one left
        by_case (inr right) = second one right

    param_own : (number : ℕ) → Among fun.params number → AreOwn (wanted_param program number)
    param_own number among one here = by_test (object_is_record (object_with number program.objects)) here
      where
        own : Among (fun.params ++ objects_in fun.body) number
        own = among_left fun.params (objects_in fun.body) number among

        by_test : (t : Bool) → Among (if t then record { key = a_passed number; wanted = object_name (codes "arg") (object_with number program.objects) } ∷ record { key = a_local number; wanted = object_name (codes "arg") (object_with number program.objects) } ∷ []
            else record { key = a_local number; wanted = object_name (codes "arg") (object_with number program.objects) } ∷ []) one → IsOwn one.key
        by_test true (inl same) = subst (λ (w : WantedLocal). IsOwn w.key) same own
        by_test true (inr (inl same)) = subst (λ (w : WantedLocal). IsOwn w.key) same own
        by_test true (inr (inr none)) = absurd none
        by_test false (inl same) = subst (λ (w : WantedLocal). IsOwn w.key) same own
        by_test false (inr none) = absurd none

    params_own : (numbers : List ℕ) → ((number : ℕ) → Among numbers number → Among fun.params number) → AreOwn (wanted_params program numbers)
    params_own [] all = λ one here. absurd here
    params_own (number ∷ numbers) all =
        both_own (wanted_param program number) (wanted_params program numbers) (param_own number (all number (inl refl))) (params_own numbers (λ other among. all other (inr among)))

    any_among : (numbers : List ℕ) (number : ℕ) → is_among numbers number ≡ true → Among numbers number
    any_among [] number test = absurd cc
    any_among (first ∷ numbers) number test = by_test (first == number) refl test (any_among numbers number)
      where
        by_test : (t : Bool) → (first == number) ≡ t → is_among (first ∷ numbers) number ≡ true → (is_among numbers number ≡ true → Among numbers number) → Among (first ∷ numbers) number
        by_test true e all more = inl (number_same first number e)
        by_test false e all more = inr (more (sym (ap (λ t. t || is_among numbers number) e) ∙ all))

    objects_own : (test : CObject → Bool) → AreOwn (locals_that test program fun)
    objects_own test one here =
        let from = among_map wanted_object (filter (λ o. is_local_of fun o && test o) program.objects) one here in
        let local = (and_parts (is_local_of fun from.0) (test from.0) (among_filter (λ o. is_local_of fun o && test o) program.objects from.0 from.1).1).0 in
        let inside = (and_parts (is_none from.0.puts && is_among (objects_in fun.body) from.0.object) (not (is_among fun.params from.0.object)) local).0 in
        let among = any_among (objects_in fun.body) from.0.object (and_parts (is_none from.0.puts) (is_among (objects_in fun.body) from.0.object) inside).1 in
        subst (λ (w : WantedLocal). IsOwn w.key) from.2 (among_right fun.params (objects_in fun.body) from.0.object among)

    result_own : (t : Bool) → AreOwn (if t then record { key = a_result; wanted = codes "ret" } ∷ [] else [])
    result_own true one (inl same) = subst (λ (w : WantedLocal). IsOwn w.key) same tt
    result_own true one (inr none) = absurd none
    result_own false one here = absurd here

    temporaries_own : (from count : ℕ) → AreOwn (wanted_temporaries from count)
    temporaries_own from zero one here = absurd here
    temporaries_own from (suc count) one (inl same) = subst (λ (w : WantedLocal). IsOwn w.key) same tt
    temporaries_own from (suc count) one (inr here) = temporaries_own (suc from) count one here

    wanted_own : AreOwn (wanted_in program fun (count_of body.temporaries))
    wanted_own =
        both_own (wanted_locals program fun) (wanted_temporaries 0 (count_of body.temporaries))
        (both_own (if gives_record (form_of_type fun.type) then record { key = a_result; wanted = codes "ret" } ∷ [] else [])
        (wanted_params program fun.params ++ (locals_that (λ one. is_some one.name) program fun ++ locals_that (λ one. is_none one.name) program fun))
        (result_own (gives_record (form_of_type fun.type)))
        (both_own (wanted_params program fun.params) (locals_that (λ one. is_some one.name) program fun ++ locals_that (λ one. is_none one.name) program fun) (params_own fun.params (λ number among. among))
        (both_own (locals_that (λ one. is_some one.name) program fun) (locals_that (λ one. is_none one.name) program fun)
        (objects_own (λ one. is_some one.name)) (objects_own (λ one. is_none one.name)))))
        (temporaries_own 0 (count_of body.temporaries))

    name_own : (one : LocalName) → Among names one → IsOwn one.key
    name_own one among =
        let from = among_map (λ (w : WantedLocal). w.key) (wanted_in program fun (count_of body.temporaries)) one.key
        (name_wanted (taken_names program fun.unit) (wanted_in program fun (count_of body.temporaries)) one among) in
        subst (λ (k : LocalKey). IsOwn k) from.2 (wanted_own from.0 from.1)

    -- ---- parameters and locals

    result_form_valid : (form : CTyForm) (unit : ℕ) (is_const : Bool) → IsFormIn program.types unit is_const form →
        IfSome (result_of_form form) (λ result. valid_target (rust_type (types_of whole) result) ≡ true)
    result_form_valid (function result params variadic) unit is_const here = target_valid whole is words modules unit result here.0
    result_form_valid void unit is_const here = tt
    result_form_valid (basic which) unit is_const here = tt
    result_form_valid (enum_type number) unit is_const here = tt
    result_form_valid (pointer to) unit is_const here = tt
    result_form_valid (array element size) unit is_const here = tt
    result_form_valid (record_type number) unit is_const here = tt

    result_of_type : (type : CTy) → IsTypeIn program.types fun.unit type → IfSome (result_of_form (form_of_type type)) (λ result. valid_target (rust_type (types_of whole) result) ≡ true)
    result_of_type (ty form is_const) here = result_form_valid form fun.unit is_const here

    result_is : IfSome (result_of_form (form_of_type fun.type)) (λ result. valid_target (rust_type (types_of whole) result) ≡ true)
    result_is = result_of_type fun.type typed.type_in

    local_is : (name : List ℕ) (t : Ty) → is_identifier name ≡ true → valid_ty t ≡ true → (one : LocalTree) → Among (named name t) one → valid_local one ≡ true
    local_is name t word valid one (inl same) = ap valid_local (sym same) ∙ and_from (is_identifier name) (valid_ty t) word valid
    local_is name t word valid one (inr none) = absurd none

    target_pointer : (t : Ty) → valid_ty t ≡ true → valid_ty (Pointer t) ≡ true
    target_pointer t valid = by_void (is_void t)
      where
        by_void : (v : Bool) → (v || valid_ty t) ≡ true
        by_void true = refl
        by_void false = valid

    result_param_valid : (name : List ℕ) (result : Option CTy) → IfSome result (λ r. valid_target (rust_type (types_of whole) r) ≡ true) → is_identifier name ≡ true → (one : LocalTree) → Among (result_param whole name result) one →
        valid_local one ≡ true
    result_param_valid name None valid word one here = absurd here
    result_param_valid name (Some result) valid word one here = local_is name (Pointer (rust_type (types_of whole) result)) word valid one here

    if_plain : (name : List ℕ) (number : ℕ) (t : Bool) → is_identifier name ≡ true → Among (fun.params ++ objects_in fun.body) number → (one : LocalTree) →
        Among (if t then object_local whole name number else []) one → valid_local one ≡ true
    if_plain name number true word own one here = local_is name (type_of_object whole (object_with number program.objects)) word (object_valid number own) one here
    if_plain name number false word own one here = absurd here

    if_no_plain : (name : List ℕ) (number : ℕ) (t : Bool) → is_identifier name ≡ true → Among (fun.params ++ objects_in fun.body) number → (one : LocalTree) →
        Among (if t then [] else object_local whole name number) one → valid_local one ≡ true
    if_no_plain name number true word own one here = absurd here
    if_no_plain name number false word own one here = local_is name (type_of_object whole (object_with number program.objects)) word (object_valid number own) one here

    param_valid : (name : List ℕ) (key : LocalKey) → is_identifier name ≡ true → IsOwn key → (one : LocalTree) → Among (param_by whole fun name key) one → valid_local one ≡ true
    param_valid name a_result word own one here = result_param_valid name (result_of_form (form_of_type fun.type)) result_is word one here
    param_valid name (a_passed number) word own one here =
        local_is name (Pointer (type_of_object whole (object_with number program.objects))) word (target_pointer (type_of_object whole (object_with number program.objects)) (object_valid number own)) one here
    param_valid name (a_local number) word own one here = if_plain name number (is_plain_param whole fun number) word own one here
    param_valid name (a_temporary number) word own one here = absurd here

    temporary_valid : (name : List ℕ) (found : Option Ty) → is_identifier name ≡ true → ((t : Ty) → found ≡ Some t → valid_ty t ≡ true) → (one : LocalTree) → Among (temporary_named name found) one → valid_local one ≡ true
    temporary_valid name None word valid one here = absurd here
    temporary_valid name (Some t) word valid one here = local_is name t word (valid t refl) one here

    local_valid : (name : List ℕ) (key : LocalKey) → is_identifier name ≡ true → IsOwn key → (one : LocalTree) → Among (local_by whole fun body name key) one → valid_local one ≡ true
    local_valid name a_result word own one here = absurd here
    local_valid name (a_passed number) word own one here = absurd here
    local_valid name (a_local number) word own one here = if_no_plain name number (is_plain_param whole fun number) word own one here
    local_valid name (a_temporary number) word own one here =
        temporary_valid name (slice_get body.temporaries number) word (λ t at. test_of valid_ty body.temporaries t fits.temporaries_valid (among_at body.temporaries number t at)) one here

    dispatch_valid : (t : Bool) (one : LocalTree) → Among (dispatch_local t) one → valid_local one ≡ true
    dispatch_valid true one (inl same) = ap valid_local (sym same) ∙ and_from (is_identifier (codes "current_block")) true block_identifier refl
    dispatch_valid true one (inr none) = absurd none
    dispatch_valid false one here = absurd here

    params_are : list_all valid_local (function_tree whole fun body).params ≡ true
    params_are = all_test valid_local (function_tree whole fun body).params (λ one here.
        let from = among_flat (param_of whole fun) names one here in
        param_valid from.from.name from.from.key (identifier from.from from.there) (name_own from.from from.there) one from.made)

    locals_are : list_all valid_local (function_tree whole fun body).locals ≡ true
    locals_are = all_test valid_local (function_tree whole fun body).locals (λ one here. by_case one
        (among_cases (flat_map (local_of whole fun body) names) (dispatch_local body.has_dispatch) one here))
      where
        by_case : (one : LocalTree) → Among (flat_map (local_of whole fun body) names) one ⊎ Among (dispatch_local body.has_dispatch) one → valid_local one ≡ true
        by_case one (inl left) =
            let from = among_flat (local_of whole fun body) names one left in
            local_valid from.from.name from.from.key (identifier from.from from.there) (name_own from.from from.there) one from.made
        by_case one (inr right) = dispatch_valid body.has_dispatch one right

    -- ---- the function

    written_valid : (gives : Bool) (result : Option CTy) → IfSome result (λ r. valid_target (rust_type (types_of whole) r) ≡ true) → valid_result (option_ty (written_result whole gives result)) ≡ true
    written_valid gives None valid = refl
    written_valid true (Some result) valid = refl
    written_valid false (Some result) valid = value_valid (rust_type (types_of whole) result) valid

    attribute_is : valid_attribute (function_attribute fun (name_in whole fun.unit (a_function fun.function))) ≡ true
    attribute_is = by_test (is_entry fun)
      where
        by_test : (t : Bool) → valid_attribute (if t then Mangled
            else attribute_of fun.linkage fun.name (name_in whole fun.unit (a_function fun.function))) ≡ true
        by_test true = refl
        by_test false = attribute_valid fun.linkage fun.name (name_in whole fun.unit (a_function fun.function)) (λ external. all_of (λ (f : CFun). is_word f.name ≡ true) program.functions fun words.functions there)

    pub function_valid : valid_function (function_tree whole fun body) ≡ true
    function_valid =
        let tree = function_tree whole fun body in
        and_from (valid_attribute tree.attribute && is_identifier tree.name && list_all valid_local tree.params && valid_result (option_ty tree.result) && list_all valid_local tree.locals) (valid_stmts tree.body)
        (and_from (valid_attribute tree.attribute && is_identifier tree.name && list_all valid_local tree.params && valid_result (option_ty tree.result)) (list_all valid_local tree.locals)
        (and_from (valid_attribute tree.attribute && is_identifier tree.name && list_all valid_local tree.params) (valid_result (option_ty tree.result))
        (and_from (valid_attribute tree.attribute && is_identifier tree.name) (list_all valid_local tree.params)
        (and_from (valid_attribute tree.attribute) (is_identifier tree.name) attribute_is
        (name_identifier whole is words fun.unit (a_function fun.function) (function_named whole is fun there)))
        params_are) (written_valid (gives_record (form_of_type fun.type)) (result_of_form (form_of_type fun.type)) result_is)) locals_are) fits.valid

pub initialiser_valid : (statements : Stmts) → valid_stmts statements ≡ true → valid_function (initialiser_tree statements) ≡ true
initialiser_valid statements valid =
    and_from (is_identifier (codes "run_static_initializers") && true && true && true) (valid_stmts statements)
    (and_from (is_identifier (codes "run_static_initializers") && true && true) true (and_from (is_identifier (codes "run_static_initializers") && true) true
    (and_from (is_identifier (codes "run_static_initializers")) true initialiser_identifier refl) refl) refl) valid
