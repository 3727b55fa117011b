-- The external functions of a module are valid (ISO C99, 6.7.5.3; the Rust Reference, "External blocks").
use Rattle.std.proofs.Common.{◌≡◌, ℕ, Bool, true, false, ◌&&◌, if◌then◌else◌, List, [], ◌∷◌, map, codes, Option, Some, None, refl, sym, ap, ◌∙◌, inl, inr, eqb}
use Rattle.std.proofs.lemmas.Bool.{and_from, and_parts}
use Rattle.std.proofs.lemmas.List.Elements.{recursion_from_All}
use Rattle.std.specs.List.{AllByRecursion, list_all}
use Rattle.std.specs.Str.{bytes_eq}
use Rattle.cx_core.specs.Conversions.{IsIntegerType}
use Rattle.cx_core.specs.declared.ty.Basic.{Basic}
use Rattle.cx_core.specs.declared.ty.Basic.TheVariants.{Truth}
use Rattle.cx_core.specs.Externals.{CKnown, HasSignature, IsExternalType, IsOpaque, IsOpaqueParam, IsOpaqueResult, const_text, known_as, known_functions, params_in}
use Rattle.cx_core.specs.Linked.{IsTypedOuter}
use Rattle.cx_core.specs.Trees.{COuter, CProgram, CTy, ty, CTyForm, void, basic, enum_type, pointer, array, record_type, function, CParams, unlisted, listed, CTys, no_types, more_types, CTypes, form_of_type, types_in, unqualified}
use Rattle.cx_core.specs.Typing.{outer_with}
use Rattle.rs_items.specs.Types.{TypeNames, basic_type, is_record, passed, rust_form, rust_params, rust_type, rust_types}
use Rattle.rs_text.specs.Names.{bare_name, is_identifier, is_word}
use Rattle.rs_text.specs.Tree.{OuterTree, option_ty}
use Rattle.rs_text.specs.Valid.{valid_outer, valid_result, valid_symbol, valid_target, valid_ty, valid_tys, valid_variadic}
use Rattle.whole_items.specs.Items.{WrittenBodies, link_name_of, outer_of_form, outers_of, tys_in, value_type, without_params}
use Rattle.whole_means.proofs.Items.{IsOuter, outer_stands}
use Rattle.whole_means.proofs.Items.IsOuter.{declared, calloc, bare}
use Rattle.whole_means.proofs.Lists.{Among, find_there}
use Rattle.whole_means.proofs.Named.{key_named}
use Rattle.whole_means.specs.Written.{IsNamed}
use Rattle.whole_names.specs.Keys.{NameKey, a_bare_function, a_calloc, a_function, module_keys}
use Rattle.whole_names.specs.Kept.{NamedProgram, name_in, types_of}
use Rattle.whole_valid.proofs.Names.{all_of, all_test, name_identifier, outer_word}
use Rattle.whole_valid.proofs.Types.{listed_valid, value_valid}
use Rattle.whole_valid.specs.Given.{HasWords, MayVaryForm, OutersMayVary}

-- ---- symbols

pub symbol_valid : (symbol name : List ℕ) → is_word symbol ≡ true → valid_symbol (link_name_of symbol name) ≡ true
symbol_valid symbol name word = by_test (bytes_eq (bare_name name) symbol)
  where
    by_test : (t : Bool) → valid_symbol (if t then None else Some symbol) ≡ true
    by_test true = refl
    by_test false = word

-- ---- types of external functions

module _ (names : TypeNames) where
  abbrev param_test : CTy → Bool
  param_test t = valid_ty (passed (is_record t) (rust_type names t))

  abbrev known_test : CKnown → Bool
  known_test one = list_all param_test one.signature.params && valid_target (rust_type names one.signature.result)

  known_valid : (one : CKnown) → Among known_functions one → known_test one ≡ true
  unfolding known_functions
  known_valid one (inl same) = ap known_test (sym same)
  known_valid one (inr (inl same)) = ap known_test (sym same)
  known_valid one (inr (inr (inl same))) = ap known_test (sym same)
  known_valid one (inr (inr (inr (inl same)))) = ap known_test (sym same)
  known_valid one (inr (inr (inr (inr (inl same))))) = ap known_test (sym same)
  known_valid one (inr (inr (inr (inr (inr (inl same)))))) = ap known_test (sym same)
  known_valid one (inr (inr (inr (inr (inr (inr (inl same))))))) = ap known_test (sym same)
  known_valid one (inr (inr (inr (inr (inr (inr (inr (inl same)))))))) = ap known_test (sym same)
  known_valid one (inr (inr (inr (inr (inr (inr (inr (inr none)))))))) = absurd none

  basic_test : (which : Basic) → valid_ty (basic_type which) ≡ true
  basic_test Truth = refl
  basic_test _ = refl

  target_test : (which : Basic) → valid_target (basic_type which) ≡ true
  target_test Truth = refl
  target_test _ = refl

  integer_test : (types : CTypes) (t : CTy) → IsIntegerType types t → (param_test t ≡ true) × (valid_target (rust_type names t) ≡ true)
  integer_test types (ty void is_const) integer = absurd cc
  integer_test types (ty (basic which) is_const) integer = (basic_test which, target_test which)
  integer_test types (ty (enum_type number) is_const) integer = (refl, refl)
  integer_test types (ty (pointer to) is_const) integer = absurd cc
  integer_test types (ty (array element size) is_const) integer = absurd cc
  integer_test types (ty (record_type number) is_const) integer = absurd cc
  integer_test types (ty (function result params variadic) is_const) integer = absurd cc

  text_test : (t : CTy) → form_of_type t ≡ const_text → param_test t ≡ true
  text_test (ty form is_const) is = ap (λ (f : CTyForm). param_test (ty f is_const)) is

  void_test : (t : CTy) → form_of_type t ≡ void → valid_target (rust_type names t) ≡ true
  void_test (ty form is_const) is = ap (λ (f : CTyForm). valid_target (rust_form names f)) is

  opaque_test : (types : CTypes) (t : CTy) → IsOpaqueParam types t → param_test t ≡ true
  opaque_test types t (inl text) = text_test t text
  opaque_test types t (inr integer) = (integer_test types t integer).0

  result_test : (types : CTypes) (t : CTy) → IsOpaqueResult types t → valid_target (rust_type names t) ≡ true
  result_test types t (inl nothing) = void_test t nothing
  result_test types t (inr integer) = (integer_test types t integer).1

  param_same : (t : CTy) → param_test (unqualified t) ≡ param_test t
  param_same (ty void is_const) = refl
  param_same (ty (basic which) is_const) = refl
  param_same (ty (enum_type number) is_const) = refl
  param_same (ty (pointer to) is_const) = refl
  param_same (ty (array element size) is_const) = refl
  param_same (ty (record_type number) is_const) = refl
  param_same (ty (function result params variadic) is_const) = refl

  target_same : (t : CTy) → valid_target (rust_type names (unqualified t)) ≡ valid_target (rust_type names t)
  target_same (ty form is_const) = refl

  types_test : (list : CTys) → list_all param_test (map unqualified (types_in list)) ≡ true → valid_tys (rust_types names list) ≡ true
  types_test no_types all = refl
  types_test (more_types first others) all =
      let parts = and_parts (param_test (unqualified first)) (list_all param_test (map unqualified (types_in others))) all in
      and_from (param_test first) (valid_tys (rust_types names others)) (sym (param_same first) ∙ parts.0) (types_test others parts.1)

  params_test : (params : CParams) → list_all param_test (params_in params) ≡ true → valid_tys (rust_params names params) ≡ true
  params_test unlisted all = refl
  params_test (listed list) all = types_test list all

  tests_of : (types : CTypes) (list : List CTy) → AllByRecursion (IsOpaqueParam types) list → list_all param_test list ≡ true
  tests_of types [] all = refl
  tests_of types (first ∷ others) all = and_from (param_test first) (list_all param_test others) (opaque_test types first all.0) (tests_of types others all.1)

  -- the types of an external function's parameters and of its result are valid
  pub record AreValid (result : CTy) (params : CParams) : Type 0 where
    pub params_are : valid_tys (rust_params names params) ≡ true
    pub result_is : valid_target (rust_type names result) ≡ true

  external_by : (types : CTypes) (result : CTy) (params : CParams) (variadic : Bool) (found : Option CKnown) → ((one : CKnown) → found ≡ Some one → Among known_functions one) →
      (elim found as (λ _. Type 0) [ Some one ↦ HasSignature one.signature (function result params variadic) | None ↦ IsOpaque types (function result params variadic) ]) → AreValid result params
  external_by types result params variadic (Some one) there has =
      let parts = and_parts (list_all param_test one.signature.params) (valid_target (rust_type names one.signature.result)) (known_valid one (there one refl)) in
      record {
        params_are = params_test params (ap (list_all param_test) has.1 ∙ parts.0);
        result_is = sym (target_same result) ∙ ap (λ (t : CTy). valid_target (rust_type names t)) has.0 ∙ parts.1;
      }
  external_by types result params variadic None there (given, all) =
      record { params_are = params_test params (tests_of types (params_in params) (recursion_from_All (IsOpaqueParam types) (params_in params) all)); result_is = result_test types result given }

  pub external_valid : (types : CTypes) (name : List ℕ) (result : CTy) (params : CParams) (variadic : Bool) → IsExternalType types name (function result params variadic) → AreValid result params
  external_valid types name result params variadic external =
      external_by types result params variadic (known_as name) (λ one found. (find_there (λ (k : CKnown). bytes_eq name k.name) known_functions one found).0) external

-- ---- external functions

variadic_valid : (names : TypeNames) (params : CParams) (variadic : Bool) → MayVaryForm (function (ty void false) params variadic) → valid_variadic variadic (tys_in (rust_params names params)) ≡ true
variadic_valid names params false vary = refl
variadic_valid names unlisted true vary = absurd cc
variadic_valid names (listed no_types) true vary = absurd cc
variadic_valid names (listed (more_types first others)) true vary = refl

outer_parts : (sym_is name_is params_are vary_is result_is : Bool) → sym_is ≡ true → name_is ≡ true → params_are ≡ true → vary_is ≡ true → result_is ≡ true →
    (sym_is && name_is && params_are && vary_is && result_is) ≡ true
outer_parts sym_is name_is params_are vary_is result_is a b c d e =
    and_from (sym_is && name_is && params_are && vary_is) result_is (and_from (sym_is && name_is && params_are) vary_is (and_from (sym_is && name_is) params_are (and_from sym_is name_is a b) c) d) e

module _ (whole : NamedProgram) where
  abbrev program : CProgram
  program = whole.program

  form_valid : (symbol name : List ℕ) (form : CTyForm) → is_word symbol ≡ true → is_identifier name ≡ true → IsExternalType program.types symbol form → MayVaryForm form → (tree : OuterTree) →
      Among (outer_of_form whole symbol name form) tree → valid_outer tree ≡ true
  form_valid symbol name (function result params variadic) word identifier external vary tree (inl same) =
      let are = external_valid (types_of whole) program.types symbol result params variadic external in
      ap valid_outer (sym same)
      ∙ outer_parts (valid_symbol (link_name_of symbol name)) (is_identifier name) (list_all valid_ty (tys_in (rust_params (types_of whole) params)))
      (valid_variadic variadic (tys_in (rust_params (types_of whole) params))) (valid_result (option_ty (value_type (rust_type (types_of whole) result))))
      (symbol_valid symbol name word) identifier (listed_valid (rust_params (types_of whole) params) are.params_are) (variadic_valid (types_of whole) params variadic vary)
      (value_valid (rust_type (types_of whole) result) are.result_is)
  form_valid symbol name (function result params variadic) word identifier external vary tree (inr none) = absurd none
  form_valid symbol name void word identifier external vary tree there = absurd there
  form_valid symbol name (basic which) word identifier external vary tree there = absurd there
  form_valid symbol name (enum_type number) word identifier external vary tree there = absurd there
  form_valid symbol name (pointer to) word identifier external vary tree there = absurd there
  form_valid symbol name (array element size) word identifier external vary tree there = absurd there
  form_valid symbol name (record_type number) word identifier external vary tree there = absurd there

  bare_valid : (full : OuterTree) → valid_outer full ≡ true → valid_outer (without_params full) ≡ true
  bare_valid full valid =
      let fifth = and_parts (valid_symbol full.link_name && is_identifier full.name && list_all valid_ty full.params && valid_variadic full.variadic full.params) (valid_result (option_ty full.result)) valid in
      let fourth = and_parts (valid_symbol full.link_name && is_identifier full.name && list_all valid_ty full.params) (valid_variadic full.variadic full.params) fifth.0 in
      let third = and_parts (valid_symbol full.link_name && is_identifier full.name) (list_all valid_ty full.params) fourth.0 in
      let first = and_parts (valid_symbol full.link_name) (is_identifier full.name) third.0 in
      outer_parts (valid_symbol full.link_name) (is_identifier full.name) true true (valid_result (option_ty full.result)) first.0 first.1 refl refl fifth.1

  module _ (is : IsNamed whole) (words : HasWords whole.program) (vary : OutersMayVary whole.program) (bodies : WrittenBodies) (unit : ℕ) where
    key_identifier : (key : NameKey) → Among (module_keys program unit) key → is_identifier (name_in whole unit key) ≡ true
    key_identifier key there = name_identifier whole is words unit key (key_named whole unit key there)

    outer_there : (number : ℕ) (one : COuter) → outer_with number program.externals ≡ Some one → Among program.externals one
    outer_there number one found = (find_there (λ (o : COuter). eqb o.function number) program.externals one found).0

    found_valid : (number : ℕ) (one : COuter) (key : NameKey) → Among (module_keys program unit) key → outer_with number program.externals ≡ Some one → (tree : OuterTree) →
        Among (outer_of_form whole one.name (name_in whole unit key) (form_of_type one.type)) tree → valid_outer tree ≡ true
    found_valid number one key there found tree made =
        form_valid one.name (name_in whole unit key) (form_of_type one.type) (outer_word whole is words number one found) (key_identifier key there)
        ((all_of (IsTypedOuter program.types) program.externals one is.linked.externals (outer_there number one found)).external)
        (all_of (λ (o : COuter). MayVaryForm (form_of_type o.type)) program.externals one vary (outer_there number one found)) tree made

    by_kind : (tree : OuterTree) → IsOuter whole bodies unit tree → valid_outer tree ≡ true
    by_kind tree (declared number one there found is_declared made) = found_valid number one (a_function number) there found tree made
    by_kind tree (calloc there same) =
        ap valid_outer same
        ∙ outer_parts (valid_symbol (link_name_of (codes "calloc") (name_in whole unit a_calloc))) (is_identifier (name_in whole unit a_calloc)) true true true
        (symbol_valid (codes "calloc") (name_in whole unit a_calloc) refl) (key_identifier a_calloc there) refl refl refl
    by_kind tree (bare number one full there found made same) = ap valid_outer (sym same) ∙ bare_valid full (found_valid number one (a_bare_function number) there found full made)

    pub outers_valid : list_all valid_outer (outers_of whole unit) ≡ true
    outers_valid = all_test valid_outer (outers_of whole unit) (λ tree there. by_kind tree (outer_stands whole bodies unit tree there))
