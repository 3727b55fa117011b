-- External functions that a unit calls are declared in its module, with their types and symbols (the Rust Reference, "External blocks").
use Rattle.std.proofs.Common.{◌≡◌, ◌<◌, ℕ, ◌==◌, Bool, true, false, if◌then◌else◌, List, [], filter, length, Option, Some, None, is_some, option_map, refl, sym, ap, subst, ◌∙◌, inl, inr}
use Rattle.std.proofs.lemmas.List.Elements.{All-contains}
use Rattle.std.specs.List.{Contains}
use Rattle.std.specs.Str.{bytes_eq}
use Rattle.cx_core.specs.Conversions.{IsIntegerType}
use Rattle.cx_core.specs.Externals.{CKnown, HasSignature, IsExternalType, IsOpaque, known_as, known_functions}
use Rattle.cx_core.specs.Linked.{IsTypedOuter}
use Rattle.lift_exprs.specs.Calls.{is_malloc}
use Rattle.cx_core.specs.Trees.{CExprs, COuter, CProgram, CTy, ty, CTyForm, void, basic, enum_type, pointer, array, record_type, function, CParams, CTypes, form_of_type, unqualified}
use Rattle.cx_core.specs.Trees as core
use Rattle.cx_core.specs.Typing.{function_with, outer_with}
use Rattle.cx_mean.specs.Operands.{Frame as CFrame}
use Rattle.lift_calls.specs.Programs.{Setting}
use Rattle.lift_does.specs.Agree.{OuterMeans}
use Rattle.lift_does.specs.Outers.{OuterItem, TakesAll, is_variadic}
use Rattle.lift_exprs.specs.Names.{Names, params_of}
use Rattle.rs_items.specs.Types.{rust_params, rust_type}
use Rattle.rs_items.specs.Types as types
use Rattle.rs_mean.specs.Lookups.{callee_among, callee_at, outer, symbol_or}
use Rattle.rs_text.specs.Names.{bare_name}
use Rattle.rs_text.specs.Tree.{Code, Tys, no_tys, more_tys, ModuleTree, OptionTy, OuterTree, tys, option_ty}
use Rattle.whole_bodies.specs.Names.{kept_function, names_in}
use Rattle.whole_items.specs.Items.{WrittenBodies, is_declared, link_name_of, module_tree, outer_if, outer_of, outer_of_form, outers_of, outers_of_key, tys_in, value_type}
use Rattle.whole_means.proofs.Callees.{outer_among}
use Rattle.whole_means.proofs.Keys.{number_same}
use Rattle.whole_means.proofs.Lists.{Among, among_contains, among_filter_in, among_flat_in, among_map_in, contains_among, find_there, texts_equal}
use Rattle.whole_means.proofs.Modules.{items_found, modules_by}
use Rattle.whole_means.proofs.Named.{thing_key}
use Rattle.whole_means.proofs.Params.{same_record, same_void}
use Rattle.whole_means.specs.Settings.{setting_with}
use Rattle.whole_means.specs.Written.{IsNamed}
use Rattle.whole_names.specs.FunctionNames.{is_record}
use Rattle.whole_names.specs.Keys.{a_function, is_defined_in, is_named_in, key_of, module_keys, order_of}
use Rattle.whole_names.specs.Kept.{LocalNames, NamedProgram, calloc_item, code_type, function_thing, is_replaced, module_of, name_in, outer_item as outer_item_of, outer_thing, types_of}

-- ---- results of external functions

known_plain : (one : CKnown) → Among known_functions one → is_record (form_of_type one.signature.result) ≡ false
unfolding known_functions
known_plain one (inl same) = ap (λ (k : CKnown). is_record (form_of_type k.signature.result)) (sym same)
known_plain one (inr (inl same)) = ap (λ (k : CKnown). is_record (form_of_type k.signature.result)) (sym same)
known_plain one (inr (inr (inl same))) = ap (λ (k : CKnown). is_record (form_of_type k.signature.result)) (sym same)
known_plain one (inr (inr (inr (inl same)))) = ap (λ (k : CKnown). is_record (form_of_type k.signature.result)) (sym same)
known_plain one (inr (inr (inr (inr (inl same))))) = ap (λ (k : CKnown). is_record (form_of_type k.signature.result)) (sym same)
known_plain one (inr (inr (inr (inr (inr (inl same)))))) = ap (λ (k : CKnown). is_record (form_of_type k.signature.result)) (sym same)
known_plain one (inr (inr (inr (inr (inr (inr (inl same))))))) = ap (λ (k : CKnown). is_record (form_of_type k.signature.result)) (sym same)
known_plain one (inr (inr (inr (inr (inr (inr (inr (inl same)))))))) = ap (λ (k : CKnown). is_record (form_of_type k.signature.result)) (sym same)
known_plain one (inr (inr (inr (inr (inr (inr (inr (inr none)))))))) = absurd none

form_same : (type : CTy) → form_of_type (unqualified type) ≡ form_of_type type
form_same (ty form is_const) = refl

integer_plain : (types_in : CTypes) (type : CTy) → IsIntegerType types_in type → is_record (form_of_type type) ≡ false
integer_plain types_in (ty (basic which) is_const) integer = refl
integer_plain types_in (ty (enum_type number) is_const) integer = refl
integer_plain types_in (ty void is_const) integer = refl
integer_plain types_in (ty (pointer to) is_const) integer = refl
integer_plain types_in (ty (array element size) is_const) integer = refl
integer_plain types_in (ty (record_type number) is_const) integer = absurd cc
integer_plain types_in (ty (function result params variadic) is_const) integer = refl

-- the type of an external function, which doesn't give a structure or union
pub record IsPlainFunction (form : CTyForm) : Type 0 where
  pub result : CTy
  pub params : CParams
  pub variadic : Bool
  pub form_is : form ≡ function result params variadic
  pub plain : is_record (form_of_type result) ≡ false

signature_plain : (one : CKnown) (form : CTyForm) → Among known_functions one → HasSignature one.signature form → IsPlainFunction form
signature_plain one (function result params variadic) there has = record {
  result = result;
  params = params;
  variadic = variadic;
  form_is = refl;
  plain = ap is_record (sym (form_same result)) ∙ ap (λ (t : CTy). is_record (form_of_type t)) has.0 ∙ known_plain one there;
}
signature_plain one void there has = absurd has
signature_plain one (basic which) there has = absurd has
signature_plain one (enum_type number) there has = absurd has
signature_plain one (pointer to) there has = absurd has
signature_plain one (array element size) there has = absurd has
signature_plain one (record_type number) there has = absurd has

opaque_plain : (types_in : CTypes) (form : CTyForm) → IsOpaque types_in form → IsPlainFunction form
opaque_plain types_in (function result params variadic) (inl nothing, all) =
    record { result = result; params = params; variadic = variadic; form_is = refl; plain = ap is_record nothing }
opaque_plain types_in (function result params variadic) (inr integer, all) =
    record { result = result; params = params; variadic = variadic; form_is = refl; plain = integer_plain types_in result integer }
opaque_plain types_in void opaque = absurd opaque
opaque_plain types_in (basic which) opaque = absurd opaque
opaque_plain types_in (enum_type number) opaque = absurd opaque
opaque_plain types_in (pointer to) opaque = absurd opaque
opaque_plain types_in (array element size) opaque = absurd opaque
opaque_plain types_in (record_type number) opaque = absurd opaque

external_by : (types_in : CTypes) (form : CTyForm) (found : Option CKnown) → ((one : CKnown) → found ≡ Some one → Among known_functions one) →
    (elim found as (λ _. Type 0) [ Some one ↦ HasSignature one.signature form | None ↦ IsOpaque types_in form ]) → IsPlainFunction form
external_by types_in form (Some one) there external = signature_plain one form (there one refl) external
external_by types_in form None there external = opaque_plain types_in form external

pub external_plain : (types_in : CTypes) (name : List ℕ) (form : CTyForm) → IsExternalType types_in name form → IsPlainFunction form
external_plain types_in name form external =
    external_by types_in form (known_as name) (λ one found. (find_there (λ (k : CKnown). bytes_eq name k.name) known_functions one found).0) external

-- ---- their items

all_tys : (ts : Tys) → tys (tys_in ts) ≡ ts
all_tys no_tys = refl
all_tys (more_tys first others) = ap (more_tys first) (all_tys others)

pub linked_as : (symbol name : List ℕ) → symbol_or name (link_name_of symbol name) ≡ symbol
linked_as symbol name = by_test (bytes_eq (bare_name name) symbol) refl
  where
    by_test : (t : Bool) → bytes_eq (bare_name name) symbol ≡ t → symbol_or name (if t then None else Some symbol) ≡ symbol
    by_test true e = texts_equal (bare_name name) symbol e
    by_test false e = refl

-- the type of a pointer to such a function
pub code_form : (whole : NamedProgram) (type : CTy) (result : CTy) (params : CParams) (variadic : Bool) → form_of_type type ≡ function result params variadic → is_record (form_of_type result) ≡ false →
    code_type whole type ≡ Code (tys (tys_in (rust_params (types_of whole) params))) (option_ty (value_type (rust_type (types_of whole) result)))
code_form whole (ty form is_const) result params variadic is_form flat =
    ap (λ (f : CTyForm). code_type whole (ty f is_const)) is_form
    ∙ ap (λ t. types.code_type t (rust_type (types_of whole) result) (rust_params (types_of whole) params)) (same_record result ∙ flat)
    ∙ ap (λ (r : OptionTy). Code (rust_params (types_of whole) params) r) (sym (same_void (rust_type (types_of whole) result)))
    ∙ ap (λ (ps : Tys). Code ps (option_ty (value_type (rust_type (types_of whole) result)))) (sym (all_tys (rust_params (types_of whole) params)))

module _ (whole : NamedProgram) (is : IsNamed whole) (bodies : WrittenBodies) (unit : ℕ) (low : unit < length whole.module_names) (own : LocalNames) (statics : CFrame) where
  abbrev program : CProgram
  program = whole.program

  abbrev modules : List ModuleTree
  modules = modules_by (module_tree whole bodies) 0 (length whole.module_names)

  abbrev s : Setting
  s = setting_with whole modules statics

  abbrev names : Names
  names = names_in whole unit own

  module _ (number : ℕ) (one : COuter) (found : outer_with number program.externals ≡ Some one) (undefined : function_with number program.functions ≡ None)
      (ordered : Contains (order_of program unit).things (core.a_function number)) (declares : is_declared whole unit one ≡ true) where
    pub key_there : Among (module_keys program unit) (a_function number)
    key_there =
        let named : is_named_in program unit (core.a_function number) ≡ true =
        ap (λ f. is_defined_in unit f (outer_with number program.externals)) undefined ∙ ap is_some found in
        thing_key whole unit (a_function number)
        (among_map_in key_of (filter (is_named_in program unit) (order_of program unit).things) (core.a_function number)
        (among_filter_in (is_named_in program unit) (order_of program unit).things (core.a_function number) (contains_among (order_of program unit).things (core.a_function number) ordered) named))

    -- what the module declares
    pub outer_there : (tree : OuterTree) → Among (outer_of_form whole one.name (name_in whole unit (a_function number)) (form_of_type one.type)) tree → Among (outers_of whole unit) tree
    outer_there tree made =
        among_flat_in (outers_of_key whole unit) (module_keys program unit) (a_function number) tree key_there
        (subst (λ (outers : List OuterTree). Among outers tree)
        (sym (ap (outer_if whole unit (a_function number)) found ∙ ap (λ t. if t then outer_of whole unit (a_function number) (Some one) else []) declares)) made)

    plain : IsPlainFunction (form_of_type one.type)
    plain = external_plain program.types one.name (form_of_type one.type)
        ((All-contains (IsTypedOuter program.types) program.externals one is.linked.externals
        (among_contains program.externals one (find_there (λ (o : COuter). o.function == number) program.externals one found).0)).external)

    abbrev tree : OuterTree
    tree = record {
      link_name = link_name_of one.name (name_in whole unit (a_function number));
      name = name_in whole unit (a_function number);
      params = tys_in (rust_params (types_of whole) plain.params);
      variadic = plain.variadic;
      result = value_type (rust_type (types_of whole) plain.result);
    }

    pub kept_is : is_replaced whole one ≡ false → names.functions number ≡ Some (kept_function (outer_item_of whole unit one))
    kept_is itself =
        ap (option_map kept_function) (ap (λ f. function_thing whole unit f (outer_with number program.externals)) undefined ∙ ap (outer_thing whole unit) found
        ∙ ap (λ t. Some (if t then calloc_item whole unit one else outer_item_of whole unit one)) itself)

    tree_found : callee_at modules (module_of whole unit) (name_in whole unit (a_function one.function)) ≡ Some (outer tree)
    tree_found =
        let made : Among (outers_of whole unit) tree =
        outer_there tree (subst (λ (f : CTyForm). Among (outer_of_form whole one.name (name_in whole unit (a_function number)) f) tree) (sym plain.form_is) (inl refl)) in
        ap (λ n. callee_at modules (module_of whole unit) (name_in whole unit (a_function n)))
        (number_same one.function number (find_there (λ (o : COuter). o.function == number) program.externals one found).1)
        ∙ ap (callee_among (name_in whole unit (a_function number))) (items_found whole is bodies unit low) ∙ outer_among whole is bodies unit tree made

    -- an external function that isn't replaced has its own item
    abbrev outer_means : OuterMeans s one.name one.name (kept_function (outer_item_of whole unit one))
    outer_means = record {
      symbol_is = refl;
      tree = tree;
      tree_is = tree_found;
      named = linked_as one.name (name_in whole unit (a_function number));
      ty_is = code_form whole one.type plain.result plain.params plain.variadic plain.form_is plain.plain;
    }

    variadic_same : plain.variadic ≡ is_variadic (form_of_type one.type)
    variadic_same = sym (ap is_variadic plain.form_is)

    -- what a call of it has to know
    pub outer_item : (args : CExprs) → TakesAll (params_of (code_type whole one.type)) (is_variadic (form_of_type one.type)) args → is_malloc names one.name ≡ false → OuterItem s names number args
    outer_item args takes itself = record {
      one = one;
      undefined = undefined;
      outer_is = found;
      kept = kept_function (outer_item_of whole unit one);
      kept_is = kept_is itself;
      symbol_is = refl;
      ty_is = refl;
      called = kept_function (outer_item_of whole unit one);
      means = outer_means;
      result_is = refl;
      way = inl (record {
        same = refl;
        variadic_is = variadic_same;
        takes = subst (λ v. TakesAll (params_of (code_type whole one.type)) v args) (sym variadic_same) takes;
      });
      as_it_is = itself;
    }
