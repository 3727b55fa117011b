-- An external function that a unit calls without arguments, though it has parameters elsewhere, is declared once more without parameters (ISO C99, 6.5.2.2p6).
use Rattle.std.proofs.Common.{suc, arith, ◌≡◌, ◌<◌, ℕ, ◌==◌, Bool, true, false, if◌then◌else◌, List, [], ◌∷◌, ◌++◌, map, filter, length, Some, None, option_map, refl, sym, ap, subst, ◌∙◌, inl, inr}
use Rattle.std.proofs.lemmas.List.Elements.{All-contains}
use Rattle.std.proofs.lemmas.Bool.{and_parts}
use Rattle.cx_core.specs.Linked.{IsTypedOuter}
use Rattle.cx_core.specs.Trees.{CTy, ty, function, no_exprs, void, basic, enum_type, pointer, array, record_type, unlisted, listed, no_types, more_types}
use Rattle.lift_does.specs.Outers.{OuterItem}
use Rattle.lift_exprs.specs.Calls.{count_of, is_malloc}
use Rattle.lift_exprs.specs.Names.{params_of, result_of}
use Rattle.rs_items.specs.Types as types
use Rattle.rs_text.specs.Tree.{Ty, Code, no_tys, Integer, Boolean, Void, Pointer, Array, Record, Tys, more_tys}
use Rattle.rs_items.specs.Types.{rust_type}
use Rattle.whole_names.specs.Keys.{has_params, is_called_bare}
use Rattle.whole_names.specs.Kept.{calloc_item, code_type, function_thing, outer_item, outer_thing}
use Rattle.cx_core.specs.Typing.{function_with}
use Rattle.cx_core.specs.Trees.{COuter, CProgram, CTyForm, form_of_type}
use Rattle.cx_core.specs.Typing.{outer_with}
use Rattle.cx_mean.specs.Operands.{Frame as CFrame}
use Rattle.lift_calls.specs.Programs.{Setting}
use Rattle.lift_does.specs.Agree.{OuterMeans}
use Rattle.lift_exprs.specs.Names.{Names}
use Rattle.rs_items.specs.Types.{rust_params, rust_type}
use Rattle.rs_mean.specs.Lookups.{callee_among, callee_at, outer}
use Rattle.rs_text.specs.Tree.{ModuleTree, OuterTree}
use Rattle.whole_bodies.specs.Names.{kept_function, names_in}
use Rattle.whole_items.specs.Items.{WrittenBodies, link_name_of, module_tree, outer_of, outer_of_form, outers_of, outers_of_key, tys_in, value_type, without_params as tree_without}
use Rattle.whole_means.proofs.Callees.{outer_among}
use Rattle.whole_means.proofs.Keys.{key_self, number_same}
use Rattle.whole_means.proofs.Lists.{Among, among_contains, among_filter_in, among_flat_in, among_map_in, among_right, find_there}
use Rattle.whole_means.proofs.Modules.{items_found, modules_by}
use Rattle.whole_means.proofs.Outers.{IsPlainFunction, code_form, external_plain, linked_as}
use Rattle.whole_means.specs.Settings.{setting_with}
use Rattle.whole_means.specs.Written.{IsNamed}
use Rattle.whole_names.specs.Keys.{NameKey, a_calloc, a_bare_function, bare_functions, calls_of, is_bare_too, is_block_static, is_static_literal, is_text_of, module_keys, needs_calloc, objects_that, records_of, same_key, things_of}
use Rattle.whole_names.specs.Kept.{LocalNames, NamedProgram, bare_item, bare_thing, is_key_among, module_of, name_in, types_of, without_params}

key_among : (keys : List NameKey) (key : NameKey) → Among keys key → is_key_among key keys ≡ true
key_among [] key there = absurd there
key_among (one ∷ keys) key (inl same) = ap (λ t. if t then true else is_key_among key keys) (ap (same_key key) same ∙ key_self key)
key_among (one ∷ keys) key (inr there) = by_test (same_key key one) (key_among keys key there)
  where
    by_test : (t : Bool) → is_key_among key keys ≡ true → (if t then true else is_key_among key keys) ≡ true
    by_test true e = refl
    by_test false e = e

same_result : (t : Ty) → result_of (without_params t) ≡ result_of t
same_result (Integer which) = refl
same_result Boolean = refl
same_result Void = refl
same_result (Pointer target) = refl
same_result (Array element size) = refl
same_result (Code params result) = refl
same_result (Record m x) = refl

nothing_left : (t : Ty) → params_of (without_params t) ≡ no_tys
nothing_left (Integer which) = refl
nothing_left Boolean = refl
nothing_left Void = refl
nothing_left (Pointer target) = refl
nothing_left (Array element size) = refl
nothing_left (Code params result) = refl
nothing_left (Record m x) = refl

not_zero : (n : ℕ) → (suc n == 0) ≡ false
not_zero n = by_test (suc n == 0) refl
  where
    by_test : (t : Bool) → (suc n == 0) ≡ t → (suc n == 0) ≡ false
    by_test true e = absurd (let same = number_same (suc n) 0 e in omega (arith, same))
    by_test false e = e

some_param : (t : Bool) (target first : Ty) (others : Tys) → (count_of (types.with_result t target (more_tys first others)) == 0) ≡ false
some_param true target first others = not_zero (suc (count_of others))
some_param false target first others = not_zero (count_of others)

-- a type that lists parameters is one of a function with parameters
has_some : (whole : NamedProgram) (type : CTy) → has_params (form_of_type type) ≡ true → (count_of (params_of (code_type whole type)) == 0) ≡ false
has_some whole (ty (function result (listed (more_types first others)) variadic) is_const) has =
    some_param (types.is_record result) (rust_type (types_of whole) result) (types.passed (types.is_record first) (rust_type (types_of whole) first)) (types.rust_types (types_of whole) others)
has_some whole (ty (function result (listed no_types) variadic) is_const) has = absurd cc
has_some whole (ty (function result unlisted variadic) is_const) has = absurd cc
has_some whole (ty void is_const) has = absurd cc
has_some whole (ty (basic which) is_const) has = absurd cc
has_some whole (ty (enum_type number) is_const) has = absurd cc
has_some whole (ty (pointer to) is_const) has = absurd cc
has_some whole (ty (array element size) is_const) has = absurd cc
has_some whole (ty (record_type number) is_const) has = absurd cc

module _ (whole : NamedProgram) (is : IsNamed whole) (bodies : WrittenBodies) (unit : ℕ) (low : unit < length whole.module_names) (own : LocalNames) (statics : CFrame) where
  abbrev program : CProgram
  program = whole.program

  abbrev modules : List ModuleTree
  modules = modules_by (module_tree whole bodies) 0 (length whole.module_names)

  abbrev s : Setting
  s = setting_with whole modules statics

  abbrev names : Names
  names = names_in whole unit own

  module _ (number : ℕ) (one : COuter) (found : outer_with number program.externals ≡ Some one) (is_bare : is_bare_too (calls_of program unit) one ≡ true) where
    its_number : one.function ≡ number
    its_number = number_same one.function number (find_there (λ (o : COuter). o.function == number) program.externals one found).1

    among : Among program.externals one
    among = (find_there (λ (o : COuter). o.function == number) program.externals one found).0

    key_there : Among (module_keys program unit) (a_bare_function number)
    key_there =
        let key = a_bare_function number in
        let here : Among (bare_functions program unit) key =
        subst (λ n. Among (bare_functions program unit) (a_bare_function n)) its_number
        (among_map_in (λ (o : COuter). a_bare_function o.function) (filter (is_bare_too (calls_of program unit)) program.externals) one
        (among_filter_in (is_bare_too (calls_of program unit)) program.externals one among is_bare)) in
        let extra = if needs_calloc program unit then a_calloc ∷ [] else [] in
        let literals = objects_that (is_static_literal unit) program in
        let texts = objects_that (is_text_of unit) program in
        let statics_here = objects_that (is_block_static unit) program in
        among_right (things_of program unit) (records_of program unit ++ (statics_here ++ (texts ++ (literals ++ (extra ++ bare_functions program unit))))) key
        (among_right (records_of program unit) (statics_here ++ (texts ++ (literals ++ (extra ++ bare_functions program unit)))) key
        (among_right statics_here (texts ++ (literals ++ (extra ++ bare_functions program unit))) key
        (among_right texts (literals ++ (extra ++ bare_functions program unit)) key
        (among_right literals (extra ++ bare_functions program unit) key (among_right extra (bare_functions program unit) key here)))))

    plain : IsPlainFunction (form_of_type one.type)
    plain = external_plain program.types one.name (form_of_type one.type) ((All-contains (IsTypedOuter program.types) program.externals one is.linked.externals (among_contains program.externals one among)).external)

    abbrev full : OuterTree
    full = record {
      link_name = link_name_of one.name (name_in whole unit (a_bare_function number));
      name = name_in whole unit (a_bare_function number);
      params = tys_in (rust_params (types_of whole) plain.params);
      variadic = plain.variadic;
      result = value_type (rust_type (types_of whole) plain.result);
    }

    declared : Among (outers_of whole unit) (tree_without full)
    declared =
        let form = outer_of_form whole one.name (name_in whole unit (a_bare_function number)) in
        among_flat_in (outers_of_key whole unit) (module_keys program unit) (a_bare_function number) (tree_without full) key_there
        (subst (λ (outers : List OuterTree). Among outers (tree_without full)) (sym (ap (λ f. map tree_without (outer_of whole unit (a_bare_function number) f)) found))
        (among_map_in tree_without (form (form_of_type one.type)) full (subst (λ (f : CTyForm). Among (form f) full) (sym plain.form_is) (inl refl))))

    tree_found : callee_at modules (module_of whole unit) (name_in whole unit (a_bare_function one.function)) ≡ Some (outer (tree_without full))
    tree_found =
        ap (λ n. callee_at modules (module_of whole unit) (name_in whole unit (a_bare_function n))) its_number
        ∙ ap (callee_among (name_in whole unit (a_bare_function number))) (items_found whole is bodies unit low) ∙ outer_among whole is bodies unit (tree_without full) declared

    -- its second item
    pub bare_kept : names.bare_functions number ≡ Some (kept_function (bare_item whole unit one))
    bare_kept =
        ap (λ f. option_map kept_function (bare_thing whole unit number f)) found
        ∙ ap (λ t. option_map kept_function (if t then Some (bare_item whole unit one) else None)) (key_among (module_keys program unit) (a_bare_function number) key_there)

    pub bare_means : OuterMeans s one.name one.name (kept_function (bare_item whole unit one))
    bare_means = record {
      symbol_is = refl;
      tree = tree_without full;
      tree_is = tree_found;
      named = linked_as one.name (name_in whole unit (a_bare_function number));
      ty_is = ap without_params (code_form whole one.type plain.result plain.params plain.variadic plain.form_is plain.plain);
    }

    -- what a call of it without arguments has to know
    pub bare_item_means : function_with number program.functions ≡ None → is_malloc names one.name ≡ false → OuterItem s names number no_exprs
    bare_item_means undefined itself = record {
      one = one;
      undefined = undefined;
      outer_is = found;
      kept = kept_function (outer_item whole unit one);
      kept_is =
          ap (option_map kept_function) (ap (λ f. function_thing whole unit f (outer_with number program.externals)) undefined ∙ ap (outer_thing whole unit) found
          ∙ ap (λ t. Some (if t then calloc_item whole unit one else outer_item whole unit one)) itself);
      symbol_is = refl;
      ty_is = refl;
      called = kept_function (bare_item whole unit one);
      means = bare_means;
      result_is = same_result (code_type whole one.type);
      way = inr (record {
        none = refl;
        bare_is = bare_kept;
        lists = has_some whole one.type (and_parts (has_params (form_of_type one.type)) (is_called_bare (calls_of program unit) one.function) is_bare).0;
        no_params = nothing_left (code_type whole one.type);
      });
      as_it_is = itself;
    }
