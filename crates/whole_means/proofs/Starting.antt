-- Each parameter and local of a function has a layout (ISO C99, 6.2.4p5; the Rust Reference, "Type layout").
use Rattle.std.proofs.Common.{arith, ◌≡◌, ℕ, zero, suc, ◌==◌, ◌&&◌, ◌||◌, not, Bool, true, false, if◌then◌else◌, List, [], ◌∷◌, ◌++◌, map, filter, length, codes, Option, Some, None, slice_get, is_some, is_none, refl, sym, ap, subst, ◌∙◌, ◌⊎◌, inl, inr}
use Rattle.std.proofs.lemmas.Bool.{and_parts}
use Rattle.std.proofs.lemmas.List.Elements.{All-contains}
use Rattle.std.specs.List.{Contains, flat_map}
use Rattle.cr_base.specs.declared.layout.Laid.{Laid}
use Rattle.cx_core.specs.Layouts.{extent, layouts_of}
use Rattle.cx_core.specs.Linked.{IsTypedFunction, home_of}
use Rattle.cx_core.specs.Statements.{IsDefinitionOf, IsTypedStmt, body_of, objects_in}
use Rattle.cx_core.specs.Trees.{CFun, CObject, CTy, ty, void, basic, enum_type, pointer, array, record_type, function, CProgram, form_of_type}
use Rattle.cx_core.specs.Typing.{object_with}
use Rattle.cx_mean.specs.Operands.{Frame as CFrame}
use Rattle.lift_calls.specs.Programs.{Setting}
use Rattle.lift_calls_entry.specs.Entry.{CanBegin, all_locals}
use Rattle.lift_exprs.specs.Names.{type_in}
use Rattle.rs_items.specs.Types.{rust_type}
use Rattle.rs_items_rules.proofs.Types.{complete_fits}
use Rattle.rs_items_sets.specs.Names.{rust_name}
use Rattle.rs_items_sets.specs.declared.scope.NameScope.TheVariants.{Function}
use Rattle.rs_mean.specs.Layout.{laid_at}
use Rattle.rs_text.specs.Tree.{Ty, Pointer, LocalTree, FunctionTree, ModuleTree, Stmts}
use Rattle.whole_bodies.specs.Names.{held_in_body, module_names_in, object_type, temporaries_of, type_of_found, zeroed_objects}
use Rattle.whole_items.specs.Items.{WrittenBodies, count_of, dispatch_local, is_plain_param, local_by, local_of, module_tree, names_of_body, object_local, param_by, param_of, result_of_form, result_param, temporary_named, type_of_object}
use Rattle.whole_means.proofs.BlockObjects.{AreObjects, IsObject, among_objects, objects_of_stmt, zeroed_stmt}
use Rattle.whole_means.proofs.Entries.{body_with, tree_with}
use Rattle.whole_means.proofs.Keys.{number_same}
use Rattle.whole_means.proofs.Layouts.{all_kept}
use Rattle.whole_means.proofs.Lists.{Among, IsFrom, among_at, among_cases, among_contains, among_filter, among_flat, among_map, contains_among}
use Rattle.whole_means.proofs.Means.{laid_same}
use Rattle.whole_means.proofs.Modules.{modules_by}
use Rattle.whole_means.proofs.ParamObjects.{AreAllParams, all_params}
use Rattle.whole_means.specs.Layouts.{AreLaid, IsLaid}
use Rattle.whole_means.specs.Settings.{setting_with}
use Rattle.whole_means.specs.Written.{IsNamed}
use Rattle.whole_names.specs.FunctionNames.{LocalKey, a_local, a_passed, a_result, a_temporary, LocalName, WantedLocal, gives_record, is_among, is_local_of, locals_from, locals_that, object_is_record, object_name, wanted_in, wanted_locals, wanted_object, wanted_params, wanted_temporaries}
use Rattle.whole_names.specs.Kept.{NamedProgram, known_thing, no_locals, types_of}
use Rattle.whole_names.specs.ModuleNames.{taken_names}

pub both_laid : (modules : List ModuleTree) (xs ys : List Ty) → AreLaid modules xs → AreLaid modules ys → AreLaid modules (xs ++ ys)
both_laid modules [] ys first second = second
both_laid modules (x ∷ xs) ys first second = (first.0, both_laid modules xs ys first.1 second)

among_laid : (modules : List ModuleTree) (types : List Ty) (one : Ty) → AreLaid modules types → Among types one → IsLaid modules one
among_laid modules [] one are there = absurd there
among_laid modules (first ∷ types) one are (inl same) = subst (IsLaid modules) same are.0
among_laid modules (first ∷ types) one are (inr there) = among_laid modules types one are.1 there

among_number : (numbers : List ℕ) (number : ℕ) → is_among numbers number ≡ true → Among numbers number
among_number [] number is = absurd cc
among_number (one ∷ numbers) number is = by_test (one == number) refl (among_number numbers number)
  where
    by_test : (t : Bool) → (one == number) ≡ t → (is_among numbers number ≡ true → Among numbers number) → Among (one ∷ numbers) number
    by_test true e more = inl (number_same one number e)
    by_test false e more = inr (more (sym (ap (λ (t : Bool). t || is_among numbers number) e) ∙ is))

-- ---- keys of objects

-- what a key stands for is an object with a layout, where it is one
abbrev KeyIsObject : CProgram → LocalKey → Type 0
KeyIsObject program a_result = Unit {0}
KeyIsObject program (a_passed number) = Unit {0}
KeyIsObject program (a_local number) = IsObject program number
KeyIsObject program (a_temporary number) = Unit {0}

module _ (program : CProgram) where
  abbrev AreKeys : List WantedLocal → Type 0
  AreKeys wanted = (one : WantedLocal) → Among wanted one → KeyIsObject program one.key

  keys_named : (taken : List (List ℕ)) (wanted : List WantedLocal) → AreKeys wanted → (n : LocalName) → Among (locals_from taken wanted) n → KeyIsObject program n.key
  keys_named taken [] are n there = absurd there
  keys_named taken (one ∷ wanted) are n (inl same) = subst (λ (k : LocalName). KeyIsObject program k.key) same (are one (inl refl))
  keys_named taken (one ∷ wanted) are n (inr there) = keys_named (taken ++ rust_name taken Function one.wanted ∷ []) wanted (λ other among. are other (inr among)) n there

  two_keys : (xs ys : List WantedLocal) → AreKeys xs → AreKeys ys → AreKeys (xs ++ ys)
  two_keys xs ys first second one there = by_place (among_cases xs ys one there)
    where
      by_place : Among xs one ⊎ Among ys one → KeyIsObject program one.key
      by_place (inl before) = first one before
      by_place (inr behind) = second one behind

  temporary_keys : (from count : ℕ) → AreKeys (wanted_temporaries from count)
  temporary_keys from zero one there = absurd there
  temporary_keys from (suc count) one (inl same) = subst (λ (w : WantedLocal). KeyIsObject program w.key) same tt
  temporary_keys from (suc count) one (inr there) = temporary_keys (suc from) count one there

  param_keys : (number : ℕ) (name : List ℕ) (test : Bool) → IsObject program number →
      AreKeys (if test then record { key = a_passed number; wanted = name } ∷ record { key = a_local number; wanted = name } ∷ [] else record { key = a_local number; wanted = name } ∷ [])
  param_keys number name true is one (inl same) = subst (λ (w : WantedLocal). KeyIsObject program w.key) same tt
  param_keys number name true is one (inr (inl same)) = subst (λ (w : WantedLocal). KeyIsObject program w.key) same is
  param_keys number name true is one (inr (inr none)) = absurd none
  param_keys number name false is one (inl same) = subst (λ (w : WantedLocal). KeyIsObject program w.key) same is
  param_keys number name false is one (inr none) = absurd none

  params_keys : (numbers : List ℕ) → AreAllParams program numbers → AreKeys (wanted_params program numbers)
  params_keys [] are = λ one there. absurd there
  params_keys (number ∷ numbers) are =
      let it = are.0 in
      two_keys _ (wanted_params program numbers)
      (param_keys number (object_name (codes "arg") (object_with number program.objects)) (object_is_record (object_with number program.objects))
      (record { one = it.one; object_is = it.object_is; laid = it.laid; laid_is = it.laid_is })) (params_keys numbers are.1)

  object_keys : (fun : CFun) (test : CObject → Bool) → AreObjects program (objects_in fun.body) → AreKeys (locals_that test program fun)
  object_keys fun test are one there =
      let it = among_map wanted_object (filter (λ (o : CObject). is_local_of fun o && test o) program.objects) one there in
      let o = it.0 in
      let local = (and_parts (is_local_of fun o) (test o) (among_filter (λ (other : CObject). is_local_of fun other && test other) program.objects o it.1).1).0 in
      let inside = (and_parts (is_none o.puts && is_among (objects_in fun.body) o.object) (not (is_among fun.params o.object)) local).0 in
      let among = (and_parts (is_none o.puts) (is_among (objects_in fun.body) o.object) inside).1 in
      subst (λ (w : WantedLocal). KeyIsObject program w.key) it.2 (among_objects program (objects_in fun.body) o.object are (among_number (objects_in fun.body) o.object among))

-- ---- a function

module _ (whole : NamedProgram) (is : IsNamed whole) (bodies : WrittenBodies) (fun : CFun) (there : Among whole.program.functions fun) (statics : CFrame) (has_dispatch : Bool) (statements : Stmts) where
  abbrev program : CProgram
  program = whole.program

  abbrev modules : List ModuleTree
  modules = modules_by (module_tree whole bodies) 0 (length whole.module_names)

  abbrev s : Setting
  s = setting_with whole modules statics

  abbrev tree : FunctionTree
  tree = tree_with whole fun has_dispatch statements

  typed : IsTypedFunction program None fun
  typed = All-contains (IsTypedFunction program None) program.functions fun is.linked.functions (among_contains program.functions fun there)

  -- a complete type has a layout
  pub type_laid : (type : CTy) (laid : Laid) → extent (layouts_of program.types) type ≡ Some laid → IsLaid modules (rust_type (types_of whole) type)
  type_laid type laid found =
      record {
        laid = laid;
        laid_is = laid_same whole is bodies fun.unit no_locals statics type laid found;
        aligned = (complete_fits (known_thing whole fun.unit no_locals) (laid_at modules) (layouts_of program.types) (all_kept whole is bodies fun.unit no_locals) type laid found).aligned;
      }

  pub pointer_laid : (to : Ty) → IsLaid modules (Pointer to)
  pointer_laid to = record { laid = _; laid_is = refl; aligned = omega arith }

  object_laid : (number : ℕ) → IsObject program number → IsLaid modules (type_of_object whole (object_with number program.objects))
  object_laid number it = subst (λ (found : Option CObject). IsLaid modules (type_of_object whole found)) (sym it.object_is) (type_laid it.one.type it.laid it.laid_is)

  -- ---- its body

  pub record HasBody : Type 0 where
    pub result : CTy
    pub typed_body : IsTypedStmt (body_of (home_of program None fun.unit) result fun) [] fun.body

  body_by : (type : CTy) → IsDefinitionOf (home_of program None fun.unit) fun (form_of_type type) → HasBody
  body_by (ty (function result params variadic) is_const) definition = record { result = result; typed_body = definition.body }
  body_by (ty void is_const) definition = absurd definition
  body_by (ty (basic which) is_const) definition = absurd definition
  body_by (ty (enum_type number) is_const) definition = absurd definition
  body_by (ty (pointer to) is_const) definition = absurd definition
  body_by (ty (array element size) is_const) definition = absurd definition
  body_by (ty (record_type number) is_const) definition = absurd definition

  pub has_body : HasBody
  has_body = body_by fun.type typed.definition

  -- ---- temporaries

  zeros_laid : (numbers : List ℕ) → AreObjects program numbers → AreLaid modules (map (λ number. type_in (module_names_in whole fun.unit) (object_type whole number)) numbers)
  zeros_laid [] are = tt
  zeros_laid (number ∷ numbers) are =
      let it = are.0 in
      (subst (λ (found : Option CObject). IsLaid modules (rust_type (types_of whole) (type_of_found found))) (sym it.object_is) (type_laid it.one.type it.laid it.laid_is), zeros_laid numbers are.1)

  module _ (held : AreLaid modules (held_in_body whole fun)) where
    temporaries_laid : AreLaid modules (temporaries_of whole fun)
    temporaries_laid =
        both_laid modules (held_in_body whole fun) (map (λ number. type_in (module_names_in whole fun.unit) (object_type whole number)) (zeroed_objects whole fun)) held
        (zeros_laid (zeroed_objects whole fun) (zeroed_stmt (module_names_in whole fun.unit) (object_type whole) (body_of (home_of program None fun.unit) has_body.result fun) [] fun.body has_body.typed_body tt))

    -- ---- parameters and locals

    abbrev Begins : List LocalTree → Type 0
    Begins list = (local : LocalTree) → Among list local → IsLaid modules local.ty

    none_begins : Begins []
    none_begins local there = absurd there

    one_begins : (name : List ℕ) (one : Ty) → IsLaid modules one → Begins (record { name = name; ty = one } ∷ [])
    one_begins name one is_laid local (inl same) = subst (λ (l : LocalTree). IsLaid modules l.ty) same is_laid
    one_begins name one is_laid local (inr none) = absurd none

    result_begins : (x : List ℕ) (result : Option CTy) → Begins (result_param whole x result)
    result_begins x None = none_begins
    result_begins x (Some result) = one_begins x (Pointer (rust_type (types_of whole) result)) (pointer_laid (rust_type (types_of whole) result))

    temporary_begins : (x : List ℕ) (found : Option Ty) → ((one : Ty) → found ≡ Some one → IsLaid modules one) → Begins (temporary_named x found)
    temporary_begins x None is_laid = none_begins
    temporary_begins x (Some one) is_laid = one_begins x one (is_laid one refl)

    param_begins : (x : List ℕ) (key : LocalKey) → KeyIsObject program key → Begins (param_by whole fun x key)
    param_begins x a_result known = result_begins x (result_of_form (form_of_type fun.type))
    param_begins x (a_passed number) known = one_begins x (Pointer (type_of_object whole (object_with number program.objects))) (pointer_laid (type_of_object whole (object_with number program.objects)))
    param_begins x (a_local number) known = by_test (is_plain_param whole fun number)
      where
        by_test : (t : Bool) → Begins (if t then object_local whole x number else [])
        by_test true = one_begins x (type_of_object whole (object_with number program.objects)) (object_laid number known)
        by_test false = none_begins
    param_begins x (a_temporary number) known = none_begins

    local_begins : (x : List ℕ) (key : LocalKey) → KeyIsObject program key → Begins (local_by whole fun (body_with whole fun has_dispatch statements) x key)
    local_begins x a_result known = none_begins
    local_begins x (a_passed number) known = none_begins
    local_begins x (a_local number) known = by_test (is_plain_param whole fun number)
      where
        by_test : (t : Bool) → Begins (if t then [] else object_local whole x number)
        by_test true = none_begins
        by_test false = one_begins x (type_of_object whole (object_with number program.objects)) (object_laid number known)
    local_begins x (a_temporary number) known =
        temporary_begins x (slice_get (temporaries_of whole fun) number) (λ one found. among_laid modules (temporaries_of whole fun) one temporaries_laid (among_at (temporaries_of whole fun) number one found))

    dispatch_begins : (t : Bool) → Begins (dispatch_local t)
    dispatch_begins true local (inl same) = subst (λ (l : LocalTree). IsLaid modules l.ty) same (record { laid = _; laid_is = refl; aligned = omega arith })
    dispatch_begins true local (inr none) = absurd none
    dispatch_begins false local none = absurd none

    abbrev names : List LocalName
    names = names_of_body whole fun (body_with whole fun has_dispatch statements)

    keys_known : (n : LocalName) → Among names n → KeyIsObject program n.key
    keys_known =
        let objects = objects_of_stmt (body_of (home_of program None fun.unit) has_body.result fun) [] fun.body has_body.typed_body in
        keys_named program (taken_names program fun.unit) (wanted_in program fun (count_of (temporaries_of whole fun)))
        (two_keys program (wanted_locals program fun) (wanted_temporaries 0 (count_of (temporaries_of whole fun)))
        (two_keys program (if gives_record (form_of_type fun.type) then record { key = a_result; wanted = codes "ret" } ∷ [] else [])
        (wanted_params program fun.params ++ (locals_that (λ one. is_some one.name) program fun ++ locals_that (λ one. is_none one.name) program fun))
        (result_keys (gives_record (form_of_type fun.type)))
        (two_keys program (wanted_params program fun.params) (locals_that (λ one. is_some one.name) program fun ++ locals_that (λ one. is_none one.name) program fun)
        (params_keys program fun.params (all_params program fun.unit fun fun.type typed.type_in typed.definition))
        (two_keys program (locals_that (λ one. is_some one.name) program fun) (locals_that (λ one. is_none one.name) program fun)
        (object_keys program fun (λ one. is_some one.name) objects) (object_keys program fun (λ one. is_none one.name) objects))))
        (temporary_keys program 0 (count_of (temporaries_of whole fun))))
      where
        result_keys : (t : Bool) → AreKeys program (if t then record { key = a_result; wanted = codes "ret" } ∷ [] else [])
        result_keys true one (inl same) = subst (λ (w : WantedLocal). KeyIsObject program w.key) same tt
        result_keys true one (inr none) = absurd none
        result_keys false one none = absurd none

    each_begins : Begins (all_locals tree)
    each_begins local there_too = first (among_cases tree.params tree.locals local there_too)
      where
        in_params : IsFrom (param_of whole fun) names local → IsLaid modules local.ty
        in_params from = param_begins from.from.name from.from.key (keys_known from.from from.there) local from.made

        in_locals : IsFrom (local_of whole fun (body_with whole fun has_dispatch statements)) names local → IsLaid modules local.ty
        in_locals from = local_begins from.from.name from.from.key (keys_known from.from from.there) local from.made

        second : Among (flat_map (local_of whole fun (body_with whole fun has_dispatch statements)) names) local ⊎ Among (dispatch_local has_dispatch) local → IsLaid modules local.ty
        second (inl one) = in_locals (among_flat (local_of whole fun (body_with whole fun has_dispatch statements)) names local one)
        second (inr one) = dispatch_begins has_dispatch local one

        first : Among tree.params local ⊎ Among tree.locals local → IsLaid modules local.ty
        first (inl one) = in_params (among_flat (param_of whole fun) names local one)
        first (inr one) = second (among_cases (flat_map (local_of whole fun (body_with whole fun has_dispatch statements)) names) (dispatch_local has_dispatch) local one)

    -- each has a layout
    pub begins : (local : LocalTree) → Contains (all_locals tree) local → CanBegin s local
    begins local contained =
        let it = each_begins local (contains_among (all_locals tree) local contained) in
        record { laid = it.laid; laid_is = it.laid_is; aligned = it.aligned }
