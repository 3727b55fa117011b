-- Functions are found by their names: those that the program defines, and external ones where a unit declares them.
use Rattle.std.proofs.Common.{◌≡◌, ℕ, ◌==◌, true, false, List, [], ◌∷◌, map, Some, refl, sym, ap, subst, ◌∙◌, inl, inr, eqb}
use Rattle.std.specs.List.{flat_map}
use Rattle.std.specs.Str.{bytes_eq}
use Rattle.cx_core.specs.Trees.{CTyForm, void, basic, enum_type, pointer, array, record_type, function, CFun, COuter, CProgram, form_of_type}
use Rattle.cx_core.specs.Typing.{function_with, outer_with}
use Rattle.rs_mean.specs.Lookups.{Callee, outer, own, callee_among, callee_name, callees_of}
use Rattle.rs_text.specs.Tree.{FunctionItem, FunctionTree, ExternItem, ItemTree, OuterTree}
use Rattle.whole_items.specs.Items.{WrittenBodies, function_tree, initialiser_tree, module_tree, outer_of_form, outers_of, without_params}
use Rattle.whole_means.proofs.Items.{IsOuter, Stands, extern_item_there, function_item_there, item_stands, outer_stands}
use Rattle.whole_means.proofs.Items.IsOuter.{declared, calloc, bare}
use Rattle.whole_means.proofs.Items.Stands.{is_record, is_static, is_extern, is_function, is_initialiser}
use Rattle.whole_means.proofs.Keys.{distinct_front, key_self, keys_apart, no_initialiser, number_same, number_self}
use Rattle.whole_means.proofs.Lists.{Among, among_flat, among_flat_in, among_map, among_map_in, find_only, find_there, texts_equal, texts_same}
use Rattle.whole_means.proofs.Named.{HasName, key_named}
use Rattle.whole_means.proofs.Things.{function_named, function_there}
use Rattle.whole_means.specs.Written.{IsNamed}
use Rattle.whole_names.specs.Keys.{NameKey, a_function, a_calloc, a_bare_function, module_keys, same_key}
use Rattle.whole_names.specs.Kept.{NamedProgram, name_in}

outer_name : (whole : NamedProgram) (symbol name : List ℕ) (form : CTyForm) (tree : OuterTree) → Among (outer_of_form whole symbol name form) tree → tree.name ≡ name
outer_name whole symbol name (function result params variadic) tree (inl same) = sym (ap (λ (t : OuterTree). t.name) same)
outer_name whole symbol name (function result params variadic) tree (inr none) = absurd none
outer_name whole symbol name void tree there = absurd there
outer_name whole symbol name (basic which) tree there = absurd there
outer_name whole symbol name (enum_type number) tree there = absurd there
outer_name whole symbol name (pointer to) tree there = absurd there
outer_name whole symbol name (array element size) tree there = absurd there
outer_name whole symbol name (record_type number) tree there = absurd there

one_outer : (whole : NamedProgram) (symbol name : List ℕ) (form : CTyForm) (t u : OuterTree) → Among (outer_of_form whole symbol name form) t → Among (outer_of_form whole symbol name form) u → t ≡ u
one_outer whole symbol name (function result params variadic) t u (inl same) (inl equal) = sym same ∙ equal
one_outer whole symbol name (function result params variadic) t u (inl same) (inr none) = absurd none
one_outer whole symbol name (function result params variadic) t u (inr none) there = absurd none
one_outer whole symbol name void t u there also = absurd there
one_outer whole symbol name (basic which) t u there also = absurd there
one_outer whole symbol name (enum_type number) t u there also = absurd there
one_outer whole symbol name (pointer to) t u there also = absurd there
one_outer whole symbol name (array element size) t u there also = absurd there
one_outer whole symbol name (record_type number) t u there also = absurd there

pub function_number_same : (n m : ℕ) → a_function n ≡ a_function m → n ≡ m
function_number_same n m same = number_same n m (ap (λ k. same_key (a_function n) k) (sym same) ∙ key_self (a_function n))

bare_number_same : (n m : ℕ) → a_bare_function n ≡ a_bare_function m → n ≡ m
bare_number_same n m same = number_same n m (ap (λ k. same_key (a_bare_function n) k) (sym same) ∙ key_self (a_bare_function n))

module _ (whole : NamedProgram) (is : IsNamed whole) (bodies : WrittenBodies) where
  abbrev program : CProgram
  program = whole.program

  -- a function that is defined isn't one that is only declared
  defined_or_declared : (f : CFun) (number : ℕ) (one : COuter) → Among program.functions f → outer_with number program.externals ≡ Some one → number ≡ f.function → ⊥
  defined_or_declared f number one there found same =
      let declared_there = find_there (λ (o : COuter). o.function == number) program.externals one found in
      let apart : eqb f.function one.function ≡ false =
      distinct_front eqb (map (λ (g : CFun). g.function) program.functions) (map (λ (o : COuter). o.function) program.externals) f.function one.function
      is.linked.numbers.functions_differ (among_map_in (λ (g : CFun). g.function) program.functions f there) (among_map_in (λ (o : COuter). o.function) program.externals one declared_there.0) in
      let equal : f.function ≡ one.function = sym (number_same one.function number declared_there.1 ∙ same) in
      let h : false ≡ true = sym apart ∙ ap (λ n. eqb n one.function) equal ∙ number_self one.function in
      absurd cc

  module _ (unit : ℕ) where
    -- the key of an external function
    abbrev key_of : (tree : OuterTree) → IsOuter whole bodies unit tree → NameKey
    key_of tree (declared number one there found so among) = a_function number
    key_of tree (calloc there same) = a_calloc
    key_of tree (bare number one full there found among same) = a_bare_function number

    key_there : (tree : OuterTree) (of : IsOuter whole bodies unit tree) → Among (module_keys program unit) (key_of tree of)
    key_there tree (declared number one there found so among) = there
    key_there tree (calloc there same) = there
    key_there tree (bare number one full there found among same) = there

    key_name : (tree : OuterTree) (of : IsOuter whole bodies unit tree) → tree.name ≡ name_in whole unit (key_of tree of)
    key_name tree (declared number one there found so among) = outer_name whole one.name (name_in whole unit (a_function number)) (form_of_type one.type) tree among
    key_name tree (calloc there same) = ap (λ (t : OuterTree). t.name) same
    key_name tree (bare number one full there found among same) =
        ap (λ (t : OuterTree). t.name) (sym same) ∙ outer_name whole one.name (name_in whole unit (a_bare_function number)) (form_of_type one.type) full among

    key_apart : (tree : OuterTree) (of : IsOuter whole bodies unit tree) (f : CFun) → Among program.functions f → key_of tree of ≡ a_function f.function → ⊥
    key_apart tree (declared number one there found so among) f defined same = defined_or_declared f number one defined found (function_number_same number f.function same)
    key_apart tree (calloc there same) f defined equal = absurd cc
    key_apart tree (bare number one full there found among same) f defined equal = absurd cc

    same_outer : (t u : OuterTree) (a : IsOuter whole bodies unit t) (b : IsOuter whole bodies unit u) → key_of t a ≡ key_of u b → t ≡ u
    same_outer t u (declared n one there found so among) (declared m other there_too found_too so_too among_too) same =
        let number : n ≡ m = function_number_same n m same in
        let which : Some one ≡ Some other = sym found ∙ ap (λ k. outer_with k program.externals) number ∙ found_too in
        let equal : one ≡ other = cc (which) in
        one_outer whole other.name (name_in whole unit (a_function m)) (form_of_type other.type) t u
        (subst (λ (o : COuter). Among (outer_of_form whole o.name (name_in whole unit (a_function m)) (form_of_type o.type)) t) equal
        (subst (λ k. Among (outer_of_form whole one.name (name_in whole unit (a_function k)) (form_of_type one.type)) t) number among)) among_too
    same_outer t u (declared n one there found so among) (calloc there_too same_too) same = absurd cc
    same_outer t u (declared n one there found so among) (bare m other full there_too found_too among_too same_too) same = absurd cc
    same_outer t u (calloc there equal) (declared m other there_too found_too so_too among_too) same = absurd cc
    same_outer t u (calloc there equal) (calloc there_too equal_too) same = equal ∙ sym equal_too
    same_outer t u (calloc there equal) (bare m other full there_too found_too among_too same_too) same = absurd cc
    same_outer t u (bare n one full there found among equal) (declared m other there_too found_too so_too among_too) same = absurd cc
    same_outer t u (bare n one full there found among equal) (calloc there_too same_too) same = absurd cc
    same_outer t u (bare n one full there found among equal) (bare m other full_too there_too found_too among_too equal_too) same =
        let number : n ≡ m = bare_number_same n m same in
        let which : Some one ≡ Some other = sym found ∙ ap (λ k. outer_with k program.externals) number ∙ found_too in
        let same_one : one ≡ other = cc (which) in
        sym equal
        ∙ ap without_params
        (one_outer whole other.name (name_in whole unit (a_bare_function m)) (form_of_type other.type) full full_too
        (subst (λ (o : COuter). Among (outer_of_form whole o.name (name_in whole unit (a_bare_function m)) (form_of_type o.type)) full) same_one
        (subst (λ k. Among (outer_of_form whole one.name (name_in whole unit (a_bare_function k)) (form_of_type one.type)) full) number among)) among_too)
        ∙ equal_too

    -- what can be called in a module
    data CalleeIs (callee : Callee) : Type 0 where
      of_function : (f : CFun) → Among program.functions f → f.unit ≡ unit → callee ≡ own (function_tree whole f (bodies.of_function f)) → CalleeIs callee
      of_initialiser : callee ≡ own (initialiser_tree (bodies.initialiser unit)) → CalleeIs callee
      of_outer : (tree : OuterTree) → Among (outers_of whole unit) tree → callee ≡ outer tree → CalleeIs callee

    abbrev items : List ItemTree
    items = (module_tree whole bodies unit).items

    callee_in : (item : ItemTree) (callee : Callee) → Stands whole bodies unit item → Among (callees_of item) callee → CalleeIs callee
    callee_in item callee (is_record number one row done found laid same) there = absurd (subst (λ (i : ItemTree). Among (callees_of i) callee) same there)
    callee_in item callee (is_static one puts among here found same) there = absurd (subst (λ (i : ItemTree). Among (callees_of i) callee) same there)
    callee_in item callee (is_extern same) there =
        let one = among_map outer (outers_of whole unit) callee (subst (λ (i : ItemTree). Among (callees_of i) callee) same there) in
        of_outer one.0 one.1 (sym one.2)
    callee_in item callee (is_function f among here same) there = by_place (subst (λ (i : ItemTree). Among (callees_of i) callee) same there)
      where
        by_place : Among (own (function_tree whole f (bodies.of_function f)) ∷ []) callee → CalleeIs callee
        by_place (inl is_it) = of_function f among here (sym is_it)
        by_place (inr none) = absurd none
    callee_in item callee (is_initialiser same) there = by_place (subst (λ (i : ItemTree). Among (callees_of i) callee) same there)
      where
        by_place : Among (own (initialiser_tree (bodies.initialiser unit)) ∷ []) callee → CalleeIs callee
        by_place (inl is_it) = of_initialiser (sym is_it)
        by_place (inr none) = absurd none

    callee_is : (callee : Callee) → Among (flat_map callees_of items) callee → CalleeIs callee
    callee_is callee there =
        let one = among_flat callees_of items callee there in callee_in one.from callee (item_stands whole bodies unit one.from one.there) one.made

    -- two names of the module that are equal are those of one key
    pub one_key : (key other : NameKey) → HasName whole unit key → HasName whole unit other → name_in whole unit key ≡ name_in whole unit other → key ≡ other
    one_key key other first second same = keys_apart whole is unit key other (name_in whole unit other) (first.name_is ∙ ap Some same) second.name_is

    pub same_function : (f g : CFun) → Among program.functions f → Among program.functions g → g.function ≡ f.function → g ≡ f
    same_function f g there also same =
        let found : Some g ≡ Some f = sym (function_there whole is g also) ∙ ap (λ n. function_with n program.functions) same ∙ function_there whole is f there in cc (found)

    module _ (f : CFun) (there : Among program.functions f) (here : f.unit ≡ unit) where
      abbrev its_name : List ℕ
      its_name = name_in whole unit (a_function f.function)

      its_key : HasName whole unit (a_function f.function)
      its_key = subst (λ n. HasName whole n (a_function f.function)) here (function_named whole is f there)

      abbrev its_tree : FunctionTree
      its_tree = function_tree whole f (bodies.of_function f)

      -- only the function has its name
      named_alone : (callee : Callee) → CalleeIs callee → callee_name callee ≡ its_name → callee ≡ own its_tree
      named_alone callee (of_function g among at same) named =
          let name : name_in whole unit (a_function g.function) ≡ its_name = ap (λ n. name_in whole n (a_function g.function)) (sym at) ∙ ap callee_name (sym same) ∙ named in
          let key = one_key (a_function g.function) (a_function f.function) (subst (λ n. HasName whole n (a_function g.function)) at (function_named whole is g among)) its_key name in
          same ∙ ap (λ (h : CFun). own (function_tree whole h (bodies.of_function h))) (same_function f g there among (function_number_same g.function f.function key))
      named_alone callee (of_initialiser same) named =
          absurd (no_initialiser whole is unit (a_function f.function) (its_key.name_is ∙ ap Some (sym (ap callee_name (sym same) ∙ named))))
      named_alone callee (of_outer tree among same) named =
          let of = outer_stands whole bodies unit tree among in
          let name : name_in whole unit (key_of tree of) ≡ its_name = sym (key_name tree of) ∙ ap callee_name (sym same) ∙ named in
          absurd (key_apart tree of f there (one_key (key_of tree of) (a_function f.function) (key_named whole unit (key_of tree of) (key_there tree of)) its_key name))

      pub function_among : callee_among its_name items ≡ Some (own its_tree)
      function_among =
          find_only (λ callee. bytes_eq (callee_name callee) its_name) (flat_map callees_of items) (own its_tree)
          (among_flat_in callees_of items (FunctionItem its_tree) (own its_tree) (function_item_there whole bodies unit f there here) (inl refl))
          (ap (λ x. bytes_eq x its_name) (ap (λ n. name_in whole n (a_function f.function)) here) ∙ texts_same its_name)
          (λ callee among named. named_alone callee (callee_is callee among) (texts_equal (callee_name callee) its_name named))

    -- an external function is found where its module declares it
    pub outer_among : (tree : OuterTree) → Among (outers_of whole unit) tree → callee_among tree.name items ≡ Some (outer tree)
    outer_among tree there =
        find_only (λ callee. bytes_eq (callee_name callee) tree.name) (flat_map callees_of items) (outer tree)
        (among_flat_in callees_of items (ExternItem (outers_of whole unit)) (outer tree) (extern_item_there whole bodies unit tree there) (among_map_in outer (outers_of whole unit) tree there))
        (texts_same tree.name) (λ callee among named. alone callee (callee_is callee among) (texts_equal (callee_name callee) tree.name named))
      where
        of : IsOuter whole bodies unit tree
        of = outer_stands whole bodies unit tree there

        alone : (callee : Callee) → CalleeIs callee → callee_name callee ≡ tree.name → callee ≡ outer tree
        alone callee (of_function g among at same) named =
            let name : name_in whole unit (key_of tree of) ≡ name_in whole unit (a_function g.function) =
            sym (key_name tree of) ∙ sym named ∙ ap callee_name same ∙ ap (λ n. name_in whole n (a_function g.function)) at in
            absurd (key_apart tree of g among
            (one_key (key_of tree of) (a_function g.function) (key_named whole unit (key_of tree of) (key_there tree of))
            (subst (λ n. HasName whole n (a_function g.function)) at (function_named whole is g among)) name))
        alone callee (of_initialiser same) named =
            let key = key_named whole unit (key_of tree of) (key_there tree of) in
            absurd (no_initialiser whole is unit (key_of tree of) (key.name_is ∙ ap Some (sym (key_name tree of) ∙ sym named ∙ ap callee_name same)))
        alone callee (of_outer other among same) named =
            let other_of = outer_stands whole bodies unit other among in
            let name : name_in whole unit (key_of other other_of) ≡ name_in whole unit (key_of tree of) = sym (key_name other other_of) ∙ ap callee_name (sym same) ∙ named ∙ key_name tree of in
            same ∙ ap outer (same_outer other tree other_of of
            (one_key (key_of other other_of) (key_of tree of) (key_named whole unit (key_of other other_of) (key_there other other_of)) (key_named whole unit (key_of tree of) (key_there tree of)) name))
