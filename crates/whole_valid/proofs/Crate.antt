-- The written crate is a crate of the subset (the Rust Reference, "Crates and source files").
use Rattle.std.proofs.Common.{arith, ◌≡◌, ◌<◌, ℕ, zero, suc, ◌+◌, Bool, true, false, ◌&&◌, if◌then◌else◌, List, [], ◌∷◌, ◌++◌, codes, length, filter, map, ◌==◌, Option, Some, None, IsSome, slice_get, refl, sym, ap, subst, ◌∙◌, ◌⊎◌, inl, inr}
use Rattle.std.proofs.lemmas.Bool.{and_from, and_parts}
use Rattle.std.specs.List.{list_all}
use Rattle.std.specs.Option.{option_flatten}
use Rattle.std.specs.Str.{bytes_eq}
use Rattle.cx_core.specs.Layouts.{CRow, layouts_of, row_at}
use Rattle.cx_core.specs.Linked.{main_of, is_main}
use Rattle.cx_core.specs.Trees.{CFun, CProgram, CRecord}
use Rattle.rs_text.specs.Names.{is_module_name}
use Rattle.rs_text.specs.Tree.{ExternItem, FunctionItem, ItemTree, ModuleTree, OuterTree}
use Rattle.rs_text.specs.Valid.{all_differ, are_in_order, ends_with_initialiser, has_entry, is_function, valid_count, valid_crate, valid_item, valid_items, valid_names, valid_outer, valid_record}
use Rattle.cx_core.specs.declared.program.Linkage.{Linkage}
use Rattle.cx_core.specs.declared.program.Linkage.TheVariants.{External, Internal, Nothing}
use Rattle.whole_bodies.specs.Bodies.{ShapeOf, written_bodies}
use Rattle.whole_bodies.specs.Crates.{entry_unit, modules_from}
use Rattle.whole_items.specs.Items.{WrittenBodies, extern_items, function_items, function_tree, record_items, static_items, initialiser_tree, module_tree, outers_of}
use Rattle.whole_means.proofs.Items.{Stands, function_item_there, item_stands, record_written}
use Rattle.whole_means.proofs.Items.Stands.{is_record, is_static, is_extern, is_function as is_function_item, is_initialiser}
use Rattle.whole_means.proofs.Lists.{Among, among_cases, among_filter_in, among_map_in, find_there, texts_same}
use Rattle.whole_means.proofs.Keys.{any_there, key_self, number_self}
use Rattle.whole_means.proofs.Modules.{modules_by, unit_of}
use Rattle.whole_means.proofs.Records.{IsDone, done_in}
use Rattle.whole_means.specs.Written.{IsNamed}
use Rattle.whole_names.specs.Keys.{NameKey, a_function, entries_of, is_entry, module_keys, same_key}
use Rattle.whole_names.specs.Kept.{NamedProgram, name_in}
use Rattle.whole_names.specs.ModuleNames.{GivenName, entry_names, given_from, name_among, name_or, own_names}
use Rattle.whole_valid.proofs.Functions.{function_valid, initialiser_valid}
use Rattle.whole_valid.proofs.Names.{all_of, all_test}
use Rattle.whole_valid.proofs.Order.{functions_are, initialiser_last, items_in_order, records_are, statics_are}
use Rattle.whole_valid.proofs.Outers.{outers_valid}
use Rattle.whole_valid.proofs.Records.{record_valid}
use Rattle.whole_valid.proofs.Statics.{static_valid}
use Rattle.whole_valid.specs.Given.{AreFit, BodyFits, HasModuleNames, HasWords, OutersMayVary}
use Rattle.whole_valid.specs.Laws.{CratesAreValid}

some_same : {A : Type 0} (x y : A) → Some x ≡ Some y → x ≡ y
some_same x y same = cc (same)

-- ---- the modules of units

module_at : (tree : ℕ → ModuleTree) (from left k : ℕ) → k < left → slice_get (modules_by tree from left) k ≡ Some (tree (from + k))
module_at tree from zero k low = absurd (omega (arith, low))
module_at tree from (suc left) zero low = ap (λ n. Some (tree n)) (let e : from ≡ from + 0 = omega arith in e)
module_at tree from (suc left) (suc k) low = module_at tree (suc from) left k (omega (arith, low)) ∙ ap (λ n. Some (tree n)) (let e : suc from + k ≡ from + suc k = omega arith in e)

modules_same : (program : NamedProgram) (shape : ShapeOf) (unit left : ℕ) → modules_from program shape unit left ≡ modules_by (module_tree program (written_bodies program shape)) unit left
modules_same program shape unit zero = refl
modules_same program shape unit (suc left) = ap (λ (rest : List ModuleTree). module_tree program (written_bodies program shape) unit ∷ rest) (modules_same program shape (suc unit) left)

-- ---- the name of the entry

entry_named : (entries : List NameKey) (given : List GivenName) (key : NameKey) → Among entries key → name_among key (entry_names entries ++ given) ≡ Some (codes "main_0")
entry_named [] given key there = absurd there
entry_named (first ∷ entries) given key there = by_test (same_key key first) refl (entry_named entries given key) there
  where
    by_test : (t : Bool) → same_key key first ≡ t → (Among entries key → name_among key (entry_names entries ++ given) ≡ Some (codes "main_0")) → Among (first ∷ entries) key →
        name_among key (entry_names (first ∷ entries) ++ given) ≡ Some (codes "main_0")
    by_test true e more there = ap (λ t. if t then Some (codes "main_0") else name_among key (entry_names entries ++ given)) e
    by_test false e more (inl same) = absurd (let h : false ≡ true = sym e ∙ ap (λ k. same_key key k) same ∙ key_self key in cc)
    by_test false e more (inr rest) = ap (λ t. if t then Some (codes "main_0") else name_among key (entry_names entries ++ given)) e ∙ more rest

external_same : (linkage : Linkage) → Rattle.cx_core.specs.Linked.is_external linkage ≡ true → Rattle.whole_names.specs.Keys.is_external linkage ≡ true
external_same External is = refl
external_same Internal is = absurd cc
external_same Nothing is = absurd cc

main_is_entry : (fun : CFun) → is_main fun ≡ true → is_entry fun ≡ true
main_is_entry fun is =
    let parts = and_parts (bytes_eq fun.name (codes "main")) (Rattle.cx_core.specs.Linked.is_external fun.linkage) is in
    and_from (Rattle.whole_names.specs.Keys.is_external fun.linkage) (bytes_eq fun.name (codes "main")) (external_same fun.linkage parts.1) parts.0

module _ (whole : NamedProgram) (is : IsNamed whole) (words : HasWords whole.program) (vary : OutersMayVary whole.program) (names : HasModuleNames whole.module_names) (bodies : WrittenBodies) where
  abbrev program : CProgram
  program = whole.program

  abbrev modules : List ModuleTree
  modules = modules_by (module_tree whole bodies) 0 (length whole.module_names)

  abbrev ends : ℕ → List ItemTree
  ends unit = FunctionItem (initialiser_tree (bodies.initialiser unit)) ∷ []

  -- a block of external functions isn't empty
  no_empty : (unit : ℕ) → Among (module_tree whole bodies unit).items (ExternItem []) → ⊥
  no_empty unit there = first (among_cases (record_items whole unit) (static_items whole unit ++ (extern_items (outers_of whole unit) ++ (function_items whole bodies unit ++ ends unit))) (ExternItem []) there)
    where
      in_block : (outers : List OuterTree) → Among (extern_items outers) (ExternItem []) → ⊥
      in_block [] there = there
      in_block (one ∷ others) (inl same) = absurd cc
      in_block (one ∷ others) (inr none) = none

      last : Among (ends unit) (ExternItem []) → ⊥
      last (inl same) = absurd cc
      last (inr none) = none

      fourth : Among (function_items whole bodies unit) (ExternItem []) ⊎ Among (ends unit) (ExternItem []) → ⊥
      fourth (inl there) = absurd (let h : 2 ≡ 3 = (functions_are whole bodies unit (ExternItem []) there).kind_is in cc)
      fourth (inr there) = last there

      third : Among (extern_items (outers_of whole unit)) (ExternItem []) ⊎ Among (function_items whole bodies unit ++ ends unit) (ExternItem []) → ⊥
      third (inl there) = in_block (outers_of whole unit) there
      third (inr there) = fourth (among_cases (function_items whole bodies unit) (ends unit) (ExternItem []) there)

      second : Among (static_items whole unit) (ExternItem []) ⊎ Among (extern_items (outers_of whole unit) ++ (function_items whole bodies unit ++ ends unit)) (ExternItem []) → ⊥
      second (inl there) = absurd (let h : 2 ≡ 1 = (statics_are whole bodies unit (ExternItem []) there).kind_is in cc)
      second (inr there) = third (among_cases (extern_items (outers_of whole unit)) (function_items whole bodies unit ++ ends unit) (ExternItem []) there)

      first : Among (record_items whole unit) (ExternItem []) ⊎ Among (static_items whole unit ++ (extern_items (outers_of whole unit) ++ (function_items whole bodies unit ++ ends unit))) (ExternItem []) → ⊥
      first (inl there) = absurd (let h : 2 ≡ 0 = (records_are whole bodies unit (ExternItem []) there).kind_is in cc)
      first (inr there) = second (among_cases (static_items whole unit) (extern_items (outers_of whole unit) ++ (function_items whole bodies unit ++ ends unit)) (ExternItem []) there)

  extern_valid : (unit : ℕ) (outers : List OuterTree) → list_all valid_outer outers ≡ true → Among (module_tree whole bodies unit).items (ExternItem outers) → valid_item (ExternItem outers) ≡ true
  extern_valid unit [] all there = absurd (no_empty unit there)
  extern_valid unit (one ∷ others) all there = all

  record_item_valid : (unit number : ℕ) (one : CRecord) (row : CRow) → IsDone whole unit number → option_flatten (slice_get program.types.records number) ≡ Some one →
      row_at (layouts_of program.types) number ≡ Some row → valid_record (record_written whole unit one row) ≡ true
  record_item_valid unit number one row done found laid =
      let one_same : one ≡ done.one = some_same one done.one (sym found ∙ ap option_flatten done.one_is) in
      let row_same : row ≡ done.row = some_same row done.row (sym laid ∙ done.row_is) in
      ap (λ (r : CRecord). valid_record (record_written whole unit r row)) one_same
      ∙ ap (λ (r : CRow). valid_record (record_written whole unit done.one r)) row_same
      ∙ record_valid whole is words names bodies unit number done

  module _ (fit : AreFit whole modules bodies) where
    item_valid : (unit : ℕ) → unit < length whole.module_names → (item : ItemTree) → Among (module_tree whole bodies unit).items item → Stands whole bodies unit item → valid_item item ≡ true
    item_valid unit low item there (is_record number one row among found laid same) =
        ap valid_item same ∙ record_item_valid unit number one row (done_in whole is unit number among) found laid
    item_valid unit low item there (is_static one puts among here puts_are same) = ap valid_item same ∙ static_valid whole is words names one puts among puts_are
    item_valid unit low item there (is_extern same) =
        ap valid_item same ∙ extern_valid unit (outers_of whole unit) (outers_valid whole is words vary bodies unit)
        (subst (λ (i : ItemTree). Among (module_tree whole bodies unit).items i) same there)
    item_valid unit low item there (is_function_item fun among here same) =
        ap valid_item same
        ∙ function_valid whole is words names modules fun (bodies.of_function fun) (all_of (λ (f : CFun). BodyFits whole modules f (bodies.of_function f)) program.functions fun fit.functions among) among
    item_valid unit low item there (is_initialiser same) = ap valid_item same ∙ initialiser_valid (bodies.initialiser unit) (fit.initialisers unit low).valid

    pub module_valid : (unit : ℕ) → unit < length whole.module_names → valid_items (module_tree whole bodies unit).items ≡ true
    module_valid unit low =
        let items = (module_tree whole bodies unit).items in
        and_from (list_all valid_item items && are_in_order 0 items) (ends_with_initialiser items)
        (and_from (list_all valid_item items) (are_in_order 0 items) (all_test valid_item items (λ item there. item_valid unit low item there (item_stands whole bodies unit item there)))
        (items_in_order whole bodies unit)) (initialiser_last whole bodies unit)

    modules_valid : list_all (λ (unit : ModuleTree). valid_items unit.items) modules ≡ true
    modules_valid = all_test (λ (unit : ModuleTree). valid_items unit.items) modules (λ one there.
        let of = unit_of (module_tree whole bodies) 0 (length whole.module_names) one there in
        let high = of.high in
        ap (λ (m : ModuleTree). valid_items m.items) (sym of.is) ∙ module_valid of.unit (omega (arith, high)))

    -- ---- their names

    names_same : (rest : List (List ℕ)) (unit : ℕ) → ((k : ℕ) → slice_get whole.module_names (unit + k) ≡ slice_get rest k) →
        map (λ (m : ModuleTree). m.name) (modules_by (module_tree whole bodies) unit (length rest)) ≡ rest
    names_same [] unit each = refl
    names_same (x ∷ rest) unit each =
        ap (λ (found : Option (List ℕ)). name_or [] found ∷ map (λ (m : ModuleTree). m.name) (modules_by (module_tree whole bodies) (suc unit) (length rest)))
        (ap (slice_get whole.module_names) (let e : unit ≡ unit + 0 = omega arith in e) ∙ each 0)
        ∙ ap (λ (others : List (List ℕ)). x ∷ others) (names_same rest (suc unit) (λ k. ap (slice_get whole.module_names) (let e : suc unit + k ≡ unit + suc k = omega arith in e) ∙ each (suc k)))

    abbrev module_names : List (List ℕ)
    module_names = map (λ (m : ModuleTree). m.name) modules

    names_are : module_names ≡ whole.module_names
    names_are = names_same whole.module_names 0 (λ k. ap (slice_get whole.module_names) (let e : 0 + k ≡ k = omega arith in e))

    names_valid : valid_names module_names ≡ true
    names_valid =
        ap valid_names names_are
        ∙ and_from (valid_count (length whole.module_names) && list_all is_module_name whole.module_names) (all_differ whole.module_names)
        (and_from (valid_count (length whole.module_names)) (list_all is_module_name whole.module_names) names.count names.named) is.modules_differ

    -- ---- the entry

    entry_there : (found : Option CFun) → main_of program ≡ found → IsSome found → has_entry (slice_get modules (entry_unit found)) ≡ true
    entry_there None e some = absurd cc
    entry_there (Some fun) e some =
        let main = find_there is_main program.functions fun e in
        let low = all_of (λ (f : CFun). f.unit < length whole.module_names) program.functions fun is.functions_here main.0 in
        let key = a_function fun.function in
        let item : ItemTree = FunctionItem (function_tree whole fun (bodies.of_function fun)) in
        let among : Among (entries_of program fun.unit) key =
        among_map_in (λ (one : CFun). a_function one.function) (filter (λ (one : CFun). one.unit == fun.unit && is_entry one) program.functions) fun
        (among_filter_in (λ (one : CFun). one.unit == fun.unit && is_entry one) program.functions fun main.0
        (and_from (fun.unit == fun.unit) (is_entry fun) (number_self fun.unit) (main_is_entry fun main.1))) in
        let named : name_in whole fun.unit key ≡ codes "main_0" = ap (name_or []) (entry_named (entries_of program fun.unit) (given_from program own_names (module_keys program fun.unit)) key among) in
        ap has_entry (module_at (module_tree whole bodies) 0 (length whole.module_names) fun.unit low ∙ ap (λ n. Some (module_tree whole bodies n)) (let e : 0 + fun.unit ≡ fun.unit = omega arith in e))
        ∙ any_there (is_function (codes "main_0")) (module_tree whole bodies fun.unit).items item (function_item_there whole bodies fun.unit fun main.0 refl)
        (ap (λ x. bytes_eq x (codes "main_0")) named ∙ texts_same (codes "main_0"))

    pub crate_valid : valid_crate (record { modules = modules; entry = entry_unit (main_of program) }) ≡ true
    crate_valid =
        and_from (valid_names module_names && list_all (λ (unit : ModuleTree). valid_items unit.items) modules) (has_entry (slice_get modules (entry_unit (main_of program))))
        (and_from (valid_names module_names) (list_all (λ (unit : ModuleTree). valid_items unit.items) modules) names_valid modules_valid)
        (entry_there (main_of program) refl is.linked.main_defined)

-- the crate of a linked program whose bodies fit
pub crates_are_valid : CratesAreValid
crates_are_valid whole shape is words vary names fit =
    let same = modules_same whole shape 0 (length whole.module_names) in
    ap (λ (modules : List ModuleTree). valid_crate (record { modules = modules; entry = entry_unit (main_of whole.program) })) same
    ∙ crate_valid whole is words vary names (written_bodies whole shape) (subst (λ (modules : List ModuleTree). AreFit whole modules (written_bodies whole shape)) same fit)
