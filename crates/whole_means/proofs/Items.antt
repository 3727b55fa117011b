-- What stands in the module of a unit.
use Rattle.std.proofs.Common.{◌≡◌, ℕ, ◌==◌, Bool, true, false, if◌then◌else◌, List, [], ◌∷◌, ◌++◌, map, Option, Some, None, slice_get, refl, sym, ap, subst, ◌∙◌, ◌⊎◌, inl, inr}
use Rattle.std.specs.Option.{option_flatten}
use Rattle.cx_core.specs.Layouts.{CRow, layouts_of, row_at}
use Rattle.cx_core.specs.Trees.{CFun, CObject, COuter, CPuts, CRecord, CProgram, form_of_type}
use Rattle.cx_core.specs.Typing.{outer_with}
use Rattle.rs_items.specs.Records.{record_tree}
use Rattle.rs_items.specs.Types.{rust_type}
use Rattle.rs_text.specs.Tree.{FunctionItem, ExternItem, ItemTree, OuterTree, RecordItem, RecordTree, StaticItem, StaticTree}
use Rattle.whole_items.specs.Items.{WrittenBodies, attribute_of, calloc_outer, extern_items, function_items, function_of_unit, function_tree, initialiser_tree, is_declared, module_tree, outer_if, outer_of, outer_of_form, outers_of, outers_of_key, record_items, record_items_of, record_with_row, static_items, static_of, static_with, values_of, without_params}
use Rattle.whole_means.proofs.Keys.{number_self, number_same}
use Rattle.whole_means.proofs.Lists.{Among, among_cases, among_flat, among_flat_in, among_left, among_map, among_right}
use Rattle.whole_names.specs.Keys.{NameKey, a_function, an_object, a_record, a_calloc, a_bare_function, module_keys, order_of}
use Rattle.whole_names.specs.Kept.{NamedProgram, known_thing, name_in, no_locals, types_of}
use Rattle.whole_names.specs.ModuleNames.{name_or}

-- the static object of the crate for one of C
abbrev pub static_tree : NamedProgram → CObject → CPuts → StaticTree
static_tree whole one puts = record {
  attribute = attribute_of one.linkage (name_or [] one.name) (name_in whole one.unit (an_object one.object));
  name = name_in whole one.unit (an_object one.object);
  ty = rust_type (types_of whole) one.type;
  values = values_of one.is_text puts;
}

-- the record of the crate for a structure or union
abbrev pub record_written : NamedProgram → (unit : ℕ) → CRecord → CRow → RecordTree
record_written whole unit one row = record_tree (known_thing whole unit no_locals) one row.spots row.laid.align

module _ (whole : NamedProgram) (bodies : WrittenBodies) (unit : ℕ) where
  abbrev program : CProgram
  program = whole.program

  -- what an item is
  pub data Stands (item : ItemTree) : Type 0 where
    is_record : (number : ℕ) (one : CRecord) (row : CRow) → Among (order_of program unit).completed number → option_flatten (slice_get program.types.records number) ≡ Some one →
        row_at (layouts_of program.types) number ≡ Some row → item ≡ RecordItem (record_written whole unit one row) → Stands item
    is_static : (one : CObject) (puts : CPuts) → Among program.objects one → one.unit ≡ unit → one.puts ≡ Some puts → item ≡ StaticItem (static_tree whole one puts) → Stands item
    is_extern : item ≡ ExternItem (outers_of whole unit) → Stands item
    is_function : (f : CFun) → Among program.functions f → f.unit ≡ unit → item ≡ FunctionItem (function_tree whole f (bodies.of_function f)) → Stands item
    is_initialiser : item ≡ FunctionItem (initialiser_tree (bodies.initialiser unit)) → Stands item

  record_stands : (number : ℕ) (found : Option CRecord) (row : Option CRow) (item : ItemTree) → Among (order_of program unit).completed number →
      option_flatten (slice_get program.types.records number) ≡ found → row_at (layouts_of program.types) number ≡ row → Among (record_items_of whole unit number found) item → Stands item
  record_stands number None row item done is laid there = absurd there
  record_stands number (Some one) None item done is laid there =
      absurd (subst (λ (items : List ItemTree). Among items item) (ap (record_with_row whole number unit one) laid) there)
  record_stands number (Some one) (Some row) item done is laid there = by_place (subst (λ (items : List ItemTree). Among items item) (ap (record_with_row whole number unit one) laid) there)
    where
      by_place : Among (record_with_row whole number unit one (Some row)) item → Stands item
      by_place (inl same) = is_record number one row done is laid (sym same)
      by_place (inr none) = absurd none

  static_stands : (one : CObject) (puts : Option CPuts) (item : ItemTree) → Among program.objects one → one.unit ≡ unit → one.puts ≡ puts → Among (static_with whole one puts) item → Stands item
  static_stands one None item among here is there = absurd there
  static_stands one (Some puts) item among here is (inl same) = is_static one puts among here is (sym same)
  static_stands one (Some puts) item among here is (inr none) = absurd none

  static_of_unit : (one : CObject) (t : Bool) (item : ItemTree) → (one.unit == unit) ≡ t → Among program.objects one → Among (static_of whole unit one) item → Stands item
  static_of_unit one true item e among there =
      static_stands one one.puts item among (number_same one.unit unit e) refl
      (subst (λ (items : List ItemTree). Among items item) (ap (λ t. if t then static_with whole one one.puts else []) e) there)
  static_of_unit one false item e among there = absurd (subst (λ (items : List ItemTree). Among items item) (ap (λ t. if t then static_with whole one one.puts else []) e) there)

  extern_stands : (outers : List OuterTree) (item : ItemTree) → outers_of whole unit ≡ outers → Among (extern_items outers) item → Stands item
  extern_stands [] item is there = absurd there
  extern_stands (one ∷ others) item is (inl same) = is_extern (sym same ∙ ap ExternItem (sym is))
  extern_stands (one ∷ others) item is (inr none) = absurd none

  function_stands : (f : CFun) (t : Bool) (item : ItemTree) → (f.unit == unit) ≡ t → Among program.functions f → Among (function_of_unit whole bodies unit f) item → Stands item
  function_stands f true item e among there = by_place (subst (λ (items : List ItemTree). Among items item) (ap (λ t. if t then FunctionItem (function_tree whole f (bodies.of_function f)) ∷ [] else []) e) there)
    where
      by_place : Among (FunctionItem (function_tree whole f (bodies.of_function f)) ∷ []) item → Stands item
      by_place (inl same) = is_function f among (number_same f.unit unit e) (sym same)
      by_place (inr none) = absurd none
  function_stands f false item e among there =
      absurd (subst (λ (items : List ItemTree). Among items item) (ap (λ t. if t then FunctionItem (function_tree whole f (bodies.of_function f)) ∷ [] else []) e) there)

  abbrev ends : List ItemTree
  ends = FunctionItem (initialiser_tree (bodies.initialiser unit)) ∷ []

  end_stands : (item : ItemTree) → Among ends item → Stands item
  end_stands item (inl same) = is_initialiser (sym same)
  end_stands item (inr none) = absurd none

  -- each item is one of these
  pub item_stands : (item : ItemTree) → Among (module_tree whole bodies unit).items item → Stands item
  item_stands item there = first (among_cases (record_items whole unit) (static_items whole unit ++ (extern_items (outers_of whole unit) ++ (function_items whole bodies unit ++ ends))) item there)
    where
      fourth : Among (function_items whole bodies unit) item ⊎ Among ends item → Stands item
      fourth (inl there) =
          let one = among_flat (function_of_unit whole bodies unit) program.functions item there in function_stands one.from (one.from.unit == unit) item refl one.there one.made
      fourth (inr there) = end_stands item there

      third : Among (extern_items (outers_of whole unit)) item ⊎ Among (function_items whole bodies unit ++ ends) item → Stands item
      third (inl there) = extern_stands (outers_of whole unit) item refl there
      third (inr there) = fourth (among_cases (function_items whole bodies unit) ends item there)

      second : Among (static_items whole unit) item ⊎ Among (extern_items (outers_of whole unit) ++ (function_items whole bodies unit ++ ends)) item → Stands item
      second (inl there) = let one = among_flat (static_of whole unit) program.objects item there in static_of_unit one.from (one.from.unit == unit) item refl one.there one.made
      second (inr there) = third (among_cases (extern_items (outers_of whole unit)) (function_items whole bodies unit ++ ends) item there)

      first : Among (record_items whole unit) item ⊎ Among (static_items whole unit ++ (extern_items (outers_of whole unit) ++ (function_items whole bodies unit ++ ends))) item → Stands item
      first (inl there) =
          let one = among_flat (λ number. record_items_of whole unit number (option_flatten (slice_get program.types.records number))) (order_of program unit).completed item there in
          record_stands one.from (option_flatten (slice_get program.types.records one.from)) (row_at (layouts_of program.types) one.from) item one.there refl refl one.made
      first (inr there) = second (among_cases (static_items whole unit) (extern_items (outers_of whole unit) ++ (function_items whole bodies unit ++ ends)) item there)

  -- ---- and these are there

  pub function_item_there : (f : CFun) → Among program.functions f → f.unit ≡ unit → Among (module_tree whole bodies unit).items (FunctionItem (function_tree whole f (bodies.of_function f)))
  function_item_there f there here =
      let item : ItemTree = FunctionItem (function_tree whole f (bodies.of_function f)) in
      let test : (f.unit == unit) ≡ true = ap (λ n. n == unit) here ∙ number_self unit in
      let made : Among (function_of_unit whole bodies unit f) item =
      subst (λ (items : List ItemTree). Among items item) (sym (ap (λ t. if t then FunctionItem (function_tree whole f (bodies.of_function f)) ∷ [] else []) test)) (inl refl) in
      among_right (record_items whole unit) (static_items whole unit ++ (extern_items (outers_of whole unit) ++ (function_items whole bodies unit ++ ends))) item
      (among_right (static_items whole unit) (extern_items (outers_of whole unit) ++ (function_items whole bodies unit ++ ends)) item
      (among_right (extern_items (outers_of whole unit)) (function_items whole bodies unit ++ ends) item
      (among_left (function_items whole bodies unit) ends item (among_flat_in (function_of_unit whole bodies unit) program.functions f item there made))))

  pub static_item_there : (o : CObject) (puts : CPuts) → Among program.objects o → o.unit ≡ unit → o.puts ≡ Some puts → Among (module_tree whole bodies unit).items (StaticItem (static_tree whole o puts))
  static_item_there o puts there here is =
      let item : ItemTree = StaticItem (static_tree whole o puts) in
      let test : (o.unit == unit) ≡ true = ap (λ n. n == unit) here ∙ number_self unit in
      let made : Among (static_of whole unit o) item =
      subst (λ (items : List ItemTree). Among items item) (sym (ap (λ t. if t then static_with whole o o.puts else []) test ∙ ap (static_with whole o) is)) (inl refl) in
      among_right (record_items whole unit) (static_items whole unit ++ (extern_items (outers_of whole unit) ++ (function_items whole bodies unit ++ ends))) item
      (among_left (static_items whole unit) (extern_items (outers_of whole unit) ++ (function_items whole bodies unit ++ ends)) item
      (among_flat_in (static_of whole unit) program.objects o item there made))

  pub record_item_there : (number : ℕ) (one : CRecord) (row : CRow) → Among (order_of program unit).completed number → option_flatten (slice_get program.types.records number) ≡ Some one →
      row_at (layouts_of program.types) number ≡ Some row → Among (module_tree whole bodies unit).items (RecordItem (record_written whole unit one row))
  record_item_there number one row done is laid =
      let item : ItemTree = RecordItem (record_written whole unit one row) in
      let made : Among (record_items_of whole unit number (option_flatten (slice_get program.types.records number))) item =
      subst (λ (items : List ItemTree). Among items item) (sym (ap (record_items_of whole unit number) is ∙ ap (record_with_row whole number unit one) laid)) (inl refl) in
      among_left (record_items whole unit) (static_items whole unit ++ (extern_items (outers_of whole unit) ++ (function_items whole bodies unit ++ ends))) item
      (among_flat_in (λ n. record_items_of whole unit n (option_flatten (slice_get program.types.records n))) (order_of program unit).completed number item done made)

  extern_there : (outers : List OuterTree) (tree : OuterTree) → Among outers tree → Among (extern_items outers) (ExternItem outers)
  extern_there [] tree there = absurd there
  extern_there (one ∷ others) tree there = inl refl

  pub extern_item_there : (tree : OuterTree) → Among (outers_of whole unit) tree → Among (module_tree whole bodies unit).items (ExternItem (outers_of whole unit))
  extern_item_there tree there =
      let item : ItemTree = ExternItem (outers_of whole unit) in
      among_right (record_items whole unit) (static_items whole unit ++ (extern_items (outers_of whole unit) ++ (function_items whole bodies unit ++ ends))) item
      (among_right (static_items whole unit) (extern_items (outers_of whole unit) ++ (function_items whole bodies unit ++ ends)) item
      (among_left (extern_items (outers_of whole unit)) (function_items whole bodies unit ++ ends) item (extern_there (outers_of whole unit) tree there)))

  -- ---- external functions

  -- what an external function of the module is
  pub data IsOuter (tree : OuterTree) : Type 0 where
    declared : (number : ℕ) (one : COuter) → Among (module_keys program unit) (a_function number) → outer_with number program.externals ≡ Some one → is_declared whole unit one ≡ true →
        Among (outer_of_form whole one.name (name_in whole unit (a_function number)) (form_of_type one.type)) tree → IsOuter tree
    calloc : Among (module_keys program unit) a_calloc → tree ≡ calloc_outer (name_in whole unit a_calloc) → IsOuter tree
    bare : (number : ℕ) (one : COuter) (full : OuterTree) → Among (module_keys program unit) (a_bare_function number) → outer_with number program.externals ≡ Some one →
        Among (outer_of_form whole one.name (name_in whole unit (a_bare_function number)) (form_of_type one.type)) full → without_params full ≡ tree → IsOuter tree

  declared_by : (number : ℕ) (found : Option COuter) (tree : OuterTree) → Among (module_keys program unit) (a_function number) → outer_with number program.externals ≡ found →
      Among (outer_if whole unit (a_function number) found) tree → IsOuter tree
  declared_by number None tree key is there = absurd there
  declared_by number (Some one) tree key is there = by_test (is_declared whole unit one) refl
    where
      by_test : (t : Bool) → is_declared whole unit one ≡ t → IsOuter tree
      by_test true e = declared number one key is e
          (subst (λ (outers : List OuterTree). Among outers tree) (ap (λ t. if t then outer_of whole unit (a_function number) (Some one) else []) e) there)
      by_test false e = absurd (subst (λ (outers : List OuterTree). Among outers tree) (ap (λ t. if t then outer_of whole unit (a_function number) (Some one) else []) e) there)

  bare_by : (number : ℕ) (found : Option COuter) (tree : OuterTree) → Among (module_keys program unit) (a_bare_function number) → outer_with number program.externals ≡ found →
      Among (map without_params (outer_of whole unit (a_bare_function number) found)) tree → IsOuter tree
  bare_by number None tree key is there = absurd there
  bare_by number (Some one) tree key is there =
      let full = among_map without_params (outer_of_form whole one.name (name_in whole unit (a_bare_function number)) (form_of_type one.type)) tree there in
      bare number one full.0 key is full.1 full.2

  outer_by : (key : NameKey) (tree : OuterTree) → Among (module_keys program unit) key → Among (outers_of_key whole unit key) tree → IsOuter tree
  outer_by (a_function number) tree key there = declared_by number (outer_with number program.externals) tree key refl there
  outer_by (an_object number) tree key there = absurd there
  outer_by (a_record number) tree key there = absurd there
  outer_by a_calloc tree key (inl same) = calloc key (sym same)
  outer_by a_calloc tree key (inr none) = absurd none
  outer_by (a_bare_function number) tree key there = bare_by number (outer_with number program.externals) tree key refl there

  pub outer_stands : (tree : OuterTree) → Among (outers_of whole unit) tree → IsOuter tree
  outer_stands tree there = let one = among_flat (outers_of_key whole unit) (module_keys program unit) tree there in outer_by one.from tree one.there one.made
