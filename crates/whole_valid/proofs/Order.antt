-- The items of a module stand in the order of their kinds, and its initialiser stands last.
use Rattle.std.proofs.Common.{arith, ◌≡◌, ℕ, ◌==◌, ◌≤◌, nat_le, Bool, true, false, if◌then◌else◌, List, [], ◌∷◌, ◌++◌, Option, Some, None, slice_get, refl, subst, inl, inr}
use Rattle.std.proofs.lemmas.Bool.{and_from, and_parts}
use Rattle.std.proofs.lemmas.Bool.Decides.{nat_tests}
use Rattle.std.specs.Option.{option_flatten}
use Rattle.cx_core.specs.Layouts.{CRow, layouts_of, row_at}
use Rattle.cx_core.specs.Trees.{CFun, CObject, CPuts, CRecord}
use Rattle.rs_text.specs.Tree.{FunctionItem, ItemTree, OuterTree}
use Rattle.rs_text.specs.Valid.{are_in_order, ends_with_initialiser, kind, next_kind}
use Rattle.whole_items.specs.Items.{WrittenBodies, extern_items, function_items, function_of_unit, function_tree, initialiser_tree, module_tree, outers_of, record_items, record_items_of, record_with_row, static_items, static_of, static_with}
use Rattle.whole_means.proofs.Lists.{Among, among_flat}
use Rattle.whole_names.specs.Keys.{order_of}
use Rattle.whole_names.specs.Kept.{NamedProgram}

-- ---- items of one kind

-- an item of a kind behind which others of it may stand
pub record IsOfKind (k : ℕ) (item : ItemTree) : Type 0 where
  pub kind_is : kind item ≡ k
  pub next_is : next_kind item ≡ k

at_most : (a b : ℕ) → a ≤ b → nat_le a b ≡ true
at_most a b low = grind (arith, nat_tests)

is_most : (a b : ℕ) → nat_le a b ≡ true → a ≤ b
is_most a b test = grind (arith, nat_tests)

sooner : (k first : ℕ) (items : List ItemTree) → first ≤ k → are_in_order k items ≡ true → are_in_order first items ≡ true
sooner k first [] low rest = refl
sooner k first (item ∷ items) low rest =
    let parts = and_parts (nat_le k (kind item)) (are_in_order (next_kind item) items) rest in
    let high : k ≤ kind item = is_most k (kind item) parts.0 in
    and_from (nat_le first (kind item)) (are_in_order (next_kind item) items) (at_most first (kind item) (omega (arith, low, high))) parts.1

-- items of one kind stand before what may stand behind them
in_front : (k : ℕ) (items behind : List ItemTree) → ((item : ItemTree) → Among items item → IsOfKind k item) → (first : ℕ) → first ≤ k → are_in_order k behind ≡ true →
    are_in_order first (items ++ behind) ≡ true
in_front k [] behind all first low rest = sooner k first behind low rest
in_front k (item ∷ items) behind all first low rest =
    let of = all item (inl refl) in
    let kind_is = of.kind_is in
    let next_is = of.next_is in
    and_from (nat_le first (kind item)) (are_in_order (next_kind item) (items ++ behind)) (at_most first (kind item) (omega (arith, low, kind_is)))
    (in_front k items behind (λ other there. all other (inr there)) (next_kind item) (omega (arith, next_is)) rest)

module _ (whole : NamedProgram) (bodies : WrittenBodies) (unit : ℕ) where
  record_by : (number : ℕ) (one : CRecord) (row : Option CRow) (item : ItemTree) → Among (record_with_row whole number unit one row) item → IsOfKind 0 item
  record_by number one None item there = absurd there
  record_by number one (Some row) item (inl same) = subst (λ (x : ItemTree). IsOfKind 0 x) same (record { kind_is = refl; next_is = refl })
  record_by number one (Some row) item (inr none) = absurd none

  record_of : (number : ℕ) (found : Option CRecord) (item : ItemTree) → Among (record_items_of whole unit number found) item → IsOfKind 0 item
  record_of number None item there = absurd there
  record_of number (Some one) item there = record_by number one (row_at (layouts_of whole.program.types) number) item there

  pub records_are : (item : ItemTree) → Among (record_items whole unit) item → IsOfKind 0 item
  records_are item there =
      let one = among_flat (λ number. record_items_of whole unit number (option_flatten (slice_get whole.program.types.records number))) (order_of whole.program unit).completed item there in
      record_of one.from (option_flatten (slice_get whole.program.types.records one.from)) item one.made

  static_by : (one : CObject) (puts : Option CPuts) (item : ItemTree) → Among (static_with whole one puts) item → IsOfKind 1 item
  static_by one None item there = absurd there
  static_by one (Some puts) item (inl same) = subst (λ (x : ItemTree). IsOfKind 1 x) same (record { kind_is = refl; next_is = refl })
  static_by one (Some puts) item (inr none) = absurd none

  static_if : (one : CObject) (test : Bool) (item : ItemTree) → Among (if test then static_with whole one one.puts else []) item → IsOfKind 1 item
  static_if one true item there = static_by one one.puts item there
  static_if one false item there = absurd there

  pub statics_are : (item : ItemTree) → Among (static_items whole unit) item → IsOfKind 1 item
  statics_are item there =
      let one = among_flat (static_of whole unit) whole.program.objects item there in
      static_if one.from (one.from.unit == unit) item one.made

  function_if : (fun : CFun) (test : Bool) (item : ItemTree) → Among (if test then FunctionItem (function_tree whole fun (bodies.of_function fun)) ∷ [] else []) item → IsOfKind 3 item
  function_if fun true item (inl same) = subst (λ (x : ItemTree). IsOfKind 3 x) same (record { kind_is = refl; next_is = refl })
  function_if fun true item (inr none) = absurd none
  function_if fun false item there = absurd there

  pub functions_are : (item : ItemTree) → Among (function_items whole bodies unit) item → IsOfKind 3 item
  functions_are item there =
      let one = among_flat (function_of_unit whole bodies unit) whole.program.functions item there in
      function_if one.from (one.from.unit == unit) item one.made

  abbrev last : List ItemTree
  last = FunctionItem (initialiser_tree (bodies.initialiser unit)) ∷ []

  -- at most one block of external functions
  extern_in_front : (outers : List OuterTree) (behind : List ItemTree) → are_in_order 3 behind ≡ true → are_in_order 1 (extern_items outers ++ behind) ≡ true
  extern_in_front [] behind rest = sooner 3 1 behind (omega arith) rest
  extern_in_front (one ∷ others) behind rest = rest

  pub items_in_order : are_in_order 0 (module_tree whole bodies unit).items ≡ true
  items_in_order =
      in_front 0 (record_items whole unit) (static_items whole unit ++ (extern_items (outers_of whole unit) ++ (function_items whole bodies unit ++ last))) records_are 0 (omega arith)
      (in_front 1 (static_items whole unit) (extern_items (outers_of whole unit) ++ (function_items whole bodies unit ++ last)) statics_are 0 (omega arith)
      (extern_in_front (outers_of whole unit) (function_items whole bodies unit ++ last) (in_front 3 (function_items whole bodies unit) last functions_are 3 (omega arith) refl)))

  -- ---- the initialiser

  ends_behind : (items behind : List ItemTree) → ends_with_initialiser behind ≡ true → ends_with_initialiser (items ++ behind) ≡ true
  ends_behind [] behind is = is
  ends_behind (item ∷ items) behind is = one_more (items ++ behind) (ends_behind items behind is)
    where
      one_more : (rest : List ItemTree) → ends_with_initialiser rest ≡ true → ends_with_initialiser (item ∷ rest) ≡ true
      one_more [] is = absurd cc
      one_more (other ∷ others) is = is

  pub initialiser_last : ends_with_initialiser (module_tree whole bodies unit).items ≡ true
  initialiser_last =
      ends_behind (record_items whole unit) (static_items whole unit ++ (extern_items (outers_of whole unit) ++ (function_items whole bodies unit ++ last)))
      (ends_behind (static_items whole unit) (extern_items (outers_of whole unit) ++ (function_items whole bodies unit ++ last))
      (ends_behind (extern_items (outers_of whole unit)) (function_items whole bodies unit ++ last) (ends_behind (function_items whole bodies unit) last refl)))
