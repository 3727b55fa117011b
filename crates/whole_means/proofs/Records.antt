-- The record of each structure or union is found by its path, with the layout that it has in C.
use Rattle.std.proofs.Common.{◌≡◌, ◌<◌, ℕ, Bool, true, false, if◌then◌else◌, List, [], ◌∷◌, ◌++◌, length, Option, Some, None, slice_get, is_some, refl, sym, ap, subst, ◌∙◌, inl, inr}
use Rattle.std.proofs.lemmas.List.Elements.{All-contains}
use Rattle.std.specs.Option.{option_flatten}
use Rattle.std.specs.Str.{bytes_eq}
use Rattle.cx_core.specs.Layouts.{CRow, layouts_of, row_at}
use Rattle.cx_core.specs.Trees.{CRecord, CProgram}
use Rattle.rs_items.specs.Records.{record_name}
use Rattle.rs_mean.specs.Lookups.{first_record, record_among, record_at}
use Rattle.rs_text.specs.Tree.{FunctionItem, ExternItem, ItemTree, ModuleTree, RecordItem, RecordTree, StaticItem}
use Rattle.rs_tree.specs.declared.ty.RPath.{RPath}
use Rattle.whole_items.specs.Items.{WrittenBodies, module_tree}
use Rattle.whole_means.proofs.Callees.{one_key}
use Rattle.whole_means.proofs.Items.{Stands, item_stands, record_item_there, record_written}
use Rattle.whole_means.proofs.Items.Stands.{is_record, is_static, is_extern, is_function, is_initialiser}
use Rattle.whole_means.proofs.Keys.{key_self, number_same}
use Rattle.whole_means.proofs.Lists.{Among, among_cases, among_contains, among_left, among_right, contains_among, texts_equal, texts_same}
use Rattle.whole_means.proofs.Modules.{items_found, modules_by}
use Rattle.whole_means.proofs.Named.{HasName}
use Rattle.whole_means.proofs.Rows.{row_there}
use Rattle.whole_means.proofs.Things.{record_named}
use Rattle.whole_means.specs.Written.{AreCompletedIn, IsNamed}
use Rattle.whole_names.specs.Keys.{a_record, order_of, same_key}
use Rattle.whole_names.specs.Kept.{NamedProgram, module_of, name_in, path_if, record_path, record_thing, record_unit, unit_or}

-- ---- the first of its name

pub record_first : (items : List ItemTree) (x : List ℕ) (tree : RecordTree) → Among items (RecordItem tree) → bytes_eq tree.name x ≡ true →
    ((other : RecordTree) → Among items (RecordItem other) → bytes_eq other.name x ≡ true → other ≡ tree) → record_among x items ≡ Some tree
record_first [] x tree there is only = absurd there
record_first (RecordItem one ∷ items) x tree there is only =
    by_test (bytes_eq one.name x) refl there (λ rest. record_first items x tree rest is (λ other among named. only other (inr among) named))
  where
    by_test : (t : Bool) → bytes_eq one.name x ≡ t → Among (RecordItem one ∷ items) (RecordItem tree) → (Among items (RecordItem tree) → record_among x items ≡ Some tree) →
        record_among x (RecordItem one ∷ items) ≡ Some tree
    by_test true e there more = ap (λ t. first_record (if t then Some one else None) (record_among x items)) e ∙ ap Some (only one (inl refl) e)
    by_test false e (inl same) more =
        let equal : one ≡ tree = cc (same) in absurd (let h : false ≡ true = sym e ∙ ap (λ (r : RecordTree). bytes_eq r.name x) equal ∙ is in cc)
    by_test false e (inr rest) more = ap (λ t. first_record (if t then Some one else None) (record_among x items)) e ∙ more rest
record_first (StaticItem one ∷ items) x tree (inl same) is only = absurd cc
record_first (StaticItem one ∷ items) x tree (inr there) is only = record_first items x tree there is (λ other among named. only other (inr among) named)
record_first (ExternItem one ∷ items) x tree (inl same) is only = absurd cc
record_first (ExternItem one ∷ items) x tree (inr there) is only = record_first items x tree there is (λ other among named. only other (inr among) named)
record_first (FunctionItem one ∷ items) x tree (inl same) is only = absurd cc
record_first (FunctionItem one ∷ items) x tree (inr there) is only = record_first items x tree there is (λ other among named. only other (inr among) named)

-- ---- what is known of a record

-- a record that its unit completed
pub record IsDone (whole : NamedProgram) (unit number : ℕ) : Type 0 where
  pub one : CRecord
  pub row : CRow
  pub one_is : slice_get whole.program.types.records number ≡ Some (Some one)
  pub unit_is : slice_get whole.program.types.record_units number ≡ Some unit
  pub row_is : row_at (layouts_of whole.program.types) number ≡ Some row

abbrev pub path_of : NamedProgram → (unit number : ℕ) → RPath
path_of whole unit number = record { home = module_of whole unit; name = name_in whole unit (a_record number) }

module _ (whole : NamedProgram) (is : IsNamed whole) where
  abbrev program : CProgram
  program = whole.program

  abbrev count : ℕ
  count = length whole.module_names

  module _ (unit number : ℕ) (done : IsDone whole unit number) where
    unit_here : record_unit whole number ≡ unit
    unit_here = ap (unit_or 0) done.unit_is

    pub path_is : record_path whole number ≡ Some (path_of whole unit number)
    path_is =
        ap (λ t. path_if t (path_of whole (record_unit whole number) number)) (ap (λ found. is_some (option_flatten found)) done.one_is) ∙ ap (λ n. Some (path_of whole n number)) unit_here

    pub number_is : done.one.number ≡ number
    number_is = (is.linked.types.records number unit done.one done.one_is done.unit_is).number_is

    pub tree_named : (record_written whole unit done.one done.row).name ≡ name_in whole unit (a_record number)
    tree_named =
        ap (λ n. record_name (record_thing whole n (record_path whole n))) number_is ∙ ap (λ found. record_name (record_thing whole number found)) path_is

    pub has_name : HasName whole unit (a_record number)
    has_name = record_named whole is number unit done.one done.one_is done.unit_is

    pub is_completed : Among (order_of program unit).completed number
    is_completed = contains_among (order_of program unit).completed number (is.ordered.records number unit done.one done.one_is done.unit_is)

    pub unit_low : unit < count
    unit_low = All-contains (λ (n : ℕ). n < count) program.types.record_units unit is.records_here
        (among_contains program.types.record_units unit (Rattle.whole_means.proofs.Lists.among_at program.types.record_units number unit done.unit_is))

  -- what a unit completes it has
  there_in : (unit : ℕ) (earlier numbers : List ℕ) (number : ℕ) → AreCompletedIn program unit earlier numbers → Among numbers number → IsDone whole unit number
  there_in unit earlier [] number are there = absurd there
  there_in unit earlier (first ∷ numbers) number are (inl same) =
      let it = are.0 in
      let row = row_there program.types first unit it.one is.linked.types it.one_is it.unit_is in
      subst (λ n. IsDone whole unit n) same (record { one = it.one; row = row.0; one_is = it.one_is; unit_is = it.unit_is; row_is = row.1 })
  there_in unit earlier (first ∷ numbers) number are (inr there) = there_in unit (earlier ++ first ∷ []) numbers number are.1 there

  pub done_in : (unit number : ℕ) → Among (order_of program unit).completed number → IsDone whole unit number
  done_in unit number there = there_in unit [] (order_of program unit).completed number (is.ordered.completed unit) there

  record_number_same : (n m : ℕ) → a_record n ≡ a_record m → n ≡ m
  record_number_same n m same = number_same n m (ap (λ k. same_key (a_record n) k) (sym same) ∙ key_self (a_record n))

  some_equal : {X : Type 0} (x y : X) → Some x ≡ Some y → x ≡ y
  some_equal x y same = cc (same)

  one_equal : (x y : CRecord) → Some (Some x) ≡ Some (Some y) → x ≡ y
  one_equal x y same = some_equal x y (some_equal (Some x) (Some y) same)

  module _ (bodies : WrittenBodies) where
    -- two records of a module with one name are one
    pub same_number : (unit n m : ℕ) → IsDone whole unit n → IsDone whole unit m → name_in whole unit (a_record n) ≡ name_in whole unit (a_record m) → n ≡ m
    same_number unit n m one other same =
        record_number_same n m (one_key whole is bodies unit (a_record n) (a_record m) (has_name unit n one) (has_name unit m other) same)

    pub same_record : (unit n m : ℕ) (one : IsDone whole unit n) (other : IsDone whole unit m) → n ≡ m →
        record_written whole unit one.one one.row ≡ record_written whole unit other.one other.row
    same_record unit n m one other same =
        let record_same : one.one ≡ other.one = one_equal one.one other.one (sym one.one_is ∙ ap (slice_get program.types.records) same ∙ other.one_is) in
        let row_same : one.row ≡ other.row = some_equal one.row other.row (sym one.row_is ∙ ap (row_at (layouts_of program.types)) same ∙ other.row_is) in
        ap (λ (r : CRecord). record_written whole unit r one.row) record_same ∙ ap (record_written whole unit other.one) row_same

    abbrev modules : List ModuleTree
    modules = modules_by (module_tree whole bodies) 0 count

    flat_at : (number : ℕ) (one : CRecord) → option_flatten (slice_get program.types.records number) ≡ Some one → (found : Option (Option CRecord)) →
        slice_get program.types.records number ≡ found → found ≡ Some (Some one)
    flat_at number one flat None e = absurd (let h : None ≡ Some one = sym (ap option_flatten e) ∙ flat in cc)
    flat_at number one flat (Some None) e = absurd (let h : None ≡ Some one = sym (ap option_flatten e) ∙ flat in cc)
    flat_at number one flat (Some (Some other)) e = ap Some (sym (ap option_flatten e) ∙ flat)

    pub record_found : (unit number : ℕ) (done : IsDone whole unit number) →
        record_at modules (module_of whole unit) (name_in whole unit (a_record number)) ≡ Some (record_written whole unit done.one done.row)
    record_found unit number done =
        let items = (module_tree whole bodies unit).items in
        let tree = record_written whole unit done.one done.row in
        let x = name_in whole unit (a_record number) in
        ap (record_among x) (items_found whole is bodies unit (unit_low unit number done))
        ∙ record_first items x tree
        (record_item_there whole bodies unit number done.one done.row (is_completed unit number done) (ap option_flatten done.one_is) done.row_is)
        (ap (λ n. bytes_eq n x) (tree_named unit number done) ∙ texts_same x) (λ other among named. alone other named (item_stands whole bodies unit (RecordItem other) among))
      where
        alone : (other : RecordTree) → bytes_eq other.name (name_in whole unit (a_record number)) ≡ true → Stands whole bodies unit (RecordItem other) →
            other ≡ record_written whole unit done.one done.row
        alone other named (is_record n one row among found laid same) =
            let its = done_in unit n among in
            let equal : other ≡ record_written whole unit one row = cc (same) in
            let one_same : one ≡ its.one = some_equal one its.one (sym found ∙ ap option_flatten its.one_is) in
            let row_same : row ≡ its.row = some_equal row its.row (sym laid ∙ its.row_is) in
            let whole_same : record_written whole unit one row ≡ record_written whole unit its.one its.row =
            ap (λ (r : CRecord). record_written whole unit r row) one_same ∙ ap (record_written whole unit its.one) row_same in
            let name : name_in whole unit (a_record n) ≡ name_in whole unit (a_record number) =
            sym (tree_named unit n its) ∙ ap (λ (r : RecordTree). r.name) (sym whole_same ∙ sym equal) ∙ texts_equal other.name (name_in whole unit (a_record number)) named in
            equal ∙ whole_same ∙ same_record unit n number its done (same_number unit n number its done name)
        alone other named (is_static one puts among here found same) = absurd cc
        alone other named (is_extern same) = absurd cc
        alone other named (is_function f among here same) = absurd cc
        alone other named (is_initialiser same) = absurd cc
