-- Structures and unions are laid out in the crate as in C.
use Rattle.std.proofs.Common.{arith, ◌≡◌, ◌<◌, ℕ, zero, suc, ◌==◌, Bool, true, false, ◌||◌, if◌then◌else◌, List, [], ◌∷◌, ◌++◌, reverse, Option, Some, None, slice_get, IfSome, All, refl, sym, ap, subst, ◌∙◌, ◌⊎◌, inl, inr}
use Rattle.std.proofs.lemmas.Grind.{flat_map-append}
use Rattle.std.proofs.lemmas.List.{reverse-append}
use Rattle.std.proofs.lemmas.List.Elements.{All-weaker}
use Rattle.std.specs.List.{Contains, flat_map, list_any}
use Rattle.std.specs.Option.{option_flatten}
use Rattle.std.specs.Str.{bytes_eq}
use Rattle.cx_core.specs.Layouts.{CLayouts, CRow, extent, layouts_of, row_at}
use Rattle.cx_core.specs.Trees.{CMember, CRecord, ty, record_type, CProgram}
use Rattle.cx_typed_runs.proofs.AlignedTypes.{types_aligned}
use Rattle.cx_typed_sizes.proofs.Bytes.{complete_has_byte}
use Rattle.cx_typed_work.proofs.Rows.{extent_whole, row_sized}
use Rattle.mem_bytes.specs.Calls.{IsAlignment}
use Rattle.rs_items.specs.Types.{enum_integer, record_or_void}
use Rattle.rs_items.specs.declared.known.Named.TheVariants.{Record as RecordNamed}
use Rattle.rs_items_rules.proofs.Rows.{row_laid}
use Rattle.rs_items_rules.specs.Agree.{AreKept, IsKept, Records}
use Rattle.rs_mean.specs.Layout.{laid_among, laid_with, record_laid}
use Rattle.rs_mean.specs.Scalars.{width_of}
use Rattle.rs_text.specs.Tree.{ItemTree, RecordItem, RecordTree}
use Rattle.whole_items.specs.Items.{WrittenBodies, record_items_of, record_with_row}
use Rattle.whole_means.proofs.Items.{record_written}
use Rattle.whole_means.proofs.Keys.{any_there, number_same, number_self}
use Rattle.whole_means.proofs.Lists.{Among, among_cases, contains_among, texts_equal, texts_same}
use Rattle.whole_means.proofs.Records.{IsDone, path_is, path_of, same_number, tree_named}
use Rattle.whole_means.proofs.Rows.{row_by, row_in, row_was, rows_that}
use Rattle.whole_means.specs.Written.{HoldsEarlier, IsCompletedIn, IsNamed, record_in}
use Rattle.whole_names.specs.Keys.{a_record}
use Rattle.whole_names.specs.Kept.{LocalNames, NamedProgram, enum_thing, known_thing, module_of, name_in, no_locals, record_thing, record_unit, size_of, size_or_none}

-- ---- what is kept of records

aligned_some : (align : ℕ) → IsAlignment align → 0 < align
aligned_some zero is = absurd cc
aligned_some (suc align) is = omega arith

-- a record with a row is done, and the crate's has its layout
pub record IsLaidSo (whole : NamedProgram) (records : Records) (number : ℕ) (row : CRow) : Type 0 where
  pub unit : ℕ
  pub done : IsDone whole unit number
  pub row_same : done.row ≡ row
  pub laid : records (module_of whole unit) (name_in whole unit (a_record number)) ≡ Some row.laid

enum_wide : (whole : NamedProgram) (unit number : ℕ) (found : Option Bool) → width_of (enum_integer (enum_thing whole unit number found)) ≡ 32
enum_wide whole unit number None = refl
enum_wide whole unit number (Some true) = refl
enum_wide whole unit number (Some false) = refl

pub kept_so : (whole : NamedProgram) → IsNamed whole → (unit : ℕ) (own : LocalNames) (records : Records) (layouts : CLayouts) →
    ((number : ℕ) (row : CRow) → row_at layouts number ≡ Some row → IsLaidSo whole records number row) → AreKept (known_thing whole unit own) records layouts
kept_so whole is unit own records layouts each = record {
  kept = λ number row found. kept_one number row (each number row found);
  enums = λ number. enum_wide whole unit number (slice_get whole.program.types.enums number);
}
  where
    kept_one : (number : ℕ) (row : CRow) → IsLaidSo whole records number row → IsKept (known_thing whole unit own) records number row.laid
    kept_one number row so =
        let types = whole.program.types in
        let type = ty (record_type number) false in
        let found : row_at (layouts_of types) number ≡ Some row = so.done.row_is ∙ ap Some so.row_same in
        let sized : extent (layouts_of types) type ≡ Some row.laid = row_sized types number false row found in
        let path = path_of whole so.unit number in
        record {
          thing = record {
            named = RecordNamed number;
            unit = record_unit whole number;
            module_name = Some path.home;
            name = path.name;
            symbol = None;
            ty = record_or_void (Some path);
            size = size_of whole type;
          };
          path = path;
          is = ap (record_thing whole number) (path_is whole is so.unit number so.done);
          named = refl;
          size = ap size_or_none sized;
          laid = so.laid;
          some = complete_has_byte types type row.laid is.linked.types sized;
          aligned = aligned_some row.laid.align (types_aligned types type row.laid is.linked.types (extent_whole (layouts_of types) type row.laid sized));
        }

-- ---- along the completion of a unit's records

module _ (whole : NamedProgram) (is : IsNamed whole) (bodies : WrittenBodies) (unit : ℕ) where
  abbrev program : CProgram
  program = whole.program

  abbrev pub home : List ℕ
  home = module_of whole unit

  abbrev pub item_of : ℕ → List ItemTree
  item_of number = record_items_of whole unit number (option_flatten (slice_get program.types.records number))

  abbrev pub items_for : List ℕ → List ItemTree
  items_for numbers = flat_map item_of numbers

  abbrev pub name_of : ℕ → List ℕ
  name_of number = name_in whole unit (a_record number)

  one_item : (number : ℕ) (done : IsDone whole unit number) → item_of number ≡ RecordItem (record_written whole unit done.one done.row) ∷ []
  one_item number done =
      ap (record_items_of whole unit number) (ap option_flatten done.one_is) ∙ ap (record_with_row whole number unit done.one) done.row_is

  abbrev pub AreLaid : List ℕ → Type 0
  AreLaid earlier = (number : ℕ) → Among earlier number → (done : IsDone whole unit number) → laid_among home (reverse (items_for earlier)) (name_of number) ≡ Some done.row.laid

  abbrev is_earlier : List ℕ → ℕ → Bool
  is_earlier earlier number = list_any (λ other. other == number) earlier

  any_among : (numbers : List ℕ) (number : ℕ) → is_earlier numbers number ≡ true → Among numbers number
  any_among [] number e = absurd cc
  any_among (one ∷ numbers) number e = by_test (one == number) refl (any_among numbers number)
    where
      by_test : (t : Bool) → (one == number) ≡ t → (is_earlier numbers number ≡ true → Among numbers number) → Among (one ∷ numbers) number
      by_test true f more = inl (number_same one number f)
      by_test false f more = inr (more (sym (ap (λ t. t || is_earlier numbers number) f) ∙ e))

  module _ (earlier : List ℕ) (laid : AreLaid earlier) (all : (number : ℕ) → Among earlier number → IsDone whole unit number) (number : ℕ) (next : IsCompletedIn program unit earlier number)
      (done : IsDone whole unit number) where
    abbrev behind : List ItemTree
    behind = reverse (items_for earlier)

    -- what the records in front of a record are
    abbrev records : Records
    records = λ m y. if bytes_eq m home then laid_among home behind y else None

    records_are : (other : ℕ) → Among earlier other → (its : IsDone whole unit other) → records home (name_of other) ≡ Some its.row.laid
    records_are other there its = ap (λ t. if t then laid_among home behind (name_of other) else None) (texts_same home) ∙ laid other there its

    abbrev layouts : CLayouts
    layouts = rows_that (is_earlier earlier) 0 (layouts_of program.types)

    each_laid : (other : ℕ) (row : CRow) → row_at layouts other ≡ Some row → IsLaidSo whole records other row
    each_laid other row found =
        let was = row_was (is_earlier earlier) (layouts_of program.types) other row found in
        let there = any_among earlier other was.0 in
        let its = all other there in
        let same_some : Some its.row ≡ Some row = sym its.row_is ∙ was.1 in
        let same : its.row ≡ row = cc (same_some) in
        record { unit = unit; done = its; row_same = same; laid = records_are other there its ∙ ap (λ (r : CRow). Some r.laid) same }

    kept : AreKept (known_thing whole unit no_locals) records layouts
    kept = kept_so whole is unit no_locals records layouts each_laid

    same_one : next.one ≡ done.one
    same_one = let same : Some (Some next.one) ≡ Some (Some done.one) = sym next.one_is ∙ done.one_is in cc (same)

    holds_so : (found : Option ℕ) → IfSome found (Contains earlier) → IfSome found (λ n. is_earlier earlier n ≡ true)
    holds_so None holds = tt
    holds_so (Some n) holds = any_there (λ other. other == n) earlier n (contains_among earlier n holds) (number_self n)

    holds : All (λ (m : CMember). IfSome (record_in m.type) (λ n. is_earlier earlier n ≡ true)) done.one.members
    holds =
        All-weaker (HoldsEarlier earlier) (λ (m : CMember). IfSome (record_in m.type) (λ n. is_earlier earlier n ≡ true)) (λ m one. holds_so (record_in m.type) one) done.one.members
        (subst (λ (r : CRecord). All (HoldsEarlier earlier) r.members) same_one next.holds)

    row_laid_so : record_laid (laid_with records) (record_written whole unit done.one done.row) ≡ Some done.row.laid
    row_laid_so =
        row_laid (known_thing whole unit no_locals) records layouts kept done.one done.row
        (row_by (is_earlier earlier) (layouts_of program.types) done.one done.row holds
        (row_in program.types number done.one done.row (ap option_flatten done.one_is) done.row_is))

    abbrev tree : RecordTree
    tree = record_written whole unit done.one done.row

    items_are : reverse (items_for (earlier ++ number ∷ [])) ≡ RecordItem tree ∷ behind
    items_are =
        ap reverse (flat_map-append item_of earlier (number ∷ []) ∙ ap (λ (one : List ItemTree). items_for earlier ++ (one ++ [])) (one_item number done))
        ∙ reverse-append (items_for earlier) (RecordItem tree ∷ [])

    pub more_laid : AreLaid (earlier ++ number ∷ [])
    more_laid other there its =
        ap (λ (items : List ItemTree). laid_among home items (name_of other)) items_are
        ∙ by_test (bytes_eq tree.name (name_of other)) refl (among_cases earlier (number ∷ []) other there)
      where
        here : number ≡ other → record_laid (laid_with records) tree ≡ Some its.row.laid
        here same =
            let rows : Some done.row ≡ Some its.row = sym done.row_is ∙ ap (row_at (layouts_of program.types)) same ∙ its.row_is in
            let row : done.row ≡ its.row = cc (rows) in
            row_laid_so ∙ ap (λ (r : CRow). Some r.laid) row

        same_by_name : bytes_eq tree.name (name_of other) ≡ true → number ≡ other
        same_by_name e =
            same_number whole is bodies unit number other done its (sym (tree_named whole is unit number done) ∙ texts_equal tree.name (name_of other) e)

        by_test : (t : Bool) → bytes_eq tree.name (name_of other) ≡ t → Among earlier other ⊎ Among (number ∷ []) other → laid_among home (RecordItem tree ∷ behind) (name_of other) ≡ Some its.row.laid
        by_test true e where_it_is =
            ap (λ t. if t then record_laid (laid_with records) tree else laid_among home behind (name_of other)) e ∙ here (same_by_name e)
        by_test false e (inl before) = ap (λ t. if t then record_laid (laid_with records) tree else laid_among home behind (name_of other)) e ∙ laid other before its
        by_test false e (inr (inl same)) =
            absurd (let named : bytes_eq tree.name (name_of other) ≡ true = ap (λ n. bytes_eq n (name_of other)) (tree_named whole is unit number done ∙ ap name_of same) ∙ texts_same (name_of other) in
            let h : false ≡ true = sym e ∙ named in cc)
        by_test false e (inr (inr none)) = absurd none
