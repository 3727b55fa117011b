-- In a crate that is well typed each record is laid out by the whole crate as by the items in front of it, and each of its fields
-- has a place.
use Rattle.std.proofs.Common.{◌≡◌, refl, sym, ap, ◌∙◌, subst, arith, ℕ, zero, suc, ◌+◌, ◌*◌, ◌-◌, nat_eq, nat_le, Bool, true, false, ◌&&◌, ◌||◌, not, List, [], ◌∷◌, ◌++◌, map, take, flat_map, reverse, Option, Some, None, is_none, is_some, IsSome, bytes_eq, if◌then◌else◌, slice_get}
use Rattle.std.specs.Option.{option_and_then}
use Rattle.std.specs.List.{list_any}
use Rattle.std.specs.Cmp.Lexicographic.{bytes_decides, same_text}
use Rattle.std.proofs.lemmas.Bool.{and_parts}
use Rattle.std.proofs.lemmas.Bool.Decides.{nat_tests}
use Rattle.cr_base.specs.Layout.{most_bytes, after, no_front, spot}
use Rattle.cr_base.specs.declared.layout.Front.{Front}
use Rattle.cr_base.specs.declared.layout.Laid.{Laid}
use Rattle.rs_text.specs.Names.{is_among}
use Rattle.rs_text.specs.Valid.{all_differ, valid_names, valid_crate}
use Rattle.rs_text.specs.Tree.{Ty, Integer, Boolean, Void, Pointer, Array, Code, Record, FieldTree, RecordTree, ItemTree, RecordItem, StaticItem, ExternItem, FunctionItem, ModuleTree, CrateTree}
use Rattle.rs_mean.specs.Lookups.{items_in}
use Rattle.rs_mean.specs.Layout.{laid_with, laid_among, laid_at, laid_of, record_laid, repeated, piece_of, behind, front_after}
use Rattle.rs_mean.specs.Typing.{item_names, names_differ, item_typed, first_ill_item, first_ill_from, well_typed}
use Rattle.rs_layout.specs.Layouts.{by_front, front_behind, fronts, byte_numbered}
use Rattle.rs_layout.specs.LayoutsNumbered.{record_item, record_numbered, field_numbered, byte_behind, byte_in, field_byte}
use Rattle.rs_layout.proofs.Layouts.{none_after, record_fits}
use Rattle.rs_layout.proofs.LayoutsTyped.{onto, onto_reverse, ill_by, placed_none, record_stands}

-- ---- layouts by more records

-- what is laid out by some records is so by others
abbrev pub AreKept : (List ℕ → List ℕ → Option Laid) → (List ℕ → List ℕ → Option Laid) → Type 0
AreKept records others = (m x : List ℕ) (one : Laid) → records m x ≡ Some one → others m x ≡ Some one

abbrev pub IsKept : (Ty → Option Laid) → (Ty → Option Laid) → Type 0
IsKept layout other = (ty : Ty) (one : Laid) → layout ty ≡ Some one → other ty ≡ Some one

array_kept : (size : ℕ) (element other : Option Laid) (one : Laid) → ((base : Laid) → element ≡ Some base → other ≡ Some base) →
    option_and_then (repeated size) element ≡ Some one → option_and_then (repeated size) other ≡ Some one
array_kept size None other one kept is = absurd cc
array_kept size (Some base) other one kept is = ap (option_and_then (repeated size)) (kept base refl) ∙ is

type_kept : (records others : List ℕ → List ℕ → Option Laid) → AreKept records others → IsKept (laid_with records) (laid_with others)
type_kept records others kept (Integer ty) one is = is
type_kept records others kept Boolean one is = is
type_kept records others kept Void one is = is
type_kept records others kept (Pointer target) one is = is
type_kept records others kept (Array element size) one is =
    array_kept size (laid_with records element) (laid_with others element) one (type_kept records others kept element) is
type_kept records others kept (Code params result) one is = is
type_kept records others kept (Record m x) one is = kept m x one is

some_none : {A : Type 0} (one : A) (found : Option A) → found ≡ None → found ≡ Some one → ⊥
some_none one None none some = cc
some_none one (Some other) none some = cc

fields_by : (layout other : Ty → Option Laid) (field : FieldTree) (fields : List FieldTree) (front : Option Front) (end : Front) (one : Option Laid) →
    layout field.ty ≡ one → IsKept layout other →
    ((front : Option Front) → front_after layout front fields ≡ Some end → front_after other front fields ≡ Some end) →
    front_after layout (behind one front) fields ≡ Some end → front_after other (behind (other field.ty) front) fields ≡ Some end
fields_by layout other field fields front end None laid kept others is =
    absurd (some_none end (front_after layout None fields) (none_after layout fields) is)
fields_by layout other field fields front end (Some one) laid kept others is =
    ap (λ found. front_after other (behind found front) fields) (kept field.ty one laid) ∙ others (behind (Some one) front) is

fields_kept : (layout other : Ty → Option Laid) → IsKept layout other → (fields : List FieldTree) (end : Front) (front : Option Front) →
    front_after layout front fields ≡ Some end → front_after other front fields ≡ Some end
fields_kept layout other kept [] end front is = is
fields_kept layout other kept (field ∷ fields) end front is =
    fields_by layout other field fields front end (layout field.ty) refl kept (fields_kept layout other kept fields end) is

then_kept : (close : Front → Option Laid) (front other : Option Front) → ((end : Front) → front ≡ Some end → other ≡ Some end) →
    IsSome (option_and_then close front) → IsSome (option_and_then close other)
then_kept close None other kept some = absurd cc
then_kept close (Some end) other kept some = subst (λ found. IsSome (option_and_then close found)) (sym (kept end refl)) some

record_kept : (layout other : Ty → Option Laid) (one : RecordTree) → IsKept layout other → IsSome (record_laid layout one) → IsSome (record_laid other one)
record_kept layout other one kept some =
    then_kept _ (front_after layout (Some (no_front one.is_union)) one.fields) (front_after other (Some (no_front one.is_union)) one.fields)
    (λ end. fields_kept layout other kept one.fields end (Some (no_front one.is_union))) some

-- ---- names that differ

pub not_both : (b : Bool) → b ≡ true → not b ≡ true → ⊥
not_both true is other = cc
not_both false is other = cc

pub or_first : (a b : Bool) → a ≡ true → (a || b) ≡ true
or_first true b is = refl
or_first false b is = absurd cc

pub or_second : (a b : Bool) → b ≡ true → (a || b) ≡ true
or_second true b is = refl
or_second false b is = is

pub or_false : (a : Bool) → a ≡ true → (a || false) ≡ true
or_false true is = refl
or_false false is = is

-- a record that is laid out has a name among the items
named_by : (home x : List ℕ) (one : RecordTree) (earlier : List ItemTree) (laid : Laid) (b : Bool) →
    (laid_among home earlier x ≡ Some laid → is_among (flat_map item_names earlier) x ≡ true) →
    (if b then record_laid (by_front home earlier) one else laid_among home earlier x) ≡ Some laid →
    (b || is_among (flat_map item_names earlier) x) ≡ true
named_by home x one earlier laid true others is = refl
named_by home x one earlier laid false others is = others is

pub any_append : (x : List ℕ) (names others : List (List ℕ)) → is_among others x ≡ true → is_among (names ++ others) x ≡ true
any_append x [] others is = is
any_append x (name ∷ names) others is = or_second (bytes_eq name x) (is_among (names ++ others) x) (any_append x names others is)

laid_named : (home x : List ℕ) (earlier : List ItemTree) (laid : Laid) → laid_among home earlier x ≡ Some laid → is_among (flat_map item_names earlier) x ≡ true
laid_named home x [] laid is = absurd cc
laid_named home x (RecordItem one ∷ earlier) laid is = named_by home x one earlier laid (bytes_eq one.name x) (laid_named home x earlier laid) is
laid_named home x (StaticItem object ∷ earlier) laid is =
    any_append x (item_names (StaticItem object)) (flat_map item_names earlier) (laid_named home x earlier laid is)
laid_named home x (ExternItem outers ∷ earlier) laid is =
    any_append x (item_names (ExternItem outers)) (flat_map item_names earlier) (laid_named home x earlier laid is)
laid_named home x (FunctionItem fun ∷ earlier) laid is =
    any_append x (item_names (FunctionItem fun)) (flat_map item_names earlier) (laid_named home x earlier laid is)

kept_by : (home x : List ℕ) (one : RecordTree) (earlier : List ItemTree) (laid : Laid) (b : Bool) → bytes_eq one.name x ≡ b →
    not (is_among (flat_map item_names earlier) one.name || false) ≡ true → laid_among home earlier x ≡ Some laid →
    (if b then record_laid (by_front home earlier) one else laid_among home earlier x) ≡ Some laid
kept_by home x one earlier laid false other differ is = is
kept_by home x one earlier laid true same differ is =
    let name : one.name ≡ x = same_text one.name x (sym same) in
    let among : is_among (flat_map item_names earlier) one.name ≡ true =
    subst (λ name. is_among (flat_map item_names earlier) name ≡ true) (sym name) (laid_named home x earlier laid is) in
    absurd (not_both (is_among (flat_map item_names earlier) one.name || false) (or_false (is_among (flat_map item_names earlier) one.name) among) differ)

-- an item of another name behind the others changes no layout
item_kept : (home x : List ℕ) (item : ItemTree) (earlier : List ItemTree) (laid : Laid) → names_differ earlier item ≡ true →
    laid_among home earlier x ≡ Some laid → laid_among home (item ∷ earlier) x ≡ Some laid
item_kept home x (RecordItem one) earlier laid differ is =
    let parts = and_parts (all_differ (item_names (RecordItem one))) (not (list_any (is_among (flat_map item_names earlier)) (item_names (RecordItem one)))) differ in
    kept_by home x one earlier laid (bytes_eq one.name x) refl parts.1 is
item_kept home x (StaticItem object) earlier laid differ is = is
item_kept home x (ExternItem outers) earlier laid differ is = is
item_kept home x (FunctionItem fun) earlier laid differ is = is

items_kept : (modules : List ModuleTree) (unit : ModuleTree) (x : List ℕ) (laid : Laid) (items earlier : List ItemTree) (number : ℕ) →
    first_ill_item modules unit earlier number items ≡ None → laid_among unit.name earlier x ≡ Some laid → laid_among unit.name (onto items earlier) x ≡ Some laid
unfolding onto
items_kept modules unit x laid [] earlier number none is = is
items_kept modules unit x laid (item ∷ items) earlier number none is =
    let parts = ill_by (names_differ earlier item && item_typed modules unit earlier item) (first_ill_item modules unit (item ∷ earlier) (number + 1) items) number none in
    let typed = and_parts (names_differ earlier item) (item_typed modules unit earlier item) parts.0 in
    items_kept modules unit x laid items (item ∷ earlier) (number + 1) parts.1 (item_kept unit.name x item earlier laid typed.0 is)

-- ---- a record by the whole crate

here_by : (home : List ℕ) (earlier : List ItemTree) (m x : List ℕ) (laid : Laid) (b : Bool) → bytes_eq m home ≡ b →
    (if b then laid_among home earlier x else None) ≡ Some laid → (m ≡ home) × (laid_among home earlier x ≡ Some laid)
here_by home earlier m x laid true same is = (same_text m home (sym same), is)
here_by home earlier m x laid false other is = absurd cc

module _ (modules : List ModuleTree) (unit : ModuleTree) (own : items_in modules unit.name ≡ unit.items) where
  records_kept : (items earlier : List ItemTree) (number : ℕ) → onto items earlier ≡ onto unit.items [] →
      first_ill_item modules unit earlier number items ≡ None →
      AreKept (λ m x. if bytes_eq m unit.name then laid_among unit.name earlier x else None) (laid_at modules)
  records_kept items earlier number all none m x laid is =
      let here = here_by unit.name earlier m x laid (bytes_eq m unit.name) refl is in
      let kept : laid_among unit.name (reverse unit.items) x ≡ Some laid =
      subst (λ list. laid_among unit.name list x ≡ Some laid) (all ∙ onto_reverse unit.items) (items_kept modules unit x laid items earlier number none here.1) in
      subst (λ name. laid_at modules name x ≡ Some laid) (sym here.0)
      (subst (λ list. laid_among unit.name (reverse list) x ≡ Some laid) (sym own) kept)

  record_fits_in : (i : ℕ) (items earlier : List ItemTree) (number : ℕ) (one : RecordTree) → onto items earlier ≡ onto unit.items [] →
      first_ill_item modules unit earlier number items ≡ None → record_item (slice_get items i) ≡ Some one → IsSome (record_laid (laid_of modules) one)
  unfolding onto
  record_fits_in i [] earlier number one all none is = absurd cc
  record_fits_in zero (RecordItem other ∷ items) earlier number one all none is =
      let parts = ill_by (names_differ earlier (RecordItem other) && item_typed modules unit earlier (RecordItem other)) (first_ill_item modules unit (RecordItem other ∷ earlier) (number + 1) items) number none in
      let typed = and_parts (names_differ earlier (RecordItem other)) (item_typed modules unit earlier (RecordItem other)) parts.0 in
      let same : other ≡ one = cc in
      let laid : IsSome (record_laid (by_front unit.name earlier) other) = record_stands modules unit earlier other typed.1 in
      subst (λ one. IsSome (record_laid (laid_of modules) one)) same
      (record_kept (by_front unit.name earlier) (laid_of modules) other
      (type_kept _ (laid_at modules) (records_kept (RecordItem other ∷ items) earlier number all none)) laid)
  record_fits_in zero (StaticItem object ∷ items) earlier number one all none is = absurd cc
  record_fits_in zero (ExternItem outers ∷ items) earlier number one all none is = absurd cc
  record_fits_in zero (FunctionItem fun ∷ items) earlier number one all none is = absurd cc
  record_fits_in (suc i) (item ∷ items) earlier number one all none is =
      let parts = ill_by (names_differ earlier item && item_typed modules unit earlier item) (first_ill_item modules unit (item ∷ earlier) (number + 1) items) number none in
      record_fits_in i items (item ∷ earlier) (number + 1) one all parts.1 is

-- ---- the module of a number

pub itself : (x : List ℕ) → bytes_eq x x ≡ true
itself x = (bytes_decides x x).1 refl

list_has : (x : List ℕ) (modules : List ModuleTree) (i : ℕ) (unit : ModuleTree) → slice_get modules i ≡ Some unit → bytes_eq unit.name x ≡ true →
    list_any (λ other. bytes_eq other x) (map (λ unit. unit.name) modules) ≡ true
list_has x [] i unit is same = absurd cc
list_has x (first ∷ others) zero unit is same =
    or_first (bytes_eq first.name x) _ (let e : first ≡ unit = cc in subst (λ unit. bytes_eq unit.name x ≡ true) (sym e) same)
list_has x (first ∷ others) (suc i) unit is same = or_second (bytes_eq first.name x) _ (list_has x others i unit is same)

passed : (first unit : ModuleTree) (others : List ModuleTree) → bytes_eq first.name unit.name ≡ false → items_in (first ∷ others) unit.name ≡ items_in others unit.name
passed first unit others other = rw other refl

here : (first : ModuleTree) (others : List ModuleTree) → items_in (first ∷ others) first.name ≡ first.items
here first others = rw (itself first.name) refl

differs : (first unit : ModuleTree) (others : List ModuleTree) (i : ℕ) (b : Bool) → bytes_eq first.name unit.name ≡ b →
    not (list_any (λ other. bytes_eq other first.name) (map (λ unit. unit.name) others)) ≡ true → slice_get others i ≡ Some unit →
    bytes_eq first.name unit.name ≡ false
differs first unit others i false other differ is = other
differs first unit others i true same differ is =
    let name : first.name ≡ unit.name = same_text first.name unit.name (sym same) in
    let back : bytes_eq unit.name first.name ≡ true = subst (λ x. bytes_eq unit.name x ≡ true) (sym name) (itself unit.name) in
    absurd (not_both (list_any (λ other. bytes_eq other first.name) (map (λ unit. unit.name) others)) (list_has first.name others i unit is back) differ)

pub own_items : (modules : List ModuleTree) (i : ℕ) (unit : ModuleTree) → all_differ (map (λ unit. unit.name) modules) ≡ true → slice_get modules i ≡ Some unit →
    items_in modules unit.name ≡ unit.items
own_items [] i unit differ is = absurd cc
own_items (first ∷ others) zero unit differ is =
    let e : first ≡ unit = cc in subst (λ unit. items_in (first ∷ others) unit.name ≡ unit.items) e (here first others)
own_items (first ∷ others) (suc i) unit differ is =
    let parts = and_parts (not (list_any (λ other. bytes_eq other first.name) (map (λ (unit : ModuleTree). unit.name) others))) (all_differ (map (λ (unit : ModuleTree). unit.name) others)) differ in
    passed first unit others (differs first unit others i (bytes_eq first.name unit.name) refl parts.0 is) ∙ own_items others i unit parts.1 is

pub none_at : (all modules : List ModuleTree) (number i : ℕ) (unit : ModuleTree) → is_none (first_ill_from all number modules) ≡ true →
    slice_get modules i ≡ Some unit → first_ill_item all unit [] 0 unit.items ≡ None
none_at all [] number i unit none is = absurd cc
none_at all (first ∷ others) number zero unit none is =
    let e : first ≡ unit = cc in
    subst (λ unit. first_ill_item all unit [] 0 unit.items ≡ None) e
    (placed_none number (first_ill_item all first [] 0 first.items) (first_ill_from all (number + 1) others) none).0
none_at all (first ∷ others) number (suc i) unit none is =
    none_at all others (number + 1) i unit (placed_none number (first_ill_item all first [] 0 first.items) (first_ill_from all (number + 1) others) none).1 is

pub names_of : (whole : CrateTree) → valid_crate whole ≡ true → all_differ (map (λ unit. unit.name) whole.modules) ≡ true
names_of whole valid =
    let first = and_parts _ _ valid in
    let names = and_parts (valid_names (map (λ (unit : ModuleTree). unit.name) whole.modules)) _ first.0 in
    (and_parts _ (all_differ (map (λ (unit : ModuleTree). unit.name) whole.modules)) names.0).1

numbered_by : (whole : CrateTree) (m i : ℕ) (one : RecordTree) (found : Option ModuleTree) → valid_crate whole ≡ true → well_typed whole ≡ true →
    slice_get whole.modules m ≡ found → option_and_then (λ unit. record_item (slice_get unit.items i)) found ≡ Some one →
    IsSome (record_laid (laid_of whole.modules) one)
numbered_by whole m i one None valid typed at is = absurd cc
numbered_by whole m i one (Some unit) valid typed at is =
    record_fits_in whole.modules unit (own_items whole.modules m unit (names_of whole valid) at) i unit.items [] 0 one refl
    (none_at whole.modules whole.modules 0 m unit typed at) is

-- each record of the crate is laid out
pub numbered_laid : (whole : CrateTree) (m i : ℕ) (one : RecordTree) → valid_crate whole ≡ true → well_typed whole ≡ true →
    Some one ≡ record_numbered whole.modules m i → IsSome (record_laid (laid_of whole.modules) one)
numbered_laid whole m i one valid typed is = numbered_by whole m i one (slice_get whole.modules m) valid typed refl (sym is)

-- ---- the place of the field of a number

not_zero : (f : ℕ) → nat_eq (suc f) 0 ≡ false
not_zero f = grind (arith, nat_tests)

less_one : (f : ℕ) → suc f - 1 ≡ f
less_one f = omega arith

later : (layout : Ty → Option Laid) (front : Front) (field : FieldTree) (fields : List FieldTree) (f : ℕ) →
    byte_numbered layout front (field ∷ fields) (suc f)
    ≡ option_and_then (λ one. option_and_then (λ next. byte_numbered layout next fields f) (front_behind front one)) (layout field.ty)
later layout front field fields f =
    ap (λ b. option_and_then
    (λ one. if b then Some (spot front (piece_of one)).byte else option_and_then (λ next. byte_numbered layout next fields (suc f - 1)) (front_behind front one))
    (layout field.ty)) (not_zero f)
    ∙ ap (λ n. option_and_then (λ one. option_and_then (λ next. byte_numbered layout next fields n) (front_behind front one)) (layout field.ty)) (less_one f)

module _ (layout : Ty → Option Laid) where
  abbrev place_of : ℕ → Option Front → List FieldTree → Option ℕ
  place_of f front fields = option_and_then (λ field. byte_behind (front_after layout front (take f fields)) (layout field.ty)) (slice_get fields f)

  abbrev Fits : ℕ → List FieldTree → Type 0
  Fits f fields = (front : Front) → IsSome (fronts layout front fields) → byte_numbered layout front fields f ≡ place_of f (Some front) fields

  first_by : (front : Front) (one : Option Laid) → option_and_then (λ one. Some (spot front (piece_of one)).byte) one ≡ byte_behind (Some front) one
  first_by front None = refl
  first_by front (Some one) = refl

  within_by : (f : ℕ) (fields : List FieldTree) (next : Front) (b : Bool) → Fits f fields →
      IsSome (option_and_then (λ next. fronts layout next fields) (if b then Some next else None)) →
      option_and_then (λ next. byte_numbered layout next fields f) (if b then Some next else None) ≡ place_of f (Some next) fields
  within_by f fields next true others some = others next some
  within_by f fields next false others some = absurd cc

  byte_by : (f : ℕ) (fields : List FieldTree) (front : Front) (one : Option Laid) → Fits f fields →
      IsSome (option_and_then (λ one. option_and_then (λ next. fronts layout next fields) (front_behind front one)) one) →
      option_and_then (λ one. option_and_then (λ next. byte_numbered layout next fields f) (front_behind front one)) one
      ≡ place_of f (behind one (Some front)) fields
  byte_by f fields front None others some = absurd cc
  byte_by f fields front (Some one) others some =
      within_by f fields (after front (piece_of one)) (nat_le (after front (piece_of one)).bits (8 * most_bytes)) others some

  byte_fits : (fields : List FieldTree) (f : ℕ) → Fits f fields
  byte_fits [] f front some = refl
  byte_fits (field ∷ fields) zero front some = first_by front (layout field.ty)
  byte_fits (field ∷ fields) (suc f) front some = later layout front field fields f ∙ byte_by f fields front (layout field.ty) (byte_fits fields f) some

  -- ---- each field has one

  abbrev Stands : ℕ → List FieldTree → Type 0
  Stands f fields = (front : Front) → IsSome (fronts layout front fields) → is_some (byte_numbered layout front fields f) ≡ is_some (slice_get fields f)

  first_stands : (front : Front) (fields : List FieldTree) (one : Option Laid) →
      IsSome (option_and_then (λ one. option_and_then (λ next. fronts layout next fields) (front_behind front one)) one) →
      is_some (option_and_then (λ one. Some (spot front (piece_of one)).byte) one) ≡ true
  first_stands front fields None some = absurd cc
  first_stands front fields (Some one) some = refl

  within_stands : (f : ℕ) (fields : List FieldTree) (next : Front) (b : Bool) → Stands f fields →
      IsSome (option_and_then (λ next. fronts layout next fields) (if b then Some next else None)) →
      is_some (option_and_then (λ next. byte_numbered layout next fields f) (if b then Some next else None)) ≡ is_some (slice_get fields f)
  within_stands f fields next true others some = others next some
  within_stands f fields next false others some = absurd cc

  stands_by : (f : ℕ) (fields : List FieldTree) (front : Front) (one : Option Laid) → Stands f fields →
      IsSome (option_and_then (λ one. option_and_then (λ next. fronts layout next fields) (front_behind front one)) one) →
      is_some (option_and_then (λ one. option_and_then (λ next. byte_numbered layout next fields f) (front_behind front one)) one) ≡ is_some (slice_get fields f)
  stands_by f fields front None others some = absurd cc
  stands_by f fields front (Some one) others some =
      within_stands f fields (after front (piece_of one)) (nat_le (after front (piece_of one)).bits (8 * most_bytes)) others some

  byte_stands : (fields : List FieldTree) (f : ℕ) → Stands f fields
  byte_stands [] f front some = refl
  byte_stands (field ∷ fields) zero front some = first_stands front fields (layout field.ty) some
  byte_stands (field ∷ fields) (suc f) front some =
      ap (λ place. is_some place) (later layout front field fields f) ∙ stands_by f fields front (layout field.ty) (byte_stands fields f) some

pub byte_is : (whole : CrateTree) (m i f : ℕ) (one : RecordTree) → valid_crate whole ≡ true → well_typed whole ≡ true →
    Some one ≡ record_numbered whole.modules m i →
    byte_numbered (laid_of whole.modules) (no_front one.is_union) one.fields f ≡ field_byte whole.modules m i f
byte_is whole m i f one valid typed is =
    byte_fits (laid_of whole.modules) one.fields f (no_front one.is_union)
    (record_fits (laid_of whole.modules) one (numbered_laid whole m i one valid typed is))
    ∙ ap (option_and_then (byte_in (laid_of whole.modules) f)) is

pub byte_none : (whole : CrateTree) (m i f : ℕ) (one : RecordTree) → valid_crate whole ≡ true → well_typed whole ≡ true →
    Some one ≡ record_numbered whole.modules m i →
    is_some (byte_numbered (laid_of whole.modules) (no_front one.is_union) one.fields f) ≡ is_some (field_numbered whole.modules m i f)
byte_none whole m i f one valid typed is =
    byte_stands (laid_of whole.modules) one.fields f (no_front one.is_union)
    (record_fits (laid_of whole.modules) one (numbered_laid whole m i one valid typed is))
    ∙ ap (λ found. is_some (option_and_then (λ one. slice_get one.fields f) found)) is
