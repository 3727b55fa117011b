-- In a crate that is well typed a record and a field are found by their names where they stand by their numbers.
use Rattle.std.proofs.Common.{◌≡◌, refl, sym, ap, ◌∙◌, subst, ℕ, zero, suc, ◌+◌, Bool, true, false, ◌&&◌, ◌||◌, not, List, [], ◌∷◌, map, take, flat_map, Option, Some, None, bytes_eq, slice_get}
use Rattle.std.specs.Option.{option_and_then, option_map}
use Rattle.std.specs.List.{list_any}
use Rattle.std.specs.Cmp.Lexicographic.{same_text}
use Rattle.std.proofs.lemmas.Bool.{and_parts}
use Rattle.cr_base.specs.Layout.{no_front}
use Rattle.cr_base.specs.declared.layout.Front.{Front}
use Rattle.cr_base.specs.declared.layout.Laid.{Laid}
use Rattle.rs_text.specs.Names.{is_among}
use Rattle.rs_text.specs.Valid.{all_differ, valid_crate}
use Rattle.rs_text.specs.Tree.{Ty, FieldTree, RecordTree, ItemTree, RecordItem, StaticItem, ExternItem, FunctionItem, ModuleTree, CrateTree}
use Rattle.rs_mean.specs.Lookups.{items_in, record_among, record_at}
use Rattle.rs_mean.specs.Layout.{FieldPlace, laid_of, behind, placed, field_behind, field_of, front_after}
use Rattle.rs_mean.specs.Typing.{item_names, names_differ, item_typed, first_ill_item, well_typed}
use Rattle.rs_layout.specs.LayoutsNumbered.{record_item, byte_behind, byte_in, field_byte, named_in, named_byte}
use Rattle.rs_layout.proofs.LayoutsTyped.{ill_by, fields_differ}
use Rattle.rs_layout.proofs.LayoutsFields.{itself, not_both, or_first, or_second, or_false, any_append, own_items, none_at, names_of}

-- ---- fields

field_has : (x : List ℕ) (fields : List FieldTree) (i : ℕ) (field : FieldTree) → slice_get fields i ≡ Some field → bytes_eq field.name x ≡ true →
    list_any (λ other. bytes_eq other x) (map (λ field. field.name) fields) ≡ true
field_has x [] i field is same = absurd cc
field_has x (first ∷ others) zero field is same =
    or_first (bytes_eq first.name x) _ (let e : first ≡ field = cc in subst (λ (field : FieldTree). bytes_eq field.name x ≡ true) (sym e) same)
field_has x (first ∷ others) (suc i) field is same = or_second (bytes_eq first.name x) _ (field_has x others i field is same)

differs : (first field : FieldTree) (others : List FieldTree) (i : ℕ) (b : Bool) → bytes_eq first.name field.name ≡ b →
    not (list_any (λ other. bytes_eq other first.name) (map (λ field. field.name) others)) ≡ true → slice_get others i ≡ Some field →
    bytes_eq first.name field.name ≡ false
differs first field others i false other differ is = other
differs first field others i true same differ is =
    let name : first.name ≡ field.name = same_text first.name field.name (sym same) in
    let back : bytes_eq field.name first.name ≡ true = subst (λ x. bytes_eq field.name x ≡ true) (sym name) (itself field.name) in
    absurd (not_both (list_any (λ other. bytes_eq other first.name) (map (λ (field : FieldTree). field.name) others)) (field_has first.name others i field is back) differ)

placed_here : (front : Option Front) (one : Option Laid) (field : FieldTree) →
    option_map (λ (place : FieldPlace). place.byte) (option_and_then (λ taken. placed one taken field) front) ≡ byte_behind front one
placed_here None None field = refl
placed_here None (Some one) field = refl
placed_here (Some taken) None field = refl
placed_here (Some taken) (Some one) field = refl

here_named : (layout : Ty → Option Laid) (front : Option Front) (field : FieldTree) (fields : List FieldTree) →
    field_behind layout field.name front (field ∷ fields) ≡ option_and_then (λ taken. placed (layout field.ty) taken field) front
here_named layout front field fields = rw (itself field.name) refl

passed_named : (layout : Ty → Option Laid) (f : List ℕ) (front : Option Front) (field : FieldTree) (fields : List FieldTree) → bytes_eq field.name f ≡ false →
    field_behind layout f front (field ∷ fields) ≡ field_behind layout f (behind (layout field.ty) front) fields
passed_named layout f front field fields other = rw other refl

named_place : (layout : Ty → Option Laid) (fields : List FieldTree) (i : ℕ) (field : FieldTree) (front : Option Front) →
    all_differ (map (λ field. field.name) fields) ≡ true → slice_get fields i ≡ Some field →
    option_map (λ (place : FieldPlace). place.byte) (field_behind layout field.name front fields) ≡ byte_behind (front_after layout front (take i fields)) (layout field.ty)
named_place layout [] i field front differ is = absurd cc
named_place layout (first ∷ others) zero field front differ is =
    let e : first ≡ field = cc in
    subst (λ (field : FieldTree). option_map (λ (place : FieldPlace). place.byte) (field_behind layout field.name front (first ∷ others)) ≡ byte_behind front (layout field.ty)) e
    (ap (λ found. option_map (λ (place : FieldPlace). place.byte) found) (here_named layout front first others) ∙ placed_here front (layout first.ty) first)
named_place layout (first ∷ others) (suc i) field front differ is =
    let parts = and_parts (not (list_any (λ other. bytes_eq other first.name) (map (λ (field : FieldTree). field.name) others))) (all_differ (map (λ (field : FieldTree). field.name) others)) differ in
    ap (λ found. option_map (λ (place : FieldPlace). place.byte) found)
    (passed_named layout field.name front first others (differs first field others i (bytes_eq first.name field.name) refl parts.0 is))
    ∙ named_place layout others i field (behind (layout first.ty) front) parts.1 is

-- ---- records

apart : (modules : List ModuleTree) (unit : ModuleTree) (i : ℕ) (items earlier : List ItemTree) (number : ℕ) (one : RecordTree) →
    first_ill_item modules unit earlier number items ≡ None → is_among (flat_map item_names earlier) one.name ≡ true →
    record_item (slice_get items i) ≡ Some one → ⊥
apart modules unit i [] earlier number one none among is = cc
apart modules unit zero (RecordItem other ∷ items) earlier number one none among is =
    let parts = ill_by (names_differ earlier (RecordItem other) && item_typed modules unit earlier (RecordItem other)) (first_ill_item modules unit (RecordItem other ∷ earlier) (number + 1) items) number none in
    let typed = and_parts (names_differ earlier (RecordItem other)) (item_typed modules unit earlier (RecordItem other)) parts.0 in
    let differ = and_parts (all_differ (item_names (RecordItem other))) (not (list_any (is_among (flat_map item_names earlier)) (item_names (RecordItem other)))) typed.0 in
    let same : one ≡ other = cc in
    let here : is_among (flat_map item_names earlier) other.name ≡ true = subst (λ (one : RecordTree). is_among (flat_map item_names earlier) one.name ≡ true) same among in
    not_both (is_among (flat_map item_names earlier) other.name || false) (or_false (is_among (flat_map item_names earlier) other.name) here) differ.1
apart modules unit zero (StaticItem object ∷ items) earlier number one none among is = cc
apart modules unit zero (ExternItem outers ∷ items) earlier number one none among is = cc
apart modules unit zero (FunctionItem fun ∷ items) earlier number one none among is = cc
apart modules unit (suc i) (item ∷ items) earlier number one none among is =
    let parts = ill_by (names_differ earlier item && item_typed modules unit earlier item) (first_ill_item modules unit (item ∷ earlier) (number + 1) items) number none in
    apart modules unit i items (item ∷ earlier) (number + 1) one parts.1 (any_append one.name (item_names item) (flat_map item_names earlier) among) is

found_here : (one : RecordTree) (items : List ItemTree) → record_among one.name (RecordItem one ∷ items) ≡ Some one
found_here one items = rw (itself one.name) refl

passed_record : (x : List ℕ) (one : RecordTree) (items : List ItemTree) → bytes_eq one.name x ≡ false → record_among x (RecordItem one ∷ items) ≡ record_among x items
passed_record x one items other = rw other refl

passed_by : (modules : List ModuleTree) (unit : ModuleTree) (i : ℕ) (item : ItemTree) (items earlier : List ItemTree) (number : ℕ) (one : RecordTree) (b : Bool) (other : RecordTree) →
    item ≡ RecordItem other → bytes_eq other.name one.name ≡ b → first_ill_item modules unit (item ∷ earlier) number items ≡ None →
    record_item (slice_get items i) ≡ Some one → bytes_eq other.name one.name ≡ false
passed_by modules unit i item items earlier number one false other at is none found = is
passed_by modules unit i item items earlier number one true other at is none found =
    absurd (apart modules unit i items (item ∷ earlier) number one none
    (subst (λ item. is_among (flat_map item_names (item ∷ earlier)) one.name ≡ true) (sym at) (or_first (bytes_eq other.name one.name) _ is)) found)

pub named_record : (modules : List ModuleTree) (unit : ModuleTree) (i : ℕ) (items earlier : List ItemTree) (number : ℕ) (one : RecordTree) →
    first_ill_item modules unit earlier number items ≡ None → record_item (slice_get items i) ≡ Some one → record_among one.name items ≡ Some one
named_record modules unit i [] earlier number one none is = absurd cc
named_record modules unit zero (RecordItem other ∷ items) earlier number one none is =
    let same : other ≡ one = cc in
    subst (λ (one : RecordTree). record_among one.name (RecordItem other ∷ items) ≡ Some one) same (found_here other items)
named_record modules unit zero (StaticItem object ∷ items) earlier number one none is = absurd cc
named_record modules unit zero (ExternItem outers ∷ items) earlier number one none is = absurd cc
named_record modules unit zero (FunctionItem fun ∷ items) earlier number one none is = absurd cc
named_record modules unit (suc i) (RecordItem other ∷ items) earlier number one none is =
    let parts = ill_by (names_differ earlier (RecordItem other) && item_typed modules unit earlier (RecordItem other)) (first_ill_item modules unit (RecordItem other ∷ earlier) (number + 1) items) number none in
    passed_record one.name other items
    (passed_by modules unit i (RecordItem other) items earlier (number + 1) one (bytes_eq other.name one.name) other refl refl parts.1 is)
    ∙ named_record modules unit i items (RecordItem other ∷ earlier) (number + 1) one parts.1 is
named_record modules unit (suc i) (StaticItem object ∷ items) earlier number one none is =
    let parts = ill_by (names_differ earlier (StaticItem object) && item_typed modules unit earlier (StaticItem object)) (first_ill_item modules unit (StaticItem object ∷ earlier) (number + 1) items) number none in
    named_record modules unit i items (StaticItem object ∷ earlier) (number + 1) one parts.1 is
named_record modules unit (suc i) (ExternItem outers ∷ items) earlier number one none is =
    let parts = ill_by (names_differ earlier (ExternItem outers) && item_typed modules unit earlier (ExternItem outers)) (first_ill_item modules unit (ExternItem outers ∷ earlier) (number + 1) items) number none in
    named_record modules unit i items (ExternItem outers ∷ earlier) (number + 1) one parts.1 is
named_record modules unit (suc i) (FunctionItem fun ∷ items) earlier number one none is =
    let parts = ill_by (names_differ earlier (FunctionItem fun) && item_typed modules unit earlier (FunctionItem fun)) (first_ill_item modules unit (FunctionItem fun ∷ earlier) (number + 1) items) number none in
    named_record modules unit i items (FunctionItem fun ∷ earlier) (number + 1) one parts.1 is

-- the names of its fields differ
pub differ_in : (modules : List ModuleTree) (unit : ModuleTree) (i : ℕ) (items earlier : List ItemTree) (number : ℕ) (one : RecordTree) →
    first_ill_item modules unit earlier number items ≡ None → record_item (slice_get items i) ≡ Some one → all_differ (map (λ field. field.name) one.fields) ≡ true
differ_in modules unit i [] earlier number one none is = absurd cc
differ_in modules unit zero (RecordItem other ∷ items) earlier number one none is =
    let parts = ill_by (names_differ earlier (RecordItem other) && item_typed modules unit earlier (RecordItem other)) (first_ill_item modules unit (RecordItem other ∷ earlier) (number + 1) items) number none in
    let typed = and_parts (names_differ earlier (RecordItem other)) (item_typed modules unit earlier (RecordItem other)) parts.0 in
    let same : other ≡ one = cc in
    subst (λ (one : RecordTree). all_differ (map (λ field. field.name) one.fields) ≡ true) same (fields_differ modules unit earlier other typed.1)
differ_in modules unit zero (StaticItem object ∷ items) earlier number one none is = absurd cc
differ_in modules unit zero (ExternItem outers ∷ items) earlier number one none is = absurd cc
differ_in modules unit zero (FunctionItem fun ∷ items) earlier number one none is = absurd cc
differ_in modules unit (suc i) (item ∷ items) earlier number one none is =
    let parts = ill_by (names_differ earlier item && item_typed modules unit earlier item) (first_ill_item modules unit (item ∷ earlier) (number + 1) items) number none in
    differ_in modules unit i items (item ∷ earlier) (number + 1) one parts.1 is

-- ---- the crate

field_by : (modules : List ModuleTree) (home : List ℕ) (f : ℕ) (one : RecordTree) (field : Option FieldTree) → slice_get one.fields f ≡ field →
    all_differ (map (λ field. field.name) one.fields) ≡ true → record_at modules home one.name ≡ Some one →
    option_and_then (λ field. byte_behind (front_after (laid_of modules) (Some (no_front one.is_union)) (take f one.fields)) (laid_of modules field.ty)) field
    ≡ option_and_then (λ field. option_map (λ (place : FieldPlace). place.byte) (field_of modules field.name (record_at modules home one.name))) field
field_by modules home f one None at differ found = refl
field_by modules home f one (Some field) at differ found =
    sym (ap (λ (found : Option RecordTree). option_map (λ (place : FieldPlace). place.byte) (field_of modules field.name found)) found
    ∙ named_place (laid_of modules) one.fields f field (Some (no_front one.is_union)) differ at)

record_by : (modules : List ModuleTree) (unit : ModuleTree) (i f : ℕ) (found : Option RecordTree) → items_in modules unit.name ≡ unit.items →
    first_ill_item modules unit [] 0 unit.items ≡ None → record_item (slice_get unit.items i) ≡ found →
    option_and_then (byte_in (laid_of modules) f) found ≡ option_and_then (named_in modules unit.name f) found
record_by modules unit i f None own none at = refl
record_by modules unit i f (Some one) own none at =
    field_by modules unit.name f one (slice_get one.fields f) refl (differ_in modules unit i unit.items [] 0 one none at)
    (ap (record_among one.name) own ∙ named_record modules unit i unit.items [] 0 one none at)

unit_by : (whole : CrateTree) (m i f : ℕ) (found : Option ModuleTree) → valid_crate whole ≡ true → well_typed whole ≡ true → slice_get whole.modules m ≡ found →
    option_and_then (byte_in (laid_of whole.modules) f) (option_and_then (λ unit. record_item (slice_get unit.items i)) found)
    ≡ option_and_then (λ unit. option_and_then (named_in whole.modules unit.name f) (record_item (slice_get unit.items i))) found
unit_by whole m i f None valid typed at = refl
unit_by whole m i f (Some unit) valid typed at =
    record_by whole.modules unit i f (record_item (slice_get unit.items i)) (own_items whole.modules m unit (names_of whole valid) at)
    (none_at whole.modules whole.modules 0 m unit typed at) refl

pub byte_named : (whole : CrateTree) (m i f : ℕ) → valid_crate whole ≡ true → well_typed whole ≡ true → field_byte whole.modules m i f ≡ named_byte whole.modules m i f
byte_named whole m i f valid typed = unit_by whole m i f (slice_get whole.modules m) valid typed refl
