-- The walk over the items of a module, and over the modules.
use Rattle.std.proofs.Common.{◌≡◌, ℕ, zero, suc, ◌<◌, true, ◌&&◌, List, [], ◌∷◌, map, reverse, length, take, get_or, refl, sym, ap, subst, ◌∙◌, arith, slice_get}
use Rattle.std.specs.List.{list_all}
use Rattle.std.proofs.lemmas.Bool.{and_parts}
use Rattle.rs_layout.specs.Layouts.{AreAligned, ModulesAreAligned}
use Rattle.rs_layout.proofs.LayoutsAligned.{earlier_aligned, crate_aligned}
use Rattle.rs_text.specs.Lines.{module_names}
use Rattle.rs_text.specs.Tree.{ItemTree}
use Rattle.rs_text.specs.Valid.{valid_item, valid_items, valid_names, valid_crate, has_entry, are_in_order, ends_with_initialiser}
use Rattle.rs_tree.specs.declared.item.Crate.{Crate}
use Rattle.rs_tree.specs.declared.item.Item.{Item}
use Rattle.rs_tree.specs.declared.item.Module.{Module}
use Rattle.rs_tree.specs.Views.{item_view, module_view, crate_view}

-- ---- items of a valid module

items_valid : (items : List ItemTree) → valid_items items ≡ true → list_all valid_item items ≡ true
items_valid items v =
    (and_parts (list_all valid_item items) (are_in_order 0 items) (and_parts (list_all valid_item items && are_in_order 0 items) (ends_with_initialiser items) v).0).0

front_valid : (items : List Item) (index : ℕ) → list_all valid_item (map item_view items) ≡ true → list_all valid_item (map item_view (take index items)) ≡ true
front_valid items zero h = refl
front_valid [] (suc index) h = refl
front_valid (item ∷ items) (suc index) h =
    let parts = and_parts (valid_item (item_view item)) (list_all valid_item (map item_view items)) h in
    ap (λ b. b && list_all valid_item (map item_view (take index items))) parts.0 ∙ front_valid items index parts.1

item_valid : (items : List Item) (index : ℕ) (item : Item) → index < length items → item ≡ get_or items index item → list_all valid_item (map item_view items) ≡ true → valid_item (item_view item) ≡ true
item_valid [] index item h e v = absurd (omega (arith, h))
item_valid (first ∷ items) zero item h e v = ap (λ (i : Item). valid_item (item_view i)) e ∙ (and_parts (valid_item (item_view first)) (list_all valid_item (map item_view items)) v).0
item_valid (first ∷ items) (suc index) item h e v =
    let less : index < length items = omega (arith, h) in
    item_valid items index item less e (and_parts (valid_item (item_view first)) (list_all valid_item (map item_view items)) v).1

pub front_aligned : (items : List Item) (index : ℕ) → valid_items (map item_view items) ≡ true → AreAligned (reverse (map item_view (take index items)))
front_aligned items index v = earlier_aligned (map item_view (take index items)) (front_valid items index (items_valid (map item_view items) v))

pub item_aligned : (items : List Item) (index : ℕ) (item : Item) → index < length items → item ≡ get_or items index item → valid_items (map item_view items) ≡ true → AreAligned (item_view item ∷ [])
item_aligned items index item h e v =
    earlier_aligned (item_view item ∷ []) (ap (λ b. b && true) (item_valid items index item h e (items_valid (map item_view items) v)))

-- ---- as the code sees them

pub shown_front : (items shown : List Item) (index : ℕ) → shown ≡ items → valid_items (map item_view items) ≡ true → AreAligned (reverse (map item_view (take index shown)))
shown_front items shown index e v = front_aligned shown index (subst (λ (l : List Item). valid_items (map item_view l) ≡ true) (sym e) v)

pub shown_item : (items shown : List Item) (index : ℕ) (item : Item) → shown ≡ items → index < length shown → item ≡ get_or shown index item → valid_items (map item_view items) ≡ true →
    AreAligned (item_view item ∷ [])
shown_item items shown index item e h i v = item_aligned shown index item h i (subst (λ (l : List Item). valid_items (map item_view l) ≡ true) (sym e) v)

pub shown_modules : (whole : Crate) (shown : List Module) → shown ≡ whole.modules → valid_crate (crate_view whole) ≡ true → ModulesAreAligned (map module_view shown)
shown_modules whole shown e v = subst (λ (l : List Module). ModulesAreAligned (map module_view l)) (sym e) (crate_aligned (crate_view whole) v)

unit_valid : (units : List Module) (index : ℕ) (unit : Module) → index < length units → unit ≡ get_or units index unit → list_all (λ one. valid_items one.items) (map module_view units) ≡ true →
    valid_items (module_view unit).items ≡ true
unit_valid [] index unit h e v = absurd (omega (arith, h))
unit_valid (first ∷ units) zero unit h e v =
    ap (λ (u : Module). valid_items (module_view u).items) e ∙ (and_parts (valid_items (module_view first).items) (list_all (λ one. valid_items one.items) (map module_view units)) v).0
unit_valid (first ∷ units) (suc index) unit h e v =
    let less : index < length units = omega (arith, h) in
    unit_valid units index unit less e (and_parts (valid_items (module_view first).items) (list_all (λ one. valid_items one.items) (map module_view units)) v).1

pub shown_unit : (whole : Crate) (shown : List Module) (index : ℕ) (unit : Module) → shown ≡ whole.modules → index < length shown → unit ≡ get_or shown index unit → valid_crate (crate_view whole) ≡ true →
    valid_items (module_view unit).items ≡ true
shown_unit whole shown index unit e h u v =
    let tree = crate_view whole in
    let items = (and_parts (valid_names (module_names tree)) (list_all (λ one. valid_items one.items) tree.modules)
    (and_parts (valid_names (module_names tree) && list_all (λ one. valid_items one.items) tree.modules) (has_entry (slice_get tree.modules tree.entry)) v).0).1 in
    unit_valid shown index unit h u (subst (λ (l : List Module). list_all (λ one. valid_items one.items) (map module_view l) ≡ true) (sym e) items)
