-- Lists of trees, by the values that these are the trees of.
use Rattle.std.proofs.Common.{◌≡◌, ℕ, Bool, false, List, [], ◌∷◌, map, option_map, slice_get, codes, refl, ap}
use Rattle.std.proofs.lemmas.Option.{slice_get-map}
use Rattle.rs_text.specs.Tree.{ItemTree}
use Rattle.rs_text.specs.Valid.{is_function, ends_with_initialiser, has_entry}
use Rattle.rs_tree.specs.declared.item.Item.{Item}
use Rattle.rs_tree.specs.declared.item.Module.{Module}
use Rattle.rs_tree.specs.Views.{item_view, module_view}
use Rattle.rs_valid.specs.Lists.{ends_from}

ends : (before : Bool) (item : ItemTree) (items : List ItemTree) → ends_from before (item ∷ items) ≡ ends_with_initialiser (item ∷ items)
ends before item [] = refl
ends before item (other ∷ others) = ends (is_function (codes "run_static_initializers") item) other others

ends_all : (items : List ItemTree) → ends_from false items ≡ ends_with_initialiser items
ends_all [] = refl
ends_all (item ∷ items) = ends false item items

pub last_ends : (items : List Item) → ends_from false (map item_view items) ≡ ends_with_initialiser (map item_view items)
last_ends items = ends_all (map item_view items)

pub entry_mapped : (modules : List Module) (entry : ℕ) →
    has_entry (slice_get (map module_view modules) entry) ≡ has_entry (option_map module_view (slice_get modules entry))
entry_mapped modules entry = ap (λ found. has_entry found) (slice_get-map module_view modules entry)
