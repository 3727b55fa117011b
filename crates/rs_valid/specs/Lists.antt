-- Types of lists of `i8`, and the last items and the names of modules.
use Rattle.std.specs.Prelude.{ℕ, suc, nat_le, Bool, true, false, ◌&&◌, List, [], ◌∷◌, map, codes, Option, Some, None, if◌then◌else◌}
use Rattle.rs_text.specs.declared.integer.IntegerTy.TheVariants.{I8}
use Rattle.rs_text.specs.Tree.{Ty, Integer, Array, ItemTree}
use Rattle.rs_text.specs.Valid.{is_function, kind, next_kind, valid_item}
use Rattle.rs_tree.specs.declared.item.Module.{Module}
use Rattle.rs_tree.specs.Views.{module_view}

abbrev pub is_i8 : Ty → Bool
is_i8 (Integer I8) = true
is_i8 _ = false

-- how many values a list of `i8` has
abbrev pub bytes_in : Ty → Option ℕ
bytes_in (Array (Integer I8) size) = Some size
bytes_in _ = None

-- whether the last item is the initialiser, and `ends` where there is none
abbrev pub ends_from : Bool → List ItemTree → Bool
ends_from ends [] = ends
ends_from ends (item ∷ items) = ends_from (is_function (codes "run_static_initializers") item) items

abbrev pub names_of : List Module → List (List ℕ)
names_of modules = map (λ unit. unit.name) (map module_view modules)

-- an item is valid, where one of this kind or a later one may stand
abbrev pub can_stand : ℕ → ItemTree → Bool
can_stand first item = nat_le first (kind item) && valid_item item

-- how many items come before the first that isn't valid or is out of order, where one of this kind or a later one may stand first
abbrev pub valid_front : ℕ → List ItemTree → ℕ
valid_front first [] = 0
valid_front first (item ∷ items) = if can_stand first item then suc (valid_front (next_kind item) items) else 0
