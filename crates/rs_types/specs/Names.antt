-- Names of items and locals, as the code goes over them.
use Rattle.std.specs.Prelude.{ℕ, Bool, not, List, map, flat_map}
use Rattle.std.specs.List.{list_any}
use Rattle.rs_mean.specs.Typing.{item_names}
use Rattle.rs_text.specs.Names.{is_among}
use Rattle.rs_text.specs.Tree.{OuterTree, LocalTree, ItemTree}

abbrev pub outer_names : List OuterTree → List (List ℕ)
outer_names outers = map (λ fun. fun.name) outers

abbrev pub local_names : List LocalTree → List (List ℕ)
local_names locals = map (λ local. local.name) locals

-- a name that one of these items brings into its module
abbrev pub is_item_name : List ItemTree → List ℕ → Bool
is_item_name items name = is_among (flat_map item_names items) name

-- no local has the name of an item
abbrev pub are_new : List ItemTree → List LocalTree → Bool
are_new items locals = not (list_any (λ local. is_item_name items local.name) locals)
