-- The labels of a function, behind others that were found before.
use Rattle.std.specs.Prelude.{ℕ, List, ◌++◌}
use Rattle.cx_rules.specs.UnitWalk.{labels_of, labels_of_else, labels_of_item, labels_of_items}
use Rattle.cx_tree.specs.Trees.{StmtTree, OptionStmtTree, ItemTree, ItemTrees}

abbrev pub labels_behind : List (List ℕ) → StmtTree → List (List ℕ)
labels_behind found stmt = found ++ labels_of stmt

abbrev pub else_labels_behind : List (List ℕ) → OptionStmtTree → List (List ℕ)
else_labels_behind found otherwise = found ++ labels_of_else otherwise

abbrev pub item_labels_behind : List (List ℕ) → ItemTree → List (List ℕ)
item_labels_behind found item = found ++ labels_of_item item

abbrev pub items_labels_behind : List (List ℕ) → ItemTrees → List (List ℕ)
items_labels_behind found items = found ++ labels_of_items items
