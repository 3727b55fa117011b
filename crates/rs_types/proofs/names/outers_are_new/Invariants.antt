use Rattle.std.proofs.Common.{◌≡◌, map, drop}
use Rattle.std.specs.List.{list_any}
use Rattle.rs_tree.specs.Views.{item_view, outer_view}
use Rattle.rs_types.specs.Names.{is_item_name, outer_names}
use Rattle.rs_types.proofs.names.outers_are_new.Given as goal

-- what is left answers for all
abbrev pub invariant-loop-outer : goal.invariant-loop-outer
invariant-loop-outer l = list_any (is_item_name (map item_view l.earlier)) (outer_names (map outer_view (drop l.outer-index l.outers))) ≡ list_any (is_item_name (map item_view l.earlier)) (outer_names (map outer_view l.outers))
