use Rattle.std.proofs.Common.{◌≡◌, map, drop}
use Rattle.std.specs.List.{list_all}
use Rattle.rs_text.specs.Valid.{valid_outer}
use Rattle.rs_tree.specs.Views.{outer_view}
use Rattle.rs_valid.proofs.items.are_valid_outers.Given as goal

-- what is left is valid where all is
abbrev pub invariant-loop-outer : goal.invariant-loop-outer
invariant-loop-outer l = list_all valid_outer (map outer_view (drop l.outer-index l.outer-items)) ≡ list_all valid_outer (map outer_view l.outer-items)
