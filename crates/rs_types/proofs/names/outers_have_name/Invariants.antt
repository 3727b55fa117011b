use Rattle.std.proofs.Common.{◌≡◌, map, drop}
use Rattle.rs_text.specs.Names.{is_among}
use Rattle.rs_tree.specs.Views.{outer_view}
use Rattle.rs_types.specs.Names.{outer_names}
use Rattle.rs_types.proofs.names.outers_have_name.Given as goal

-- what is left answers for all
abbrev pub invariant-loop-outer : goal.invariant-loop-outer
invariant-loop-outer l = is_among (outer_names (map outer_view (drop l.outer-index l.outers))) l.name ≡ is_among (outer_names (map outer_view l.outers)) l.name
