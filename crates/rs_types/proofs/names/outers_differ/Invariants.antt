use Rattle.std.proofs.Common.{◌≡◌, map, length}
use Rattle.rs_text.specs.Valid.{all_differ}
use Rattle.rs_tree.specs.Views.{outer_view}
use Rattle.rs_types.specs.Names.{outer_names}
use Rattle.rs_types.proofs.names.outers_differ.Given as goal

-- what is left answers for all
abbrev pub invariant-loop-rest : goal.invariant-loop-rest
invariant-loop-rest l = all_differ (outer_names (map outer_view l.rest)) ≡ all_differ (outer_names (map outer_view l.outers))

abbrev pub decreases-loop-rest : goal.decreases-loop-rest
decreases-loop-rest l = length l.rest
