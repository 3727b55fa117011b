use Rattle.std.proofs.Common.{◌≡◌, map, length}
use Rattle.rs_text.specs.Valid.{all_differ}
use Rattle.rs_tree.specs.Views.{local_view}
use Rattle.rs_types.specs.Names.{local_names}
use Rattle.rs_types.proofs.names.locals_differ.Given as goal

-- what is left answers for all
abbrev pub invariant-loop-rest : goal.invariant-loop-rest
invariant-loop-rest l = all_differ (local_names (map local_view l.rest)) ≡ all_differ (local_names (map local_view l.locals))

abbrev pub decreases-loop-rest : goal.decreases-loop-rest
decreases-loop-rest l = length l.rest
