use Rattle.std.proofs.Common.{◌≡◌, ◌++◌, map, drop}
use Rattle.emit_nests.specs.Views.{nest_view}
use Rattle.emit_rules.specs.Sorting.{at_arm}
use Rattle.emit_places.specs.Sorted.{inner_view}
use Rattle.emit_sorting.proofs.filling.at_arm.Given as goal

abbrev pub invariant-loop-inner : goal.invariant-loop-inner
invariant-loop-inner l = map nest_view l.made ++ at_arm l.arm (map inner_view (drop l.inner-index l.inside)) ≡ at_arm l.arm (map inner_view l.inside)
