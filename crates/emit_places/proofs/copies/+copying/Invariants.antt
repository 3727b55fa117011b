use Rattle.std.proofs.Common.{◌≡◌, ◌++◌, ◌+◌, ◌*◌, map, drop}
use Rattle.emit_nests.specs.Views.{chain_view, nest_view}
use Rattle.emit_places.proofs.copies.+copying.Given as goal

abbrev pub decreases-copy_nest : goal.decreases-copy_nest
decreases-copy_nest l = 2 * goal.size-copy_nest l

abbrev pub decreases-copy_arm : goal.decreases-copy_arm
decreases-copy_arm l = 2 * goal.size-copy_arm l

abbrev pub decreases-copy_nests : goal.decreases-copy_nests
decreases-copy_nests l = 2 * goal.size-copy_nests l + 1

abbrev pub decreases-copy_arms : goal.decreases-copy_arms
decreases-copy_arms l = 2 * goal.size-copy_arms l + 1

abbrev pub invariant-copy_nests-loop-nest : goal.invariant-copy_nests-loop-nest
invariant-copy_nests-loop-nest l = map nest_view l.made ++ map nest_view (drop l.nest-index l.nests) ≡ map nest_view l.nests

abbrev pub invariant-copy_arms-loop-arm : goal.invariant-copy_arms-loop-arm
invariant-copy_arms-loop-arm l = map chain_view l.made ++ map chain_view (drop l.arm-index l.arms) ≡ map chain_view l.arms
