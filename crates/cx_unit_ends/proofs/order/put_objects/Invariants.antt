use Rattle.std.proofs.Common.{◌≡◌, ◌++◌, map, reverse, length}
use Rattle.cx_core.specs.Views.{view_object}
use Rattle.cx_scope.specs.Views.{view_thing}
use Rattle.cx_unit_ends.specs.Ends as ends
use Rattle.cx_unit_ends.specs.Merged.{merged}
use Rattle.cx_unit_ends.proofs.order.put_objects.Given as goal

-- what was put stands in front of what is still to be merged
abbrev pub invariant-loop-one : goal.invariant-loop-one
invariant-loop-one l =
    map view_object l.done.items ++ merged (map (ends.final_object (map view_thing l.things)) (map view_object (reverse l.left.items))) (reverse (map view_object l.held.items))
    ≡ merged (map (ends.final_object (map view_thing l.things)) (map view_object l.fn.objects.items)) (reverse (map view_object l.fn.held.items))

abbrev pub decreases-loop-one : goal.decreases-loop-one
decreases-loop-one l = length l.left.items
