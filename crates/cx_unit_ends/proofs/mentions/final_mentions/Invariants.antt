use Rattle.std.proofs.Common.{◌≡◌, ◌++◌, map, reverse, length}
use Rattle.cx_core.specs.Views.{view_mention}
use Rattle.cx_scope.specs.Views.{view_thing}
use Rattle.cx_unit_ends.specs.Ends as ends
use Rattle.cx_unit_ends.proofs.mentions.final_mentions.Given as goal

-- what is left stands in front of what was done
abbrev pub invariant-loop-one : goal.invariant-loop-one
invariant-loop-one l =
    map (ends.final_mention (map view_thing l.things)) (map view_mention l.mentions.items) ++ reverse (map view_mention l.done.items)
    ≡ map (ends.final_mention (map view_thing l.things)) (map view_mention l.fn.mentions.items)

abbrev pub decreases-loop-one : goal.decreases-loop-one
decreases-loop-one l = length l.mentions.items
