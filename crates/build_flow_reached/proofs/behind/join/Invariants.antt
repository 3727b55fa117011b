use Rattle.std.proofs.Common.{◌≡◌, ◌++◌, length, map}
use Rattle.build_flow_reached.specs.Views.{joined}
use Rattle.rs_tree.specs.Views.{stmt_view}
use Rattle.build_flow_reached.proofs.behind.join.Given as goal

-- what was joined stands in front of what is left
abbrev pub invariant-loop-body : goal.invariant-loop-body
invariant-loop-body l = map stmt_view l.made ++ joined l.bodies (map stmt_view l.fn.rest) ≡ joined l.fn.bodies (map stmt_view l.fn.rest)

abbrev pub decreases-loop-body : goal.decreases-loop-body
decreases-loop-body l = length l.bodies
