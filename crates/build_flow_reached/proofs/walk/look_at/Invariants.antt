use Rattle.std.proofs.Common.{◌≡◌, ◌++◌, length, reverse}
use Rattle.build_flow_reached.proofs.walk.look_at.Given as goal

-- what is left stands in front of what is there
abbrev pub invariant-loop-place : goal.invariant-loop-place
invariant-loop-place l = l.left ++ reverse l.ahead ≡ l.places ++ reverse l.fn.ahead

abbrev pub decreases-loop-place : goal.decreases-loop-place
decreases-loop-place l = length l.left
