use Rattle.std.proofs.Common.{◌≡◌, reverse}
use Rattle.build_flow_reached.specs.Tables.{arms_of}
use Rattle.build_flow_reached.specs.Walks.{all_seen, left_of}
use Rattle.build_flow_reached.proofs.walk.seen_from.Given as goal

abbrev pub invariant-loop-place : goal.invariant-loop-place
invariant-loop-place l = all_seen (arms_of l.table) (reverse l.ahead) l.seen ≡ all_seen (arms_of l.table) (reverse l.fn.ahead) l.fn.seen

abbrev pub decreases-loop-place : goal.decreases-loop-place
decreases-loop-place l = left_of (arms_of l.table) (reverse l.ahead) l.seen
