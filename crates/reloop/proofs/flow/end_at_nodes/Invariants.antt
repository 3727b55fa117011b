use Rattle.std.proofs.Common.{◌≡◌, drop}
use Rattle.reloop.specs.Checks.{all_below}
use Rattle.reloop.specs.Searches.{ends_of}
use Rattle.reloop.proofs.flow.end_at_nodes.Given as goal

abbrev pub invariant-loop-row : goal.invariant-loop-row
invariant-loop-row l = all_below l.count (ends_of (drop l.row-index l.rows)) ≡ all_below l.count (ends_of l.rows)
