use Rattle.std.proofs.Common.{◌≡◌, drop}
use Rattle.cx_core.specs.Compatible.{in_pairs}
use Rattle.cx_core.proofs.meets.is_among.Given as goal

abbrev pub invariant-loop-pair : goal.invariant-loop-pair
invariant-loop-pair l = in_pairs (drop l.pair-index l.pairs) l.first l.second ≡ in_pairs l.pairs l.first l.second
