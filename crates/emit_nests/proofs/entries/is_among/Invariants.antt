use Rattle.std.proofs.Common.{◌≡◌, drop}
use Rattle.reloop.specs.Graphs.{is_in}
use Rattle.emit_nests.proofs.entries.is_among.Given as goal

abbrev pub invariant-loop-other : goal.invariant-loop-other
invariant-loop-other l = is_in l.node (drop l.other-index l.nodes) ≡ is_in l.node l.nodes
