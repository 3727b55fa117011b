use Rattle.std.proofs.Common.{◌≡◌, ◌+◌, drop}
use Rattle.build_flow_code.specs.Bodies.{index_in}
use Rattle.build_flow_code.proofs.body.index_in.Given as goal

abbrev pub invariant-loop-index : goal.invariant-loop-index
invariant-loop-index l = l.index + index_in l.number (drop l.index l.numbers) ≡ index_in l.number l.numbers
