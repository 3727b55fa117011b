use Rattle.std.proofs.Common.{◌≡◌, ◌++◌, drop}
use Rattle.build_flow_reached.specs.Numbers.{counted_from, numbers_from}
use Rattle.build_flow_reached.proofs.numbers.Numbers.of.Given as goal

abbrev pub invariant-loop-one : goal.invariant-loop-one
invariant-loop-one l = record {
  numbers : l.numbers ++ numbers_from l.count (drop l.one-index l.reached) ≡ numbers_from 0 l.reached;
  count : counted_from l.count (drop l.one-index l.reached) ≡ counted_from 0 l.reached;
}
