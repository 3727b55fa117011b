use Rattle.std.proofs.Common.{◌≡◌, ◌++◌, map, drop}
use Rattle.build_flow_code.specs.Labels.{label_view}
use Rattle.build_flow_code.proofs.labels.push_labels.Given as goal

abbrev pub invariant-loop-one : goal.invariant-loop-one
invariant-loop-one l = map label_view l.labels ++ map label_view (drop l.one-index l.more) ≡ map label_view l.fn.labels ++ map label_view l.more
