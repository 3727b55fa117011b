use Rattle.std.proofs.Common.{◌≡◌, map, drop}
use Rattle.build_flow_code.specs.Labels.{label_view}
use Rattle.build_flow_nodes.specs.Labels.{label_where}
use Rattle.cx_mean.specs.BodyGraph.{is_named}
use Rattle.build_flow_code.proofs.labels.label_named.Given as goal

abbrev pub invariant-loop-one : goal.invariant-loop-one
invariant-loop-one l = label_where (is_named l.name) (map label_view (drop l.one-index l.labels)) ≡ label_where (is_named l.name) (map label_view l.labels)
