use Rattle.std.proofs.Common.{◌≡◌, ◌++◌, map, drop}
use Rattle.build_flow_code.specs.Labels.{label_view}
use Rattle.build_flow_nodes.specs.Labels.{labels_among}
use Rattle.cx_core.specs.Views.{stmts_of, view_stmt}
use Rattle.build_flow_code.proofs.labels.+labelling.Given as goal

abbrev pub invariant-labels_among-loop-index : goal.invariant-labels_among-loop-index
invariant-labels_among-loop-index l =
    map label_view l.labels ++ labels_among l.own (stmts_of (map view_stmt (drop l.index l.stmts))) l.index l.path l.entered
    ≡ map label_view l.fn.labels ++ labels_among l.own (stmts_of (map view_stmt l.stmts)) 0 l.path l.entered
