use Rattle.std.proofs.Common.{◌≡◌, ◌++◌, drop, map}
use Rattle.build_flow_nodes.specs.Parts.{zeroed_among}
use Rattle.cx_core.specs.Views.{stmts_of, view_stmt}
use Rattle.whole_temporaries.specs.Types.{names_of, type_among}
use Rattle.whole_temporaries.proofs.zeroed.+zeroing.Given as goal

abbrev pub invariant-list_zeroed-loop-one : goal.invariant-list_zeroed-loop-one
invariant-list_zeroed-loop-one l =
    l.zeroed ++ zeroed_among (names_of l.of.names.now) (type_among l.of.objects.now) (stmts_of (map view_stmt (drop l.one-index l.stmts)))
    ≡ l.fn.zeroed ++ zeroed_among (names_of l.of.names.now) (type_among l.of.objects.now) (stmts_of (map view_stmt l.stmts))
