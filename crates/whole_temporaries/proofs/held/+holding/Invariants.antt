use Rattle.std.proofs.Common.{◌≡◌, ◌++◌, drop, map}
use Rattle.build_flow_nodes.specs.Parts.{temporaries_in_stmts}
use Rattle.cx_core.specs.Views.{stmts_of, view_stmt}
use Rattle.rs_tree.specs.Views.{ty_view}
use Rattle.whole_temporaries.specs.Types.{names_of}
use Rattle.whole_temporaries.proofs.held.+holding.Given as goal

abbrev pub invariant-list_types-loop-one : goal.invariant-list_types-loop-one
invariant-list_types-loop-one l =
    map ty_view l.types ++ temporaries_in_stmts (names_of l.names) (stmts_of (map view_stmt (drop l.one-index l.stmts)))
    ≡ map ty_view l.fn.types ++ temporaries_in_stmts (names_of l.names) (stmts_of (map view_stmt l.stmts))
