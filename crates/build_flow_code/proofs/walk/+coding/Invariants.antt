use Rattle.std.proofs.Common.{◌≡◌, ◌+◌, ◌*◌, ◌++◌, map, drop}
use Rattle.build_flow_code.specs.Bodies.{body_of}
use Rattle.build_flow_code.specs.Fits.{StmtsFit}
use Rattle.build_flow_instrs.specs.Views.{instr_view}
use Rattle.build_flow_code.specs.Walks.{around_view}
use Rattle.build_flow_linear.specs.Linear.{list_code}
use Rattle.build_flow_nodes.specs.Parts.{count_in_stmts}
use Rattle.cx_core.specs.Views.{stmts_of, view_stmt}
use Rattle.build_flow_code.proofs.walk.+coding.Given as goal

-- eight times the depth, so that a statement, its parts and lists come between
abbrev pub decreases-stmt_code : goal.decreases-stmt_code
decreases-stmt_code l = 8 * goal.size-stmt_code l + 2

abbrev pub decreases-form_code : goal.decreases-form_code
decreases-form_code l = 8 * goal.size-form_code l + 1

abbrev pub decreases-part_code : goal.decreases-part_code
decreases-part_code l = 8 * goal.size-part_code l + 3

abbrev pub decreases-turn_code : goal.decreases-turn_code
decreases-turn_code l = 8 * goal.size-turn_code l + 4

abbrev pub decreases-arm_code : goal.decreases-arm_code
decreases-arm_code l = 8 * goal.size-arm_code l + 5

abbrev pub decreases-otherwise_code : goal.decreases-otherwise_code
decreases-otherwise_code l = 8 * goal.size-otherwise_code l + 5

abbrev pub decreases-switch_code : goal.decreases-switch_code
decreases-switch_code l = 8 * goal.size-switch_code l + 5

abbrev pub decreases-while_code : goal.decreases-while_code
decreases-while_code l = 8 * goal.size-while_code l + 5

abbrev pub decreases-do_code : goal.decreases-do_code
decreases-do_code l = 8 * goal.size-do_code l + 5

abbrev pub decreases-for_code : goal.decreases-for_code
decreases-for_code l = 8 * goal.size-for_code l + 5

abbrev pub decreases-list_code : goal.decreases-list_code
decreases-list_code l = 8 * goal.size-list_code l + 4

abbrev pub decreases-firsts_code : goal.decreases-firsts_code
decreases-firsts_code l = 8 * goal.size-firsts_code l + 5

abbrev pub invariant-list_code-loop-index : goal.invariant-list_code-loop-index
invariant-list_code-loop-index l =
    (map instr_view l.code ++ list_code (body_of l.of) (around_view l.site.around) l.site.path.now l.index l.number (stmts_of (map view_stmt (drop l.index l.stmts)))
    ≡ map instr_view l.fn.code ++ list_code (body_of l.of) (around_view l.site.around) l.site.path.now 0 l.site.number (stmts_of (map view_stmt l.stmts)))
    × (l.number + count_in_stmts (body_of l.of).names (stmts_of (map view_stmt (drop l.index l.stmts)))
    ≡ l.site.number + count_in_stmts (body_of l.of).names (stmts_of (map view_stmt l.stmts)))
    × StmtsFit (stmts_of (map view_stmt (drop l.index l.stmts)))
