use Rattle.emit_stmts.proofs.Ending.{StmtsFound, ArmsFound}
use Rattle.emit_stmts.proofs.ends.+ending.Given as goal

abbrev pub invariant-stmts_end-loop-s : goal.invariant-stmts_end-loop-s
invariant-stmts_end-loop-s l = StmtsFound l.ss l.s-index l.breaks

abbrev pub invariant-arms_end-loop-one : goal.invariant-arms_end-loop-one
invariant-arms_end-loop-one l = ArmsFound l.cases l.one-index l.ends
