use Rattle.std.proofs.Common.{refl}
use Rattle.emit_stmts.proofs.Ending.{arm_found, stmt_found, last_found}
use Rattle.emit_stmts.proofs.ends.+ending.Goals as goal

pub arms_end-loop-one-preserved : goal.arms_end-loop-one-preserved
arms_end-loop-one-preserved t c =
    arm_found c.loop-one.ends c.in_ok-stmts_end.field-0 c.in_ok-ends.ends c.args.cases.now c.as_slice-one-items.result.now c.loop-one.one-index c.one-item.result
    c.as_slice-one-items.ensures c.one-item.is c.loop-one-test.true c.in_ok-ends.ensures.goes c.in_ok-ends.ensures.breaks c.in_ok-stmts_end.ensures c.loop-one.invariant

pub stmts_end-loop-s-preserved : goal.stmts_end-loop-s-preserved
stmts_end-loop-s-preserved t c =
    stmt_found c.loop-s.breaks c.append.new.self c.in_ok-one.one c.args.ss.now c.as_slice-s-items.result.now c.loop-s.s-index c.s-item.result
    c.as_slice-s-items.ensures c.s-item.is c.loop-s-test.true c.in_ok-append.ensures.ok c.in_ok-one.ensures c.loop-s.invariant c.if-not-one.false

pub stmts_end-returns-then-not-one : goal.stmts_end-returns-then-not-one
stmts_end-returns-then-not-one t c =
    last_found c.loop-s.breaks c.append.new.self c.in_ok-one.one c.args.ss.now c.as_slice-s-items.result.now c.loop-s.s-index c.s-item.result
    c.as_slice-s-items.ensures c.s-item.is c.loop-s-test.true c.in_ok-append.ensures.ok c.in_ok-one.ensures c.loop-s.invariant _ c.if-not-one.true refl refl
