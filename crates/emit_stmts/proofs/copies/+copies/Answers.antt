use Rattle.std.proofs.Common.{◌∙◌, refl, ap, map, sym}
use Rattle.rs_text.specs.Tree.{stmts, arms, more_stmts, more_arms}
use Rattle.rs_tree.specs.Views.{stmt_view, arm_view}
use Rattle.emit_stmts.specs.Copies.{stmts_copy, arms_copy}
use Rattle.emit_stmts.proofs.Lists.{stmt_made, stmts_ended, arm_made, arms_ended}
use Rattle.emit_stmts.proofs.Opened.{arm_is}
use Rattle.emit_stmts.proofs.copies.+copies.Goals as goal

pub copy_stmts-loop-s-preserved : goal.copy_stmts-loop-s-preserved
copy_stmts-loop-s-preserved t c =
    stmt_made stmt_view (λ list. stmts_copy c.args.labels.now (stmts (map stmt_view list))) c.loop-s.made c.push.new.self c.args.ss.now c.as_slice-s-items.result.now c.loop-s.s-index
    c.s-item.result c.into_inner.result _ c.as_slice-s-items.ensures c.s-item.is c.loop-s-test.true c.in_ok-push.ensures.ok
    (λ rest. ap (λ s. more_stmts s (stmts_copy c.args.labels.now (stmts (map stmt_view rest)))) (sym (ap stmt_view c.into_inner.ensures ∙ c.in_ok-copy_stmt.ensures))) c.loop-s.invariant

pub copy_stmts-returns : goal.copy_stmts-returns
copy_stmts-returns t c =
    stmts_ended stmt_view (λ list. stmts_copy c.args.labels.now (stmts (map stmt_view list))) c.loop-s.made c.args.ss.now c.as_slice-s-items.result.now c.loop-s.s-index
    _ c.as_slice-s-items.ensures c.loop-s-test.false refl c.loop-s.invariant

pub copy_arms-loop-one-preserved : goal.copy_arms-loop-one-preserved
copy_arms-loop-one-preserved t c =
    arm_made arm_view (λ list. arms_copy c.args.labels.now (arms (map arm_view list))) c.loop-one.made c.push.new.self c.args.cases.now c.as_slice-one-items.result.now c.loop-one.one-index
    c.one-item.result c.in_ok-arm_of.field-0 _ c.as_slice-one-items.ensures c.one-item.is c.loop-one-test.true c.in_ok-push.ensures.ok
    (λ rest. ap (λ one. arms_copy c.args.labels.now (more_arms one (arms (map arm_view rest)))) (arm_is c.one-item.result) ∙ ap (λ s. more_arms s (arms_copy c.args.labels.now (arms (map arm_view rest)))) (sym c.in_ok-arm_of.ensures)) c.loop-one.invariant

pub copy_arms-returns : goal.copy_arms-returns
copy_arms-returns t c =
    arms_ended arm_view (λ list. arms_copy c.args.labels.now (arms (map arm_view list))) c.loop-one.made c.args.cases.now c.as_slice-one-items.result.now c.loop-one.one-index
    _ c.as_slice-one-items.ensures c.loop-one-test.false refl c.loop-one.invariant
