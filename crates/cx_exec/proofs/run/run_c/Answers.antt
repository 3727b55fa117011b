use Rattle.std.proofs.Common.{refl, subst, OnErr}
use Rattle.cx_core.specs.declared.program.Parts.{Parts}
use Rattle.cx_core.specs.Views.{view_program}
use Rattle.cx_exec.specs.Exec.{IsShort}
use Rattle.cx_exec.specs.declared.outcome.CRun.{CRun}
use Rattle.cx_exec.proofs.Looping.{if_ok, none_short, on_err, run_of, setting_is}
use Rattle.cx_exec.proofs.run.run_c.Goals as goal

pub run_in-requires-clause-setting : goal.run_in-requires-clause-setting
run_in-requires-clause-setting g c = setting_is c.parts.result.now c.args.program.now c.in_ok-layouts.layouts c.parts.ensures.value c.in_ok-layouts.ensures

pub returns-clause-outcome : goal.returns-clause-outcome
returns-clause-outcome g c =
    if_ok c.run_in.result (λ (run : CRun) runs.
    (run_of c.parts.result.now c.args.program.now c.args.order.now _ run.trail c.args.steps _ _ run.outcome run.steps c.parts.ensures.value runs).progress)
    c.run_in.ensures.run

pub returns-clause-trail : goal.returns-clause-trail
returns-clause-trail g c =
    if_ok c.run_in.result (λ (run : CRun) runs.
    (run_of c.parts.result.now c.args.program.now c.args.order.now _ run.trail c.args.steps _ _ run.outcome run.steps c.parts.ensures.value runs).answers)
    c.run_in.ensures.run

pub returns-clause-taken : goal.returns-clause-taken
returns-clause-taken g c =
    if_ok c.run_in.result (λ (run : CRun) runs.
    (run_of c.parts.result.now c.args.program.now c.args.order.now _ run.trail c.args.steps _ _ run.outcome run.steps c.parts.ensures.value runs).units)
    c.run_in.ensures.run

pub returns-clause-told : goal.returns-clause-told
returns-clause-told g c =
    if_ok c.run_in.result (λ (run : CRun) runs.
    (run_of c.parts.result.now c.args.program.now c.args.order.now _ run.trail c.args.steps _ _ run.outcome run.steps c.parts.ensures.value runs).told)
    c.run_in.ensures.run

pub returns-clause-given : goal.returns-clause-given
returns-clause-given g c =
    if_ok c.run_in.result (λ (run : CRun) runs.
    (run_of c.parts.result.now c.args.program.now c.args.order.now _ run.trail c.args.steps _ _ run.outcome run.steps c.parts.ensures.value runs).given_by)
    c.run_in.ensures.run

pub returns-clause-takes : goal.returns-clause-takes
returns-clause-takes g c =
    if_ok c.run_in.result (λ (run : CRun) runs.
    (run_of c.parts.result.now c.args.program.now c.args.order.now _ run.trail c.args.steps _ _ run.outcome run.steps c.parts.ensures.value runs).takes)
    c.run_in.ensures.run

pub returns-clause-asks : goal.returns-clause-asks
returns-clause-asks g c =
    if_ok c.run_in.result (λ (run : CRun) runs.
    (run_of c.parts.result.now c.args.program.now c.args.order.now _ run.trail c.args.steps _ _ run.outcome run.steps c.parts.ensures.value runs).asks)
    c.run_in.ensures.run

pub returns-clause-failed : goal.returns-clause-failed
returns-clause-failed g c =
    if_ok c.run_in.result (λ (run : CRun) runs.
    (run_of c.parts.result.now c.args.program.now c.args.order.now _ run.trail c.args.steps _ _ run.outcome run.steps c.parts.ensures.value runs).failed)
    c.run_in.ensures.run

pub returns-in_err-layouts-clause-short : goal.returns-in_err-layouts-clause-short
returns-in_err-layouts-clause-short g c =
    on_err c.from_residual.result
    (none_short (view_program c.args.program.now) c.args.order.now (g.S.Store.limit c.args.store.now) c.args.steps (g.H.Host.state c.args.host.now) (g.H.Host.state c.args.host.now) refl)

pub returns-clause-short : goal.returns-clause-short
returns-clause-short g c =
    subst (λ (one : Parts). OnErr c.run_in.result (IsShort (view_program one) c.args.order.now (g.S.Store.limit c.args.store.now) c.args.steps (g.H.Host.state c.args.host.now) (g.H.Host.state c.run_in.new.host)))
    c.parts.ensures.value c.run_in.ensures.short
