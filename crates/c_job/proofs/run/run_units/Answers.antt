use Rattle.std.proofs.Common.{◌≡◌, ◌<◌, map, length, sym, subst}
use Rattle.std.proofs.lemmas.List.{length-map}
use Rattle.c_job.specs.Ends.{MayEnd}
use Rattle.c_job.proofs.Checked.{are_of, bytes_of, may_want, never_begun, on_fault, ran}
use Rattle.c_job.proofs.Placed.{may_end}
use Rattle.c_job.proofs.run.run_units.Goals as goal

pub returns-clause-run : goal.returns-clause-run
returns-clause-run g c = λ units are. ran units _ _ _ _ _ _ (c.in_ok-program.ensures.program units are) c.in_ok-run_program.ensures.run

pub returns-clause-right : goal.returns-clause-right
returns-clause-right g c =
    let sources = c.args.sources.now in
    let units = map bytes_of sources in
    let got = c.in_ok-program.ensures.got in
    let count : length units ≡ length sources = length-map sources bytes_of in
    subst (λ n. MayEnd n c.in_ok-run_program.field-0) count
    (may_end units c.args.order.now c.args.steps _ _ (subst (λ n. 0 < n) (sym count) c.requires.some) c.in_ok-run_program.field-0
    (ran units _ _ _ _ _ _ (c.in_ok-program.ensures.program units (are_of sources got)) c.in_ok-run_program.ensures.run) c.in_ok-run_program.ensures.right)

pub returns-in_err-program-clause-wanting : goal.returns-in_err-program-clause-wanting
returns-in_err-program-clause-wanting g c = on_fault c.from_residual.result (λ why. never_begun c.args.sources.now c.args.order.now c.args.steps why (g.H.Host.state c.args.host.now))

pub returns-in_err-run_program-clause-wanting : goal.returns-in_err-run_program-clause-wanting
returns-in_err-run_program-clause-wanting g c =
    on_fault c.from_residual-in_err-run_program.result
    (λ why. may_want c.args.sources.now _ c.args.order.now c.args.steps why _ _ c.in_ok-program.ensures.program c.in_err-run_program.ensures.wanting)
