use Rattle.std.proofs.Common.{◌∙◌, sym, ap, subst}
use Rattle.cx_access.specs.Views.{view_setting}
use Rattle.cx_eval.specs.declared.step.Next.{Next}
use Rattle.cx_eval.specs.declared.step.Next.TheVariants as next
use Rattle.cx_machine.specs.Machines.{view_machine}
use Rattle.cx_outside.specs.States.{around}
use Rattle.cx_steps.specs.Picks.{Follows}
use Rattle.cx_work.specs.declared.operand.Called.{Called}
use Rattle.cx_steps.proofs.evaluating.follows.Goals as goal

pub returns-in-Stepped : goal.returns-in-Stepped
returns-in-Stepped g c =
    subst (λ (one : Next). Follows one c.goes_further.result (view_setting c.args.setting.now) c.args.machine.now c.args.purpose (view_machine c.goes_further.new.machine)
    (around c.args.kept.now (g.S.Store.memory c.args.store.now) (g.S.Store.limit c.args.store.now) (g.H.Host.state c.args.host.now))
    (around c.args.kept.now (g.S.Store.memory c.goes_further.new.store) (g.S.Store.limit c.goes_further.new.store) (g.H.Host.state c.args.host.now)))
    (sym c.in-Stepped.is) (c.goes_further.ensures.steps c.args.kept.now (g.H.Host.state c.args.host.now))

pub returns-in-Calls : goal.returns-in-Calls
returns-in-Calls g c =
    subst (λ (one : Next). Follows one c.calls.result (view_setting c.args.setting.now) c.args.machine.now c.args.purpose (view_machine c.calls.new.machine)
    (around c.args.kept.now (g.S.Store.memory c.args.store.now) (g.S.Store.limit c.args.store.now) (g.H.Host.state c.args.host.now))
    (around c.calls.new.kept (g.S.Store.memory c.calls.new.store) (g.S.Store.limit c.calls.new.store) (g.H.Host.state c.calls.new.host)))
    (sym (c.in-Calls.is ∙ ap (λ (called : Called). next.Calls called) (sym c.into_inner.ensures))) c.calls.ensures.steps
