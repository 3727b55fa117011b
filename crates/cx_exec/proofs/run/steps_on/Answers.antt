use Rattle.std.proofs.Common.{◌≡◌, ℕ, suc, ◌+◌, ◌-◌, subst, arith}
use Rattle.cx_access.specs.Views.{view_setting}
use Rattle.cx_exec.specs.Exec.{IsRun}
use Rattle.cx_exec.specs.Steps.{Reached, start_around}
use Rattle.cx_exec.proofs.Looping.{all_used, begun, further, stopped, wants_short}
use Rattle.cx_machine.specs.Machines.{view_machine}
use Rattle.cx_machine.specs.Steps.{taken_of}
use Rattle.cx_outside.specs.States.{around}
use Rattle.cx_exec.proofs.run.steps_on.Goals as goal

pub loop-taken-init : goal.loop-taken-init
loop-taken-init g c = record {
  within = omega arith;
  reached =
      begun (view_setting c.args.setting.now).program c.args.machine.now c.args.kept.now (g.S.Store.memory c.args.store.now) (g.S.Store.limit c.args.store.now) (g.H.Host.state c.args.host.now)
      c.requires.start c.requires.kept c.requires.empty;
}

pub loop-taken-preserved : goal.loop-taken-preserved
loop-taken-preserved g c =
    let same : suc (c.take_some.new.before + c.loop-taken.taken) ≡ c.loop-taken.taken + (c.take_some.new.before + 1) = omega arith in
    record {
      within = omega (arith, c.loop-taken-test.true, c.in_default.ensures.0);
      reached =
          subst (λ (count : ℕ). Reached (view_setting c.args.setting.now).program c.args.machine.now.order.now count (view_machine c.take_some.new.machine)
          (start_around (g.S.Store.limit c.args.store.now) (g.H.Host.state c.args.host.now))
          (around c.take_some.new.kept (g.S.Store.memory c.take_some.new.store) (g.S.Store.limit c.take_some.new.store) (g.H.Host.state c.take_some.new.host)))
          same
          (further (view_setting c.args.setting.now) c.args.machine.now.order.now c.loop-taken.taken (c.args.steps - c.loop-taken.taken) c.take_some.new.before c.loop-taken.machine c.take_some.new.machine
          (start_around (g.S.Store.limit c.args.store.now) (g.H.Host.state c.args.host.now))
          (around c.loop-taken.kept (g.S.Store.memory c.loop-taken.store) (g.S.Store.limit c.loop-taken.store) (g.H.Host.state c.loop-taken.host))
          (around c.take_some.new.kept (g.S.Store.memory c.take_some.new.store) (g.S.Store.limit c.take_some.new.store) (g.H.Host.state c.take_some.new.host))
          c.requires.setting c.loop-taken.invariant.reached c.in_default.ensures);
    }

pub returns-in-Err : goal.returns-in-Err
returns-in-Err g c =
    let same : c.take_some.new.before + c.loop-taken.taken ≡ c.loop-taken.taken + c.take_some.new.before = omega arith in (
      omega (arith, c.loop-taken-test.true, c.in-Err.ensures.0),
      λ outcome is.
          subst (λ (count : ℕ). IsRun (record { program = (view_setting c.args.setting.now).program; order = c.args.machine.now.order.now; limit = g.S.Store.limit c.args.store.now; trail = c.take_some.new.kept.trail })
          c.args.steps (g.H.Host.state c.args.host.now) (g.H.Host.state c.take_some.new.host) outcome (taken_of c.in-Err.stop count))
          same
          (stopped (view_setting c.args.setting.now) c.args.machine.now.order.now (g.S.Store.limit c.args.store.now) (g.H.Host.state c.args.host.now) c.loop-taken.taken (c.args.steps - c.loop-taken.taken)
          c.take_some.new.before c.args.steps c.loop-taken.machine
          (around c.loop-taken.kept (g.S.Store.memory c.loop-taken.store) (g.S.Store.limit c.loop-taken.store) (g.H.Host.state c.loop-taken.host))
          (around c.take_some.new.kept (g.S.Store.memory c.take_some.new.store) (g.S.Store.limit c.take_some.new.store) (g.H.Host.state c.take_some.new.host)) (view_machine c.take_some.new.machine) c.in-Err.stop
          c.requires.setting c.loop-taken.invariant.reached (omega (arith, c.loop-taken.invariant.within)) c.in-Err.ensures outcome is),
      λ is.
          wants_short (view_setting c.args.setting.now) c.args.machine.now.order.now (g.S.Store.limit c.args.store.now) (g.H.Host.state c.args.host.now) c.loop-taken.taken (c.args.steps - c.loop-taken.taken)
          c.take_some.new.before c.args.steps c.loop-taken.machine
          (around c.loop-taken.kept (g.S.Store.memory c.loop-taken.store) (g.S.Store.limit c.loop-taken.store) (g.H.Host.state c.loop-taken.host))
          (around c.take_some.new.kept (g.S.Store.memory c.take_some.new.store) (g.S.Store.limit c.take_some.new.store) (g.H.Host.state c.take_some.new.host)) (view_machine c.take_some.new.machine) c.in-Err.stop
          c.requires.setting c.loop-taken.invariant.reached (omega (arith, c.loop-taken.invariant.within)) c.in-Err.ensures is,
    )

pub returns : goal.returns
returns g c =
    all_used (view_setting c.args.setting.now).program c.args.machine.now.order.now (g.S.Store.limit c.args.store.now) (g.H.Host.state c.args.host.now) c.loop-taken.taken c.args.steps c.loop-taken.machine
    (around c.loop-taken.kept (g.S.Store.memory c.loop-taken.store) (g.S.Store.limit c.loop-taken.store) (g.H.Host.state c.loop-taken.host)) c.loop-taken.invariant.reached
    (omega (arith, c.loop-taken.invariant.within, c.loop-taken-test.false))
