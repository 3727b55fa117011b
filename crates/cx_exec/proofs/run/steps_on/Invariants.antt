use Rattle.std.proofs.Common.{◌≤◌, ◌-◌}
use Rattle.cx_access.specs.Views.{view_setting}
use Rattle.cx_exec.specs.Steps.{Reached, start_around}
use Rattle.cx_machine.specs.Machines.{view_machine}
use Rattle.cx_outside.specs.States.{around}
use Rattle.cx_exec.proofs.run.steps_on.Given as goal

abbrev pub decreases-loop-taken : goal.decreases-loop-taken
decreases-loop-taken g l = l.steps - l.taken

-- so many steps were taken
abbrev pub invariant-loop-taken : goal.invariant-loop-taken
invariant-loop-taken g l = record {
  within : l.taken ≤ l.steps;
  reached : Reached (view_setting l.fn.setting).program l.fn.machine.order.now l.taken (view_machine l.machine) (start_around (g.S.Store.limit l.fn.store) (g.H.Host.state l.fn.host))
      (around l.kept (g.S.Store.memory l.store) (g.S.Store.limit l.store) (g.H.Host.state l.host));
}
