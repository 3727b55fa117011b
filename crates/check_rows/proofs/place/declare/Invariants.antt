use Rattle.cx_context.specs.Laid.{IsLaid}
use Rattle.cx_scope.specs.Views.{view_scope}
use Rattle.check_rows.proofs.place.declare.Given as goal

abbrev pub invariant-loop-declared : goal.invariant-loop-declared
invariant-loop-declared l = IsLaid (view_scope l.scope).types l.layouts
