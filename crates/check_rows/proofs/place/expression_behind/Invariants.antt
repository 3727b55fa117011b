use Rattle.cx_context.specs.Laid.{IsLaid}
use Rattle.cx_scope.specs.Views.{view_scope}
use Rattle.check_rows.proofs.place.expression_behind.Given as goal

abbrev pub invariant-loop-part : goal.invariant-loop-part
invariant-loop-part l = IsLaid (view_scope l.scope).types l.layouts
