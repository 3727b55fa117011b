use Rattle.cx_context.proofs.Same.{either_laid, laid_closed}
use Rattle.cx_scope.specs.Views.{view_scope}
use Rattle.cx_context.proofs.context.Context.end_enum.Goals as goal

pub invariant_of-self : goal.invariant_of-self
invariant_of-self c = record {
  laid = either_laid c.close_enum.result (view_scope c.args.self.now.scope) (view_scope c.close_enum.new.self) _ c.args.self.now.layouts c.args.self.now.laid
      c.close_enum.ensures.added c.close_enum.ensures.refused
      (laid_closed c.args.name.now c.args.number c.args.negative (view_scope c.args.self.now.scope) (view_scope c.close_enum.new.self) c.args.self.now.layouts c.args.self.now.laid);
}
