use Rattle.cx_context.proofs.Same.{either_laid, laid_open}
use Rattle.cx_scope.specs.Views.{view_scope}
use Rattle.cx_context.proofs.context.Context.begin_enum.Goals as goal

pub invariant_of-self : goal.invariant_of-self
invariant_of-self c = record {
  laid = either_laid c.open_enum.result (view_scope c.args.self.now.scope) (view_scope c.open_enum.new.self) _ c.args.self.now.layouts c.args.self.now.laid
      c.open_enum.ensures.added c.open_enum.ensures.refused
      (laid_open c.args.name.now (view_scope c.args.self.now.scope) (view_scope c.open_enum.new.self) c.args.self.now.layouts c.args.self.now.laid);
}
