use Rattle.std.proofs.Common.{option_map}
use Rattle.cx_context.proofs.Same.{either_laid, laid_used}
use Rattle.cx_scope.specs.Views.{view_scope, view_tag}
use Rattle.cx_context.proofs.context.Context.use_record.Goals as goal

pub invariant_of-self : goal.invariant_of-self
invariant_of-self c = record {
  laid = either_laid c.use_record.result (view_scope c.args.self.now.scope) (view_scope c.use_record.new.self) _ c.args.self.now.layouts c.args.self.now.laid
      c.use_record.ensures.added c.use_record.ensures.refused
      (laid_used (option_map view_tag c.args.found) c.args.name.now c.args.is_union (view_scope c.args.self.now.scope) (view_scope c.use_record.new.self) c.args.self.now.layouts c.args.self.now.laid);
}
