use Rattle.std.proofs.Common.{map, reverse}
use Rattle.cx_context.specs.Views.{scope_of}
use Rattle.cx_core.specs.Views.{view_type}
use Rattle.cx_decl_steps.proofs.HeadLaws.{head_is}
use Rattle.cx_entities.specs.Views.{view_declaring}
use Rattle.cx_shapes.specs.Views.{view_step}
use Rattle.cx_decl_steps.proofs.heads.head_declared.Goals as goal

pub returns-clause-scope : goal.returns-clause-scope
returns-clause-scope c =
    head_is (view_declaring c.args.one) (view_type c.args.written.now) (reverse (map view_step c.args.derivation)) (scope_of c.args.context.now) (scope_of c.define_in.new.context) (scope_of c.begin_in.new.context)
    c.in_ok-define_in.ensures c.in_ok-numbers.ensures.scope
