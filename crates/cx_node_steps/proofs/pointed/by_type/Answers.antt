use Rattle.cx_core.specs.Views.{view_type, view_types}
use Rattle.cx_mean.specs.Calls.{type_of_callee}
use Rattle.cx_work.specs.Views.{view_callee}
use Rattle.cx_node_steps.proofs.Compatible.{typed_otherwise, typed_so}
use Rattle.cx_node_steps.proofs.pointed.by_type.Goals as goal

pub returns-then-is_compatible : goal.returns-then-is_compatible
returns-then-is_compatible c =
    typed_so (view_types c.args.setting.now.program.now.types) (view_type c.args.visible.now) (type_of_callee (view_callee c.args.callee)) _ c.in-Ok.is_compatible
    (view_callee c.args.callee) c.type_of_callee.ensures c.in-Ok.ensures c.if-is_compatible.true

pub returns-else-is_compatible : goal.returns-else-is_compatible
returns-else-is_compatible c =
    typed_otherwise (view_types c.args.setting.now.program.now.types) (view_type c.args.visible.now) (type_of_callee (view_callee c.args.callee)) _ c.in-Ok.is_compatible
    (view_callee c.args.callee) c.type_of_callee.ensures c.in-Ok.ensures c.if-is_compatible.false
