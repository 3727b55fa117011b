use Rattle.std.proofs.Common.{sym, subst, Result}
use Rattle.cx_access.specs.Finds.{Finds}
use Rattle.cx_access.specs.Views.{view_setting}
use Rattle.cx_core.specs.Views.{view_expr}
use Rattle.cx_mean.specs.Nodes.{CUpdating}
use Rattle.cx_mean.specs.Operands.{CWhy}
use Rattle.cx_node_steps.specs.Changes.{view_change}
use Rattle.cx_node_steps.specs.Dones.{view_loaded}
use Rattle.cx_node_steps.specs.Views.{form_of}
use Rattle.cx_node_steps.proofs.Stepped.{by_change}
use Rattle.cx_work.specs.Views.{view_operand}
use Rattle.cx_node_steps.proofs.whole.step_loaded.Goals as goal

pub returns : goal.returns
returns g c = subst (λ (found : Result CUpdating CWhy). Finds view_loaded c.loaded_as.result found)
    (sym (by_change (view_setting c.args.setting.now) (form_of (view_expr c.args.node.now)) (g.O.Objects.frame c.args.objects.now) (g.S.Store.memory c.args.store.now)
    (view_operand c.args.operand) c.in-Some.parts.up c.in-Some.parts.post (view_expr c.in-Some.parts.on.now) (view_change c.by_one-change.result)
    c.in-Some.ensures c.by_one-change.ensures)) c.loaded_as.ensures
