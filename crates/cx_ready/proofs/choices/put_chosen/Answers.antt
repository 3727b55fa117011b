use Rattle.cx_core.specs.Views.{view_expr}
use Rattle.cx_node_steps.specs.Views.{view_choice}
use Rattle.cx_work.specs.Views.{view_operand}
use Rattle.cx_ready.proofs.Outcomes.{choice_taken}
use Rattle.cx_ready.proofs.choices.put_chosen.Goals as goal

pub returns : goal.returns
returns g c = choice_taken _ (view_expr c.args.node.now) (g.S.Store.memory c.args.store.now) _ (view_operand c.args.first) _ (view_choice c.in-Ok.choice)
    c.in-Ok.ensures c.end_sequence.ensures (c.put_choice.ensures _)
