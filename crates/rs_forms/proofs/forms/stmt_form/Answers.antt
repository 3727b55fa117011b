use Rattle.std.proofs.Common.{◌∙◌}
use Rattle.rs_forms.proofs.Opened.{assign_runs, block_runs, break_runs, continue_runs, copy_runs, eval_runs, if_runs, loop_runs, match_runs}
use Rattle.rs_forms.proofs.forms.stmt_form.Goals as goal

pub returns-in-Assign : goal.returns-in-Assign
returns-in-Assign c = λ frame. assign_runs frame c.args.tree.now c.in-Assign.of c.get.result.now c.in-Assign.value c.get-in-Assign.result.now c.in-Assign.is c.get.ensures c.get-in-Assign.ensures

pub returns-in-Eval : goal.returns-in-Eval
returns-in-Eval c = λ frame. c.dropped_form.ensures frame ∙ eval_runs frame c.args.tree.now c.in-Eval.value c.get-in-Eval.result.now c.in-Eval.is c.get-in-Eval.ensures

pub returns-in-CopyBytes : goal.returns-in-CopyBytes
returns-in-CopyBytes c = λ frame. copy_runs frame c.args.tree.now c.in-CopyBytes.source c.in-CopyBytes.target c.in-CopyBytes.count c.get-in-CopyBytes.result.now c.get-in-CopyBytes-2.result.now c.get-in-CopyBytes-3.result.now c.in-CopyBytes.is c.get-in-CopyBytes.ensures c.get-in-CopyBytes-2.ensures c.get-in-CopyBytes-3.ensures

pub returns-in-If : goal.returns-in-If
returns-in-If c = λ frame. if_runs frame c.args.tree.now c.in-If.condition c.get-in-If.result.now c.in-If.if_true c.in-If.if_false c.in-If.is c.get-in-If.ensures

pub returns-in-Loop : goal.returns-in-Loop
returns-in-Loop c = λ frame. loop_runs frame c.args.tree.now c.in-Loop.label c.in-Loop.body c.in-Loop.is

pub returns-in-Block : goal.returns-in-Block
returns-in-Block c = λ frame. block_runs frame c.args.tree.now c.in-Block.label c.in-Block.body c.in-Block.is

pub returns-in-Break : goal.returns-in-Break
returns-in-Break c = λ frame. break_runs frame c.args.tree.now c.in-Break.label c.in-Break.is

pub returns-in-Continue : goal.returns-in-Continue
returns-in-Continue c = λ frame. continue_runs frame c.args.tree.now c.in-Continue.label c.in-Continue.is

pub returns-in-Match : goal.returns-in-Match
returns-in-Match c = λ frame. match_runs frame c.args.tree.now c.in-Match.value c.get-in-Match.result.now c.in-Match.cases c.in-Match.other c.in-Match.is c.get-in-Match.ensures
