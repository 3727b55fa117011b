use Rattle.std.proofs.Common.{◌≡◌, ap, subst, ◌∙◌, map, IfOk}
use Rattle.cx_core.specs.Views.{view_stmt}
use Rattle.cx_renumber.specs.Numbers.{stmt_there}
use Rattle.cx_renumber.specs.Views.{holding, view_numbers}
use Rattle.cx_renumber.proofs.Actions.{label_is, default_is, block_is, expression_is, if_is, switch_is, while_is, do_is, for_is, goto_is, continue_is, break_is, return_is, begin_is}
use Rattle.cx_renumber.proofs.Opened.{break_view, continue_view}
use Rattle.cx_renumber.proofs.statements.+there.Goals as goal

pub stmt_there-returns-in-Label : goal.stmt_there-returns-in-Label
stmt_there-returns-in-Label n c =
    subst (λ tree. IfOk c.label_there.result (λ made. view_stmt made ≡ tree)) (label_is (view_numbers c.args.numbers.now) c.args.one.now c.in-Label.name c.in-Label.inner c.in-Label.is) c.label_there.ensures

pub stmt_there-returns-in-Default : goal.stmt_there-returns-in-Default
stmt_there-returns-in-Default n c =
    subst (λ tree. IfOk c.default_there.result (λ made. view_stmt made ≡ tree)) (default_is (view_numbers c.args.numbers.now) c.args.one.now c.in-Default.inner c.in-Default.is) c.default_there.ensures

pub stmt_there-returns-in-Block : goal.stmt_there-returns-in-Block
stmt_there-returns-in-Block n c =
    subst (λ tree. IfOk c.block_there.result (λ made. view_stmt made ≡ tree)) (block_is (view_numbers c.args.numbers.now) c.args.one.now c.in-Block.all c.in-Block.is) c.block_there.ensures

pub stmt_there-returns-in-Expr : goal.stmt_there-returns-in-Expr
stmt_there-returns-in-Expr n c =
    subst (λ tree. IfOk c.expression_there.result (λ made. view_stmt made ≡ tree)) (expression_is (view_numbers c.args.numbers.now) c.args.one.now c.in-Expr.value c.in-Expr.is) c.expression_there.ensures

pub stmt_there-returns-in-If : goal.stmt_there-returns-in-If
stmt_there-returns-in-If n c =
    subst (λ tree. IfOk c.if_there.result (λ made. view_stmt made ≡ tree)) (if_is (view_numbers c.args.numbers.now) c.args.one.now c.in-If.test c.in-If.first c.in-If.second c.in-If.is) c.if_there.ensures

pub stmt_there-returns-in-Switch : goal.stmt_there-returns-in-Switch
stmt_there-returns-in-Switch n c =
    subst (λ tree. IfOk c.switch_there.result (λ made. view_stmt made ≡ tree)) (switch_is (view_numbers c.args.numbers.now) c.args.one.now c.in-Switch.on c.in-Switch.body c.in-Switch.is) c.switch_there.ensures

pub stmt_there-returns-in-While : goal.stmt_there-returns-in-While
stmt_there-returns-in-While n c =
    subst (λ tree. IfOk c.while_there.result (λ made. view_stmt made ≡ tree)) (while_is (view_numbers c.args.numbers.now) c.args.one.now c.in-While.test c.in-While.body c.in-While.is) c.while_there.ensures

pub stmt_there-returns-in-Do : goal.stmt_there-returns-in-Do
stmt_there-returns-in-Do n c =
    subst (λ tree. IfOk c.do_there.result (λ made. view_stmt made ≡ tree)) (do_is (view_numbers c.args.numbers.now) c.args.one.now c.in-Do.body c.in-Do.test c.in-Do.is) c.do_there.ensures

pub stmt_there-returns-in-For : goal.stmt_there-returns-in-For
stmt_there-returns-in-For n c =
    subst (λ tree. IfOk c.for_there.result (λ made. view_stmt made ≡ tree)) (for_is (view_numbers c.args.numbers.now) c.args.one.now c.in-For.first c.in-For.test c.in-For.next c.in-For.body c.in-For.is) c.for_there.ensures

pub stmt_there-returns-in-Goto : goal.stmt_there-returns-in-Goto
stmt_there-returns-in-Goto n c =
    subst (λ tree. IfOk c.goto_there.result (λ made. view_stmt made ≡ tree)) (goto_is (view_numbers c.args.numbers.now) c.args.one.now c.in-Goto.name c.in-Goto.is) c.goto_there.ensures

pub stmt_there-returns-in-Continue : goal.stmt_there-returns-in-Continue
stmt_there-returns-in-Continue n c =
    subst (λ tree. IfOk c.made.result (λ made. view_stmt made ≡ tree)) (ap (holding (map (view_numbers c.args.numbers.now).object_for c.args.one.now.objects)) (continue_view c.args.one.now.place c.args.one.now.objects) ∙ continue_is (view_numbers c.args.numbers.now) c.args.one.now c.in-Continue.is) c.made.ensures

pub stmt_there-returns-in-Break : goal.stmt_there-returns-in-Break
stmt_there-returns-in-Break n c =
    subst (λ tree. IfOk c.made-in-Break.result (λ made. view_stmt made ≡ tree)) (ap (holding (map (view_numbers c.args.numbers.now).object_for c.args.one.now.objects)) (break_view c.args.one.now.place c.args.one.now.objects) ∙ break_is (view_numbers c.args.numbers.now) c.args.one.now c.in-Break.is) c.made-in-Break.ensures

pub stmt_there-returns-in-Return : goal.stmt_there-returns-in-Return
stmt_there-returns-in-Return n c =
    subst (λ tree. IfOk c.return_there.result (λ made. view_stmt made ≡ tree)) (return_is (view_numbers c.args.numbers.now) c.args.one.now c.in-Return.value c.in-Return.is) c.return_there.ensures

pub stmt_there-returns-in-Begin : goal.stmt_there-returns-in-Begin
stmt_there-returns-in-Begin n c =
    subst (λ tree. IfOk c.begin_there.result (λ made. view_stmt made ≡ tree)) (begin_is (view_numbers c.args.numbers.now) c.args.one.now c.in-Begin.number c.in-Begin.puts c.in-Begin.is) c.begin_there.ensures

pub stmt_there-label_there-requires : goal.stmt_there-label_there-requires
stmt_there-label_there-requires n c = record {
  inner_there = subst (λ part. IfOk c.stmt_there.result (λ there. view_stmt there ≡ stmt_there (view_numbers c.args.numbers.now) (view_stmt part))) c.get.ensures c.stmt_there.ensures;
}

pub stmt_there-case_there-requires : goal.stmt_there-case_there-requires
stmt_there-case_there-requires n c = record {
  inner_there = subst (λ part. IfOk c.stmt_there-in-Case.result (λ there. view_stmt there ≡ stmt_there (view_numbers c.args.numbers.now) (view_stmt part))) c.get-in-Case.ensures c.stmt_there-in-Case.ensures;
}

pub stmt_there-default_there-requires : goal.stmt_there-default_there-requires
stmt_there-default_there-requires n c = record {
  inner_there = subst (λ part. IfOk c.stmt_there-in-Default.result (λ there. view_stmt there ≡ stmt_there (view_numbers c.args.numbers.now) (view_stmt part))) c.get-in-Default.ensures c.stmt_there-in-Default.ensures;
}

pub stmt_there-block_there-requires : goal.stmt_there-block_there-requires
stmt_there-block_there-requires n c = record {
  all_there = subst (λ part. IfOk c.stmts_there.result (λ there. map view_stmt there ≡ map (stmt_there (view_numbers c.args.numbers.now)) (map view_stmt part))) c.as_slice.ensures c.stmts_there.ensures;
}

pub stmt_there-if_there-requires : goal.stmt_there-if_there-requires
stmt_there-if_there-requires n c = record {
  first_there = subst (λ part. IfOk c.stmt_there-in-If.result (λ there. view_stmt there ≡ stmt_there (view_numbers c.args.numbers.now) (view_stmt part))) c.get-in-If.ensures c.stmt_there-in-If.ensures;
  second_there = c.else_there.ensures;
}

pub stmt_there-switch_there-requires : goal.stmt_there-switch_there-requires
stmt_there-switch_there-requires n c = record {
  body_there = subst (λ part. IfOk c.stmt_there-in-Switch.result (λ there. view_stmt there ≡ stmt_there (view_numbers c.args.numbers.now) (view_stmt part))) c.get-in-Switch.ensures c.stmt_there-in-Switch.ensures;
}

pub stmt_there-while_there-requires : goal.stmt_there-while_there-requires
stmt_there-while_there-requires n c = record {
  body_there = subst (λ part. IfOk c.stmt_there-in-While.result (λ there. view_stmt there ≡ stmt_there (view_numbers c.args.numbers.now) (view_stmt part))) c.get-in-While.ensures c.stmt_there-in-While.ensures;
}

pub stmt_there-do_there-requires : goal.stmt_there-do_there-requires
stmt_there-do_there-requires n c = record {
  body_there = subst (λ part. IfOk c.stmt_there-in-Do.result (λ there. view_stmt there ≡ stmt_there (view_numbers c.args.numbers.now) (view_stmt part))) c.get-in-Do.ensures c.stmt_there-in-Do.ensures;
}

pub stmt_there-for_there-requires : goal.stmt_there-for_there-requires
stmt_there-for_there-requires n c = record {
  first_there = subst (λ part. IfOk c.stmts_there-in-For.result (λ there. map view_stmt there ≡ map (stmt_there (view_numbers c.args.numbers.now)) (map view_stmt part))) c.as_slice-in-For.ensures c.stmts_there-in-For.ensures;
  body_there = subst (λ part. IfOk c.stmt_there-in-For.result (λ there. view_stmt there ≡ stmt_there (view_numbers c.args.numbers.now) (view_stmt part))) c.get-in-For.ensures c.stmt_there-in-For.ensures;
}
