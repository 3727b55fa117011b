use Rattle.std.proofs.Common.{rules, ◌≡◌, sym, ap, subst, ◌∙◌, map, IfOk, option_map}
use Rattle.cx_core.specs.Trees.{stmt, for_loop}
use Rattle.cx_core.specs.Views.{stmts_of, view_expr, view_stmt}
use Rattle.cx_renumber.specs.Numbers.{expr_there, stmt_there, stmts_there}
use Rattle.cx_renumber.specs.Views.{holding, view_numbers}
use Rattle.cx_renumber.proofs.Lists.{stmts_are}
use Rattle.cx_renumber.proofs.Opened.{for_view}
use Rattle.cx_renumber.proofs.statements.for_there.Goals as goal

pub returns : goal.returns
returns c =
    let same_first : map view_stmt c.in_ok-first.first ≡ map (stmt_there (view_numbers c.args.numbers.now)) (map view_stmt c.args._first.now) = search rules in
    let first_is : stmts_of (map view_stmt c.in_ok-first.first) ≡ stmts_there (view_numbers c.args.numbers.now) (stmts_of (map view_stmt c.args._first.now)) = ap stmts_of same_first ∙ sym (stmts_are (view_numbers c.args.numbers.now) (map view_stmt c.args._first.now)) in
    let test_is : option_map view_expr c.in_ok-test.test ≡ option_map (expr_there (view_numbers c.args.numbers.now)) (option_map view_expr c.args.test.now) = search rules in
    let next_is : option_map view_expr c.in_ok-next.next ≡ option_map (expr_there (view_numbers c.args.numbers.now)) (option_map view_expr c.args.next.now) = search rules in
    let body_is : view_stmt c.in_ok-body.body ≡ stmt_there (view_numbers c.args.numbers.now) (view_stmt c.args._body.now) = search rules in
    subst (λ part. IfOk c.made.result (λ made. view_stmt made ≡ stmt c.args.one.now.place (map (view_numbers c.args.numbers.now).object_for c.args.one.now.objects) (for_loop (stmts_there (view_numbers c.args.numbers.now) (stmts_of (map view_stmt c.args._first.now))) (option_map (expr_there (view_numbers c.args.numbers.now)) (option_map view_expr c.args.test.now)) (option_map (expr_there (view_numbers c.args.numbers.now)) (option_map view_expr c.args.next.now)) (part)))) body_is
    (subst (λ part. IfOk c.made.result (λ made. view_stmt made ≡ stmt c.args.one.now.place (map (view_numbers c.args.numbers.now).object_for c.args.one.now.objects) (for_loop (stmts_there (view_numbers c.args.numbers.now) (stmts_of (map view_stmt c.args._first.now))) (option_map (expr_there (view_numbers c.args.numbers.now)) (option_map view_expr c.args.test.now)) (part) (view_stmt c.in_ok-body.body)))) next_is
    (subst (λ part. IfOk c.made.result (λ made. view_stmt made ≡ stmt c.args.one.now.place (map (view_numbers c.args.numbers.now).object_for c.args.one.now.objects) (for_loop (stmts_there (view_numbers c.args.numbers.now) (stmts_of (map view_stmt c.args._first.now))) (part) (option_map view_expr c.in_ok-next.next) (view_stmt c.in_ok-body.body)))) test_is
    (subst (λ part. IfOk c.made.result (λ made. view_stmt made ≡ stmt c.args.one.now.place (map (view_numbers c.args.numbers.now).object_for c.args.one.now.objects) (for_loop (part) (option_map view_expr c.in_ok-test.test) (option_map view_expr c.in_ok-next.next) (view_stmt c.in_ok-body.body)))) first_is
    (subst (λ tree. IfOk c.made.result (λ made. view_stmt made ≡ holding (map (view_numbers c.args.numbers.now).object_for c.args.one.now.objects) tree)) (for_view c.args.one.now.place c.args.one.now.objects c.in_ok-first.first c.in_ok-test.test c.in_ok-next.next c.in_ok-body.body) c.made.ensures))))
