use Rattle.std.proofs.Common.{rules, ◌≡◌, sym, ap, subst, ◌∙◌, map, IfOk}
use Rattle.cx_core.specs.Trees.{stmt, block}
use Rattle.cx_core.specs.Views.{stmts_of, view_stmt}
use Rattle.cx_renumber.specs.Numbers.{stmt_there}
use Rattle.cx_renumber.specs.Views.{holding, view_numbers}
use Rattle.cx_renumber.proofs.Opened.{block_view}
use Rattle.cx_renumber.proofs.Lists.{stmts_are}
use Rattle.cx_renumber.proofs.statements.block_there.Goals as goal

pub returns : goal.returns
returns c =
    let same : map view_stmt c.in_ok-all.all ≡ map (stmt_there (view_numbers c.args.numbers.now)) (map view_stmt c.args._all.now) = search rules in
    let all : stmts_of (map view_stmt c.in_ok-all.all) ≡ stmts_of (map (stmt_there (view_numbers c.args.numbers.now)) (map view_stmt c.args._all.now)) = ap stmts_of same in
    subst (λ stmts. IfOk c.made.result (λ made. view_stmt made ≡ stmt c.args.one.now.place (map (view_numbers c.args.numbers.now).object_for c.args.one.now.objects) (block stmts))) (all ∙ sym (stmts_are (view_numbers c.args.numbers.now) (map view_stmt c.args._all.now))) (subst (λ tree. IfOk c.made.result (λ made. view_stmt made ≡ holding (map (view_numbers c.args.numbers.now).object_for c.args.one.now.objects) tree)) (block_view c.args.one.now.place c.args.one.now.objects c.in_ok-all.all) c.made.ensures)
