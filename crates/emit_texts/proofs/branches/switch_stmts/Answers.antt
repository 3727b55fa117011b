use Rattle.std.proofs.Common.{◌≡◌, ◌∙◌, ap, map, subst}
use Rattle.std.specs.Prelude.{IfOk}
use Rattle.emit_rules.specs.Texts.{one_stmt}
use Rattle.rs_text.specs.Tree.{Match, Stmts, arms, stmts}
use Rattle.rs_tree.specs.Views.{arm_view, expr_view, stmt_view}
use Rattle.emit_texts.proofs.Arms.{switch_is}
use Rattle.emit_texts.proofs.branches.switch_stmts.Goals as goal

pub returns : goal.returns
returns c =
    subst (λ (ss : Stmts). IfOk c.match_stmts.result (λ made. stmts (map stmt_view made) ≡ ss))
    (ap (λ on. one_stmt (Match on (arms (map arm_view c.in_ok-made.made)) (stmts (map stmt_view c.in-Some.other.stmts)))) c.in_ok-on.ensures
    ∙ switch_is (expr_view c.args.on.now) c.args.by c.args.cases.now c.args.texts c.pop.new.self c.in-Some.other (arms (map arm_view c.in_ok-made.made)) c.in-Some.ensures c.requires c.in_ok-made.ensures)
    c.match_stmts.ensures
