use Rattle.std.proofs.Common.{rules, ◌-◌, ◌+◌, length, sym, subst, ◌∙◌, arith}
use Rattle.std.proofs.lemmas.Grind.{common_steps}
use Rattle.rs_item.specs.Stmts.{read_stmts, stmt_from, arm, ends_arms, ends_block}
use Rattle.rs_expr.proofs.Turns.{many_next}
use Rattle.rs_expr.specs.Reading.{Gives}
use Rattle.rs_expr.specs.declared.sign.Sign.TheVariants as of
use Rattle.rs_item.proofs.Chosen.{other_stmt, stmt_at}
use Rattle.rs_tree.specs.Views.{stmt_view}
use Rattle.rs_item.proofs.stmts.+stmts.Goals as goal

pub arms-loop-turn-preserved : goal.arms-loop-turn-preserved
arms-loop-turn-preserved t c =
    many_next ends_arms (arm (read_stmts c.args.levels)) (length c.args.cursor.now - c.loop-turn._turn) (length c.args.cursor.now - (c.loop-turn._turn + 1)) _ _ _ _
    (omega (arith, c.loop-turn-test.true, c.len-turn-end.ensures)) (first_of (search rules, grind (arith, common_steps))) c.in_ok-list.ensures
    ∙ c.loop-turn.invariant

pub stmts_from-loop-turn-preserved : goal.stmts_from-loop-turn-preserved
stmts_from-loop-turn-preserved t c =
    many_next ends_block (stmt_from (read_stmts c.args.levels)) (length c.args.cursor.now - c.loop-turn._turn) (length c.args.cursor.now - (c.loop-turn._turn + 1)) _ _ _ _
    (omega (arith, c.loop-turn-test.true, c.len-turn-end.ensures)) (first_of (search rules, grind (arith, common_steps))) c.in_ok-list.ensures
    ∙ c.loop-turn.invariant

pub stmt_from-returns-in-If : goal.stmt_from-returns-in-If
stmt_from-returns-in-If t c =
    subst (λ read. Gives (λ s. stmt_view s) c.if_stmt.result c.if_stmt.new.cursor read)
    (stmt_at of.If (read_stmts c.args.levels) c.args.cursor.now (sym c.peek.ensures ∙ c.in-If.is)) c.if_stmt.ensures

pub stmt_from-returns-in-Loop : goal.stmt_from-returns-in-Loop
stmt_from-returns-in-Loop t c =
    subst (λ read. Gives (λ s. stmt_view s) c.loop_from.result c.loop_from.new.cursor read)
    (stmt_at of.Loop (read_stmts c.args.levels) c.args.cursor.now (sym c.peek.ensures ∙ c.in-Loop.is)) c.loop_from.ensures

pub stmt_from-returns-in-Label : goal.stmt_from-returns-in-Label
stmt_from-returns-in-Label t c =
    subst (λ read. Gives (λ s. stmt_view s) c.labelled.result c.labelled.new.cursor read)
    (stmt_at of.Label (read_stmts c.args.levels) c.args.cursor.now (sym c.peek.ensures ∙ c.in-Label.is)) c.labelled.ensures

pub stmt_from-returns-in-Match : goal.stmt_from-returns-in-Match
stmt_from-returns-in-Match t c =
    subst (λ read. Gives (λ s. stmt_view s) c.match_stmt.result c.match_stmt.new.cursor read)
    (stmt_at of.Match (read_stmts c.args.levels) c.args.cursor.now (sym c.peek.ensures ∙ c.in-Match.is)) c.match_stmt.ensures

pub stmt_from-returns-in-Break : goal.stmt_from-returns-in-Break
stmt_from-returns-in-Break t c =
    subst (λ read. Gives (λ s. stmt_view s) c.break_stmt.result c.break_stmt.new.cursor read)
    (stmt_at of.Break (read_stmts c.args.levels) c.args.cursor.now (sym c.peek.ensures ∙ c.in-Break.is)) c.break_stmt.ensures

pub stmt_from-returns-in-Continue : goal.stmt_from-returns-in-Continue
stmt_from-returns-in-Continue t c =
    subst (λ read. Gives (λ s. stmt_view s) c.continue_stmt.result c.continue_stmt.new.cursor read)
    (stmt_at of.Continue (read_stmts c.args.levels) c.args.cursor.now (sym c.peek.ensures ∙ c.in-Continue.is)) c.continue_stmt.ensures

pub stmt_from-returns-in-Return : goal.stmt_from-returns-in-Return
stmt_from-returns-in-Return t c =
    subst (λ read. Gives (λ s. stmt_view s) c.return_stmt.result c.return_stmt.new.cursor read)
    (stmt_at of.Return (read_stmts c.args.levels) c.args.cursor.now (sym c.peek.ensures ∙ c.in-Return.is)) c.return_stmt.ensures

pub stmt_from-returns-in-Name : goal.stmt_from-returns-in-Name
stmt_from-returns-in-Name t c =
    subst (λ read. Gives (λ s. stmt_view s) c.name_stmt.result c.name_stmt.new.cursor read)
    (stmt_at of.Name (read_stmts c.args.levels) c.args.cursor.now (sym c.peek.ensures ∙ c.in-Name.is)) c.name_stmt.ensures

pub stmt_from-returns-in_default : goal.stmt_from-returns-in_default
stmt_from-returns-in_default t c =
    subst (λ read. Gives (λ s. stmt_view s) c.expr_stmt.result c.expr_stmt.new.cursor read)
    (other_stmt c.peek.result (read_stmts c.args.levels) c.args.cursor.now c.in_default.not-If c.in_default.not-Loop c.in_default.not-Label c.in_default.not-Match c.in_default.not-Break c.in_default.not-Continue c.in_default.not-Return c.in_default.not-Name
    ∙ stmt_at c.peek.result (read_stmts c.args.levels) c.args.cursor.now (sym c.peek.ensures)) c.expr_stmt.ensures
