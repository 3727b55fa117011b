use Rattle.std.proofs.Common.{rules, ◌-◌, suc, length, ◌∙◌, arith}
use Rattle.std.proofs.lemmas.Grind.{common_steps}
use Rattle.cx_lex.specs.declared.token.Punct.TheVariants.{RightBrace}
use Rattle.straight_parse.specs.Lists.{taking}
use Rattle.straight_parse.specs.Sights.{shows_mark}
use Rattle.straight_parse.specs.Stmts.{stmt, with_stmt}
use Rattle.straight_parse.proofs.Turns.{many_next}
use Rattle.straight_parse.proofs.stmts.+stmt.Goals as goal

pub stmts-loop-turn-preserved : goal.stmts-loop-turn-preserved
stmts-loop-turn-preserved t c =
    many_next (shows_mark RightBrace) (taking (stmt c.args.depth) with_stmt) (suc (length c.args.cursor.now) - c.loop-turn._turn) _ _ _ _ _ (omega arith)
    (first_of (search rules, grind (arith, common_steps))) c.in_ok-list.ensures
    ∙ c.loop-turn.invariant
