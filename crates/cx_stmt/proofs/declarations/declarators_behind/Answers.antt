use Rattle.std.proofs.Common.{rules, ◌-◌, suc, map, length, ◌∙◌, arith}
use Rattle.std.proofs.lemmas.Grind.{common_steps}
use Rattle.cx_cursor.proofs.Turns.{many_next}
use Rattle.cx_cursor.specs.Lists.{no_comma, next_item}
use Rattle.cx_stmt.specs.Declarations.{init_declarator}
use Rattle.cx_tree.specs.Views.{spec_view, specs}
use Rattle.cx_stmt.proofs.declarations.declarators_behind.Goals as goal

pub loop-turn-preserved : goal.loop-turn-preserved
loop-turn-preserved c =
    many_next no_comma (next_item (init_declarator c.args.depth (specs (map spec_view c.args.specs.now)))) (suc (length c.args.cursor.now.tokens) - c.loop-turn._turn) _ _ _ _ _ (omega arith)
    (first_of (search rules, grind (arith, common_steps))) c.in_ok-list.ensures
    ∙ c.loop-turn.invariant
