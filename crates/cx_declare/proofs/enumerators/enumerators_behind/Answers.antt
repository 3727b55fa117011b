use Rattle.std.proofs.Common.{rules, ◌-◌, suc, length, ◌∙◌, arith}
use Rattle.std.proofs.lemmas.Grind.{common_steps}
use Rattle.cx_cursor.proofs.Turns.{many_next}
use Rattle.cx_cursor.specs.Lists.{next_item}
use Rattle.cx_expr.specs.Knot.{readers}
use Rattle.cx_expr.specs.Specifiers.{no_further}
use Rattle.cx_declare.proofs.enumerators.enumerators_behind.Goals as goal

pub loop-turn-preserved : goal.loop-turn-preserved
loop-turn-preserved g c = (
  c.in_ok-list.ensures.within,
  c.in_ok-list.ensures.depth,
  many_next no_further (next_item (readers c.args.depth).enumerator) (suc (length c.args.cursor.now.tokens) - c.loop-turn._turn) _ _ _ _ _ (omega arith)
      (first_of (search rules, grind (arith, common_steps))) c.in_ok-list.ensures.reads
      ∙ c.loop-turn.invariant.2,
)
