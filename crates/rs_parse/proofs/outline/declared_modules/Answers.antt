use Rattle.std.proofs.Common.{rules, arith}
use Rattle.std.proofs.lemmas.Grind.{common_steps}
use Rattle.rs_parse.proofs.OutlineLaws.{declared_end, declared_out, declared_next}
use Rattle.rs_parse.proofs.outline.declared_modules.Goals as goal

pub returns-then-ne-clause-names : goal.returns-then-ne-clause-names
returns-then-ne-clause-names c = declared_end c.args.cursor.now c.loop-turn._turn c.loop-turn.modules c.loop-turn.cursor c.loop-turn.invariant (first_of (search rules, grind (arith, common_steps)))

pub loop-turn-preserved : goal.loop-turn-preserved
loop-turn-preserved c =
    declared_next c.args.cursor.now c.loop-turn._turn c.loop-turn.modules c.push.new.self _ c.loop-turn.cursor c.skip-in-loop-turn.new.self c.loop-turn.invariant c.loop-turn-test.true
    (first_of (search rules, grind (arith, common_steps))) (search rules) (search rules) c.in_ok-push.ensures.ok

pub returns-clause-names : goal.returns-clause-names
returns-clause-names c = declared_out c.args.cursor.now c.loop-turn._turn c.loop-turn.modules c.loop-turn.cursor c.loop-turn.invariant c.loop-turn-test.false
