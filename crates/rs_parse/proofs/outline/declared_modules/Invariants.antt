use Rattle.rs_parse.proofs.OutlineLaws.{AreDeclared}
use Rattle.rs_parse.proofs.outline.declared_modules.Given as goal

abbrev pub invariant-loop-turn : goal.invariant-loop-turn
invariant-loop-turn l = AreDeclared l.initial.cursor l._turn l.modules l.cursor
