use Rattle.cx_lex.proofs.SpellLemmas.{spell_longest}
use Rattle.cx_lex.proofs.laws.tokens_are_longest.Goals as goal

pub returns : goal.returns
returns c = spell_longest
