use Rattle.cx_lex.proofs.SpellLemmas.{spell_or_break}
use Rattle.cx_lex.proofs.laws.bytes_spell_or_break.Goals as goal

pub returns : goal.returns
returns c = spell_or_break
