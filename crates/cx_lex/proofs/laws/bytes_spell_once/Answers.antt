use Rattle.cx_lex.proofs.SpellLemmas.{spell_once}
use Rattle.cx_lex.proofs.laws.bytes_spell_once.Goals as goal

pub returns : goal.returns
returns c = spell_once
