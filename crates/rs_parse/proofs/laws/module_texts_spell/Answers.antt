use Rattle.rs_parse.proofs.ModuleLaws.{module_texts_spell}
use Rattle.rs_parse.proofs.laws.module_texts_spell.Goals as goal

pub returns : goal.returns
returns c = module_texts_spell
