use Rattle.lift_stands_known.proofs.Texts.{text_below, place_text, value_text}
use Rattle.lift_stands_known.proofs.laws.texts_stand.Goals as goal

pub returns : goal.returns
returns c = record { cells = text_below; place = place_text; value = value_text }
