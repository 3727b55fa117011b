use Rattle.rs_items_rules.proofs.Types.{complete_fits}
use Rattle.rs_items_rules.proofs.laws.types_agree.Goals as goal

pub returns : goal.returns
returns c = λ known records layouts type laid kept is. complete_fits known records layouts kept type laid is
