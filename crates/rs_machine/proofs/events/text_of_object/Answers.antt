use Rattle.std.proofs.Common.{List, ℕ, Result, sym, subst}
use Rattle.rs_mean.specs.declared.cause.Cause.{Cause}
use Rattle.rs_value.specs.Finds.{Finds}
use Rattle.rs_machine.proofs.Texts.{held_text}
use Rattle.rs_machine.proofs.events.text_of_object.Goals as goal

pub returns : goal.returns
returns g c = subst (λ (found : Result (List ℕ) Cause). Finds (λ text. text) c.text_from.result found) (sym (held_text _ c.args.at)) c.text_from.ensures
