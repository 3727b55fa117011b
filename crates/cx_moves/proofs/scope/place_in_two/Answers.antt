use Rattle.std.proofs.Common.{◌∙◌, sym}
use Rattle.cx_moves.proofs.Scopes.{slot_in_first, slot_in_second}
use Rattle.cx_moves.proofs.scope.place_in_two.Goals as goal

pub returns-in-Some : goal.returns-in-Some
returns-in-Some c = λ others is. slot_in_first others c.args.slots.now c.args.object c.in-Some.at (sym c.in-Some.is ∙ is)

pub returns-in-None : goal.returns-in-None
returns-in-None c = λ others is. c.slot_in.ensures ∙ slot_in_second others c.args.slots.now c.args.object (sym c.in-None.is ∙ is)
