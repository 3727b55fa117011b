use Rattle.std.proofs.Common.{◌∙◌, ap}
use Rattle.cx_mean.specs.Operands.{Frame, slot_of}
use Rattle.cx_moves.proofs.Scopes.{slot_innermost, slot_around}
use Rattle.cx_moves.proofs.scope.+place_in_levels.Goals as goal

pub returns-in-Some-slot_in : goal.returns-in-Some-slot_in
returns-in-Some-slot_in t c =
    slot_innermost c.args.levels.now c.in-Some.outer.now c.in-Some.level.now c.args.object c.in-Some-slot_in.at c.in-Some.ensures.cases.0
    (c.in-Some-slot_in.ensures ∙ ap (λ (slots : Frame). slot_of slots c.args.object) c.as_slice.ensures)

pub returns-in-None : goal.returns-in-None
returns-in-None t c =
    c.place_in_levels.ensures
    ∙ slot_around c.args.levels.now c.in-Some.outer.now c.in-Some.level.now c.args.object c.in-Some.ensures.cases.0
    (c.in-None.ensures ∙ ap (λ (slots : Frame). slot_of slots c.args.object) c.as_slice.ensures)
