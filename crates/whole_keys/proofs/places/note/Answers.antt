use Rattle.whole_keys.proofs.places.note.Goals as goal

pub returns : goal.returns
returns c = λ number. c.in_ok-insert.ensures.updates.0 number
