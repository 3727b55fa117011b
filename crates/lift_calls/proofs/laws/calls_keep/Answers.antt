use Rattle.lift_calls.proofs.Kept.{program_stays, others_keep, frames_stay, inside_stays}
use Rattle.lift_calls.proofs.laws.calls_keep.Goals as goal

pub returns : goal.returns
returns c = record { program = program_stays; others = others_keep; frames = frames_stay; inside = inside_stays }
