use Rattle.lift_stands_known.proofs.Answered.{granted_below, answered_alike}
use Rattle.lift_stands_known.proofs.laws.answers_stand.Goals as goal

pub returns : goal.returns
returns g c = record {
  granted = λ images. granted_below _ _ images;
  answered = λ images. answered_alike _ _ images;
}
