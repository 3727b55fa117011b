use Rattle.lift_stands_lives.proofs.Begun.{worlds_held, world_both, world_beside, world_onto}
use Rattle.lift_stands_lives.proofs.laws.worlds_begin.Goals as goal

pub returns : goal.returns
returns g c = record {
  held = worlds_held;
  both = λ images world other. world_both _ _ images world other;
  beside = λ images world other. world_beside _ images world other;
  onto = λ images world other. world_onto _ images world other;
}
