use Rattle.lift_stands_known.proofs.Effects.{effect_stands, zeroed_stands}
use Rattle.lift_stands_known.proofs.laws.known_functions_stand.Goals as goal

pub returns : goal.returns
returns c = record {
  same = λ images held other does args given stands. effect_stands images held other stands does args given;
  zeroed = λ images held other size given stands. zeroed_stands images held other stands size given;
}
