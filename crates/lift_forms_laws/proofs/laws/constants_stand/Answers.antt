use Rattle.lift_forms_laws.proofs.Constants.{truth_gives, nulls, zeros, functions}
use Rattle.lift_forms_laws.proofs.Runs.{literal_gives}
use Rattle.lift_forms_laws.proofs.laws.constants_stand.Goals as goal

pub returns : goal.returns
returns c = record {
  numbers = λ frame world which number. literal_gives frame world number which;
  truths = truth_gives;
  nulls = nulls;
  zeros = zeros;
  functions = λ images frame world m x params result ty number image code is e. functions frame world images m x params result ty number image code is e;
}
