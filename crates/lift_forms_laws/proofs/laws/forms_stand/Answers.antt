use Rattle.lift_forms_laws.proofs.Constants.{kinds}
use Rattle.lift_forms_laws.proofs.Conversions.{converted_by}
use Rattle.lift_forms_laws.proofs.Operands.{value_gives, test_gives}
use Rattle.lift_forms_laws.proofs.Pointers.{binary_stands}
use Rattle.lift_forms_laws.proofs.Unary.{unary_stands}
use Rattle.lift_forms_laws.proofs.laws.forms_stand.Goals as goal

pub returns : goal.returns
returns c = record {
  kinds = kinds;
  values = value_gives;
  tests = λ images memory frame world operand of_c test standing h is t. test_gives images frame world memory standing.stands operand of_c test h is t;
  unary = λ images memory frame world setting op type operand ty of_c new standing h is r s e.
      unary_stands images frame world memory setting type op operand ty of_c new standing h is r s e;
  binary = λ images memory frame world setting op type one other left right ty first second new standing h k is behind near far r s agree e.
      binary_stands images frame world memory standing setting op type one other left right ty first second new h k is behind near far r s agree e;
  conversions = λ images memory frame world kind operand ty of_c new standing h is c k e. converted_by images frame world memory standing kind operand ty of_c new h is c k e;
}
