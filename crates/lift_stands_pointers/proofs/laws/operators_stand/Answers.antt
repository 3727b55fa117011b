use Rattle.lift_stands_pointers.proofs.Operators.{moves, differs, compares, compares_functions, tests}
use Rattle.lift_stands_pointers.proofs.laws.operators_stand.Goals as goal

pub returns : goal.returns
returns c = record {
  moves = λ images memory others setting type value other new count target laid stands. moves images memory others setting type stands value other new count target laid;
  differs = λ images memory others setting type first second one two count laid stands. differs images memory others setting type stands first second one two count laid;
  compares = λ images memory others setting type op operator first second one two number stands. compares images memory others setting type stands op operator first second one two number;
  compares_functions = λ images memory others setting type op operator first second one two number stands. compares_functions images memory others setting type stands op operator first second one two number;
  tests = tests;
}
