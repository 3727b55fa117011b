-- What a given value is, with the facts about its place.
use Rattle.std.specs.Prelude.{Option}
use Rattle.cx_rules.specs.Nodes.{CGivenFacts}
use Rattle.cx_rules.specs.Operands.{COperand}
use Rattle.cx_stmt_breaks.specs.declared.initialisers.Given.{Given}

abbrev pub given_facts : Option COperand → Given → CGivenFacts
given_facts value given = record {
  value = value;
  has_place = given.has_place;
  is_assignable = given.is_assignable;
  is_constant = given.is_constant;
}
