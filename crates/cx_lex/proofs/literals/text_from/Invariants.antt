use Rattle.std.proofs.Common.{◌≡◌, ◌≤◌, ◌-◌, length, drop}
use Rattle.cx_lex.specs.Literals.{text_from}
use Rattle.cx_lex.proofs.LiteralLemmas.{with_values}
use Rattle.cx_lex.proofs.literals.text_from.Given as goal

abbrev pub invariant-loop-at : goal.invariant-loop-at
invariant-loop-at l = record {
  read : with_values l.values.items (text_from 0 (drop l.at l.bytes)) ≡ text_from 0 l.bytes;
  within : l.at ≤ length l.bytes;
}

abbrev pub decreases-loop-at : goal.decreases-loop-at
decreases-loop-at l = length l.bytes - l.at
