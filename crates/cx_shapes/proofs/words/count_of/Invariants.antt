use Rattle.std.proofs.Common.{◌≡◌, ◌+◌, ◌≤◌, drop}
use Rattle.cx_rules.specs.Shapes.{count_of}
use Rattle.cx_shapes.proofs.words.count_of.Given as goal

-- those that were counted, and those that are left
abbrev pub invariant-loop-one : goal.invariant-loop-one
invariant-loop-one l = record {
  counted : l.count + count_of l.word (drop l.one-index l.words) ≡ count_of l.word l.words;
  within : l.count ≤ l.one-index;
}
