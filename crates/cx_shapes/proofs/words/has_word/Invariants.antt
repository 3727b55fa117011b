use Rattle.std.proofs.Common.{◌≡◌, drop}
use Rattle.cx_rules.specs.Pieces.{has_word}
use Rattle.cx_shapes.proofs.words.has_word.Given as goal

-- the words that are left answer for all
abbrev pub invariant-loop-one : goal.invariant-loop-one
invariant-loop-one l = has_word l.word (drop l.one-index l.words) ≡ has_word l.word l.words
