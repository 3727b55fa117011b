use Rattle.std.proofs.Common.{◌≡◌, drop}
use Rattle.std.specs.List.{list_any}
use Rattle.std.specs.Prelude.{not}
use Rattle.cx_rules.specs.Shapes.{same_key}
use Rattle.cx_type_breaks.proofs.specifiers.has_other.Given as goal

abbrev pub invariant-loop-word : goal.invariant-loop-word
invariant-loop-word l = list_any (λ word. not (list_any (same_key word) l.allowed)) (drop l.word-index l.words) ≡ list_any (λ word. not (list_any (same_key word) l.allowed)) l.words
