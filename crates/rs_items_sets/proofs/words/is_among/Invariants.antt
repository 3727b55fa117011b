use Rattle.std.proofs.Common.{◌≡◌, bytes_eq, drop}
use Rattle.std.specs.List.{list_any}
use Rattle.rs_items_sets.proofs.words.is_among.Given as goal

-- the words that are left answer for all
abbrev pub invariant-loop-word : goal.invariant-loop-word
invariant-loop-word l =
    list_any (λ word. bytes_eq word.now l.name) l.words
    ≡ list_any (λ word. bytes_eq word.now l.name) (drop l.word-index l.words)
