use Rattle.std.proofs.Common.{◌≡◌, ◌==◌, drop}
use Rattle.std.specs.List.{list_any}
use Rattle.whole_keys.proofs.keys.is_among.Given as goal

-- what is left answers for all
abbrev pub invariant-loop-one : goal.invariant-loop-one
invariant-loop-one l =
    list_any (λ one. one == l.number) l.numbers ≡ list_any (λ one. one == l.number) (drop l.one-index l.numbers)
