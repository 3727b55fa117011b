use Rattle.std.proofs.Common.{◌≡◌, ◌+◌, ◌++◌, map, drop}
use Rattle.cx_renumber.proofs.orders.records_there.Given as goal

abbrev pub invariant-loop-number : goal.invariant-loop-number
invariant-loop-number l = l.there ++ map (λ number. l.before + number) (drop l.number-index l.records) ≡ map (λ number. l.before + number) l.records
