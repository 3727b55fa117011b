use Rattle.std.proofs.Common.{◌≡◌, map}
use Rattle.whole_locals.specs.Wanted.{temporaries_behind, view_wanted}
use Rattle.whole_locals.proofs.wanted.put_temporaries.Given as goal

abbrev pub invariant-loop-number : goal.invariant-loop-number
invariant-loop-number l = map view_wanted l.wanted ≡ temporaries_behind l.number (map view_wanted l.fn.wanted)
