use Rattle.std.proofs.Common.{◌≡◌, map, drop}
use Rattle.whole_given.specs.Whole.{named}
use Rattle.whole_locals.specs.Wanted.{params_behind, view_wanted}
use Rattle.whole_locals.proofs.wanted.put_params.Given as goal

abbrev pub invariant-loop-one : goal.invariant-loop-one
invariant-loop-one l =
    params_behind (named l.whole).program (drop l.one-index l.numbers) (map view_wanted l.wanted) ≡ params_behind (named l.whole).program l.numbers (map view_wanted l.fn.wanted)
