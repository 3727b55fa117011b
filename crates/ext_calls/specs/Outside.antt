-- What the outside gives to a run, and what it sees of one.
use Rattle.std.specs.Prelude.{ℤ, List, [], ◌∷◌}
use Rattle.ext_calls.specs.declared.call.Call.{Call}

-- the answers that a run takes, in order: one for each call of an external function whose effect isn't
-- known to the meanings, and one for each allocation. Past the end of the list such a call is answered
-- by 0, and an allocation is not null.
abbrev pub Outside : Type 0
Outside = List ℤ

-- the calls that a run made of external functions whose effect isn't known to the meanings, in order
abbrev pub Events : Type 0
Events = List Call

-- the answers that are left after one was taken
abbrev pub others : Outside → Outside
others [] = []
others (answer ∷ more) = more
