-- What loops of the walk have done, before the rest.
use Rattle.std.specs.Prelude.{List, ◌++◌}
use Rattle.cx_rules.specs.Readings.{CChecked, stops, fine}

-- what was done stands in front of what the rest gives
abbrev pub behind : {A : Type 0} → List A → CChecked (List A) → CChecked (List A)
behind done (stops refusal) = stops refusal
behind done (fine more scope) = fine (done ++ more) scope
