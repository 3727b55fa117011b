-- What was done of a list, and what the rest gives.
use Rattle.cx_rules.specs.Readings.{CChecked, stops, fine}
use Rattle.cx_rules.specs.UnitWalk.{CMeant, meant_behind}

-- in front of what the rest of a walk means stands what was meant before
abbrev pub behind : CMeant → CChecked CMeant → CChecked CMeant
behind done (stops refusal) = stops refusal
behind done (fine meant scope) = fine (meant_behind done meant) scope
