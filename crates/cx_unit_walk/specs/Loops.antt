-- What loops of the walk have done, before the rest.
use Rattle.cx_rules.specs.Readings.{CChecked, stops, fine}
use Rattle.cx_rules.specs.UnitWalk.{CMeant, meant_behind}

-- what was done stands in front of what the rest gives
abbrev pub meant_done : CMeant → CChecked CMeant → CChecked CMeant
meant_done done (stops refusal) = stops refusal
meant_done done (fine more scope) = fine (meant_behind done more) scope
