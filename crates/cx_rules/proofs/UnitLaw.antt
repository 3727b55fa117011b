-- A unit under its number.
use Rattle.cx_rules.specs.Laws.{UnitsStop}
use Rattle.cx_rules.specs.Scope.{new_scope}
use Rattle.cx_rules.specs.Units.{seen_unit}
use Rattle.cx_rules.proofs.UnitsAgree.{on_unit_walk}

pub units_stop : UnitsStop
unfolding seen_unit
units_stop tree number = on_unit_walk tree (new_scope number)
