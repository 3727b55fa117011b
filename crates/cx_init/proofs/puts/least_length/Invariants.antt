use Rattle.std.proofs.Common.{◌≡◌, map, drop}
use Rattle.cx_init.specs.Views.{view_stored}
use Rattle.cx_init.specs.Parts.{least_from}
use Rattle.cx_init.proofs.puts.least_length.Given as goal

-- what was found, and what those that are left give
abbrev pub invariant-loop-one : goal.invariant-loop-one
invariant-loop-one l = least_from l.least (map view_stored (drop l.one-index l.stored)) ≡ least_from 0 (map view_stored l.stored)
