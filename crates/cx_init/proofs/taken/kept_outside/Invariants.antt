use Rattle.std.proofs.Common.{◌≡◌, map}
use Rattle.cx_init.specs.Views.{view_stored}
use Rattle.cx_rules.specs.Pieces.{kept_outside}
use Rattle.cx_init.proofs.taken.kept_outside.Given as goal

-- of those that were taken so far these are kept
abbrev pub invariant-loop-one : goal.invariant-loop-one
invariant-loop-one l = map view_stored l.kept ≡ kept_outside l.part (map view_stored l.yielded)
