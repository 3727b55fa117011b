use Rattle.std.proofs.Common.{◌≡◌, map}
use Rattle.cx_init.specs.Views.{view_target}
use Rattle.cx_kinds.specs.Known.{types_in}
use Rattle.cx_place.specs.Placing.{entries_placed}
use Rattle.cx_place.specs.Views.{entries_of, view_entry, view_placing}
use Rattle.cx_place.proofs.lists.+placing.Given as goal

-- those that were taken so far have been placed
abbrev pub invariant-entries_placed-loop-entry : goal.invariant-entries_placed-loop-entry
invariant-entries_placed-loop-entry l = view_placing l.placing ≡ entries_placed (types_in l.known) (view_target l.target) (entries_of (map view_entry l.yielded)) (view_placing l.initial.placing)
