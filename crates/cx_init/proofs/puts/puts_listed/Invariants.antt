use Rattle.std.proofs.Common.{◌≡◌, map}
use Rattle.cx_core.specs.Views.{view_put, view_type}
use Rattle.cx_init.specs.Parts.{puts_listed}
use Rattle.cx_init.specs.Views.{view_stored}
use Rattle.cx_kinds.specs.Known.{types_in}
use Rattle.cx_init.proofs.puts.puts_listed.Given as goal

-- those that were taken so far give these
abbrev pub invariant-loop-one : goal.invariant-loop-one
invariant-loop-one l = map view_put l.puts ≡ puts_listed (types_in l.known) (view_type l.t) (map view_stored l.yielded)
