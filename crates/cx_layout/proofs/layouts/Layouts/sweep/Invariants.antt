use Rattle.cx_core.specs.Views.{view_types}
use Rattle.cx_layout.proofs.Sweeps.{Sweeps}
use Rattle.cx_layout.proofs.layouts.Layouts.sweep.Given as goal

abbrev pub invariant-loop-found : goal.invariant-loop-found
invariant-loop-found l = Sweeps (view_types l.types) l.fn.self l.self l.added l.found-index
