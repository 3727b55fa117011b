use Rattle.cx_core.specs.Views.{view_type, view_types}
use Rattle.cx_core.proofs.GoodSets.{Gathered}
use Rattle.cx_core.proofs.compatibility.compatible.Given as goal

abbrev pub invariant-loop-index : goal.invariant-loop-index
invariant-loop-index l = Gathered (view_types l.types) (view_type l.a) (view_type l.b) l.pairs l.index
