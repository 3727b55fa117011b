use Rattle.std.proofs.Common.{map, drop}
use Rattle.cx_core.specs.Views.{view_member, view_types}
use Rattle.cx_grounded.specs.Grounded.{AllFit}
use Rattle.cx_grounded.proofs.grounded.all_fit.Given as goal

abbrev pub invariant-loop-one : goal.invariant-loop-one
invariant-loop-one l = AllFit (view_types l.types) l.ranks l.rank (map view_member (drop l.one-index l.members)) → AllFit (view_types l.types) l.ranks l.rank (map view_member l.members)
