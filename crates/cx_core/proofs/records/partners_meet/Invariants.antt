use Rattle.std.proofs.Common.{◌≡◌, map, drop}
use Rattle.cx_core.specs.Needed.{gathered, each, needed_by_one}
use Rattle.cx_core.specs.Views.{view_member, view_types}
use Rattle.cx_core.proofs.records.partners_meet.Given as goal

abbrev pub invariant-loop-one : goal.invariant-loop-one
invariant-loop-one l = gathered l.pairs (each (needed_by_one (view_types l.types) l.back (map view_member l.own) (map view_member l.others)) (map view_member (drop l.one-index l.own))) ≡ gathered l.fn.pairs (each (needed_by_one (view_types l.types) l.back (map view_member l.own) (map view_member l.others)) (map view_member l.own))
