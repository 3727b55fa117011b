use Rattle.std.proofs.Common.{◌≡◌, map, drop}
use Rattle.cx_core.specs.Views.{view_function}
use Rattle.cx_steps.specs.Mains.{main_among}
use Rattle.cx_steps.proofs.entry.main_among.Given as goal

abbrev pub invariant-loop-one : goal.invariant-loop-one
invariant-loop-one l = main_among (map view_function (drop l.one-index l.functions)) ≡ main_among (map view_function l.functions)
