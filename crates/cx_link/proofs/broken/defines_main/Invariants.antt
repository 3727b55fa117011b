use Rattle.std.proofs.Common.{◌≡◌, map, drop}
use Rattle.std.specs.List.{list_any}
use Rattle.cx_core.specs.Linked.{is_main}
use Rattle.cx_core.specs.Views.{view_function}
use Rattle.cx_link.proofs.broken.defines_main.Given as goal

abbrev pub invariant-loop-one : goal.invariant-loop-one
invariant-loop-one l = list_any is_main (map view_function (drop l.one-index l.functions)) ≡ list_any is_main (map view_function l.functions)
