use Rattle.std.proofs.Common.{◌≡◌, map, drop}
use Rattle.cx_core.specs.Typing.{function_with}
use Rattle.cx_core.specs.Views.{view_function}
use Rattle.cx_node_steps.proofs.calls.function_numbered.Given as goal

abbrev pub invariant-loop-one : goal.invariant-loop-one
invariant-loop-one l = function_with l.number (map view_function (drop l.one-index l.functions)) ≡ function_with l.number (map view_function l.functions)
