use Rattle.std.proofs.Common.{◌≡◌, map, drop}
use Rattle.cx_core.specs.Views.{view_function}
use Rattle.whole_keys.specs.Behind.{calls_behind_functions}
use Rattle.whole_keys.specs.Views.{view_call}
use Rattle.whole_keys.proofs.body_calls.functions_behind.Given as goal

abbrev pub invariant-loop-one : goal.invariant-loop-one
invariant-loop-one l =
    calls_behind_functions l.unit (map view_function (drop l.one-index l.functions)) (map view_call l.calls)
    ≡ calls_behind_functions l.unit (map view_function l.functions) (map view_call l.fn.calls)
