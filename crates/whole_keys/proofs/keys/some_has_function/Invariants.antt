use Rattle.std.proofs.Common.{◌≡◌, map, drop}
use Rattle.std.specs.List.{list_any}
use Rattle.whole_keys.specs.Kept.{has_function}
use Rattle.whole_keys.specs.Views.{view_key}
use Rattle.whole_keys.proofs.keys.some_has_function.Given as goal

-- what is left answers for all
abbrev pub invariant-loop-one : goal.invariant-loop-one
invariant-loop-one l =
    list_any (has_function l.numbers) (map view_key l.keys) ≡ list_any (has_function l.numbers) (map view_key (drop l.one-index l.keys))
