use Rattle.std.proofs.Common.{◌≡◌, ◌++◌, map, drop}
use Rattle.cx_core.specs.Views.{view_key}
use Rattle.cx_renumber.specs.Numbers.{key_there}
use Rattle.cx_renumber.specs.Views.{view_numbers}
use Rattle.cx_renumber.proofs.orders.keys_there.Given as goal

abbrev pub invariant-loop-key : goal.invariant-loop-key
invariant-loop-key l = map view_key l.there ++ map (key_there (view_numbers l.numbers)) (map view_key (drop l.key-index l.keys)) ≡ map (key_there (view_numbers l.numbers)) (map view_key l.keys)
