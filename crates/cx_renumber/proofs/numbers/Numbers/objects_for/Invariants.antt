use Rattle.std.proofs.Common.{◌≡◌, ◌++◌, map, drop}
use Rattle.cx_renumber.specs.Views.{view_numbers}
use Rattle.cx_renumber.proofs.numbers.Numbers.objects_for.Given as goal

abbrev pub invariant-loop-number : goal.invariant-loop-number
invariant-loop-number l = l.there ++ map (view_numbers l.self).object_for (drop l.number-index l.numbers) ≡ map (view_numbers l.self).object_for l.numbers
