use Rattle.std.proofs.Common.{◌≡◌, ◌++◌, map, drop}
use Rattle.straight_core.specs.Views.{view_object}
use Rattle.straight_whole.specs.Items.{name_or_empty}
use Rattle.straight_whole.proofs.tables.object_names.Given as goal

abbrev pub invariant-loop-one : goal.invariant-loop-one
invariant-loop-one l = l.made ++ map (λ one. name_or_empty one.name) (map view_object (drop l.one-index l.objects)) ≡ map (λ one. name_or_empty one.name) (map view_object l.objects)
