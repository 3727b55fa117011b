use Rattle.std.proofs.Common.{◌≡◌, map, drop, reverse}
use Rattle.std.specs.List.{list_all}
use Rattle.rs_tree.specs.Views.{field_view, item_view, module_view}
use Rattle.rs_mean.specs.Typing.{field_stands}
use Rattle.rs_layout.specs.Layouts.{by_front}
use Rattle.rs_types.proofs.items.fields_stand.Given as goal

-- what is left answers for all
abbrev pub invariant-loop-field : goal.invariant-loop-field
invariant-loop-field l = list_all (field_stands (map module_view l.modules) (by_front l.home (reverse (map item_view l.earlier)))) (map field_view (drop l.field-index l.fields)) ≡ list_all (field_stands (map module_view l.modules) (by_front l.home (reverse (map item_view l.earlier)))) (map field_view l.fields)
