use Rattle.std.proofs.Common.{◌≡◌, ◌-◌, map, length}
use Rattle.rs_expr.specs.Reading.{many}
use Rattle.rs_item.specs.Items.{ends_module, item, read_items}
use Rattle.rs_tree.specs.Views.{item_view}
use Rattle.rs_item.proofs.module_items.read_items.Given as goal

abbrev pub invariant-loop-turn : goal.invariant-loop-turn
invariant-loop-turn l = many ends_module item (length l.initial.cursor - l._turn) (map item_view l.list) l.cursor ≡ read_items l.initial.cursor
