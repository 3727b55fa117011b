use Rattle.std.proofs.Common.{◌≡◌, ◌-◌, map, length}
use Rattle.rs_expr.specs.Reading.{many}
use Rattle.rs_item.specs.Items.{ends_braces, field, fields}
use Rattle.rs_tree.specs.Views.{field_view}
use Rattle.rs_item.proofs.records.fields.Given as goal

abbrev pub invariant-loop-turn : goal.invariant-loop-turn
invariant-loop-turn l = many ends_braces field (length l.initial.cursor - l._turn) (map field_view l.list) l.cursor ≡ fields l.initial.cursor
