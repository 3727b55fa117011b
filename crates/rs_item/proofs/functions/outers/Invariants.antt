use Rattle.std.proofs.Common.{◌≡◌, ◌-◌, map, length}
use Rattle.rs_expr.specs.Reading.{many}
use Rattle.rs_item.specs.Items.{ends_braces, outer, outers}
use Rattle.rs_tree.specs.Views.{outer_view}
use Rattle.rs_item.proofs.functions.outers.Given as goal

abbrev pub invariant-loop-turn : goal.invariant-loop-turn
invariant-loop-turn l = many ends_braces outer (length l.initial.cursor - l._turn) (map outer_view l.list) l.cursor ≡ outers l.initial.cursor
