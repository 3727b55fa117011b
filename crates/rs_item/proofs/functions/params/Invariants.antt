use Rattle.std.proofs.Common.{◌≡◌, ◌-◌, map, length}
use Rattle.rs_expr.specs.Reading.{many, part, ends_list}
use Rattle.rs_item.specs.Items.{param, params}
use Rattle.rs_tree.specs.Views.{local_view}
use Rattle.rs_item.proofs.functions.params.Given as goal

abbrev pub invariant-loop-turn : goal.invariant-loop-turn
invariant-loop-turn l = many ends_list (part param) (length l.initial.cursor - l._turn) (map local_view l.list) l.cursor ≡ params l.initial.cursor
