use Rattle.std.proofs.Common.{◌≡◌, ◌-◌, map, length}
use Rattle.rs_expr.specs.Reading.{many}
use Rattle.rs_item.specs.Items.{ends_locals, local, locals}
use Rattle.rs_tree.specs.Views.{local_view}
use Rattle.rs_item.proofs.functions.locals.Given as goal

abbrev pub invariant-loop-turn : goal.invariant-loop-turn
invariant-loop-turn l = many ends_locals local (length l.initial.cursor - l._turn) (map local_view l.list) l.cursor ≡ locals l.initial.cursor
