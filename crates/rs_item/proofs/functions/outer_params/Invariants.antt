use Rattle.std.proofs.Common.{◌≡◌, ◌-◌, map, length}
use Rattle.rs_expr.specs.Reading.{many, part}
use Rattle.rs_item.specs.Items.{ends_params, outer_param, outer_params}
use Rattle.rs_tree.specs.Views.{ty_view}
use Rattle.rs_item.proofs.functions.outer_params.Given as goal

abbrev pub invariant-loop-turn : goal.invariant-loop-turn
invariant-loop-turn l = many ends_params (part outer_param) (length l.initial.cursor - l._turn) (map ty_view l.list) l.cursor ≡ outer_params l.initial.cursor
