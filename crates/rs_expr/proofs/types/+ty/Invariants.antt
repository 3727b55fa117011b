use Rattle.std.proofs.Common.{◌≡◌, ◌+◌, ◌*◌, ◌-◌, map, length}
use Rattle.rs_expr.specs.Reading.{listed, many, part, ends_list}
use Rattle.rs_expr.specs.Types.{ty}
use Rattle.rs_tree.specs.Views.{ty_view}
use Rattle.rs_expr.proofs.types.+ty.Given as goal

abbrev pub decreases-array : goal.decreases-array
decreases-array l = 8 * l.levels + 1

abbrev pub decreases-code : goal.decreases-code
decreases-code l = 8 * l.levels + 4

abbrev pub decreases-function_ty : goal.decreases-function_ty
decreases-function_ty l = 8 * l.levels + 3

abbrev pub decreases-next_ty : goal.decreases-next_ty
decreases-next_ty l = 8 * l.levels + 1

abbrev pub decreases-option_result : goal.decreases-option_result
decreases-option_result l = 8 * l.levels + 1

abbrev pub decreases-pointer : goal.decreases-pointer
decreases-pointer l = 8 * l.levels + 1

abbrev pub decreases-ty : goal.decreases-ty
decreases-ty l = 8 * l.levels + 0

abbrev pub decreases-ty_from : goal.decreases-ty_from
decreases-ty_from l = 8 * l.levels + 6

abbrev pub decreases-types : goal.decreases-types
decreases-types l = 8 * l.levels + 2

abbrev pub invariant-types-loop-turn : goal.invariant-types-loop-turn
invariant-types-loop-turn l =
    many ends_list (part (ty l.levels)) (length l.initial.cursor - l._turn) (map ty_view l.list) l.cursor ≡ listed (ty l.levels) l.initial.cursor
