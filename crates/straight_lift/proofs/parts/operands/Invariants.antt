use Rattle.std.proofs.Common.{◌≡◌, ◌++◌, map, drop}
use Rattle.straight_lift.specs.Coded.{names_of}
use Rattle.straight_lift.specs.Lifted.{operand_exprs}
use Rattle.straight_rust_tree.specs.View.{expr_view}
use Rattle.straight_lift.proofs.parts.operands.Given as goal

abbrev pub invariant-loop-value : goal.invariant-loop-value
invariant-loop-value l =
    map expr_view l.made ++ operand_exprs (names_of l.names) (drop l.value-index l.values)
    ≡ operand_exprs (names_of l.names) l.values
