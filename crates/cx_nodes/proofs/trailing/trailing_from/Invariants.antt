use Rattle.std.proofs.Common.{◌≡◌, ◌++◌, map, drop, length}
use Rattle.cx_core.specs.Trees.{type_of}
use Rattle.cx_core.specs.Views.{view_type, view_types}
use Rattle.cx_operands.specs.Views.{view_operand}
use Rattle.cx_rules.specs.Meanings.{trailing_value}
use Rattle.cx_nodes.proofs.trailing.trailing_from.Given as goal

abbrev pub invariant-loop-index : goal.invariant-loop-index
invariant-loop-index l =
    map view_type l.made ++ map (λ arg. type_of (trailing_value (view_types l.types) (view_operand arg))) (drop l.index l.args)
    ≡ map (λ arg. type_of (trailing_value (view_types l.types) (view_operand arg))) (drop (length l.params) l.args)
