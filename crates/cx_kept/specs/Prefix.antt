-- What stays of a scope behind an expression.
use Rattle.std.specs.Prelude.{◌≡◌, take, length}
use Rattle.cx_rules.specs.Operands.{COperand}
use Rattle.cx_rules.specs.Readings.{fine}
use Rattle.cx_rules.specs.Scope.{CScope}
use Rattle.cx_rules.specs.Units.{check_expr}
use Rattle.cx_tree.specs.Trees.{ExprTree}

-- the literals and the mentions of one scope stand in front in another
abbrev pub Prefix : CScope → CScope → Type 0
Prefix before after =
    (take (length before.literals) after.literals ≡ before.literals) × (take (length before.mentions) after.mentions ≡ before.mentions)

abbrev pub ExpressionsKeep : Type 0
ExpressionsKeep = (tree : ExprTree) (before : CScope) (value : COperand) (after : CScope) → check_expr tree before ≡ fine value after → Prefix before after
