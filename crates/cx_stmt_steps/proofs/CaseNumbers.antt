-- A `case` label by the type of its `switch`.
use Rattle.std.proofs.Common.{◌≡◌, refl, ℕ, Option, None, Some}
use Rattle.cx_core.specs.Trees.{CTy}
use Rattle.cx_rules.specs.Operands.{COperand}
use Rattle.cx_rules.specs.Scope.{CScope}
use Rattle.cx_rules.specs.UnitWalk.{CWhere, CStated}
use Rattle.cx_stmt_steps.specs.CaseNumbers.{case_for}
use Rattle.cx_stmt_steps.specs.Steps.{case_as, case_by}

pub case_is : (here : CWhere) (line : ℕ) (value : COperand) (inner : CStated) (scope : CScope) (switch : Option CTy) →
    case_by here line value inner scope switch scope ≡ case_as here line value inner scope (case_for scope.types switch value) scope
case_is here line value inner scope None = refl
case_is here line value inner scope (Some type) = refl
