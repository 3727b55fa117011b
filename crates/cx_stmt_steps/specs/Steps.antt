-- The steps of the walk over statements that stops at the first broken node. Of the scope at which a statement began the code keeps how
-- many declarations and literals there were, and where its innermost scope began.
use Rattle.std.specs.Prelude.{ℕ, ℤ, Bool, List, [], Option, None, Some}
use Rattle.cr_base.specs.declared.refusal.Place.{Place}
use Rattle.cx_core.specs.Trees.{CTy, CExpr, CStmt, stmt, CStmtForm, block, expression, switch, returns}
use Rattle.cx_rules.specs.Nodes.{CNode, return_node, switch_node}
use Rattle.cx_rules.specs.Operands.{COperand, value_of, fitted, promoted_value}
use Rattle.cx_rules.specs.Pieces.{Done, at_line}
use Rattle.cx_rules.specs.Readings.{Check, check_gives, check_chain, check_here, check_becomes, check_look}
use Rattle.cx_rules.specs.Scope.{CScope, left}
use Rattle.cx_rules.specs.UnitWalk as unit
use Rattle.cx_rules.specs.UnitWalk.{CWhere, CStated, stated}
use Rattle.cx_stmt_steps.specs.Changes.{with_cases}
use Rattle.cx_stmt_steps.specs.Literals.{literals_from}

abbrev pub settled : {A : Type 0} → CScope → ℕ → CNode → A → Check A
settled = unit.settled Check check_gives check_chain check_here check_becomes check_look

abbrev pub label_seen : List ℕ → ℕ → CStated → Check CStated
label_seen = unit.label_seen Check check_gives check_chain check_here check_becomes check_look

abbrev pub case_seen : CWhere → ℕ → COperand → CStated → Check CStated
case_seen = unit.case_seen Check check_gives check_chain check_here check_becomes check_look

abbrev pub case_as : CWhere → ℕ → COperand → CStated → CScope → Option ℤ → Check CStated
case_as = unit.case_as Check check_gives check_chain check_here check_becomes check_look

abbrev pub case_by : CWhere → ℕ → COperand → CStated → CScope → Option CTy → Check CStated
case_by = unit.case_by Check check_gives check_chain check_here check_becomes check_look

abbrev pub default_seen : CWhere → ℕ → CStated → Check CStated
default_seen = unit.default_seen Check check_gives check_chain check_here check_becomes check_look

abbrev pub null_seen : ℕ → Check CStated
null_seen = unit.null_seen Check check_gives check_chain check_here check_becomes check_look

abbrev pub dropped_seen : ℕ → COperand → Check CExpr
dropped_seen = unit.dropped_seen Check check_gives check_chain check_here check_becomes check_look

abbrev pub controls_seen : ℕ → COperand → Check Done
controls_seen = unit.controls_seen Check check_gives check_chain check_here check_becomes check_look

abbrev pub controls_option : ℕ → Option COperand → Check Done
controls_option = unit.controls_option Check check_gives check_chain check_here check_becomes check_look

abbrev pub goto_seen : CWhere → List ℕ → ℕ → Check CStated
goto_seen = unit.goto_seen Check check_gives check_chain check_here check_becomes check_look

abbrev pub jump_seen : ℕ → Bool → CStmtForm → Check CStated
jump_seen = unit.jump_seen Check check_gives check_chain check_here check_becomes check_look

-- ---- steps whose earlier scope is known by what the code keeps of it

abbrev pub expression_ended : (literals : ℕ) → ℕ → CExpr → Check CStated
expression_ended literals line value = check_chain _ _ check_here (λ scope.
    check_gives _ (stated (at_line scope line) (expression (Some value)) (literals_from literals scope)))

abbrev pub whole_ended : (count begins : ℕ) → ℕ → CStmtForm → List ℕ → Check CStated
whole_ended count begins line form objects = check_chain _ _ check_here (λ scope.
    check_chain _ _ (check_becomes (left count begins scope))
    (λ _. check_gives _ (record { stmt = stmt (at_line scope line) objects form; objects = [] })))

-- a selection or iteration statement with an expression that controls it
abbrev pub tested_ended : (count begins : ℕ) → COperand → List ℕ → ℕ → CStmtForm → Check CStated
tested_ended count begins test literals line form =
    check_chain _ _ (controls_seen line test) (λ _. whole_ended count begins line form literals)

-- one whose expression may be missing
abbrev pub for_ended : (count begins : ℕ) → Option COperand → List ℕ → ℕ → CStmtForm → Check CStated
for_ended count begins test objects line form =
    check_chain _ _ (controls_option line test) (λ _. whole_ended count begins line form objects)

-- the expression that controls a `switch`, around which these were the labels
abbrev pub switch_seen : ℕ → List ℤ → Bool → COperand → Check CExpr
switch_seen line cases has_default value = check_chain _ _ check_here (λ scope.
    unit.changed Check check_gives check_chain check_here check_becomes check_look scope line (switch_node value)
    (with_cases cases has_default scope) (promoted_value scope.types value))

abbrev pub switch_ended : (count begins : ℕ) → COperand → List ℕ → ℕ → List ℤ → Bool → CStmt → Check CStated
switch_ended count begins test literals line cases has_default body =
    check_chain _ _ (switch_seen line cases has_default test) (λ value. whole_ended count begins line (switch value body) literals)

abbrev pub return_as : CWhere → (literals : ℕ) → ℕ → CScope → Option COperand → Check CStated
return_as here literals line scope None =
    settled scope line (return_node here.result None) (stated (at_line scope line) (returns None) [])
return_as here literals line scope (Some value) =
    settled scope line (return_node here.result (Some value))
    (stated (at_line scope line) (returns (Some (fitted scope.types here.result (value_of value)))) (literals_from literals scope))

abbrev pub return_seen : CWhere → (literals : ℕ) → ℕ → Option COperand → Check CStated
return_seen here literals line value = check_chain _ _ check_here (λ scope. return_as here literals line scope value)
