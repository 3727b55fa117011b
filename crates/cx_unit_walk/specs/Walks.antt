-- The walk over statements and units up to the first broken node.
use Rattle.std.specs.Prelude.{ℕ, Bool, List, [], length, false, Option, None, ◌++◌}
use Rattle.cx_core.specs.Trees.{CExpr, CStmt, COtherwise, block, do_while, for_loop, if_then, stmt, while}
use Rattle.cx_unit_walk.specs.Functions.{in_function, result_in}
use Rattle.cx_unit_walk.specs.Kept.{CTestedKept, CForKept, CWithinKept}
use Rattle.cx_decl_steps.specs.Kept.{CHeadKept}
use Rattle.cx_decl_steps.specs.Steps as decl_steps
use Rattle.cx_rules.specs.Lines.{own_line}
use Rattle.cx_rules.specs.Operands.{COperand, promoted_type, value_of}
use Rattle.cx_rules.specs.Pieces.{Done, at_line}
use Rattle.cx_rules.specs.Readings.{Check, check_gives, check_chain, check_here, check_becomes, check_look}
use Rattle.cx_rules.specs.Scope.{entered}
use Rattle.cx_rules.specs.UnitWalk as unit
use Rattle.cx_rules.specs.UnitWalk.{CWhere, CMeant, CStated, as_block, as_meant, in_loop, in_switch, labels_of, option_value, stmts_of}
use Rattle.cx_stmt_steps.specs.Changes.{with_cases}
use Rattle.cx_stmt_steps.specs.Steps as steps
use Rattle.cx_tree.specs.Trees.{ExprTree, OptionExprTree, ForFirstTree, StmtTree, Block, If, OptionStmtTree, ItemTree, ItemTrees, DefinitionTree, ExternalTree}

-- ---- clauses of statements

abbrev pub dropped_walk : ExprTree → Check CExpr
dropped_walk = unit.dropped_walk Check check_gives check_chain check_here check_becomes check_look

abbrev pub dropped_option : OptionExprTree → Check (Option CExpr)
dropped_option = unit.dropped_option Check check_gives check_chain check_here check_becomes check_look

abbrev pub expression_walk : ExprTree → Check CStated
expression_walk = unit.expression_walk Check check_gives check_chain check_here check_becomes check_look

-- an expression as the first clause of a `for` statement
abbrev pub value_walk : ExprTree → Check CMeant
value_walk value = check_chain _ _ (expression_walk value) (λ one. check_gives _ (as_meant one))

abbrev pub first_walk : ForFirstTree → Check CMeant
first_walk = unit.first_walk Check check_gives check_chain check_here check_becomes check_look

abbrev pub tested_begins : ExprTree → Check CTestedKept
tested_begins condition = check_chain _ _ check_here (λ before. check_chain _ _ (check_becomes (entered before)) (λ _.
    check_chain _ _ (unit.expr_walk Check check_gives check_chain check_here check_becomes check_look condition) (λ test. check_chain _ _ check_here (λ scope.
    check_gives _ (record { count = length before.declared; begins = before.begins; test = test; literals = unit.literals_since before scope })))))

-- the clauses behind the first one, where the scope of the statement began so
abbrev pub for_clauses : (count begins : ℕ) → CMeant → OptionExprTree → OptionExprTree → Check CForKept
for_clauses count begins first second third = check_chain _ _ check_here (λ behind.
    check_chain _ _ (unit.option_walk Check check_gives check_chain check_here check_becomes check_look second) (λ test.
    check_chain _ _ (dropped_option third) (λ next. check_chain _ _ check_here (λ scope.
    check_gives _ (record { count = count; begins = begins; first = first; test = test; next = next; literals = unit.literals_since behind scope })))))

abbrev pub for_begins : ForFirstTree → OptionExprTree → OptionExprTree → Check CForKept
for_begins first second third = check_chain _ _ check_here (λ before. check_chain _ _ (check_becomes (entered before)) (λ _.
    check_chain _ _ (first_walk first) (λ begun. for_clauses (length before.declared) before.begins begun second third)))

abbrev pub switch_begins : COperand → Check CWithinKept
switch_begins value = check_chain _ _ check_here (λ scope. check_chain _ _ (check_becomes (with_cases [] false scope)) (λ _.
    check_gives _ (record { type = promoted_type scope.types value; values = scope.body.cases; has_default = scope.body.has_default })))

-- `do` behind its body
abbrev pub do_ends : (count begins : ℕ) → ℕ → ExprTree → CStmt → Check CStated
do_ends count begins line condition body = check_chain _ _ check_here (λ behind.
    check_chain _ _ (unit.expr_walk Check check_gives check_chain check_here check_becomes check_look condition) (λ test.
    check_chain _ _ check_here (λ scope.
    steps.tested_ended count begins test (unit.literals_since behind scope) line (do_while body (value_of test)))))

-- ---- statements

abbrev pub stmt_walk : CWhere → StmtTree → Check CStated
stmt_walk = unit.stmt_walk Check check_gives check_chain check_here check_becomes check_look

abbrev pub else_walk : CWhere → OptionStmtTree → Check COtherwise
else_walk = unit.else_walk Check check_gives check_chain check_here check_becomes check_look

abbrev pub item_walk : CWhere → ItemTree → Check CMeant
item_walk = unit.item_walk Check check_gives check_chain check_here check_becomes check_look

abbrev pub items_walk : CWhere → ItemTrees → Check CMeant
items_walk = unit.items_walk Check check_gives check_chain check_here check_becomes check_look

abbrev pub scoped : Check CStated → Check CStmt
scoped = unit.scoped Check check_gives check_chain check_here check_becomes check_look

abbrev pub if_rest : CWhere → CTestedKept → StmtTree → OptionStmtTree → ℕ → Check CStated
if_rest here begun branch otherwise line = check_chain _ _ (scoped (stmt_walk here branch)) (λ one.
    check_chain _ _ (else_walk here otherwise) (λ other.
    steps.tested_ended begun.count begun.begins begun.test begun.literals line (if_then (value_of begun.test) one other)))

-- the branches of an `if` statement
abbrev pub if_branches : CWhere → CTestedKept → StmtTree → Check CStated
if_branches here begun (If condition branch otherwise lines) = if_rest here begun branch otherwise (own_line lines)
if_branches here begun other = stmt_walk here other

abbrev pub if_walk : CWhere → ExprTree → StmtTree → Check CStated
if_walk here condition whole = check_chain _ _ (tested_begins condition) (λ begun. if_branches here begun whole)

abbrev pub while_rest : CWhere → CTestedKept → StmtTree → ℕ → Check CStated
while_rest here begun body line = check_chain _ _ (scoped (stmt_walk (in_loop here) body)) (λ one.
    steps.tested_ended begun.count begun.begins begun.test begun.literals line (while (value_of begun.test) one))

abbrev pub switch_body : CWhere → CTestedKept → CWithinKept → StmtTree → ℕ → Check CStated
switch_body here begun within body line = check_chain _ _ (scoped (stmt_walk (in_switch within.type here) body)) (λ one.
    steps.switch_ended begun.count begun.begins begun.test begun.literals line within.values within.has_default one)

abbrev pub switch_rest : CWhere → CTestedKept → StmtTree → ℕ → Check CStated
switch_rest here begun body line = check_chain _ _ (switch_begins begun.test) (λ within. switch_body here begun within body line)

abbrev pub for_rest : CWhere → CForKept → StmtTree → ℕ → Check CStated
for_rest here begun body line = check_chain _ _ (scoped (stmt_walk (in_loop here) body)) (λ one.
    steps.for_ended begun.count begun.begins begun.test (begun.first.objects ++ begun.literals) line
    (for_loop (stmts_of begun.first.stmts) (option_value begun.test) begun.next one))

-- a `for` statement
abbrev pub for_walk : CWhere → ForFirstTree → OptionExprTree → OptionExprTree → StmtTree → ℕ → Check CStated
for_walk here first second third body line = check_chain _ _ (for_begins first second third) (λ begun. for_rest here begun body line)

-- ---- units

-- where the body of a function stands
abbrev pub where_in : CHeadKept → StmtTree → CWhere
where_in head body = in_function (result_in head.type) (labels_of body)

abbrev pub block_body : CWhere → ℕ → ItemTrees → Check CStmt
block_body here line items = check_chain _ _ (items_walk here items) (λ all.
    check_chain _ _ check_here (λ scope. check_gives _ (stmt (at_line scope line) all.objects (block (stmts_of all.stmts)))))

abbrev pub other_body : CWhere → StmtTree → Check CStmt
other_body here body = check_chain _ _ (stmt_walk here body) (λ one. check_gives _ (as_block one))

abbrev pub body_at : CWhere → StmtTree → Check CStmt
body_at here (Block items lines) = block_body here (own_line lines) items
body_at here body = other_body here body

abbrev pub body_walk : CHeadKept → StmtTree → Check CStmt
body_walk head body = body_at (where_in head body) body

-- a definition behind its head
abbrev pub definition_rest : StmtTree → CHeadKept → Check Done
definition_rest body head = check_chain _ _ (body_walk head body) (λ one. decl_steps.body_ended head one)

abbrev pub definition_walk : DefinitionTree → Check Done
definition_walk = unit.definition_walk Check check_gives check_chain check_here check_becomes check_look

abbrev pub external_walk : ExternalTree → Check Done
external_walk = unit.external_walk Check check_gives check_chain check_here check_becomes check_look

abbrev pub externals_walk : List ExternalTree → Check Done
externals_walk = unit.externals_walk Check check_gives check_chain check_here check_becomes check_look
