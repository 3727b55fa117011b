-- Statements whose clauses and whose parts stand in functions of their own.
use Rattle.std.proofs.Common.{◌≡◌, refl, sym, ap, ◌∙◌, ℕ, List, length, Option, None, Some}
use Rattle.cx_core.specs.Trees.{CExpr, CStmt, if_then, returns, while}
use Rattle.cx_unit_walk.specs.Kept.{CTestedKept, kept_tested, kept_for}
use Rattle.cx_unit_walk.specs.Walks as walks
use Rattle.cx_rules.specs.Lines.{own_line}
use Rattle.cx_rules.specs.Nodes.{return_node}
use Rattle.cx_rules.specs.Operands.{COperand, fitted, value_of}
use Rattle.cx_rules.specs.Pieces.{at_line}
use Rattle.cx_rules.specs.Readings.{CChecked, stops, fine, Check, check_behind, check_gives, check_chain, check_here, check_becomes, check_look}
use Rattle.cx_rules.specs.Scope.{CScope, entered}
use Rattle.cx_rules.specs.UnitWalk as unit
use Rattle.cx_rules.specs.UnitWalk.{CWhere, CMeant, CTested, CFor, in_loop, stated}
use Rattle.cx_stmt_steps.proofs.Since.{since_is}
use Rattle.cx_stmt_steps.specs.Literals.{literals_from}
use Rattle.cx_stmt_steps.specs.Steps as steps
use Rattle.cx_tree.specs.Trees.{ExprTree, OptionExprTree, ForFirstTree, StmtTree, OptionStmtTree, Do, If, Switch, While, For}

-- ---- what is kept of a step is all that counts behind it

one_kept : {A D E F : Type 0} (walked : CChecked A) (full : A → CScope → D) (kept : D → E) (last : D → Check F) (rest : E → Check F) →
    ((one : D) (scope : CScope) → last one scope ≡ rest (kept one) scope) →
    check_behind (check_behind walked (λ one. λ scope. fine (full one scope) scope)) last
    ≡ check_behind (check_behind walked (λ one. λ scope. fine (kept (full one scope)) scope)) rest
one_kept (stops refusal) full kept last rest same = refl
one_kept (fine one scope) full kept last rest same = same (full one scope) scope

two_kept : {B C D E F : Type 0} (walked : CChecked B) (third : Check C) (full : B → C → CScope → D) (kept : D → E) (last : D → Check F) (rest : E → Check F) →
    ((one : D) (scope : CScope) → last one scope ≡ rest (kept one) scope) →
    check_behind (check_behind walked (λ two. λ then. check_behind (third then) (λ three. λ scope. fine (full two three scope) scope))) last
    ≡ check_behind (check_behind walked (λ two. λ then. check_behind (third then) (λ three. λ scope. fine (kept (full two three scope)) scope))) rest
two_kept (stops refusal) third full kept last rest same = refl
two_kept (fine two then) third full kept last rest same = one_kept (third then) (full two) kept last rest same

three_kept : {A B C D E F : Type 0} (walked : CChecked A) (second : Check B) (third : Check C) (full : A → CScope → B → C → CScope → D) (kept : D → E)
    (last : D → Check F) (rest : E → Check F) → ((one : D) (scope : CScope) → last one scope ≡ rest (kept one) scope) →
    check_behind (check_behind walked (λ one. λ behind. check_behind (second behind) (λ two. λ then. check_behind (third then) (λ three. λ scope. fine (full one behind two three scope) scope)))) last
    ≡ check_behind (check_behind walked (λ one. λ behind. check_behind (second behind) (λ two. λ then. check_behind (third then) (λ three. λ scope. fine (kept (full one behind two three scope)) scope)))) rest
three_kept (stops refusal) second third full kept last rest same = refl
three_kept (fine one behind) second third full kept last rest same = two_kept (second behind) third (full one behind) kept last rest same

-- ---- statements with an expression that controls them

tested : CScope → COperand → CScope → CTested
tested before test scope = record { before = before; test = test; literals = unit.literals_since before scope }

pub while_is : (here : CWhere) (condition : ExprTree) (body : StmtTree) (lines : List ℕ) (before : CScope) →
    walks.stmt_walk here (While condition body lines) before
    ≡ check_behind (walks.tested_begins condition before) (λ begun. walks.while_rest here begun body (own_line lines))
unfolding check_chain check_here check_becomes check_gives tested check_look
while_is here condition body lines before =
    one_kept (unit.expr_walk Check check_gives check_chain check_here check_becomes check_look condition (entered before)) (tested before) kept_tested
    (λ begun. check_chain _ _ (walks.scoped (walks.stmt_walk (in_loop here) body)) (λ one.
    unit.tested_ends Check check_gives check_chain check_here check_becomes check_look begun (own_line lines) (while (value_of begun.test) one)))
    (λ begun. walks.while_rest here begun body (own_line lines)) (λ one scope. refl)

pub if_is : (here : CWhere) (condition : ExprTree) (branch : StmtTree) (otherwise : OptionStmtTree) (lines : List ℕ) (before : CScope) →
    walks.stmt_walk here (If condition branch otherwise lines) before
    ≡ check_behind (walks.tested_begins condition before) (λ begun. walks.if_rest here begun branch otherwise (own_line lines))
unfolding check_chain check_here check_becomes check_gives tested check_look
if_is here condition branch otherwise lines before =
    one_kept (unit.expr_walk Check check_gives check_chain check_here check_becomes check_look condition (entered before)) (tested before) kept_tested
    (λ begun. check_chain _ _ (walks.scoped (walks.stmt_walk here branch)) (λ one. check_chain _ _ (walks.else_walk here otherwise) (λ other.
    unit.tested_ends Check check_gives check_chain check_here check_becomes check_look begun (own_line lines) (if_then (value_of begun.test) one other))))
    (λ begun. walks.if_rest here begun branch otherwise (own_line lines)) (λ one scope. refl)

pub switch_is : (here : CWhere) (on : ExprTree) (body : StmtTree) (lines : List ℕ) (before : CScope) →
    walks.stmt_walk here (Switch on body lines) before
    ≡ check_behind (walks.tested_begins on before) (λ begun. walks.switch_rest here begun body (own_line lines))
unfolding check_chain check_here check_becomes check_gives tested check_look
switch_is here on body lines before =
    one_kept (unit.expr_walk Check check_gives check_chain check_here check_becomes check_look on (entered before)) (tested before) kept_tested
    (λ begun. check_chain _ _ (unit.switch_begins Check check_gives check_chain check_here check_becomes check_look here begun.test) (λ within.
    check_chain _ _ (walks.scoped (walks.stmt_walk within.where_is body)) (λ one.
    unit.switch_ends Check check_gives check_chain check_here check_becomes check_look begun (own_line lines) within.labels one)))
    (λ begun. walks.switch_rest here begun body (own_line lines)) (λ one scope. refl)

-- ---- `for`

for_full : CScope → CMeant → CScope → Option COperand → Option CExpr → CScope → CFor
for_full before first behind test next scope =
    record { before = before; first = first; test = test; next = next; literals = unit.literals_since behind scope }

pub for_is : (here : CWhere) (first : ForFirstTree) (second third : OptionExprTree) (body : StmtTree) (lines : List ℕ) (before : CScope) →
    walks.stmt_walk here (For first second third body lines) before
    ≡ check_behind (walks.for_begins first second third before) (λ begun. walks.for_rest here begun body (own_line lines))
unfolding check_chain check_here check_becomes check_gives for_full check_look
for_is here first second third body lines before =
    three_kept (walks.first_walk first (entered before)) (unit.option_walk Check check_gives check_chain check_here check_becomes check_look second) (walks.dropped_option third) (for_full before) kept_for
    (λ begun. check_chain _ _ (walks.scoped (walks.stmt_walk (in_loop here) body)) (λ one. unit.for_ends Check check_gives check_chain check_here check_becomes check_look begun (own_line lines) one))
    (λ begun. walks.for_rest here begun body (own_line lines)) (λ one scope. refl)

-- ---- the same behind a step that was fine

pub while_fine : (here : CWhere) (condition : ExprTree) (body : StmtTree) (lines : List ℕ) (before : CScope) (begun : CTestedKept) (after : CScope) →
    walks.tested_begins condition before ≡ fine begun after →
    walks.while_rest here begun body (own_line lines) after ≡ walks.stmt_walk here (While condition body lines) before
while_fine here condition body lines before begun after e =
    sym (while_is here condition body lines before ∙ ap (λ walked. check_behind walked (λ one. walks.while_rest here one body (own_line lines))) e)

pub if_whole : (here : CWhere) (condition : ExprTree) (branch : StmtTree) (otherwise : OptionStmtTree) (lines : List ℕ) (before : CScope) →
    walks.if_walk here condition (If condition branch otherwise lines) before ≡ walks.stmt_walk here (If condition branch otherwise lines) before
unfolding check_chain
if_whole here condition branch otherwise lines before = sym (if_is here condition branch otherwise lines before)

pub switch_fine : (here : CWhere) (on : ExprTree) (body : StmtTree) (lines : List ℕ) (before : CScope) (begun : CTestedKept) (after : CScope) →
    walks.tested_begins on before ≡ fine begun after →
    walks.switch_rest here begun body (own_line lines) after ≡ walks.stmt_walk here (Switch on body lines) before
switch_fine here on body lines before begun after e =
    sym (switch_is here on body lines before ∙ ap (λ walked. check_behind walked (λ one. walks.switch_rest here one body (own_line lines))) e)

pub for_whole : (here : CWhere) (first : ForFirstTree) (second third : OptionExprTree) (body : StmtTree) (lines : List ℕ) (before : CScope) →
    walks.for_walk here first second third body (own_line lines) before ≡ walks.stmt_walk here (For first second third body lines) before
unfolding check_chain
for_whole here first second third body lines before = sym (for_is here first second third body lines before)

-- ---- `return`

pub return_fine : (here : CWhere) (before : CScope) (literals line : ℕ) (value : Option COperand) (scope : CScope) → literals ≡ length before.literals →
    steps.return_seen here literals line value scope ≡ unit.return_seen Check check_gives check_chain check_here check_becomes check_look here before line value scope
unfolding check_chain check_here
return_fine here before literals line None scope l = refl
return_fine here before literals line (Some value) scope l =
    ap (λ objects. steps.settled scope line (return_node here.result (Some value))
    (stated (at_line scope line) (returns (Some (fitted scope.types here.result (value_of value)))) objects) scope)
    (ap (λ count. literals_from count scope) l ∙ since_is before scope)

-- ---- `do`

pub do_fine : (here : CWhere) (body : StmtTree) (condition : ExprTree) (lines : List ℕ) (before : CScope) (one : CStmt) (after : CScope) →
    walks.scoped (walks.stmt_walk (in_loop here) body) (entered before) ≡ fine one after →
    walks.do_ends (length before.declared) before.begins (own_line lines) condition one after ≡ walks.stmt_walk here (Do body condition lines) before
unfolding check_chain check_here check_becomes check_gives check_look
do_fine here body condition lines before one after e =
    sym (ap (λ walked. check_behind walked (λ made. unit.do_ends Check check_gives check_chain check_here check_becomes check_look before (own_line lines) condition made)) e)
