-- What stands for a statement is told by what stands for its parts, form by form.
use Rattle.std.proofs.Common.{◌≡◌, sym, ap, ◌∙◌, ℕ, List, map, Option, option_map}
use Rattle.cx_core.specs.declared.expr.CoreExpr.{CoreExpr}
use Rattle.cx_core.specs.declared.expr.Put.{Put}
use Rattle.cx_core.specs.declared.stmt.CoreStmt.{CoreStmt}
use Rattle.cx_core.specs.declared.stmt.StmtForm as action
use Rattle.cx_core.specs.Trees.{stmt, label, default, block, expression, if_then, switch, while, do_while, for_loop, goto, continue, break, returns, begin}
use Rattle.cx_core.specs.Views.{otherwise_of, stmts_of, view_expr, view_puts, view_stmt}
use Rattle.cx_renumber.specs.Numbers.{CNumbers, expr_there, puts_there, stmt_there, stmts_there, else_there}
use Rattle.cx_renumber.proofs.Opened.{label_view, default_view, block_view, expression_view, if_view, switch_view, while_view, do_view, for_view, goto_view, continue_view, break_view, return_view, begin_view}

pub label_is : (numbers : CNumbers) (one : CoreStmt) (name : List ℕ) (inner : CoreStmt) → one.form ≡ action.Label name inner →
    stmt one.place (map numbers.object_for one.objects) (label name (stmt_there numbers (view_stmt inner))) ≡ stmt_there numbers (view_stmt one)
label_is numbers one name inner e = sym (ap (λ form. stmt_there numbers (view_stmt (record { place = one.place; objects = one.objects; form = form }))) e ∙ ap (stmt_there numbers) (label_view one.place one.objects name inner))

pub default_is : (numbers : CNumbers) (one : CoreStmt) (inner : CoreStmt) → one.form ≡ action.Default inner →
    stmt one.place (map numbers.object_for one.objects) (default (stmt_there numbers (view_stmt inner))) ≡ stmt_there numbers (view_stmt one)
default_is numbers one inner e = sym (ap (λ form. stmt_there numbers (view_stmt (record { place = one.place; objects = one.objects; form = form }))) e ∙ ap (stmt_there numbers) (default_view one.place one.objects inner))

pub block_is : (numbers : CNumbers) (one : CoreStmt) (all : List CoreStmt) → one.form ≡ action.Block all →
    stmt one.place (map numbers.object_for one.objects) (block (stmts_there numbers (stmts_of (map view_stmt all)))) ≡ stmt_there numbers (view_stmt one)
block_is numbers one all e = sym (ap (λ form. stmt_there numbers (view_stmt (record { place = one.place; objects = one.objects; form = form }))) e ∙ ap (stmt_there numbers) (block_view one.place one.objects all))

pub expression_is : (numbers : CNumbers) (one : CoreStmt) (value : Option CoreExpr) → one.form ≡ action.Expr value →
    stmt one.place (map numbers.object_for one.objects) (expression (option_map (expr_there numbers) (option_map view_expr value))) ≡ stmt_there numbers (view_stmt one)
expression_is numbers one value e = sym (ap (λ form. stmt_there numbers (view_stmt (record { place = one.place; objects = one.objects; form = form }))) e ∙ ap (stmt_there numbers) (expression_view one.place one.objects value))

pub if_is : (numbers : CNumbers) (one : CoreStmt) (test : CoreExpr) (first : CoreStmt) (second : Option CoreStmt) → one.form ≡ action.If test first second →
    stmt one.place (map numbers.object_for one.objects) (if_then (expr_there numbers (view_expr test)) (stmt_there numbers (view_stmt first)) (else_there numbers (otherwise_of (option_map view_stmt second)))) ≡ stmt_there numbers (view_stmt one)
if_is numbers one test first second e = sym (ap (λ form. stmt_there numbers (view_stmt (record { place = one.place; objects = one.objects; form = form }))) e ∙ ap (stmt_there numbers) (if_view one.place one.objects test first second))

pub switch_is : (numbers : CNumbers) (one : CoreStmt) (on : CoreExpr) (body : CoreStmt) → one.form ≡ action.Switch on body →
    stmt one.place (map numbers.object_for one.objects) (switch (expr_there numbers (view_expr on)) (stmt_there numbers (view_stmt body))) ≡ stmt_there numbers (view_stmt one)
switch_is numbers one on body e = sym (ap (λ form. stmt_there numbers (view_stmt (record { place = one.place; objects = one.objects; form = form }))) e ∙ ap (stmt_there numbers) (switch_view one.place one.objects on body))

pub while_is : (numbers : CNumbers) (one : CoreStmt) (test : CoreExpr) (body : CoreStmt) → one.form ≡ action.While test body →
    stmt one.place (map numbers.object_for one.objects) (while (expr_there numbers (view_expr test)) (stmt_there numbers (view_stmt body))) ≡ stmt_there numbers (view_stmt one)
while_is numbers one test body e = sym (ap (λ form. stmt_there numbers (view_stmt (record { place = one.place; objects = one.objects; form = form }))) e ∙ ap (stmt_there numbers) (while_view one.place one.objects test body))

pub do_is : (numbers : CNumbers) (one : CoreStmt) (body : CoreStmt) (test : CoreExpr) → one.form ≡ action.Do body test →
    stmt one.place (map numbers.object_for one.objects) (do_while (stmt_there numbers (view_stmt body)) (expr_there numbers (view_expr test))) ≡ stmt_there numbers (view_stmt one)
do_is numbers one body test e = sym (ap (λ form. stmt_there numbers (view_stmt (record { place = one.place; objects = one.objects; form = form }))) e ∙ ap (stmt_there numbers) (do_view one.place one.objects body test))

pub for_is : (numbers : CNumbers) (one : CoreStmt) (first : List CoreStmt) (test : Option CoreExpr) (next : Option CoreExpr) (body : CoreStmt) → one.form ≡ action.For first test next body →
    stmt one.place (map numbers.object_for one.objects) (for_loop (stmts_there numbers (stmts_of (map view_stmt first))) (option_map (expr_there numbers) (option_map view_expr test)) (option_map (expr_there numbers) (option_map view_expr next)) (stmt_there numbers (view_stmt body))) ≡ stmt_there numbers (view_stmt one)
for_is numbers one first test next body e = sym (ap (λ form. stmt_there numbers (view_stmt (record { place = one.place; objects = one.objects; form = form }))) e ∙ ap (stmt_there numbers) (for_view one.place one.objects first test next body))

pub goto_is : (numbers : CNumbers) (one : CoreStmt) (name : List ℕ) → one.form ≡ action.Goto name →
    stmt one.place (map numbers.object_for one.objects) (goto name) ≡ stmt_there numbers (view_stmt one)
goto_is numbers one name e = sym (ap (λ form. stmt_there numbers (view_stmt (record { place = one.place; objects = one.objects; form = form }))) e ∙ ap (stmt_there numbers) (goto_view one.place one.objects name))

pub continue_is : (numbers : CNumbers) (one : CoreStmt) → one.form ≡ action.Continue →
    stmt one.place (map numbers.object_for one.objects) continue ≡ stmt_there numbers (view_stmt one)
continue_is numbers one e = sym (ap (λ form. stmt_there numbers (view_stmt (record { place = one.place; objects = one.objects; form = form }))) e ∙ ap (stmt_there numbers) (continue_view one.place one.objects))

pub break_is : (numbers : CNumbers) (one : CoreStmt) → one.form ≡ action.Break →
    stmt one.place (map numbers.object_for one.objects) break ≡ stmt_there numbers (view_stmt one)
break_is numbers one e = sym (ap (λ form. stmt_there numbers (view_stmt (record { place = one.place; objects = one.objects; form = form }))) e ∙ ap (stmt_there numbers) (break_view one.place one.objects))

pub return_is : (numbers : CNumbers) (one : CoreStmt) (value : Option CoreExpr) → one.form ≡ action.Return value →
    stmt one.place (map numbers.object_for one.objects) (returns (option_map (expr_there numbers) (option_map view_expr value))) ≡ stmt_there numbers (view_stmt one)
return_is numbers one value e = sym (ap (λ form. stmt_there numbers (view_stmt (record { place = one.place; objects = one.objects; form = form }))) e ∙ ap (stmt_there numbers) (return_view one.place one.objects value))

pub begin_is : (numbers : CNumbers) (one : CoreStmt) (number : ℕ) (puts : Option (List Put)) → one.form ≡ action.Begin number puts →
    stmt one.place (map numbers.object_for one.objects) (begin (numbers.object_for number) (option_map (puts_there numbers) (option_map view_puts puts))) ≡ stmt_there numbers (view_stmt one)
begin_is numbers one number puts e = sym (ap (λ form. stmt_there numbers (view_stmt (record { place = one.place; objects = one.objects; form = form }))) e ∙ ap (stmt_there numbers) (begin_view one.place one.objects number puts))
