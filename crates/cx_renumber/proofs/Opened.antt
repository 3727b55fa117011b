-- Nodes, open one node deep.
use Rattle.std.proofs.Common.{rules, ◌≡◌, ℕ, Bool, List, Option, map, option_map}
use Rattle.cr_base.specs.declared.layout.Spot.{Spot}
use Rattle.cr_base.specs.declared.refusal.Place.{Place}
use Rattle.cx_core.specs.declared.expr.CoreExpr.{CoreExpr}
use Rattle.cx_core.specs.declared.expr.Form as form
use Rattle.cx_core.specs.declared.expr.Form.TheFolds.{fold_out-CoreExpr, fold_out-Form}
use Rattle.cx_core.specs.declared.expr.Form.TheViews.{the_lemmas as expr_lemmas}
use Rattle.cx_core.specs.declared.expr.Op1.{Op1}
use Rattle.cx_core.specs.declared.expr.Op2.{Op2}
use Rattle.cx_core.specs.declared.expr.Put.{Put}
use Rattle.cx_core.specs.declared.stmt.CoreStmt.{CoreStmt}
use Rattle.cx_core.specs.declared.stmt.StmtForm as action
use Rattle.cx_core.specs.declared.stmt.StmtForm.TheFolds.{fold_out-CoreStmt, fold_out-StmtForm}
use Rattle.cx_core.specs.declared.stmt.StmtForm.TheViews.{the_lemmas as stmt_lemmas}
use Rattle.cx_core.specs.declared.ty.Ty.{Ty}
use Rattle.cx_core.specs.Trees.{expr, null, object, code, load, deref, member, address, convert, unary, binary, and, or, cond, assign, assign_by, step, call, call_by, comma, literal, stmt, label, default, block, expression, if_then, switch, while, do_while, for_loop, goto, continue, break, returns, begin}
use Rattle.cx_core.specs.Views.{exprs_of, otherwise_of, puts_of, stmts_of, view_expr, view_put, view_puts, view_stmt, view_type}

pub block_view : (place : Place) (objects : List ℕ) (all : List CoreStmt) →
    view_stmt (record { place = place; objects = objects; form = action.Block all }) ≡ stmt place objects (block (stmts_of (map view_stmt all)))
block_view place objects all = search (rules, stmt_lemmas, fold_out-CoreStmt, fold_out-StmtForm)

pub for_view : (place : Place) (objects : List ℕ) (first : List CoreStmt) (test next : Option CoreExpr) (body : CoreStmt) →
    view_stmt (record { place = place; objects = objects; form = action.For first test next body })
    ≡ stmt place objects (for_loop (stmts_of (map view_stmt first)) (option_map view_expr test) (option_map view_expr next) (view_stmt body))
for_view place objects first test next body = search (rules, stmt_lemmas, fold_out-CoreStmt, fold_out-StmtForm)

pub call_view : (type : Ty) (place : Place) (callee : ℕ) (args : List CoreExpr) →
    view_expr (record { ty = type; place = place; form = form.Call callee args }) ≡ expr (view_type type) place (call callee (exprs_of (map view_expr args)))
call_view type place callee args = search (rules, expr_lemmas, fold_out-CoreExpr, fold_out-Form)

pub call_by_view : (type : Ty) (place : Place) (callee : CoreExpr) (args : List CoreExpr) →
    view_expr (record { ty = type; place = place; form = form.CallBy callee args })
    ≡ expr (view_type type) place (call_by (view_expr callee) (exprs_of (map view_expr args)))
call_by_view type place callee args = search (rules, expr_lemmas, fold_out-CoreExpr, fold_out-Form)

pub literal_view : (type : Ty) (place : Place) (number : ℕ) (puts : List Put) →
    view_expr (record { ty = type; place = place; form = form.Literal number puts }) ≡ expr (view_type type) place (literal number (puts_of (map view_put puts)))
literal_view type place number puts = search (rules, expr_lemmas, fold_out-CoreExpr, fold_out-Form)

pub null_view : (type : Ty) (place : Place) →
    view_expr (record { ty = type; place = place; form = form.Null }) ≡ expr (view_type type) place null
null_view type place = search (rules, expr_lemmas, fold_out-CoreExpr, fold_out-Form)

pub object_view : (type : Ty) (place : Place) (number : ℕ) →
    view_expr (record { ty = type; place = place; form = form.Object number }) ≡ expr (view_type type) place (object number)
object_view type place number = search (rules, expr_lemmas, fold_out-CoreExpr, fold_out-Form)

pub code_view : (type : Ty) (place : Place) (number : ℕ) →
    view_expr (record { ty = type; place = place; form = form.Code number }) ≡ expr (view_type type) place (code number)
code_view type place number = search (rules, expr_lemmas, fold_out-CoreExpr, fold_out-Form)

pub load_view : (type : Ty) (place : Place) (of : CoreExpr) →
    view_expr (record { ty = type; place = place; form = form.Load of }) ≡ expr (view_type type) place (load (view_expr of))
load_view type place of = search (rules, expr_lemmas, fold_out-CoreExpr, fold_out-Form)

pub deref_view : (type : Ty) (place : Place) (of : CoreExpr) →
    view_expr (record { ty = type; place = place; form = form.Deref of }) ≡ expr (view_type type) place (deref (view_expr of))
deref_view type place of = search (rules, expr_lemmas, fold_out-CoreExpr, fold_out-Form)

pub member_view : (type : Ty) (place : Place) (of : CoreExpr) (spot : Spot) →
    view_expr (record { ty = type; place = place; form = form.Member of spot }) ≡ expr (view_type type) place (member (view_expr of) spot)
member_view type place of spot = search (rules, expr_lemmas, fold_out-CoreExpr, fold_out-Form)

pub address_view : (type : Ty) (place : Place) (of : CoreExpr) →
    view_expr (record { ty = type; place = place; form = form.Address of }) ≡ expr (view_type type) place (address (view_expr of))
address_view type place of = search (rules, expr_lemmas, fold_out-CoreExpr, fold_out-Form)

pub convert_view : (type : Ty) (place : Place) (of : CoreExpr) →
    view_expr (record { ty = type; place = place; form = form.Convert of }) ≡ expr (view_type type) place (convert (view_expr of))
convert_view type place of = search (rules, expr_lemmas, fold_out-CoreExpr, fold_out-Form)

pub unary_view : (type : Ty) (place : Place) (op : Op1) (of : CoreExpr) →
    view_expr (record { ty = type; place = place; form = form.Unary op of }) ≡ expr (view_type type) place (unary op (view_expr of))
unary_view type place op of = search (rules, expr_lemmas, fold_out-CoreExpr, fold_out-Form)

pub binary_view : (type : Ty) (place : Place) (op : Op2) (left : CoreExpr) (right : CoreExpr) →
    view_expr (record { ty = type; place = place; form = form.Binary op left right }) ≡ expr (view_type type) place (binary op (view_expr left) (view_expr right))
binary_view type place op left right = search (rules, expr_lemmas, fold_out-CoreExpr, fold_out-Form)

pub and_view : (type : Ty) (place : Place) (left : CoreExpr) (right : CoreExpr) →
    view_expr (record { ty = type; place = place; form = form.And left right }) ≡ expr (view_type type) place (and (view_expr left) (view_expr right))
and_view type place left right = search (rules, expr_lemmas, fold_out-CoreExpr, fold_out-Form)

pub or_view : (type : Ty) (place : Place) (left : CoreExpr) (right : CoreExpr) →
    view_expr (record { ty = type; place = place; form = form.Or left right }) ≡ expr (view_type type) place (or (view_expr left) (view_expr right))
or_view type place left right = search (rules, expr_lemmas, fold_out-CoreExpr, fold_out-Form)

pub cond_view : (type : Ty) (place : Place) (test : CoreExpr) (first : CoreExpr) (second : CoreExpr) →
    view_expr (record { ty = type; place = place; form = form.Cond test first second }) ≡ expr (view_type type) place (cond (view_expr test) (view_expr first) (view_expr second))
cond_view type place test first second = search (rules, expr_lemmas, fold_out-CoreExpr, fold_out-Form)

pub assign_view : (type : Ty) (place : Place) (target : CoreExpr) (value : CoreExpr) →
    view_expr (record { ty = type; place = place; form = form.Assign target value }) ≡ expr (view_type type) place (assign (view_expr target) (view_expr value))
assign_view type place target value = search (rules, expr_lemmas, fold_out-CoreExpr, fold_out-Form)

pub assign_by_view : (type : Ty) (place : Place) (op : Op2) (computes : Ty) (target : CoreExpr) (value : CoreExpr) →
    view_expr (record { ty = type; place = place; form = form.AssignBy op computes target value }) ≡ expr (view_type type) place (assign_by op (view_type computes) (view_expr target) (view_expr value))
assign_by_view type place op computes target value = search (rules, expr_lemmas, fold_out-CoreExpr, fold_out-Form)

pub step_view : (type : Ty) (place : Place) (up : Bool) (post : Bool) (on : CoreExpr) →
    view_expr (record { ty = type; place = place; form = form.Step up post on }) ≡ expr (view_type type) place (step up post (view_expr on))
step_view type place up post on = search (rules, expr_lemmas, fold_out-CoreExpr, fold_out-Form)

pub comma_view : (type : Ty) (place : Place) (left : CoreExpr) (right : CoreExpr) →
    view_expr (record { ty = type; place = place; form = form.Comma left right }) ≡ expr (view_type type) place (comma (view_expr left) (view_expr right))
comma_view type place left right = search (rules, expr_lemmas, fold_out-CoreExpr, fold_out-Form)

pub label_view : (place : Place) (objects : List ℕ) (name : List ℕ) (inner : CoreStmt) →
    view_stmt (record { place = place; objects = objects; form = action.Label name inner }) ≡ stmt place objects (label name (view_stmt inner))
label_view place objects name inner = search (rules, stmt_lemmas, fold_out-CoreStmt, fold_out-StmtForm)

pub default_view : (place : Place) (objects : List ℕ) (inner : CoreStmt) →
    view_stmt (record { place = place; objects = objects; form = action.Default inner }) ≡ stmt place objects (default (view_stmt inner))
default_view place objects inner = search (rules, stmt_lemmas, fold_out-CoreStmt, fold_out-StmtForm)

pub expression_view : (place : Place) (objects : List ℕ) (value : Option CoreExpr) →
    view_stmt (record { place = place; objects = objects; form = action.Expr value }) ≡ stmt place objects (expression (option_map view_expr value))
expression_view place objects value = search (rules, stmt_lemmas, fold_out-CoreStmt, fold_out-StmtForm)

pub if_view : (place : Place) (objects : List ℕ) (test : CoreExpr) (first : CoreStmt) (second : Option CoreStmt) →
    view_stmt (record { place = place; objects = objects; form = action.If test first second }) ≡ stmt place objects (if_then (view_expr test) (view_stmt first) (otherwise_of (option_map view_stmt second)))
if_view place objects test first second = search (rules, stmt_lemmas, fold_out-CoreStmt, fold_out-StmtForm)

pub switch_view : (place : Place) (objects : List ℕ) (on : CoreExpr) (body : CoreStmt) →
    view_stmt (record { place = place; objects = objects; form = action.Switch on body }) ≡ stmt place objects (switch (view_expr on) (view_stmt body))
switch_view place objects on body = search (rules, stmt_lemmas, fold_out-CoreStmt, fold_out-StmtForm)

pub while_view : (place : Place) (objects : List ℕ) (test : CoreExpr) (body : CoreStmt) →
    view_stmt (record { place = place; objects = objects; form = action.While test body }) ≡ stmt place objects (while (view_expr test) (view_stmt body))
while_view place objects test body = search (rules, stmt_lemmas, fold_out-CoreStmt, fold_out-StmtForm)

pub do_view : (place : Place) (objects : List ℕ) (body : CoreStmt) (test : CoreExpr) →
    view_stmt (record { place = place; objects = objects; form = action.Do body test }) ≡ stmt place objects (do_while (view_stmt body) (view_expr test))
do_view place objects body test = search (rules, stmt_lemmas, fold_out-CoreStmt, fold_out-StmtForm)

pub goto_view : (place : Place) (objects : List ℕ) (name : List ℕ) →
    view_stmt (record { place = place; objects = objects; form = action.Goto name }) ≡ stmt place objects (goto name)
goto_view place objects name = search (rules, stmt_lemmas, fold_out-CoreStmt, fold_out-StmtForm)

pub continue_view : (place : Place) (objects : List ℕ) →
    view_stmt (record { place = place; objects = objects; form = action.Continue }) ≡ stmt place objects continue
continue_view place objects = search (rules, stmt_lemmas, fold_out-CoreStmt, fold_out-StmtForm)

pub break_view : (place : Place) (objects : List ℕ) →
    view_stmt (record { place = place; objects = objects; form = action.Break }) ≡ stmt place objects break
break_view place objects = search (rules, stmt_lemmas, fold_out-CoreStmt, fold_out-StmtForm)

pub return_view : (place : Place) (objects : List ℕ) (value : Option CoreExpr) →
    view_stmt (record { place = place; objects = objects; form = action.Return value }) ≡ stmt place objects (returns (option_map view_expr value))
return_view place objects value = search (rules, stmt_lemmas, fold_out-CoreStmt, fold_out-StmtForm)

pub begin_view : (place : Place) (objects : List ℕ) (number : ℕ) (puts : Option (List Put)) →
    view_stmt (record { place = place; objects = objects; form = action.Begin number puts }) ≡ stmt place objects (begin number (option_map view_puts puts))
begin_view place objects number puts = search (rules, stmt_lemmas, fold_out-CoreStmt, fold_out-StmtForm)
