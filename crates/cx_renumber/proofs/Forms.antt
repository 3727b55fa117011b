-- What stands for a node is told by what stands for its parts, form by form.
use Rattle.std.proofs.Common.{◌≡◌, sym, ap, ◌∙◌, ℕ, Bool, List, map}
use Rattle.cr_base.specs.declared.layout.Spot.{Spot}
use Rattle.cx_core.specs.declared.expr.CoreExpr.{CoreExpr}
use Rattle.cx_core.specs.declared.expr.Form as form
use Rattle.cx_core.specs.declared.expr.Op1.{Op1}
use Rattle.cx_core.specs.declared.expr.Op2.{Op2}
use Rattle.cx_core.specs.declared.expr.Put.{Put}
use Rattle.cx_core.specs.declared.ty.Ty.{Ty}
use Rattle.cx_core.specs.Trees.{expr, null, object, code, load, deref, member, address, convert, unary, binary, and, or, cond, assign, assign_by, step, call, call_by, comma, literal}
use Rattle.cx_core.specs.Views.{exprs_of, puts_of, view_expr, view_put, view_type}
use Rattle.cx_renumber.specs.Numbers.{CNumbers, type_there, expr_there, exprs_there, puts_there}
use Rattle.cx_renumber.proofs.Opened.{null_view, object_view, code_view, load_view, deref_view, member_view, address_view, convert_view, unary_view, binary_view, and_view, or_view, cond_view, assign_view, assign_by_view, step_view, call_view, call_by_view, comma_view, literal_view}

pub null_is : (numbers : CNumbers) (one : CoreExpr) → one.form ≡ form.Null →
    expr (type_there numbers.before (view_type one.ty)) one.place null ≡ expr_there numbers (view_expr one)
null_is numbers one e = sym (ap (λ form. expr_there numbers (view_expr (record { ty = one.ty; place = one.place; form = form }))) e ∙ ap (expr_there numbers) (null_view one.ty one.place))

pub object_is : (numbers : CNumbers) (one : CoreExpr) (number : ℕ) → one.form ≡ form.Object number →
    expr (type_there numbers.before (view_type one.ty)) one.place (object (numbers.object_for number)) ≡ expr_there numbers (view_expr one)
object_is numbers one number e = sym (ap (λ form. expr_there numbers (view_expr (record { ty = one.ty; place = one.place; form = form }))) e ∙ ap (expr_there numbers) (object_view one.ty one.place number))

pub code_is : (numbers : CNumbers) (one : CoreExpr) (number : ℕ) → one.form ≡ form.Code number →
    expr (type_there numbers.before (view_type one.ty)) one.place (code (numbers.function_for number)) ≡ expr_there numbers (view_expr one)
code_is numbers one number e = sym (ap (λ form. expr_there numbers (view_expr (record { ty = one.ty; place = one.place; form = form }))) e ∙ ap (expr_there numbers) (code_view one.ty one.place number))

pub load_is : (numbers : CNumbers) (one : CoreExpr) (of : CoreExpr) → one.form ≡ form.Load of →
    expr (type_there numbers.before (view_type one.ty)) one.place (load (expr_there numbers (view_expr of))) ≡ expr_there numbers (view_expr one)
load_is numbers one of e = sym (ap (λ form. expr_there numbers (view_expr (record { ty = one.ty; place = one.place; form = form }))) e ∙ ap (expr_there numbers) (load_view one.ty one.place of))

pub deref_is : (numbers : CNumbers) (one : CoreExpr) (of : CoreExpr) → one.form ≡ form.Deref of →
    expr (type_there numbers.before (view_type one.ty)) one.place (deref (expr_there numbers (view_expr of))) ≡ expr_there numbers (view_expr one)
deref_is numbers one of e = sym (ap (λ form. expr_there numbers (view_expr (record { ty = one.ty; place = one.place; form = form }))) e ∙ ap (expr_there numbers) (deref_view one.ty one.place of))

pub member_is : (numbers : CNumbers) (one : CoreExpr) (of : CoreExpr) (spot : Spot) → one.form ≡ form.Member of spot →
    expr (type_there numbers.before (view_type one.ty)) one.place (member (expr_there numbers (view_expr of)) spot) ≡ expr_there numbers (view_expr one)
member_is numbers one of spot e = sym (ap (λ form. expr_there numbers (view_expr (record { ty = one.ty; place = one.place; form = form }))) e ∙ ap (expr_there numbers) (member_view one.ty one.place of spot))

pub address_is : (numbers : CNumbers) (one : CoreExpr) (of : CoreExpr) → one.form ≡ form.Address of →
    expr (type_there numbers.before (view_type one.ty)) one.place (address (expr_there numbers (view_expr of))) ≡ expr_there numbers (view_expr one)
address_is numbers one of e = sym (ap (λ form. expr_there numbers (view_expr (record { ty = one.ty; place = one.place; form = form }))) e ∙ ap (expr_there numbers) (address_view one.ty one.place of))

pub convert_is : (numbers : CNumbers) (one : CoreExpr) (of : CoreExpr) → one.form ≡ form.Convert of →
    expr (type_there numbers.before (view_type one.ty)) one.place (convert (expr_there numbers (view_expr of))) ≡ expr_there numbers (view_expr one)
convert_is numbers one of e = sym (ap (λ form. expr_there numbers (view_expr (record { ty = one.ty; place = one.place; form = form }))) e ∙ ap (expr_there numbers) (convert_view one.ty one.place of))

pub unary_is : (numbers : CNumbers) (one : CoreExpr) (op : Op1) (of : CoreExpr) → one.form ≡ form.Unary op of →
    expr (type_there numbers.before (view_type one.ty)) one.place (unary op (expr_there numbers (view_expr of))) ≡ expr_there numbers (view_expr one)
unary_is numbers one op of e = sym (ap (λ form. expr_there numbers (view_expr (record { ty = one.ty; place = one.place; form = form }))) e ∙ ap (expr_there numbers) (unary_view one.ty one.place op of))

pub binary_is : (numbers : CNumbers) (one : CoreExpr) (op : Op2) (left : CoreExpr) (right : CoreExpr) → one.form ≡ form.Binary op left right →
    expr (type_there numbers.before (view_type one.ty)) one.place (binary op (expr_there numbers (view_expr left)) (expr_there numbers (view_expr right))) ≡ expr_there numbers (view_expr one)
binary_is numbers one op left right e = sym (ap (λ form. expr_there numbers (view_expr (record { ty = one.ty; place = one.place; form = form }))) e ∙ ap (expr_there numbers) (binary_view one.ty one.place op left right))

pub and_is : (numbers : CNumbers) (one : CoreExpr) (left : CoreExpr) (right : CoreExpr) → one.form ≡ form.And left right →
    expr (type_there numbers.before (view_type one.ty)) one.place (and (expr_there numbers (view_expr left)) (expr_there numbers (view_expr right))) ≡ expr_there numbers (view_expr one)
and_is numbers one left right e = sym (ap (λ form. expr_there numbers (view_expr (record { ty = one.ty; place = one.place; form = form }))) e ∙ ap (expr_there numbers) (and_view one.ty one.place left right))

pub or_is : (numbers : CNumbers) (one : CoreExpr) (left : CoreExpr) (right : CoreExpr) → one.form ≡ form.Or left right →
    expr (type_there numbers.before (view_type one.ty)) one.place (or (expr_there numbers (view_expr left)) (expr_there numbers (view_expr right))) ≡ expr_there numbers (view_expr one)
or_is numbers one left right e = sym (ap (λ form. expr_there numbers (view_expr (record { ty = one.ty; place = one.place; form = form }))) e ∙ ap (expr_there numbers) (or_view one.ty one.place left right))

pub cond_is : (numbers : CNumbers) (one : CoreExpr) (test : CoreExpr) (first : CoreExpr) (second : CoreExpr) → one.form ≡ form.Cond test first second →
    expr (type_there numbers.before (view_type one.ty)) one.place (cond (expr_there numbers (view_expr test)) (expr_there numbers (view_expr first)) (expr_there numbers (view_expr second))) ≡ expr_there numbers (view_expr one)
cond_is numbers one test first second e = sym (ap (λ form. expr_there numbers (view_expr (record { ty = one.ty; place = one.place; form = form }))) e ∙ ap (expr_there numbers) (cond_view one.ty one.place test first second))

pub assign_is : (numbers : CNumbers) (one : CoreExpr) (target : CoreExpr) (value : CoreExpr) → one.form ≡ form.Assign target value →
    expr (type_there numbers.before (view_type one.ty)) one.place (assign (expr_there numbers (view_expr target)) (expr_there numbers (view_expr value))) ≡ expr_there numbers (view_expr one)
assign_is numbers one target value e = sym (ap (λ form. expr_there numbers (view_expr (record { ty = one.ty; place = one.place; form = form }))) e ∙ ap (expr_there numbers) (assign_view one.ty one.place target value))

pub assign_by_is : (numbers : CNumbers) (one : CoreExpr) (op : Op2) (computes : Ty) (target : CoreExpr) (value : CoreExpr) → one.form ≡ form.AssignBy op computes target value →
    expr (type_there numbers.before (view_type one.ty)) one.place (assign_by op (type_there numbers.before (view_type computes)) (expr_there numbers (view_expr target)) (expr_there numbers (view_expr value))) ≡ expr_there numbers (view_expr one)
assign_by_is numbers one op computes target value e = sym (ap (λ form. expr_there numbers (view_expr (record { ty = one.ty; place = one.place; form = form }))) e ∙ ap (expr_there numbers) (assign_by_view one.ty one.place op computes target value))

pub step_is : (numbers : CNumbers) (one : CoreExpr) (up : Bool) (post : Bool) (on : CoreExpr) → one.form ≡ form.Step up post on →
    expr (type_there numbers.before (view_type one.ty)) one.place (step up post (expr_there numbers (view_expr on))) ≡ expr_there numbers (view_expr one)
step_is numbers one up post on e = sym (ap (λ form. expr_there numbers (view_expr (record { ty = one.ty; place = one.place; form = form }))) e ∙ ap (expr_there numbers) (step_view one.ty one.place up post on))

pub call_is : (numbers : CNumbers) (one : CoreExpr) (callee : ℕ) (args : List CoreExpr) → one.form ≡ form.Call callee args →
    expr (type_there numbers.before (view_type one.ty)) one.place (call (numbers.function_for callee) (exprs_there numbers (exprs_of (map view_expr args)))) ≡ expr_there numbers (view_expr one)
call_is numbers one callee args e = sym (ap (λ form. expr_there numbers (view_expr (record { ty = one.ty; place = one.place; form = form }))) e ∙ ap (expr_there numbers) (call_view one.ty one.place callee args))

pub call_by_is : (numbers : CNumbers) (one : CoreExpr) (callee : CoreExpr) (args : List CoreExpr) → one.form ≡ form.CallBy callee args →
    expr (type_there numbers.before (view_type one.ty)) one.place (call_by (expr_there numbers (view_expr callee)) (exprs_there numbers (exprs_of (map view_expr args)))) ≡ expr_there numbers (view_expr one)
call_by_is numbers one callee args e = sym (ap (λ form. expr_there numbers (view_expr (record { ty = one.ty; place = one.place; form = form }))) e ∙ ap (expr_there numbers) (call_by_view one.ty one.place callee args))

pub comma_is : (numbers : CNumbers) (one : CoreExpr) (left : CoreExpr) (right : CoreExpr) → one.form ≡ form.Comma left right →
    expr (type_there numbers.before (view_type one.ty)) one.place (comma (expr_there numbers (view_expr left)) (expr_there numbers (view_expr right))) ≡ expr_there numbers (view_expr one)
comma_is numbers one left right e = sym (ap (λ form. expr_there numbers (view_expr (record { ty = one.ty; place = one.place; form = form }))) e ∙ ap (expr_there numbers) (comma_view one.ty one.place left right))

pub literal_is : (numbers : CNumbers) (one : CoreExpr) (number : ℕ) (puts : List Put) → one.form ≡ form.Literal number puts →
    expr (type_there numbers.before (view_type one.ty)) one.place (literal (numbers.object_for number) (puts_there numbers (puts_of (map view_put puts)))) ≡ expr_there numbers (view_expr one)
literal_is numbers one number puts e = sym (ap (λ form. expr_there numbers (view_expr (record { ty = one.ty; place = one.place; form = form }))) e ∙ ap (expr_there numbers) (literal_view one.ty one.place number puts))
