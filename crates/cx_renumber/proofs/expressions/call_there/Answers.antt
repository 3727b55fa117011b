use Rattle.std.proofs.Common.{rules, ◌≡◌, sym, ap, subst, ◌∙◌, map, IfOk}
use Rattle.cx_core.specs.Trees.{expr, call}
use Rattle.cx_core.specs.Views.{exprs_of, view_expr, view_type}
use Rattle.cx_renumber.specs.Numbers.{expr_there, exprs_there, type_there}
use Rattle.cx_renumber.specs.Views.{retyped, view_numbers}
use Rattle.cx_renumber.proofs.Lists.{exprs_are}
use Rattle.cx_renumber.proofs.Opened.{call_view}
use Rattle.cx_renumber.proofs.expressions.call_there.Goals as goal

pub returns : goal.returns
returns c =
    let same_args : map view_expr c.in_ok-args.args ≡ map (expr_there (view_numbers c.args.numbers.now)) (map view_expr c.args._args.now) = search rules in
    let callee_is : c.in_ok-callee.callee ≡ (view_numbers c.args.numbers.now).function_for c.args.callee = search rules in
    let args_is : exprs_of (map view_expr c.in_ok-args.args) ≡ exprs_there (view_numbers c.args.numbers.now) (exprs_of (map view_expr c.args._args.now)) = ap exprs_of same_args ∙ sym (exprs_are (view_numbers c.args.numbers.now) (map view_expr c.args._args.now)) in
    subst (λ part. IfOk c.made.result (λ made. view_expr made ≡ expr (type_there (view_numbers c.args.numbers.now).before (view_type c.args.one.now.ty)) c.args.one.now.place (call ((view_numbers c.args.numbers.now).function_for c.args.callee) (part)))) args_is
    (subst (λ part. IfOk c.made.result (λ made. view_expr made ≡ expr (type_there (view_numbers c.args.numbers.now).before (view_type c.args.one.now.ty)) c.args.one.now.place (call (part) (exprs_of (map view_expr c.in_ok-args.args))))) callee_is
    (subst (λ tree. IfOk c.made.result (λ made. view_expr made ≡ retyped (type_there (view_numbers c.args.numbers.now).before (view_type c.args.one.now.ty)) tree)) (call_view c.args.one.now.ty c.args.one.now.place c.in_ok-callee.callee c.in_ok-args.args) c.made.ensures))
