use Rattle.std.proofs.Common.{rules, ◌≡◌, sym, ap, subst, ◌∙◌, map, IfOk}
use Rattle.cx_core.specs.Trees.{expr, literal}
use Rattle.cx_core.specs.Views.{puts_of, view_expr, view_put, view_type}
use Rattle.cx_renumber.specs.Numbers.{put_there, puts_there, type_there}
use Rattle.cx_renumber.specs.Views.{retyped, view_numbers}
use Rattle.cx_renumber.proofs.Lists.{puts_are}
use Rattle.cx_renumber.proofs.Opened.{literal_view}
use Rattle.cx_renumber.proofs.expressions.literal_there.Goals as goal

pub returns : goal.returns
returns c =
    let same_puts : map view_put c.in_ok-puts.puts ≡ map (put_there (view_numbers c.args.numbers.now)) (map view_put c.args._puts.now) = search rules in
    let number_is : c.in_ok-number.number ≡ (view_numbers c.args.numbers.now).object_for c.args.number = search rules in
    let puts_is : puts_of (map view_put c.in_ok-puts.puts) ≡ puts_there (view_numbers c.args.numbers.now) (puts_of (map view_put c.args._puts.now)) = ap puts_of same_puts ∙ sym (puts_are (view_numbers c.args.numbers.now) (map view_put c.args._puts.now)) in
    subst (λ part. IfOk c.made.result (λ made. view_expr made ≡ expr (type_there (view_numbers c.args.numbers.now).before (view_type c.args.one.now.ty)) c.args.one.now.place (literal ((view_numbers c.args.numbers.now).object_for c.args.number) (part)))) puts_is
    (subst (λ part. IfOk c.made.result (λ made. view_expr made ≡ expr (type_there (view_numbers c.args.numbers.now).before (view_type c.args.one.now.ty)) c.args.one.now.place (literal (part) (puts_of (map view_put c.in_ok-puts.puts))))) number_is
    (subst (λ tree. IfOk c.made.result (λ made. view_expr made ≡ retyped (type_there (view_numbers c.args.numbers.now).before (view_type c.args.one.now.ty)) tree)) (literal_view c.args.one.now.ty c.args.one.now.place c.in_ok-number.number c.in_ok-puts.puts) c.made.ensures))
