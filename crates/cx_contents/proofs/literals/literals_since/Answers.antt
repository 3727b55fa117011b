use Rattle.std.proofs.Common.{◌≡◌, IfOk, subst, ap, sym, ◌∙◌, drop, map}
use Rattle.std.proofs.lemmas.List.{drop-map}
use Rattle.cx_contents.specs.Contents.{block_literals}
use Rattle.cx_scope.specs.Views.{view_made, view_scope}
use Rattle.cx_contents.proofs.literals.literals_since.Goals as goal

pub returns : goal.returns
unfolding view_scope
returns c =
    subst (λ made. IfOk c.block_literals.result (λ objects. objects ≡ block_literals made))
    (ap (map view_made) (c.literals_behind.ensures ∙ ap (drop c.args.count) c.as_slice.ensures) ∙ sym (drop-map view_made c.args.count c.args.scope.now.literals))
    c.block_literals.ensures
