use Rattle.std.proofs.Common.{◌≡◌, OnOk, subst, ap, ◌∙◌}
use Rattle.cx_contents.proofs.Orders.{completed_is}
use Rattle.cx_contents.specs.Contents as contents
use Rattle.cx_contents.specs.Views.{view_content}
use Rattle.cx_core.specs.Views.{view_puts, view_type}
use Rattle.cx_scope.specs.Views.{view_scope}
use Rattle.cx_contents.proofs.content.complete.Goals as goal

pub returns-clause-completed : goal.returns-clause-completed
returns-clause-completed c =
    let one = view_content c.args.one in
    let type = view_type c.args.ty.now in
    let old = view_scope c.args.scope.now in
    subst (λ scope. OnOk c.retell.result (view_scope c.retell.new.scope ≡ scope))
    (completed_is one type (view_type c.get-whole.result.now) (view_puts c.args.puts) old
    (view_scope c.redeclare.new.scope) (view_scope c.store.new.scope) (view_scope c.complete_linked.new.scope)
    c.in_ok-redeclare.ensures.named c.in_ok-store.ensures.stored c.in_ok-complete_linked.ensures.completed
    ∙ ap (λ whole. contents.with_content_as one type whole (view_puts c.args.puts) old) (ap view_type c.get-whole.ensures ∙ c.in_ok-made.ensures))
    c.retell.ensures.told
