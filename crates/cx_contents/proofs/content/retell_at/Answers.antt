use Rattle.std.proofs.Common.{refl, ap, ◌∙◌}
use Rattle.std.proofs.lemmas.Option.{slice_get_read}
use Rattle.cx_contents.proofs.Kept.{retold}
use Rattle.cx_core.specs.Views.{view_mention, view_type}
use Rattle.cx_scope.specs.Views.{view_scope}
use Rattle.cx_contents.proofs.content.retell_at.Goals as goal

pub returns-in-Some-clause-told : goal.returns-in-Some-clause-told
unfolding view_scope
returns-in-Some-clause-told c =
    retold (view_scope c.args.scope.now) c.args.scope.now.mentions.items c.args.index (view_type c.args.ty.now) c.in-Some.one.now c.set_ty.new.one refl
    (slice_get_read _ _ _ _ refl c.in-Some.ensures.item.3.0 c.in-Some.ensures.item.1)
    (ap view_mention c.set_ty.ensures ∙ ap (λ type. record (view_mention c.in-Some.one.now) { type = type }) c.in_ok-made.ensures)
