use Rattle.std.proofs.Common.{◌++◌, sym, ap, ◌∙◌}
use Rattle.cx_init.proofs.Ascents.{joined_is}
use Rattle.cx_init.specs.Ascending.{ascend, paths_of}
use Rattle.cx_init.proofs.values.StoredValues.append.Goals as goal

pub invariant_of-self-2 : goal.invariant_of-self-2
invariant_of-self-2 c = c.ascend_joined-ascends.ensures
    ∙ joined_is c.args.self.now c.args.more
    ∙ ap (λ held. ascend (paths_of (held ++ c.args.more))) (sym c.self.view_is)
    ∙ ap (λ more. ascend (paths_of (c.self.inside.list ++ more))) (sym c.into_items.ensures)
    ∙ ap (λ held. ascend (paths_of held)) (sym c.in_ok-append.ensures.ok)
