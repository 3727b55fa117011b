use Rattle.std.proofs.Common.{◌++◌, [], ◌∷◌, sym, ap, ◌∙◌}
use Rattle.cx_init.proofs.Ascents.{with_last}
use Rattle.cx_init.specs.Ascending.{ascend, paths_of, stand_before}
use Rattle.cx_init.proofs.values.StoredValues.push.Goals as goal

pub invariant_of-self-2 : goal.invariant_of-self-2
invariant_of-self-2 c = c.stand_before-ascends.ensures
    ∙ ap (stand_before (paths_of c.args.self.now)) c.as_slice.ensures
    ∙ with_last c.args.self.now c.args.one
    ∙ ap (λ held. ascend (paths_of (held ++ c.args.one ∷ []))) (sym c.self.view_is)
    ∙ ap (λ held. ascend (paths_of held)) (sym c.in_ok-push.ensures.ok)
