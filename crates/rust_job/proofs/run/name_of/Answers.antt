use Rattle.std.proofs.Common.{ℕ, List, IfOk, subst, ◌≡◌}
use Rattle.rust_job.proofs.Names.{named}
use Rattle.rust_job.proofs.run.name_of.Goals as goal

pub returns : goal.returns
returns c =
    subst (λ (n : List ℕ). IfOk c.copy.result (λ name. name ≡ n))
    (named c.args.modules.now c.args.number c.index-modules-number.result c.requires) c.copy.ensures
