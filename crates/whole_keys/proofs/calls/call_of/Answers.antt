use Rattle.std.proofs.Common.{Bool, ap, ◌∙◌}
use Rattle.whole_keys.proofs.Bare.{no_args}
use Rattle.whole_keys.proofs.calls.call_of.Goals as goal

pub returns : goal.returns
returns c =
    ap (λ (bare : Bool). record { callee = c.args.callee; is_bare = bare }) (c.is_empty.ensures ∙ no_args c.args.args.now)
