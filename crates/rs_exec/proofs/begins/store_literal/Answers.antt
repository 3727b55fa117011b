use Rattle.std.proofs.Common.{rules, ◌≡◌, ◌∙◌, to_z, of_z}
use Rattle.std.specs.Int.{w128}
use Rattle.rs_exec.proofs.Started.{byte_stored}
use Rattle.rs_exec.proofs.begins.store_literal.Goals as goal

pub returns : goal.returns
returns g c = λ kept host.
    let same : to_z w128 (of_z w128 c.args.literal.now) ≡ c.args.literal.now = search rules in
    let also : to_z w128 (of_z w128 c.converted_to.result) ≡ c.converted_to.result = search rules in
    byte_stored c.args.block c.args.offset (to_z w128 (of_z w128 c.converted_to.result)) c.args.literal.now (also ∙ (rw same at c.converted_to.ensures)) (c.store_at.ensures kept host)
