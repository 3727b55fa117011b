use Rattle.std.proofs.Common.{◌≡◌, true, rules, to_z, of_z}
use Rattle.std.specs.Int.{w128}
use Rattle.cr_base.specs.Scalar.{wrapped}
use Rattle.cr_base.specs.declared.scalar.Scalar.TheVariants.{Whole}
use Rattle.cr_base.proofs.Residues.{residue_wrapped}
use Rattle.cr_base.proofs.scalar.wrap_whole.Goals as goal

pub returns-then-signed-clause-congruent : goal.returns-then-signed-clause-congruent
returns-then-signed-clause-congruent c =
    let same : to_z w128 (of_z w128 c.wrap_signed_whole.result) ≡ wrapped (Whole c.args.width true) c.args.value = search rules in
    rw same (residue_wrapped c.args.width c.args.value c.requires)
