use Rattle.std.proofs.Common.{◌≤◌, length, arith}
use Rattle.std.proofs.lemmas.Bool.Decides.{nat_tests}
use Rattle.rs_items.proofs.Aligns.{greatest}
use Rattle.rs_items.proofs.sizes.fields_align.Goals as goal

pub returns : goal.returns
returns c =
    let test = c.loop-one-test.false in
    let end : length c.args.members.now ≤ c.loop-one.one-index = grind (arith, nat_tests, test) in
    greatest c.args.members.now c.loop-one.found c.loop-one.one-index end c.loop-one.invariant.0 c.loop-one.invariant.1
