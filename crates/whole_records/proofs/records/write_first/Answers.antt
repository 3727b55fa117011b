use Rattle.std.proofs.Common.{◌≡◌, ◌≤◌, ◌+◌, ℕ, suc, arith, subst}
use Rattle.std.proofs.lemmas.Bool.Decides.{nat_tests}
use Rattle.rs_items.specs.Known.{view_names}
use Rattle.whole_given.specs.Whole.{named}
use Rattle.whole_records.proofs.Kept.{types_keep, writes_more}
use Rattle.whole_records.specs.Fields.{WritesAll}
use Rattle.whole_records.proofs.records.write_first.Goals as goal

pub loop-number-preserved : goal.loop-number-preserved
loop-number-preserved c =
    let whole = named c.args.whole.now in
    let old = view_names c.loop-number.names in
    let new = view_names c.write.new.names in
    let step = c.in_ok-write.ensures.rest in
    let next : suc c.loop-number.number ≡ c.loop-number.number + 1 = omega arith in
    record {
      types = types_keep whole old new step.rest c.loop-number.invariant.types;
      all = subst (λ (count : ℕ). WritesAll whole count (view_names c.args.names.now) new) next
          (writes_more whole c.loop-number.number (view_names c.args.names.now) old new c.loop-number.invariant.all step);
    }

pub returns : goal.returns
returns c =
    let test = c.loop-number-test.false in
    let end = c.loop-number.auto.number-end in
    let past : c.args.count ≤ c.loop-number.number = grind (arith, nat_tests, test) in
    let same : c.loop-number.number ≡ c.args.count = omega (arith, past, end) in
    subst (λ (count : ℕ). WritesAll (named c.args.whole.now) count (view_names c.args.names.now) (view_names c.loop-number.names)) same c.loop-number.invariant.all
