use Rattle.std.proofs.lemmas.List.{drop_more}
use Rattle.rs_exec.proofs.Started.{literal_stops, literal_goes, literals_end}
use Rattle.rs_exec.proofs.begins.store_literals.Goals as goal

pub returns-in-Err : goal.returns-in-Err
returns-in-Err g c = λ kept host.
    literal_stops c.args.block c.args.literals.now c.loop-literal.offset c.loop-literal.literal-index _ (drop_more c.args.literals.now c.loop-literal.literal-index _ c.loop-literal-test.true)
    (c.loop-literal.invariant.follows kept host) (c.in-Err.ensures kept host)

pub loop-literal-preserved : goal.loop-literal-preserved
loop-literal-preserved g c = record {
  follows = λ kept host.
      literal_goes c.args.block c.args.literals.now c.loop-literal.offset c.loop-literal.literal-index _ (drop_more c.args.literals.now c.loop-literal.literal-index _ c.loop-literal-test.true)
      (c.loop-literal.invariant.follows kept host) c.in-Some.next c.in-Some.ensures.1 (c.in_default.ensures kept host);
}

pub returns : goal.returns
returns g c = λ kept host. literals_end c.args.block c.args.literals.now c.loop-literal.offset c.loop-literal.literal-index c.loop-literal-test.false (c.loop-literal.invariant.follows kept host)
