use Rattle.std.proofs.Common.{◌∙◌, rules, arith}
use Rattle.shelf.specs.Sink.{SinkState}
use Rattle.shelf.proofs.SinkLemmas.{Appended-more}
use Rattle.shelf.proofs.sink.write_all.Goals as goal

pub loop-done-preserved : goal.loop-done-preserved
loop-done-preserved g c =
    let before : SinkState = g.S.Sink.state c.args.sink.now in
    let between : SinkState = g.S.Sink.state c.loop-done.sink in
    let now : SinkState = g.S.Sink.state c.write.new.self in
    record {
      within = search rules;
      taken = Appended-more c.args.piece.now c.loop-done.done c.in_ok-done.field-0 before.written between.written now.written c.loop-done.invariant.taken c.in_ok-done.ensures.taken;
      later = omega (arith, c.loop-done.invariant.later, c.in_ok-done.ensures.later);
      still = c.in_ok-done.ensures.still ∙ c.loop-done.invariant.still;
    }

pub returns-clause-still : goal.returns-clause-still
returns-clause-still g c = c.loop-done.invariant.still
