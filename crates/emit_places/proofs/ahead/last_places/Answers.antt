use Rattle.std.proofs.Common.{◌∙◌, ◌+◌, refl, ap, arith, if◌then◌else◌}
use Rattle.emit_places.proofs.Later.{more_last, all_last}
use Rattle.emit_places.specs.Ahead.{place_in}
use Rattle.reloop.specs.Graphs.{is_in}
use Rattle.emit_places.proofs.ahead.last_places.Goals as goal

pub loop-nest-preserved : goal.loop-nest-preserved
loop-nest-preserved c = record {
  counted = let e = c.loop-nest.invariant.counted in omega (arith, e);
  last = more_last c.args.nests.now c.args.nests.now c.loop-nest.nest-index c.nest-item.result c.as_slice.result.now (place_in c.loop-nest.places) (place_in c.note_all.new.places) refl c.nest-item.is c.loop-nest-test.true
      (c.as_slice.ensures ∙ c.in_ok-entries.ensures)
      (λ node. c.in_ok-note_all.ensures node ∙ ap (λ number. if is_in node c.as_slice.result.now then number + 1 else place_in c.loop-nest.places node) c.loop-nest.invariant.counted) c.loop-nest.invariant.last;
}

pub returns : goal.returns
returns c = all_last c.args.nests.now c.args.after.now (place_in c.loop-nest.places) (place_in c.note_all-2.new.places) c.loop-nest.nest-index (let past = c.loop-nest-test.false in let within = c.loop-nest.auto.nest-index-end in omega (arith, past, within))
    (λ node. c.in_ok-note_all-2.ensures node ∙ ap (λ number. if is_in node c.args.after.now then number else place_in c.loop-nest.places node) (c.in-Some.ensures.1 ∙ ap (λ number. number + 1) c.loop-nest.invariant.counted)) c.loop-nest.invariant.last
