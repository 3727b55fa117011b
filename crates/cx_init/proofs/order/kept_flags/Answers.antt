use Rattle.std.proofs.Common.{arith, ◌+◌, ◌∙◌, ap, drop, length, map, take}
use Rattle.std.proofs.lemmas.List.{length-drop, take_rest}
use Rattle.cx_core.specs.Views.{view_type}
use Rattle.cx_init.proofs.Fronts.{front_more}
use Rattle.cx_init.specs.Orders.{rising_front}
use Rattle.cx_init.specs.Views.{view_stored}
use Rattle.cx_kinds.specs.Known.{types_in}
use Rattle.cx_init.proofs.order.kept_flags.Goals as goal

pub loop-start-preserved : goal.loop-start-preserved
loop-start-preserved c =
    let all = c.args.stored.now in
    let start = c.loop-start.start in
    let count = c.rising_front.result in
    let rest = take_rest all start in
    record {
      flagged = front_more (types_in c.args.known) (view_type c.args.t.now) view_stored all _ _ start count c.loop-start.flags c.flag_front.new.flags _
          (c.rising_front.ensures.count ∙ ap (λ held. rising_front (types_in c.args.known) (view_type c.args.t.now) (map view_stored held)) rest)
          (ap (λ n. take n (drop start all)) (omega arith)) (take_rest all (start + count)) c.in_ok-flag_front.ensures c.loop-start.invariant.flagged;
      within = omega (arith, c.rising_front.ensures.within, ap length rest, length-drop start all, c.loop-start.invariant.within);
    }
