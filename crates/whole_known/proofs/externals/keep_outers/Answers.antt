use Rattle.std.proofs.Common.{◌<◌, List, arith, drop, map, subst, sym, ◌∙◌}
use Rattle.std.proofs.lemmas.Bool.Decides.{nat_tests}
use Rattle.cx_core.specs.Views.{view_outer}
use Rattle.cx_core.specs.declared.program.Outer.{Outer}
use Rattle.rs_items.specs.Known.{view_names}
use Rattle.rs_items.specs.declared.known.Named.TheVariants.{Function, Enum, Record}
use Rattle.whole_given.specs.Whole.{named}
use Rattle.whole_known.proofs.Kept.{more_put, step_back, types_stay}
use Rattle.whole_known.specs.Stages.{KnowsMore, outer_where, outers_put}
use Rattle.whole_known.proofs.externals.keep_outers.Goals as goal

pub loop-left-preserved : goal.loop-left-preserved
loop-left-preserved c =
    let whole = named c.args.whole.now in
    let before = view_names c.args.names.now in
    let old = view_names c.loop-left.names in
    let new = view_names c.keep_outer.new.names in
    let left = c.loop-left.left in
    let list = c.args.externals.now in
    let one = c.index-externals-left.result in
    let test = c.loop-left-test.true in
    let some : 0 < left = grind (arith, nat_tests, test) in
    let within = c.loop-left.invariant.within in
    let step = c.in_ok-keep_outer.ensures in
    let split = step_back list left one some within c.index-externals-left.is in
    record {
      within = omega (arith, within);
      types = types_stay whole old.known new.known (λ n. step.known_is (Record n)) (λ n. step.known_is (Enum n)) c.loop-left.invariant.types;
      bits = step.rest.same_bits ∙ c.loop-left.invariant.bits;
      known = subst (λ (those : List Outer). KnowsMore before new (outers_put whole c.args.unit (map view_outer those) before.known)) (sym split)
          (more_put before old new (outers_put whole c.args.unit (map view_outer (drop left list)) before.known) (Function one.function) (outer_where whole c.args.unit (view_outer one))
          c.loop-left.invariant.known step);
    }
