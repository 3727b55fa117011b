use Rattle.std.proofs.Common.{◌<◌, Some, List, arith, drop, map, refl, subst, sym}
use Rattle.std.proofs.lemmas.Bool.Decides.{nat_tests}
use Rattle.cx_core.specs.Views.{view_object}
use Rattle.cx_core.specs.declared.program.CoreObject.{CoreObject}
use Rattle.rs_items.specs.Known.{view_names}
use Rattle.rs_items.specs.declared.known.Named.TheVariants.{Object, Enum, Record}
use Rattle.whole_given.specs.Whole.{named}
use Rattle.whole_known.proofs.Kept.{more_put, step_back, types_stay}
use Rattle.whole_known.specs.Stages.{KnowsMore, objects_put}
use Rattle.whole_names.specs.Kept.{object_item}
use Rattle.whole_known.proofs.program.keep_objects.Goals as goal

pub loop-left-preserved : goal.loop-left-preserved
loop-left-preserved c =
    let whole = named c.args.whole.now in
    let before = view_names c.args.names.now in
    let old = view_names c.loop-left.names in
    let new = view_names c.keep_object.new.names in
    let left = c.loop-left.left in
    let list = c.args.objects.now in
    let one = c.index-objects-left.result in
    let test = c.loop-left-test.true in
    let some : 0 < left = grind (arith, nat_tests, test) in
    let within = c.loop-left.invariant.within in
    let step = c.in_ok-keep_object.ensures in
    let split = step_back list left one some within c.index-objects-left.is in
    record {
      within = omega (arith, within);
      types = types_stay whole old.known new.known (λ n. step.known_is (Record n)) (λ n. step.known_is (Enum n)) c.loop-left.invariant.types;
      known = subst (λ (those : List CoreObject). KnowsMore before new (objects_put whole (map view_object those) before.known)) (sym split)
          (more_put before old new (objects_put whole (map view_object (drop left list)) before.known) (Object one.object) (Some (object_item whole (view_object one))) c.loop-left.invariant.known step);
    }
