use Rattle.std.proofs.Common.{◌<◌, List, arith, drop, map, subst, sym}
use Rattle.std.proofs.lemmas.Bool.Decides.{nat_tests}
use Rattle.rs_items.specs.Known.{view_names}
use Rattle.rs_items.specs.declared.known.Named.TheVariants.{Enum, Record}
use Rattle.rs_tree.specs.Views.{ty_view}
use Rattle.whole_given.specs.Whole.{named}
use Rattle.whole_known.proofs.Kept.{step_back, types_stay}
use Rattle.whole_known.specs.Stages.{KnowsMore}
use Rattle.whole_locals.proofs.Known.{local_types, more_local}
use Rattle.whole_locals.specs.Functions.{local_put, locals_put}
use Rattle.whole_locals.specs.Names.{view_local}
use Rattle.whole_locals.specs.declared.names.LocalName.{LocalName}
use Rattle.whole_locals.proofs.kept.keep_all.Goals as goal

pub loop-left-preserved : goal.loop-left-preserved
loop-left-preserved c =
    let whole = named c.args.whole.now in
    let unit = c.args.unit in
    let types = map ty_view c.args.temporaries.now in
    let before = view_names c.args.names.now in
    let old = view_names c.loop-left.names in
    let new = view_names c.keep_one.new.names in
    let left = c.loop-left.left in
    let list = c.args.locals.now in
    let one = c.index-locals-left.result in
    let test = c.loop-left-test.true in
    let some : 0 < left = grind (arith, nat_tests, test) in
    let within = c.loop-left.invariant.within in
    let step = c.in_ok-keep_one.ensures in
    let split = step_back list left one some within c.index-locals-left.is in
    record {
      within = omega (arith, within);
      types = types_stay whole (local_put whole unit types (view_local one) old.known) new.known (λ n. step.known_is (Record n)) (λ n. step.known_is (Enum n))
          (local_types whole unit types (view_local one) old.known c.loop-left.invariant.types);
      known = subst (λ (those : List LocalName). KnowsMore before new (locals_put whole unit types (map view_local those) before.known)) (sym split)
          (more_local whole unit types before old new (locals_put whole unit types (map view_local (drop left list)) before.known) (view_local one) c.loop-left.invariant.known step);
    }
