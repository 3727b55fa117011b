use Rattle.std.proofs.Common.{◌≡◌, ◌<◌, ◌≤◌, ◌+◌, List, length, map, drop, ap, arith, sym, ◌∙◌}
use Rattle.std.proofs.lemmas.Bool.Decides.{nat_tests}
use Rattle.std.proofs.lemmas.List.{drop_all}
use Rattle.rs_items.specs.Known.{view_names}
use Rattle.rs_items.specs.declared.known.Named.TheVariants.{Enum, Record}
use Rattle.whole_given.specs.Whole.{named}
use Rattle.whole_known.proofs.Kept.{both_rest, types_stay}
use Rattle.whole_locals.proofs.Leaving.{item_types, items_alike}
use Rattle.whole_locals.proofs.Several.{step_on}
use Rattle.whole_locals.specs.Functions.{item_put, items_put}
use Rattle.whole_locals.specs.Names.{view_local}
use Rattle.whole_locals.specs.declared.names.LocalName.{LocalName}
use Rattle.whole_locals.proofs.left.restore_all.Goals as goal

pub loop-one-preserved : goal.loop-one-preserved
loop-one-preserved c =
    let whole = named c.args.whole.now in
    let old = view_names c.loop-one.names in
    let new = view_names c.restore.new.names in
    let locals = c.args.locals.now in
    let index = c.loop-one.one-index in
    let local = c.one-item.result in
    let test = c.loop-one-test.true in
    let low : index < length locals = grind (arith, nat_tests, test) in
    let step = c.in_ok-restore.ensures in
    record {
      types = types_stay whole (item_put whole (view_local local) old.known) new.known (λ n. step.known_is (Record n)) (λ n. step.known_is (Enum n))
          (item_types whole (view_local local) old.known c.loop-one.invariant.types);
      known = λ one.
          items_alike whole (map view_local (drop (index + 1) locals)) new.known (item_put whole (view_local local) old.known) one (step.known_is one)
          ∙ sym (ap (λ (list : List LocalName). items_put whole (map view_local list) old.known one) (step_on locals index local low c.one-item.is)) ∙ c.loop-one.invariant.known one;
      rest = both_rest c.loop-one.invariant.rest step.rest;
    }

pub returns : goal.returns
returns c =
    let whole = named c.args.whole.now in
    let test = c.loop-one-test.false in
    let end : length c.args.locals.now ≤ c.loop-one.one-index = grind (arith, nat_tests, test) in
    record {
      known_is = λ one.
          sym (ap (λ (list : List LocalName). items_put whole (map view_local list) (view_names c.loop-one.names).known one) (drop_all c.loop-one.one-index c.args.locals.now end))
          ∙ c.loop-one.invariant.known one;
      rest = c.loop-one.invariant.rest;
    }
