use Rattle.std.proofs.Common.{◌≡◌, ◌<◌, ◌≤◌, ◌+◌, List, length, get_or, map, drop, ap, arith, sym, ◌∙◌}
use Rattle.std.proofs.lemmas.Bool.Decides.{nat_tests}
use Rattle.std.proofs.lemmas.List.{drop_all}
use Rattle.rs_items.specs.Known.{view_names}
use Rattle.rs_items.specs.declared.known.Named.TheVariants.{Enum, Record}
use Rattle.whole_given.specs.Whole.{named}
use Rattle.whole_keys.specs.Views.{view_key}
use Rattle.whole_keys.specs.declared.key.NameKey.{NameKey}
use Rattle.whole_keys.specs.declared.key.NameKey.TheVariants.{Function}
use Rattle.whole_known.proofs.Declared.{bare_types, bares_alike, step_at}
use Rattle.whole_known.proofs.Kept.{both_rest, types_stay}
use Rattle.whole_known.specs.Stages.{bare_put, bares_put}
use Rattle.whole_known.proofs.externals.keep_bares.Goals as goal

pub loop-one-preserved : goal.loop-one-preserved
loop-one-preserved c =
    let whole = named c.args.whole.now in
    let unit = c.args.unit in
    let old = view_names c.loop-one.names in
    let new = view_names c.keep_bare.new.names in
    let keys = c.args.keys.now in
    let index = c.loop-one.one-index in
    let key = get_or keys index (Function 0) in
    let test = c.loop-one-test.true in
    let low : index < length keys = grind (arith, nat_tests, test) in
    let step = c.in_ok-keep_bare.ensures in
    record {
      types = types_stay whole (bare_put whole unit (view_key key) old.known) new.known (λ n. step.known_is (Record n)) (λ n. step.known_is (Enum n))
          (bare_types whole unit (view_key key) old.known c.loop-one.invariant.types);
      known = λ one.
          bares_alike whole unit (map view_key (drop (index + 1) keys)) new.known (bare_put whole unit (view_key key) old.known) one (step.known_is one)
          ∙ sym (ap (λ (list : List NameKey). bares_put whole unit (map view_key list) old.known one) (step_at keys index (Function 0) low)) ∙ c.loop-one.invariant.known one;
      rest = both_rest c.loop-one.invariant.rest step.rest;
    }

pub returns : goal.returns
returns c =
    let whole = named c.args.whole.now in
    let test = c.loop-one-test.false in
    let end : length c.args.keys.now ≤ c.loop-one.one-index = grind (arith, nat_tests, test) in
    record {
      known_is = λ one.
          sym (ap (λ (list : List NameKey). bares_put whole c.args.unit (map view_key list) (view_names c.loop-one.names).known one) (drop_all c.loop-one.one-index c.args.keys.now end))
          ∙ c.loop-one.invariant.known one;
      rest = c.loop-one.invariant.rest;
    }
