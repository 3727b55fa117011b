use Rattle.std.proofs.Common.{◌≡◌, ◌<◌, ◌≤◌, ◌+◌, ◌∷◌, List, ℕ, length, map, drop, ap, arith, subst, sym, ◌∙◌}
use Rattle.std.proofs.lemmas.Bool.Decides.{nat_tests}
use Rattle.std.proofs.lemmas.List.{drop_all}
use Rattle.rs_items.specs.Known.{view_names}
use Rattle.rs_items_sets.specs.Sets.{TakenNames}
use Rattle.whole_locals.proofs.Several.{next_made, next_own, step_on, takes_more}
use Rattle.whole_locals.specs.Names.{TakesOwn, own_behind, own_more, view_local}
use Rattle.whole_locals.specs.Wanted.{view_wanted}
use Rattle.whole_locals.specs.declared.wanted.WantedLocal.{WantedLocal}
use Rattle.whole_locals.proofs.names.give_all.Goals as goal

pub loop-one-preserved : goal.loop-one-preserved
loop-one-preserved c =
    let start = view_names c.args.names.now in
    let old = view_names c.loop-one.names in
    let new = view_names c.give.new.names in
    let wanted = c.args.wanted.now in
    let index = c.loop-one.one-index in
    let one = c.one-item.result in
    let test = c.loop-one-test.true in
    let low : index < length wanted = grind (arith, nat_tests, test) in
    let step = c.in_ok-give.ensures in
    let own = ap (λ (t : TakenNames). t.own_names) step.taken.taken_are in
    let held = ap (λ (t : TakenNames). t.module_names) c.loop-one.invariant.taken.taken_are in
    let split = ap (λ (list : List WantedLocal). map view_wanted list) (step_on wanted index one low c.one-item.is) in
    record {
      taken = subst (λ (names : List (List ℕ)). TakesOwn start new names) (sym own)
          (takes_more start old new old.taken.own_names (own_more old.taken (view_wanted one)) c.loop-one.invariant.taken step.taken);
      own = next_own start.taken.module_names old.taken.module_names old.taken.own_names new.taken.own_names (view_wanted one) (map view_wanted (drop (index + 1) wanted))
          (map view_wanted (drop index wanted)) held own split ∙ c.loop-one.invariant.own;
      made = next_made start.taken.module_names old.taken.module_names old.taken.own_names new.taken.own_names (map view_local c.loop-one.made) (map view_local c.give.new.made) (view_wanted one)
          (map view_wanted (drop (index + 1) wanted)) (map view_wanted (drop index wanted)) held own step.made split ∙ c.loop-one.invariant.made;
    }

pub returns-clause-taken : goal.returns-clause-taken
returns-clause-taken c =
    let start = view_names c.args.names.now in
    let names = view_names c.loop-one.names in
    let test = c.loop-one-test.false in
    let end : length c.args.wanted.now ≤ c.loop-one.one-index = grind (arith, nat_tests, test) in
    let all = sym (ap (λ (list : List WantedLocal). own_behind start.taken.module_names names.taken.own_names (map view_wanted list)) (drop_all c.loop-one.one-index c.args.wanted.now end))
    ∙ c.loop-one.invariant.own in
    subst (λ (list : List (List ℕ)). TakesOwn start names list) all c.loop-one.invariant.taken
