use Rattle.std.proofs.Common.{◌∙◌, arith, ap, sym, map}
use Rattle.std.proofs.lemmas.Bool.Decides.{nat_tests}
use Rattle.cx_core.proofs.Gathers.{gathered_met, functions_need, answered, refused, pairwise_next, pairwise_fails, pairwise_short, pairwise_ends, lists_pairwise}
use Rattle.cx_core.specs.Needed.{gathered, answer}
use Rattle.cx_core.specs.Views.{view_type, view_types}
use Rattle.cx_core.proofs.meets.+meet.Goals as goal

pub functions_meet-returns : goal.functions_meet-returns
functions_meet-returns t c =
    let first = c.in_ok-types_meet in
    let then = c.in_ok-found in
    gathered_met c.args.pairs.now c.types_meet.new.pairs _ _ (answer then.found c.params_meet.new.pairs) first.field-0 c.if-not-branch.false first.ensures then.ensures
    ∙ ap (gathered c.args.pairs.now) (functions_need (view_types c.args.types.now) c.args.a.now c.args.b.now)

pub lists_meet-loop-index-init : goal.lists_meet-loop-index-init
lists_meet-loop-index-init t c = record {
  below = omega arith;
  left = ap (gathered c.args.pairs.now) (sym (lists_pairwise (view_types c.args.types.now) (map view_type c.args.a.now) (map view_type c.args.b.now)));
}

pub lists_meet-returns-in_default : goal.lists_meet-returns-in_default
lists_meet-returns-in_default t c =
    pairwise_short _ _ _ _ _ _ c.loop-index.pairs c.index-a-index.result c.loop-index-test.true c.index-a-index.is (grind (arith, nat_tests)) c.loop-index.invariant.left

pub lists_meet-returns-then-not-branch : goal.lists_meet-returns-then-not-branch
lists_meet-returns-then-not-branch t c =
    let step = c.in_ok-forms_meet in
    pairwise_fails _ _ _ _ _ _ c.loop-index.pairs c.index-a-index.result c.in-Some.second.now c.loop-index-test.true c.index-a-index.is
    (grind (arith, nat_tests)) c.in-Some.ensures.lookup.1 (refused step.field-0 _ _ c.if-not-branch.true step.ensures) c.loop-index.invariant.left

pub lists_meet-loop-index-preserved : goal.lists_meet-loop-index-preserved
lists_meet-loop-index-preserved t c =
    let step = c.in_ok-forms_meet in
    record {
      below = grind (arith, nat_tests);
      left = pairwise_next _ _ _ _ _ _ c.loop-index.pairs c.forms_meet.new.pairs c.index-a-index.result c.in-Some.second.now c.loop-index-test.true c.index-a-index.is
          (grind (arith, nat_tests)) c.in-Some.ensures.lookup.1 (answered step.field-0 _ _ c.if-not-branch.false step.ensures) c.loop-index.invariant.left;
    }

pub lists_meet-returns : goal.lists_meet-returns
lists_meet-returns t c = pairwise_ends _ _ _ _ _ _ c.loop-index.pairs c.loop-index-test.false c.loop-index.auto.index-end c.loop-index.invariant.below c.loop-index.invariant.left
