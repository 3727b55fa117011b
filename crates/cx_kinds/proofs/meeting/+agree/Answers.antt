use Rattle.std.proofs.Common.{[], ◌∙◌, arith, sym, map}
use Rattle.std.proofs.lemmas.Bool.Decides.{nat_tests}
use Rattle.cx_core.specs.Compatible.{in_pairs}
use Rattle.cx_core.specs.Views.{view_type, view_types}
use Rattle.cx_kinds.proofs.Pairwise.{pairwise_next, pairwise_fails, pairwise_short, pairwise_ends, agree_pairwise}
use Rattle.cx_kinds.proofs.meeting.+agree.Goals as goal

pub lists_agree-loop-index-init : goal.lists_agree-loop-index-init
lists_agree-loop-index-init t c = record {
  below = omega arith;
  left = sym (agree_pairwise (view_types c.args.types.now) (in_pairs []) (map view_type c.args.first.now) (map view_type c.args.second.now));
}

pub lists_agree-returns-in_default : goal.lists_agree-returns-in_default
lists_agree-returns-in_default t c =
    pairwise_short _ _ _ _ _ _ c.index-first-index.result c.loop-index-test.true c.index-first-index.is (grind (arith, nat_tests)) c.loop-index.invariant.left

pub lists_agree-returns-then-not-alike : goal.lists_agree-returns-then-not-alike
lists_agree-returns-then-not-alike t c =
    pairwise_fails _ _ _ _ _ _ c.index-first-index.result c.in-Some.other.now c.loop-index-test.true c.index-first-index.is
    (grind (arith, nat_tests)) c.in-Some.ensures.lookup.1 (sym c.alike.ensures ∙ c.if-not-alike.true) c.loop-index.invariant.left

pub lists_agree-loop-index-preserved : goal.lists_agree-loop-index-preserved
lists_agree-loop-index-preserved t c = record {
  below = grind (arith, nat_tests);
  left = pairwise_next _ _ _ _ _ _ c.index-first-index.result c.in-Some.other.now c.loop-index-test.true c.index-first-index.is
      (grind (arith, nat_tests)) c.in-Some.ensures.lookup.1 (sym c.alike.ensures ∙ c.if-not-alike.false) c.loop-index.invariant.left;
}

pub lists_agree-returns : goal.lists_agree-returns
lists_agree-returns t c = pairwise_ends _ _ _ _ _ _ c.loop-index-test.false c.loop-index.auto.index-end c.loop-index.invariant.below c.loop-index.invariant.left
