use Rattle.std.proofs.Common.{◌∙◌, arith, sym, map}
use Rattle.std.proofs.lemmas.Bool.Decides.{nat_tests}
use Rattle.cx_core.specs.Views.{view_type}
use Rattle.cx_kinds.proofs.Pairwise.{pairwise_next, pairwise_fails, pairwise_short, pairwise_ends, same_pairwise}
use Rattle.cx_kinds.proofs.same.+same.Goals as goal

pub same_types-loop-index-init : goal.same_types-loop-index-init
same_types-loop-index-init t c = record {
  below = omega arith;
  left = sym (same_pairwise (map view_type c.args.first.now) (map view_type c.args.second.now));
}

pub same_types-returns-in_default : goal.same_types-returns-in_default
same_types-returns-in_default t c =
    pairwise_short _ _ _ _ _ _ c.index-first-index.result c.loop-index-test.true c.index-first-index.is (grind (arith, nat_tests)) c.loop-index.invariant.left

pub same_types-returns-then-not-same_type : goal.same_types-returns-then-not-same_type
same_types-returns-then-not-same_type t c =
    pairwise_fails _ _ _ _ _ _ c.index-first-index.result c.in-Some.other.now c.loop-index-test.true c.index-first-index.is
    (grind (arith, nat_tests)) c.in-Some.ensures.lookup.1 (sym c.same_type.ensures ∙ c.if-not-same_type.true) c.loop-index.invariant.left

pub same_types-loop-index-preserved : goal.same_types-loop-index-preserved
same_types-loop-index-preserved t c = record {
  below = grind (arith, nat_tests);
  left = pairwise_next _ _ _ _ _ _ c.index-first-index.result c.in-Some.other.now c.loop-index-test.true c.index-first-index.is
      (grind (arith, nat_tests)) c.in-Some.ensures.lookup.1 (sym c.same_type.ensures ∙ c.if-not-same_type.false) c.loop-index.invariant.left;
}

pub same_types-returns : goal.same_types-returns
same_types-returns t c = pairwise_ends _ _ _ _ _ _ c.loop-index-test.false c.loop-index.auto.index-end c.loop-index.invariant.below c.loop-index.invariant.left
