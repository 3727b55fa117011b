use Rattle.std.proofs.Common.{◌∙◌, ap, map, arith}
use Rattle.std.proofs.lemmas.Bool.Decides.{nat_tests}
use Rattle.cx_core.specs.Views.{view_type, types_of}
use Rattle.cx_types.proofs.Joining.{both_next, first_next, none_left, joined_types}
use Rattle.cx_types.proofs.composites.+composite.Goals.{composite_types-in-Some+in_ok-composite-in-Some+in_ok-push-in-Some, composite_types-in-None+in_ok-copy-in-None+in_ok-push-in-None}
use Rattle.cx_types.proofs.composites.+composite.Goals as goal

-- src/composites.rt:72:5
pub composite_types-loop-index-preserved : goal.composite_types-loop-index-preserved
composite_types-loop-index-preserved t c = elim c.match-get.branch [
  | composite_types-in-Some+in_ok-composite-in-Some+in_ok-push-in-Some w ↦
      rw (w.made-is, w.in_ok-push-in-Some.ensures.ok)
      (both_next view_type c.args.first.now c.args.second.now c.loop-index.index c.loop-index.made _ c.index-first-index.result w.in-Some.other.now _
      c.loop-index-test.true c.index-first-index.is (grind (arith, nat_tests)) w.in-Some.ensures.lookup.1
      (ap view_type w.into_inner.ensures ∙ w.in_ok-composite-in-Some.ensures) c.loop-index.invariant)
  | composite_types-in-None+in_ok-copy-in-None+in_ok-push-in-None w ↦
      rw (w.made-is, w.in_ok-push-in-None.ensures.ok)
      (first_next view_type c.args.first.now c.args.second.now c.loop-index.index c.loop-index.made _ c.index-first-index.result _
      c.loop-index-test.true c.index-first-index.is (grind (arith, nat_tests))
      (ap view_type w.into_inner-in-None.ensures ∙ w.in_ok-copy-in-None.ensures) c.loop-index.invariant)
]

-- src/composites.rt:67:1
pub composite_types-returns : goal.composite_types-returns
composite_types-returns t c =
    ap types_of (none_left view_type c.args.first.now c.args.second.now c.loop-index.index c.loop-index.made _ c.loop-index-test.false c.loop-index.invariant)
    ∙ joined_types (map view_type c.args.first.now) (map view_type c.args.second.now)
