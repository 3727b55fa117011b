use Rattle.std.proofs.Common.{◌≡◌, ◌∙◌, ℕ, suc, ◌+◌, ◌-◌, true, map, drop, ap, sym, subst, arith, length}
use Rattle.std.proofs.lemmas.Bool.Decides.{nat_tests}
use Rattle.std.specs.Prelude.{IfOk}
use Rattle.emit_nests.specs.Views.{chain_view, nest_view}
use Rattle.emit_rules.specs.Chains.{chained}
use Rattle.emit_rules.specs.Nests.{Chain, chain}
use Rattle.emit_rules.specs.Sorting.{all_filled, arranged, behind_nodes, entries_behind, nothing_sorted, put_all, sorted_within}
use Rattle.emit_sorting.proofs.Filled.{ArmsMade, one_more, all_made, each_level, listed_chain, map_append, filled_more}
use Rattle.emit_places.specs.Sorted.{inner_view, sibling_view}
use Rattle.flow.specs.Views.{flow_view}
use Rattle.emit_sorting.proofs.sorting.+sorting.Goals as goal

pub all_filled-loop-sibling-preserved : goal.all_filled-loop-sibling-preserved
all_filled-loop-sibling-preserved t c = record {
  counted = let e = c.loop-sibling.invariant.counted in omega (arith, e);
  made = filled_more (flow_view c.args.flow.now) (sorted_within (flow_view c.args.flow.now) c.args.depth) c.args.after.now c.args.siblings.now c.as_slice-sibling-items.result.now c.loop-sibling.sibling-index c.sibling-item.result _
      c.as_slice-in-loop-sibling.result.now c.loop-sibling.made c.push.new.self c.in_ok-ranked_of.field-0 _ c.as_slice-sibling-items.ensures c.sibling-item.is c.loop-sibling-test.true
      (c.as_slice-in-loop-sibling.ensures ∙ c.in_ok-behind.ensures
      ∙ ap (λ number. entries_behind c.args.after.now (map sibling_view (drop (number + 1) c.as_slice.result.now))) c.loop-sibling.invariant.counted
      ∙ ap (λ list. entries_behind c.args.after.now (map sibling_view (drop (c.loop-sibling.sibling-index + 1) list))) c.as_slice.ensures)
      c.in_ok-push.ensures.ok c.in_ok-ranked_of.ensures c.loop-sibling.invariant.made;
}

pub head_arms-loop-arm-preserved : goal.head_arms-loop-arm-preserved
head_arms-loop-arm-preserved t c =
    one_more (sorted_within (flow_view c.args.flow.now) c.args.depth) c.args.after.now (map inner_view c.args.inside.now) (length c.args.heads.now) c.loop-arm.arm (map chain_view c.loop-arm.made) (map chain_view c.push.new.self) (chain_view c.in_ok-arm_of.field-0)
    (ap (map chain_view) c.in_ok-push.ensures.ok ∙ map_append chain_view c.loop-arm.made _) c.in_ok-arm_of.ensures c.loop-arm.invariant

pub head_arms-returns : goal.head_arms-returns
head_arms-returns t c = all_made (sorted_within (flow_view c.args.flow.now) c.args.depth) c.args.after.now (map inner_view c.args.inside.now) (length c.args.heads.now) (map chain_view c.loop-arm.made) (subst (λ (arm : ℕ). ArmsMade (sorted_within (flow_view c.args.flow.now) c.args.depth) c.args.after.now (map inner_view c.args.inside.now) (length c.args.heads.now) arm (map chain_view c.loop-arm.made))
    (let past = c.loop-arm-test.false in let end = c.len-arm-end.ensures in let within = c.loop-arm.auto.arm-end in omega (arith, past, end, within)) c.loop-arm.invariant)

pub body_of-returns : goal.body_of-returns
body_of-returns t c =
    subst (λ (nests : Chain). IfOk c.sort.result (λ made. chain (map nest_view made) ≡ nests))
    (ap (sorted_within (flow_view c.args.flow.now) c.args.depth c.args.after.now)
    (c.in_ok-list.ensures ∙ ap (λ list. behind_nodes list (map inner_view c.args.inside.now)) (ap (map nest_view) c.as_slice.ensures ∙ sym (listed_chain (map nest_view c.args.nests.now)))))
    c.sort.ensures

pub sort-returns-then-depth-eq0 : goal.sort-returns-then-depth-eq0
sort-returns-then-depth-eq0 t c =
    subst (λ (nests : Chain). IfOk c.arranged.result (λ made. chain (map nest_view made) ≡ nests))
    (ap (arranged (flow_view c.args.flow.now) c.args.after.now) (ap (map nest_view) c.as_slice.ensures ∙ c.in_ok-plain.ensures ∙ each_level (flow_view c.args.flow.now) (map nest_view c.args.nests.now))
    ∙ ap (λ depth. sorted_within (flow_view c.args.flow.now) depth c.args.after.now (map nest_view c.args.nests.now)) (sym c.if-depth-eq0.true))
    c.arranged.ensures

pub sort-returns : goal.sort-returns
sort-returns t c =
    subst (λ (nests : Chain). IfOk c.chained.result (λ made. chain (map nest_view made) ≡ nests))
    (ap chained (c.in_ok-ranked.ensures ∙ ap (all_filled (flow_view c.args.flow.now) (sorted_within (flow_view c.args.flow.now) (c.args.depth - 1)) c.args.after.now)
    (c.in_ok-siblings.ensures ∙ ap (λ list. put_all (flow_view c.args.flow.now) true c.args.after.now nothing_sorted (map nest_view list)) c.as_slice-2.ensures))
    ∙ ap (λ depth. sorted_within (flow_view c.args.flow.now) depth c.args.after.now (map nest_view c.args.nests.now)) (let no = c.if-depth-eq0.false in let e : suc (c.args.depth - 1) ≡ c.args.depth = grind (arith, nat_tests) in e))
    c.chained.ensures
