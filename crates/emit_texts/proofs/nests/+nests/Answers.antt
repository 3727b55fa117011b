use Rattle.std.proofs.Common.{◌∙◌, ◌+◌, length, map, drop, nat_lt, ap, refl, arith}
use Rattle.emit_nests.specs.Views.{nest_view}
use Rattle.emit_texts.specs.Blocks.{in_front}
use Rattle.emit_texts.specs.Scopes.{scopes_before}
use Rattle.rs_mean.specs.Laws.{behind}
use Rattle.rs_text.specs.Tree.{stmts}
use Rattle.rs_tree.specs.Views.{stmt_view}
use Rattle.flow.specs.Views.{flow_view}
use Rattle.emit_texts.proofs.Chains.{chain_more, chain_ended}
use Rattle.emit_texts.proofs.nests.+nests.Goals as goal

pub chain_stmts-returns : goal.chain_stmts-returns
chain_stmts-returns t c =
    chain_ended (flow_view c.args.flow.now) c.args.scopes.now c.loop-nest.made c.args.members.now c.as_slice-nest-items.result.now c.loop-nest.nest-index _
    c.as_slice-nest-items.ensures c.loop-nest-test.false c.loop-nest.invariant.made

pub chain_stmts-loop-nest-preserved : goal.chain_stmts-loop-nest-preserved
chain_stmts-loop-nest-preserved t c = record {
  counted = let e = c.loop-nest.invariant.counted in omega (arith, e);
  made = chain_more (flow_view c.args.flow.now) c.args.scopes.now c.in_ok-inner.inner c.loop-nest.made c.put_behind.new.made c.in_ok-text.text c.args.members.now c.as_slice-nest-items.result.now c.loop-nest.nest-index
      c.nest-item.result (nat_lt (c.loop-nest.nest-index + 1) (length c.args.members.now)) _ c.as_slice-nest-items.ensures c.nest-item.is c.loop-nest-test.true (c.in_ok-inner.ensures
      ∙ ap (λ number. scopes_before (map nest_view (drop (number + 1) c.as_slice.result.now)) c.as_slice-in-loop-nest.result.now) c.loop-nest.invariant.counted
      ∙ ap (λ list. scopes_before (map nest_view (drop (c.loop-nest.nest-index + 1) list)) c.as_slice-in-loop-nest.result.now) c.as_slice.ensures
      ∙ ap (scopes_before (map nest_view (drop (c.loop-nest.nest-index + 1) c.args.members.now))) c.as_slice-in-loop-nest.ensures) c.in_ok-text.ensures refl (λ rest. c.in_ok-put_behind.ensures rest
      ∙ ap (λ number. behind (stmts (map stmt_view c.loop-nest.made)) (behind (in_front (nat_lt (number + 1) c.len.result) c.len-in-loop-nest.result (stmts (map stmt_view c.in_ok-text.text))) rest)) c.loop-nest.invariant.counted
      ∙ ap (λ number. behind (stmts (map stmt_view c.loop-nest.made)) (behind (in_front (nat_lt (c.loop-nest.nest-index + 1) number) c.len-in-loop-nest.result (stmts (map stmt_view c.in_ok-text.text))) rest)) c.len.ensures
      ∙ ap (λ number. behind (stmts (map stmt_view c.loop-nest.made)) (behind (in_front (nat_lt (c.loop-nest.nest-index + 1) (length c.args.members.now)) number (stmts (map stmt_view c.in_ok-text.text))) rest)) c.len-in-loop-nest.ensures) c.loop-nest.invariant.made;
}
