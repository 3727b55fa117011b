use Rattle.std.proofs.Common.{◌≡◌, ◌+◌, ◌*◌, ◌++◌, ◌≤◌, length, map, drop}
use Rattle.emit_nests.specs.Views.{chain_view, chains, nest_view}
use Rattle.emit_rules.specs.Bodies.{chain_stmts, arms_stmts}
use Rattle.emit_rules.specs.Nests.{chain}
use Rattle.emit_texts.specs.Scopes.{jumps_of}
use Rattle.emit_texts.specs.Texts.{text_view}
use Rattle.flow.specs.Views.{flow_view}
use Rattle.rs_mean.specs.Laws.{behind}
use Rattle.rs_text.specs.Tree.{stmts}
use Rattle.rs_tree.specs.Views.{stmt_view}
use Rattle.emit_texts.proofs.nests.+nests.Given as goal

abbrev pub decreases-nest_stmts : goal.decreases-nest_stmts
decreases-nest_stmts l = 3 * goal.size-nest_stmts l

abbrev pub decreases-arm_text : goal.decreases-arm_text
decreases-arm_text l = 3 * goal.size-arm_text l

abbrev pub decreases-chain_stmts : goal.decreases-chain_stmts
decreases-chain_stmts l = 3 * goal.size-chain_stmts l + 1

abbrev pub decreases-arms_stmts : goal.decreases-arms_stmts
decreases-arms_stmts l = 3 * goal.size-arms_stmts l + 1

abbrev pub decreases-loop_stmts : goal.decreases-loop_stmts
decreases-loop_stmts l = 3 * goal.size-loop_stmts l + 2

abbrev pub decreases-single_stmts : goal.decreases-single_stmts
decreases-single_stmts l = 3 * goal.size-single_stmts l + 2

abbrev pub decreases-picked_stmts : goal.decreases-picked_stmts
decreases-picked_stmts l = 3 * goal.size-picked_stmts l + 2

abbrev pub invariant-chain_stmts-loop-nest : goal.invariant-chain_stmts-loop-nest
invariant-chain_stmts-loop-nest l = record {
  counted : l.next ≡ l.nest-index;
  made : behind (stmts (map stmt_view l.made)) (chain_stmts (flow_view l.flow) (chain (map nest_view (drop l.nest-index l.members))) (length l.scopes) (jumps_of l.scopes))
      ≡ chain_stmts (flow_view l.flow) (chain (map nest_view l.members)) (length l.scopes) (jumps_of l.scopes);
}

abbrev pub invariant-arms_stmts-loop-inner : goal.invariant-arms_stmts-loop-inner
invariant-arms_stmts-loop-inner l = record {
  counted : l.index ≡ l.inner-index;
  many : length l.texts ≡ l.index;
  within : l.index ≤ length l.targets;
  made : map text_view l.texts ++ arms_stmts (flow_view l.flow) (chains (map chain_view (drop l.inner-index l.arms))) (length l.scopes) (jumps_of l.scopes) (drop l.index l.targets)
      ≡ arms_stmts (flow_view l.flow) (chains (map chain_view l.arms)) (length l.scopes) (jumps_of l.scopes) l.targets;
}
