use Rattle.std.proofs.Common.{◌≡◌, ◌+◌, [], length, map, drop}
use Rattle.emit_rules.specs.Texts.{head_arms}
use Rattle.emit_stmts.proofs.Lists.{behind_arms}
use Rattle.emit_texts.specs.Texts.{text_view}
use Rattle.rs_text.specs.Tree.{arms}
use Rattle.rs_tree.specs.Views.{arm_view}
use Rattle.emit_texts.proofs.branches.head_arms.Given as goal

abbrev pub invariant-loop-text : goal.invariant-loop-text
invariant-loop-text l = record {
  counted : l.index + length l.text-iterator.rest.items ≡ length l.heads;
  made : behind_arms (arms (map arm_view l.made)) (head_arms l.earlier (drop l.index l.heads) (map text_view l.text-iterator.rest.items)) ≡ head_arms [] l.heads (map text_view l.fn.texts);
}
