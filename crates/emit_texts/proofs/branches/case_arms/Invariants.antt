use Rattle.std.proofs.Common.{◌≡◌, ◌+◌, length, map, drop}
use Rattle.emit_rules.specs.Texts.{case_arms}
use Rattle.emit_stmts.proofs.Lists.{behind_arms}
use Rattle.emit_texts.specs.Texts.{text_view}
use Rattle.flow.specs.Views.{case_view}
use Rattle.rs_text.specs.Tree.{arms}
use Rattle.rs_tree.specs.Views.{arm_view}
use Rattle.emit_texts.proofs.branches.case_arms.Given as goal

abbrev pub invariant-loop-text : goal.invariant-loop-text
invariant-loop-text l = record {
  counted : l.index + length l.text-iterator.rest.items ≡ length l.cases;
  made : behind_arms (arms (map arm_view l.made)) (case_arms l.by (map case_view (drop l.index l.cases)) (map text_view l.text-iterator.rest.items)) ≡ case_arms l.by (map case_view l.cases) (map text_view l.fn.texts);
}
