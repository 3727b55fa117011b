-- A node with the statements that stand at its targets runs as the node, and then as those.
use Rattle.std.proofs.Common.{◌≡◌, ◌∙◌, ℕ, Bool, true, false, List, [], ◌∷◌, ◌++◌, Some, None, if◌then◌else◌, refl, sym, ap}
use Rattle.std.specs.Prelude.{⊤}
use Rattle.cr_runs.specs.Runs.{Ran, came, halted, bad, out, bind}
use Rattle.cr_world.specs.World.{World, Stop}
use Rattle.rs_text.specs.declared.integer.IntegerTy.{IntegerTy}
use Rattle.rs_text.specs.Tree.{Match, Return, Stmts}
use Rattle.rs_mean.specs.declared.cause.Cause.{Cause}
use Rattle.rs_mean.specs.Laws.{behind}
use Rattle.rs_mean.specs.Run.{Frame, Flow, normal, breaks, continues, returned, run_expr, run_stmts, run_arms, then_on, tests, is_arm}
use Rattle.rs_mean.specs.Values.{Typed}
use Rattle.rs_mean.specs.World.{Run, pure, seq, either}
use Rattle.rs_mean_ends.specs.Ways.{Way, by_break, by_continue, stmts_end}
use Rattle.rs_mean_ends.proofs.Ending.{ComesBy, stmts_come}
use Rattle.flow.specs.Flows.{CaseTree, BranchTree, go, if_test, switch, gives, NodeTree, case_targets, targets}
use Rattle.flow.specs.Machine.{Onto, to_node, gives_back, chosen, run_branch, then_branch, run_node}
use Rattle.emit_rules.specs.Texts.{case_arms, other_text, branch_stmts}
use Rattle.emit_laws.proofs.Blocks.{run_behind}
use Rattle.emit_laws.proofs.Ifs.{run_one, if_runs}
use Rattle.emit_laws.proofs.Runs.{same_runs, seq_seq, seq_with, pure_seq}

-- statements never leave a loop or a block outside of them
abbrev pub StaysWithin : Stmts → Type 0
StaysWithin ss = (label : List ℕ) → (stmts_end ss (by_break label) ≡ false) × (stmts_end ss (by_continue label) ≡ false)

-- each of these statements is what stands at its target
abbrev pub AllAt : (ℕ → Stmts) → List Stmts → List ℕ → Type 0
AllAt pick [] [] = ⊤
AllAt pick (text ∷ texts) (to ∷ others) = (text ≡ pick to) × AllAt pick texts others
AllAt pick [] (to ∷ others) = ⊥
AllAt pick (text ∷ texts) [] = ⊥

module _ (frame : Frame) (pick : ℕ → Stmts) {B : Type 0} (next : Flow → Run B) where
  -- what follows a node
  abbrev pub after : Onto → Run B
  after (to_node to) = seq (run_stmts frame (pick to)) next
  after (gives_back value) = next (returned value)

  abbrev goes_after : Stmts → Run B
  goes_after text = seq (run_stmts frame text) next

  -- the arms of cases
  arms_run : (by : IntegerTy) (value : Typed) (cases : List CaseTree) (other : ℕ) (texts : List Stmts) → AllAt pick texts (case_targets cases ++ other ∷ []) →
      seq (run_arms frame value (case_arms by cases texts) (run_stmts frame (other_text cases texts))) next ≡ after (to_node (chosen value cases other))
  arms_run by value [] other (text ∷ []) all = ap goes_after all.0
  arms_run by value [] other [] all = elim all [ ]
  arms_run by value [] other (text ∷ second ∷ texts) all = elim (all.1) [ ]
  arms_run by value (one ∷ others) other [] all = elim all [ ]
  arms_run by value (one ∷ others) other (text ∷ texts) all = by_arm (is_arm one.value value) (arms_run by value others other texts all.1)
    where
      by_arm : (is : Bool) →
          seq (run_arms frame value (case_arms by others texts) (run_stmts frame (other_text others texts))) next ≡ after (to_node (chosen value others other)) →
          seq (either is (run_stmts frame text) (run_arms frame value (case_arms by others texts) (run_stmts frame (other_text others texts)))) next
          ≡ after (to_node (if is then one.to else chosen value others other))
      by_arm true later = ap goes_after all.0
      by_arm false later = later

  pub branch_runs : (last : BranchTree) (texts : List Stmts) → AllAt pick texts (targets last) →
      seq (run_stmts frame (branch_stmts last texts)) next ≡ seq (run_branch frame last) after
  branch_runs (go to) (text ∷ []) all = ap goes_after all.0 ∙ sym (pure_seq (to_node to) after)
  branch_runs (go to) [] all = elim all [ ]
  branch_runs (go to) (text ∷ second ∷ texts) all = elim (all.1) [ ]
  branch_runs (if_test test if_true if_false) (first ∷ second ∷ []) all =
      ap (λ (run : Run Flow). seq run next) (if_runs frame test first second)
      ∙ seq_seq (run_expr frame test) _ _
      ∙ seq_with (run_expr frame test) _ _ (λ value. seq_seq (tests value) _ _ ∙ seq_with (tests value) _ _ sides ∙ sym (seq_seq (tests value) _ _))
      ∙ sym (seq_seq (run_expr frame test) _ _)
    where
      sides : (holds : Bool) → seq (either holds (run_stmts frame first) (run_stmts frame second)) next ≡ seq (pure (to_node (if holds then if_true else if_false))) after
      sides true = ap goes_after all.0 ∙ sym (pure_seq (to_node if_true) after)
      sides false = ap goes_after (all.1).0 ∙ sym (pure_seq (to_node if_false) after)
  branch_runs (if_test test if_true if_false) [] all = elim all [ ]
  branch_runs (if_test test if_true if_false) (first ∷ []) all = elim (all.1) [ ]
  branch_runs (if_test test if_true if_false) (first ∷ second ∷ third ∷ texts) all = elim (all.1).1 [ ]
  branch_runs (switch choices) texts all =
      ap (λ (run : Run Flow). seq run next) (run_one frame (Match choices.on (case_arms choices.by choices.cases texts) (other_text choices.cases texts)))
      ∙ seq_seq (run_expr frame choices.on) _ _
      ∙ seq_with (run_expr frame choices.on) _ _ (λ value. arms_run choices.by value choices.cases choices.other texts all ∙ sym (pure_seq _ after))
      ∙ sym (seq_seq (run_expr frame choices.on) _ _)
  branch_runs (gives None) [] all = ap (λ (run : Run Flow). seq run next) (run_one frame (Return None)) ∙ pure_seq _ next ∙ sym (pure_seq _ after)
  branch_runs (gives (Some e)) [] all =
      ap (λ (run : Run Flow). seq run next) (run_one frame (Return (Some e))) ∙ seq_seq (run_expr frame e) _ _
      ∙ seq_with (run_expr frame e) _ _ (λ value. pure_seq _ next ∙ sym (pure_seq _ after)) ∙ sym (seq_seq (run_expr frame e) _ _)
  branch_runs (gives value) (text ∷ texts) all = elim all [ ]

  -- behind statements that leave nothing outside of them
  flows_on : (can : Way → Bool) → ((label : List ℕ) → (can (by_break label) ≡ false) × (can (by_continue label) ≡ false)) → (branch : Run Flow) (chooses : Run Onto) →
      seq branch next ≡ seq chooses after → (run : Ran (Stop Cause) World Flow) → ComesBy can run →
      bind run (λ flow. seq (then_on branch flow) next) ≡ bind run (λ flow. seq (then_branch chooses flow) after)
  flows_on can within branch chooses same (came normal world left) is = ap (λ (one : Run B). one world left) same
  flows_on can within branch chooses same (came (breaks label) world left) is = absurd (both_ways (can (by_break label)) is (within label).0)
    where
      both_ways : (b : Bool) → b ≡ true → b ≡ false → ⊥
      both_ways true is none = cc
      both_ways false is none = cc
  flows_on can within branch chooses same (came (continues label) world left) is = absurd (both_ways (can (by_continue label)) is (within label).1)
    where
      both_ways : (b : Bool) → b ≡ true → b ≡ false → ⊥
      both_ways true is none = cc
      both_ways false is none = cc
  flows_on can within branch chooses same (came (returned value) world left) is =
      ap (λ (one : Run B). one world left) (pure_seq (returned value) next ∙ sym (pure_seq (gives_back value) after))
  flows_on can within branch chooses same (halted status world) is = refl
  flows_on can within branch chooses same (bad why world) is = refl
  flows_on can within branch chooses same (out world) is = refl

  pub node_runs : (node : NodeTree) (texts : List Stmts) → StaysWithin node.body → AllAt pick texts (targets node.last) →
      seq (run_stmts frame (behind node.body (branch_stmts node.last texts))) next ≡ seq (run_node frame node) after
  unfolding seq
  node_runs node texts within all =
      ap (λ (run : Run Flow). seq run next) (run_behind frame node.body (branch_stmts node.last texts))
      ∙ seq_seq (run_stmts frame node.body) _ _
      ∙ same_runs _ _ (λ world units. flows_on (stmts_end node.body) within (run_stmts frame (branch_stmts node.last texts)) (run_branch frame node.last) (branch_runs node.last texts all)
      (run_stmts frame node.body world units) (stmts_come frame node.body world units))
      ∙ sym (seq_seq (run_stmts frame node.body) _ _)
