-- What a step of an expression leaves of memory, by induction on the tree.
use Rattle.std.proofs.Common.{◌≡◌, ℕ, ◌-◌, Bool, true, false, true≢false, nat_lt, List, ◌++◌, refl, sym, ap, subst, ◌∙◌}
use Rattle.cx_core.specs.Trees.{CExpr, expr, place_of}
use Rattle.cx_mean.specs.Marks.{Range}
use Rattle.cx_mean.specs.Operands.{COperand, Frame}
use Rattle.cx_mean.specs.Settings.{CSetting}
use Rattle.cx_mean.specs.Steps.{CStepped, at_node, needs_step, chooses_step, tests_step, place_of_put, put_step, nowhere, step_at, step_among, at_first_operand}
use Rattle.cx_mean.specs.Unwritten.{Avoids}
use Rattle.cx_mean.specs.Work.{CWork, finished, needs, chooses, tests, carries, updates, fills, waits, CWorks, no_works, more_works, are_finished, operands_in, carried, ready}
use Rattle.cx_mean.proofs.Kept.{Covers, avoids_first, avoids_second}
use Rattle.cx_mean.proofs.KeptWork.{writes_of, writes_among}
use Rattle.mem_bytes.specs.Laws.{HoldsCells}
use Rattle.mem_bytes.specs.Memory.{Blocks}
use Rattle.cx_stays.proofs.HeldTrees.{IsHeldWork, AreHeldWorks, node_takes_none, avoids_both, StepKept, at_node_kept, unchanged, carried_writes, carried_held, inside_kept, behind_marks}
use Rattle.cx_stays.proofs.HeldNodes.{form_kept, finished_writes, all_held, chooses_kept, tests_kept, stage_kept, put_kept}

-- ---- the step at a ready node

module _ (setting : CSetting) (frame : Frame) (blocks : Blocks) (held : HoldsCells blocks) where
  needs_kept : (node : CExpr) (works : CWorks) → are_finished works ≡ true → IsHeldWork (needs node works) → StepKept (writes_among works) blocks (needs_step setting frame blocks node (operands_in works))
  needs_kept (expr type place form) works are is =
      at_node_kept (writes_among works) blocks place _
      (rw (finished_writes works are)
      (form_kept setting type place form frame blocks (operands_in works) (λ none. ap operands_in (is.0 none)) (all_held works is.1) held))

  -- a node that isn't finished has operands
  takes_some : (node : CExpr) (works : CWorks) → are_finished works ≡ false → (node_takes_none node ≡ true → works ≡ no_works) → (next : CWorks) → node_takes_none node ≡ true → next ≡ no_works
  takes_some node works not none next takes = absurd (true≢false (sym (ap are_finished (none takes)) ∙ not))

  first_kept : (node : COperand → CStepped) (around : CWork → CWork) (written : List Range) (first : CWork) (within : CStepped) → ((operand : COperand) → first ≡ finished operand → StepKept written blocks (node operand)) →
      StepKept written blocks within → StepKept written blocks (at_first_operand node within first)
  first_kept node around written (finished operand) within one other = one operand refl
  first_kept node around written (needs e operands) within one other = other
  first_kept node around written (chooses e first) within one other = other
  first_kept node around written (tests e marks second) within one other = other
  first_kept node around written (carries e marks part) within one other = other
  first_kept node around written (updates e update stage marks) within one other = other
  first_kept node around written (fills e marks put_now others value) within one other = other
  first_kept node around written (waits e marks) within one other = other

  needs_or : (node : CExpr) (works : CWorks) (pick : ℕ) (all : Bool) → are_finished works ≡ all → IsHeldWork (needs node works) →
      (are_finished works ≡ false → StepKept (writes_among works) blocks (step_among setting frame blocks pick works (nowhere node) (needs node))) →
      StepKept (writes_among works) blocks (elim all as (λ _. CStepped) [
        | true ↦ needs_step setting frame blocks node (operands_in works)
        | false ↦ step_among setting frame blocks pick works (nowhere node) (needs node)
      ])
  needs_or node works pick true same is rest = needs_kept node works same is
  needs_or node works pick false same is rest = rest same

  one_of : (test : Bool) (outer : List Range) (one other : CStepped) → StepKept outer blocks one → StepKept outer blocks other →
      StepKept outer blocks (elim test as (λ _. CStepped) [ true ↦ one | false ↦ other ])
  one_of true outer one other is too = is
  one_of false outer one other is too = too

  mutual
    pub step_kept : (work : CWork) (pick : ℕ) → IsHeldWork work → StepKept (writes_of work) blocks (step_at setting frame blocks pick work)
    step_kept (finished operand) pick is = unchanged operand.marks.writes blocks (finished operand) (λ range avoids. avoids) held is
    step_kept (needs node operands) pick is =
        needs_or node operands pick (are_finished operands) refl is
        (λ not. among_kept operands pick (nowhere node) (needs node) (writes_among operands) (λ works range avoids. avoids) (λ works covers. covers)
        (λ works are. (takes_some node operands not is.0 works, are)) tt is.1)
    step_kept (chooses node first) pick is =
        first_kept (chooses_step blocks node) (chooses node) (writes_of first) first _
        (λ operand same. subst (λ (work : CWork). StepKept (writes_of work) blocks (chooses_step blocks node operand)) (sym same) (chooses_kept blocks node operand held))
        (inside_kept (chooses node) (writes_of first) (writes_of first) blocks _ (λ next range avoids. avoids) (λ next covers. covers) (λ next work_is. work_is) (step_kept first pick is))
    step_kept (tests node marks second) pick is =
        first_kept (tests_step blocks node marks) (tests node marks) (marks.writes ++ writes_of second) second _
        (λ operand same. subst (λ (work : CWork). StepKept (marks.writes ++ writes_of work) blocks (tests_step blocks node marks operand)) (sym same) (tests_kept blocks node marks operand held))
        (inside_kept (tests node marks) (writes_of second) (marks.writes ++ writes_of second) blocks _
        (λ next range avoids. avoids_second marks.writes (writes_of next) range avoids) (λ next covers. behind_marks marks.writes (writes_of next) (writes_of second) covers) (λ next work_is. work_is) (step_kept second pick is))
    step_kept (carries node marks part) pick is =
        inside_kept (carried node marks) (writes_of part) (marks.writes ++ writes_of part) blocks _
        (λ next range avoids. avoids_second marks.writes (writes_of next) range (subst (λ (ranges : List Range). Avoids ranges range) (carried_writes node marks next) avoids))
        (λ next covers range avoids. behind_marks marks.writes (writes_of next) (writes_of part) covers range (subst (λ (ranges : List Range). Avoids ranges range) (carried_writes node marks next) avoids))
        (carried_held node marks) (step_kept part pick is)
    step_kept (updates node update stage marks) pick is = at_node_kept marks.writes blocks (place_of node) _ (stage_kept setting frame blocks node update marks stage held)
    step_kept (fills node marks one others value) pick is =
        first_kept _ (fills node marks one others) (marks.writes ++ writes_of value) value _
        (λ operand same. subst (λ (work : CWork). StepKept (marks.writes ++ writes_of work) blocks (at_node (place_of_put one) (put_step setting frame blocks node marks one others operand))) (sym same)
        (at_node_kept (marks.writes ++ operand.marks.writes) blocks (place_of_put one) _ (put_kept setting frame blocks node marks one others operand (subst IsHeldWork same is) held)))
        (inside_kept (fills node marks one others) (writes_of value) (marks.writes ++ writes_of value) blocks _
        (λ next range avoids. avoids_second marks.writes (writes_of next) range avoids) (λ next covers. behind_marks marks.writes (writes_of next) (writes_of value) covers) (λ next work_is. work_is) (step_kept value pick is))
    step_kept (waits node marks) pick is = tt

    among_kept : (works : CWorks) (pick : ℕ) (none : CStepped) (around : CWorks → CWork) (outer : List Range) → ((next : CWorks) → Covers (writes_of (around next)) (writes_among next)) →
        ((next : CWorks) → Covers (writes_among next) (writes_among works) → Covers (writes_of (around next)) outer) → ((next : CWorks) → AreHeldWorks next → IsHeldWork (around next)) → StepKept outer blocks none → AreHeldWorks works →
        StepKept outer blocks (step_among setting frame blocks pick works none around)
    among_kept no_works pick none around outer within without held_in is are = is
    among_kept (more_works first others) pick none around outer within without held_in is are =
        one_of (nat_lt pick (ready first)) outer _ _
        (inside_kept (λ work. around (more_works work others)) (writes_of first) outer blocks _
        (λ next range avoids. avoids_first (writes_of next) (writes_among others) range (within (more_works next others) range avoids))
        (λ next covers. without (more_works next others) (λ range avoids.
        avoids_both (writes_of first) (writes_among others) range (covers range (avoids_first (writes_of next) (writes_among others) range avoids)) (avoids_second (writes_of next) (writes_among others) range avoids)))
        (λ next work_is. held_in (more_works next others) (work_is, are.1)) (step_kept first pick are.0))
        (among_kept others (pick - ready first) none (λ works. around (more_works first works)) outer
        (λ next range avoids. avoids_second (writes_of first) (writes_among next) range (within (more_works first next) range avoids))
        (λ next covers. without (more_works first next) (behind_marks (writes_of first) (writes_among next) (writes_among others) covers))
        (λ next work_is. held_in (more_works first next) (are.0, work_is)) is are.1)
