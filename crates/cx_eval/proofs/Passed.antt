-- A walk over operands that takes steps goes on behind one of them.
use Rattle.std.proofs.Common.{◌≡◌, refl, sym, ◌∙◌, ap, subst, ℕ, ◌+◌, ◌-◌, ◌<◌, ◌≤◌, List, [], ◌∷◌, ◌++◌, map, length, take, drop, set, Some, slice_get, Result, arith}
use Rattle.std.proofs.lemmas.List.{take_all}
use Rattle.cx_core.specs.Trees.{CExpr}
use Rattle.cx_eval.proofs.Around.{needs_around}
use Rattle.cx_eval.proofs.Going.{halts_inside, rests_inside, then_parts}
use Rattle.cx_eval.proofs.Placed.{replaced, replaced_front, whole_list}
use Rattle.cx_ready.specs.declared.halt.Halt.{Halt}
use Rattle.cx_ready.specs.declared.halt.Progress.{Progress}
use Rattle.cx_eval.specs.declared.pass.Pass.{Pass}
use Rattle.cx_eval.specs.declared.pass.Pass.TheVariants as pass
use Rattle.cx_eval.specs.Passing.{PassesFrom}
use Rattle.cx_eval.specs.Several.{Goes, Passes}
use Rattle.cx_mean.specs.Operands.{Frame}
use Rattle.cx_mean.specs.Settings.{CSetting}
use Rattle.cx_mean.specs.Work.{CWork, needs, ready, ready_among}
use Rattle.cx_work.specs.declared.work.Work.{Work}
use Rattle.cx_work.specs.Views.{view_work, works_of}
use Rattle.mem_bytes.specs.Memory.{Blocks}

quiet_more : (front : List CWork) (one : CWork) → ready_among (works_of front) ≡ 0 → ready one ≡ 0 → ready_among (works_of (front ++ one ∷ [])) ≡ 0
quiet_more [] one quiet is = omega (arith, is)
quiet_more (first ∷ others) one quiet is = omega (arith, quiet, quiet_more others one (omega (arith, quiet)) is)

module _ (setting : CSetting) (frame : Frame) where
  -- no step was taken
  pub none_taken : (blocks : Blocks) (most : ℕ) (work : CWork) → Goes setting frame (most - most) blocks work blocks work
  none_taken blocks most work =
      let none : 0 ≡ most - most = omega arith in
      subst (λ (count : ℕ). Goes setting frame count blocks work blocks work) none (refl, refl)

  -- all operands were walked over
  pub all_passed : (taken : Result Progress Halt) (blocks : Blocks) (most index : ℕ) (works : List CWork) → length works ≤ index →
      PassesFrom pass.Through taken setting frame blocks blocks most most index works works
  all_passed taken blocks most index works past quiet node =
      ((omega arith, none_taken blocks most (needs node (works_of works))), subst (λ (list : List CWork). ready_among (works_of list) ≡ 0) (take_all index works past) quiet)

  module _ (before mid : Blocks) (most rest index : ℕ) (works : List Work) (one new : Work) (taken : Result Progress Halt)
      (within : index < length works) (found : slice_get works index ≡ Some one) where
    abbrev views : List CWork
    views = map view_work works

    abbrev front : List CWork
    front = take index views

    abbrev behind : List CWork
    behind = drop (index + 1) views

    -- what a walk over one operand is of the node
    of_node : (end : Pass) (node : CExpr) →
        Passes end taken setting frame before mid most rest (needs node (works_of (front ++ view_work one ∷ behind))) (needs node (works_of (front ++ view_work new ∷ behind))) →
        Passes end taken setting frame before mid most rest (needs node (works_of views)) (needs node (works_of (map view_work (set works index new))))
    of_node end node goes =
        subst (λ (list : List CWork). Passes end taken setting frame before mid most rest (needs node (works_of list)) (needs node (works_of (map view_work (set works index new)))))
        (sym (whole_list index works one within found))
        (subst (λ (list : List CWork). Passes end taken setting frame before mid most rest (needs node (works_of (front ++ view_work one ∷ behind))) (needs node (works_of list)))
        (sym (replaced index works one within found new)) goes)

    one_rests : (node : CExpr) → ready_among (works_of front) ≡ 0 → Passes pass.Rests taken setting frame before mid most rest (view_work one) (view_work new) →
        Passes pass.Rests taken setting frame before mid most rest (needs node (works_of views)) (needs node (works_of (map view_work (set works index new))))
    one_rests node quiet goes = of_node pass.Rests node
        (rests_inside setting frame (λ (work : CWork). needs node (works_of (front ++ work ∷ behind))) (needs_around setting frame behind node front quiet)
        before mid most rest (view_work one) (view_work new) taken goes)

    pub first_rests : Passes pass.Rests taken setting frame before mid most rest (view_work one) (view_work new) →
        PassesFrom pass.Rests taken setting frame before mid most rest index (map view_work works) (map view_work (set works index new))
    first_rests goes quiet node = one_rests node quiet goes

    pub first_halts : Passes pass.Halted taken setting frame before mid most rest (view_work one) (view_work new) →
        PassesFrom pass.Halted taken setting frame before mid most rest index (map view_work works) (map view_work (set works index new))
    first_halts goes quiet node = of_node pass.Halted node
        (halts_inside setting frame (λ (work : CWork). needs node (works_of (front ++ work ∷ behind))) (needs_around setting frame behind node front quiet)
        before mid most rest (view_work one) (view_work new) taken goes)

    pub first_through : (later : Blocks) (least : ℕ) (left : List Work) (result : Pass) (last : Result Progress Halt) →
        Passes pass.Through taken setting frame before mid most rest (view_work one) (view_work new) →
        PassesFrom result last setting frame mid later rest least (index + 1) (map view_work (set works index new)) (map view_work left) →
        PassesFrom result last setting frame before later most least index (map view_work works) (map view_work left)
    first_through later least left result last goes more quiet node =
        let next : ready_among (works_of (take (index + 1) (map view_work (set works index new)))) ≡ 0 =
        ap (λ (list : List CWork). ready_among (works_of list)) (replaced_front index works one within found new) ∙ quiet_more front (view_work new) quiet goes.2 in
        then_parts setting frame before mid later most rest least (needs node (works_of views)) (needs node (works_of (map view_work (set works index new)))) (needs node (works_of (map view_work left)))
        goes.0 (one_rests node quiet (goes.0, goes.1)).1 result last (more next node)
