-- A walk over operands goes on behind the first of them.
use Rattle.std.proofs.Common.{◌≡◌, sym, ◌∙◌, ap, subst, ℕ, ◌+◌, ◌-◌, ◌<◌, ◌≤◌, List, [], ◌∷◌, ◌++◌, length, take, drop, drop_at, length-take-le, Result, Ok, Err, arith}
use Rattle.std.proofs.lemmas.List.{append_assoc}
use Rattle.cx_ready.specs.declared.halt.Halt.{Halt}
use Rattle.cx_ready.specs.declared.halt.Halt.TheVariants as halt
use Rattle.cx_ready.specs.declared.halt.Progress.{Progress}
use Rattle.cx_ready.specs.declared.halt.Progress.TheVariants as progress
use Rattle.cx_eval.specs.Walks.{CountsFrom, Walks, WalksFrom, MovesFrom}
use Rattle.cx_ready.specs.Steps.{Steps}
use Rattle.cx_eval.proofs.Moving.{among_first, among_rest}
use Rattle.cx_mean.specs.Operands.{Frame}
use Rattle.cx_mean.specs.Settings.{CSetting}
use Rattle.cx_mean.specs.Steps.{CStepped, did, asks_call, inside, step_at, step_among}
use Rattle.cx_mean.specs.Work.{CWork, CWorks, more_works, ready, ready_among}
use Rattle.cx_work.specs.Views.{view_called, works_of}
use Rattle.mem_bytes.specs.Memory.{Blocks}

module _ (setting : CSetting) (frame : Frame) (before later : Blocks) (pick index : ℕ) (works : List CWork) (first : CWork) (others : List CWork)
    (within : index ≤ length works) (at : drop index works ≡ first ∷ others) where
  more_than : pick < ready first → pick < ready_among (works_of (drop index works))
  more_than less = subst (λ (list : List CWork). pick < ready_among (works_of list)) (sym at) (omega (arith, less))

  front : (new : CWork) → drop index (take index works ++ new ∷ others) ≡ new ∷ others
  front new = drop_at (take index works) (new ∷ others) index (length-take-le index works within)

  first_step : (none : CStepped) (around : CWorks → CWork) → pick < ready first → step_among setting frame before pick (works_of (drop index works)) none around ≡
      inside (λ (work : CWork). around (more_works work (works_of others))) (step_at setting frame before pick first)
  first_step none around less =
      ap (λ (list : List CWork). step_among setting frame before pick (works_of list) none around) at
      ∙ among_first setting frame before pick first (works_of others) none around less

  pub first_moves : (result : Result Progress Halt) (new : CWork) → Walks result setting frame before later pick first new →
      WalksFrom result setting frame before later pick index works (take index works ++ new ∷ others)
  first_moves (Ok progress.Stepped) new goes = (
    more_than goes.0,
    ap (λ (rest : List CWork). take index works ++ rest) (sym (front new)),
    λ none around.
        first_step none around goes.0 ∙ ap (inside (λ (work : CWork). around (more_works work (works_of others)))) goes.1
        ∙ ap (λ (list : List CWork). Ok (did (around (works_of list)) later)) (sym (front new)),
  )
  first_moves (Ok (progress.Calls called)) new goes = (
    more_than goes.0,
    ap (λ (rest : List CWork). take index works ++ rest) (sym (front new)),
    λ none around. (
      first_step none around goes.0 ∙ ap (inside (λ (work : CWork). around (more_works work (works_of others)))) goes.1.0
          ∙ ap (λ (list : List CWork). Ok (asks_call (view_called called) (around (works_of list)))) (sym (front new)),
      goes.1.1,
    ),
  )
  first_moves (Err (halt.Undefined rule place)) new goes = (
    more_than goes.0,
    λ none around.
        first_step none around goes.0 ∙ ap (inside (λ (work : CWork). around (more_works work (works_of others)))) goes.1,
  )
  first_moves (Err halt.Memory) new goes = tt

  module _ (count : ℕ) (counted : count ≡ ready first) (passed : count ≤ pick) (behind : drop (index + 1) works ≡ others)
      (taken : take (index + 1) works ≡ take index works ++ first ∷ []) where
    rest_step : (none : CStepped) (around : CWorks → CWork) → step_among setting frame before pick (works_of (drop index works)) none around ≡
        step_among setting frame before (pick - count) (works_of (drop (index + 1) works)) none (λ (left : CWorks). around (more_works first left))
    rest_step none around =
        ap (λ (list : List CWork). step_among setting frame before pick (works_of list) none around) at
        ∙ among_rest setting frame before pick first (works_of others) none around (subst (λ (number : ℕ). number ≤ pick) counted passed)
        ∙ ap (λ (number : ℕ). step_among setting frame before (pick - number) (works_of others) none (λ (left : CWorks). around (more_works first left))) (sym counted)
        ∙ ap (λ (list : List CWork). step_among setting frame before (pick - count) (works_of list) none (λ (left : CWorks). around (more_works first left))) (sym behind)

    more_behind : pick - count < ready_among (works_of (drop (index + 1) works)) → pick < ready_among (works_of (drop index works))
    more_behind less =
        let rest : pick - count < ready_among (works_of others) = subst (λ (list : List CWork). pick - count < ready_among (works_of list)) behind less in
        subst (λ (list : List CWork). pick < ready_among (works_of list)) (sym at) (omega (arith, rest, counted, passed))

    back : (left : List CWork) → left ≡ take (index + 1) works ++ drop (index + 1) left → left ≡ take index works ++ (first ∷ drop (index + 1) left)
    back left is = is ∙ ap (λ (list : List CWork). list ++ drop (index + 1) left) taken ∙ append_assoc (take index works) (first ∷ []) (drop (index + 1) left)

    front_of : (left : List CWork) → left ≡ take (index + 1) works ++ drop (index + 1) left → drop index left ≡ first ∷ drop (index + 1) left
    front_of left is = ap (drop index) (back left is) ∙ drop_at (take index works) (first ∷ drop (index + 1) left) index (length-take-le index works within)

    moves_back : (result : Result Progress Halt) (left : List CWork) → MovesFrom result setting frame before later (pick - count) (index + 1) works left →
        MovesFrom result setting frame before later pick index works left
    moves_back result left goes = (
      more_behind goes.0,
      back left goes.1 ∙ ap (λ (rest : List CWork). take index works ++ rest) (sym (front_of left goes.1)),
      λ none around.
          subst (λ (list : List CWork). Steps result before later (around (works_of list)) (step_among setting frame before pick (works_of (drop index works)) none around))
          (sym (front_of left goes.1))
          (subst (λ (found : CStepped). Steps result before later (around (more_works first (works_of (drop (index + 1) left)))) found) (sym (rest_step none around))
          (goes.2 none (λ (list : CWorks). around (more_works first list)))),
    )

    pub rest_passes : (sum : ℕ) (left : List CWork) → count ≤ sum →
        CountsFrom (sum - count) before later (pick - count) (index + 1) works left → CountsFrom sum before later pick index works left
    rest_passes sum left least goes =
        let sum_is : sum - count ≡ ready_among (works_of others) = goes.0 ∙ ap (λ (list : List CWork). ready_among (works_of list)) behind in
        (subst (λ (list : List CWork). sum ≡ ready_among (works_of list)) (sym at) (omega (arith, sum_is, counted, least)), omega (arith, goes.1, passed, least), goes.2, goes.3)

    pub rest_moves : (result : Result Progress Halt) (left : List CWork) →
        WalksFrom result setting frame before later (pick - count) (index + 1) works left → WalksFrom result setting frame before later pick index works left
    rest_moves (Ok progress.Stepped) left goes = moves_back (Ok progress.Stepped) left goes
    rest_moves (Ok (progress.Calls called)) left goes = moves_back (Ok (progress.Calls called)) left goes
    rest_moves (Err (halt.Undefined rule place)) left goes =
        (more_behind goes.0, λ none around. rest_step none around ∙ goes.1 none (λ (list : CWorks). around (more_works first list)))
    rest_moves (Err halt.Memory) left goes = tt
