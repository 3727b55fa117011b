-- A walk over operands where they lie is one over what they stand for.
use Rattle.std.proofs.Common.{◌≡◌, refl, sym, ◌∙◌, ap, subst, ℕ, zero, suc, ◌+◌, ◌-◌, ◌<◌, ◌≤◌, List, [], ◌∷◌, ◌++◌, map, length, take, drop, set, get_or, drop-set-lt, Option, Some, None, slice_get, Result, arith}
use Rattle.std.proofs.lemmas.List.{drop_more, map-set}
use Rattle.cx_eval.specs.Added.{Adds}
use Rattle.cx_ready.specs.declared.halt.Halt.{Halt}
use Rattle.cx_ready.specs.declared.halt.Progress.{Progress}
use Rattle.cx_eval.specs.Walks.{Counts, CountsFrom, ReachesFrom, Walks, WalksFrom}
use Rattle.cx_eval.proofs.Behind.{first_moves, rest_moves, rest_passes}
use Rattle.cx_eval.proofs.Placed.{behind_it, read_at, replaced, seen_at, seen_within, up_to_it}
use Rattle.cx_mean.specs.Operands.{Frame}
use Rattle.cx_mean.specs.Settings.{CSetting}
use Rattle.cx_mean.specs.Work.{CWork}
use Rattle.cx_work.specs.declared.work.Work.{Work}
use Rattle.cx_work.specs.Views.{view_work}
use Rattle.cx_work.specs.Weights.{weight, weights}
use Rattle.mem_bytes.specs.Memory.{Blocks}

set_same : (list : List CWork) (index : ℕ) (one : CWork) → index < length list → one ≡ get_or list index one → set list index one ≡ list
set_same [] index one within is = absurd (omega (arith, within))
set_same (first ∷ others) zero one within is = ap (λ (head : CWork). head ∷ others) is
set_same (first ∷ others) (suc n) one within is = ap (λ (rest : List CWork). first ∷ rest) (set_same others n one (omega (arith, within)) is)

module _ (setting : CSetting) (frame : Frame) (before later : Blocks) (pick index : ℕ) (works : List Work) (one new : Work)
    (within : index < length works) (found : slice_get works index ≡ Some one) where
  at : drop index (map view_work works) ≡ view_work one ∷ drop (index + 1) (map view_work works)
  at = behind_it index works one within found

  seen : index < length (map view_work works)
  seen = seen_within index works one within found

  pub first_walked : (result : Result Progress Halt) → Walks result setting frame before later pick (view_work one) (view_work new) →
      WalksFrom result setting frame before later pick index (map view_work works) (map view_work (set works index new))
  first_walked result goes = subst (λ (left : List CWork). WalksFrom result setting frame before later pick index (map view_work works) left) (sym (replaced index works one within found new))
      (first_moves setting frame before later pick index (map view_work works) (view_work one) (drop (index + 1) (map view_work works)) (omega (arith, seen)) at
      result (view_work new) goes)

  module _ (count : ℕ) (mid : Blocks) (left : List Work)
      (passed : Counts count before mid pick (view_work one) (view_work new)) where
    kept : map view_work (set works index new) ≡ map view_work works
    kept = map-set view_work works index new ∙ ap (set (map view_work works) index) passed.2 ∙ set_same (map view_work works) index (view_work one) seen (seen_at index works one within found)

    here : (rest : Option ℕ) (taken : Result Progress Halt) →
        ReachesFrom rest taken setting frame mid later (pick - count) (index + 1) (map view_work (set works index new)) (map view_work left) →
        ReachesFrom rest taken setting frame before later (pick - count) (index + 1) (map view_work works) (map view_work left)
    here rest taken goes = subst (λ (blocks : Blocks). ReachesFrom rest taken setting frame blocks later (pick - count) (index + 1) (map view_work works) (map view_work left)) passed.3
        (subst (λ (list : List CWork). ReachesFrom rest taken setting frame mid later (pick - count) (index + 1) list (map view_work left)) kept goes)

    taken_in : take (index + 1) (map view_work works) ≡ take index (map view_work works) ++ view_work one ∷ []
    taken_in = up_to_it index works one within found

    rest_walked : (result : Result Progress Halt) →
        WalksFrom result setting frame mid later (pick - count) (index + 1) (map view_work (set works index new)) (map view_work left) →
        WalksFrom result setting frame before later pick index (map view_work works) (map view_work left)
    rest_walked result goes =
        rest_moves setting frame before later pick index (map view_work works) (view_work one) (drop (index + 1) (map view_work works)) (omega (arith, seen)) at
        count passed.0 passed.1 refl taken_in result (map view_work left) (here None result goes)

    rest_counted : (taken : Result Progress Halt) (sum : ℕ) → count ≤ sum →
        CountsFrom (sum - count) mid later (pick - count) (index + 1) (map view_work (set works index new)) (map view_work left) →
        CountsFrom sum before later pick index (map view_work works) (map view_work left)
    rest_counted taken sum least goes =
        rest_passes setting frame before later pick index (map view_work works) (view_work one) (drop (index + 1) (map view_work works)) (omega (arith, seen)) at
        count passed.0 passed.1 refl taken_in sum (map view_work left) least (here (Some (sum - count)) taken goes)

    pub rest_reached : (rest result : Option ℕ) (taken last : Result Progress Halt) → Adds count rest taken result last →
        ReachesFrom rest taken setting frame mid later (pick - count) (index + 1) (map view_work (set works index new)) (map view_work left) →
        ReachesFrom result last setting frame before later pick index (map view_work works) (map view_work left)
    rest_reached rest (Some sum) taken last adds goes = rest_counted taken sum adds.1
        (subst (λ (other : Option ℕ). ReachesFrom other taken setting frame mid later (pick - count) (index + 1) (map view_work (set works index new)) (map view_work left)) adds.0 goes)
    rest_reached None None taken last adds goes =
        subst (λ (other : Result Progress Halt). ReachesFrom None other setting frame before later pick index (map view_work works) (map view_work left)) (sym adds) (rest_walked taken goes)
    rest_reached (Some more) None taken last adds goes =
        subst (λ (other : Result Progress Halt). ReachesFrom None other setting frame before later pick index (map view_work works) (map view_work left)) (sym adds) tt

-- ---- sizes

pub weight_below : (works : List Work) (index : ℕ) (one : Work) → index < length works → slice_get works index ≡ Some one → weight one < weights (drop index works)
weight_below works index one within found =
    subst (λ (list : List Work). weight one < weights list) (sym (drop_more works index one within ∙ ap (λ (head : Work). head ∷ drop (index + 1) works) (sym (read_at works index one found))))
    (omega arith)

drop_set : (works : List Work) (index : ℕ) (new : Work) → drop (index + 1) (set works index new) ≡ drop (index + 1) works
drop_set works index new = drop-set-lt (index + 1) works index new (omega arith)

pub weight_behind : (works : List Work) (index : ℕ) (one new : Work) → index < length works → slice_get works index ≡ Some one →
    weights (drop (index + 1) (set works index new)) < weights (drop index works)
weight_behind works index one new within found =
    subst (λ (list : List Work). weights (drop (index + 1) (set works index new)) < weights list) (sym (drop_more works index one within))
    (subst (λ (list : List Work). weights list < weights (get_or works index one ∷ drop (index + 1) works)) (sym (drop_set works index new)) (omega arith))
