-- Where an operand lies among others, and what they are with another one in its place.
use Rattle.std.proofs.Common.{◌≡◌, sym, ◌∙◌, ap, subst, ℕ, zero, suc, add-one, ◌+◌, ◌<◌, List, [], ◌∷◌, ◌++◌, map, length, take, drop, set, get_or, rules, Some, slice_get, arith}
use Rattle.std.proofs.lemmas.List.{drop_more, length-map, map-set, set_split, take-append-drop, take_more_set}
use Rattle.std.proofs.lemmas.Option.{gets}
use lib.Seq.{take-suc}
use Rattle.cx_mean.specs.Work.{CWork}
use Rattle.cx_work.specs.declared.work.Work.{Work}
use Rattle.cx_work.specs.Views.{view_work}

pub read_at : (list : List Work) (index : ℕ) (one : Work) → slice_get list index ≡ Some one → one ≡ get_or list index one
read_at list index one found = search (rules, gets)

map_at : (list : List Work) (index : ℕ) (one : Work) → index < length list → one ≡ get_or list index one → view_work one ≡ get_or (map view_work list) index (view_work one)
map_at [] index one within is = absurd (omega (arith, within))
map_at (first ∷ others) zero one within is = ap view_work is
map_at (first ∷ others) (suc n) one within is = map_at others n one (omega (arith, within)) is

module _ (index : ℕ) (works : List Work) (one : Work) (within : index < length works) (found : slice_get works index ≡ Some one) where
  pub seen_within : index < length (map view_work works)
  seen_within = subst (λ (count : ℕ). index < count) (sym (length-map works view_work)) within

  pub seen_at : view_work one ≡ get_or (map view_work works) index (view_work one)
  seen_at = map_at works index one within (read_at works index one found)

  pub behind_it : drop index (map view_work works) ≡ view_work one ∷ drop (index + 1) (map view_work works)
  behind_it = drop_more (map view_work works) index (view_work one) seen_within ∙ ap (λ (head : CWork). head ∷ drop (index + 1) (map view_work works)) (sym seen_at)

  pub whole_list : map view_work works ≡ take index (map view_work works) ++ view_work one ∷ drop (index + 1) (map view_work works)
  whole_list = sym (take-append-drop index (map view_work works)) ∙ ap (λ (rest : List CWork). take index (map view_work works) ++ rest) behind_it

  pub up_to_it : take (index + 1) (map view_work works) ≡ take index (map view_work works) ++ view_work one ∷ []
  up_to_it = rw add-one (take-suc (map view_work works) index (view_work one) seen_within ∙ ap (λ (last : CWork). take index (map view_work works) ++ last ∷ []) (sym seen_at))

  pub replaced : (new : Work) → map view_work (set works index new) ≡ take index (map view_work works) ++ view_work new ∷ drop (index + 1) (map view_work works)
  replaced new = map-set view_work works index new ∙ set_split (map view_work works) index (view_work new) seen_within
      ∙ ap (λ (number : ℕ). take index (map view_work works) ++ view_work new ∷ drop number (map view_work works)) (sym (add-one index))

  pub replaced_front : (new : Work) → take (index + 1) (map view_work (set works index new)) ≡ take index (map view_work works) ++ view_work new ∷ []
  replaced_front new = ap (take (index + 1)) (map-set view_work works index new) ∙ take_more_set (map view_work works) index (view_work new) seen_within
