-- The ready nodes among operands, counted one operand after the other.
use Rattle.std.proofs.Common.{◌≡◌, sym, ◌∙◌, ap, ℕ, ◌+◌, ◌<◌, List, ◌∷◌, drop, length, get_or, Option, arith}
use Rattle.std.proofs.lemmas.List.{drop_more}
use Rattle.cx_mean.specs.Work.{ready, ready_among}
use Rattle.cx_work.specs.declared.work.Work.{Work}
use Rattle.cx_work.specs.Counts.{Counts}
use Rattle.cx_work.specs.Views.{view_work, view_works}

-- what was counted of operands, with those that are left, is the count of all
pub record IsLeft (works : List Work) (count : Option ℕ) (index : ℕ) : Type 0 where
  pub done : ℕ
  pub counts : Counts count done
  pub sums : done + ready_among (view_works (drop index works)) ≡ ready_among (view_works works)

split_sum : (done one rest left all : ℕ) → left ≡ one + rest → done + left ≡ all → (done + one) + rest ≡ all
split_sum done one rest left all left_is sums = omega (arith, left_is, sums)

pub sums_on : (works : List Work) (index : ℕ) (work : Work) (count one sum : Option ℕ) → index < length works → work ≡ get_or works index work →
    Counts one (ready (view_work work)) → ((first second : ℕ) → Counts count first → Counts one second → Counts sum (first + second)) →
    IsLeft works count index → IsLeft works sum (index + 1)
sums_on works index work count one sum within is counts adds before = record {
  done = before.done + ready (view_work work);
  counts = adds before.done (ready (view_work work)) before.counts counts;
  sums = split_sum before.done (ready (view_work work)) (ready_among (view_works (drop (index + 1) works))) (ready_among (view_works (drop index works)))
      (ready_among (view_works works))
      (ap (λ (left : List Work). ready_among (view_works left)) (drop_more works index work within
      ∙ ap (λ (first : Work). first ∷ drop (index + 1) works) (sym is))) before.sums;
}
