-- Operands that go on one after the other.
use Rattle.std.proofs.Common.{◌≡◌, refl, sym, ◌∙◌, ap, ℕ, ◌+◌, ◌<◌, ◌≤◌, List, [], ◌∷◌, ◌++◌, map, subst, take, length, get_or, set, zero, suc, add-one, arith, length-set, get_or-set_other, take_all, slice_get, Some, rules, Option}
use Rattle.std.proofs.lemmas.List.{map-append}
use Rattle.std.proofs.lemmas.Option.{gets}
use lib.Seq.{take-suc, take-suc-set}
use Rattle.cx_mean.specs.Operands.{CValue}
use Rattle.cx_mean.specs.Work.{CWork, CWorks, more_works, resumed, all_resumed}
use Rattle.cx_work.specs.declared.operand.Finished.{Finished}
use Rattle.cx_work.specs.declared.work.Work.{Work}
use Rattle.cx_work.specs.Resumes.{IsFor, at_hand}
use Rattle.cx_work.specs.Weights.{weight, weights}
use Rattle.cx_work.specs.Views.{view_work, view_works, works_of}
use Rattle.cx_work.specs.Waiting.{waiting_calls, waiting_among}

abbrev gone_on : CValue → Work → CWork
gone_on value one = resumed value (view_work one)

-- the calls that wait in operands
abbrev calls_of : List Work → ℕ
calls_of works = waiting_among (view_works works)

calls_and_one : (works : List Work) (one : Work) → calls_of (works ++ one ∷ []) ≡ calls_of works + waiting_calls (view_work one)
calls_and_one [] one = omega arith
calls_and_one (first ∷ others) one =
    let rest : calls_of (others ++ one ∷ []) ≡ calls_of others + waiting_calls (view_work one) = calls_and_one others one in
    omega (arith, rest)

calls_in_front : (works : List Work) (count : ℕ) → calls_of (take count works) ≤ calls_of works
calls_in_front works zero = omega arith
calls_in_front [] (suc n) = omega arith
calls_in_front (first ∷ others) (suc n) =
    let rest : calls_of (take n others) ≤ calls_of others = calls_in_front others n in
    omega (arith, rest)

-- the operands up to an index went on
pub record IsFilled (index : ℕ) (old now : List Work) (before held : Option Finished) : Type 0 where
  pub goes : (value : CValue) → IsFor value before → IsFor value held × (map view_work (take index now) ≡ map (gone_on value) (take index old))
  -- a value for each call that waited there
  pub spent : calls_of (take index old) + at_hand held ≡ at_hand before

all_gone_on : (value : CValue) (works : List Work) → works_of (map (gone_on value) works) ≡ all_resumed value (view_works works)
all_gone_on value [] = refl
all_gone_on value (first ∷ others) = ap (λ (rest : CWorks). more_works (gone_on value first) rest) (all_gone_on value others)

take_more : {A : Type 0} (list : List A) (index : ℕ) (one : A) → index < length list → take (index + 1) (set list index one) ≡ take index list ++ one ∷ []
take_more list index one within = rw add-one (take-suc-set list index one within)

take_next : (list : List Work) (index : ℕ) (one : Work) → index < length list → one ≡ get_or list index one → take (index + 1) list ≡ take index list ++ one ∷ []
take_next list index one within is =
    rw add-one (take-suc list index one within ∙ ap (λ (last : Work). take index list ++ last ∷ []) (sym is))

read_at : (list : List Work) (index : ℕ) (one : Work) → slice_get list index ≡ Some one → one ≡ get_or list index one
read_at list index one found = search (rules, gets)

one_more : (done others : List Work) (value : CValue) (one new : Work) → map view_work done ≡ map (gone_on value) others → view_work new ≡ gone_on value one →
    map view_work (done ++ new ∷ []) ≡ map (gone_on value) (others ++ one ∷ [])
one_more done others value one new same is =
    map-append view_work done (new ∷ []) ∙ ap (λ (last : CWork). map view_work done ++ last ∷ []) is
    ∙ ap (λ (first : List CWork). first ++ gone_on value one ∷ []) same ∙ sym (map-append (gone_on value) others (one ∷ []))

-- the operands from an index on are as they were
abbrev pub AreKept : ℕ → (old now : List Work) → Type 0
AreKept index old now = (length now ≡ length old) × ((place : ℕ) (other : Work) → index ≤ place → get_or now place other ≡ get_or old place other)

above : (index place : ℕ) → index + 1 ≤ place → place ≡ index → ⊥
above index place behind same = absurd (omega (arith, behind, same))

pub kept_on : (index : ℕ) (old now : List Work) (new : Work) → AreKept index old now → AreKept (index + 1) old (set now index new)
kept_on index old now new kept =
    (length-set now index new ∙ kept.0, λ place other behind. get_or-set_other now index place new other (above index place behind) ∙ kept.1 place other (omega (arith, behind)))

one_at : (index : ℕ) (old now : List Work) (one : Work) → AreKept index old now → index < length old → slice_get now index ≡ Some one →
    take (index + 1) old ≡ take index old ++ one ∷ []
one_at index old now one kept inside found =
    take_next old index one inside (read_at now index one found ∙ kept.1 index one (omega arith))

calls_up_to : (index : ℕ) (old now : List Work) (one : Work) → AreKept index old now → index < length old → slice_get now index ≡ Some one →
    calls_of (take (index + 1) old) ≡ calls_of (take index old) + waiting_calls (view_work one)
calls_up_to index old now one kept inside found =
    ap calls_of (one_at index old now one kept inside found) ∙ calls_and_one (take index old) one

all_spent : (so_far here both held later first : ℕ) → both ≡ so_far + here → so_far + held ≡ first → here + later ≡ held → both + later ≡ first
all_spent so_far here both held later first both_is spent step = omega (arith, both_is, spent, step)

pub filled_on : (index : ℕ) (old now : List Work) (before held later : Option Finished) (one new : Work) → AreKept index old now → index < length old →
    slice_get now index ≡ Some one →
    ((value : CValue) → IsFor value held → IsFor value later × (view_work new ≡ gone_on value one)) × (waiting_calls (view_work one) + at_hand later ≡ at_hand held) →
    IsFilled index old now before held → IsFilled (index + 1) old (set now index new) before later
filled_on index old now before held later one new kept inside found step filled = record {
  goes = λ value given.
      let within : index < length now = subst (λ (count : ℕ). index < count) (sym kept.0) inside in
      let first = filled.goes value given in
      let next = step.0 value first.0 in (
        next.0,
        ap (map view_work) (take_more now index new within)
            ∙ one_more (take index now) (take index old) value one new first.1 next.1
            ∙ sym (ap (map (gone_on value)) (one_at index old now one kept inside found)),
      );
  spent = all_spent (calls_of (take index old)) (waiting_calls (view_work one)) (calls_of (take (index + 1) old)) (at_hand held) (at_hand later) (at_hand before)
      (calls_up_to index old now one kept inside found) filled.spent step.1;
}

pub filled_at_end : (index : ℕ) (old now : List Work) (before held : Option Finished) → length now ≡ length old → length old ≤ index → IsFilled index old now before held →
    ((value : CValue) → IsFor value before → IsFor value held × (view_works now ≡ all_resumed value (view_works old)))
    × (waiting_among (view_works old) + at_hand held ≡ at_hand before)
filled_at_end index old now before held same behind filled = (
  λ value given.
      let all = filled.goes value given in (
        all.0,
        ap works_of (ap (map view_work) (sym (take_all index now (subst (λ (count : ℕ). count ≤ index) (sym same) behind))) ∙ all.1
            ∙ ap (map (gone_on value)) (take_all index old behind)) ∙ all_gone_on value old,
      ),
  subst (λ (works : List Work). calls_of works + at_hand held ≡ at_hand before) (take_all index old behind) filled.spent,
)

too_many : (so_far here both whole held first : ℕ) → both ≡ so_far + here → both ≤ whole → so_far + held ≡ first → held < here → first < whole
too_many so_far here both whole held first both_is within spent less = omega (arith, both_is, within, spent, less)

-- more calls wait than there are values
pub not_filled : (index : ℕ) (old now : List Work) (before held : Option Finished) (one : Work) → AreKept index old now → index < length old →
    slice_get now index ≡ Some one → at_hand held < waiting_calls (view_work one) → IsFilled index old now before held →
    at_hand before < waiting_among (view_works old)
not_filled index old now before held one kept inside found less filled =
    too_many (calls_of (take index old)) (waiting_calls (view_work one)) (calls_of (take (index + 1) old)) (calls_of old) (at_hand held) (at_hand before)
    (calls_up_to index old now one kept inside found) (calls_in_front old (index + 1)) filled.spent less

-- an operand is smaller than all of them
is_smaller : (works : List Work) (index : ℕ) (one : Work) → index < length works → one ≡ get_or works index one → weight one < weights works
is_smaller [] index one within is = absurd (omega (arith, within))
is_smaller (first ∷ others) zero one within is =
    let same : weight one ≡ weight first = ap weight is in
    let all : weights (first ∷ others) ≡ suc (weight first + weights others) = refl in
    omega (arith, same, all)
is_smaller (first ∷ others) (suc n) one within is =
    let below : n < length others = omega (arith, within) in
    let inner : weight one < weights others = is_smaller others n one below is in
    let all : weights (first ∷ others) ≡ suc (weight first + weights others) = refl in
    omega (arith, inner, all)

pub one_is_smaller : (index : ℕ) (old now : List Work) (one : Work) → AreKept index old now → index < length old → slice_get now index ≡ Some one → weight one < weights old
one_is_smaller index old now one kept inside found =
    is_smaller old index one inside
    (read_at now index one found ∙ kept.1 index one (omega arith))
