-- Steps behind others.
use Rattle.std.proofs.Common.{◌≡◌, ◌∙◌, refl, ap, arith, ℕ, zero, suc, ◌+◌, ◌-◌, ◌<◌, ◌⊎◌, inl, inr, ℤ, List, [], ◌++◌, append_assoc}
use Rattle.std.proofs.lemmas.Bool.{cases_lt}
use Rattle.cr_world.specs.World.{World}
use Rattle.cx_core.specs.Trees.{CProgram}
use Rattle.cx_mean.specs.Run.{going, progress_at, c_after}
use Rattle.cx_mean.specs.Settings.{CSetting, setting_of}
use Rattle.cx_mean.specs.State.{CControl, has_ended, has_stopped, CState, c_step, step_of}
use Rattle.cx_mean.specs.Operands.{CStop}
use Rattle.cx_outside.specs.Comes.{Comes}
use Rattle.cx_outside.specs.States.{Around, world_at}
use Rattle.cx_exec.specs.Steps.{Reached, start_in}
use Rattle.cx_steps.specs.Several.{GoesBy}
use Rattle.cx_exec.proofs.Between.{both_between, none_between, quiet_between}

-- a number is below another, or so much more
pub last_or_before : (n k : ℕ) → n < suc k → (n < k) ⊎ (n ≡ k)
last_or_before zero zero less = inr refl
last_or_before (suc n) zero less = absurd (omega (arith, less))
last_or_before zero (suc k) less = inl (omega arith)
last_or_before (suc n) (suc k) less = elim (last_or_before n k (omega (arith, less))) [
  | inl before ↦ inl (omega (arith, before))
  | inr same ↦ inr (ap suc same)
]

module _ (program : CProgram) (order : List ℕ) (steps : ℕ) (now next : World → CState) (first at later : Around)
    (reached : Reached program order steps now first at) (comes : Comes (λ world. c_step (setting_of program) (now world)) next at later) where
  abbrev answers_before : List ℤ → List ℤ
  answers_before ahead = comes.between.answers ++ ahead

  starts : (ahead : List ℤ) (n : ℕ) →
      c_after (setting_of program) n (start_in program order (world_at first [] (reached.between.answers ++ comes.between.answers ++ ahead)))
      ≡ c_after (setting_of program) n (start_in program order (world_at first [] (reached.between.answers ++ answers_before ahead)))
  starts ahead n =
      ap (λ (answers : List ℤ). c_after (setting_of program) n (start_in program order (world_at first [] answers)))
      (append_assoc reached.between.answers comes.between.answers ahead)

  goes_further : (ahead : List ℤ) →
      c_after (setting_of program) (suc steps) (start_in program order (world_at first [] (reached.between.answers ++ comes.between.answers ++ ahead)))
      ≡ next (world_at later (reached.between.calls ++ comes.between.calls) ahead)
  goes_further ahead =
      starts ahead (suc steps)
      ∙ ap (λ (state : CState). c_step (setting_of program) state) (reached.goes (answers_before ahead))
      ∙ comes.goes reached.between.calls ahead

  went_further : (ahead : List ℤ) (fewer : ℕ) → fewer < suc steps →
      progress_at (c_after (setting_of program) fewer (start_in program order (world_at first [] (reached.between.answers ++ comes.between.answers ++ ahead)))).control ≡ going
  went_further ahead fewer less =
      ap (λ (state : CState). progress_at state.control) (starts ahead fewer)
      ∙ (elim (last_or_before fewer steps less) [
        | inl before ↦ reached.went_on (answers_before ahead) fewer before
        | inr same ↦
            ap (λ (n : ℕ). progress_at (c_after (setting_of program) n (start_in program order (world_at first [] (reached.between.answers ++ answers_before ahead)))).control) same
            ∙ ap (λ (state : CState). progress_at state.control) (reached.goes (answers_before ahead)) ∙ reached.goes_on _
      ])

  -- one more step
  pub one_further : ((world : World) → progress_at (next world).control ≡ going) → ((world : World) → (next world).world ≡ world) →
      Reached program order (suc steps) next first later
  one_further goes_on stands_in = record {
    between = both_between first at later reached.between comes.between;
    goes = goes_further;
    went_on = went_further;
    goes_on = goes_on;
    stands_in = stands_in;
  }

-- ---- steps behind others that the outside takes no part in

after_both : (setting : CSetting) (more steps : ℕ) (state : CState) → c_after setting (more + steps) state ≡ c_after setting more (c_after setting steps state)
after_both setting zero steps state = let none : zero + steps ≡ steps = omega arith in ap (λ (n : ℕ). c_after setting n state) none
after_both setting (suc more) steps state =
    let one_more : suc more + steps ≡ suc (more + steps) = omega arith in
    ap (λ (n : ℕ). c_after setting n state) one_more ∙ ap (λ (one : CState). c_step setting one) (after_both setting more steps state)

module _ (program : CProgram) (order : List ℕ) (steps count : ℕ) (now next : World → CState) (first at later : Around)
    (reached : Reached program order steps now first at) (goes : GoesBy (setting_of program) count now next at later) where
  abbrev start : List ℤ → CState
  start ahead = start_in program order (world_at first [] (reached.between.answers ++ ahead))

  both_are : (ahead : List ℤ) (more : ℕ) → c_after (setting_of program) (more + steps) (start ahead) ≡ c_after (setting_of program) more (now (world_at at reached.between.calls ahead))
  both_are ahead more = after_both (setting_of program) more steps (start ahead) ∙ ap (λ (state : CState). c_after (setting_of program) more state) (reached.goes ahead)

  went_by : (ahead : List ℤ) (fewer : ℕ) → fewer < count + steps → progress_at (c_after (setting_of program) fewer (start ahead)).control ≡ going
  went_by ahead fewer less = elim (cases_lt fewer steps) [
    | inl before ↦ reached.went_on ahead fewer before
    | inr behind ↦
        let same : fewer ≡ (fewer - steps) + steps = omega (arith, behind) in
        ap (λ (n : ℕ). progress_at (c_after (setting_of program) n (start ahead)).control) same
        ∙ ap (λ (state : CState). progress_at state.control) (both_are ahead (fewer - steps))
        ∙ goes.went_on reached.between.calls ahead (fewer - steps) (omega (arith, less, behind))
  ]

  -- so many more
  pub further_by : Reached program order (count + steps) next first later
  further_by = record {
    between = quiet_between first at later reached.between goes.quiet;
    goes = λ ahead. both_are ahead count ∙ goes.goes reached.between.calls ahead;
    went_on = went_by;
    goes_on = goes.goes_on;
    stands_in = goes.stands_in;
  }

-- before the first step
pub at_start : (program : CProgram) (order : List ℕ) (now : World → CState) (first : Around) → ((world : World) → start_in program order world ≡ now world) →
    ((world : World) → progress_at (now world).control ≡ going) → ((world : World) → (now world).world ≡ world) → Reached program order 0 now first first
at_start program order now first is goes_on stands_in = record {
  between = none_between first;
  goes = λ ahead. is (world_at first [] ahead);
  went_on = λ ahead fewer less. absurd (omega (arith, less));
  goes_on = goes_on;
  stands_in = stands_in;
}

-- ---- a run that goes no further stays where it is

pub stays_ended : (setting : CSetting) (state : CState) (status : ℤ) → state.control ≡ has_ended status → c_step setting state ≡ state
stays_ended setting state status is = ap (λ (one : CControl). step_of setting state one) is

pub stays_stopped : (setting : CSetting) (state : CState) (stop : CStop) → state.control ≡ has_stopped stop → c_step setting state ≡ state
stays_stopped setting state stop is = ap (λ (one : CControl). step_of setting state one) is

pub stays : (setting : CSetting) (more steps : ℕ) (start state : CState) → c_after setting steps start ≡ state → c_step setting state ≡ state → c_after setting (more + steps) start ≡ state
stays setting zero steps start state is still = let none : zero + steps ≡ steps = omega arith in ap (λ (n : ℕ). c_after setting n start) none ∙ is
stays setting (suc more) steps start state is still =
    let one_more : suc more + steps ≡ suc (more + steps) = omega arith in
    ap (λ (n : ℕ). c_after setting n start) one_more
    ∙ ap (λ (one : CState). c_step setting one) (stays setting more steps start state is still) ∙ still
