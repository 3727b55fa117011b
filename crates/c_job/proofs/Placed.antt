-- Ends that the run of units may have: an undefined step stands in one of them, and no object lacks room.
use Rattle.std.proofs.Common.{◌≡◌, refl, sym, ap, subst, ◌∙◌, arith, ℕ, zero, suc, ◌+◌, ◌<◌, false, true≢false, List, [], ◌∷◌, length, Some, None, slice_get}
use Rattle.c_job.specs.Ends.{MayEnd, is_wrong}
use Rattle.c_job.specs.Meaning.{AreRun, progress_of}
use Rattle.cr_base.specs.declared.rule.URule.{URule}
use Rattle.cx_core.specs.Trees.{CUnit}
use Rattle.cx_links.specs.Program.{linked}
use Rattle.cx_mean.specs.Run.{CProgress}
use Rattle.cx_mean.specs.Run as c
use Rattle.cr_world.specs.World.{trail_of}
use Rattle.cx_placed.proofs.Linked.{linked_trees_stand_in_units}
use Rattle.cx_placed.proofs.Units.{meant_trees_stand_in_their_unit}
use Rattle.cx_placed.specs.Places.{StandIn}
use Rattle.cx_placed.specs.Stands.{StandInThemselves}
use Rattle.cx_stops.proofs.Full.{unlimited_runs_are_never_full}
use Rattle.cx_stops.proofs.States.{undefined_steps_stand_among}
use Rattle.cx_stops.specs.Full.{NeverFull}
use Rattle.cx_units.specs.Broken.{IsTypedAs, AreTyped}
use Rattle.ext_calls.specs.Host.{HostState}
use Rattle.run_ends.specs.Runs.{undefined, full}
use Rattle.run_ends.specs.declared.end.End.{End}
use Rattle.run_ends.specs.declared.end.End.TheVariants as end

-- ---- units

same_count : (number : ℕ) (units : List (List ℕ)) (cores : List CUnit) → AreTyped number units cores → length cores ≡ length units
same_count number [] [] typed = refl
same_count number [] (core ∷ cores) typed = absurd typed
same_count number (bytes ∷ units) [] typed = absurd typed
same_count number (bytes ∷ units) (core ∷ cores) typed = ap suc (same_count (suc number) units cores typed.1)

typed_stands : (number : ℕ) (bytes : List ℕ) (core : CUnit) → IsTypedAs number bytes core → StandIn (λ unit. unit ≡ number) core.objects core.functions
typed_stands number bytes core typed =
    subst (λ (one : CUnit). StandIn (λ unit. unit ≡ number) one.objects one.functions) typed.meaning (meant_trees_stand_in_their_unit number typed.tree)

stands_from : (from at : ℕ) (units : List (List ℕ)) (cores : List CUnit) (one : CUnit) → AreTyped from units cores → slice_get cores at ≡ Some one
    → StandIn (λ unit. unit ≡ at + from) one.objects one.functions
stands_from from at units [] one typed is = cc
stands_from from at [] (core ∷ cores) one typed is = absurd typed
stands_from from zero (bytes ∷ units) (core ∷ cores) one typed is =
    let same : core ≡ one = cc (is) in
    subst (λ (it : CUnit). StandIn (λ unit. unit ≡ 0 + from) it.objects it.functions) same (subst (λ n. StandIn (λ unit. unit ≡ n) core.objects core.functions) (none from) (typed_stands from bytes core typed.0))
  where
    none : (n : ℕ) → n ≡ 0 + n
    none n = omega arith
stands_from from (suc at) (bytes ∷ units) (core ∷ cores) one typed is =
    subst (λ n. StandIn (λ unit. unit ≡ n) one.objects one.functions) (moved at from) (stands_from (suc from) at units cores one typed.1 is)
  where
    moved : (m n : ℕ) → m + suc n ≡ suc m + n
    moved m n = omega arith

stand_in_themselves : (units : List (List ℕ)) (cores : List CUnit) → AreTyped 0 units cores → StandInThemselves cores
stand_in_themselves units cores typed number one is = subst (λ n. StandIn (λ unit. unit ≡ n) one.objects one.functions) (none number) (stands_from 0 number units cores one typed is)
  where
    none : (n : ℕ) → n + 0 ≡ n
    none n = omega arith

-- ---- how far a run comes, in the words of both languages

undefined_in : (come : CProgress) (rule : URule) (unit line : ℕ) → progress_of come ≡ undefined rule unit line → come ≡ c.undefined rule unit line
undefined_in c.going rule unit line is = absurd (cc (is))
undefined_in (c.ended status) rule unit line is = absurd (cc (is))
undefined_in (c.undefined by at text) rule unit line is =
    let by_is : by ≡ rule = cc (is) in
    let at_is : at ≡ unit = cc (is) in
    let text_is : text ≡ line = cc (is) in
    ap (λ one. c.undefined one at text) by_is ∙ ap (λ one. c.undefined rule one text) at_is ∙ ap (λ one. c.undefined rule unit one) text_is
undefined_in (c.is_stuck at text) rule unit line is = absurd (cc (is))
undefined_in (c.is_full need left) rule unit line is = absurd (cc (is))
undefined_in (c.asks_for call) rule unit line is = absurd (cc (is))
undefined_in c.is_astray rule unit line is = absurd (cc (is))

not_full : (come : CProgress) (need left : ℕ) → NeverFull come → progress_of come ≡ full need left → ⊥
not_full c.going need left never is = cc (is)
not_full (c.ended status) need left never is = cc (is)
not_full (c.undefined by at text) need left never is = cc (is)
not_full (c.is_stuck at text) need left never is = cc (is)
not_full (c.is_full more less) need left never is = never
not_full (c.asks_for call) need left never is = cc (is)
not_full c.is_astray need left never is = cc (is)

-- ---- ends

module _ (units : List (List ℕ)) (order : List ℕ) (steps : ℕ) (host later : HostState) (some : 0 < length units) where
  placed : (rule : URule) (unit line : ℕ) → AreRun units order steps host later (end.Undefined rule unit line) → unit < length units
  placed rule unit line are =
      let count : length are.cores ≡ length units = same_count 0 units are.cores are.unbroken.typed in
      subst (λ n. unit < n) count
      (undefined_steps_stand_among (λ one. one < length are.cores) (linked are.cores) order (trail_of None) (record { answers = are.run.trail }) steps rule unit line
      (linked_trees_stand_in_units are.cores (stand_in_themselves units are.cores are.unbroken.typed))
      (subst (λ n. 0 < n) (sym count) some)
      (undefined_in _ rule unit line are.run.comes))

  pub may_end : (end_is : End) → AreRun units order steps host later end_is → is_wrong end_is ≡ false → MayEnd (length units) end_is
  may_end (end.Ended status) are right = tt
  may_end (end.Undefined rule unit line) are right = placed rule unit line are
  may_end (end.Wrong cause) are right = absurd (true≢false right)
  may_end end.StepsUsed are right = tt
  may_end (end.StoreFull need left) are right =
      not_full _ need left (unlimited_runs_are_never_full (linked are.cores) order (record { answers = are.run.trail }) steps) are.run.comes
  may_end (end.CallRefused name) are right = tt
  may_end end.HostFailed are right = tt
