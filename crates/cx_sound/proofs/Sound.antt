-- Typed units from their bytes, and the program that they make (ISO C99, 5.1.1.1).
use Rattle.std.proofs.Common.{◌≡◌, refl, ap, ◌∙◌, subst, ℕ, zero, suc, ◌+◌, List, [], ◌∷◌, Some, All, slice_get, arith}
use Rattle.cr_base.specs.declared.rule.URule.{URule}
use Rattle.cx_core.specs.Linked.{IsTypedUnit, IsLinked}
use Rattle.cx_core.specs.Trees.{CUnit}
use Rattle.cx_links.specs.Program.{linked}
use Rattle.cx_typed.proofs.Lexed.{spelled_constants}
use Rattle.cx_typed_files.proofs.Covered.{covered_mentions}
use Rattle.cx_typed_files.proofs.Defining.{defining_mentions}
use Rattle.cx_typed_files.proofs.ValidUnits.{derived_fits, read_units}
use Rattle.cx_typed_files.specs.Covered.{IsMentionCovered}
use Rattle.cx_typed_files.specs.Defining.{IsDefinitionThere}
use Rattle.cx_typed_files.specs.FileUnits.{AreSpelledExternals}
use Rattle.cx_typed_links.proofs.LinksHold.{linked_units_make_programs}
use Rattle.cx_mean.proofs.Functions.{leftmost_is_run}
use Rattle.cx_mean.specs.Leftmost.{c_shown}
use Rattle.cx_mean.specs.Operands.{CWhy, breaks, stuck, CStop}
use Rattle.cx_mean.specs.Run.{CSeen, CProgress, going, ended, undefined, is_stuck, is_full, asks_for, is_astray, progress_of_fault, progress_of_stop, c_run, leftmost}
use Rattle.cr_world.specs.World.{open_ended, wrong, full, asks, astray}
use Rattle.cx_typed_runs.proofs.OpenRuns.{open_runs_want_nothing}
use Rattle.cx_typed_runs.proofs.StatesTyped.{runs_are_never_stuck}
use Rattle.cx_typed_runs.specs.Runs.{HasNamedProgress, WantsNothing}
use Rattle.cx_sound.specs.Sound.{MeansUnit, MeanUnits, UnbrokenUnitsAreLinked, UnbrokenUnitsNeverStick, GoesEndsOrBreaks, UnbrokenUnitsHaveOutcomes, LinkedProgramsNeverStick, LinkedProgramsHaveOutcomes, BreaksRule, LinkedProgramsBreakRules}

-- ---- units by their numbers

-- the unit with a number is that of some bytes
record IsOfBytes (number : ℕ) (one : CUnit) : Type 0 where
  bytes : List ℕ
  means : MeansUnit number bytes one

unit_of : (from at : ℕ) (given : List (List ℕ)) (units : List CUnit) (one : CUnit) → MeanUnits from given units → slice_get units at ≡ Some one → IsOfBytes (from + at) one
unit_of from at [] [] one mean e = cc (e)
unit_of from at [] (unit ∷ units) one mean e = absurd mean
unit_of from at (bytes ∷ given) [] one mean e = absurd mean
unit_of from zero (bytes ∷ given) (unit ∷ units) one mean e =
    let same : unit ≡ one = cc (e) in
    record { bytes = bytes; means = subst (λ n. MeansUnit n bytes one) (none from) (subst (MeansUnit from bytes) same mean.0) }
  where
    none : (a : ℕ) → a ≡ a + 0
    none a = omega arith
unit_of from (suc at) (bytes ∷ given) (unit ∷ units) one mean e =
    let later = unit_of (suc from) at given units one mean.1 e in
    record { bytes = later.bytes; means = subst (λ n. MeansUnit n later.bytes one) (moved from at) later.means }
  where
    moved : (a b : ℕ) → suc a + b ≡ a + suc b
    moved a b = omega arith

unit_at : (given : List (List ℕ)) (units : List CUnit) (number : ℕ) (one : CUnit) → MeanUnits 0 given units → slice_get units number ≡ Some one → IsOfBytes number one
unit_at given units number one mean e = subst (λ n. IsOfBytes n one) (none number) (unit_of 0 number given units one mean e)
  where
    none : (a : ℕ) → 0 + a ≡ a
    none a = omega arith

-- ---- what is known of each

spelled_unit : (number : ℕ) (one : CUnit) (of : IsOfBytes number one) → AreSpelledExternals of.means.tree.parts
spelled_unit number one of = derived_fits of.means.tokens of.means.tree of.means.derived (spelled_constants of.bytes of.means.tokens of.means.are_bytes of.means.spelled)

typed_unit : (number : ℕ) (one : CUnit) → IsOfBytes number one → IsTypedUnit number one
typed_unit number one of =
    subst (IsTypedUnit number) of.means.meaning (read_units number of.bytes of.means.tokens of.means.tree of.means.are_bytes of.means.spelled of.means.derived of.means.unbroken)

covered_unit : (number : ℕ) (one : CUnit) → IsOfBytes number one → All (IsMentionCovered one) one.mentions
covered_unit number one of =
    subst (λ core. All (IsMentionCovered core) core.mentions) of.means.meaning (covered_mentions number of.means.tree (spelled_unit number one of) of.means.unbroken)

defining_unit : (number : ℕ) (one : CUnit) → IsOfBytes number one → All (IsDefinitionThere one) one.mentions
defining_unit number one of =
    subst (λ core. All (IsDefinitionThere core) core.mentions) of.means.meaning (defining_mentions number of.means.tree (spelled_unit number one of) of.means.unbroken)

-- ---- programs

pub unbroken_units_are_linked : UnbrokenUnitsAreLinked
unbroken_units_are_linked given units sound =
    linked_units_make_programs units
    (λ number one e. typed_unit number one (unit_at given units number one sound.mean e))
    (λ number one e. covered_unit number one (unit_at given units number one sound.mean e))
    (λ number one e. defining_unit number one (unit_at given units number one sound.mean e))
    sound.unbroken

pub unbroken_units_never_stick : UnbrokenUnitsNeverStick
unbroken_units_never_stick given units order terms outside steps sound =
    runs_are_never_stuck (linked units) order terms outside steps (unbroken_units_are_linked given units sound)

no_fourth : (progress : CProgress) → HasNamedProgress progress → WantsNothing progress → GoesEndsOrBreaks progress
no_fourth going named wants = tt
no_fourth (ended status) named wants = tt
no_fourth (undefined rule unit line) named wants = tt
no_fourth (is_stuck unit line) named wants = absurd named
no_fourth (is_full need left) named wants = absurd wants
no_fourth (asks_for call) named wants = absurd wants
no_fourth is_astray named wants = absurd wants

pub unbroken_units_have_outcomes : UnbrokenUnitsHaveOutcomes
unbroken_units_have_outcomes given units order outside steps sound =
    no_fourth (c_run (linked units) order outside steps).progress
    (unbroken_units_never_stick given units order open_ended outside steps sound)
    (open_runs_want_nothing (linked units) order outside steps)

-- ---- linked programs

pub linked_programs_never_stick : LinkedProgramsNeverStick
linked_programs_never_stick program order terms outside steps are = runs_are_never_stuck program order terms outside steps are

pub linked_programs_have_outcomes : LinkedProgramsHaveOutcomes
linked_programs_have_outcomes program order outside steps are =
    no_fourth (c_run program order outside steps).progress (linked_programs_never_stick program order open_ended outside steps are) (open_runs_want_nothing program order outside steps)

broken_by : (why : CWhy) (unit line : ℕ) → GoesEndsOrBreaks (progress_of_fault why unit line) → (rule : URule) × (why ≡ breaks rule)
broken_by (breaks rule) unit line is = (rule, refl)
broken_by stuck unit line is = absurd is

stops_by : (stop : CStop) → GoesEndsOrBreaks (progress_of_stop stop) → BreaksRule stop
stops_by (wrong fault) is = broken_by fault.why fault.place.unit fault.place.line is
stops_by (full need left) is = is
stops_by (asks call) is = is
stops_by astray is = is

pub linked_programs_break_rules : LinkedProgramsBreakRules
linked_programs_break_rules program outside steps stop world are is =
    let shown : (c_run program leftmost outside steps).progress ≡ progress_of_stop stop =
    ap (λ (one : CSeen). one.progress) (leftmost_is_run program open_ended outside steps ∙ ap c_shown is) in
    stops_by stop (subst GoesEndsOrBreaks shown (linked_programs_have_outcomes program leftmost outside steps are))
