-- What is told of the end of a run: its exit status, and the line that is reported.
use Rattle.std.specs.Prelude.{ℕ, ◌<◌, ℤ, List, [], ◌++◌, codes, decimal, slice_get, unwrap_or, ⊤}
use Rattle.std.specs.Fmt.{signed_decimal}
use Rattle.cr_base.specs.declared.rule.URule.{URule}
use Rattle.rs_mean.specs.declared.cause.Cause.{Cause}
use Rattle.run_ends.specs.declared.end.End.{End}
use Rattle.run_ends.specs.declared.end.End.TheVariants as end
use Rattle.run_ends.specs.declared.told.Told.{Told}
use Rattle.run_ends.specs.declared.told.Told.TheVariants as held
use Rattle.run_ends.specs.Texts.{code_of, words_of, cause_of}

-- what is told of a run
pub data Tale : Type 0 where
  -- it ended with a status
  ended : (status : ℤ) → Tale
  -- it is undefined at a line of a file, by a rule
  undefined : (file : List ℕ) (line : ℕ) → URule → Tale
  -- it is wrong
  wrong : Cause → Tale
  -- it goes on after so many steps or units
  steps_used : (steps : ℕ) → Tale
  -- an object doesn't fit the store: the bytes that it needs, and those that are left
  store_full : (need left : ℕ) → Tale
  -- the outside failed at a call
  host_failed : Tale
  -- the host doesn't take a call of the function with this name
  call_refused : (name : List ℕ) → Tale

-- an undefined step stands in one of so many units
abbrev pub IsPlacedIn : (count : ℕ) → End → Type 0
IsPlacedIn count (end.Undefined rule unit line) = unit < count
IsPlacedIn count end = ⊤

-- the name of the unit with a number, where there is such a unit
abbrev pub name_at : List (List ℕ) → ℕ → List ℕ
name_at names number = unwrap_or (slice_get names number) []

-- what is told of an end, where the units have these names and so many steps were given
abbrev pub tale_of : (names : List (List ℕ)) (steps : ℕ) → End → Tale
tale_of names steps (end.Ended status) = ended status
tale_of names steps (end.Undefined rule unit line) = undefined (name_at names unit) line rule
tale_of names steps (end.Wrong cause) = wrong cause
tale_of names steps end.StepsUsed = steps_used steps
tale_of names steps (end.StoreFull need left) = store_full need left
tale_of names steps (end.CallRefused name) = call_refused name
tale_of names steps end.HostFailed = host_failed

-- the same, as it is held
abbrev pub told_of : Told → Tale
told_of (held.Ended status) = ended status
told_of (held.Undefined file line rule) = undefined file.now line rule
told_of (held.Wrong cause) = wrong cause
told_of (held.StepsUsed steps) = steps_used steps
told_of (held.StoreFull need left) = store_full need left
told_of held.HostFailed = host_failed
told_of (held.CallRefused name) = call_refused name

-- its exit status
abbrev pub status_of : Tale → ℕ
status_of (ended status) = 0
status_of (undefined file line rule) = 5
status_of (wrong cause) = 6
status_of (steps_used steps) = 7
status_of (store_full need left) = 8
status_of host_failed = 9
status_of (call_refused name) = 13

-- ---- its report

unfoldable pub ended_report : ℤ → List ℕ
ended_report status = codes "c2rs: ended " ++ (signed_decimal status ++ codes "\n")

unfoldable pub undefined_report : List ℕ → ℕ → URule → List ℕ
undefined_report file line rule =
    file ++ (codes ":" ++ (decimal line ++ (codes ": undefined: " ++ (code_of rule ++ (codes " " ++ (words_of rule ++ codes "\n"))))))

unfoldable pub wrong_report : Cause → List ℕ
wrong_report cause = codes "c2rs: wrong: " ++ (cause_of cause ++ codes "\n")

unfoldable pub steps_report : ℕ → List ℕ
steps_report steps = codes "c2rs: steps used: " ++ (decimal steps ++ codes "\n")

unfoldable pub full_report : ℕ → ℕ → List ℕ
full_report need left = codes "c2rs: store full: need " ++ (decimal need ++ (codes ", left " ++ (decimal left ++ codes "\n")))

unfoldable pub failed_report : List ℕ
failed_report = codes "c2rs: host failed\n"

unfoldable pub refused_report : List ℕ → List ℕ
refused_report name = codes "c2rs: call refused: " ++ (name ++ codes "\n")

abbrev pub report_of : Tale → List ℕ
report_of (ended status) = ended_report status
report_of (undefined file line rule) = undefined_report file line rule
report_of (wrong cause) = wrong_report cause
report_of (steps_used steps) = steps_report steps
report_of (store_full need left) = full_report need left
report_of host_failed = failed_report
report_of (call_refused name) = refused_report name
