-- How the layouts of all records are built: record by record, each once those that it holds are there. Named by the contracts of
-- the parts of `build` alone.
use Rattle.std.specs.Prelude.{◌≡◌, ℕ, suc, ◌+◌, ◌<◌, Bool, false, if◌then◌else◌, List, [], ◌∷◌, Option, None, Some, is_some}
use Rattle.std.specs.List.{list_all}
use Rattle.cx_core.specs.Layouts.{CLayouts, CRow, row_at, whole_extent, passes, completed_count}
use Rattle.cx_core.specs.Trees.{CMember, CRecord, CTypes}
use Rattle.cx_layout.specs.Calls.{AddsRecord, record_at}

-- how many completed records, from a number on, aren't laid out
abbrev pub unlaid_from : ℕ → List (Option CRecord) → CLayouts → ℕ
unlaid_from number [] layouts = 0
unlaid_from number (None ∷ others) layouts = unlaid_from (suc number) others layouts
unlaid_from number (Some one ∷ others) layouts =
    (if is_some (row_at layouts number) then 0 else 1) + unlaid_from (suc number) others layouts

abbrev pub unlaid : CTypes → CLayouts → ℕ
unlaid types layouts = unlaid_from 0 types.records layouts

-- all members are complete by now
abbrev pub are_complete : CLayouts → List CMember → Bool
are_complete layouts members = list_all (λ one. is_some (whole_extent layouts one.type)) members

-- every record that is laid out is so after as many passes as there are of them
pub record AreBuilt (types : CTypes) (layouts : CLayouts) : Type 0 where
  pub stage : ℕ
  pub counted : stage + unlaid types layouts ≡ completed_count types.records
  pub sound : (number : ℕ) (row : CRow) → row_at layouts number ≡ Some row → row_at (passes stage types) number ≡ Some row

-- no record in front of a number can be laid out next
abbrev pub IsNoneReady : CTypes → CLayouts → ℕ → Type 0
IsNoneReady types layouts below =
    (number : ℕ) (one : CRecord) → number < below → record_at types number ≡ Some one → row_at layouts number ≡ None
    → are_complete layouts one.members ≡ false

-- a record was laid out that wasn't
pub record AddsNew (old : CLayouts) (one : CRecord) (new : CLayouts) : Type 0 where
  pub unlaid_before : row_at old one.number ≡ None
  pub adds : AddsRecord old one new

-- why a record isn't laid out next
abbrev pub IsPassed : CLayouts → CRecord → Type 0
IsPassed layouts one = row_at layouts one.number ≡ None → are_complete layouts one.members ≡ false
