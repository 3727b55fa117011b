-- Laws of the runs, which functions with empty bodies carry.
use Rattle.std.specs.Prelude.{◌≡◌, ℕ, ◌+◌, ℤ, List, ◌++◌}
use Rattle.ext_calls.specs.Outside.{Outside}
use Rattle.straight_rust_mean.specs.Run.{RProgress, going, ended, wrong, rs_run}
use Rattle.straight_rust_tree.specs.Tree.{CrateTree}

-- one list is the front of another
abbrev pub IsFrontOf : {A : Type 0} → List A → List A → Type 0
IsFrontOf {A} front whole = (rest : List A) × (whole ≡ front ++ rest)

-- a run that goes on within its budget
abbrev pub IsGoing : RProgress → Type 0
IsGoing going = Unit {0}
IsGoing (ended status) = ⊥
IsGoing (wrong cause) = ⊥

-- a run that doesn't go on shows the same within every greater budget
abbrev pub MoreBudgetContinues : Type 0
MoreBudgetContinues =
    (whole : CrateTree) (answers : Outside) (units more : ℕ) →
    ¬ IsGoing (rs_run whole answers units).progress →
    rs_run whole answers (units + more) ≡ rs_run whole answers units

-- within a greater budget the events begin with those within a smaller one
abbrev pub EventsGrow : Type 0
EventsGrow =
    (whole : CrateTree) (answers : Outside) (units more : ℕ) →
    IsFrontOf (rs_run whole answers units).events (rs_run whole answers (units + more)).events

-- a run that has ended stays ended, with its status
abbrev pub EndedStaysEnded : Type 0
EndedStaysEnded =
    (whole : CrateTree) (answers : Outside) (units more : ℕ) (status : ℤ) →
    (rs_run whole answers units).progress ≡ ended status →
    (rs_run whole answers (units + more)).progress ≡ ended status
