-- What a walk to a ready node did of an expression under evaluation.
use Rattle.std.specs.Prelude.{◌≡◌, ℕ, ◌<◌, ◌≤◌, List, ◌++◌, take, drop, Option, Some, None, Result, Ok, Err}
use Rattle.cx_mean.specs.Operands.{breaks, Frame}
use Rattle.cx_mean.specs.Settings.{CSetting}
use Rattle.cx_mean.specs.Steps.{CStepped, step_at, step_among}
use Rattle.cx_mean.specs.Work.{CWork, CWorks, ready, ready_among}
use Rattle.cx_ready.specs.declared.halt.Halt.{Halt}
use Rattle.cx_ready.specs.declared.halt.Halt.TheVariants as halt
use Rattle.cx_ready.specs.declared.halt.Progress.{Progress}
use Rattle.cx_ready.specs.declared.halt.Progress.TheVariants as progress
use Rattle.cx_ready.specs.Steps.{Steps}
use Rattle.cx_work.specs.Views.{works_of}
use Rattle.mem_bytes.specs.Memory.{Blocks}

-- a walk over a tree that lies in front of the node with this number: its ready nodes were counted, and nothing changed
abbrev pub Counts : (count : ℕ) → (before later : Blocks) → (pick : ℕ) → (work left : CWork) → Type 0
Counts count before later pick work left = (count ≡ ready work) × (count ≤ pick) × (left ≡ work) × (later ≡ before)

-- a walk that reached the ready node with this number, which took its step
abbrev pub Walks : Result Progress Halt → CSetting → Frame → (before later : Blocks) → (pick : ℕ) → (work left : CWork) → Type 0
Walks (Ok progress.Stepped) setting frame before later pick work left =
    (pick < ready work) × Steps (Ok progress.Stepped) before later left (step_at setting frame before pick work)
Walks (Ok (progress.Calls called)) setting frame before later pick work left =
    (pick < ready work) × Steps (Ok (progress.Calls called)) before later left (step_at setting frame before pick work)
Walks (Err (halt.Undefined rule place)) setting frame before later pick work left =
    (pick < ready work) × Steps (Err (halt.Undefined rule place)) before later left (step_at setting frame before pick work)
Walks (Err halt.Memory) setting frame before later pick work left = Unit {0}

-- The same among operands from an index on, of which the tree around is made again: those in front of the index stay.
abbrev pub CountsFrom : (count : ℕ) → (before later : Blocks) → (pick index : ℕ) → (works left : List CWork) → Type 0
CountsFrom count before later pick index works left =
    (count ≡ ready_among (works_of (drop index works))) × (count ≤ pick) × (left ≡ works) × (later ≡ before)

abbrev pub MovesFrom : Result Progress Halt → CSetting → Frame → (before later : Blocks) → (pick index : ℕ) → (works left : List CWork) → Type 0
MovesFrom result setting frame before later pick index works left =
    (pick < ready_among (works_of (drop index works))) × (left ≡ take index works ++ drop index left)
    × ((none : CStepped) (around : CWorks → CWork) → Steps result before later (around (works_of (drop index left)))
    (step_among setting frame before pick (works_of (drop index works)) none around))

abbrev pub WalksFrom : Result Progress Halt → CSetting → Frame → (before later : Blocks) → (pick index : ℕ) → (works left : List CWork) → Type 0
WalksFrom (Ok progress.Stepped) setting frame before later pick index works left =
    MovesFrom (Ok progress.Stepped) setting frame before later pick index works left
WalksFrom (Ok (progress.Calls called)) setting frame before later pick index works left =
    MovesFrom (Ok (progress.Calls called)) setting frame before later pick index works left
WalksFrom (Err (halt.Undefined rule place)) setting frame before later pick index works left =
    (pick < ready_among (works_of (drop index works)))
    × ((none : CStepped) (around : CWorks → CWork) → step_among setting frame before pick (works_of (drop index works)) none around ≡
    Err (record { why = breaks rule; place = place }))
WalksFrom (Err halt.Memory) setting frame before later pick index works left = Unit {0}

-- What a walk answers: how many ready nodes it passed; or that it reached the one, and then what came of its step was set down.
abbrev pub Reaches : Option ℕ → Result Progress Halt → CSetting → Frame → (before later : Blocks) → (pick : ℕ) → (work left : CWork) → Type 0
Reaches (Some count) taken setting frame before later pick work left = Counts count before later pick work left
Reaches None taken setting frame before later pick work left = Walks taken setting frame before later pick work left

abbrev pub ReachesFrom : Option ℕ → Result Progress Halt → CSetting → Frame → (before later : Blocks) → (pick index : ℕ) → (works left : List CWork) → Type 0
ReachesFrom (Some count) taken setting frame before later pick index works left = CountsFrom count before later pick index works left
ReachesFrom None taken setting frame before later pick index works left = WalksFrom taken setting frame before later pick index works left
