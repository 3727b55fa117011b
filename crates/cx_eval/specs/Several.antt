-- Several steps of an expression without an order, one after the other: each is taken at the leftmost ready node (ISO C99, 5.1.2.3).
use Rattle.std.specs.Prelude.{◌≡◌, ℕ, zero, suc, ◌-◌, ◌<◌, ◌≤◌, Result, Ok, Err}
use Rattle.cr_base.specs.declared.memory.Memory.{Memory}
use Rattle.cx_ready.specs.declared.halt.Halt.{Halt}
use Rattle.cx_ready.specs.declared.halt.Halt.TheVariants as halt
use Rattle.cx_ready.specs.declared.halt.Progress.{Progress}
use Rattle.cx_ready.specs.declared.halt.Progress.TheVariants as progress
use Rattle.cx_eval.specs.declared.pass.Pass.{Pass}
use Rattle.cx_eval.specs.declared.pass.Pass.TheVariants as pass
use Rattle.cx_eval.specs.declared.step.Last.{Last}
use Rattle.cx_eval.specs.Next.{Takes}
use Rattle.cx_mean.specs.Operands.{breaks, Frame}
use Rattle.cx_mean.specs.Settings.{CSetting}
use Rattle.cx_mean.specs.Steps.{did, asks_call, step_at}
use Rattle.cx_mean.specs.Work.{CWork, ready}
use Rattle.cx_work.specs.Views.{view_called}
use Rattle.mem_bytes.specs.Memory.{Blocks}

-- so many steps, none of which calls or breaks a rule, lead from one tree and memory to another
abbrev pub Goes : CSetting → Frame → (count : ℕ) → (before : Blocks) → (work : CWork) → (later : Blocks) → (left : CWork) → Type 0
Goes setting frame zero before work later left = (later ≡ before) × (left ≡ work)
Goes setting frame (suc count) before work later left =
    (memory : Blocks) × (mid : CWork) × Goes setting frame count before work memory mid × (0 < ready mid)
    × (step_at setting frame memory 0 mid ≡ Ok (did left later))

-- A walk that takes a step at each node that it leaves, within so many steps, of which some rest: it is through where no node of the tree is
-- ready any more; it rests where it took steps and goes no further; it halts at a step that calls or breaks a rule, behind the others, and what came
-- of it was set down. Nothing is said where memory was wanting.
abbrev pub Passes : Pass → Result Progress Halt → CSetting → Frame → (before later : Blocks) → (most rest : ℕ) → (work left : CWork) → Type 0
Passes pass.Through taken setting frame before later most rest work left =
    (rest ≤ most) × Goes setting frame (most - rest) before work later left × (ready left ≡ 0)
Passes pass.Rests taken setting frame before later most rest work left = (rest ≤ most) × Goes setting frame (most - rest) before work later left
Passes pass.Halted (Ok progress.Stepped) setting frame before later most rest work left = ⊥
Passes pass.Halted (Ok (progress.Calls called)) setting frame before later most rest work left =
    (0 < rest) × (rest ≤ most) × (mid : CWork) × Goes setting frame (most - rest) before work later mid × (0 < ready mid)
    × (step_at setting frame later 0 mid ≡ Ok (asks_call (view_called called) left))
Passes pass.Halted (Err (halt.Undefined rule place)) setting frame before later most rest work left =
    (0 < rest) × (rest ≤ most) × (memory : Blocks) × (mid : CWork) × Goes setting frame (most - rest) before work memory mid × (0 < ready mid)
    × (step_at setting frame memory 0 mid ≡ Err (record { why = breaks rule; place = place }))
Passes pass.Halted (Err halt.Memory) setting frame before later most rest work left = Unit {0}

-- Fewer steps than the most that are granted, and then one more: what is left of the tree, and the memory behind it; nothing is said where
-- memory was wanting.
abbrev pub TakesSome : Result Last Memory → CSetting → Frame → (before later : Blocks) → (most : ℕ) → (work left : CWork) → Type 0
TakesSome (Ok last) setting frame before later most work left =
    (last.before < most) × (memory : Blocks) × (mid : CWork) × Goes setting frame last.before before work memory mid
    × Takes (Ok last.next) setting frame memory later 0 mid left
TakesSome (Err _) setting frame before later most work left = Unit {0}
