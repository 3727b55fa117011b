-- A walk to a node that is ready itself.
use Rattle.std.proofs.Common.{◌≡◌, refl, sym, subst, ℕ, ◌<◌, true, Result, Ok, Err, arith}
use Rattle.cx_ready.specs.declared.halt.Halt.{Halt}
use Rattle.cx_ready.specs.declared.halt.Halt.TheVariants as halt
use Rattle.cx_ready.specs.declared.halt.Progress.{Progress}
use Rattle.cx_ready.specs.declared.halt.Progress.TheVariants as progress
use Rattle.cx_ready.specs.Ready.{node_ready}
use Rattle.cx_eval.specs.Walks.{Walks}
use Rattle.cx_ready.specs.Steps.{Steps}
use Rattle.cx_mean.specs.Operands.{Frame}
use Rattle.cx_mean.specs.Settings.{CSetting}
use Rattle.cx_mean.specs.Steps.{step_at}
use Rattle.cx_mean.specs.Work.{CWork, finished, needs, chooses, tests, carries, updates, fills, waits, ready}
use Rattle.mem_bytes.specs.Memory.{Blocks}

pub ready_is_one : (work : CWork) → node_ready work ≡ true → ready work ≡ 1
ready_is_one (finished operand) is = cc
ready_is_one (needs node operands) is = rw is refl
ready_is_one (chooses node first) is = rw is refl
ready_is_one (tests node marks second) is = rw is refl
ready_is_one (carries node marks part) is = cc
ready_is_one (updates node update stage marks) is = refl
ready_is_one (fills node marks one others value) is = rw is refl
ready_is_one (waits node marks) is = cc

pub ready_walks : (result : Result Progress Halt) (setting : CSetting) (frame : Frame) (before later : Blocks) (pick : ℕ) (work left : CWork) → node_ready work ≡ true → pick ≡ 0 →
    Steps result before later left (step_at setting frame before 0 work) → Walks result setting frame before later pick work left
ready_walks result setting frame before later pick work left is none steps =
    subst (λ (number : ℕ). Walks result setting frame before later number work left) (sym none) (first result steps)
  where
    within : 0 < ready work
    within = omega (arith, ready_is_one work is)

    first : (outcome : Result Progress Halt) → Steps outcome before later left (step_at setting frame before 0 work) → Walks outcome setting frame before later 0 work left
    first (Ok progress.Stepped) goes = (within, goes)
    first (Ok (progress.Calls called)) goes = (within, (goes.0, goes.1))
    first (Err (halt.Undefined rule place)) goes = (within, goes)
    first (Err halt.Memory) goes = tt
