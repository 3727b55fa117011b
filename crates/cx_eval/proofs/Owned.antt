-- The step of a node itself, in a walk that is through with its parts.
use Rattle.std.proofs.Common.{◌≡◌, refl, sym, ◌∙◌, ap, subst, ℕ, suc, ◌-◌, ◌<◌, Bool, true, false, Result, Ok, Err, arith}
use Rattle.cx_eval.proofs.Passed.{none_taken}
use Rattle.cx_eval.proofs.Readied.{ready_is_one}
use Rattle.cx_ready.specs.declared.halt.Halt.{Halt}
use Rattle.cx_ready.specs.declared.halt.Halt.TheVariants as halt
use Rattle.cx_ready.specs.declared.halt.Progress.{Progress}
use Rattle.cx_ready.specs.declared.halt.Progress.TheVariants as progress
use Rattle.cx_eval.specs.declared.pass.Pass.{Pass}
use Rattle.cx_eval.specs.declared.pass.Pass.TheVariants as pass
use Rattle.cx_eval.specs.Passing.{parts_ready, passed_by}
use Rattle.cx_ready.specs.Ready.{node_ready}
use Rattle.cx_eval.specs.Several.{Goes, Passes}
use Rattle.cx_ready.specs.Steps.{Steps}
use Rattle.cx_mean.specs.Operands.{Frame}
use Rattle.cx_mean.specs.Settings.{CSetting}
use Rattle.cx_mean.specs.Steps.{did, step_at}
use Rattle.cx_mean.specs.Work.{CWork, finished, needs, chooses, tests, carries, updates, fills, waits, is_finished, ready}
use Rattle.cx_work.specs.declared.operand.Called.{Called}
use Rattle.mem_bytes.specs.Memory.{Blocks}

none_ready : (work : CWork) → parts_ready work ≡ 0 → node_ready work ≡ false → ready work ≡ 0
none_ready (finished operand) quiet is = refl
none_ready (needs node operands) quiet is = rw is quiet
none_ready (chooses node first) quiet is = rw is quiet
none_ready (tests node marks second) quiet is = rw is quiet
none_ready (carries node marks part) quiet is = quiet
none_ready (updates node update stage marks) quiet is = cc
none_ready (fills node marks one others value) quiet is = rw is quiet
none_ready (waits node marks) quiet is = refl

finished_ready : (work : CWork) → is_finished work ≡ true → ready work ≡ 0
finished_ready (finished operand) is = refl
finished_ready (needs node operands) is = cc
finished_ready (chooses node first) is = cc
finished_ready (tests node marks second) is = cc
finished_ready (carries node marks part) is = cc
finished_ready (updates node update stage marks) is = cc
finished_ready (fills node marks one others value) is = cc
finished_ready (waits node marks) is = cc

-- no step that was taken and asks for nothing
abbrev pub Halts : Result Progress Halt → Type 0
Halts (Ok progress.Stepped) = ⊥
Halts (Ok (progress.Calls called)) = Unit {0}
Halts (Err why) = Unit {0}

module _ (setting : CSetting) (frame : Frame) (before : Blocks) (work : CWork) where
  pub not_ready : (taken : Result Progress Halt) (most : ℕ) → node_ready work ≡ false → parts_ready work ≡ 0 → Passes pass.Through taken setting frame before before most most work work
  not_ready taken most is quiet = (omega arith, none_taken setting frame before most work, none_ready work quiet is)

  pub none_granted : (taken : Result Progress Halt) (most : ℕ) → Passes pass.Rests taken setting frame before before most most work work
  none_granted taken most = (omega arith, none_taken setting frame before most work)

  module _ (later : Blocks) (left : CWork) (is : node_ready work ≡ true) (most : ℕ) (granted : 0 < most) where
    some_ready : 0 < ready work
    some_ready = omega (arith, ready_is_one work is)

    own_goes : step_at setting frame before 0 work ≡ Ok (did left later) → Goes setting frame (most - (most - 1)) before work later left
    own_goes stepped =
        let one : suc 0 ≡ most - (most - 1) = omega (arith, granted) in
        subst (λ (count : ℕ). Goes setting frame count before work later left) one (before, work, (refl, refl), some_ready, stepped)

    pub own_steps : (walk : Progress) → walk ≡ progress.Stepped → Steps (Ok walk) before later left (step_at setting frame before 0 work) →
        (result : Pass) (taken : Result Progress Halt) → result ≡ passed_by (is_finished left) → Passes result taken setting frame before later most (most - 1) work left
    own_steps walk same steps result taken by = subst (λ (one : Pass). Passes one taken setting frame before later most (most - 1) work left) (sym by) (ended (is_finished left) refl)
      where
        goes : Goes setting frame (most - (most - 1)) before work later left
        goes = own_goes (subst (λ (one : Progress). Steps (Ok one) before later left (step_at setting frame before 0 work)) same steps)

        ended : (test : Bool) → is_finished left ≡ test → Passes (passed_by test) taken setting frame before later most (most - 1) work left
        ended true ends = (omega arith, goes, finished_ready left ends)
        ended false ends = (omega arith, goes)

    pub own_halts : (outcome : Result Progress Halt) → Halts outcome → Steps outcome before later left (step_at setting frame before 0 work) →
        Passes pass.Halted outcome setting frame before later most most work left
    own_halts (Ok progress.Stepped) halts steps = halts
    own_halts (Ok (progress.Calls called)) halts steps = (
      granted,
      omega arith,
      work,
      subst (λ (blocks : Blocks). Goes setting frame (most - most) before work blocks work) (sym steps.1) (none_taken setting frame before most work),
      some_ready,
      ap (λ (blocks : Blocks). step_at setting frame blocks 0 work) steps.1 ∙ steps.0,
    )
    own_halts (Err (halt.Undefined rule place)) halts steps =
        (granted, omega arith, before, work, none_taken setting frame before most work, some_ready, steps)
    own_halts (Err halt.Memory) halts steps = tt

    pub own_calls : (walk : Progress) (called : Called) → walk ≡ progress.Calls called → Steps (Ok walk) before later left (step_at setting frame before 0 work) →
        Passes pass.Halted (Ok (progress.Calls called)) setting frame before later most most work left
    own_calls walk called same steps =
        own_halts (Ok (progress.Calls called)) tt (subst (λ (one : Progress). Steps (Ok one) before later left (step_at setting frame before 0 work)) same steps)
