-- What some steps of an expression came to, by the walk that took them.
use Rattle.std.proofs.Common.{◌≡◌, refl, sym, subst, ℕ, suc, ◌-◌, ◌<◌, Result, Ok, Err, IfOk, arith}
use Rattle.cr_base.specs.declared.memory.Memory.{Memory}
use Rattle.cx_ready.specs.declared.halt.Halt.{Halt}
use Rattle.cx_ready.specs.declared.halt.Halt.TheVariants as halt
use Rattle.cx_ready.specs.declared.halt.Progress.{Progress}
use Rattle.cx_ready.specs.declared.halt.Progress.TheVariants as progress
use Rattle.cx_eval.specs.declared.pass.Pass.TheVariants as pass
use Rattle.cx_eval.specs.declared.step.Last.{Last}
use Rattle.cx_eval.specs.declared.step.Next.{Next}
use Rattle.cx_eval.specs.declared.step.Next.TheVariants as next
use Rattle.cx_eval.specs.Next.{IsNext, Takes}
use Rattle.cx_eval.specs.Several.{Goes, Passes, TakesSome}
use Rattle.cx_mean.specs.Operands.{Frame}
use Rattle.cx_mean.specs.Settings.{CSetting}
use Rattle.cx_mean.specs.Work.{CWork}
use Rattle.mem_bytes.specs.Memory.{Blocks}

module _ (setting : CSetting) (frame : Frame) (before later : Blocks) (most rest : ℕ) (work left : CWork) where
  pub some_stepped : (result : Result Last Memory) → IfOk result (λ (last : Last). (rest < most) × (last.before ≡ most - rest - 1) × (last.next ≡ next.Stepped)) →
      Goes setting frame (most - rest) before work later left → TakesSome result setting frame before later most work left
  some_stepped (Ok last) is goes =
      let count : most - rest ≡ suc last.before = omega (arith, is.0, is.1) in
      let steps = subst (λ (number : ℕ). Goes setting frame number before work later left) count goes in (
        omega (arith, is.0, is.1),
        steps.0,
        steps.1,
        steps.2,
        subst (λ (one : Next). Takes (Ok one) setting frame steps.0 later 0 steps.1 left) (sym is.2) (steps.3, steps.4),
      )
  some_stepped (Err why) is goes = tt

  pub some_halted : (result : Result Last Memory) (taken : Result Progress Halt) → IfOk result (λ (last : Last). (last.before ≡ most - rest) × IsNext taken (Ok last.next)) →
      Passes pass.Halted taken setting frame before later most rest work left → TakesSome result setting frame before later most work left
  some_halted (Err why) taken is goes = tt
  some_halted (Ok last) (Ok progress.Stepped) is goes = elim goes [ ]
  some_halted (Ok last) (Ok (progress.Calls called)) is goes = (
    omega (arith, is.0, goes.0, goes.1),
    later,
    goes.2,
    subst (λ (count : ℕ). Goes setting frame count before work later goes.2) (sym is.0) goes.3,
    subst (λ (one : Result Next Memory). Takes one setting frame later later 0 goes.2 left) (sym is.1) (goes.4, goes.5, refl),
  )
  some_halted (Ok last) (Err (halt.Undefined rule place)) is goes = (
    omega (arith, is.0, goes.0, goes.1),
    goes.2,
    goes.3,
    subst (λ (count : ℕ). Goes setting frame count before work goes.2 goes.3) (sym is.0) goes.4,
    subst (λ (one : Result Next Memory). Takes one setting frame goes.2 later 0 goes.3 left) (sym is.1) (goes.5, goes.6),
  )
  some_halted (Ok last) (Err halt.Memory) is goes = elim is.1 [ ]
