-- Steps one after the other: a stretch behind another, and that of a part within its tree.
use Rattle.std.proofs.Common.{◌≡◌, sym, ◌∙◌, ap, subst, ℕ, zero, suc, ◌+◌, ◌-◌, ◌<◌, ◌≤◌, Result, Ok, Err, arith}
use Rattle.cx_ready.specs.declared.halt.Halt.{Halt}
use Rattle.cx_ready.specs.declared.halt.Halt.TheVariants as halt
use Rattle.cx_ready.specs.declared.halt.Progress.{Progress}
use Rattle.cx_ready.specs.declared.halt.Progress.TheVariants as progress
use Rattle.cx_eval.specs.declared.pass.Pass.{Pass}
use Rattle.cx_eval.specs.declared.pass.Pass.TheVariants as pass
use Rattle.cx_eval.specs.Passing.{parts_ready, PassesParts}
use Rattle.cx_eval.specs.Several.{Goes, Passes}
use Rattle.cx_mean.specs.Operands.{Frame}
use Rattle.cx_mean.specs.Settings.{CSetting}
use Rattle.cx_mean.specs.Steps.{inside, step_at}
use Rattle.cx_mean.specs.Work.{CWork, ready}
use Rattle.mem_bytes.specs.Memory.{Blocks}

-- the leftmost ready node of a part is that of the tree around it, and its step is one of the tree
abbrev pub IsAround : CSetting → Frame → (CWork → CWork) → Type 0
IsAround setting frame around = (blocks : Blocks) (work : CWork) → 0 < ready work →
    (0 < ready (around work)) × (step_at setting frame blocks 0 (around work) ≡ inside around (step_at setting frame blocks 0 work))

module _ (setting : CSetting) (frame : Frame) where
  -- ---- a stretch behind another

  pub goes_then : (first second : ℕ) (before mid later : Blocks) (work half left : CWork) →
      Goes setting frame first before work mid half → Goes setting frame second mid half later left → Goes setting frame (first + second) before work later left
  goes_then first zero before mid later work half left one other =
      let same : first ≡ first + zero = omega arith in
      subst (λ (count : ℕ). Goes setting frame count before work later left) same
      (subst (λ (blocks : Blocks). Goes setting frame first before work blocks left) (sym other.0)
      (subst (λ (tree : CWork). Goes setting frame first before work mid tree) (sym other.1) one))
  goes_then first (suc second) before mid later work half left one other =
      let same : suc (first + second) ≡ first + suc second = omega arith in
      subst (λ (count : ℕ). Goes setting frame count before work later left) same
      (other.0, other.1, goes_then first second before mid other.0 work half other.1 one other.2, other.3, other.4)

  module _ (before mid later : Blocks) (most rest least : ℕ) (work half left : CWork) (granted : rest ≤ most)
      (goes : Goes setting frame (most - rest) before work mid half) where
    on : (final : Blocks) (tree : CWork) → least ≤ rest → Goes setting frame (rest - least) mid half final tree → Goes setting frame (most - least) before work final tree
    on final tree less more =
        let same : (most - rest) + (rest - least) ≡ most - least = omega (arith, granted, less) in
        subst (λ (count : ℕ). Goes setting frame count before work final tree) same (goes_then (most - rest) (rest - least) before mid final work half tree goes more)

    less_still : least ≤ rest → least ≤ most
    less_still less = omega (arith, granted, less)

    pub then_passes : (result : Pass) (taken : Result Progress Halt) → Passes result taken setting frame mid later rest least half left →
        Passes result taken setting frame before later most least work left
    then_passes pass.Through taken more = (less_still more.0, on later left more.0 more.1, more.2)
    then_passes pass.Rests taken more = (less_still more.0, on later left more.0 more.1)
    then_passes pass.Halted (Ok progress.Stepped) more = more
    then_passes pass.Halted (Ok (progress.Calls called)) more = (more.0, less_still more.1, more.2, on later more.2 more.1 more.3, more.4, more.5)
    then_passes pass.Halted (Err (halt.Undefined rule place)) more = (more.0, less_still more.1, more.2, more.3, on more.2 more.3 more.1 more.4, more.5, more.6)
    then_passes pass.Halted (Err halt.Memory) more = tt

    pub then_parts : (result : Pass) (taken : Result Progress Halt) → PassesParts result taken setting frame mid later rest least half left →
        PassesParts result taken setting frame before later most least work left
    then_parts pass.Through taken more = (then_passes pass.Rests taken more.0, more.1)
    then_parts pass.Rests taken more = then_passes pass.Rests taken more
    then_parts pass.Halted taken more = then_passes pass.Halted taken more

  -- ---- a part within its tree

  module _ (around : CWork → CWork) (within : IsAround setting frame around) where
    pub goes_inside : (count : ℕ) (before later : Blocks) (work left : CWork) → Goes setting frame count before work later left →
        Goes setting frame count before (around work) later (around left)
    goes_inside zero before later work left goes = (goes.0, ap around goes.1)
    goes_inside (suc count) before later work left goes =
        let one = within goes.0 goes.1 goes.3 in
        (goes.0, around goes.1, goes_inside count before goes.0 work goes.1 goes.2, one.0, one.1 ∙ ap (inside around) goes.4)

    module _ (before later : Blocks) (most rest : ℕ) (work left : CWork) where
      pub rests_inside : (taken : Result Progress Halt) → Passes pass.Rests taken setting frame before later most rest work left →
          Passes pass.Rests taken setting frame before later most rest (around work) (around left)
      rests_inside taken goes = (goes.0, goes_inside (most - rest) before later work left goes.1)

      pub halts_inside : (taken : Result Progress Halt) → Passes pass.Halted taken setting frame before later most rest work left →
          Passes pass.Halted taken setting frame before later most rest (around work) (around left)
      halts_inside (Ok progress.Stepped) goes = goes
      halts_inside (Ok (progress.Calls called)) goes =
          let one = within later goes.2 goes.4 in
          (goes.0, goes.1, around goes.2, goes_inside (most - rest) before later work goes.2 goes.3, one.0, one.1 ∙ ap (inside around) goes.5)
      halts_inside (Err (halt.Undefined rule place)) goes =
          let one = within goes.2 goes.3 goes.5 in
          (goes.0, goes.1, goes.2, around goes.3, goes_inside (most - rest) before goes.2 work goes.3 goes.4, one.0, one.1 ∙ ap (inside around) goes.6)
      halts_inside (Err halt.Memory) goes = tt

      pub passes_inside : ((tree : CWork) → ready tree ≡ 0 → parts_ready (around tree) ≡ 0) → (result : Pass) (taken : Result Progress Halt) →
          Passes result taken setting frame before later most rest work left → PassesParts result taken setting frame before later most rest (around work) (around left)
      passes_inside through pass.Through taken goes = (rests_inside taken (goes.0, goes.1), through left goes.2)
      passes_inside through pass.Rests taken goes = rests_inside taken goes
      passes_inside through pass.Halted taken goes = halts_inside taken goes
