-- A walk over the part of a node where it lies is one over what the part stands for.
use Rattle.std.proofs.Common.{◌≡◌, sym, subst, ℕ, Result}
use Rattle.cx_eval.proofs.Going.{IsAround, passes_inside}
use Rattle.cx_ready.specs.declared.halt.Halt.{Halt}
use Rattle.cx_ready.specs.declared.halt.Progress.{Progress}
use Rattle.cx_eval.specs.declared.pass.Pass.{Pass}
use Rattle.cx_eval.specs.Passing.{parts_ready, PassesParts}
use Rattle.cx_eval.specs.Several.{Passes}
use Rattle.cx_mean.specs.Operands.{Frame}
use Rattle.cx_mean.specs.Settings.{CSetting}
use Rattle.cx_mean.specs.Work.{CWork, ready}
use Rattle.cx_work.specs.declared.work.Work.{Work}
use Rattle.cx_work.specs.Views.{view_work}
use Rattle.mem_bytes.specs.Memory.{Blocks}

pub part_passes : (setting : CSetting) (frame : Frame) (around : CWork → CWork) → IsAround setting frame around → ((tree : CWork) → ready tree ≡ 0 → parts_ready (around tree) ≡ 0) →
    (before later : Blocks) (most rest : ℕ) (result : Pass) (taken : Result Progress Halt) (given old new whole left : Work) → given ≡ old →
    view_work whole ≡ around (view_work old) → view_work left ≡ around (view_work new) →
    Passes result taken setting frame before later most rest (view_work given) (view_work new) → PassesParts result taken setting frame before later most rest (view_work whole) (view_work left)
part_passes setting frame around within through before later most rest result taken given old new whole left given_is whole_is left_is goes =
    subst (λ (tree : CWork). PassesParts result taken setting frame before later most rest tree (view_work left)) (sym whole_is)
    (subst (λ (tree : CWork). PassesParts result taken setting frame before later most rest (around (view_work old)) tree) (sym left_is)
    (subst (λ (one : Work). PassesParts result taken setting frame before later most rest (around (view_work one)) (around (view_work new))) given_is
    (passes_inside setting frame around within before later most rest (view_work given) (view_work new) through result taken goes)))
