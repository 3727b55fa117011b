-- The trees around a part, of which the leftmost ready node is that of the tree.
use Rattle.std.proofs.Common.{◌≡◌, refl, ◌∙◌, ap, ℕ, ◌-◌, ◌<◌, Bool, true, false, ◌&&◌, List, [], ◌∷◌, ◌++◌, arith}
use Rattle.cx_core.specs.Trees.{CExpr, CPut, CPuts}
use Rattle.cx_eval.proofs.Going.{IsAround}
use Rattle.cx_eval.proofs.Moving.{among_first, among_rest}
use Rattle.cx_eval.specs.Passing.{parts_ready}
use Rattle.cx_mean.specs.Marks.{Marks}
use Rattle.cx_mean.specs.Operands.{COperand, Frame}
use Rattle.cx_mean.specs.Settings.{CSetting}
use Rattle.cx_mean.specs.Steps.{CStepped, at_first_operand, inside, nowhere, step_at, step_among}
use Rattle.cx_mean.specs.Work.{CWork, finished, needs, chooses, tests, carries, updates, fills, waits, CWorks, more_works, is_finished, are_finished, one_or, carried, ready, ready_among}
use Rattle.cx_work.specs.Views.{works_of}
use Rattle.mem_bytes.specs.Memory.{Blocks}

-- ---- a part with ready nodes isn't finished

pub is_open : (work : CWork) → 0 < ready work → is_finished work ≡ false
is_open (finished operand) within = absurd (omega (arith, within))
is_open (needs node operands) within = refl
is_open (chooses node first) within = refl
is_open (tests node marks second) within = refl
is_open (carries node marks part) within = refl
is_open (updates node update stage marks) within = refl
is_open (fills node marks one others value) within = refl
is_open (waits node marks) within = refl

within_part : (node : COperand → CStepped) (within : CStepped) (work : CWork) → is_finished work ≡ false → at_first_operand node within work ≡ within
within_part node within (finished operand) is = cc
within_part node within (needs own operands) is = refl
within_part node within (chooses own first) is = refl
within_part node within (tests own marks second) is = refl
within_part node within (carries own marks part) is = refl
within_part node within (updates own update stage marks) is = refl
within_part node within (fills own marks one others value) is = refl
within_part node within (waits own marks) is = refl

more_ready : (work : CWork) → 0 < ready work → 0 < one_or (is_finished work) (ready work)
more_ready work within = rw (is_open work within) within

open_carried : (node : CExpr) (marks : Marks) (work : CWork) → is_finished work ≡ false → carried node marks work ≡ carries node marks work
open_carried node marks (finished operand) is = cc
open_carried node marks (needs own operands) is = refl
open_carried node marks (chooses own first) is = refl
open_carried node marks (tests own before second) is = refl
open_carried node marks (carries own before part) is = refl
open_carried node marks (updates own update stage before) is = refl
open_carried node marks (fills own before one others value) is = refl
open_carried node marks (waits own before) is = refl

pub through_carried : (node : CExpr) (marks : Marks) (work : CWork) → ready work ≡ 0 → parts_ready (carried node marks work) ≡ 0
through_carried node marks (finished operand) is = refl
through_carried node marks (needs own operands) is = is
through_carried node marks (chooses own first) is = is
through_carried node marks (tests own before second) is = is
through_carried node marks (carries own before part) is = is
through_carried node marks (updates own update stage before) is = is
through_carried node marks (fills own before one others value) is = is
through_carried node marks (waits own before) is = is

-- ---- parts

module _ (setting : CSetting) (frame : Frame) where
  pub chooses_around : (node : CExpr) → IsAround setting frame (chooses node)
  chooses_around node blocks work within = (more_ready work within, within_part _ _ work (is_open work within))

  pub tests_around : (node : CExpr) (marks : Marks) → IsAround setting frame (tests node marks)
  tests_around node marks blocks work within = (more_ready work within, within_part _ _ work (is_open work within))

  pub fills_around : (node : CExpr) (marks : Marks) (one : CPut) (others : CPuts) → IsAround setting frame (fills node marks one others)
  fills_around node marks one others blocks work within = (more_ready work within, within_part _ _ work (is_open work within))

  pub carried_around : (node : CExpr) (marks : Marks) → IsAround setting frame (carried node marks)
  carried_around node marks blocks work within = rw (open_carried node marks work (is_open work within)) (within, refl)

  -- ---- an operand, in front of which none is ready

  module _ (behind : List CWork) where
    among : (blocks : Blocks) (work : CWork) (none : CStepped) (front : List CWork) (around : CWorks → CWork) → 0 < ready work → ready_among (works_of front) ≡ 0 →
        step_among setting frame blocks 0 (works_of (front ++ work ∷ behind)) none around ≡
        inside (λ (one : CWork). around (works_of (front ++ one ∷ behind))) (step_at setting frame blocks 0 work)
    among blocks work none [] around within quiet = among_first setting frame blocks 0 work (works_of behind) none around within
    among blocks work none (first ∷ others) around within quiet =
        let start : 0 - ready first ≡ 0 = omega (arith, quiet) in
        among_rest setting frame blocks 0 first (works_of (others ++ work ∷ behind)) none around (omega (arith, quiet))
        ∙ ap (λ (pick : ℕ). step_among setting frame blocks pick (works_of (others ++ work ∷ behind)) none (λ (works : CWorks). around (more_works first works))) start
        ∙ among blocks work none others (λ (works : CWorks). around (more_works first works)) within (omega (arith, quiet))

    are_open : (work : CWork) (front : List CWork) → is_finished work ≡ false → are_finished (works_of (front ++ work ∷ behind)) ≡ false
    are_open work [] is = rw is refl
    are_open work (first ∷ others) is = rw (are_open work others is) (never (is_finished first))
      where
        never : (test : Bool) → (test && false) ≡ false
        never true = refl
        never false = refl

    some_ready : (work : CWork) (front : List CWork) → 0 < ready work → 0 < ready_among (works_of (front ++ work ∷ behind))
    some_ready work [] within = omega (arith, within)
    some_ready work (first ∷ others) within = omega (arith, some_ready work others within)

    pub needs_around : (node : CExpr) (front : List CWork) → ready_among (works_of front) ≡ 0 →
        IsAround setting frame (λ (work : CWork). needs node (works_of (front ++ work ∷ behind)))
    needs_around node front quiet blocks work within =
        let closed : are_finished (works_of (front ++ work ∷ behind)) ≡ false = are_open work front (is_open work within) in
        (rw closed (some_ready work front within), rw (step_at, closed) (among blocks work (nowhere node) front (needs node) within quiet))
