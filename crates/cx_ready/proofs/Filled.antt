-- Puts of compound literals whose values are stored.
use Rattle.std.proofs.Common.{◌≡◌, ◌∙◌, refl, sym, ap, subst, ℕ, Option, Some, Result, Ok, Err}
use Rattle.cr_base.specs.declared.refusal.Place.{Place}
use Rattle.cx_access.specs.declared.trouble.Trouble.{Trouble}
use Rattle.cx_access.specs.declared.trouble.Trouble.TheVariants as trouble
use Rattle.cx_access.specs.Finds.{Finds}
use Rattle.cx_core.specs.Trees.{CExpr, CPut, put, CPuts, place_of}
use Rattle.cx_ready.specs.declared.halt.Halt.{Halt}
use Rattle.cx_ready.specs.declared.halt.Progress.{Progress}
use Rattle.cx_ready.specs.declared.halt.Halt.TheVariants as halt
use Rattle.cx_ready.specs.declared.halt.Progress.TheVariants as progress
use Rattle.cx_ready.specs.declared.literals.Filling.{Filling}
use Rattle.cx_core.specs.Views.{view_put, view_puts}
use Rattle.cx_ready.specs.Fills.{IsFilling, fill_by}
use Rattle.cx_ready.specs.Halts.{halted}
use Rattle.cx_ready.specs.Nodes.{IsLoaded}
use Rattle.cx_ready.specs.Parts.{by_part, marks_in, part_in}
use Rattle.cx_ready.specs.Steps.{Steps}
use Rattle.cx_mean.specs.Accesses.{CStored}
use Rattle.cx_mean.specs.Initialisers.{put_stored}
use Rattle.cx_mean.specs.Marks.{Marks, both, at_sequence_point}
use Rattle.cx_mean.specs.Nodes.{marks_after_put}
use Rattle.cx_mean.specs.Operands.{CWhy, CValue, COperand, Frame}
use Rattle.cx_mean.specs.Settings.{CSetting}
use Rattle.cx_mean.specs.Steps.{CStepped, did, at_node, literal_number, place_of_put, put_step}
use Rattle.cx_mean.specs.Work.{CWork, finished, needs, chooses, tests, carries, updates, fills, waits, filled}
use Rattle.cx_puts.specs.Storing.{value_put}
use Rattle.mem_bytes.specs.Access.{and_then}
use Rattle.mem_bytes.specs.Memory.{Blocks}

filled_part : (node : CExpr) (value : CWork) (operand : COperand) → Some value ≡ Some (finished operand) → (step : COperand → CStepped) → by_part node step (Some value) ≡ step operand
filled_part node value operand is step = ap (λ (part : Option CWork). by_part node step part) is

-- the step that was taken
steps_of : (outcome : Result Progress Halt) (left tree : CWork) (before later : Blocks) → IsLoaded outcome left tree → Steps outcome before later left (Ok (did tree later))
steps_of (Ok progress.Stepped) left tree before later is = ap (λ (work : CWork). Ok (did work later)) (sym is)
steps_of (Ok (progress.Calls called)) left tree before later is = elim is [ ]
steps_of (Err halt.Memory) left tree before later is = tt
steps_of (Err (halt.Undefined rule place)) left tree before later is = elim is [ ]

module _ (setting : CSetting) (frame : Frame) (blocks : Blocks) (node : CExpr) (marks : Marks) (others : CPuts) (operand : COperand) (number : ℕ) where
  -- the step, by the store
  abbrev pub by_store : CPut → Result CStored CWhy → CStepped
  by_store one found = at_node (place_of_put one) (and_then found (λ done. Ok (did (filled node number (marks_after_put marks done.marks) others) done.blocks)))

  pub step_by : (one : CPut) → literal_number node ≡ Ok number →
      at_node (place_of_put one) (put_step setting frame blocks node marks one others operand) ≡ by_store one (value_put setting frame blocks number one operand.value operand.marks)
  step_by (put spot type value) is =
      ap (λ (found : Result ℕ CWhy). at_node (place_of value) (and_then found (λ object. and_then (put_stored setting frame blocks object spot type operand)
      (λ done. Ok (did (filled node object (marks_after_put marks done.marks) others) done.blocks))))) is

  pub stored_stops : {A : Type 0} (view : A → CStored) (why : Trouble) (one : CPut) (place : Place) (before later : Blocks) (left : CWork) → literal_number node ≡ Ok number →
      place ≡ place_of_put one → Finds view (Err why) (value_put setting frame blocks number one operand.value operand.marks) →
      Steps (Err (halted why place)) before later left (at_node (place_of_put one) (put_step setting frame blocks node marks one others operand))
  stored_stops view (trouble.Undefined rule) one place before later left is at found = rw (step_by one is) (rw (found, at) refl)
  stored_stops view trouble.Memory one place before later left is at found = tt

  pub stored_filled : (result : Result Progress Halt) (one : CPut) (given : CValue) (own : Marks) (before later : Blocks) (left : CWork) (after : Marks) → literal_number node ≡ Ok number →
      value_put setting frame blocks number one operand.value operand.marks ≡ Ok (record { value = given; marks = own; blocks = later }) → after ≡ at_sequence_point (both marks own) →
      IsLoaded result left (filled node number after others) →
      Steps result before later left (at_node (place_of_put one) (put_step setting frame blocks node marks one others operand))
  stored_filled result one given own before later left after is found after_is loaded =
      subst (λ (step : CStepped). Steps result before later left step) (sym (step_by one is ∙ ap (by_store one) found))
      (taken result (subst (λ (all : Marks). IsLoaded result left (filled node number all others)) after_is loaded))
    where
      taken : (outcome : Result Progress Halt) → IsLoaded outcome left (filled node number (marks_after_put marks own) others) →
          Steps outcome before later left (Ok (did (filled node number (marks_after_put marks own) others) later))
      taken outcome loads = steps_of outcome left (filled node number (marks_after_put marks own) others) before later loads

pub fill_is : (setting : CSetting) (frame : Frame) (blocks : Blocks) (node : CExpr) (work : CWork) (filling : Filling) (operand : COperand) → IsFilling filling work → part_in work ≡ Some (finished operand) →
    fill_by setting frame blocks node work ≡ at_node (place_of_put (view_put filling.put.now)) (put_step setting frame blocks node (marks_in work) (view_put filling.put.now) (view_puts filling.others.now) operand)
fill_is setting frame blocks node (fills own marks one others value) filling operand is part = rw (is.0, is.1) (filled_part node value operand part (λ held. at_node (place_of_put one) (put_step setting frame blocks node marks one others held)))
fill_is setting frame blocks node (finished held) filling operand is part = elim is [ ]
fill_is setting frame blocks node (needs own operands) filling operand is part = elim is [ ]
fill_is setting frame blocks node (chooses own first) filling operand is part = elim is [ ]
fill_is setting frame blocks node (tests own marks second) filling operand is part = elim is [ ]
fill_is setting frame blocks node (carries own marks part_of) filling operand is part = elim is [ ]
fill_is setting frame blocks node (updates own update stage marks) filling operand is part = elim is [ ]
fill_is setting frame blocks node (waits own marks) filling operand is part = elim is [ ]
