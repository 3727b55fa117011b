-- A step of an expression that stands in some units, by induction on the tree.
use Rattle.std.proofs.Common.{ℕ, ◌-◌, Bool, true, false, nat_lt, All, Ok, Err}
use Rattle.cx_mean.specs.Operands.{CValue, COperand, Frame}
use Rattle.cx_mean.specs.Settings.{CSetting}
use Rattle.cx_mean.specs.Steps.{did, asks_call, CStepped, at_node, chooses_step, tests_step, place_of_put, put_step, inside, nowhere, step_at, step_among, at_first_operand}
use Rattle.cx_mean.specs.Work.{CWork, finished, needs, chooses, tests, carries, updates, fills, waits, CWorks, no_works, more_works, are_finished, operands_in, carried, ready, resumed, all_resumed}
use Rattle.mem_bytes.specs.Memory.{Blocks}
use Rattle.cx_placed.specs.Places.{FunctionStandsIn}
use Rattle.cx_stops.proofs.Nodes.{expr_place, carried_stands, needs_stands, chooses_stands, tests_stands, stage_stands, put_stands}
use Rattle.cx_stops.proofs.Standing.{WorkStandsIn, WorksStandIn, StepStandsIn}

module _ (Among : ℕ → Type 0) where
  -- ---- the value of a call takes its place

  mutual
    pub resumed_stands : (value : CValue) (work : CWork) → WorkStandsIn Among work → WorkStandsIn Among (resumed value work)
    resumed_stands value (finished operand) is = tt
    resumed_stands value (needs node operands) is = (is.0, all_resumed_stand value operands is.1)
    resumed_stands value (chooses node first) is = (is.0, resumed_stands value first is.1)
    resumed_stands value (tests node marks second) is = (is.0, resumed_stands value second is.1)
    resumed_stands value (carries node marks part) is = carried_stands Among node marks (resumed value part) is.0 (resumed_stands value part is.1)
    resumed_stands value (updates node update stage marks) is = is
    resumed_stands value (fills node marks one others given) is = (is.0, is.1, is.2, resumed_stands value given is.3)
    resumed_stands value (waits node marks) is = tt

    all_resumed_stand : (value : CValue) (works : CWorks) → WorksStandIn Among works → WorksStandIn Among (all_resumed value works)
    all_resumed_stand value no_works are = tt
    all_resumed_stand value (more_works first others) are = (resumed_stands value first are.0, all_resumed_stand value others are.1)

  -- ---- a part of a tree

  inside_stands : (around : CWork → CWork) (outcome : CStepped) → ((next : CWork) → WorkStandsIn Among next → WorkStandsIn Among (around next)) → StepStandsIn Among outcome → StepStandsIn Among (inside around outcome)
  inside_stands around (Ok (did next after)) within is = within next is
  inside_stands around (Ok (asks_call called work)) within is = (is.0, is.1, within work is.2)
  inside_stands around (Err fault) within is = is

  first_stands : (node : COperand → CStepped) (part : CStepped) (first : CWork) → ((operand : COperand) → StepStandsIn Among (node operand)) → StepStandsIn Among part → StepStandsIn Among (at_first_operand node part first)
  first_stands node part (finished operand) one other = one operand
  first_stands node part (needs e operands) one other = other
  first_stands node part (chooses e first) one other = other
  first_stands node part (tests e marks second) one other = other
  first_stands node part (carries e marks inner) one other = other
  first_stands node part (updates e update stage marks) one other = other
  first_stands node part (fills e marks put_now others value) one other = other
  first_stands node part (waits e marks) one other = other

  one_of : (test : Bool) (one other : CStepped) → StepStandsIn Among one → StepStandsIn Among other → StepStandsIn Among (elim test as (λ _. CStepped) [ true ↦ one | false ↦ other ])
  one_of true one other is too = is
  one_of false one other is too = too

  -- ---- the step at a ready node

  module _ (setting : CSetting) (functions_stand : All (FunctionStandsIn Among) setting.program.functions) (frame : Frame) (blocks : Blocks) where
    mutual
      pub step_stands : (work : CWork) (pick : ℕ) → WorkStandsIn Among work → StepStandsIn Among (step_at setting frame blocks pick work)
      step_stands (finished operand) pick is = tt
      step_stands (needs node operands) pick is =
          one_of (are_finished operands) _ _
          (needs_stands Among setting functions_stand frame blocks node (operands_in operands) is.0)
          (among_stands operands pick (nowhere node) (needs node) (λ works are. (is.0, are)) (expr_place Among node is.0) is.1)
      step_stands (chooses node first) pick is =
          first_stands (chooses_step blocks node) _ first (λ operand. chooses_stands Among blocks node operand is.0)
          (inside_stands (chooses node) _ (λ next next_is. (is.0, next_is)) (step_stands first pick is.1))
      step_stands (tests node marks second) pick is =
          first_stands (tests_step blocks node marks) _ second (λ operand. tests_stands Among blocks node marks operand is.0)
          (inside_stands (tests node marks) _ (λ next next_is. (is.0, next_is)) (step_stands second pick is.1))
      step_stands (carries node marks part) pick is = inside_stands (carried node marks) _ (λ next next_is. carried_stands Among node marks next is.0 next_is) (step_stands part pick is.1)
      step_stands (updates node update stage marks) pick is = stage_stands Among setting frame blocks node update marks stage is
      step_stands (fills node marks one others value) pick is =
          first_stands (λ operand. at_node (place_of_put one) (put_step setting frame blocks node marks one others operand)) _ value
          (λ operand. put_stands Among setting frame blocks node marks one others operand is.0 is.1 is.2)
          (inside_stands (fills node marks one others) _ (λ next next_is. (is.0, is.1, is.2, next_is)) (step_stands value pick is.3))
      step_stands (waits node marks) pick is = expr_place Among node is

      among_stands : (works : CWorks) (pick : ℕ) (none : CStepped) (around : CWorks → CWork) → ((next : CWorks) → WorksStandIn Among next → WorkStandsIn Among (around next))
          → StepStandsIn Among none → WorksStandIn Among works → StepStandsIn Among (step_among setting frame blocks pick works none around)
      among_stands no_works pick none around within is are = is
      among_stands (more_works first others) pick none around within is are =
          one_of (nat_lt pick (ready first)) _ _
          (inside_stands (λ work. around (more_works work others)) _ (λ next next_is. within (more_works next others) (next_is, are.1)) (step_stands first pick are.0))
          (among_stands others (pick - ready first) none (λ works. around (more_works first works)) (λ next next_are. within (more_works first next) (are.0, next_are)) is are.1)
