-- A step of an expression under a set of blocks, by induction on the tree.
use Rattle.std.proofs.Common.{ℕ, ◌-◌, Bool, true, false, nat_lt, Ok, Err}
use Rattle.cx_core.specs.Trees.{place_of}
use Rattle.cx_mean.proofs.KeptNodes.{IfGiven}
use Rattle.cx_mean.specs.Operands.{CValue, COperand, Frame, slot_of}
use Rattle.cx_mean.specs.Settings.{CSetting}
use Rattle.cx_mean.specs.Steps.{did, asks_call, CStepped, at_node, chooses_step, tests_step, place_of_put, put_step, inside, nowhere, step_at, step_among, at_first_operand}
use Rattle.cx_mean.specs.Work.{CWork, finished, needs, chooses, tests, carries, updates, fills, waits, CWorks, no_works, more_works, are_finished, operands_in, carried, ready, resumed, all_resumed}
use Rattle.mem_bytes.specs.Memory.{Blocks}
use Rattle.cx_stays.proofs.ReachMemory.{left_same}
use Rattle.cx_stays.proofs.ReachNodes.{DidWithin, at_node_within, carried_within, operands_within, chooses_within, tests_within, stage_within, put_within, needs_within}
use Rattle.cx_stays.specs.Reach.{IsPlaceWithin, GivesWithin, IsWorkWithin, AreWorksWithin, IsClosedIn}

module _ (reached : ℕ → Bool) (Named : ℕ → Type 0) where
  -- ---- the value of a call takes its place

  mutual
    pub resumed_within : (value : CValue) → GivesWithin reached Named value → (work : CWork) → IsWorkWithin reached Named work → IsWorkWithin reached Named (resumed value work)
    resumed_within value gives (finished operand) is = is
    resumed_within value gives (needs node operands) is = (is.0, all_resumed_within value gives operands is.1)
    resumed_within value gives (chooses node first) is = (is.0, resumed_within value gives first is.1)
    resumed_within value gives (tests node marks second) is = resumed_within value gives second is
    resumed_within value gives (carries node marks part) is = carried_within reached Named node marks (resumed value part) (resumed_within value gives part is)
    resumed_within value gives (updates node update stage marks) is = is
    resumed_within value gives (fills node marks one others given) is = (is.0, is.1, resumed_within value gives given is.2)
    resumed_within value gives (waits node marks) is = gives

    all_resumed_within : (value : CValue) → GivesWithin reached Named value → (works : CWorks) → AreWorksWithin reached Named works → AreWorksWithin reached Named (all_resumed value works)
    all_resumed_within value gives no_works are = tt
    all_resumed_within value gives (more_works first others) are = (resumed_within value gives first are.0, all_resumed_within value gives others are.1)

  -- ---- a part of a tree

  inside_within : (around : CWork → CWork) (blocks : Blocks) (outcome : CStepped) → ((next : CWork) → IsWorkWithin reached Named next → IsWorkWithin reached Named (around next))
      → IfGiven (DidWithin reached Named blocks) outcome → IfGiven (DidWithin reached Named blocks) (inside around outcome)
  inside_within around blocks (Ok (did next after)) within is = (within next is.0, is.1)
  inside_within around blocks (Ok (asks_call called work)) within is = (is.0, within work is.1)
  inside_within around blocks (Err fault) within is = tt

  first_within : (blocks : Blocks) (node : COperand → CStepped) (part : CStepped) (first : CWork) → IsWorkWithin reached Named first
      → ((operand : COperand) → GivesWithin reached Named operand.value → IfGiven (DidWithin reached Named blocks) (node operand)) → IfGiven (DidWithin reached Named blocks) part
      → IfGiven (DidWithin reached Named blocks) (at_first_operand node part first)
  first_within blocks node part (finished operand) is one other = one operand is
  first_within blocks node part (needs e operands) is one other = other
  first_within blocks node part (chooses e first) is one other = other
  first_within blocks node part (tests e marks second) is one other = other
  first_within blocks node part (carries e marks inner) is one other = other
  first_within blocks node part (updates e update stage marks) is one other = other
  first_within blocks node part (fills e marks put_now others value) is one other = other
  first_within blocks node part (waits e marks) is one other = other

  one_of : (blocks : Blocks) (test : Bool) (one other : CStepped) → IfGiven (DidWithin reached Named blocks) one → IfGiven (DidWithin reached Named blocks) other
      → IfGiven (DidWithin reached Named blocks) (elim test as (λ _. CStepped) [ true ↦ one | false ↦ other ])
  one_of blocks true one other is too = is
  one_of blocks false one other is too = too

  -- ---- the step at a ready node

  module _ (setting : CSetting) (frame : Frame) (live : (number : ℕ) → Named number → IsPlaceWithin reached (slot_of frame number)) (blocks : Blocks) (closed : IsClosedIn reached blocks) where
    mutual
      pub step_within : (work : CWork) (pick : ℕ) → IsWorkWithin reached Named work → IfGiven (DidWithin reached Named blocks) (step_at setting frame blocks pick work)
      step_within (finished operand) pick is = (is, left_same reached blocks closed)
      step_within (needs node operands) pick is =
          one_of blocks (are_finished operands) _ _
          (needs_within reached Named setting frame live blocks node (operands_in operands) is.0 (operands_within reached Named operands is.1) closed)
          (among_within operands pick (nowhere node) (needs node) (λ works are. (is.0, are)) tt is.1)
      step_within (chooses node first) pick is =
          first_within blocks (chooses_step blocks node) _ first is.1 (λ operand gives. chooses_within reached Named blocks node operand is.0 closed)
          (inside_within (chooses node) blocks _ (λ next next_is. (is.0, next_is)) (step_within first pick is.1))
      step_within (tests node marks second) pick is =
          first_within blocks (tests_step blocks node marks) _ second is (λ operand gives. tests_within reached Named blocks node marks operand closed)
          (inside_within (tests node marks) blocks _ (λ next next_is. next_is) (step_within second pick is))
      step_within (carries node marks part) pick is =
          inside_within (carried node marks) blocks _ (carried_within reached Named node marks) (step_within part pick is)
      step_within (updates node update stage marks) pick is =
          at_node_within (DidWithin reached Named blocks) (place_of node) _ (stage_within reached Named setting frame live blocks node update marks stage is.0 is.1 closed)
      step_within (fills node marks one others value) pick is =
          first_within blocks (λ operand. at_node (place_of_put one) (put_step setting frame blocks node marks one others operand)) _ value is.2
          (λ operand gives. at_node_within (DidWithin reached Named blocks) (place_of_put one) _ (put_within reached Named setting frame live blocks node marks one others operand is.0 is.1 gives closed))
          (inside_within (fills node marks one others) blocks _ (λ next next_is. (is.0, is.1, next_is)) (step_within value pick is.2))
      step_within (waits node marks) pick is = tt

      among_within : (works : CWorks) (pick : ℕ) (none : CStepped) (around : CWorks → CWork) → ((next : CWorks) → AreWorksWithin reached Named next → IsWorkWithin reached Named (around next))
          → IfGiven (DidWithin reached Named blocks) none → AreWorksWithin reached Named works → IfGiven (DidWithin reached Named blocks) (step_among setting frame blocks pick works none around)
      among_within no_works pick none around within is are = is
      among_within (more_works first others) pick none around within is are =
          one_of blocks (nat_lt pick (ready first)) _ _
          (inside_within (λ work. around (more_works work others)) blocks _ (λ next next_is. within (more_works next others) (next_is, are.1)) (step_within first pick are.0))
          (among_within others (pick - ready first) none (λ works. around (more_works first works)) (λ next next_are. within (more_works first next) (are.0, next_are)) is are.1)
