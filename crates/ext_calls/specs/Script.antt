-- Hosts whose answers are given beforehand.
use Rattle.std.specs.Prelude.{◌≡◌, ℕ, ◌+◌, ◌-◌, ◌^◌, min, ℤ, List, drop}
use Rattle.ext_calls.specs.declared.call.Call.{Call}
use Rattle.ext_calls.specs.declared.call.Made.{Made}
use Rattle.ext_calls.specs.Host.{with_made, first_answer}

-- the calls that were answered, each with its answer, in order, and the answers to come
pub record Told : Type 0 where
  pub made : List Made
  pub left : List ℤ

-- a call was answered: it was given the first answer to come, which is used up, or 0 where none was
-- left
pub record AnswersCall (call : Call) (answer : ℤ) (before after : Told) : Type 0 where
  pub given : answer ≡ first_answer before.left
  pub made : after.made ≡ with_made call answer before.made
  pub left : after.left ≡ drop 1 before.left

-- answers for calls that are numbered from 0, some of which fail
pub record Script : Type 0 where
  pub told : Told
  -- the numbers of the calls that fail, in any order
  pub fails : List ℕ
  -- the number of the next call
  pub number : ℕ
  -- how many calls have failed
  pub faults : ℕ

-- a count or number that goes up by one, and stands still at the last value of a `u64`
abbrev pub one_more : ℕ → ℕ
one_more count = min (count + 1) (2 ^ 64 - 1)

-- the call with the next number was answered; no more calls have failed
pub record AnswersNext (call : Call) (answer : ℤ) (before after : Script) : Type 0 where
  pub told : AnswersCall call answer before.told after.told
  pub fails : after.fails ≡ before.fails
  pub number : after.number ≡ one_more before.number
  pub faults : after.faults ≡ before.faults

-- the call with the next number failed: the failure is counted, and no answer is used up
abbrev pub FailsNext : Script → Script → Type 0
FailsNext before after =
    after ≡ record before { number = one_more before.number; faults = one_more before.faults }
