-- What a host is: the outside that answers the calls of a run.
use Rattle.std.specs.Prelude.{◌≡◌, ℕ, ℤ, pos, Bool, true, List, [], ◌∷◌, ◌++◌, drop, Option, Some, IfSome, option_map, Result, Err, ◌⊎◌}
use Rattle.ext_calls.specs.declared.call.Call.{Call}
use Rattle.ext_calls.specs.declared.call.Made.{Made}
use Rattle.ext_calls.specs.declared.fault.HostFault.{HostFault}
use Rattle.ext_calls.specs.declared.fault.HostFault.TheVariants.{Refused, Memory}

-- what is known of a host between two calls
pub record HostState : Type 0 where
  -- the calls that it answered, each with its answer, in order; none where the host doesn't tell them
  pub made : Option (List Made)
  -- the answers to come, in order; none where the host doesn't tell them
  pub left : Option (List ℤ)
  -- whether it takes a call, as a test of the call; no call changes this
  pub takes : Call → Bool
  -- how many of its calls have failed; never falls
  pub faults : ℕ

-- the calls made, with one more at the end
abbrev pub with_made : Call → ℤ → List Made → List Made
with_made call answer made = made ++ record { call = call; answer = answer } ∷ []

-- a call was answered: where the calls made are told, this one and its answer are now at their end;
-- where they aren't told, they still aren't
abbrev pub AddsCall : Call → ℤ → HostState → HostState → Type 0
AddsCall call answer before after = after.made ≡ option_map (with_made call answer) before.made

-- what the answers to come give for a call: the first, or 0 where none is left
abbrev pub first_answer : List ℤ → ℤ
first_answer [] = pos 0
first_answer (answer ∷ others) = answer

-- an answer is the one that the answers to come give, where these are told
abbrev pub IsGiven : ℤ → HostState → Type 0
IsGiven answer before = IfSome before.left (λ left. answer ≡ first_answer left)

-- an answer was used up: where the answers to come are told, the first is gone, and where none was
-- left none is; where they aren't told, they still aren't
abbrev pub UsesAnswer : HostState → HostState → Type 0
UsesAnswer before after = after.left ≡ option_map (drop 1) before.left

-- no call was answered: the calls made and the answers to come are as they were
pub record KeepsAnswers (before after : HostState) : Type 0 where
  pub made : after.made ≡ before.made
  pub left : after.left ≡ before.left

-- a call was declined: it is refused, or memory is wanting
abbrev pub IsDeclined : Result ℤ HostFault → Type 0
IsDeclined result = (result ≡ Err Refused) ⊎ (result ≡ Err Memory)

-- the state of a host that takes every call and tells all: the calls made, the answers to come and
-- the count of failures
abbrev pub told_state : List Made → List ℤ → ℕ → HostState
told_state made left faults = record { made = Some made; left = Some left; takes = λ call. true; faults = faults }
