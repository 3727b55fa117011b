-- How far a run of either language comes, and what a run with the answers of a host is to the meaning of its program.
use Rattle.std.specs.Prelude.{◌≡◌, ℕ, ◌≤◌, ℤ, Bool, true, false, List, [], ◌∷◌, ◌++◌, drop, Option, IfSome, option_map, ⊤}
use Rattle.cr_base.specs.Count.{Rose}
use Rattle.cr_base.specs.declared.rule.URule.{URule}
use Rattle.ext_calls.specs.declared.call.Call.{Call}
use Rattle.ext_calls.specs.declared.call.Made.{Made}
use Rattle.ext_calls.specs.Host.{HostState, first_answer}
use Rattle.rs_mean.specs.declared.cause.Cause.{Cause}
use Rattle.run_ends.specs.declared.end.End.{End}
use Rattle.run_ends.specs.declared.end.End.TheVariants.{Ended, Undefined, Wrong, StepsUsed, StoreFull, CallRefused, HostFailed}

-- ---- the meaning of a program, as both languages have one

-- how far a run comes within its steps or units
pub data Progress : Type 0 where
  -- it goes on
  going : Progress
  -- it ended with a status
  ended : (status : ℤ) → Progress
  -- its next step is undefined in C by a rule, at a line of a unit
  undefined : (rule : URule) → (unit line : ℕ) → Progress
  -- its next step is wrong in Rust
  wrong : (cause : Cause) → Progress
  -- its next step begins an object that the store refuses: the bytes that it needs, and those that are left
  full : (need left : ℕ) → Progress
  -- its next step makes a call, and no answer is left
  asks_for : Call → Progress
  -- its next step is none that a typed program takes, or an answer of an allocation isn't the store's
  astray : Progress

-- what is seen of a run under a trail of answers: how far it comes, the calls that it makes, each with its answer, and the answers that it
-- doesn't take
pub record Shown : Type 0 where
  pub progress : Progress
  pub made : List Made
  pub left : List ℤ

-- what a program means: what is seen of its run under each trail of answers
abbrev pub Meaning : Type 0
Meaning = List ℤ → Shown

-- ---- the answers of a host

-- the answers of calls are those that were to come, in order, where they are told
abbrev pub AreFirst : List Made → Option (List ℤ) → Type 0
AreFirst [] left = ⊤
AreFirst (one ∷ others) left = IfSome left (λ answers. one.answer ≡ first_answer answers) × AreFirst others (option_map (drop 1) left)

-- the same, and these are those that are left then; where they aren't told, they still aren't
abbrev pub AreGiven : List Made → Option (List ℤ) → Option (List ℤ) → Type 0
AreGiven [] before after = after ≡ before
AreGiven (one ∷ others) before after =
    IfSome before (λ answers. one.answer ≡ first_answer answers) × AreGiven others (option_map (drop 1) before) after

-- calls are such as a host takes
abbrev pub AreTaken : (Call → Bool) → List Made → Type 0
AreTaken takes [] = ⊤
AreTaken takes (one ∷ others) = (takes one.call ≡ true) × AreTaken takes others

-- what is seen under a trail is tied to a host, before and after: the run takes all answers of the trail; the calls that the host tells grew by
-- those that the run makes, with the answers of the trail; these are the answers that the host had to give, in order; and it takes each call
pub record IsTied (shown : Shown) (host later : HostState) : Type 0 where
  pub taken : shown.left ≡ []
  pub told : later.made ≡ option_map (λ made. made ++ shown.made) host.made
  pub given : AreGiven shown.made host.left later.left
  pub takes : AreTaken host.takes shown.made

-- what is seen under a trail is what a host may answer: the run takes all answers of the trail, those of its calls are the first that the host
-- has to give, and it takes each call
pub record MayAnswer (host : HostState) (shown : Shown) : Type 0 where
  pub taken : shown.left ≡ []
  pub given : AreFirst shown.made host.left
  pub takes : AreTaken host.takes shown.made

-- ---- the end of a run

-- an end is how far the meaning comes; a call at which the host stopped the run is one that it doesn't take, or one at which it failed
abbrev pub IsEnd : (takes : Call → Bool) → End → Progress → Type 0
IsEnd takes (Ended status) progress = progress ≡ ended status
IsEnd takes (Undefined rule unit line) progress = progress ≡ undefined rule unit line
IsEnd takes (Wrong cause) progress = progress ≡ wrong cause
IsEnd takes StepsUsed progress = progress ≡ going
IsEnd takes (StoreFull need left) progress = progress ≡ full need left
IsEnd takes (CallRefused name) progress = (call : Call) × (progress ≡ asks_for call) × (call.name ≡ name) × (takes call ≡ false)
IsEnd takes HostFailed progress = (call : Call) × (progress ≡ asks_for call) × (takes call ≡ true)

-- a run of what has a meaning came to an end, from a host to a later one: there is a trail of answers, tied to the host, under which the
-- meaning comes so far
pub record IsRun (meaning : Meaning) (host later : HostState) (end : End) : Type 0 where
  pub trail : List ℤ
  pub comes : IsEnd host.takes end (meaning trail).progress
  pub tied : IsTied (meaning trail) host later

-- memory was wanting in a run of what has a meaning for each number of steps: within some steps, at most those that were given, there is a trail of
-- answers, tied to the host
pub record IsWanting (meaning : ℕ → Meaning) (given : ℕ) (host later : HostState) : Type 0 where
  pub steps : ℕ
  pub within : steps ≤ given
  pub trail : List ℤ
  pub tied : IsTied (meaning steps trail) host later

-- the outside failed only where the host counted a failure
abbrev pub HasFailed : HostState → HostState → End → Type 0
HasFailed before after HostFailed = Rose before.faults after.faults
HasFailed before after end = ⊤
