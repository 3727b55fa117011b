-- How a run of C came out, in the words of both languages.
use Rattle.std.specs.Prelude.{ℕ, ◌<◌, Bool, true, false, ⊤}
use Rattle.cx_exec.specs.declared.outcome.COutcome.{COutcome}
use Rattle.cx_exec.specs.declared.outcome.COutcome.TheVariants as outcome
use Rattle.run_ends.specs.declared.end.End.{End}
use Rattle.run_ends.specs.declared.end.End.TheVariants.{Ended, Undefined, Wrong, StepsUsed, StoreFull, CallRefused, HostFailed}

abbrev pub end_of : COutcome → End
end_of (outcome.Ended status) = Ended status
end_of (outcome.Undefined rule unit line) = Undefined rule unit line
end_of outcome.StepsUsed = StepsUsed
end_of (outcome.StoreFull need left) = StoreFull need left
end_of (outcome.HostRefused name) = CallRefused name
end_of outcome.HostFault = HostFailed

-- whether an end is that of a run of a crate alone
abbrev pub is_wrong : End → Bool
is_wrong (Wrong cause) = true
is_wrong (Ended status) = false
is_wrong (Undefined rule unit line) = false
is_wrong StepsUsed = false
is_wrong (StoreFull need left) = false
is_wrong (CallRefused name) = false
is_wrong HostFailed = false

-- an end that the run of so many units may have over a store without limit: a run of C isn't wrong, an undefined step stands in one of the
-- units, and no object lacks room
abbrev pub MayEnd : (count : ℕ) → End → Type 0
MayEnd count (Wrong cause) = ⊥
MayEnd count (Undefined rule unit line) = unit < count
MayEnd count (StoreFull need left) = ⊥
MayEnd count (Ended status) = ⊤
MayEnd count StepsUsed = ⊤
MayEnd count (CallRefused name) = ⊤
MayEnd count HostFailed = ⊤
