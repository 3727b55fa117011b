-- How a run of a crate came out, in the words of both languages.
use Rattle.std.specs.Prelude.{Bool, true, false, ⊤}
use Rattle.rs_exec.specs.declared.outcome.ROutcome.{ROutcome}
use Rattle.rs_exec.specs.declared.outcome.ROutcome.TheVariants as outcome
use Rattle.run_ends.specs.declared.end.End.{End}
use Rattle.run_ends.specs.declared.end.End.TheVariants.{Ended, Undefined, Wrong, StepsUsed, StoreFull, CallRefused, HostFailed}

abbrev pub end_of : ROutcome → End
end_of (outcome.Ended status) = Ended status
end_of (outcome.Wrong cause) = Wrong cause
end_of outcome.StepsUsed = StepsUsed
end_of (outcome.StoreFull need left) = StoreFull need left
end_of (outcome.HostRefused name) = CallRefused name
end_of outcome.HostFault = HostFailed

-- whether an end is that of a run of C alone
abbrev pub is_undefined : End → Bool
is_undefined (Undefined rule unit line) = true
is_undefined (Ended status) = false
is_undefined (Wrong cause) = false
is_undefined StepsUsed = false
is_undefined (StoreFull need left) = false
is_undefined (CallRefused name) = false
is_undefined HostFailed = false

-- an end that the run of a crate may have over a store without limit: a run of Rust isn't undefined in C, and no object lacks room
abbrev pub MayEnd : End → Type 0
MayEnd (Undefined rule unit line) = ⊥
MayEnd (StoreFull need left) = ⊥
MayEnd (Ended status) = ⊤
MayEnd (Wrong cause) = ⊤
MayEnd StepsUsed = ⊤
MayEnd (CallRefused name) = ⊤
MayEnd HostFailed = ⊤
