-- What contracts see of the standard host, and how it answers calls.
use Rattle.std.specs.Prelude.{◌≡◌, ℕ, ◌+◌, ◌<◌, ◌≤◌, ℤ, pos, List, [], ◌∷◌, length, take, Option, None, Some, IfSome, Result, Ok, Err}
use Rattle.cr_base.specs.Count.{Rose}
use Rattle.ext_calls.specs.Host.{HostState, IsDeclined}
use Rattle.ext_calls.specs.declared.fault.HostFault.{HostFault}
use Rattle.ext_calls.specs.declared.fault.HostFault.TheVariants.{Failed, Refused, Memory}
use Rattle.shelf.specs.Sink.{SinkState, Appended}
use Rattle.shelf.specs.Source.{SourceState, IsFirst, behind_first}
use Rattle.std_host.specs.Effects.{is_taken, count_of, answer_read}
use Rattle.std_host.specs.declared.effect.Effect.{Effect}
use Rattle.std_host.specs.declared.effect.Effect.TheVariants.{WritesByte, WritesText, Reads}

-- a standard host: the source that it reads and the sink that it writes
pub record StdHostView (R S : Type 0) : Type 0 where
  pub input : R
  pub output : S

-- it tells neither the calls made nor the answers to come, takes the calls that do something, and has failed as often as its source
-- and its sink together
abbrev pub state_of : {R S : Type 0} → (R → SourceState) → (S → SinkState) → StdHostView R S → HostState
state_of source sink host = record {
  made = None;
  left = None;
  takes = is_taken;
  faults = (source host.input).faults + (sink host.output).faults;
}

-- ---- a call that writes

-- a front of these bytes was taken
abbrev pub TookFront : List ℕ → Option (List ℕ) → Option (List ℕ) → Type 0
TookFront bytes before after = (count : ℕ) × (count ≤ length bytes) × Appended (take count bytes) before after

-- what came of a call that writes these bytes and has this answer: all of them were taken, and it is answered so; or the sink failed
-- behind a front of them; or there was no memory for them, and nothing was taken
abbrev pub HasWritten : List ℕ → ℤ → SinkState → SinkState → Result ℤ HostFault → Type 0
HasWritten bytes answer before after (Ok given) = (given ≡ answer) × Appended bytes before.written after.written
HasWritten bytes answer before after (Err Failed) =
    TookFront bytes before.written after.written × Rose before.faults after.faults
HasWritten bytes answer before after (Err Refused) = ⊥
HasWritten bytes answer before after (Err Memory) = after ≡ before

-- ---- a call that reads

-- what came of a call that reads: the first byte that is to come was taken, or none is left, and it is answered so; or the source
-- failed, and nothing was taken
abbrev pub HasRead : SourceState → SourceState → Result ℤ HostFault → Type 0
HasRead before after (Ok given) =
    (next : Option ℕ) × IfSome next (λ byte. byte < 256) × IsFirst next before.rest × (after.rest ≡ behind_first before.rest) × (given ≡ answer_read next)
HasRead before after (Err Failed) = (after.rest ≡ before.rest) × Rose before.faults after.faults
HasRead before after (Err Refused) = ⊥
HasRead before after (Err Memory) = ⊥

-- ---- any call

-- what came of a call by what it does. A call that writes leaves the source as it was, one that reads leaves the sink, and one that
-- does nothing is refused, or memory is wanting, and changes nothing.
abbrev pub IsAnswered : {R S : Type 0} → (R → SourceState) → (S → SinkState) → Option Effect → StdHostView R S → StdHostView R S → Result ℤ HostFault → Type 0
IsAnswered source sink None before after result = IsDeclined result × (after ≡ before)
IsAnswered source sink (Some (WritesByte byte)) before after result =
    HasWritten (byte ∷ []) (pos byte) (sink before.output) (sink after.output) result × (after.input ≡ before.input)
IsAnswered source sink (Some (WritesText text)) before after result =
    HasWritten text (count_of text) (sink before.output) (sink after.output) result × (after.input ≡ before.input)
IsAnswered source sink (Some Reads) before after result =
    HasRead (source before.input) (source after.input) result × (after.output ≡ before.output)
