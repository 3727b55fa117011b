-- Want of memory in a piece, and in one that is made of it.
use Rattle.std.proofs.Common.{◌≡◌, ◌⊎◌, inl, inr, refl, sym, ap, subst, ℤ, List, [], ◌∷◌, ◌++◌, drop, true, Option, option_map, Result, Ok, Err}
use Rattle.cr_base.specs.declared.scalar.Scalar.{Scalar}
use Rattle.cr_world.specs.World.{World, Got, answered}
use Rattle.cx_mean.specs.Calls.{COutcome, with_answer}
use Rattle.cx_mean.specs.Operands.{CFault, CStop}
use Rattle.cx_outside.specs.declared.calls.Halt.{Halt}
use Rattle.cx_outside.specs.declared.calls.Halt.TheVariants as halt
use Rattle.cx_outside.specs.declared.calls.Returned.{Returned}
use Rattle.cx_outside.specs.declared.outside.Lack.{Lack}
use Rattle.cx_outside.specs.declared.outside.Lack.TheVariants as lack
use Rattle.cx_outside.specs.States.{Around, KeptState, around, world_at}
use Rattle.cx_outside.specs.Wanting.{HasMade, HostKept, Wants, CallWants, StepWants, world_called, world_got}
use Rattle.ext_calls.specs.declared.call.Call.{Call}
use Rattle.ext_calls.specs.declared.call.Made.{Made}
use Rattle.ext_calls.specs.Host.{HostState, AddsCall, IsGiven, KeepsAnswers}
use Rattle.mem_bytes.specs.Counted.{Limit}
use Rattle.mem_bytes.specs.Memory.{Blocks}

-- what another piece has made, the piece has made
pub wants_by : (one other : World → Option World) (before after : Around) →
    ((made more : List Made) (ahead : List ℤ) → HasMade more (other (world_at before made ahead)) → HasMade more (one (world_at before made ahead))) →
    Wants other before after → Wants one before after
wants_by one other before after goes (inl kept) = inl kept
wants_by one other before after goes (inr called) = inr (record {
  answers = called.answers;
  calls = called.calls;
  told = called.told;
  given = called.given;
  taken_by = called.taken_by;
  takes = called.takes;
  shows = λ made. goes made (made ++ called.calls) called.answers (called.shows made);
})

-- the host took no part
pub host_alone : (host : HostState) → HostKept host host
host_alone host = record { made = refl; left = refl; takes = refl }

pub call_alone : (piece : World → COutcome) (result : Result Returned Halt) (before after : Around) → HostKept before.host after.host → CallWants piece result before after
call_alone piece (Ok one) before after kept = tt
call_alone piece (Err (halt.Undefined rule place)) before after kept = tt
call_alone piece (Err (halt.Lacks (lack.Full need left))) before after kept = tt
call_alone piece (Err (halt.Lacks (lack.Refused name))) before after kept = tt
call_alone piece (Err (halt.Lacks lack.Failed)) before after kept = tt
call_alone piece (Err (halt.Lacks lack.Memory)) before after kept = inl kept

-- ---- a call that is answered

-- a host that wants memory keeps its answers
pub answer_wanting : (call : Call) (before after : Around) → KeepsAnswers before.host after.host → after.host.takes ≡ before.host.takes → Wants (λ world. world_got (answered {F = CFault} call world)) before after
answer_wanting call before after keeps takes = inl (record { made = keeps.made; left = keeps.left; takes = takes })

-- the host has answered, and the answer couldn't be noted
pub answer_unnoted : (call : Call) (answer : ℤ) (before after : Around) → AddsCall call answer before.host after.host → IsGiven answer before.host →
    after.host.left ≡ option_map (drop 1) before.host.left → after.host.takes ≡ before.host.takes → before.host.takes call ≡ true → Wants (λ world. world_got (answered {F = CFault} call world)) before after
answer_unnoted call answer before after made given used takes taken = inr (record {
  answers = answer ∷ [];
  calls = record { call = call; answer = answer } ∷ [];
  told = made;
  given = (given, used);
  taken_by = (taken, tt);
  takes = takes;
  shows = λ calls. (refl, refl);
})

-- ---- calls made of others

called_made : (kind : Option Scalar) (more : List Made) (found : Result (Got ℤ) CStop) → HasMade more (world_got found) → HasMade more (world_called (with_answer kind found))
called_made kind more (Ok one) made = made
called_made kind more (Err why) made = made

-- a call that asks for an answer
pub asking_wants : (piece : World → COutcome) (kind : Option Scalar) (call : Call) (why : Lack) (before after : Around) →
    ((made : List Made) (ahead : List ℤ) → piece (world_at before made ahead) ≡ with_answer kind (answered call (world_at before made ahead))) →
    StepWants {B = ℤ} (answered call) (Err why) before after → CallWants piece (Err (halt.Lacks why)) before after
asking_wants piece kind call (lack.Full need left) before after is one = tt
asking_wants piece kind call (lack.Refused name) before after is one = tt
asking_wants piece kind call lack.Failed before after is one = tt
asking_wants piece kind call lack.Memory before after is one =
    wants_by (λ world. world_called (piece world)) (λ world. world_got (answered call world)) before after
    (λ made more ahead has. subst (λ (found : COutcome). HasMade more (world_called found)) (sym (is made ahead)) (called_made kind more (answered call (world_at before made ahead)) has)) one

pub wants_same : (piece other : World → COutcome) (result : Result Returned Halt) (before after : Around) → ((world : World) → piece world ≡ other world) → CallWants other result before after → CallWants piece result before after
wants_same piece other (Ok one) before after is wants = tt
wants_same piece other (Err (halt.Undefined rule place)) before after is wants = tt
wants_same piece other (Err (halt.Lacks (lack.Full need left))) before after is wants = tt
wants_same piece other (Err (halt.Lacks (lack.Refused name))) before after is wants = tt
wants_same piece other (Err (halt.Lacks lack.Failed)) before after is wants = tt
wants_same piece other (Err (halt.Lacks lack.Memory)) before after is wants =
    wants_by (λ world. world_called (piece world)) (λ world. world_called (other world)) before after
    (λ made more ahead has. subst (λ (found : COutcome). HasMade more (world_called found)) (sym (is _)) has) wants
