-- A run that is held, step by step.
use Rattle.std.proofs.Common.{◌≡◌, ◌∙◌, refl, sym, ap, subst, arith, ℕ, suc, ◌+◌, ◌≤◌, ℤ, List, [], Option, Some, None, Result, Ok, Err, IfOk, OnErr}
use Rattle.cr_world.specs.World.{World}
use Rattle.cx_access.specs.Views.{compatible_pairs}
use Rattle.cx_core.specs.declared.program.Parts.{Parts}
use Rattle.cx_core.specs.Layouts.{CLayouts, layouts_of}
use Rattle.cx_core.specs.Trees.{CProgram, CTypes}
use Rattle.cx_core.specs.Views.{view_program, view_types}
use Rattle.cx_machine.specs.declared.machine.Machine.{Machine}
use Rattle.cx_machine.specs.declared.stop.Stop.{Stop}
use Rattle.cx_machine.specs.declared.stop.Stop.TheVariants as stop
use Rattle.cx_outside.specs.declared.outside.Lack.TheVariants as lack
use Rattle.cx_machine.specs.Machines.{view_machine}
use Rattle.cx_machine.specs.Steps.{taken_of}
use Rattle.cx_mean.specs.Settings.{CPair, CSetting, compatible_records, setting_of}
use Rattle.cx_mean.specs.State.{CState}
use Rattle.cx_outside.specs.States.{Around, KeptState, around}
use Rattle.cx_steps.specs.Several.{AdvancesBy}
use Rattle.cx_steps.proofs.Several.{goes_on}
use Rattle.ext_calls.specs.Host.{HostState}
use Rattle.mem_bytes.specs.Counted.{Limit}
use Rattle.mem_bytes.specs.Memory.{Blocks}
use Rattle.cx_exec.specs.declared.outcome.COutcome.{COutcome}
use Rattle.cx_exec.specs.declared.outcome.COutcome.TheVariants.{Ended, Undefined, StepsUsed, StoreFull, HostRefused, HostFault}
use Rattle.cx_exec.specs.declared.outcome.CRun.{CRun}
use Rattle.cx_exec.specs.declared.run.Far.{Far}
use Rattle.cx_exec.specs.Exec.{Ran, IsRun, IsShort}
use Rattle.cx_exec.specs.Far.{IsSetting, IsStart, IsFar, IsEnd, IsEnding, IsWanting}
use Rattle.cx_exec.specs.Steps.{IsOutcome, Reached, start_around}
use Rattle.cx_exec.proofs.Between.{none_told}
use Rattle.cx_exec.proofs.Outcomes.{stopped_is, used_up, wanting}
use Rattle.cx_exec.proofs.Runs.{at_start, further_by, one_further}

-- ---- its steps

pub begun : (program : CProgram) (machine : Machine) (kept : KeptState) (blocks : Blocks) (limit : Option Limit) (host : HostState) → IsStart program machine → kept ≡ record { trail = []; heap = [] } → blocks ≡ [] →
    Reached program machine.order.now 0 (view_machine machine) (start_around limit host) (around kept blocks limit host)
begun program machine kept blocks limit host start kept_is empty =
    subst (λ (one : KeptState). Reached program machine.order.now 0 (view_machine machine) (start_around limit host) (around one blocks limit host)) (sym kept_is)
    (subst (λ (memory : Blocks). Reached program machine.order.now 0 (view_machine machine) (start_around limit host) (around (record { trail = []; heap = [] }) memory limit host)) (sym empty)
    (at_start program machine.order.now (view_machine machine) (start_around limit host) start (goes_on machine) (λ world. refl)))

-- some steps, and one more
pub further : (setting : CSetting) (order : List ℕ) (steps most count : ℕ) (old new : Machine) (first at later : Around) → IsSetting setting → Reached setting.program order steps (view_machine old) first at →
    AdvancesBy setting most count (view_machine old) (Ok tt) (view_machine new) at later → Reached setting.program order (suc (count + steps)) (view_machine new) first later
further setting order steps most count old new first at later is reached comes =
    let by : AdvancesBy (setting_of setting.program) most count (view_machine old) (Ok tt) (view_machine new) at later =
    subst (λ (one : CSetting). AdvancesBy one most count (view_machine old) (Ok tt) (view_machine new) at later) is comes in
    one_further setting.program order (count + steps) by.1 (view_machine new) first by.2 later
    (further_by setting.program order steps count (view_machine old) by.1 first at by.2 reached by.3) by.4 (goes_on new) (λ world. refl)

pub stopped : (setting : CSetting) (order : List ℕ) (limit : Option Limit) (host : HostState) (steps most count given : ℕ) (old : Machine) (at later : Around) (next : World → CState) (why : Stop) → IsSetting setting →
    Reached setting.program order steps (view_machine old) (start_around limit host) at → most + steps ≤ given → AdvancesBy setting most count (view_machine old) (Err why) next at later →
    (outcome : COutcome) → IsOutcome why outcome →
    IsRun (record { program = setting.program; order = order; limit = limit; trail = later.trail }) given host later.host outcome (taken_of why (count + steps))
stopped setting order limit host steps most count given old at later next why is reached less advances outcome outcome_is =
    let by : AdvancesBy (setting_of setting.program) most count (view_machine old) (Err why) next at later =
    subst (λ (one : CSetting). AdvancesBy one most count (view_machine old) (Err why) next at later) is advances in
    stopped_is setting.program order limit host (count + steps) by.1 by.2
    (further_by setting.program order steps count (view_machine old) by.1 (start_around limit host) at by.2 reached by.3) given (omega (arith, less, by.0)) later next why outcome outcome_is by.4

pub wants_short : (setting : CSetting) (order : List ℕ) (limit : Option Limit) (host : HostState) (steps most count given : ℕ) (old : Machine) (at later : Around) (next : World → CState) (why : Stop) → IsSetting setting →
    Reached setting.program order steps (view_machine old) (start_around limit host) at → most + steps ≤ given → AdvancesBy setting most count (view_machine old) (Err why) next at later →
    IsWanting why → IsShort setting.program order limit given host later.host
wants_short setting order limit host steps most count given old at later next (stop.Ended status) is reached less advances wanting_is = absurd wanting_is
wants_short setting order limit host steps most count given old at later next (stop.Undefined rule place) is reached less advances wanting_is = absurd wanting_is
wants_short setting order limit host steps most count given old at later next (stop.Lacks (lack.Full need left)) is reached less advances wanting_is = absurd wanting_is
wants_short setting order limit host steps most count given old at later next (stop.Lacks (lack.Refused name)) is reached less advances wanting_is = absurd wanting_is
wants_short setting order limit host steps most count given old at later next (stop.Lacks lack.Failed) is reached less advances wanting_is = absurd wanting_is
wants_short setting order limit host steps most count given old at later next (stop.Lacks lack.Memory) is reached less advances wanting_is =
    let by : AdvancesBy (setting_of setting.program) most count (view_machine old) (Err (stop.Lacks lack.Memory)) next at later =
    subst (λ (one : CSetting). AdvancesBy one most count (view_machine old) (Err (stop.Lacks lack.Memory)) next at later) is advances in
    wanting setting.program order limit host (count + steps) by.1 by.2
    (further_by setting.program order steps count (view_machine old) by.1 (start_around limit host) at by.2 reached by.3) given (omega (arith, less, by.0)) later by.4

-- nothing was asked for before the first step
pub none_short : (program : CProgram) (order : List ℕ) (limit : Option Limit) (given : ℕ) (host later : HostState) → later ≡ host → IsShort program order limit given host later
none_short program order limit given host later same = subst (IsShort program order limit given host) (sym same) (record {
  trail = [];
  steps = 0;
  within = omega arith;
  answers = refl;
  told = none_told host.made;
  given_by = refl;
  takes = tt;
})

short_run : (ran : Ran) (given : ℕ) (host later : HostState) (outcome : COutcome) (taken : ℕ) → IsRun ran given host later outcome taken → IsShort ran.program ran.order ran.limit given host later
short_run ran given host later outcome taken is = record {
  trail = ran.trail;
  steps = given;
  within = omega arith;
  answers = is.answers;
  told = is.told;
  given_by = is.given_by;
  takes = is.takes;
}

-- a run that is told of was asked for no more than it shows, and neither was one that isn't, since memory was wanting
pub far_short : (ran : Ran) (given : ℕ) (host later : HostState) (taken : ℕ) (stop : Option Stop) → IsFar ran given host later taken stop → IsShort ran.program ran.order ran.limit given host later
far_short ran given host later taken None is = short_run ran given host later StepsUsed taken is.1
far_short ran given host later taken (Some (stop.Ended status)) is = short_run ran given host later (Ended status) _ (is.1 (Ended status) refl)
far_short ran given host later taken (Some (stop.Undefined rule place)) is = short_run ran given host later (Undefined rule place.unit place.line) _ (is.1 (Undefined rule place.unit place.line) refl)
far_short ran given host later taken (Some (stop.Lacks (lack.Full need left))) is = short_run ran given host later (StoreFull need left) _ (is.1 (StoreFull need left) refl)
far_short ran given host later taken (Some (stop.Lacks (lack.Refused name))) is = short_run ran given host later (HostRefused name.now) _ (is.1 (HostRefused name.now) refl)
far_short ran given host later taken (Some (stop.Lacks lack.Failed)) is = short_run ran given host later HostFault _ (is.1 HostFault refl)
far_short ran given host later taken (Some (stop.Lacks lack.Memory)) is = is.2 tt

pub short_of : (parts whole : Parts) (order : List ℕ) (limit : Option Limit) (given : ℕ) (host later : HostState) → parts ≡ whole → IsShort (view_program parts) order limit given host later →
    IsShort (view_program whole) order limit given host later
short_of parts whole order limit given host later same is = subst (λ (one : Parts). IsShort (view_program one) order limit given host later) same is

-- ---- its end

pub ends_as : (ran : Ran) (given : ℕ) (host later : HostState) (far : Far) (run : CRun) → IsFar ran given host later far.taken far.stop → IsEnd far run ran.trail →
    IsRun (record { program = ran.program; order = ran.order; limit = ran.limit; trail = run.trail }) given host later run.outcome run.steps
ends_as ran given host later far run is end =
    subst (λ (trail : List ℤ). IsRun (record { program = ran.program; order = ran.order; limit = ran.limit; trail = trail }) given host later run.outcome run.steps) (sym end.trail_is)
    (ends_by ran given host later far.taken far.stop run.outcome run.steps is end.ending)
  where
    ends_by : (one : Ran) (most : ℕ) (before after : HostState) (taken : ℕ) (stop : Option Stop) (outcome : COutcome) (steps : ℕ) → IsFar one most before after taken stop → IsEnding stop taken outcome steps →
        IsRun one most before after outcome steps
    ends_by one most before after taken None outcome steps far_is ending =
        subst (λ (count : ℕ). IsRun one most before after outcome count) (sym ending.1)
        (subst (λ (other : COutcome). IsRun one most before after other taken) (sym ending.0) far_is.1)
    ends_by one most before after taken (Some why) outcome steps far_is ending =
        subst (λ (count : ℕ). IsRun one most before after outcome count) (sym ending.1) (far_is.1 outcome ending.0)

pub if_ok : {A E : Type 0} {P Q : A → Type 0} (result : Result A E) → ((value : A) → P value → Q value) → IfOk result P → IfOk result Q
if_ok (Ok value) step holds = step value holds
if_ok (Err why) step holds = tt

-- ---- settings

pairs_are : (types : CTypes) → compatible_pairs types ≡ compatible_records types
unfolding compatible_pairs
pairs_are types = refl

-- the setting of a program with its layouts
pub setting_is : (parts whole : Parts) (layouts : CLayouts) → parts ≡ whole → layouts ≡ layouts_of (view_types whole.types) →
    record { program = view_program parts; layouts = layouts; pairs = compatible_pairs (view_types parts.types) } ≡ setting_of (view_program parts)
setting_is parts whole layouts same is =
    ap (λ (all : CLayouts). record { program = view_program parts; layouts = all; pairs = compatible_pairs (view_types parts.types) }) (is ∙ ap (λ (one : Parts). layouts_of (view_types one.types)) (sym same))
    ∙ ap (λ (pairs : List CPair). record { program = view_program parts; layouts = layouts_of (view_types parts.types); pairs = pairs }) (pairs_are (view_types parts.types))

-- a run of the same program
pub run_of : (parts whole : Parts) (order : List ℕ) (limit : Option Limit) (trail : List ℤ) (given : ℕ) (host later : HostState) (outcome : COutcome) (taken : ℕ) → parts ≡ whole →
    IsRun (record { program = view_program parts; order = order; limit = limit; trail = trail }) given host later outcome taken →
    IsRun (record { program = view_program whole; order = order; limit = limit; trail = trail }) given host later outcome taken
run_of parts whole order limit trail given host later outcome taken same is =
    subst (λ (one : Parts). IsRun (record { program = view_program one; order = order; limit = limit; trail = trail }) given host later outcome taken) same is

-- ---- all steps were used

pub all_used : (program : CProgram) (order : List ℕ) (limit : Option Limit) (host : HostState) (steps given : ℕ) (machine : Machine) (at : Around) →
    Reached program order steps (view_machine machine) (start_around limit host) at → steps ≡ given →
    (steps ≡ given) × IsRun (record { program = program; order = order; limit = limit; trail = at.trail }) given host at.host StepsUsed steps
all_used program order limit host steps given machine at reached same = (
  same,
  subst (λ (count : ℕ). IsRun (record { program = program; order = order; limit = limit; trail = at.trail }) count host at.host StepsUsed steps) same
      (used_up program order limit host steps (view_machine machine) at reached),
)

-- a run is never farther than was given
pub far_within : (ran : Ran) (given : ℕ) (host later : HostState) (taken : ℕ) (stop : Option Stop) → IsFar ran given host later taken stop → taken ≤ given
far_within ran given host later taken None is = omega (arith, is.0)
far_within ran given host later taken (Some why) is = is.0

pub on_err : {A E P : Type 0} (result : Result A E) → P → OnErr result P
on_err (Ok value) holds = tt
on_err (Err why) holds = holds
