-- What an engine does of a piece of a run.
use Rattle.std.specs.Prelude.{◌≡◌, ◌⊎◌, ℕ, ◌+◌, ◌<◌, ◌≤◌, ℤ, true, false, List, [], ◌∷◌, ◌++◌, option_map, Result, Ok, Err}
use Rattle.cr_base.specs.Count.{Rose}
use Rattle.cr_runs.specs.Runs.{Ran, came, halted, bad, out}
use Rattle.cr_world.specs.World.{World, Stop, wrong, full, asks, astray}
use Rattle.ext_calls.specs.declared.call.Call.{Call}
use Rattle.ext_calls.specs.declared.call.Made.{Made}
use Rattle.rs_mean.specs.declared.cause.Cause.{Cause}
use Rattle.rs_mean.specs.World.{Run}
use Rattle.rs_machine.specs.declared.halt.Halt.{Halt}
use Rattle.rs_machine.specs.declared.halt.Halt.TheVariants as halt
use Rattle.mem_bytes.specs.declared.fault.StoreFault.{StoreFault}
use Rattle.mem_bytes.specs.declared.fault.StoreFault.TheVariants as fault
use Rattle.rs_value.specs.declared.trouble.Trouble.{Trouble}
use Rattle.rs_value.specs.declared.trouble.Trouble.TheVariants as trouble
use Rattle.rs_machine.specs.States.{AreGiven, AreTaken, State, Between, world_at}

-- ---- ends

-- why a run goes no further
pub data Stopped : Type 0 where
  ended : (status : ℤ) → Stopped
  went_wrong : Cause → Stopped
  no_units : Stopped
  store_full : (need left : ℕ) → Stopped
  refused : (name : List ℕ) → Stopped
  failed : Stopped
  no_memory : Stopped

-- what comes of a piece
pub data End (B : Type 0) : Type 0 where
  gives : B → End B
  stops : Stopped → End B

abbrev pub stopped_by : Halt → Stopped
stopped_by (halt.Ended status) = ended status
stopped_by (halt.Wrong why) = went_wrong why
stopped_by halt.Units = no_units
stopped_by (halt.Full need left) = store_full need left
stopped_by (halt.Refused name) = refused name.now
stopped_by halt.Failed = failed
stopped_by halt.Memory = no_memory

-- why it goes no further by what is found of values, and by what a store answers
abbrev pub stopped_of : Trouble → Stopped
stopped_of (trouble.Wrong why) = went_wrong why
stopped_of trouble.Memory = no_memory

abbrev pub stopped_by_store : StoreFault → Stopped
stopped_by_store (fault.Full need left) = store_full need left
stopped_by_store fault.Memory = no_memory

abbrev pub end_of : {A B : Type 0} → (A → B) → Result A Halt → End B
end_of view (Ok value) = gives (view value)
end_of view (Err halt) = stops (stopped_by halt)

-- the end of a piece that does no more than to find a value, or why there is none
abbrev pub found_end : {B : Type 0} → Result B Cause → End B
found_end (Ok value) = gives value
found_end (Err why) = stops (went_wrong why)

-- ---- the calls that were answered

-- behind these calls, a run asks for the answer of one more
abbrev pub IsAsking : {A : Type 0} → Call → List Made → Ran (Stop Cause) World A → Type 0
IsAsking call made (came value world left) = ⊥
IsAsking call made (halted status world) = ⊥
IsAsking call made (out world) = ⊥
IsAsking call made (bad (wrong why) world) = ⊥
IsAsking call made (bad (full need left) world) = ⊥
IsAsking call made (bad astray world) = ⊥
IsAsking call made (bad (asks one) world) = (one ≡ call) × (world.made ≡ made)

-- of some calls, the last is the one for whose answer the piece asks behind the others, with the answers that were taken until then
pub record LastIsAsked {B : Type 0} (piece : Run B) (before : State) (most : ℕ) (calls : List Made) : Type 0 where
  pub others : List Made
  pub last : Made
  pub are : calls ≡ others ++ last ∷ []
  pub answers : List ℤ
  pub units : ℕ
  pub within : units ≤ most
  pub asked : (made : List Made) → IsAsking last.call (made ++ others) (piece (world_at before made answers) units)

-- calls are those that the piece makes, within so many units, up to the last
abbrev pub AreAsked : {B : Type 0} → Run B → State → (most : ℕ) → List Made → Type 0
AreAsked piece before most calls = (calls ≡ []) ⊎ LastIsAsked piece before most calls

-- ---- a piece that came to an end

-- within fewer units than it took the piece asks for one more
abbrev pub IsOut : {A : Type 0} → Ran (Stop Cause) World A → Type 0
IsOut (came value world left) = ⊥
IsOut (halted status world) = ⊥
IsOut (bad why world) = ⊥
IsOut (out world) = Unit {0}

pub record Comes {B : Type 0} (piece : Run B) (value : B) (before after : State) : Type 0 where
  pub between : Between before after
  pub goes : (made : List Made) (ahead : List ℤ) (left : ℕ) →
      piece (world_at before made (between.answers ++ ahead)) (between.taken + left) ≡ came value (world_at after (made ++ between.calls) ahead) left
  pub short : (made : List Made) (ahead : List ℤ) (fewer : ℕ) → fewer < between.taken →
      IsOut (piece (world_at before made (between.answers ++ ahead)) fewer)
  pub asked : AreAsked piece before between.taken between.calls

-- ---- a piece in which the run stopped

-- how it stopped, in the meaning
pub data Ending : Type 0 where
  ends_with : (status : ℤ) → Ending
  breaks_off : Stop Cause → Ending
  runs_out : Ending

abbrev pub ran_of : {B : Type 0} → Ending → World → Ran (Stop Cause) World B
ran_of (ends_with status) world = halted status world
ran_of (breaks_off why) world = bad why world
ran_of runs_out world = out world

-- with which answers ahead and with how many units left: a call asks where no answer is ahead, and a unit is asked for where none is left
abbrev pub IsAt : Ending → List ℤ → ℕ → Type 0
IsAt runs_out ahead left = left ≡ 0
IsAt (breaks_off (asks call)) ahead left = ahead ≡ []
IsAt (breaks_off (wrong why)) ahead left = Unit {0}
IsAt (breaks_off (full need rest)) ahead left = Unit {0}
IsAt (breaks_off astray) ahead left = Unit {0}
IsAt (ends_with status) ahead left = Unit {0}

pub record Breaks {B : Type 0} (piece : Run B) (ending : Ending) (before after : State) : Type 0 where
  pub between : Between before after
  pub goes : (made : List Made) (ahead : List ℤ) (left : ℕ) → IsAt ending ahead left →
      piece (world_at before made (between.answers ++ ahead)) (between.taken + left) ≡ ran_of ending (world_at after (made ++ between.calls) ahead)
  pub short : (made : List Made) (ahead : List ℤ) (fewer : ℕ) → fewer < between.taken →
      IsOut (piece (world_at before made (between.answers ++ ahead)) fewer)

pub record RunsOut {B : Type 0} (piece : Run B) (before after : State) : Type 0 where
  pub none : after.units ≡ 0
  pub stops : Breaks piece runs_out before after

-- a call that the host doesn't take
pub record IsRefused {B : Type 0} (piece : Run B) (name : List ℕ) (before after : State) : Type 0 where
  pub call : Call
  pub named : call.name ≡ name
  pub declined : after.host.takes call ≡ false
  pub stops : Breaks piece (breaks_off (asks call)) before after

-- a call at which the outside failed
pub record Fails {B : Type 0} (piece : Run B) (before after : State) : Type 0 where
  pub call : Call
  pub taken : after.host.takes call ≡ true
  pub rose : Rose before.host.faults after.host.faults
  pub stops : Breaks piece (breaks_off (asks call)) before after

-- memory was wanting: the calls that the host answered until then are those that the piece makes, up to the last, within the units that were left
pub record Wants {B : Type 0} (piece : Run B) (before after : State) : Type 0 where
  pub calls : List Made
  pub told : after.host.made ≡ option_map (λ made. made ++ calls) before.host.made
  pub given : AreGiven calls before.host.left after.host.left
  pub taken_by : AreTaken before.host.takes calls
  pub takes : after.host.takes ≡ before.host.takes
  pub asked : AreAsked piece before before.units calls

abbrev pub DoesBy : {B : Type 0} → Run B → End B → State → State → Type 0
DoesBy piece (gives value) before after = Comes piece value before after
DoesBy piece (stops (ended status)) before after = Breaks piece (ends_with status) before after
DoesBy piece (stops (went_wrong why)) before after = Breaks piece (breaks_off (wrong why)) before after
DoesBy piece (stops no_units) before after = RunsOut piece before after
DoesBy piece (stops (store_full need left)) before after = Breaks piece (breaks_off (full need left)) before after
DoesBy piece (stops (refused name)) before after = IsRefused piece name before after
DoesBy piece (stops failed) before after = Fails piece before after
-- want of memory may come in the place of any end
DoesBy piece (stops no_memory) before after = Wants piece before after

-- what the engine did of a piece, from one state to another, with this end
pub record Does {B : Type 0} (piece : Run B) (end : End B) (before after : State) : Type 0 where
  pub by : DoesBy piece end before after

-- the same, of a piece that leaves each state as it is
abbrev pub Stays : {B : Type 0} → Run B → End B → Type 0
Stays piece end = (at : State) → Does piece end at at
