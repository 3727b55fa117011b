-- What a state's run shows within so many steps, against a piece of the leftmost run as a function.
use Rattle.std.proofs.Common.{◌≡◌, ℕ, zero, suc, ℤ, [], refl, ap, ◌∙◌}
use Rattle.cr_runs.specs.Runs.{came, halted, bad, out, bind, tick}
use Rattle.straight_core.specs.Trees.{CProgram}
use Rattle.straight_mean.specs.Leftmost.{CRan, c_shown}
use Rattle.straight_mean.specs.Operands.{Frame, CWorld, CFault}
use Rattle.straight_mean.specs.Run.{CProgress, going, ended, undefined_by, seen_at, c_after}
use Rattle.straight_mean.specs.State.{CControl, has_ended, is_undefined, CState, c_step}

-- a state under the empty order
abbrev pub standing : Frame → CControl → CWorld → CState
standing frame control world = record { control = control; frame = frame; world = world; order = [] }

abbrev pub shows : CState → CWorld → CProgress → Type 0
shows state world progress = seen_at state ≡ record { events = world.events; progress = progress }

-- the run from a state goes as a piece does, and then on from the state that follows its result
abbrev pub Goes : {A : Type 0} → CProgram → ℕ → CState → CRan A → (A → CWorld → CState) → Type 0
Goes program steps state (came value world left) next =
    c_after program steps state ≡ c_after program left (next value world)
Goes program steps state (halted status world) next = shows (c_after program steps state) world (ended status)
Goes program steps state (bad fault world) next = shows (c_after program steps state) world (undefined_by fault)
Goes program steps state (out world) next = shows (c_after program steps state) world going

pub record Reaches {A : Type 0} (program : CProgram) (steps : ℕ) (state : CState) (piece : CRan A) (next : A → CWorld → CState) : Type 0 where
  pub goes : Goes program steps state piece next

-- the run from a state shows what a whole run shows
pub record Shows (program : CProgram) (steps : ℕ) (state : CState) (piece : CRan ℤ) : Type 0 where
  pub seen : seen_at (c_after program steps state) ≡ c_shown piece

-- ---- pieces

-- a value at once
pub reached : {A : Type 0} (program : CProgram) (steps : ℕ) (value : A) (world : CWorld) (next : A → CWorld → CState) →
    Reaches program steps (next value world) (came value world steps) next
reached program steps value world next = record { goes = refl }

-- a run that shows no result goes as it does, whatever follows
goes_same : {A : Type 0} (program : CProgram) (steps left : ℕ) (state other : CState) (piece : CRan A) (next : A → CWorld → CState) →
    c_after program steps state ≡ c_after program left other → Goes program left other piece next →
    Goes program steps state piece next
goes_same program steps left state other (came value world rest) next same goes = same ∙ goes
goes_same program steps left state other (halted status world) next same goes = rw same goes
goes_same program steps left state other (bad fault world) next same goes = rw same goes
goes_same program steps left state other (out world) next same goes = rw same goes

goes_bind : {A B : Type 0} (program : CProgram) (steps : ℕ) (state : CState) (piece : CRan A) (next : A → CWorld → CState)
    (go : A → CWorld → ℕ → CRan B) (last : B → CWorld → CState) →
    Goes program steps state piece next →
    ((value : A) (world : CWorld) (left : ℕ) → Reaches program left (next value world) (go value world left) last) →
    Goes program steps state (bind piece go) last
goes_bind program steps state (came value world left) next go last goes rest =
    goes_same program steps left state (next value world) (go value world left) last goes (rest value world left).goes
goes_bind program steps state (halted status world) next go last goes rest = goes
goes_bind program steps state (bad fault world) next go last goes rest = goes
goes_bind program steps state (out world) next go last goes rest = goes

-- one piece after another
pub reaches_bind : {A B : Type 0} (program : CProgram) (steps : ℕ) (state : CState) (piece : CRan A) (next : A → CWorld → CState)
    (go : A → CWorld → ℕ → CRan B) (last : B → CWorld → CState) →
    Reaches program steps state piece next →
    ((value : A) (world : CWorld) (left : ℕ) → Reaches program left (next value world) (go value world left) last) →
    Reaches program steps state (bind piece go) last
reaches_bind program steps state piece next go last first rest =
    record { goes = goes_bind program steps state piece next go last first.goes rest }

goes_step : {A : Type 0} (program : CProgram) (steps : ℕ) (state : CState) (piece : CRan A) (next : A → CWorld → CState) →
    Goes program steps (c_step program state) piece next → Goes program (suc steps) state piece next
goes_step program steps state (came value world left) next goes = goes
goes_step program steps state (halted status world) next goes = goes
goes_step program steps state (bad fault world) next goes = goes
goes_step program steps state (out world) next goes = goes

-- one step, after which the run goes as the rest does
pub reaches_tick : {A : Type 0} (program : CProgram) (state : CState) (world : CWorld) (go : ℕ → CRan A) (next : A → CWorld → CState) →
    shows state world going →
    ((left : ℕ) → Reaches program left (c_step program state) (go left) next) →
    (steps : ℕ) → Reaches program steps state (tick world go steps) next
reaches_tick program state world go next now rest zero = record { goes = now }
reaches_tick program state world go next now rest (suc left) =
    record { goes = goes_step program left state (go left) next (rest left).goes }

-- the same piece from another state that is equal
pub reaches_from : {A : Type 0} (program : CProgram) (steps : ℕ) (state other : CState) (piece : CRan A) (next : A → CWorld → CState) →
    state ≡ other → Reaches program steps other piece next → Reaches program steps state piece next
reaches_from program steps state other piece next same rest = rw same rest

-- ---- ends

-- a run stays where it was undefined, and where it ended
pub stays_undefined : (program : CProgram) (frame : Frame) (fault : CFault) (world : CWorld) (steps : ℕ) →
    c_after program steps (standing frame (is_undefined fault) world) ≡ standing frame (is_undefined fault) world
stays_undefined program frame fault world zero = refl
stays_undefined program frame fault world (suc steps) = stays_undefined program frame fault world steps

pub stays_ended : (program : CProgram) (frame : Frame) (status : ℤ) (world : CWorld) (steps : ℕ) →
    c_after program steps (standing frame (has_ended status) world) ≡ standing frame (has_ended status) world
stays_ended program frame status world zero = refl
stays_ended program frame status world (suc steps) = stays_ended program frame status world steps

-- an undefined state goes as an undefined piece
pub reaches_bad : {A : Type 0} (program : CProgram) (frame : Frame) (fault : CFault) (world : CWorld) (steps : ℕ) (next : A → CWorld → CState) →
    Reaches program steps (standing frame (is_undefined fault) world) (bad fault world) next
reaches_bad program frame fault world steps next =
    record { goes = ap seen_at (stays_undefined program frame fault world steps) }

-- ---- whole runs

seen_bind : {A : Type 0} (program : CProgram) (steps : ℕ) (state : CState) (piece : CRan A) (next : A → CWorld → CState)
    (go : A → CWorld → ℕ → CRan ℤ) → Goes program steps state piece next →
    ((value : A) (world : CWorld) (left : ℕ) → Shows program left (next value world) (go value world left)) →
    seen_at (c_after program steps state) ≡ c_shown (bind piece go)
seen_bind program steps state (came value world left) next go goes rest = ap seen_at goes ∙ (rest value world left).seen
seen_bind program steps state (halted status world) next go goes rest = goes
seen_bind program steps state (bad fault world) next go goes rest = goes
seen_bind program steps state (out world) next go goes rest = goes

pub shows_bind : {A : Type 0} (program : CProgram) (steps : ℕ) (state : CState) (piece : CRan A) (next : A → CWorld → CState)
    (go : A → CWorld → ℕ → CRan ℤ) → Reaches program steps state piece next →
    ((value : A) (world : CWorld) (left : ℕ) → Shows program left (next value world) (go value world left)) →
    Shows program steps state (bind piece go)
shows_bind program steps state piece next go first rest =
    record { seen = seen_bind program steps state piece next go first.goes rest }

pub shows_tick : (program : CProgram) (state : CState) (world : CWorld) (go : ℕ → CRan ℤ) → shows state world going →
    ((left : ℕ) → Shows program left (c_step program state) (go left)) →
    (steps : ℕ) → Shows program steps state (tick world go steps)
shows_tick program state world go now rest zero = record { seen = now }
shows_tick program state world go now rest (suc left) = record { seen = (rest left).seen }

pub shows_bad : (program : CProgram) (frame : Frame) (fault : CFault) (world : CWorld) (steps : ℕ) →
    Shows program steps (standing frame (is_undefined fault) world) (bad fault world)
shows_bad program frame fault world steps =
    record { seen = ap seen_at (stays_undefined program frame fault world steps) }

pub shows_ended : (program : CProgram) (frame : Frame) (status : ℤ) (world : CWorld) (steps : ℕ) →
    Shows program steps (standing frame (has_ended status) world) (came status world steps)
shows_ended program frame status world steps =
    record { seen = ap seen_at (stays_ended program frame status world steps) }
