-- What a state's run shows within so many steps, against a piece of the leftmost run as a function.
use Rattle.std.proofs.Common.{◌≡◌, ℕ, zero, suc, ◌+◌, ◌≤◌, ◌<◌, ℤ, List, [], refl, sym, ap, ◌∙◌, arith, le_refl}
use Rattle.cr_runs.specs.Runs.{came, halted, bad, out, bind, tick}
use Rattle.cr_world.specs.World.{World, events_of}
use Rattle.cx_mean.specs.Leftmost.{CRan, c_shown}
use Rattle.cx_mean.specs.Operands.{CStop, Frame}
use Rattle.cx_mean.specs.Run.{CProgress, going, ended, progress_of_stop, seen_at, c_after}
use Rattle.cx_mean.specs.Settings.{CSetting}
use Rattle.cx_mean.specs.State.{CCaller, CControl, has_ended, has_stopped, CState, c_step}

-- a state under the empty order
abbrev pub standing : Frame → List CCaller → CControl → World → CState
standing statics callers control world =
    record { control = control; statics = statics; callers = callers; world = world; order = [] }

-- the state so many steps on, by its first step
abbrev pub onward : CSetting → ℕ → CState → CState
onward setting zero state = state
onward setting (suc steps) state = onward setting steps (c_step setting state)

onward_last : (setting : CSetting) (steps : ℕ) (state : CState) → onward setting steps (c_step setting state) ≡ c_step setting (onward setting steps state)
onward_last setting zero state = refl
onward_last setting (suc steps) state = onward_last setting steps (c_step setting state)

pub after_onward : (setting : CSetting) (steps : ℕ) (state : CState) → c_after setting steps state ≡ onward setting steps state
after_onward setting zero state = refl
after_onward setting (suc steps) state =
    ap (λ (one : CState). c_step setting one) (after_onward setting steps state) ∙ sym (onward_last setting steps state)

abbrev pub shows : CState → World → CProgress → Type 0
shows state world progress = seen_at state ≡ record { events = events_of world; progress = progress }

-- the run from a state goes as a piece does, and then on from the state that follows its result; the piece takes so many steps at
-- least
abbrev pub Goes : {A : Type 0} → CSetting → (least : ℕ) → ℕ → CState → CRan A → (A → World → CState) → Type 0
Goes setting k steps state (came value world left) next =
    (left + k ≤ steps) × (onward setting steps state ≡ onward setting left (next value world))
Goes setting k steps state (halted status world) next = shows (onward setting steps state) world (ended status)
Goes setting k steps state (bad stop world) next = shows (onward setting steps state) world (progress_of_stop stop)
Goes setting k steps state (out world) next = shows (onward setting steps state) world going

pub record Reaches {A : Type 0} (setting : CSetting) (k steps : ℕ) (state : CState) (piece : CRan A) (next : A → World → CState) : Type 0 where
  pub goes : Goes setting k steps state piece next

-- ---- pieces

-- a value at once
pub reached : {A : Type 0} (setting : CSetting) (steps : ℕ) (value : A) (world : World) (next : A → World → CState) →
    Reaches setting 0 steps (next value world) (came value world steps) next
reached setting steps value world next = record { goes = (omega arith, refl) }

goes_weak : {A : Type 0} (setting : CSetting) (k steps : ℕ) (state : CState) (piece : CRan A) (next : A → World → CState) →
    Goes setting k steps state piece next → Goes setting 0 steps state piece next
goes_weak setting k steps state (came value world left) next goes = let one = goes.0 in (omega (one, arith), goes.1)
goes_weak setting k steps state (halted status world) next goes = goes
goes_weak setting k steps state (bad stop world) next goes = goes
goes_weak setting k steps state (out world) next goes = goes

-- a piece that takes some steps takes none at least
pub reaches_weak : {A : Type 0} (setting : CSetting) (k steps : ℕ) (state : CState) (piece : CRan A) (next : A → World → CState) →
    Reaches setting k steps state piece next → Reaches setting 0 steps state piece next
reaches_weak setting k steps state piece next reaches = record { goes = goes_weak setting k steps state piece next reaches.goes }

-- a run goes as a later one does
goes_same : {A : Type 0} (setting : CSetting) (k steps left : ℕ) (state other : CState) (piece : CRan A) (next : A → World → CState) →
    left ≤ steps → onward setting steps state ≡ onward setting left other → Goes setting k left other piece next →
    Goes setting k steps state piece next
goes_same setting k steps left state other (came value world rest) next less same goes =
    let one = goes.0 in (omega (less, one, arith), same ∙ goes.1)
goes_same setting k steps left state other (halted status world) next less same goes = rw same goes
goes_same setting k steps left state other (bad stop world) next less same goes = rw same goes
goes_same setting k steps left state other (out world) next less same goes = rw same goes

goes_bind : {A B : Type 0} (setting : CSetting) (k steps : ℕ) (state : CState) (piece : CRan A) (next : A → World → CState)
    (go : A → World → ℕ → CRan B) (last : B → World → CState) →
    Goes setting 0 steps state piece next →
    ((value : A) (world : World) (left : ℕ) → left ≤ steps → Reaches setting k left (next value world) (go value world left) last) →
    Goes setting k steps state (bind piece go) last
goes_bind setting k steps state (came value world left) next go last goes rest =
    let one = goes.0 in
    let less : left ≤ steps = omega (one, arith) in
    goes_same setting k steps left state (next value world) (go value world left) last less goes.1 (rest value world left less).goes
goes_bind setting k steps state (halted status world) next go last goes rest = goes
goes_bind setting k steps state (bad stop world) next go last goes rest = goes
goes_bind setting k steps state (out world) next go last goes rest = goes

-- one piece after another
pub reaches_bind : {A B : Type 0} {k : ℕ} (setting : CSetting) (steps : ℕ) (state : CState) (piece : CRan A) (next : A → World → CState)
    (go : A → World → ℕ → CRan B) (last : B → World → CState) →
    Reaches setting 0 steps state piece next →
    ((value : A) (world : World) (left : ℕ) → left ≤ steps → Reaches setting k left (next value world) (go value world left) last) →
    Reaches setting k steps state (bind piece go) last
reaches_bind {k = k} setting steps state piece next go last first rest =
    record { goes = goes_bind setting k steps state piece next go last first.goes rest }

goes_bind_strict : {A B : Type 0} (setting : CSetting) (steps : ℕ) (state : CState) (piece : CRan A) (next : A → World → CState)
    (go : A → World → ℕ → CRan B) (last : B → World → CState) →
    Goes setting 1 steps state piece next →
    ((value : A) (world : World) (left : ℕ) → left < steps → Reaches setting 0 left (next value world) (go value world left) last) →
    Goes setting 0 steps state (bind piece go) last
goes_bind_strict setting steps state (came value world left) next go last goes rest =
    let one = goes.0 in
    let less : left < steps = omega (one, arith) in
    let within : left ≤ steps = omega (one, arith) in
    goes_same setting 0 steps left state (next value world) (go value world left) last within goes.1 (rest value world left less).goes
goes_bind_strict setting steps state (halted status world) next go last goes rest = goes
goes_bind_strict setting steps state (bad stop world) next go last goes rest = goes
goes_bind_strict setting steps state (out world) next go last goes rest = goes

-- the same where the first piece takes a step
pub reaches_bind_strict : {A B : Type 0} (setting : CSetting) (steps : ℕ) (state : CState) (piece : CRan A) (next : A → World → CState)
    (go : A → World → ℕ → CRan B) (last : B → World → CState) →
    Reaches setting 1 steps state piece next →
    ((value : A) (world : World) (left : ℕ) → left < steps → Reaches setting 0 left (next value world) (go value world left) last) →
    Reaches setting 0 steps state (bind piece go) last
reaches_bind_strict setting steps state piece next go last first rest =
    record { goes = goes_bind_strict setting steps state piece next go last first.goes rest }

goes_step : {A : Type 0} (setting : CSetting) (steps : ℕ) (state : CState) (piece : CRan A) (next : A → World → CState) →
    Goes setting 0 steps (c_step setting state) piece next → Goes setting 1 (suc steps) state piece next
goes_step setting steps state (came value world left) next goes = let one = goes.0 in (omega (one, arith), goes.1)
goes_step setting steps state (halted status world) next goes = goes
goes_step setting steps state (bad stop world) next goes = goes
goes_step setting steps state (out world) next goes = goes

-- one step, after which the run goes as the rest does
pub reaches_tick : {A : Type 0} (setting : CSetting) (steps : ℕ) (state : CState) (world : World) (go : ℕ → CRan A) (next : A → World → CState) →
    shows state world going →
    ((left : ℕ) → left < steps → Reaches setting 0 left (c_step setting state) (go left) next) →
    Reaches setting 1 steps state (tick world go steps) next
reaches_tick setting zero state world go next now rest = record { goes = now }
reaches_tick setting (suc left) state world go next now rest =
    record { goes = goes_step setting left state (go left) next (rest left (le_refl (suc left))).goes }

-- the same piece from another state that is equal
pub reaches_from : {A : Type 0} {k : ℕ} (setting : CSetting) (steps : ℕ) (state other : CState) (piece : CRan A) (next : A → World → CState) →
    state ≡ other → Reaches setting k steps other piece next → Reaches setting k steps state piece next
reaches_from {k = k} setting steps state other piece next same rest = rw same rest

-- ---- ends

-- a run stays where it stopped, and where it ended
stays_stopped : (setting : CSetting) (statics : Frame) (callers : List CCaller) (stop : CStop) (world : World) (steps : ℕ) →
    onward setting steps (standing statics callers (has_stopped stop) world) ≡ standing statics callers (has_stopped stop) world
stays_stopped setting statics callers stop world zero = refl
stays_stopped setting statics callers stop world (suc steps) = stays_stopped setting statics callers stop world steps

stays_ended : (setting : CSetting) (statics : Frame) (callers : List CCaller) (status : ℤ) (world : World) (steps : ℕ) →
    onward setting steps (standing statics callers (has_ended status) world) ≡ standing statics callers (has_ended status) world
stays_ended setting statics callers status world zero = refl
stays_ended setting statics callers status world (suc steps) = stays_ended setting statics callers status world steps

pub reaches_bad : {A : Type 0} {k : ℕ} (setting : CSetting) (statics : Frame) (callers : List CCaller) (stop : CStop) (world : World) (steps : ℕ) (next : A → World → CState) →
    Reaches setting k steps (standing statics callers (has_stopped stop) world) (bad stop world) next
reaches_bad {k = k} setting statics callers stop world steps next =
    record { goes = ap seen_at (stays_stopped setting statics callers stop world steps) }

pub reaches_halted : {A : Type 0} {k : ℕ} (setting : CSetting) (statics : Frame) (callers : List CCaller) (status : ℤ) (world : World) (steps : ℕ) (next : A → World → CState) →
    Reaches setting k steps (standing statics callers (has_ended status) world) (halted status world) next
reaches_halted {k = k} setting statics callers status world steps next =
    record { goes = ap seen_at (stays_ended setting statics callers status world steps) }

-- a whole run that reaches an end shows it
goes_shows : (setting : CSetting) (statics : Frame) (callers : List CCaller) (steps : ℕ) (state : CState) (piece : CRan ℤ) →
    Goes setting 0 steps state piece (λ status world. standing statics callers (has_ended status) world) →
    seen_at (onward setting steps state) ≡ c_shown piece
goes_shows setting statics callers steps state (came status world left) goes =
    ap seen_at goes.1 ∙ ap seen_at (stays_ended setting statics callers status world left)
goes_shows setting statics callers steps state (halted status world) goes = goes
goes_shows setting statics callers steps state (bad stop world) goes = goes
goes_shows setting statics callers steps state (out world) goes = goes

pub reaches_shows : (setting : CSetting) (statics : Frame) (callers : List CCaller) (steps : ℕ) (state : CState) (piece : CRan ℤ) →
    Reaches setting 0 steps state piece (λ status world. standing statics callers (has_ended status) world) →
    seen_at (onward setting steps state) ≡ c_shown piece
reaches_shows setting statics callers steps state piece reaches = goes_shows setting statics callers steps state piece reaches.goes
