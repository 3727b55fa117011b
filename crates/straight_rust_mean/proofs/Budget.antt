-- Pieces of runs under a greater budget: a piece is the same where it doesn't ask for more, and its events begin alike.
use Rattle.std.proofs.Common.{◌≡◌, ℕ, zero, suc, ◌+◌, Bool, true, false, if◌then◌else◌, List, [], ◌++◌, Result, Ok, Err, refl, sym, ap, ◌∙◌, append_assoc, append-nil, suc-add}
use Rattle.cr_runs.specs.Runs.{Ran, came, halted, bad, out, bind, state_of}
use Rattle.ext_calls.specs.Outside.{Events}
use Rattle.mem_bytes.specs.declared.fault.Fault.{Fault}
use Rattle.straight_rust_mean.specs.declared.cause.Cause.{Cause}
use Rattle.straight_rust_mean.specs.Laws.{IsFrontOf}
use Rattle.straight_rust_mean.specs.World.{World, Run, seq, takes_unit, or_fault}

-- ---- fronts of lists

pub front_of_itself : {A : Type 0} (xs : List A) → IsFrontOf xs xs
front_of_itself xs = ([], sym (append-nil xs))

pub front_of_front : {A : Type 0} (xs ys zs : List A) → IsFrontOf xs ys → IsFrontOf ys zs → IsFrontOf xs zs
front_of_front xs ys zs front others =
    (front.0 ++ others.0, others.1 ∙ (ap (λ q. q ++ others.0) front.1 ∙ append_assoc xs front.0 others.0))

-- ---- what a piece adds

-- a piece only adds events
abbrev pub Adds : {A : Type 0} → Run A → Type 0
Adds run = (world : World) (units : ℕ) → IsFrontOf world.events (state_of (run world units)).events

-- a piece that does nothing with the world adds none
pub adds_nothing : (world : World) (units : ℕ) → IsFrontOf world.events world.events
adds_nothing world units = front_of_itself world.events

pub adds_bind : {A B : Type 0} (events : Events) (first : Ran Cause World A) (next : A → Run B) →
    IsFrontOf events (state_of first).events → ((value : A) → Adds (next value)) →
    IsFrontOf events (state_of (bind first next)).events
adds_bind events (came value state left) next front adds =
    front_of_front events state.events (state_of (next value state left)).events front (adds value state left)
adds_bind events (halted status state) next front adds = front
adds_bind events (bad why state) next front adds = front
adds_bind events (out state) next front adds = front

pub adds_seq : {A B : Type 0} (first : Run A) (next : A → Run B) →
    Adds first → ((value : A) → Adds (next value)) → Adds (seq first next)
adds_seq first next adds others world units = adds_bind world.events (first world units) next (adds world units) others

pub adds_unit : {A : Type 0} (next : Run A) → Adds next → Adds (takes_unit next)
adds_unit next adds world zero = front_of_itself world.events
adds_unit next adds world (suc units) = adds world units

pub adds_or_fault : {A : Type 0} (found : Result A Fault) → Adds (or_fault found)
adds_or_fault (Ok value) world units = front_of_itself world.events
adds_or_fault (Err why) world units = front_of_itself world.events

pub adds_if : {A : Type 0} (test : Bool) (one other : Run A) → Adds one → Adds other → Adds (if test then one else other)
adds_if true one other adds others = adds
adds_if false one other adds others = others

-- ---- what a piece does under a greater budget

-- what is seen of a piece under a budget with so many units more
abbrev pub Later : {A : Type 0} → Ran Cause World A → Ran Cause World A → ℕ → Type 0
Later (came value state left) later more = later ≡ came value state (left + more)
Later (halted status state) later more = later ≡ halted status state
Later (bad why state) later more = later ≡ bad why state
Later (out state) later more = IsFrontOf state.events (state_of later).events

-- a piece does under a greater budget what another does under the smaller one
abbrev pub Extends : {A : Type 0} → Run A → Run A → Type 0
Extends run later = (world : World) (units more : ℕ) → Later (run world units) (later world (units + more)) more

pub later_bind : {A B : Type 0} (first later : Ran Cause World A) (next other : A → Run B) (more : ℕ) →
    Later first later more → ((value : A) → Extends (next value) (other value)) → ((value : A) → Adds (other value)) →
    Later (bind first next) (bind later other) more
later_bind (came value state left) later next other more e extends adds = rw e (extends value state left more)
later_bind (halted status state) later next other more e extends adds = rw e refl
later_bind (bad why state) later next other more e extends adds = rw e refl
later_bind (out state) later next other more front extends adds = adds_bind state.events later other front adds

pub extends_seq : {A B : Type 0} (first later : Run A) (next other : A → Run B) →
    Extends first later → ((value : A) → Extends (next value) (other value)) → ((value : A) → Adds (other value)) →
    Extends (seq first next) (seq later other)
extends_seq first later next other e extends adds world units more =
    later_bind (first world units) (later world (units + more)) next other more (e world units more) extends adds

pub extends_unit : {A : Type 0} (next later : Run A) → Extends next later → Adds later → Extends (takes_unit next) (takes_unit later)
extends_unit next later extends adds world zero more = adds_unit later adds world (0 + more)
extends_unit next later extends adds world (suc units) more = rw (suc-add units more) (extends world units more)

pub extends_or_fault : {A : Type 0} (found : Result A Fault) → Extends (or_fault found) (or_fault found)
extends_or_fault (Ok value) world units more = refl
extends_or_fault (Err why) world units more = refl

pub extends_if : {A : Type 0} (test : Bool) (one other later others : Run A) →
    Extends one later → Extends other others → Extends (if test then one else other) (if test then later else others)
extends_if true one other later others extends extend = extends
extends_if false one other later others extends extend = extend
