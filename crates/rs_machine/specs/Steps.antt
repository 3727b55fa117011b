-- States over which steps are told: whatever else is kept.
use Rattle.std.specs.Prelude.{Option}
use Rattle.ext_calls.specs.Host.{HostState}
use Rattle.mem_bytes.specs.Counted.{Limit}
use Rattle.mem_bytes.specs.Memory.{Blocks}
use Rattle.rs_mean.specs.World.{Run}
use Rattle.rs_machine.specs.Does.{Does, End}
use Rattle.rs_machine.specs.States.{Kept, state}

-- a step of a store alone, whatever the machine keeps and the host is
abbrev pub StoreDoes : {B : Type 0} → Run B → End B → (before after : Blocks) → (limit later : Option Limit) → Type 0
StoreDoes piece end before after limit later =
    (kept : Kept) (host : HostState) → Does piece end (state kept before limit host) (state kept after later host)

-- a step of a machine and a store, whatever the host is
abbrev pub MachineDoes : {B : Type 0} → Run B → End B → (old new : Kept) → (before after : Blocks) → (limit later : Option Limit) → Type 0
MachineDoes piece end old new before after limit later =
    (host : HostState) → Does piece end (state old before limit host) (state new after later host)

-- a step that looks at a store alone, and changes nothing
abbrev pub LookDoes : {B : Type 0} → Run B → End B → Blocks → Type 0
LookDoes piece end blocks = (kept : Kept) (limit : Option Limit) (host : HostState) →
    Does piece end (state kept blocks limit host) (state kept blocks limit host)
