-- What an engine holds between two steps of a run, and the world of the meaning that it stands for.
use Rattle.std.specs.Prelude.{◌≡◌, ℕ, Bool, true, ◌+◌, ◌≤◌, ℤ, List, [], ◌∷◌, ◌++◌, drop, Option, IfSome, option_map}
use Rattle.cr_world.specs.Held.{Held}
use Rattle.cr_world.specs.World.{World, trail_of}
use Rattle.ext_calls.specs.declared.call.Call.{Call}
use Rattle.ext_calls.specs.declared.call.Made.{Made}
use Rattle.ext_calls.specs.Host.{HostState, first_answer}
use Rattle.mem_bytes.specs.Counted.{Limit}
use Rattle.mem_bytes.specs.Memory.{Blocks}

-- what the engine keeps beside the memory and the host: the answers taken so far, the allocated blocks, the newest first, and the units that
-- are left
pub record Kept : Type 0 where
  pub trail : List ℤ
  pub heap : List ℕ
  pub units : ℕ

-- all that is held between two steps
pub record State : Type 0 where
  pub held : Held
  pub trail : List ℤ
  pub units : ℕ
  pub limit : Option Limit
  pub host : HostState

abbrev pub state : Kept → Blocks → Option Limit → HostState → State
state kept blocks limit host = record {
  held = record { blocks = blocks; heap = kept.heap };
  trail = kept.trail;
  units = kept.units;
  limit = limit;
  host = host;
}

-- the world of a run that has made these calls, and has these answers ahead
abbrev pub world_at : State → List Made → List ℤ → World
world_at at made ahead = record { held = at.held; made = made; answers = ahead; terms = trail_of at.limit }

-- the same with other blocks and another heap
abbrev pub with_held : Held → State → State
with_held held at = record at { held = held }

-- ---- what came between two states

-- the answers of calls are those that were to come, where they are told; where they aren't told, they still aren't
abbrev pub AreGiven : List Made → Option (List ℤ) → Option (List ℤ) → Type 0
AreGiven [] before after = after ≡ before
AreGiven (one ∷ others) before after = IfSome before (λ left. one.answer ≡ first_answer left) × AreGiven others (option_map (drop 1) before) after

-- calls are such as the host takes
abbrev pub AreTaken : (Call → Bool) → List Made → Type 0
AreTaken takes [] = Unit {0}
AreTaken takes (one ∷ others) = (takes one.call ≡ true) × AreTaken takes others

-- the answers that were taken, the calls that were made of functions whose effect isn't known, and the units that were taken
pub record Between (before after : State) : Type 0 where
  pub answers : List ℤ
  pub calls : List Made
  pub taken : ℕ
  pub trail : after.trail ≡ before.trail ++ answers
  pub told : after.host.made ≡ option_map (λ made. made ++ calls) before.host.made
  pub given : AreGiven calls before.host.left after.host.left
  pub taken_by : AreTaken before.host.takes calls
  pub units : before.units ≡ taken + after.units
  pub limit : after.limit ≡ before.limit
  pub takes : after.host.takes ≡ before.host.takes
  pub later : before.host.faults ≤ after.host.faults
