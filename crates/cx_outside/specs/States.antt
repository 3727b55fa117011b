-- What a run holds between two steps beside where it stands, and the world of the meaning that it stands for.
use Rattle.std.specs.Prelude.{◌≡◌, ℕ, Bool, true, ◌≤◌, ℤ, List, [], ◌∷◌, ◌++◌, map, drop, Option, IfSome, option_map}
use Rattle.cr_world.specs.Held.{Held}
use Rattle.cr_world.specs.World.{World, trail_of}
use Rattle.ext_calls.specs.declared.call.Call.{Call}
use Rattle.ext_calls.specs.declared.call.Made.{Made}
use Rattle.ext_calls.specs.Host.{HostState, first_answer}
use Rattle.mem_bytes.specs.Counted.{Limit}
use Rattle.mem_bytes.specs.Memory.{Blocks}
use Rattle.std.specs.declared.cmp.Reverse.{Reverse}

-- what is kept beside the memory and the host: the answers taken so far, and the allocated blocks, the newest first
pub record KeptState : Type 0 where
  pub trail : List ℤ
  pub heap : List ℕ

-- the numbers of blocks that are held with the greatest in front
abbrev pub numbers_of : List (Reverse ℕ) → List ℕ
numbers_of keys = map (λ key. key.0) keys

pub record Around : Type 0 where
  pub held : Held
  pub trail : List ℤ
  pub limit : Option Limit
  pub host : HostState

abbrev pub around : KeptState → Blocks → Option Limit → HostState → Around
around kept blocks limit host = record {
  held = record { blocks = blocks; heap = kept.heap };
  trail = kept.trail;
  limit = limit;
  host = host;
}

-- the world of a run that has made these calls, and has these answers ahead
abbrev pub world_at : Around → List Made → List ℤ → World
world_at at made ahead = record { held = at.held; made = made; answers = ahead; terms = trail_of at.limit }

-- ---- what came between two states

-- the answers of calls are those that were to come, where they are told; where they aren't told, they still aren't
abbrev pub AreGiven : List Made → Option (List ℤ) → Option (List ℤ) → Type 0
AreGiven [] before after = after ≡ before
AreGiven (one ∷ others) before after = IfSome before (λ left. one.answer ≡ first_answer left) × AreGiven others (option_map (drop 1) before) after

-- calls are such as the host takes
abbrev pub AreTaken : (Call → Bool) → List Made → Type 0
AreTaken takes [] = Unit {0}
AreTaken takes (one ∷ others) = (takes one.call ≡ true) × AreTaken takes others

-- the answers that were taken, and the calls that were made of functions whose effect isn't known
pub record Between (before after : Around) : Type 0 where
  pub answers : List ℤ
  pub calls : List Made
  pub trail : after.trail ≡ before.trail ++ answers
  pub told : after.host.made ≡ option_map (λ made. made ++ calls) before.host.made
  pub given : AreGiven calls before.host.left after.host.left
  pub taken_by : AreTaken before.host.takes calls
  pub limit : after.limit ≡ before.limit
  pub takes : after.host.takes ≡ before.host.takes
  pub later : before.host.faults ≤ after.host.faults

-- nothing was taken, and no call was made
pub record Quiet (before after : Around) : Type 0 where
  pub trail : after.trail ≡ before.trail
  pub made : after.host.made ≡ before.host.made
  pub left : after.host.left ≡ before.host.left
  pub limit : after.limit ≡ before.limit
  pub takes : after.host.takes ≡ before.host.takes
  pub later : before.host.faults ≤ after.host.faults
