-- Any source whose steps go along a flow, node by node: a run of C is the source of the text that is written from the flow of its body. What the text owes it follows
-- from what each node owes it.
use Rattle.std.specs.Prelude.{◌≡◌, ℕ, ◌<◌, ◌≤◌, List, Option}
use Rattle.cr_runs.specs.Runs.{Ran}
use Rattle.cr_runs.specs.Owes.{Owes, Rests}
use Rattle.cr_runs_rules.specs.Steps.{Waits}
use Rattle.cr_world.specs.World.{World, events_of}
use Rattle.ext_calls.specs.declared.call.Call.{Call}
use Rattle.reloop.specs.Graphs.{IsIn}
use Rattle.rs_mean.specs.Run.{Frame}
use Rattle.rs_mean.specs.Values.{Typed}
use Rattle.rs_mean.specs.World.{Run, seq}
use Rattle.flow.specs.Flows.{FlowTree, targets_of}
use Rattle.flow.specs.Machine.{Onto, to_node, gives_back, run_at}

-- a source: its runs from each of its positions on, the events of its states, and a weight for each position, from 1 to a limit
pub record Source (F S A P : Type 0) : Type 0 where
  pub runs : P → ℕ → Ran F S A
  pub events : S → List Call
  pub weight : P → ℕ
  pub limit : ℕ

-- a position is behind another: the bound of the source is less by then, or the bound is no greater and the position weighs less. Nothing is owed within 0
pub data IsBehind {P : Type 0} (weight : P → ℕ) (less : ℕ) (later : P) (bound : ℕ) (earlier : P) : Type 0 where
  nothing_left : less ≡ 0 → IsBehind weight less later bound earlier
  within_less : less < bound → IsBehind weight less later bound earlier
  weighs_less : less ≤ bound → weight later < weight earlier → IsBehind weight less later bound earlier

-- what follows a node shows nothing before it takes a unit
abbrev pub IsQuiet : {B : Type 0} → (Onto → Run B) → Type 0
IsQuiet next = (onto : Onto) (world : World) → Rests events_of (events_of world) (next onto world 0)

module _ {F S A B P : Type 0} (source : Source F S A P) (frame : Frame) (flow : FlowTree) (At : P → ℕ → World → Type 0) (Back : P → Option Typed → World → Type 0)
    (Good : A → S → B → World → Type 0) where
  -- what is owed to a source at a position by a run in a world
  abbrev pub OwesAt : ℕ → ℕ → P → Run B → World → Type 0
  OwesAt n m position run world = Owes source.events events_of Good n m (source.runs position) (run world)

  -- what follows is owed at each node to which a node goes, and at each return, where the source is behind a position
  pub record FollowsAfter (n m : ℕ) (position : P) (number : ℕ) (next : Onto → Run B) : Type 0 where
    pub nodes : (less : ℕ) (later : P) (to : ℕ) (world : World) → IsIn to (targets_of flow number) → At later to world → IsBehind source.weight less later m position →
        OwesAt n less later (next (to_node to)) world
    pub backs : (less : ℕ) (later : P) (value : Option Typed) (world : World) → Back later value world → IsBehind source.weight less later m position →
        OwesAt n less later (next (gives_back value)) world

  -- the source goes along the flow, under bounds up to these: at a node it fails, or waits at the same events; and a node with what follows it is owed to it where what
  -- follows is owed behind it
  pub record StepsAlong (most_units most_steps : ℕ) : Type 0 where
    pub weighs : (position : P) → 1 ≤ source.weight position
    pub limited : (position : P) → source.weight position ≤ source.limit
    pub waits : (position : P) (number : ℕ) (world : World) → At position number world → Waits (source.runs position) source.events (events_of world)
    pub steps : (n m : ℕ) (position : P) (number : ℕ) (world : World) (next : Onto → Run B) → n ≤ most_units → m ≤ most_steps → At position number world → IsQuiet next →
        FollowsAfter n m position number next → OwesAt n m position (seq (run_at frame flow number) next) world
