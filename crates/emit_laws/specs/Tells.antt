-- Worlds in which `current_block` says at which node a dispatch is entered.
use Rattle.std.specs.Prelude.{◌≡◌, ℕ, Bool, true, false, ◌||◌, pos}
use Rattle.cr_runs.specs.Runs.{came}
use Rattle.cr_world.specs.World.{World}
use Rattle.mem_bytes.specs.declared.value.Value.TheVariants.{Whole}
use Rattle.rs_text.specs.declared.integer.IntegerTy.TheVariants.{U32}
use Rattle.rs_text.specs.Tree.{Integer, Read}
use Rattle.rs_mean.specs.Run.{Frame, normal, run_expr, run_stmt}
use Rattle.rs_mean.specs.Values.{typed}
use Rattle.emit_rules.specs.Jumps.{current_block, tells}
use Rattle.emit_rules.specs.Nests.{Nest, single, choice, group, repeated, dispatched, Chain, no_nests, more_nests, Chains, no_chains, more_chains}

-- `current_block` is read as this node, at every number of units
abbrev pub Reads : Frame → World → ℕ → Type 0
Reads frame world node = (units : ℕ) → run_expr frame (Read current_block) world units ≡ came (typed (Integer U32) (Whole (pos node))) world units

-- it can be told a node where a source stands at it: the source stands there in the world behind it, too, in which it is read so
pub record IsTold {P : Type 0} (frame : Frame) (At : P → ℕ → World → Type 0) (position : P) (node : ℕ) (world : World) : Type 0 where
  pub later : World
  pub runs : (units : ℕ) → run_stmt frame (tells node) world units ≡ came normal later units
  pub at : At position node later
  pub reads : Reads frame later node

-- wherever the source stands
abbrev pub CanTell : {P : Type 0} → Frame → (P → ℕ → World → Type 0) → Type 0
CanTell {P} frame At = (position : P) (node : ℕ) (world : World) → At position node world → IsTold frame At position node world

abbrev mutual
  -- a choice of a head stands in a nest
  pub nest_chooses : Nest → Bool
  nest_chooses (single node arms) = chains_choose arms
  nest_chooses (choice heads arms) = true
  nest_chooses (group members) = chain_chooses members
  nest_chooses (repeated head body) = chain_chooses body
  nest_chooses (dispatched heads body) = true

  pub chain_chooses : Chain → Bool
  chain_chooses no_nests = false
  chain_chooses (more_nests nest others) = nest_chooses nest || chain_chooses others

  pub chains_choose : Chains → Bool
  chains_choose no_chains = false
  chains_choose (more_chains first others) = chain_chooses first || chains_choose others
