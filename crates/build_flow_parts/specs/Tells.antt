-- `current_block` where the text of a body has a dispatch: a local of the crate of which C knows nothing.
use Rattle.std.specs.Prelude.{◌≡◌, ℕ, ◌^◌, ◌<◌, pos, map, Some, codes}
use Rattle.cr_runs.specs.Runs.{came}
use Rattle.cr_world.specs.World.{World}
use Rattle.cx_mean.specs.Operands.{Slot, Frame as CFrame}
use Rattle.build_flow_lives.specs.Standing.{Calling, Standing}
use Rattle.emit_rules.specs.Jumps.{current_block, tells}
use Rattle.lift_stands.specs.Worlds.{WorldsStand}
use Rattle.mem_bytes.specs.declared.value.Value.TheVariants.{Whole}
use Rattle.rs_mean.specs.Run.{normal, run_expr, run_stmt}
use Rattle.rs_mean.specs.Values.{typed}
use Rattle.rs_text.specs.Tree.{Integer, Read}
use Rattle.rs_text.specs.declared.integer.IntegerTy.TheVariants.{U32}
use Rattle.build_flow_parts.specs.Means.{PartsMean}

-- it is kept as a temporary is, under a number of its own
pub record BlockMeans (a : Calling) : Type 0 where
  pub number : ℕ
  pub name_is : a.of.names.temporary number ≡ codes "current_block"
  pub kept_is : a.names.temporaries number ≡ Some (record { name = a.of.names.temporary number; ty = Integer U32 })

-- a number was stored in it: both stand where they did, and it is read as this number
pub record NodeTold (a : Calling) (slots : CFrame) (node : ℕ) (c_world world : World) : Type 0 where
  pub later : World
  pub runs : (units : ℕ) → run_stmt a.frame (tells node) world units ≡ came normal later units
  pub stands : Standing a slots c_world later
  pub reads : (units : ℕ) → run_expr a.frame (Read current_block) later units ≡ came (typed (Integer U32) (Whole (pos node))) later units

-- wherever both stand
abbrev pub NodesAreTold : Type 0
NodesAreTold =
    (a : Calling) (units steps : ℕ) → PartsMean a.s a.names a.of units steps → WorldsStand a.images a.c_before a.before → map (λ (slot : Slot). slot.object) a.params ≡ a.one.params → BlockMeans a →
    (slots : CFrame) (node : ℕ) (c_world world : World) → node < 2 ^ 32 → Standing a slots c_world world → NodeTold a slots node c_world world
