-- Several steps of a run, one after the other.
use Rattle.std.specs.Prelude.{◌≡◌, ℕ, ◌<◌, ℤ, List, Result}
use Rattle.cr_world.specs.World.{World}
use Rattle.cx_machine.specs.declared.stop.Stop.{Stop}
use Rattle.cx_machine.specs.Steps.{Advances}
use Rattle.cx_mean.specs.Run.{going, progress_at, c_after}
use Rattle.cx_mean.specs.Settings.{CSetting}
use Rattle.cx_mean.specs.State.{CState, c_step}
use Rattle.cx_outside.specs.States.{Around, Quiet, world_at}
use Rattle.ext_calls.specs.declared.call.Made.{Made}

-- So many steps lead from one state to another, whatever calls were made and whatever answers are ahead; the outside takes no part in them,
-- and the run goes on at all of them.
pub record GoesBy (setting : CSetting) (count : ℕ) (first now : World → CState) (before mid : Around) : Type 0 where
  pub quiet : Quiet before mid
  pub goes : (made : List Made) (ahead : List ℤ) → c_after setting count (first (world_at before made ahead)) ≡ now (world_at mid made ahead)
  pub went_on : (made : List Made) (ahead : List ℤ) (fewer : ℕ) → fewer < count →
      progress_at (c_after setting fewer (first (world_at before made ahead))).control ≡ going
  pub goes_on : (world : World) → progress_at (now world).control ≡ going
  pub stands_in : (world : World) → (now world).world ≡ world

-- fewer steps than the most that are granted, and then one more, which is of any kind
abbrev pub AdvancesBy : CSetting → (most count : ℕ) → (first : World → CState) → Result (Unit {0}) Stop → (next : World → CState) → Around → Around → Type 0
AdvancesBy setting most count first result next before after =
    (count < most) × (now : World → CState) × (mid : Around) × GoesBy setting count first now before mid
    × Advances (λ world. c_step setting (now world)) result next mid after
