-- What the crate has where C makes an object anew, at its compound literal or its declaration (ISO C99, 6.5.2.5 and 6.7.8).
use Rattle.std.specs.Prelude.{ℕ, Bool}
use Rattle.cr_world.specs.Held.{Held, with_blocks}
use Rattle.lift_stands.specs.Keeps.{KeepsOthers}
use Rattle.lift_stands.specs.Stands.{Images}
use Rattle.lift_stands.specs.Worlds.{HeldStands}
use Rattle.mem_bytes.specs.Memory.{Blocks}

-- the crate does nothing where C makes an object anew of which no bit is set
pub record ClearedAlone (images : Images) (held other : Held) (after : Blocks) : Type 0 where
  pub stands : HeldStands images (with_blocks after held) other
  pub keeps : (base : ℕ) (own : ℕ → Bool) → KeepsOthers base own images images held (with_blocks after held) other other
