-- Laws of what a piece leaves of what isn't its own: doing nothing leaves it, and so do two pieces, one after the other.
use Rattle.std.specs.Prelude.{◌≡◌, ℕ, ◌≤◌, Bool, true, length}
use Rattle.cr_world.specs.Held.{Held}
use Rattle.lift_stands.specs.Keeps.{KeepsOthers}
use Rattle.lift_stands.specs.Stands.{Images}

pub record PiecesKeepOthers : Type 0 where
  pub nothing : (base : ℕ) (own : ℕ → Bool) (images : Images) (held other : Held) → length images.blocks ≡ length held.blocks →
      KeepsOthers base own images images held held other other
  pub both : (base : ℕ) (own : ℕ → Bool) (images later last : Images) (held after end other beyond past : Held) →
      length images.blocks ≡ length held.blocks → length later.blocks ≡ length after.blocks → KeepsOthers base own images later held after other beyond →
      KeepsOthers base own later last after end beyond past → KeepsOthers base own images last held end other past
  -- also from fewer blocks on, and with more that the piece may write
  pub fewer : (base lower : ℕ) (own more : ℕ → Bool) (images later : Images) (held after other beyond : Held) → lower ≤ base →
      ((number : ℕ) → own number ≡ true → more number ≡ true) → KeepsOthers base own images later held after other beyond →
      KeepsOthers lower more images later held after other beyond
