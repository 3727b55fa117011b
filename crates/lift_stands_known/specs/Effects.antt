-- When what an external function does in the written crate stands for what it does in C.
use Rattle.std.specs.Prelude.{◌≡◌, ℕ, ◌≤◌, Bool, ◌||◌, ℤ, List, [], ◌∷◌, length, Result, Ok}
use Rattle.cr_world.specs.Held.{Held}
use Rattle.cr_world.specs.Known.{Effect, gives, gives_nothing, ends_program, wants_block, fails}
use Rattle.cr_world.specs.World.{World, Stop, Got}
use Rattle.mem_bytes.specs.declared.value.Value.{Value}
use Rattle.lift_stands.specs.Keeps.{KeepsOthers}
use Rattle.lift_stands.specs.Stands.{Images, ValueBelow}
use Rattle.lift_stands.specs.Worlds.{HeldStands, WorldsStand}

-- values of the crate stand for values of C, one for each
abbrev pub ValuesBelow : Images → List Value → List Value → Type 0
ValuesBelow images [] [] = Unit {0}
ValuesBelow images (one ∷ ones) (other ∷ others) = ValueBelow images one other × ValuesBelow images ones others
ValuesBelow images [] (other ∷ others) = ⊥
ValuesBelow images (one ∷ ones) [] = ⊥

-- ---- effects

-- the crate's effect gives a value below C's, and leaves what stands for what C's leaves
pub record GivesBelow (images : Images) (held other : Held) (value : Value) (after : Held) (done : Effect) : Type 0 where
  pub given : Value
  pub beyond : Held
  pub is : done ≡ gives given beyond
  pub below : ValueBelow images value given
  pub stands : HeldStands images after beyond
  pub keeps : (base : ℕ) (own : ℕ → Bool) → KeepsOthers base own images images held after other beyond

-- it gives nothing, as C's
pub record LeavesBelow (images : Images) (held other : Held) (after : Held) (done : Effect) : Type 0 where
  pub beyond : Held
  pub is : done ≡ gives_nothing beyond
  pub stands : HeldStands images after beyond
  pub keeps : (base : ℕ) (own : ℕ → Bool) → KeepsOthers base own images images held after other beyond

-- an effect of the crate stands for one of C, up to what has no meaning in C; `zeroes` tells that the crate calls `calloc` where C calls `malloc`
abbrev pub EffectStands : Images → (held other : Held) → (zeroes : Bool) → (in_c in_crate : Effect) → Type 0
EffectStands images held other zeroes (gives value after) done = GivesBelow images held other value after done
EffectStands images held other zeroes (gives_nothing after) done = LeavesBelow images held other after done
EffectStands images held other zeroes (ends_program status) done = done ≡ ends_program status
EffectStands images held other zeroes (wants_block is_zero size) done = done ≡ wants_block (zeroes || is_zero) size
EffectStands images held other zeroes (fails fault) done = Unit {0}

-- ---- answers

-- an allocation of the crate gives what stands for what C's gives, under images of which the new block of C has one
pub record GrantedBelow (G : Type 0) (images : Images) (world other : World) (got : Got Value) (granted : Result (Got Value) (Stop G)) : Type 0 where
  pub given : Got Value
  pub is : granted ≡ Ok given
  pub later : Images
  pub below : ValueBelow later got.value given.value
  pub stands : WorldsStand later got.world given.world
  pub keeps : (base : ℕ) (own : ℕ → Bool) → base ≤ length other.held.blocks →
      KeepsOthers base own images later world.held got.world.held other.held given.world.held

-- another call of the crate has the answer that C's has
pub record AnsweredAlike (G : Type 0) (images : Images) (world other : World) (got : Got ℤ) (answered : Result (Got ℤ) (Stop G)) : Type 0 where
  pub given : Got ℤ
  pub is : answered ≡ Ok given
  pub same : given.value ≡ got.value
  pub stands : WorldsStand images got.world given.world
  pub keeps : (base : ℕ) (own : ℕ → Bool) → KeepsOthers base own images images world.held got.world.held other.held given.world.held
