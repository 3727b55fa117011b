-- Laws of calls of external functions.
use Rattle.std.specs.Prelude.{◌≡◌, ℕ, ℤ, Bool, true, false, pos, List, [], ◌∷◌, Ok}
use Rattle.cr_world.specs.Held.{Held}
use Rattle.cr_world.specs.Known.{Known, allocates, effect}
use Rattle.cr_world.specs.Texts.{text_in, text_at, text_of}
use Rattle.cr_world.specs.World.{World, Got, answered, granted}
use Rattle.ext_calls.specs.declared.call.Call.{Call}
use Rattle.mem_bytes.specs.declared.cell.Cell.{Cell}
use Rattle.mem_bytes.specs.declared.value.Ptr.{Ptr}
use Rattle.mem_bytes.specs.declared.value.Value.{Value}
use Rattle.mem_bytes.specs.declared.value.Value.TheVariants.{Whole}
use Rattle.mem_bytes.specs.Memory.{Blocks}
use Rattle.lift_stands.specs.Stands.{Images, PlaceBelow, ValueBelow, CellsBelow, StandsFor}
use Rattle.lift_stands.specs.Worlds.{HeldStands, WorldsStand}
use Rattle.lift_stands_known.specs.Effects.{ValuesBelow, EffectStands, GrantedBelow, AnsweredAlike}
use Rattle.lift_stands_lives.specs.Rooms.{IsZeroEnough}

pub record KnownFunctionsStand : Type 0 where
  pub same : (images : Images) (held other : Held) (does : Known) (args given : List Value) → HeldStands images held other → ValuesBelow images args given →
      EffectStands images held other false (effect does args held) (effect does given other)
  -- `calloc(1, n)` for `malloc(n)`: the same null, or a block of as many bytes, at every size
  pub zeroed : (images : Images) (held other : Held) (size given : Value) → HeldStands images held other → ValueBelow images size given →
      EffectStands images held other true (effect (allocates false) (size ∷ []) held) (effect (allocates true) (Whole (pos 1) ∷ given ∷ []) other)

pub record AnswersStand (F G : Type 0) : Type 0 where
  pub granted : (images : Images) (world other : World) (is_zero other_zero : Bool) (size : ℕ) (got : Got Value) → WorldsStand images world other →
      IsZeroEnough images.in_bytes is_zero other_zero → granted {F = F} is_zero size world ≡ Ok got →
      GrantedBelow G images world other got (granted {F = G} other_zero size other)
  pub answered : (images : Images) (world other : World) (call : Call) (got : Got ℤ) → WorldsStand images world other →
      answered {F = F} call world ≡ Ok got → AnsweredAlike G images world other got (answered {F = G} call other)

pub record TextsStand : Type 0 where
  pub cells : (images : Images) (list others : List Cell) (text : List ℕ) → CellsBelow images list others → text_in list ≡ Ok text → text_in others ≡ Ok text
  pub place : (images : Images) (memory others : Blocks) (at to : Ptr) (text : List ℕ) → StandsFor images memory others → PlaceBelow images at to →
      text_at memory at ≡ Ok text → text_at others to ≡ Ok text
  pub value : (images : Images) (memory others : Blocks) (value given : Value) (text : List ℕ) → StandsFor images memory others →
      ValueBelow images value given → text_of memory value ≡ Ok text → text_of others given ≡ Ok text
