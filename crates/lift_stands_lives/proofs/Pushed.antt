-- Memories and images with one more entry.
use Rattle.std.proofs.Common.{◌≡◌, ◌≢◌, ℕ, zero, suc, ◌<◌, List, [], ◌∷◌, ◌++◌, length, All, Option, Some, None, slice_get, slice_set, refl, sym, ap, ◌∙◌, subst, ◌⊎◌, ⊎_elim, inl, inr, arith}
use Rattle.std.proofs.lemmas.Bool.{cases_eq}
use Rattle.std.proofs.lemmas.List.{length-set}
use Rattle.mem_bytes.specs.declared.value.Ptr.{Ptr}
use Rattle.mem_bytes.specs.Laws.{IsHeld, HoldsCells, Writes}
use Rattle.mem_bytes.specs.Memory.{Block, Blocks, live_block}
use Rattle.mem_bytes.proofs.Held.{live_of_push, live_of_kill, held_set}
use Rattle.mem_bytes.proofs.Slots.{live-set_same, live-set_other, live_within}
use Rattle.lift_stands.specs.Stands.{Lives}
use Rattle.lift_stands_lives.specs.Rooms.{IsHeldSlot}

-- ---- lists with one more entry

pub live_behind : (memory : Blocks) (new : Option Block) (number : ℕ) → number < length memory → live_block (memory ++ new ∷ []) number ≡ live_block memory number
live_behind [] new number p = absurd (omega arith)
live_behind (first ∷ others) new zero p = refl
live_behind (first ∷ others) new (suc number) p = live_behind others new number (omega arith)

pub live_last : (memory : Blocks) (new : Option Block) → live_block (memory ++ new ∷ []) (length memory) ≡ new
live_last [] new = refl
live_last (first ∷ others) new = live_last others new

pub live_cases : (memory : Blocks) (new block : Block) (number : ℕ) → live_block (memory ++ Some new ∷ []) number ≡ Some block → ((number < length memory) × (live_block memory number ≡ Some block)) ⊎ ((number ≡ length memory) × (new ≡ block))
live_cases [] new block zero e = inr (refl, cc)
live_cases [] new block (suc number) e = cc
live_cases (first ∷ others) new block zero e = inl (omega arith, e)
live_cases (first ∷ others) new block (suc number) e =
    ⊎_elim
    (λ (old : (number < length others) × (live_block others number ≡ Some block)). inl (omega (arith, old.0), old.1))
    (λ (last : (number ≡ length others) × (new ≡ block)). inr (ap suc last.0, last.1))
    (live_cases others new block number e)

pub entry_cases : (entries : List ℕ) (new number image : ℕ) → slice_get (entries ++ new ∷ []) number ≡ Some image → ((number < length entries) × (slice_get entries number ≡ Some image)) ⊎ ((number ≡ length entries) × (new ≡ image))
entry_cases [] new zero image e = inr (refl, cc)
entry_cases [] new (suc number) image e = cc
entry_cases (first ∷ others) new zero image e = inl (omega arith, e)
entry_cases (first ∷ others) new (suc number) image e =
    ⊎_elim
    (λ (old : (number < length others) × (slice_get others number ≡ Some image)). inl (omega (arith, old.0), old.1))
    (λ (last : (number ≡ length others) × (new ≡ image)). inr (ap suc last.0, last.1))
    (entry_cases others new number image e)

-- ---- what a memory holds, with a slot changed or one more

pub push_held : (memory : Blocks) (new : Block) → HoldsCells memory → All IsHeld new.cells → HoldsCells (memory ++ Some new ∷ [])
push_held memory new held cells number block live =
    ⊎_elim
    (λ (old : live_block memory number ≡ Some block). held number block old)
    (λ (same : new ≡ block). subst (λ b. All IsHeld b.cells) same cells)
    (live_of_push memory number new block live)

pub kill_held : (memory : Blocks) (number : ℕ) → HoldsCells memory → HoldsCells (slice_set memory number None)
kill_held memory number held other block live = held other block (live_of_kill memory other number block live)

pub slot_held : (memory : Blocks) (number : ℕ) (slot : Option Block) → HoldsCells memory → IsHeldSlot slot → HoldsCells (slice_set memory number slot)
slot_held memory number None held is = kill_held memory number held
slot_held memory number (Some block) held is = held_set memory number block held (is block refl)

-- a killed block doesn't live
pub killed : (memory : Blocks) (number : ℕ) → live_block (slice_set memory number None) number ≡ None
killed [] number = refl
killed (first ∷ others) zero = refl
killed (first ∷ others) (suc number) = killed others number

-- ---- after a write

pub written_many : (memory after : Blocks) (at : Ptr) (count : ℕ) → Writes memory at count after → length after ≡ length memory
written_many memory after at count writes = ap length writes.made ∙ length-set memory at.block _

pub written_lives : (memory after : Blocks) (at : Ptr) (count : ℕ) → Writes memory at count after → (number : ℕ) → Lives memory number → Lives after number
written_lives memory after at count writes number living =
    ⊎_elim
    (λ (same : at.block ≡ number). (_, ap (live_block after) (sym same) ∙ ap (λ m. live_block m at.block) writes.made ∙ live-set_same memory at.block _ (live_within memory at.block writes.block writes.live)))
    (λ (away : at.block ≢ number). (living.0, ap (λ m. live_block m number) writes.made ∙ live-set_other memory at.block number _ away ∙ living.1))
    (cases_eq at.block number)
