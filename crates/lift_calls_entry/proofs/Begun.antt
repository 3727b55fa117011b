-- The parameters of C begin, one after another, where the crate has already begun: each on the local that holds its argument.
use Rattle.std.proofs.Common.{◌≡◌, ◌≢◌, ◌∙◌, ◌⊎◌, inl, inr, ⊎_elim, ℕ, zero, suc, ◌<◌, ◌≤◌, All, List, [], ◌∷◌, ◌++◌, length, Option, Some, refl, sym, ap, subst, arith, append_assoc}
use Rattle.std.specs.List.{Contains}
use Rattle.std.proofs.lemmas.List.Elements.{Contains-append_left, Contains-append_right, Contains-append_cases}
use Rattle.cr_world.specs.Held.{with_block, with_blocks, next_place}
use Rattle.cr_world.specs.World.{World, blocks_of, with_memory}
use Rattle.cr_base.specs.declared.layout.Laid.{Laid}
use Rattle.cx_core.specs.Trees.{CTy, CProgram, unqualified}
use Rattle.cx_mean.specs.Accesses.{CKind}
use Rattle.cx_mean.specs.Operands.{CValue, Slot, Frame as CFrame}
use Rattle.cx_mean.specs.State.{slot}
use Rattle.cx_typed_runs.proofs.Owned.{inserted, owned_more, next_unused, next_unlisted, live_new, memory_grown}
use Rattle.cx_typed_runs.proofs.Taking.{complete_small}
use Rattle.cx_typed_runs.specs.Sites.{AreOwned}
use Rattle.cx_typed_values.specs.Values.{most_bytes}
use Rattle.cx_typed_work.proofs.Memories.{typed_value}
use Rattle.cx_typed_work.specs.Operands.{IsValueOfType}
use Rattle.cx_typed_work.specs.Scenes.{IsTypedCell, IsTypedMemory}
use Rattle.lift_calls.specs.Calls.{is_place}
use Rattle.lift_calls.specs.Frames.{KeptTemporary, FunctionNames, NamesApart}
use Rattle.lift_calls.specs.Programs.{Setting, setting_in}
use Rattle.lift_calls_entry.proofs.Fresh.{block_with}
use Rattle.lift_calls_entry.proofs.Locals.{LaidBlock, ZeroLocal}
use Rattle.lift_calls_entry.proofs.Stored.{HasCells, of_number, of_cells, IsStoredParam}
use Rattle.lift_stands.proofs.Images.{cells_stay}
use Rattle.lift_stands.proofs.Kept.{nothing_keeps, both_keep}
use Rattle.lift_stands.specs.Keeps.{KeepsOthers}
use Rattle.lift_stands.specs.Stands.{Images, image_of, with_image, CellsBelow, IsVacant}
use Rattle.lift_stands.specs.Worlds.{HeldStands, WorldsStand}
use Rattle.lift_stands_lives.proofs.Begun.{worlds_held, place_of_next}
use Rattle.lift_stands_lives.proofs.HeldLives.{held_aside, held_onto}
use Rattle.lift_stands_lives.proofs.Pushed.{entry_cases}
use Rattle.lift_stands_lives.proofs.Steps.{onto_keeps}
use Rattle.mem_bytes.specs.Laws.{IsHeld, HoldsCells}
use Rattle.mem_bytes.specs.Memory.{Block, Blocks, live_block, size_of}
use Rattle.mem_bytes.specs.declared.cell.Cell.{Cell}
use Rattle.mem_bytes.specs.declared.value.Ptr.{Ptr}
use Rattle.rs_mean.specs.Lookups.{LocalBlock}
use Rattle.rs_text.specs.Tree.{Local}

-- ---- the cells of an argument

typed_cells : (program : CProgram) (type : CTy) (value : CValue) (kind : CKind) (laid : Laid) (list : List Cell) → HasCells value kind laid list → IsValueOfType program type value → All (IsTypedCell program) list
typed_cells program type value kind laid list (of_number number scalar_kind laid_of size align some many) is = typed_value program scalar_kind number is.leads
typed_cells program type value kind laid list (of_cells held from laid_of many) is = is.typed

long : (value : CValue) (kind : CKind) (laid : Laid) (list : List Cell) → HasCells value kind laid list → length list ≡ laid.size
long value kind laid list (of_number number scalar_kind laid_of size align some many) = many ∙ sym size
long value kind laid list (of_cells held from laid_of many) = many

-- ---- the crate has begun

module _ (s : Setting) (names : FunctionNames) (images : Images) (place : Option Ptr) (c_world world : World) (locals : List LocalBlock) (memory : Blocks) where
  -- its locals live beside what was there
  pub record HasBegun : Type 0 where
    pub start : WorldsStand images c_world world
    pub apart : NamesApart names
    pub older : (number : ℕ) → number < length (blocks_of world) → live_block memory number ≡ live_block (blocks_of world) number
    pub grows : length (blocks_of world) ≤ length memory
    pub held : HoldsCells memory
    pub lays : (local : LocalBlock) → Contains locals local → LaidBlock s.modules memory local
    pub since : (local : LocalBlock) → Contains locals local → length (blocks_of world) ≤ local.block
    pub zeros : (number : ℕ) (it : KeptTemporary) → names.zeros number ≡ Some it → ZeroLocal memory locals (record { name = it.name; ty = it.ty })
    pub single : (one other : LocalBlock) → Contains locals one → Contains locals other → one.block ≡ other.block → one ≡ other

  -- a local holds what stands for the argument of a parameter
  pub record ParamHeld (number : ℕ) (value : CValue) : Type 0 where
    pub param : IsStoredParam (setting_in s) number value
    pub local : LocalBlock
    pub among : Contains locals local
    pub kept_is : names.objects number ≡ Some (record { place = Local local.name; ty = local.ty })
    pub other : List Cell
    pub live : live_block memory local.block ≡ Some (block_with param.laid.align other)
    pub below : CellsBelow images param.list other
    pub held : All IsHeld param.list
    pub aligned : 0 < param.laid.align

  abbrev pub ParamsHeld : List ℕ → List CValue → Type 0
  ParamsHeld [] [] = Unit {0}
  ParamsHeld (number ∷ numbers) (value ∷ values) = ParamHeld number value × ParamsHeld numbers values
  ParamsHeld [] (value ∷ values) = ⊥
  ParamsHeld (number ∷ numbers) [] = ⊥

  abbrev pub entered_world : World
  entered_world = with_memory memory world

  -- ---- C has begun so many parameters

  -- a slot has its local
  pub record SlotHas (later : Images) (slot : Slot) : Type 0 where
    pub since : length (blocks_of c_world) ≤ slot.block
    pub local : LocalBlock
    pub among : Contains locals local
    pub kept_is : names.objects slot.object ≡ Some (record { place = Local local.name; ty = local.ty })
    pub image : image_of later slot.block ≡ Some local.block

  pub record Progress (later : Images) (frame : CFrame) (c : World) : Type 0 where
    pub stands : WorldsStand later c entered_world
    pub keeps : KeepsOthers (length (blocks_of world)) (is_place place) images later c_world.held c.held world.held entered_world.held
    pub slots : (one : Slot) → Contains frame one → SlotHas later one
    pub images_are : (number image : ℕ) → image_of later number ≡ Some image → (image_of images number ≡ Some image) ⊎ ((one : Slot) × Contains frame one × (one.block ≡ number))
    pub typed : IsTypedMemory s.program (blocks_of c)
    pub owned : AreOwned s.program c.held (frame ++ s.statics)

  module _ (has : HasBegun) where
    -- at first
    pub at_first : IsTypedMemory s.program (blocks_of c_world) → AreOwned s.program c_world.held s.statics → Progress images [] c_world
    at_first typed owned = record {
      stands = worlds_held images images c_world world c_world.held (with_blocks memory world.held) has.start
          (held_aside images c_world.held world.held memory has.start.held (record { same = λ number image living is. has.older image (has.start.held.memories.made number image is); grows = has.grows; held = has.held }));
      keeps =
          let none = nothing_keeps (length (blocks_of world)) (is_place place) images c_world.held world.held has.start.held.memories.mapped in
          record {
            extends = none.extends;
            grows = none.grows;
            others_grow = has.grows;
            past = none.past;
            dead = none.dead;
            heap = none.heap;
            other_heap = λ number less listed. listed;
            vacant = λ number less free apart. has.older number less;
            rooms = λ number block less live unlisted. record { block = block; live = has.older number less ∙ live; size = refl; align = refl };
          };
      slots = λ one there. absurd (let less : there.0 < 0 = there.1 in omega (arith, less));
      images_are = λ number image is. inl is;
      typed = typed;
      owned = owned;
    }

    -- a local is no image of what was there before
    pub no_old_image : (local : LocalBlock) → Contains locals local → (number : ℕ) → image_of images number ≡ Some local.block → ⊥
    no_old_image local among number is =
        let made = has.start.held.memories.made number local.block is in
        let since = has.since local among in
        omega (arith, made, since)

    -- ---- one more parameter

    module _ (later : Images) (frame : CFrame) (c : World) (progress : Progress later frame c) (number : ℕ) (value : CValue) (param : ParamHeld number value)
        (other_objects : (one : Slot) → Contains frame one → one.object ≢ number) (typed : IsValueOfType s.program (unqualified param.param.one.type) value) where
      abbrev block : Block
      block = block_with param.param.laid.align param.param.list

      abbrev next : World
      next = with_memory (with_block block (blocks_of c)) c

      abbrev new : Slot
      new = slot number (next_place (blocks_of c))

      abbrev last : Images
      last = with_image param.local.block later

      -- its local is vacant
      same_object : (one : Slot) → (there : SlotHas later one) → there.local ≡ param.local → one.object ≡ number
      same_object one there same =
          has.apart.objects one.object number (record { place = Local there.local.name; ty = there.local.ty }) (record { place = Local param.local.name; ty = param.local.ty }) there.kept_is param.kept_is
          (ap (λ (l : LocalBlock). Local l.name) same)

      vacant : IsVacant later (blocks_of c) param.local.block
      vacant one living image = ⊎_elim (no_old_image param.local param.among one) slot_case (progress.images_are one param.local.block image)
        where
          slot_case : (held : Slot) × Contains frame held × (held.block ≡ one) → ⊥
          slot_case (held, among, is) =
              let there = progress.slots held among in
              let found : image_of later one ≡ Some there.local.block = subst (λ (n : ℕ). image_of later n ≡ Some there.local.block) is there.image in
              let same_block : there.local.block ≡ param.local.block = cc in
              other_objects held among (same_object held there (has.single there.local param.local there.among param.among same_block))

      held_below : HeldStands last (with_blocks (with_block block (blocks_of c)) c.held) entered_world.held
      held_below =
          held_onto later c.held entered_world.held param.local.block block (block_with param.param.laid.align param.other) progress.stands.held (record { vacant = vacant; live = param.live })
          (record { align = omega arith; aligned = param.aligned; cells = cells_stay images later param.param.list param.other progress.keeps.extends param.below }) param.held

      keeps_more : KeepsOthers (length (blocks_of world)) (is_place place) images last c_world.held next.held world.held entered_world.held
      keeps_more =
          both_keep (length (blocks_of world)) (is_place place) images later last c_world.held c.held next.held world.held entered_world.held entered_world.held has.start.held.memories.mapped progress.stands.held.memories.mapped progress.keeps
          (onto_keeps (length (blocks_of world)) (is_place place) later c.held entered_world.held param.local.block block progress.stands.held.memories.mapped (has.since param.local param.among))

      -- the slots
      mapped : length later.blocks ≡ length (blocks_of c)
      mapped = progress.stands.held.memories.mapped

      new_image : image_of last (length (blocks_of c)) ≡ Some param.local.block
      new_image = (place_of_next later c param.local.block mapped).block

      slots_more : (one : Slot) → Contains (frame ++ new ∷ []) one → SlotHas last one
      slots_more one there = ⊎_elim old_case (new_case one) (Contains-append_cases frame (new ∷ []) one there)
        where
          old_case : Contains frame one → SlotHas last one
          old_case among =
              let was = progress.slots one among in
              record { since = was.since; local = was.local; among = was.among; kept_is = was.kept_is; image = keeps_more_images one.block was.local.block was.image }
            where
              keeps_more_images : (k image : ℕ) → image_of later k ≡ Some image → image_of last k ≡ Some image
              keeps_more_images = (onto_keeps (length (blocks_of world)) (is_place place) later c.held entered_world.held param.local.block block progress.stands.held.memories.mapped (has.since param.local param.among)).extends.blocks

          new_case : (other : Slot) → Contains (new ∷ []) other → SlotHas last other
          new_case other (zero, less, same) =
              subst (SlotHas last) same
              (record { since = let grows = progress.keeps.grows in omega (arith, grows); local = param.local; among = param.among; kept_is = param.kept_is; image = new_image })
          new_case other (suc k, less, same) = absurd (omega (arith, less))

      images_more : (one image : ℕ) → image_of last one ≡ Some image → (image_of images one ≡ Some image) ⊎ ((held : Slot) × Contains (frame ++ new ∷ []) held × (held.block ≡ one))
      images_more one image is =
          ⊎_elim (λ (old : (one < length later.blocks) × (image_of later one ≡ Some image)). ⊎_elim (λ same. inl same) (λ (there : (held : Slot) × Contains frame held × (held.block ≡ one)).
          inr (there.0, Contains-append_left frame (new ∷ []) there.0 there.1, there.2)) (progress.images_are one image old.1))
          (λ (latest : (one ≡ length later.blocks) × (param.local.block ≡ image)). inr (new, Contains-append_right frame (new ∷ []) new (0, omega arith, refl), sym (latest.0 ∙ mapped)))
          (entry_cases later.blocks param.local.block one image is)

      -- what is typed
      size_is : size_of block ≡ param.param.laid.size
      size_is = long value param.param.kind param.param.laid param.param.list param.param.has

      small : size_of block ≤ most_bytes
      small = let least = complete_small s.program param.param.one.type param.param.laid param.param.laid_is in omega (arith, size_is, least)

      typed_more : IsTypedMemory s.program (with_block block (blocks_of c))
      typed_more = memory_grown s.program (blocks_of c) block small (typed_cells s.program (unqualified param.param.one.type) value param.param.kind param.param.laid param.param.list param.param.has typed) progress.typed

      owned_too : AreOwned s.program next.held ((frame ++ new ∷ []) ++ s.statics)
      owned_too =
          subst (AreOwned s.program next.held) (sym (append_assoc frame (new ∷ []) s.statics))
          (inserted s.program next.held frame s.statics new (owned_more s.program c.held (Some block) (frame ++ s.statics) progress.owned)
          (record {
            one = param.param.one;
            object_is = param.param.object_is;
            laid = param.param.laid;
            laid_is = param.param.laid_is;
            held = block;
            live = live_new (blocks_of c) block;
            size = size_is;
            align = refl;
          })
          (next_unlisted (blocks_of c) c.held.heap progress.stands.held.heaps.lives) (next_unused s.program c.held (frame ++ s.statics) progress.owned))

      pub goes_on : Progress last (frame ++ new ∷ []) next
      goes_on = record {
        stands = worlds_held later last c entered_world _ entered_world.held progress.stands held_below;
        keeps = keeps_more;
        slots = slots_more;
        images_are = images_more;
        typed = typed_more;
        owned = owned_too;
      }
