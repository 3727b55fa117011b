-- Memories under a set of blocks: what changes a block of the set, and leaves in it no pointer out of the set, leaves the others as
-- they were.
use Rattle.std.proofs.Common.{◌≡◌, ◌≢◌, ⊎_elim, ℕ, zero, suc, ◌+◌, ◌<◌, ◌≤◌, ◌==◌, Bool, true, false, true≢false, nat_le, if◌then◌else◌, All, List, [], ◌∷◌, ◌++◌, length, take, drop, map, replicate, slice_get, slice_set, unwrap_or, Option, Some, None, Result, Ok, refl, sym, ap, subst, ◌∙◌, arith}
use Rattle.std.proofs.lemmas.Bool.{cases_lt}
use Rattle.std.proofs.lemmas.List.{length-append, length-set}
use Rattle.std.proofs.lemmas.List.Elements.{All-nil, All-cons, All-append, All-take, All-drop, All-replicate}
use Rattle.std.specs.List.{list_all}
use Rattle.cr_base.specs.declared.scalar.Scalar.{Scalar}
use Rattle.cr_base.specs.Scalar.{residue, modulus}
use Rattle.cr_world.specs.Held.{fresh_block, without_block}
use Rattle.cx_mean.proofs.KeptNodes.{IfGiven, given_and, given_then, given_where}
use Rattle.mem_bytes.specs.Access.{and_then, part_of, is_aligned, scalar_part_of, block_with_value, block_with_field, block_with_fill, block_with_copy, is_record_aligned, record_part_of, block_with_record, live_read, live_change, after_put, after_put_bits, after_fill, after_put_record, copied_between, after_copy, block_value, block_field}
use Rattle.mem_bytes.specs.Bits.{bytes_touched, bit_cells, with_field_in}
use Rattle.mem_bytes.specs.Coding.{scalar_size, bytes_of, cells_of, is_bits}
use Rattle.mem_bytes.specs.declared.cell.Cell.{Cell}
use Rattle.mem_bytes.specs.declared.cell.Cell.TheVariants.{PtrByte}
use Rattle.mem_bytes.specs.declared.fault.Fault.{Fault}
use Rattle.mem_bytes.specs.declared.fault.Fault.TheVariants.{Outside, Misaligned, MixedPointer}
use Rattle.mem_bytes.specs.declared.value.Ptr.{Ptr}
use Rattle.mem_bytes.specs.declared.value.Value.{Value}
use Rattle.mem_bytes.specs.declared.value.Value.TheVariants.{Whole as Number, Null, Object as Pointer, Code as Function}
use Rattle.mem_bytes.specs.Memory.{Block, Blocks, live_block, size_of, byte_cell, unset_cell, with_part}
use Rattle.cx_stays.specs.Reach.{LeadsWithin, CellLeadsWithin, IsClosedIn, StaysOutside, LoadsAlikeOutside}

-- ---- entries of a memory

get_set : (memory : Blocks) (number other : ℕ) (place : Option Block) → number ≢ other → slice_get (slice_set memory number place) other ≡ slice_get memory other
get_set [] number other place apart = refl
get_set (first ∷ others) zero zero place apart = absurd (apart refl)
get_set (first ∷ others) zero (suc other) place apart = refl
get_set (first ∷ others) (suc number) zero place apart = refl
get_set (first ∷ others) (suc number) (suc other) place apart = get_set others number other place (λ same. apart (ap suc same))

get_made : (memory : Blocks) (new : Option Block) (number : ℕ) → number < length memory → slice_get (memory ++ new ∷ []) number ≡ slice_get memory number
get_made [] new number within = absurd (omega (arith, within))
get_made (first ∷ others) new zero within = refl
get_made (first ∷ others) new (suc number) within = get_made others new number (omega (arith, within))

-- what holds of each live block holds of each where another one stands in a place
all_set : (P : ℕ → Block → Type 0) (memory : Blocks) (number : ℕ) (place : Option Block) → ((block : Block) → place ≡ Some block → P number block)
    → ((other : ℕ) (block : Block) → live_block memory other ≡ Some block → P other block) → (other : ℕ) (block : Block) → live_block (slice_set memory number place) other ≡ Some block → P other block
all_set P [] number place here all other block live = cc (live)
all_set P (first ∷ others) zero place here all zero block live = here block live
all_set P (first ∷ others) zero place here all (suc other) block live = all (suc other) block live
all_set P (first ∷ others) (suc number) place here all zero block live = all zero block live
all_set P (first ∷ others) (suc number) place here all (suc other) block live = all_set (λ n. P (suc n)) others number place here (λ n. all (suc n)) other block live

all_made : (P : ℕ → Block → Type 0) (memory : Blocks) (new : Block) → ((number : ℕ) → P number new)
    → ((other : ℕ) (block : Block) → live_block memory other ≡ Some block → P other block) → (other : ℕ) (block : Block) → live_block (memory ++ Some new ∷ []) other ≡ Some block → P other block
all_made P [] new here all zero block live = let same : new ≡ block = cc (live) in subst (P zero) same (here zero)
all_made P [] new here all (suc other) block live = cc
all_made P (first ∷ others) new here all zero block live = all zero block live
all_made P (first ∷ others) new here all (suc other) block live = all_made (λ n. P (suc n)) others new (λ n. here (suc n)) (λ n. all (suc n)) other block live

-- ---- outcomes

pub given_either : {A E : Type 0} (P : A → Type 0) (test : Bool) (one other : Result A E) → IfGiven P one → IfGiven P other → IfGiven P (if test then one else other)
given_either P true one other is too = is
given_either P false one other is too = too

module _ (reached : ℕ → Bool) where
  -- ---- what a change leaves

  -- the blocks that a set leaves out as they were, and a memory in which the set is closed still
  pub record Left (before after : Blocks) : Type 0 where
    pub stays : StaysOutside reached before after
    pub closed : IsClosedIn reached after

  pub stays_same : (memory : Blocks) → StaysOutside reached memory memory
  stays_same memory = record { blocks = λ number out. refl }

  pub stays_then : (before now after : Blocks) → StaysOutside reached before now → StaysOutside reached now after → StaysOutside reached before after
  stays_then before now after one other = record { blocks = λ number out. other.blocks number out ∙ one.blocks number out }

  pub left_same : (memory : Blocks) → IsClosedIn reached memory → Left memory memory
  left_same memory closed = record { stays = stays_same memory; closed = closed }

  pub left_then : (before now after : Blocks) → Left before now → Left now after → Left before after
  left_then before now after one other = record { stays = stays_then before now after one.stays other.stays; closed = other.closed }

  -- what is loaded from a block outside is what it was
  pub loads_alike : (before after : Blocks) → StaysOutside reached before after → LoadsAlikeOutside reached before after
  loads_alike before after stays = record {
    parts = λ at count out. ap (λ (slot : Option (Option Block)). live_read (unwrap_or slot None) (λ block. part_of block at.offset count)) (stays.blocks at.block out);
    scalars = λ at kind out. ap (λ (slot : Option (Option Block)). live_read (unwrap_or slot None) (λ block. block_value block at.offset kind)) (stays.blocks at.block out);
    records = λ at size align out. ap (λ (slot : Option (Option Block)). live_read (unwrap_or slot None) (λ block. record_part_of block at.offset size align)) (stays.blocks at.block out);
    fields = λ at bit width out. ap (λ (slot : Option (Option Block)). live_read (unwrap_or slot None) (λ block. block_field block at.offset bit width)) (stays.blocks at.block out);
  }

  -- ---- a block in a place

  -- another block stands in a place of the set, or none does
  pub left_set : (memory : Blocks) (number : ℕ) (place : Option Block) → reached number ≡ true → ((block : Block) → place ≡ Some block → All (CellLeadsWithin reached) block.cells) → IsClosedIn reached memory
      → Left memory (slice_set memory number place)
  left_set memory number place within here closed = record {
    stays = record { blocks = λ other out. get_set memory number other place (λ same. true≢false (sym within ∙ ap reached same ∙ out)) };
    closed = record {
      holds = λ other block is live.
          all_set (λ (n : ℕ) (one : Block). reached n ≡ true → All (CellLeadsWithin reached) one.cells) memory number place (λ one same _. here one same) (λ n one lives is. closed.holds n one is lives) other block live is;
      unmade = λ other past. closed.unmade other (omega (arith, past, length-set memory number place));
    };
  }

  pub left_killed : (memory : Blocks) (number : ℕ) → reached number ≡ true → IsClosedIn reached memory → Left memory (without_block number memory)
  left_killed memory number within closed = left_set memory number None within (λ block none. cc (none)) closed

  -- a block is made
  made_left : (memory : Blocks) (new : Block) → All (CellLeadsWithin reached) new.cells → IsClosedIn reached memory → Left memory (memory ++ Some new ∷ [])
  made_left memory new are closed = record {
    stays = record {
      blocks = λ number out.
          ⊎_elim (λ (within : number < length memory). get_made memory (Some new) number within)
          (λ (past : length memory ≤ number). absurd (true≢false (sym (closed.unmade number past) ∙ out)))
          (cases_lt number (length memory));
    };
    closed = record {
      holds = λ other block is live.
          all_made (λ (n : ℕ) (one : Block). reached n ≡ true → All (CellLeadsWithin reached) one.cells) memory new (λ n _. are) (λ n one lives is. closed.holds n one is lives) other block live is;
      unmade = λ other past. closed.unmade other (omega (arith, past, length-append memory (Some new ∷ [])));
    };
  }

  fresh_leads : (is_zero : Bool) (size align : ℕ) → All (CellLeadsWithin reached) (fresh_block is_zero size align).cells
  fresh_leads true size align = All-replicate (CellLeadsWithin reached) size (byte_cell 0) tt
  fresh_leads false size align = All-replicate (CellLeadsWithin reached) size unset_cell tt

  pub left_made : (memory : Blocks) (is_zero : Bool) (size align : ℕ) → IsClosedIn reached memory → Left memory (memory ++ Some (fresh_block is_zero size align) ∷ [])
  left_made memory is_zero size align closed = made_left memory (fresh_block is_zero size align) (fresh_leads is_zero size align) closed

  -- ---- cells

  pub bytes_lead : (bytes : List ℕ) → All (CellLeadsWithin reached) (map byte_cell bytes)
  bytes_lead [] = All-nil (CellLeadsWithin reached)
  bytes_lead (first ∷ others) = All-cons (CellLeadsWithin reached) (byte_cell first) (map byte_cell others) tt (bytes_lead others)

  pub bits_lead : (count bits set : ℕ) → All (CellLeadsWithin reached) (bit_cells count bits set)
  bits_lead zero bits set = All-nil (CellLeadsWithin reached)
  bits_lead (suc count) bits set = All-cons (CellLeadsWithin reached) _ _ tt (bits_lead count _ _)

  pub pointer_leads : (of : Value) → LeadsWithin reached of → (indices : List ℕ) → All (CellLeadsWithin reached) (map (λ index. PtrByte of index) indices)
  pointer_leads of leads [] = All-nil (CellLeadsWithin reached)
  pointer_leads of leads (first ∷ others) = All-cons (CellLeadsWithin reached) (PtrByte of first) (map (λ index. PtrByte of index) others) leads (pointer_leads of leads others)

  cells_lead : (kind : Scalar) (value : Value) → LeadsWithin reached value → All (CellLeadsWithin reached) (cells_of kind value)
  cells_lead kind (Number n) leads = bytes_lead (bytes_of (scalar_size kind) (residue n (modulus kind)))
  cells_lead kind Null leads = All-replicate (CellLeadsWithin reached) 8 (byte_cell 0) tt
  cells_lead kind (Pointer at) leads = pointer_leads (Pointer at) leads (0 ∷ 1 ∷ 2 ∷ 3 ∷ 4 ∷ 5 ∷ 6 ∷ 7 ∷ [])
  cells_lead kind (Function number) leads = pointer_leads (Function number) tt (0 ∷ 1 ∷ 2 ∷ 3 ∷ 4 ∷ 5 ∷ 6 ∷ 7 ∷ [])

  -- ---- parts of a block

  pub part_leads : (block : Block) (offset count : ℕ) → All (CellLeadsWithin reached) block.cells → IfGiven (All (CellLeadsWithin reached)) (part_of block offset count)
  part_leads block offset count are =
      given_where (All (CellLeadsWithin reached)) (nat_le (offset + count) (size_of block)) (Ok (take count (drop offset block.cells))) Outside
      (λ _. All-take (CellLeadsWithin reached) count (drop offset block.cells) (All-drop (CellLeadsWithin reached) offset block.cells are))

  pub scalar_part_leads : (block : Block) (offset : ℕ) (kind : Scalar) → All (CellLeadsWithin reached) block.cells → IfGiven (All (CellLeadsWithin reached)) (scalar_part_of block offset kind)
  scalar_part_leads block offset kind are =
      given_and (All (CellLeadsWithin reached)) (All (CellLeadsWithin reached)) (part_of block offset (scalar_size kind)) _ (part_leads block offset (scalar_size kind) are)
      (λ held held_are. given_where (All (CellLeadsWithin reached)) (is_aligned kind block offset) (Ok held) Misaligned (λ _. held_are))

  pub record_part_leads : (block : Block) (offset size align : ℕ) → All (CellLeadsWithin reached) block.cells → IfGiven (All (CellLeadsWithin reached)) (record_part_of block offset size align)
  record_part_leads block offset size align are =
      given_and (All (CellLeadsWithin reached)) (All (CellLeadsWithin reached)) (part_of block offset size) _ (part_leads block offset size are)
      (λ held held_are. given_where (All (CellLeadsWithin reached)) (is_record_aligned align block offset) (Ok held) Misaligned (λ _. held_are))

  -- ---- a block with other cells

  with_part_leads : (block : Block) (offset : ℕ) (held : List Cell) → All (CellLeadsWithin reached) block.cells → All (CellLeadsWithin reached) held → All (CellLeadsWithin reached) (with_part block offset held).cells
  with_part_leads block offset held are new =
      All-append (CellLeadsWithin reached) (take offset block.cells ++ held) (drop (offset + length held) block.cells)
      (All-append (CellLeadsWithin reached) (take offset block.cells) held (All-take (CellLeadsWithin reached) offset block.cells are) new)
      (All-drop (CellLeadsWithin reached) (offset + length held) block.cells are)

  -- a live block of the set is changed
  slot_changed : (memory : Blocks) (number : ℕ) (step : Block → Result Block Fault) (slot : Option Block) → live_block memory number ≡ slot → reached number ≡ true
      → ((block : Block) → All (CellLeadsWithin reached) block.cells → IfGiven (λ (new : Block). All (CellLeadsWithin reached) new.cells) (step block)) → IsClosedIn reached memory
      → IfGiven (Left memory) (and_then (live_read slot step) (λ block. Ok (slice_set memory number (Some block))))
  slot_changed memory number step None live within all closed = tt
  slot_changed memory number step (Some block) live within all closed =
      given_and (λ (new : Block). All (CellLeadsWithin reached) new.cells) (Left memory) (step block) _ (all block (closed.holds number block within live))
      (λ new are. left_set memory number (Some new) within (λ one same. let is : new ≡ one = cc (same) in subst (λ (it : Block). All (CellLeadsWithin reached) it.cells) is are) closed)

  change_left : (memory : Blocks) (number : ℕ) (step : Block → Result Block Fault) → reached number ≡ true
      → ((block : Block) → All (CellLeadsWithin reached) block.cells → IfGiven (λ (new : Block). All (CellLeadsWithin reached) new.cells) (step block)) → IsClosedIn reached memory
      → IfGiven (Left memory) (live_change memory number step)
  change_left memory number step within all closed = slot_changed memory number step (live_block memory number) refl within all closed

  pub put_left : (memory : Blocks) (at : Ptr) (kind : Scalar) (value : Value) → reached at.block ≡ true → LeadsWithin reached value → IsClosedIn reached memory → IfGiven (Left memory) (after_put memory at kind value)
  put_left memory at kind value within leads closed =
      change_left memory at.block (λ block. block_with_value block at.offset kind value) within
      (λ block are. given_then (λ (new : Block). All (CellLeadsWithin reached) new.cells) (scalar_part_of block at.offset kind) _ (λ _. with_part_leads block at.offset (cells_of kind value) are (cells_lead kind value leads)))
      closed

  pub put_record_left : (memory : Blocks) (at : Ptr) (align : ℕ) (held : List Cell) → reached at.block ≡ true → All (CellLeadsWithin reached) held → IsClosedIn reached memory → IfGiven (Left memory) (after_put_record memory at align held)
  put_record_left memory at align held within leads closed =
      change_left memory at.block (λ block. block_with_record block at.offset align held) within
      (λ block are. given_then (λ (new : Block). All (CellLeadsWithin reached) new.cells) (record_part_of block at.offset (length held) align) _ (λ _. with_part_leads block at.offset held are leads))
      closed

  field_leads : (bit width field : ℕ) (held : List Cell) → IfGiven (All (CellLeadsWithin reached)) (with_field_in bit width field held)
  field_leads bit width field held = given_where (All (CellLeadsWithin reached)) (list_all is_bits held) (Ok (bit_cells (length held) _ _)) MixedPointer (λ _. bits_lead (length held) _ _)

  pub put_bits_left : (memory : Blocks) (at : Ptr) (bit width field : ℕ) → reached at.block ≡ true → IsClosedIn reached memory → IfGiven (Left memory) (after_put_bits memory at bit width field)
  put_bits_left memory at bit width field within closed =
      change_left memory at.block (λ block. block_with_field block at.offset bit width field) within
      (λ block are. given_then (λ (new : Block). All (CellLeadsWithin reached) new.cells) (part_of block at.offset (bytes_touched bit width)) _ (λ held.
      given_and (All (CellLeadsWithin reached)) (λ (new : Block). All (CellLeadsWithin reached) new.cells) (with_field_in bit width field held) _ (field_leads bit width field held)
      (λ new leads. with_part_leads block at.offset new are leads)))
      closed

  pub fill_left : (memory : Blocks) (at : Ptr) (byte count : ℕ) → reached at.block ≡ true → IsClosedIn reached memory → IfGiven (Left memory) (after_fill memory at byte count)
  fill_left memory at byte count within closed =
      change_left memory at.block (λ block. block_with_fill block at.offset byte count) within
      (λ block are. given_then (λ (new : Block). All (CellLeadsWithin reached) new.cells) (part_of block at.offset count) _
      (λ _. with_part_leads block at.offset (replicate count (byte_cell byte)) are (All-replicate (CellLeadsWithin reached) count (byte_cell byte) tt)))
      closed

  -- ---- copies

  between_left : (memory : Blocks) (from to : Ptr) (count : ℕ) (source target : Option Block) → live_block memory from.block ≡ source → live_block memory to.block ≡ target → reached from.block ≡ true → reached to.block ≡ true
      → IsClosedIn reached memory → IfGiven (Left memory) (copied_between memory from to count source target)
  between_left memory from to count None target live lives is within closed = tt
  between_left memory from to count (Some source) None live lives is within closed = tt
  between_left memory from to count (Some source) (Some target) live lives is within closed =
      given_and (λ (new : Block). All (CellLeadsWithin reached) new.cells) (Left memory) (block_with_copy target to.offset source from.offset count) _
      (given_and (All (CellLeadsWithin reached)) (λ (new : Block). All (CellLeadsWithin reached) new.cells) (part_of source from.offset count) _ (part_leads source from.offset count (closed.holds from.block source is live)) (λ held leads.
      given_then (λ (new : Block). All (CellLeadsWithin reached) new.cells) (part_of target to.offset count) _ (λ _. with_part_leads target to.offset held (closed.holds to.block target within lives) leads)))
      (λ new are. left_set memory to.block (Some new) within (λ one same. let eq : new ≡ one = cc (same) in subst (λ (it : Block). All (CellLeadsWithin reached) it.cells) eq are) closed)

  pub copy_left : (memory : Blocks) (from to : Ptr) (count : ℕ) → reached from.block ≡ true → reached to.block ≡ true → IsClosedIn reached memory → IfGiven (Left memory) (after_copy memory from to count)
  copy_left memory from to count is within closed =
      given_either (Left memory) (count == 0) (Ok memory) (copied_between memory from to count (live_block memory from.block) (live_block memory to.block)) (left_same memory closed)
      (between_left memory from to count (live_block memory from.block) (live_block memory to.block) refl refl is within closed)

  -- ---- loads

  pub live_leads : {A : Type 0} (P : A → Type 0) (memory : Blocks) (number : ℕ) (step : Block → Result A Fault) → reached number ≡ true → IsClosedIn reached memory
      → ((block : Block) → All (CellLeadsWithin reached) block.cells → IfGiven P (step block)) → IfGiven P (live_read (live_block memory number) step)
  live_leads P memory number step within closed all = from_slot (live_block memory number) refl
    where
      from_slot : (slot : Option Block) → live_block memory number ≡ slot → IfGiven P (live_read slot step)
      from_slot None live = tt
      from_slot (Some block) live = all block (closed.holds number block within live)
