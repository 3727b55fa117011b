-- What a change of memory leaves of the lives of blocks: cells that are written, a block that dies, and one that is made.
use Rattle.std.proofs.Common.{◌≡◌, ◌≢◌, ⊎_elim, ℕ, zero, suc, ◌<◌, [], ◌∷◌, ◌++◌, length, Option, Some, None, slice_set, refl, sym, ap, ◌∙◌, arith}
use Rattle.std.proofs.lemmas.Bool.{cases_eq}
use Rattle.std.proofs.lemmas.List.{length-append, length-set}
use Rattle.mem_bytes.proofs.Reached.{size_of-with_part}
use Rattle.mem_bytes.proofs.Slots.{live-set_same, live-set_other, live_within}
use Rattle.mem_bytes.specs.declared.value.Ptr.{Ptr}
use Rattle.mem_bytes.specs.Laws.{Writes}
use Rattle.mem_bytes.specs.Memory.{Block, Blocks, live_block, size_of, with_part}
use Rattle.cx_stays.specs.Stays.{LivesAgree}

-- ---- one change behind another

pub lives_same : (memory : Blocks) → LivesAgree memory memory
lives_same memory = record {
  grows = omega arith;
  dead = λ number within none. none;
  sizes = λ number block later one other. let same : later ≡ block = cc (one, other) in ap size_of same;
  aligns = λ number block later one other. let same : later ≡ block = cc (one, other) in ap (λ (it : Block). it.align) same;
}

-- a block that lives before and after lives between
between : (A : Type 0) (before now after : Blocks) → LivesAgree before now → LivesAgree now after → (number : ℕ) (block later : Block) → live_block before number ≡ Some block
    → live_block after number ≡ Some later → (found : Option Block) → live_block now number ≡ found → ((middle : Block) → live_block now number ≡ Some middle → A) → A
between A before now after one other number block later was is None none all =
    let within : number < length now = omega (arith, live_within before number block was, one.grows) in
    let dead : live_block after number ≡ None = other.dead number within none in
    absurd (cc (dead, is))
between A before now after one other number block later was is (Some middle) live all = all middle live

pub lives_then : (before now after : Blocks) → LivesAgree before now → LivesAgree now after → LivesAgree before after
lives_then before now after one other = record {
  grows = omega (arith, one.grows, other.grows);
  dead = λ number within none. other.dead number (omega (arith, within, one.grows)) (one.dead number within none);
  sizes = λ number block later was is.
      between (size_of later ≡ size_of block) before now after one other number block later was is (live_block now number) refl
      (λ middle live. other.sizes number middle later live is ∙ one.sizes number block middle was live);
  aligns = λ number block later was is.
      between (later.align ≡ block.align) before now after one other number block later was is (live_block now number) refl
      (λ middle live. other.aligns number middle later live is ∙ one.aligns number block middle was live);
}

-- ---- cells are written

module _ (memory : Blocks) (number : ℕ) (block new : Block) (live : live_block memory number ≡ Some block) (size : size_of new ≡ size_of block) (align : new.align ≡ block.align) where
  changed_dead : (other : ℕ) → live_block memory other ≡ None → live_block (slice_set memory number (Some new)) other ≡ None
  changed_dead other none =
      ⊎_elim
      (λ (same : number ≡ other).
      let some : live_block memory other ≡ Some block = ap (live_block memory) (sym same) ∙ live in
      absurd (cc (none, some)))
      (λ (away : number ≢ other). live-set_other memory number other (Some new) away ∙ none)
      (cases_eq number other)

  -- what two blocks of one number have in common
  changed_same : (A : Type 0) (of : Block → A) → of new ≡ of block → (other : ℕ) (old later : Block) → live_block memory other ≡ Some old
      → live_block (slice_set memory number (Some new)) other ≡ Some later → of later ≡ of old
  changed_same A of is other old later was there =
      ⊎_elim
      (λ (same : number ≡ other).
      let set : live_block (slice_set memory number (Some new)) other ≡ Some new =
      ap (live_block (slice_set memory number (Some new))) (sym same) ∙ live-set_same memory number new (live_within memory number block live) in
      let some : live_block memory other ≡ Some block = ap (live_block memory) (sym same) ∙ live in
      let later_is : later ≡ new = cc (set, there) in
      let old_is : block ≡ old = cc (some, was) in
      ap of later_is ∙ is ∙ ap of old_is)
      (λ (away : number ≢ other).
      let kept : live_block memory other ≡ Some later = sym (live-set_other memory number other (Some new) away) ∙ there in
      let later_is : later ≡ old = cc (kept, was) in
      ap of later_is)
      (cases_eq number other)

  -- a block gets other cells, as many as it had
  pub lives_changed : LivesAgree memory (slice_set memory number (Some new))
  lives_changed = record {
    grows = omega (arith, length-set memory number (Some new));
    dead = λ other within none. changed_dead other none;
    sizes = λ other old later was there. changed_same ℕ size_of size other old later was there;
    aligns = λ other old later was there. changed_same ℕ (λ (it : Block). it.align) align other old later was there;
  }

pub lives_written : (memory after : Blocks) (at : Ptr) (count : ℕ) → Writes memory at count after → LivesAgree memory after
lives_written memory after at count writes =
    rw writes.made
    (lives_changed memory at.block writes.block (with_part writes.block at.offset writes.cells) writes.live
    (size_of-with_part writes.block at.offset writes.cells (omega (arith, writes.many, writes.within))) refl)

-- ---- a block dies

killed : (memory : Blocks) (number : ℕ) → live_block (slice_set memory number None) number ≡ None
killed [] number = refl
killed (first ∷ others) zero = refl
killed (first ∷ others) (suc number) = killed others number

killed_same : (A : Type 0) (of : Block → A) (memory : Blocks) (number other : ℕ) (old later : Block) → live_block memory other ≡ Some old
    → live_block (slice_set memory number None) other ≡ Some later → of later ≡ of old
killed_same A of memory number other old later was there =
    ⊎_elim
    (λ (same : number ≡ other).
    let none : live_block (slice_set memory number None) other ≡ None = ap (live_block (slice_set memory number None)) (sym same) ∙ killed memory number in
    absurd (cc (none, there)))
    (λ (away : number ≢ other).
    let kept : live_block memory other ≡ Some later = sym (live-set_other memory number other None away) ∙ there in
    let later_is : later ≡ old = cc (kept, was) in
    ap of later_is)
    (cases_eq number other)

killed_dead : (memory : Blocks) (number other : ℕ) → live_block memory other ≡ None → live_block (slice_set memory number None) other ≡ None
killed_dead memory number other none =
    ⊎_elim
    (λ (same : number ≡ other). ap (live_block (slice_set memory number None)) (sym same) ∙ killed memory number)
    (λ (away : number ≢ other). live-set_other memory number other None away ∙ none)
    (cases_eq number other)

pub lives_killed : (memory : Blocks) (number : ℕ) → LivesAgree memory (slice_set memory number None)
lives_killed memory number = record {
  grows = omega (arith, length-set memory number None);
  dead = λ other within none. killed_dead memory number other none;
  sizes = λ other old later was there. killed_same ℕ size_of memory number other old later was there;
  aligns = λ other old later was there. killed_same ℕ (λ (it : Block). it.align) memory number other old later was there;
}

-- ---- a block is made

pub live_before : (memory : Blocks) (new : Option Block) (number : ℕ) → number < length memory → live_block (memory ++ new ∷ []) number ≡ live_block memory number
live_before [] new number within = absurd (omega (arith, within))
live_before (first ∷ others) new zero within = refl
live_before (first ∷ others) new (suc number) within = live_before others new number (omega (arith, within))

made_same : (memory : Blocks) (new : Option Block) (number : ℕ) (old later : Block) → live_block memory number ≡ Some old → live_block (memory ++ new ∷ []) number ≡ Some later → later ≡ old
made_same memory new number old later was there =
    let kept : live_block memory number ≡ Some later = sym (live_before memory new number (live_within memory number old was)) ∙ there in
    cc (kept, was)

pub lives_made : (memory : Blocks) (new : Option Block) → LivesAgree memory (memory ++ new ∷ [])
lives_made memory new = record {
  grows = omega (arith, length-append memory (new ∷ []));
  dead = λ number within none. live_before memory new number within ∙ none;
  sizes = λ number old later was there. ap size_of (made_same memory new number old later was there);
  aligns = λ number old later was there. ap (λ (it : Block). it.align) (made_same memory new number old later was there);
}
