-- What each step leaves of what isn't its own.
use Rattle.std.proofs.Common.{◌≡◌, ◌≢◌, ℕ, ◌<◌, ◌≤◌, Bool, true, false, List, ◌++◌, ◌∷◌, [], length, Option, Some, None, slice_set, refl, ap, ◌∙◌, subst, ⊎_elim, length-append, arith}
use Rattle.std.proofs.lemmas.Bool.{cases_eq}
use Rattle.std.proofs.lemmas.List.{length-set}
use Rattle.std.proofs.lemmas.Option.{slice_get_within}
use Rattle.cr_world.specs.Held.{Held, heap_align, with_blocks, fresh_block, with_allocated, is_listed, without_allocated}
use Rattle.mem_bytes.specs.declared.value.Ptr.{Ptr}
use Rattle.mem_bytes.specs.Laws.{Writes}
use Rattle.mem_bytes.specs.Memory.{Block, Blocks, live_block, size_of, with_part}
use Rattle.mem_bytes.proofs.Reached.{size_of-with_part}
use Rattle.mem_bytes.proofs.Slots.{live-set_other, live-set_same, live_within}
use Rattle.lift_stands.specs.Keeps.{KeepsOthers, LivesOn}
use Rattle.lift_stands.specs.Stands.{Images, image_of, with_image, Extends, PlaceBelow, Lives, IsVacant}
use Rattle.lift_stands.specs.Worlds.{HeldStands}
use Rattle.lift_stands.proofs.Images.{extends_same, extends_one}
use Rattle.lift_stands.proofs.Kept.{both_keep}
use Rattle.lift_stands_lives.specs.Rooms.{LivesFewer, MayChange}
use Rattle.lift_stands_lives.proofs.HeldLives.{listed_cases, listed_without, listed_lives}
use Rattle.lift_stands_lives.proofs.Pushed.{written_many, live_behind, entry_cases, killed}

pub image_may_change : (base : ℕ) (own : ℕ → Bool) (images : Images) (memory : Blocks) (number image : ℕ) → Lives memory number → image_of images number ≡ Some image → MayChange base own images memory image
image_may_change base own images memory number image living entry p free = absurd (free number living entry)

pub since_may_change : (base : ℕ) (own : ℕ → Bool) (images : Images) (memory : Blocks) (number : ℕ) → base ≤ number → MayChange base own images memory number
since_may_change base own images memory number p q free = absurd (omega (arith, p, q))

-- ---- steps of one side

-- what a step of C alone has to do
record LeavesInC (base : ℕ) (images later : Images) (held after : Held) : Type 0 where
  extends : Extends images later
  grows : length held.blocks ≤ length after.blocks
  past : (number image : ℕ) → length held.blocks ≤ number → image_of later number ≡ Some image → base ≤ image
  dead : (number : ℕ) → number < length held.blocks → live_block held.blocks number ≡ None → live_block after.blocks number ≡ None
  heap : (number : ℕ) → number < length held.blocks → is_listed number after.heap ≡ true → is_listed number held.heap ≡ true

same_room : (other : Held) (number : ℕ) (block : Block) → live_block other.blocks number ≡ Some block → LivesOn block other number
same_room other number block live = record { block = block; live = live; size = refl; align = refl }

in_c_alone : (base : ℕ) (own : ℕ → Bool) (images later : Images) (held after other : Held) → LeavesInC base images later held after → KeepsOthers base own images later held after other other
in_c_alone base own images later held after other leaves = record {
  extends = leaves.extends;
  grows = leaves.grows;
  others_grow = omega arith;
  past = leaves.past;
  dead = leaves.dead;
  heap = leaves.heap;
  other_heap = λ number p e. e;
  vacant = λ number p free apart. refl;
  rooms = λ number block p live unlisted. same_room other number block live;
}

-- and one of the crate
record LeavesInCrate (base : ℕ) (own : ℕ → Bool) (images : Images) (held other beyond : Held) : Type 0 where
  grows : length other.blocks ≤ length beyond.blocks
  heap : (number : ℕ) → number < length other.blocks → is_listed number beyond.heap ≡ true → is_listed number other.heap ≡ true
  vacant : (number : ℕ) → number < base → IsVacant images held.blocks number → own number ≡ false → live_block beyond.blocks number ≡ live_block other.blocks number
  rooms : (number : ℕ) (block : Block) → number < base → live_block other.blocks number ≡ Some block → is_listed number other.heap ≡ false → LivesOn block beyond number

no_past : (base : ℕ) (images : Images) (held : Held) → length images.blocks ≡ length held.blocks → (number image : ℕ) → length held.blocks ≤ number → image_of images number ≡ Some image → base ≤ image
no_past base images held mapped number image p e = absurd (omega (arith, p, mapped, slice_get_within images.blocks number image e))

in_crate_alone : (base : ℕ) (own : ℕ → Bool) (images : Images) (held other beyond : Held) → length images.blocks ≡ length held.blocks → LeavesInCrate base own images held other beyond → KeepsOthers base own images images held held other beyond
in_crate_alone base own images held other beyond mapped leaves = record {
  extends = extends_same images;
  grows = omega arith;
  others_grow = leaves.grows;
  past = no_past base images held mapped;
  dead = λ number p e. e;
  heap = λ number p e. e;
  other_heap = leaves.heap;
  vacant = leaves.vacant;
  rooms = leaves.rooms;
}

-- ---- stores

module _ (base : ℕ) (own : ℕ → Bool) (images : Images) (held other : Held) (mapped : length images.blocks ≡ length held.blocks) where
  written_dead : (memory after : Blocks) (at : Ptr) (count number : ℕ) → Writes memory at count after → live_block memory number ≡ None → live_block after number ≡ None
  written_dead memory after at count number writes e =
      let away : at.block ≢ number = λ (same : at.block ≡ number).
      let live : live_block memory number ≡ Some writes.block = subst (λ n. live_block memory n ≡ Some writes.block) same writes.live in
      cc in
      ap (λ m. live_block m number) writes.made ∙ live-set_other memory at.block number _ away ∙ e

  pub stores_keep : (at : Ptr) (count : ℕ) (after : Blocks) → Writes held.blocks at count after → KeepsOthers base own images images held (with_blocks after held) other other
  stores_keep at count after writes = in_c_alone base own images images held (with_blocks after held) other (record {
    extends = extends_same images;
    grows = omega (arith, written_many held.blocks after at count writes);
    past = no_past base images held mapped;
    dead = λ number p e. written_dead held.blocks after at count number writes e;
    heap = λ number p e. e;
  })

  written_room : (at : Ptr) (count : ℕ) (after : Blocks) → Writes other.blocks at count after → (number : ℕ) (block : Block) → live_block other.blocks number ≡ Some block → LivesOn block (with_blocks after other) number
  written_room at count after writes number block live =
      ⊎_elim
      (λ (same : at.block ≡ number).
      let is : live_block other.blocks number ≡ Some writes.block = subst (λ n. live_block other.blocks n ≡ Some writes.block) same writes.live in
      let one : writes.block ≡ block = cc in
      record {
        block = with_part writes.block at.offset writes.cells;
        live = ap (λ m. live_block m number) writes.made ∙ subst (λ n. live_block (slice_set other.blocks at.block (Some (with_part writes.block at.offset writes.cells))) n ≡ Some (with_part writes.block at.offset writes.cells)) same (live-set_same other.blocks at.block (with_part writes.block at.offset writes.cells) (live_within other.blocks at.block writes.block writes.live));
        size = size_of-with_part writes.block at.offset writes.cells (omega (arith, writes.within, writes.many)) ∙ ap size_of one;
        align = ap (λ b. b.align) one;
      })
      (λ (away : at.block ≢ number). record {
        block = block;
        live = ap (λ m. live_block m number) writes.made ∙ live-set_other other.blocks at.block number _ away ∙ live;
        size = refl;
        align = refl;
      })
      (cases_eq at.block number)

  pub stores_aside_keep : (at : Ptr) (count : ℕ) (after : Blocks) → Writes other.blocks at count after → MayChange base own images held.blocks at.block → KeepsOthers base own images images held held other (with_blocks after other)
  stores_aside_keep at count after writes may = in_crate_alone base own images held other (with_blocks after other) mapped (record {
    grows = omega (arith, written_many other.blocks after at count writes);
    heap = λ number p e. e;
    vacant = λ number p free apart.
        let away : at.block ≢ number = λ (same : at.block ≡ number).
        let is : own number ≡ true = subst (MayChange base own images held.blocks) same may p free in
        cc in
        ap (λ m. live_block m number) writes.made ∙ live-set_other other.blocks at.block number _ away;
    rooms = λ number block p live unlisted. written_room at count after writes number block live;
  })

  pub both_store_keep : (at to : Ptr) (count many : ℕ) (after beyond : Blocks) → Writes held.blocks at count after → Writes other.blocks to many beyond → PlaceBelow images at to → KeepsOthers base own images images held (with_blocks after held) other (with_blocks beyond other)
  both_store_keep at to count many after beyond writes others_write place =
      let may = image_may_change base own images held.blocks at.block to.block (writes.block, writes.live) place.block in
      both_keep base own images images images held held (with_blocks after held) other (with_blocks beyond other) (with_blocks beyond other) mapped mapped (stores_aside_keep to many beyond others_write may) (in_c_alone base own images images held (with_blocks after held) (with_blocks beyond other) (record {
        extends = extends_same images;
        grows = omega (arith, written_many held.blocks after at count writes);
        past = no_past base images held mapped;
        dead = λ number p e. written_dead held.blocks after at count number writes e;
        heap = λ number p e. e;
      }))

-- ---- lives

begun_past : (base : ℕ) (images : Images) (held : Held) (image : ℕ) → length images.blocks ≡ length held.blocks → base ≤ image → (number one : ℕ) → length held.blocks ≤ number → image_of (with_image image images) number ≡ Some one → base ≤ one
begun_past base images held image mapped p number one q e =
    ⊎_elim
    (λ (old : (number < length images.blocks) × (image_of images number ≡ Some one)). absurd (omega (arith, old.0, q, mapped)))
    (λ (last : (number ≡ length images.blocks) × (image ≡ one)). subst (λ n. base ≤ n) last.1 p)
    (entry_cases images.blocks image number one e)

pub onto_keeps : (base : ℕ) (own : ℕ → Bool) (images : Images) (held other : Held) (image : ℕ) (block : Block) → length images.blocks ≡ length held.blocks → base ≤ image → KeepsOthers base own images (with_image image images) held (with_blocks (held.blocks ++ Some block ∷ []) held) other other
onto_keeps base own images held other image block mapped p = in_c_alone base own images (with_image image images) held (with_blocks (held.blocks ++ Some block ∷ []) held) other (record {
  extends = extends_one images image;
  grows = omega (arith, length-append held.blocks (Some block ∷ []));
  past = begun_past base images held image mapped p;
  dead = λ number q e. live_behind held.blocks (Some block) number q ∙ e;
  heap = λ number q e. e;
})

beside_room : (blocks : Blocks) (heap : List ℕ) (block : Block) (base number : ℕ) (one : Block) → live_block blocks number ≡ Some one → LivesOn one (record { blocks = blocks ++ Some block ∷ []; heap = heap }) number
beside_room blocks heap block base number one live = record {
  block = one;
  live = live_behind blocks (Some block) number (live_within blocks number one live) ∙ live;
  size = refl;
  align = refl;
}

pub beside_keeps : (base : ℕ) (own : ℕ → Bool) (images : Images) (held other : Held) (block : Block) → length images.blocks ≡ length held.blocks → base ≤ length other.blocks → KeepsOthers base own images images held held other (with_blocks (other.blocks ++ Some block ∷ []) other)
beside_keeps base own images held other block mapped p = in_crate_alone base own images held other (with_blocks (other.blocks ++ Some block ∷ []) other) mapped (record {
  grows = omega (arith, length-append other.blocks (Some block ∷ []));
  heap = λ number q e. e;
  vacant = λ number q free apart. live_behind other.blocks (Some block) number (omega (arith, p, q));
  rooms = λ number one q live unlisted. beside_room other.blocks other.heap block base number one live;
})

pub both_keeps : (base : ℕ) (own : ℕ → Bool) (images : Images) (held other : Held) (block room : Block) → length images.blocks ≡ length held.blocks → base ≤ length other.blocks → KeepsOthers base own images (with_image (length other.blocks) images) held (with_blocks (held.blocks ++ Some block ∷ []) held) other (with_blocks (other.blocks ++ Some room ∷ []) other)
both_keeps base own images held other block room mapped p =
    let beyond = with_blocks (other.blocks ++ Some room ∷ []) other in
    both_keep base own images images (with_image (length other.blocks) images) held held (with_blocks (held.blocks ++ Some block ∷ []) held) other beyond beyond mapped mapped (beside_keeps base own images held other room mapped p) (onto_keeps base own images held beyond (length other.blocks) block mapped p)

kill_dead : (memory : Blocks) (number one : ℕ) → live_block memory one ≡ None → live_block (slice_set memory number None) one ≡ None
kill_dead memory number one e =
    ⊎_elim
    (λ (same : number ≡ one). subst (λ n. live_block (slice_set memory number None) n ≡ None) same (killed memory number))
    (λ (away : number ≢ one). live-set_other memory number one None away ∙ e)
    (cases_eq number one)

pub dies_keeps : (base : ℕ) (own : ℕ → Bool) (images : Images) (held other : Held) (number : ℕ) → length images.blocks ≡ length held.blocks → KeepsOthers base own images images held (with_blocks (slice_set held.blocks number None) held) other other
dies_keeps base own images held other number mapped = in_c_alone base own images images held (with_blocks (slice_set held.blocks number None) held) other (record {
  extends = extends_same images;
  grows = omega (arith, length-set held.blocks number None);
  past = no_past base images held mapped;
  dead = λ one p e. kill_dead held.blocks number one e;
  heap = λ one p e. e;
})

dead_stays : (memory after : Blocks) (number : ℕ) (slot : Option Block) → LivesFewer memory after → live_block memory number ≡ None → live_block after number ≡ slot → live_block after number ≡ None
dead_stays memory after number None less e is = is
dead_stays memory after number (Some block) less e is =
    let was : live_block memory number ≡ Some block = less.same number block is in
    cc

pub fewer_keeps : (base : ℕ) (own : ℕ → Bool) (images : Images) (held other : Held) (after : Blocks) → length images.blocks ≡ length held.blocks → LivesFewer held.blocks after → KeepsOthers base own images images held (with_blocks after held) other other
fewer_keeps base own images held other after mapped less = in_c_alone base own images images held (with_blocks after held) other (record {
  extends = extends_same images;
  grows = omega (arith, less.many);
  past = no_past base images held mapped;
  dead = λ number p e. dead_stays held.blocks after number (live_block after number) less e refl;
  heap = λ number p e. e;
})

pub newer_keeps : (base : ℕ) (own : ℕ → Bool) (images : Images) (held other : Held) (next : Blocks) → length images.blocks ≡ length held.blocks → length other.blocks ≤ length next → ((number : ℕ) → number < base → live_block next number ≡ live_block other.blocks number) → KeepsOthers base own images images held held other (with_blocks next other)
newer_keeps base own images held other next mapped grows same = in_crate_alone base own images held other (with_blocks next other) mapped (record {
  grows = grows;
  heap = λ number p e. e;
  vacant = λ number p free apart. same number p;
  rooms = λ number block p live unlisted. record { block = block; live = same number p ∙ live; size = refl; align = refl };
})

pub ends_keeps : (base : ℕ) (own : ℕ → Bool) (images : Images) (held other : Held) (number : ℕ) → length images.blocks ≡ length held.blocks → base ≤ number → KeepsOthers base own images images held held other (with_blocks (slice_set other.blocks number None) other)
ends_keeps base own images held other number mapped p = in_crate_alone base own images held other (with_blocks (slice_set other.blocks number None) other) mapped (record {
  grows = omega (arith, length-set other.blocks number None);
  heap = λ one q e. e;
  vacant = λ one q free apart. live-set_other other.blocks number one None (λ (same : number ≡ one). omega (arith, p, q, same));
  rooms = λ one block q live unlisted. record {
    block = block;
    live = live-set_other other.blocks number one None (λ (same : number ≡ one). omega (arith, p, q, same)) ∙ live;
    size = refl;
    align = refl;
  };
})

pub both_die_keep : (base : ℕ) (own : ℕ → Bool) (images : Images) (held other : Held) (number image : ℕ) → length images.blocks ≡ length held.blocks → base ≤ image → KeepsOthers base own images images held (with_blocks (slice_set held.blocks number None) held) other (with_blocks (slice_set other.blocks image None) other)
both_die_keep base own images held other number image mapped p =
    let beyond = with_blocks (slice_set other.blocks image None) other in
    both_keep base own images images images held held (with_blocks (slice_set held.blocks number None) held) other beyond beyond mapped mapped (ends_keeps base own images held other image mapped p) (dies_keeps base own images held beyond number mapped)

-- ---- allocated blocks

new_unlisted : (blocks : Blocks) (heap : List ℕ) (number : ℕ) → number < length blocks → is_listed number (length blocks ∷ heap) ≡ true → is_listed number heap ≡ true
new_unlisted blocks heap number p e =
    ⊎_elim (λ (same : length blocks ≡ number). absurd (omega (arith, p, same))) (λ (rest : is_listed number heap ≡ true). rest) (listed_cases number (length blocks) heap e)

pub allocated_keeps : (base : ℕ) (own : ℕ → Bool) (images : Images) (held other : Held) (is_zero other_zero : Bool) (size : ℕ) → length images.blocks ≡ length held.blocks → base ≤ length other.blocks → KeepsOthers base own images (with_image (length other.blocks) images) held (with_allocated is_zero size held) other (with_allocated other_zero size other)
allocated_keeps base own images held other is_zero other_zero size mapped p =
    let new = fresh_block is_zero size heap_align in
    let other_new = fresh_block other_zero size heap_align in
    record {
      extends = extends_one images (length other.blocks);
      grows = omega (arith, length-append held.blocks (Some new ∷ []));
      others_grow = omega (arith, length-append other.blocks (Some other_new ∷ []));
      past = begun_past base images held (length other.blocks) mapped p;
      dead = λ number q e. live_behind held.blocks (Some new) number q ∙ e;
      heap = λ number q e. new_unlisted held.blocks held.heap number q e;
      other_heap = λ number q e. new_unlisted other.blocks other.heap number q e;
      vacant = λ number q free apart. live_behind other.blocks (Some other_new) number (omega (arith, p, q));
      rooms = λ number one q live unlisted. beside_room other.blocks (length other.blocks ∷ other.heap) other_new base number one live;
    }

module _ (base : ℕ) (own : ℕ → Bool) (images : Images) (held other : Held) (number image : ℕ) (stands : HeldStands images held other) (listed : is_listed number held.heap ≡ true) (entry : image_of images number ≡ Some image) where
  freed_vacant : (one : ℕ) → IsVacant images held.blocks one → image ≢ one
  freed_vacant one free same =
      free number (listed_lives held.blocks number held.heap stands.heaps.lives listed) (entry ∙ ap Some same)

  freed_listed : (one : ℕ) → is_listed one other.heap ≡ false → image ≢ one
  freed_listed one out same =
      let has = stands.heaps.given number listed in
      let found : has.image ≡ one = one_image (image_of images number) has.image image has.entry entry ∙ same in
      let is : is_listed one other.heap ≡ true = subst (λ n. is_listed n other.heap ≡ true) found has.listed in
      cc
    where
      one_image : (slot : Option ℕ) (first second : ℕ) → slot ≡ Some first → slot ≡ Some second → first ≡ second
      one_image slot first second e f = cc

  pub freed_keeps : KeepsOthers base own images images held (without_allocated number held) other (without_allocated image other)
  freed_keeps = record {
    extends = extends_same images;
    grows = omega (arith, length-set held.blocks number None);
    others_grow = omega (arith, length-set other.blocks image None);
    past = no_past base images held stands.memories.mapped;
    dead = λ one p e. kill_dead held.blocks number one e;
    heap = λ one p e. listed_without one number held.heap e;
    other_heap = λ one p e. listed_without one image other.heap e;
    vacant = λ one p free apart. live-set_other other.blocks image one None (freed_vacant one free);
    rooms = λ one block p live unlisted. record {
      block = block;
      live = live-set_other other.blocks image one None (freed_listed one unlisted) ∙ live;
      size = refl;
      align = refl;
    };
  }
