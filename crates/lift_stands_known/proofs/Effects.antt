-- What the known functions do in C and in the crate.
use Rattle.std.proofs.Common.{◌≡◌, ℕ, zero, suc, ◌+◌, ◌*◌, ◌<◌, ℤ, pos, Bool, true, false, ◌&&◌, ◌||◌, ◌==◌, nat_lt, nat_le, if◌then◌else◌, List, [], ◌∷◌, Option, Some, None, Result, Ok, Err, refl, sym, ap, ◌∙◌, subst, arith}
use Rattle.std.proofs.lemmas.Bool.{and_parts, and_from, cond-true, cond-false, eqb-true, eq-eqb}
use Rattle.cr_base.specs.Layout.{most_bytes}
use Rattle.cr_base.specs.Scalar.{residue}
use Rattle.cr_base.proofs.Residues.{residue_below}
use Rattle.cr_world.specs.Held.{Held, with_blocks, is_listed, without_allocated, overlapping, not_allocated}
use Rattle.cr_world.specs.Known.{Known, allocates, frees, copies, fills, exits, aborts, Effect, gives, gives_nothing, ends_program, wants_block, fails, allocation, freed, accessed_as, bytes_overlap, unless_overlapping, null_beside, copied, copying, filling, freeing, effect, abort_status}
use Rattle.mem_bytes.specs.declared.fault.Fault.{Fault}
use Rattle.mem_bytes.specs.declared.value.Ptr.{Ptr}
use Rattle.mem_bytes.specs.declared.value.Value.{Value}
use Rattle.mem_bytes.specs.declared.value.Value.TheVariants.{Whole, Null, Object, Code}
use Rattle.mem_bytes.specs.Access.{after_copy, after_fill}
use Rattle.mem_bytes.specs.Laws.{Writes}
use Rattle.mem_bytes.specs.Memory.{Block, Blocks, live_block}
use Rattle.mem_bytes.proofs.Written.{copy_writes, fill_writes, copy_read}
use Rattle.lift_stands.specs.Stands.{Images, PlaceBelow, ValueBelow, Lives, StandsFor}
use Rattle.lift_stands.specs.Worlds.{HeldStands}
use Rattle.lift_stands.proofs.Images.{same_images}
use Rattle.lift_stands.proofs.Kept.{nothing_keeps}
use Rattle.lift_stands.proofs.Loads.{read_live}
use Rattle.lift_stands.proofs.Stores.{store_copy, store_fill}
use Rattle.lift_stands_known.specs.Effects.{ValuesBelow, GivesBelow, LeavesBelow, EffectStands}
use Rattle.lift_stands.proofs.Forms.{number_below, null_below, object_below}
use Rattle.lift_stands_known.proofs.Values.{none_below, one_below, two_below, three_below}
use Rattle.lift_stands_lives.proofs.HeldLives.{held_changed, held_freed}
use Rattle.lift_stands_lives.proofs.Pushed.{written_lives, written_many}
use Rattle.lift_stands_lives.proofs.Steps.{both_store_keep, freed_keeps}

module _ (images : Images) (held other : Held) (stands : HeldStands images held other) where
  -- the crate gives what stands for what C gives, and both leave what was held
  given_as_was : (value given : Value) → ValueBelow images value given → GivesBelow images held other value held (gives given other)
  given_as_was value given below = record {
    given = given;
    beyond = other;
    is = refl;
    below = below;
    stands = stands;
    keeps = λ base own. nothing_keeps base own images held other stands.memories.mapped;
  }

  -- ---- allocations

  allocation_stands : (zeroes is_zero : Bool) (size : ℕ) → EffectStands images held other zeroes (allocation is_zero size held) (allocation (zeroes || is_zero) size other)
  allocation_stands zeroes is_zero size = from_test (nat_le size most_bytes)
    where
      from_test : (fits : Bool) → EffectStands images held other zeroes (if fits then wants_block is_zero size else gives Null held) (if fits then wants_block (zeroes || is_zero) size else gives Null other)
      from_test true = refl
      from_test false = given_as_was Null Null ValueBelow.both_null

  -- ---- `free`

  freed_both : (at to : Ptr) → PlaceBelow images at to → (at.offset == 0 && is_listed at.block held.heap) ≡ true → LeavesBelow images held other (without_allocated at.block held) (freed to other)
  freed_both at to place is =
      let parts = and_parts (at.offset == 0) (is_listed at.block held.heap) is in
      let has = stands.heaps.given at.block parts.1 in
      let same : has.image ≡ to.block = same_images images.blocks at.block at.block has.image to.block refl has.entry place.block in
      let there = and_from (to.offset == 0) (is_listed to.block other.heap) (ap (λ n. n == 0) place.offset ∙ parts.0) (subst (λ n. is_listed n other.heap ≡ true) same has.listed) in
      record {
        beyond = without_allocated to.block other;
        is = cond-true _ _ _ there;
        stands = held_freed images held other at.block to.block stands parts.1 place.block;
        keeps = λ base own. freed_keeps base own images held other at.block to.block stands parts.1 place.block;
      }

  freed_stands : (zeroes : Bool) (at to : Ptr) → PlaceBelow images at to → EffectStands images held other zeroes (freed at held) (freed to other)
  freed_stands zeroes at to place = from_test (at.offset == 0 && is_listed at.block held.heap) refl
    where
      from_test : (is : Bool) → (at.offset == 0 && is_listed at.block held.heap) ≡ is → EffectStands images held other zeroes (if is then gives_nothing (without_allocated at.block held) else fails not_allocated) (freed to other)
      from_test true is = freed_both at to place is
      from_test false is = tt

  freeing_stands : (zeroes : Bool) (value given : Value) → ValueBelow images value given → EffectStands images held other zeroes (freeing value held) (freeing given other)
  freeing_stands zeroes (Object at) given below =
      let to = object_below images at given below in
      subst (λ g. EffectStands images held other zeroes (freed at held) (freeing g other)) (sym to.1) (freed_stands zeroes at to.0 to.2)
  freeing_stands zeroes Null given below =
      subst (λ g. LeavesBelow images held other held (freeing g other)) (sym (null_below images given below)) (record {
        beyond = other;
        is = refl;
        stands = stands;
        keeps = λ base own. nothing_keeps base own images held other stands.memories.mapped;
      })
  freeing_stands zeroes (Whole number) given below = tt
  freeing_stands zeroes (Code number) given below = tt

  -- ---- copies and fills

  -- both write at a place, which is what they give
  written_below : (at to : Ptr) (count : ℕ) (after beyond : Blocks) → PlaceBelow images at to → Writes held.blocks at count after → Writes other.blocks to count beyond → StandsFor images after beyond → (done : Effect) → done ≡ gives (Object to) (with_blocks beyond other) → GivesBelow images held other (Object at) (with_blocks after held) done
  written_below at to count after beyond place writes others_write memories done is = record {
    given = Object to;
    beyond = with_blocks beyond other;
    is = is;
    below = ValueBelow.to_image at to place;
    stands = held_changed images held other after beyond stands memories (λ number e living. written_lives held.blocks after at count writes number living) (omega (arith, written_many other.blocks beyond to count others_write));
    keeps = λ base own. both_store_keep base own images held other stands.memories.mapped at to count count after beyond writes others_write place;
  }

  filled_stands : (zeroes : Bool) (at to : Ptr) (byte count : ℕ) → byte < 256 → PlaceBelow images at to → (result : Result Blocks Fault) → after_fill held.blocks at byte count ≡ result → EffectStands images held other zeroes (accessed_as (Object at) held result) (accessed_as (Object to) other (after_fill other.blocks to byte count))
  filled_stands zeroes at to byte count small place (Err fault) e = tt
  filled_stands zeroes at to byte count small place (Ok after) e =
      let stored = store_fill images held.blocks after other.blocks at to byte count stands.memories place small e in
      written_below at to count after stored.other place (fill_writes held.blocks after at byte count e) (fill_writes other.blocks stored.other to byte count stored.done) stored.stands (accessed_as (Object to) other (after_fill other.blocks to byte count)) (ap (accessed_as (Object to) other) stored.done)

  filling_stands : (zeroes : Bool) (value given : Value) (byte : ℤ) (count : ℕ) → ValueBelow images value given → EffectStands images held other zeroes (filling value byte count held) (filling given byte count other)
  filling_stands zeroes (Object at) given byte count below =
      let to = object_below images at given below in
      subst (λ g. EffectStands images held other zeroes (filling (Object at) byte count held) (filling g byte count other)) (sym to.1)
      (filled_stands zeroes at to.0 (residue byte 256) count (residue_below byte 256 (omega arith)) to.2 (after_fill held.blocks at (residue byte 256) count) refl)
  filling_stands zeroes Null given byte count below = tt
  filling_stands zeroes (Whole number) given byte count below = tt
  filling_stands zeroes (Code number) given byte count below = tt

  -- places that overlap in the crate overlap in C
  overlap_in_c : (first second one two : Ptr) (count : ℕ) → Lives held.blocks first.block → Lives held.blocks second.block → PlaceBelow images first one → PlaceBelow images second two → bytes_overlap one two count ≡ true → bytes_overlap first second count ≡ true
  overlap_in_c first second one two count living lives below behind is =
      let outer = and_parts (one.block == two.block && nat_lt one.offset (two.offset + count)) (nat_lt two.offset (one.offset + count)) is in
      let inner = and_parts (one.block == two.block) (nat_lt one.offset (two.offset + count)) outer.0 in
      let images_same : one.block ≡ two.block = eqb-true one.block two.block inner.0 in
      let same : first.block ≡ second.block = stands.memories.apart first.block second.block two.block living lives (below.block ∙ ap Some images_same) behind.block in
      let left = subst (λ n. nat_lt n (second.offset + count) ≡ true) below.offset (subst (λ n. nat_lt one.offset (n + count) ≡ true) behind.offset inner.1) in
      let right = subst (λ n. nat_lt n (first.offset + count) ≡ true) behind.offset (subst (λ n. nat_lt two.offset (n + count) ≡ true) below.offset outer.1) in
      and_from (first.block == second.block && nat_lt first.offset (second.offset + count)) (nat_lt second.offset (first.offset + count)) (and_from (first.block == second.block) (nat_lt first.offset (second.offset + count)) (eq-eqb first.block second.block same) left) right

  copied_both : (at from to source : Ptr) (n : ℕ) (after : Blocks) → PlaceBelow images at to → PlaceBelow images from source → after_copy held.blocks from at (suc n) ≡ Ok after → GivesBelow images held other (Object at) (with_blocks after held) (accessed_as (Object to) other (after_copy other.blocks source to (suc n)))
  copied_both at from to source n after place behind e =
      let stored = store_copy images held.blocks after other.blocks at to from source (suc n) stands.memories behind place e in
      written_below at to (suc n) after stored.other place (copy_writes held.blocks after from at (suc n) (omega arith) e) (copy_writes other.blocks stored.other source to (suc n) (omega arith) stored.done) stored.stands (accessed_as (Object to) other (after_copy other.blocks source to (suc n))) (ap (accessed_as (Object to) other) stored.done)

  -- where C's places don't overlap the crate's don't, and the test changes nothing
  apart_both : (at from to source : Ptr) (n : ℕ) (after : Blocks) → PlaceBelow images at to → PlaceBelow images from source → after_copy held.blocks from at (suc n) ≡ Ok after → bytes_overlap at from (suc n) ≡ false → GivesBelow images held other (Object at) (with_blocks after held) (unless_overlapping false to source (suc n) (accessed_as (Object to) other (after_copy other.blocks source to (suc n))))
  apart_both at from to source n after place behind e apart =
      let both = copied_both at from to source n after place behind e in
      let writes = copy_writes held.blocks after from at (suc n) (omega arith) e in
      let read = copy_read held.blocks after from at (suc n) (omega arith) e in
      let source_lives = read_live (live_block held.blocks from.block) _ read.0 read.1 in
      let other_apart = from_test (bytes_overlap to source (suc n)) refl (overlap_in_c at from to source (suc n) (writes.block, writes.live) (source_lives.0, source_lives.1) place behind) in
      record {
        given = both.given;
        beyond = both.beyond;
        is = ap (unless_overlapping false to source (suc n)) both.is ∙ cond-false _ _ _ other_apart;
        below = both.below;
        stands = both.stands;
        keeps = both.keeps;
      }
    where
      from_test : (is : Bool) → bytes_overlap to source (suc n) ≡ is → (bytes_overlap to source (suc n) ≡ true → bytes_overlap at from (suc n) ≡ true) → bytes_overlap to source (suc n) ≡ false
      from_test false is implied = is
      from_test true is implied = let no : bytes_overlap at from (suc n) ≡ true = implied is in cc

  copied_stands : (zeroes may_overlap : Bool) (at from to source : Ptr) (n : ℕ) → PlaceBelow images at to → PlaceBelow images from source → (result : Result Blocks Fault) → after_copy held.blocks from at (suc n) ≡ result →
      EffectStands images held other zeroes (unless_overlapping may_overlap at from (suc n) (accessed_as (Object at) held result)) (unless_overlapping may_overlap to source (suc n) (accessed_as (Object to) other (after_copy other.blocks source to (suc n))))
  copied_stands zeroes true at from to source n place behind (Err fault) e = tt
  copied_stands zeroes false at from to source n place behind (Err fault) e = tt
  copied_stands zeroes true at from to source n place behind (Ok after) e = copied_both at from to source n after place behind e
  copied_stands zeroes false at from to source n place behind (Ok after) e = from_test (bytes_overlap at from (suc n)) refl
    where
      from_test : (is : Bool) → bytes_overlap at from (suc n) ≡ is → EffectStands images held other zeroes (if is then fails overlapping else gives (Object at) (with_blocks after held)) (unless_overlapping false to source (suc n) (accessed_as (Object to) other (after_copy other.blocks source to (suc n))))
      from_test true is = tt
      from_test false is = apart_both at from to source n after place behind e is

  beside_stands : (zeroes : Bool) (slot : Option Block) (done : Effect) → EffectStands images held other zeroes (null_beside slot) done
  beside_stands zeroes None done = tt
  beside_stands zeroes (Some block) done = tt

  some_copied : (zeroes may_overlap : Bool) (to from given source : Value) (n : ℕ) → ValueBelow images to given → ValueBelow images from source → EffectStands images held other zeroes (copied may_overlap to from (suc n) held) (copied may_overlap given source (suc n) other)
  some_copied zeroes may_overlap (Object at) (Object from) given source n below behind =
      let one = object_below images at given below in
      let two = object_below images from source behind in
      subst (λ g. EffectStands images held other zeroes (copied may_overlap (Object at) (Object from) (suc n) held) (copied may_overlap g source (suc n) other)) (sym one.1)
      (subst (λ s. EffectStands images held other zeroes (copied may_overlap (Object at) (Object from) (suc n) held) (copied may_overlap (Object one.0) s (suc n) other)) (sym two.1)
      (copied_stands zeroes may_overlap at from one.0 two.0 n one.2 two.2 (after_copy held.blocks from at (suc n)) refl))
  some_copied zeroes may_overlap (Object to) Null given source n below behind = beside_stands zeroes (live_block held.blocks to.block) _
  some_copied zeroes may_overlap Null (Object from) given source n below behind = beside_stands zeroes (live_block held.blocks from.block) _
  some_copied zeroes may_overlap to from given source n below behind = tt

  copying_stands : (zeroes may_overlap : Bool) (to from given source : Value) (count : ℕ) → ValueBelow images to given → ValueBelow images from source → EffectStands images held other zeroes (copying may_overlap to from count held) (copying may_overlap given source count other)
  copying_stands zeroes may_overlap to from given source zero below behind = given_as_was to given below
  copying_stands zeroes may_overlap to from given source (suc n) below behind = some_copied zeroes may_overlap to from given source n below behind

  -- ---- all of them

  -- what an effect is with arguments that are known to be these
  with_args : (does : Known) (in_c : Effect) (args given : List Value) → given ≡ args → EffectStands images held other false in_c (effect does args other) → EffectStands images held other false in_c (effect does given other)
  with_args does in_c args given same one = subst (λ (list : List Value). EffectStands images held other false in_c (effect does list other)) (sym same) one

  pub effect_stands : (does : Known) (args given : List Value) → ValuesBelow images args given → EffectStands images held other false (effect does args held) (effect does given other)
  effect_stands (allocates is_zero) (Whole (pos size) ∷ []) given below =
      let one = one_below images (Whole (pos size)) given below in
      with_args (allocates is_zero) _ (Whole (pos size) ∷ []) given (one.1 ∙ ap (λ (v : Value). v ∷ []) (number_below images (pos size) one.0 one.2)) (allocation_stands false is_zero size)
  effect_stands (allocates is_zero) (Whole (pos count) ∷ Whole (pos size) ∷ []) given below =
      let two = two_below images (Whole (pos count)) (Whole (pos size)) given below in
      with_args (allocates is_zero) _ (Whole (pos count) ∷ Whole (pos size) ∷ []) given (two.2 ∙ ap (λ (v : Value). v ∷ two.1 ∷ []) (number_below images (pos count) two.0 two.3) ∙ ap (λ (v : Value). Whole (pos count) ∷ v ∷ []) (number_below images (pos size) two.1 two.4)) (allocation_stands false is_zero (count * size))
  effect_stands frees (value ∷ []) given below =
      let one = one_below images value given below in
      with_args frees _ (one.0 ∷ []) given one.1 (freeing_stands false value one.0 one.2)
  effect_stands (copies may_overlap) (to ∷ from ∷ Whole (pos count) ∷ []) given below =
      let three = three_below images to from (Whole (pos count)) given below in
      with_args (copies may_overlap) _ (three.0 ∷ three.1 ∷ Whole (pos count) ∷ []) given (three.3 ∙ ap (λ (v : Value). three.0 ∷ three.1 ∷ v ∷ []) (number_below images (pos count) three.2 three.6)) (copying_stands false may_overlap to from three.0 three.1 count three.4 three.5)
  effect_stands fills (to ∷ Whole byte ∷ Whole (pos count) ∷ []) given below =
      let three = three_below images to (Whole byte) (Whole (pos count)) given below in
      with_args fills _ (three.0 ∷ Whole byte ∷ Whole (pos count) ∷ []) given (three.3 ∙ ap (λ (v : Value). three.0 ∷ v ∷ three.2 ∷ []) (number_below images byte three.1 three.5) ∙ ap (λ (v : Value). three.0 ∷ Whole byte ∷ v ∷ []) (number_below images (pos count) three.2 three.6)) (filling_stands false to three.0 byte count three.4)
  effect_stands exits (Whole status ∷ []) given below =
      let one = one_below images (Whole status) given below in
      with_args exits (ends_program status) (Whole status ∷ []) given (one.1 ∙ ap (λ (v : Value). v ∷ []) (number_below images status one.0 one.2)) refl
  effect_stands aborts [] given below = with_args aborts (ends_program abort_status) [] given (none_below images given below) refl
  effect_stands does args given below = tt

  -- ---- `calloc(1, n)` for `malloc(n)`

  pub zeroed_stands : (size given : Value) → ValueBelow images size given → EffectStands images held other true (effect (allocates false) (size ∷ []) held) (effect (allocates true) (Whole (pos 1) ∷ given ∷ []) other)
  zeroed_stands (Whole (pos size)) given below =
      let once : size ≡ 1 * size = omega arith in
      subst (λ g. EffectStands images held other true (allocation false size held) (effect (allocates true) (Whole (pos 1) ∷ g ∷ []) other)) (sym (number_below images (pos size) given below))
      (subst (λ n. EffectStands images held other true (allocation false size held) (allocation true n other)) once (allocation_stands true false size))
  zeroed_stands size given below = tt
