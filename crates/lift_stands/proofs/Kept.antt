-- What two pieces leave, one after the other.
use Rattle.std.proofs.Common.{◌≡◌, ℕ, ◌<◌, ◌≤◌, Bool, true, false, length, Option, Some, None, refl, ap, ◌∙◌, subst, ⊎_elim, arith}
use Rattle.std.proofs.lemmas.Bool.{cases_lt}
use Rattle.std.proofs.lemmas.Option.{slice_get-get_or, slice_get_within}
use Rattle.cr_world.specs.Held.{Held, is_listed}
use Rattle.mem_bytes.proofs.Slots.{live_within}
use Rattle.mem_bytes.specs.Memory.{Block, live_block}
use Rattle.lift_stands.specs.Keeps.{KeepsOthers, LivesOn}
use Rattle.lift_stands.specs.Stands.{Images, image_of, Lives, IsVacant}
use Rattle.lift_stands.proofs.Images.{extends_same, extends_more}

-- the image of a block that was made
imaged : (images : Images) (number : ℕ) → number < length images.blocks → (image : ℕ) × (image_of images number ≡ Some image)
imaged images number p = (_, slice_get-get_or images.blocks number 0 p)

pub nothing_keeps : (base : ℕ) (own : ℕ → Bool) (images : Images) (held other : Held) → length images.blocks ≡ length held.blocks → KeepsOthers base own images images held held other other
nothing_keeps base own images held other mapped = record {
  extends = extends_same images;
  grows = omega arith;
  others_grow = omega arith;
  past = λ number image p e. absurd (omega (arith, mapped, slice_get_within images.blocks number image e));
  dead = λ number p e. e;
  heap = λ number p e. e;
  other_heap = λ number p e. e;
  vacant = λ number p free apart. refl;
  rooms = λ number block p live unlisted. record { block = block; live = live; size = refl; align = refl };
}

module _ (base : ℕ) (own : ℕ → Bool) (images later last : Images) (held after end other beyond past : Held) (mapped : length images.blocks ≡ length held.blocks) (made : length later.blocks ≡ length after.blocks) (first : KeepsOthers base own images later held after other beyond) (next : KeepsOthers base own later last after end beyond past) where
  both_past : (number image : ℕ) → length held.blocks ≤ number → image_of last number ≡ Some image → base ≤ image
  both_past number image p e =
      ⊎_elim
      (λ (old : number < length after.blocks).
      let found = imaged later number (omega (arith, old, made)) in
      let kept = next.extends.blocks number found.0 found.1 in
      let same : found.0 ≡ image = cc in
      subst (λ n. base ≤ n) same (first.past number found.0 p found.1))
      (λ (new : length after.blocks ≤ number). next.past number image new e)
      (cases_lt number (length after.blocks))

  both_dead : (number : ℕ) → number < length held.blocks → live_block held.blocks number ≡ None → live_block end.blocks number ≡ None
  both_dead number p e = next.dead number (omega (arith, p, first.grows)) (first.dead number p e)

  both_heap : (number : ℕ) → number < length held.blocks → is_listed number end.heap ≡ true → is_listed number held.heap ≡ true
  both_heap number p e = first.heap number p (next.heap number (omega (arith, p, first.grows)) e)

  both_other_heap : (number : ℕ) → number < length other.blocks → is_listed number past.heap ≡ true → is_listed number other.heap ≡ true
  both_other_heap number p e = first.other_heap number p (next.other_heap number (omega (arith, p, first.others_grow)) e)

  -- what lives after the first piece and was made before it lived before it
  lived : (number : ℕ) (slot : Option Block) → number < length held.blocks → live_block held.blocks number ≡ slot → Lives after.blocks number → Lives held.blocks number
  lived number (Some block) p e living = (block, e)
  lived number None p e living =
      let gone : live_block after.blocks number ≡ None = first.dead number p e in
      let live : live_block after.blocks number ≡ Some living.0 = living.1 in
      absurd cc

  vacant_still : (number : ℕ) → number < base → IsVacant images held.blocks number → IsVacant later after.blocks number
  vacant_still number p free block living e =
      ⊎_elim
      (λ (old : block < length held.blocks).
      let found = imaged images block (omega (arith, old, mapped)) in
      let kept = first.extends.blocks block found.0 found.1 in
      let same : found.0 ≡ number = cc in
      free block (lived block (live_block held.blocks block) old refl living) (found.1 ∙ ap Some same))
      (λ (new : length held.blocks ≤ block). absurd (omega (arith, p, first.past block number new e)))
      (cases_lt block (length held.blocks))

  both_vacant : (number : ℕ) → number < base → IsVacant images held.blocks number → own number ≡ false → live_block past.blocks number ≡ live_block other.blocks number
  both_vacant number p free apart = next.vacant number p (vacant_still number p free) apart ∙ first.vacant number p free apart

  unlisted : (number : ℕ) (block : Block) (listed : Bool) → live_block other.blocks number ≡ Some block → is_listed number other.heap ≡ false → is_listed number beyond.heap ≡ listed → is_listed number beyond.heap ≡ false
  unlisted number block false live e is = is
  unlisted number block true live e is =
      let was : is_listed number other.heap ≡ true = first.other_heap number (live_within other.blocks number block live) is in
      absurd cc

  both_rooms : (number : ℕ) (block : Block) → number < base → live_block other.blocks number ≡ Some block → is_listed number other.heap ≡ false → LivesOn block past number
  both_rooms number block p live e =
      let on = first.rooms number block p live e in
      let still = next.rooms number on.block p on.live (unlisted number block (is_listed number beyond.heap) live e refl) in
      record { block = still.block; live = still.live; size = still.size ∙ on.size; align = still.align ∙ on.align }

  pub both_keep : KeepsOthers base own images last held end other past
  both_keep = record {
    extends = extends_more images later last first.extends next.extends;
    grows = omega (arith, first.grows, next.grows);
    others_grow = omega (arith, first.others_grow, next.others_grow);
    past = both_past;
    dead = both_dead;
    heap = both_heap;
    other_heap = both_other_heap;
    vacant = both_vacant;
    rooms = both_rooms;
  }

not_own : (own more : Bool) → (own ≡ true → more ≡ true) → more ≡ false → own ≡ false
not_own false more wider e = refl
not_own true more wider e = let f : more ≡ true = wider refl in cc

pub fewer_keep : (base lower : ℕ) (own more : ℕ → Bool) (images later : Images) (held after other beyond : Held) → lower ≤ base → ((number : ℕ) → own number ≡ true → more number ≡ true) → KeepsOthers base own images later held after other beyond → KeepsOthers lower more images later held after other beyond
fewer_keep base lower own more images later held after other beyond p wider kept = record {
  extends = kept.extends;
  grows = kept.grows;
  others_grow = kept.others_grow;
  past = λ number image q e. omega (arith, p, kept.past number image q e);
  dead = kept.dead;
  heap = kept.heap;
  other_heap = kept.other_heap;
  vacant = λ number q free apart. kept.vacant number (omega (arith, p, q)) free (not_own (own number) (more number) (wider number) apart);
  rooms = λ number block q. kept.rooms number block (omega (arith, p, q));
}
