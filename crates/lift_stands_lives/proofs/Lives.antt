-- Memories that stand for each other after an object has begun or died.
use Rattle.std.proofs.Common.{◌≡◌, ◌≢◌, ℕ, ◌<◌, ◌++◌, ◌∷◌, [], length, All, Option, Some, None, slice_set, sym, ap, ◌∙◌, subst, ◌⊎◌, ⊎_elim, inl, inr, length-append, arith}
use Rattle.std.proofs.lemmas.List.{length-set}
use Rattle.mem_bytes.specs.Laws.{IsHeld}
use Rattle.mem_bytes.specs.Memory.{Block, Blocks, live_block}
use Rattle.mem_bytes.proofs.Held.{live_of_kill}
use Rattle.mem_bytes.proofs.Slots.{live-set_other, live_within}
use Rattle.lift_stands.specs.Stands.{Images, image_of, with_image, BlockBelow, HasImage, Lives, StandsFor, IsVacant}
use Rattle.lift_stands.proofs.Images.{extends_one, next_image}
use Rattle.lift_stands_lives.specs.Rooms.{IsVacantBlock, KeepsImages, LivesFewer, IsHeldSlot}
use Rattle.lift_stands_lives.proofs.Pushed.{live_behind, live_last, live_cases, entry_cases, push_held, slot_held}
use Rattle.lift_stands_lives.proofs.Rooms.{block_stays}
use Rattle.lift_stands_lives.proofs.Vacant.{vacant_new, vacant_left}

-- ---- the crate alone

pub aside : (images : Images) (memory others next : Blocks) → StandsFor images memory others → KeepsImages images memory others next → StandsFor images memory next
aside images memory others next stands keeps = record {
  mapped = stands.mapped;
  blocks = λ number block live.
      let has = stands.blocks number block live in
      record {
        image = has.image;
        entry = has.entry;
        other = has.other;
        live = keeps.same number has.image (block, live) has.entry ∙ has.live;
        below = has.below;
      };
  apart = stands.apart;
  made = λ number image e. omega (arith, stands.made number image e, keeps.grows);
  functions = stands.functions;
  held = stands.held;
  others_held = keeps.held;
}

pub slot_keeps : (images : Images) (memory others : Blocks) (image : ℕ) (slot : Option Block) → StandsFor images memory others → IsVacant images memory image → IsHeldSlot slot → KeepsImages images memory others (slice_set others image slot)
slot_keeps images memory others image slot stands free held = record {
  same = λ number one living e.
      let away : image ≢ one = λ (same : image ≡ one). free number living (e ∙ ap Some (sym same)) in
      live-set_other others image one slot away;
  grows = omega (arith, length-set others image slot);
  held = slot_held others image slot stands.others_held held;
}

pub slot : (images : Images) (memory others : Blocks) (image : ℕ) (slot : Option Block) → StandsFor images memory others → IsVacant images memory image → IsHeldSlot slot → StandsFor images memory (slice_set others image slot)
slot images memory others image one stands free held =
    aside images memory others (slice_set others image one) stands (slot_keeps images memory others image one stands free held)

pub beside_keeps : (images : Images) (memory others : Blocks) (other : Block) → StandsFor images memory others → All IsHeld other.cells → KeepsImages images memory others (others ++ Some other ∷ [])
beside_keeps images memory others other stands held = record {
  same = λ number image living e. live_behind others (Some other) image (stands.made number image e);
  grows = omega (arith, length-append others (Some other ∷ []));
  held = push_held others other stands.others_held held;
}

pub beside : (images : Images) (memory others : Blocks) (other : Block) → StandsFor images memory others → All IsHeld other.cells → StandsFor images memory (others ++ Some other ∷ [])
beside images memory others other stands held =
    aside images memory others (others ++ Some other ∷ []) stands (beside_keeps images memory others other stands held)

-- ---- an object of C begins

module _ (images : Images) (memory others : Blocks) (image : ℕ) (block other : Block) (stands : StandsFor images memory others) (vacant : IsVacantBlock images memory others image other) where
  new_images : Images
  new_images = with_image image images

  -- a live block with an image is one of before, or the new one
  abbrev Was : ℕ → ℕ → Type 0
  Was number one = (Lives memory number × (image_of images number ≡ Some one)) ⊎ ((number ≡ length memory) × (image ≡ one))

  was : (number one : ℕ) → Lives (memory ++ Some block ∷ []) number → image_of (with_image image images) number ≡ Some one → Was number one
  was number one living e =
      ⊎_elim
      (λ (old : (number < length images.blocks) × (image_of images number ≡ Some one)).
      ⊎_elim
      (λ (lived : (number < length memory) × (live_block memory number ≡ Some living.0)). inl ((living.0, lived.1), old.1))
      (λ (last : (number ≡ length memory) × (block ≡ living.0)). absurd (omega (arith, old.0, last.0, stands.mapped)))
      (live_cases memory block living.0 number living.1))
      (λ (last : (number ≡ length images.blocks) × (image ≡ one)). inr (last.0 ∙ stands.mapped, last.1))
      (entry_cases images.blocks image number one e)

  begun_apart : (first second one : ℕ) → Was first one → Was second one → first ≡ second
  begun_apart first second one (inl a) (inl b) = stands.apart first second one a.0 b.0 a.1 b.1
  begun_apart first second one (inl a) (inr b) = absurd (vacant.vacant first a.0 (a.1 ∙ ap Some (sym b.1)))
  begun_apart first second one (inr a) (inl b) = absurd (vacant.vacant second b.0 (b.1 ∙ ap Some (sym a.1)))
  begun_apart first second one (inr a) (inr b) = a.0 ∙ sym b.0

  begun_image : BlockBelow images block other → (number : ℕ) (held : Block) → live_block (memory ++ Some block ∷ []) number ≡ Some held → HasImage (with_image image images) others number held
  begun_image below number held live =
      ⊎_elim
      (λ (old : (number < length memory) × (live_block memory number ≡ Some held)).
      let has = stands.blocks number held old.1 in
      record {
        image = has.image;
        entry = (extends_one images image).blocks number has.image has.entry;
        other = has.other;
        live = has.live;
        below = block_stays images (with_image image images) held has.other (extends_one images image) has.below;
      })
      (λ (last : (number ≡ length memory) × (block ≡ held)).
      let entry : image_of (with_image image images) number ≡ Some image = subst (λ n. image_of (with_image image images) n ≡ Some image) (stands.mapped ∙ sym last.0) (next_image images image) in
      record {
        image = image;
        entry = entry;
        other = other;
        live = vacant.live;
        below = subst (λ b. BlockBelow (with_image image images) b other) last.1 (block_stays images (with_image image images) block other (extends_one images image) below);
      })
      (live_cases memory block held number live)

  begun_made : (number one : ℕ) → image_of (with_image image images) number ≡ Some one → one < length others
  begun_made number one e =
      ⊎_elim
      (λ (old : (number < length images.blocks) × (image_of images number ≡ Some one)). stands.made number one old.1)
      (λ (last : (number ≡ length images.blocks) × (image ≡ one)). subst (λ n. n < length others) last.1 (live_within others image other vacant.live))
      (entry_cases images.blocks image number one e)

  pub onto : BlockBelow images block other → All IsHeld block.cells → StandsFor (with_image image images) (memory ++ Some block ∷ []) others
  onto below held = record {
    mapped = omega (arith, length-append images.blocks (image ∷ []), length-append memory (Some block ∷ []), stands.mapped);
    blocks = begun_image below;
    apart = λ first second one living lives e f. begun_apart first second one (was first one living e) (was second one lives f);
    made = begun_made;
    functions = stands.functions;
    held = push_held memory block stands.held held;
    others_held = stands.others_held;
  }

pub both : (images : Images) (memory others : Blocks) (block other : Block) → StandsFor images memory others → BlockBelow images block other → All IsHeld block.cells → All IsHeld other.cells → StandsFor (with_image (length others) images) (memory ++ Some block ∷ []) (others ++ Some other ∷ [])
both images memory others block other stands below held others_held =
    onto images memory (others ++ Some other ∷ []) (length others) block other (beside images memory others other stands others_held)
    (record { vacant = vacant_new images memory others (length others) stands (omega arith); live = live_last others (Some other) }) below held

-- ---- an object of C dies

pub fewer : (images : Images) (memory after others : Blocks) → StandsFor images memory others → LivesFewer memory after → StandsFor images after others
fewer images memory after others stands less = record {
  mapped = stands.mapped ∙ sym less.many;
  blocks = λ number block live. stands.blocks number block (less.same number block live);
  apart = λ first second image one two e f. stands.apart first second image (one.0, less.same first one.0 one.1) (two.0, less.same second two.0 two.1) e f;
  made = stands.made;
  functions = stands.functions;
  held = λ number block live. stands.held number block (less.same number block live);
  others_held = stands.others_held;
}

pub dies : (images : Images) (memory others : Blocks) (number : ℕ) → StandsFor images memory others → StandsFor images (slice_set memory number None) others
dies images memory others number stands =
    fewer images memory (slice_set memory number None) others stands
    (record { many = length-set memory number None; same = λ one block live. live_of_kill memory one number block live })

pub both_die : (images : Images) (memory others : Blocks) (number image : ℕ) → StandsFor images memory others → Lives memory number → image_of images number ≡ Some image → StandsFor images (slice_set memory number None) (slice_set others image None)
both_die images memory others number image stands living entry =
    slot images (slice_set memory number None) others image None (dies images memory others number stands)
    (vacant_left images memory others number image stands living entry) (λ block e. cc)
