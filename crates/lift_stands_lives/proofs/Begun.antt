-- Worlds after an object has begun.
use Rattle.std.proofs.Common.{◌≡◌, ℕ, ◌<◌, ◌≤◌, Bool, false, length, Some, Ok, Result, refl, ap, subst}
use Rattle.cr_world.specs.Held.{Held, fresh_block, next_place, with_block}
use Rattle.cr_world.specs.World.{World, open_ended, Stop, Got, with_held, with_memory, limit_of, begun_at, object_begun}
use Rattle.mem_bytes.specs.declared.value.Ptr.{Ptr}
use Rattle.mem_bytes.specs.Counted.{after_alloc}
use Rattle.mem_bytes.specs.Memory.{Block}
use Rattle.lift_stands.specs.Stands.{Images, image_of, with_image, PlaceBelow}
use Rattle.lift_stands.specs.Worlds.{HeldStands, WorldsStand}
use Rattle.lift_stands.proofs.Images.{next_image}
use Rattle.lift_stands_lives.specs.LawsHeld.{BegunBelow}
use Rattle.lift_stands_lives.specs.Rooms.{HasRoom, IsZeroEnough, IsVacantBlock}
use Rattle.lift_stands_lives.proofs.HeldLives.{held_beside, held_onto, held_both}
use Rattle.lift_stands_lives.proofs.Rooms.{room_below, fresh_below, fresh_held}

pub worlds_held : (images later : Images) (world other : World) (held beyond : Held) → WorldsStand images world other → HeldStands later held beyond → WorldsStand later (with_held held world) (with_held beyond other)
worlds_held images later world other held beyond stands both = record {
  held = both;
  made = stands.made;
  answers = stands.answers;
  terms = stands.terms;
  other_terms = stands.other_terms;
}

-- the world after an object has begun
abbrev begun : Bool → ℕ → ℕ → World → World
begun is_zero size align world = with_memory (with_block (fresh_block is_zero size align) world.held.blocks) world

begins : (F : Type 0) (is_zero : Bool) (size align : ℕ) (world : World) → world.terms ≡ open_ended → object_begun {F = F} is_zero size align world ≡ Ok (record { value = next_place world.held.blocks; world = begun is_zero size align world })
begins F is_zero size align world terms_are =
    ap (λ terms. begun_at {F = F} is_zero size align world (after_alloc (limit_of terms) world.held.blocks size align)) terms_are

begun_is : (F : Type 0) (is_zero : Bool) (size align : ℕ) (world : World) (got : Got Ptr) → world.terms ≡ open_ended → object_begun {F = F} is_zero size align world ≡ Ok got → record { value = next_place world.held.blocks; world = begun is_zero size align world } ≡ got
begun_is F is_zero size align world got terms_are e = one_result F (object_begun {F = F} is_zero size align world) _ got (begins F is_zero size align world terms_are) e
  where
    one_result : (F : Type 0) (result : Result (Got Ptr) (Stop F)) (one other : Got Ptr) → result ≡ Ok one → result ≡ Ok other → one ≡ other
    one_result F result one other e f = cc

pub place_of_next : (images : Images) (world : World) (image : ℕ) → length images.blocks ≡ length world.held.blocks → PlaceBelow (with_image image images) (next_place world.held.blocks) (record { block = image; offset = 0 })
place_of_next images world image mapped = record {
  block = subst (λ n. image_of (with_image image images) n ≡ Some image) mapped (next_image images image);
  offset = refl;
}

pub world_both : (F G : Type 0) (images : Images) (world other : World) (is_zero other_zero : Bool) (size align more : ℕ) (got : Got Ptr) → WorldsStand images world other → align ≤ more → 0 < more → IsZeroEnough images.in_bytes is_zero other_zero → object_begun {F = F} is_zero size align world ≡ Ok got →
    BegunBelow G (with_image (length other.held.blocks) images) got.world (object_begun {F = G} other_zero size more other) (next_place other.held.blocks) × PlaceBelow (with_image (length other.held.blocks) images) got.value (next_place other.held.blocks)
world_both F G images world other is_zero other_zero size align more got stands p q enough e =
    let same = begun_is F is_zero size align world got stands.terms e in
    let later = with_image (length other.held.blocks) images in
    let both = held_both images world.held other.held (fresh_block is_zero size align) (fresh_block other_zero size more) stands.held (fresh_below images size align more is_zero other_zero p q enough) (fresh_held is_zero size align) (fresh_held other_zero size more) in
    let worlds = worlds_held images later world other _ _ stands both in
    subst (λ g. BegunBelow G later g.world (object_begun {F = G} other_zero size more other) (next_place other.held.blocks) × PlaceBelow later g.value (next_place other.held.blocks)) same (
      record {
        got = record { value = next_place other.held.blocks; world = begun other_zero size more other };
        done = begins G other_zero size more other stands.other_terms;
        value = refl;
        stands = worlds;
      },
      place_of_next images world (length other.held.blocks) stands.held.memories.mapped,
    )

pub world_beside : (G : Type 0) (images : Images) (world other : World) (is_zero : Bool) (size align : ℕ) → WorldsStand images world other → BegunBelow G images world (object_begun {F = G} is_zero size align other) (next_place other.held.blocks)
world_beside G images world other is_zero size align stands = record {
  got = record { value = next_place other.held.blocks; world = begun is_zero size align other };
  done = begins G is_zero size align other stands.other_terms;
  value = refl;
  stands = worlds_held images images world other world.held _ stands (held_beside images world.held other.held (fresh_block is_zero size align) stands.held (fresh_held is_zero size align));
}

pub world_onto : (F : Type 0) (images : Images) (world other : World) (image size align : ℕ) (room : Block) (got : Got Ptr) → WorldsStand images world other → IsVacantBlock images world.held.blocks other.held.blocks image room → HasRoom images.in_bytes size align room → object_begun {F = F} false size align world ≡ Ok got →
    WorldsStand (with_image image images) got.world other × PlaceBelow (with_image image images) got.value (record { block = image; offset = 0 })
world_onto F images world other image size align room got stands vacant has e =
    let same = begun_is F false size align world got stands.terms e in
    let one = held_onto images world.held other.held image (fresh_block false size align) room stands.held vacant (room_below images size align room has) (fresh_held false size align) in
    subst (λ g. WorldsStand (with_image image images) g.world other × PlaceBelow (with_image image images) g.value (record { block = image; offset = 0 })) same
    (worlds_held images (with_image image images) world other _ other.held stands one, place_of_next images world image stands.held.memories.mapped)
