-- Where a body returns, its locals end.
use Rattle.std.proofs.Common.{◌≡◌, ◌≢◌, ℕ, suc, ◌<◌, ◌≤◌, List, [], ◌∷◌, length, Option, Some, None, slice_set, refl, ap, ◌∙◌, subst, arith}
use Rattle.std.proofs.lemmas.List.{length-set}
use Rattle.std.specs.List.{Contains}
use Rattle.cr_world.specs.Held.{Held, with_blocks}
use Rattle.cr_world.specs.World.{World, blocks_of, with_memory}
use Rattle.cx_mean.specs.Operands.{CValue, scalar, cells, names, designates, designates_bits, missing}
use Rattle.lift_stands.specs.Stands.{Images, IsVacant, PlaceHolds}
use Rattle.lift_stands.specs.Worlds.{HeldStands, WorldsStand}
use Rattle.lift_stands.proofs.Kept.{both_keep}
use Rattle.lift_stands_lives.proofs.Begun.{worlds_held}
use Rattle.lift_stands_lives.proofs.HeldLives.{held_slot}
use Rattle.lift_stands_lives.proofs.Steps.{newer_keeps}
use Rattle.lift_stands_lives.proofs.Copied.{one_place}
use Rattle.lift_calls.specs.Bodies.{Returned}
use Rattle.lift_calls.specs.Calls.{is_place, GivesBack, CallMeets}
use Rattle.mem_bytes.specs.Access.{record_part_of, live_read}
use Rattle.mem_bytes.specs.Memory.{Blocks, live_block}
use Rattle.mem_bytes.specs.declared.cell.Cell.{Cell}
use Rattle.mem_bytes.specs.declared.value.Ptr.{Ptr}
use Rattle.mem_bytes.specs.declared.value.Value.TheVariants.{Object}
use Rattle.mem_bytes.proofs.Slots.{live-set_other}
use Rattle.rs_mean.specs.Calls.{without_blocks}
use Rattle.rs_mean.specs.Lookups.{LocalBlock}
use Rattle.rs_mean.specs.Run.{Frame, Flow, given_by}
use Rattle.rs_mean.specs.Values.{Typed}
use Rattle.rs_text.specs.Tree.{Ty}

-- the first of a list is in it, and so are the others
first_in : {X : Type 0} (x : X) (xs : List X) → Contains (x ∷ xs) x
first_in x xs = (0, omega arith, refl)

others_in : {X : Type 0} (x y : X) (xs : List X) → Contains xs y → Contains (x ∷ xs) y
others_in x y xs among = (suc among.0, omega (arith, among.1), among.2)

-- ---- memories

many_left : (locals : List LocalBlock) (memory : Blocks) → length (without_blocks locals memory) ≡ length memory
many_left [] memory = refl
many_left (one ∷ others) memory = many_left others (slice_set memory one.block None) ∙ length-set memory one.block None

older_left : (base : ℕ) (locals : List LocalBlock) (memory : Blocks) → ((local : LocalBlock) → Contains locals local → base ≤ local.block) → (number : ℕ) → number < base → live_block (without_blocks locals memory) number ≡ live_block memory number
older_left base [] memory since number p = refl
older_left base (one ∷ others) memory since number p =
    let away : one.block ≢ number = λ same. omega (arith, p, same, since one (first_in one others)) in
    older_left base others (slice_set memory one.block None) (λ local among. since local (others_in one local others among)) number p
    ∙ live-set_other memory one.block number None away

ended_stand : (images : Images) (held other : Held) (locals : List LocalBlock) → HeldStands images held other → ((local : LocalBlock) → Contains locals local → IsVacant images held.blocks local.block) → HeldStands images held (with_blocks (without_blocks locals other.blocks) other)
ended_stand images held other [] stands vacant = stands
ended_stand images held other (one ∷ others) stands vacant =
    let next = held_slot images held other one.block None stands (vacant one (first_in one others)) (λ block e. cc) in
    ended_stand images held (with_blocks (slice_set other.blocks one.block None) other) others next (λ local among. vacant local (others_in one local others among))

-- ---- what was given stays

place_holds : (images : Images) (memory after : Blocks) (align : ℕ) (at : Ptr) (list : List Cell) → live_block after at.block ≡ live_block memory at.block → PlaceHolds images memory align (Object at) list → PlaceHolds images after align (Object at) list
place_holds images memory after align at list same holds =
    let is : at ≡ holds.at = one_place at holds.at holds.value_is in
    let there : live_block after holds.at.block ≡ live_block memory holds.at.block = subst (λ p. live_block after p.block ≡ live_block memory p.block) is same in
    record {
      at = holds.at;
      value_is = holds.value_is;
      cells = holds.cells;
      found = ap (λ slot. live_read slot (λ block. record_part_of block holds.at.offset (length list) align)) there ∙ holds.found;
      held = holds.held;
      below = holds.below;
    }

gives_still : (images : Images) (memory after : Blocks) (align : ℕ) (place : Option Ptr) (value : CValue) (given : Option Typed) → ((at : Ptr) → place ≡ Some at → live_block after at.block ≡ live_block memory at.block) → GivesBack images memory align place value given → GivesBack images after align place value given
gives_still images memory after align place missing given same gives = tt
gives_still images memory after align None (scalar value) (Some given) same gives = gives
gives_still images memory after align None (scalar value) None same gives = absurd gives
gives_still images memory after align (Some at) (scalar value) given same gives = absurd gives
gives_still images memory after align None (cells list from) given same gives = absurd gives
gives_still images memory after align (Some at) (cells list from) given same gives = place_holds images memory after align at list (same at refl) gives
gives_still images memory after align place (names number) given same gives = absurd gives
gives_still images memory after align place (designates value) given same gives = absurd gives
gives_still images memory after align place (designates_bits at bit width) given same gives = absurd gives

pub returned_meets : (images : Images) (place : Option Ptr) (align : ℕ) (result : Option Ty) (c_before before : World) (frame : Frame) (value : CValue) (c_world : World) (flow : Flow) (world : World) → WorldsStand images c_before before → ((at : Ptr) → place ≡ Some at → at.block < length (blocks_of before)) → ((local : LocalBlock) → Contains frame.locals local → length (blocks_of before) ≤ local.block) → Returned images place align result c_before before frame value c_world flow world → CallMeets images place align result c_before before value c_world (given_by result flow) (with_memory (without_blocks frame.locals (blocks_of world)) world)
returned_meets images place align result c_before before frame value c_world flow world started older since returned =
    let base = length (blocks_of before) in
    let after = without_blocks frame.locals (blocks_of world) in
    let later = returned.later in
    let same = older_left base frame.locals (blocks_of world) since in
    let held = ended_stand later c_world.held world.held frame.locals returned.worlds.held returned.vacant in
    let mapped = returned.worlds.held.memories.mapped in
    let newer = newer_keeps base (is_place place) later c_world.held world.held after mapped (omega (arith, many_left frame.locals (blocks_of world))) same in
    record {
      later = later;
      stays = both_keep base (is_place place) images later later c_before.held c_world.held c_world.held before.held world.held (with_blocks after world.held) started.held.memories.mapped mapped returned.stays newer;
      worlds = worlds_held later later c_world world c_world.held (with_blocks after world.held) returned.worlds held;
      typed = returned.typed;
      of_type = returned.of_type;
      gives = gives_still later (blocks_of world) after align place value (given_by result flow) (λ at e. same at.block (older at e)) returned.gives;
    }
