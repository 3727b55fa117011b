-- Static objects begin in their order, each in the block with its number.
use Rattle.std.proofs.Common.{◌≡◌, ℕ, zero, suc, ◌+◌, ◌<◌, ℤ, true, false, eqb, List, [], ◌∷◌, ◌++◌, length, map, Option, Some, None, Result, Ok, refl, ap, ap₂, ◌∙◌, arith, append_assoc, length-append, rules}
use Rattle.std.proofs.lemmas.Bool.{eq-eqb}
use Rattle.std.proofs.lemmas.List.{append-nil}
use Rattle.std.specs.Prelude.{IsSome}
use Rattle.std.specs.List.{IsDistinct, AllByRecursion, slice_get}
use Rattle.cr_base.specs.declared.layout.Laid.{Laid}
use Rattle.cr_runs.specs.Runs.{out}
use Rattle.cx_core.specs.Trees.{CObject}
use Rattle.cr_world.specs.Held.{next_place, with_block}
use Rattle.cr_world.specs.World.{Got, object_begun}
use Rattle.cx_mean.specs.Laws.{in_blocks_from, zeroed_as, zeroed, zeroed_blocks, world_of, AreComplete, StaticsBegin}
use Rattle.cx_mean.specs.Leftmost.{or_stop, c_begins}
use Rattle.cx_mean.specs.Operands.{CStop, Frame, slot_of, needed}
use Rattle.cx_mean.specs.Settings.{CSetting, extent_in}
use Rattle.cx_mean.specs.State.{slot, static_begins, as_stop, no_place}
use Rattle.mem_bytes.specs.Access.{and_then}
use Rattle.mem_bytes.specs.declared.value.Ptr.{Ptr}
use Rattle.mem_bytes.specs.Memory.{Blocks, live_block}

-- ---- the steps

begins_as : (found : Option Laid) (blocks : Blocks) (answers : List ℤ) → IsSome found →
    and_then (as_stop no_place (needed found)) (λ laid. object_begun true laid.size laid.align (world_of blocks answers))
    ≡ Ok (record { value = next_place blocks; world = world_of (with_block (zeroed_as found) blocks) answers })
begins_as None blocks answers some = absurd (search rules)
begins_as (Some laid) blocks answers some = refl

begins_one : (setting : CSetting) (one : CObject) (blocks : Blocks) (answers : List ℤ) → IsSome (extent_in setting one.type) →
    static_begins setting one (world_of blocks answers)
    ≡ Ok (record { value = next_place blocks; world = world_of (with_block (zeroed setting one) blocks) answers })
begins_one setting one blocks answers some = begins_as (extent_in setting one.type) blocks answers some

-- a step of the beginnings
begins_step : (setting : CSetting) (fuel : ℕ) (one : CObject) (others : List CObject) (statics : Frame) (blocks : Blocks) (answers : List ℤ) (steps : ℕ) → IsSome (extent_in setting one.type) →
    c_begins setting fuel (one ∷ others) statics (world_of blocks answers) (suc steps)
    ≡ c_begins setting fuel others (statics ++ record { object = one.object; block = length blocks } ∷ []) (world_of (blocks ++ Some (zeroed setting one) ∷ []) answers) steps
begins_step setting fuel one others statics blocks answers steps some =
    ap (λ (outcome : Result (Got Ptr) CStop). or_stop outcome (λ got after more. c_begins setting fuel others (statics ++ slot one.object got.value ∷ []) got.world more) (world_of blocks answers) steps)
    (begins_one setting one blocks answers some)

begins_more : (setting : CSetting) (fuel : ℕ) (objects : List CObject) (statics : Frame) (blocks : Blocks) (answers : List ℤ) (left : ℕ) → AreComplete setting objects →
    c_begins setting fuel objects statics (world_of blocks answers) (length objects + left)
    ≡ c_begins setting fuel [] (statics ++ in_blocks_from (length blocks) objects) (world_of (blocks ++ zeroed_blocks setting objects) answers) left
begins_more setting fuel [] statics blocks answers left complete =
    let steps : length {A = CObject} [] + left ≡ left = omega arith in
    rw (steps, append-nil statics, append-nil blocks)
begins_more setting fuel (one ∷ more) statics blocks answers left complete =
    let steps : length (one ∷ more) + left ≡ suc (length more + left) = omega arith in
    let next : length (blocks ++ Some (zeroed setting one) ∷ []) ≡ suc (length blocks) = simp length-append (omega arith) in
    ap (λ (n : ℕ). c_begins setting fuel (one ∷ more) statics (world_of blocks answers) n) steps
    ∙ (begins_step setting fuel one more statics blocks answers (length more + left) complete.0
    ∙ (begins_more setting fuel more (statics ++ record { object = one.object; block = length blocks } ∷ []) (blocks ++ Some (zeroed setting one) ∷ []) answers left complete.1
    ∙ ap₂ (λ (frame : Frame) (memory : Blocks). c_begins setting fuel [] frame (world_of memory answers) left)
    (append_assoc statics (record { object = one.object; block = length blocks } ∷ []) (in_blocks_from (length (blocks ++ Some (zeroed setting one) ∷ [])) more)
    ∙ ap (λ (number : ℕ). statics ++ record { object = one.object; block = length blocks } ∷ in_blocks_from number more) next)
    (append_assoc blocks (Some (zeroed setting one) ∷ []) (zeroed_blocks setting more))))

begins_before : (setting : CSetting) (fuel : ℕ) (objects : List CObject) (statics : Frame) (blocks : Blocks) (answers : List ℤ) (steps : ℕ) → AreComplete setting objects →
    steps < length objects → (after : Blocks) × (c_begins setting fuel objects statics (world_of blocks answers) steps ≡ out (world_of after answers))
begins_before setting fuel [] statics blocks answers steps complete below = absurd (omega arith)
begins_before setting fuel (one ∷ more) statics blocks answers zero complete below = (blocks, refl)
begins_before setting fuel (one ∷ more) statics blocks answers (suc steps) complete below =
    let rest = begins_before setting fuel more (statics ++ record { object = one.object; block = length blocks } ∷ []) (blocks ++ Some (zeroed setting one) ∷ []) answers steps complete.1 (omega arith) in
    (rest.0, begins_step setting fuel one more statics blocks answers steps complete.0 ∙ rest.1)

-- ---- where names lead

-- the first name of a list isn't another's
differs : (number : ℕ) (objects : List CObject) (place : ℕ) (one : CObject) →
    AllByRecursion (λ other. eqb number other ≡ false) (map (λ object. object.object) objects) → slice_get objects place ≡ Some one →
    eqb number one.object ≡ false
differs number [] place one all found = absurd (cc)
differs number (first ∷ more) zero one all found =
    let same : first ≡ one = cc in
    rw same at all.0
differs number (first ∷ more) (suc place) one all found = differs number more place one all.1 found

slot_at : (objects : List CObject) (start number : ℕ) (one : CObject) →
    IsDistinct eqb (map (λ object. object.object) objects) → slice_get objects number ≡ Some one →
    slot_of (in_blocks_from start objects) one.object ≡ Some (record { block = start + number; offset = 0 })
unfolding IsDistinct
slot_at [] start number one distinct found = absurd (cc)
slot_at (first ∷ more) start zero one distinct found =
    let same : first ≡ one = cc in
    let tests : eqb first.object one.object ≡ true = eq-eqb first.object one.object (ap (λ (object : CObject). object.object) same) in
    let sum : start + zero ≡ start = omega arith in
    rw (tests, sum)
slot_at (first ∷ more) start (suc number) one distinct found =
    let tests : eqb first.object one.object ≡ false = differs first.object more number one distinct.0 found in
    let sum : start + suc number ≡ suc start + number = omega arith in
    rw (tests, sum) (slot_at more (suc start) number one distinct.1 found)

-- ---- their blocks

block_at : (setting : CSetting) (objects : List CObject) (number : ℕ) (one : CObject) → slice_get objects number ≡ Some one →
    live_block (zeroed_blocks setting objects) number ≡ Some (zeroed setting one)
block_at setting [] number one found = absurd (cc)
block_at setting (first ∷ more) zero one found =
    let same : first ≡ one = cc in
    rw same
block_at setting (first ∷ more) (suc number) one found = block_at setting more number one found

pub statics_begin : StaticsBegin
statics_begin = record {
  after = λ setting fuel objects answers left complete. begins_more setting fuel objects [] [] answers left complete;
  before = λ setting fuel objects answers steps complete below. begins_before setting fuel objects [] [] answers steps complete below;
  slot_is = λ objects number one distinct found.
      let zero_more : 0 + number ≡ number = omega arith in
      rw zero_more at (slot_at objects 0 number one distinct found);
  block_is = block_at;
}
