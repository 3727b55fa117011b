-- What a store of slots shows of its memory, place by place.
use Rattle.std.proofs.Common.{◌≡◌, ◌≢◌, ℕ, zero, suc, ◌<◌, ◌==◌, false, [], ◌∷◌, length, slice_set, slice_index_or, Option, Some, None, Result, Ok, Err, refl, sym, ap, subst, ◌∙◌, arith}
use Rattle.std.proofs.lemmas.Bool.{cond-false}
use Rattle.std.proofs.lemmas.List.{length-set, set-get_or, set-set, set_comm}
use Rattle.mem_bytes.specs.declared.fault.Fault.{Fault}
use Rattle.mem_bytes.specs.declared.fault.Fault.TheVariants.{Dead}
use Rattle.mem_bytes.specs.declared.value.Ptr.{Ptr}
use Rattle.mem_bytes.specs.Access.{and_then, live_read, live_change, block_with_copy, copied_between, after_copy}
use Rattle.mem_bytes.specs.Calls.{Does}
use Rattle.mem_bytes.specs.Memory.{Block, Blocks, live_block}

-- the place of a number in the list holds the live block with that number, or none
pub live_at : (memory : Blocks) (number : ℕ) (place : Option Block) → number < length memory → place ≡ slice_index_or memory number place → live_block memory number ≡ place
live_at [] number place p e = absurd (omega arith)
live_at (first ∷ others) zero place p e = sym e
live_at (first ∷ others) (suc number) place p e = live_at others number place (omega arith) e

-- a list stays as it is where a place gets what it holds
pub same_place : (memory : Blocks) (number : ℕ) (place : Option Block) → place ≡ slice_index_or memory number place → slice_set memory number place ≡ memory
same_place memory number place e = ap (slice_set memory number) e ∙ set-get_or memory number place

-- a step on a block that has died
pub change_dead : (items memory : Blocks) (number : ℕ) (place : Option Block) (step : Block → Result Block Fault) → items ≡ memory → number < length items → place ≡ slice_index_or items number place → place ≡ None → (live_change memory number step ≡ Err Dead) × (slice_set items number place ≡ memory)
change_dead items memory number place step same p e none =
    let live : live_block memory number ≡ None = ap (λ m. live_block m number) (sym same) ∙ live_at items number place p e ∙ none in
    (ap (λ slot. and_then (live_read slot step) (λ block. Ok (slice_set memory number (Some block)))) live, same_place items number place e ∙ same)

-- a step on a live block
pub change_live : {A : Type 0} (items memory : Blocks) (number : ℕ) (place : Option Block) (block new : Block) (step : Block → Result Block Fault) (result : Result A Fault) → items ≡ memory → number < length items → place ≡ slice_index_or items number place → place ≡ Some block → Does result block new (step block) → Does result memory (slice_set items number (Some new)) (live_change memory number step)
change_live items memory number place block new step (Ok value) same p e some does =
    let live : live_block memory number ≡ Some block = ap (λ m. live_block m number) (sym same) ∙ live_at items number place p e ∙ some in
    ap (λ slot. and_then (live_read slot step) (λ b. Ok (slice_set memory number (Some b)))) live
    ∙ ap (λ outcome. and_then outcome (λ b. Ok (slice_set memory number (Some b)))) does
    ∙ ap (λ m. Ok (slice_set m number (Some new))) (sym same)
change_live items memory number place block new step (Err fault) same p e some does =
    let live : live_block memory number ≡ Some block = ap (λ m. live_block m number) (sym same) ∙ live_at items number place p e ∙ some in (
      ap (λ slot. and_then (live_read slot step) (λ b. Ok (slice_set memory number (Some b)))) live ∙ ap (λ outcome. and_then outcome (λ b. Ok (slice_set memory number (Some b)))) does.0,
      ap (λ b. slice_set items number (Some b)) does.1 ∙ ap (slice_set items number) (sym some) ∙ same_place items number place e ∙ same,
    )

-- no block is live where the place of its number holds none
pub set_dead : (memory : Blocks) (number : ℕ) → live_block memory number ≡ None → slice_set memory number None ≡ memory
set_dead [] number dead = refl
set_dead (first ∷ others) zero dead = ap (λ place. place ∷ others) (sym dead)
set_dead (first ∷ others) (suc number) dead = ap (λ places. first ∷ places) (set_dead others number dead)

-- the place of a live block, and of any other
pub set_live : (memory : Blocks) (number : ℕ) (block : Block) → live_block memory number ≡ Some block → slice_set memory number (Some block) ≡ memory
set_live [] number block live = refl
set_live (first ∷ others) zero block live = ap (λ place. place ∷ others) (sym live)
set_live (first ∷ others) (suc number) block live = ap (λ places. first ∷ places) (set_live others number block live)

pub live-set_other : (memory : Blocks) (number other : ℕ) (place : Option Block) → number ≢ other → live_block (slice_set memory number place) other ≡ live_block memory other
live-set_other [] number other place apart = refl
live-set_other (first ∷ others) zero zero place apart = absurd (apart refl)
live-set_other (first ∷ others) zero (suc other) place apart = refl
live-set_other (first ∷ others) (suc number) zero place apart = refl
live-set_other (first ∷ others) (suc number) (suc other) place apart =
    live-set_other others number other place (λ same. apart (ap suc same))

pub live_within : (memory : Blocks) (number : ℕ) (block : Block) → live_block memory number ≡ Some block → number < length memory
live_within [] number block live = cc
live_within (first ∷ others) zero block live = omega arith
live_within (first ∷ others) (suc number) block live = omega (arith, live_within others number block live)

-- a block taken out and put back is as it was
pub put_back : (memory : Blocks) (number : ℕ) (block : Block) (left : Option Block) → live_block memory number ≡ Some block → slice_set (slice_set memory number left) number (Some block) ≡ memory
put_back memory number block left live = set-set memory number left (Some block) ∙ set_live memory number block live

-- the same, where another block was changed meanwhile
pub put_back_beside : (memory : Blocks) (number other : ℕ) (block : Block) (left place : Option Block) → number ≢ other → live_block memory number ≡ Some block → slice_set (slice_set (slice_set memory number left) other place) number (Some block) ≡ slice_set memory other place
put_back_beside memory number other block left place apart live =
    ap (λ m. slice_set m number (Some block)) (set_comm memory number other left place apart)
    ∙ set-set (slice_set memory other place) number left (Some block)
    ∙ set_live (slice_set memory other place) number block (live-set_other memory other number place (λ same. apart (sym same)) ∙ live)

-- a copy inside one block is a step on that block
copied_in : (memory : Blocks) (from to : Ptr) (count : ℕ) (slot : Option Block) → from.block ≡ to.block → copied_between memory from to count slot slot ≡ and_then (live_read slot (λ block. block_with_copy block to.offset block from.offset count)) (λ block. Ok (slice_set memory from.block (Some block)))
copied_in memory from to count None same = refl
copied_in memory from to count (Some block) same =
    ap (λ number. and_then (block_with_copy block to.offset block from.offset count) (λ b. Ok (slice_set memory number (Some b)))) (sym same)

pub copying_inside : (memory : Blocks) (from to : Ptr) (count : ℕ) → from.block ≡ to.block → (count == 0) ≡ false → after_copy memory from to count ≡ live_change memory from.block (λ block. block_with_copy block to.offset block from.offset count)
copying_inside memory from to count same some =
    cond-false _ _ _ some
    ∙ ap (λ number. copied_between memory from to count (live_block memory from.block) (live_block memory number)) (sym same)
    ∙ copied_in memory from to count (live_block memory from.block) same

-- a step on one block, while another is taken out
moved : {A : Type 0} (new : Result Block Fault) (memory after : Blocks) (number other : ℕ) (block : Block) (left : Option Block) (result : Result A Fault) → number ≢ other → live_block memory number ≡ Some block → Does result (slice_set memory number left) after (and_then new (λ b. Ok (slice_set (slice_set memory number left) other (Some b)))) → Does result memory (slice_set after number (Some block)) (and_then new (λ b. Ok (slice_set memory other (Some b))))
moved (Err fault) memory after number other block left (Ok value) apart live does = cc
moved (Err fault) memory after number other block left (Err found) apart live does =
    (cc, ap (λ m. slice_set m number (Some block)) does.1 ∙ put_back memory number block left live)
moved (Ok new) memory after number other block left (Ok value) apart live does =
    let e : slice_set (slice_set memory number left) other (Some new) ≡ after = cc in
    ap Ok (sym (put_back_beside memory number other block left (Some new) apart live) ∙ ap (λ m. slice_set m number (Some block)) e)
moved (Ok new) memory after number other block left (Err found) apart live does = cc

-- the block that is copied to
target_cases : {A : Type 0} (memory after : Blocks) (from to : Ptr) (count : ℕ) (block : Block) (left target : Option Block) (result : Result A Fault) → from.block ≢ to.block → live_block memory from.block ≡ Some block → Does result (slice_set memory from.block left) after (and_then (live_read target (λ t. block_with_copy t to.offset block from.offset count)) (λ b. Ok (slice_set (slice_set memory from.block left) to.block (Some b)))) → Does result memory (slice_set after from.block (Some block)) (copied_between memory from to count (Some block) target)
target_cases memory after from to count block left None (Ok value) apart live does = cc
target_cases memory after from to count block left None (Err found) apart live does =
    (cc, ap (λ m. slice_set m from.block (Some block)) does.1 ∙ put_back memory from.block block left live)
target_cases memory after from to count block left (Some target) result apart live does =
    moved (block_with_copy target to.offset block from.offset count) memory after from.block to.block block left result apart live does

pub copying_between : {A : Type 0} (memory removed after : Blocks) (from to : Ptr) (count : ℕ) (block : Block) (left : Option Block) (result : Result A Fault) → from.block ≢ to.block → live_block memory from.block ≡ Some block → removed ≡ slice_set memory from.block left → Does result removed after (live_change removed to.block (λ t. block_with_copy t to.offset block from.offset count)) → Does result memory (slice_set after from.block (Some block)) (copied_between memory from to count (live_block memory from.block) (live_block memory to.block))
copying_between {A} memory removed after from to count block left result apart live out does =
    let step : Block → Result Block Fault = λ t. block_with_copy t to.offset block from.offset count in
    let beside : live_block removed to.block ≡ live_block memory to.block = ap (λ m. live_block m to.block) out ∙ live-set_other memory from.block to.block left apart in
    let taken = subst (λ m. Does {A = A} result m after (and_then (live_read (live_block memory to.block) step) (λ b. Ok (slice_set m to.block (Some b))))) out (subst (λ slot. Does {A = A} result removed after (and_then (live_read slot step) (λ b. Ok (slice_set removed to.block (Some b))))) beside does) in
    subst (λ slot. Does {A = A} result memory (slice_set after from.block (Some block)) (copied_between memory from to count slot (live_block memory to.block))) (sym live) (target_cases memory after from to count block left (live_block memory to.block) result apart live taken)

-- no copy from a block that has died
pub copying_dead : (memory : Blocks) (from to : Ptr) (count : ℕ) → live_block memory from.block ≡ None → copied_between memory from to count (live_block memory from.block) (live_block memory to.block) ≡ Err Dead
copying_dead memory from to count dead =
    ap (λ slot. copied_between memory from to count slot (live_block memory to.block)) dead

-- a step keeps the count of blocks made
pub length-live_change : {A : Type 0} (memory after : Blocks) (number : ℕ) (step : Block → Result Block Fault) (result : Result A Fault) → Does result memory after (live_change memory number step) → length after ≡ length memory
length-live_change memory after number step (Err fault) does = ap length does.1
length-live_change memory after number step (Ok value) does = length_of (live_read (live_block memory number) step) does
  where
    length_of : (outcome : Result Block Fault) → and_then outcome (λ block. Ok (slice_set memory number (Some block))) ≡ Ok after → length after ≡ length memory
    length_of (Ok block) e = let f : slice_set memory number (Some block) ≡ after = cc in ap length (sym f) ∙ length-set memory number (Some block)
    length_of (Err fault) e = cc

pub live-set_same : (memory : Blocks) (number : ℕ) (block : Block) → number < length memory → live_block (slice_set memory number (Some block)) number ≡ Some block
live-set_same [] number block p = absurd (omega arith)
live-set_same (first ∷ others) zero block p = refl
live-set_same (first ∷ others) (suc number) block p = live-set_same others number block (omega arith)
