-- What a store in chunks shows of its memory.
use Rattle.std.proofs.Common.{◌≡◌, ◌≢◌, ℕ, zero, suc, ◌/◌, ◌%◌, ◌<◌, ◌≤◌, ◌==◌, ◌&&◌, true, false, List, [], ◌∷◌, length, replicate, slice_set, slice_index_or, Option, Some, None, option_map, is_some, is_none, Result, Ok, Err, refl, sym, ap, subst, ◌∙◌, arith}
use Rattle.std.specs.List.{list_all}
use Rattle.std.proofs.lemmas.Bool.{and_parts, eqb-true}
use Rattle.std.proofs.lemmas.List.{length-set, set-set}
use Rattle.mem_bytes.specs.declared.fault.Fault.{Fault}
use Rattle.mem_bytes.specs.declared.fault.Fault.TheVariants.{Dead}
use Rattle.mem_bytes.specs.Access.{and_then, live_read, live_change, after_kill}
use Rattle.mem_bytes.specs.Calls.{Does}
use Rattle.mem_bytes.specs.Chunks.{dead_blocks, blocks_in, all_blocks, chunk_at, IsPacked, Holds, IsDeadAt, no_block, emptied}
use Rattle.mem_bytes.specs.Memory.{Block, Blocks, live_block}
use Rattle.mem_bytes.proofs.Chunked.{live_by, set_by, chunk_is, chunk_past, same_blocks, live_gone, holds_set}
use Rattle.mem_bytes.proofs.Reached.{changed}
use Rattle.mem_bytes.proofs.Slots.{set_dead, set_live, live_within, live-set_same, live-set_other}

-- ---- the chunk of a number

-- past the last chunk no block is live
pub past : (chunks : List (Option Blocks)) (memory : Blocks) (number : ℕ) → all_blocks chunks ≡ memory → IsPacked chunks → length chunks ≤ number / 64 → live_block memory number ≡ None
past chunks memory number same packed p =
    ap (λ m. live_block m number) (sym same)
    ∙ live_by chunks number packed
    ∙ ap (λ m. live_block m (number % 64)) (chunk_past chunks (number / 64) p)

-- nor in a chunk that holds nothing
pub gone : (chunks : List (Option Blocks)) (memory : Blocks) (number : ℕ) (place : Option Blocks) → all_blocks chunks ≡ memory → IsPacked chunks → number / 64 < length chunks → place ≡ slice_index_or chunks (number / 64) place → place ≡ None → live_block memory number ≡ None
gone chunks memory number place same packed p e none =
    ap (λ m. live_block m number) (sym same)
    ∙ live_by chunks number packed
    ∙ ap (λ m. live_block m (number % 64)) (chunk_is chunks (number / 64) place p e ∙ ap blocks_in none)
    ∙ live_gone number

-- any other chunk has the block
pub lives : (chunks : List (Option Blocks)) (memory : Blocks) (number : ℕ) (place : Option Blocks) (chunk : Blocks) → all_blocks chunks ≡ memory → IsPacked chunks → number / 64 < length chunks → place ≡ slice_index_or chunks (number / 64) place → place ≡ Some chunk → live_block memory number ≡ live_block chunk (number % 64)
lives chunks memory number place chunk same packed p e some =
    ap (λ m. live_block m number) (sym same)
    ∙ live_by chunks number packed
    ∙ ap (λ m. live_block m (number % 64)) (chunk_is chunks (number / 64) place p e ∙ ap blocks_in some)

pub unchanged : (chunks : List (Option Blocks)) (memory : Blocks) (number : ℕ) (place : Option Blocks) → all_blocks chunks ≡ memory → number / 64 < length chunks → place ≡ slice_index_or chunks (number / 64) place → all_blocks (slice_set chunks (number / 64) place) ≡ memory
unchanged chunks memory number place same p e =
    same_blocks chunks (number / 64) place (sym (chunk_is chunks (number / 64) place p e)) ∙ same

-- a block isn't live and live
pub is_lost : (memory : Blocks) (number : ℕ) → live_block memory number ≡ None → is_some (live_block memory number) ≡ true → ⊥
is_lost memory number none some = true_false (sym some ∙ ap is_some none)
  where
    true_false : true ≡ false → ⊥
    true_false e = cc

pub some_within : (memory : Blocks) (number : ℕ) → is_some (live_block memory number) ≡ true → number < length memory
some_within [] number some = cc
some_within (first ∷ others) zero some = omega arith
some_within (first ∷ others) (suc number) some = omega (arith, some_within others number some)

-- a chunk changes at one place
pub set_there : (chunks : List (Option Blocks)) (memory : Blocks) (number : ℕ) (place : Option Blocks) (chunk new : Blocks) (slot : Option Block) → all_blocks chunks ≡ memory → IsPacked chunks → number / 64 < length chunks → place ≡ slice_index_or chunks (number / 64) place → place ≡ Some chunk → new ≡ slice_set chunk (number % 64) slot → all_blocks (slice_set chunks (number / 64) (Some new)) ≡ slice_set memory number slot
set_there chunks memory number place chunk new slot same packed p e some made =
    let at : chunk_at chunks (number / 64) ≡ chunk = chunk_is chunks (number / 64) place p e ∙ ap blocks_in some in
    ap (λ blocks. all_blocks (slice_set chunks (number / 64) (Some blocks))) (made ∙ ap (λ blocks. slice_set blocks (number % 64) slot) (sym at))
    ∙ sym (set_by chunks number slot packed)
    ∙ ap (λ m. slice_set m number slot) same

pub holds_there : (made : ℕ) (chunks : List (Option Blocks)) (number : ℕ) (place : Option Blocks) (chunk new : Blocks) → Holds made chunks → number / 64 < length chunks → place ≡ slice_index_or chunks (number / 64) place → place ≡ Some chunk → length new ≡ length chunk → Holds made (slice_set chunks (number / 64) (Some new))
holds_there made chunks number place chunk new holds p e some long =
    holds_set made chunks (number / 64) (Some new) holds (long ∙ ap length (sym (chunk_is chunks (number / 64) place p e ∙ ap blocks_in some)))

-- ---- a step on a block of a chunk

same_fault : {A : Type 0} (found : Result Block Fault) (fault : Fault) (one other : Block → A) → and_then found (λ block. Ok (one block)) ≡ Err fault → and_then found (λ block. Ok (other block)) ≡ Err fault
same_fault (Ok block) fault one other e = cc
same_fault (Err error) fault one other e = cc

pub change_there : {A : Type 0} (chunks : List (Option Blocks)) (memory : Blocks) (number : ℕ) (place : Option Blocks) (chunk new : Blocks) (step : Block → Result Block Fault) (result : Result A Fault) → all_blocks chunks ≡ memory → IsPacked chunks → number / 64 < length chunks → place ≡ slice_index_or chunks (number / 64) place → place ≡ Some chunk → Does result chunk new (live_change chunk (number % 64) step) → Does result memory (all_blocks (slice_set chunks (number / 64) (Some new))) (live_change memory number step)
change_there chunks memory number place chunk new step (Ok value) same packed p e some does =
    let c = changed chunk new (number % 64) step does in
    let live : live_block memory number ≡ Some c.block = lives chunks memory number place chunk same packed p e some ∙ c.live in
    ap (λ slot. and_then (live_read slot step) (λ b. Ok (slice_set memory number (Some b)))) live
    ∙ ap (λ outcome. and_then outcome (λ b. Ok (slice_set memory number (Some b)))) c.stepped
    ∙ ap Ok (sym (set_there chunks memory number place chunk new (Some c.new) same packed p e some c.made))
change_there chunks memory number place chunk new step (Err fault) same packed p e some does =
    let live = lives chunks memory number place chunk same packed p e some in (
      ap (λ slot. and_then (live_read slot step) (λ b. Ok (slice_set memory number (Some b)))) live
          ∙ same_fault (live_read (live_block chunk (number % 64)) step) fault (λ b. slice_set chunk (number % 64) (Some b)) (λ b. slice_set memory number (Some b)) does.0,
      ap (λ blocks. all_blocks (slice_set chunks (number / 64) (Some blocks))) does.1
          ∙ ap (λ held. all_blocks (slice_set chunks (number / 64) held)) (sym some)
          ∙ unchanged chunks memory number place same p e,
    )

-- no step on a block that isn't live
pub change_none : (memory : Blocks) (number : ℕ) (step : Block → Result Block Fault) → live_block memory number ≡ None → live_change memory number step ≡ Err Dead
change_none memory number step none =
    ap (λ slot. and_then (live_read slot step) (λ b. Ok (slice_set memory number (Some b)))) none

-- ---- a block that is taken out, and put back

pub emptied_none : (memory : Blocks) (number : ℕ) → live_block memory number ≡ None → emptied memory number ≡ memory
emptied_none memory number none =
    ap (λ slot. slice_set memory number (option_map (λ _. no_block) slot)) none ∙ set_dead memory number none

pub emptied_some : (memory : Blocks) (number : ℕ) (block : Block) → live_block memory number ≡ Some block → emptied memory number ≡ slice_set memory number (Some no_block)
emptied_some memory number block live =
    ap (λ slot. slice_set memory number (option_map (λ _. no_block) slot)) live

pub emptied_there : (chunks : List (Option Blocks)) (memory : Blocks) (number : ℕ) (place : Option Blocks) (chunk new : Blocks) → all_blocks chunks ≡ memory → IsPacked chunks → number / 64 < length chunks → place ≡ slice_index_or chunks (number / 64) place → place ≡ Some chunk → new ≡ emptied chunk (number % 64) → all_blocks (slice_set chunks (number / 64) (Some new)) ≡ emptied memory number
emptied_there chunks memory number place chunk new same packed p e some made =
    set_there chunks memory number place chunk new _ same packed p e some made
    ∙ ap (λ slot. slice_set memory number (option_map (λ _. no_block) slot)) (sym (lives chunks memory number place chunk same packed p e some))

pub length-emptied : (memory : Blocks) (number : ℕ) → length (emptied memory number) ≡ length memory
length-emptied memory number = length-set memory number _

pub taken_lives : (memory after : Blocks) (number : ℕ) (block : Block) → live_block memory number ≡ Some block → after ≡ emptied memory number → live_block after number ≡ Some no_block
taken_lives memory after number block live out =
    ap (λ m. live_block m number) (out ∙ emptied_some memory number block live)
    ∙ live-set_same memory number no_block (live_within memory number block live)

pub change_taken : {A : Type 0} (memory after last : Blocks) (number : ℕ) (block new : Block) (step : Block → Result Block Fault) (result : Result A Fault) → live_block memory number ≡ Some block → after ≡ emptied memory number → last ≡ slice_set after number (Some new) → Does result block new (step block) → Does result memory last (live_change memory number step)
change_taken {A} memory after last number block new step result live out put does =
    let is : last ≡ slice_set memory number (Some new) = put ∙ ap (λ m. slice_set m number (Some new)) (out ∙ emptied_some memory number block live) ∙ set-set memory number (Some no_block) (Some new) in
    subst (λ slot. Does {A = A} result memory last (and_then (live_read slot step) (λ b. Ok (slice_set memory number (Some b))))) (sym live) (stepped memory last number block new (step block) result live is does)
  where
    stepped : {A : Type 0} (memory last : Blocks) (number : ℕ) (block new : Block) (found : Result Block Fault) (result : Result A Fault) → live_block memory number ≡ Some block → last ≡ slice_set memory number (Some new) → Does result block new found → Does result memory last (and_then found (λ b. Ok (slice_set memory number (Some b))))
    stepped memory last number block new found (Ok value) live is does =
        ap (λ outcome. and_then outcome (λ b. Ok (slice_set memory number (Some b)))) does ∙ ap Ok (sym is)
    stepped memory last number block new found (Err fault) live is does = (
      ap (λ outcome. and_then outcome (λ b. Ok (slice_set memory number (Some b)))) does.0,
      is ∙ ap (λ b. slice_set memory number (Some b)) does.1 ∙ set_live memory number block live,
    )

-- another block is live as before
pub beside_change : {A : Type 0} (removed after : Blocks) (number other : ℕ) (step : Block → Result Block Fault) (result : Result A Fault) → number ≢ other → Does result removed after (live_change removed other step) → live_block after number ≡ live_block removed number
beside_change removed after number other step (Ok value) apart does =
    let c = changed removed after other step does in
    ap (λ m. live_block m number) c.made ∙ live-set_other removed other number (Some c.new) (λ same. apart (sym same))
beside_change removed after number other step (Err fault) apart does = ap (λ m. live_block m number) does.1

-- ---- a block that dies

pub killing_none : (memory after : Blocks) (number : ℕ) (taken : Option Block) → taken ≡ live_block memory number → is_none taken ≡ true → after ≡ emptied memory number → (after_kill memory number ≡ Err Dead) × (after ≡ memory)
killing_none memory after number None at none out =
    (ap (λ slot. live_read slot (λ _. Ok (slice_set memory number None))) (sym at), out ∙ emptied_none memory number (sym at))
killing_none memory after number (Some block) at none out = cc

pub killed_lives : (memory after : Blocks) (number : ℕ) (taken : Option Block) → taken ≡ live_block memory number → is_none taken ≡ false → after ≡ emptied memory number → is_some (live_block after number) ≡ true
killed_lives memory after number None at some out = cc
killed_lives memory after number (Some block) at some out =
    ap is_some (taken_lives memory after number block (sym at) out)

pub killing_taken : (memory after last : Blocks) (number : ℕ) (taken : Option Block) → taken ≡ live_block memory number → is_none taken ≡ false → after ≡ emptied memory number → last ≡ slice_set after number None → after_kill memory number ≡ Ok last
killing_taken memory after last number None at some out put = cc
killing_taken memory after last number (Some block) at some out put =
    ap (λ slot. live_read slot (λ _. Ok (slice_set memory number None))) (sym at)
    ∙ ap Ok (sym (put ∙ ap (λ m. slice_set m number None) (out ∙ emptied_some memory number block (sym at)) ∙ set-set memory number (Some no_block) None))

-- ---- chunks that are let go

none_live : (blocks : Blocks) → list_all is_none blocks ≡ true → blocks ≡ replicate (length blocks) None
none_live [] e = refl
none_live (None ∷ blocks) e = ap (λ others. None ∷ others) (none_live blocks e)
none_live (Some block ∷ blocks) e = cc

pub dead_is : (blocks : Blocks) → (length blocks == 64 && list_all is_none blocks) ≡ true → blocks ≡ dead_blocks
unfolding dead_blocks
dead_is blocks e =
    let both = and_parts (length blocks == 64) (list_all is_none blocks) e in
    let many : length blocks ≡ 64 = eqb-true (length blocks) 64 both.0 in
    none_live blocks both.1 ∙ ap (λ count. replicate count None) many

pub dead_there : (chunks : List (Option Blocks)) (number : ℕ) (place : Option Blocks) (chunk : Blocks) → number < length chunks → place ≡ slice_index_or chunks number place → place ≡ Some chunk → (length chunk == 64 && list_all is_none chunk) ≡ true → IsDeadAt chunks number
dead_there chunks number place chunk p e some all =
    record { within = p; dead = chunk_is chunks number place p e ∙ ap blocks_in some ∙ dead_is chunk all }

pub holds_dropped : (made : ℕ) (chunks : List (Option Blocks)) (number : ℕ) → Holds made chunks → IsDeadAt chunks number → Holds made (slice_set chunks number None)
holds_dropped made chunks number holds dead = holds_set made chunks number None holds (ap length (sym dead.dead))

pub dropped : (chunks : List (Option Blocks)) (memory : Blocks) (number : ℕ) → all_blocks chunks ≡ memory → IsDeadAt chunks number → all_blocks (slice_set chunks number None) ≡ memory
dropped chunks memory number same dead = same_blocks chunks number None (sym dead.dead) ∙ same
