-- The numbers of blocks.
use Rattle.std.proofs.Common.{◌≡◌, ◌≢◌, ℕ, zero, suc, ◌+◌, ◌<◌, Bool, true, false, cond, [], ◌∷◌, ◌++◌, length, slice_set, Option, Some, None, Result, Ok, Err, refl, sym, ap, ◌∙◌, arith}
use Rattle.std.proofs.lemmas.List.{length-set, length_push}
use Rattle.mem_bytes.specs.declared.fault.Fault.{Fault}
use Rattle.mem_bytes.specs.declared.fault.StoreFault.{StoreFault}
use Rattle.mem_bytes.specs.declared.fault.StoreFault.TheVariants.{Memory}
use Rattle.mem_bytes.specs.declared.value.Ptr.{Ptr}
use Rattle.mem_bytes.specs.Access.{live_read, live_change, block_with_value, block_with_field, block_with_fill, block_with_cell, after_copy, after_kill}
use Rattle.mem_bytes.specs.Counted.{Limit, is_refused, after_alloc}
use Rattle.mem_bytes.specs.Laws.{CountsBlocks, Later}
use Rattle.mem_bytes.specs.Memory.{Block, Blocks, live_block, new_block}
use Rattle.mem_bytes.proofs.Reached.{changed}
use Rattle.mem_bytes.proofs.Slots.{live-set_other, live_within}
use Rattle.mem_bytes.proofs.Written.{copy_writes}

-- a number was given to a block that has died
pub record IsSpent (memory : Blocks) (number : ℕ) : Type 0 where
  pub dead : live_block memory number ≡ None
  pub given : number < length memory

-- another block changes, or the same one dies
spent_set : (memory : Blocks) (number other : ℕ) (block new : Block) → IsSpent memory number → live_block memory other ≡ Some block → IsSpent (slice_set memory other (Some new)) number
spent_set memory number other block new spent live =
    let apart : other ≢ number = λ same. cc (sym live ∙ ap (live_block memory) same ∙ spent.dead) in
    record {
      dead = live-set_other memory other number (Some new) apart ∙ spent.dead;
      given = omega (arith, spent.given, length-set memory other (Some new));
    }

live-set_none : (memory : Blocks) (number other : ℕ) → live_block memory number ≡ None → live_block (slice_set memory other None) number ≡ None
live-set_none [] number other dead = refl
live-set_none (first ∷ others) zero zero dead = refl
live-set_none (first ∷ others) zero (suc other) dead = dead
live-set_none (first ∷ others) (suc number) zero dead = dead
live-set_none (first ∷ others) (suc number) (suc other) dead = live-set_none others number other dead

live-set_itself : (memory : Blocks) (number : ℕ) → live_block (slice_set memory number None) number ≡ None
live-set_itself [] number = refl
live-set_itself (first ∷ others) zero = refl
live-set_itself (first ∷ others) (suc number) = live-set_itself others number

live-push : (memory : Blocks) (number : ℕ) (place : Option Block) → number < length memory → live_block (memory ++ place ∷ []) number ≡ live_block memory number
live-push [] number place p = absurd (omega arith)
live-push (first ∷ others) zero place p = refl
live-push (first ∷ others) (suc number) place p = live-push others number place (omega arith)

-- what a kill leaves
record Killed (memory after : Blocks) (number : ℕ) : Type 0 where
  block : Block
  live : live_block memory number ≡ Some block
  made : after ≡ slice_set memory number None

killed_from : (memory after : Blocks) (number : ℕ) (slot : Option Block) → live_block memory number ≡ slot → live_read slot (λ _. Ok (slice_set memory number None)) ≡ Ok after → Killed memory after number
killed_from memory after number None live e = cc
killed_from memory after number (Some block) live e = record { block = block; live = live; made = cc }

killed : (memory after : Blocks) (number : ℕ) → after_kill memory number ≡ Ok after → Killed memory after number
killed memory after number e = killed_from memory after number (live_block memory number) refl e

spent_kill : (memory after : Blocks) (number other : ℕ) → IsSpent memory number → after_kill memory other ≡ Ok after → IsSpent after number
spent_kill memory after number other spent e =
    let k = killed memory after other e in
    record {
      dead = ap (λ m. live_block m number) k.made ∙ live-set_none memory number other spent.dead;
      given = omega (arith, spent.given, ap length k.made, length-set memory other None);
    }

spent_change : (memory after : Blocks) (number other : ℕ) (step : Block → Result Block Fault) → IsSpent memory number → live_change memory other step ≡ Ok after → IsSpent after number
spent_change memory after number other step spent e =
    let c = changed memory after other step e in
    let s = spent_set memory number other c.block c.new spent c.live in
    record {
      dead = ap (λ m. live_block m number) c.made ∙ s.dead;
      given = omega (arith, s.given, ap length c.made);
    }

spent_push : (memory after : Blocks) (number : ℕ) (block : Block) → IsSpent memory number → memory ++ Some block ∷ [] ≡ after → IsSpent after number
spent_push memory after number block spent e =
    record {
      dead = ap (λ m. live_block m number) (sym e) ∙ live-push memory number (Some block) spent.given ∙ spent.dead;
      given = omega (arith, spent.given, ap length e, length_push memory (Some block));
    }

spent_refusable : (memory after : Blocks) (number : ℕ) (block : Block) (refused : Bool) (fault : StoreFault) → IsSpent memory number → cond refused (Err fault) (Ok (memory ++ Some block ∷ [])) ≡ Ok after → IsSpent after number
spent_refusable memory after number block true fault spent e = cc
spent_refusable memory after number block false fault spent e = spent_push memory after number block spent cc

spent_alloc : (limit : Option Limit) (memory after : Blocks) (number size align : ℕ) → IsSpent memory number → after_alloc limit memory size align ≡ Ok after → IsSpent after number
spent_alloc None memory after number size align spent e = spent_push memory after number (new_block size align) spent cc
spent_alloc (Some limit) memory after number size align spent e =
    spent_refusable memory after number (new_block size align) (is_refused limit memory size) _ spent e

spent_copy : (memory after : Blocks) (number count : ℕ) (from to : Ptr) → IsSpent memory number → after_copy memory from to count ≡ Ok after → IsSpent after number
spent_copy memory after number zero from to spent e =
    let same : memory ≡ after = cc in
    record {
      dead = ap (λ m. live_block m number) (sym same) ∙ spent.dead;
      given = omega (arith, spent.given, ap length same);
    }
spent_copy memory after number (suc count) from to spent e =
    let w = copy_writes memory after from to (suc count) (omega arith) e in
    let s = spent_set memory number to.block w.block _ spent w.live in
    record {
      dead = ap (λ m. live_block m number) w.made ∙ s.dead;
      given = omega (arith, s.given, ap length w.made);
    }

spent_later : (before later : Blocks) (number : ℕ) → IsSpent before number → Later before later → IsSpent later number
spent_later before later number spent Later.now = spent
spent_later before later number spent (Later.alloc {memory} limit size align h p q e) = spent_alloc limit memory later number size align (spent_later before memory number spent h) e
spent_later before later number spent (Later.kill {memory} other h e) = spent_kill memory later number other (spent_later before memory number spent h) e
spent_later before later number spent (Later.put {memory} at scalar value h p q e) = spent_change memory later number at.block _ (spent_later before memory number spent h) e
spent_later before later number spent (Later.put_bits {memory} at bit width field h p q e) = spent_change memory later number at.block _ (spent_later before memory number spent h) e
spent_later before later number spent (Later.fill {memory} at byte count h p e) = spent_change memory later number at.block _ (spent_later before memory number spent h) e
spent_later before later number spent (Later.put_cell {memory} at cell h p e) = spent_change memory later number at.block _ (spent_later before memory number spent h) e
spent_later before later number spent (Later.copy {memory} from to count h e) = spent_copy memory later number count from to (spent_later before memory number spent h) e

pub never_again : (memory dead later : Blocks) (number : ℕ) → after_kill memory number ≡ Ok dead → Later dead later → (live_block later number ≡ None) × (number < length later)
never_again memory dead later number e h =
    let k = killed memory dead number e in
    let gone : IsSpent dead number = record {
      dead = ap (λ m. live_block m number) k.made ∙ live-set_itself memory number;
      given = omega (arith, live_within memory number k.block k.live, ap length k.made, length-set memory number None);
    } in
    let spent = spent_later dead later number gone h in
    (spent.dead, spent.given)

-- ---- how many blocks were made

count_change : (memory after : Blocks) (number : ℕ) (step : Block → Result Block Fault) → live_change memory number step ≡ Ok after → length after ≡ length memory
count_change memory after number step e =
    let c = changed memory after number step e in
    ap length c.made ∙ length-set memory number (Some c.new)

count_kill : (memory after : Blocks) (number : ℕ) → after_kill memory number ≡ Ok after → length after ≡ length memory
count_kill memory after number e = ap length (killed memory after number e).made ∙ length-set memory number None

count_copy : (memory after : Blocks) (from to : Ptr) (count : ℕ) → after_copy memory from to count ≡ Ok after → length after ≡ length memory
count_copy memory after from to zero e = let same : after ≡ memory = cc in ap length same
count_copy memory after from to (suc count) e =
    ap length (copy_writes memory after from to (suc count) (omega arith) e).made ∙ length-set memory to.block _

count_refusable : (memory after : Blocks) (block : Block) (refused : Bool) (fault : StoreFault) → cond refused (Err fault) (Ok (memory ++ Some block ∷ [])) ≡ Ok after → length after ≡ length memory + 1
count_refusable memory after block true fault e = cc
count_refusable memory after block false fault e =
    let same : after ≡ memory ++ Some block ∷ [] = cc in
    ap length same ∙ length_push memory (Some block)

count_alloc : (limit : Option Limit) (memory after : Blocks) (size align : ℕ) → after_alloc limit memory size align ≡ Ok after → length after ≡ length memory + 1
count_alloc None memory after size align e = count_refusable memory after (new_block size align) false Memory e
count_alloc (Some limit) memory after size align e =
    count_refusable memory after (new_block size align) (is_refused limit memory size) _ e

pub blocks_counted : CountsBlocks
blocks_counted = record {
  alloc = count_alloc;
  kill = count_kill;
  put = λ memory after at scalar value e. count_change memory after at.block (λ block. block_with_value block at.offset scalar value) e;
  put_bits = λ memory after at bit width field e. count_change memory after at.block (λ block. block_with_field block at.offset bit width field) e;
  fill = λ memory after at byte count e. count_change memory after at.block (λ block. block_with_fill block at.offset byte count) e;
  put_cell = λ memory after at cell e. count_change memory after at.block (λ block. block_with_cell block at.offset cell) e;
  copy = count_copy;
}
