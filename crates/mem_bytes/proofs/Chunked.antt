-- The blocks of a memory in chunks, by their numbers.
use Rattle.std.proofs.Common.{◌≡◌, ℕ, zero, suc, ◌+◌, ◌*◌, ◌/◌, ◌%◌, ◌<◌, ◌≤◌, List, [], ◌∷◌, ◌++◌, length, replicate, slice_get, slice_set, slice_index_or, Option, Some, None, unwrap_or, refl, sym, ap, subst, ◌∙◌, arith}
use Rattle.std.proofs.lemmas.List.{append-nil, append_assoc, length-append, set_past, set-append_left, set-append_right}
use Rattle.mem_bytes.specs.Chunks.{dead_blocks, blocks_in, all_blocks, chunk_at, IsPacked, Holds}
use Rattle.mem_bytes.specs.Memory.{Block, Blocks, live_block}

-- ---- places of a list

get_past : (memory : Blocks) (number : ℕ) → length memory ≤ number → slice_get memory number ≡ None
get_past [] number p = refl
get_past (first ∷ others) zero p = absurd (omega arith)
get_past (first ∷ others) (suc number) p = get_past others number (omega arith)

get_low : (low high : Blocks) (number : ℕ) → number < length low → slice_get (low ++ high) number ≡ slice_get low number
get_low [] high number p = absurd (omega arith)
get_low (first ∷ low) high zero p = refl
get_low (first ∷ low) high (suc number) p = get_low low high number (omega arith)

get_high : (low high : Blocks) (number place : ℕ) → place ≡ length low + number → slice_get (low ++ high) place ≡ slice_get high number
get_high [] high number place e = ap (slice_get high) (omega (arith, e))
get_high (first ∷ low) high number zero e = absurd (omega (arith, e))
get_high (first ∷ low) high number (suc place) e = get_high low high number place (omega (arith, e))

get_same : (count number : ℕ) (place : Option Block) → number < count → slice_get (replicate count place) number ≡ Some place
get_same zero number place p = absurd (omega arith)
get_same (suc count) zero place p = refl
get_same (suc count) (suc number) place p = get_same count number place (omega arith)

-- ---- the place of a number

-- within a chunk
pub get_in : (chunks : List (Option Blocks)) (i j : ℕ) → IsPacked chunks → j < 64 → slice_get (all_blocks chunks) (64 * i + j) ≡ slice_get (chunk_at chunks i) j
get_in [] i j packed p = refl
get_in (chunk ∷ []) zero j packed p =
    ap (slice_get (blocks_in chunk ++ [])) (omega arith) ∙ ap (λ memory. slice_get memory j) (append-nil (blocks_in chunk))
get_in (chunk ∷ []) (suc i) j packed p =
    get_past (blocks_in chunk ++ []) (64 * suc i + j) (rw (append-nil (blocks_in chunk)) (omega (arith, packed)))
get_in (chunk ∷ next ∷ chunks) zero j packed p =
    ap (slice_get (blocks_in chunk ++ all_blocks (next ∷ chunks))) (omega arith)
    ∙ get_low (blocks_in chunk) (all_blocks (next ∷ chunks)) j (omega (arith, packed.0))
get_in (chunk ∷ next ∷ chunks) (suc i) j packed p =
    get_high (blocks_in chunk) (all_blocks (next ∷ chunks)) (64 * i + j) (64 * suc i + j) (omega (arith, packed.0))
    ∙ get_in (next ∷ chunks) i j packed.1 p

set_in : (chunks : List (Option Blocks)) (i j : ℕ) (place : Option Block) → IsPacked chunks → j < 64 → slice_set (all_blocks chunks) (64 * i + j) place ≡ all_blocks (slice_set chunks i (Some (slice_set (chunk_at chunks i) j place)))
set_in [] i j place packed p = refl
set_in (chunk ∷ []) zero j place packed p =
    ap (λ memory. slice_set memory (64 * 0 + j) place) (append-nil (blocks_in chunk))
    ∙ ap (λ k. slice_set (blocks_in chunk) k place) (omega arith)
    ∙ sym (append-nil (slice_set (blocks_in chunk) j place))
set_in (chunk ∷ []) (suc i) j place packed p =
    set_past (blocks_in chunk ++ []) (64 * suc i + j) place (rw (append-nil (blocks_in chunk)) (omega (arith, packed)))
set_in (chunk ∷ next ∷ chunks) zero j place packed p =
    ap (λ k. slice_set (blocks_in chunk ++ all_blocks (next ∷ chunks)) k place) (omega arith)
    ∙ set-append_left (blocks_in chunk) (all_blocks (next ∷ chunks)) j place (omega (arith, packed.0))
set_in (chunk ∷ next ∷ chunks) (suc i) j place packed p =
    set-append_right (blocks_in chunk) (all_blocks (next ∷ chunks)) 64 (64 * suc i + j) place packed.0 (omega arith)
    ∙ ap (λ k. blocks_in chunk ++ slice_set (all_blocks (next ∷ chunks)) k place) (omega arith)
    ∙ ap (λ memory. blocks_in chunk ++ memory) (set_in (next ∷ chunks) i j place packed.1 p)

-- ---- by the number itself

split : (number : ℕ) → number ≡ 64 * (number / 64) + number % 64
split number = omega arith

pub get_by : (chunks : List (Option Blocks)) (number : ℕ) → IsPacked chunks → slice_get (all_blocks chunks) number ≡ slice_get (chunk_at chunks (number / 64)) (number % 64)
get_by chunks number packed =
    ap (slice_get (all_blocks chunks)) (split number) ∙ get_in chunks (number / 64) (number % 64) packed (omega arith)

pub live_by : (chunks : List (Option Blocks)) (number : ℕ) → IsPacked chunks → live_block (all_blocks chunks) number ≡ live_block (chunk_at chunks (number / 64)) (number % 64)
live_by chunks number packed = ap (λ place. unwrap_or place None) (get_by chunks number packed)

pub set_by : (chunks : List (Option Blocks)) (number : ℕ) (place : Option Block) → IsPacked chunks → slice_set (all_blocks chunks) number place ≡ all_blocks (slice_set chunks (number / 64) (Some (slice_set (chunk_at chunks (number / 64)) (number % 64) place)))
set_by chunks number place packed =
    ap (λ k. slice_set (all_blocks chunks) k place) (split number)
    ∙ set_in chunks (number / 64) (number % 64) place packed (omega arith)

-- ---- chunks by their numbers

pub chunk_is : (chunks : List (Option Blocks)) (i : ℕ) (chunk : Option Blocks) → i < length chunks → chunk ≡ slice_index_or chunks i chunk → chunk_at chunks i ≡ blocks_in chunk
chunk_is [] i chunk p e = absurd (omega arith)
chunk_is (first ∷ others) zero chunk p e = ap blocks_in (sym e)
chunk_is (first ∷ others) (suc i) chunk p e = chunk_is others i chunk (omega arith) e

pub chunk_past : (chunks : List (Option Blocks)) (i : ℕ) → length chunks ≤ i → chunk_at chunks i ≡ []
chunk_past [] i p = refl
chunk_past (first ∷ others) zero p = absurd (omega arith)
chunk_past (first ∷ others) (suc i) p = chunk_past others i (omega arith)

pub packed_set : (chunks : List (Option Blocks)) (i : ℕ) (chunk : Option Blocks) → IsPacked chunks → length (blocks_in chunk) ≡ length (chunk_at chunks i) → IsPacked (slice_set chunks i chunk)
packed_set [] i chunk packed same = tt
packed_set (one ∷ []) zero chunk packed same = omega (arith, packed, same)
packed_set (one ∷ []) (suc i) chunk packed same = packed
packed_set (one ∷ next ∷ chunks) zero chunk packed same = (same ∙ packed.0, packed.1)
packed_set (one ∷ next ∷ chunks) (suc zero) chunk packed same =
    (packed.0, packed_set (next ∷ chunks) zero chunk packed.1 same)
packed_set (one ∷ next ∷ chunks) (suc (suc i)) chunk packed same =
    (packed.0, packed_set (next ∷ chunks) (suc i) chunk packed.1 same)

-- a chunk takes the place of one with the same blocks
pub same_blocks : (chunks : List (Option Blocks)) (i : ℕ) (chunk : Option Blocks) → blocks_in chunk ≡ chunk_at chunks i → all_blocks (slice_set chunks i chunk) ≡ all_blocks chunks
same_blocks [] i chunk same = refl
same_blocks (one ∷ chunks) zero chunk same = ap (λ blocks. blocks ++ all_blocks chunks) same
same_blocks (one ∷ chunks) (suc i) chunk same =
    ap (λ blocks. blocks_in one ++ blocks) (same_blocks chunks i chunk same)

-- ---- a chunk that holds nothing

pub live_gone : (number : ℕ) → live_block dead_blocks (number % 64) ≡ None
unfolding dead_blocks
live_gone number = ap (λ place. unwrap_or place None) (get_same 64 (number % 64) None (omega arith))

-- ---- counts

length_same : (chunks : List (Option Blocks)) (i : ℕ) (chunk : Option Blocks) → length (blocks_in chunk) ≡ length (chunk_at chunks i) → length (all_blocks (slice_set chunks i chunk)) ≡ length (all_blocks chunks)
length_same [] i chunk same = refl
length_same (one ∷ chunks) zero chunk same =
    rw (length-append (blocks_in chunk) (all_blocks chunks), length-append (blocks_in one) (all_blocks chunks)) (ap (λ n. n + length (all_blocks chunks)) same)
length_same (one ∷ chunks) (suc i) chunk same =
    rw (length-append (blocks_in one) (all_blocks (slice_set chunks i chunk)), length-append (blocks_in one) (all_blocks chunks)) (ap (λ n. length (blocks_in one) + n) (length_same chunks i chunk same))

pub holds_set : (made : ℕ) (chunks : List (Option Blocks)) (i : ℕ) (chunk : Option Blocks) → Holds made chunks → length (blocks_in chunk) ≡ length (chunk_at chunks i) → Holds made (slice_set chunks i chunk)
holds_set made chunks i chunk holds same = record {
  packed = packed_set chunks i chunk holds.packed same;
  count = holds.count ∙ sym (length_same chunks i chunk same);
}

-- ---- one more block

packed_more : (chunk : Option Blocks) (chunks : List (Option Blocks)) → length (blocks_in chunk) ≡ 64 → IsPacked chunks → IsPacked (chunk ∷ chunks)
packed_more chunk [] full packed = omega (arith, full)
packed_more chunk (next ∷ chunks) full packed = (full, packed)

-- in the last chunk
push_in : (chunks : List (Option Blocks)) (i : ℕ) (place : Option Block) → IsPacked chunks → i < length chunks → length (all_blocks chunks) < 64 * i + 64 → (all_blocks (slice_set chunks i (Some (chunk_at chunks i ++ place ∷ []))) ≡ all_blocks chunks ++ place ∷ []) × IsPacked (slice_set chunks i (Some (chunk_at chunks i ++ place ∷ [])))
push_in [] i place packed p few = absurd (omega arith)
push_in (chunk ∷ []) zero place packed p few =
    let all = append-nil (blocks_in chunk) in (
      append-nil (blocks_in chunk ++ place ∷ []) ∙ ap (λ blocks. blocks ++ place ∷ []) (sym all),
      rw (length-append (blocks_in chunk) (place ∷ [])) (omega (arith, ap length all, few)),
    )
push_in (chunk ∷ []) (suc i) place packed p few = absurd (omega arith)
push_in (chunk ∷ next ∷ chunks) zero place packed p few =
    absurd (omega (arith, few, packed.0, length-append (blocks_in chunk) (all_blocks (next ∷ chunks))))
push_in (chunk ∷ next ∷ chunks) (suc i) place packed p few =
    let rest = next ∷ chunks in
    let more = push_in rest i place packed.1 (omega arith) (omega (arith, few, packed.0, length-append (blocks_in chunk) (all_blocks rest))) in (
      ap (λ blocks. blocks_in chunk ++ blocks) more.0 ∙ sym (append_assoc (blocks_in chunk) (all_blocks rest) (place ∷ [])),
      packed_more chunk (slice_set rest i (Some (chunk_at rest i ++ place ∷ []))) packed.0 more.1,
    )

-- in a chunk of its own, where all others are full
push_new : (chunks : List (Option Blocks)) (place : Option Block) → IsPacked chunks → 64 * length chunks ≤ length (all_blocks chunks) → (all_blocks (chunks ++ Some (place ∷ []) ∷ []) ≡ all_blocks chunks ++ place ∷ []) × IsPacked (chunks ++ Some (place ∷ []) ∷ [])
push_new [] place packed full = (refl, omega arith)
push_new (chunk ∷ []) place packed full =
    let all = append-nil (blocks_in chunk) in
    (ap (λ blocks. blocks ++ place ∷ []) (sym all), (omega (arith, ap length all, full, packed), omega arith))
push_new (chunk ∷ next ∷ chunks) place packed full =
    let rest = next ∷ chunks in
    let more = push_new (next ∷ chunks) place packed.1 (omega (arith, full, packed.0, length-append (blocks_in chunk) (all_blocks rest))) in (
      ap (λ blocks. blocks_in chunk ++ blocks) more.0 ∙ sym (append_assoc (blocks_in chunk) (all_blocks rest) (place ∷ [])),
      packed_more chunk (rest ++ Some (place ∷ []) ∷ []) packed.0 more.1,
    )

-- what the memory is with one more block, and that the chunks hold it
pub record Grown (made : ℕ) (chunks after : List (Option Blocks)) (place : Option Block) : Type 0 where
  pub same : all_blocks after ≡ all_blocks chunks ++ place ∷ []
  pub holds : Holds (made + 1) after

grown : (made : ℕ) (chunks after : List (Option Blocks)) (place : Option Block) → Holds made chunks → (all_blocks after ≡ all_blocks chunks ++ place ∷ []) × IsPacked after → Grown made chunks after place
grown made chunks after place holds more = record {
  same = more.0;
  holds = record {
    packed = more.1;
    count = omega (arith, holds.count, ap length more.0, length-append (all_blocks chunks) (place ∷ []));
  };
}

pub grown_in : (made : ℕ) (chunks : List (Option Blocks)) (old new : Blocks) (chunk : Option Blocks) (place : Option Block) → Holds made chunks → made / 64 < length chunks → chunk ≡ slice_index_or chunks (made / 64) chunk → chunk ≡ Some old → new ≡ old ++ place ∷ [] → Grown made chunks (slice_set chunks (made / 64) (Some new)) place
grown_in made chunks old new chunk place holds p e some made_new =
    let at : chunk_at chunks (made / 64) ≡ old = chunk_is chunks (made / 64) chunk p e ∙ ap blocks_in some in
    let is : new ≡ chunk_at chunks (made / 64) ++ place ∷ [] = made_new ∙ ap (λ blocks. blocks ++ place ∷ []) (sym at) in
    subst (λ blocks. Grown made chunks (slice_set chunks (made / 64) (Some blocks)) place) (sym is)
    (grown made chunks _ place holds (push_in chunks (made / 64) place holds.packed p (omega (arith, holds.count))))

pub grown_new : (made : ℕ) (chunks : List (Option Blocks)) (new : Blocks) (place : Option Block) → Holds made chunks → length chunks ≤ made / 64 → new ≡ place ∷ [] → Grown made chunks (chunks ++ Some new ∷ []) place
grown_new made chunks new place holds p is =
    subst (λ blocks. Grown made chunks (chunks ++ Some blocks ∷ []) place) (sym is)
    (grown made chunks _ place holds (push_new chunks place holds.packed (omega (arith, holds.count))))
