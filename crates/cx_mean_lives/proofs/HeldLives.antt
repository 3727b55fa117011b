-- Changes of what a program holds that leave the objects below a number alive, but for those that may be freed.
use Rattle.std.proofs.Common.{◌≡◌, ◌≢◌, ℕ, zero, suc, ◌<◌, ◌≤◌, Bool, true, false, ◌==◌, if◌then◌else◌, List, [], ◌∷◌, ◌++◌, length, Option, Some, None, slice_set, refl, ap, subst, ◌∙◌, arith}
use Rattle.std.proofs.lemmas.Bool.Decides.{nat_tests}
use Rattle.std.proofs.lemmas.List.{length-append, length-set}
use Rattle.cr_world.specs.Held.{Held, with_blocks, fresh_block, without_block, heap_align, with_allocated, is_listed, without_entry, without_allocated}
use Rattle.cx_mean.specs.Moves.{without_objects}
use Rattle.cx_mean.specs.Operands.{Frame}
use Rattle.mem_bytes.proofs.Slots.{live-set_other}
use Rattle.mem_bytes.specs.Memory.{Block, Blocks, live_block}
use Rattle.mem_bytes.specs.Pointers.{live_size}
use Rattle.cx_mean_lives.specs.Laws.{SameSizes, LivesOn, AreFrom}

pub lives_same : (bound : ℕ) (held : Held) → LivesOn bound held held
lives_same bound held = record { grows = omega arith; unlisted = λ number less is. is; sizes = λ number less is. refl }

pub lives_then : (bound : ℕ) (before now after : Held) → LivesOn bound before now → LivesOn bound now after → LivesOn bound before after
lives_then bound before now after one other = record {
  grows = omega (arith, one.grows, other.grows);
  unlisted = λ number less is. other.unlisted number less (one.unlisted number less is);
  sizes = λ number less is. other.sizes number less (one.unlisted number less is) ∙ one.sizes number less is;
}

-- what lives on below a number does below a smaller one
pub lives_below : (bound low : ℕ) (before after : Held) → low ≤ bound → LivesOn bound before after → LivesOn low before after
lives_below bound low before after fits one = record {
  grows = one.grows;
  unlisted = λ number less is. one.unlisted number (omega (arith, less, fits)) is;
  sizes = λ number less is. one.sizes number (omega (arith, less, fits)) is;
}

-- cells are written
pub lives_sized : (bound : ℕ) (held : Held) (after : Blocks) → SameSizes held.blocks after → LivesOn bound held (with_blocks after held)
lives_sized bound held after same = record { grows = omega (arith, same.many); unlisted = λ number less is. is; sizes = λ number less is. same.sizes number }

-- ---- a block is made

pub live_before : (memory : Blocks) (new : Option Block) (number : ℕ) → number < length memory → live_block (memory ++ new ∷ []) number ≡ live_block memory number
live_before [] new number within = absurd (omega (arith, within))
live_before (first ∷ others) new zero within = refl
live_before (first ∷ others) new (suc number) within = live_before others new number (omega (arith, within))

pub lives_made : (bound : ℕ) (held : Held) (new : Option Block) → bound ≤ length held.blocks → LivesOn bound held (with_blocks (held.blocks ++ new ∷ []) held)
lives_made bound held new fits = record {
  grows = omega (arith, length-append held.blocks (new ∷ []));
  unlisted = λ number less is. is;
  sizes = λ number less is. ap live_size (live_before held.blocks new number (omega (arith, less, fits)));
}

-- a number isn't the first of a list, nor in the rest
not_listed : (test rest : Bool) → test ≡ false → rest ≡ false → (if test then true else rest) ≡ false
not_listed true rest is too = absurd (cc (is))
not_listed false rest is too = too

not_first : (test rest : Bool) → (if test then true else rest) ≡ false → test ≡ false
not_first true rest is = absurd (cc (is))
not_first false rest is = refl

not_behind : (test rest : Bool) → (if test then true else rest) ≡ false → rest ≡ false
not_behind true rest is = absurd (cc (is))
not_behind false rest is = is

another : (one other : ℕ) → other < one → (one == other) ≡ false
another one other less = grind (arith, nat_tests)

pub lives_allocated : (bound : ℕ) (is_zero : Bool) (size : ℕ) (held : Held) → bound ≤ length held.blocks → LivesOn bound held (with_allocated is_zero size held)
lives_allocated bound is_zero size held fits = record {
  grows = (lives_made bound held (Some (fresh_block is_zero size heap_align)) fits).grows;
  unlisted = λ number less is.
      not_listed (length held.blocks == number) (is_listed number held.heap) (another (length held.blocks) number (omega (arith, less, fits))) is;
  sizes = λ number less is. (lives_made bound held (Some (fresh_block is_zero size heap_align)) fits).sizes number less is;
}

-- ---- a block dies

killed_apart : (held : Held) (number other : ℕ) → number ≢ other → live_size (live_block (slice_set held.blocks number None) other) ≡ live_size (live_block held.blocks other)
killed_apart held number other away = ap live_size (live-set_other held.blocks number other None away)

pub lives_killed : (bound : ℕ) (held : Held) (number : ℕ) → bound ≤ number → LivesOn bound held (with_blocks (without_block number held.blocks) held)
lives_killed bound held number high = record {
  grows = omega (arith, length-set held.blocks number None);
  unlisted = λ other less is. is;
  sizes = λ other less is. killed_apart held number other (λ same. absurd (omega (arith, same, less, high)));
}

-- the objects of open statements that are left
pub lives_gone : (bound : ℕ) (gone : Frame) (held : Held) → AreFrom bound gone → LivesOn bound held (with_blocks (without_objects gone held.blocks) held)
lives_gone bound [] held are = lives_same bound held
lives_gone bound (slot ∷ others) held are =
    lives_then bound held (with_blocks (without_block slot.block held.blocks) held) (with_blocks (without_objects (slot ∷ others) held.blocks) held)
    (lives_killed bound held slot.block are.0) (lives_gone bound others (with_blocks (without_block slot.block held.blocks) held) are.1)

entry_unlisted : (number entry : ℕ) (heap : List ℕ) → is_listed number heap ≡ false → is_listed number (without_entry entry heap) ≡ false
entry_unlisted number entry [] is = refl
entry_unlisted number entry (first ∷ others) is =
    by (first == entry) (not_first (first == number) (is_listed number others) is) (not_behind (first == number) (is_listed number others) is)
    (entry_unlisted number entry others (not_behind (first == number) (is_listed number others) is))
  where
    by : (test : Bool) → (first == number) ≡ false → is_listed number others ≡ false → is_listed number (without_entry entry others) ≡ false
        → is_listed number (if test then others else first ∷ without_entry entry others) ≡ false
    by true apart behind rest = behind
    by false apart behind rest = not_listed (first == number) (is_listed number (without_entry entry others)) apart rest

listed_apart : (number other : ℕ) (heap : List ℕ) → is_listed number heap ≡ true → is_listed other heap ≡ false → number ≢ other
listed_apart number other heap is isnt same = let both : is_listed other heap ≡ true = subst (λ n. is_listed n heap ≡ true) same is in absurd (cc (both, isnt))

-- an allocated block is freed
pub lives_freed : (bound : ℕ) (held : Held) (number : ℕ) → is_listed number held.heap ≡ true → LivesOn bound held (without_allocated number held)
lives_freed bound held number listed = record {
  grows = omega (arith, length-set held.blocks number None);
  unlisted = λ other less is. entry_unlisted other number held.heap is;
  sizes = λ other less is. killed_apart held number other (listed_apart number other held.heap listed is);
}
