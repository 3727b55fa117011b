-- A run of a program makes a block in a step at the most, and each that a linked program makes is one that a store makes (ISO C99, 5.2.4.1, 6.2.4).
use Rattle.std.proofs.Common.{◌≡◌, ℕ, zero, suc, ◌≤◌, Bool, true, false, [], ◌∷◌, length, Option, Some, None, slice_set, refl, sym, subst, arith}
use Rattle.std.proofs.lemmas.List.{length-append, length-replicate, length-set}
use Rattle.cr_base.specs.declared.layout.Laid.{Laid}
use Rattle.cr_world.specs.Held.{fresh_block, heap_align, with_block}
use Rattle.cx_core.specs.Layouts.{layouts_of}
use Rattle.cx_core.specs.Trees.{CTy, CProgram}
use Rattle.cx_core.specs.ValidTypes.{AreTypes}
use Rattle.cx_mean.specs.Run.{c_start, c_after}
use Rattle.cx_mean.specs.Settings.{setting_of, extent_in}
use Rattle.cx_typed_work.proofs.Rows.{extent_whole}
use Rattle.mem_bytes.specs.Memory.{Block, Blocks, size_of, byte_cell, unset_cell}
use Rattle.cx_typed_runs.proofs.AlignedTypes.{types_aligned}
use Rattle.cx_typed_runs.proofs.BlockCalls.{EffectKept, effect_kept}
use Rattle.cx_typed_runs.proofs.BlockChanges.{IsKept}
use Rattle.cx_typed_runs.proofs.BlockStates.{IsGrown, step_grown}
use Rattle.cx_typed_runs.proofs.Taking.{complete_small}
use Rattle.cx_typed_runs.specs.Blocks.{FitsStore, AllocationsFitStores, ObjectsFitStores, RunsMakeFewBlocks, AreFit, RunsHoldFitBlocks}

-- ---- types

-- an object of a type fits a store
type_fits : (program : CProgram) (type : CTy) (laid : Laid) → AreTypes program.types → extent_in (setting_of program) type ≡ Some laid → FitsStore laid.size laid.align
type_fits program type laid are is = record {
  size_fits = complete_small program type laid is;
  align_fits = types_aligned program.types type laid are (extent_whole (layouts_of program.types) type laid is);
}

pub objects_fit_stores : ObjectsFitStores
objects_fit_stores program one laid linked among is = type_fits program one.type laid linked.types is

-- ---- allocations

any_kept : IsKept (λ (blocks : Blocks). Unit {0})
any_kept = record { dies = λ blocks number p. tt; changes = λ blocks number block new live size align p. tt }

pub allocations_fit_stores : AllocationsFitStores
allocations_fit_stores does args held is_zero size is = record {
  size_fits = subst (EffectKept (λ blocks. Unit {0})) is (effect_kept (λ blocks. Unit {0}) any_kept held tt does args);
  align_fits = refl;
}

-- ---- how many blocks are made

-- no more blocks were made than a number
abbrev AreFew : ℕ → Blocks → Type 0
AreFew most blocks = length blocks ≤ most

few_kept : (most : ℕ) → IsKept (AreFew most)
few_kept most = record {
  dies = λ blocks number few. omega (arith, few, length-set blocks number None);
  changes = λ blocks number block new live size align few. omega (arith, few, length-set blocks number (Some new));
}

one_more : (most : ℕ) (blocks : Blocks) (new : Block) → AreFew most blocks → AreFew (suc most) (with_block new blocks)
one_more most blocks new few = omega (arith, few, length-append blocks (Some new ∷ []))

few_grown : (program : CProgram) (most : ℕ) → IsGrown (setting_of program) (AreFew most) (AreFew (suc most))
few_grown program most = record {
  kept = few_kept most;
  kept_then = few_kept (suc most);
  same = λ blocks few. omega (arith, few);
  by_object = λ blocks is_zero type laid is few. one_more most blocks (fresh_block is_zero laid.size laid.align) few;
  by_allocation = λ blocks is_zero size small few. one_more most blocks (fresh_block is_zero size heap_align) few;
}

pub runs_make_few_blocks : RunsMakeFewBlocks
runs_make_few_blocks program order terms outside zero = omega arith
runs_make_few_blocks program order terms outside (suc steps) =
    step_grown (setting_of program) (AreFew steps) (AreFew (suc steps)) (few_grown program steps) (c_after (setting_of program) steps (c_start program order terms outside))
    (runs_make_few_blocks program order terms outside steps)

-- ---- what fits a store

-- a block in some place is another one, or none
fit_set : (blocks : Blocks) (number : ℕ) (place : Option Block) → ((block : Block) → place ≡ Some block → FitsStore (size_of block) block.align) → AreFit blocks → AreFit (slice_set blocks number place)
fit_set [] number place is are other block live = cc (live)
fit_set (first ∷ others) zero place is are zero block live = is block live
fit_set (first ∷ others) zero place is are (suc other) block live = are (suc other) block live
fit_set (first ∷ others) (suc number) place is are zero block live = are zero block live
fit_set (first ∷ others) (suc number) place is are (suc other) block live = fit_set others number place is (λ n. are (suc n)) other block live

fit_made : (blocks : Blocks) (new : Block) → FitsStore (size_of new) new.align → AreFit blocks → AreFit (with_block new blocks)
fit_made [] new is are zero block live = let same : new ≡ block = cc (live) in subst (λ (one : Block). FitsStore (size_of one) one.align) same is
fit_made [] new is are (suc number) block live = cc
fit_made (first ∷ others) new is are zero block live = are zero block live
fit_made (first ∷ others) new is are (suc number) block live = fit_made others new is (λ n. are (suc n)) number block live

fresh_fits : (is_zero : Bool) (size align : ℕ) → FitsStore size align → FitsStore (size_of (fresh_block is_zero size align)) (fresh_block is_zero size align).align
fresh_fits true size align is = subst (λ many. FitsStore many align) (sym (length-replicate size (byte_cell 0))) is
fresh_fits false size align is = subst (λ many. FitsStore many align) (sym (length-replicate size unset_cell)) is

changed_fits : (old new : Block) → size_of new ≡ size_of old → new.align ≡ old.align → FitsStore (size_of old) old.align → FitsStore (size_of new) new.align
changed_fits old new size align is = subst (λ many. FitsStore many new.align) (sym size) (subst (FitsStore (size_of old)) (sym align) is)

fit_kept : IsKept AreFit
fit_kept = record {
  dies = λ blocks number are. fit_set blocks number None (λ block none. cc (none)) are;
  changes = λ blocks number block new live size align are.
      fit_set blocks number (Some new)
      (λ one same.
      let one_is : new ≡ one = cc (same) in
      subst (λ (it : Block). FitsStore (size_of it) it.align) one_is (changed_fits block new size align (are number block live))) are;
}

fit_grown : (program : CProgram) → AreTypes program.types → IsGrown (setting_of program) AreFit AreFit
fit_grown program types = record {
  kept = fit_kept;
  kept_then = fit_kept;
  same = λ blocks are. are;
  by_object = λ blocks is_zero type laid is are. fit_made blocks (fresh_block is_zero laid.size laid.align) (fresh_fits is_zero laid.size laid.align (type_fits program type laid types is)) are;
  by_allocation = λ blocks is_zero size small are. fit_made blocks (fresh_block is_zero size heap_align) (fresh_fits is_zero size heap_align (record { size_fits = small; align_fits = refl })) are;
}

pub runs_hold_fit_blocks : RunsHoldFitBlocks
runs_hold_fit_blocks program order terms outside zero linked = λ number block live. cc (live)
runs_hold_fit_blocks program order terms outside (suc steps) linked =
    step_grown (setting_of program) AreFit AreFit (fit_grown program linked.types) (c_after (setting_of program) steps (c_start program order terms outside))
    (runs_hold_fit_blocks program order terms outside steps linked)
