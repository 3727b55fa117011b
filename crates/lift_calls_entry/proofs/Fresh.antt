-- New blocks of the crate, one behind another: those of parameters, with what is passed in them, and those of locals, whose bytes are zero.
use Rattle.std.proofs.Common.{◌≡◌, ◌∙◌, ℕ, zero, suc, ◌+◌, ◌<◌, ◌==◌, ◌&&◌, ◌%◌, nat_le, Bool, true, List, [], ◌∷◌, ◌++◌, map, length, take, drop, cond, Option, Some, Result, Ok, Err, slice_set, refl, sym, ap, arith, append_assoc, length-append}
use Rattle.std.proofs.lemmas.Bool.{le-leb}
use Rattle.std.proofs.lemmas.List.{length-replicate}
use Rattle.std.proofs.Math.Seq.{set-append_seam}
use Rattle.cr_base.specs.declared.layout.Laid.{Laid}
use Rattle.cr_base.specs.declared.scalar.Scalar.{Scalar}
use Rattle.cr_runs.specs.Runs.{came, bind}
use Rattle.cr_world.specs.Held.{zero_block, with_block, next_place}
use Rattle.cr_world.specs.World.{World, open_ended, blocks_of, with_memory, limit_of, begun_at}
use Rattle.lift_stands_lives.proofs.Pushed.{live_last}
use Rattle.mem_bytes.proofs.Reached.{part_inside}
use Rattle.mem_bytes.specs.Access.{and_then, part_of, is_aligned, scalar_part_of, block_with_value, live_read, after_put}
use Rattle.mem_bytes.specs.Coding.{scalar_size, cells_of}
use Rattle.mem_bytes.specs.Counted.{after_alloc}
use Rattle.mem_bytes.specs.Memory.{Block, Blocks, live_block, byte_cell, with_part}
use Rattle.mem_bytes.specs.declared.cell.Cell.{Cell}
use Rattle.mem_bytes.specs.declared.fault.Fault.{Fault}
use Rattle.mem_bytes.specs.declared.fault.Fault.TheVariants.{Misaligned}
use Rattle.mem_bytes.specs.declared.value.Ptr.{Ptr}
use Rattle.mem_bytes.specs.declared.value.Value.{Value}
use Rattle.mem_bytes.specs.declared.value.Value.TheVariants.{Object}
use Rattle.rs_mean.specs.Calls.{spot, store, stored_as, in_memory, local_block, begins_laid, begins_object, begin_params, begin_locals}
use Rattle.rs_mean.specs.Layout.{laid_of}
use Rattle.rs_mean.specs.Lookups.{LocalBlock}
use Rattle.rs_mean.specs.Scalars.{scalar_of}
use Rattle.rs_mean.specs.Values.{Typed}
use Rattle.rs_mean.specs.World.{Run, pure, seq, begins, local, after_step, after_got, or_cause, cause_of}
use Rattle.rs_text.specs.Tree.{Ty, LocalTree, ModuleTree}

-- ---- a whole block is written

drop_all : {A : Type 0} (old : List A) → drop (length old) old ≡ []
drop_all [] = refl
drop_all (one ∷ old) = drop_all old

append_nothing : {A : Type 0} (list : List A) → list ++ [] ≡ list
append_nothing [] = refl
append_nothing (one ∷ list) = ap (λ rest. one ∷ rest) (append_nothing list)

-- a block of these cells
abbrev pub block_with : (align : ℕ) → List Cell → Block
block_with align cells = record { align = align; cells = cells }

pub part_is_all : (align : ℕ) (old cells : List Cell) → length cells ≡ length old → with_part (block_with align old) 0 cells ≡ block_with align cells
part_is_all align old cells same =
    ap (λ (rest : List Cell). block_with align (cells ++ rest)) (ap (λ (n : ℕ). drop n old) (counted same) ∙ drop_all old)
    ∙ ap (block_with align) (append_nothing cells)
  where
    counted : length cells ≡ length old → 0 + length cells ≡ length old
    counted is = omega (arith, is)

-- ---- a scalar is stored in a block that is nothing but that

zero_aligned : (size align : ℕ) → 0 < size → align ≡ size → (0 % size == 0 && nat_le size align) ≡ true
zero_aligned zero align some same = elim some [ ]
zero_aligned (suc n) align some same =
    let none : 0 % suc n ≡ 0 = omega arith in
    rw (same, le-leb (suc n) (suc n) (omega arith), none) refl

pub put_whole : (memory : Blocks) (number : ℕ) (align : ℕ) (old : List Cell) (kind : Scalar) (value : Value) → live_block memory number ≡ Some (block_with align old) → align ≡ scalar_size kind → length old ≡ scalar_size kind →
    0 < scalar_size kind → length (cells_of kind value) ≡ scalar_size kind →
    after_put memory (record { block = number; offset = 0 }) kind value ≡ Ok (slice_set memory number (Some (block_with align (cells_of kind value))))
put_whole memory number align old kind value live align_is size some many =
    let block = block_with align old in
    let step : Block → Result Block Fault = λ b. block_with_value b 0 kind value in
    let list = take (scalar_size kind) (drop 0 old) in
    let inside : part_of block 0 (scalar_size kind) ≡ Ok list = part_inside block 0 (scalar_size kind) (omega (arith, size)) in
    let part : scalar_part_of block 0 kind ≡ Ok list =
    ap (λ (found : Result (List Cell) Fault). and_then found (λ held. cond (is_aligned kind block 0) (Ok held) (Err Misaligned))) inside
    ∙ ap (λ (test : Bool). cond test (Ok list) (Err Misaligned)) (zero_aligned (scalar_size kind) align some align_is) in
    ap (λ (slot : Option Block). and_then (live_read slot step) (λ b. Ok (slice_set memory number (Some b)))) live
    ∙ ap (λ (found : Result (List Cell) Fault). and_then (and_then found (λ _. Ok (with_part block 0 (cells_of kind value)))) (λ b. Ok (slice_set memory number (Some b)))) part
    ∙ ap (λ (b : Block). Ok (slice_set memory number (Some b))) (part_is_all align old (cells_of kind value) (many ∙ sym size))

-- ---- what begins

begins_fresh : (modules : List ModuleTree) (ty : Ty) (laid : Laid) (world : World) (units : ℕ) → world.terms ≡ open_ended → laid_of modules ty ≡ Some laid →
    begins_object modules ty world units ≡ came (next_place (blocks_of world)) (with_memory (with_block (zero_block laid.size laid.align) (blocks_of world)) world) units
unfolding begins
begins_fresh modules ty laid world units terms laid_is =
    ap (λ (found : Option Laid). begins_laid found world units) laid_is
    ∙ ap (λ terms_of. after_got units world (begun_at true laid.size laid.align world (after_alloc (limit_of terms_of) (blocks_of world) laid.size laid.align))) terms

pub seq_comes : {A B : Type 0} (first : Run A) (next : A → Run B) (world after : World) (units : ℕ) (given : A) → first world units ≡ came given after units → seq first next world units ≡ next given after units
unfolding seq
seq_comes first next world after units given e = ap (λ r. bind r next) e

store_comes : (ty : Ty) (kind : Scalar) (at : Ptr) (value : Value) (world : World) (after : Blocks) (units : ℕ) → scalar_of ty ≡ Some kind → after_put (blocks_of world) at kind value ≡ Ok after →
    store (spot ty (Object at)) value world units ≡ came tt (with_memory after world) units
unfolding local
store_comes ty kind at value world after units kind_is put =
    ap (λ (k : Option Scalar). after_step world units (in_memory tt world.held (stored_as world.held.blocks true k (Object at) value))) kind_is
    ∙ ap (λ (found : Result Blocks Fault). after_step world units (in_memory tt world.held (or_cause cause_of found))) put

-- what is passed for a parameter fits in its block
pub record IsPassed (modules : List ModuleTree) (param : LocalTree) (arg : Typed) (block : Block) : Type 0 where
  pub laid : Laid
  pub laid_is : laid_of modules param.ty ≡ Some laid
  pub kind : Scalar
  pub kind_is : scalar_of param.ty ≡ Some kind
  pub size : laid.size ≡ scalar_size kind
  pub align : laid.align ≡ scalar_size kind
  pub some : 0 < scalar_size kind
  pub many : length (cells_of kind arg.value) ≡ scalar_size kind
  pub block_is : block ≡ block_with laid.align (cells_of kind arg.value)

abbrev pub ArePassed : List ModuleTree → List LocalTree → List Typed → List Block → Type 0
ArePassed modules [] [] [] = Unit {0}
ArePassed modules (param ∷ params) (arg ∷ args) (block ∷ blocks) = IsPassed modules param arg block × ArePassed modules params args blocks
ArePassed modules [] (arg ∷ args) blocks = ⊥
ArePassed modules [] [] (block ∷ blocks) = ⊥
ArePassed modules (param ∷ params) [] blocks = ⊥
ArePassed modules (param ∷ params) (arg ∷ args) [] = ⊥

-- locals, whose blocks have these numbers, one behind another
abbrev pub locals_from : ℕ → List LocalTree → List LocalBlock
locals_from number [] = []
locals_from number (one ∷ others) = record { name = one.name; ty = one.ty; block = number } ∷ locals_from (suc number) others

one_more : (blocks : Blocks) (block : Block) → length (with_block block blocks) ≡ suc (length blocks)
one_more blocks block = let long = length-append blocks (Some block ∷ []) in omega (arith, long)

abbrev pub in_some : List Block → Blocks
in_some blocks = map (λ (block : Block). Some block) blocks

module _ (modules : List ModuleTree) where
  param_begins : (param : LocalTree) (params : List LocalTree) (arg : Typed) (args : List Typed) (block : Block) (world : World) (units : ℕ) → world.terms ≡ open_ended → IsPassed modules param arg block →
      begin_params modules (param ∷ params) (arg ∷ args) world units
      ≡ seq (begin_params modules params args) (λ others. pure (local_block param (next_place (blocks_of world)) ∷ others)) (with_memory (with_block block (blocks_of world)) world) units
  param_begins param params arg args block world units terms is =
      let at = next_place (blocks_of world) in
      let zeros = zero_block is.laid.size is.laid.align in
      let begun = with_memory (with_block zeros (blocks_of world)) world in
      let put = put_whole (blocks_of begun) (length (blocks_of world)) is.laid.align zeros.cells is.kind arg.value (live_last (blocks_of world) (Some zeros)) is.align (zeros_many is.laid.size ∙ is.size) is.some is.many in
      let seam : slice_set (with_block zeros (blocks_of world)) (length (blocks_of world)) (Some (block_with is.laid.align (cells_of is.kind arg.value))) ≡ with_block block (blocks_of world) =
      set-append_seam (blocks_of world) (Some zeros) [] (Some (block_with is.laid.align (cells_of is.kind arg.value))) ∙ ap (λ (b : Block). with_block b (blocks_of world)) (sym is.block_is) in
      seq_comes (begins_object modules param.ty) _ world begun units at (begins_fresh modules param.ty is.laid world units terms is.laid_is)
      ∙ seq_comes (store (spot param.ty (Object at)) arg.value) _ begun (with_memory (with_block block (blocks_of world)) world) units tt
      (store_comes param.ty is.kind at arg.value begun (with_block block (blocks_of world)) units is.kind_is (put ∙ ap Ok seam))
    where
      zeros_many : (size : ℕ) → length (zero_block size 0).cells ≡ size
      zeros_many size = length-replicate size (byte_cell 0)

  pub params_begin : (params : List LocalTree) (args : List Typed) (blocks : List Block) (world : World) (units : ℕ) → world.terms ≡ open_ended → ArePassed modules params args blocks →
      begin_params modules params args world units ≡ came (locals_from (length (blocks_of world)) params) (with_memory (blocks_of world ++ in_some blocks) world) units
  unfolding pure
  params_begin [] [] [] world units terms are = ap (λ (all : Blocks). came [] (with_memory all world) units) (sym (append_nothing (blocks_of world)))
  params_begin (param ∷ params) (arg ∷ args) (block ∷ blocks) world units terms are =
      let begun = with_memory (with_block block (blocks_of world)) world in
      param_begins param params arg args block world units terms are.0
      ∙ seq_comes (begin_params modules params args) (λ others. pure (local_block param (next_place (blocks_of world)) ∷ others)) begun _ units _ (params_begin params args blocks begun units terms are.1)
      ∙ ap (λ (n : ℕ). came (local_block param (next_place (blocks_of world)) ∷ locals_from n params) (with_memory (with_block block (blocks_of world) ++ in_some blocks) world) units) (one_more (blocks_of world) block)
      ∙ ap (λ (all : Blocks). came (locals_from (length (blocks_of world)) (param ∷ params)) (with_memory all world) units) (append_assoc (blocks_of world) (Some block ∷ []) (in_some blocks))
  params_begin [] [] (block ∷ blocks) world units terms are = absurd are
  params_begin [] (arg ∷ args) blocks world units terms are = absurd are
  params_begin (param ∷ params) [] blocks world units terms are = absurd are
  params_begin (param ∷ params) (arg ∷ args) [] world units terms are = absurd are

  -- ---- locals

  abbrev pub AreZero : List LocalTree → List Block → Type 0
  AreZero [] [] = Unit {0}
  AreZero (one ∷ others) (block ∷ blocks) = (laid : Laid) × (laid_of modules one.ty ≡ Some laid) × (block ≡ zero_block laid.size laid.align) × AreZero others blocks
  AreZero [] (block ∷ blocks) = ⊥
  AreZero (one ∷ others) [] = ⊥

  pub locals_begin : (locals : List LocalTree) (blocks : List Block) (world : World) (units : ℕ) → world.terms ≡ open_ended → AreZero locals blocks →
      begin_locals modules locals world units ≡ came (locals_from (length (blocks_of world)) locals) (with_memory (blocks_of world ++ in_some blocks) world) units
  unfolding pure
  locals_begin [] [] world units terms are = ap (λ (all : Blocks). came [] (with_memory all world) units) (sym (append_nothing (blocks_of world)))
  locals_begin (one ∷ others) (block ∷ blocks) world units terms are =
      let zeros = zero_block are.0.size are.0.align in
      let begun = with_memory (with_block zeros (blocks_of world)) world in
      seq_comes (begins_object modules one.ty) _ world begun units (next_place (blocks_of world)) (begins_fresh modules one.ty are.0 world units terms are.1)
      ∙ seq_comes (begin_locals modules others) (λ rest. pure (local_block one (next_place (blocks_of world)) ∷ rest)) begun _ units _ (locals_begin others blocks begun units terms are.3)
      ∙ ap (λ (n : ℕ). came (local_block one (next_place (blocks_of world)) ∷ locals_from n others) (with_memory (with_block zeros (blocks_of world) ++ in_some blocks) world) units) (one_more (blocks_of world) zeros)
      ∙ ap (λ (all : Blocks). came (locals_from (length (blocks_of world)) (one ∷ others)) (with_memory all world) units)
      (append_assoc (blocks_of world) (Some zeros ∷ []) (in_some blocks) ∙ ap (λ (b : Block). blocks_of world ++ Some b ∷ in_some blocks) (sym are.2))
  locals_begin [] (block ∷ blocks) world units terms are = absurd are
  locals_begin (one ∷ others) [] world units terms are = absurd are
