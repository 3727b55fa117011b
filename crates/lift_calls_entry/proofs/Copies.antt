-- A structure or union that is passed is copied to its local.
use Rattle.std.proofs.Common.{◌≡◌, ◌∙◌, ℕ, zero, suc, ◌<◌, ◌==◌, pos, true, false, List, length, Option, Some, Result, Ok, slice_set, refl, sym, ap, arith}
use Rattle.std.proofs.lemmas.Bool.{cond-false, ne_eqb}
use Rattle.cr_base.specs.declared.scalar.Scalar.TheVariants.{Object as Address}
use Rattle.cr_runs.specs.Runs.{came}
use Rattle.cr_world.specs.Known.{unless_overlapping, accessed_as}
use Rattle.cr_world.specs.World.{World, blocks_of, with_memory}
use Rattle.lift_calls.specs.Frames.{IsLocal}
use Rattle.lift_calls_entry.proofs.Fresh.{seq_comes, block_with, part_is_all}
use Rattle.lift_exprs.specs.Written.{as_bytes, copied}
use Rattle.lift_stands.proofs.Loads.{read_live}
use Rattle.mem_bytes.proofs.Reached.{part_inside, length_part}
use Rattle.mem_bytes.specs.Access.{and_then, part_of, value_at, part_at, copied_between, after_copy}
use Rattle.mem_bytes.specs.Memory.{Block, Blocks, live_block, with_part}
use Rattle.mem_bytes.specs.declared.cell.Cell.{Cell}
use Rattle.mem_bytes.specs.declared.fault.Fault.{Fault}
use Rattle.mem_bytes.specs.declared.value.Ptr.{Ptr}
use Rattle.mem_bytes.specs.declared.value.Value.{Value}
use Rattle.mem_bytes.specs.declared.value.Value.TheVariants.{Whole, Object}
use Rattle.rs_mean.specs.Calls.{spot, load, with_type, loaded_as, copies_as, copies}
use Rattle.rs_mean.specs.Lookups.{Home, LocalBlock}
use Rattle.rs_mean.specs.Run.{Frame, normal, run_expr, run_place, run_stmt, spot_of_home, goes_on}
use Rattle.rs_mean.specs.Scalars.{scalar_of}
use Rattle.rs_mean.specs.Values.{typed, cast_of}
use Rattle.rs_mean.specs.World.{pure, local, after_step, kept, or_cause, or_fails, cause_of}
use Rattle.rs_text.specs.Tree.{Ty, Integer, Pointer, Local, Expr, Read, AddressOf, Literal}
use Rattle.rs_text.specs.declared.integer.IntegerTy.TheVariants.{U8, Usize}

abbrev at_start : ℕ → Ptr
at_start block = record { block = block; offset = 0 }

-- ---- expressions

place_comes : (frame : Frame) (name : List ℕ) (one : LocalBlock) (world : World) (units : ℕ) → IsLocal frame name one → run_place frame (Local name) world units ≡ came (spot one.ty (Object (at_start one.block))) world units
unfolding pure
place_comes frame name one world units is = ap (λ (home : Option Home). spot_of_home home world units) is.found

bytes_comes : (frame : Frame) (e : Expr) (to : Ty) (value : Value) (world : World) (units : ℕ) → run_expr frame e world units ≡ came (typed (Pointer to) value) world units →
    run_expr frame (as_bytes e) world units ≡ came (typed (Pointer (Integer U8)) value) world units
unfolding pure
bytes_comes frame e to value world units is = seq_comes (run_expr frame e) (λ v. or_fails (cast_of (Pointer (Integer U8)) v)) world world units (typed (Pointer to) value) is

address_comes : (frame : Frame) (name : List ℕ) (one : LocalBlock) (world : World) (units : ℕ) → IsLocal frame name one →
    run_expr frame (AddressOf (Local name)) world units ≡ came (typed (Pointer one.ty) (Object (at_start one.block))) world units
unfolding pure
address_comes frame name one world units is =
    seq_comes (run_place frame (Local name)) _ world world units (spot one.ty (Object (at_start one.block))) (place_comes frame name one world units is)

pointer_comes : (frame : Frame) (name : List ℕ) (one : LocalBlock) (to : Ty) (value : Value) (world : World) (units : ℕ) → IsLocal frame name one → one.ty ≡ Pointer to →
    value_at (blocks_of world) (at_start one.block) Address ≡ Ok value → run_expr frame (Read (Local name)) world units ≡ came (typed (Pointer to) value) world units
unfolding local
pointer_comes frame name one to value world units is ty_is found =
    seq_comes (run_place frame (Local name)) load world world units (spot one.ty (Object (at_start one.block))) (place_comes frame name one world units is)
    ∙ ap (λ (ty : Ty). after_step world units (kept world.held (with_type ty (loaded_as world.held.blocks true (scalar_of ty) (Object (at_start one.block)))))) ty_is
    ∙ ap (λ (result : Result Value Fault). after_step world units (kept world.held (with_type (Pointer to) (or_cause cause_of result)))) found

-- ---- the copy

into_whole : (memory : Blocks) (source : Ptr) (target n align : ℕ) (old cells : List Cell) → live_block memory target ≡ Some (block_with align old) → length old ≡ suc n → part_at memory source (suc n) ≡ Ok cells →
    after_copy memory source (at_start target) (suc n) ≡ Ok (slice_set memory target (Some (block_with align cells)))
into_whole memory source target n align old cells live size found =
    let from = read_live (live_block memory source.block) (λ block. part_of block source.offset (suc n)) cells found in
    let block = block_with align old in
    let some : (suc n == 0) ≡ false = ne_eqb (suc n) 0 (λ none. omega arith) in
    let many : length cells ≡ suc n = length_part from.0 source.offset (suc n) cells from.2 in
    cond-false _ _ _ some
    ∙ ap (λ (slot : Option Block). copied_between memory source (at_start target) (suc n) slot (live_block memory target)) from.1
    ∙ ap (λ (slot : Option Block). copied_between memory source (at_start target) (suc n) (Some from.0) slot) live
    ∙ ap (λ (part : Result (List Cell) Fault). and_then (and_then part (λ list. and_then (part_of block 0 (suc n)) (λ _. Ok (with_part block 0 list)))) (λ b. Ok (slice_set memory target (Some b)))) from.2
    ∙ ap (λ (part : Result (List Cell) Fault). and_then (and_then part (λ _. Ok (with_part block 0 cells))) (λ b. Ok (slice_set memory target (Some b)))) (part_inside block 0 (suc n) (omega (arith, size)))
    ∙ ap (λ (b : Block). Ok (slice_set memory target (Some b))) (part_is_all align old cells (many ∙ sym size))

copies_comes : (source target n : ℕ) (from : Ptr) (one other : Ty) (world : World) (after : Blocks) (units : ℕ) → after_copy (blocks_of world) from (at_start target) (suc n) ≡ Ok after →
    copies (typed one (Object from)) (typed other (Object (at_start target))) (typed (Integer Usize) (Whole (pos (suc n)))) world units ≡ came tt (with_memory after world) units
unfolding local
copies_comes source target n from one other world after units is =
    ap (λ (result : Result Blocks Fault). after_step world units (copies_as (unless_overlapping true (at_start target) from (suc n) (accessed_as (Object (at_start target)) world.held result)))) is

pub copy_comes : (frame : Frame) (passed target : LocalBlock) (passed_name target_name : List ℕ) (to : Ty) (source : Ptr) (size align : ℕ) (old cells : List Cell) (world : World) (units : ℕ) → IsLocal frame passed_name passed →
    passed.ty ≡ Pointer to → value_at (blocks_of world) (at_start passed.block) Address ≡ Ok (Object source) → IsLocal frame target_name target → live_block (blocks_of world) target.block ≡ Some (block_with align old) → length old ≡ size → 0 < size →
    part_at (blocks_of world) source size ≡ Ok cells →
    run_stmt frame (copied (Read (Local passed_name)) (AddressOf (Local target_name)) size) world units ≡ came normal (with_memory (slice_set (blocks_of world) target.block (Some (block_with align cells))) world) units
unfolding pure
copy_comes frame passed target passed_name target_name to source zero align old cells world units is_passed ty_is holds is_target live many some found = elim some [ ]
copy_comes frame passed target passed_name target_name to source (suc n) align old cells world units is_passed ty_is holds is_target live many some found =
    let after = slice_set (blocks_of world) target.block (Some (block_with align cells)) in
    seq_comes (run_expr frame (as_bytes (Read (Local passed_name)))) _ world world units (typed (Pointer (Integer U8)) (Object source))
    (bytes_comes frame (Read (Local passed_name)) to (Object source) world units (pointer_comes frame passed_name passed to (Object source) world units is_passed ty_is holds))
    ∙ seq_comes (run_expr frame (as_bytes (AddressOf (Local target_name)))) _ world world units (typed (Pointer (Integer U8)) (Object (at_start target.block)))
    (bytes_comes frame (AddressOf (Local target_name)) target.ty (Object (at_start target.block)) world units (address_comes frame target_name target world units is_target))
    ∙ seq_comes (run_expr frame (Literal (pos (suc n)) Usize)) _ world world units (typed (Integer Usize) (Whole (pos (suc n)))) refl
    ∙ seq_comes (copies (typed (Pointer (Integer U8)) (Object source)) (typed (Pointer (Integer U8)) (Object (at_start target.block))) (typed (Integer Usize) (Whole (pos (suc n))))) goes_on world (with_memory after world) units tt
    (copies_comes source.block target.block n source (Pointer (Integer U8)) (Pointer (Integer U8)) world after units (into_whole (blocks_of world) source target.block n align old cells live many found))
