-- A value is stored in a temporary, and read from it later.
use Rattle.std.proofs.Common.{◌≡◌, ℕ, zero, suc, ◌<◌, ◌==◌, ◌%◌, Bool, true, false, ◌&&◌, nat_le, List, [], ◌∷◌, take, drop, length, cond, Option, Some, Result, Ok, Err, slice_set, refl, ap, subst, ◌∙◌, arith}
use Rattle.std.proofs.lemmas.Bool.{le-leb}
use Rattle.std.proofs.lemmas.Bool.Decides.{nat_tests}
use Rattle.cr_base.specs.declared.layout.Laid.{Laid}
use Rattle.cr_base.specs.declared.scalar.Scalar.{Scalar}
use Rattle.cr_base.specs.declared.scalar.Scalar.TheVariants as scalars
use Rattle.cr_runs.specs.Runs.{came, bind}
use Rattle.cr_world.specs.Held.{with_blocks}
use Rattle.cr_world.specs.World.{World, blocks_of, with_held}
use Rattle.cx_mean.specs.Marks.{Range}
use Rattle.lift_calls.specs.Frames.{KeptTemporary, IsLocal}
use Rattle.lift_does.proofs.Around.{Around, At, LaterAt, Reached, runs}
use Rattle.lift_does.proofs.Reaching.{at_after}
use Rattle.lift_does.proofs.Runs.{run_one}
use Rattle.lift_does.specs.Later.{TemporariesStay}
use Rattle.lift_exprs.specs.Written.{temporary_place}
use Rattle.lift_forms_laws.specs.Gives.{GivesAt, GivesPlace}
use Rattle.lift_stands.specs.Stands.{Images, IsVacant}
use Rattle.lift_stands.specs.Worlds.{HeldStands}
use Rattle.lift_stands_lives.proofs.Begun.{worlds_held}
use Rattle.lift_stands_lives.proofs.Steps.{stores_aside_keep}
use Rattle.lift_stands_lives.proofs.Stored.{written_aside}
use Rattle.mem_bytes.proofs.Held.{held_later}
use Rattle.mem_bytes.proofs.Reached.{part_inside}
use Rattle.mem_bytes.proofs.Written.{put_writes, loads_stored}
use Rattle.mem_bytes.specs.Access.{and_then, part_of, is_aligned, scalar_part_of, block_value, block_with_value, live_read, value_at, after_put}
use Rattle.mem_bytes.specs.Coding.{IsScalar, IsValueOf, scalar_size, cells_of}
use Rattle.mem_bytes.specs.Laws.{HoldsCells, Later}
use Rattle.mem_bytes.specs.Memory.{Block, Blocks, live_block, size_of, with_part}
use Rattle.mem_bytes.specs.declared.cell.Cell.{Cell}
use Rattle.mem_bytes.specs.declared.fault.Fault.{Fault}
use Rattle.mem_bytes.specs.declared.fault.Fault.TheVariants.{Misaligned}
use Rattle.mem_bytes.specs.declared.value.Ptr.{Ptr}
use Rattle.mem_bytes.specs.declared.value.Value.{Value}
use Rattle.mem_bytes.specs.declared.value.Value.TheVariants.{Object}
use Rattle.rs_mean.specs.Calls.{spot, store, in_memory, stored_as, load, with_type, loaded_as}
use Rattle.rs_mean.specs.Layout.{laid_of}
use Rattle.rs_mean.specs.Lookups.{Home, LocalBlock}
use Rattle.rs_mean.specs.Run.{Frame, normal, run_expr, run_place, run_stmt, spot_of_home, goes_on}
use Rattle.rs_mean.specs.Scalars.{scalar_of}
use Rattle.rs_mean.specs.Values.{typed}
use Rattle.rs_mean.specs.World.{Run, pure, seq, local, after_step, kept, or_cause, cause_of}
use Rattle.rs_text.specs.Tree.{Ty, Integer, Boolean, Void, Pointer, Array, Code, Record, Local, Expr, Read, Assign, ModuleTree}
use Rattle.rs_text.specs.declared.integer.IntegerTy.TheVariants.{I8, I16, I32, I64, U8, U16, U32, U64, Isize, Usize}

-- ---- a scalar type has the size and the alignment of its scalar

pub record HasScalar (ty : Ty) (laid : Laid) (kind : Scalar) : Type 0 where
  pub is_scalar : IsScalar kind
  pub size : laid.size ≡ scalar_size kind
  pub align : laid.align ≡ scalar_size kind
  pub some : 0 < scalar_size kind

pub scalar_laid : (modules : List ModuleTree) (ty : Ty) (laid : Laid) (kind : Scalar) → scalar_of ty ≡ Some kind → laid_of modules ty ≡ Some laid → HasScalar ty laid kind
scalar_laid modules (Integer I8) laid kind e f = let k : scalars.Whole 8 true ≡ kind = cc (e) in let l : record { size = 1; align = 1 } ≡ laid = cc (f) in subst (HasScalar (Integer I8) laid) k (subst (λ (one : Laid). HasScalar (Integer I8) one (scalars.Whole 8 true)) l (record { is_scalar = refl; size = refl; align = refl; some = omega arith }))
scalar_laid modules (Integer I16) laid kind e f = let k : scalars.Whole 16 true ≡ kind = cc (e) in let l : record { size = 2; align = 2 } ≡ laid = cc (f) in subst (HasScalar (Integer I16) laid) k (subst (λ (one : Laid). HasScalar (Integer I16) one (scalars.Whole 16 true)) l (record { is_scalar = refl; size = refl; align = refl; some = omega arith }))
scalar_laid modules (Integer I32) laid kind e f = let k : scalars.Whole 32 true ≡ kind = cc (e) in let l : record { size = 4; align = 4 } ≡ laid = cc (f) in subst (HasScalar (Integer I32) laid) k (subst (λ (one : Laid). HasScalar (Integer I32) one (scalars.Whole 32 true)) l (record { is_scalar = refl; size = refl; align = refl; some = omega arith }))
scalar_laid modules (Integer I64) laid kind e f = let k : scalars.Whole 64 true ≡ kind = cc (e) in let l : record { size = 8; align = 8 } ≡ laid = cc (f) in subst (HasScalar (Integer I64) laid) k (subst (λ (one : Laid). HasScalar (Integer I64) one (scalars.Whole 64 true)) l (record { is_scalar = refl; size = refl; align = refl; some = omega arith }))
scalar_laid modules (Integer U8) laid kind e f = let k : scalars.Whole 8 false ≡ kind = cc (e) in let l : record { size = 1; align = 1 } ≡ laid = cc (f) in subst (HasScalar (Integer U8) laid) k (subst (λ (one : Laid). HasScalar (Integer U8) one (scalars.Whole 8 false)) l (record { is_scalar = refl; size = refl; align = refl; some = omega arith }))
scalar_laid modules (Integer U16) laid kind e f = let k : scalars.Whole 16 false ≡ kind = cc (e) in let l : record { size = 2; align = 2 } ≡ laid = cc (f) in subst (HasScalar (Integer U16) laid) k (subst (λ (one : Laid). HasScalar (Integer U16) one (scalars.Whole 16 false)) l (record { is_scalar = refl; size = refl; align = refl; some = omega arith }))
scalar_laid modules (Integer U32) laid kind e f = let k : scalars.Whole 32 false ≡ kind = cc (e) in let l : record { size = 4; align = 4 } ≡ laid = cc (f) in subst (HasScalar (Integer U32) laid) k (subst (λ (one : Laid). HasScalar (Integer U32) one (scalars.Whole 32 false)) l (record { is_scalar = refl; size = refl; align = refl; some = omega arith }))
scalar_laid modules (Integer U64) laid kind e f = let k : scalars.Whole 64 false ≡ kind = cc (e) in let l : record { size = 8; align = 8 } ≡ laid = cc (f) in subst (HasScalar (Integer U64) laid) k (subst (λ (one : Laid). HasScalar (Integer U64) one (scalars.Whole 64 false)) l (record { is_scalar = refl; size = refl; align = refl; some = omega arith }))
scalar_laid modules (Integer Isize) laid kind e f = let k : scalars.Whole 64 true ≡ kind = cc (e) in let l : record { size = 8; align = 8 } ≡ laid = cc (f) in subst (HasScalar (Integer Isize) laid) k (subst (λ (one : Laid). HasScalar (Integer Isize) one (scalars.Whole 64 true)) l (record { is_scalar = refl; size = refl; align = refl; some = omega arith }))
scalar_laid modules (Integer Usize) laid kind e f = let k : scalars.Whole 64 false ≡ kind = cc (e) in let l : record { size = 8; align = 8 } ≡ laid = cc (f) in subst (HasScalar (Integer Usize) laid) k (subst (λ (one : Laid). HasScalar (Integer Usize) one (scalars.Whole 64 false)) l (record { is_scalar = refl; size = refl; align = refl; some = omega arith }))
scalar_laid modules Boolean laid kind e f = let k : scalars.Truth ≡ kind = cc (e) in let l : record { size = 1; align = 1 } ≡ laid = cc (f) in subst (HasScalar Boolean laid) k (subst (λ (one : Laid). HasScalar Boolean one scalars.Truth) l (record { is_scalar = tt; size = refl; align = refl; some = omega arith }))
scalar_laid modules (Pointer target) laid kind e f = let k : scalars.Object ≡ kind = cc (e) in let l : record { size = 8; align = 8 } ≡ laid = cc (f) in subst (HasScalar (Pointer target) laid) k (subst (λ (one : Laid). HasScalar (Pointer target) one scalars.Object) l (record { is_scalar = tt; size = refl; align = refl; some = omega arith }))
scalar_laid modules (Code params result) laid kind e f = let k : scalars.Code ≡ kind = cc (e) in let l : record { size = 8; align = 8 } ≡ laid = cc (f) in subst (HasScalar (Code params result) laid) k (subst (λ (one : Laid). HasScalar (Code params result) one scalars.Code) l (record { is_scalar = tt; size = refl; align = refl; some = omega arith }))
scalar_laid modules Void laid kind e f = cc (e)
scalar_laid modules (Array element size) laid kind e f = cc (e)
scalar_laid modules (Record m x) laid kind e f = cc (e)

-- ---- a value fits

pub zero_aligned : (size align : ℕ) → 0 < size → align ≡ size → (0 % size == 0 && nat_le size align) ≡ true
zero_aligned zero align some same = elim some [ ]
zero_aligned (suc n) align some same =
    let none : 0 % suc n ≡ 0 = omega arith in
    rw (same, le-leb (suc n) (suc n) (omega arith), none) refl

put_fits : (memory : Blocks) (number : ℕ) (block : Block) (kind : Scalar) (value : Value) → live_block memory number ≡ Some block → block.align ≡ scalar_size kind → size_of block ≡ scalar_size kind → 0 < scalar_size kind →
    (after : Blocks) × (after_put memory (record { block = number; offset = 0 }) kind value ≡ Ok after)
put_fits memory number block kind value live align size some =
    let cells = cells_of kind value in
    let step : Block → Result Block Fault = λ b. block_with_value b 0 kind value in
    let list = take (scalar_size kind) (drop 0 block.cells) in
    let inside : part_of block 0 (scalar_size kind) ≡ Ok list = part_inside block 0 (scalar_size kind) (omega (arith, size)) in
    let part : scalar_part_of block 0 kind ≡ Ok list =
    ap (λ (found : Result (List Cell) Fault). and_then found (λ held. cond (is_aligned kind block 0) (Ok held) (Err Misaligned))) inside
    ∙ ap (λ (test : Bool). cond test (Ok list) (Err Misaligned)) (zero_aligned (scalar_size kind) block.align some align) in (
      slice_set memory number (Some (with_part block 0 cells)),
      ap (λ (slot : Option Block). and_then (live_read slot step) (λ b. Ok (slice_set memory number (Some b)))) live
          ∙ ap (λ (found : Result (List Cell) Fault). and_then (and_then found (λ _. Ok (with_part block 0 cells))) (λ b. Ok (slice_set memory number (Some b)))) part,
    )

-- ---- pieces of the crate

pub seq_comes : {A B : Type 0} (first : Run A) (next : A → Run B) (world after : World) (units : ℕ) (given : A) → first world units ≡ came given after units → seq first next world units ≡ next given after units
unfolding seq
seq_comes first next world after units given e = ap (λ r. bind r next) e

local_comes : (frame : Frame) (name : List ℕ) (one : LocalBlock) (world : World) → IsLocal frame name one → (units : ℕ) → run_place frame (Local name) world units ≡ came (spot one.ty (Object (record { block = one.block; offset = 0 }))) world units
unfolding pure
local_comes frame name one world is units = ap (λ (home : Option Home). spot_of_home home world units) is.found

pub place_of_local : (frame : Frame) (name : List ℕ) (one : LocalBlock) (world : World) → IsLocal frame name one → GivesPlace frame world (Local name) (spot one.ty (Object (record { block = one.block; offset = 0 })))
place_of_local frame name one world is = record { runs = local_comes frame name one world is }

load_comes : (one : LocalBlock) (kind : Scalar) (value : Value) (world : World) → scalar_of one.ty ≡ Some kind → value_at (blocks_of world) (record { block = one.block; offset = 0 }) kind ≡ Ok value → (units : ℕ) →
    load (spot one.ty (Object (record { block = one.block; offset = 0 }))) world units ≡ came (typed one.ty value) world units
unfolding local
load_comes one kind value world kind_is found units =
    ap (λ (k : Option Scalar). after_step world units (kept world.held (with_type one.ty (loaded_as world.held.blocks true k (Object (record { block = one.block; offset = 0 })))))) kind_is
    ∙ ap (λ (result : Result Value Fault). after_step world units (kept world.held (with_type one.ty (or_cause cause_of result)))) found

store_comes : (ty : Ty) (kind : Scalar) (at : Ptr) (value : Value) (world : World) (after : Blocks) (units : ℕ) → scalar_of ty ≡ Some kind → after_put (blocks_of world) at kind value ≡ Ok after →
    store (spot ty (Object at)) value world units ≡ came tt (with_held (with_blocks after world.held) world) units
unfolding local
store_comes ty kind at value world after units kind_is put =
    ap (λ (k : Option Scalar). after_step world units (in_memory tt world.held (stored_as world.held.blocks true k (Object at) value))) kind_is
    ∙ ap (λ (found : Result Blocks Fault). after_step world units (in_memory tt world.held (or_cause cause_of found))) put

pub put_comes : (frame : Frame) (name : List ℕ) (one : LocalBlock) (kind : Scalar) (value : Value) (world : World) (after : Blocks) (units : ℕ) → IsLocal frame name one → scalar_of one.ty ≡ Some kind →
    after_put (blocks_of world) (record { block = one.block; offset = 0 }) kind value ≡ Ok after →
    seq (run_place frame (Local name)) (λ place. seq (store place value) goes_on) world units ≡ came normal (with_held (with_blocks after world.held) world) units
unfolding pure
put_comes frame name one kind value world after units is kind_is put =
    seq_comes (run_place frame (Local name)) _ world world units (spot one.ty (Object (record { block = one.block; offset = 0 }))) ((place_of_local frame name one world is).runs units)
    ∙ seq_comes (store (spot one.ty (Object (record { block = one.block; offset = 0 }))) value) goes_on world (with_held (with_blocks after world.held) world) units tt (store_comes one.ty kind (record { block = one.block; offset = 0 }) value world after units kind_is put)

pub assign_comes : (frame : Frame) (name : List ℕ) (one : LocalBlock) (kind : Scalar) (e : Expr) (from : Ty) (value : Value) (world : World) (after : Blocks) (units : ℕ) → IsLocal frame name one → scalar_of one.ty ≡ Some kind →
    GivesAt frame world e from value → after_put (blocks_of world) (record { block = one.block; offset = 0 }) kind value ≡ Ok after →
    run_stmt frame (Assign (Local name) e) world units ≡ came normal (with_held (with_blocks after world.held) world) units
assign_comes frame name one kind e from value world after units is kind_is gives put =
    seq_comes (run_expr frame e) _ world world units (typed from value) (gives.runs units) ∙ put_comes frame name one kind value world after units is kind_is put

pub read_comes : (frame : Frame) (name : List ℕ) (one : LocalBlock) (kind : Scalar) (value : Value) (world : World) → IsLocal frame name one → scalar_of one.ty ≡ Some kind → value_at (blocks_of world) (record { block = one.block; offset = 0 }) kind ≡ Ok value →
    GivesAt frame world (Read (Local name)) one.ty value
read_comes frame name one kind value world is kind_is found = record { runs = runs_at }
  where
    runs_at : (units : ℕ) → run_expr frame (Read (Local name)) world units ≡ came (typed one.ty value) world units
    runs_at units =
        seq_comes (run_place frame (Local name)) load world world units (spot one.ty (Object (record { block = one.block; offset = 0 }))) ((place_of_local frame name one world is).runs units)
        ∙ load_comes one kind value world kind_is found units

-- ---- temporaries

-- a temporary holds a value
pub record TemporaryHolds (x : Around) (number : ℕ) (ty : Ty) (kind : Scalar) (value : Value) (world : World) : Type 0 where
  pub one : KeptTemporary
  pub kept_is : x.kept.temporaries number ≡ Some one
  pub name_is : one.name ≡ x.names.temporary number
  pub local : LocalBlock
  pub is_local : IsLocal x.frame one.name local
  pub ty_is : local.ty ≡ ty
  pub kind_is : scalar_of ty ≡ Some kind
  pub found : value_at (blocks_of world) (record { block = local.block; offset = 0 }) kind ≡ Ok value

-- a value is stored in a temporary
pub record StoresValue (x : Around) (number : ℕ) (ty : Ty) (kind : Scalar) (value : Value) (images : Images) (c_world world : World) : Type 0 where
  pub after : World
  pub comes : (units : ℕ) → seq (run_place x.frame (temporary_place x.names number)) (λ place. seq (store place value) goes_on) world units ≡ came normal after units
  pub reached : Reached x number (suc number) images images c_world world c_world after
  pub holds : TemporaryHolds x number ty kind value after

pub record StoresTemporary (x : Around) (number : ℕ) (ty : Ty) (kind : Scalar) (e : Expr) (value : Value) (images : Images) (c_world world : World) : Type 0 where
  pub after : World
  pub comes : (units : ℕ) → runs x (Assign (temporary_place x.names number) e ∷ []) world units ≡ came normal after units
  pub reached : Reached x number (suc number) images images c_world world c_world after
  pub holds : TemporaryHolds x number ty kind value after

module _ (x : Around) where
  abbrev is_block : ℕ → ℕ → Bool
  is_block block number = block == number

  pub stores_value : (number : ℕ) (ty : Ty) (kind : Scalar) (value : Value) (images : Images) (c_world world : World) → At x images c_world world →
      x.kept.temporaries number ≡ Some (record { name = x.names.temporary number; ty = ty }) → scalar_of ty ≡ Some kind → IsValueOf kind value → StoresValue x number ty kind value images c_world world
  stores_value number ty kind value images c_world world at kept_is kind_is of_kind =
      let one : KeptTemporary = record { name = x.names.temporary number; ty = ty } in
      let agrees = at.frames.temporaries number one kept_is in
      let one_local = agrees.local in
      let lives = at.frames.lives one_local agrees.is_local.among in
      let has = scalar_laid x.s.modules one_local.ty lives.laid kind (ap scalar_of agrees.ty_is ∙ kind_is) lives.laid_is in
      let there : Ptr = record { block = one_local.block; offset = 0 } in
      let put = put_fits (blocks_of world) one_local.block lives.block kind value lives.live (lives.align ∙ has.align) (lives.size ∙ has.size) has.some in
      let writes = put_writes (blocks_of world) put.0 there kind value has.is_scalar of_kind put.1 in
      let free : IsVacant images (blocks_of c_world) one_local.block = λ block living f. agrees.no_image block f in
      let after : World = with_held (with_blocks put.0 world.held) world in
      let holds : HoldsCells put.0 = held_later (blocks_of world) put.0 at.worlds.held.memories.others_held (Later.put there kind value Later.now has.is_scalar of_kind put.1) in
      let stands : HeldStands images c_world.held (with_blocks put.0 world.held) = written_aside images c_world.held world.held there (scalar_size kind) put.0 at.worlds.held free writes holds in
      let keeps = stores_aside_keep (length (blocks_of world)) (λ k. one_local.block == k) images c_world.held world.held at.worlds.held.memories.mapped there (scalar_size kind) put.0 writes (λ p vacant. same_number one_local.block) in
      record {
        after = after;
        comes = λ units. put_comes x.frame one.name one_local kind value world put.0 units agrees.is_local (ap scalar_of agrees.ty_is ∙ kind_is) put.1;
        reached = record {
          own = λ k. one_local.block == k;
          are_own = λ block is. record {
            number = number;
            from_is = omega arith;
            below = omega arith;
            one = one;
            kept_is = kept_is;
            local = one_local;
            is_local = agrees.is_local;
            block_is = number_equal one_local.block block is;
          };
          keeps = keeps;
          at = at_after x images images (λ k. one_local.block == k) c_world world c_world after at keeps (worlds_held images images c_world world c_world.held (with_blocks put.0 world.held) at.worlds stands) at.typed;
        };
        holds = record {
          one = one;
          kept_is = kept_is;
          name_is = refl;
          local = one_local;
          is_local = agrees.is_local;
          ty_is = agrees.ty_is;
          kind_is = kind_is;
          found = loads_stored (blocks_of world) put.0 there kind value has.is_scalar of_kind put.1;
        };
      }
    where
      same_number : (n : ℕ) → (n == n) ≡ true
      same_number n = grind (arith, nat_tests)

      number_equal : (n m : ℕ) → (n == m) ≡ true → n ≡ m
      number_equal n m is = grind (arith, nat_tests, is)

  pub stores_temporary : (number : ℕ) (ty : Ty) (kind : Scalar) (e : Expr) (from : Ty) (value : Value) (images : Images) (c_world world : World) → At x images c_world world →
      x.kept.temporaries number ≡ Some (record { name = x.names.temporary number; ty = ty }) → scalar_of ty ≡ Some kind → IsValueOf kind value → GivesAt x.frame world e from value → StoresTemporary x number ty kind e value images c_world world
  stores_temporary number ty kind e from value images c_world world at kept_is kind_is of_kind gives =
      let stored = stores_value number ty kind value images c_world world at kept_is kind_is of_kind in
      record {
        after = stored.after;
        comes = λ units. run_one x.frame (Assign (temporary_place x.names number) e) world stored.after units
            (seq_comes (run_expr x.frame e) (λ one. seq (run_place x.frame (temporary_place x.names number)) (λ place. seq (store place one.value) goes_on)) world world units (typed from value) (gives.runs units) ∙ stored.comes units);
        reached = stored.reached;
        holds = stored.holds;
      }

  -- it is read where temporaries are what they were
  pub reads_staying : (number below : ℕ) (ty : Ty) (kind : Scalar) (value : Value) (world later : World) → number < below → TemporaryHolds x number ty kind value world → TemporariesStay x.kept x.frame below world later →
      GivesAt x.frame later (Read (temporary_place x.names number)) ty value
  reads_staying number below ty kind value world later p holds stay =
      let stays : live_block (blocks_of later) holds.local.block ≡ live_block (blocks_of world) holds.local.block = stay number holds.one holds.local p holds.kept_is holds.is_local in
      let found : value_at (blocks_of later) (record { block = holds.local.block; offset = 0 }) kind ≡ Ok value =
      ap (λ (slot : Option Block). live_read slot (λ block. block_value block 0 kind)) stays ∙ holds.found in
      subst (λ (name : List ℕ). GivesAt x.frame later (Read (Local name)) ty value) holds.name_is
      (subst (λ (t : Ty). GivesAt x.frame later (Read (Local holds.one.name)) t value) holds.ty_is
      (read_comes x.frame holds.one.name holds.local kind value later holds.is_local (ap scalar_of holds.ty_is ∙ holds.kind_is) found))

  -- and so later
  pub reads_temporary : (number below : ℕ) (ty : Ty) (kind : Scalar) (value : Value) (images last : Images) (fixed : Bool) (reads : List Range) (c_world world c_later later : World) → number < below →
      TemporaryHolds x number ty kind value world → LaterAt x images last below fixed reads c_world world c_later later → GivesAt x.frame later (Read (temporary_place x.names number)) ty value
  reads_temporary number below ty kind value images last fixed reads c_world world c_later later p holds is_later = reads_staying number below ty kind value world later p holds is_later.temporaries
