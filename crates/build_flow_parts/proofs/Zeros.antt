-- What is written where an object becomes zero fills its local with zero bytes: a scalar is stored, bytes of a local that holds zeros are copied (ISO C99, 6.7.8p10 and p21).
use Rattle.std.proofs.Common.{◌≡◌, ◌∙◌, ℕ, zero, suc, pos, ◌<◌, ◌≤◌, cond, Bool, true, false, List, [], ◌∷◌, map, replicate, slice_set, take, drop, Option, Some, Result, Ok, Err, if◌then◌else◌, refl, sym, ap, subst, arith}
use Rattle.cr_base.specs.declared.layout.Laid.{Laid}
use Rattle.cr_base.specs.declared.scalar.Scalar.{Scalar}
use Rattle.cr_runs.specs.Runs.{came}
use Rattle.cr_world.specs.Held.{with_blocks}
use Rattle.cr_world.specs.World.{World, blocks_of, with_held}
use Rattle.cx_core.specs.Trees.{CTy}
use Rattle.cx_mean.specs.Operands.{Slot, Frame as CFrame}
use Rattle.build_flow_lives.specs.Standing.{Calling, Standing}
use Rattle.build_flow_nodes.specs.Parts.{cleared}
use Rattle.lift_calls.specs.Bodies.{HoldsZeros}
use Rattle.lift_calls.specs.Frames.{KeptTemporary}
use Rattle.lift_does.proofs.Around.{Around}
use Rattle.lift_does.proofs.Copies.{copy_fits, copy_comes, bytes_copied, temporary_address}
use Rattle.lift_does.proofs.LiteralZeros.{zero_cells, has_kind}
use Rattle.lift_does.proofs.Runs.{run_one}
use Rattle.lift_does.proofs.Temporaries.{scalar_laid, zero_aligned, assign_comes}
use Rattle.lift_exprs.specs.Names.{kept_or, type_in}
use Rattle.lift_exprs.specs.Objects.{object_at}
use Rattle.lift_exprs.specs.Written.{copied}
use Rattle.lift_forms.proofs.SameTypes.{same_itself}
use Rattle.lift_forms.specs.Given.{address_of, pointed}
use Rattle.lift_forms.specs.Operators.{zero_of}
use Rattle.lift_forms.specs.Places.{Kept, object_place}
use Rattle.lift_forms_laws.proofs.Constants.{zeros}
use Rattle.lift_stands.specs.Worlds.{WorldsStand}
use Rattle.mem_bytes.proofs.Reached.{part_inside}
use Rattle.mem_bytes.specs.Access.{and_then, part_of, is_aligned, scalar_part_of, block_with_value, block_with_fill, live_read, part_at, after_put, after_fill, after_copy}
use Rattle.mem_bytes.specs.Coding.{scalar_size, cells_of}
use Rattle.mem_bytes.specs.Memory.{Block, Blocks, live_block, size_of, byte_cell, with_part}
use Rattle.mem_bytes.specs.declared.cell.Cell.{Cell}
use Rattle.mem_bytes.specs.declared.fault.Fault.{Fault}
use Rattle.mem_bytes.specs.declared.fault.Fault.TheVariants.{Misaligned}
use Rattle.mem_bytes.specs.declared.value.Ptr.{Ptr}
use Rattle.mem_bytes.specs.declared.value.Value.{Value}
use Rattle.mem_bytes.specs.declared.value.Value.TheVariants.{Whole, Null}
use Rattle.rs_mean.specs.Layout.{laid_of}
use Rattle.rs_mean.specs.Run.{normal, run_stmts}
use Rattle.rs_mean.specs.Scalars.{is_scalar, scalar_of, same_type}
use Rattle.rs_mean.specs.Typing.{is_bits}
use Rattle.rs_text.specs.Tree.{Ty, Pointer, Place, Local, Cast, AddressOf, Stmt, Assign, stmts}
use Rattle.build_flow_parts.specs.Means.{home_in, PartsMean, ObjectMeans, ZerosMean, ZeroMeans}
use Rattle.build_flow_parts.proofs.Objects.{ItsLocal, its_local}
use Rattle.build_flow_parts.proofs.Values.{around_of}

-- ---- zero bytes

-- a block whose first bytes are zero
abbrev pub zeroed : Block → ℕ → Block
zeroed block size = with_part block 0 (replicate size (byte_cell 0))

abbrev pub all_zeroed : Blocks → ℕ → Block → ℕ → Blocks
all_zeroed others number block size = slice_set others number (Some (zeroed block size))

pub fill_is : (others : Blocks) (number : ℕ) (block : Block) (size : ℕ) → live_block others number ≡ Some block → size ≤ size_of block → after_fill others (record { block = number; offset = 0 }) 0 size ≡ Ok (all_zeroed others number block size)
fill_is others number block size live inside =
    let room : part_of block 0 size ≡ Ok _ = part_inside block 0 size (omega (arith, inside)) in
    ap (λ (slot : Option Block). and_then (live_read slot (λ b. block_with_fill b 0 0 size)) (λ b. Ok (slice_set others number (Some b)))) live
    ∙ ap (λ (r : Result (List Cell) Fault). and_then (and_then r (λ _. Ok (zeroed block size))) (λ b. Ok (slice_set others number (Some b)))) room

put_is : (others : Blocks) (number : ℕ) (block : Block) (kind : Scalar) (value : Value) → live_block others number ≡ Some block → block.align ≡ scalar_size kind → size_of block ≡ scalar_size kind → 0 < scalar_size kind →
    after_put others (record { block = number; offset = 0 }) kind value ≡ Ok (slice_set others number (Some (with_part block 0 (cells_of kind value))))
put_is others number block kind value live align_is size some =
    let step : Block → Result Block Fault = λ b. block_with_value b 0 kind value in
    let list = take (scalar_size kind) (drop 0 block.cells) in
    let inside : part_of block 0 (scalar_size kind) ≡ Ok list = part_inside block 0 (scalar_size kind) (omega (arith, size)) in
    let part : scalar_part_of block 0 kind ≡ Ok list =
    ap (λ (found : Result (List Cell) Fault). and_then found (λ held. cond (is_aligned kind block 0) (Ok held) (Err Misaligned))) inside
    ∙ ap (λ (test : Bool). cond test (Ok list) (Err Misaligned)) (zero_aligned (scalar_size kind) block.align some align_is) in
    ap (λ (slot : Option Block). and_then (live_read slot step) (λ b. Ok (slice_set others number (Some b)))) live
    ∙ ap (λ (found : Result (List Cell) Fault). and_then (and_then found (λ _. Ok (with_part block 0 (cells_of kind value)))) (λ b. Ok (slice_set others number (Some b)))) part

-- ---- the statement

-- where an object becomes zero the block of its local is filled with zero bytes, and nothing else happens
pub record BecomesZero (a : Calling) (number : ℕ) (object : ObjectMeans a.s a.names a.of number) (world : World) (its : ItsLocal a number object world) : Type 0 where
  pub runs : (k : ℕ) → run_stmts a.frame (stmts (cleared a.of number)) world k ≡ came normal (with_held (with_blocks (all_zeroed (blocks_of world) its.local.block its.lives.block object.laid.size) world.held) world) k

module _ (a : Calling) (units steps : ℕ) (mean : PartsMean a.s a.names a.of units steps) (started : WorldsStand a.images a.c_before a.before) (params_are : map (λ (slot : Slot). slot.object) a.params ≡ a.one.params) (number : ℕ)
    (means : ZeroMeans a.s a.names a.of number) (slots : CFrame) (c_world world : World) (here : Standing a slots c_world world) where
  abbrev object : ObjectMeans a.s a.names a.of number
  object = means.object

  abbrev its : ItsLocal a number object world
  its = its_local a units steps mean number object slots c_world world here

  abbrev type : CTy
  type = object.one.type

  abbrev ty : Ty
  ty = type_in a.of.names type

  abbrev block : Block
  block = its.lives.block

  abbrev after : World
  after = with_held (with_blocks (all_zeroed (blocks_of world) its.local.block block object.laid.size) world.held) world

  size_is : size_of block ≡ object.laid.size
  size_is = its.lives.size ∙ ap (λ (laid : Laid). laid.size) its.laid_same

  align_is : block.align ≡ object.laid.align
  align_is = its.lives.align ∙ ap (λ (laid : Laid). laid.align) its.laid_same

  place_is : object_at a.of.names type number ≡ Local object.name
  place_is =
      ap (λ (found : Option Kept). object_place (kept_or found) ty) ((mean.means (home_in a.s a.one []) refl).objects number object.kept object.kept_is)
      ∙ ap (λ (test : Bool). if test then object.kept.place else pointed (Cast (address_of object.kept.place) (Pointer ty))) (ap (λ (one : Ty). same_type one ty) object.ty_is ∙ same_itself ty)
      ∙ object.place_is

  abbrev written_as : CTy → Bool → List Stmt
  written_as one scalar =
      if scalar then Assign (object_at a.of.names one number) (zero_of (type_in a.of.names one)) ∷ [] else copied (AddressOf (Local (a.of.zeros number))) (address_of (object_at a.of.names one number)) (a.of.names.size_of one) ∷ []

  cleared_is : cleared a.of number ≡ written_as type (is_scalar ty)
  cleared_is = ap (λ (one : CTy). written_as one (is_scalar (type_in a.of.names one))) means.type_is

  -- a scalar
  scalar_runs : is_scalar ty ≡ true → (k : ℕ) → run_stmts a.frame (stmts (Assign (Local object.name) (zero_of ty) ∷ [])) world k ≡ came normal after k
  scalar_runs scalar k =
      let kind = has_kind ty scalar in
      let kind_is : scalar_of its.local.ty ≡ Some kind.0 = ap scalar_of its.type_is ∙ kind.1 in
      let has = scalar_laid a.s.modules its.local.ty its.lives.laid kind.0 kind_is its.lives.laid_is in
      let put = put_is (blocks_of world) its.local.block block kind.0 (if is_bits ty then Whole (pos 0) else Null) its.lives.live (its.lives.align ∙ has.align) (its.lives.size ∙ has.size) has.some in
      let same : scalar_size kind.0 ≡ object.laid.size = sym has.size ∙ ap (λ (laid : Laid). laid.size) its.laid_same in
      let cells = zero_cells ty kind.0 kind.1 ∙ ap (λ (n : ℕ). replicate n (byte_cell 0)) same in
      let done = put ∙ ap (λ (list : List Cell). Ok (slice_set (blocks_of world) its.local.block (Some (with_part block 0 list)))) cells in
      run_one a.frame (Assign (Local object.name) (zero_of ty)) world after k
      (assign_comes a.frame object.name its.local kind.0 (zero_of ty) ty (if is_bits ty then Whole (pos 0) else Null) world (all_zeroed (blocks_of world) its.local.block block object.laid.size) k its.is_local kind_is (zeros a.frame world ty scalar) done)

  -- anything else
  abbrev around : Around
  around = around_of a units steps mean started params_are [] slots c_world world 0 0 (omega arith) (omega arith) here

  part_is : (it : KeptTemporary) (holds : HoldsZeros here.later world a.frame it) → size_of holds.block ≡ object.laid.size →
      part_at (blocks_of world) (record { block = holds.local.block; offset = 0 }) object.laid.size ≡ Ok (replicate object.laid.size (byte_cell 0))
  part_is it holds same =
      ap (λ (slot : Option Block). live_read slot (λ b. part_of b 0 object.laid.size)) holds.live
      ∙ part_inside holds.block 0 object.laid.size (omega (arith, same))
      ∙ ap (λ (list : List Cell). Ok (take object.laid.size (drop 0 list))) (holds.cells ∙ ap (λ (n : ℕ). replicate n (byte_cell 0)) same)
      ∙ ap Ok (take_all object.laid.size)
    where
      take_all : (n : ℕ) → take n (replicate n (byte_cell 0)) ≡ replicate n (byte_cell 0)
      take_all zero = refl
      take_all (suc n) = ap (λ (list : List Cell). byte_cell 0 ∷ list) (take_all n)

  copy_runs : (zeros_are : ZerosMean a.s a.names a.of number object.laid) → (k : ℕ) → run_stmts a.frame (stmts (copied (AddressOf (Local zeros_are.zero.name)) (AddressOf (Local object.name)) object.laid.size ∷ [])) world k ≡ came normal after k
  copy_runs zeros_are k = by object.laid.size refl
    where
      holds : HoldsZeros here.later world a.frame zeros_are.zero
      holds = here.inside.zeros number zeros_are.zero zeros_are.zero_is

      zeros_size : size_of holds.block ≡ object.laid.size
      zeros_size =
          let lives = here.inside.frames.lives holds.local holds.is_local.among in
          let blocks : Some lives.block ≡ Some holds.block = sym lives.live ∙ holds.live in
          let same : lives.block ≡ holds.block = cc (blocks) in
          let laid : Some lives.laid ≡ Some object.laid = sym lives.laid_is ∙ ap (laid_of a.s.modules) holds.ty_is ∙ zeros_are.laid_is in
          let laid_is : lives.laid ≡ object.laid = cc (laid) in
          ap size_of (sym same) ∙ lives.size ∙ ap (λ (l : Laid). l.size) laid_is

      by : (size : ℕ) → object.laid.size ≡ size → run_stmts a.frame (stmts (copied (AddressOf (Local zeros_are.zero.name)) (AddressOf (Local object.name)) object.laid.size ∷ [])) world k ≡ came normal after k
      by zero none = absurd (let some = means.some in omega (arith, some, none))
      by (suc n) is =
          let from : Ptr = record { block = holds.local.block; offset = 0 } in
          let to : Ptr = record { block = its.local.block; offset = 0 } in
          let list : List Cell = replicate object.laid.size (byte_cell 0) in
          let part = subst (λ (m : ℕ). part_at (blocks_of world) from m ≡ Ok list) is (part_is zeros_are.zero holds zeros_size) in
          let fits = copy_fits (blocks_of world) from its.local.block n block list part its.lives.live (omega (arith, size_is, is)) in
          let done = subst (λ (m : ℕ). after_copy (blocks_of world) from to m ≡ Ok fits.after) (sym is) fits.done ∙ ap Ok fits.is in
          run_one a.frame (copied (AddressOf (Local zeros_are.zero.name)) (AddressOf (Local object.name)) object.laid.size) world after k
          (copy_comes around (AddressOf (Local zeros_are.zero.name)) (AddressOf (Local object.name)) zeros_are.zero.ty its.local.ty from to object.laid.size world (all_zeroed (blocks_of world) its.local.block block object.laid.size) k
          (temporary_address around zeros_are.zero.name holds.local zeros_are.zero.ty world holds.is_local holds.ty_is) (temporary_address around object.name its.local its.local.ty world its.is_local refl)
          (bytes_copied world.held from to object.laid.size (all_zeroed (blocks_of world) its.local.block block object.laid.size) done))

  pub becomes_zero : BecomesZero a number object world its
  becomes_zero = record { runs = λ k. by (is_scalar ty) refl k }
    where
      by : (scalar : Bool) → is_scalar ty ≡ scalar → (k : ℕ) → run_stmts a.frame (stmts (cleared a.of number)) world k ≡ came normal after k
      by true scalar k =
          let written : cleared a.of number ≡ Assign (Local object.name) (zero_of ty) ∷ [] = cleared_is ∙ ap (λ (test : Bool). written_as type test) scalar ∙ ap (λ (p : Place). Assign p (zero_of ty) ∷ []) place_is in
          subst (λ (list : List Stmt). run_stmts a.frame (stmts list) world k ≡ came normal after k) (sym written) (scalar_runs scalar k)
      by false scalar k =
          let zeros_are = means.zeros scalar in
          let written : cleared a.of number ≡ copied (AddressOf (Local zeros_are.zero.name)) (AddressOf (Local object.name)) object.laid.size ∷ [] =
          cleared_is ∙ ap (λ (test : Bool). written_as type test) scalar
          ∙ ap (λ (name : List ℕ). copied (AddressOf (Local name)) (address_of (object_at a.of.names type number)) (a.of.names.size_of type) ∷ []) zeros_are.name_is
          ∙ ap (λ (p : Place). copied (AddressOf (Local zeros_are.zero.name)) (address_of p) (a.of.names.size_of type) ∷ []) place_is
          ∙ ap (λ (n : ℕ). copied (AddressOf (Local zeros_are.zero.name)) (AddressOf (Local object.name)) n ∷ []) ((mean.means (home_in a.s a.one []) refl).sizes type object.laid object.laid_is) in
          subst (λ (list : List Stmt). run_stmts a.frame (stmts list) world k ≡ came normal after k) (sym written) (copy_runs zeros_are k)
