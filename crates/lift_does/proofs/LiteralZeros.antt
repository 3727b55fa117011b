-- What is written where an object becomes zero fills its block with zero bytes: a scalar is stored, and of anything else one byte, and then as many as are zero already, again and again (ISO C99, 6.5.2.5 and 6.7.8p21;
-- `core::ptr::copy`).
use Rattle.std.proofs.Common.{◌≡◌, ℕ, zero, suc, ◌+◌, ◌-◌, ◌*◌, ◌%◌, ◌^◌, ◌==◌, ◌<◌, ◌≤◌, nat_le, min, pos, cond, Bool, true, false, ◌&&◌, List, [], ◌∷◌, ◌++◌, length, take, drop, replicate, slice_set, slice_index_or, Option, Some, Result, Ok, Err, if◌then◌else◌, rules, refl, sym, ap, subst, ◌∙◌, arith}
use Rattle.std.proofs.Math.Nat.{mul_assoc, mul_comm, mul-add, pow-suc}
use Rattle.std.proofs.lemmas.Bool.{le-leb}
use Rattle.std.proofs.lemmas.Bool.Decides.{nat_tests}
use Rattle.std.proofs.lemmas.List.{set-set, same_lists, places, append-nil, drop_all, length-replicate}
use Rattle.cr_base.specs.declared.scalar.Scalar.{Scalar}
use Rattle.cr_base.specs.declared.scalar.Scalar.TheVariants as scalars
use Rattle.cr_runs.specs.Runs.{came}
use Rattle.cr_world.specs.Held.{Held, with_blocks}
use Rattle.cr_world.specs.World.{World, blocks_of, with_held}
use Rattle.cx_typed_values.specs.Values.{most_bytes}
use Rattle.lift_does.proofs.Around.{Around, runs}
use Rattle.lift_does.proofs.Copies.{copy_changes, bytes_copied}
use Rattle.lift_does.proofs.PutsPlaces.{moves_by}
use Rattle.lift_does.proofs.Runs.{run_behind, run_one}
use Rattle.lift_does.proofs.Temporaries.{seq_comes}
use Rattle.lift_exprs.specs.Objects.{most_doublings, doubled, zeroed_bytes}
use Rattle.lift_exprs.specs.Written.{as_bytes}
use Rattle.lift_forms.specs.Operators.{zero_of}
use Rattle.lift_forms_laws.proofs.Constants.{zeros, target_gives}
use Rattle.lift_forms_laws.proofs.Runs.{pure_is, literal_gives, cast_gives}
use Rattle.lift_forms_laws.specs.Gives.{GivesAt, GivesPlace}
use Rattle.mem_bytes.proofs.Reached.{part_inside}
use Rattle.mem_bytes.proofs.Slots.{live-set_same, live_within}
use Rattle.mem_bytes.specs.Access.{and_then, part_of, is_aligned, scalar_part_of, block_with_value, block_with_fill, block_with_copy, live_read, after_put, after_fill, after_copy}
use Rattle.mem_bytes.specs.Coding.{scalar_size, cells_of}
use Rattle.mem_bytes.specs.Memory.{Block, Blocks, live_block, size_of, byte_cell, with_part}
use Rattle.mem_bytes.specs.declared.cell.Cell.{Cell}
use Rattle.mem_bytes.specs.declared.fault.Fault.{Fault}
use Rattle.mem_bytes.specs.declared.fault.Fault.TheVariants.{Misaligned}
use Rattle.mem_bytes.specs.declared.value.Ptr.{Ptr}
use Rattle.mem_bytes.specs.declared.value.Value.{Value}
use Rattle.mem_bytes.specs.declared.value.Value.TheVariants.{Whole, Null, Object}
use Rattle.rs_mean.specs.Calls.{Spot, spot, store, in_memory, stored_as, copies, copy_of}
use Rattle.rs_mean.specs.Run.{normal, run_expr, run_place, run_stmt, goes_on}
use Rattle.rs_mean.specs.Scalars.{is_scalar, scalar_of}
use Rattle.rs_mean.specs.Typing.{is_bits}
use Rattle.rs_mean.specs.Values.{Typed, typed}
use Rattle.rs_mean.specs.World.{Did, pure, local, after_step, or_cause, cause_of}
use Rattle.rs_mean.specs.declared.cause.Cause.{Cause}
use Rattle.rs_text.specs.declared.integer.IntegerTy.TheVariants.{I8, I16, I32, I64, Isize, U8, U16, U32, U64, Usize}
use Rattle.rs_text.specs.Tree.{Ty, Integer, Boolean, Void, Pointer, Array, Code, Record, Place as RustPlace, Deref, Expr, Literal, Offset, Stmt, Assign, CopyBytes}

-- ---- cells

-- a block of a memory with other cells
abbrev pub with_cells_at : Blocks → ℕ → Block → List Cell → Blocks
with_cells_at others number block cells = slice_set others number (Some (record block { cells = cells }))

-- so many cells are zero, as far as there are cells
abbrev pub AreZero : ℕ → List Cell → Type 0
AreZero many held = (k : ℕ) (d : Cell) → k < many → k < length held → slice_index_or held k d ≡ byte_cell 0

all_zero : (many : ℕ) (held : List Cell) → AreZero many held → length held ≤ many → held ≡ replicate (length held) (byte_cell 0)
all_zero many held are less = same_lists _ _ (search (rules, places)) (λ k d l. let here = are k d (omega (arith, less, l)) l in grind (arith, places, here))

-- behind the store of the first byte
first_zero : (cells : List Cell) → 1 ≤ length cells → AreZero 1 (take 0 cells ++ (byte_cell 0 ∷ []) ++ drop 1 cells)
first_zero cells some k d small inside = grind (arith, places, some, small, inside)

first_length : (cells : List Cell) → 1 ≤ length cells → length (take 0 cells ++ (byte_cell 0 ∷ []) ++ drop 1 cells) ≡ length cells
first_length cells some = search (rules, places)

-- behind a copy of cells that are zero
abbrev copied_cells : (done more : ℕ) → List Cell → List Cell
copied_cells done more cells = take done cells ++ take more (drop 0 cells) ++ drop (done + length (take more (drop 0 cells))) cells

copied_length : (done more : ℕ) (cells : List Cell) → done + more ≤ length cells → length (copied_cells done more cells) ≡ length cells
copied_length done more cells less = search (rules, places)

copied_zero : (done more : ℕ) (cells : List Cell) → AreZero done cells → more ≤ done → done + more ≤ length cells → AreZero (done + more) (copied_cells done more cells)
copied_zero done more cells are few less k d small inside =
    let first = are k d in let second = are (k - done) d in
    grind (arith, places, few, less, small, inside, first, second)

twice_as_many : (left done : ℕ) → done * 2 ^ suc left ≡ (done + done) * 2 ^ left
twice_as_many left done =
    let power : done * 2 ^ suc left ≡ done * (2 ^ left * 2) = ap (λ (n : ℕ). done * n) (pow-suc 2 left) in
    let first : done * (2 ^ left * 2) ≡ done * 2 ^ left * 2 = sym (mul_assoc done (2 ^ left) 2) in
    let turned : (done + done) * 2 ^ left ≡ 2 ^ left * (done + done) = mul_comm (done + done) (2 ^ left) in
    let both : 2 ^ left * (done + done) ≡ 2 ^ left * done + 2 ^ left * done = mul-add (2 ^ left) done done in
    let one : 2 ^ left * done ≡ done * 2 ^ left = mul_comm (2 ^ left) done in
    omega (arith, power, first, turned, both, one)

whole_filled : (block : Block) (cells : List Cell) → length cells ≡ size_of block → with_part block 0 cells ≡ record block { cells = cells }
whole_filled block cells many =
    let none : drop (0 + length cells) block.cells ≡ [] = drop_all (0 + length cells) block.cells (omega (arith, many)) in
    ap (λ (rest : List Cell). record block { cells = cells ++ rest }) none ∙ ap (λ (all : List Cell). record block { cells = all }) (append-nil cells)

-- ---- memories

module _ (others : Blocks) (number : ℕ) (block : Block) (live : live_block others number ≡ Some block) where
  abbrev begin_at : Ptr
  begin_at = record { block = number; offset = 0 }

  still_live : (cells : List Cell) → live_block (with_cells_at others number block cells) number ≡ Some (record block { cells = cells })
  still_live cells = live-set_same others number (record block { cells = cells }) (live_within others number block live)

  pub fill_zero : (size : ℕ) → size_of block ≡ size → after_fill others begin_at 0 size ≡ Ok (with_cells_at others number block (replicate size (byte_cell 0)))
  fill_zero size same =
      let room : part_of block 0 size ≡ Ok _ = part_inside block 0 size (omega (arith, same)) in
      ap (λ (slot : Option Block). and_then (live_read slot (λ b. block_with_fill b 0 0 size)) (λ b. Ok (slice_set others number (Some b)))) live
      ∙ ap (λ (r : Result (List Cell) Fault). and_then (and_then r (λ _. Ok (with_part block 0 (replicate size (byte_cell 0))))) (λ b. Ok (slice_set others number (Some b)))) room
      ∙ ap (λ (b : Block). Ok (slice_set others number (Some b))) (whole_filled block (replicate size (byte_cell 0)) (length-replicate size (byte_cell 0) ∙ sym same))

  zero_aligned : (size align : ℕ) → size ≤ align → (0 % size == 0 && nat_le size align) ≡ true
  zero_aligned size align enough = let none : 0 % size ≡ 0 = none_left size in rw (none, le-leb size align enough) refl
    where
      none_left : (n : ℕ) → 0 % n ≡ 0
      none_left zero = refl
      none_left (suc n) = omega arith

  put_at : (kind : Scalar) (value : Value) → scalar_size kind ≤ block.align → scalar_size kind ≤ size_of block → after_put others begin_at kind value ≡ Ok (slice_set others number (Some (with_part block 0 (cells_of kind value))))
  put_at kind value enough fits =
      let step : Block → Result Block Fault = λ b. block_with_value b 0 kind value in
      let list = take (scalar_size kind) (drop 0 block.cells) in
      let inside : part_of block 0 (scalar_size kind) ≡ Ok list = part_inside block 0 (scalar_size kind) (omega (arith, fits)) in
      let part : scalar_part_of block 0 kind ≡ Ok list =
      ap (λ (found : Result (List Cell) Fault). and_then found (λ held. cond (is_aligned kind block 0) (Ok held) (Err Misaligned))) inside
      ∙ ap (λ (test : Bool). cond test (Ok list) (Err Misaligned)) (zero_aligned (scalar_size kind) block.align enough) in
      ap (λ (slot : Option Block). and_then (live_read slot step) (λ b. Ok (slice_set others number (Some b)))) live
      ∙ ap (λ (found : Result (List Cell) Fault). and_then (and_then found (λ _. Ok (with_part block 0 (cells_of kind value)))) (λ b. Ok (slice_set others number (Some b)))) part

  copy_at : (cells : List Cell) (done n : ℕ) → done + suc n ≤ length cells → suc n ≤ done →
      after_copy (with_cells_at others number block cells) begin_at (record { block = number; offset = 0 + done }) (suc n) ≡ Ok (with_cells_at others number block (copied_cells done (suc n) cells))
  copy_at cells done n less few =
      let held : Block = record block { cells = cells } in
      let memory = with_cells_at others number block cells in
      let from : part_of held 0 (suc n) ≡ Ok (take (suc n) (drop 0 cells)) = part_inside held 0 (suc n) (omega (arith, less)) in
      let room : part_of held (0 + done) (suc n) ≡ Ok _ = part_inside held (0 + done) (suc n) (omega (arith, less)) in
      copy_changes memory begin_at (record { block = number; offset = 0 + done }) n held (still_live cells)
      ∙ ap (λ (slot : Option Block). and_then (live_read slot (λ b. block_with_copy b (0 + done) held 0 (suc n))) (λ b. Ok (slice_set memory number (Some b)))) (still_live cells)
      ∙ ap (λ (r : Result (List Cell) Fault). and_then (and_then r (λ list. and_then (part_of held (0 + done) (suc n)) (λ _. Ok (with_part held (0 + done) list)))) (λ b. Ok (slice_set memory number (Some b)))) from
      ∙ ap (λ (r : Result (List Cell) Fault). and_then (and_then r (λ _. Ok (with_part held (0 + done) (take (suc n) (drop 0 cells))))) (λ b. Ok (slice_set memory number (Some b)))) room
      ∙ ap Ok (set-set others number (Some held) (Some (with_part held (0 + done) (take (suc n) (drop 0 cells)))))
      ∙ ap (λ (k : ℕ). Ok (slice_set others number (Some (with_part held k (take (suc n) (drop 0 cells)))))) (none_more done)
    where
      none_more : (k : ℕ) → 0 + k ≡ k
      none_more k = omega arith

-- ---- statements

module _ (x : Around) where
  abbrev pub world_with : World → Blocks → World
  world_with world blocks = with_held (with_blocks blocks world.held) world

  store_at : (world : World) (spot_at : Spot) (one : Ty) (kind : Scalar) (to : Ptr) (other : Value) (beyond : Blocks) (units : ℕ) → spot_at.ty ≡ one → spot_at.at ≡ Object to → spot_at.is_based ≡ true → scalar_of one ≡ Some kind →
      after_put (blocks_of world) to kind other ≡ Ok beyond → store spot_at other world units ≡ came tt (world_with world beyond) units
  unfolding local
  store_at world spot_at one kind to other beyond units ty_is at_is based_is kind_is put = ap (λ (r : Result Blocks Cause). after_step world units (in_memory tt world.held r)) (stores spot_at.ty spot_at.at spot_at.is_based ty_is at_is based_is)
    where
      stores : (t : Ty) (v : Value) (b : Bool) → t ≡ one → v ≡ Object to → b ≡ true → stored_as (blocks_of world) b (scalar_of t) v other ≡ Ok beyond
      stores t v b same there based = rw (same, there, based, kind_is) (ap (λ (found : Result Blocks Fault). or_cause cause_of found) put)

  assign_at : (world : World) (p : RustPlace) (e : Expr) (from one : Ty) (other : Value) (spot_at : Spot) (kind : Scalar) (to : Ptr) (beyond : Blocks) (units : ℕ) → GivesAt x.frame world e from other → GivesPlace x.frame world p spot_at → spot_at.ty ≡ one →
      spot_at.at ≡ Object to → spot_at.is_based ≡ true → scalar_of one ≡ Some kind → after_put (blocks_of world) to kind other ≡ Ok beyond → run_stmt x.frame (Assign p e) world units ≡ came normal (world_with world beyond) units
  unfolding pure
  assign_at world p e from one other spot_at kind to beyond units gives place_gives ty_is at_is based_is kind_is put =
      seq_comes (run_expr x.frame e) _ world world units (typed from other) (gives.runs units)
      ∙ seq_comes (run_place x.frame p) _ world world units spot_at (place_gives.runs units)
      ∙ seq_comes (store spot_at other) goes_on world (world_with world beyond) units tt (store_at world spot_at one kind to other beyond units ty_is at_is based_is kind_is put)

  copies_at : (from to bytes : Typed) (world : World) (after : Held) (units : ℕ) → copy_of from.value to.value bytes.value world.held ≡ Ok (record { value = tt; held = after }) → copies from to bytes world units ≡ came tt (with_held after world) units
  unfolding local
  copies_at from to bytes world after units done = ap (λ (r : Result (Did (Unit {0})) Cause). after_step world units r) done

  copy_bytes : (source target : Expr) (from to : Ptr) (n : ℕ) (world : World) (after : Blocks) (units : ℕ) → GivesAt x.frame world source (Pointer (Integer U8)) (Object from) → GivesAt x.frame world target (Pointer (Integer U8)) (Object to) →
      after_copy (blocks_of world) from to n ≡ Ok after → run_stmt x.frame (CopyBytes source target (Literal (pos n) Usize)) world units ≡ came normal (world_with world after) units
  unfolding pure
  copy_bytes source target from to n world after units gives also done =
      let first = typed (Pointer (Integer U8)) (Object from) in
      let second = typed (Pointer (Integer U8)) (Object to) in
      let third = typed (Integer Usize) (Whole (pos n)) in
      seq_comes (run_expr x.frame source) _ world world units first (gives.runs units)
      ∙ seq_comes (run_expr x.frame target) _ world world units second (also.runs units)
      ∙ seq_comes (run_expr x.frame (Literal (pos n) Usize)) _ world world units third ((literal_gives x.frame world (pos n) Usize).runs units)
      ∙ seq_comes (copies first second third) goes_on world (world_with world after) units tt (copies_at first second third world (with_blocks after world.held) units (bytes_copied world.held from to n after done))

  -- ---- an object becomes zero byte by byte

  module _ (world : World) (e : Expr) (one : Ty) (number : ℕ) (block : Block) (size : ℕ) (address : (w : World) → GivesAt x.frame w e (Pointer one) (Object (record { block = number; offset = 0 }))) (live : live_block (blocks_of world) number ≡ Some block)
      (same : size_of block ≡ size) (enough : 1 ≤ block.align) where
    abbrev pub zero_world : World
    zero_world = world_with world (with_cells_at (blocks_of world) number block (replicate size (byte_cell 0)))

    abbrev world_at : List Cell → World
    world_at cells = world_with world (with_cells_at (blocks_of world) number block cells)

    bytes_at : (w : World) → GivesAt x.frame w (as_bytes e) (Pointer (Integer U8)) (Object (record { block = number; offset = 0 }))
    bytes_at w = cast_gives x.frame w e (Pointer one) (Pointer (Integer U8)) (Object (record { block = number; offset = 0 })) (Object (record { block = number; offset = 0 })) (address w) refl

    ended : (cells : List Cell) (done : ℕ) → length cells ≡ size → AreZero done cells → size ≤ done → (units : ℕ) → runs x [] (world_at cells) units ≡ came normal zero_world units
    ended cells done many are less units =
        let all : cells ≡ replicate size (byte_cell 0) = all_zero done cells are (omega (arith, less, many)) ∙ ap (λ (n : ℕ). replicate n (byte_cell 0)) many in
        pure_is normal (world_at cells) units ∙ ap (λ (list : List Cell). came normal (world_at list) units) all

    -- one copy, and those behind it
    doubled_more : (left done : ℕ) (cells : List Cell) → length cells ≡ size → AreZero done cells → 0 < done →
        ((next : List Cell) → length next ≡ size → AreZero (done + done) next → (units : ℕ) → runs x (doubled e size (done + done) left) (world_at next) units ≡ came normal zero_world units) →
        (units : ℕ) → runs x (doubled e size done (suc left)) (world_at cells) units ≡ came normal zero_world units
    doubled_more left done cells many are some rest units = by (nat_le size done) refl
      where
        copied : List Stmt
        copied = CopyBytes (as_bytes e) (Offset (as_bytes e) (Literal (pos done) Isize)) (Literal (pos (min done (size - done))) Usize) ∷ doubled e size (done + done) left

        more : (n : ℕ) → min done (size - done) ≡ n → done < size → runs x copied (world_at cells) units ≡ came normal zero_world units
        more zero none less = absurd (omega (arith, none, less, some))
        more (suc n) is less =
            let few : suc n ≤ done = omega (arith, is) in
            let fits : done + suc n ≤ length cells = omega (arith, is, less, many) in
            let single : done * 1 ≡ done = omega arith in
            let target = subst (λ (k : ℕ). GivesAt x.frame (world_at cells) (Offset (as_bytes e) (Literal (pos done) Isize)) (Pointer (Integer U8)) (Object (record { block = number; offset = 0 + k }))) single
            (moves_by x (world_at cells) (as_bytes e) (Integer U8) (record { size = 1; align = 1 }) (record { block = number; offset = 0 }) (record block { cells = cells }) done (still_live (blocks_of world) number block live cells) refl (bytes_at (world_at cells))
            (omega (arith, fits, single))) in
            let next = copied_cells done (suc n) cells in
            let step = copy_bytes (as_bytes e) (Offset (as_bytes e) (Literal (pos done) Isize)) (record { block = number; offset = 0 }) (record { block = number; offset = 0 + done }) (suc n) (world_at cells)
            (with_cells_at (blocks_of world) number block next) units (bytes_at (world_at cells)) target (copy_at (blocks_of world) number block live cells done n fits few) in
            let length_is : length next ≡ size = copied_length done (suc n) cells fits ∙ many in
            let zeros_are : AreZero (done + done) next = λ k d small inside. copied_zero done (suc n) cells are few fits k d (omega (arith, small, inside, length_is, is, less)) inside in
            subst (λ (m : ℕ). runs x (CopyBytes (as_bytes e) (Offset (as_bytes e) (Literal (pos done) Isize)) (Literal (pos m) Usize) ∷ doubled e size (done + done) left) (world_at cells) units ≡ came normal zero_world units) (sym is)
            (run_behind x.frame (CopyBytes (as_bytes e) (Offset (as_bytes e) (Literal (pos done) Isize)) (Literal (pos (suc n)) Usize) ∷ []) (doubled e size (done + done) left) (world_at cells) (world_at next) units
            (run_one x.frame (CopyBytes (as_bytes e) (Offset (as_bytes e) (Literal (pos done) Isize)) (Literal (pos (suc n)) Usize)) (world_at cells) (world_at next) units step)
            ∙ rest next length_is zeros_are units)

        by : (test : Bool) → nat_le size done ≡ test → runs x (if test then [] else copied) (world_at cells) units ≡ came normal zero_world units
        by true is = ended cells done many are (grind (arith, nat_tests, is)) units
        by false is = more (min done (size - done)) refl (grind (arith, nat_tests, is))

    doubled_runs : (left done : ℕ) (cells : List Cell) → length cells ≡ size → AreZero done cells → 0 < done → size ≤ done * 2 ^ left → (units : ℕ) → runs x (doubled e size done left) (world_at cells) units ≡ came normal zero_world units
    doubled_runs zero done cells many are some reach units = let single : done * 2 ^ 0 ≡ done = omega arith in ended cells done many are (omega (arith, reach, single)) units
    doubled_runs (suc left) done cells many are some reach units =
        let twice = twice_as_many left done in
        doubled_more left done cells many are some (λ next length_is zeros_are more. doubled_runs left (done + done) next length_is zeros_are (omega (arith, some)) (omega (arith, reach, twice)) more) units

    pub zeroed_runs : 0 < size → size ≤ most_bytes → (units : ℕ) → runs x (zeroed_bytes e size) world units ≡ came normal zero_world units
    zeroed_runs some most units =
        let fits : 1 ≤ length block.cells = omega (arith, some, same) in
        let first = take 0 block.cells ++ (byte_cell 0 ∷ []) ++ drop 1 block.cells in
        let put = put_at (blocks_of world) number block live (scalars.Whole 8 false) (Whole (pos 0)) enough (omega (arith, some, same)) in
        run_behind x.frame (Assign (Deref (as_bytes e)) (Literal (pos 0) U8) ∷ []) (doubled e size 1 most_doublings) world (world_at first) units
        (run_one x.frame (Assign (Deref (as_bytes e)) (Literal (pos 0) U8)) world (world_at first) units
        (assign_at world (Deref (as_bytes e)) (Literal (pos 0) U8) (Integer U8) (Integer U8) (Whole (pos 0)) (spot (Integer U8) (Object (record { block = number; offset = 0 }))) (scalars.Whole 8 false) (record { block = number; offset = 0 })
        (with_cells_at (blocks_of world) number block first) units (literal_gives x.frame world (pos 0) U8) (target_gives x.frame world (as_bytes e) (Integer U8) (Object (record { block = number; offset = 0 })) (bytes_at world) refl) refl refl refl refl put))
        ∙ doubled_runs most_doublings 1 first (first_length block.cells fits ∙ same) (first_zero block.cells fits) (omega arith) (omega (arith, most)) units

-- ---- a scalar becomes zero

pub zero_cells : (ty : Ty) (kind : Scalar) → scalar_of ty ≡ Some kind → cells_of kind (if is_bits ty then Whole (pos 0) else Null) ≡ replicate (scalar_size kind) (byte_cell 0)
zero_cells (Integer I8) kind e = let k : scalars.Whole 8 true ≡ kind = cc (e) in subst (λ (one : Scalar). cells_of one (Whole (pos 0)) ≡ replicate (scalar_size one) (byte_cell 0)) k refl
zero_cells (Integer I16) kind e = let k : scalars.Whole 16 true ≡ kind = cc (e) in subst (λ (one : Scalar). cells_of one (Whole (pos 0)) ≡ replicate (scalar_size one) (byte_cell 0)) k refl
zero_cells (Integer I32) kind e = let k : scalars.Whole 32 true ≡ kind = cc (e) in subst (λ (one : Scalar). cells_of one (Whole (pos 0)) ≡ replicate (scalar_size one) (byte_cell 0)) k refl
zero_cells (Integer I64) kind e = let k : scalars.Whole 64 true ≡ kind = cc (e) in subst (λ (one : Scalar). cells_of one (Whole (pos 0)) ≡ replicate (scalar_size one) (byte_cell 0)) k refl
zero_cells (Integer Isize) kind e = let k : scalars.Whole 64 true ≡ kind = cc (e) in subst (λ (one : Scalar). cells_of one (Whole (pos 0)) ≡ replicate (scalar_size one) (byte_cell 0)) k refl
zero_cells (Integer U8) kind e = let k : scalars.Whole 8 false ≡ kind = cc (e) in subst (λ (one : Scalar). cells_of one (Whole (pos 0)) ≡ replicate (scalar_size one) (byte_cell 0)) k refl
zero_cells (Integer U16) kind e = let k : scalars.Whole 16 false ≡ kind = cc (e) in subst (λ (one : Scalar). cells_of one (Whole (pos 0)) ≡ replicate (scalar_size one) (byte_cell 0)) k refl
zero_cells (Integer U32) kind e = let k : scalars.Whole 32 false ≡ kind = cc (e) in subst (λ (one : Scalar). cells_of one (Whole (pos 0)) ≡ replicate (scalar_size one) (byte_cell 0)) k refl
zero_cells (Integer U64) kind e = let k : scalars.Whole 64 false ≡ kind = cc (e) in subst (λ (one : Scalar). cells_of one (Whole (pos 0)) ≡ replicate (scalar_size one) (byte_cell 0)) k refl
zero_cells (Integer Usize) kind e = let k : scalars.Whole 64 false ≡ kind = cc (e) in subst (λ (one : Scalar). cells_of one (Whole (pos 0)) ≡ replicate (scalar_size one) (byte_cell 0)) k refl
zero_cells Boolean kind e = let k : scalars.Truth ≡ kind = cc (e) in subst (λ (one : Scalar). cells_of one (Whole (pos 0)) ≡ replicate (scalar_size one) (byte_cell 0)) k refl
zero_cells (Pointer target) kind e = let k : scalars.Object ≡ kind = cc (e) in subst (λ (one : Scalar). cells_of one Null ≡ replicate (scalar_size one) (byte_cell 0)) k refl
zero_cells (Code params result) kind e = let k : scalars.Code ≡ kind = cc (e) in subst (λ (one : Scalar). cells_of one Null ≡ replicate (scalar_size one) (byte_cell 0)) k refl
zero_cells Void kind e = cc (e)
zero_cells (Array element size) kind e = cc (e)
zero_cells (Record m y) kind e = cc (e)

pub has_kind : (ty : Ty) → is_scalar ty ≡ true → (kind : Scalar) × (scalar_of ty ≡ Some kind)
has_kind Void e = cc (e)
has_kind (Array element size) e = cc (e)
has_kind (Record m y) e = cc (e)
has_kind (Integer I8) e = (scalars.Whole 8 true, refl)
has_kind (Integer I16) e = (scalars.Whole 16 true, refl)
has_kind (Integer I32) e = (scalars.Whole 32 true, refl)
has_kind (Integer I64) e = (scalars.Whole 64 true, refl)
has_kind (Integer Isize) e = (scalars.Whole 64 true, refl)
has_kind (Integer U8) e = (scalars.Whole 8 false, refl)
has_kind (Integer U16) e = (scalars.Whole 16 false, refl)
has_kind (Integer U32) e = (scalars.Whole 32 false, refl)
has_kind (Integer U64) e = (scalars.Whole 64 false, refl)
has_kind (Integer Usize) e = (scalars.Whole 64 false, refl)
has_kind Boolean e = (scalars.Truth, refl)
has_kind (Pointer target) e = (scalars.Object, refl)
has_kind (Code params result) e = (scalars.Code, refl)

module _ (x : Around) where
  pub scalar_zeroed : (world : World) (p : RustPlace) (one : Ty) (spot_at : Spot) (number : ℕ) (block : Block) (size : ℕ) → is_scalar one ≡ true → (kind : Scalar) → scalar_of one ≡ Some kind → scalar_size kind ≡ size → GivesPlace x.frame world p spot_at →
      spot_at.ty ≡ one → spot_at.at ≡ Object (record { block = number; offset = 0 }) → spot_at.is_based ≡ true → live_block (blocks_of world) number ≡ Some block → size_of block ≡ size → size ≤ block.align → (units : ℕ) →
      runs x (Assign p (zero_of one) ∷ []) world units ≡ came normal (world_with x world (with_cells_at (blocks_of world) number block (replicate size (byte_cell 0)))) units
  scalar_zeroed world p one spot_at number block size scalar kind kind_is same gives ty_is at_is based_is live size_is enough units =
      let zero_value : Value = if is_bits one then Whole (pos 0) else Null in
      let cells = zero_cells one kind kind_is ∙ ap (λ (n : ℕ). replicate n (byte_cell 0)) same in
      let put = put_at (blocks_of world) number block live kind zero_value (omega (arith, same, enough)) (omega (arith, same, size_is))
      ∙ ap (λ (list : List Cell). Ok (slice_set (blocks_of world) number (Some (with_part block 0 list)))) cells
      ∙ ap (λ (b : Block). Ok (slice_set (blocks_of world) number (Some b))) (whole_filled block (replicate size (byte_cell 0)) (length-replicate size (byte_cell 0) ∙ sym size_is)) in
      run_one x.frame (Assign p (zero_of one)) world (world_with x world (with_cells_at (blocks_of world) number block (replicate size (byte_cell 0)))) units
      (assign_at x world p (zero_of one) one one zero_value spot_at kind (record { block = number; offset = 0 }) (with_cells_at (blocks_of world) number block (replicate size (byte_cell 0))) units (zeros x.frame world one scalar) gives ty_is at_is based_is kind_is put)
