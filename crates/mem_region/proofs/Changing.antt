-- What a store in a region changes.
use Rattle.std.proofs.Common.{◌≡◌, ℕ, ◌+◌, ◌%◌, ◌≤◌, ◌&&◌, ◌==◌, nat_le, Bool, true, false, cond, List, map, length, take, drop, slice_set, Some, Result, Ok, Err, refl, sym, ◌∙◌, ap, subst, arith, Vec, Global, le-leb}
use Rattle.std.specs.Prelude.{ok_or}
use Rattle.std.proofs.lemmas.Bool.{cond-true}
use Rattle.std.proofs.lemmas.List.{length-map}
use Rattle.cr_base.specs.declared.scalar.Scalar.{Scalar}
use Rattle.mem_bytes.specs.declared.cell.Cell.{Cell}
use Rattle.mem_bytes.specs.declared.fault.Fault.{Fault}
use Rattle.mem_bytes.specs.declared.fault.Fault.TheVariants.{Dead, Outside, Misaligned}
use Rattle.mem_bytes.specs.declared.value.Ptr.{Ptr}
use Rattle.mem_bytes.specs.Access.{and_then, part_of, scalar_part_of, live_read, live_change}
use Rattle.mem_bytes.specs.Coding.{scalar_size}
use Rattle.mem_bytes.specs.Memory.{Block, Blocks, live_block, with_part}
use Rattle.mem_region.specs.declared.packed.Packed.{Packed}
use Rattle.mem_region.specs.declared.region_store.RegionStore.TheInside.{Inside}
use Rattle.mem_region.specs.declared.table.Live.{Live}
use Rattle.mem_region.specs.Held.{region_of, IsWhole}
use Rattle.mem_region.specs.Layout.{AreLaid, block_of, found, placed, scalar_placed, place_at, scalar_place_at}
use Rattle.mem_region.specs.Packed.{cell_of, Wrote}
use Rattle.mem_region.specs.Region.{Region}
use Rattle.mem_region.proofs.Blocks.{changed, length-changed}
use Rattle.mem_region.proofs.Reading.{cells_in, laid_in, table_of, has_found, block_in, part_in, within_region, Lies, lies, scalar_lies}

-- a store with other cells
abbrev pub with_cells : Inside → Vec Packed Global → Inside
with_cells store cells =
    record { bytes = store.bytes; blocks = store.blocks; next = store.next; table = store.table; cells = cells }

pub whole_changed : (store : Inside) (start : ℕ) (part : List Cell) (cells : Vec Packed Global) → IsWhole store → start + length part ≤ length store.cells.items → Wrote store.cells start part cells → IsWhole (with_cells store cells)
whole_changed store start part cells whole within wrote =
    let long : length cells.items ≡ length store.cells.items =
    sym (length-map cells.items cell_of)
    ∙ length-changed (cells_in store) part (map cell_of cells.items) start (subst (λ n. start + length part ≤ n) (sym (length-map store.cells.items cell_of)) within) wrote.cells
    ∙ length-map store.cells.items cell_of in
    record {
      laid = subst (λ n. AreLaid 0 store.next 0 n store.table.items) (sym long) whole.laid;
      bytes = subst (λ n. n ≤ store.bytes) (sym long) whole.bytes;
      blocks = whole.blocks;
      few_bytes = whole.few_bytes;
      bytes_room = subst (λ n. store.bytes ≤ n) (sym wrote.room) whole.bytes_room;
      blocks_room = whole.blocks_room;
    }

-- a step that writes a part of a block
pub step_changed : (store : Inside) (region : Region) (at : Ptr) (start : ℕ) (part : List Cell) (cells : Vec Packed Global) (step : Block → Result Block Fault) (lie : Lies store at (length part) start) → IsWhole store → region_of store ≡ region → Wrote store.cells start part cells → step (block_of lie.live (cells_in store)) ≡ Ok (with_part (block_of lie.live (cells_in store)) at.offset part) → live_change region.memory at.block step ≡ Ok (region_of (with_cells store cells)).memory
step_changed store region at start part cells step lie whole e wrote gives =
    let memory : Blocks = (region_of store).memory in
    let block : Block = block_of lie.live (cells_in store) in
    let live : live_block memory at.block ≡ Some block = block_in store at.block (Some lie.live) whole lie.is in
    let new = changed store.table.items at.block lie.live (cells_in store) part (map cell_of cells.items) store.next start at.offset (has_found store.table.items at.block lie.live (table_of store whole) lie.is) (laid_in store whole) lie.begins lie.inside wrote.cells in
    ap (λ (r : Region). live_change r.memory at.block step) (sym e)
    ∙ ap (λ b. and_then (live_read b step) (λ x. Ok (slice_set memory at.block (Some x)))) live
    ∙ ap (λ r. and_then r (λ x. Ok (slice_set memory at.block (Some x)))) gives
    ∙ ap Ok (sym new)

-- the cells of a part that was found
pub part_at : (store : Inside) (at : Ptr) (count start : ℕ) (lie : Lies store at count start) → IsWhole store → part_of (block_of lie.live (cells_in store)) at.offset count ≡ Ok (take count (drop start (cells_in store)))
part_at store at count start lie whole =
    let live : Live = lie.live in
    let within : live.start + live.size ≤ length (cells_in store) = subst (λ n. live.start + live.size ≤ n) (sym (length-map store.cells.items cell_of)) (within_region store at.block live whole lie.is) in
    part_in (cells_in store) live at.offset count within
    ∙ ap (λ r. and_then r (λ s. Ok (take count (drop s (cells_in store))))) (cond-true (nat_le (at.offset + count) live.size) (Ok (live.start + at.offset)) (Err Outside) (le-leb (at.offset + count) live.size lie.inside))
    ∙ ap (λ s. Ok (take count (drop s (cells_in store)))) (sym lie.begins)

true_of : {A : Type 0} (b : Bool) (value given : A) → cond b (Ok value) (Err Misaligned) ≡ Ok given → b ≡ true
true_of true value given e = refl
true_of false value given e = cc

scalar_at : (store : Inside) (at : Ptr) (scalar : Scalar) (start : ℕ) (lie : Lies store at (scalar_size scalar) start) → IsWhole store → scalar_place_at store.table.items at scalar ≡ Ok start → scalar_part_of (block_of lie.live (cells_in store)) at.offset scalar ≡ Ok (take (scalar_size scalar) (drop start (cells_in store)))
scalar_at store at scalar start lie whole found =
    let live : Live = lie.live in
    let size : ℕ = scalar_size scalar in
    let fits : Bool = at.offset % size == 0 && nat_le size live.align in
    let aligned : Result ℕ Fault → Result ℕ Fault = λ r. and_then r (λ s. cond fits (Ok s) (Err Misaligned)) in
    let one : aligned (placed live at.offset size) ≡ Ok start = ap (λ o. and_then (ok_or o Dead) (λ l. scalar_placed l at.offset scalar)) (sym lie.is) ∙ found in
    let place : placed live at.offset size ≡ Ok (live.start + at.offset) = cond-true (nat_le (at.offset + size) live.size) (Ok (live.start + at.offset)) (Err Outside) (le-leb (at.offset + size) live.size lie.inside) in
    let yes : fits ≡ true = true_of fits (live.start + at.offset) start (ap aligned (sym place) ∙ one) in
    ap (λ r. and_then r (λ cells. cond fits (Ok cells) (Err Misaligned))) (part_at store at size start lie whole)
    ∙ cond-true fits (Ok (take size (drop start (cells_in store)))) (Err Misaligned) yes

pub part_changed : (store : Inside) (region : Region) (at : Ptr) (count start : ℕ) (part : List Cell) (cells : Vec Packed Global) (rest : Block → List Cell → Result Block Fault) → IsWhole store → region_of store ≡ region → place_at store.table.items at count ≡ Ok start → length part ≡ count → Wrote store.cells start part cells → ((block : Block) → rest block (take count (drop start (cells_in store))) ≡ Ok (with_part block at.offset part)) → live_change region.memory at.block (λ block. and_then (part_of block at.offset count) (rest block)) ≡ Ok (region_of (with_cells store cells)).memory
part_changed store region at count start part cells rest whole e found many wrote gives =
    let lie = lies store at count start found in
    let inside = lie.inside in
    let step : Block → Result Block Fault = λ block. and_then (part_of block at.offset count) (rest block) in
    let block : Block = block_of lie.live (cells_in store) in
    step_changed store region at start part cells step (record { live = lie.live; is = lie.is; inside = omega arith; begins = lie.begins }) whole e wrote
    (ap (λ r. and_then r (rest block)) (part_at store at count start lie whole) ∙ gives block)

pub scalar_changed : (store : Inside) (region : Region) (at : Ptr) (scalar : Scalar) (start : ℕ) (part : List Cell) (cells : Vec Packed Global) → IsWhole store → region_of store ≡ region → scalar_place_at store.table.items at scalar ≡ Ok start → length part ≡ scalar_size scalar → Wrote store.cells start part cells → live_change region.memory at.block (λ block. and_then (scalar_part_of block at.offset scalar) (λ _. Ok (with_part block at.offset part))) ≡ Ok (region_of (with_cells store cells)).memory
scalar_changed store region at scalar start part cells whole e found many wrote =
    let lie = scalar_lies store at scalar start found in
    let inside = lie.inside in
    let step : Block → Result Block Fault = λ block. and_then (scalar_part_of block at.offset scalar) (λ _. Ok (with_part block at.offset part)) in
    let block : Block = block_of lie.live (cells_in store) in
    step_changed store region at start part cells step (record { live = lie.live; is = lie.is; inside = omega arith; begins = lie.begins }) whole e wrote
    (ap (λ r. and_then r (λ _. Ok (with_part block at.offset part))) (scalar_at store at scalar start lie whole found))
