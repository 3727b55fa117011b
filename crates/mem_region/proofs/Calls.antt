-- What the calls of a store in a region answer, by what they found in its table.
use Rattle.std.proofs.Common.{◌≡◌, ℕ, ◌+◌, ◌-◌, ◌≤◌, Bool, true, false, cond, List, ◌++◌, map, length, take, drop, replicate, get_or, Option, Some, None, Result, Ok, Err, refl, sym, ◌∙◌, ap, subst, arith, length-take, length-drop, length-append, add-zero, ◌%◌, ◌&&◌, ◌==◌, nat_le, slice_set, Vec, Global}
use Rattle.std.specs.Prelude.{ok_or}
use Rattle.std.proofs.lemmas.List.{length-map, length-take-le, length-replicate, take_at, get_or-take, get_or-drop, get_or-map}
use Rattle.cr_base.specs.declared.scalar.Scalar.{Scalar}
use Rattle.mem_bytes.specs.declared.cell.Cell.{Cell}
use Rattle.mem_bytes.specs.declared.fault.Fault.{Fault}
use Rattle.mem_bytes.specs.declared.fault.Fault.TheVariants.{Dead, Outside, Misaligned}
use Rattle.mem_bytes.specs.declared.value.Ptr.{Ptr}
use Rattle.mem_bytes.specs.declared.value.Value.{Value}
use Rattle.mem_bytes.specs.Access.{and_then, value_at, field_at, cell_at, part_of, scalar_part_of, block_cell, after_put, live_read}
use Rattle.mem_bytes.specs.Bits.{bytes_touched, field_in}
use Rattle.mem_bytes.specs.Coding.{scalar_size, cells_of, value_of}
use Rattle.mem_bytes.specs.Memory.{Block, live_block, unset_cell, with_part}
use Rattle.mem_region.specs.declared.packed.Packed.{Packed}
use Rattle.mem_region.specs.declared.region_store.RegionStore.TheInside.{Inside}
use Rattle.mem_region.specs.declared.table.Live.{Live}
use Rattle.mem_region.specs.Held.{region_of, IsWhole}
use Rattle.mem_region.specs.Layout.{block_of, lookup, placed, scalar_placed, place_at, scalar_place_at}
use Rattle.mem_region.specs.Packed.{cell_of, Wrote}
use Rattle.mem_region.specs.Region.{Region}
use Rattle.mem_region.proofs.Reading.{cells_in, read_at, part_in, within_region, joined, aligned, scalar_read, lies, scalar_lies, lies_within}
use Rattle.mem_region.proofs.Changing.{with_cells, part_at, scalar_changed}

-- ---- places that were found

pub place_within : (store : Inside) (table : List Live) (at : Ptr) (count start : ℕ) → IsWhole store → table ≡ store.table.items → Ok start ≡ place_at table at count → start + count ≤ length store.cells.items
place_within store table at count start whole same e =
    lies_within store at count start whole (lies store at count start (sym (e ∙ ap (λ t. place_at t at count) same)))

pub scalar_place_within : (store : Inside) (table : List Live) (at : Ptr) (scalar : Scalar) (start : ℕ) → IsWhole store → table ≡ store.table.items → Ok start ≡ scalar_place_at table at scalar → start + scalar_size scalar ≤ length store.cells.items
scalar_place_within store table at scalar start whole same e =
    lies_within store at (scalar_size scalar) start whole (scalar_lies store at scalar start (sym (e ∙ ap (λ t. scalar_place_at t at scalar) same)))

-- ---- a part of a block that isn't there, or is

part_fault_of : {A : Type 0} (store : Inside) (at : Ptr) (count : ℕ) (fault : Fault) (rest : Block → List Cell → Result A Fault) (o : Option Live) → IsWhole store → lookup store.table.items at.block ≡ o → and_then (ok_or o Dead) (λ live. placed live at.offset count) ≡ Err fault → and_then (ok_or o Dead) (λ live. and_then (part_of (block_of live (cells_in store)) at.offset count) (rest (block_of live (cells_in store)))) ≡ Err fault
part_fault_of store at count fault rest None whole e f = cc
part_fault_of store at count fault rest (Some live) whole e f =
    let block : Block = block_of live (cells_in store) in
    ap (λ r. and_then r (rest block)) (part_in (cells_in store) live at.offset count (subst (λ n. live.start + live.size ≤ n) (sym (length-map store.cells.items cell_of)) (within_region store at.block live whole e)))
    ∙ joined (placed live at.offset count) (λ start. take count (drop start (cells_in store))) (rest block)
    ∙ ap (λ r. and_then r (λ start. rest block (take count (drop start (cells_in store))))) f

pub part_fault : {A : Type 0} (store : Inside) (region : Region) (table : List Live) (at : Ptr) (count : ℕ) (fault : Fault) (rest : Block → List Cell → Result A Fault) → IsWhole store → region_of store ≡ region → table ≡ store.table.items → Err fault ≡ place_at table at count → live_read (live_block region.memory at.block) (λ block. and_then (part_of block at.offset count) (rest block)) ≡ Err fault
part_fault store region table at count fault rest whole e same f =
    read_at store region at.block (λ block. and_then (part_of block at.offset count) (rest block)) whole e
    ∙ part_fault_of store at count fault rest (lookup store.table.items at.block) whole refl (sym (f ∙ ap (λ t. place_at t at count) same))

scalar_fault_of : {A : Type 0} (store : Inside) (at : Ptr) (scalar : Scalar) (fault : Fault) (rest : Block → List Cell → Result A Fault) (o : Option Live) → IsWhole store → lookup store.table.items at.block ≡ o → and_then (ok_or o Dead) (λ live. scalar_placed live at.offset scalar) ≡ Err fault → and_then (ok_or o Dead) (λ live. and_then (scalar_part_of (block_of live (cells_in store)) at.offset scalar) (rest (block_of live (cells_in store)))) ≡ Err fault
scalar_fault_of store at scalar fault rest None whole e f = cc
scalar_fault_of store at scalar fault rest (Some live) whole e f =
    let block : Block = block_of live (cells_in store) in
    let fits : Bool = at.offset % scalar_size scalar == 0 && nat_le (scalar_size scalar) live.align in
    ap (λ r. and_then (and_then r (λ cells. cond fits (Ok cells) (Err Misaligned))) (rest block)) (part_in (cells_in store) live at.offset (scalar_size scalar) (subst (λ n. live.start + live.size ≤ n) (sym (length-map store.cells.items cell_of)) (within_region store at.block live whole e)))
    ∙ aligned (placed live at.offset (scalar_size scalar)) fits (λ start. take (scalar_size scalar) (drop start (cells_in store))) (rest block)
    ∙ ap (λ r. and_then r (λ start. rest block (take (scalar_size scalar) (drop start (cells_in store))))) f

scalar_fault : {A : Type 0} (store : Inside) (region : Region) (table : List Live) (at : Ptr) (scalar : Scalar) (fault : Fault) (rest : Block → List Cell → Result A Fault) → IsWhole store → region_of store ≡ region → table ≡ store.table.items → Err fault ≡ scalar_place_at table at scalar → live_read (live_block region.memory at.block) (λ block. and_then (scalar_part_of block at.offset scalar) (rest block)) ≡ Err fault
scalar_fault store region table at scalar fault rest whole e same f =
    read_at store region at.block (λ block. and_then (scalar_part_of block at.offset scalar) (rest block)) whole e
    ∙ scalar_fault_of store at scalar fault rest (lookup store.table.items at.block) whole refl (sym (f ∙ ap (λ t. scalar_place_at t at scalar) same))

pub part_gives : {A : Type 0} (store : Inside) (region : Region) (table : List Live) (at : Ptr) (count start : ℕ) (rest : Block → List Cell → Result A Fault) (outcome : Result A Fault) → IsWhole store → region_of store ≡ region → table ≡ store.table.items → Ok start ≡ place_at table at count → ((block : Block) → rest block (take count (drop start (cells_in store))) ≡ outcome) → live_read (live_block region.memory at.block) (λ block. and_then (part_of block at.offset count) (rest block)) ≡ outcome
part_gives store region table at count start rest outcome whole e same f gives =
    let lie = lies store at count start (sym (f ∙ ap (λ t. place_at t at count) same)) in
    let block : Block = block_of lie.live (cells_in store) in
    read_at store region at.block (λ block. and_then (part_of block at.offset count) (rest block)) whole e
    ∙ ap (λ o. and_then (ok_or o Dead) (λ live. and_then (part_of (block_of live (cells_in store)) at.offset count) (rest (block_of live (cells_in store))))) lie.is
    ∙ ap (λ r. and_then r (rest block)) (part_at store at count start lie whole)
    ∙ gives block

-- ---- reads

-- the cells that were read come first
pub read_part : (held : List Packed) (cells part : List Cell) (store : Inside) (start count : ℕ) → held ≡ store.cells.items → start + count ≤ length store.cells.items → cells ≡ take count (drop start (map cell_of held)) ++ part → take count cells ≡ take count (drop start (cells_in store))
read_part held cells part store start count same within e =
    let many : length (take count (drop start (map cell_of held))) ≡ count = length-take-le count (drop start (map cell_of held)) (simp (length-drop, length-map) (omega (arith, ap length same))) in
    ap (take count) e
    ∙ take_at (take count (drop start (map cell_of held))) part count many
    ∙ ap (λ xs. take count (drop start (map cell_of xs))) same

pub load_fault : (store : Inside) (region : Region) (table : List Live) (at : Ptr) (scalar : Scalar) (fault : Fault) → IsWhole store → region_of store ≡ region → table ≡ store.table.items → Err fault ≡ scalar_place_at table at scalar → Err fault ≡ value_at region.memory at scalar
load_fault store region table at scalar fault whole e same f =
    sym (scalar_fault store region table at scalar fault (λ _. value_of scalar) whole e same f)

pub load_value : (store : Inside) (region : Region) (table : List Live) (held : List Packed) (at : Ptr) (scalar : Scalar) (size start : ℕ) (cells part : List Cell) (result : Result Value Fault) → IsWhole store → region_of store ≡ region → table ≡ store.table.items → Ok start ≡ scalar_place_at table at scalar → held ≡ store.cells.items → size ≡ scalar_size scalar → cells ≡ take size (drop start (map cell_of held)) ++ part → result ≡ value_of scalar (take (scalar_size scalar) cells) → result ≡ value_at region.memory at scalar
load_value store region table held at scalar size start cells part result whole e same f kept many read gives =
    gives
    ∙ ap (value_of scalar) (read_part held cells part store start (scalar_size scalar) kept (scalar_place_within store table at scalar start whole same f) (read ∙ ap (λ n. take n (drop start (map cell_of held)) ++ part) many))
    ∙ sym (scalar_read store region at scalar (value_of scalar) whole e
    ∙ ap (λ r. and_then r (λ s. value_of scalar (take (scalar_size scalar) (drop s (cells_in store))))) (sym (f ∙ ap (λ t. scalar_place_at t at scalar) same)))

pub load_bits_fault : (store : Inside) (region : Region) (table : List Live) (at : Ptr) (bit width count : ℕ) (fault : Fault) → IsWhole store → region_of store ≡ region → table ≡ store.table.items → count ≡ bytes_touched bit width → Err fault ≡ place_at table at count → Err fault ≡ field_at region.memory at bit width
load_bits_fault store region table at bit width count fault whole e same many f =
    sym (part_fault store region table at (bytes_touched bit width) fault (λ _. field_in bit width) whole e same (f ∙ ap (place_at table at) many))

pub load_bits_value : (store : Inside) (region : Region) (table : List Live) (held : List Packed) (at : Ptr) (bit width count start : ℕ) (cells part read : List Cell) (result : Result ℕ Fault) → IsWhole store → region_of store ≡ region → table ≡ store.table.items → count ≡ bytes_touched bit width → Ok start ≡ place_at table at count → held ≡ store.cells.items → cells ≡ take count (drop start (map cell_of held)) ++ part → read ≡ take count cells → result ≡ field_in bit width read → result ≡ field_at region.memory at bit width
load_bits_value store region table held at bit width count start cells part read result whole e same many f kept all first gives =
    gives
    ∙ ap (field_in bit width) (first ∙ read_part held cells part store start count kept (place_within store table at count start whole same f) all)
    ∙ ap (λ n. field_in bit width (take n (drop start (cells_in store)))) many
    ∙ sym (part_gives store region table at (bytes_touched bit width) start (λ _. field_in bit width) (field_in bit width (take (bytes_touched bit width) (drop start (cells_in store)))) whole e same (f ∙ ap (place_at table at) many) (λ block. refl))

-- the one cell of a block is the one of its part
one_cases : (b : Bool) (cells : List Cell) (offset : ℕ) → and_then (cond b (Ok (take 1 (drop offset cells))) (Err Outside)) (λ _. Ok (get_or cells offset unset_cell)) ≡ and_then (cond b (Ok (take 1 (drop offset cells))) (Err Outside)) (λ part. Ok (get_or part 0 unset_cell))
one_cases true cells offset =
    ap Ok (sym (get_or-take 1 (drop offset cells) 0 unset_cell (omega arith) ∙ get_or-drop offset cells 0 unset_cell ∙ ap (λ n. get_or cells n unset_cell) (add-zero offset)))
one_cases false cells offset = refl

one_of : (block : Block) (offset : ℕ) → block_cell block offset ≡ and_then (part_of block offset 1) (λ part. Ok (get_or part 0 unset_cell))
one_of block offset = one_cases (nat_le (offset + 1) (length block.cells)) block.cells offset

live_same : {A : Type 0} (b : Option Block) (f g : Block → Result A Fault) → ((block : Block) → f block ≡ g block) → live_read b f ≡ live_read b g
live_same None f g same = refl
live_same (Some block) f g same = same block

pub cell_fault : (store : Inside) (region : Region) (table : List Live) (at : Ptr) (fault : Fault) → IsWhole store → region_of store ≡ region → table ≡ store.table.items → Err fault ≡ place_at table at 1 → Err fault ≡ cell_at region.memory at
cell_fault store region table at fault whole e same f =
    sym (part_fault store region table at 1 fault (λ block _. Ok (get_or block.cells at.offset unset_cell)) whole e same f)

pub cell_value : (store : Inside) (region : Region) (table : List Live) (at : Ptr) (start : ℕ) (one : Packed) (cell : Cell) → IsWhole store → region_of store ≡ region → table ≡ store.table.items → Ok start ≡ place_at table at 1 → cell ≡ cell_of (get_or store.cells.items start one) → Ok cell ≡ cell_at region.memory at
cell_value store region table at start one cell whole e same f read =
    let within = place_within store table at 1 start whole same f in
    let held : get_or (take 1 (drop start (cells_in store))) 0 unset_cell ≡ cell =
    get_or-take 1 (drop start (cells_in store)) 0 unset_cell (omega arith)
    ∙ get_or-drop start (cells_in store) 0 unset_cell
    ∙ ap (λ n. get_or (cells_in store) n unset_cell) (add-zero start)
    ∙ get_or-map cell_of store.cells.items start one unset_cell (omega arith)
    ∙ sym read in
    sym (live_same (live_block region.memory at.block) (λ block. block_cell block at.offset) (λ block. and_then (part_of block at.offset 1) (λ part. Ok (get_or part 0 unset_cell))) (λ block. one_of block at.offset)
    ∙ part_gives store region table at 1 start (λ _ part. Ok (get_or part 0 unset_cell)) (Ok cell) whole e same f (λ block. ap Ok held))

-- ---- writes

-- the cells that are written come first
pub first_part : (cells given : List Cell) (size : ℕ) → size ≤ 8 → length cells ≡ 8 → cells ≡ given ++ replicate (8 - size) unset_cell → (take size cells ≡ given) × (length given ≡ size)
first_part cells given size few eight e =
    let all : length given + (8 - size) ≡ 8 = sym (ap length e ∙ simp (length-append, length-replicate) refl) ∙ eight in
    let many : length given ≡ size = omega arith in
    (ap (take size) e ∙ take_at given (replicate (8 - size) unset_cell) size many, many)

pub put_fault : (store : Inside) (region : Region) (table : List Live) (at : Ptr) (scalar : Scalar) (value : Value) (fault : Fault) → IsWhole store → region_of store ≡ region → table ≡ store.table.items → Err fault ≡ scalar_place_at table at scalar → after_put region.memory at scalar value ≡ Err fault
put_fault store region table at scalar value fault whole e same f =
    ap (λ r. and_then r (λ block. Ok (slice_set region.memory at.block (Some block)))) (scalar_fault store region table at scalar fault (λ block _. Ok (with_part block at.offset (cells_of scalar value))) whole e same f)

pub put_done : (store : Inside) (region : Region) (table : List Live) (at : Ptr) (scalar : Scalar) (value : Value) (start : ℕ) (cells part : List Cell) (new : Vec Packed Global) → IsWhole store → region_of store ≡ region → table ≡ store.table.items → Ok start ≡ scalar_place_at table at scalar → scalar_size scalar ≤ 8 → length cells ≡ 8 → cells ≡ cells_of scalar value ++ replicate (8 - scalar_size scalar) unset_cell → part ≡ take (scalar_size scalar) cells → Wrote store.cells start part new → after_put region.memory at scalar value ≡ Ok (region_of (with_cells store new)).memory
put_done store region table at scalar value start cells part new whole e same f few eight given first wrote =
    let both = first_part cells (cells_of scalar value) (scalar_size scalar) few eight given in
    let is : part ≡ cells_of scalar value = first ∙ both.0 in
    scalar_changed store region at scalar start (cells_of scalar value) new whole e (sym (f ∙ ap (λ t. scalar_place_at t at scalar) same)) both.1 (subst (λ p. Wrote store.cells start p new) is wrote)

-- as many cells of a list as are written have their place
pub few_within : (cells : List Cell) (size count start end : ℕ) → size ≡ count → start + count ≤ end → start + length (take size cells) ≤ end
few_within cells size count start end same p = simp length-take (omega arith)
