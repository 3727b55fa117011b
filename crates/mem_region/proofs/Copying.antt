-- What a copy in a region does, and what a block does that dies or is made.
use Rattle.std.proofs.Common.{◌≡◌, ◌≢◌, ℕ, suc, ◌+◌, ◌-◌, ◌<◌, ◌≤◌, ◌||◌, ◌==◌, nat_lt, Bool, true, false, cond, List, [], ◌∷◌, ◌++◌, map, length, take, drop, replicate, get_or, slice_set, Option, Some, None, Result, Ok, Err, refl, sym, ◌∙◌, ap, subst, arith, length-take, ◌^◌, eq-eqb, lt-ltb, Vec, Global}
use Rattle.std.specs.Prelude.{option_map, ok_or}
use Rattle.std.specs.Vec.{vec_capacity}
use Rattle.std.proofs.lemmas.Bool.{cond-true, cond-false, ne_eqb}
use Rattle.std.proofs.lemmas.Bool.Decides.{nat_tests}
use Rattle.std.proofs.lemmas.List.{length-map, length-take-le, length-replicate, length-append, length-drop, map-append, take-map, drop-map}
use Rattle.mem_bytes.specs.declared.cell.Cell.{Cell}
use Rattle.mem_bytes.specs.declared.fault.Fault.{Fault}
use Rattle.mem_bytes.specs.declared.fault.Fault.TheVariants.{Dead}
use Rattle.mem_bytes.specs.declared.fault.StoreFault.TheVariants.{Full}
use Rattle.mem_bytes.specs.declared.value.Ptr.{Ptr}
use Rattle.mem_bytes.specs.Access.{and_then, part_of, live_read, block_with_copy, copied_between, after_copy, after_kill}
use Rattle.mem_bytes.specs.Counted.{live_bytes, live_blocks, with_new_block, after_alloc}
use Rattle.mem_bytes.specs.Memory.{Block, Blocks, live_block, unset_cell, with_part}
use Rattle.mem_region.specs.declared.packed.Packed.{Packed}
use Rattle.mem_region.specs.declared.region_store.RegionStore.TheInside.{Inside}
use Rattle.mem_region.specs.declared.table.CopyPlaces.{CopyPlaces}
use Rattle.mem_region.specs.declared.table.Live.{Live}
use Rattle.mem_region.specs.Held.{region_of, IsWhole}
use Rattle.mem_region.specs.Layout.{blocks_from, AreLaid, NoneHas, HasAt, Has, block_of, lookup, placed, copy_places_at, slid}
use Rattle.mem_region.specs.Packed.{cell_of, Wrote}
use Rattle.mem_region.specs.Region.{Region}
use Rattle.mem_region.proofs.Blocks.{some_live, killed, laid_killed, pushed, laid_pushed}
use Rattle.mem_region.proofs.Laid.{bounds, laid_split, length-blocks, bytes_counted, blocks_counted}
use Rattle.mem_region.proofs.Reading.{cells_in, laid_in, block_in, part_in, within_region, Lies, lies_found, lies_within, read_at}
use Rattle.mem_region.proofs.Changing.{with_cells, step_changed, part_at}
use Rattle.mem_region.proofs.Searched.{parts_at, found_none}

-- ---- copies

-- where both places lie
pub record BothLie (store : Inside) (from to : Ptr) (count : ℕ) (places : CopyPlaces) : Type 0 where
  pub source : Lies store from count places.from
  pub target : Lies store to count places.to

abbrev places_of : Result ℕ Fault → Result ℕ Fault → Result CopyPlaces Fault
places_of first second =
    and_then first (λ start. and_then second (λ place. Ok (record { from = start; to = place })))

abbrev copy_places_of : Option Live → Option Live → Ptr → Ptr → ℕ → Result CopyPlaces Fault
copy_places_of first second from to count =
    and_then (ok_or first Dead) (λ source.
    and_then (ok_or second Dead) (λ target.
    places_of (placed source from.offset count) (placed target to.offset count)))

placed_both : (store : Inside) (from to : Ptr) (count : ℕ) (places : CopyPlaces) (source target : Live) (first second : Result ℕ Fault) → lookup store.table.items from.block ≡ Some source → lookup store.table.items to.block ≡ Some target → placed source from.offset count ≡ first → placed target to.offset count ≡ second → places_of first second ≡ Ok places → BothLie store from to count places
placed_both store from to count places source target (Ok start) (Ok place) e f g h same =
    let both : record { from = start; to = place } ≡ places = cc in
    let one : start ≡ places.from = ap (λ (p : CopyPlaces). p.from) both in
    let two : place ≡ places.to = ap (λ (p : CopyPlaces). p.to) both in
    record {
      source = lies_found store from count places.from (Some source) e (g ∙ ap Ok one);
      target = lies_found store to count places.to (Some target) f (h ∙ ap Ok two);
    }
placed_both store from to count places source target (Ok start) (Err fault) e f g h same = cc
placed_both store from to count places source target (Err fault) second e f g h same = cc

both_found : (store : Inside) (from to : Ptr) (count : ℕ) (places : CopyPlaces) (first second : Option Live) → lookup store.table.items from.block ≡ first → lookup store.table.items to.block ≡ second → copy_places_of first second from to count ≡ Ok places → BothLie store from to count places
both_found store from to count places None second e f same = cc
both_found store from to count places (Some source) None e f same = cc
both_found store from to count places (Some source) (Some target) e f same =
    placed_both store from to count places source target (placed source from.offset count) (placed target to.offset count) e f refl refl same

pub both_lie : (store : Inside) (from to : Ptr) (count : ℕ) (places : CopyPlaces) → copy_places_at store.table.items from to count ≡ Ok places → BothLie store from to count places
both_lie store from to count places e =
    both_found store from to count places (lookup store.table.items from.block) (lookup store.table.items to.block) refl refl e

-- the fault of a place is that of the copy
fault_of : {A B C D : Type 0} (first second : Result ℕ Fault) (f : ℕ → A) (g : ℕ → B) (h : A → C) (k : C → Result D Fault) (fault : Fault) → places_of first second ≡ Err fault → and_then (and_then (and_then first (λ start. Ok (f start))) (λ cells. and_then (and_then second (λ place. Ok (g place))) (λ _. Ok (h cells)))) k ≡ Err fault
fault_of (Ok start) (Ok place) f g h k fault e = cc
fault_of (Ok start) (Err other) f g h k fault e = cc
fault_of (Err other) second f g h k fault e = cc

fault_found : (store : Inside) (from to : Ptr) (count : ℕ) (fault : Fault) (first second : Option Live) → IsWhole store → lookup store.table.items from.block ≡ first → lookup store.table.items to.block ≡ second → copy_places_of first second from to count ≡ Err fault → copied_between (region_of store).memory from to count (option_map (λ live. block_of live (cells_in store)) first) (option_map (λ live. block_of live (cells_in store)) second) ≡ Err fault
fault_found store from to count fault None second whole e f same = cc
fault_found store from to count fault (Some source) None whole e f same = cc
fault_found store from to count fault (Some source) (Some target) whole e f same =
    let cells : List Cell = cells_in store in
    let memory : Blocks = (region_of store).memory in
    let block : Block = block_of target cells in
    let put : Block → Result Blocks Fault = λ b. Ok (slice_set memory to.block (Some b)) in
    let one : source.start + source.size ≤ length cells = subst (λ n. source.start + source.size ≤ n) (sym (length-map store.cells.items cell_of)) (within_region store from.block source whole e) in
    let two : target.start + target.size ≤ length cells = subst (λ n. target.start + target.size ≤ n) (sym (length-map store.cells.items cell_of)) (within_region store to.block target whole f) in
    ap (λ r. and_then (and_then r (λ part. and_then (part_of block to.offset count) (λ _. Ok (with_part block to.offset part)))) put) (part_in cells source from.offset count one)
    ∙ ap (λ r. and_then (and_then (and_then (placed source from.offset count) (λ start. Ok (take count (drop start cells)))) (λ part. and_then r (λ _. Ok (with_part block to.offset part)))) put) (part_in cells target to.offset count two)
    ∙ fault_of (placed source from.offset count) (placed target to.offset count) (λ start. take count (drop start cells)) (λ place. take count (drop place cells)) (λ part. with_part block to.offset part) put fault same

-- a copy of some cells is one between two blocks
copy_is : (store : Inside) (region : Region) (from to : Ptr) (count : ℕ) (first second : Option Live) → IsWhole store → region_of store ≡ region → (count == 0) ≡ false → lookup store.table.items from.block ≡ first → lookup store.table.items to.block ≡ second → after_copy region.memory from to count ≡ copied_between (region_of store).memory from to count (option_map (λ live. block_of live (cells_in store)) first) (option_map (λ live. block_of live (cells_in store)) second)
copy_is store region from to count first second whole same some e f =
    let memory : Blocks = (region_of store).memory in
    ap (λ (r : Region). after_copy r.memory from to count) (sym same)
    ∙ cond-false (count == 0) (Ok memory) (copied_between memory from to count (live_block memory from.block) (live_block memory to.block)) some
    ∙ ap (λ b. copied_between memory from to count b (live_block memory to.block)) (block_in store from.block first whole e)
    ∙ ap (copied_between memory from to count (option_map (λ live. block_of live (cells_in store)) first)) (block_in store to.block second whole f)

pub copy_fault : (store : Inside) (region : Region) (table : List Live) (from to : Ptr) (count : ℕ) (fault : Fault) → IsWhole store → region_of store ≡ region → table ≡ store.table.items → (count == 0) ≡ false → Err fault ≡ copy_places_at table from to count → after_copy region.memory from to count ≡ Err fault
copy_fault store region table from to count fault whole same kept some e =
    copy_is store region from to count (lookup store.table.items from.block) (lookup store.table.items to.block) whole same some refl refl
    ∙ fault_found store from to count fault (lookup store.table.items from.block) (lookup store.table.items to.block) whole refl refl (sym (e ∙ ap (λ t. copy_places_at t from to count) kept))

both_in : (store : Inside) (table : List Live) (from to : Ptr) (count : ℕ) (places : CopyPlaces) → table ≡ store.table.items → Ok places ≡ copy_places_at table from to count → BothLie store from to count places
both_in store table from to count places kept e =
    both_lie store from to count places (sym (e ∙ ap (λ t. copy_places_at t from to count) kept))

pub copy_within_from : (store : Inside) (table : List Live) (from to : Ptr) (count : ℕ) (places : CopyPlaces) → IsWhole store → table ≡ store.table.items → Ok places ≡ copy_places_at table from to count → places.from + count ≤ length store.cells.items
copy_within_from store table from to count places whole kept e =
    lies_within store from count places.from whole (both_in store table from to count places kept e).source

pub copy_within_to : (store : Inside) (table : List Live) (from to : Ptr) (count : ℕ) (places : CopyPlaces) → IsWhole store → table ≡ store.table.items → Ok places ≡ copy_places_at table from to count → places.to + count ≤ length store.cells.items
copy_within_to store table from to count places whole kept e =
    lies_within store to count places.to whole (both_in store table from to count places kept e).target

-- as many cells are copied as are asked for
part_many : (store : Inside) (from : ℕ) (count : ℕ) → from + count ≤ length store.cells.items → length (take count (drop from (cells_in store))) ≡ count
part_many store from count within =
    length-take-le count (drop from (cells_in store)) (simp (length-drop, length-map) (omega arith))

pub copy_part : (store : Inside) (table : List Live) (from to : Ptr) (count : ℕ) (places : CopyPlaces) → IsWhole store → table ≡ store.table.items → Ok places ≡ copy_places_at table from to count → places.to + length (take count (drop places.from (cells_in store))) ≤ length store.cells.items
copy_part store table from to count places whole kept e =
    let many = part_many store places.from count (copy_within_from store table from to count places whole kept e) in
    let within = copy_within_to store table from to count places whole kept e in omega arith

pub copy_changed : (store : Inside) (region : Region) (table : List Live) (from to : Ptr) (count : ℕ) (places : CopyPlaces) (cells : Vec Packed Global) → IsWhole store → region_of store ≡ region → table ≡ store.table.items → (count == 0) ≡ false → Ok places ≡ copy_places_at table from to count → Wrote store.cells places.to (take count (drop places.from (cells_in store))) cells → after_copy region.memory from to count ≡ Ok (region_of (with_cells store cells)).memory
copy_changed store region table from to count places cells whole same kept some e wrote =
    let both = both_in store table from to count places kept e in
    let held : List Cell = cells_in store in
    let memory : Blocks = (region_of store).memory in
    let source : Block = block_of both.source.live held in
    let target : Block = block_of both.target.live held in
    let part : List Cell = take count (drop places.from held) in
    let step : Block → Result Block Fault = λ block. block_with_copy block to.offset source from.offset count in
    let put : Block → Result Blocks Fault = λ b. Ok (slice_set memory to.block (Some b)) in
    let many = part_many store places.from count (lies_within store from count places.from whole both.source) in
    let inside = both.target.inside in
    let lie : Lies store to (length part) places.to = record { live = both.target.live; is = both.target.is; inside = omega arith; begins = both.target.begins } in
    let gives : step target ≡ Ok (with_part target to.offset part) =
    ap (λ r. and_then r (λ cells. and_then (part_of target to.offset count) (λ _. Ok (with_part target to.offset cells)))) (part_at store from count places.from both.source whole)
    ∙ ap (λ r. and_then r (λ _. Ok (with_part target to.offset part))) (part_at store to count places.to both.target whole) in
    copy_is store region from to count (Some both.source.live) (Some both.target.live) whole same some both.source.is both.target.is
    ∙ sym (ap (λ b. and_then (live_read b step) put) (block_in store to.block (Some both.target.live) whole both.target.is))
    ∙ step_changed store (region_of store) to places.to part cells step lie whole refl wrote gives

-- ---- a block that dies

pub kill_dead : (store : Inside) (region : Region) (number : ℕ) → IsWhole store → region_of store ≡ region → NoneHas store.table.items number → after_kill region.memory number ≡ Err Dead
kill_dead store region number whole same none =
    read_at store region number (λ _. Ok (slice_set region.memory number None)) whole same
    ∙ ap (λ r. and_then r (λ live. Ok (slice_set region.memory number None))) (sym (found_none store.table.items number none))

-- a store with one block less
abbrev pub without : Inside → Vec Live Global → Vec Packed Global → Inside
without store table cells =
    record { bytes = store.bytes; blocks = store.blocks; next = store.next; table = table; cells = cells }

-- the facts of a call that takes a block out
pub record TakenOut (store : Inside) (number index : ℕ) (dead : Live) (table : Vec Live Global) (cells : Vec Packed Global) : Type 0 where
  pub at : HasAt store.table.items number index
  pub read : dead ≡ get_or store.table.items index dead
  pub rest : table.items ≡ take index store.table.items ++ slid dead.size (drop (index + 1) store.table.items)
  pub closed : cells.items ≡ take dead.start store.cells.items ++ drop (dead.start + dead.size) store.cells.items
  pub table_room : vec_capacity table ≡ vec_capacity store.table
  pub cells_room : vec_capacity cells ≡ vec_capacity store.cells

pub dead_within : (store : Inside) (index : ℕ) (dead : Live) → IsWhole store → index < length store.table.items → dead ≡ get_or store.table.items index dead → dead.start + dead.size ≤ length store.cells.items
dead_within store index dead whole within read =
    let table : List Live = store.table.items in
    let parts : table ≡ take index table ++ dead ∷ drop (index + 1) table = parts_at table index dead within ∙ ap (λ one. take index table ++ one ∷ drop (index + 1) table) (sym read) in
    let split = laid_split (take index table) dead (drop (index + 1) table) 0 store.next 0 (length store.cells.items) (subst (AreLaid 0 store.next 0 (length store.cells.items)) parts whole.laid) in
    (bounds (drop (index + 1) table) (suc dead.number) store.next (dead.start + dead.size) (length store.cells.items) split.1.2).1

has_dead : (store : Inside) (number index : ℕ) (dead : Live) (table : Vec Live Global) (cells : Vec Packed Global) → IsWhole store → (out : TakenOut store number index dead table cells) → store.table.items ≡ take index store.table.items ++ dead ∷ drop (index + 1) store.table.items
has_dead store number index dead table cells whole out =
    parts_at store.table.items index dead out.at.within
    ∙ ap (λ one. take index store.table.items ++ one ∷ drop (index + 1) store.table.items) (sym out.read)

fits_dead : (store : Inside) (number index : ℕ) (dead : Live) (table : Vec Live Global) (cells : Vec Packed Global) → IsWhole store → (out : TakenOut store number index dead table cells) → dead.start + dead.size < 2 ^ 62
fits_dead store number index dead table cells whole out =
    let within = dead_within store index dead whole out.at.within out.read in
    let bytes = whole.bytes in
    let few = whole.few_bytes in omega arith

number_of : (store : Inside) (number index : ℕ) (dead : Live) (table : Vec Live Global) (cells : Vec Packed Global) → (out : TakenOut store number index dead table cells) → dead.number ≡ number
number_of store number index dead table cells out = ap (λ (live : Live). live.number) out.read ∙ out.at.same dead

closed_cells : (store : Inside) (number index : ℕ) (dead : Live) (table : Vec Live Global) (cells : Vec Packed Global) → (out : TakenOut store number index dead table cells) → map cell_of cells.items ≡ take dead.start (cells_in store) ++ drop (dead.start + dead.size) (cells_in store)
closed_cells store number index dead table cells out =
    let held = store.cells.items in
    ap (map cell_of) out.closed
    ∙ map-append cell_of (take dead.start held) (drop (dead.start + dead.size) held)
    ∙ ap (λ xs. xs ++ map cell_of (drop (dead.start + dead.size) held)) (sym (take-map cell_of dead.start held))
    ∙ ap (λ xs. take dead.start (cells_in store) ++ xs) (sym (drop-map cell_of (dead.start + dead.size) held))

pub kill_made : (store : Inside) (region : Region) (number index : ℕ) (dead : Live) (table : Vec Live Global) (cells : Vec Packed Global) → IsWhole store → region_of store ≡ region → TakenOut store number index dead table cells → after_kill region.memory number ≡ Ok (region_of (without store table cells)).memory
kill_made store region number index dead table cells whole same out =
    let memory : Blocks = (region_of store).memory in
    let stood : Has store.table.items number dead = record {
      before = take index store.table.items;
      after = drop (index + 1) store.table.items;
      parts = has_dead store number index dead table cells whole out;
      same = number_of store number index dead table cells out;
      fits = fits_dead store number index dead table cells whole out;
    } in
    let live : live_block memory number ≡ Some (block_of dead (cells_in store)) = some_live store.table.items number dead (cells_in store) store.next stood (laid_in store whole) in
    let new = killed store.table.items table.items number dead (cells_in store) (map cell_of cells.items) store.next stood (laid_in store whole) out.rest (closed_cells store number index dead table cells out) in
    ap (λ (r : Region). after_kill r.memory number) (sym same)
    ∙ ap (λ b. live_read b (λ _. Ok (slice_set memory number None))) live
    ∙ ap Ok (sym new)

pub whole_killed : (store : Inside) (number index : ℕ) (dead : Live) (table : Vec Live Global) (cells : Vec Packed Global) → IsWhole store → TakenOut store number index dead table cells → IsWhole (without store table cells)
whole_killed store number index dead table cells whole out =
    let stood : Has store.table.items number dead = record {
      before = take index store.table.items;
      after = drop (index + 1) store.table.items;
      parts = has_dead store number index dead table cells whole out;
      same = number_of store number index dead table cells out;
      fits = fits_dead store number index dead table cells whole out;
    } in
    let laid = laid_killed store.table.items table.items number dead (cells_in store) (map cell_of cells.items) store.next stood (laid_in store whole) out.rest (closed_cells store number index dead table cells out) in
    let within = dead_within store index dead whole out.at.within out.read in
    let inside = out.at.within in
    let bytes = whole.bytes in
    let blocks = whole.blocks in
    let many : length table.items + 1 ≡ length store.table.items = ap (λ xs. length xs + 1) out.rest ∙ simp (length-append, length-take, length-map, length-drop) (omega arith) in
    let long : length cells.items + dead.size ≡ length store.cells.items = ap (λ xs. length xs + dead.size) out.closed ∙ simp (length-append, length-take, length-drop) (omega arith) in
    record {
      laid = subst (λ n. AreLaid 0 store.next 0 n table.items) (length-map cells.items cell_of) laid;
      bytes = omega arith;
      blocks = omega arith;
      few_bytes = whole.few_bytes;
      bytes_room = subst (λ n. store.bytes ≤ n) (sym out.cells_room) whole.bytes_room;
      blocks_room = subst (λ n. store.blocks ≤ n) (sym out.table_room) whole.blocks_room;
    }

-- ---- a new block

-- as many bytes and blocks are live as the store has cells and entries
bytes_are : (store : Inside) → IsWhole store → live_bytes (region_of store).memory ≡ length store.cells.items
bytes_are store whole =
    bytes_counted store.table.items (cells_in store) 0 store.next 0 (length (cells_in store)) (laid_in store whole) (omega arith)
    ∙ length-map store.cells.items cell_of

blocks_are : (store : Inside) → live_blocks (region_of store).memory ≡ length store.table.items
blocks_are store = blocks_counted store.table.items (cells_in store) 0 store.next

-- what a new block comes to, by the counts
counted : (store : Inside) (region : Region) (size align : ℕ) → IsWhole store → region_of store ≡ region → after_alloc (Some region.limit) region.memory size align ≡ cond (nat_lt store.bytes (length store.cells.items + size) || length store.table.items == store.blocks) (Err (Full size (store.bytes - length store.cells.items))) (Ok (with_new_block (region_of store).memory size align))
counted store region size align whole same =
    let memory : Blocks = (region_of store).memory in
    ap (λ (r : Region). after_alloc (Some r.limit) r.memory size align) (sym same)
    ∙ ap (λ n. cond (nat_lt store.bytes (n + size) || live_blocks memory == store.blocks) (Err (Full size (store.bytes - n))) (Ok (with_new_block memory size align))) (bytes_are store whole)
    ∙ ap (λ n. cond (nat_lt store.bytes (length store.cells.items + size) || n == store.blocks) (Err (Full size (store.bytes - length store.cells.items))) (Ok (with_new_block memory size align))) (blocks_are store)

or_right : (b c : Bool) → c ≡ true → (b || c) ≡ true
or_right true c e = refl
or_right false c e = e

pub full_bytes : (store : Inside) (region : Region) (size align left : ℕ) → IsWhole store → region_of store ≡ region → left ≡ store.bytes - length store.cells.items → left < size → after_alloc (Some region.limit) region.memory size align ≡ Err (Full size left)
full_bytes store region size align left whole same e less =
    let bytes = whole.bytes in
    let past : nat_lt store.bytes (length store.cells.items + size) ≡ true = lt-ltb store.bytes (length store.cells.items + size) (omega arith) in
    counted store region size align whole same
    ∙ ap (λ b. cond (b || length store.table.items == store.blocks) (Err (Full size (store.bytes - length store.cells.items))) (Ok (with_new_block (region_of store).memory size align))) past
    ∙ ap (λ n. Err (Full size n)) (sym e)

pub full_blocks : (store : Inside) (region : Region) (size align left : ℕ) → IsWhole store → region_of store ≡ region → left ≡ store.bytes - length store.cells.items → length store.table.items ≡ store.blocks → after_alloc (Some region.limit) region.memory size align ≡ Err (Full size left)
full_blocks store region size align left whole same e all =
    let past = or_right (nat_lt store.bytes (length store.cells.items + size)) (length store.table.items == store.blocks) (eq-eqb (length store.table.items) store.blocks all) in
    counted store region size align whole same
    ∙ cond-true (nat_lt store.bytes (length store.cells.items + size) || length store.table.items == store.blocks) (Err (Full size (store.bytes - length store.cells.items))) (Ok (with_new_block (region_of store).memory size align)) past
    ∙ ap (λ n. Err (Full size n)) (sym e)

-- a store with one block more
abbrev pub with_block : Inside → Vec Live Global → Vec Packed Global → Inside
with_block store table cells =
    record { bytes = store.bytes; blocks = store.blocks; next = store.next + 1; table = table; cells = cells }

-- the facts of a call that makes a block
pub record PutIn (store : Inside) (size align : ℕ) (table : Vec Live Global) (cells : Vec Packed Global) : Type 0 where
  pub entry : table.items ≡ store.table.items ++ record { number = store.next; align = align; size = size; start = length store.cells.items } ∷ []
  pub unset : map cell_of cells.items ≡ cells_in store ++ replicate size unset_cell
  pub bytes : size ≤ store.bytes - length store.cells.items
  pub blocks : length store.table.items ≢ store.blocks
  pub table_room : vec_capacity store.table ≤ vec_capacity table
  pub cells_room : vec_capacity store.cells ≤ vec_capacity cells

pub alloc_made : (store : Inside) (region : Region) (size align : ℕ) (table : Vec Live Global) (cells : Vec Packed Global) → IsWhole store → region_of store ≡ region → PutIn store size align table cells → after_alloc (Some region.limit) region.memory size align ≡ Ok (region_of (with_block store table cells)).memory
alloc_made store region size align table cells whole same put =
    let live : Live = record { number = store.next; align = align; size = size; start = length store.cells.items } in
    let memory : Blocks = (region_of store).memory in
    let some = put.bytes in
    let bytes = whole.bytes in
    let within : nat_lt store.bytes (length store.cells.items + size) ≡ false = grind (arith, nat_tests) in
    let fewer : (length store.table.items == store.blocks) ≡ false = ne_eqb (length store.table.items) store.blocks put.blocks in
    let new : blocks_from 0 (store.next + 1) (store.table.items ++ live ∷ []) (cells_in store ++ replicate size unset_cell) ≡ memory ++ Some (record { align = align; cells = replicate size unset_cell }) ∷ [] =
    pushed store.table.items live (cells_in store) (replicate size unset_cell) store.next (laid_in store whole) refl (sym (length-map store.cells.items cell_of)) (length-replicate size unset_cell) in
    counted store region size align whole same
    ∙ ap (λ b. cond (b || length store.table.items == store.blocks) (Err (Full size (store.bytes - length store.cells.items))) (Ok (with_new_block memory size align))) within
    ∙ ap (λ b. cond b (Err (Full size (store.bytes - length store.cells.items))) (Ok (with_new_block memory size align))) fewer
    ∙ ap Ok (sym new)
    ∙ ap (λ t. Ok (blocks_from 0 (store.next + 1) t (cells_in store ++ replicate size unset_cell))) (sym put.entry)
    ∙ ap (λ xs. Ok (blocks_from 0 (store.next + 1) table.items xs)) (sym put.unset)

pub whole_made : (store : Inside) (size align : ℕ) (table : Vec Live Global) (cells : Vec Packed Global) → IsWhole store → PutIn store size align table cells → IsWhole (with_block store table cells)
whole_made store size align table cells whole put =
    let live : Live = record { number = store.next; align = align; size = size; start = length store.cells.items } in
    let long : length cells.items ≡ length store.cells.items + size = sym (length-map cells.items cell_of) ∙ ap length put.unset ∙ simp (length-append, length-map, length-replicate) refl in
    let many : length table.items ≡ length store.table.items + 1 = ap length put.entry ∙ simp length-append (omega arith) in
    let laid = laid_pushed store.table.items live store.next (length store.cells.items) whole.laid refl refl in
    let bytes = whole.bytes in
    let blocks = whole.blocks in
    let some = put.bytes in
    let fewer = put.blocks in
    let one = whole.bytes_room in
    let two = whole.blocks_room in
    let three = put.cells_room in
    let four = put.table_room in
    record {
      laid = subst (λ n. AreLaid 0 (store.next + 1) 0 n table.items) (sym long) (subst (AreLaid 0 (store.next + 1) 0 (length store.cells.items + size)) (sym put.entry) laid);
      bytes = omega arith;
      blocks = omega arith;
      few_bytes = whole.few_bytes;
      bytes_room = omega arith;
      blocks_room = omega arith;
    }

-- as many blocks were made as the next number says
pub made_many : (store : Inside) (region : Region) → IsWhole store → region_of store ≡ region → length region.memory ≡ store.next
made_many store region whole same =
    let many = length-blocks store.table.items (cells_in store) 0 store.next 0 (length store.cells.items) whole.laid in
    ap (λ (r : Region). length r.memory) (sym same) ∙ omega arith
