-- What the other calls of a store in a region change or tell, by what they found in its table.
use Rattle.std.proofs.Common.{◌≡◌, ℕ, ◌-◌, ◌<◌, ◌≤◌, List, [], ◌∷◌, ◌++◌, length, take, drop, replicate, get_or, slice_get, slice_set, Option, Some, None, Result, Ok, Err, refl, sym, ◌∙◌, ap, subst, arith, length-drop, Vec, Global}
use Rattle.std.specs.Prelude.{option_map, ok_or, unwrap_or, true, false}
use Rattle.std.proofs.lemmas.List.{length-map, length-take-le, length-replicate}
use Rattle.std.proofs.lemmas.Option.{slice_get_past, slice_get-get_or, unwrap_or-slice_get}
use Rattle.mem_bytes.specs.declared.cell.Cell.{Cell}
use Rattle.mem_bytes.specs.declared.fault.Fault.{Fault}
use Rattle.mem_bytes.specs.declared.fault.Fault.TheVariants.{Dead}
use Rattle.mem_bytes.specs.declared.store.BlockState.{BlockState}
use Rattle.mem_bytes.specs.declared.value.Ptr.{Ptr}
use Rattle.mem_bytes.specs.Access.{and_then, after_put_bits, after_fill, after_put_cell}
use Rattle.mem_bytes.specs.Bits.{bytes_touched, with_field_in}
use Rattle.mem_bytes.specs.Memory.{Block, Blocks, unset_cell, byte_cell, with_part, state_of, block_state}
use Rattle.mem_region.specs.declared.packed.Packed.{Packed}
use Rattle.mem_region.specs.declared.region_store.RegionStore.TheInside.{Inside}
use Rattle.mem_region.specs.declared.table.Live.{Live}
use Rattle.mem_region.specs.Held.{region_of, IsWhole}
use Rattle.mem_region.specs.Layout.{block_of, lookup, found, place_at}
use Rattle.mem_region.specs.Packed.{field_stored, Wrote}
use Rattle.mem_region.specs.Region.{Region}
use Rattle.mem_region.proofs.Calls.{part_fault, part_gives, first_part}
use Rattle.mem_region.proofs.Changing.{with_cells, part_changed}
use Rattle.mem_region.proofs.Copying.{made_many}
use Rattle.mem_region.proofs.Reading.{cells_in, block_in, within_region}

-- ---- bit-fields

pub put_bits_fault : (store : Inside) (region : Region) (table : List Live) (at : Ptr) (bit width field count : ℕ) (fault : Fault) → IsWhole store → region_of store ≡ region → table ≡ store.table.items → count ≡ bytes_touched bit width → Err fault ≡ place_at table at count → after_put_bits region.memory at bit width field ≡ Err fault
put_bits_fault store region table at bit width field count fault whole e same many f =
    ap (λ r. and_then r (λ block. Ok (slice_set region.memory at.block (Some block)))) (part_fault store region table at (bytes_touched bit width) fault (λ block cells. and_then (with_field_in bit width field cells) (λ new. Ok (with_part block at.offset new))) whole e same (f ∙ ap (place_at table at) many))

err_of : {A : Type 0} (r : Result A Fault) (g : A → A) (fault : Fault) → Err fault ≡ and_then r (λ new. Ok (g new)) → r ≡ Err fault
err_of (Ok new) g fault e = cc
err_of (Err other) g fault e = sym e

record Given {A : Type 0} (r : Result A Fault) (g : A → A) (value : A) : Type 0 where
  pub new : A
  pub is : r ≡ Ok new
  pub made : value ≡ g new

ok_of : {A : Type 0} (r : Result A Fault) (g : A → A) (value : A) → Ok value ≡ and_then r (λ new. Ok (g new)) → Given r g value
ok_of (Ok new) g value e = record { new = new; is = refl; made = cc }
ok_of (Err other) g value e = cc

pub put_bits_mixed : (store : Inside) (region : Region) (table : List Live) (held : List Packed) (at : Ptr) (bit width field count start : ℕ) (fault : Fault) → IsWhole store → region_of store ≡ region → table ≡ store.table.items → count ≡ bytes_touched bit width → Ok start ≡ place_at table at count → held ≡ store.cells.items → Err fault ≡ field_stored held start bit width field → after_put_bits region.memory at bit width field ≡ Err fault
put_bits_mixed store region table held at bit width field count start fault whole e same many f kept gives =
    let part : List Cell = take (bytes_touched bit width) (drop start (cells_in store)) in
    let mixed = err_of (with_field_in bit width field part) (λ new. new ++ replicate (8 - bytes_touched bit width) unset_cell) fault (gives ∙ ap (λ xs. field_stored xs start bit width field) kept) in
    ap (λ r. and_then r (λ block. Ok (slice_set region.memory at.block (Some block)))) (part_gives store region table at (bytes_touched bit width) start (λ block cells. and_then (with_field_in bit width field cells) (λ new. Ok (with_part block at.offset new))) (Err fault) whole e same (f ∙ ap (place_at table at) many) (λ block. ap (λ r. and_then r (λ new. Ok (with_part block at.offset new))) mixed))

pub put_bits_done : (store : Inside) (region : Region) (table : List Live) (held : List Packed) (at : Ptr) (bit width field count start : ℕ) (changed given : List Cell) (new : Vec Packed Global) → IsWhole store → region_of store ≡ region → table ≡ store.table.items → count ≡ bytes_touched bit width → Ok start ≡ place_at table at count → held ≡ store.cells.items → count ≤ 8 → length changed ≡ 8 → Ok changed ≡ field_stored held start bit width field → given ≡ take count changed → Wrote store.cells start given new → after_put_bits region.memory at bit width field ≡ Ok (region_of (with_cells store new)).memory
put_bits_done store region table held at bit width field count start changed given new whole e same many f kept few eight gives taken wrote =
    let part : List Cell = take (bytes_touched bit width) (drop start (cells_in store)) in
    let put = ok_of (with_field_in bit width field part) (λ xs. xs ++ replicate (8 - bytes_touched bit width) unset_cell) changed (gives ∙ ap (λ xs. field_stored xs start bit width field) kept) in
    let both = first_part changed put.new count few eight (put.made ∙ ap (λ n. put.new ++ replicate (8 - n) unset_cell) (sym many)) in
    let is : given ≡ put.new = taken ∙ both.0 in
    let place : place_at store.table.items at (bytes_touched bit width) ≡ Ok start = sym (f ∙ ap (λ t. place_at t at count) same ∙ ap (place_at store.table.items at) many) in
    part_changed store region at (bytes_touched bit width) start put.new new (λ block cells. and_then (with_field_in bit width field cells) (λ xs. Ok (with_part block at.offset xs))) whole e place (both.1 ∙ many) (subst (λ p. Wrote store.cells start p new) is wrote)
    (λ block. ap (λ r. and_then r (λ ys. Ok (with_part block at.offset ys))) put.is)

-- ---- bytes and cells

pub fill_fault : (store : Inside) (region : Region) (table : List Live) (at : Ptr) (byte count : ℕ) (fault : Fault) → IsWhole store → region_of store ≡ region → table ≡ store.table.items → Err fault ≡ place_at table at count → after_fill region.memory at byte count ≡ Err fault
fill_fault store region table at byte count fault whole e same f =
    ap (λ r. and_then r (λ block. Ok (slice_set region.memory at.block (Some block)))) (part_fault store region table at count fault (λ block _. Ok (with_part block at.offset (replicate count (byte_cell byte)))) whole e same f)

pub fill_done : (store : Inside) (region : Region) (table : List Live) (at : Ptr) (byte count start : ℕ) (new : Vec Packed Global) → IsWhole store → region_of store ≡ region → table ≡ store.table.items → Ok start ≡ place_at table at count → Wrote store.cells start (replicate count (byte_cell byte)) new → after_fill region.memory at byte count ≡ Ok (region_of (with_cells store new)).memory
fill_done store region table at byte count start new whole e same f wrote =
    part_changed store region at count start (replicate count (byte_cell byte)) new (λ block _. Ok (with_part block at.offset (replicate count (byte_cell byte)))) whole e (sym (f ∙ ap (λ t. place_at t at count) same)) (length-replicate count (byte_cell byte)) wrote (λ block. refl)

pub put_cell_fault : (store : Inside) (region : Region) (table : List Live) (at : Ptr) (cell : Cell) (fault : Fault) → IsWhole store → region_of store ≡ region → table ≡ store.table.items → Err fault ≡ place_at table at 1 → after_put_cell region.memory at cell ≡ Err fault
put_cell_fault store region table at cell fault whole e same f =
    ap (λ r. and_then r (λ block. Ok (slice_set region.memory at.block (Some block)))) (part_fault store region table at 1 fault (λ block _. Ok (with_part block at.offset (cell ∷ []))) whole e same f)

pub put_cell_done : (store : Inside) (region : Region) (table : List Live) (at : Ptr) (cell : Cell) (start : ℕ) (new : Vec Packed Global) → IsWhole store → region_of store ≡ region → table ≡ store.table.items → Ok start ≡ place_at table at 1 → Wrote store.cells start (cell ∷ []) new → after_put_cell region.memory at cell ≡ Ok (region_of (with_cells store new)).memory
put_cell_done store region table at cell start new whole e same f wrote =
    part_changed store region at 1 start (cell ∷ []) new (λ block _. Ok (with_part block at.offset (cell ∷ []))) whole e (sym (f ∙ ap (λ t. place_at t at 1) same)) refl wrote (λ block. refl)

-- ---- what is told of a block

pub state_none : (store : Inside) (region : Region) (number : ℕ) → IsWhole store → region_of store ≡ region → store.next ≤ number → None ≡ block_state region.memory number
state_none store region number whole same past =
    ap (option_map state_of) (sym (slice_get_past region.memory number (omega (arith, made_many store region whole same))))

at_found : (o : Option (Option Block)) (b : Block) → unwrap_or o None ≡ Some b → o ≡ Some (Some b)
at_found None b e = cc
at_found (Some place) b e = ap Some e

found_some : (o : Option Live) (live : Live) → Ok live ≡ ok_or o Dead → o ≡ Some live
found_some None live e = cc
found_some (Some one) live e = cc

found_no : (o : Option Live) (fault : Fault) → Err fault ≡ ok_or o Dead → o ≡ None
found_no None fault e = refl
found_no (Some one) fault e = cc

pub state_live : (store : Inside) (region : Region) (table : List Live) (number : ℕ) (live : Live) → IsWhole store → region_of store ≡ region → table ≡ store.table.items → Ok live ≡ found table number → Some (record { size = live.size; align = live.align; live = true }) ≡ block_state region.memory number
state_live store region table number live whole same kept f =
    let is : lookup store.table.items number ≡ Some live = found_some (lookup store.table.items number) live (f ∙ ap (λ t. found t number) kept) in
    let within = within_region store number live whole is in
    let block = block_in store number (Some live) whole is in
    let many : length (take live.size (drop live.start (cells_in store))) ≡ live.size = length-take-le live.size (drop live.start (cells_in store)) (simp (length-drop, length-map) (omega arith)) in
    let state : ℕ → BlockState = λ n. record { size = n; align = live.align; live = true } in
    sym (ap (λ (r : Region). block_state r.memory number) (sym same)
    ∙ ap (option_map state_of) (at_found (slice_get (region_of store).memory number) (block_of live (cells_in store)) block)
    ∙ ap (λ n. Some (state n)) many)

pub state_dead : (store : Inside) (region : Region) (table : List Live) (number : ℕ) (fault : Fault) → IsWhole store → region_of store ≡ region → table ≡ store.table.items → number < store.next → Err fault ≡ found table number → Some (record { size = 0; align = 1; live = false }) ≡ block_state region.memory number
state_dead store region table number fault whole same kept below f =
    let is : lookup store.table.items number ≡ None = found_no (lookup store.table.items number) fault (f ∙ ap (λ t. found t number) kept) in
    let memory : Blocks = (region_of store).memory in
    let none : get_or memory number None ≡ None = sym (unwrap_or-slice_get memory number None) ∙ block_in store number None whole is in
    let many = made_many store (region_of store) whole refl in
    sym (ap (λ (r : Region). block_state r.memory number) (sym same)
    ∙ ap (option_map state_of) (slice_get-get_or memory number None (omega arith) ∙ ap Some none))
