-- What a store in a region reads.
use Rattle.std.proofs.Common.{◌≡◌, ℕ, suc, ◌+◌, ◌-◌, ◌%◌, ◌≤◌, ◌&&◌, ◌==◌, nat_le, Bool, true, false, cond, List, [], ◌∷◌, ◌++◌, map, length, take, drop, Option, Some, None, Result, Ok, Err, refl, sym, ◌∙◌, ap, subst, arith, length-drop, eq-eqb, ⊎_elim}
use Rattle.std.specs.Prelude.{option_map, ok_or}
use Rattle.std.proofs.lemmas.Bool.{cases_eq, cond-true, cond-false, ne_eqb}
use Rattle.std.proofs.lemmas.Bool.Decides.{nat_tests}
use Rattle.std.proofs.lemmas.List.{length-map, length-take-le, drop-take, take-take, drop-drop}
use Rattle.cr_base.specs.declared.scalar.Scalar.{Scalar}
use Rattle.mem_bytes.specs.declared.cell.Cell.{Cell}
use Rattle.mem_bytes.specs.declared.fault.Fault.{Fault}
use Rattle.mem_bytes.specs.declared.fault.Fault.TheVariants.{Dead, Outside, Misaligned}
use Rattle.mem_bytes.specs.declared.value.Ptr.{Ptr}
use Rattle.mem_bytes.specs.Access.{and_then, part_of, scalar_part_of, live_read}
use Rattle.mem_bytes.specs.Coding.{scalar_size}
use Rattle.mem_bytes.specs.Memory.{Block, live_block}
use Rattle.mem_region.specs.declared.region_store.RegionStore.TheInside.{Inside}
use Rattle.mem_region.specs.declared.table.Live.{Live}
use Rattle.mem_region.specs.Held.{region_of, IsWhole}
use Rattle.mem_region.specs.Layout.{AreLaid, IsTable, Has, block_of, lookup, found, placed, scalar_placed, place_at, scalar_place_at}
use Rattle.mem_region.specs.Packed.{cell_of}
use Rattle.mem_region.specs.Region.{Region}
use Rattle.mem_region.proofs.Laid.{bounds, laid_split}
use Rattle.mem_region.proofs.Blocks.{none_live, some_live}

-- ---- the table and the cells of a store

pub table_of : (store : Inside) → IsWhole store → IsTable store.table.items
table_of store whole =
    let bytes = whole.bytes in
    let few = whole.few_bytes in
    record { next = store.next; end = length store.cells.items; laid = whole.laid; fits = omega arith }

abbrev pub cells_in : Inside → List Cell
cells_in store = map cell_of store.cells.items

pub laid_in : (store : Inside) → IsWhole store → AreLaid 0 store.next 0 (length (cells_in store)) store.table.items
laid_in store whole =
    subst (λ n. AreLaid 0 store.next 0 n store.table.items) (sym (length-map store.cells.items cell_of)) whole.laid

-- a block that is found stands in the table
record Stands (table : List Live) (number : ℕ) (live : Live) : Type 0 where
  pub before : List Live
  pub after : List Live
  pub parts : table ≡ before ++ live ∷ after
  pub same : live.number ≡ number

stands : (table : List Live) (number : ℕ) (live : Live) → lookup table number ≡ Some live → Stands table number live
stands [] number live e = cc
stands (first ∷ others) number live e =
    ⊎_elim
    (λ (same : first.number ≡ number).
    let one : first ≡ live = cc (cond-true (first.number == number) (Some first) (lookup others number) (eq-eqb first.number number same)) in
    record { before = []; after = others; parts = ap (λ x. x ∷ others) one; same = sym (ap (λ (x : Live). x.number) one) ∙ same })
    (λ (apart : first.number ≡ number → ⊥).
    let rest = stands others number live (sym (cond-false (first.number == number) (Some first) (lookup others number) (ne_eqb first.number number apart)) ∙ e) in
    record { before = first ∷ rest.before; after = rest.after; parts = ap (λ xs. first ∷ xs) rest.parts; same = rest.same })
    (cases_eq first.number number)

pub has_found : (table : List Live) (number : ℕ) (live : Live) → IsTable table → lookup table number ≡ Some live → Has table number live
has_found table number live it e =
    let stood = stands table number live e in
    let split = laid_split stood.before live stood.after 0 it.next 0 it.end (subst (AreLaid 0 it.next 0 it.end) stood.parts it.laid) in
    let within = bounds stood.after (suc live.number) it.next (live.start + live.size) it.end split.1.2 in
    let few = it.fits in
    record { before = stood.before; after = stood.after; parts = stood.parts; same = stood.same; fits = omega arith }

-- the cells of a block that is found lie in the region
pub within_region : (store : Inside) (number : ℕ) (live : Live) → IsWhole store → lookup store.table.items number ≡ Some live → live.start + live.size ≤ length store.cells.items
within_region store number live whole e =
    let stood = stands store.table.items number live e in
    let split = laid_split stood.before live stood.after 0 store.next 0 (length store.cells.items) (subst (AreLaid 0 store.next 0 (length store.cells.items)) stood.parts whole.laid) in
    (bounds stood.after (suc live.number) store.next (live.start + live.size) (length store.cells.items) split.1.2).1

-- the live block with a number is the one that the table has
pub block_in : (store : Inside) (number : ℕ) (o : Option Live) → IsWhole store → lookup store.table.items number ≡ o → live_block (region_of store).memory number ≡ option_map (λ live. block_of live (cells_in store)) o
block_in store number None whole e =
    let same : number - 0 ≡ number = omega arith in
    ap (live_block (region_of store).memory) (sym same)
    ∙ none_live store.table.items (cells_in store) 0 store.next 0 (length store.cells.items) number whole.laid e (omega arith)
block_in store number (Some live) whole e =
    some_live store.table.items number live (cells_in store) store.next (has_found store.table.items number live (table_of store whole) e) (laid_in store whole)

read_cases : {A : Type 0} (o : Option Live) (b : Option Block) (cells : List Cell) (step : Block → Result A Fault) → b ≡ option_map (λ live. block_of live cells) o → live_read b step ≡ and_then (ok_or o Dead) (λ live. step (block_of live cells))
read_cases None b cells step e = ap (λ x. live_read x step) e
read_cases (Some live) b cells step e = ap (λ x. live_read x step) e

pub read_at : {A : Type 0} (store : Inside) (region : Region) (number : ℕ) (step : Block → Result A Fault) → IsWhole store → region_of store ≡ region → live_read (live_block region.memory number) step ≡ and_then (found store.table.items number) (λ live. step (block_of live (cells_in store)))
read_at store region number step whole e =
    read_cases (lookup store.table.items number) (live_block region.memory number) (cells_in store) step (ap (λ (r : Region). live_block r.memory number) (sym e) ∙ block_in store number (lookup store.table.items number) whole refl)

-- ---- a part of a block

part_true : (cells : List Cell) (live : Live) (offset count : ℕ) → offset + count ≤ live.size → take count (drop offset (take live.size (drop live.start cells))) ≡ take count (drop (live.start + offset) cells)
part_true cells live offset count p =
    let k : ℕ = live.size - offset in
    let both : offset + k ≡ live.size = omega arith in
    ap (λ n. take count (drop offset (take n (drop live.start cells)))) (sym both)
    ∙ ap (take count) (drop-take offset k (drop live.start cells))
    ∙ take-take count k (drop offset (drop live.start cells)) (omega arith)
    ∙ ap (take count) (drop-drop offset live.start cells)

part_cases : (b : Bool) (cells : List Cell) (live : Live) (offset count : ℕ) → nat_le (offset + count) live.size ≡ b → cond b (Ok (take count (drop offset (take live.size (drop live.start cells))))) (Err Outside) ≡ and_then (cond b (Ok (live.start + offset)) (Err Outside)) (λ start. Ok (take count (drop start cells)))
part_cases true cells live offset count e =
    let p : offset + count ≤ live.size = grind (arith, nat_tests) in
    ap Ok (part_true cells live offset count p)
part_cases false cells live offset count e = refl

pub part_in : (cells : List Cell) (live : Live) (offset count : ℕ) → live.start + live.size ≤ length cells → part_of (block_of live cells) offset count ≡ and_then (placed live offset count) (λ start. Ok (take count (drop start cells)))
part_in cells live offset count within =
    let many : length (take live.size (drop live.start cells)) ≡ live.size = length-take-le live.size (drop live.start cells) (simp length-drop (omega arith)) in
    ap (λ n. cond (nat_le (offset + count) n) (Ok (take count (drop offset (take live.size (drop live.start cells))))) (Err Outside)) many
    ∙ part_cases (nat_le (offset + count) live.size) cells live offset count refl

pub joined : {A B : Type 0} (r : Result ℕ Fault) (f : ℕ → A) (rest : A → Result B Fault) → and_then (and_then r (λ start. Ok (f start))) rest ≡ and_then r (λ start. rest (f start))
joined (Ok start) f rest = refl
joined (Err fault) f rest = refl

pub aligned : {A B : Type 0} (r : Result ℕ Fault) (b : Bool) (f : ℕ → A) (rest : A → Result B Fault) → and_then (and_then (and_then r (λ start. Ok (f start))) (λ cells. cond b (Ok cells) (Err Misaligned))) rest ≡ and_then (and_then r (λ start. cond b (Ok start) (Err Misaligned))) (λ start. rest (f start))
aligned (Ok start) true f rest = refl
aligned (Ok start) false f rest = refl
aligned (Err fault) b f rest = refl

-- ---- reads of a part and of a scalar

part_found : {A : Type 0} (store : Inside) (at : Ptr) (count : ℕ) (rest : List Cell → Result A Fault) (o : Option Live) → IsWhole store → lookup store.table.items at.block ≡ o → and_then (ok_or o Dead) (λ live. and_then (part_of (block_of live (cells_in store)) at.offset count) rest) ≡ and_then (and_then (ok_or o Dead) (λ live. placed live at.offset count)) (λ start. rest (take count (drop start (cells_in store))))
part_found store at count rest None whole e = refl
part_found store at count rest (Some live) whole e =
    ap (λ r. and_then r rest) (part_in (cells_in store) live at.offset count (subst (λ n. live.start + live.size ≤ n) (sym (length-map store.cells.items cell_of)) (within_region store at.block live whole e)))
    ∙ joined (placed live at.offset count) (λ start. take count (drop start (cells_in store))) rest

pub part_read : {A : Type 0} (store : Inside) (region : Region) (at : Ptr) (count : ℕ) (rest : List Cell → Result A Fault) → IsWhole store → region_of store ≡ region → live_read (live_block region.memory at.block) (λ block. and_then (part_of block at.offset count) rest) ≡ and_then (place_at store.table.items at count) (λ start. rest (take count (drop start (cells_in store))))
part_read store region at count rest whole e =
    read_at store region at.block (λ block. and_then (part_of block at.offset count) rest) whole e
    ∙ part_found store at count rest (lookup store.table.items at.block) whole refl

scalar_found : {A : Type 0} (store : Inside) (at : Ptr) (scalar : Scalar) (rest : List Cell → Result A Fault) (o : Option Live) → IsWhole store → lookup store.table.items at.block ≡ o → and_then (ok_or o Dead) (λ live. and_then (scalar_part_of (block_of live (cells_in store)) at.offset scalar) rest) ≡ and_then (and_then (ok_or o Dead) (λ live. scalar_placed live at.offset scalar)) (λ start. rest (take (scalar_size scalar) (drop start (cells_in store))))
scalar_found store at scalar rest None whole e = refl
scalar_found store at scalar rest (Some live) whole e =
    let fits : Bool = at.offset % scalar_size scalar == 0 && nat_le (scalar_size scalar) live.align in
    ap (λ r. and_then (and_then r (λ cells. cond fits (Ok cells) (Err Misaligned))) rest) (part_in (cells_in store) live at.offset (scalar_size scalar) (subst (λ n. live.start + live.size ≤ n) (sym (length-map store.cells.items cell_of)) (within_region store at.block live whole e)))
    ∙ aligned (placed live at.offset (scalar_size scalar)) fits (λ start. take (scalar_size scalar) (drop start (cells_in store))) rest

pub scalar_read : {A : Type 0} (store : Inside) (region : Region) (at : Ptr) (scalar : Scalar) (rest : List Cell → Result A Fault) → IsWhole store → region_of store ≡ region → live_read (live_block region.memory at.block) (λ block. and_then (scalar_part_of block at.offset scalar) rest) ≡ and_then (scalar_place_at store.table.items at scalar) (λ start. rest (take (scalar_size scalar) (drop start (cells_in store))))
scalar_read store region at scalar rest whole e =
    read_at store region at.block (λ block. and_then (scalar_part_of block at.offset scalar) rest) whole e
    ∙ scalar_found store at scalar rest (lookup store.table.items at.block) whole refl

-- ---- what a place that was found says

-- a part of a live block, and where it begins in the region
pub record Lies (store : Inside) (at : Ptr) (count start : ℕ) : Type 0 where
  pub live : Live
  pub is : lookup store.table.items at.block ≡ Some live
  pub inside : at.offset + count ≤ live.size
  pub begins : start ≡ live.start + at.offset

placed_lies : (store : Inside) (at : Ptr) (count start : ℕ) (live : Live) (b : Bool) → lookup store.table.items at.block ≡ Some live → nat_le (at.offset + count) live.size ≡ b → cond b (Ok (live.start + at.offset)) (Err Outside) ≡ Ok start → Lies store at count start
placed_lies store at count start live true e le same =
    record { live = live; is = e; inside = grind (arith, nat_tests); begins = cc }
placed_lies store at count start live false e le same = cc

pub lies_found : (store : Inside) (at : Ptr) (count start : ℕ) (o : Option Live) → lookup store.table.items at.block ≡ o → and_then (ok_or o Dead) (λ live. placed live at.offset count) ≡ Ok start → Lies store at count start
lies_found store at count start None e same = cc
lies_found store at count start (Some live) e same =
    placed_lies store at count start live (nat_le (at.offset + count) live.size) e refl same

pub lies : (store : Inside) (at : Ptr) (count start : ℕ) → place_at store.table.items at count ≡ Ok start → Lies store at count start
lies store at count start e = lies_found store at count start (lookup store.table.items at.block) refl e

scalar_part : (r : Result ℕ Fault) (b : Bool) (start : ℕ) → and_then r (λ s. cond b (Ok s) (Err Misaligned)) ≡ Ok start → r ≡ Ok start
scalar_part (Ok s) true start e = e
scalar_part (Ok s) false start e = cc
scalar_part (Err fault) b start e = cc

scalar_lies_found : (store : Inside) (at : Ptr) (scalar : Scalar) (start : ℕ) (o : Option Live) → lookup store.table.items at.block ≡ o → and_then (ok_or o Dead) (λ live. scalar_placed live at.offset scalar) ≡ Ok start → Lies store at (scalar_size scalar) start
scalar_lies_found store at scalar start None e same = cc
scalar_lies_found store at scalar start (Some live) e same =
    lies_found store at (scalar_size scalar) start (Some live) e (scalar_part (placed live at.offset (scalar_size scalar)) (at.offset % scalar_size scalar == 0 && nat_le (scalar_size scalar) live.align) start same)

pub scalar_lies : (store : Inside) (at : Ptr) (scalar : Scalar) (start : ℕ) → scalar_place_at store.table.items at scalar ≡ Ok start → Lies store at (scalar_size scalar) start
scalar_lies store at scalar start e = scalar_lies_found store at scalar start (lookup store.table.items at.block) refl e

-- its cells lie in the region
pub lies_within : (store : Inside) (at : Ptr) (count start : ℕ) → IsWhole store → Lies store at count start → start + count ≤ length store.cells.items
lies_within store at count start whole lie =
    let within = within_region store at.block lie.live whole lie.is in
    let inside = lie.inside in
    let begins = lie.begins in omega arith

-- ---- a fault, and a value

pub gave_fault : {A B : Type 0} (given : Result A Fault) (fault : Fault) (outcome : Result B Fault) (r : Result A Fault) (rest : A → Result B Fault) → outcome ≡ and_then r rest → given ≡ r → given ≡ Err fault → outcome ≡ Err fault
gave_fault given fault outcome r rest e same was =
    e ∙ ap (λ x. and_then x rest) (sym same ∙ was)

pub gave_value : {A B : Type 0} (given : Result A Fault) (value : A) (outcome : Result B Fault) (r : Result A Fault) (rest : A → Result B Fault) → outcome ≡ and_then r rest → given ≡ r → given ≡ Ok value → outcome ≡ rest value
gave_value given value outcome r rest e same was =
    e ∙ ap (λ x. and_then x rest) (sym same ∙ was)
