-- Cells written over others in a list.
use Rattle.std.proofs.Common.{◌≡◌, ℕ, zero, suc, ◌+◌, ◌-◌, ◌<◌, ◌≤◌, List, [], ◌∷◌, ◌++◌, map, length, take, drop, replicate, get_or, set, refl, sym, ◌∙◌, ap, append_assoc, arith, length-append, length-take, length-drop, Result, Ok, Err, cond}
use Rattle.std.proofs.lemmas.List.{append-nil, take_all, drop_all, take_at, drop-drop, take-map, drop-map, map-append, map_more, length-map, length-take-le, set_at}
use Rattle.std.specs.List.{copy_within}
use Rattle.std.specs.Result.{is_ok, IsOk}
use borrow.Rule.Slice.PartMut.{post_of}
use Rattle.mem_bytes.specs.declared.cell.Cell.{Cell}
use Rattle.mem_bytes.specs.declared.fault.Fault.{Fault}
use Rattle.mem_bytes.specs.Access.{and_then}
use Rattle.mem_bytes.specs.Bits.{bytes_touched, with_field_in}
use Rattle.mem_bytes.specs.Calls.{IsFieldPlace}
use Rattle.mem_bytes.specs.Memory.{unset_cell}
use Rattle.mem_region.specs.declared.packed.Packed.{Packed}
use Rattle.mem_region.specs.Packed.{cell_of, field_stored}

-- a vector after as many items were written to it as it has
pub whole : {X : Type 0} (items held : List X) (len : ℕ) → len ≡ length held → length items ≡ length held → take len (items ++ drop (length items) held) ≡ items
whole items held len e f = take_at items (drop (length items) held) len (f ∙ sym e)

-- a part in the middle
middle : {X : Type 0} (held new : List X) (start count k : ℕ) → k ≡ count → take start held ++ (new ++ post_of start k held) ≡ take start held ++ new ++ drop (start + count) held
middle held new start count k e =
    ap (λ xs. take start held ++ (new ++ xs)) (drop-drop k start held ∙ ap (λ n. drop (start + n) held) e)
    ∙ sym (append_assoc (take start held) new (drop (start + count) held))

-- a part at the end
pub tail_written : {X : Type 0} (held slice new : List X) (len start k : ℕ) → slice ≡ held → len ≡ length held → k ≡ length held - start → length new ≡ length held - start → start ≤ length held → take len (take start slice ++ (new ++ post_of start k slice) ++ drop (length (take start slice ++ (new ++ post_of start k slice))) held) ≡ take start held ++ new
tail_written held slice new len start k same e f many within =
    let none : drop (start + k) held ≡ [] = drop_all (start + k) held (omega arith) in
    let made : take start slice ++ (new ++ post_of start k slice) ≡ take start held ++ new =
    ap (λ s. take start s ++ (new ++ post_of start k s)) same
    ∙ ap (λ xs. take start held ++ (new ++ xs)) (drop-drop k start held ∙ none)
    ∙ ap (λ xs. take start held ++ xs) (append-nil new) in
    let long : length (take start held ++ new) ≡ length held = simp (length-append, length-take) (omega arith) in
    whole (take start slice ++ (new ++ post_of start k slice)) held len e (ap length made ∙ long) ∙ made

length-middle : {X : Type 0} (held new : List X) (start count : ℕ) → length new ≡ count → start + count ≤ length held → length (take start held ++ new ++ drop (start + count) held) ≡ length held
length-middle held new start count e within =
    simp (length-append, length-take, length-drop) (omega arith)

mapped : (held new : List Packed) (start count : ℕ) → map cell_of (take start held ++ new ++ drop (start + count) held) ≡ take start (map cell_of held) ++ map cell_of new ++ drop (start + count) (map cell_of held)
mapped held new start count =
    map-append cell_of (take start held ++ new) (drop (start + count) held)
    ∙ ap (λ xs. xs ++ map cell_of (drop (start + count) held)) (map-append cell_of (take start held) new)
    ∙ ap (λ xs. xs ++ map cell_of new ++ map cell_of (drop (start + count) held)) (sym (take-map cell_of start held))
    ∙ ap (λ xs. take start (map cell_of held) ++ map cell_of new ++ xs) (sym (drop-map cell_of (start + count) held))

pub written : (held slice new : List Packed) (cells : List Cell) (len start count k : ℕ) → slice ≡ held → len ≡ length held → map cell_of new ≡ cells → count ≡ length cells → k ≡ count → start + count ≤ length held → map cell_of (take len (take start slice ++ (new ++ post_of start k slice) ++ drop (length (take start slice ++ (new ++ post_of start k slice))) held)) ≡ take start (map cell_of held) ++ cells ++ drop (start + count) (map cell_of held)
written held slice new cells len start count k same e packed many f within =
    let new_many : length new ≡ count = sym (length-map new cell_of) ∙ ap length packed ∙ sym many in
    let made : take start slice ++ (new ++ post_of start k slice) ≡ take start held ++ new ++ drop (start + count) held = ap (λ s. take start s ++ (new ++ post_of start k s)) same ∙ middle held new start count k f in
    let long : length (take start slice ++ (new ++ post_of start k slice)) ≡ length held = ap length made ∙ length-middle held new start count new_many within in
    ap (map cell_of) (whole (take start slice ++ (new ++ post_of start k slice)) held len e long ∙ made)
    ∙ mapped held new start count
    ∙ ap (λ xs. take start (map cell_of held) ++ xs ++ drop (start + count) (map cell_of held)) packed

-- one more cell, where the others are unset
pub one_more : (held : List Packed) (cells : List Cell) (unset cell : Cell) (index : ℕ) (one : Packed) → index < length held → index < 8 → cells ≡ map cell_of (take index held) ++ replicate (8 - index) unset → cell ≡ cell_of (get_or held index one) → set cells index cell ≡ map cell_of (take (index + 1) held) ++ replicate (8 - (index + 1)) unset
one_more held cells unset cell index one within few done same =
    let front : List Cell = map cell_of (take index held) in
    let rest : List Cell = replicate (8 - (index + 1)) unset in
    let next : 8 - index ≡ suc (8 - (index + 1)) = omega arith in
    let many : length front ≡ index = length-map (take index held) cell_of ∙ length-take-le index held (omega arith) in
    let more : map cell_of (take (index + 1) held) ≡ front ++ cell ∷ [] = map_more cell_of held index one within ∙ ap (λ c. front ++ c ∷ []) (sym same) in
    ap (λ xs. set xs index cell) (done ∙ ap (λ n. front ++ replicate n unset) next)
    ∙ set_at front unset rest cell index many
    ∙ sym (append_assoc front (cell ∷ []) rest)
    ∙ ap (λ xs. xs ++ rest) (sym more)

map_replicate : (count : ℕ) (one : Packed) → map cell_of (replicate count one) ≡ replicate count (cell_of one)
map_replicate zero one = refl
map_replicate (suc count) one = ap (λ xs. cell_of one ∷ xs) (map_replicate count one)

-- cells set to one
pub replicated : (count : ℕ) (one : Packed) (cell : Cell) (new : List Packed) → cell_of one ≡ cell → new ≡ replicate count one → map cell_of new ≡ replicate count cell
replicated count one cell new same e =
    ap (map cell_of) e ∙ map_replicate count one ∙ ap (replicate count) same

-- cells copied inside a list
pub copied : (held new : List Packed) (from to count : ℕ) → from + count ≤ length held → new ≡ copy_within held from (from + count) to → map cell_of new ≡ take to (map cell_of held) ++ take count (drop from (map cell_of held)) ++ drop (to + length (take count (drop from (map cell_of held)))) (map cell_of held)
copied held new from to count within e =
    let n : from + count - from ≡ count = omega arith in
    let part : map cell_of (take count (drop from held)) ≡ take count (drop from (map cell_of held)) = sym (take-map cell_of count (drop from held)) ∙ ap (take count) (sym (drop-map cell_of from held)) in
    let many : length (take count (drop from (map cell_of held))) ≡ count = length-take-le count (drop from (map cell_of held)) (simp (length-drop, length-map) (omega arith)) in
    ap (map cell_of) (e ∙ ap (λ k. take to held ++ take k (drop from held) ++ drop (to + k) held) n)
    ∙ mapped held (take count (drop from held)) to count
    ∙ ap (λ xs. take to (map cell_of held) ++ xs ++ drop (to + count) (map cell_of held)) part
    ∙ ap (λ k. take to (map cell_of held) ++ take count (drop from (map cell_of held)) ++ drop (to + k) (map cell_of held)) (sym many)

-- cells appended
pub extended : {T E : Type 0} (held new : List Packed) (len count n : ℕ) (one : Packed) (cell : Cell) (result : Result T E) → len ≡ length held → n ≡ len + count → cell_of one ≡ cell → IsOk result → new ≡ cond (is_ok result) (take n held ++ replicate (n - len) one) held → map cell_of new ≡ map cell_of held ++ replicate count cell
extended held new len count n one cell (Ok value) long f same ok e =
    let more : n - len ≡ count = omega arith in
    ap (map cell_of) (e ∙ ap (λ xs. xs ++ replicate (n - len) one) (take_all n held (omega arith)))
    ∙ map-append cell_of held (replicate (n - len) one)
    ∙ ap (λ k. map cell_of held ++ map cell_of (replicate k one)) more
    ∙ ap (λ xs. map cell_of held ++ xs) (map_replicate count one ∙ ap (replicate count) same)
extended held new len count n one cell (Err fault) long f same ok e = cc

-- how many items a part has
pub length-part : {X : Type 0} (held slice : List X) (start count : ℕ) → slice ≡ held → start + count ≤ length held → length (take (start + count - start) (drop start slice)) ≡ count
length-part held slice start count same within =
    let n : start + count - start ≡ count = omega arith in
    ap (λ k. length (take k (drop start slice))) n
    ∙ ap (λ xs. length (take count (drop start xs))) same
    ∙ length-take-le count (drop start held) (simp length-drop (omega arith))

-- cells that were read, with unset ones behind them
pub read_is : (held : List Packed) (result : List Cell) (unset : Cell) (start count : ℕ) → start + count ≤ length held → result ≡ map cell_of (take (start + count - start) (drop start held)) ++ replicate (8 - length (take (start + count - start) (drop start held))) unset → result ≡ take count (drop start (map cell_of held)) ++ replicate (8 - count) unset
read_is held result unset start count within e =
    let n : start + count - start ≡ count = omega arith in
    e
    ∙ ap (λ k. map cell_of (take (start + count - start) (drop start held)) ++ replicate (8 - k) unset) (length-part held held start count refl within)
    ∙ ap (λ k. map cell_of (take k (drop start held)) ++ replicate (8 - count) unset) n
    ∙ ap (λ xs. xs ++ replicate (8 - count) unset) (sym (take-map cell_of count (drop start held)) ∙ ap (take count) (sym (drop-map cell_of start held)))

-- a bit-field touches few bytes
pub touched_few : (bit width count : ℕ) → IsFieldPlace bit width → count ≡ bytes_touched bit width → count ≤ 8
touched_few bit width count place e =
    let bits = place.bit_in_byte in
    let wide = place.not_too_wide in omega arith

-- cells with another bit-field, from those that were read
pub field_is : (held : List Packed) (cells : List Cell) (result : Result (List Cell) Fault) (bit width field start count : ℕ) → start + count ≤ length held → count ≡ bytes_touched bit width → cells ≡ take count (drop start (map cell_of held)) ++ replicate (8 - count) unset_cell → result ≡ and_then (with_field_in bit width field (take count cells)) (λ new. Ok (new ++ replicate (8 - length (take count cells)) unset_cell)) → result ≡ field_stored held start bit width field
field_is held cells result bit width field start count within many read e =
    let part : List Cell = take count (drop start (map cell_of held)) in
    let long : length part ≡ count = length-take-le count (drop start (map cell_of held)) (simp (length-drop, length-map) (omega arith)) in
    let first : take count cells ≡ part = ap (take count) read ∙ take_at part (replicate (8 - count) unset_cell) count long in
    let stored : List Cell → ℕ → Result (List Cell) Fault = λ xs n. and_then (with_field_in bit width field xs) (λ new. Ok (new ++ replicate (8 - n) unset_cell)) in
    e
    ∙ ap (λ xs. stored xs (length xs)) first
    ∙ ap (stored part) long
    ∙ ap (λ n. stored (take n (drop start (map cell_of held))) n) many
