-- Cells that are read, or stored, one after the other.
use Rattle.std.proofs.Common.{◌≡◌, refl, sym, ◌∙◌, ap, subst, ℕ, zero, suc, ◌+◌, ◌-◌, ◌<◌, ◌≤◌, List, [], ◌∷◌, ◌++◌, Option, None, Some, Result, Ok, Err, arith, drop, length, get_or}
use Rattle.std.proofs.Math.ListN.{drop_of_length-le}
use Rattle.std.proofs.lemmas.List.{append_assoc, append-nil, drop_more}
use Rattle.cx_access.specs.Finds.{fault_in}
use Rattle.cx_mean.specs.Operands.{CWhy, accessed}
use Rattle.mem_bytes.specs.Access.{and_then, cell_at, record_at, after_put_cell, after_put_record}
use Rattle.mem_bytes.specs.declared.cell.Cell.{Cell}
use Rattle.mem_bytes.specs.declared.fault.Fault.{Fault}
use Rattle.mem_bytes.specs.declared.value.Ptr.{Ptr}
use Rattle.mem_bytes.specs.Laws.{behind, cells_read, after_put_cells, GoesCellByCell}
use Rattle.mem_bytes.specs.Memory.{Blocks}

behind_one : (at : Ptr) (index : ℕ) → behind (behind at index) 1 ≡ behind at (index + 1)
behind_one at index = ap (λ (offset : ℕ). record at { offset = offset }) (omega arith)

behind_none : (at : Ptr) → behind at 0 ≡ at
behind_none at = ap (λ (offset : ℕ). record at { offset = offset }) (omega arith)

one_read : (memory : Blocks) (at : Ptr) (count : ℕ) (cell : Cell) (others : List Cell) → cell_at memory at ≡ Ok cell → cells_read memory (behind at 1) count ≡ Ok others →
    cells_read memory at (suc count) ≡ Ok (cell ∷ others)
one_read memory at count cell others first rest = rw (first, rest) refl

-- what was read, with what is left, is what is read
abbrev pub IsRead : Blocks → Ptr → (count index : ℕ) → List Cell → Type 0
IsRead memory at count index made =
    (others : List Cell) → cells_read memory (behind at index) (count - index) ≡ Ok others → cells_read memory at count ≡ Ok (made ++ others)

pub read_first : (memory : Blocks) (at : Ptr) (count : ℕ) → IsRead memory at count 0 []
read_first memory at count others rest =
    let all : count - 0 ≡ count = omega arith in
    subst (λ (number : ℕ). cells_read memory at number ≡ Ok others) all
    (subst (λ (place : Ptr). cells_read memory place (count - 0) ≡ Ok others) (behind_none at) rest)

pub read_on : (memory : Blocks) (at : Ptr) (count index : ℕ) (made new : List Cell) (cell : Cell) → index < count → cell_at memory (behind at index) ≡ Ok cell →
    new ≡ made ++ cell ∷ [] → IsRead memory at count index made → IsRead memory at count (index + 1) new
read_on memory at count index made new cell within found new_is before others rest =
    let left : count - index ≡ suc (count - (index + 1)) = omega (arith, within) in
    let step : cells_read memory (behind at index) (suc (count - (index + 1))) ≡ Ok (cell ∷ others) =
    one_read memory (behind at index) (count - (index + 1)) cell others found
    (subst (λ (place : Ptr). cells_read memory place (count - (index + 1)) ≡ Ok others) (sym (behind_one at index)) rest) in
    before (cell ∷ others) (subst (λ (number : ℕ). cells_read memory (behind at index) number ≡ Ok (cell ∷ others)) (sym left) step)
    ∙ ap (λ (list : List Cell). Ok list) (sym (append_assoc made (cell ∷ []) others) ∙ ap (λ (list : List Cell). list ++ others) (sym new_is))

pub read_at_end : (memory : Blocks) (at : Ptr) (count index : ℕ) (made : List Cell) → count ≤ index → IsRead memory at count index made → cells_read memory at count ≡ Ok made
read_at_end memory at count index made behind_all before =
    let none : count - index ≡ 0 = omega (arith, behind_all) in
    before [] (subst (λ (number : ℕ). cells_read memory (behind at index) number ≡ Ok []) (sym none) refl) ∙ ap (λ (list : List Cell). Ok list) (append-nil made)

ok_is_one : (first second : List Cell) (one other : Result (List Cell) Fault) → one ≡ Ok first → other ≡ Ok second → one ≡ other → first ≡ second
ok_is_one first second one other is other_is same = cc

-- a structure or union that is read cell by cell is the one that is read in one access
pub whole_read : (memory : Blocks) (at : Ptr) (size align : ℕ) (cells : List Cell) (found : Result (List Cell) Fault) → found ≡ record_at memory at size align → GoesCellByCell →
    fault_in found ≡ None → cells_read memory at size ≡ Ok cells → accessed found ≡ Ok cells
whole_read memory at size align cells (Err fault) is law none read = cc
whole_read memory at size align cells (Ok held) is law none read =
    ap (λ (list : List Cell). Ok list) (ok_is_one held cells (cells_read memory at size) (cells_read memory at size) (law.read memory at size align held (sym is)) read refl)

-- what was stored, with what is left, is what is stored
abbrev pub IsPut : (first now : Blocks) → Ptr → List Cell → ℕ → Type 0
IsPut first now at cells index = after_put_cells first at cells ≡ after_put_cells now (behind at index) (drop index cells)

pub put_first : (memory : Blocks) (at : Ptr) (cells : List Cell) → IsPut memory memory at cells 0
put_first memory at cells = ap (λ (place : Ptr). after_put_cells memory place cells) (sym (behind_none at))

pub put_on : (first now next : Blocks) (at : Ptr) (cells : List Cell) (index : ℕ) (cell : Cell) → index < length cells → cell ≡ get_or cells index cell →
    after_put_cell now (behind at index) cell ≡ Ok next → IsPut first now at cells index → IsPut first next at cells (index + 1)
put_on first now next at cells index cell within is put before =
    before ∙ ap (after_put_cells now (behind at index)) (drop_more cells index cell within ∙ ap (λ (one : Cell). one ∷ drop (index + 1) cells) (sym is))
    ∙ ap (λ (found : Result Blocks Fault). and_then found (λ memory. after_put_cells memory (behind (behind at index) 1) (drop (index + 1) cells))) put
    ∙ ap (λ (place : Ptr). after_put_cells next place (drop (index + 1) cells)) (behind_one at index)

pub put_at_end : (first now : Blocks) (at : Ptr) (cells : List Cell) (index : ℕ) → length cells ≤ index → IsPut first now at cells index → after_put_cells first at cells ≡ Ok now
put_at_end first now at cells index behind_all before =
    before ∙ ap (after_put_cells now (behind at index)) (drop_of_length-le cells behind_all)
