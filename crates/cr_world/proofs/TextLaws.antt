-- The text of cells is the one that they begin with.
use Rattle.std.proofs.Common.{◌≡◌, ℕ, zero, suc, ◌<◌, Bool, true, false, ◌==◌, if◌then◌else◌, All, List, [], ◌∷◌, ◌++◌, map, Result, Ok, Err, refl, ap, ◌∙◌, arith}
use Rattle.std.proofs.lemmas.Bool.{eqb-true}
use Rattle.std.proofs.lemmas.List.Elements.{All-nil, All-cons, All-head, All-tail}
use Rattle.mem_bytes.specs.declared.cell.Cell.{Cell}
use Rattle.mem_bytes.specs.declared.cell.Cell.TheVariants.{Bits, PtrByte}
use Rattle.mem_bytes.specs.declared.fault.Fault.{Fault}
use Rattle.mem_bytes.specs.declared.fault.Fault.TheVariants.{Unset}
use Rattle.mem_bytes.specs.Access.{and_then}
use Rattle.mem_bytes.specs.Memory.{byte_cell}
use Rattle.cr_world.specs.Laws.{Begins}
use Rattle.cr_world.specs.Texts.{text_from, text_in}

-- a byte in front of a text
one_more : (value : ℕ) (cells : List Cell) (rest : List ℕ) → 0 < value → Begins cells rest → Begins (byte_cell value ∷ cells) (value ∷ rest)
one_more value cells rest p begins = record {
  others = begins.others;
  stand = ap (λ (cs : List Cell). byte_cell value ∷ cs) begins.stand;
  not_zero = All-cons (λ byte. 0 < byte) value rest p begins.not_zero;
}

-- behind a byte that is zero, or isn't
from_byte : (value : ℕ) (cells : List Cell) (text : List ℕ) (others : Result (List ℕ) Fault) → ((rest : List ℕ) → others ≡ Ok rest → Begins cells rest) →
    text_from value others ≡ Ok text → Begins (byte_cell value ∷ cells) text
from_byte zero cells [] others begins e = record { others = cells; stand = refl; not_zero = All-nil (λ byte. 0 < byte) }
from_byte zero cells (first ∷ text) others begins e = cc
from_byte (suc n) cells text (Err fault) begins e = cc
from_byte (suc n) cells [] (Ok rest) begins e = cc
from_byte (suc n) cells (first ∷ text) (Ok rest) begins e =
    let same : suc n ≡ first = cc in
    let same_rest : rest ≡ text = cc in
    rw (← same, ← same_rest) (one_more (suc n) cells rest (omega arith) (begins rest refl))

all_set : (set : ℕ) (is : Bool) → (set == 255) ≡ is → (text : List ℕ) (given : Result (List ℕ) Fault) → (if is then given else Err Unset) ≡ Ok text → (set ≡ 255) × (given ≡ Ok text)
all_set set true p text given e = (eqb-true set 255 p, e)
all_set set false p text given e = cc

pub text_read : (cells : List Cell) (text : List ℕ) → text_in cells ≡ Ok text → Begins cells text
text_read [] text e = cc
text_read (PtrByte of index ∷ cells) text e = cc
text_read (Bits value set ∷ cells) text e =
    let found = all_set set (set == 255) refl text (text_from value (text_in cells)) e in
    rw found.0 (from_byte value cells text (text_in cells) (λ rest. text_read cells rest) found.1)

first_found : (first : ℕ) (text : List ℕ) (cells : List Cell) → 0 < first → text_in cells ≡ Ok text → text_in (byte_cell first ∷ cells) ≡ Ok (first ∷ text)
first_found zero text cells p e = absurd (omega arith)
first_found (suc n) text cells p e = ap (λ given. and_then given (λ bytes. Ok (suc n ∷ bytes))) e

written_found : (text : List ℕ) (others : List Cell) → All (λ byte. 0 < byte) text → text_in (map byte_cell text ++ byte_cell 0 ∷ others) ≡ Ok text
written_found [] others not_zero = refl
written_found (first ∷ text) others not_zero =
    first_found first text (map byte_cell text ++ byte_cell 0 ∷ others) (All-head (λ byte. 0 < byte) first text not_zero)
    (written_found text others (All-tail (λ byte. 0 < byte) first text not_zero))

pub text_found : (cells : List Cell) (text : List ℕ) → Begins cells text → text_in cells ≡ Ok text
text_found cells text begins = ap text_in begins.stand ∙ written_found text begins.others begins.not_zero
