-- Texts of C and of the crate.
use Rattle.std.proofs.Common.{◌≡◌, ℕ, zero, suc, Bool, true, false, ◌==◌, if◌then◌else◌, List, [], ◌∷◌, drop, Result, Ok, Err, refl, ap, ◌∙◌}
use Rattle.std.proofs.lemmas.Bool.{eqb-true}
use Rattle.cr_world.specs.Texts.{text_from, text_in, text_at, found, text_of}
use Rattle.mem_bytes.specs.declared.cell.Cell.{Cell}
use Rattle.mem_bytes.specs.declared.cell.Cell.TheVariants.{Bits, PtrByte}
use Rattle.mem_bytes.specs.declared.fault.Fault.{Fault}
use Rattle.mem_bytes.specs.declared.fault.Fault.TheVariants.{Unset}
use Rattle.mem_bytes.specs.declared.value.Ptr.{Ptr}
use Rattle.mem_bytes.specs.declared.value.Value.{Value}
use Rattle.mem_bytes.specs.declared.value.Value.TheVariants.{Whole, Null, Object, Code}
use Rattle.mem_bytes.specs.Access.{and_then, live_read}
use Rattle.mem_bytes.specs.Memory.{Blocks, live_block}
use Rattle.mem_bytes.proofs.Reached.{and_then_ok}
use Rattle.lift_stands.specs.Stands.{Images, PlaceBelow, ValueBelow, CellsBelow, StandsFor}
use Rattle.lift_stands.proofs.Cells.{drop_below}
use Rattle.lift_stands.proofs.Loads.{block_there, read_live}
use Rattle.lift_stands.proofs.Forms.{object_below}

all_set : (set : ℕ) (is : Bool) → (set == 255) ≡ is → (text : List ℕ) (given : Result (List ℕ) Fault) → (if is then given else Err Unset) ≡ Ok text → (set ≡ 255) × (given ≡ Ok text)
all_set set true p text given e = (eqb-true set 255 p, e)
all_set set false p text given e = cc

-- a byte in front of what is alike where it is a text
from_alike : (value : ℕ) (one other : Result (List ℕ) Fault) (text : List ℕ) → ((rest : List ℕ) → one ≡ Ok rest → other ≡ Ok rest) → text_from value one ≡ Ok text → text_from value other ≡ Ok text
from_alike zero one other text alike e = e
from_alike (suc n) one other text alike e =
    let parts = and_then_ok one (λ bytes. Ok (suc n ∷ bytes)) text e in
    ap (λ r. and_then r (λ bytes. Ok (suc n ∷ bytes))) (alike parts.0 parts.1) ∙ parts.2

pub text_below : (images : Images) (list others : List Cell) (text : List ℕ) → CellsBelow images list others → text_in list ≡ Ok text → text_in others ≡ Ok text
text_below images [] others text below e = cc
text_below images (PtrByte of index ∷ cells) others text below e = cc
text_below images (Bits value set ∷ cells) [] text below e = absurd below
text_below images (Bits value set ∷ cells) (other ∷ others) text below e =
    let found = all_set set (set == 255) refl text (text_from value (text_in cells)) e in
    let same : other ≡ Bits value 255 = below.0.whole found.0 in
    ap (λ (c : Cell). text_in (c ∷ others)) same ∙ from_alike value (text_in cells) (text_in others) text (λ rest. text_below images cells others rest below.1) found.1

pub place_text : (images : Images) (memory others : Blocks) (at to : Ptr) (text : List ℕ) → StandsFor images memory others → PlaceBelow images at to → text_at memory at ≡ Ok text → text_at others to ≡ Ok text
place_text images memory others at to text stands place e =
    let read = read_live (live_block memory at.block) (λ block. text_in (drop at.offset block.cells)) text e in
    let there = block_there images memory others at to read.0 stands place read.1 in
    let below = drop_below images at.offset read.0.cells there.other.cells there.below.cells in
    ap (λ slot. live_read slot (λ block. text_in (drop to.offset block.cells))) there.live
    ∙ ap (λ n. text_in (drop n there.other.cells)) place.offset
    ∙ text_below images (drop at.offset read.0.cells) (drop at.offset there.other.cells) text below read.2

found_ok : (result : Result (List ℕ) Fault) (text : List ℕ) → found result ≡ Ok text → result ≡ Ok text
found_ok (Ok text) other e = cc
found_ok (Err fault) other e = cc

pub value_text : (images : Images) (memory others : Blocks) (value given : Value) (text : List ℕ) → StandsFor images memory others → ValueBelow images value given → text_of memory value ≡ Ok text → text_of others given ≡ Ok text
value_text images memory others (Object at) given text stands below e =
    let to = object_below images at given below in
    ap (text_of others) to.1 ∙ ap found (place_text images memory others at to.0 text stands to.2 (found_ok (text_at memory at) text e))
value_text images memory others Null given text stands below e = cc
value_text images memory others (Whole number) given text stands below e = cc
value_text images memory others (Code number) given text stands below e = cc
