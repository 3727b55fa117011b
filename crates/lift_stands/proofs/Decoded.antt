-- Cells that have a value are below cells that have what stands for it.
use Rattle.std.proofs.Common.{◌≡◌, ℕ, suc, ◌+◌, ◌*◌, nat_lt, pos, Bool, true, false, cond, ◌&&◌, ◌==◌, List, [], ◌∷◌, Result, Ok, Err, refl, sym, ap, ◌∙◌, subst}
use Rattle.std.specs.List.{list_all}
use Rattle.std.proofs.lemmas.Bool.{and_parts, and_from, eqb-true, cond-true}
use Rattle.cr_base.specs.Scalar.{wrapped}
use Rattle.cr_base.specs.declared.scalar.Scalar.{Scalar}
use Rattle.cr_base.specs.declared.scalar.Scalar.TheVariants.{Truth, Whole, Object, Code}
use Rattle.mem_bytes.specs.declared.cell.Cell.{Cell}
use Rattle.mem_bytes.specs.declared.cell.Cell.TheVariants.{Bits, PtrByte}
use Rattle.mem_bytes.specs.declared.fault.Fault.{Fault}
use Rattle.mem_bytes.specs.declared.fault.Fault.TheVariants.{Unset, BadBool, MixedPointer}
use Rattle.mem_bytes.specs.declared.value.Value.{Value}
use Rattle.mem_bytes.specs.declared.value.Value.TheVariants.{Whole as Number, Null}
use Rattle.mem_bytes.specs.Coding.{is_set, is_bits, is_zero, bits_in, bits_of, is_pointer_of, is_byte_of, are_bytes_of, is_same_pointer, stored_pointer, pointer_value, number_value, whole_value, meaning_of, value_of}
use Rattle.lift_stands.specs.Stands.{Images, ValueBelow, CellBelow, CellsBelow}
use Rattle.lift_stands.proofs.Images.{same_pointers}

-- a cell all of whose bits are set, beside one that it is below
data SetBelow (images : Images) : Cell → Cell → Type 0 where
  same_byte : (number : ℕ) → SetBelow images (Bits number 255) (Bits number 255)
  one_pointer : (of to : Value) (index : ℕ) → ValueBelow images of to → SetBelow images (PtrByte of index) (PtrByte to index)

abbrev SetsBelow : Images → List Cell → List Cell → Type 0
SetsBelow images [] [] = Unit {0}
SetsBelow images (cell ∷ cells) (other ∷ others) = SetBelow images cell other × SetsBelow images cells others
SetsBelow images [] (other ∷ others) = ⊥
SetsBelow images (cell ∷ cells) [] = ⊥

set_below : (images : Images) (cell other : Cell) → is_set cell ≡ true → CellBelow images cell other → SetBelow images cell other
set_below images (Bits number set) other e below =
    let all : set ≡ 255 = eqb-true set 255 e in
    let whole : SetBelow images (Bits number set) (Bits number 255) = subst (λ n. SetBelow images (Bits number n) (Bits number 255)) (sym all) (SetBelow.same_byte number) in
    subst (λ c. SetBelow images (Bits number set) c) (sym (below.whole all)) whole
set_below images (PtrByte of index) (PtrByte to place) e below =
    subst (λ n. SetBelow images (PtrByte of index) (PtrByte to n)) (sym below.1) (SetBelow.one_pointer of to index below.0)
set_below images (PtrByte of index) (Bits number set) e below = absurd below

sets_below : (images : Images) (list others : List Cell) → list_all is_set list ≡ true → CellsBelow images list others → SetsBelow images list others
sets_below images [] [] e below = tt
sets_below images [] (other ∷ others) e below = absurd below
sets_below images (cell ∷ cells) [] e below = absurd below
sets_below images (cell ∷ cells) (other ∷ others) e below =
    let parts = and_parts (is_set cell) (list_all is_set cells) e in
    (set_below images cell other parts.0 below.0, sets_below images cells others parts.1 below.1)

-- ---- what both lists are alike in

test_of_sets : (images : Images) (test : Cell → Bool) (list others : List Cell) → ((cell other : Cell) → SetBelow images cell other → test other ≡ test cell) → SetsBelow images list others → list_all test others ≡ list_all test list
test_of_sets images test [] [] same sets = refl
test_of_sets images test [] (other ∷ others) same sets = absurd sets
test_of_sets images test (cell ∷ cells) [] same sets = absurd sets
test_of_sets images test (cell ∷ cells) (other ∷ others) same sets =
    ap (λ b. b && list_all test others) (same cell other sets.0) ∙ ap (λ b. test cell && b) (test_of_sets images test cells others same sets.1)

set_alike : (images : Images) (cell other : Cell) → SetBelow images cell other → is_set other ≡ is_set cell
set_alike images cell other (SetBelow.same_byte number) = refl
set_alike images cell other (SetBelow.one_pointer of to index below) = refl

bits_alike : (images : Images) (cell other : Cell) → SetBelow images cell other → is_bits other ≡ is_bits cell
bits_alike images cell other (SetBelow.same_byte number) = refl
bits_alike images cell other (SetBelow.one_pointer of to index below) = refl

zero_alike : (images : Images) (cell other : Cell) → SetBelow images cell other → is_zero other ≡ is_zero cell
zero_alike images cell other (SetBelow.same_byte number) = refl
zero_alike images cell other (SetBelow.one_pointer of to index below) = refl

number_alike : (images : Images) (cell other : Cell) → SetBelow images cell other → bits_in other ≡ bits_in cell
number_alike images cell other (SetBelow.same_byte number) = refl
number_alike images cell other (SetBelow.one_pointer of to index below) = refl

numbers_alike : (images : Images) (list others : List Cell) → SetsBelow images list others → bits_of others ≡ bits_of list
numbers_alike images [] [] sets = refl
numbers_alike images [] (other ∷ others) sets = absurd sets
numbers_alike images (cell ∷ cells) [] sets = absurd sets
numbers_alike images (cell ∷ cells) (other ∷ others) sets =
    ap (λ n. n + 256 * bits_of others) (number_alike images cell other sets.0) ∙ ap (λ n. bits_in cell + 256 * n) (numbers_alike images cells others sets.1)

-- ---- pointers

kind_alike : (images : Images) (scalar : Scalar) (of to : Value) → ValueBelow images of to → is_pointer_of scalar of ≡ true → is_pointer_of scalar to ≡ true
kind_alike images scalar of to (ValueBelow.same_number number) e = e
kind_alike images scalar of to ValueBelow.both_null e = e
kind_alike images Truth of to (ValueBelow.to_image at there below) e = cc
kind_alike images (Whole width signed) of to (ValueBelow.to_image at there below) e = cc
kind_alike images Object of to (ValueBelow.to_image at there below) e = refl
kind_alike images Code of to (ValueBelow.to_image at there below) e = cc
kind_alike images Truth of to (ValueBelow.to_function number image f) e = cc
kind_alike images (Whole width signed) of to (ValueBelow.to_function number image f) e = cc
kind_alike images Object of to (ValueBelow.to_function number image f) e = cc
kind_alike images Code of to (ValueBelow.to_function number image f) e = refl

byte_alike : (images : Images) (of to : Value) (index : ℕ) (cell other : Cell) → ValueBelow images of to → SetBelow images cell other → is_byte_of of index cell ≡ true → is_byte_of to index other ≡ true
byte_alike images of to index cell other below (SetBelow.same_byte number) e = cc
byte_alike images of to index cell other below (SetBelow.one_pointer stored there place one) e =
    let parts = and_parts (is_same_pointer stored of) (place == index) e in
    and_from (is_same_pointer there to) (place == index) (same_pointers images stored of there to one below parts.0) parts.1

bytes_alike : (images : Images) (of to : Value) (index : ℕ) (list others : List Cell) → ValueBelow images of to → SetsBelow images list others → are_bytes_of of index list ≡ true → are_bytes_of to index others ≡ true
bytes_alike images of to index [] [] below sets e = refl
bytes_alike images of to index [] (other ∷ others) below sets e = absurd sets
bytes_alike images of to index (cell ∷ cells) [] below sets e = absurd sets
bytes_alike images of to index (cell ∷ cells) (other ∷ others) below sets e =
    let parts = and_parts (is_byte_of of index cell) (are_bytes_of of (suc index) cells) e in
    and_from (is_byte_of to index other) (are_bytes_of to (suc index) others) (byte_alike images of to index cell other below sets.0 parts.0) (bytes_alike images of to (suc index) cells others below sets.1 parts.1)

tested : (test : Bool) (of value : Value) → cond test (Ok of) (Err MixedPointer) ≡ Ok value → (test ≡ true) × (of ≡ value)
tested true of value e = (refl, cc)
tested false of value e = cc

-- a result is a value below another
abbrev pub GivesBelow : Images → Value → Result Value Fault → Type 0
GivesBelow images value given = (other : Value) × (given ≡ Ok other) × ValueBelow images value other

stored_first : (images : Images) (scalar : Scalar) (cell other : Cell) (cells others : List Cell) (value : Value) → SetBelow images cell other → SetsBelow images cells others → stored_pointer scalar (cell ∷ cells) ≡ Ok value → GivesBelow images value (stored_pointer scalar (other ∷ others))
stored_first images scalar cell other cells others value (SetBelow.same_byte number) sets e = cc
stored_first images scalar cell other cells others value (SetBelow.one_pointer of to index below) sets e =
    let parts = tested (is_pointer_of scalar of && are_bytes_of of 0 (PtrByte of index ∷ cells)) of value e in
    let both = and_parts (is_pointer_of scalar of) (are_bytes_of of 0 (PtrByte of index ∷ cells)) parts.0 in
    let bytes : are_bytes_of to 0 (PtrByte to index ∷ others) ≡ true = bytes_alike images of to 0 (PtrByte of index ∷ cells) (PtrByte to index ∷ others) below (SetBelow.one_pointer of to index below, sets) both.1 in
    (to, cond-true _ _ _ (and_from (is_pointer_of scalar to) (are_bytes_of to 0 (PtrByte to index ∷ others)) (kind_alike images scalar of to below both.0) bytes), subst (λ v. ValueBelow images v to) parts.1 below)

stored_alike : (images : Images) (scalar : Scalar) (list others : List Cell) (value : Value) → SetsBelow images list others → stored_pointer scalar list ≡ Ok value → GivesBelow images value (stored_pointer scalar others)
stored_alike images scalar [] [] value sets e = cc
stored_alike images scalar [] (other ∷ others) value sets e = absurd sets
stored_alike images scalar (cell ∷ cells) [] value sets e = absurd sets
stored_alike images scalar (cell ∷ cells) (other ∷ others) value sets e = stored_first images scalar cell other cells others value sets.0 sets.1 e

null_or : (images : Images) (scalar : Scalar) (list others : List Cell) (value : Value) (zeros : Bool) → SetsBelow images list others → cond zeros (Ok Null) (stored_pointer scalar list) ≡ Ok value → GivesBelow images value (cond zeros (Ok Null) (stored_pointer scalar others))
null_or images scalar list others value true sets e =
    let same : Null ≡ value = cc in
    (Null, refl, subst (λ v. ValueBelow images v Null) same ValueBelow.both_null)
null_or images scalar list others value false sets e = stored_alike images scalar list others value sets e

pointer_alike : (images : Images) (scalar : Scalar) (list others : List Cell) (value : Value) → SetsBelow images list others → pointer_value scalar list ≡ Ok value → GivesBelow images value (pointer_value scalar others)
pointer_alike images scalar list others value sets e =
    let zeros : list_all is_zero others ≡ list_all is_zero list = test_of_sets images is_zero list others (zero_alike images) sets in
    let found = null_or images scalar list others value (list_all is_zero list) sets e in
    (found.0, ap (λ z. cond z (Ok Null) (stored_pointer scalar others)) zeros ∙ found.1, found.2)

-- ---- numbers

truth_below : (images : Images) (test : Bool) (n : ℕ) (value : Value) → cond test (Ok (Number (pos n))) (Err BadBool) ≡ Ok value → ValueBelow images value value
truth_below images true n value e = let same : Number (pos n) ≡ value = cc in subst (λ v. ValueBelow images v v) same (ValueBelow.same_number (pos n))
truth_below images false n value e = cc

number_below : (images : Images) (scalar : Scalar) (n : ℕ) (value : Value) → number_value scalar n ≡ Ok value → ValueBelow images value value
number_below images Truth n value e = truth_below images (nat_lt n 2) n value e
number_below images (Whole width signed) n value e = let same : Number (wrapped (Whole width signed) (pos n)) ≡ value = cc in subst (λ v. ValueBelow images v v) same (ValueBelow.same_number (wrapped (Whole width signed) (pos n)))
number_below images Object n value e = cc
number_below images Code n value e = cc

number_or : (images : Images) (scalar : Scalar) (n : ℕ) (value : Value) (bits : Bool) → cond bits (number_value scalar n) (Err MixedPointer) ≡ Ok value → ValueBelow images value value
number_or images scalar n value true e = number_below images scalar n value e
number_or images scalar n value false e = cc

whole_alike : (images : Images) (scalar : Scalar) (list others : List Cell) (value : Value) → SetsBelow images list others → whole_value scalar list ≡ Ok value → GivesBelow images value (whole_value scalar others)
whole_alike images scalar list others value sets e =
    let bits : list_all is_bits others ≡ list_all is_bits list = test_of_sets images is_bits list others (bits_alike images) sets in
    let same : whole_value scalar others ≡ whole_value scalar list =
    ap (λ b. cond b (number_value scalar (bits_of others)) (Err MixedPointer)) bits ∙ ap (λ n. cond (list_all is_bits list) (number_value scalar n) (Err MixedPointer)) (numbers_alike images list others sets) in
    (value, same ∙ e, number_or images scalar (bits_of list) value (list_all is_bits list) e)

-- ---- values

meaning_alike : (images : Images) (scalar : Scalar) (list others : List Cell) (value : Value) → SetsBelow images list others → meaning_of scalar list ≡ Ok value → GivesBelow images value (meaning_of scalar others)
meaning_alike images Truth list others value sets e = whole_alike images Truth list others value sets e
meaning_alike images (Whole width signed) list others value sets e = whole_alike images (Whole width signed) list others value sets e
meaning_alike images Object list others value sets e = pointer_alike images Object list others value sets e
meaning_alike images Code list others value sets e = pointer_alike images Code list others value sets e

set_first : (test : Bool) (meant : Result Value Fault) (value : Value) → cond test meant (Err Unset) ≡ Ok value → (test ≡ true) × (meant ≡ Ok value)
set_first true meant value e = (refl, e)
set_first false meant value e = cc

pub value_alike : (images : Images) (scalar : Scalar) (list others : List Cell) (value : Value) → CellsBelow images list others → value_of scalar list ≡ Ok value → GivesBelow images value (value_of scalar others)
value_alike images scalar list others value below e =
    let parts = set_first (list_all is_set list) (meaning_of scalar list) value e in
    let sets = sets_below images list others parts.0 below in
    let found = meaning_alike images scalar list others value sets parts.1 in
    (found.0, cond-true _ _ _ (test_of_sets images is_set list others (set_alike images) sets ∙ parts.0) ∙ found.1, found.2)
