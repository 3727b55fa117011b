-- Cells that are read at once: as one number, and as one pointer.
use Rattle.std.proofs.Common.{◌≡◌, ℕ, suc, ◌+◌, ◌*◌, ◌%◌, ◌^◌, ◌<◌, ◌≤◌, Bool, true, false, ◌&&◌, ◌==◌, cond, List, [], ◌∷◌, drop, length, slice_index_or, Some, None, Result, Ok, Err, IfOk, refl, sym, ap, subst, ◌∙◌, arith}
use Rattle.std.specs.List.{list_all}
use Rattle.std.proofs.lemmas.Bool.{and_parts, cond-true}
use Rattle.std.proofs.lemmas.List.{drop_more}
use Rattle.std.proofs.lemmas.Nat.{pow-add, shl_below, mul-add-lt}
use Rattle.std.proofs.Math.Nat.{pow-le-pow_right, mod-eq_of_lt}
use Rattle.cr_base.specs.declared.scalar.Scalar.{Scalar}
use Rattle.cr_base.specs.declared.scalar.Scalar.TheVariants.{Truth, Whole, Object, Code}
use Rattle.mem_bytes.specs.declared.cell.Cell.{Cell}
use Rattle.mem_bytes.specs.declared.cell.Cell.TheVariants.{Bits, PtrByte}
use Rattle.mem_bytes.specs.declared.fault.Fault.{Fault}
use Rattle.mem_bytes.specs.declared.fault.Fault.TheVariants.{Unset, MixedPointer}
use Rattle.mem_bytes.specs.declared.value.Value.{Value}
use Rattle.mem_bytes.specs.declared.value.Value.TheVariants.{Whole as Number, Null, Object as Pointer, Code as Function}
use Rattle.mem_bytes.specs.Coding.{IsValueOf, is_set, is_bits, is_zero, bits_of, is_pointer_of, are_bytes_of, stored_pointer, pointer_value}
use Rattle.mem_bytes.specs.Reading.{set_byte, are_set_bytes, IsWholePointer}

-- ---- numbers

tested_byte : (test : Bool) (value byte : ℕ) → Some byte ≡ cond test (Some value) None → (test ≡ true) × (value ≡ byte)
tested_byte true value byte e = (refl, cc)
tested_byte false value byte e = cc

-- a set byte in front of others is read first
read_first : (cell : Cell) (others : List Cell) (byte : ℕ) → Some byte ≡ set_byte cell → (are_set_bytes (cell ∷ others) ≡ are_set_bytes others) × (bits_of (cell ∷ others) ≡ byte + 256 * bits_of others)
read_first (Bits value set) others byte e =
    let is = tested_byte (set == 255) value byte e in (
      ap (λ test. (test && list_all is_set others) && list_all is_bits others) is.0,
      ap (λ lowest. lowest + 256 * bits_of others) is.1,
    )
read_first (PtrByte of index) others byte e = cc

pub read_more : (cells : List Cell) (index byte : ℕ) (d : Cell) → index < length cells → Some byte ≡ set_byte (slice_index_or cells index d) → (are_set_bytes (drop index cells) ≡ are_set_bytes (drop (index + 1) cells)) × (bits_of (drop index cells) ≡ byte + 256 * bits_of (drop (index + 1) cells))
read_more cells index byte d p e =
    let next = drop_more cells index d p in
    let first = read_first (slice_index_or cells index d) (drop (index + 1) cells) byte e in
    (ap are_set_bytes next ∙ first.0, ap bits_of next ∙ first.1)

more_power : (index : ℕ) → 2 ^ (8 * (index + 1)) ≡ 2 ^ (8 * index) * 256
more_power index = ap (λ k. 2 ^ k) (omega arith) ∙ pow-add 2 (8 * index) 8

-- a byte at its place in a number of 64 bits
pub placed : (index byte : ℕ) → index < 8 → byte < 256 → byte * 2 ^ (8 * index) % 18446744073709551616 ≡ byte * 2 ^ (8 * index)
placed index byte p q =
    let most : 2 ^ (8 + 8 * index) ≤ 2 ^ 64 = pow-le-pow_right {n = 2} (omega arith) {i = 8 + 8 * index} {j = 64} (omega arith) in
    mod-eq_of_lt (omega (arith, shl_below byte 8 (8 * index) q, most))

pub read_below : (index number byte : ℕ) → byte < 256 → number < 2 ^ (8 * index) → number + byte * 2 ^ (8 * index) < 2 ^ (8 * (index + 1))
read_below index number byte p q =
    rw (more_power index) (omega (arith, mul-add-lt byte (2 ^ (8 * index)) number 256 p q))

pub read_fits : (index number byte : ℕ) → index < 8 → byte < 256 → number < 2 ^ (8 * index) → number + byte * 2 ^ (8 * index) < 2 ^ 64
read_fits index number byte p q r =
    let most : 2 ^ (8 * (index + 1)) ≤ 2 ^ 64 = pow-le-pow_right {n = 2} (omega arith) {i = 8 * (index + 1)} {j = 64} (omega arith) in
    omega (arith, read_below index number byte q r, most)

-- what was read, and what is left
pub read_sum : (index number byte rest : ℕ) → number + 2 ^ (8 * index) * (byte + 256 * rest) ≡ number + byte * 2 ^ (8 * index) + 2 ^ (8 * (index + 1)) * rest
read_sum index number byte rest = rw (more_power index) (omega arith)

-- ---- pointers

bytes_set : (of : Value) (index : ℕ) (cells : List Cell) → are_bytes_of of index cells ≡ true → list_all is_set cells ≡ true
bytes_set of index [] e = refl
bytes_set of index (Bits value set ∷ cells) e = cc
bytes_set of index (PtrByte stored place ∷ cells) e = bytes_set of (suc index) cells (and_parts _ _ e).1

both : (a b : Bool) → a ≡ true → b ≡ true → (a && b) ≡ true
both true true p q = refl
both true false p q = cc
both false b p q = cc

-- the cells are the bytes of the pointer whose byte is the first
pub whole_from : (scalar : Scalar) (of : Value) (cells : List Cell) (index : ℕ) (d : Cell) → 0 < length cells → PtrByte of index ≡ slice_index_or cells 0 d → is_pointer_of scalar of ≡ true → are_bytes_of of 0 cells ≡ true → IsWholePointer scalar of cells
whole_from scalar of [] index d p e typed bytes = absurd (omega arith)
whole_from scalar of (Bits value set ∷ others) index d p e typed bytes = cc
whole_from scalar of (PtrByte stored place ∷ others) index d p e typed bytes =
    let cells = PtrByte stored place ∷ others in
    let same : stored ≡ of = cc in
    record {
      set = bytes_set of 0 cells bytes;
      not_zero = refl;
      stored =
          subst (λ v. cond (is_pointer_of scalar v && are_bytes_of v 0 cells) (Ok v) (Err MixedPointer) ≡ Ok of) (sym same) (cond-true _ _ _ (both _ _ typed bytes));
    }

-- a pointer that is read is of its type
pointer_typed : (scalar : Scalar) (of : Value) → is_pointer_of scalar of ≡ true → IsValueOf scalar of
pointer_typed Truth of e = cc
pointer_typed (Whole width signed) of e = cc
pointer_typed Object (Pointer at) e = tt
pointer_typed Object (Function f) e = cc
pointer_typed Object (Number n) e = cc
pointer_typed Object Null e = cc
pointer_typed Code (Function f) e = tt
pointer_typed Code (Pointer at) e = cc
pointer_typed Code (Number n) e = cc
pointer_typed Code Null e = cc

tested_typed : (scalar : Scalar) (of : Value) (a b : Bool) → (a ≡ true → IsValueOf scalar of) → IfOk (cond (a && b) (Ok of) (Err MixedPointer)) (IsValueOf scalar)
tested_typed scalar of true true typed = typed refl
tested_typed scalar of true false typed = tt
tested_typed scalar of false b typed = tt

stored_typed : (scalar : Scalar) (cells : List Cell) → IfOk (stored_pointer scalar cells) (IsValueOf scalar)
stored_typed scalar [] = tt
stored_typed scalar (Bits value set ∷ cells) = tt
stored_typed scalar (PtrByte of index ∷ cells) =
    tested_typed scalar of (is_pointer_of scalar of) (are_bytes_of of 0 (PtrByte of index ∷ cells)) (pointer_typed scalar of)

either_typed : (scalar : Scalar) (set zeros : Bool) (stored : Result Value Fault) → IsValueOf scalar Null → IfOk stored (IsValueOf scalar) → IfOk (cond set (cond zeros (Ok Null) stored) (Err Unset)) (IsValueOf scalar)
either_typed scalar true true stored null typed = null
either_typed scalar true false stored null typed = typed
either_typed scalar false zeros stored null typed = tt

pub read_typed : (scalar : Scalar) (cells : List Cell) (result : Result Value Fault) → IsValueOf scalar Null → result ≡ cond (list_all is_set cells) (pointer_value scalar cells) (Err Unset) → IfOk result (IsValueOf scalar)
read_typed scalar cells result null e =
    subst (λ r. IfOk r (IsValueOf scalar)) (sym e) (either_typed scalar (list_all is_set cells) (list_all is_zero cells) (stored_pointer scalar cells) null (stored_typed scalar cells))
