-- Worked accesses of C's objects, and those of the crate at the places that stand for them.
use Rattle.std.proofs.Common.{◌≡◌, ℕ, ◌^◌, pos, negsuc, true, false, List, [], ◌∷◌, map, Some, None, Ok, Err, refl}
use Rattle.cr_base.specs.Scalar.{residue}
use Rattle.cr_base.specs.declared.rule.URule.TheVariants.{U16}
use Rattle.cr_base.specs.declared.scalar.Scalar.TheVariants.{Whole}
use Rattle.cx_mean.specs.Accesses.{field_value, exact_or_apart, loaded_scalar, stored_scalar}
use Rattle.cx_mean.specs.Marks.{bits_of_bytes, with_read, with_write, no_marks}
use Rattle.cx_mean.specs.Operands.{breaks, scalar}
use Rattle.mem_bytes.specs.declared.value.Ptr.{Ptr}
use Rattle.mem_bytes.specs.declared.value.Value.TheVariants.{Whole as Number, Null, Object}
use Rattle.mem_bytes.specs.Memory.{Block, byte_cell}
use Rattle.rs_mean.specs.declared.cause.Cause.TheVariants.{Misaligned, Outside}
use Rattle.rs_mean.specs.Calls.{loaded_as, stored_as, copy_of}

abbrev at : ℕ → ℕ → Ptr
at block offset = record { block = block; offset = offset }

abbrev bytes : ℕ → List ℕ → Block
bytes align numbers = record { align = align; cells = map byte_cell numbers }

-- ---- scalars

loaded_in_c : loaded_scalar (Some (bytes 4 (7 ∷ 1 ∷ 0 ∷ 0 ∷ [])) ∷ []) (at 0 0) no_marks (Whole 32 true) ≡ Ok (record { value = scalar (Number (pos 263)); marks = with_read (bits_of_bytes (at 0 0) 4) no_marks })
loaded_in_c = refl

loaded_in_crate : loaded_as (None ∷ Some (bytes 8 (7 ∷ 1 ∷ 0 ∷ 0 ∷ [])) ∷ []) true (Some (Whole 32 true)) (Object (at 1 0)) ≡ Ok (Number (pos 263))
loaded_in_crate = refl

-- with less alignment than C's block it wouldn't be
not_aligned : loaded_as (None ∷ Some (bytes 2 (7 ∷ 1 ∷ 0 ∷ 0 ∷ [])) ∷ []) true (Some (Whole 32 true)) (Object (at 1 0)) ≡ Err Misaligned
not_aligned = refl

-- nor where the base of its place isn't aligned
not_based : loaded_as (None ∷ Some (bytes 8 (7 ∷ 1 ∷ 0 ∷ 0 ∷ [])) ∷ []) false (Some (Whole 32 true)) (Object (at 1 0)) ≡ Err Misaligned
not_based = refl

stored_in_c : stored_scalar (Some (bytes 1 (7 ∷ 1 ∷ [])) ∷ []) (at 0 1) no_marks (scalar (Number (negsuc 0))) (Whole 8 true) ≡ Ok (record { value = scalar (Number (negsuc 0)); marks = with_write (bits_of_bytes (at 0 1) 1) no_marks; blocks = Some (bytes 1 (7 ∷ 255 ∷ [])) ∷ [] })
stored_in_c = refl

stored_in_crate : stored_as (Some (bytes 1 (7 ∷ 1 ∷ [])) ∷ []) true (Some (Whole 8 true)) (Object (at 0 1)) (Number (negsuc 0)) ≡ Ok (Some (bytes 1 (7 ∷ 255 ∷ [])) ∷ [])
stored_in_crate = refl

nothing_through_null : stored_as (Some (bytes 1 (7 ∷ [])) ∷ []) true (Some (Whole 8 true)) Null (Number (pos 1)) ≡ Err Outside
nothing_through_null = refl

-- ---- structures and unions

copied_in_crate : copy_of (Object (at 0 0)) (Object (at 1 0)) (Number (pos 2)) (record { blocks = Some (bytes 1 (7 ∷ 1 ∷ [])) ∷ Some (bytes 1 (0 ∷ 0 ∷ 3 ∷ [])) ∷ []; heap = [] }) ≡ Ok (record { value = tt; held = record { blocks = Some (bytes 1 (7 ∷ 1 ∷ [])) ∷ Some (bytes 1 (7 ∷ 1 ∷ 3 ∷ [])) ∷ []; heap = [] } })
copied_in_crate = refl

-- to itself it is copied in both, and to a place that it overlaps else in the crate alone
same_in_c : exact_or_apart 2 (at 0 0) (Some (at 0 0)) ≡ Ok (at 0 0)
same_in_c = refl

overlapping_in_c : exact_or_apart 2 (at 0 1) (Some (at 0 0)) ≡ Err (breaks U16)
overlapping_in_c = refl

overlapping_in_crate : copy_of (Object (at 0 0)) (Object (at 0 1)) (Number (pos 2)) (record { blocks = Some (bytes 1 (7 ∷ 1 ∷ 3 ∷ [])) ∷ []; heap = [] }) ≡ Ok (record { value = tt; held = record { blocks = Some (bytes 1 (7 ∷ 7 ∷ 1 ∷ [])) ∷ []; heap = [] } })
overlapping_in_crate = refl

-- ---- bit-fields

-- -1 in three bits is 7, and is read as -1 where the field is signed
low_bits : residue (negsuc 0) (2 ^ 3) ≡ 7
low_bits = refl

signed_field : field_value (Whole 32 true) 3 7 ≡ Ok (Number (negsuc 0))
signed_field = refl

unsigned_field : field_value (Whole 32 false) 3 7 ≡ Ok (Number (pos 7))
unsigned_field = refl
