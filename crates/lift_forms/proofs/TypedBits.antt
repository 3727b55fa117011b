-- Reads and stores of bit-fields are well typed.
use Rattle.std.proofs.Common.{◌≡◌, ℕ, zero, suc, ◌+◌, ◌-◌, ◌^◌, ◌≤◌, ◌<◌, min, pos, Bool, true, false, Some, refl, ap, arith}
use Rattle.std.proofs.lemmas.Bool.Decides.{nat_tests}
use Rattle.std.proofs.Math.Pow.{pow_mono}
use Rattle.cr_base.specs.declared.layout.Spot.{Spot}
use Rattle.rs_mean.specs.Scalars.{fits_integer, is_scalar}
use Rattle.rs_mean.specs.Typing.{Scope, BodyScope, of, only_if, casts, place_type, stmt_typed, stmts_typed, binary_kind}
use Rattle.rs_text.specs.declared.integer.IntegerTy.{IntegerTy}
use Rattle.rs_text.specs.declared.integer.IntegerTy.TheVariants.{I64, U8, U32, U64, Isize}
use Rattle.rs_text.specs.declared.operator.Operator.{Operator}
use Rattle.rs_text.specs.declared.operator.Operator.TheVariants as rust
use Rattle.rs_text.specs.Tree.{Ty, Integer, Pointer, Place, Expr, Literal, Cast, Binary, Assign, stmts}
use Rattle.lift_forms.specs.BitFields.{word, byte_place, byte_word, bytes_word, more_bytes, shifted_word, half, signed_read, bit_read, read_type, bits_above, bits_placed, bits_below, byte_with, byte_write, more_writes, bit_write}
use Rattle.lift_forms.specs.LawsTyping.{IsOfType, IsBitField}
use Rattle.lift_forms.proofs.SameTypes.{both_are_true, same_itself}
use Rattle.lift_forms.proofs.Typed.{cast_typed}

-- ---- literals

fits_isize : (n : ℕ) → n < 2 ^ 62 → fits_integer Isize (pos n) ≡ true
fits_isize n less = grind (arith, nat_tests, less)

fits_u32 : (n : ℕ) → n < 256 → fits_integer U32 (pos n) ≡ true
fits_u32 n less = grind (arith, nat_tests, less)

fits_u64 : (n : ℕ) → n ≤ 2 ^ 32 → fits_integer U64 (pos n) ≡ true
fits_u64 n less = grind (arith, nat_tests, less)

fits_i64 : (n : ℕ) → n ≤ 2 ^ 32 → fits_integer I64 (pos n) ≡ true
fits_i64 n less = grind (arith, nat_tests, less)

power_fits : (n : ℕ) → n ≤ 32 → 2 ^ n ≤ 2 ^ 32
power_fits n most = pow_mono most

module _ (scope : Scope) where
  literal : (which : IntegerTy) (n : ℕ) → fits_integer which (pos n) ≡ true → IsOfType scope (Literal (pos n) which) (Integer which)
  literal which n fits = ap (λ b. only_if b (Integer which)) fits

  power_word : (n : ℕ) → n ≤ 32 → IsOfType scope (word (2 ^ n)) (Integer U64)
  power_word n most = literal U64 (2 ^ n) (fits_u64 (2 ^ n) (power_fits n most))

  joined : (operator : Operator) (which other : IntegerTy) (left right : Expr) → IsOfType scope left (Integer which) → IsOfType scope right (Integer other) →
      binary_kind operator (Some (of (Integer which))) (Some (of (Integer other))) ≡ Some (of (Integer which)) → IsOfType scope (Binary left operator right) (Integer which)
  joined operator which other left right h k b = rw (h, k) b

  place_typed : (base : Expr) (target : Ty) (k : ℕ) → IsOfType scope base (Pointer target) → k < 2 ^ 62 → place_type scope (byte_place base k) ≡ Some (Integer U8)
  place_typed base target k h less =
      let cast : IsOfType scope (Cast base (Pointer (Integer U8))) (Pointer (Integer U8)) = cast_typed scope (Pointer target) (Pointer (Integer U8)) base h refl refl in
      rw (cast, literal Isize k (fits_isize k less)) refl

  byte_typed : (base : Expr) (target : Ty) (k : ℕ) → IsOfType scope base (Pointer target) → k < 2 ^ 62 → IsOfType scope (byte_word base k) (Integer U64)
  byte_typed base target k h less = rw (place_typed base target k h less) refl

  bytes_typed : (base : Expr) (target : Ty) (from more : ℕ) → IsOfType scope base (Pointer target) → from + more < 2 ^ 62 →
      IsOfType scope (bytes_word base from more) (Integer U64)
  bytes_typed base target from zero h less = byte_typed base target from h (omega (arith, less))
  bytes_typed base target from (suc more) h less =
      joined rust.Add U64 U64 (byte_word base from) (Binary (bytes_word base (suc from) more) rust.Mul (word 256)) (byte_typed base target from h (omega (arith, less)))
      (joined rust.Mul U64 U64 (bytes_word base (suc from) more) (word 256) (bytes_typed base target (suc from) more h (omega (arith, less))) refl refl) refl

  more_bound : (spot : Spot) → IsBitField spot → spot.byte + more_bytes spot < 2 ^ 62
  more_bound spot is = let a = is.bit in let b = is.most in let c = is.near in omega (arith, a, b, c)

  shifted_typed : (base : Expr) (target : Ty) (spot : Spot) → IsBitField spot → IsOfType scope base (Pointer target) → IsOfType scope (shifted_word base spot) (Integer U64)
  shifted_typed base target spot is h =
      joined rust.Shr U64 U32 (bytes_word base spot.byte (more_bytes spot)) (Literal (pos spot.bit) U32)
      (bytes_typed base target spot.byte (more_bytes spot) h (more_bound spot is))
      (literal U32 spot.bit (fits_u32 spot.bit (let a = is.bit in omega (arith, a)))) refl

  half_most : (spot : Spot) → IsBitField spot → half spot ≤ 2 ^ 32
  half_most spot is = power_fits (spot.width - 1) (let b = is.most in omega (arith, b))

  signed_typed : (base : Expr) (target : Ty) (spot : Spot) → IsBitField spot → IsOfType scope base (Pointer target) → IsOfType scope (signed_read base spot) (Integer I64)
  signed_typed base target spot is h =
      joined rust.Sub I64 I64 (Cast (Binary (Binary (shifted_word base spot) rust.Add (word (half spot))) rust.Rem (word (2 ^ spot.width))) (Integer I64)) (Literal (pos (half spot)) I64)
      (cast_typed scope (Integer U64) (Integer I64) (Binary (Binary (shifted_word base spot) rust.Add (word (half spot))) rust.Rem (word (2 ^ spot.width)))
      (joined rust.Rem U64 U64 (Binary (shifted_word base spot) rust.Add (word (half spot))) (word (2 ^ spot.width))
      (joined rust.Add U64 U64 (shifted_word base spot) (word (half spot)) (shifted_typed base target spot is h) (literal U64 (half spot) (fits_u64 (half spot) (half_most spot is))) refl)
      (power_word spot.width is.most) refl) refl refl)
      (literal I64 (half spot) (fits_i64 (half spot) (half_most spot is))) refl

  pub read_typed : (base : Expr) (target : Ty) (spot : Spot) (signed : Bool) → IsBitField spot → IsOfType scope base (Pointer target) →
      IsOfType scope (bit_read base spot signed) (Integer (read_type signed))
  read_typed base target spot true is h = signed_typed base target spot is h
  read_typed base target spot false is h =
      joined rust.Rem U64 U64 (shifted_word base spot) (word (2 ^ spot.width)) (shifted_typed base target spot is h) (power_word spot.width is.most) refl

  -- ---- stores

  shifted_by : (operator : Operator) (e : Expr) (n : ℕ) → IsOfType scope e (Integer U64) → n < 256 →
      binary_kind operator (Some (of (Integer U64))) (Some (of (Integer U32))) ≡ Some (of (Integer U64)) → IsOfType scope (Binary e operator (Literal (pos n) U32)) (Integer U64)
  shifted_by operator e n h less b = joined operator U64 U32 e (Literal (pos n) U32) h (literal U32 n (fits_u32 n less)) b

  above_typed : (old : Expr) (bit : ℕ) → IsOfType scope old (Integer U64) → bit < 256 → IsOfType scope (bits_above old bit) (Integer U64)
  above_typed old bit h less = shifted_by rust.Shl (Binary old rust.Shr (Literal (pos bit) U32)) bit (shifted_by rust.Shr old bit h less refl) less refl

  placed_typed : (value : Expr) (from count bit : ℕ) → IsOfType scope value (Integer U64) → from < 256 → count ≤ 32 → bit < 256 →
      IsOfType scope (bits_placed value from count bit) (Integer U64)
  placed_typed value from count bit h less most small =
      shifted_by rust.Shl (Binary (Binary value rust.Shr (Literal (pos from) U32)) rust.Rem (word (2 ^ count))) bit
      (joined rust.Rem U64 U64 (Binary value rust.Shr (Literal (pos from) U32)) (word (2 ^ count)) (shifted_by rust.Shr value from h less refl) (power_word count most) refl) small refl

  below_typed : (old : Expr) (bit : ℕ) → IsOfType scope old (Integer U64) → bit ≤ 32 → IsOfType scope (bits_below old bit) (Integer U64)
  below_typed old bit h most = joined rust.Rem U64 U64 old (word (2 ^ bit)) h (power_word bit most) refl

  with_typed : (base value : Expr) (target : Ty) (k from count bit : ℕ) → IsOfType scope base (Pointer target) → IsOfType scope value (Integer U64) →
      k < 2 ^ 62 → from < 256 → count ≤ 32 → bit < 8 → IsOfType scope (byte_with base value k from count bit) (Integer U8)
  with_typed base value target k from count bit h v less early most small =
      let old : IsOfType scope (byte_word base k) (Integer U64) = byte_typed base target k h less in
      let top = bits_above (byte_word base k) (bit + count) in
      let new = bits_placed value from count bit in
      let low = bits_below (byte_word base k) bit in
      cast_typed scope (Integer U64) (Integer U8) (Binary (Binary top rust.Add new) rust.Add low)
      (joined rust.Add U64 U64 (Binary top rust.Add new) low
      (joined rust.Add U64 U64 top new (above_typed (byte_word base k) (bit + count) old (omega (arith, most, small))) (placed_typed value from count bit v early most (omega (arith, small))) refl)
      (below_typed (byte_word base k) bit old (omega (arith, small))) refl) refl refl

stored_typed : (scope : BodyScope) (p : Place) (e : Expr) (ty : Ty) → place_type scope.names p ≡ Some ty → IsOfType scope.names e ty → is_scalar ty ≡ true →
    stmt_typed scope (Assign p e) ≡ true
stored_typed scope p e ty h k s = rw (h, k, s, same_itself ty) refl

module _ (scope : BodyScope) (base value : Expr) (target : Ty) (h : IsOfType scope.names base (Pointer target)) (v : IsOfType scope.names value (Integer U64)) where
  write_typed : (k from count bit : ℕ) → k < 2 ^ 62 → from < 256 → count ≤ 32 → bit < 8 → stmt_typed scope (byte_write base value k from count bit) ≡ true
  write_typed k from count bit less early most small =
      stored_typed scope (byte_place base k) (byte_with base value k from count bit) (Integer U8) (place_typed scope.names base target k h less)
      (with_typed scope.names base value target k from count bit h v less early most small) refl

  more_typed : (k from width more : ℕ) → k + more < 2 ^ 62 → from + width ≤ 32 → stmts_typed scope (stmts (more_writes base value k from width more)) ≡ true
  more_typed k from width zero less most = refl
  more_typed k from width (suc more) less most =
      both_are_true _ _ (write_typed k from (min 8 width) 0 (omega (arith, less)) (omega (arith, most)) (omega (arith, most)) (omega arith))
      (more_typed (suc k) (from + min 8 width) (width - min 8 width) more (omega (arith, less)) (omega (arith, most)))

pub writes_typed : (scope : BodyScope) (base stored : Expr) (target ty : Ty) (spot : Spot) → IsBitField spot → IsOfType scope.names base (Pointer target) →
    IsOfType scope.names stored ty → casts ty (Integer U64) ≡ true → stmts_typed scope (stmts (bit_write base spot stored)) ≡ true
writes_typed scope base stored target ty spot is h s c =
    let v : IsOfType scope.names (Cast stored (Integer U64)) (Integer U64) = cast_typed scope.names ty (Integer U64) stored s c refl in
    let a = is.bit in
    let b = is.most in
    let bound : spot.byte + more_bytes spot < 2 ^ 62 = more_bound scope.names spot is in
    both_are_true _ _
    (write_typed scope base (Cast stored (Integer U64)) target h v spot.byte 0 (min (8 - spot.bit) spot.width) spot.bit (omega (arith, bound)) (omega arith) (omega (arith, b)) a)
    (more_typed scope base (Cast stored (Integer U64)) target h v (suc spot.byte) (min (8 - spot.bit) spot.width) (spot.width - min (8 - spot.bit) spot.width) (more_bytes spot)
    (let n = is.near in omega (arith, n, a, b)) (omega (arith, b)))
