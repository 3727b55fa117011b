-- What a bit-field gives that is read by its bytes.
use Rattle.std.proofs.Common.{◌≡◌, ℕ, zero, suc, ◌+◌, ◌-◌, ◌*◌, ◌/◌, ◌%◌, ◌^◌, ◌≤◌, ◌<◌, pos, ◌+ℤ◌, ◌-ℤ◌, ◌*ℤ◌, nat_le, nat_lt, int_le, int_lt, int_div, Bool, true, false, if◌then◌else◌, List, [], ◌∷◌, map, length, drop, get_or, drop-cons, drop_of_length-le, Ok, Err, refl, sym, ap, subst, ◌∙◌, tests, arith}
use Rattle.std.proofs.lemmas.Bool.Decides.{nat_tests}
use Rattle.std.proofs.lemmas.Int.{ints}
use Rattle.std.proofs.lemmas.List.{length-map}
use Rattle.std.proofs.lemmas.Nat.{pow_pos}
use Rattle.std.proofs.Math.IntN.{pos-*ℤ-pos}
use Rattle.std.proofs.Math.Nat.{div-le_self, two-pow-succ, mod-eq_of_lt, mod-lt, mod-add-mod, add-mod_right}
use Rattle.std.proofs.Math.Pow.{pow_mono}
use Rattle.std.specs.Ordering.{int_eq}
use Rattle.cr_base.specs.Scalar.{IsInRange, least, above as most_number, residue, from_half}
use Rattle.cr_base.specs.declared.layout.Spot.{Spot}
use Rattle.cr_world.specs.World.{World}
use Rattle.mem_bytes.specs.Access.{and_then, part_of, live_read}
use Rattle.mem_bytes.specs.Bits.{bytes_touched}
use Rattle.mem_bytes.specs.Coding.{number_of}
use Rattle.mem_bytes.specs.Laws.{behind}
use Rattle.mem_bytes.specs.Memory.{size_of, byte_cell}
use Rattle.mem_bytes.specs.Pointers.{live_size, place_inside, moved}
use Rattle.mem_bytes.specs.declared.pointer.PointerFault.TheVariants.{LeavesObject}
use Rattle.mem_bytes.specs.declared.value.Ptr.{Ptr}
use Rattle.mem_bytes.specs.declared.value.Value.{Value}
use Rattle.mem_bytes.specs.declared.value.Value.TheVariants.{Whole, Object}
use Rattle.mem_bytes.proofs.Reached.{part_ok, length_part}
use Rattle.mem_bytes_bits.specs.Laws.{HoldsBytes}
use Rattle.mem_bytes_bits.proofs.ByBytes.{byte_loaded}
use Rattle.rs_mean.specs.declared.cause.Cause.TheVariants.{Overflow, Divisor, Shift}
use Rattle.rs_mean.specs.Numbers.{checked, remainder_by}
use Rattle.rs_mean.specs.Calls.{Spot as Where, spot as where_at, load, with_type, loaded_as}
use Rattle.rs_mean.specs.Run.{Frame, run_place}
use Rattle.rs_mean.specs.Scalars.{integer_scalar, fits_integer, scalar_of}
use Rattle.rs_mean.specs.Values.{typed, pointing, numbered}
use Rattle.rs_mean.specs.World.{or_cause, cause_of, cause_of_pointer}
use Rattle.rs_text.specs.declared.integer.IntegerTy.TheVariants.{I64, U8, U32, U64, Isize}
use Rattle.rs_text.specs.declared.operator.Operator.TheVariants as rust
use Rattle.rs_text.specs.Tree.{Ty, Integer, Pointer, Place, Expr, Literal, Read, Offset, Cast, Binary}
use Rattle.lift_forms.specs.BitFields.{word, byte_place, byte_word, bytes_word, more_bytes, shifted_word, unsigned_read, half, signed_read, bit_read, read_type}
use Rattle.lift_forms.specs.LawsTyping.{IsBitField}
use Rattle.lift_forms.proofs.SameTypes.{both_are_true}
use Rattle.lift_forms_laws.specs.Gives.{GivesAt, GivesPlace}
use Rattle.lift_forms_laws.specs.LawsBits.{bits_value}
use Rattle.lift_forms_laws.proofs.Constants.{target_gives}
use Rattle.lift_forms_laws.proofs.Numbers.{chosen_low, chosen_high, converted_same}
use Rattle.lift_forms_laws.proofs.Runs.{seq_is, looks_is, literal_gives, cast_gives, binary_gives, offset_gives}

-- a place that is read
read_gives : (frame : Frame) (world : World) (p : Place) (at : Where) (given : Value) → GivesPlace frame world p at →
    with_type at.ty (loaded_as world.held.blocks at.is_based (scalar_of at.ty) at.at) ≡ Ok (typed at.ty given) → GivesAt frame world (Read p) at.ty given
read_gives frame world p at given h is = record {
  runs = λ units. seq_is (run_place frame p) load world units at (h.runs units) ∙ looks_is _ world units (typed at.ty given) is;
}

-- ---- numbers of bytes

-- more than a number of so many bytes
abbrev above : ℕ → ℕ
above zero = 256
above (suc more) = 256 * above more

above_most : (more : ℕ) → more ≤ 4 → above more ≤ 1099511627776
above_most zero most = omega arith
above_most (suc zero) most = omega arith
above_most (suc (suc zero)) most = omega arith
above_most (suc (suc (suc zero))) most = omega arith
above_most (suc (suc (suc (suc zero)))) most = omega arith
above_most (suc (suc (suc (suc (suc n))))) most = absurd (omega (arith, most))

pub fits_word : (n : ℕ) → n < 18446744073709551616 → fits_integer U64 (pos n) ≡ true
fits_word n less = grind (arith, nat_tests, less)

pub word_range : (n : ℕ) → n < 18446744073709551616 → IsInRange (integer_scalar U64) (pos n)
word_range n less = (omega (arith, ints), omega (arith, ints, less))

long_range : (n : ℕ) → n < 8589934592 → IsInRange (integer_scalar I64) (pos n)
long_range n less = (omega (arith, ints), omega (arith, ints, less))

difference_fits : (a b : ℕ) → a < 8589934592 → b < 8589934592 → fits_integer I64 (pos a -ℤ pos b) ≡ true
difference_fits a b less small =
    both_are_true (int_le (least (integer_scalar I64)) (pos a -ℤ pos b)) (int_lt (pos a -ℤ pos b) (most_number (integer_scalar I64)))
    (grind (arith, ints, tests, less, small)) (grind (arith, ints, tests, less, small))

module _ (frame : Frame) (world : World) where
  pub word_gives : (n : ℕ) → GivesAt frame world (word n) (Integer U64) (Whole (pos n))
  word_gives n = literal_gives frame world (pos n) U64

  -- `+` and `*` of words that don't overflow
  pub added : (left right : Expr) (a b : ℕ) → GivesAt frame world left (Integer U64) (Whole (pos a)) → GivesAt frame world right (Integer U64) (Whole (pos b)) → a + b < 18446744073709551616 →
      GivesAt frame world (Binary left rust.Add right) (Integer U64) (Whole (pos (a + b)))
  added left right a b h k less =
      binary_gives frame world left right rust.Add (Integer U64) (Integer U64) (Integer U64) (Whole (pos a)) (Whole (pos b)) (Whole (pos (a + b))) h k
      (ap (λ (t : Bool). numbered U64 (if t then Ok (pos (a + b)) else Err Overflow)) (fits_word (a + b) less))

  multiplied : (left right : Expr) (a b : ℕ) → GivesAt frame world left (Integer U64) (Whole (pos a)) → GivesAt frame world right (Integer U64) (Whole (pos b)) → a * b < 18446744073709551616 →
      GivesAt frame world (Binary left rust.Mul right) (Integer U64) (Whole (pos (a * b)))
  multiplied left right a b h k less =
      binary_gives frame world left right rust.Mul (Integer U64) (Integer U64) (Integer U64) (Whole (pos a)) (Whole (pos b)) (Whole (pos (a * b))) h k
      (ap (λ (t : Bool). numbered U64 (if t then Ok (pos (a * b)) else Err Overflow)) (fits_word (a * b) less))

  pub remaining : (left right : Expr) (a b : ℕ) → GivesAt frame world left (Integer U64) (Whole (pos a)) → GivesAt frame world right (Integer U64) (Whole (pos b)) → 0 < b → a < 18446744073709551616 →
      GivesAt frame world (Binary left rust.Rem right) (Integer U64) (Whole (pos (a % b)))
  remaining left right a b h k some less =
      let nonzero : int_eq (pos b) (pos 0) ≡ false = grind (arith, nat_tests, ints, tests, some) in
      let quotient : a / b ≤ a = div-le_self a b in
      let fits : fits_integer U64 (pos (a / b)) ≡ true = fits_word (a / b) (omega (arith, quotient, less)) in
      binary_gives frame world left right rust.Rem (Integer U64) (Integer U64) (Integer U64) (Whole (pos a)) (Whole (pos b)) (Whole (pos (a % b))) h k
      (ap (λ (t : Bool). numbered U64 (remainder_by (pos a) (pos b) (if t then Err Divisor else checked Divisor U64 (int_div (pos a) (pos b))))) nonzero
      ∙ ap (λ (t : Bool). numbered U64 (remainder_by (pos a) (pos b) (if t then Ok (int_div (pos a) (pos b)) else Err Divisor))) fits)

  pub shifted : (left : Expr) (a bit : ℕ) → GivesAt frame world left (Integer U64) (Whole (pos a)) → bit < 64 →
      GivesAt frame world (Binary left rust.Shr (Literal (pos bit) U32)) (Integer U64) (Whole (pos (a / 2 ^ bit)))
  shifted left a bit h less =
      binary_gives frame world left (Literal (pos bit) U32) rust.Shr (Integer U64) (Integer U32) (Integer U64) (Whole (pos a)) (Whole (pos bit)) (Whole (pos (a / 2 ^ bit))) h
      (literal_gives frame world (pos bit) U32)
      (ap (λ (t : Bool). numbered U64 (if t then Ok (pos (a / 2 ^ bit)) else Err Shift)) (let test : nat_lt bit 64 ≡ true = grind (arith, nat_tests, less) in test))

  -- `-` of numbers below 2 to the 33
  taken : (left right : Expr) (a b : ℕ) → GivesAt frame world left (Integer I64) (Whole (pos a)) → GivesAt frame world right (Integer I64) (Whole (pos b)) → a < 8589934592 → b < 8589934592 →
      GivesAt frame world (Binary left rust.Sub right) (Integer I64) (Whole (pos a -ℤ pos b))
  taken left right a b h k less small =
      binary_gives frame world left right rust.Sub (Integer I64) (Integer I64) (Integer I64) (Whole (pos a)) (Whole (pos b)) (Whole (pos a -ℤ pos b)) h k
      (ap (λ (t : Bool). numbered I64 (if t then Ok (pos a -ℤ pos b) else Err Overflow)) (difference_fits a b less small))

  -- ---- bytes behind an address

  module _ (base : Expr) (target : Ty) (to : Ptr) (h : GivesAt frame world base (Pointer target) (Object to)) (first count : ℕ) (bytes : List ℕ)
      (holds : HoldsBytes world.held.blocks (behind to first) count bytes) (few : count ≤ 5) where
    part_is : part_of holds.block (to.offset + first) count ≡ Ok (map byte_cell bytes)
    part_is = ap (λ slot. live_read slot (λ b. part_of b (to.offset + first) count)) (sym holds.live) ∙ holds.found

    inside : to.offset + first + count ≤ size_of holds.block
    inside = (part_ok holds.block (to.offset + first) count (map byte_cell bytes) part_is).0

    many : length bytes ≡ count
    many = sym (length-map bytes byte_cell) ∙ length_part holds.block (to.offset + first) count (map byte_cell bytes) part_is

    small : (k : ℕ) → k < count → get_or bytes k 0 < 256
    small k less = holds.are_bytes k 0 (omega (arith, less, many))

    moved_is : (k : ℕ) → k ≤ count → moved world.held.blocks (Object to) (pos (first + k) *ℤ pos 1) ≡ Ok (Object (behind (behind to first) k))
    moved_is k most =
        let product : pos (first + k) *ℤ pos 1 ≡ pos ((first + k) * 1) = pos-*ℤ-pos (first + k) 1 in
        let sum : pos to.offset +ℤ (pos (first + k) *ℤ pos 1) ≡ pos (to.offset + first + k) = omega (arith, ints, product) in
        let test : nat_le (to.offset + first + k) (size_of holds.block) ≡ true = let i = inside in grind (arith, nat_tests, i, most) in
        ap (λ slot. and_then (and_then (live_size slot) (λ size. place_inside to.block size (pos to.offset +ℤ (pos (first + k) *ℤ pos 1)))) (λ new. Ok (Object new))) holds.live
        ∙ ap (λ z. and_then (place_inside to.block (size_of holds.block) z) (λ new. Ok (Object new))) sum
        ∙ ap (λ (b : Bool). and_then (if b then Ok (behind (behind to first) k) else Err LeavesObject) (λ new. Ok (Object new))) test

    address_gives : (k : ℕ) → k ≤ count → GivesAt frame world (Offset (Cast base (Pointer (Integer U8))) (Literal (pos (first + k)) Isize)) (Pointer (Integer U8)) (Object (behind (behind to first) k))
    address_gives k most =
        offset_gives frame world (Cast base (Pointer (Integer U8))) (Literal (pos (first + k)) Isize) (Pointer (Integer U8)) (Integer Isize) (Pointer (Integer U8)) (Object to) (Whole (pos (first + k)))
        (Object (behind (behind to first) k)) (cast_gives frame world base (Pointer target) (Pointer (Integer U8)) (Object to) (Object to) h refl)
        (literal_gives frame world (pos (first + k)) Isize) (ap (λ r. pointing (Integer U8) (or_cause cause_of_pointer r)) (moved_is k most))

    pub place_gives : (k : ℕ) → k ≤ count → GivesPlace frame world (byte_place base (first + k)) (where_at (Integer U8) (Object (behind (behind to first) k)))
    place_gives k most = target_gives frame world (Offset (Cast base (Pointer (Integer U8))) (Literal (pos (first + k)) Isize)) (Integer U8) (Object (behind (behind to first) k)) (address_gives k most) refl

    pub byte_gives : (k : ℕ) → k < count → GivesAt frame world (byte_word base (first + k)) (Integer U64) (Whole (pos (get_or bytes k 0)))
    byte_gives k less =
        let b = get_or bytes k 0 in
        let bound = small k less in
        let read = read_gives frame world (byte_place base (first + k)) (where_at (Integer U8) (Object (behind (behind to first) k))) (Whole (pos b)) (place_gives k (omega (arith, less)))
        (ap (λ r. with_type (Integer U8) (or_cause cause_of r)) (byte_loaded world.held.blocks (behind to first) count k bytes holds less)) in
        cast_gives frame world (Read (byte_place base (first + k))) (Integer U8) (Integer U64) (Whole (pos b)) (Whole (pos b)) read
        (ap (λ n. Ok (typed (Integer U64) (Whole n))) (converted_same U64 (pos b) (word_range b (omega (arith, bound)))))

    -- the number of the bytes from one on
    pub record Counted (e : Expr) (j more : ℕ) : Type 0 where
      pub gives : GivesAt frame world e (Integer U64) (Whole (pos (number_of (drop j bytes))))
      pub less : number_of (drop j bytes) < above more

    counted : (j more : ℕ) → j + more + 1 ≡ count → Counted (bytes_word base (first + j) more) j more
    counted j zero e =
        let b = get_or bytes j 0 in
        let long = many in
        let bound = small j (omega (arith, e)) in
        let here : drop j bytes ≡ b ∷ drop (suc j) bytes = drop-cons bytes j 0 (omega (arith, e, long)) in
        let rest : drop (suc j) bytes ≡ [] = drop_of_length-le bytes {i = suc j} (omega (arith, e, long)) in
        let number : number_of (drop j bytes) ≡ b = ap number_of here ∙ ap (λ l. b + 256 * number_of l) rest ∙ (let same : b + 256 * 0 ≡ b = omega arith in same) in
        record {
          gives = subst (λ n. GivesAt frame world (byte_word base (first + j)) (Integer U64) (Whole (pos n))) (sym number) (byte_gives j (omega (arith, e)));
          less = omega (arith, number, bound);
        }
    counted j (suc more) e =
        let b = get_or bytes j 0 in
        let long = many in
        let bound = small j (omega (arith, e)) in
        let here : drop j bytes ≡ b ∷ drop (suc j) bytes = drop-cons bytes j 0 (omega (arith, e, long)) in
        let rest = counted (suc j) more (omega (arith, e)) in
        let r = number_of (drop (suc j) bytes) in
        let below : r < above more = rest.less in
        let most : above more ≤ 1099511627776 = above_most more (omega (arith, e, few)) in
        let number : number_of (drop j bytes) ≡ b + r * 256 = ap number_of here ∙ (let same : b + 256 * r ≡ b + r * 256 = omega arith in same) in
        let next : GivesAt frame world (bytes_word base (suc (first + j)) more) (Integer U64) (Whole (pos r)) =
        subst (λ n. GivesAt frame world (bytes_word base n more) (Integer U64) (Whole (pos r))) (let same : first + suc j ≡ suc (first + j) = omega arith in same) rest.gives in
        let product : GivesAt frame world (Binary (bytes_word base (suc (first + j)) more) rust.Mul (word 256)) (Integer U64) (Whole (pos (r * 256))) =
        multiplied (bytes_word base (suc (first + j)) more) (word 256) r 256 next (word_gives 256) (omega (arith, below, most)) in
        record {
          gives = subst (λ n. GivesAt frame world (bytes_word base (first + j) (suc more)) (Integer U64) (Whole (pos n))) (sym number)
              (added (byte_word base (first + j)) (Binary (bytes_word base (suc (first + j)) more) rust.Mul (word 256)) b (r * 256) (byte_gives j (omega (arith, e))) product
              (omega (arith, below, most, bound)));
          less = omega (arith, number, bound, below);
        }

    pub all_counted : (more : ℕ) → more + 1 ≡ count → Counted (bytes_word base first more) 0 more
    all_counted more e =
        subst (λ n. Counted (bytes_word base n more) 0 more) (let same : first + 0 ≡ first = omega arith in same) (counted 0 more (omega (arith, e)))

-- ---- the field in the number

doubled : (width : ℕ) → 0 < width → 2 ^ width ≡ 2 ^ (width - 1) + 2 ^ (width - 1)
doubled zero some = absurd (omega (arith, some))
doubled (suc n) some = two-pow-succ n ∙ sym (ap (λ k. 2 ^ k + 2 ^ k) (let e : suc n - 1 ≡ n = omega arith in e))

-- a number below twice a half, moved by the half, and back
signed_is : (s h : ℕ) → 0 < h → pos ((s + h) % (h + h)) -ℤ pos h ≡ from_half h (residue (pos (s % (h + h))) (h + h))
signed_is s h some = by_half (nat_lt f h) refl
  where
    f : ℕ
    f = s % (h + h)

    below : s % (h + h) < h + h
    below = mod-lt s (omega (arith, some))

    by_half : (test : Bool) → nat_lt (s % (h + h)) h ≡ test → pos ((s + h) % (h + h)) -ℤ pos h ≡ from_half h (residue (pos (s % (h + h))) (h + h))
    by_half true is =
        let low : s % (h + h) < h = grind (arith, nat_tests, is) in
        let same : (s + h) % (h + h) ≡ s % (h + h) + h = sym (mod-add-mod s (h + h) h) ∙ mod-eq_of_lt (omega (arith, low)) in
        let whole : (s % (h + h)) % (h + h) ≡ s % (h + h) = mod-eq_of_lt below in
        let left : pos ((s + h) % (h + h)) -ℤ pos h ≡ pos (s % (h + h)) = omega (arith, ints, same) in
        left ∙ sym (ap (λ (r : ℕ). from_half h r) whole ∙ chosen_low h (s % (h + h)) low)
    by_half false is =
        let high : h ≤ s % (h + h) = grind (arith, nat_tests, is) in
        let b = below in
        let parted : s % (h + h) + h ≡ (s % (h + h) - h) + (h + h) = omega (arith, high) in
        let same : (s + h) % (h + h) ≡ s % (h + h) - h =
        sym (mod-add-mod s (h + h) h) ∙ ap (λ n. n % (h + h)) parted ∙ add-mod_right (s % (h + h) - h) (h + h) ∙ mod-eq_of_lt (omega (arith, high, b)) in
        let whole : (s % (h + h)) % (h + h) ≡ s % (h + h) = mod-eq_of_lt below in
        let left : pos ((s + h) % (h + h)) -ℤ pos h ≡ pos (s % (h + h)) -ℤ pos (h + h) = omega (arith, ints, same, high) in
        left ∙ sym (ap (λ (r : ℕ). from_half h r) whole ∙ chosen_high h (s % (h + h)) high)

module _ (frame : Frame) (world : World) (base : Expr) (target : Ty) (to : Ptr) (spot : Spot) (bytes : List ℕ) (is : IsBitField spot)
    (h : GivesAt frame world base (Pointer target) (Object to)) (holds : HoldsBytes world.held.blocks (behind to spot.byte) (bytes_touched spot.bit spot.width) bytes) where
  few_bytes : bytes_touched spot.bit spot.width ≤ 5
  few_bytes = let a = is.bit in let b = is.most in omega (arith, a, b)

  one_more : more_bytes spot + 1 ≡ bytes_touched spot.bit spot.width
  one_more = let a = is.bit in let b = is.most in let c = is.some in omega (arith, a, b, c)

  whole_number : Counted frame world base target to h spot.byte (bytes_touched spot.bit spot.width) bytes holds few_bytes (bytes_word base spot.byte (more_bytes spot)) 0 (more_bytes spot)
  whole_number = all_counted frame world base target to h spot.byte (bytes_touched spot.bit spot.width) bytes holds few_bytes (more_bytes spot) one_more

  number_most : number_of bytes < 1099511627776
  number_most =
      let less = whole_number.less in
      let few = few_bytes in
      let e = one_more in
      let most = above_most (more_bytes spot) (omega (arith, few, e)) in
      omega (arith, less, most)

  field_shifted : GivesAt frame world (shifted_word base spot) (Integer U64) (Whole (pos (number_of bytes / 2 ^ spot.bit)))
  field_shifted = shifted frame world (bytes_word base spot.byte (more_bytes spot)) (number_of bytes) spot.bit whole_number.gives (let a = is.bit in omega (arith, a))

  shifted_most : number_of bytes / 2 ^ spot.bit < 1099511627776
  shifted_most = let most = number_most in let less = div-le_self (number_of bytes) (2 ^ spot.bit) in omega (arith, most, less)

  width_most : 2 ^ spot.width ≤ 4294967296
  width_most = pow_mono is.most

  unsigned_gives : GivesAt frame world (unsigned_read base spot) (Integer U64) (Whole (bits_value spot false (number_of bytes)))
  unsigned_gives =
      subst (λ n. GivesAt frame world (unsigned_read base spot) (Integer U64) (Whole (pos n)))
      (sym (mod-eq_of_lt (mod-lt (number_of bytes / 2 ^ spot.bit) (pow_pos spot.width))))
      (remaining frame world (shifted_word base spot) (word (2 ^ spot.width)) (number_of bytes / 2 ^ spot.bit) (2 ^ spot.width) field_shifted (word_gives frame world (2 ^ spot.width)) (pow_pos spot.width)
      (let most = shifted_most in omega (arith, most)))

  signed_gives : GivesAt frame world (signed_read base spot) (Integer I64) (Whole (bits_value spot true (number_of bytes)))
  signed_gives =
      let s = number_of bytes / 2 ^ spot.bit in
      let h = half spot in
      let some : 0 < half spot = pow_pos (spot.width - 1) in
      let twice : 2 ^ spot.width ≡ half spot + half spot = doubled spot.width is.some in
      let wide = width_most in
      let most = shifted_most in
      let rest : (s + h) % 2 ^ spot.width < 2 ^ spot.width = mod-lt (s + h) (pow_pos spot.width) in
      let moved_up = added frame world (shifted_word base spot) (word (half spot)) s h field_shifted (word_gives frame world (half spot)) (omega (arith, most, wide, twice)) in
      let wrapped_up = remaining frame world (Binary (shifted_word base spot) rust.Add (word (half spot))) (word (2 ^ spot.width)) (s + h) (2 ^ spot.width) moved_up
      (word_gives frame world (2 ^ spot.width)) (pow_pos spot.width) (omega (arith, most, wide, twice)) in
      let long = cast_gives frame world (Binary (Binary (shifted_word base spot) rust.Add (word (half spot))) rust.Rem (word (2 ^ spot.width))) (Integer U64) (Integer I64)
      (Whole (pos ((s + h) % 2 ^ spot.width))) (Whole (pos ((s + h) % 2 ^ spot.width))) wrapped_up
      (ap (λ n. Ok (typed (Integer I64) (Whole n))) (converted_same I64 (pos ((s + h) % 2 ^ spot.width)) (long_range ((s + h) % 2 ^ spot.width) (omega (arith, rest, wide))))) in
      let same : pos ((s + h) % 2 ^ spot.width) -ℤ pos h ≡ bits_value spot true (number_of bytes) =
      subst (λ m. pos ((s + h) % m) -ℤ pos h ≡ from_half h (residue (pos (s % m)) (h + h))) (sym twice) (signed_is s h some) in
      subst (λ n. GivesAt frame world (signed_read base spot) (Integer I64) (Whole n)) same
      (taken frame world (Cast (Binary (Binary (shifted_word base spot) rust.Add (word (half spot))) rust.Rem (word (2 ^ spot.width))) (Integer I64)) (Literal (pos (half spot)) I64)
      ((s + h) % 2 ^ spot.width) h long (literal_gives frame world (pos (half spot)) I64) (omega (arith, rest, wide)) (omega (arith, wide, twice)))

pub reads : (frame : Frame) (world : World) (base : Expr) (target : Ty) (to : Ptr) (spot : Spot) (bytes : List ℕ) (signed : Bool) → IsBitField spot →
    GivesAt frame world base (Pointer target) (Object to) → HoldsBytes world.held.blocks (behind to spot.byte) (bytes_touched spot.bit spot.width) bytes →
    GivesAt frame world (bit_read base spot signed) (Integer (read_type signed)) (Whole (bits_value spot signed (number_of bytes)))
reads frame world base target to spot bytes true is h holds = signed_gives frame world base target to spot bytes is h holds
reads frame world base target to spot bytes false is h holds = unsigned_gives frame world base target to spot bytes is h holds
