-- The statements that store in a bit-field.
use Rattle.std.proofs.Common.{◌≡◌, ℕ, zero, suc, ◌+◌, ◌-◌, ◌*◌, ◌/◌, ◌%◌, ◌^◌, ◌<◌, ◌≤◌, min, ℤ, pos, true, List, ◌∷◌, slice_set, get_or, All, Result, Ok, refl, sym, ap, ◌∙◌, subst, arith}
use Rattle.std.proofs.lemmas.List.Elements.{All-nil, All-cons}
use Rattle.std.proofs.lemmas.Nat.{pow_pos, pow-add, shr-shr, shr_split, mod_below, mul-add-lt}
use Rattle.cr_base.proofs.Residues.{residue_below}
use Rattle.cr_base.specs.Scalar.{residue}
use Rattle.cr_base.specs.declared.layout.Spot.{Spot}
use Rattle.cr_runs.specs.Runs.{came, bind}
use Rattle.cr_world.specs.Held.{Held, with_blocks}
use Rattle.cr_world.specs.World.{World, with_held}
use Rattle.mem_bytes.specs.Access.{after_put, after_put_bits}
use Rattle.mem_bytes.specs.Bits.{bytes_touched, field_of, with_field}
use Rattle.mem_bytes.specs.Coding.{bytes_of, number_of}
use Rattle.mem_bytes.specs.Laws.{behind}
use Rattle.mem_bytes.specs.Memory.{Blocks}
use Rattle.mem_bytes.specs.declared.value.Ptr.{Ptr}
use Rattle.mem_bytes.specs.declared.value.Value.{Value}
use Rattle.mem_bytes.specs.declared.value.Value.TheVariants.{Whole, Object}
use Rattle.mem_bytes.proofs.Coded.{length-bytes_of}
use Rattle.mem_bytes.proofs.Written.{put_bits_writes}
use Rattle.mem_bytes_bits.specs.Laws.{HoldsBytes, byte_scalar}
use Rattle.mem_bytes_bits.proofs.ByBytes.{field_stored}
use Rattle.rs_mean.specs.declared.cause.Cause.{Cause}
use Rattle.rs_mean.specs.Calls.{Spot as Where, spot as where_at, store, in_memory, stored_as}
use Rattle.rs_mean.specs.Run.{Frame, normal, goes_on, then_on, run_expr, run_place, run_stmt, run_stmts}
use Rattle.rs_mean.specs.Scalars.{scalar_of}
use Rattle.rs_mean.specs.Typing.{casts}
use Rattle.rs_mean.specs.Values.{typed, cast_by_type}
use Rattle.rs_mean.specs.World.{Run, Did, seq, local, after_step, or_cause, cause_of}
use Rattle.rs_text.specs.declared.integer.IntegerTy.TheVariants.{U8, U64}
use Rattle.rs_text.specs.Tree.{Ty, Integer, Boolean, Pointer, Place, Expr, Cast, Stmt, Assign, stmts}
use Rattle.lift_forms.specs.BitFields.{byte_place, byte_with, byte_write, more_bytes, more_writes, bit_write}
use Rattle.lift_forms.specs.LawsTyping.{IsBitField}
use Rattle.lift_forms_laws.specs.Gives.{GivesAt, GivesPlace}
use Rattle.lift_forms_laws.specs.LawsBits.{with_memory, low_bits, GivesAlong, GivesBeside, StoresField}
use Rattle.lift_forms_laws.proofs.Bits.{byte_gives, place_gives}
use Rattle.lift_forms_laws.proofs.FieldBytes.{fields_joined, own_field, bytes_with_field, bytes_back}
use Rattle.lift_forms_laws.proofs.FieldMemory.{with_bytes, holds_other, same_bytes, many, field_put, byte_put}
use Rattle.lift_forms_laws.proofs.FieldStores.{more_low_bits, byte_with_gives}
use Rattle.lift_forms_laws.proofs.Runs.{seq_is, pure_is, cast_gives}

-- ---- pieces

local_is : {A : Type 0} (step : Held → Result (Did A) Cause) (world : World) (units : ℕ) (did : Did A) → step world.held ≡ Ok did → local step world units ≡ came did.value (with_held did.held world) units
unfolding local
local_is step world units did e = ap (after_step world units) e

-- a piece behind one that changes the world
then_is : {A B : Type 0} (first : Run A) (next : A → Run B) (world after : World) (units : ℕ) (given : A) → first world units ≡ came given after units → seq first next world units ≡ next given after units
unfolding seq
then_is first next world after units given e = ap (λ r. bind r next) e

-- an assignment of what an expression gives, at a place
assigned : (frame : Frame) (world : World) (p : Place) (e : Expr) (at : Where) (ty : Ty) (value : Value) (after : Blocks) → GivesAt frame world e ty value → GivesPlace frame world p at →
    stored_as world.held.blocks at.is_based (scalar_of at.ty) at.at value ≡ Ok after → (units : ℕ) → run_stmt frame (Assign p e) world units ≡ came normal (with_memory after world) units
assigned frame world p e at ty value after h k s units =
    seq_is (run_expr frame e) _ world units (typed ty value) (h.runs units)
    ∙ seq_is (run_place frame p) _ world units at (k.runs units)
    ∙ then_is (store at value) goes_on world (with_memory after world) units tt (local_is _ world units (record { value = tt; held = with_blocks after world.held }) (ap (in_memory tt world.held) s))
    ∙ pure_is normal (with_memory after world) units

first_of_two : (frame : Frame) (s : Stmt) (others : List Stmt) (world next last : World) (units : ℕ) → run_stmt frame s world units ≡ came normal next units →
    run_stmts frame (stmts others) next units ≡ came normal last units → run_stmts frame (stmts (s ∷ others)) world units ≡ came normal last units
first_of_two frame s others world next last units e f = then_is (run_stmt frame s) (then_on (run_stmts frame (stmts others))) world next units normal e ∙ f

-- an integer or a `bool` as a `u64`
word_of : (ty : Ty) (number : ℤ) → casts ty (Integer U64) ≡ true → cast_by_type ty (Integer U64) (Whole number) ≡ Ok (typed (Integer U64) (Whole (pos (residue number (2 ^ 64)))))
word_of (Integer which) number is = refl
word_of Boolean number is = refl
word_of _ number is = cc

-- ---- bytes of numbers

are_bytes : (count n : ℕ) → All (λ byte. byte < 256) (bytes_of count n)
are_bytes zero n = All-nil _
are_bytes (suc count) n = All-cons (λ b. b < 256) (n % 256) (bytes_of count (n / 256)) (omega arith) (are_bytes count (n / 256))

byte_of : (count k n : ℕ) → k < count → get_or (bytes_of count n) k 0 ≡ n / 2 ^ (8 * k) % 256
byte_of zero k n less = absurd (omega (arith, less))
byte_of (suc count) zero n less = ap (λ m. m % 256) (let same : n ≡ n / 2 ^ (8 * 0) = omega arith in same)
byte_of (suc count) (suc k) n less =
    byte_of count k (n / 256) (omega (arith, less)) ∙ ap (λ m. m % 256) (shr-shr n 8 (8 * k) ∙ ap (λ e. n / 2 ^ e) (let more : 8 + 8 * k ≡ 8 * suc k = omega arith in more))

-- nothing is put in a field of no bits
no_field : (bit n : ℕ) (number : ℤ) → with_field bit 0 (low_bits 0 number) n ≡ n
no_field bit n number =
    let none : low_bits 0 number < 1 = residue_below number 1 (omega arith) in
    let zero_bits : low_bits 0 number ≡ 0 = omega (arith, none) in
    let whole : n / 2 ^ bit * 2 ^ bit + n % 2 ^ bit ≡ n = shr_split n bit in
    ap (λ f. with_field bit 0 f n) zero_bits ∙ ap (λ b. n / 2 ^ b * 2 ^ b + 0 * 2 ^ bit + n % 2 ^ bit) (let same : bit + 0 ≡ bit = omega arith in same) ∙ omega (arith, whole)

module _ (frame : Frame) (world : World) (base stored : Expr) (target ty : Ty) (to : Ptr) (spot : Spot) (number : ℤ) (bytes : List ℕ) (is : IsBitField spot) (is_number : casts ty (Integer U64) ≡ true)
    (holds : HoldsBytes world.held.blocks (behind to spot.byte) (bytes_touched spot.bit spot.width) bytes)
    (base_gives : GivesAlong frame world to spot number base (Pointer target) (Object to)) (stored_gives : GivesAlong frame world to spot number stored ty (Whole number)) where
  abbrev at : Ptr
  at = behind to spot.byte

  abbrev count : ℕ
  count = bytes_touched spot.bit spot.width

  -- the number to store, as the crate has it
  abbrev as_word : ℕ
  as_word = residue number (2 ^ 64)

  abbrev value : Expr
  value = Cast stored (Integer U64)

  -- ---- while it is stored: the lowest bits have been put in the field

  abbrev number_at : ℕ → ℕ
  number_at done = with_field spot.bit done (low_bits done number) (number_of bytes)

  abbrev memory_at : ℕ → Blocks
  memory_at done = with_bytes world.held.blocks at holds.block (bytes_of count (number_at done))

  abbrev world_at : ℕ → World
  world_at done = with_memory (memory_at done) world

  low_small : (done : ℕ) → low_bits done number < 2 ^ done
  low_small done = residue_below number (2 ^ done) (pow_pos done)

  put_at : (done : ℕ) → done ≤ spot.width → after_put_bits world.held.blocks at spot.bit done (low_bits done number) ≡ Ok (memory_at done)
  put_at done less = field_put world.held.blocks at count bytes holds spot.bit done (low_bits done number) (omega (arith, less)) (low_small done)

  holds_at : (done : ℕ) → HoldsBytes (memory_at done) at count (bytes_of count (number_at done))
  holds_at done = holds_other world.held.blocks at count bytes holds (bytes_of count (number_at done)) (are_bytes count (number_at done)) (length-bytes_of count (number_at done))

  base_at : (done : ℕ) → done ≤ spot.width → GivesAt frame (world_at done) base (Pointer target) (Object to)
  base_at done less = base_gives.gives done (memory_at done) less (put_at done less)

  value_at : (done : ℕ) → done ≤ spot.width → GivesAt frame (world_at done) value (Integer U64) (Whole (pos as_word))
  value_at done less =
      cast_gives frame (world_at done) stored ty (Integer U64) (Whole number) (Whole (pos as_word)) (stored_gives.gives done (memory_at done) less (put_at done less)) (word_of ty number is_number)

  -- ---- one byte

  few : count ≤ 5
  few = let a = is.bit in let b = is.most in omega (arith, a, b)

  word_small : as_word < 18446744073709551616
  word_small = residue_below number (2 ^ 64) (omega arith)

  module _ (k done more bit : ℕ) (within : k < count) (some : 0 < more) (less : done + more ≤ spot.width) (fits : bit + more ≤ 8) (place : 8 * k + bit ≡ spot.bit + done) where
    abbrev field : ℕ
    field = as_word / 2 ^ done % 2 ^ more

    abbrev old : ℕ
    old = get_or (bytes_of count (number_at done)) k 0

    field_small : field < 2 ^ more
    field_small = mod_below (as_word / 2 ^ done) (2 ^ more) (pow_pos more)

    old_small : old < 256
    old_small = are_bytes count (number_at done) k 0 (let long = length-bytes_of count (number_at done) in omega (arith, within, long))

    -- the number with more of its bits
    next_number : with_field (8 * k + bit) more field (number_at done) ≡ number_at (done + more)
    next_number =
        let most = is.most in
        ap (λ b. with_field b more field (number_at done)) place
        ∙ fields_joined spot.bit done more (low_bits done number) field (number_of bytes) (low_small done)
        ∙ ap (λ f. with_field spot.bit (done + more) f (number_of bytes)) (sym (more_low_bits done more number (omega (arith, less, most))))

    next_bytes : slice_set (bytes_of count (number_at done)) k (with_field bit more field old) ≡ bytes_of count (number_at (done + more))
    next_bytes =
        ap (λ b. slice_set (bytes_of count (number_at done)) k (with_field bit more field b)) (byte_of count k (number_at done) within)
        ∙ sym (bytes_with_field count k bit more field (number_at done) within fits field_small) ∙ ap (bytes_of count) next_number

    byte_is_put : after_put (memory_at done) (behind at k) byte_scalar (Whole (pos (with_field bit more field old))) ≡ Ok (memory_at (done + more))
    byte_is_put =
        byte_put world.held.blocks at count bytes holds (bytes_of count (number_at done)) (are_bytes count (number_at done)) (length-bytes_of count (number_at done)) k bit more field within some fits field_small
        ∙ ap (λ l. Ok (with_bytes world.held.blocks at holds.block l)) next_bytes

    byte_runs : (units : ℕ) → run_stmt frame (byte_write base value (spot.byte + k) done more bit) (world_at done) units ≡ came normal (world_at (done + more)) units
    byte_runs units =
        let early : done ≤ spot.width = omega (arith, less) in
        let most = is.most in
        let here = byte_gives frame (world_at done) base target to (base_at done early) spot.byte count (bytes_of count (number_at done)) (holds_at done) few k within in
        let place_is = place_gives frame (world_at done) base target to (base_at done early) spot.byte count (bytes_of count (number_at done)) (holds_at done) few k (omega (arith, within)) in
        let gives = byte_with_gives frame (world_at done) base value (spot.byte + k) done more bit old as_word here (value_at done early) fits (omega (arith, less, most)) old_small word_small in
        assigned frame (world_at done) (byte_place base (spot.byte + k)) (byte_with base value (spot.byte + k) done more bit) (where_at (Integer U8) (Object (behind at k))) (Integer U8)
        (Whole (pos (with_field bit more field old))) (memory_at (done + more)) gives place_is (ap (or_cause cause_of) byte_is_put) units

  -- ---- all of them

  begins : world_at 0 ≡ world
  begins =
      let long = many world.held.blocks at count bytes holds in
      ap (λ m. with_memory m world)
      (ap (λ n. with_bytes world.held.blocks at holds.block (bytes_of count n)) (no_field spot.bit (number_of bytes) number)
      ∙ ap (λ c. with_bytes world.held.blocks at holds.block (bytes_of c (number_of bytes))) (sym long)
      ∙ ap (with_bytes world.held.blocks at holds.block) (bytes_back bytes holds.are_bytes)
      ∙ same_bytes world.held.blocks at count bytes holds)

  -- the bytes behind the first, where so many bits have been stored and so many are left
  more_run : (more k done left : ℕ) → done + left ≡ spot.width → left ≤ 8 * more → 8 * more < left + 8 → k + more ≡ count → (0 < more → 8 * k ≡ spot.bit + done) → (units : ℕ) →
      run_stmts frame (stmts (more_writes base value (spot.byte + k) done left more)) (world_at done) units ≡ came normal (world_at spot.width) units
  more_run zero k done left all most least counts place units =
      pure_is normal (world_at done) units ∙ ap (λ d. came normal (world_at d) units) (let same : done ≡ spot.width = omega (arith, all, most) in same)
  more_run (suc more) k done left all most least counts place units =
      let now = min 8 left in
      let here : 8 * k ≡ spot.bit + done = place (omega arith) in
      let first = byte_runs k done now 0 (omega (arith, counts)) (omega (arith, least)) (omega (arith, all)) (omega arith) (omega (arith, here)) units in
      let rest = more_run more (suc k) (done + now) (left - now) (omega (arith, all)) (omega (arith, most)) (omega (arith, most, least)) (omega (arith, counts)) (λ some. omega (arith, here, some, least)) units in
      let again : spot.byte + suc k ≡ suc (spot.byte + k) = omega arith in
      first_of_two frame (byte_write base value (spot.byte + k) done now 0) (more_writes base value (suc (spot.byte + k)) (done + now) (left - now) more) (world_at done) (world_at (done + now)) (world_at spot.width) units first
      (subst (λ n. run_stmts frame (stmts (more_writes base value n (done + now) (left - now) more)) (world_at (done + now)) units ≡ came normal (world_at spot.width) units) again rest)

  all_run : (units : ℕ) → run_stmts frame (stmts (bit_write base spot stored)) world units ≡ came normal (world_at spot.width) units
  all_run units =
      let now = min (8 - spot.bit) spot.width in
      let low = is.bit in
      let some = is.some in
      let start : spot.byte + 0 ≡ spot.byte = omega arith in
      let next : spot.byte + 1 ≡ suc spot.byte = omega arith in
      let first = byte_runs 0 0 now spot.bit (omega (arith, low, some)) (omega (arith, low, some)) (omega arith) (omega (arith, low)) (omega arith) units in
      let rest = more_run (more_bytes spot) 1 now (spot.width - now) (omega arith) (omega (arith, low, some)) (omega (arith, low, some)) (omega (arith, low, some)) (λ behind. omega (arith, low, some, behind)) units in
      subst (λ w. run_stmts frame (stmts (bit_write base spot stored)) w units ≡ came normal (world_at spot.width) units) begins
      (first_of_two frame (byte_write base value spot.byte 0 now spot.bit) (more_writes base value (suc spot.byte) now (spot.width - now) (more_bytes spot)) (world_at 0) (world_at now) (world_at spot.width) units
      (subst (λ k. run_stmt frame (byte_write base value k 0 now spot.bit) (world_at 0) units ≡ came normal (world_at now) units) start
      (first ∙ ap (λ d. came normal (world_at d) units) (let same : 0 + now ≡ now = omega arith in same)))
      (subst (λ n. run_stmts frame (stmts (more_writes base value n now (spot.width - now) (more_bytes spot))) (world_at now) units ≡ came normal (world_at spot.width) units) next rest))

  pub writes : StoresField frame world to spot number bytes (bit_write base spot stored)
  writes =
      let put = put_at spot.width (omega arith) in
      record {
        beyond = memory_at spot.width;
        put = put;
        by_bytes = field_stored world.held.blocks (memory_at spot.width) at spot.bit spot.width (low_bits spot.width number) bytes holds (low_small spot.width) put;
        writes = put_bits_writes world.held.blocks (memory_at spot.width) at spot.bit spot.width (low_bits spot.width number) put;
        runs = all_run;
      }

-- ---- values that don't read the bits that are written

module _ (frame : Frame) (world : World) (to : Ptr) (spot : Spot) (number : ℤ) (bytes : List ℕ) (is : IsBitField spot)
    (holds : HoldsBytes world.held.blocks (behind to spot.byte) (bytes_touched spot.bit spot.width) bytes) (many : ℕ) (less : many ≤ spot.width) where
  abbrev part_number : ℕ
  part_number = with_field spot.bit many (low_bits many number) (number_of bytes)

  -- the bits of the field that haven't been stored
  abbrev left_bits : ℕ
  left_bits = field_of (spot.bit + many) (spot.width - many) part_number

  -- the field with those that have
  abbrev mixed : ℕ
  mixed = left_bits * 2 ^ many + low_bits many number

  mixed_small : mixed < 2 ^ spot.width
  mixed_small =
      let power : 2 ^ spot.width ≡ 2 ^ many * 2 ^ (spot.width - many) = ap (λ e. 2 ^ e) (let all : spot.width ≡ many + (spot.width - many) = omega (arith, less) in all) ∙ pow-add 2 many (spot.width - many) in
      let low = residue_below number (2 ^ many) (pow_pos many) in
      let high = mod_below (part_number / 2 ^ (spot.bit + many)) (2 ^ (spot.width - many)) (pow_pos (spot.width - many)) in
      rw power (mul-add-lt left_bits (2 ^ many) (low_bits many number) (2 ^ (spot.width - many)) high low)

  same_part : part_number ≡ with_field spot.bit spot.width mixed (number_of bytes)
  same_part =
      sym (own_field (spot.bit + many) (spot.width - many) part_number)
      ∙ fields_joined spot.bit many (spot.width - many) (low_bits many number) left_bits (number_of bytes) (residue_below number (2 ^ many) (pow_pos many))
      ∙ ap (λ w. with_field spot.bit w mixed (number_of bytes)) (let all : many + (spot.width - many) ≡ spot.width = omega (arith, less) in all)

  same_put : (part : Blocks) → after_put_bits world.held.blocks (behind to spot.byte) spot.bit many (low_bits many number) ≡ Ok part →
      after_put_bits world.held.blocks (behind to spot.byte) spot.bit spot.width mixed ≡ Ok part
  same_put part e =
      let at = behind to spot.byte in
      let count = bytes_touched spot.bit spot.width in
      field_put world.held.blocks at count bytes holds spot.bit spot.width mixed (omega arith) mixed_small
      ∙ ap (λ n. Ok (with_bytes world.held.blocks at holds.block (bytes_of count n))) (sym same_part)
      ∙ sym (field_put world.held.blocks at count bytes holds spot.bit many (low_bits many number) (omega (arith, less)) (residue_below number (2 ^ many) (pow_pos many))) ∙ e

pub along : (frame : Frame) (world : World) (to : Ptr) (spot : Spot) (number : ℤ) (bytes : List ℕ) (e : Expr) (ty : Ty) (given : Value) → IsBitField spot →
    HoldsBytes world.held.blocks (behind to spot.byte) (bytes_touched spot.bit spot.width) bytes → GivesBeside frame world to spot e ty given → GivesAlong frame world to spot number e ty given
along frame world to spot number bytes e ty given is holds beside = record {
  gives = λ many part less put. beside.gives (mixed frame world to spot number bytes is holds many less) part (mixed_small frame world to spot number bytes is holds many less)
      (same_put frame world to spot number bytes is holds many less part put);
}
