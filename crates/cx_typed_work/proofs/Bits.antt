-- Loads of bit-fields, and what bits mean as a value of a type (6.7.2.1p9).
use Rattle.std.proofs.Common.{◌≡◌, ◌⊎◌, inl, inr, ℕ, zero, suc, ◌+◌, ◌-◌, ◌^◌, ◌%◌, ◌<◌, ◌≤◌, nat_lt, ◌==◌, Bool, true, false, IsTrue, if◌then◌else◌, ℤ, pos, neg_ℤ, ◌≤ℤ◌, ◌<ℤ◌, ◌-ℤ◌, List, All, Option, Some, None, Result, Ok, Err, refl, sym, ap, subst, ◌∙◌, arith}
use Rattle.std.proofs.Math.Nat.{mod-lt}
use Rattle.std.proofs.lemmas.Bool.Decides.{nat_tests}
use Rattle.std.proofs.lemmas.Int.{ints}
use Rattle.std.proofs.lemmas.Nat.{pow_pos, pow_below}
use Rattle.std.specs.List.{list_all}
use Rattle.cr_base.proofs.Residues.{residue_below}
use Rattle.cr_base.specs.Scalar.{IsInRange, residue, from_half, wrapped}
use Rattle.cr_base.specs.declared.rule.URule.TheVariants.{U1}
use Rattle.cr_base.specs.declared.scalar.Scalar.{Scalar}
use Rattle.cr_base.specs.declared.scalar.Scalar.TheVariants.{Truth, Whole, Object, Code}
use Rattle.cx_core.specs.Conversions.{scalar_of}
use Rattle.cx_core.specs.Trees.{CTy, form_of_type, CProgram}
use Rattle.cx_mean.specs.Accesses.{is_field_place, at_field_place, field_value, CLoaded, loaded_bits}
use Rattle.cx_mean.specs.Marks.{Marks, bits_of_field, with_read}
use Rattle.cx_mean.specs.Operands.{CWhy, breaks, stuck, accessed, sequenced_after, scalar}
use Rattle.cx_mean.proofs.KeptNodes.{IfGiven, given_and, given_where}
use Rattle.mem_bytes.specs.Access.{and_then, part_of, block_field, live_read, part_at, field_at}
use Rattle.mem_bytes.specs.Bits.{bytes_touched, field_of, field_in}
use Rattle.mem_bytes.specs.Coding.{IsValueOf, is_bits, bits_of, set_of}
use Rattle.mem_bytes.specs.declared.cell.Cell.{Cell}
use Rattle.mem_bytes.specs.declared.fault.Fault.{Fault}
use Rattle.mem_bytes.specs.declared.fault.Fault.TheVariants.{Unset, MixedPointer}
use Rattle.mem_bytes.specs.declared.value.Ptr.{Ptr}
use Rattle.mem_bytes.specs.declared.value.Value.{Value}
use Rattle.mem_bytes.specs.declared.value.Value.TheVariants.{Whole as Number}
use Rattle.mem_bytes.specs.Memory.{Block, Blocks, live_block}
use Rattle.cx_typed_values.proofs.Ranges.{from_half_in_range}
use Rattle.cx_typed_values.specs.Outcomes.{Comes}
use Rattle.cx_typed_work.proofs.Accesses.{IsLoadedOf, sequenced_comes}
use Rattle.cx_typed_work.proofs.Fields.{FitsKind, IsField}
use Rattle.cx_typed_work.proofs.Outcomes.{comes_and, comes_accessed}
use Rattle.cx_typed_work.specs.Operands.{IsScalarIn}

-- ---- numbers of bits

pow_by : (i j : ℕ) (test : Bool) → nat_lt i j ≡ test → i ≤ j → 2 ^ i ≤ 2 ^ j
pow_by i j true e p = let below : i < j = grind (arith, nat_tests) in let strict : 2 ^ i < 2 ^ j = pow_below i j below in omega (arith, strict)
pow_by i j false e p =
    let least : j ≤ i = grind (arith, nat_tests) in
    let same : i ≡ j = omega (arith, least, p) in
    subst (λ n. 2 ^ i ≤ 2 ^ n) same (omega arith)

pow_at_most : (i j : ℕ) → i ≤ j → 2 ^ i ≤ 2 ^ j
pow_at_most i j p = pow_by i j (nat_lt i j) refl p

-- so many low bits, with or without a sign, are numbers of a type that has them
bits_in_range : (width size : ℕ) (signed : Bool) (value : ℤ) → width ≤ size → IsInRange (Whole size signed) (wrapped (Whole width signed) value)
bits_in_range width size true value fits =
    let half = 2 ^ (width - 1) in
    let most : half ≤ 2 ^ (size - 1) = pow_at_most (width - 1) (size - 1) (omega (arith, fits)) in
    let inside = from_half_in_range half (residue value (half + half)) (neg_ℤ (pos half)) (residue_below value (half + half) (omega (arith, pow_pos (width - 1)))) (omega (arith, ints)) in
    (omega (arith, ints, inside.0, most), omega (arith, ints, inside.1, most))
bits_in_range width size false value fits =
    let most : 2 ^ width ≤ 2 ^ size = pow_at_most width size fits in
    (omega (arith, ints), omega (arith, ints, residue_below value (2 ^ width) (pow_pos width), most))

truth_bits : (width bits : ℕ) → width ≤ 1 → bits < 2 ^ width → bits < 2
truth_bits zero bits fits below = omega (arith, below)
truth_bits (suc zero) bits fits below = omega (arith, below)
truth_bits (suc (suc n)) bits fits below = absurd (omega (arith, fits))

-- what bits mean
pub field_means : (program : CProgram) (type : CTy) (width bits : ℕ) (one : IsField program.types type width) → bits < 2 ^ width → Comes (IsScalarIn program type) (field_value one.kind width bits)
field_means program type width bits one below = by one.kind one.kind_is one.fits
  where
    by : (kind : Scalar) → scalar_of program.types (form_of_type type) ≡ Some kind → FitsKind kind width → Comes (IsScalarIn program type) (field_value kind width bits)
    by Truth e fits = let small : bits < 2 = truth_bits width bits fits below in record { kind = Truth; kind_is = e; of_kind = (omega (arith, ints), omega (arith, ints, small)); leads = tt }
    by (Whole size signed) e fits = record { kind = Whole size signed; kind_is = e; of_kind = bits_in_range width size signed (pos bits) fits; leads = tt }
    by Object e fits = absurd fits
    by Code e fits = absurd fits

-- ---- loads

field_below : (bit width : ℕ) (cells : List Cell) → IfGiven (λ n. n < 2 ^ width) (field_in bit width cells)
field_below bit width cells =
    given_where (λ n. n < 2 ^ width) (field_of bit width (set_of cells) == 2 ^ width - 1) (if list_all is_bits cells then Ok (field_of bit width (bits_of cells)) else Err MixedPointer) Unset (λ _.
    given_where (λ n. n < 2 ^ width) (list_all is_bits cells) (Ok (field_of bit width (bits_of cells))) MixedPointer (λ _. mod-lt _ (pow_pos width)))

slot_field : (slot : Option Block) (offset bit width : ℕ) → IfGiven (λ n. n < 2 ^ width) (live_read slot (λ block. block_field block offset bit width))
slot_field None offset bit width = tt
slot_field (Some block) offset bit width =
    given_and (λ _. Unit {0}) (λ n. n < 2 ^ width) (part_of block offset (bytes_touched bit width)) _ (any (part_of block offset (bytes_touched bit width))) (λ cells _. field_below bit width cells)
  where
    any : (found : Result (List Cell) Fault) → IfGiven (λ (_ : List Cell). Unit {0}) found
    any (Ok cells) = tt
    any (Err fault) = tt

comes_bits : (width : ℕ) (found : Result ℕ Fault) → IfGiven (λ n. n < 2 ^ width) found → Comes (λ n. n < 2 ^ width) (accessed found)
comes_bits width (Ok bits) is = is
comes_bits width (Err fault) is = tt

pub in_field_place : {A : Type 0} (P : A → Type 0) (bit width : ℕ) (outcome : Result A CWhy) → IsTrue (is_field_place bit width) → Comes P outcome → Comes P (at_field_place bit width outcome)
in_field_place P bit width outcome is comes = subst (λ test. Comes P (if test then outcome else Err stuck)) (sym is) comes

-- a load of a bit-field gives a value of its type
pub bits_loaded : (program : CProgram) (type : CTy) (blocks : Blocks) (at : Ptr) (bit width : ℕ) (marks : Marks) (one : IsField program.types type width) → IsTrue (is_field_place bit width)
    → Comes (IsLoadedOf program type) (loaded_bits blocks at bit width marks one.kind)
bits_loaded program type blocks at bit width marks one is =
    in_field_place (IsLoadedOf program type) bit width _ is
    (comes_and (λ _. Unit {0}) (IsLoadedOf program type) (accessed (part_at blocks at (bytes_touched bit width))) _ (comes_accessed (λ _. Unit {0}) _ (λ _ _. tt)) (λ _ _.
    comes_and (λ _. Unit {0}) (IsLoadedOf program type) (sequenced_after marks (bits_of_field at bit width)) _ (sequenced_comes marks _) (λ range _.
    comes_and (λ n. n < 2 ^ width) (IsLoadedOf program type) (accessed (field_at blocks at bit width)) _ (comes_bits width (field_at blocks at bit width) (slot_field (live_block blocks at.block) at.offset bit width)) (λ bits below.
    comes_and (IsScalarIn program type) (IsLoadedOf program type) (field_value one.kind width bits) _ (field_means program type width bits one below) (λ value fits. fits)))))
