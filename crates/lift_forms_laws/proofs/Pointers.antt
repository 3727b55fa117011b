-- Operators on pointers, and all operators with two operands.
use Rattle.std.proofs.Common.{◌≡◌, ℕ, zero, suc, ◌*◌, ◌≤◌, ◌<◌, ℤ, pos, negsuc, neg_ℤ, ◌+ℤ◌, ◌*ℤ◌, ◌≤ℤ◌, nat_le, Bool, true, false, not, if◌then◌else◌, Option, Some, None, Result, Ok, Err, int_lt, int_le, tests, refl, sym, ap, subst, ◌∙◌, arith}
use Rattle.std.proofs.lemmas.Bool.Decides.{nat_tests}
use Rattle.std.proofs.lemmas.Int.{ints}
use Rattle.std.proofs.Math.IntN.{pos-*ℤ-pos, negsuc-*ℤ-pos}
use Rattle.std.proofs.Math.Nat.{mul-suc}
use Rattle.cr_base.specs.Scalar.{IsInRange, converted, least as least_number, above}
use Rattle.cr_base.specs.declared.layout.Laid.{Laid}
use Rattle.cr_base.specs.declared.rule.URule.{URule}
use Rattle.cr_base.specs.declared.rule.URule.TheVariants.{U11, U12}
use Rattle.cr_base.specs.declared.scalar.Scalar.TheVariants as scalar
use Rattle.cr_world.specs.World.{World}
use Rattle.cx_core.specs.declared.expr.Op2.{Op2}
use Rattle.cx_core.specs.declared.expr.Op2.TheVariants as op2
use Rattle.cx_core.specs.Trees.{CTy, form_of_type}
use Rattle.cx_mean.specs.Operands.{needed, by_pointers}
use Rattle.cx_mean.specs.Settings.{CSetting, element_extent, scalar_in_type}
use Rattle.cx_mean.specs.Values.{bytes_of_elements, moved_by, differ_by, two_pointers, pointer_and_number, number_and_pointer, number_of_pointers, binary_of, binary_value}
use Rattle.cx_numbers.specs.Numbers.{number_of_truth as c_number_of_truth}
use Rattle.cx_typed_values.specs.Outcomes.{Comes}
use Rattle.cx_typed_values.specs.Values.{AreObjects, IsNear, most_bytes}
use Rattle.cx_typed_values.proofs.PointerValues.{IsDistance, IsObjectPointer, difference_comes}
use Rattle.mem_bytes.specs.Access.{and_then}
use Rattle.mem_bytes.specs.Coding.{IsValueOf}
use Rattle.mem_bytes.specs.Memory.{Block, Blocks, live_block, size_of}
use Rattle.mem_bytes.specs.Pointers.{live_size, place_inside, place_moved, moved, difference, distance, equality}
use Rattle.mem_bytes.specs.declared.pointer.PointerFault.{PointerFault}
use Rattle.mem_bytes.specs.declared.pointer.PointerFault.TheVariants.{LeavesObject}
use Rattle.mem_bytes.specs.declared.value.Ptr.{Ptr}
use Rattle.mem_bytes.specs.declared.value.Value.{Value}
use Rattle.mem_bytes.specs.declared.value.Value.TheVariants.{Whole, Null, Object, Code as Function}
use Rattle.mem_bytes.proofs.Reached.{and_then_ok}
use Rattle.rs_mean.specs.Run.{Frame}
use Rattle.rs_mean.specs.Scalars.{integer_scalar, fits_integer, scalar_of}
use Rattle.rs_mean.specs.Typing.{is_target, is_bits, casts}
use Rattle.rs_mean.specs.Values.{typed, offset_by, apart_by}
use Rattle.rs_text.specs.declared.integer.IntegerTy.{IntegerTy}
use Rattle.rs_text.specs.declared.integer.IntegerTy.TheVariants.{I32, I64, U32, Isize}
use Rattle.rs_text.specs.declared.operator.Operator.{Operator}
use Rattle.rs_text.specs.declared.operator.Operator.TheVariants as rust
use Rattle.rs_text.specs.Tree.{Ty, Integer, Boolean, Pointer, Code, Tys, OptionTy, Expr, Offset, OffsetFrom, Cast, Binary}
use Rattle.lift_forms.specs.Given.{Given, truth}
use Rattle.lift_forms.specs.LawsTyping.{is_comparison, moved_result, added_result, pointers_result, functions_result, binary_result}
use Rattle.lift_forms.specs.Operators.{Operand, as_type, value_of, minus, elements_of, moved_form, beside, pointers_form, binary_form}
use Rattle.lift_forms.proofs.SameTypes.{both_are_true}
use Rattle.lift_forms.proofs.Typed.{if_some, is_same_sort}
use Rattle.lift_stands.specs.Stands.{Images}
use Rattle.lift_stands_pointers.specs.LawsOperators.{PointsToSize, comparison_of, IsAddress, IsNoObject}
use Rattle.lift_stands_pointers.proofs.Operators.{moves, differs, compares, compares_functions}
use Rattle.lift_forms_laws.specs.Gives.{GivesAt, GivesBelow, GivenStands, OperandStands, IsOf}
use Rattle.lift_forms_laws.specs.LawsMeaning.{Standing, ElementsAgree, Elements, Differing}
use Rattle.lift_forms_laws.proofs.Binary.{needed_is, c_gives, compared_stands, two_numbers_stand}
use Rattle.lift_forms_laws.proofs.Conversions.{as_type_stands}
use Rattle.lift_forms_laws.proofs.Numbers.{converted_same}
use Rattle.lift_forms_laws.proofs.Operands.{value_gives, number_gives, integer_gives}
use Rattle.lift_forms_laws.proofs.Runs.{cast_gives, offset_gives, apart_gives}
use Rattle.lift_forms_laws.proofs.Unary.{same_truth, number_stands, minus_gives}

pointers_ok : {A : Type 0} (rule : URule) (result : Result A PointerFault) (other : A) → by_pointers rule result ≡ Ok other → result ≡ Ok other
pointers_ok rule (Ok one) other e = let same : one ≡ other = cc (e) in ap Ok same
pointers_ok rule (Err fault) other e = absurd cc

-- ---- by how many elements C moves a pointer

-- a number of bytes by which a pointer moves within an object
pub record IsMove (bytes : ℤ) : Type 0 where
  pub least : neg_ℤ (pos most_bytes) ≤ℤ bytes
  pub most : bytes ≤ℤ pos most_bytes

inside_move : (block size offset : ℕ) (bytes : ℤ) (new : Ptr) → size ≤ most_bytes → offset ≤ most_bytes → place_inside block size (pos offset +ℤ bytes) ≡ Ok new → IsMove bytes
inside_move block size offset bytes new fits near e = by_end (pos offset +ℤ bytes) refl e
  where
    by_test : (n : ℕ) (test : Bool) → nat_le n size ≡ test → pos offset +ℤ bytes ≡ pos n → (if test then Ok (record { block = block; offset = n }) else Err LeavesObject) ≡ Ok new → IsMove bytes
    by_test n true is same e =
        let less : n ≤ size = grind (arith, nat_tests, is) in
        record { least = omega (arith, ints, same, near); most = omega (arith, ints, same, less, fits) }
    by_test n false is same e = absurd cc

    by_end : (z : ℤ) → pos offset +ℤ bytes ≡ z → place_inside block size z ≡ Ok new → IsMove bytes
    by_end (pos n) same e = by_test n (nat_le n size) refl same e
    by_end (negsuc n) same e = absurd cc

moved_found : (found : Option Block) (at : Ptr) (bytes : ℤ) (new : Ptr) → ((block : Block) → found ≡ Some block → size_of block ≤ most_bytes) → at.offset ≤ most_bytes →
    and_then (live_size found) (λ size. place_inside at.block size (pos at.offset +ℤ bytes)) ≡ Ok new → IsMove bytes
moved_found (Some block) at bytes new sizes near e = inside_move at.block (size_of block) at.offset bytes new (sizes block refl) near e
moved_found None at bytes new sizes near e = absurd cc

moved_bound : (memory : Blocks) (value new : Value) (bytes : ℤ) → AreObjects memory → IsNear value → moved memory value bytes ≡ Ok new → IsMove bytes
moved_bound memory (Object at) new bytes are near e =
    let parts = and_then_ok (place_moved memory at bytes) (λ to. Ok (Object to)) new e in
    moved_found (live_block memory at.block) at bytes parts.0 (are.sizes at.block) near parts.1
moved_bound memory Null new bytes are near e = absurd cc
moved_bound memory (Whole number) new bytes are near e = absurd cc
moved_bound memory (Function number) new bytes are near e = absurd cc

-- a factor that isn't 0 makes no number smaller
times_more : (k s : ℕ) → 0 < s → k ≤ k * s
times_more k zero some = absurd (omega (arith, some))
times_more k (suc s) some = let more = mul-suc k s in omega (arith, more)

count_bound : (count : ℤ) (size : ℕ) → 0 < size → IsMove (count *ℤ pos size) → IsMove count
count_bound (pos k) size some is =
    let less = times_more k size some in
    let product : pos k *ℤ pos size ≡ pos (k * size) = pos-*ℤ-pos k size in
    let most = is.most in
    record { least = omega (arith, ints); most = omega (arith, ints, less, product, most) }
count_bound (negsuc k) size some is =
    let less = times_more (suc k) size some in
    let product : negsuc k *ℤ pos size ≡ neg_ℤ (pos (suc k * size)) = negsuc-*ℤ-pos k size in
    let least = is.least in
    record { least = omega (arith, ints, less, product, least); most = omega (arith, ints) }

elements_bound : (setting : CSetting) (memory : Blocks) (type : CTy) (value new : Value) (count : ℤ) (laid : Laid) → AreObjects memory → IsNear value →
    PointsToSize setting type laid → 0 < laid.size → moved_by setting memory type value count ≡ Ok new → IsMove count
elements_bound setting memory type value new count laid are near points some e =
    let outer = and_then_ok (bytes_of_elements setting type count) (λ bytes. by_pointers U11 (moved memory value bytes)) new e in
    let inner = and_then_ok (needed (element_extent setting (form_of_type type))) (λ one. Ok (count *ℤ pos one.size)) outer.0 outer.1 in
    let bytes : count *ℤ pos inner.0.size ≡ outer.0 = cc (inner.2) in
    let found : Some points.extent ≡ Some inner.0 = sym points.found ∙ needed_is (element_extent setting (form_of_type type)) inner.0 inner.1 in
    let same : points.extent ≡ inner.0 = cc (found) in
    let size : inner.0.size ≡ laid.size = ap (λ l. l.size) (sym same) ∙ points.same_size in
    let move : IsMove outer.0 = moved_bound memory value new outer.0 are near (pointers_ok U11 (moved memory value outer.0) new outer.2) in
    count_bound count laid.size some (subst (λ s. IsMove (count *ℤ pos s)) size (subst IsMove (sym bytes) move))

move_fits : (count : ℤ) → IsMove count → IsInRange (integer_scalar Isize) count
move_fits count is = let least = is.least in let most = is.most in (omega (arith, ints, least, most), omega (arith, ints, least, most))

move_fits_long : (count : ℤ) → IsMove count → IsInRange (integer_scalar I64) count
move_fits_long count is = move_fits count is

is_fit : (count : ℤ) → IsMove count → fits_integer Isize count ≡ true
is_fit count is = let least = is.least in let most = is.most in both_are_true (int_le (least_number (integer_scalar Isize)) count) (int_lt count (above (integer_scalar Isize))) (grind (arith, ints, tests, least, most)) (grind (arith, ints, tests, least, most))

negative_move : (count : ℤ) → IsMove (neg_ℤ count) → IsMove count
negative_move count is = let least = is.least in let most = is.most in record { least = omega (arith, ints, least, most); most = omega (arith, ints, least, most) }

-- ---- what C's operator is, by the forms of values

pointer_first : (setting : CSetting) (op : Op2) (type one other : CTy) (memory : Blocks) (first : Value) (count : ℤ) → IsAddress first →
    binary_of setting op type memory one other first (Whole count) ≡ pointer_and_number setting op memory one first count
pointer_first setting op type one other memory Null count is = refl
pointer_first setting op type one other memory (Object at) count is = refl
pointer_first setting op type one other memory (Function number) count is = refl
pointer_first setting op type one other memory (Whole number) count is = absurd is

pointer_second : (setting : CSetting) (op : Op2) (type one other : CTy) (memory : Blocks) (second : Value) (count : ℤ) → IsAddress second →
    binary_of setting op type memory one other (Whole count) second ≡ number_and_pointer setting op memory other second count
pointer_second setting op type one other memory Null count is = refl
pointer_second setting op type one other memory (Object at) count is = refl
pointer_second setting op type one other memory (Function number) count is = refl
pointer_second setting op type one other memory (Whole number) count is = absurd is

pointers_both : (setting : CSetting) (op : Op2) (type one other : CTy) (memory : Blocks) (first second : Value) → IsAddress first → IsAddress second →
    binary_of setting op type memory one other first second ≡ number_of_pointers (two_pointers setting op memory one first second)
pointers_both setting op type one other memory Null Null is behind = refl
pointers_both setting op type one other memory Null (Object at) is behind = refl
pointers_both setting op type one other memory Null (Function number) is behind = refl
pointers_both setting op type one other memory (Object from) Null is behind = refl
pointers_both setting op type one other memory (Object from) (Object at) is behind = refl
pointers_both setting op type one other memory (Object from) (Function number) is behind = refl
pointers_both setting op type one other memory (Function from) Null is behind = refl
pointers_both setting op type one other memory (Function from) (Object at) is behind = refl
pointers_both setting op type one other memory (Function from) (Function number) is behind = refl
pointers_both setting op type one other memory (Whole from) second is behind = absurd is
pointers_both setting op type one other memory first (Whole number) is behind = absurd behind

object_address : (target : Ty) (first : Value) → IsOf (Pointer target) first → IsAddress first
object_address target Null is = tt
object_address target (Object at) is = tt
object_address target (Whole number) is = absurd is
object_address target (Function number) is = absurd is

function_address : (params : Tys) (result : OptionTy) (first : Value) → IsOf (Code params result) first → IsAddress first × IsNoObject first
function_address params result Null is = (tt, tt)
function_address params result (Object at) is = absurd is
function_address params result (Whole number) is = absurd is
function_address params result (Function number) is = (tt, tt)

object_kind : (target : Ty) (first : Value) → IsOf (Pointer target) first → IsValueOf scalar.Object first
object_kind target Null is = tt
object_kind target (Object at) is = tt
object_kind target (Whole number) is = absurd is
object_kind target (Function number) is = absurd is

-- what an integer or a `bool` has is a number
bits_number : (ty : Ty) (first : Value) → is_bits ty ≡ true → IsOf ty first → IsAddress first → ⊥
bits_number (Integer which) Null bits is address = is
bits_number (Integer which) (Object at) bits is address = is
bits_number (Integer which) (Function number) bits is address = is
bits_number Boolean Null bits is address = is
bits_number Boolean (Object at) bits is address = is
bits_number Boolean (Function number) bits is address = is
bits_number ty (Whole number) bits is address = address
bits_number ty first bits is address = cc

bits_cast : (from : Ty) (which : IntegerTy) → is_bits from ≡ true → casts from (Integer which) ≡ true
bits_cast (Integer from) which is = refl
bits_cast Boolean which is = refl
bits_cast from which is = cc

-- a comparison gives 0 or 1
told : (setting : CSetting) (op : Op2) (memory : Blocks) (type : CTy) (first second : Value) (n : ℤ) → is_comparison op ≡ true →
    two_pointers setting op memory type first second ≡ Ok n → (test : Bool) × (c_number_of_truth test ≡ n)
told setting op2.Less memory type first second n is e =
    let parts = and_then_ok (by_pointers U12 (distance memory first second)) (λ bytes. Ok (c_number_of_truth (int_lt bytes (pos 0)))) n e in (int_lt parts.0 (pos 0), cc (parts.2))
told setting op2.Greater memory type first second n is e =
    let parts = and_then_ok (by_pointers U12 (distance memory first second)) (λ bytes. Ok (c_number_of_truth (int_lt (pos 0) bytes))) n e in (int_lt (pos 0) parts.0, cc (parts.2))
told setting op2.LessOrEqual memory type first second n is e =
    let parts = and_then_ok (by_pointers U12 (distance memory first second)) (λ bytes. Ok (c_number_of_truth (int_le bytes (pos 0)))) n e in (int_le parts.0 (pos 0), cc (parts.2))
told setting op2.GreaterOrEqual memory type first second n is e =
    let parts = and_then_ok (by_pointers U12 (distance memory first second)) (λ bytes. Ok (c_number_of_truth (int_le (pos 0) bytes))) n e in (int_le (pos 0) parts.0, cc (parts.2))
told setting op2.Equal memory type first second n is e =
    let parts = and_then_ok (by_pointers U12 (equality memory first second)) (λ same. Ok (c_number_of_truth same)) n e in (parts.0, cc (parts.2))
told setting op2.NotEqual memory type first second n is e =
    let parts = and_then_ok (by_pointers U12 (equality memory first second)) (λ same. Ok (c_number_of_truth (not same))) n e in (not parts.0, cc (parts.2))
told setting op memory type first second n is e = absurd cc

-- a difference is no further than an object reaches
apart_found : (memory : Blocks) (size : ℕ) (first second : Value) (number : ℤ) → IsObjectPointer first → IsObjectPointer second → difference memory size first second ≡ Ok number → IsDistance number
apart_found memory size first second number is other e =
    subst (λ r. Comes IsDistance (by_pointers U11 r)) e (difference_comes memory size first second U11 is other)

apart_bound : (setting : CSetting) (memory : Blocks) (type : CTy) (target : Ty) (first second : Value) (number : ℤ) → IsOf (Pointer target) first → IsOf (Pointer target) second →
    IsNear first → IsNear second → differ_by setting memory type first second ≡ Ok number → IsMove number
apart_bound setting memory type target first second number is other near far e =
    let outer = and_then_ok (needed (element_extent setting (form_of_type type))) (λ laid. by_pointers U11 (difference memory laid.size first second)) number e in
    let found = apart_found memory outer.0.size first second number (record { of_kind = object_kind target first is; near = near }) (record { of_kind = object_kind target second other; near = far })
    (pointers_ok U11 (difference memory outer.0.size first second) number outer.2) in
    record { least = found.least; most = found.most }

module _ (images : Images) (frame : Frame) (world : World) (memory : Blocks) (standing : Standing images memory world) (setting : CSetting) where
  -- ---- moves

  module _ (type : CTy) (target : Ty) (agree : ElementsAgree setting frame type target) where
    offset_stands : (at count : Expr) (first new : Value) (number : ℤ) → GivesBelow images frame world at (Pointer target) first → GivesAt frame world count (Integer Isize) (Whole number) →
        moved_by setting memory type first number ≡ Ok new → GivesBelow images frame world (Offset at count) (Pointer target) new
    offset_stands at count first new number h k e =
        let there = moves images memory world.held.blocks setting type standing.stands first h.other new number target agree.laid h.below agree.points e in
        record {
          other = there.other;
          gives = offset_gives frame world at count (Pointer target) (Integer Isize) (Pointer target) h.other (Whole number) there.other h.gives k
              (ap (λ l. offset_by world.held.blocks target l h.other (Whole number)) agree.found ∙ there.is);
          below = there.below;
        }

    bound : (first new : Value) (number : ℤ) → IsNear first → moved_by setting memory type first number ≡ Ok new → IsMove number
    bound first new number near e = elements_bound setting memory type first new number agree.laid standing.objects near agree.points agree.some e

    added_stands : (at : Expr) (count : Operand) (first new : Value) (number : ℤ) → IsNear first → GivesBelow images frame world at (Pointer target) first →
        GivesAt frame world (elements_of count) (Integer Isize) (Whole (converted (integer_scalar Isize) number)) → moved_by setting memory type first number ≡ Ok new →
        GivesBelow images frame world (Offset at (elements_of count)) (Pointer target) new
    added_stands at count first new number near h k e =
        offset_stands at (elements_of count) first new number h
        (subst (λ n. GivesAt frame world (elements_of count) (Integer Isize) (Whole n)) (converted_same Isize number (move_fits number (bound first new number near e))) k) e

    taken_stands : (at : Expr) (count : Operand) (first new : Value) (number : ℤ) → IsNear first → GivesBelow images frame world at (Pointer target) first →
        GivesAt frame world (elements_of count) (Integer Isize) (Whole (converted (integer_scalar Isize) number)) → moved_by setting memory type first (neg_ℤ number) ≡ Ok new →
        GivesBelow images frame world (Offset at (minus Isize (elements_of count))) (Pointer target) new
    taken_stands at count first new number near h k e =
        let move : IsMove (neg_ℤ number) = bound first new (neg_ℤ number) near e in
        offset_stands at (minus Isize (elements_of count)) first new (neg_ℤ number) h
        (minus_gives images frame world Isize (elements_of count) number
        (subst (λ n. GivesAt frame world (elements_of count) (Integer Isize) (Whole n)) (converted_same Isize number (move_fits number (negative_move number move))) k)
        (is_fit (neg_ℤ number) move)) e

    moved_stands : (op : Op2) (at count : Operand) (first new : Value) (number : ℤ) (gives : Ty) → IsNear first → GivesBelow images frame world (value_of at) (Pointer target) first →
        GivesAt frame world (elements_of count) (Integer Isize) (Whole (converted (integer_scalar Isize) number)) → moved_result op target ≡ Some gives →
        pointer_and_number setting op memory type first number ≡ Ok new → GivenStands images frame world gives (moved_form op at count) new
    moved_stands op2.Add at count first new number gives near h k r e =
        subst (λ t. GivesBelow images frame world (Offset (value_of at) (elements_of count)) t new) (if_some (is_target target) (Pointer target) gives r).1
        (added_stands (value_of at) count first new number near h k e)
    moved_stands op2.Subtract at count first new number gives near h k r e =
        subst (λ t. GivesBelow images frame world (Offset (value_of at) (minus Isize (elements_of count))) t new) (if_some (is_target target) (Pointer target) gives r).1
        (taken_stands (value_of at) count first new number near h k e)
    moved_stands op at count first new number gives near h k r e = absurd (let clash : None ≡ Some gives = r in cc)

    added_by : (op : Op2) (at count : Operand) (first new : Value) (number : ℤ) (gives : Ty) → IsNear first → GivesBelow images frame world (value_of at) (Pointer target) first →
        GivesAt frame world (elements_of count) (Integer Isize) (Whole (converted (integer_scalar Isize) number)) → added_result op target ≡ Some gives →
        number_and_pointer setting op memory type first number ≡ Ok new → GivenStands images frame world gives (moved_form op at count) new
    added_by op2.Add at count first new number gives near h k r e = moved_stands op2.Add at count first new number gives near h k r e
    added_by op at count first new number gives near h k r e = absurd (let clash : None ≡ Some gives = r in cc)

    -- ---- differences

    differ_stands : (left right : Expr) (first second : Value) (number : ℤ) → IsOf (Pointer target) first → IsOf (Pointer target) second → IsNear first → IsNear second →
        GivesBelow images frame world left (Pointer target) first → GivesBelow images frame world right (Pointer target) second →
        differ_by setting memory type first second ≡ Ok number → GivesAt frame world (Cast (OffsetFrom left right) (Integer I64)) (Integer I64) (Whole number)
    differ_stands left right first second number is other near far h k e =
        let apart = differs images memory world.held.blocks setting type standing.stands first second h.other k.other number agree.laid h.below k.below agree.points e in
        let behind : GivesAt frame world (OffsetFrom left right) (Integer Isize) (Whole number) =
        apart_gives frame world left right (Pointer target) (Pointer target) (Integer Isize) h.other k.other (Whole number) h.gives k.gives
        (ap (λ l. apart_by world.held.blocks l h.other k.other) agree.found ∙ apart) in
        cast_gives frame world (OffsetFrom left right) (Integer Isize) (Integer I64) (Whole number) (Whole number) behind
        (ap (λ n. Ok (typed (Integer I64) (Whole n))) (converted_same I64 number (move_fits_long number (apart_bound setting memory type target first second number is other near far e))))

  -- ---- comparisons

  ordered_stands : (op : Op2) (operator : Operator) (type : CTy) (target gives : Ty) (left right : Expr) (first second new : Value) → comparison_of op ≡ Some operator → is_comparison op ≡ true →
      Some (Integer I32) ≡ Some gives → GivesBelow images frame world left (Pointer target) first → GivesBelow images frame world right (Pointer target) second →
      number_of_pointers (two_pointers setting op memory type first second) ≡ Ok new → GivenStands images frame world gives (truth (Binary left operator right)) new
  ordered_stands op operator type target gives left right first second new is compares_them r h k e =
      let parts = and_then_ok (two_pointers setting op memory type first second) (λ number. Ok (Whole number)) new e in
      let test = told setting op memory type first second parts.0 compares_them parts.1 in
      let whole : Whole parts.0 ≡ new = cc (parts.2) in
      let there = compares images memory world.held.blocks setting type standing.stands op operator first second h.other k.other parts.0 h.below k.below is parts.1 in
      subst (GivenStands images frame world gives (truth (Binary left operator right))) whole
      (compared_stands images frame world operator (Pointer target) gives left right h.other k.other test.0 parts.0 h.gives k.gives
      (there ∙ ap (λ n. Ok (typed Boolean (Whole n))) (sym test.1 ∙ same_truth test.0)) (ap c_gives test.1) (let same : Integer I32 ≡ gives = cc (r) in same))

  equal_functions : (op : Op2) (operator : Operator) (type : CTy) (params : Tys) (result : OptionTy) (gives : Ty) (left right : Expr) (first second new : Value) →
      comparison_of op ≡ Some operator → is_comparison op ≡ true → Some (Integer I32) ≡ Some gives → IsNoObject first → IsNoObject second →
      GivesBelow images frame world left (Code params result) first → GivesBelow images frame world right (Code params result) second →
      number_of_pointers (two_pointers setting op memory type first second) ≡ Ok new → GivenStands images frame world gives (truth (Binary left operator right)) new
  equal_functions op operator type params result gives left right first second new is compares_them r none other h k e =
      let parts = and_then_ok (two_pointers setting op memory type first second) (λ number. Ok (Whole number)) new e in
      let test = told setting op memory type first second parts.0 compares_them parts.1 in
      let whole : Whole parts.0 ≡ new = cc (parts.2) in
      let there = compares_functions images memory world.held.blocks setting type standing.stands op operator first second h.other k.other parts.0 h.below k.below none other is parts.1 in
      subst (GivenStands images frame world gives (truth (Binary left operator right))) whole
      (compared_stands images frame world operator (Code params result) gives left right h.other k.other test.0 parts.0 h.gives k.gives
      (there ∙ ap (λ n. Ok (typed Boolean (Whole n))) (sym test.1 ∙ same_truth test.0)) (ap c_gives test.1) (let same : Integer I32 ≡ gives = cc (r) in same))

  subtracted_stands : (type : CTy) (target gives : Ty) (left right : Expr) (first second new : Value) → ElementsAgree setting frame type target → IsOf (Pointer target) first →
      IsOf (Pointer target) second → IsNear first → IsNear second → (if is_target target then Some (Integer I64) else None) ≡ Some gives →
      GivesBelow images frame world left (Pointer target) first → GivesBelow images frame world right (Pointer target) second →
      number_of_pointers (two_pointers setting op2.Subtract memory type first second) ≡ Ok new → GivesBelow images frame world (Cast (OffsetFrom left right) (Integer I64)) gives new
  subtracted_stands type target gives left right first second new agree is other near far r h k e =
      let parts = and_then_ok (two_pointers setting op2.Subtract memory type first second) (λ number. Ok (Whole number)) new e in
      let whole : Whole parts.0 ≡ new = cc (parts.2) in
      subst (λ t. GivesBelow images frame world (Cast (OffsetFrom left right) (Integer I64)) t new) (if_some (is_target target) (Integer I64) gives r).1
      (subst (GivesBelow images frame world (Cast (OffsetFrom left right) (Integer I64)) (Integer I64)) whole
      (number_stands images frame world (Cast (OffsetFrom left right) (Integer I64)) (Integer I64) parts.0
      (differ_stands type target agree left right first second parts.0 is other near far h k parts.1)))

  pointers_stand : (op : Op2) (type : CTy) (target gives : Ty) (left right : Operand) (first second new : Value) → Differing setting frame op type target → IsOf (Pointer target) first →
      IsOf (Pointer target) second → IsNear first → IsNear second → pointers_result op target ≡ Some gives →
      GivesBelow images frame world (value_of left) (Pointer target) first → GivesBelow images frame world (beside left right) (Pointer target) second →
      number_of_pointers (two_pointers setting op memory type first second) ≡ Ok new → GivenStands images frame world gives (pointers_form op left right) new
  pointers_stand op2.Subtract type target gives left right first second new agree is other near far r h k e =
      subtracted_stands type target gives (value_of left) (beside left right) first second new agree is other near far r h k e
  pointers_stand op2.Less type target gives left right first second new agree is other near far r h k e = ordered_stands op2.Less rust.Less type target gives (value_of left) (beside left right) first second new refl refl r h k e
  pointers_stand op2.Greater type target gives left right first second new agree is other near far r h k e = ordered_stands op2.Greater rust.Greater type target gives (value_of left) (beside left right) first second new refl refl r h k e
  pointers_stand op2.LessOrEqual type target gives left right first second new agree is other near far r h k e = ordered_stands op2.LessOrEqual rust.LessEqual type target gives (value_of left) (beside left right) first second new refl refl r h k e
  pointers_stand op2.GreaterOrEqual type target gives left right first second new agree is other near far r h k e = ordered_stands op2.GreaterOrEqual rust.GreaterEqual type target gives (value_of left) (beside left right) first second new refl refl r h k e
  pointers_stand op2.Equal type target gives left right first second new agree is other near far r h k e = ordered_stands op2.Equal rust.Equal type target gives (value_of left) (beside left right) first second new refl refl r h k e
  pointers_stand op2.NotEqual type target gives left right first second new agree is other near far r h k e = ordered_stands op2.NotEqual rust.NotEqual type target gives (value_of left) (beside left right) first second new refl refl r h k e
  pointers_stand op type target gives left right first second new agree is other near far r h k e = absurd (let clash : None ≡ Some gives = r in cc)

  functions_stand : (op : Op2) (type : CTy) (params : Tys) (result : OptionTy) (gives : Ty) (left right : Operand) (first second new : Value) → IsNoObject first → IsNoObject second →
      functions_result op ≡ Some gives → GivesBelow images frame world (value_of left) (Code params result) first → GivesBelow images frame world (beside left right) (Code params result) second →
      number_of_pointers (two_pointers setting op memory type first second) ≡ Ok new → GivenStands images frame world gives (pointers_form op left right) new
  functions_stand op2.Equal type params result gives left right first second new none other r h k e =
      equal_functions op2.Equal rust.Equal type params result gives (value_of left) (beside left right) first second new refl refl r none other h k e
  functions_stand op2.NotEqual type params result gives left right first second new none other r h k e =
      equal_functions op2.NotEqual rust.NotEqual type params result gives (value_of left) (beside left right) first second new refl refl r none other h k e
  functions_stand op type params result gives left right first second new none other r h k e = absurd (let clash : None ≡ Some gives = r in cc)

  -- ---- all

  beside_stands : (left right : Ty) (given : Given) (second : Value) → OperandStands images frame world (record { ty = right; given = given }) second → is_same_sort right left ≡ true →
      GivesBelow images frame world (as_type right left (value_of (record { ty = right; given = given }))) left second
  beside_stands left right given second h sort = as_type_stands images frame world memory standing right left given second second h sort refl

  of_other_target : (target other : Ty) (of_c : Value) → IsOf (Pointer other) of_c → IsOf (Pointer target) of_c
  of_other_target target other Null is = tt
  of_other_target target other (Object at) is = tt
  of_other_target target other (Whole number) is = absurd is
  of_other_target target other (Function number) is = absurd is

  numbers_by : (op : Op2) (type one other : CTy) (which count : IntegerTy) (gives : Ty) (left right : Given) (first second new : Value) →
      OperandStands images frame world (record { ty = Integer which; given = left }) first → OperandStands images frame world (record { ty = Integer count; given = right }) second →
      IsOf (Integer which) first → IsOf (Integer count) second → binary_result op (Integer which) (Integer count) ≡ Some gives → scalar_in_type setting type ≡ scalar_of gives →
      binary_of setting op type memory one other first second ≡ Ok new →
      GivenStands images frame world gives (binary_form op (record { ty = Integer which; given = left }) (record { ty = Integer count; given = right })) new
  numbers_by op type one other which count gives left right (Whole l) (Whole r) new h k is behind result s e =
      two_numbers_stand images frame world setting op type which count (record { ty = Integer which; given = left }) (record { ty = Integer count; given = right }) l r new gives
      (number_gives images frame world (record { ty = Integer which; given = left }) l h) (number_gives images frame world (record { ty = Integer count; given = right }) r k)
      (integer_gives images frame world U32 (record { ty = Integer count; given = right }) r k refl behind) result s e
  numbers_by op type one other which count gives left right (Whole l) Null new h k is behind result s e = absurd behind
  numbers_by op type one other which count gives left right (Whole l) (Object at) new h k is behind result s e = absurd behind
  numbers_by op type one other which count gives left right (Whole l) (Function number) new h k is behind result s e = absurd behind
  numbers_by op type one other which count gives left right Null second new h k is behind result s e = absurd is
  numbers_by op type one other which count gives left right (Object at) second new h k is behind result s e = absurd is
  numbers_by op type one other which count gives left right (Function number) second new h k is behind result s e = absurd is

  moves_by : (op : Op2) (type one other : CTy) (target gives count : Ty) (left right : Given) (first second new : Value) → is_bits count ≡ true → ElementsAgree setting frame one target →
      OperandStands images frame world (record { ty = Pointer target; given = left }) first → OperandStands images frame world (record { ty = count; given = right }) second →
      IsOf (Pointer target) first → IsOf count second → IsNear first → moved_result op target ≡ Some gives → binary_of setting op type memory one other first second ≡ Ok new →
      GivenStands images frame world gives (moved_form op (record { ty = Pointer target; given = left }) (record { ty = count; given = right })) new
  moves_by op type one other target gives count left right first (Whole n) new bits agree h k is behind near result e =
      moved_stands one target agree op (record { ty = Pointer target; given = left }) (record { ty = count; given = right }) first new n gives near
      (value_gives images frame world (record { ty = Pointer target; given = left }) first h)
      (integer_gives images frame world Isize (record { ty = count; given = right }) n k (bits_cast count Isize bits) behind) result
      (sym (pointer_first setting op type one other memory first n (object_address target first is)) ∙ e)
  moves_by op type one other target gives count left right first Null new bits agree h k is behind near result e = absurd (bits_number count Null bits behind tt)
  moves_by op type one other target gives count left right first (Object at) new bits agree h k is behind near result e = absurd (bits_number count (Object at) bits behind tt)
  moves_by op type one other target gives count left right first (Function n) new bits agree h k is behind near result e = absurd (bits_number count (Function n) bits behind tt)

  adds_by : (op : Op2) (type one other : CTy) (target gives count : Ty) (left right : Given) (first second new : Value) → is_bits count ≡ true → ElementsAgree setting frame other target →
      OperandStands images frame world (record { ty = count; given = left }) first → OperandStands images frame world (record { ty = Pointer target; given = right }) second →
      IsOf count first → IsOf (Pointer target) second → IsNear second → added_result op target ≡ Some gives → binary_of setting op type memory one other first second ≡ Ok new →
      GivenStands images frame world gives (moved_form op (record { ty = Pointer target; given = right }) (record { ty = count; given = left })) new
  adds_by op type one other target gives count left right (Whole n) second new bits agree h k is behind far result e =
      added_by other target agree op (record { ty = Pointer target; given = right }) (record { ty = count; given = left }) second new n gives far
      (value_gives images frame world (record { ty = Pointer target; given = right }) second k)
      (integer_gives images frame world Isize (record { ty = count; given = left }) n h (bits_cast count Isize bits) is) result
      (sym (pointer_second setting op type one other memory second n (object_address target second behind)) ∙ e)
  adds_by op type one other target gives count left right Null second new bits agree h k is behind far result e = absurd (bits_number count Null bits is tt)
  adds_by op type one other target gives count left right (Object at) second new bits agree h k is behind far result e = absurd (bits_number count (Object at) bits is tt)
  adds_by op type one other target gives count left right (Function n) second new bits agree h k is behind far result e = absurd (bits_number count (Function n) bits is tt)

  binary_by : (op : Op2) (type one other : CTy) (lt rt gives : Ty) (left right : Given) (first second new : Value) → OperandStands images frame world (record { ty = lt; given = left }) first →
      OperandStands images frame world (record { ty = rt; given = right }) second → IsOf lt first → IsOf rt second → IsNear first → IsNear second → binary_result op lt rt ≡ Some gives →
      scalar_in_type setting type ≡ scalar_of gives → Elements setting frame op lt rt one other → binary_of setting op type memory one other first second ≡ Ok new →
      GivenStands images frame world gives (binary_form op (record { ty = lt; given = left }) (record { ty = rt; given = right })) new
  binary_by op type one other (Integer which) (Integer count) gives left right first second new h k is behind near far result s agree e =
      numbers_by op type one other which count gives left right first second new h k is behind result s e
  binary_by op type one other (Pointer target) (Integer which) gives left right first second new h k is behind near far result s agree e =
      moves_by op type one other target gives (Integer which) left right first second new refl agree h k is behind near result e
  binary_by op type one other (Integer which) (Pointer target) gives left right first second new h k is behind near far result s agree e =
      adds_by op type one other target gives (Integer which) left right first second new refl agree h k is behind far result e
  binary_by op type one other (Pointer target) Boolean gives left right first second new h k is behind near far result s agree e =
      moves_by op type one other target gives Boolean left right first second new refl agree h k is behind near result e
  binary_by op type one other Boolean (Pointer target) gives left right first second new h k is behind near far result s agree e =
      adds_by op type one other target gives Boolean left right first second new refl agree h k is behind far result e
  binary_by op type one other (Pointer target) (Pointer last) gives left right first second new h k is behind near far result s agree e =
      pointers_stand op one target gives (record { ty = Pointer target; given = left }) (record { ty = Pointer last; given = right }) first second new agree is
      (of_other_target target last second behind) near far result (value_gives images frame world (record { ty = Pointer target; given = left }) first h)
      (beside_stands (Pointer target) (Pointer last) right second k refl)
      (sym (pointers_both setting op type one other memory first second (object_address target first is) (object_address last second behind)) ∙ e)
  binary_by op type one other (Code params outcome) (Code others gives_back) gives left right first second new h k is behind near far result s agree e =
      let front = function_address params outcome first is in
      let back = function_address others gives_back second behind in
      functions_stand op one params outcome gives (record { ty = Code params outcome; given = left }) (record { ty = Code others gives_back; given = right }) first second new front.1 back.1 result
      (value_gives images frame world (record { ty = Code params outcome; given = left }) first h)
      (beside_stands (Code params outcome) (Code others gives_back) right second k refl)
      (sym (pointers_both setting op type one other memory first second front.0 back.0) ∙ e)
  binary_by op type one other lt rt gives left right first second new h k is behind near far result s agree e = absurd (let clash : None ≡ Some gives = result in cc)

  pub binary_stands : (op : Op2) (type one other : CTy) (left right : Operand) (gives : Ty) (first second new : Value) → OperandStands images frame world left first →
      OperandStands images frame world right second → IsOf left.ty first → IsOf right.ty second → IsNear first → IsNear second → binary_result op left.ty right.ty ≡ Some gives →
      scalar_in_type setting type ≡ scalar_of gives → Elements setting frame op left.ty right.ty one other →
      binary_value setting op type memory (record { type = one; value = first }) (record { type = other; value = second }) ≡ Ok new →
      GivenStands images frame world gives (binary_form op left right) new
  binary_stands op type one other left right gives first second new h k is behind near far result s agree e =
      binary_by op type one other left.ty right.ty gives left.given right.given first second new h k is behind near far result s agree e
