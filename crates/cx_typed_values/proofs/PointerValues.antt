-- Pointers as operands.
use Rattle.std.proofs.Common.{arith, ◌≡◌, ℕ, ◌≤◌, ◌<◌, ◌+◌, ◌/◌, zero, suc, nat_le, nat_eq, Bool, true, false, if◌then◌else◌, ℤ, pos, negsuc, neg_ℤ, ◌+ℤ◌, ◌-ℤ◌, ◌*ℤ◌, ◌≤ℤ◌, ◌<ℤ◌, int_div, int_rem, Option, Some, None, IsSome, Result, Ok, Err, refl, sym, ap, subst, ◌∙◌}
use Rattle.std.proofs.lemmas.Bool.Decides.{nat_tests}
use Rattle.std.proofs.lemmas.Int.{ints}
use Rattle.std.proofs.Math.Nat.{div-le_self}
use Rattle.std.specs.Ordering.{int_eq}
use Rattle.cr_base.specs.declared.layout.Laid.{Laid}
use Rattle.cr_base.specs.declared.rule.URule.{URule}
use Rattle.cr_base.specs.declared.scalar.Scalar.TheVariants.{Whole, Object, Code}
use Rattle.cr_base.specs.Scalar.{IsInRange}
use Rattle.cx_core.specs.Compatible.{AreCompatible}
use Rattle.cx_core.specs.Conversions.{scalar_of_pointer}
use Rattle.cx_core.specs.Trees.{CTy, ty, CTyForm, void, basic, enum_type, pointer, array, record_type, function, unqualified, CTypes}
use Rattle.cx_mean.specs.Operands.{by_pointers, needed}
use Rattle.cx_numbers.specs.Numbers.{CWhy, breaks, stuck}
use Rattle.mem_bytes.specs.Access.{and_then}
use Rattle.mem_bytes.specs.Coding.{IsValueOf}
use Rattle.mem_bytes.specs.declared.pointer.PointerFault.{PointerFault}
use Rattle.mem_bytes.specs.declared.pointer.PointerFault.TheVariants.{LeavesObject, NotWithinOne, ToDead}
use Rattle.mem_bytes.specs.declared.value.Ptr.{Ptr}
use Rattle.mem_bytes.specs.declared.value.Value.{Value}
use Rattle.mem_bytes.specs.declared.value.Value.TheVariants.{Whole as Number, Null, Object as Pointer, Code as Function}
use Rattle.mem_bytes.specs.Memory.{Block, Blocks, live_block, size_of}
use Rattle.mem_bytes.specs.Pointers.{live_size, object_size, place_inside, place_moved, moved, distance_in, distance, in_elements, difference, same_places, is_same_place, equality, usable, are_equal}
use Rattle.cx_typed_values.specs.Outcomes.{Comes}
use Rattle.cx_typed_values.specs.Values.{IsNear, AreObjects, most_bytes}

-- ---- kinds

-- pointers to compatible types are both to objects, or both to functions
pub same_pointers : (types : CTypes) (left right : CTy) → AreCompatible types (unqualified left) (unqualified right) → scalar_of_pointer left ≡ scalar_of_pointer right
same_pointers types (ty void l_const) (ty void r_const) are = refl
same_pointers types (ty void l_const) (ty (basic r) r_const) are = refl
same_pointers types (ty void l_const) (ty (enum_type r) r_const) are = refl
same_pointers types (ty void l_const) (ty (pointer r) r_const) are = refl
same_pointers types (ty void l_const) (ty (array r r_length) r_const) are = refl
same_pointers types (ty void l_const) (ty (record_type r) r_const) are = refl
same_pointers types (ty void l_const) (ty (function r r_params r_more) r_const) are = cc (are.meet)
same_pointers types (ty (basic l) l_const) (ty void r_const) are = refl
same_pointers types (ty (basic l) l_const) (ty (basic r) r_const) are = refl
same_pointers types (ty (basic l) l_const) (ty (enum_type r) r_const) are = refl
same_pointers types (ty (basic l) l_const) (ty (pointer r) r_const) are = refl
same_pointers types (ty (basic l) l_const) (ty (array r r_length) r_const) are = refl
same_pointers types (ty (basic l) l_const) (ty (record_type r) r_const) are = refl
same_pointers types (ty (basic l) l_const) (ty (function r r_params r_more) r_const) are = cc (are.meet)
same_pointers types (ty (enum_type l) l_const) (ty void r_const) are = refl
same_pointers types (ty (enum_type l) l_const) (ty (basic r) r_const) are = refl
same_pointers types (ty (enum_type l) l_const) (ty (enum_type r) r_const) are = refl
same_pointers types (ty (enum_type l) l_const) (ty (pointer r) r_const) are = refl
same_pointers types (ty (enum_type l) l_const) (ty (array r r_length) r_const) are = refl
same_pointers types (ty (enum_type l) l_const) (ty (record_type r) r_const) are = refl
same_pointers types (ty (enum_type l) l_const) (ty (function r r_params r_more) r_const) are = cc (are.meet)
same_pointers types (ty (pointer l) l_const) (ty void r_const) are = refl
same_pointers types (ty (pointer l) l_const) (ty (basic r) r_const) are = refl
same_pointers types (ty (pointer l) l_const) (ty (enum_type r) r_const) are = refl
same_pointers types (ty (pointer l) l_const) (ty (pointer r) r_const) are = refl
same_pointers types (ty (pointer l) l_const) (ty (array r r_length) r_const) are = refl
same_pointers types (ty (pointer l) l_const) (ty (record_type r) r_const) are = refl
same_pointers types (ty (pointer l) l_const) (ty (function r r_params r_more) r_const) are = cc (are.meet)
same_pointers types (ty (array l l_length) l_const) (ty void r_const) are = refl
same_pointers types (ty (array l l_length) l_const) (ty (basic r) r_const) are = refl
same_pointers types (ty (array l l_length) l_const) (ty (enum_type r) r_const) are = refl
same_pointers types (ty (array l l_length) l_const) (ty (pointer r) r_const) are = refl
same_pointers types (ty (array l l_length) l_const) (ty (array r r_length) r_const) are = refl
same_pointers types (ty (array l l_length) l_const) (ty (record_type r) r_const) are = refl
same_pointers types (ty (array l l_length) l_const) (ty (function r r_params r_more) r_const) are = cc (are.meet)
same_pointers types (ty (record_type l) l_const) (ty void r_const) are = refl
same_pointers types (ty (record_type l) l_const) (ty (basic r) r_const) are = refl
same_pointers types (ty (record_type l) l_const) (ty (enum_type r) r_const) are = refl
same_pointers types (ty (record_type l) l_const) (ty (pointer r) r_const) are = refl
same_pointers types (ty (record_type l) l_const) (ty (array r r_length) r_const) are = refl
same_pointers types (ty (record_type l) l_const) (ty (record_type r) r_const) are = refl
same_pointers types (ty (record_type l) l_const) (ty (function r r_params r_more) r_const) are = cc (are.meet)
same_pointers types (ty (function l l_params l_more) l_const) (ty void r_const) are = cc (are.meet)
same_pointers types (ty (function l l_params l_more) l_const) (ty (basic r) r_const) are = cc (are.meet)
same_pointers types (ty (function l l_params l_more) l_const) (ty (enum_type r) r_const) are = cc (are.meet)
same_pointers types (ty (function l l_params l_more) l_const) (ty (pointer r) r_const) are = cc (are.meet)
same_pointers types (ty (function l l_params l_more) l_const) (ty (array r r_length) r_const) are = cc (are.meet)
same_pointers types (ty (function l l_params l_more) l_const) (ty (record_type r) r_const) are = cc (are.meet)
same_pointers types (ty (function l l_params l_more) l_const) (ty (function r r_params r_more) r_const) are = refl

-- a value of a pointer to an object
pub record IsObjectPointer (value : Value) : Type 0 where
  pub of_kind : IsValueOf Object value
  pub near : IsNear value

-- ---- moving

inside_comes : (block size : ℕ) (offset : ℤ) (rule : URule) → size ≤ most_bytes
    → Comes IsObjectPointer (by_pointers rule (and_then (place_inside block size offset) (λ new. Ok (Pointer new))))
inside_comes block size (pos offset) rule most = by_test (nat_le offset size) refl where
  by_test : (test : Bool) → nat_le offset size ≡ test
      → Comes IsObjectPointer (by_pointers rule (and_then (if test then Ok (record { block = block; offset = offset }) else Err LeavesObject) (λ new. Ok (Pointer new))))
  by_test true is = record { of_kind = tt; near = grind (arith, nat_tests) }
  by_test false is = tt
inside_comes block size (negsuc n) rule most = tt

moved_in : (found : Option Block) (at : Ptr) (bytes : ℤ) (rule : URule) → ((block : Block) → found ≡ Some block → size_of block ≤ most_bytes)
    → Comes IsObjectPointer (by_pointers rule (and_then (and_then (live_size found) (λ size. place_inside at.block size (pos at.offset +ℤ bytes))) (λ new. Ok (Pointer new))))
moved_in None at bytes rule sizes = tt
moved_in (Some block) at bytes rule sizes = inside_comes at.block (size_of block) (pos at.offset +ℤ bytes) rule (sizes block refl)

pub moved_comes : (blocks : Blocks) (value : Value) (bytes : ℤ) (rule : URule) → AreObjects blocks → IsValueOf Object value → Comes IsObjectPointer (by_pointers rule (moved blocks value bytes))
moved_comes blocks Null bytes rule are of_kind = tt
moved_comes blocks (Pointer at) bytes rule are of_kind = moved_in (live_block blocks at.block) at bytes rule (are.sizes at.block)
moved_comes blocks (Number number) bytes rule are of_kind = absurd of_kind
moved_comes blocks (Function number) bytes rule are of_kind = absurd of_kind

-- ---- differences and orders

-- a number of bytes within an object
pub record IsDistance (bytes : ℤ) : Type 0 where
  pub least : neg_ℤ (pos most_bytes) ≤ℤ bytes
  pub most : bytes ≤ℤ pos most_bytes

distance_by : (first second : Ptr) (test : Bool) (rule : URule) → first.offset ≤ most_bytes → second.offset ≤ most_bytes
    → Comes IsDistance (by_pointers rule (if test then Ok (pos first.offset -ℤ pos second.offset) else Err NotWithinOne))
distance_by first second true rule one other = record { least = omega (arith, ints, one, other); most = omega (arith, ints, one, other) }
distance_by first second false rule one other = tt

two_live : (one other : Option Block) (first second : Ptr) (rule : URule) → first.offset ≤ most_bytes → second.offset ≤ most_bytes
    → Comes IsDistance (by_pointers rule (and_then (live_size one) (λ _. and_then (live_size other) (λ _. distance_in first second))))
two_live None other first second rule near far = tt
two_live (Some block) None first second rule near far = tt
two_live (Some block) (Some another) first second rule near far = distance_by first second (nat_eq first.block second.block) rule near far

one_live : (one : Option Block) (rule : URule) → Comes IsDistance (by_pointers rule (and_then (live_size one) (λ _. Err NotWithinOne)))
one_live None rule = tt
one_live (Some block) rule = tt

pub distance_comes : (blocks : Blocks) (first second : Value) (rule : URule) → IsObjectPointer first → IsObjectPointer second → Comes IsDistance (by_pointers rule (distance blocks first second))
distance_comes blocks (Pointer first) (Pointer second) rule one other = two_live (live_block blocks first.block) (live_block blocks second.block) first second rule one.near other.near
distance_comes blocks (Pointer first) Null rule one other = one_live (live_block blocks first.block) rule
distance_comes blocks Null (Pointer second) rule one other = one_live (live_block blocks second.block) rule
distance_comes blocks Null Null rule one other = tt
distance_comes blocks (Number number) second rule one other = absurd one.of_kind
distance_comes blocks (Function number) second rule one other = absurd one.of_kind
distance_comes blocks Null (Number number) rule one other = absurd other.of_kind
distance_comes blocks Null (Function number) rule one other = absurd other.of_kind
distance_comes blocks (Pointer at) (Number number) rule one other = absurd other.of_kind
distance_comes blocks (Pointer at) (Function number) rule one other = absurd other.of_kind

div_of_pos : (n : ℕ) (d : ℕ) → int_div (pos n) (pos d) ≡ pos (n / d)
div_of_pos n d = refl

div_of_negsuc : (n : ℕ) (d : ℕ) → int_div (negsuc n) (pos d) ≡ neg_ℤ (pos (suc n / d))
div_of_negsuc n d = refl

divided_near : (bytes : ℤ) (size : ℕ) → IsDistance bytes → IsDistance (int_div bytes (pos size))
divided_near (pos n) size is =
    let less : n / size ≤ n = div-le_self n size in
    record { least = omega (arith, ints, is.least, is.most, div_of_pos n size); most = omega (arith, ints, is.least, is.most, div_of_pos n size) }
divided_near (negsuc n) size is =
    let less : suc n / size ≤ suc n = div-le_self (suc n) size in
    record { least = omega (arith, ints, is.least, is.most, div_of_negsuc n size); most = omega (arith, ints, is.least, is.most, div_of_negsuc n size) }

elements_by : (bytes : ℤ) (size : ℕ) (test : Bool) (rule : URule) → IsDistance bytes → Comes IsDistance (by_pointers rule (if test then Ok (int_div bytes (pos size)) else Err NotWithinOne))
elements_by bytes size true rule is = divided_near bytes size is
elements_by bytes size false rule is = tt

difference_by : (found : Result ℤ PointerFault) (size : ℕ) (rule : URule) → Comes IsDistance (by_pointers rule found) → Comes IsDistance (by_pointers rule (and_then found (in_elements size)))
difference_by (Ok bytes) size rule comes = elements_by bytes size (int_eq (int_rem bytes (pos size)) (pos 0)) rule comes
difference_by (Err fault) size rule comes = comes

pub difference_comes : (blocks : Blocks) (size : ℕ) (first second : Value) (rule : URule) → IsObjectPointer first → IsObjectPointer second → Comes IsDistance (by_pointers rule (difference blocks size first second))
difference_comes blocks size first second rule one other = difference_by (distance blocks first second) size rule (distance_comes blocks first second rule one other)

-- ---- equality

-- a value that is no number
abbrev pub IsPointing : Value → Type 0
IsPointing (Number number) = ⊥
IsPointing Null = Unit {0}
IsPointing (Pointer at) = Unit {0}
IsPointing (Function number) = Unit {0}

same_by : (test : Bool) (holds : Bool) (rule : URule) → Comes (λ (_ : Bool). Unit {0}) (by_pointers rule (if test then Err NotWithinOne else Ok holds))
same_by true holds rule = tt
same_by false holds rule = tt

places_come : (one other : Option Block) (first second : Ptr) (rule : URule)
    → Comes (λ (_ : Bool). Unit {0}) (by_pointers rule (and_then (live_size one) (λ size. and_then (live_size other) (λ another. same_places first size second another))))
places_come None other first second rule = tt
places_come (Some block) None first second rule = tt
places_come (Some block) (Some another) first second rule = same_by _ (is_same_place first second) rule

usable_comes : (found : Option Block) (at : Ptr) (other : Value) (holds : Value → Bool) (rule : URule)
    → Comes (λ (_ : Bool). Unit {0}) (by_pointers rule (and_then (and_then (live_size found) (λ _. Ok (Pointer at))) (λ one. Ok (holds one))))
usable_comes None at other holds rule = tt
usable_comes (Some block) at other holds rule = tt

then_usable : (found : Option Block) (at : Ptr) (holds : Value → Value → Bool) (other : Value) (rule : URule)
    → Comes (λ (_ : Bool). Unit {0}) (by_pointers rule (and_then (and_then (live_size found) (λ _. Ok (Pointer at))) (λ one. and_then (Ok other) (λ two. Ok (holds one two)))))
then_usable None at holds other rule = tt
then_usable (Some block) at holds other rule = tt

pub equality_comes : (blocks : Blocks) (first second : Value) (rule : URule) → IsPointing first → IsPointing second → Comes (λ (_ : Bool). Unit {0}) (by_pointers rule (equality blocks first second))
equality_comes blocks (Pointer first) (Pointer second) rule one other = places_come (live_block blocks first.block) (live_block blocks second.block) first second rule
equality_comes blocks (Pointer first) Null rule one other = then_usable (live_block blocks first.block) first are_equal Null rule
equality_comes blocks (Pointer first) (Function number) rule one other = then_usable (live_block blocks first.block) first are_equal (Function number) rule
equality_comes blocks Null (Pointer second) rule one other = usable_comes (live_block blocks second.block) second Null (are_equal Null) rule
equality_comes blocks (Function number) (Pointer second) rule one other = usable_comes (live_block blocks second.block) second Null (are_equal (Function number)) rule
equality_comes blocks Null Null rule one other = tt
equality_comes blocks Null (Function number) rule one other = tt
equality_comes blocks (Function number) Null rule one other = tt
equality_comes blocks (Function number) (Function other) rule one two = tt
equality_comes blocks (Number number) second rule one other = absurd one
equality_comes blocks Null (Number number) rule one other = absurd other
equality_comes blocks (Pointer at) (Number number) rule one other = absurd other
equality_comes blocks (Function at) (Number number) rule one other = absurd other
