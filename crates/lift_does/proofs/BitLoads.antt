-- Loads of bit-fields (ISO C99, 6.3.2.1p2 and 6.7.2.1p9).
use Rattle.std.proofs.Common.{◌≡◌, inr, ℕ, zero, suc, ◌≤◌, ◌==◌, nat_le, nat_lt, ℤ, pos, negsuc, Bool, true, false, ◌&&◌, ◌||◌, not, if◌then◌else◌, List, [], ◌∷◌, Option, Some, None, slice_get, is_some, Result, Ok, Err, refl, sym, ap, subst, ◌∙◌, arith, rules}
use Rattle.std.specs.List.{list_any}
use Rattle.std.specs.Option.{option_flatten}
use Rattle.std.proofs.lemmas.Bool.{and_parts}
use Rattle.std.proofs.lemmas.Bool.Decides.{nat_tests}
use Rattle.std.proofs.lemmas.Int.{ints}
use Rattle.cr_base.specs.Scalar.{IsInRange, converted}
use Rattle.cr_base.specs.declared.layout.Spot.{Spot}
use Rattle.cr_base.specs.declared.refusal.Place.{Place}
use Rattle.cr_base.specs.declared.rule.URule.TheVariants.{U1}
use Rattle.cr_base.specs.declared.scalar.Scalar.{Scalar}
use Rattle.cr_base.specs.declared.scalar.Scalar.TheVariants as scalars
use Rattle.cr_world.specs.World.{World, blocks_of}
use Rattle.cx_core.specs.BitFields.{has_bit_field, has_bit_fields, is_bit_field as is_field_member}
use Rattle.cx_core.specs.Conversions.{scalar_of as c_scalar_of}
use Rattle.cx_core.specs.Trees.{CTy, ty, CTyForm, void, basic, enum_type, pointer, array, record_type, function, form_of_type, CExpr, expr, load, member, type_of, unqualified, CTypes, CMember, CRecord, CProgram}
use Rattle.cx_core.specs.Typing.{IsTyped, IsLvalue}
use Rattle.cx_core.specs.ValidTypes.{AreTypes, IsMemberOf}
use Rattle.cx_mean.specs.Accesses.{is_field_place, field_value, CLoaded, loaded, loaded_bits}
use Rattle.cx_mean.specs.Marks.{Marks, Range, any_overlap, no_marks, with_read, bits_of_field}
use Rattle.cx_mean.specs.Nodes.{CDone, done}
use Rattle.cx_mean.specs.Operands.{CWhy, stuck, breaks, sequenced_after, accessed, needed, CValue, scalar}
use Rattle.cx_mean.specs.Settings.{scalar_in_type}
use Rattle.cx_mean.specs.Values.{to_scalar}
use Rattle.cx_typed_values.specs.Values.{most_bytes}
use Rattle.cx_typed_values.specs.Outcomes.{Comes}
use Rattle.cx_typed_work.proofs.Accesses.{IsLoadedOf}
use Rattle.cx_typed_work.proofs.Bits.{bits_loaded}
use Rattle.cx_typed_work.proofs.Given.{place_given}
use Rattle.cx_typed_work.proofs.Lvalues.{field_of_place}
use Rattle.cx_typed_work.proofs.Spots.{FitsBits, spot_fits}
use Rattle.cx_typed_work.specs.Operands.{IsFieldPlace as IsFieldPlaceOf, IsPlaceOf}
use Rattle.lift_calls.specs.Programs.{setting_in}
use Rattle.lift_does.proofs.Around.{Around, scope, At}
use Rattle.lift_does.proofs.BitPlaces.{bits_there, width_test}
use Rattle.lift_does.proofs.Lasting.{all_front, all_back}
use Rattle.lift_does.proofs.Lvalues.{some_width}
use Rattle.lift_does.proofs.Nodes.{and_then_is, pure_one}
use Rattle.lift_does.proofs.Operands.{node_one, where_used, standing, stands_based}
use Rattle.lift_does.proofs.Unary.{form_fixed, ExprOwes, FormOwes}
use Rattle.lift_does.specs.Does.{is_fixed}
use Rattle.lift_does.specs.Gives.{GivesBase, GivesScalar, GivesOperand}
use Rattle.lift_does.specs.Later.{AllOf, IsSameAt}
use Rattle.lift_exprs.specs.Lifted.{lifted, load_given}
use Rattle.lift_exprs.specs.Names.{type_in}
use Rattle.lift_exprs.specs.Stores.{field_form}
use Rattle.lift_exprs.specs.Written.{address_of_given}
use Rattle.lift_forms.specs.BitFields.{bit_read, read_type}
use Rattle.lift_forms.specs.Given.{Given}
use Rattle.lift_forms.specs.Given as given_form
use Rattle.lift_forms.specs.LawsTyping.{IsBitField}
use Rattle.lift_forms_laws.proofs.BothMemories.{loads}
use Rattle.lift_forms_laws.proofs.Conversions.{converted_by}
use Rattle.lift_forms_laws.proofs.Numbers.{converted_same}
use Rattle.lift_forms_laws.specs.Gives.{GivesAt, GivenStands, IsOf}
use Rattle.lift_forms_laws.specs.LawsBoth.{has_sign}
use Rattle.lift_held.specs.Held.{operand}
use Rattle.lift_held.specs.declared.asked.Asked.{Asked}
use Rattle.lift_stands.specs.Stands.{Images, PlaceBelow, ValueBelow}
use Rattle.lift_stands_accesses.proofs.Results.{where_true, accessed_ok}
use Rattle.mem_bytes.proofs.Reached.{and_then_ok}
use Rattle.mem_bytes.specs.Bits.{bytes_touched, field_in}
use Rattle.mem_bytes.specs.Access.{and_then, part_of, block_field, live_read, part_at, field_at}
use Rattle.mem_bytes.specs.Calls.{IsFieldPlace}
use Rattle.mem_bytes.specs.Coding.{IsValueOf}
use Rattle.mem_bytes.specs.Laws.{behind}
use Rattle.mem_bytes.specs.Memory.{Block, Blocks, live_block}
use Rattle.mem_bytes.specs.declared.cell.Cell.{Cell}
use Rattle.mem_bytes.specs.declared.fault.Fault.{Fault}
use Rattle.mem_bytes.specs.declared.value.Ptr.{Ptr}
use Rattle.mem_bytes.specs.declared.value.Value.{Value}
use Rattle.mem_bytes.specs.declared.value.Value.TheVariants.{Whole}
use Rattle.lift_stands.proofs.Loads.{read_live}
use Rattle.rs_mean.specs.Scalars.{scalar_of, integer_scalar, is_signed_integer}
use Rattle.rs_mean.specs.Typing.{is_pointer}
use Rattle.rs_text.specs.declared.integer.IntegerTy.{IntegerTy}
use Rattle.rs_text.specs.declared.integer.IntegerTy.TheVariants.{I8, I16, I32, I64, U8, U16, U32, U64, Isize, Usize}
use Rattle.rs_text.specs.Tree.{Ty, Integer, Boolean, Void, Pointer, Array, Code, Record, Expr}

-- ---- a program with a bit-field

any_at : {A : Type 0} (test : A → Bool) (list : List A) (index : ℕ) (one : A) → slice_get list index ≡ Some one → test one ≡ true → list_any test list ≡ true
any_at test [] index one e is = cc (e)
any_at test (first ∷ others) zero one e is = let same : first ≡ one = cc (e) in rw (same, is) refl
any_at test (first ∷ others) (suc n) one e is = let rest = any_at test others n one e is in by (test first) rest
  where
    by : (b : Bool) → list_any test others ≡ true → (b || list_any test others) ≡ true
    by true more = refl
    by false more = more

abbrev members_in : Option CRecord → List CMember
members_in None = []
members_in (Some one) = one.members

has_width : (bits : Option ℕ) (spot : Spot) → (spot.width ≡ 0 → ⊥) → FitsBits bits spot → is_some bits ≡ true
has_width None spot some fits = absurd (some fits)
has_width (Some n) spot some fits = refl

member_has : (records : List (Option CRecord)) (number index : ℕ) (slot : Option (Option CRecord)) (one : CMember) → slice_get records number ≡ slot → slice_get (members_in (option_flatten slot)) index ≡ Some one → is_some one.bits ≡ true →
    list_any has_bit_field records ≡ true
member_has records number index None one e found is = cc (found)
member_has records number index (Some None) one e found is = cc (found)
member_has records number index (Some (Some held)) one e found is = any_at has_bit_field records number (Some held) e (any_at is_field_member held.members index one found is)

pub bit_fields_there : (types : CTypes) (holder : CTy) (spot : Spot) (type : CTy) → IsMemberOf types holder spot type → (spot.width ≡ 0 → ⊥) → has_bit_fields types ≡ true
bit_fields_there types (ty (record_type number) is_const) spot type is some =
    member_has types.records number is.index (slice_get types.records number) is.one refl is.member_is (has_width is.one.bits spot some (spot_fits types (record_type number) is.index is.one spot is.member_is is.spot_is))
bit_fields_there types (ty void is_const) spot type is some = let found = is.member_is in cc (found)
bit_fields_there types (ty (basic which) is_const) spot type is some = let found = is.member_is in cc (found)
bit_fields_there types (ty (enum_type number) is_const) spot type is some = let found = is.member_is in cc (found)
bit_fields_there types (ty (pointer to) is_const) spot type is some = let found = is.member_is in cc (found)
bit_fields_there types (ty (array element length) is_const) spot type is some = let found = is.member_is in cc (found)
bit_fields_there types (ty (function result params variadic) is_const) spot type is some = let found = is.member_is in cc (found)

-- ---- what a load found

abbrev loaded_ok : CLoaded → Result CLoaded CWhy
loaded_ok one = Ok one

same_loaded : (one other : CLoaded) → loaded_ok one ≡ loaded_ok other → one ≡ other
same_loaded one other e = cc (e)

abbrev range_ok : Range → Result Range CWhy
range_ok one = Ok one

sequenced_is : (marks : Marks) (range found : Range) → sequenced_after marks range ≡ Ok found → found ≡ range
sequenced_is marks range found e = by (any_overlap marks.still (range ∷ [])) e
  where
    by : (test : Bool) → (if test then Err (breaks U1) else Ok range) ≡ Ok found → found ≡ range
    by true same = cc (same)
    by false same = let is : range_ok range ≡ range_ok found = same in cc (is)

pub record LoadedBits (blocks : Blocks) (at : Ptr) (bit width : ℕ) (marks : Marks) (kind : Scalar) (one : CLoaded) : Type 0 where
  pub profile : is_field_place bit width ≡ true
  pub bits : ℕ
  pub found : field_at blocks at bit width ≡ Ok bits
  pub of_c : Value
  pub means : field_value kind width bits ≡ Ok of_c
  pub value_is : one.value ≡ scalar of_c
  pub marks_are : one.marks ≡ with_read (bits_of_field at bit width) marks

pub bits_loaded_is : (blocks : Blocks) (at : Ptr) (bit width : ℕ) (marks : Marks) (kind : Scalar) (one : CLoaded) → loaded_bits blocks at bit width marks kind ≡ Ok one → LoadedBits blocks at bit width marks kind one
bits_loaded_is blocks at bit width marks kind one e =
    let outer = where_true (is_field_place bit width) _ one e in
    let part = and_then_is (accessed (part_at blocks at (bytes_touched bit width))) _ one outer.1 in
    let range = and_then_is (sequenced_after marks (bits_of_field at bit width)) _ one part.2 in
    let bits = and_then_is (accessed (field_at blocks at bit width)) _ one range.2 in
    let value = and_then_is (field_value kind width bits.0) _ one bits.2 in
    let same = same_loaded (record { value = scalar value.0; marks = with_read range.0 marks }) one value.2 in
    record {
      profile = outer.0;
      bits = bits.0;
      found = accessed_ok (field_at blocks at bit width) bits.0 bits.1;
      of_c = value.0;
      means = value.1;
      value_is = ap (λ (l : CLoaded). l.value) (sym same);
      marks_are = ap (λ (l : CLoaded). l.marks) (sym same) ∙ ap (λ (r : Range). with_read r marks) (sequenced_is marks (bits_of_field at bit width) range.0 range.1);
    }

-- it is found again where its bits are the same
pub loads_again : (blocks : Blocks) (at : Ptr) (bit width bits : ℕ) (kind : Scalar) (of_c : Value) → is_field_place bit width ≡ true → field_at blocks at bit width ≡ Ok bits → field_value kind width bits ≡ Ok of_c →
    loaded_bits blocks at bit width no_marks kind ≡ Ok (record { value = scalar of_c; marks = with_read (bits_of_field at bit width) no_marks })
loads_again blocks at bit width bits kind of_c profile found means =
    let read = read_live (live_block blocks at.block) (λ block. block_field block at.offset bit width) bits found in
    let part = and_then_ok (part_of read.0 at.offset (bytes_touched bit width)) (field_in bit width) bits read.2 in
    let part_is : part_at blocks at (bytes_touched bit width) ≡ Ok part.0 = ap (λ (slot : Option Block). live_read slot (λ block. part_of block at.offset (bytes_touched bit width))) read.1 ∙ part.1 in
    ap (λ (test : Bool). if test then loads_from blocks at bit width kind else Err stuck) profile
    ∙ ap (λ (r : Result (List Cell) Fault). and_then (accessed r) (λ _. loads_behind blocks at bit width kind)) part_is
    ∙ ap (λ (r : Result ℕ Fault). and_then (accessed r) (λ n. and_then (field_value kind width n) (λ value. loaded_ok (record { value = scalar value; marks = with_read (bits_of_field at bit width) no_marks })))) found
    ∙ ap (λ (r : Result Value CWhy). and_then r (λ value. loaded_ok (record { value = scalar value; marks = with_read (bits_of_field at bit width) no_marks }))) means
  where
    loads_behind : (blocks : Blocks) (at : Ptr) (bit width : ℕ) (kind : Scalar) → Result CLoaded CWhy
    loads_behind blocks at bit width kind =
        and_then (accessed (field_at blocks at bit width)) (λ n. and_then (field_value kind width n) (λ value. loaded_ok (record { value = scalar value; marks = with_read (bits_of_field at bit width) no_marks })))

    loads_from : (blocks : Blocks) (at : Ptr) (bit width : ℕ) (kind : Scalar) → Result CLoaded CWhy
    loads_from blocks at bit width kind = and_then (accessed (part_at blocks at (bytes_touched bit width))) (λ _. loads_behind blocks at bit width kind)

-- ---- numbers

-- it is one of a type of the crate that is as signed
wide_range : (which : IntegerTy) (n : ℤ) → IsInRange (integer_scalar which) n → IsOf (Integer (read_type (is_signed_integer which))) (Whole n)
wide_range I8 n is = search (rules, ints, is.0, is.1)
wide_range I16 n is = search (rules, ints, is.0, is.1)
wide_range I32 n is = search (rules, ints, is.0, is.1)
wide_range I64 n is = is
wide_range U8 n is = search (rules, ints, is.0, is.1)
wide_range U16 n is = search (rules, ints, is.0, is.1)
wide_range U32 n is = search (rules, ints, is.0, is.1)
wide_range U64 n is = is
wide_range Isize n is = is
wide_range Usize n is = is

pub whole_range : (which : IntegerTy) (n : ℤ) → IsValueOf (integer_scalar which) (Whole n) → IsInRange (integer_scalar which) n
whole_range I8 n is = is
whole_range I16 n is = is
whole_range I32 n is = is
whole_range I64 n is = is
whole_range U8 n is = is
whole_range U16 n is = is
whole_range U32 n is = is
whole_range U64 n is = is
whole_range Isize n is = is
whole_range Usize n is = is

whole_to : (which : IntegerTy) (n : ℤ) (memory : Blocks) → to_scalar (integer_scalar which) memory (Whole n) ≡ Ok (Whole (converted (integer_scalar which) n))
whole_to I8 n memory = refl
whole_to I16 n memory = refl
whole_to I32 n memory = refl
whole_to I64 n memory = refl
whole_to U8 n memory = refl
whole_to U16 n memory = refl
whole_to U32 n memory = refl
whole_to U64 n memory = refl
whole_to Isize n memory = refl
whole_to Usize n memory = refl

-- it is converted to itself
pub whole_back : (which : IntegerTy) (n : ℤ) (memory : Blocks) → IsInRange (integer_scalar which) n → to_scalar (integer_scalar which) memory (Whole n) ≡ Ok (Whole n)
whole_back which n memory range = whole_to which n memory ∙ ap (λ (m : ℤ). Ok (Whole m)) (converted_same which n range)

sign_is : (which : IntegerTy) → is_signed_integer which ≡ has_sign (integer_scalar which)
sign_is I8 = refl
sign_is I16 = refl
sign_is I32 = refl
sign_is I64 = refl
sign_is U8 = refl
sign_is U16 = refl
sign_is U32 = refl
sign_is U64 = refl
sign_is Isize = refl
sign_is Usize = refl

truth_back : (n : ℤ) (memory : Blocks) → IsInRange scalars.Truth n → to_scalar scalars.Truth memory (Whole n) ≡ Ok (Whole n)
truth_back (pos zero) memory is = refl
truth_back (pos (suc zero)) memory is = refl
truth_back (pos (suc (suc k))) memory is = let high = is.1 in absurd (omega (arith, ints, high))
truth_back (negsuc k) memory is = let low = is.0 in absurd (omega (arith, ints, low))

pub kind_same : (found : Option Scalar) (one other : Scalar) → found ≡ Some one → found ≡ Some other → one ≡ other
kind_same found one other e f = let same : Some one ≡ Some other = sym e ∙ f in cc (same)

module _ (x : Around) where
  -- the number that bytes give is given as a value of the declared type
  pub read_stands : (images : Images) (c_world world : World) (base : Expr) (spot : Spot) (one : Ty) (kind : Scalar) (number : ℤ) → At x images c_world world → scalar_of one ≡ Some kind → IsValueOf kind (Whole number) →
      GivesAt x.frame world (bit_read base spot (has_sign kind)) (Integer (read_type (has_sign kind))) (Whole number) → GivenStands images x.frame world one (field_form base spot one) (Whole number)
  read_stands images c_world world base spot (Integer which) kind number at kind_is of_kind gives =
      let same : integer_scalar which ≡ kind = cc (kind_is) in
      let range : IsInRange (integer_scalar which) number = whole_range which number (subst (λ (k : Scalar). IsValueOf k (Whole number)) (sym same) of_kind) in
      let sign : has_sign kind ≡ is_signed_integer which = ap has_sign (sym same) ∙ sym (sign_is which) in
      let read = subst (λ (s : Bool). GivesAt x.frame world (bit_read base spot s) (Integer (read_type s)) (Whole number)) sign gives in
      converted_by images x.frame world (blocks_of c_world) (standing x images c_world world at) kind (record { ty = Integer (read_type (is_signed_integer which)); given = given_form.value (bit_read base spot (is_signed_integer which)) }) (Integer which)
      (Whole number) (Whole number) (record { other = Whole number; gives = read; below = ValueBelow.same_number number }) (wide_range which number range) refl kind_is
      (subst (λ (k : Scalar). to_scalar k (blocks_of c_world) (Whole number) ≡ Ok (Whole number)) same (whole_back which number (blocks_of c_world) range))
  read_stands images c_world world base spot Boolean kind number at kind_is of_kind gives =
      let same : scalars.Truth ≡ kind = cc (kind_is) in
      let range : IsInRange scalars.Truth number = subst (λ (k : Scalar). IsValueOf k (Whole number)) (sym same) of_kind in
      let read = subst (λ (s : Bool). GivesAt x.frame world (bit_read base spot s) (Integer (read_type s)) (Whole number)) (ap has_sign (sym same)) gives in
      converted_by images x.frame world (blocks_of c_world) (standing x images c_world world at) kind (record { ty = Integer U64; given = given_form.value (bit_read base spot false) }) Boolean
      (Whole number) (Whole number) (record { other = Whole number; gives = read; below = ValueBelow.same_number number }) (truth_wide number range) refl kind_is
      (subst (λ (k : Scalar). to_scalar k (blocks_of c_world) (Whole number) ≡ Ok (Whole number)) same (truth_back number (blocks_of c_world) range))
    where
      truth_wide : (n : ℤ) → IsInRange scalars.Truth n → IsOf (Integer U64) (Whole n)
      truth_wide n is = search (rules, ints, is.0, is.1)
  read_stands images c_world world base spot (Pointer target) kind number at kind_is of_kind gives = let same : scalars.Object ≡ kind = cc (kind_is) in absurd (subst (λ (k : Scalar). IsValueOf k (Whole number)) (sym same) of_kind)
  read_stands images c_world world base spot (Code params result) kind number at kind_is of_kind gives = let same : scalars.Code ≡ kind = cc (kind_is) in absurd (subst (λ (k : Scalar). IsValueOf k (Whole number)) (sym same) of_kind)
  read_stands images c_world world base spot Void kind number at kind_is of_kind gives = cc (kind_is)
  read_stands images c_world world base spot (Array element size) kind number at kind_is of_kind gives = cc (kind_is)
  read_stands images c_world world base spot (Record m y) kind number at kind_is of_kind gives = cc (kind_is)

  pub field_no_pointer : (one : Ty) (kind : Scalar) (width bits : ℕ) (of_c : Value) → scalar_of one ≡ Some kind → field_value kind width bits ≡ Ok of_c → is_pointer one ≡ false
  field_no_pointer (Pointer target) kind width bits of_c e means = let same : scalars.Object ≡ kind = cc (e) in let odd = subst (λ (k : Scalar). field_value k width bits ≡ Ok of_c) (sym same) means in cc (odd)
  field_no_pointer (Integer which) kind width bits of_c e means = refl
  field_no_pointer Boolean kind width bits of_c e means = refl
  field_no_pointer (Code params result) kind width bits of_c e means = refl
  field_no_pointer Void kind width bits of_c e means = refl
  field_no_pointer (Array element size) kind width bits of_c e means = refl
  field_no_pointer (Record m y) kind width bits of_c e means = refl

  pub profile_is : (spot : Spot) (images : Images) (at base : Ptr) → is_field_place spot.bit spot.width ≡ true → at.offset ≤ most_bytes → PlaceBelow images at (behind base spot.byte) → IsBitField spot
  profile_is spot images at base profile near below =
      let outer = and_parts (nat_lt spot.bit 8 && nat_le 1 spot.width) (nat_le spot.width 32) profile in
      let inner = and_parts (nat_lt spot.bit 8) (nat_le 1 spot.width) outer.0 in
      let offset = below.offset in
      record { bit = grind (arith, nat_tests, inner.0); some = grind (arith, nat_tests, inner.1); most = grind (arith, nat_tests, outer.1); near = omega (arith, offset, near) }

  -- where a program has a bit-field the crate holds bytes
  pub bytes_there : (images : Images) (c_world world : World) (holder type : CTy) (spot : Spot) → At x images c_world world → IsMemberOf x.home.program.types holder spot type → (spot.width ≡ 0 → ⊥) → images.in_bytes ≡ true
  bytes_there images c_world world holder type spot at is some = at.program.bytes ∙ subst (λ (program : CProgram). has_bit_fields program.types ≡ true) x.means.program (bit_fields_there x.home.program.types holder spot type is some)

  -- what C finds in a bit-field is read from bytes
  pub bits_read : (images : Images) (c_world world : World) (target one : Ty) (given : Given) (spot : Spot) (at : Ptr) (kind : Scalar) (bits : ℕ) (of_c : Value) → At x images c_world world → images.in_bytes ≡ true → scalar_of one ≡ Some kind →
      GivesBase images x.frame world target given spot at → is_field_place spot.bit spot.width ≡ true → at.offset ≤ most_bytes → field_at (blocks_of c_world) at spot.bit spot.width ≡ Ok bits → field_value kind spot.width bits ≡ Ok of_c → IsValueOf kind of_c →
      GivesScalar images x.frame world one (field_form (address_of_given given) spot one) of_c
  bits_read images c_world world target one given spot at kind bits of_c here in_bytes kind_is base profile near found means of_kind =
      let is = profile_is spot images at base.base profile near base.below in
      let read = loads images x.frame world at base.base spot no_marks kind in_bytes base.below is (blocks_of c_world) (record { value = scalar of_c; marks = with_read (bits_of_field at spot.bit spot.width) no_marks }) (address_of_given given)
      target here.worlds.held.memories base.gives (loads_again (blocks_of c_world) at spot.bit spot.width bits kind of_c profile found means) in
      let value_is : of_c ≡ Whole read.number = let same = read.is in cc (same) in
      let stands = read_stands images c_world world (address_of_given given) spot one kind read.number here kind_is (subst (IsValueOf kind) value_is of_kind) read.gives in
      subst (λ (v : Value). GivesScalar images x.frame world one (field_form (address_of_given given) spot one) v) (sym value_is)
      (record { stands = stands; based = stands_based x images world one (field_form (address_of_given given) spot one) (Whole read.number) (field_no_pointer one kind spot.width bits of_c kind_is means) stands })

  -- ---- the load

  pub unqualified_kind : (type : CTy) → c_scalar_of x.home.program.types (form_of_type (unqualified type)) ≡ c_scalar_of x.home.program.types (form_of_type type)
  unqualified_kind (ty form is_const) = refl

  pub setting_kind : (type : CTy) (kind : Scalar) → scalar_in_type (setting_in x.s) type ≡ Some kind → c_scalar_of x.home.program.types (form_of_type type) ≡ Some kind
  setting_kind type kind e = subst (λ (program : CProgram). c_scalar_of program.types (form_of_type type) ≡ Some kind) (sym x.means.program) e

  -- what a bit-field of an lvalue has is a value of its kind
  pub bits_of_kind : (node : CExpr) (blocks : Blocks) (at : Ptr) (bit width bits : ℕ) (kind : Scalar) (of_c : Value) → IsLvalue x.home node → AreTypes x.home.program.types → IsFieldPlaceOf node at bit width → c_scalar_of x.home.program.types (form_of_type (type_of node)) ≡ Some kind →
      field_at blocks at bit width ≡ Ok bits → field_value kind width bits ≡ Ok of_c → IsValueOf kind of_c
  bits_of_kind node blocks at bit width bits kind of_c lvalue are there kind_is found means =
      let field = field_of_place x.home node at bit width are lvalue there in
      let same : field.kind ≡ kind = kind_same (c_scalar_of x.home.program.types (form_of_type (type_of node))) field.kind kind field.kind_is kind_is in
      let loads_it = loads_again blocks at bit width bits field.kind of_c there.of_profile found (subst (λ (k : Scalar). field_value k width bits ≡ Ok of_c) (sym same) means) in
      let typed = subst (Comes (IsLoadedOf x.home.program (type_of node))) loads_it (bits_loaded x.home.program (type_of node) blocks at bit width no_marks field there.of_profile) in
      subst (λ (k : Scalar). IsValueOf k of_c) (kind_same (c_scalar_of x.home.program.types (form_of_type (type_of node))) typed.kind kind typed.kind_is kind_is) typed.of_kind

  load_bits_is : (type : CTy) (own : CTy) (at : Place) (of : CExpr) (spot : Spot) (given : Given) → not (spot.width == 0) ≡ true → load_given x.names type (expr own at (member of spot)) given ≡ field_form (address_of_given given) spot (type_in x.names type)
  load_bits_is type own at of spot given bits = rw (width_test spot.width bits) refl

  pub load_bits_owes : (asked : Asked) (form : CTyForm) (is_const : Bool) (at : Place) (own : CTy) (here_at : Place) (of : CExpr) (spot : Spot) (number : ℕ) (images : Images) (c_world world : World) → At x images c_world world →
      IsTyped x.home (expr (ty form is_const) at (load (expr own here_at (member of spot)))) → not (spot.width == 0) ≡ true → number ≤ (lifted x.names operand (expr own here_at (member of spot)) number).next →
      ExprOwes x operand (expr own here_at (member of spot)) number images c_world world → FormOwes x asked (ty form is_const) at (load (expr own here_at (member of spot))) number images c_world world
  load_bits_owes asked form is_const at own here_at of spot number images c_world world here typed bits rises owes =
      let type = ty form is_const in
      let from = expr own here_at (member of spot) in
      let written = lifted x.names operand from number in
      let e = expr type at (load from) in
      let given = load_given x.names type from written.given in
      pure_one x asked.used (form_fixed type (load from)) e given type at (load from) true (is_fixed operand from) from written number images c_world world here (inr typed.1.0) (λ fixed. cc (fixed)) rises owes (λ one c1 made knows_it done_is.
      let node = node_one (setting_in x.s) type (load from) (scope x) (blocks_of c1) one made done_is in
      let found = and_then_is (loaded (setting_in x.s) (scope x) (blocks_of c1) type one.value node.0) _ made node.2 in
      let same : done found.0.value found.0.marks (blocks_of c1) ≡ made = cc (found.2) in
      let is_place = place_given x.home from one.value typed.1.0 knows_it.0.operand_is.given in
      let there = bits_there own here_at of spot one.value bits is_place in
      let in_bits = subst (λ (v : CValue). loaded (setting_in x.s) (scope x) (blocks_of c1) type v node.0 ≡ Ok found.0) there.1 found.1 in
      let kind = and_then_is (needed (scalar_in_type (setting_in x.s) type)) _ found.0 in_bits in
      let kind_is : scalar_in_type (setting_in x.s) type ≡ Some kind.0 = needed_is (scalar_in_type (setting_in x.s) type) kind.0 kind.1 in
      let what = bits_loaded_is (blocks_of c1) there.0 spot.bit spot.width node.0 kind.0 found.0 kind.2 in
      let range = bits_of_field there.0 spot.bit spot.width in
      let all_marks : made.marks ≡ with_read range node.0 = ap (λ (d : CDone). d.marks) (sym same) ∙ what.marks_are in
      let field_place = subst (IsPlaceOf from) there.1 is_place in
      let from_kind = sym (unqualified_kind own) ∙ (ap (λ (t : CTy). c_scalar_of x.home.program.types (form_of_type t)) (sym typed.1.1.type_is) ∙ setting_kind type kind.0 kind_is) in
      let of_kind = bits_of_kind from (blocks_of c1) there.0 spot.bit spot.width what.bits kind.0 what.of_c typed.1.0 here.typed.scene.linked.types field_place from_kind what.found what.means in
      record {
        blocks_are = ap (λ (d : CDone). d.blocks) (sym same);
        reads = λ before after all. all_front (IsSameAt before after) one.marks.reads [] (subst (λ (m : Marks). AllOf (IsSameAt before after) m.reads) node.1
            (all_front (IsSameAt before after) node.0.reads (range ∷ []) (subst (λ (m : Marks). AllOf (IsSameAt before after) m.reads) all_marks all)));
        gives = λ last c_later later there_at lasts gave. where_used asked.used x last later e given made.value (λ _.
            let read = (all_back (IsSameAt (blocks_of c1) (blocks_of c_later)) node.0.reads (range ∷ []) (subst (λ (m : Marks). AllOf (IsSameAt (blocks_of c1) (blocks_of c_later)) m.reads) all_marks lasts.1.each)).0 in
            let found_later = read.fields there.0 spot.bit spot.width (field_profile spot.bit spot.width what.profile) refl ∙ what.found in
            let base = subst (λ (v : CValue). GivesOperand x.s x.names last x.c_frame x.frame later from written.given v) there.1 gave in
            let scalar_gave = bits_read last c_later later (type_in x.names (type_of of)) (type_in x.names type) written.given spot there.0 kind.0 what.bits what.of_c there_at
            (bytes_there last c_later later (type_of of) own spot there_at typed.1.0.2.1 (some_width spot.width bits)) (x.means.scalars type kind.0 kind_is) base what.profile field_place.near found_later what.means of_kind in
            subst (λ (v : CValue). GivesOperand x.s x.names last x.c_frame x.frame later e given v) (sym (ap (λ (d : CDone). d.value) (sym same) ∙ what.value_is))
            (subst (λ (g : Given). GivesScalar last x.frame later (type_in x.names type) g what.of_c) (sym (load_bits_is type own here_at of spot written.given bits)) scalar_gave));
      })
    where
      needed_is : (found : Option Scalar) (one : Scalar) → needed found ≡ Ok one → found ≡ Some one
      needed_is (Some other) one e = let same : other ≡ one = cc (e) in ap Some same
      needed_is None one e = cc (e)

      field_profile : (bit width : ℕ) → is_field_place bit width ≡ true → IsFieldPlace bit width
      field_profile bit width profile =
          let outer = and_parts (nat_lt bit 8 && nat_le 1 width) (nat_le width 32) profile in
          let inner = and_parts (nat_lt bit 8) (nat_le 1 width) outer.0 in
          record { bit_in_byte = grind (arith, nat_tests, inner.0); not_empty = grind (arith, nat_tests, inner.1); not_too_wide = grind (arith, nat_tests, outer.1) }
