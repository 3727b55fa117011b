-- A value of a type is a value of each compatible type (ISO C99, 6.2.7p1, 6.5.2.2p7, 6.8.6.4p3).
use Rattle.std.proofs.Common.{◌≡◌, ◌⊎◌, inl, inr, ℕ, ◌==◌, ◌&&◌, Bool, true, List, Option, None, Some, option_map, slice_get, length, IsSome, refl, sym, ap, ◌∙◌}
use Rattle.std.proofs.lemmas.Bool.{and_parts, or_cases, eqb-true}
use Rattle.std.specs.Bool.{beq}
use Rattle.cr_base.specs.declared.layout.Laid.{Laid}
use Rattle.cr_base.specs.declared.scalar.Scalar.{Scalar}
use Rattle.cx_core.proofs.Relation.{compatible_symmetric}
use Rattle.cx_core.specs.Compatible.{agree, forms_agree, of_two_units, meet_in_basic, in_pairs, AreCompatible}
use Rattle.cx_core.specs.Conversions.{basic_of, basic_of_enum, scalar_of, scalar_of_basic, scalar_of_pointer}
use Rattle.cx_core.specs.declared.ty.Basic.{Basic}
use Rattle.cx_core.specs.Trees.{CTy, ty, CTyForm, void, basic, enum_type, pointer, array, record_type, function, form_of_type, unqualified, CTypes, CProgram}
use Rattle.cx_core.specs.Typing.{IsResult}
use Rattle.cx_core.specs.ValidTypes.{AreTypes, IsComplete}
use Rattle.cx_mean.specs.Operands.{CValue, scalar, cells, names, designates, designates_bits, missing}
use Rattle.cx_mean.specs.Settings.{setting_of, extent_in}
use Rattle.mem_bytes.specs.declared.cell.Cell.{Cell}
use Rattle.mem_bytes.specs.declared.value.Value.{Value}
use Rattle.cx_typed_values.proofs.PointerValues.{same_pointers}
use Rattle.cx_typed_work.proofs.AlikeRecords.{alike_laid}
use Rattle.cx_typed_work.proofs.AlikeSizes.{meet_in}
use Rattle.cx_typed_work.proofs.Rows.{some_same}
use Rattle.cx_typed_work.specs.Operands.{IsRecordForm, IsRecordOf, IsScalarIn, IsValueOfType}

-- ---- compatible types

-- where a type is compatible with another, that one is with it
pub alike_back : (types : CTypes) (first second : CTy) → AreCompatible types first second → AreCompatible types second first
alike_back types first second by = compatible_symmetric types first second by

-- and so are their unqualified versions
pub alike_unqualified : (types : CTypes) (first second : CTy) → AreCompatible types first second → AreCompatible types (unqualified first) (unqualified second)
alike_unqualified types (ty a a_const) (ty b b_const) by =
    record { pairs = by.pairs; good = by.good; meet = (and_parts (beq a_const b_const) (forms_agree types (in_pairs by.pairs) a b) by.meet).1 }

-- ---- kinds

scalar_by : (types : CTypes) (form : CTyForm) (which : Basic) → basic_of types form ≡ Some which → scalar_of types form ≡ Some (scalar_of_basic which)
scalar_by types (basic one) which is = ap (λ (b : Basic). Some (scalar_of_basic b)) (some_same one which is)
scalar_by types (enum_type number) which is = by (slice_get types.enums number) is
  where
    by : (found : Option Bool) → option_map basic_of_enum found ≡ Some which → option_map (λ is_int. scalar_of_basic (basic_of_enum is_int)) found ≡ Some (scalar_of_basic which)
    by None is = absurd cc
    by (Some is_int) is = ap (λ (b : Basic). Some (scalar_of_basic b)) (some_same (basic_of_enum is_int) which is)
scalar_by types void which is = absurd cc
scalar_by types (pointer to) which is = absurd cc
scalar_by types (array element length) which is = absurd cc
scalar_by types (record_type number) which is = absurd cc
scalar_by types (function result params variadic) which is = absurd cc

integer_scalars : (types : CTypes) (a b : CTyForm) → meet_in_basic types a b ≡ true → scalar_of types a ≡ scalar_of types b
integer_scalars types a b meets =
    let met = meet_in types a b meets in
    scalar_by types a met.which met.first_is ∙ sym (scalar_by types b met.which met.second_is)

enum_scalars : (types : CTypes) (a b : ℕ) → ((a == b) ≡ true) ⊎ (of_two_units types.enum_units a b && meet_in_basic types (enum_type a) (enum_type b) ≡ true) → scalar_of types (enum_type a) ≡ scalar_of types (enum_type b)
enum_scalars types a b (inl same) = ap (λ n. scalar_of types (enum_type n)) (eqb-true a b same)
enum_scalars types a b (inr meets) = integer_scalars types (enum_type a) (enum_type b) (and_parts (of_two_units types.enum_units a b) (meet_in_basic types (enum_type a) (enum_type b)) meets).1

module _ (types : CTypes) (counts : ℕ → ℕ → Bool) (pointers : (a b : CTy) → agree types counts a b ≡ true → scalar_of_pointer a ≡ scalar_of_pointer b) where
  forms_scalars : (a b : CTyForm) → forms_agree types counts a b ≡ true → scalar_of types a ≡ scalar_of types b
  forms_scalars void void agrees = refl
  forms_scalars (basic a) (basic b) agrees = integer_scalars types (basic a) (basic b) agrees
  forms_scalars (basic a) (enum_type b) agrees = integer_scalars types (basic a) (enum_type b) agrees
  forms_scalars (enum_type a) (basic b) agrees = integer_scalars types (enum_type a) (basic b) agrees
  forms_scalars (enum_type a) (enum_type b) agrees =
      enum_scalars types a b (or_cases (a == b) (of_two_units types.enum_units a b && meet_in_basic types (enum_type a) (enum_type b)) agrees)
  forms_scalars (pointer a) (pointer b) agrees = ap (λ (kind : Scalar). Some kind) (pointers a b agrees)
  forms_scalars (array a a_length) (array b b_length) agrees = refl
  forms_scalars (record_type a) (record_type b) agrees = refl
  forms_scalars (function a a_params a_more) (function b b_params b_more) agrees = refl
  forms_scalars _ _ agrees = absurd cc

pub forms_meet : (types : CTypes) (counts : ℕ → ℕ → Bool) (first second : CTy) → agree types counts first second ≡ true → forms_agree types counts (form_of_type first) (form_of_type second) ≡ true
forms_meet types counts (ty a a_const) (ty b b_const) agrees = (and_parts (beq a_const b_const) (forms_agree types counts a b) agrees).1

-- compatible types are of one kind
pub alike_kind : (types : CTypes) (first second : CTy) → AreCompatible types first second → scalar_of types (form_of_type first) ≡ scalar_of types (form_of_type second)
alike_kind types first second by =
    forms_scalars types (in_pairs by.pairs)
    (λ a b agrees. same_pointers types a b (alike_unqualified types a b (record { pairs = by.pairs; good = by.good; meet = agrees })))
    (form_of_type first) (form_of_type second) (forms_meet types (in_pairs by.pairs) first second by.meet)

records_form : (types : CTypes) (counts : ℕ → ℕ → Bool) (a b : CTyForm) → forms_agree types counts a b ≡ true → IsRecordForm a → IsRecordForm b
records_form types counts (record_type a) (record_type b) agrees is = tt
records_form types counts (record_type a) void agrees is = absurd cc
records_form types counts (record_type a) (basic b) agrees is = absurd cc
records_form types counts (record_type a) (enum_type b) agrees is = absurd cc
records_form types counts (record_type a) (pointer b) agrees is = absurd cc
records_form types counts (record_type a) (array b length) agrees is = absurd cc
records_form types counts (record_type a) (function b params variadic) agrees is = absurd cc
records_form types counts void b agrees is = absurd is
records_form types counts (basic a) b agrees is = absurd is
records_form types counts (enum_type a) b agrees is = absurd is
records_form types counts (pointer a) b agrees is = absurd is
records_form types counts (array a length) b agrees is = absurd is
records_form types counts (function a params variadic) b agrees is = absurd is

-- ---- values

some_laid : (found : Option Laid) → IsSome found → (laid : Laid) × (found ≡ Some laid)
some_laid None some = absurd cc
some_laid (Some laid) some = (laid, refl)

alike_scalar : (program : CProgram) (first second : CTy) (value : Value) → AreCompatible program.types first second → IsScalarIn program first value → IsScalarIn program second value
alike_scalar program first second value by is =
    record { kind = is.kind; kind_is = sym (alike_kind program.types first second by) ∙ is.kind_is; of_kind = is.of_kind; leads = is.leads }

alike_form : (types : CTypes) (first second : CTy) → AreCompatible types first second → IsRecordForm (form_of_type first) → IsRecordForm (form_of_type second)
alike_form types first second by is =
    records_form types (in_pairs by.pairs) (form_of_type first) (form_of_type second) (forms_meet types (in_pairs by.pairs) first second by.meet) is

alike_record : (program : CProgram) (first second : CTy) (held : List Cell) → AreTypes program.types → AreCompatible program.types first second → IsSome (extent_in (setting_of program) second)
    → IsRecordOf program first held → IsRecordOf program second held
alike_record program first second held are by complete is =
    let found = some_laid (extent_in (setting_of program) second) complete in
    record {
      is_record = alike_form program.types first second by is.is_record;
      laid = found.0;
      laid_is = found.1;
      all = is.all ∙ ap (λ (laid : Laid). laid.size) (alike_laid program.types first second is.laid found.0 are by is.laid_is found.1);
      typed = is.typed;
    }

-- a value of a type is a value of each complete type that is compatible with it
pub alike_value : (program : CProgram) (first second : CTy) (value : CValue) → AreTypes program.types → AreCompatible program.types first second → IsSome (extent_in (setting_of program) second)
    → IsValueOfType program first value → IsValueOfType program second value
alike_value program first second (scalar value) are by complete is = alike_scalar program first second value by is
alike_value program first second (cells held from) are by complete is = alike_record program first second held are by complete is
alike_value program first second (names number) are by complete is = absurd is
alike_value program first second (designates value) are by complete is = absurd is
alike_value program first second (designates_bits at bit width) are by complete is = absurd is
alike_value program first second missing are by complete is = absurd is

record_complete : (types : CTypes) (type : CTy) → IsRecordForm (form_of_type type) → IsResult types type → IsComplete types type
record_complete types (ty (record_type number) is_const) is complete = complete
record_complete types (ty void is_const) is complete = absurd is
record_complete types (ty (basic which) is_const) is complete = absurd is
record_complete types (ty (enum_type number) is_const) is complete = absurd is
record_complete types (ty (pointer to) is_const) is complete = absurd is
record_complete types (ty (array element length) is_const) is complete = absurd is
record_complete types (ty (function result params variadic) is_const) is complete = absurd is

-- the same where the second may be the result of a function, so `void`, too (6.8.6.4)
pub alike_result : (program : CProgram) (first second : CTy) (value : CValue) → AreTypes program.types → AreCompatible program.types first second → IsResult program.types second
    → IsValueOfType program first value → IsValueOfType program second value
alike_result program first second (scalar value) are by complete is = alike_scalar program first second value by is
alike_result program first second (cells held from) are by complete is =
    alike_record program first second held are by (record_complete program.types second (alike_form program.types first second by is.is_record) complete) is
alike_result program first second (names number) are by complete is = absurd is
alike_result program first second (designates value) are by complete is = absurd is
alike_result program first second (designates_bits at bit width) are by complete is = absurd is
alike_result program first second missing are by complete is = absurd is

-- a value of a type is one of its unqualified version, and the other way round (6.2.5p25)
pub value_unqualified : (program : CProgram) (type : CTy) (value : CValue) → IsValueOfType program type value → IsValueOfType program (unqualified type) value
value_unqualified program (ty form is_const) (scalar value) is = record { kind = is.kind; kind_is = is.kind_is; of_kind = is.of_kind; leads = is.leads }
value_unqualified program (ty form is_const) (cells held from) is = record { is_record = is.is_record; laid = is.laid; laid_is = is.laid_is; all = is.all; typed = is.typed }
value_unqualified program (ty form is_const) (names number) is = absurd is
value_unqualified program (ty form is_const) (designates value) is = absurd is
value_unqualified program (ty form is_const) (designates_bits at bit width) is = absurd is
value_unqualified program (ty form is_const) missing is = absurd is

pub value_qualified : (program : CProgram) (type : CTy) (value : CValue) → IsValueOfType program (unqualified type) value → IsValueOfType program type value
value_qualified program (ty form is_const) (scalar value) is = record { kind = is.kind; kind_is = is.kind_is; of_kind = is.of_kind; leads = is.leads }
value_qualified program (ty form is_const) (cells held from) is = record { is_record = is.is_record; laid = is.laid; laid_is = is.laid_is; all = is.all; typed = is.typed }
value_qualified program (ty form is_const) (names number) is = absurd is
value_qualified program (ty form is_const) (designates value) is = absurd is
value_qualified program (ty form is_const) (designates_bits at bit width) is = absurd is
value_qualified program (ty form is_const) missing is = absurd is

unqualified_complete : (program : CProgram) (type : CTy) → IsSome (extent_in (setting_of program) type) → IsSome (extent_in (setting_of program) (unqualified type))
unqualified_complete program (ty form is_const) complete = complete

-- the same of unqualified versions, as those of parameters are (6.5.2.2p7)
pub alike_value_unqualified : (program : CProgram) (first second : CTy) (value : CValue) → AreTypes program.types → AreCompatible program.types (unqualified first) (unqualified second)
    → IsSome (extent_in (setting_of program) second) → IsValueOfType program (unqualified first) value → IsValueOfType program (unqualified second) value
alike_value_unqualified program first second value are by complete is =
    alike_value program (unqualified first) (unqualified second) value are by (unqualified_complete program second complete) is
