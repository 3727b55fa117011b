-- Types that agree have one size and one alignment, where both have one: so two tables of layouts say, if they do of the records that count as
-- compatible (ISO C99, 6.2.7p1, 6.7.2.2p4, 6.7.5.2p6).
use Rattle.std.proofs.Common.{◌≡◌, ◌⊎◌, inl, inr, ℕ, zero, suc, ◌*◌, ◌/◌, ◌==◌, Bool, true, false, Option, None, Some, option_map, slice_get, refl, sym, ap, ◌∙◌, subst}
use Rattle.std.proofs.lemmas.Bool.{and_parts, or_cases, eqb-true}
use Rattle.std.specs.Bool.{beq}
use Rattle.cr_base.specs.declared.layout.Laid.{Laid}
use Rattle.cx_core.specs.Compatible.{agree, forms_agree, lengths_agree, meet_in_basic, same_basics}
use Rattle.cx_core.specs.Conversions.{same_basic, basic_of, basic_of_enum, width_of_basic}
use Rattle.cx_core.specs.contracts.ty.Basic.{the_type}
use Rattle.cx_core.specs.declared.ty.Basic.{Basic}
use Rattle.cx_core.specs.Layouts.{CLayouts, CRow, row_at, bytes, elements, array_extent, whole_extent, whole_extent_of}
use Rattle.cx_core.specs.Trees.{CTy, ty, CTyForm, void, basic, enum_type, pointer, array, record_type, function, CTypes}
use Rattle.cx_layout.proofs.Passes.{Extends}
use Rattle.cx_typed_work.proofs.Rows.{some_same}
use denote.Enum.Bare.{same_true}

-- ---- options

-- where both are there, they are the same
abbrev pub AreOne : {X : Type 0} → Option X → Option X → Type 0
AreOne {X} first second = (x y : X) → first ≡ Some x → second ≡ Some y → x ≡ y

pub map_one : {X Y : Type 0} (f : X → Y) (first second : Option X) → AreOne first second → AreOne (option_map f first) (option_map f second)
map_one f None second one x y is other_is = absurd cc
map_one f (Some a) None one x y is other_is = absurd cc
map_one f (Some a) (Some b) one x y is other_is = sym (some_same (f a) x is) ∙ ap f (one a b refl refl) ∙ some_same (f b) y other_is

-- ---- integer types

pub basic_is : (one other : Basic) → same_basic one other ≡ true → one ≡ other
unfolding same_basic
basic_is one other is = same_true the_type tt one other is

enum_size : (is_int : Bool) → bytes 4 ≡ bytes (width_of_basic (basic_of_enum is_int) / 8)
enum_size true = refl
enum_size false = refl

enum_sized : (found : Option Bool) (which : Basic) → option_map basic_of_enum found ≡ Some which → bytes 4 ≡ bytes (width_of_basic which / 8)
enum_sized None which is = absurd cc
enum_sized (Some is_int) which is = enum_size is_int ∙ ap (λ (one : Basic). bytes (width_of_basic one / 8)) (some_same (basic_of_enum is_int) which is)

-- an integer type has the size of the basic type that it is, or with which it is compatible
integer_size : (types : CTypes) (layouts : CLayouts) (form : CTyForm) (which : Basic) → basic_of types form ≡ Some which → whole_extent_of layouts form ≡ Some (bytes (width_of_basic which / 8))
integer_size types layouts (basic one) which is = ap (λ (b : Basic). Some (bytes (width_of_basic b / 8))) (some_same one which is)
integer_size types layouts (enum_type number) which is = ap (λ (laid : Laid). Some laid) (enum_sized (slice_get types.enums number) which is)
integer_size types layouts void which is = absurd cc
integer_size types layouts (pointer to) which is = absurd cc
integer_size types layouts (array element length) which is = absurd cc
integer_size types layouts (record_type number) which is = absurd cc
integer_size types layouts (function result params variadic) which is = absurd cc

-- the basic type in which two integer types meet
pub record MeetIn (types : CTypes) (first second : CTyForm) : Type 0 where
  pub which : Basic
  pub first_is : basic_of types first ≡ Some which
  pub second_is : basic_of types second ≡ Some which

pub meet_in : (types : CTypes) (first second : CTyForm) → meet_in_basic types first second ≡ true → MeetIn types first second
meet_in types first second meets = by (basic_of types first) (basic_of types second) refl refl meets
  where
    by : (a b : Option Basic) → basic_of types first ≡ a → basic_of types second ≡ b → same_basics a b ≡ true → MeetIn types first second
    by None b first_is second_is same = absurd cc
    by (Some a) None first_is second_is same = absurd cc
    by (Some a) (Some b) first_is second_is same = record { which = a; first_is = first_is; second_is = second_is ∙ ap (λ (one : Basic). Some one) (sym (basic_is a b same)) }

-- integer types that meet in one basic type have one size, whatever is laid out
pub integers_alike : (types : CTypes) (few many : CLayouts) (first second : CTyForm) → meet_in_basic types first second ≡ true → AreOne (whole_extent_of few first) (whole_extent_of many second)
integers_alike types few many first second meets x y is other_is =
    let met = meet_in types first second meets in
    some_same x y (sym is ∙ integer_size types few first met.which met.first_is ∙ sym (integer_size types many second met.which met.second_is) ∙ other_is)

-- ---- arrays

elements_one : (count : ℕ) (first second : Option Laid) → AreOne first second → AreOne (elements count first) (elements count second)
elements_one zero first second one = λ x y is other_is. absurd cc
elements_one (suc n) first second one = map_one (λ (l : Laid). record { size = suc n * l.size; align = l.align }) first second one

arrays_one : (length other : Option ℕ) (first second : Option Laid) → lengths_agree length other ≡ true → AreOne first second → AreOne (array_extent length first) (array_extent other second)
arrays_one None other first second same one x y is other_is = absurd cc
arrays_one (Some n) None first second same one x y is other_is = absurd cc
arrays_one (Some n) (Some m) first second same one x y is other_is =
    elements_one n first second one x y is (ap (λ count. elements count second) (eqb-true n m same) ∙ other_is)

-- ---- types

-- records that count as compatible are laid out alike, the first by one table and the second by another
abbrev pub RowsAlike : (ℕ → ℕ → Bool) → CLayouts → CLayouts → Type 0
RowsAlike counts few many = (a b : ℕ) → counts a b ≡ true → AreOne (option_map (λ (row : CRow). row.laid) (row_at few a)) (option_map (λ (row : CRow). row.laid) (row_at many b))

row_kept : (few many : CLayouts) → Extends few many → (number : ℕ) → AreOne (row_at few number) (row_at many number)
row_kept few many extends number x y is other_is = some_same x y (sym (extends number x is) ∙ other_is)

module _ (types : CTypes) (counts : ℕ → ℕ → Bool) (few many : CLayouts) (extends : Extends few many) (rows : RowsAlike counts few many) where
  records_alike : (a b : ℕ) → ((a == b) ≡ true) ⊎ (counts a b ≡ true) → AreOne (whole_extent_of few (record_type a)) (whole_extent_of many (record_type b))
  records_alike a b (inl same) =
      subst (λ n. AreOne (whole_extent_of few (record_type a)) (whole_extent_of many (record_type n))) (eqb-true a b same)
      (map_one (λ (row : CRow). row.laid) (row_at few a) (row_at many a) (row_kept few many extends a))
  records_alike a b (inr counted) = rows a b counted

  mutual
    pub extent_alike : (a b : CTy) → agree types counts a b ≡ true → AreOne (whole_extent few a) (whole_extent many b)
    extent_alike (ty a a_const) (ty b b_const) agrees = forms_alike a b (and_parts (beq a_const b_const) (forms_agree types counts a b) agrees).1

    pub forms_alike : (a b : CTyForm) → forms_agree types counts a b ≡ true → AreOne (whole_extent_of few a) (whole_extent_of many b)
    forms_alike void b agrees = λ x y is other_is. absurd cc
    forms_alike (basic a) (basic b) agrees = integers_alike types few many (basic a) (basic b) agrees
    forms_alike (basic a) (enum_type b) agrees = integers_alike types few many (basic a) (enum_type b) agrees
    forms_alike (enum_type a) (basic b) agrees = integers_alike types few many (enum_type a) (basic b) agrees
    forms_alike (enum_type a) (enum_type b) agrees = λ x y is other_is. some_same x y (sym is ∙ other_is)
    forms_alike (pointer a) (pointer b) agrees = λ x y is other_is. some_same x y (sym is ∙ other_is)
    forms_alike (array a a_length) (array b b_length) agrees =
        let parts = and_parts (lengths_agree a_length b_length) (agree types counts a b) agrees in
        arrays_one a_length b_length (whole_extent few a) (whole_extent many b) parts.0 (extent_alike a b parts.1)
    forms_alike (record_type a) (record_type b) agrees = records_alike a b (or_cases (a == b) (counts a b) agrees)
    forms_alike (function a params variadic) b agrees = λ x y is other_is. absurd cc
    forms_alike _ _ agrees = λ x y is other_is. absurd cc
