-- The Rust type of a complete type of C is laid out as it.
use Rattle.std.proofs.Common.{◌≡◌, ℕ, zero, suc, ◌*◌, ◌/◌, ◌≤◌, Bool, true, false, nat_le, if◌then◌else◌, Option, None, Some, option_map, arith, refl, ap, ◌∙◌, subst}
use Rattle.std.proofs.Math.Nat.{suc-mul}
use Rattle.std.proofs.lemmas.Bool.Decides.{nat_tests}
use Rattle.std.specs.Option.{option_and_then}
use Rattle.cr_base.specs.declared.layout.Laid.{Laid}
use Rattle.cr_base.specs.Layout.{most_bytes}
use Rattle.cx_core.specs.Conversions.{width_of_basic}
use Rattle.cx_core.specs.Layouts.{CLayouts, CRow, bytes, elements, extent, row_at, whole_extent, whole_extent_of, within_most as within_bound}
use Rattle.cx_core.specs.Trees.{CTy, ty, CTyForm, void, basic, enum_type, pointer, array, record_type, function}
use Rattle.cx_core.specs.declared.ty.Basic.{Basic}
use Rattle.cx_core.specs.declared.ty.Basic.TheVariants.{Truth, Char, SignedChar, UnsignedChar, Short, UnsignedShort, Int, Unsigned, Long, UnsignedLong, LongLong, UnsignedLongLong}
use Rattle.rs_items.specs.Known.{Knows}
use Rattle.rs_items.specs.Records.{kept_size}
use Rattle.rs_items.specs.Types.{record_or_void, record_path, rust_pointer, type_names}
use Rattle.rs_items_rules.specs.Agree.{Agrees, AreKept, IsKept, Records}
use Rattle.rs_mean.specs.Layout.{even, laid_with, repeated}

module _ (known : Knows) (records : Records) where
  abbrev Fits : CTy → Laid → Type 0
  Fits type laid = Agrees known (laid_with records) type laid

  pub basic_fits : (which : Basic) (is_const : Bool) → Fits (ty (basic which) is_const) (bytes (width_of_basic which / 8))
  basic_fits Truth q = record { rust = refl; size = refl; align = omega arith; some = omega arith; aligned = omega arith }
  basic_fits Char q = record { rust = refl; size = refl; align = omega arith; some = omega arith; aligned = omega arith }
  basic_fits SignedChar q = record { rust = refl; size = refl; align = omega arith; some = omega arith; aligned = omega arith }
  basic_fits UnsignedChar q = record { rust = refl; size = refl; align = omega arith; some = omega arith; aligned = omega arith }
  basic_fits Short q = record { rust = refl; size = refl; align = omega arith; some = omega arith; aligned = omega arith }
  basic_fits UnsignedShort q = record { rust = refl; size = refl; align = omega arith; some = omega arith; aligned = omega arith }
  basic_fits Int q = record { rust = refl; size = refl; align = omega arith; some = omega arith; aligned = omega arith }
  basic_fits Unsigned q = record { rust = refl; size = refl; align = omega arith; some = omega arith; aligned = omega arith }
  basic_fits Long q = record { rust = refl; size = refl; align = omega arith; some = omega arith; aligned = omega arith }
  basic_fits UnsignedLong q = record { rust = refl; size = refl; align = omega arith; some = omega arith; aligned = omega arith }
  basic_fits LongLong q = record { rust = refl; size = refl; align = omega arith; some = omega arith; aligned = omega arith }
  basic_fits UnsignedLongLong q = record { rust = refl; size = refl; align = omega arith; some = omega arith; aligned = omega arith }

  pointer_laid : (to : CTy) → laid_with records (rust_pointer (type_names known) to) ≡ Some (even 8)
  pointer_laid (ty void q) = refl
  pointer_laid (ty (basic which) q) = refl
  pointer_laid (ty (enum_type number) q) = refl
  pointer_laid (ty (pointer to) q) = refl
  pointer_laid (ty (array element length) q) = refl
  pointer_laid (ty (record_type number) q) = refl
  pointer_laid (ty (function given params variadic) q) = refl

  pointer_fits : (to : CTy) (is_const : Bool) → Fits (ty (pointer to) is_const) (bytes 8)
  pointer_fits to q = record { rust = pointer_laid to; size = refl; align = omega arith; some = omega arith; aligned = omega arith }

  repeated_laid : (count : ℕ) (one : Laid) → suc count * one.size ≤ most_bytes → repeated (suc count) one ≡ Some (record { size = suc count * one.size; align = one.align })
  repeated_laid count one few = grind (arith, nat_tests, few)

  array_fits : (element : CTy) (count : ℕ) (is_const : Bool) (one : Laid) → suc count * one.size ≤ most_bytes → Fits element one
      → Fits (ty (array element (Some (suc count))) is_const) (record { size = suc count * one.size; align = one.align })
  array_fits element count q one few fits =
      let some = fits.some in
      let product = suc-mul count one.size in
      record {
        rust = ap (option_and_then (repeated (suc count))) fits.rust ∙ repeated_laid count one few;
        size = ap (λ n. suc count * n) fits.size;
        align = fits.align;
        some = omega (arith, product, some);
        aligned = fits.aligned;
      }

  record_fits : (number : ℕ) (is_const : Bool) (laid : Laid) → IsKept known records number laid → Fits (ty (record_type number) is_const) laid
  record_fits number q laid kept = record {
    rust = ap (λ thing. laid_with records (record_or_void (record_path thing))) kept.is ∙ ap (λ path. laid_with records (record_or_void path)) kept.named ∙ kept.laid;
    size = ap kept_size kept.is ∙ kept.size;
    align = let aligned = kept.aligned in omega (arith, aligned);
    some = kept.some;
    aligned = kept.aligned;
  }

  one_less : (count size : ℕ) → size ≤ suc count * size
  one_less count size = let product = suc-mul count size in omega (arith, product)

  module _ (layouts : CLayouts) (kept : AreKept known records layouts) where
    enum_fits : (number : ℕ) (is_const : Bool) → Fits (ty (enum_type number) is_const) (bytes 4)
    enum_fits number q =
        record { rust = ap (λ n. Some (even (n / 8))) (kept.enums number); size = refl; align = omega arith; some = omega arith; aligned = omega arith }

    elements_fit : (element : CTy) (count : ℕ) (is_const : Bool) (laid : Laid) → ((one : Laid) → whole_extent layouts element ≡ Some one → one.size ≤ most_bytes → Fits element one)
        → (found : Option Laid) → whole_extent layouts element ≡ found → elements (suc count) found ≡ Some laid → laid.size ≤ most_bytes → Fits (ty (array element (Some (suc count))) is_const) laid
    elements_fit element count q laid each None found same few = cc
    elements_fit element count q laid each (Some one) found same few =
        let whole : record { size = suc count * one.size; align = one.align } ≡ laid = cc in
        let size : suc count * one.size ≡ laid.size = ap (λ (l : Laid). l.size) whole in
        let less = one_less count one.size in
        subst (Fits (ty (array element (Some (suc count))) q)) whole (array_fits element count q one (omega (arith, size, few)) (each one found (omega (arith, size, few, less))))

    mutual
      pub type_fits : (type : CTy) (laid : Laid) → whole_extent layouts type ≡ Some laid → laid.size ≤ most_bytes → Fits type laid
      type_fits (ty form q) laid is few = form_fits form q laid is few

      form_fits : (form : CTyForm) (is_const : Bool) (laid : Laid) → whole_extent_of layouts form ≡ Some laid → laid.size ≤ most_bytes → Fits (ty form is_const) laid
      form_fits void q laid is few = cc
      form_fits (basic which) q laid is few = let same : bytes (width_of_basic which / 8) ≡ laid = cc in subst (Fits (ty (basic which) q)) same (basic_fits which q)
      form_fits (enum_type number) q laid is few = let same : bytes 4 ≡ laid = cc in subst (Fits (ty (enum_type number) q)) same (enum_fits number q)
      form_fits (pointer to) q laid is few = let same : bytes 8 ≡ laid = cc in subst (Fits (ty (pointer to) q)) same (pointer_fits to q)
      form_fits (array element None) q laid is few = cc
      form_fits (array element (Some zero)) q laid is few = cc
      form_fits (array element (Some (suc count))) q laid is few =
          elements_fit element count q laid (λ one found small. type_fits element one found small) (whole_extent layouts element) refl is few
      form_fits (record_type number) q laid is few = by_row (row_at layouts number) refl is
        where
          by_row : (found : Option CRow) → row_at layouts number ≡ found → option_map (λ (row : CRow). row.laid) found ≡ Some laid → Fits (ty (record_type number) q) laid
          by_row None found same = cc
          by_row (Some row) found same =
              let whole : row.laid ≡ laid = cc in
              subst (Fits (ty (record_type number) q)) whole (record_fits number q row.laid (kept.kept number row found))
      form_fits (function given params variadic) q laid is few = cc

    -- what isn't too large
    pub complete_fits : (type : CTy) (laid : Laid) → extent layouts type ≡ Some laid → Fits type laid
    complete_fits type laid is = by_whole (whole_extent layouts type) refl is
      where
        by_test : (one : Laid) → whole_extent layouts type ≡ Some one → (r : Bool) → nat_le one.size most_bytes ≡ r → (if r then Some one else None) ≡ Some laid → Fits type laid
        by_test one found true test same =
            let few : one.size ≤ most_bytes = grind (arith, nat_tests, test) in
            let the_same : one ≡ laid = cc in
            subst (Fits type) the_same (type_fits type one found few)
        by_test one found false test same = cc

        by_whole : (found : Option Laid) → whole_extent layouts type ≡ found → option_and_then within_bound found ≡ Some laid → Fits type laid
        by_whole None found same = cc
        by_whole (Some one) found same =
            by_test one found (nat_le one.size most_bytes) refl same
