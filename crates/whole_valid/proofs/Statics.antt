-- The static objects of a module are valid (ISO C99, 6.4.5p5, 6.7.8; the Rust Reference, "Static items").
use Rattle.std.proofs.Common.{arith, ◌≡◌, ℕ, suc, ◌==◌, ℤ, pos, negsuc, Bool, true, false, ◌&&◌, if◌then◌else◌, nat_eq, List, [], ◌∷◌, length, option_map, Option, Some, None, IfSome, IsSome, is_some, refl, sym, ap, subst, ◌∙◌}
use Rattle.std.proofs.lemmas.Bool.{and_from}
use Rattle.std.proofs.lemmas.Bool.Decides.{nat_tests}
use Rattle.std.specs.List.{list_all}
use Rattle.std.specs.Option.{option_and_then}
use Rattle.cr_base.specs.Scalar.{IsInRange, converted}
use Rattle.cr_base.specs.declared.scalar.Scalar.TheVariants.{Whole}
use Rattle.cx_core.specs.Linked.{IsStatic, IsText, IsTypedObject, has_linkage, home_of}
use Rattle.cx_core.specs.Texts.{HoldText, before_zero, bytes_from, followed, stored_byte, text_of_puts}
use Rattle.cx_core.specs.Trees.{expr, CForm, CObject, CProgram, CPut, put, CPuts, no_puts, more_puts, CTy, ty, CTyForm, void, basic, enum_type, pointer, array, record_type, function, form_of_type, whole as whole_form}
use Rattle.cx_core.specs.declared.program.Linkage.TheVariants.{External}
use Rattle.cx_core.specs.declared.ty.Basic.TheVariants.{Char}
use Rattle.cx_typed_values.proofs.Ranges.{converted_in_range}
use Rattle.rs_items.specs.Types.{rust_type, rust_form}
use Rattle.rs_text.specs.Names.{is_identifier, is_word}
use Rattle.rs_text.specs.Tree.{Array}
use Rattle.rs_text.specs.Valid.{is_value, valid_attribute, valid_static, valid_ty, valid_values}
use Rattle.whole_items.specs.Items.{literal_value, put_value, text_values, values_of}
use Rattle.whole_means.proofs.Items.{static_tree}
use Rattle.whole_means.proofs.Lists.{Among}
use Rattle.whole_means.proofs.Things.{object_named}
use Rattle.whole_means.specs.Written.{IsNamed}
use Rattle.whole_names.specs.Keys.{an_object}
use Rattle.whole_names.specs.Kept.{NamedProgram, name_in, types_of}
use Rattle.whole_names.specs.ModuleNames.{name_or}
use Rattle.whole_valid.proofs.Functions.{attribute_valid}
use Rattle.whole_valid.proofs.Names.{all_of, name_identifier}
use Rattle.whole_valid.proofs.Types.{complete_valid}
use Rattle.whole_valid.specs.Given.{HasModuleNames, HasWords}

-- an array of `char`
abbrev IsTextOf : CTyForm → Type 0
IsTextOf (array element (Some length)) = form_of_type element ≡ basic Char
IsTextOf _ = ⊥

-- ---- the elements of a text

in_value : (v : ℤ) → IsInRange (Whole 8 true) v → is_value v ≡ true
in_value (pos n) range = let high = range.1 in grind (arith, nat_tests, high)
in_value (negsuc n) range = let low = range.0 in grind (arith, nat_tests, low)

literal_valid : (form : CForm) → is_value (literal_value form) ≡ true
literal_valid (whole_form value) = in_value (converted (Whole 8 true) value) (converted_in_range (Whole 8 true) value refl)
literal_valid _ = refl

put_valid : (one : CPut) → is_value (put_value one) ≡ true
put_valid (put spot type (expr given place form)) = literal_valid form

values_valid : (puts : CPuts) → list_all is_value (text_values puts) ≡ true
values_valid no_puts = refl
values_valid (more_puts first others) = and_from (is_value (put_value first)) (list_all is_value (text_values others)) (put_valid first) (values_valid others)

-- ---- their number

some_same : {A : Type 0} (x y : A) → Some x ≡ Some y → x ≡ y
some_same x y same = cc (same)

bytes_count : (index : ℕ) (puts : CPuts) (bytes : List ℕ) → bytes_from index puts ≡ Some bytes → length (text_values puts) ≡ length bytes
bytes_count index no_puts bytes is = ap length (some_same [] bytes is)
bytes_count index (more_puts first others) bytes is = by_first (stored_byte index first) (bytes_from (suc index) others) (λ list e. bytes_count (suc index) others list e) refl is
  where
    by_first : (byte : Option ℕ) (rest : Option (List ℕ)) → ((list : List ℕ) → bytes_from (suc index) others ≡ Some list → length (text_values others) ≡ length list) → bytes_from (suc index) others ≡ rest → followed byte rest ≡ Some bytes → suc (length (text_values others)) ≡ length bytes
    by_first None rest more e f = absurd cc
    by_first (Some byte) None more e f = absurd cc
    by_first (Some byte) (Some list) more e f = ap suc (more list e) ∙ ap length (some_same (byte ∷ list) bytes f)

zero_count : (bytes text : List ℕ) → before_zero bytes ≡ Some text → length bytes ≡ suc (length text)
zero_count [] text is = absurd cc
zero_count (byte ∷ []) text is = by_test (byte == 0) is
  where
    by_test : (t : Bool) → (if t then Some [] else None) ≡ Some text → 1 ≡ suc (length text)
    by_test true e = ap suc (ap length (some_same [] text e))
    by_test false e = absurd cc
zero_count (byte ∷ next ∷ others) text is = by_rest (before_zero (next ∷ others)) (λ more e. zero_count (next ∷ others) more e) refl is
  where
    by_rest : (rest : Option (List ℕ)) → ((more : List ℕ) → before_zero (next ∷ others) ≡ Some more → length (next ∷ others) ≡ suc (length more)) → before_zero (next ∷ others) ≡ rest → option_map (λ more. byte ∷ more) rest ≡ Some text → suc (length (next ∷ others)) ≡ suc (length text)
    by_rest None count e f = absurd cc
    by_rest (Some more) count e f = ap suc (count more e ∙ ap length (some_same (byte ∷ more) text f))

text_count : (puts : CPuts) (text : List ℕ) → text_of_puts puts ≡ Some text → length (text_values puts) ≡ suc (length text)
text_count puts text is = by_bytes (bytes_from 0 puts) refl is
  where
    by_bytes : (found : Option (List ℕ)) → bytes_from 0 puts ≡ found → option_and_then before_zero found ≡ Some text → length (text_values puts) ≡ suc (length text)
    by_bytes None e f = absurd cc
    by_bytes (Some bytes) e f = bytes_count 0 puts bytes e ∙ zero_count bytes text f

same_number : (n m : ℕ) → n ≡ m → nat_eq n m ≡ true
same_number n m same = grind (arith, nat_tests, same)

-- ---- objects

module _ (whole : NamedProgram) (is : IsNamed whole) (words : HasWords whole.program) (modules : HasModuleNames whole.module_names) where
  abbrev program : CProgram
  program = whole.program

  text_of_array : (element : CTy) (count : ℕ) (puts : CPuts) → form_of_type element ≡ basic Char → length (text_values puts) ≡ count →
      valid_values (Some (text_values puts)) (rust_type (types_of whole) (ty (array element (Some count)) false)) ≡ true
  text_of_array (ty form is_const) count puts char same =
      ap (λ (f : CTyForm). valid_values (Some (text_values puts)) (Array (rust_form (types_of whole) f) count)) char
      ∙ and_from (list_all is_value (text_values puts)) (nat_eq (length (text_values puts)) count) (values_valid puts) (same_number (length (text_values puts)) count same)

  text_valid : (type : CTy) (puts : CPuts) → IsTextOf (form_of_type type) → HoldText type puts → valid_values (Some (text_values puts)) (rust_type (types_of whole) type) ≡ true
  text_valid (ty (array element (Some count)) is_const) puts char holds =
      text_of_array element count puts char (text_count puts holds.text holds.stored ∙ sym holds.length_is)
  text_valid (ty (array element None) is_const) puts char holds = absurd char
  text_valid (ty void is_const) puts char holds = absurd char
  text_valid (ty (basic which) is_const) puts char holds = absurd char
  text_valid (ty (enum_type number) is_const) puts char holds = absurd char
  text_valid (ty (pointer to) is_const) puts char holds = absurd char
  text_valid (ty (record_type number) is_const) puts char holds = absurd char
  text_valid (ty (function result params variadic) is_const) puts char holds = absurd char

  values_by : (one : CObject) (puts : CPuts) (is_text : Bool) → one.is_text ≡ is_text → one.puts ≡ Some puts → (one.is_text ≡ true → IsText one) →
      valid_values (values_of is_text puts) (rust_type (types_of whole) one.type) ≡ true
  values_by one puts true e there text =
      let of = text e in
      text_valid one.type puts of.array (subst (λ (found : Option CPuts). IfSome found (HoldText one.type)) there of.holds)
  values_by one puts false e there text = refl

  symbol_word : (one : CObject) → IsTypedObject program None one → Among program.objects one → one.linkage ≡ External → is_word (name_or [] one.name) ≡ true
  symbol_word one typed among external =
      by_name one.name (typed.named (ap has_linkage external)) (all_of (λ (o : CObject). IfSome o.name (λ name. is_word name ≡ true)) program.objects one words.objects among)
    where
      by_name : (name : Option (List ℕ)) → IsSome name → IfSome name (λ x. is_word x ≡ true) → is_word (name_or [] name) ≡ true
      by_name None some word = absurd cc
      by_name (Some x) some word = word

  pub static_valid : (one : CObject) (puts : CPuts) → Among program.objects one → one.puts ≡ Some puts → valid_static (static_tree whole one puts) ≡ true
  static_valid one puts among there =
      let tree = static_tree whole one puts in
      let typed = all_of (IsTypedObject program None) program.objects one is.linked.objects among in
      let static = subst (λ (found : Option CPuts). IfSome found (IsStatic (home_of program None one.unit) one.type)) there typed.static in
      and_from (valid_attribute tree.attribute && is_identifier tree.name && valid_ty tree.ty) (valid_values tree.values tree.ty)
      (and_from (valid_attribute tree.attribute && is_identifier tree.name) (valid_ty tree.ty)
      (and_from (valid_attribute tree.attribute) (is_identifier tree.name)
      (attribute_valid one.linkage (name_or [] one.name) (name_in whole one.unit (an_object one.object)) (symbol_word one typed among))
      (name_identifier whole is words one.unit (an_object one.object) (object_named whole is one among (ap is_some there))))
      (complete_valid whole is words modules one.unit one.type typed.type_in static.complete)) (values_by one puts one.is_text refl there typed.text)
