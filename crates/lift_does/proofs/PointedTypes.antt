-- A function is called by a pointer whose type is compatible with its own: the crate's types of both are alike (ISO C99, 6.2.7, 6.5.2.2p6; the Rust Reference, "Call expressions").
use Rattle.std.proofs.Common.{◌≡◌, inl, inr, ℕ, Bool, true, false, ◌&&◌, List, [], ◌∷◌, map, Option, Some, None, option_map, Ok, refl, sym, ap, subst, ◌∙◌}
use Rattle.std.proofs.lemmas.Bool.{and_parts}
use Rattle.std.specs.Prelude.{slice_get}
use Rattle.cr_base.specs.declared.scalar.Scalar.{Scalar}
use Rattle.cr_base.specs.declared.scalar.Scalar.TheVariants as scalars
use Rattle.cx_core.specs.Compatible.{AreCompatible, forms_agree, lists_agree, agree, in_pairs}
use Rattle.cx_core.specs.Conversions.{scalar_of_basic, basic_of_enum, scalar_of as c_scalar_of}
use Rattle.cx_core.specs.Trees.{CProgram, CTypes, CTy, ty, CTyForm, void, basic, enum_type, pointer, array, record_type, function, form_of_type, CTys, no_types, more_types, CExpr, CExprs, no_exprs, more_exprs, type_of}
use Rattle.cx_core.specs.Typing.{AreTyped, AreArguments}
use Rattle.cx_core.specs.declared.ty.Basic.{Basic}
use Rattle.cx_core.specs.declared.ty.Basic.TheVariants as basics
use Rattle.cx_mean.specs.Calls.{is_missing, all_given}
use Rattle.cx_mean.specs.Operands.{CValue, scalar, cells, names, designates, designates_bits, missing, COperand}
use Rattle.cx_typed_work.proofs.AlikeSizes.{basic_is}
use Rattle.cx_typed_work.proofs.AlikeValues.{alike_kind}
use Rattle.cx_typed_work.proofs.Given.{value_given}
use Rattle.cx_typed_work.specs.Operands.{IsGiven, IsRecordForm}
use Rattle.lift_does.proofs.Arguments.{ArgsGiven}
use Rattle.lift_does.proofs.ArgumentsRun.{ParamFits, ParamsFit, all_there}
use Rattle.lift_does.proofs.Around.{Around}
use Rattle.lift_does.proofs.Params.{records_alike}
use Rattle.lift_forms.proofs.SameTypes.{same_integer_itself}
use Rattle.lift_held.specs.Held.{is_record}
use Rattle.lift_stands.specs.Stands.{Images}
use Rattle.cr_world.specs.World.{World}
use Rattle.rs_items.specs.Types.{is_record as is_passed, passed, basic_type, rust_form, rust_pointer_form, rust_types}
use Rattle.rs_mean.specs.Calls.{accepts}
use Rattle.rs_mean.specs.Run.{params_alike}
use Rattle.rs_mean.specs.Scalars.{integer_scalar, scalar_of, alike}
use Rattle.rs_mean.specs.Values.{Typed}
use Rattle.rs_text.specs.Tree.{Ty, Integer, Pointer, Code, Tys, no_tys, more_tys, tys}
use Rattle.rs_text.specs.declared.integer.IntegerTy.{IntegerTy}
use Rattle.rs_text.specs.declared.integer.IntegerTy.TheVariants.{I8, I16, I32, I64, U8, U16, U32, U64, Isize, Usize}

-- ---- integers of 32 bits: an enumerated type and `int` or `unsigned int`

abbrev word_of : Bool → IntegerTy
word_of true = I32
word_of false = U32

word_is : (which : IntegerTy) (signed : Bool) → integer_scalar which ≡ scalars.Whole 32 signed → which ≡ word_of signed
word_is I32 true e = refl
word_is I32 false e = cc (e)
word_is U32 true e = cc (e)
word_is U32 false e = refl
word_is I8 signed e = cc (e)
word_is I16 signed e = cc (e)
word_is I64 signed e = cc (e)
word_is U8 signed e = cc (e)
word_is U16 signed e = cc (e)
word_is U64 signed e = cc (e)
word_is Isize signed e = cc (e)
word_is Usize signed e = cc (e)

basic_word : (which : Basic) (signed : Bool) → scalar_of_basic which ≡ scalars.Whole 32 signed → basic_type which ≡ Integer (word_of signed)
basic_word basics.Int true e = refl
basic_word basics.Int false e = cc (e)
basic_word basics.Unsigned true e = cc (e)
basic_word basics.Unsigned false e = refl
basic_word basics.Truth signed e = cc (e)
basic_word basics.Char signed e = cc (e)
basic_word basics.SignedChar signed e = cc (e)
basic_word basics.UnsignedChar signed e = cc (e)
basic_word basics.Short signed e = cc (e)
basic_word basics.UnsignedShort signed e = cc (e)
basic_word basics.Long signed e = cc (e)
basic_word basics.UnsignedLong signed e = cc (e)
basic_word basics.LongLong signed e = cc (e)
basic_word basics.UnsignedLongLong signed e = cc (e)

basic_alike : (which : Basic) → alike (basic_type which) (basic_type which) ≡ true
basic_alike basics.Truth = refl
basic_alike basics.Char = refl
basic_alike basics.SignedChar = refl
basic_alike basics.UnsignedChar = refl
basic_alike basics.Short = refl
basic_alike basics.UnsignedShort = refl
basic_alike basics.Int = refl
basic_alike basics.Unsigned = refl
basic_alike basics.Long = refl
basic_alike basics.UnsignedLong = refl
basic_alike basics.LongLong = refl
basic_alike basics.UnsignedLongLong = refl

enum_word : (types : CTypes) (number : ℕ) (kind : Scalar) (found : Option Bool) → slice_get types.enums number ≡ found → c_scalar_of types (enum_type number) ≡ Some kind → (signed : Bool) × (kind ≡ scalars.Whole 32 signed)
enum_word types number kind (Some true) f e = (true, let is : Some (scalars.Whole 32 true) ≡ Some kind = sym (ap (option_map (λ (is_int : Bool). scalar_of_basic (basic_of_enum is_int))) f) ∙ e in cc (is))
enum_word types number kind (Some false) f e = (false, let is : Some (scalars.Whole 32 false) ≡ Some kind = sym (ap (option_map (λ (is_int : Bool). scalar_of_basic (basic_of_enum is_int))) f) ∙ e in cc (is))
enum_word types number kind None f e = let is : None ≡ Some kind = sym (ap (option_map (λ (is_int : Bool). scalar_of_basic (basic_of_enum is_int))) f) ∙ e in cc (is)

-- ---- pointers

abbrev is_function : CTyForm → Bool
is_function (function result params variadic) = true
is_function void = false
is_function (basic which) = false
is_function (enum_type number) = false
is_function (pointer to) = false
is_function (array element count) = false
is_function (record_type number) = false

functions_alike : (types : CTypes) (counts : ℕ → ℕ → Bool) (first second : CTyForm) → forms_agree types counts first second ≡ true → is_function first ≡ is_function second
functions_alike types counts void void e = refl
functions_alike types counts (basic a) (basic b) e = refl
functions_alike types counts (basic a) (enum_type b) e = refl
functions_alike types counts (enum_type a) (basic b) e = refl
functions_alike types counts (enum_type a) (enum_type b) e = refl
functions_alike types counts (pointer a) (pointer b) e = refl
functions_alike types counts (array a m) (array b n) e = refl
functions_alike types counts (record_type a) (record_type b) e = refl
functions_alike types counts (function a params more) (function b others rest) e = refl
functions_alike types counts _ _ e = absurd cc

-- ---- lists of types

abbrev pub tys_alike : (own visible : Tys) → Bool
tys_alike no_tys no_tys = true
tys_alike (more_tys one others) (more_tys first rest) = alike one first && tys_alike others rest
tys_alike no_tys (more_tys first rest) = false
tys_alike (more_tys one others) no_tys = false

pub lists_alike : (own : List Ty) (visible : Tys) → tys_alike (tys own) visible ≡ true → params_alike own visible ≡ true
lists_alike [] no_tys e = refl
lists_alike [] (more_tys first rest) e = cc (e)
lists_alike (one ∷ others) no_tys e = cc (e)
lists_alike (one ∷ others) (more_tys first rest) e =
    let parts = and_parts (alike one first) (tys_alike (tys others) rest) e in
    both_hold (alike one first) (params_alike others rest) parts.0 (lists_alike others rest parts.1)
  where
    both_hold : (a b : Bool) → a ≡ true → b ≡ true → (a && b) ≡ true
    both_hold a b is too = rw (is) too

-- what is passed by the types of the pointer is taken by the function
pub all_accepted : (own : List Ty) (values : List Typed) → params_alike own (tys (map (λ (one : Typed). one.ty) values)) ≡ true → accepts own false values ≡ true
all_accepted [] [] e = refl
all_accepted [] (one ∷ rest) e = cc (e)
all_accepted (first ∷ own) [] e = cc (e)
all_accepted (first ∷ own) (one ∷ rest) e =
    let parts = and_parts (alike first one.ty) (params_alike own (tys (map (λ (v : Typed). v.ty) rest))) e in
    both_hold (alike first one.ty) (accepts own false rest) parts.0 (all_accepted own rest parts.1)
  where
    both_hold : (a b : Bool) → a ≡ true → b ≡ true → (a && b) ≡ true
    both_hold a b is too = rw (is) too

-- ---- arguments that are given

pub data ArgKind (x : Around) (first : CExpr) : Type 0 where
  a_record : is_record (type_of first) ≡ true → ArgKind x first
  of_kind : (kind : Scalar) → c_scalar_of x.home.program.types (form_of_type (type_of first)) ≡ Some kind → ArgKind x first

record_there : (type : CTy) → IsRecordForm (form_of_type type) → is_record type ≡ true
record_there (ty (record_type number) is_const) is = refl
record_there (ty void is_const) is = absurd is
record_there (ty (basic which) is_const) is = absurd is
record_there (ty (enum_type number) is_const) is = absurd is
record_there (ty (pointer to) is_const) is = absurd is
record_there (ty (array element count) is_const) is = absurd is
record_there (ty (function result params variadic) is_const) is = absurd is

same_test : (form : CTyForm) (one : Bool) → is_record (ty form false) ≡ is_passed (ty form one)
same_test void one = refl
same_test (basic which) one = refl
same_test (enum_type number) one = refl
same_test (pointer to) one = refl
same_test (array element count) one = refl
same_test (record_type number) one = refl
same_test (function result params variadic) one = refl

module _ (x : Around) where
  plain_kind : (form : CTyForm) (one : Bool) (kind : Scalar) → c_scalar_of x.home.program.types form ≡ Some kind → is_passed (ty form one) ≡ false
  plain_kind (basic which) one kind e = refl
  plain_kind (enum_type number) one kind e = refl
  plain_kind (pointer to) one kind e = refl
  plain_kind void one kind e = cc (e)
  plain_kind (array element count) one kind e = cc (e)
  plain_kind (record_type number) one kind e = cc (e)
  plain_kind (function result params variadic) one kind e = cc (e)

  kind_given : (first : CExpr) (of_c : CValue) → IsGiven x.home.program first of_c → is_missing of_c ≡ false → ArgKind x first
  kind_given first (scalar one) (inl is) there = ArgKind.of_kind is.kind is.kind_is
  kind_given first (cells list from) (inl is) there = ArgKind.a_record (record_there (type_of first) is.is_record)
  kind_given first (scalar one) (inr lacks) there = absurd lacks.1
  kind_given first (cells list from) (inr lacks) there = absurd lacks.1
  kind_given first (names number) (inl is) there = absurd is
  kind_given first (names number) (inr lacks) there = absurd lacks.1
  kind_given first (designates to) (inl is) there = absurd is
  kind_given first (designates to) (inr lacks) there = absurd lacks.1
  kind_given first (designates_bits at bit width) (inl is) there = absurd is
  kind_given first (designates_bits at bit width) (inr lacks) there = absurd lacks.1
  kind_given first missing is there = let clash : true ≡ false = there in cc (clash)

  abbrev pub HaveKinds : CExprs → Type 0
  HaveKinds no_exprs = Unit {0}
  HaveKinds (more_exprs first others) = ArgKind x first × HaveKinds others

  pub have_kinds : (last : Images) (w : World) (args : CExprs) (next : ℕ) (operands all : List COperand) → AreTyped x.home args → ArgsGiven x last w args next operands → all_given operands ≡ Ok all → HaveKinds args
  have_kinds last w no_exprs next operands all typed given e = tt
  have_kinds last w (more_exprs first others) next [] all typed given e = absurd given
  have_kinds last w (more_exprs first others) next (one ∷ rest) all typed given e =
      let parts = all_there x one rest all e in
      (kind_given first one.value (value_given x.home first one.value typed.0 given.0.given) parts.there, have_kinds last w others _ rest parts.rest typed.1 given.2 parts.rest_is)

  -- ---- types

  code_shape : (form : CTyForm) → is_function form ≡ true → (params : Tys) × (result : _) × (rust_pointer_form x.names.types form ≡ Code params result)
  code_shape (function result params variadic) e = (_, _, refl)
  code_shape void e = cc (e)
  code_shape (basic which) e = cc (e)
  code_shape (enum_type number) e = cc (e)
  code_shape (pointer to) e = cc (e)
  code_shape (array element count) e = cc (e)
  code_shape (record_type number) e = cc (e)

  object_shape : (form : CTyForm) → is_function form ≡ false → (to : Ty) × (rust_pointer_form x.names.types form ≡ Pointer to)
  object_shape (function result params variadic) e = cc (e)
  object_shape void e = (_, refl)
  object_shape (basic which) e = (_, refl)
  object_shape (enum_type number) e = (_, refl)
  object_shape (pointer to) e = (_, refl)
  object_shape (array element count) e = (_, refl)
  object_shape (record_type number) e = (_, refl)

  pointers_alike : (first second : CTyForm) (test : Bool) → is_function first ≡ test → is_function second ≡ test → alike (rust_pointer_form x.names.types second) (rust_pointer_form x.names.types first) ≡ true
  pointers_alike first second true is too =
      let one = code_shape first is in
      let other = code_shape second too in
      subst (λ (t : Ty). alike (rust_pointer_form x.names.types second) t ≡ true) (sym one.2) (subst (λ (t : Ty). alike t (Code one.0 one.1) ≡ true) (sym other.2) refl)
  pointers_alike first second false is too =
      let one = object_shape first is in
      let other = object_shape second too in
      subst (λ (t : Ty). alike (rust_pointer_form x.names.types second) t ≡ true) (sym one.1) (subst (λ (t : Ty). alike t (Pointer one.0) ≡ true) (sym other.1) refl)

  kind_of : (form : CTyForm) (kind : Scalar) → c_scalar_of x.home.program.types form ≡ Some kind → scalar_of (rust_form x.names.types form) ≡ Some kind
  kind_of form kind e = x.means.scalars (ty form false) kind (subst (λ (program : CProgram). c_scalar_of program.types form ≡ Some kind) x.means.program e)

  same_some : (one other : Scalar) → Some one ≡ Some other → one ≡ other
  same_some one other e = cc (e)

  enum_is : (number : ℕ) (signed : Bool) → c_scalar_of x.home.program.types (enum_type number) ≡ Some (scalars.Whole 32 signed) → Integer (x.names.types.enums number) ≡ Integer (word_of signed)
  enum_is number signed e =
      let of_it : Some (integer_scalar (x.names.types.enums number)) ≡ Some (scalars.Whole 32 signed) = kind_of (enum_type number) (scalars.Whole 32 signed) e in
      ap Integer (word_is (x.names.types.enums number) signed (same_some (integer_scalar (x.names.types.enums number)) (scalars.Whole 32 signed) of_it))

  two_words : (one other : Ty) (signed : Bool) → one ≡ Integer (word_of signed) → other ≡ Integer (word_of signed) → alike one other ≡ true
  two_words one other signed is too =
      subst (λ (t : Ty). alike one t ≡ true) (sym too) (subst (λ (t : Ty). alike t (Integer (word_of signed)) ≡ true) (sym is) (same_integer_itself (word_of signed)))

  -- compatible scalar types are alike
  pub forms_alike : (counts : ℕ → ℕ → Bool) (first second : CTyForm) (kind other : Scalar) → forms_agree x.home.program.types counts first second ≡ true → c_scalar_of x.home.program.types first ≡ Some kind → c_scalar_of x.home.program.types second ≡ Some other →
      kind ≡ other → alike (rust_form x.names.types second) (rust_form x.names.types first) ≡ true
  forms_alike counts (basic a) (basic b) kind other e is too same = subst (λ (which : Basic). alike (basic_type b) (basic_type which) ≡ true) (sym (basic_is a b e)) (basic_alike b)
  forms_alike counts (basic a) (enum_type b) kind other e is too same =
      let word = enum_word x.home.program.types b other (slice_get x.home.program.types.enums b) refl too in
      two_words _ _ word.0 (enum_is b word.0 (too ∙ ap Some word.1)) (basic_word a word.0 (same_some (scalar_of_basic a) kind is ∙ same ∙ word.1))
  forms_alike counts (enum_type a) (basic b) kind other e is too same =
      let word = enum_word x.home.program.types a kind (slice_get x.home.program.types.enums a) refl is in
      two_words _ _ word.0 (basic_word b word.0 (same_some (scalar_of_basic b) other too ∙ sym same ∙ word.1)) (enum_is a word.0 (is ∙ ap Some word.1))
  forms_alike counts (enum_type a) (enum_type b) kind other e is too same =
      let word = enum_word x.home.program.types a kind (slice_get x.home.program.types.enums a) refl is in
      two_words _ _ word.0 (enum_is b word.0 (too ∙ ap Some (sym same ∙ word.1))) (enum_is a word.0 (is ∙ ap Some word.1))
  forms_alike counts (pointer (ty a one)) (pointer (ty b two)) kind other e is too same =
      let meets = (and_parts _ (forms_agree x.home.program.types counts a b) e).1 in
      pointers_alike a b (is_function a) refl (sym (functions_alike x.home.program.types counts a b meets))
  forms_alike counts void second kind other e is too same = cc (is)
  forms_alike counts (array a m) second kind other e is too same = cc (is)
  forms_alike counts (record_type a) second kind other e is too same = cc (is)
  forms_alike counts (function a params more) second kind other e is too same = cc (is)
  forms_alike counts first void kind other e is too same = cc (too)
  forms_alike counts first (array b n) kind other e is too same = cc (too)
  forms_alike counts first (record_type b) kind other e is too same = cc (too)
  forms_alike counts first (function b params more) kind other e is too same = cc (too)
  forms_alike counts _ _ kind other e is too same = absurd cc

  -- ---- parameters

  param_alike : (a b : CTy) (by : AreCompatible x.home.program.types a b) (f s : CTyForm) (one two : Bool) (first : CExpr) → type_of first ≡ ty f false → forms_agree x.home.program.types (in_pairs by.pairs) f s ≡ true → ArgKind x first →
      alike (passed (is_passed (ty s two)) (rust_form x.names.types s)) (passed (is_passed (ty f one)) (rust_form x.names.types f)) ≡ true
  param_alike a b by f s one two first typed agrees (ArgKind.a_record of_it) =
      let visible : is_passed (ty f one) ≡ true = sym (same_test f one) ∙ (ap is_record (sym typed) ∙ of_it) in
      let own : is_passed (ty s two) ≡ true = sym (records_alike x.home.program.types (in_pairs by.pairs) f s false two agrees) ∙ (ap is_record (sym typed) ∙ of_it) in
      subst (λ (t : Bool). alike (passed t (rust_form x.names.types s)) (passed (is_passed (ty f one)) (rust_form x.names.types f)) ≡ true) (sym own)
      (subst (λ (t : Bool). alike (Pointer (rust_form x.names.types s)) (passed t (rust_form x.names.types f)) ≡ true) (sym visible) refl)
  param_alike a b by f s one two first typed agrees (ArgKind.of_kind kind kind_is) =
      let types = x.home.program.types in
      let f_kind : c_scalar_of types f ≡ Some kind = ap (λ (t : CTy). c_scalar_of types (form_of_type t)) (sym typed) ∙ kind_is in
      let s_kind : c_scalar_of types s ≡ Some kind = sym (alike_kind types (ty f false) (ty s false) (record { pairs = by.pairs; good = by.good; meet = agrees })) ∙ f_kind in
      subst (λ (t : Bool). alike (passed t (rust_form x.names.types s)) (passed (is_passed (ty f one)) (rust_form x.names.types f)) ≡ true) (sym (plain_kind s two kind s_kind))
      (subst (λ (t : Bool). alike (rust_form x.names.types s) (passed t (rust_form x.names.types f)) ≡ true) (sym (plain_kind f one kind f_kind)) (forms_alike (in_pairs by.pairs) f s kind kind agrees f_kind s_kind refl))

  pub params_are_alike : (a b : CTy) (by : AreCompatible x.home.program.types a b) (firsts seconds : CTys) (args : CExprs) → lists_agree x.home.program.types (in_pairs by.pairs) firsts seconds ≡ true → AreArguments x.home.program.types firsts false args → HaveKinds args →
      tys_alike (rust_types x.names.types seconds) (rust_types x.names.types firsts) ≡ true
  params_are_alike a b by no_types no_types args agree typed kinds = refl
  params_are_alike a b by no_types (more_types second seconds) args agree typed kinds = let clash : false ≡ true = agree in cc (clash)
  params_are_alike a b by (more_types (ty f one) firsts) no_types args agree typed kinds = let clash : false ≡ true = agree in cc (clash)
  params_are_alike a b by (more_types (ty f one) firsts) (more_types (ty s two) seconds) no_exprs agree typed kinds = absurd typed
  params_are_alike a b by (more_types (ty f one) firsts) (more_types (ty s two) seconds) (more_exprs first others) agree typed kinds =
      let parts = and_parts (forms_agree x.home.program.types (in_pairs by.pairs) f s) (lists_agree x.home.program.types (in_pairs by.pairs) firsts seconds) agree in
      both_hold _ _ (param_alike a b by f s one two first typed.0 parts.0 kinds.0) (params_are_alike a b by firsts seconds others parts.1 typed.1 kinds.1)
    where
      both_hold : (a b : Bool) → a ≡ true → b ≡ true → (a && b) ≡ true
      both_hold a b is too = rw (is) too

  -- the types of the pointer fit what is passed
  own_fits : (form : CTyForm) (one : Bool) (first : CExpr) (record_is : Bool) → is_record (type_of first) ≡ record_is → type_of first ≡ ty form false → ParamFits x record_is first (passed (is_passed (ty form one)) (rust_form x.names.types form))
  own_fits form one first true is typed =
      (rust_form x.names.types form, ap (λ (b : Bool). passed b (rust_form x.names.types form)) (sym (same_test form one) ∙ (ap is_record (sym typed) ∙ is)))
  own_fits form one first false is typed = λ kind kind_is.
      let own_kind : c_scalar_of x.home.program.types form ≡ Some kind = ap (λ (t : CTy). c_scalar_of x.home.program.types (form_of_type t)) (sym typed) ∙ kind_is in
      subst (λ (b : Bool). scalar_of (passed b (rust_form x.names.types form)) ≡ Some kind) (sym (plain_kind form one kind own_kind)) (kind_of form kind own_kind)

  pub visible_fits : (params : CTys) (args : CExprs) → AreArguments x.home.program.types params false args → ParamsFit x args (rust_types x.names.types params)
  visible_fits no_types no_exprs typed = tt
  visible_fits no_types (more_exprs first others) typed = let clash : false ≡ true = typed.0 in cc (clash)
  visible_fits (more_types param params) no_exprs typed = absurd typed
  visible_fits (more_types (ty form one) params) (more_exprs first others) typed = (own_fits form one first (is_record (type_of first)) refl typed.0, visible_fits params others typed.1)
