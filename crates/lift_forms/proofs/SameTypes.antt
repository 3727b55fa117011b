-- Types that a test takes for the same are the same, and each is the same as itself.
use Rattle.std.proofs.Common.{◌≡◌, ℕ, ◌==◌, Bool, true, false, ◌&&◌, List, [], ◌∷◌, get_or, bytes_eq, refl, sym, ap, ◌∙◌, arith}
use Rattle.std.proofs.lemmas.Bool.Decides.{nat_tests}
use Rattle.std.proofs.lemmas.Slice.Eq.{bytes_eq-Decides}
use Rattle.rs_mean.specs.Scalars.{integer_number, same_integer, same_type, same_types, same_results}
use Rattle.rs_text.specs.declared.integer.IntegerTy.{IntegerTy}
use Rattle.rs_text.specs.declared.integer.IntegerTy.TheVariants.{I8, I16, I32, I64, U8, U16, U32, U64, Isize, Usize}
use Rattle.rs_text.specs.Tree.{Ty, Integer, Boolean, Void, Pointer, Array, Code, Record, Tys, no_tys, more_tys, OptionTy, no_ty, some_ty}

pub both : {a b : Bool} → (a && b) ≡ true → (a ≡ true) × (b ≡ true)
both {a = true} {b = true} is = (refl, refl)
both {a = true} {b = false} is = absurd cc
both {a = false} {b = b} is = absurd cc

pub both_are_true : (a b : Bool) → a ≡ true → b ≡ true → (a && b) ≡ true
both_are_true true true p q = refl
both_are_true true false p q = absurd cc
both_are_true false b p q = absurd cc

same_number : (n : ℕ) → (n == n) ≡ true
same_number n = grind (arith, nat_tests)

number_is : (one other : ℕ) → (one == other) ≡ true → one ≡ other
number_is one other is = grind (arith, nat_tests)

-- the type of a number
abbrev numbered : ℕ → IntegerTy
numbered n = get_or (I8 ∷ I16 ∷ I32 ∷ I64 ∷ U8 ∷ U16 ∷ U32 ∷ U64 ∷ Isize ∷ Usize ∷ []) n I8

numbered_is : (which : IntegerTy) → numbered (integer_number which) ≡ which
numbered_is I8 = refl
numbered_is I16 = refl
numbered_is I32 = refl
numbered_is I64 = refl
numbered_is U8 = refl
numbered_is U16 = refl
numbered_is U32 = refl
numbered_is U64 = refl
numbered_is Isize = refl
numbered_is Usize = refl

pub same_integer_itself : (which : IntegerTy) → same_integer which which ≡ true
same_integer_itself which = same_number (integer_number which)

pub integer_is : (one other : IntegerTy) → same_integer one other ≡ true → one ≡ other
integer_is one other is =
    sym (numbered_is one) ∙ ap numbered (number_is (integer_number one) (integer_number other) is) ∙ numbered_is other

bytes_are : (one other : List ℕ) → bytes_eq one other ≡ true → one ≡ other
bytes_are one other is = grind (arith, bytes_eq-Decides one other, is)

same_bytes : (one : List ℕ) → bytes_eq one one ≡ true
same_bytes one = grind (arith, bytes_eq-Decides one one)

mutual
  pub same_itself : (ty : Ty) → same_type ty ty ≡ true
  same_itself (Integer which) = same_integer_itself which
  same_itself Boolean = refl
  same_itself Void = refl
  same_itself (Pointer target) = same_itself target
  same_itself (Array element size) = both_are_true _ _ (same_itself element) (same_number size)
  same_itself (Code params result) = both_are_true _ _ (all_themselves params) (result_itself result)
  same_itself (Record m x) = both_are_true _ _ (same_bytes m) (same_bytes x)

  all_themselves : (types : Tys) → same_types types types ≡ true
  all_themselves no_tys = refl
  all_themselves (more_tys ty others) = both_are_true _ _ (same_itself ty) (all_themselves others)

  result_itself : (result : OptionTy) → same_results result result ≡ true
  result_itself no_ty = refl
  result_itself (some_ty ty) = same_itself ty

mutual
  pub type_is : (one other : Ty) → same_type one other ≡ true → one ≡ other
  type_is (Integer one) (Integer other) is = ap Integer (integer_is one other is)
  type_is Boolean Boolean is = refl
  type_is Void Void is = refl
  type_is (Pointer one) (Pointer other) is = ap Pointer (type_is one other is)
  type_is (Array one one_size) (Array other other_size) is =
      ap (λ element. Array element one_size) (type_is one other (both is).0) ∙ ap (Array other) (number_is one_size other_size (both is).1)
  type_is (Code one one_result) (Code other other_result) is =
      ap (λ params. Code params one_result) (types_are one other (both is).0) ∙ ap (Code other) (result_is one_result other_result (both is).1)
  type_is (Record one_m one) (Record other_m other) is =
      ap (λ m. Record m one) (bytes_are one_m other_m (both is).0) ∙ ap (Record other_m) (bytes_are one other (both is).1)
  type_is one other is = absurd cc

  types_are : (one other : Tys) → same_types one other ≡ true → one ≡ other
  types_are no_tys no_tys is = refl
  types_are (more_tys one ones) (more_tys other others) is =
      ap (λ first. more_tys first ones) (type_is one other (both is).0) ∙ ap (more_tys other) (types_are ones others (both is).1)
  types_are one other is = absurd cc

  result_is : (one other : OptionTy) → same_results one other ≡ true → one ≡ other
  result_is no_ty no_ty is = refl
  result_is (some_ty one) (some_ty other) is = ap some_ty (type_is one other is)
  result_is one other is = absurd cc
