-- Types that are compared with an integer type.
use Rattle.std.proofs.Common.{◌≡◌, ℕ, zero, suc, ◌<◌, ◌==◌, List, [], ◌∷◌, map, length, drop, Bool, true, false, refl, sym, ◌∙◌, arith}
use Rattle.std.proofs.lemmas.Bool.Decides.{nat_tests}
use Rattle.rs_text.specs.declared.integer.IntegerTy.{IntegerTy}
use Rattle.rs_text.specs.Tree.{Ty, Integer, Boolean, Void, Pointer, Array, Code, Record}
use Rattle.rs_tree.specs.declared.ty.RTy.{RTy}
use Rattle.rs_tree.specs.Views.{ty_view}
use Rattle.rs_types.specs.declared.known.ParamTy.{ParamTy}
use Rattle.rs_types.specs.KnownTypes.{params_view}
use Rattle.rs_mean.specs.Typing.{are_known_types}
use Rattle.rs_mean.specs.Scalars.{integer_number, same_integer, same_type}

false_by : (b : Bool) → (b ≡ true → ⊥) → b ≡ false
false_by true h = absurd (h refl)
false_by false h = refl

clash : (b : Bool) → b ≡ true → b ≡ false → ⊥
clash true h g = cc
clash false h g = cc

equal_turned : (a b : ℕ) → (a == b) ≡ (b == a)
equal_turned a b = by_equal (a == b) refl
  where
    turned : (x y : ℕ) → (x == y) ≡ true → (y == x) ≡ true
    turned x y h = grind (arith, nat_tests, h)

    by_equal : (t : Bool) → (a == b) ≡ t → (a == b) ≡ (b == a)
    by_equal true h = h ∙ sym (turned a b h)
    by_equal false h = h ∙ sym (false_by (b == a) (λ other. clash (a == b) (turned b a other) h))

integer_turned : (one other : IntegerTy) → same_integer one other ≡ same_integer other one
integer_turned one other = equal_turned (integer_number one) (integer_number other)

pub same_as_integer : (one : IntegerTy) (ty : Ty) → same_type (Integer one) ty ≡ same_type ty (Integer one)
same_as_integer one (Integer other) = integer_turned one other
same_as_integer one Boolean = refl
same_as_integer one Void = refl
same_as_integer one (Pointer target) = refl
same_as_integer one (Array element size) = refl
same_as_integer one (Code params result) = refl
same_as_integer one (Record m x) = refl

-- a known function has one parameter more
pub one_more : (known : List ParamTy) (index : ℕ) (params : List RTy) → index < length known → length params < 1 →
    false ≡ are_known_types (params_view (drop index known)) (map ty_view params)
one_more known index (param ∷ params) h none = absurd (omega (arith, none))
one_more [] index [] h none = absurd (omega (arith, h))
one_more (one ∷ known) zero [] h none = refl
one_more (one ∷ known) (suc index) [] h none = let less : index < length known = omega (arith, h) in one_more known index [] less none
