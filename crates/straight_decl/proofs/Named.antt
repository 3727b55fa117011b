-- The names and the numbers of the objects of a unit differ, and an object's number finds it.
use Rattle.std.proofs.Common.{◌≡◌, ◌≢◌, ℕ, suc, ◌+◌, ◌<◌, ◌≤◌, Bool, true, false, cond, ◌||◌, ◌&&◌, List, [], ◌∷◌, ◌++◌, length, map, Option, Some, None, option_map, IsSome, bytes_eq, refl, sym, ap, subst, ◌∙◌, arith, ◌⊎◌, inl, inr}
use Rattle.std.specs.List.{list_any, AllByRecursion, IsDistinct}
use Rattle.std.proofs.Math.Dec.{eqb}
use Rattle.std.proofs.lemmas.Bool.{ne_eqb}
use Rattle.std.proofs.lemmas.Bool.Decides.{eqb_tells}
use Rattle.std.proofs.lemmas.Cmp.{nat_list_eq_equiv}
use Rattle.std.proofs.lemmas.Slice.Eq.{bytes_eq-Decides}
use Rattle.std.proofs.lemmas.List.{length-append}
use Rattle.std.proofs.lemmas.List.Folds.{list_any-append}
use Rattle.std.proofs.lemmas.Map.Keys.{IsDistinct-cons}
use Rattle.straight_core.specs.Linked.{names_of_objects}
use Rattle.straight_core.specs.Trees.{CObject}
use Rattle.straight_core.specs.Typing.{object_with, IsObjectOf}
use Rattle.straight_decl.specs.CoreOf.{Scope, is_declared, int_type, with_object, object_named, scope_behind, main_name, putchar_name}
use Rattle.straight_decl.proofs.Linking.{IsDeclaredIn, AreDeclaredFrom, same}

-- names that the test finds equal are
bytes_equal : (one other : List ℕ) → bytes_eq one other ≡ true → one ≡ other
bytes_equal one other e = (bytes_eq-Decides one other).0 e

-- ---- numbers

-- one name more in a scope
length-with_object : (unit : ℕ) (scope : Scope) (one : CObject) → IsDeclaredIn unit scope one → length (with_object scope one).objects ≡ suc (length scope.objects)
length-with_object unit scope one is = length-append scope.objects _ ∙ omega arith

-- a number below those of the objects is none of them
pub numbers_above : (unit : ℕ) (scope : Scope) (objects : List CObject) → AreDeclaredFrom unit scope objects → (k : ℕ) → k < length scope.objects → AllByRecursion (λ number. eqb k number ≡ false) (map (λ one. one.object) objects)
numbers_above unit scope [] are k less = tt
numbers_above unit scope (one ∷ others) are k less =
    let number : one.object ≡ length scope.objects = ap (λ o. o.object) are.0.is in (
      ne_eqb k one.object (λ e. absurd (omega (arith, e, number, less))),
      numbers_above unit (with_object scope one) others are.1 k (omega (arith, less, length-with_object unit scope one are.0)),
    )

pub numbers_differ : (unit : ℕ) (scope : Scope) (objects : List CObject) → AreDeclaredFrom unit scope objects → IsDistinct eqb (map (λ one. one.object) objects)
unfolding IsDistinct
numbers_differ unit scope [] are = tt
numbers_differ unit scope (one ∷ others) are =
    let number : one.object ≡ length scope.objects = ap (λ o. o.object) are.0.is in
    IsDistinct-cons eqb one.object (map (λ o. o.object) others)
    (numbers_above unit (with_object scope one) others are.1 one.object (omega (arith, number, length-with_object unit scope one are.0)))
    (numbers_differ unit (with_object scope one) others are.1)

-- ---- an object by its number

-- the objects with numbers from that of a scope on, by number
pub found_object : (unit : ℕ) (scope : Scope) (objects : List CObject) → AreDeclaredFrom unit scope objects → (k : ℕ) → length scope.objects ≤ k → k < length scope.objects + length objects →
    (one : CObject) × (object_with k objects ≡ Some one) × IsObjectOf int_type one
found_object unit scope [] are k least most = absurd (omega (arith, least, most))
found_object unit scope (one ∷ others) are k least most = by_case (eqb_tells one.object k) (found_object unit (with_object scope one) others are.1 k)
  where
    number : one.object ≡ length scope.objects
    number = ap (λ o. o.object) are.0.is

    by_case : ((eqb one.object k ≡ true) × (one.object ≡ k)) ⊎ ((eqb one.object k ≡ false) × (one.object ≢ k)) →
        (length (with_object scope one).objects ≤ k → k < length (with_object scope one).objects + length others → (found : CObject) × (object_with k others ≡ Some found) × IsObjectOf int_type found) →
        (found : CObject) × (object_with k (one ∷ others) ≡ Some found) × IsObjectOf int_type found
    by_case (inl (test, e)) behind = (one, ap (λ b. cond b (Some one) (object_with k others)) test, record { type_is = ap (λ o. o.type) are.0.is; defined = subst IsSome (sym (ap (λ o. o.puts) are.0.is)) refl })
    by_case (inr (test, other)) behind =
        let rest = behind (omega (arith, least, number, other, length-with_object unit scope one are.0)) (omega (arith, most, length-with_object unit scope one are.0)) in
        (rest.0, ap (λ b. cond b (Some one) (object_with k others)) test ∙ rest.1, rest.2)

-- the number of a name is below the count of the names
pub object_named_below : (name : List ℕ) (names : List (List ℕ)) (k : ℕ) → object_named name names ≡ Some k → k < length names
object_named_below name [] k e = cc
object_named_below name (first ∷ others) k e = by_test (bytes_eq first name) e (λ j f. object_named_below name others j f)
  where
    by_rest : (found : Option ℕ) → option_map suc found ≡ Some k → ((j : ℕ) → found ≡ Some j → j < length others) → k < length (first ∷ others)
    by_rest None f rest = cc
    by_rest (Some j) f rest = omega (arith, rest j refl, same (suc j) k f)

    by_test : (test : Bool) → cond test (Some 0) (option_map suc (object_named name others)) ≡ Some k → ((j : ℕ) → object_named name others ≡ Some j → j < length others) → k < length (first ∷ others)
    by_test true f rest = omega (arith, same 0 k f)
    by_test false f rest = by_rest (object_named name others) f rest

-- the names of the scope behind objects
pub length-scope_behind : (unit : ℕ) (scope : Scope) (objects : List CObject) → AreDeclaredFrom unit scope objects → length (scope_behind scope objects).objects ≡ length scope.objects + length objects
length-scope_behind unit scope [] are = omega arith
length-scope_behind unit scope (one ∷ others) are = length-scope_behind unit (with_object scope one) others are.1 ∙ omega (arith, length-with_object unit scope one are.0)

-- ---- names

-- names of which one is declared and the other isn't
pub apart : (one other : List ℕ) (scope : Scope) → is_declared one scope ≡ true → is_declared other scope ≡ false → bytes_eq one other ≡ false
apart one other scope e f = by_test (bytes_eq one other) refl
  where
    clash : true ≡ false → bytes_eq one other ≡ false
    clash g = cc

    by_test : (test : Bool) → bytes_eq one other ≡ test → bytes_eq one other ≡ false
    by_test false g = g
    by_test true g = clash (sym e ∙ ap (λ name. is_declared name scope) (bytes_equal one other g) ∙ f)

or_true : (a b : Bool) → b ≡ true → (a || b) ≡ true
or_true true b e = refl
or_true false b e = e

true_or : (a b : Bool) → a ≡ true → (a || b) ≡ true
true_or true b e = refl
true_or false b e = cc

-- the name of an object is declared behind it, and what was declared before still is
pub declared_here : (unit : ℕ) (scope : Scope) (one : CObject) (is : IsDeclaredIn unit scope one) → is_declared is.name (with_object scope one) ≡ true
declared_here unit scope one is =
    let named : (with_object scope one).objects ≡ scope.objects ++ is.name ∷ [] = ap (λ o. (with_object scope o).objects) is.is in
    let found : list_any (λ other. bytes_eq other is.name) (with_object scope one).objects ≡ true =
    ap (list_any (λ other. bytes_eq other is.name)) named ∙ list_any-append (λ other. bytes_eq other is.name) scope.objects (is.name ∷ [])
    ∙ or_true (list_any (λ other. bytes_eq other is.name) scope.objects) (list_any (λ other. bytes_eq other is.name) (is.name ∷ [])) (true_or (bytes_eq is.name is.name) false (nat_list_eq_equiv.refl is.name)) in
    by_three (list_any (λ other. bytes_eq other is.name) (with_object scope one).objects) (scope.has_putchar && bytes_eq putchar_name is.name) (bytes_eq main_name is.name) found
  where
    by_three : (a b c : Bool) → a ≡ true → (a || b || c) ≡ true
    by_three true b c e = refl
    by_three false b c e = cc

pub declared_later : (name : List ℕ) (unit : ℕ) (scope : Scope) (one : CObject) (is : IsDeclaredIn unit scope one) → is_declared name scope ≡ true → is_declared name (with_object scope one) ≡ true
declared_later name unit scope one is e =
    let named : (with_object scope one).objects ≡ scope.objects ++ is.name ∷ [] = ap (λ o. (with_object scope o).objects) is.is in
    let found : list_any (λ other. bytes_eq other name) (with_object scope one).objects ≡ (list_any (λ other. bytes_eq other name) scope.objects || list_any (λ other. bytes_eq other name) (is.name ∷ [])) =
    ap (list_any (λ other. bytes_eq other name)) named ∙ list_any-append (λ other. bytes_eq other name) scope.objects (is.name ∷ []) in
    ap (λ b. b || (scope.has_putchar && bytes_eq putchar_name name) || bytes_eq main_name name) found
    ∙ more_or (list_any (λ other. bytes_eq other name) scope.objects) (list_any (λ other. bytes_eq other name) (is.name ∷ [])) (scope.has_putchar && bytes_eq putchar_name name) (bytes_eq main_name name) e
  where
    more_or : (a more b c : Bool) → (a || b || c) ≡ true → ((a || more) || b || c) ≡ true
    more_or true more b c e = refl
    more_or false true b c e = refl
    more_or false false b c e = e

-- the names of objects, as a list
abbrev pub names_from : (unit : ℕ) (scope : Scope) (objects : List CObject) → AreDeclaredFrom unit scope objects → List (List ℕ)
names_from unit scope [] are = []
names_from unit scope (one ∷ others) are = are.0.name ∷ names_from unit (with_object scope one) others are.1

pub names_are : (unit : ℕ) (scope : Scope) (objects : List CObject) (are : AreDeclaredFrom unit scope objects) → names_of_objects objects ≡ names_from unit scope objects are
names_are unit scope [] are = refl
names_are unit scope (one ∷ others) are =
    ap (λ o. names_of_objects (o ∷ others)) are.0.is ∙ ap (λ names. are.0.name ∷ names) (names_are unit (with_object scope one) others are.1)

-- a name that is declared is none of those of the objects behind
apart_from_later : (name : List ℕ) (unit : ℕ) (scope : Scope) (objects : List CObject) (are : AreDeclaredFrom unit scope objects) → is_declared name scope ≡ true → AllByRecursion (λ other. bytes_eq name other ≡ false) (names_from unit scope objects are)
apart_from_later name unit scope [] are e = tt
apart_from_later name unit scope (one ∷ others) are e =
    (apart name are.0.name scope e are.0.new, apart_from_later name unit (with_object scope one) others are.1 (declared_later name unit scope one are.0 e))

-- the names of objects differ from one another, and from names that were declared before them
both_lists : (P : List ℕ → Type 0) (xs ys : List (List ℕ)) → AllByRecursion P xs → AllByRecursion P ys → AllByRecursion P (xs ++ ys)
both_lists P [] ys p q = q
both_lists P (x ∷ xs) ys p q = (p.0, both_lists P xs ys p.1 q)

apart_from_earlier : (unit : ℕ) (scope : Scope) (one : CObject) (is : IsDeclaredIn unit scope one) (rest : List (List ℕ)) → AllByRecursion (λ name. is_declared name scope ≡ true) rest → AllByRecursion (λ other. bytes_eq is.name other ≡ false) rest
apart_from_earlier unit scope one is [] all = tt
apart_from_earlier unit scope one is (name ∷ rest) all = (nat_list_eq_equiv.symm is.name name ∙ apart name is.name scope all.0 is.new, apart_from_earlier unit scope one is rest all.1)

later_all : (unit : ℕ) (scope : Scope) (one : CObject) (is : IsDeclaredIn unit scope one) (rest : List (List ℕ)) → AllByRecursion (λ name. is_declared name scope ≡ true) rest → AllByRecursion (λ name. is_declared name (with_object scope one) ≡ true) rest
later_all unit scope one is [] all = tt
later_all unit scope one is (name ∷ rest) all = (declared_later name unit scope one is all.0, later_all unit scope one is rest all.1)

pub names_distinct : (unit : ℕ) (scope : Scope) (objects : List CObject) (are : AreDeclaredFrom unit scope objects) (rest : List (List ℕ)) → AllByRecursion (λ name. is_declared name scope ≡ true) rest → IsDistinct bytes_eq rest → IsDistinct bytes_eq (names_from unit scope objects are ++ rest)
names_distinct unit scope [] are rest all distinct = distinct
names_distinct unit scope (one ∷ others) are rest all distinct =
    IsDistinct-cons bytes_eq are.0.name (names_from unit (with_object scope one) others are.1 ++ rest)
    (both_lists (λ other. bytes_eq are.0.name other ≡ false) (names_from unit (with_object scope one) others are.1) rest
    (apart_from_later are.0.name unit (with_object scope one) others are.1 (declared_here unit scope one are.0))
    (apart_from_earlier unit scope one are.0 rest all))
    (names_distinct unit (with_object scope one) others are.1 rest (later_all unit scope one are.0 rest all) distinct)
