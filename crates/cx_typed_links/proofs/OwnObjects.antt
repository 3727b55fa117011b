-- An object of a unit that has no external linkage is in the program, and is found there by its number (ISO C99, 6.2.2, 6.2.4).
use Rattle.std.proofs.Common.{◌≡◌, ℕ, zero, suc, ◌+◌, ◌==◌, Bool, true, false, ◌||◌, if◌then◌else◌, List, [], ◌∷◌, ◌++◌, Option, None, Some, option_map, slice_get, refl, sym, ap, ◌∙◌, arith, subst}
use Rattle.std.specs.Prelude.{cond, IsSome, IfSome}
use Rattle.std.specs.List.{list_any}
use Rattle.std.proofs.lemmas.List.Folds.{list_any-append}
use Rattle.cx_core.specs.declared.program.Linkage.TheVariants.{Nothing}
use Rattle.cx_core.specs.Linked.{is_external}
use Rattle.cx_core.specs.Trees.{CPuts, CObject, CUnit}
use Rattle.cx_core.specs.Typing.{object_with, IsStaticObject}
use Rattle.cx_links.specs.Program.{CFound, object_at, object_by, object_number, numbers_of, from_each, external_object, objects_from, linked}
use Rattle.cx_renumber.specs.Numbers.{CNumbers, puts_there, object_there}
use Rattle.cx_typed_links.proofs.Joined.{none_on}
use Rattle.cx_typed_links.proofs.Objects.{IsOwnIn, named_in, own_number, external_number, all_own, named_thing, object_at_number, linked_objects}
use Rattle.cx_typed_links.proofs.Places.{found_holds, any_found, same_number, number_itself}
use Rattle.cx_typed_links.specs.Laws.{AreTypedUnits}

pub first_holds : (a b : Bool) → a ≡ true → (a || b) ≡ true
first_holds true b is = refl
first_holds false b is = absurd cc

pub second_holds : (a b : Bool) → b ≡ true → (a || b) ≡ true
second_holds true b is = refl
second_holds false b is = is

-- ---- what one unit gives, the program has

module _ {A : Type 0} (test : A → Bool) (gives : CUnit → ℕ → List A) where
  pub any_in_first : (xs ys : List A) → list_any test xs ≡ true → list_any test (xs ++ ys) ≡ true
  any_in_first xs ys is = list_any-append test xs ys ∙ first_holds (list_any test xs) (list_any test ys) is

  pub any_in_second : (xs ys : List A) → list_any test ys ≡ true → list_any test (xs ++ ys) ≡ true
  any_in_second xs ys is = list_any-append test xs ys ∙ second_holds (list_any test xs) (list_any test ys) is

  nothing_on : (n : ℕ) → n + 0 ≡ n
  nothing_on n = omega arith

  one_on : (n at : ℕ) → n + suc at ≡ suc n + at
  one_on n at = omega arith

  pub any_given : (start : ℕ) (units : List CUnit) (at : ℕ) (one : CUnit) → slice_get units at ≡ Some one → list_any test (gives one (start + at)) ≡ true
      → list_any test (from_each gives start units) ≡ true
  any_given start [] at one is any = absurd cc
  any_given start (first ∷ others) zero one is any =
      let same : first ≡ one = cc (is) in
      any_in_first (gives first start) (from_each gives (suc start) others)
      (subst (λ (found : CUnit). list_any test (gives found start) ≡ true) (sym same) (subst (λ n. list_any test (gives one n) ≡ true) (nothing_on start) any))
  any_given start (first ∷ others) (suc at) one is any =
      any_in_second (gives first start) (from_each gives (suc start) others)
      (any_given (suc start) others at one is (subst (λ n. list_any test (gives one n) ≡ true) (one_on start at) any))

module _ (units : List CUnit) (unit : ℕ) (one : CUnit) where
  abbrev has_number : ℕ → CObject → Bool
  has_number number known = known.object == object_number units one unit number

  abbrev part : CObject → List CObject
  part known = if is_external known.linkage then external_object units unit known.name else object_there (numbers_of units one unit) known ∷ []

  own_part : (number : ℕ) (known : CObject) → known.object ≡ number → (external : Bool) → external ≡ false
      → list_any (has_number number) (if external then external_object units unit known.name else object_there (numbers_of units one unit) known ∷ []) ≡ true
  own_part number known is true not_external = absurd cc
  own_part number known is false not_external =
      first_holds (object_number units one unit known.object == object_number units one unit number) false
      (subst (λ n. (object_number units one unit n == object_number units one unit number) ≡ true) (sym is) (number_itself (object_number units one unit number)))

  own_by : (number : ℕ) (first known : CObject) (others : List CObject) (passes : Bool) → (first.object == number) ≡ passes
      → cond passes (Some first) (object_with number others) ≡ Some known → is_external known.linkage ≡ false
      → (object_with number others ≡ Some known → list_any (has_number number) (objects_from units one unit others) ≡ true)
      → list_any (has_number number) (part first ++ objects_from units one unit others) ≡ true
  own_by number first known others true passes is not_external later =
      let same : first ≡ known = cc (is) in
      any_in_first (has_number number) (λ _ _. []) (part first) (objects_from units one unit others)
      (own_part number first (same_number first.object number passes) (is_external first.linkage)
      (subst (λ (found : CObject). is_external found.linkage ≡ false) (sym same) not_external))
  own_by number first known others false passes is not_external later =
      any_in_second (has_number number) (λ _ _. []) (part first) (objects_from units one unit others) (later is)

  own_in : (number : ℕ) (known : CObject) (objects : List CObject) → object_with number objects ≡ Some known → is_external known.linkage ≡ false
      → list_any (has_number number) (objects_from units one unit objects) ≡ true
  own_in number known [] is not_external = absurd cc
  own_in number known (first ∷ others) is not_external =
      own_by number first known others (first.object == number) refl is not_external (λ there. own_in number known others there not_external)

module _ (units : List CUnit) (typed : AreTypedUnits units) (unit : ℕ) (one : CUnit) (is : slice_get units unit ≡ Some one) where
  abbrev numbers : CNumbers
  numbers = numbers_of units one unit

  -- an object that is found has the number by which it is found
  pub own_of : (number : ℕ) (known : CObject) → object_with number one.objects ≡ Some known → IsOwnIn units unit one known × (known.object ≡ number)
  own_of number known found =
      let held = found_holds (λ other. object_with other.object one.objects ≡ Some other) (λ other. other.object == number) one.objects known
      (all_own units typed unit one is) found in
      (record { unit_is = is; own = held.0 }, same_number known.object number held.1)

  some_own : (number : ℕ) (known : CObject) → object_with number one.objects ≡ Some known → is_external known.linkage ≡ false
      → IsSome (object_with (object_number units one unit number) (linked units).objects)
  some_own number known found not_external =
      any_found (λ other. other.object == object_number units one unit number) (linked units).objects
      (subst (λ all. list_any (λ other. other.object == object_number units one unit number) all ≡ true) (sym (linked_objects units typed))
      (any_given (λ other. other.object == object_number units one unit number) (λ home n. objects_from units home n home.objects) 0 units unit one is
      (subst (λ n. list_any (λ other. other.object == object_number units one unit number) (objects_from units one n one.objects) ≡ true) (sym (none_on unit))
      (own_in units unit one number known one.objects found not_external))))

  own_place : (number : ℕ) (known : CObject) → object_with number one.objects ≡ Some known → is_external known.linkage ≡ false
      → object_number units one unit number ≡ object_at units unit known.object
  own_place number known found not_external =
      let own = own_of number known found in
      subst (λ n. object_number units one unit n ≡ object_at units unit known.object) own.1
      (own_number units unit one known own.0.own not_external)

  found_as : (number : ℕ) (known : CObject) → object_with number one.objects ≡ Some known → is_external known.linkage ≡ false → (there : Option CObject)
      → object_with (object_number units one unit number) (linked units).objects ≡ there → IsSome there
      → object_with (object_number units one unit number) (linked units).objects ≡ Some (object_there numbers known)
  found_as number known found not_external None there some = absurd cc
  found_as number known found not_external (Some other) there some =
      there ∙ ap (λ object. Some object)
      (object_at_number units typed unit one known (own_of number known found).0 other
      (subst (λ n. object_with n (linked units).objects ≡ Some other) (own_place number known found not_external) there))

  -- an object without external linkage stands in the program as its unit has it, renumbered
  pub own_object : (number : ℕ) (known : CObject) → object_with number one.objects ≡ Some known → is_external known.linkage ≡ false
      → object_with (object_number units one unit number) (linked units).objects ≡ Some (object_there numbers known)
  own_object number known found not_external =
      found_as number known found not_external (object_with (object_number units one unit number) (linked units).objects) refl
      (some_own number known found not_external)

  -- ---- static objects

  abbrev IsStaticOne : CObject → Type 0
  IsStaticOne known = known.linkage ≡ Nothing → IsSome known.puts

  some_puts : (puts : Option CPuts) → IsSome puts → IsSome (option_map (puts_there numbers) puts)
  some_puts None some = some
  some_puts (Some puts) some = refl

  external_is_static : (known : CObject) → is_external known.linkage ≡ true → IsStaticOne known
  external_is_static known external nothing =
      absurd (let h : false ≡ true = sym (ap is_external nothing) ∙ external in cc)

  if_static : (there : Option CObject) → ((other : CObject) → there ≡ Some other → IsStaticOne other) → IfSome there IsStaticOne
  if_static None each = tt
  if_static (Some other) each = each other refl

  -- what stands at the number that a name with external linkage has, is external
  named_static : (known : CObject) → IsOwnIn units unit one known → is_external known.linkage ≡ true → (name : Option (List ℕ)) → (found : Option (CFound CObject))
      → named_in units name ≡ found → (other : CObject)
      → object_with (object_by units (object_at units unit known.object) found) (linked units).objects ≡ Some other → IsStaticOne other
  named_static known own external name None named other there =
      subst IsStaticOne (sym (object_at_number units typed unit one known own other there)) (external_is_static (object_there numbers known) external)
  named_static known own external None (Some found) named other there = absurd cc
  named_static known own external (Some name) (Some found) named other there =
      let thing = named_thing units typed name found named in
      subst IsStaticOne (sym (object_at_number units typed found.unit found.home found.thing thing.own other there))
      (external_is_static (object_there (numbers_of units found.home found.unit) found.thing) thing.external)

  static_by : (number : ℕ) (known : CObject) → object_with number one.objects ≡ Some known → IsStaticOne known → (external : Bool) → is_external known.linkage ≡ external
      → IsStaticObject (linked units) (object_number units one unit number)
  static_by number known found static false external =
      subst (λ there. IfSome there IsStaticOne) (sym (own_object number known found external))
      (λ nothing. some_puts known.puts (static nothing))
  static_by number known found static true external =
      let own = own_of number known found in
      if_static (object_with (object_number units one unit number) (linked units).objects)
      (λ other there. named_static known own.0 external known.name (named_in units known.name) refl other
      (subst (λ n. object_with n (linked units).objects ≡ Some other)
      (subst (λ n. object_number units one unit n ≡ object_by units (object_at units unit known.object) (named_in units known.name)) own.1
      (external_number units unit one known own.0.own external)) there))

  static_if : (number : ℕ) (found : Option CObject) → object_with number one.objects ≡ found → IsSome found → IfSome found IsStaticOne
      → IsStaticObject (linked units) (object_number units one unit number)
  static_if number None found some static = absurd cc
  static_if number (Some known) found some static = static_by number known found static (is_external known.linkage) refl

  -- a static object is one in the program
  pub static_object : (number : ℕ) → IsSome (object_with number one.objects) → IfSome (object_with number one.objects) IsStaticOne
      → IsStaticObject (linked units) (object_number units one unit number)
  static_object number some static = static_if number (object_with number one.objects) refl some static
