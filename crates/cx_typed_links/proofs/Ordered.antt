-- The things of a program of typed units stand unit by unit, and what its units order is there (ISO C99, 6.2.2p2).
use Rattle.std.proofs.Common.{arith, ◌≡◌, inl, inr, ℕ, suc, ◌+◌, ◌==◌, Bool, true, false, List, [], ◌∷◌, All, Option, None, Some, is_some, slice_get, refl, sym, ap, ◌∙◌, subst}
use Rattle.std.specs.Prelude.{◌⊎◌, IsSome, IfSome}
use Rattle.std.proofs.lemmas.List.Elements.{All-contains}
use Rattle.cx_core.specs.Linked.{is_external, program_of, IsTypedObject, IsTypedUnit}
use Rattle.cx_core.specs.Trees.{CKey, a_function, an_object, a_record, a_calloc, CObject, CFun, COuter, CUnit}
use Rattle.cx_core.specs.Typing.{CCallee, object_with, function_with, outer_with, callee_with}
use Rattle.cx_links.proofs.UnitOrder.{objects_stand_unit_by_unit, units_are_below_the_count}
use Rattle.cx_links.specs.Laws.{AreHere}
use Rattle.cx_links.specs.Program.{CFound, function_of_name, object_number, function_number, linked}
use Rattle.cx_typed_links.proofs.Callees.{callee_defined, callee_named, callee_left}
use Rattle.cx_typed_links.proofs.ExternalObjects.{some_of, external_object_found}
use Rattle.cx_typed_links.proofs.MeantThings.{among, external_has}
use Rattle.cx_typed_links.proofs.OwnObjects.{own_object}
use Rattle.cx_typed_links.specs.Laws.{AreTypedUnits}
use Rattle.cx_typed_links.specs.Ordered.{IsLeftOut, OrderedThingsStand, TypedUnitsStandInOrder}

-- ---- unit by unit

all_here : (k : ℕ) (units : List CUnit) → ((n : ℕ) (one : CUnit) → slice_get units n ≡ Some one → IsTypedUnit (k + n) one) → AreHere k units
all_here k [] typed = tt
all_here k (one ∷ others) typed =
    let same : k + 0 ≡ k = omega arith in
    let here = subst (λ n. IsTypedUnit n one) same (typed 0 one refl) in
    (here.objects_here, here.functions_here, all_here (suc k) others (λ n other is. subst (λ m. IsTypedUnit m other) (further n) (typed (suc n) other is)))
  where
    further : (n : ℕ) → k + suc n ≡ suc k + n
    further n = omega arith

units_here : (units : List CUnit) → AreTypedUnits units → AreHere 0 units
units_here units typed = all_here 0 units (λ n one is. subst (λ m. IsTypedUnit m one) (from_zero n) (typed n one is))
  where
    from_zero : (n : ℕ) → n ≡ 0 + n
    from_zero n = omega arith

pub typed_units_stand_in_order : TypedUnitsStandInOrder
typed_units_stand_in_order units typed =
    let here = units_here units typed in
    let below = units_are_below_the_count units here in
    (objects_stand_unit_by_unit units here, below.0, below.1)

-- ---- what a unit orders

module _ (units : List CUnit) (typed : AreTypedUnits units) (unit : ℕ) (one : CUnit) (is : slice_get units unit ≡ Some one) (number : ℕ) where
  -- ---- an object

  abbrev IsThere : Type 0
  IsThere = IsSome (object_with (object_number units one unit number) (linked units).objects)

  object_by : (known : CObject) → object_with number one.objects ≡ Some known → (external : Bool) → is_external known.linkage ≡ external → IsThere
  object_by known found false external = ap is_some (own_object units typed unit one is number known found external)
  object_by known found true external =
      let at = (among (λ other. other.object == number) one.objects known found).0 in
      let name = some_of known.name ((All-contains (IsTypedObject (program_of one) (Some one.mentions)) one.objects known (typed unit one is).objects at).named (external_has known.linkage external)) in
      ap is_some (external_object_found units typed unit one is number known found external name.0 name.1).there

  object_there : (found : Option CObject) → object_with number one.objects ≡ found → IsSome found → IsThere
  object_there None found some = absurd cc
  object_there (Some known) found some = object_by known found (is_external known.linkage) refl

  -- ---- a function

  abbrev IsCalled : Type 0
  IsCalled = IsSome (callee_with (function_number units one unit number) (linked units))

  named_by : (outer : COuter) → outer_with number one.externals ≡ Some outer → is_external outer.linkage ≡ true
      → (found : Option (CFound CFun)) → function_of_name units outer.name ≡ found → IsCalled
  named_by outer is_outer external (Some found) found_is = ap is_some (callee_named units typed unit one is number outer is_outer external found found_is)
  named_by outer is_outer external None undefined = ap is_some (callee_left units typed unit one is number outer is_outer external undefined).callee

  outer_by : function_with number one.functions ≡ None → (outer : COuter) → outer_with number one.externals ≡ Some outer
      → (external : Bool) → is_external outer.linkage ≡ external → IsCalled ⊎ IsLeftOut one (a_function number)
  outer_by undefined outer is_outer true external = inl (named_by outer is_outer external (function_of_name units outer.name) refl)
  outer_by undefined outer is_outer false external =
      inr (undefined, subst (λ found. IfSome found (λ (other : COuter). is_external other.linkage ≡ false)) (sym is_outer) external)

  abbrev callee_of : Option CFun → Option COuter → Option CCallee
  callee_of (Some known) outer = Some (record { type = known.type; outer = None })
  callee_of None (Some outer) = Some (record { type = outer.type; outer = Some outer })
  callee_of None None = None

  function_there : (known : Option CFun) (outer : Option COuter) → function_with number one.functions ≡ known → outer_with number one.externals ≡ outer
      → IsSome (callee_of known outer) → IsCalled ⊎ IsLeftOut one (a_function number)
  function_there (Some known) outer found is_outer some = inl (ap is_some (callee_defined units typed unit one is number known found))
  function_there None (Some outer) found is_outer some = outer_by found outer is_outer (is_external outer.linkage) refl
  function_there None None found is_outer some = absurd cc

pub ordered_things_stand : OrderedThingsStand
ordered_things_stand units typed unit one is (a_function number) key =
    function_there units typed unit one is number (function_with number one.functions) (outer_with number one.externals) refl refl key
ordered_things_stand units typed unit one is (an_object number) key = inl (object_there units typed unit one is number (object_with number one.objects) refl key)
ordered_things_stand units typed unit one is (a_record number) key = absurd key
ordered_things_stand units typed unit one is a_calloc key = absurd key
