-- The program of units that each stand in themselves stands in them (ISO C99, 5.1.1.1).
use Rattle.std.proofs.Common.{◌≡◌, ℕ, zero, suc, ◌<◌, Bool, if◌then◌else◌, List, [], ◌∷◌, map, length, Option, None, Some, find, slice_get, All, refl, sym, subst, arith}
use Rattle.std.proofs.lemmas.List.Elements.{All-head, All-tail, All-weaker}
use Rattle.std.specs.Prelude.{IfSome}
use Rattle.cx_core.specs.Linked.{is_external}
use Rattle.cx_core.specs.Trees.{CObject, CFun, CUnit}
use Rattle.cx_links.specs.Program.{CFound, found_or, first_unit, or_other, declared_object, defined_object, is_object_named, object_of_name, numbers_of, from_each, is_in, there, external_object, objects_from, linked}
use Rattle.cx_placed.proofs.Lists.{Each, by_test, each_all, each_both, each_mapped}
use Rattle.cx_placed.proofs.Renumbered.{object_renumbered, function_renumbered}
use Rattle.cx_placed.specs.Places.{ObjectStandsIn, FunctionStandsIn, StandIn}
use Rattle.cx_placed.specs.Stands.{LinkedTreesStandInUnits}
use Rattle.cx_renumber.specs.Numbers.{CNumbers, object_there, function_there}

module _ {X : Type 0} (P : X → Type 0) where
  all_each : (xs : List X) → All P xs → Each P xs
  all_each [] held = tt
  all_each (x ∷ xs) held = (All-head P x xs held, all_each xs (All-tail P x xs held))

  each_got : (xs : List X) → ((index : ℕ) (x : X) → slice_get xs index ≡ Some x → P x) → Each P xs
  each_got [] held = tt
  each_got (x ∷ xs) held = (held 0 x refl, each_got xs (λ index y is. held (suc index) y is))

  each_found : (test : X → Bool) (xs : List X) → Each P xs → IfSome (find test xs) P
  each_found test [] held = tt
  each_found test (x ∷ xs) held = by_test (λ found. IfSome found P) (test x) (Some x) (find test xs) held.0 (each_found test xs held.1)

  or_other_found : (one other : Option X) → IfSome one P → IfSome other P → IfSome (or_other one other) P
  or_other_found None other first second = second
  or_other_found (Some one) other first second = first

got_below : {X : Type 0} (xs : List X) (index : ℕ) (x : X) → slice_get xs index ≡ Some x → index < length xs
got_below [] index x is = absurd cc
got_below (y ∷ ys) zero x is = omega arith
got_below (y ∷ ys) (suc index) x is = let less : index < length ys = got_below ys index x is in omega (arith, less)

module _ (Among : ℕ → Type 0) where
  -- an object and a function stand there, however they are renumbered
  abbrev ObjectIsReady : CObject → Type 0
  ObjectIsReady one = (numbers : CNumbers) → ObjectStandsIn Among (object_there numbers one)

  abbrev FunctionIsReady : CFun → Type 0
  FunctionIsReady one = (numbers : CNumbers) → FunctionStandsIn Among (function_there numbers one)

  record IsReady (one : CUnit) : Type 0 where
    objects_are : Each ObjectIsReady one.objects
    functions_are : Each FunctionIsReady one.functions

  -- ---- what stands for a name

  found_or_ready : (unit : ℕ) (home : CUnit) (thing : Option CObject) (others : Option (CFound CObject)) → IfSome thing ObjectIsReady
      → IfSome others (λ found. ObjectIsReady found.thing) → IfSome (found_or unit home thing others) (λ found. ObjectIsReady found.thing)
  found_or_ready unit home None others first second = second
  found_or_ready unit home (Some thing) others first second = first

  first_ready : (finds : CUnit → Option CObject) → ((one : CUnit) → IsReady one → IfSome (finds one) ObjectIsReady) → (unit : ℕ) (units : List CUnit) → Each IsReady units
      → IfSome (first_unit finds unit units) (λ found. ObjectIsReady found.thing)
  first_ready finds goes unit [] held = tt
  first_ready finds goes unit (one ∷ others) held =
      found_or_ready unit one (finds one) (first_unit finds (suc unit) others) (goes one held.0) (first_ready finds goes (suc unit) others held.1)

  named_ready : (units : List CUnit) (name : List ℕ) → Each IsReady units → IfSome (object_of_name units name) (λ found. ObjectIsReady found.thing)
  named_ready units name held =
      or_other_found (λ found. ObjectIsReady found.thing) (first_unit (defined_object name) 0 units) (first_unit (declared_object name) 0 units)
      (first_ready (defined_object name) (λ one ready. each_found ObjectIsReady _ one.objects ready.objects_are) 0 units held)
      (first_ready (declared_object name) (λ one ready. each_found ObjectIsReady (is_object_named name) one.objects ready.objects_are) 0 units held)

  -- ---- the parts of the program

  there_stands : (units : List CUnit) (found : Option (CFound CObject)) → IfSome found (λ one. ObjectIsReady one.thing) → Each (ObjectStandsIn Among) (there units found)
  there_stands units None held = tt
  there_stands units (Some found) held = (held (numbers_of units found.home found.unit), tt)

  external_stands : (units : List CUnit) (unit : ℕ) (name : Option (List ℕ)) → Each IsReady units → Each (ObjectStandsIn Among) (external_object units unit name)
  external_stands units unit None held = tt
  external_stands units unit (Some name) held =
      by_test (Each (ObjectStandsIn Among)) (is_in unit (object_of_name units name)) (there units (object_of_name units name)) []
      (there_stands units (object_of_name units name) (named_ready units name held)) tt

  objects_stand : (units : List CUnit) (one : CUnit) (unit : ℕ) (objects : List CObject) → Each IsReady units → Each ObjectIsReady objects
      → Each (ObjectStandsIn Among) (objects_from units one unit objects)
  objects_stand units one unit [] all held = tt
  objects_stand units one unit (known ∷ others) all held =
      each_both (ObjectStandsIn Among)
      (if is_external known.linkage then external_object units unit known.name else object_there (numbers_of units one unit) known ∷ []) (objects_from units one unit others)
      (by_test (Each (ObjectStandsIn Among)) (is_external known.linkage) (external_object units unit known.name) (object_there (numbers_of units one unit) known ∷ [])
      (external_stands units unit known.name all) (held.0 (numbers_of units one unit), tt))
      (objects_stand units one unit others all held.1)

  from_each_stand : {A : Type 0} (P : A → Type 0) (gives : CUnit → ℕ → List A) → ((one : CUnit) (unit : ℕ) → IsReady one → Each P (gives one unit))
      → (unit : ℕ) (units : List CUnit) → Each IsReady units → Each P (from_each gives unit units)
  from_each_stand P gives goes unit [] held = tt
  from_each_stand P gives goes unit (one ∷ others) held =
      each_both P (gives one unit) (from_each gives (suc unit) others) (goes one unit held.0) (from_each_stand P gives goes (suc unit) others held.1)

  ready_stand : (units : List CUnit) → Each IsReady units → StandIn Among (linked units).objects (linked units).functions
  unfolding linked
  ready_stand units held = record {
    objects_stand = each_all (ObjectStandsIn Among) (from_each (λ one unit. objects_from units one unit one.objects) 0 units)
        (from_each_stand (ObjectStandsIn Among) (λ one unit. objects_from units one unit one.objects)
        (λ one unit ready. objects_stand units one unit one.objects held ready.objects_are) 0 units held);
    functions_stand = each_all (FunctionStandsIn Among) (from_each (λ one unit. map (function_there (numbers_of units one unit)) one.functions) 0 units)
        (from_each_stand (FunctionStandsIn Among) (λ one unit. map (function_there (numbers_of units one unit)) one.functions)
        (λ one unit ready. each_mapped FunctionIsReady (FunctionStandsIn Among) (function_there (numbers_of units one unit))
        (λ known goes. goes (numbers_of units one unit)) one.functions ready.functions_are) 0 units held);
  }

  -- what stands in one of them
  is_ready : (number : ℕ) (one : CUnit) → Among number → StandIn (λ unit. unit ≡ number) one.objects one.functions → IsReady one
  is_ready number one own held = record {
    objects_are = all_each ObjectIsReady one.objects (All-weaker (ObjectStandsIn (λ unit. unit ≡ number)) ObjectIsReady
        (λ known stands numbers. object_renumbered (λ unit. unit ≡ number) Among (λ unit same. subst Among (sym same) own) numbers known stands)
        one.objects held.objects_stand);
    functions_are = all_each FunctionIsReady one.functions (All-weaker (FunctionStandsIn (λ unit. unit ≡ number)) FunctionIsReady
        (λ known stands numbers. function_renumbered (λ unit. unit ≡ number) Among (λ unit same. subst Among (sym same) own) numbers known stands)
        one.functions held.functions_stand);
  }

pub linked_trees_stand_in_units : LinkedTreesStandInUnits
linked_trees_stand_in_units units held =
    ready_stand (λ unit. unit < length units) units
    (each_got (IsReady (λ unit. unit < length units)) units (λ number one is.
    is_ready (λ unit. unit < length units) number one (got_below units number one is) (held number one is)))
