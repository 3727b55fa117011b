-- The objects of a program stand unit by unit, and each of its things is of a unit that was linked.
use Rattle.std.proofs.Common.{◌≡◌, ℕ, zero, suc, ◌+◌, ◌==◌, Bool, true, false, if◌then◌else◌, List, [], ◌∷◌, ◌++◌, map, length, All, Option, None, Some, refl, sym, ap, ◌∙◌, subst, arith}
use Rattle.std.specs.Prelude.{◌<◌, ◌≤◌, cond, is_some, ◌&&◌}
use Rattle.std.specs.List.{find}
use Rattle.std.proofs.lemmas.Bool.Decides.{nat_tests}
use Rattle.std.proofs.lemmas.List.Elements.{All-nil, All-cons, All-head, All-tail, All-append}
use Rattle.cx_core.specs.Linked.{is_external}
use Rattle.cx_core.specs.Trees.{CObject, CFun, CUnit}
use Rattle.cx_links.specs.Laws.{AreHere, AscendFrom, ObjectsStandUnitByUnit, UnitsAreBelowTheCount}
use Rattle.cx_links.specs.Program.{CFound, found_or, first_unit, or_other, is_object_named, declared_object, defined_object, object_of_name, numbers_of, from_each, is_in, there, external_object, objects_from, linked}
use Rattle.cx_renumber.specs.Numbers.{CNumbers, object_there, function_there}

same_number : (first second : ℕ) → (first == second) ≡ true → first ≡ second
same_number first second is = grind (arith, nat_tests, is)

-- ---- what each unit gives

all_given : {X : Type 0} (P Q : X → Type 0) → ((x : X) → P x → Q x) → (xs : List X) → All P xs → All Q xs
all_given P Q goes [] all = All-nil Q
all_given P Q goes (x ∷ xs) all = All-cons Q x xs (goes x (All-head P x xs all)) (all_given P Q goes xs (All-tail P x xs all))

lower : (least : ℕ) (numbers : List ℕ) → AscendFrom (suc least) numbers → AscendFrom least numbers
lower least [] up = tt
lower least (number ∷ others) up = let h : suc least ≤ number = up.0 in (omega (arith, h), up.1)

module _ {X : Type 0} (unit_of : X → ℕ) where
  behind : (k : ℕ) (xs rest : List X) → All (λ x. unit_of x ≡ k) xs → AscendFrom (suc k) (map unit_of rest) → AscendFrom k (map unit_of (xs ++ rest))
  behind k [] rest all later = lower k (map unit_of rest) later
  behind k (x ∷ xs) rest all later =
      let here : unit_of x ≡ k = All-head (λ y. unit_of y ≡ k) x xs all in
      (omega (arith, here), subst (λ n. AscendFrom n (map unit_of (xs ++ rest))) (sym here) (behind k xs rest (All-tail (λ y. unit_of y ≡ k) x xs all) later))

  module _ (gives : CUnit → ℕ → List X) where
    -- each unit gives what is of it
    abbrev GiveTheirOwn : ℕ → List CUnit → Type 0
    GiveTheirOwn k [] = Unit {0}
    GiveTheirOwn k (one ∷ others) = All (λ x. unit_of x ≡ k) (gives one k) × GiveTheirOwn (suc k) others

    ascends : (k : ℕ) (units : List CUnit) → GiveTheirOwn k units → AscendFrom k (map unit_of (from_each gives k units))
    ascends k [] own = tt
    ascends k (one ∷ others) own = behind k (gives one k) (from_each gives (suc k) others) own.0 (ascends (suc k) others own.1)

    below : (k : ℕ) (units : List CUnit) → GiveTheirOwn k units → All (λ x. unit_of x < k + length units) (from_each gives k units)
    below k [] own = All-nil (λ x. unit_of x < k + 0)
    below k (one ∷ others) own =
        let more : suc k + length others ≡ k + suc (length others) = omega arith in
        All-append (λ x. unit_of x < k + suc (length others)) (gives one k) (from_each gives (suc k) others)
        (all_given (λ x. unit_of x ≡ k) (λ x. unit_of x < k + suc (length others)) (λ x is. omega (arith, is)) (gives one k) own.0)
        (subst (λ n. All (λ x. unit_of x < n) (from_each gives (suc k) others)) more (below (suc k) others own.1))

-- ---- the thing of a name

found_by : (k : ℕ) (first thing : CObject) (passes : Bool) (later : Option CObject) → first.unit ≡ k → (later ≡ Some thing → thing.unit ≡ k)
    → cond passes (Some first) later ≡ Some thing → thing.unit ≡ k
found_by k first thing true later here goes is = let same : first ≡ thing = cc (is) in subst (λ x. x.unit ≡ k) same here
found_by k first thing false later here goes is = goes is

found_here : (test : CObject → Bool) (k : ℕ) (objects : List CObject) → All (λ object. object.unit ≡ k) objects → (thing : CObject) → find test objects ≡ Some thing
    → thing.unit ≡ k
found_here test k [] all thing is = absurd cc
found_here test k (first ∷ others) all thing is =
    found_by k first thing (test first) (find test others) (All-head (λ object. object.unit ≡ k) first others all)
    (found_here test k others (All-tail (λ object. object.unit ≡ k) first others all) thing) is

first_by : (k : ℕ) (one : CUnit) (here : Option CObject) (later : Option (CFound CObject)) (found : CFound CObject)
    → ((thing : CObject) → here ≡ Some thing → thing.unit ≡ k) → (later ≡ Some found → found.thing.unit ≡ found.unit)
    → found_or k one here later ≡ Some found → found.thing.unit ≡ found.unit
first_by k one (Some thing) later found own goes is =
    let same : record { unit = k; home = one; thing = thing } ≡ found = cc (is) in subst (λ x. x.thing.unit ≡ x.unit) same (own thing refl)
first_by k one None later found own goes is = goes is

first_here : (test : CObject → Bool) (k : ℕ) (units : List CUnit) → AreHere k units → (found : CFound CObject)
    → first_unit (λ one. find test one.objects) k units ≡ Some found → found.thing.unit ≡ found.unit
first_here test k [] here found is = absurd cc
first_here test k (one ∷ others) here found is =
    first_by k one (find test one.objects) (first_unit (λ home. find test home.objects) (suc k) others) found
    (found_here test k one.objects here.0) (first_here test (suc k) others here.2 found) is

either_here : (one other : Option (CFound CObject)) (found : CFound CObject) → (one ≡ Some found → found.thing.unit ≡ found.unit)
    → (other ≡ Some found → found.thing.unit ≡ found.unit) → or_other one other ≡ Some found → found.thing.unit ≡ found.unit
either_here (Some one) other found first second is = first is
either_here None other found first second is = second is

named_here : (units : List CUnit) → AreHere 0 units → (name : List ℕ) (found : CFound CObject) → object_of_name units name ≡ Some found
    → found.thing.unit ≡ found.unit
named_here units here name found is =
    either_here (first_unit (defined_object name) 0 units) (first_unit (declared_object name) 0 units) found
    (first_here (λ known. is_object_named name known && is_some known.puts) 0 units here found) (first_here (is_object_named name) 0 units here found) is

-- ---- the things of a unit

module _ (units : List CUnit) (k : ℕ) where
  abbrev IsHere : CObject → Type 0
  IsHere object = object.unit ≡ k

  in_test : (found : CFound CObject) (test : Bool) → (found.unit == k) ≡ test → found.thing.unit ≡ found.unit → All IsHere (if test then there units (Some found) else [])
  in_test found true is own =
      All-cons IsHere (object_there (numbers_of units found.home found.unit) found.thing) [] (own ∙ same_number found.unit k is) (All-nil IsHere)
  in_test found false is own = All-nil IsHere

  by_found : (o : Option (CFound CObject)) → ((found : CFound CObject) → o ≡ Some found → found.thing.unit ≡ found.unit)
      → All IsHere (if is_in k o then there units o else [])
  by_found None own = All-nil IsHere
  by_found (Some found) own = in_test found (found.unit == k) refl (own found refl)

  module _ (here : AreHere 0 units) (one : CUnit) where
    external_here : (name : Option (List ℕ)) → All IsHere (external_object units k name)
    external_here None = All-nil IsHere
    external_here (Some name) = by_found (object_of_name units name) (named_here units here name)

    part_here : (known : CObject) (external : Bool) → known.unit ≡ k
        → All IsHere (if external then external_object units k known.name else object_there (numbers_of units one k) known ∷ [])
    part_here known true own = external_here known.name
    part_here known false own = All-cons IsHere (object_there (numbers_of units one k) known) [] own (All-nil IsHere)

    objects_here : (objects : List CObject) → All IsHere objects → All IsHere (objects_from units one k objects)
    objects_here [] all = All-nil IsHere
    objects_here (known ∷ others) all =
        All-append IsHere (if is_external known.linkage then external_object units k known.name else object_there (numbers_of units one k) known ∷ [])
        (objects_from units one k others)
        (part_here known (is_external known.linkage) (All-head IsHere known others all)) (objects_here others (All-tail IsHere known others all))

functions_here : (numbers : CNumbers) (k : ℕ) (functions : List CFun) → All (λ fun. fun.unit ≡ k) functions → All (λ fun. fun.unit ≡ k) (map (function_there numbers) functions)
functions_here numbers k [] all = All-nil (λ fun. fun.unit ≡ k)
functions_here numbers k (known ∷ others) all =
    All-cons (λ fun. fun.unit ≡ k) (function_there numbers known) (map (function_there numbers) others) (All-head (λ fun. fun.unit ≡ k) known others all)
    (functions_here numbers k others (All-tail (λ fun. fun.unit ≡ k) known others all))

-- ---- the program

module _ (units : List CUnit) (here : AreHere 0 units) where
  objects_own : (k : ℕ) (others : List CUnit) → AreHere k others → GiveTheirOwn (λ (object : CObject). object.unit) (λ one unit. objects_from units one unit one.objects) k others
  objects_own k [] there_is = tt
  objects_own k (one ∷ others) there_is = (objects_here units k here one one.objects there_is.0, objects_own (suc k) others there_is.2)

  functions_own : (k : ℕ) (others : List CUnit) → AreHere k others
      → GiveTheirOwn (λ (fun : CFun). fun.unit) (λ one unit. map (function_there (numbers_of units one unit)) one.functions) k others
  functions_own k [] there_is = tt
  functions_own k (one ∷ others) there_is = (functions_here (numbers_of units one k) k one.functions there_is.1, functions_own (suc k) others there_is.2)

pub objects_stand_unit_by_unit : ObjectsStandUnitByUnit
unfolding linked
objects_stand_unit_by_unit units here =
    ascends (λ (object : CObject). object.unit) (λ one unit. objects_from units one unit one.objects) 0 units (objects_own units here 0 units here)

pub units_are_below_the_count : UnitsAreBelowTheCount
unfolding linked
units_are_below_the_count units here =
    let same : 0 + length units ≡ length units = omega arith in
    subst (λ n. All (λ (object : CObject). object.unit < n) (linked units).objects × All (λ (fun : CFun). fun.unit < n) (linked units).functions) same (
      below (λ (object : CObject). object.unit) (λ one unit. objects_from units one unit one.objects) 0 units (objects_own units here 0 units here),
      below (λ (fun : CFun). fun.unit) (λ one unit. map (function_there (numbers_of units one unit)) one.functions) 0 units (functions_own units here 0 units here),
    )
