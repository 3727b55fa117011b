-- Things of units, one unit behind another.
use Rattle.std.proofs.Common.{arith, ◌≡◌, ℕ, zero, suc, ◌+◌, ◌&&◌, Bool, true, false, cond, List, [], ◌∷◌, ◌++◌, map, drop, length, Option, Some, None, option_map, refl, sym, ap, ◌∙◌, subst, slice_get, unwrap_or, append_assoc, append-nil}
use Rattle.std.proofs.Math.Seq.{drop-length}
use Rattle.std.proofs.lemmas.List.Folds.{find-append, find_at}
use Rattle.std.specs.List.{find, flat_map, position_or_len}
use Rattle.std.specs.Option.{option_or}
use Rattle.std.specs.Prelude.{is_some}
use Rattle.cx_core.specs.Trees.{CTypes, CObject, CFun, COuter, CDeclaredOrder, CProgram, CUnit}
use Rattle.cx_links.specs.Program.{CFound, counts_before, declared_object, defined_object, first_unit, found_or, from_each, is_object_named, linked, numbers_of, object_of_name, objects_from, or_other, outers_from, types_of_all}
use Rattle.cx_renumber.specs.Numbers.{CCounts, CNumbers, function_there}
use Rattle.cx_link.proofs.Chains.{split_at}
use Rattle.cx_linked.specs.Found.{all_found, found_at, found_in}
use Rattle.cx_linked.specs.Named.{AreAt, IsAt, all_before, all_numbers, all_orders, function_renumbered, objects_for, outers_for}

-- ---- from each unit

-- one unit more
pub each_goes : {U A : Type 0} (view : U → CUnit) (gives : CUnit → ℕ → List A) (front after all : List A) (n next : ℕ) (units : List U) (one : U)
    → slice_get units n ≡ Some one → next ≡ suc n → after ≡ front ++ gives (view one) n
    → front ++ from_each gives n (map view (drop n units)) ≡ all → after ++ from_each gives next (map view (drop next units)) ≡ all
each_goes view gives front after all n next units one is next_is after_is before =
    ap (λ m. after ++ from_each gives m (map view (drop m units))) next_is
    ∙ ap (λ xs. xs ++ from_each gives (suc n) (map view (drop (suc n) units))) after_is
    ∙ append_assoc front (gives (view one) n) (from_each gives (suc n) (map view (drop (suc n) units)))
    ∙ ap (λ rest. front ++ from_each gives n (map view rest)) (sym (split_at units n one is).1)
    ∙ before

-- what has gone through all units
pub each_ends : {U A : Type 0} (view : U → CUnit) (gives : CUnit → ℕ → List A) (front all : List A) (n : ℕ) (units : List U) → n ≡ length units
    → front ++ from_each gives n (map view (drop n units)) ≡ all → front ≡ all
each_ends view gives front all n units ends is =
    sym (append-nil front)
    ∙ ap (λ rest. front ++ from_each gives n (map view rest)) (sym (drop-length units))
    ∙ ap (λ m. front ++ from_each gives n (map view (drop m units))) (sym ends)
    ∙ is

-- what each unit gives one of
pub each_at : {A : Type 0} (gives : CUnit → ℕ → A) (k : ℕ) (units : List CUnit) (n : ℕ)
    → slice_get (from_each (λ one unit. gives one unit ∷ []) k units) n ≡ option_map (λ one. gives one (k + n)) (slice_get units n)
each_at gives k [] n = refl
each_at gives k (one ∷ others) zero = let same : k ≡ k + 0 = omega arith in ap (λ m. Some (gives one m)) same
each_at gives k (one ∷ others) (suc n) =
    let same : suc k + n ≡ k + suc n = omega arith in
    each_at gives (suc k) others n ∙ ap (λ m. option_map (λ home. gives home m) (slice_get others n)) same

-- ---- the first of a name

find_in : {A : Type 0} (test : A → Bool) (unit : ℕ) (home : CUnit) (things : List A)
    → find (λ found. test found.thing) (map (found_at unit home) things) ≡ option_map (found_at unit home) (find test things)
find_in test unit home [] = refl
find_in test unit home (one ∷ others) = by (test one) (find_in test unit home others) where
  by : (passes : Bool) → find (λ found. test found.thing) (map (found_at unit home) others) ≡ option_map (found_at unit home) (find test others)
      → (cond passes (Some (found_at unit home one)) (find (λ found. test found.thing) (map (found_at unit home) others)))
      ≡ option_map (found_at unit home) (cond passes (Some one) (find test others))
  by true same = refl
  by false same = same

found_or_is : {A : Type 0} (unit : ℕ) (home : CUnit) (one : Option A) (others : Option (CFound A))
    → found_or unit home one others ≡ option_or (option_map (found_at unit home) one) others
found_or_is unit home (Some one) others = refl
found_or_is unit home None others = refl

pub first_found : {A : Type 0} (test : A → Bool) (held : CUnit → List A) (k : ℕ) (units : List CUnit)
    → first_unit (λ one. find test (held one)) k units ≡ find (λ found. test found.thing) (from_each (found_in held) k units)
first_found test held k [] = refl
first_found test held k (one ∷ others) =
    found_or_is k one (find test (held one)) (first_unit (λ home. find test (held home)) (suc k) others)
    ∙ ap (λ found. option_or found (first_unit (λ home. find test (held home)) (suc k) others)) (sym (find_in test k one (held one)))
    ∙ ap (λ found. option_or (find (λ x. test x.thing) (found_in held one k)) found) (first_found test held (suc k) others)
    ∙ sym (find-append (λ found. test found.thing) (found_in held one k) (from_each (found_in held) (suc k) others))

-- ---- each thing is of the unit with its number

-- a thing of units of which the first has a number
pub record IsWithin {A : Type 0} (k : ℕ) (units : List CUnit) (found : CFound A) : Type 0 where
  pub n : ℕ
  pub unit : found.unit ≡ k + n
  pub home : slice_get units n ≡ Some found.home

further : {A : Type 0} (k : ℕ) (one : CUnit) (others : List CUnit) (found : CFound A) → IsWithin (suc k) others found → IsWithin k (one ∷ others) found
further k one others found within = record {
  n = suc within.n;
  unit = within.unit ∙ (let same : suc k + within.n ≡ k + suc within.n = omega arith in same);
  home = within.home;
}

here : {A : Type 0} (k : ℕ) (one : CUnit) (others : List CUnit) (thing : A) (found : CFound A) → Some (found_at k one thing) ≡ Some found → IsWithin k (one ∷ others) found
here k one others thing found is =
    subst (λ x. IsWithin k (one ∷ others) x) (ap (λ o. unwrap_or o found) is) (record { n = 0; unit = (let same : k ≡ k + 0 = omega arith in same); home = refl })

-- a thing of the first unit, or one of the others
within_first : {A : Type 0} (k : ℕ) (one : CUnit) (others : List CUnit) (rest : List (CFound A)) (found : CFound A)
    → ((place : ℕ) → slice_get rest place ≡ Some found → IsWithin (suc k) others found)
    → (things : List A) (place : ℕ) → slice_get (map (found_at k one) things ++ rest) place ≡ Some found → IsWithin k (one ∷ others) found
within_first k one others rest found behind [] place is = further k one others found (behind place is)
within_first k one others rest found behind (thing ∷ things) zero is = here k one others thing found is
within_first k one others rest found behind (thing ∷ things) (suc place) is = within_first k one others rest found behind things place is

all_within : {A : Type 0} (held : CUnit → List A) (k : ℕ) (units : List CUnit) (place : ℕ) (found : CFound A)
    → slice_get (from_each (found_in held) k units) place ≡ Some found → IsWithin k units found
all_within held k [] place found is = cc
all_within held k (one ∷ others) place found is =
    within_first k one others (from_each (found_in held) (suc k) others) found (λ at same. all_within held (suc k) others at found same) (held one) place is

at_unit : {A : Type 0} (units : List CUnit) (found : CFound A) → IsWithin 0 units found → IsAt units found
at_unit units found within =
    let unit = within.unit in
    let same : within.n ≡ found.unit = omega (arith, unit) in
    subst (λ n. slice_get units n ≡ Some found.home) same within.home

pub all_at : {A : Type 0} (held : CUnit → List A) (units : List CUnit) → AreAt units (all_found held units)
all_at held units = λ place found is. at_unit units found (all_within held 0 units place found is)

-- the same of a list that is kept
pub kept_at : {X A : Type 0} (view : X → CFound A) (held : CUnit → List A) (units : List CUnit) (read kept : List X) → read ≡ kept → map view kept ≡ all_found held units
    → AreAt units (map view read)
kept_at view held units read kept same is = subst (λ xs. AreAt units (map view xs)) (sym same) (subst (λ xs. AreAt units xs) (sym is) (all_at held units))

first_at : {A : Type 0} (test : A → Bool) (held : CUnit → List A) (units : List CUnit) (found : CFound A)
    → first_unit (λ one. find test (held one)) 0 units ≡ Some found → IsAt units found
first_at test held units found is =
    all_at held units (position_or_len (λ one. test one.thing) (all_found held units)) found
    (sym (find_at (λ one. test one.thing) (all_found held units)) ∙ sym (first_found test held 0 units) ∙ is)

either_at : {A : Type 0} (units : List CUnit) (one other : Option (CFound A)) (found : CFound A) → ((x : CFound A) → one ≡ Some x → IsAt units x) → ((x : CFound A) → other ≡ Some x → IsAt units x)
    → or_other one other ≡ Some found → IsAt units found
either_at units (Some one) other found first second is = first found is
either_at units None other found first second is = second found is

-- what stands for the name of an object
pub object_at_unit : (units : List CUnit) (name : List ℕ) (found : CFound CObject) → object_of_name units name ≡ Some found → IsAt units found
object_at_unit units name found is =
    either_at units (first_unit (defined_object name) 0 units) (first_unit (declared_object name) 0 units) found
    (λ x. first_at (λ known. is_object_named name known && is_some known.puts) (λ (home : CUnit). home.objects) units x)
    (λ x. first_at (is_object_named name) (λ (home : CUnit). home.objects) units x) is

-- ---- the parts of the program

flat_append : {A B : Type 0} (gives : A → List B) (xs ys : List A) → flat_map gives (xs ++ ys) ≡ flat_map gives xs ++ flat_map gives ys
flat_append gives [] ys = refl
flat_append gives (x ∷ xs) ys = ap (λ rest. gives x ++ rest) (flat_append gives xs ys) ∙ sym (append_assoc (gives x) (flat_map gives xs) (flat_map gives ys))

flat_mapped : {A B C : Type 0} (gives : B → List C) (view : A → B) (xs : List A) → flat_map (λ x. gives (view x)) xs ≡ flat_map gives (map view xs)
flat_mapped gives view [] = refl
flat_mapped gives view (x ∷ xs) = ap (λ rest. gives (view x) ++ rest) (flat_mapped gives view xs)

pub map_append : {A B : Type 0} (view : A → B) (xs ys : List A) → map view (xs ++ ys) ≡ map view xs ++ map view ys
map_append view [] ys = refl
map_append view (x ∷ xs) ys = ap (λ rest. view x ∷ rest) (map_append view xs ys)

map_mapped : {A B C : Type 0} (f : B → C) (view : A → B) (xs : List A) → map (λ x. f (view x)) xs ≡ map f (map view xs)
map_mapped f view [] = refl
map_mapped f view (x ∷ xs) = ap (λ rest. f (view x) ∷ rest) (map_mapped f view xs)

-- one list after another, where each gives the same as the things found in it
each_flat : {A B : Type 0} (gives : CFound A → List B) (held : CUnit → List A) (parts : CUnit → ℕ → List B)
    → ((one : CUnit) (unit : ℕ) → parts one unit ≡ flat_map gives (found_in held one unit))
    → (k : ℕ) (units : List CUnit) → from_each parts k units ≡ flat_map gives (from_each (found_in held) k units)
each_flat gives held parts same k [] = refl
each_flat gives held parts same k (one ∷ others) =
    ap (λ front. front ++ from_each parts (suc k) others) (same one k)
    ∙ ap (λ rest. flat_map gives (found_in held one k) ++ rest) (each_flat gives held parts same (suc k) others)
    ∙ sym (flat_append gives (found_in held one k) (from_each (found_in held) (suc k) others))

each_mapped : {A B : Type 0} (gives : CFound A → B) (held : CUnit → List A) (parts : CUnit → ℕ → List B)
    → ((one : CUnit) (unit : ℕ) → parts one unit ≡ map gives (found_in held one unit))
    → (k : ℕ) (units : List CUnit) → from_each parts k units ≡ map gives (from_each (found_in held) k units)
each_mapped gives held parts same k [] = refl
each_mapped gives held parts same k (one ∷ others) =
    ap (λ front. front ++ from_each parts (suc k) others) (same one k)
    ∙ ap (λ rest. map gives (found_in held one k) ++ rest) (each_mapped gives held parts same (suc k) others)
    ∙ sym (map_append gives (found_in held one k) (from_each (found_in held) (suc k) others))

objects_flat : (units : List CUnit) (one : CUnit) (unit : ℕ) (objects : List CObject)
    → objects_from units one unit objects ≡ flat_map (objects_for units) (map (found_at unit one) objects)
objects_flat units one unit [] = refl
objects_flat units one unit (known ∷ others) = ap (λ rest. objects_for units (found_at unit one known) ++ rest) (objects_flat units one unit others)

outers_flat : (units : List CUnit) (one : CUnit) (unit : ℕ) (externals : List COuter)
    → outers_from units one unit externals ≡ flat_map (outers_for units) (map (found_at unit one) externals)
outers_flat units one unit [] = refl
outers_flat units one unit (known ∷ others) = ap (λ rest. outers_for units (found_at unit one known) ++ rest) (outers_flat units one unit others)

-- the objects of the program, and its functions
pub objects_are : (units : List CUnit) → from_each (λ one unit. objects_from units one unit one.objects) 0 units ≡ flat_map (objects_for units) (all_found (λ home. home.objects) units)
objects_are units = each_flat (objects_for units) (λ home. home.objects) _ (λ one unit. objects_flat units one unit one.objects) 0 units

pub outers_are : (units : List CUnit) → from_each (λ one unit. outers_from units one unit one.externals) 0 units ≡ flat_map (outers_for units) (all_found (λ home. home.externals) units)
outers_are units = each_flat (outers_for units) (λ home. home.externals) _ (λ one unit. outers_flat units one unit one.externals) 0 units

pub functions_are : (units : List CUnit)
    → from_each (λ one unit. map (function_there (numbers_of units one unit)) one.functions) 0 units ≡ map (function_renumbered units) (all_found (λ home. home.functions) units)
functions_are units = each_mapped (function_renumbered units) (λ home. home.functions) _
    (λ one unit. map_mapped (function_renumbered units) (found_at unit one) one.functions) 0 units

-- ---- what is kept of each unit

-- what a list says that has one of each unit
each_kept : {A : Type 0} (gives : CUnit → ℕ → A) (units : List CUnit) (all : List A) (n : ℕ) (one : CUnit) (found : A)
    → all ≡ from_each (λ home unit. gives home unit ∷ []) 0 units → slice_get units n ≡ Some one → slice_get all n ≡ Some found → found ≡ gives one n
each_kept gives units all n one found all_is is found_is =
    let same : 0 + n ≡ n = omega arith in
    ap (λ o. unwrap_or o found)
    (sym found_is ∙ ap (λ xs. slice_get xs n) all_is ∙ each_at gives 0 units n ∙ ap (option_map (λ home. gives home (0 + n))) is)
    ∙ ap (gives one) same

pub numbers_kept : (units : List CUnit) (all : List CNumbers) (n : ℕ) (one : CUnit) (found : CNumbers)
    → all ≡ all_numbers units → slice_get units n ≡ Some one → slice_get all n ≡ Some found → found ≡ numbers_of units one n
numbers_kept units all n one found all_is is found_is = each_kept (numbers_of units) units all n one found all_is is found_is

before_by : (units : List CUnit) (n : ℕ) (found : CCounts) (one : Option CUnit) → option_map (λ home. counts_before (0 + n) units) one ≡ Some found → found ≡ counts_before n units
before_by units n found None is = cc
before_by units n found (Some one) is =
    let same : 0 + n ≡ n = omega arith in
    sym (ap (λ o. unwrap_or o found) is) ∙ ap (λ m. counts_before m units) same

pub before_kept : (units : List CUnit) (all : List CCounts) (n : ℕ) (found : CCounts) → all ≡ all_before units → slice_get all n ≡ Some found → found ≡ counts_before n units
before_kept units all n found all_is is =
    before_by units n found (slice_get units n) (sym (each_at (λ home unit. counts_before unit units) 0 units n) ∙ ap (λ xs. slice_get xs n) (sym all_is) ∙ is)

-- ---- loops over what was found

-- one thing more
pub flat_goes : {U A B : Type 0} (view : U → A) (gives : A → List B) (front after all : List B) (n next : ℕ) (things : List U) (one : U)
    → slice_get things n ≡ Some one → next ≡ suc n → after ≡ front ++ gives (view one)
    → front ++ flat_map gives (map view (drop n things)) ≡ all → after ++ flat_map gives (map view (drop next things)) ≡ all
flat_goes view gives front after all n next things one is next_is after_is before =
    ap (λ m. after ++ flat_map gives (map view (drop m things))) next_is
    ∙ ap (λ xs. xs ++ flat_map gives (map view (drop (suc n) things))) after_is
    ∙ append_assoc front (gives (view one)) (flat_map gives (map view (drop (suc n) things)))
    ∙ ap (λ rest. front ++ flat_map gives (map view rest)) (sym (split_at things n one is).1)
    ∙ before

pub map_goes : {U A B : Type 0} (view : U → A) (gives : A → B) (front after all : List B) (n next : ℕ) (things : List U) (one : U)
    → slice_get things n ≡ Some one → next ≡ suc n → after ≡ front ++ gives (view one) ∷ []
    → front ++ map gives (map view (drop n things)) ≡ all → after ++ map gives (map view (drop next things)) ≡ all
map_goes view gives front after all n next things one is next_is after_is before =
    ap (λ m. after ++ map gives (map view (drop m things))) next_is
    ∙ ap (λ xs. xs ++ map gives (map view (drop (suc n) things))) after_is
    ∙ append_assoc front (gives (view one) ∷ []) (map gives (map view (drop (suc n) things)))
    ∙ ap (λ rest. front ++ map gives (map view rest)) (sym (split_at things n one is).1)
    ∙ before

-- ---- the whole program

pub program_is : (units : List CUnit) (program : CProgram) → program.types ≡ types_of_all units
    → program.objects ≡ flat_map (objects_for units) (all_found (λ home. home.objects) units)
    → program.functions ≡ map (function_renumbered units) (all_found (λ home. home.functions) units)
    → program.externals ≡ flat_map (outers_for units) (all_found (λ home. home.externals) units)
    → program.orders ≡ all_orders units
    → program ≡ linked units
unfolding linked
program_is units program types objects functions externals orders =
    ap (λ (t : CTypes). record { types = t; objects = program.objects; functions = program.functions; externals = program.externals; orders = program.orders }) types
    ∙ ap (λ (os : List CObject). record {
      types = types_of_all units;
      objects = os;
      functions = program.functions;
      externals = program.externals;
      orders = program.orders;
    }) (objects ∙ sym (objects_are units))
    ∙ ap (λ (fs : List CFun). record {
      types = types_of_all units;
      objects = from_each (λ one unit. objects_from units one unit one.objects) 0 units;
      functions = fs;
      externals = program.externals;
      orders = program.orders;
    }) (functions ∙ sym (functions_are units))
    ∙ ap (λ (es : List COuter). record {
      types = types_of_all units;
      objects = from_each (λ one unit. objects_from units one unit one.objects) 0 units;
      functions = from_each (λ one unit. map (function_there (numbers_of units one unit)) one.functions) 0 units;
      externals = es;
      orders = program.orders;
    }) (externals ∙ sym (outers_are units))
    ∙ ap (λ (all : List CDeclaredOrder). record {
      types = types_of_all units;
      objects = from_each (λ one unit. objects_from units one unit one.objects) 0 units;
      functions = from_each (λ one unit. map (function_there (numbers_of units one unit)) one.functions) 0 units;
      externals = from_each (λ one unit. outers_from units one unit one.externals) 0 units;
      orders = all;
    }) orders
