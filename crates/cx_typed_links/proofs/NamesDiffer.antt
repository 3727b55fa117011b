-- The names with external linkage of a program of typed units that break no rule together differ (ISO C99, 6.2.2p2).
use Rattle.std.proofs.Common.{◌≡◌, ℕ, Bool, true, false, if◌then◌else◌, List, [], ◌∷◌, ◌++◌, map, All, Option, None, Some, eqb, bytes_eq, refl, sym, ap, ◌∙◌}
use Rattle.std.specs.List.{IsDistinct}
use Rattle.std.proofs.lemmas.List.Elements.{All-nil, All-cons, All-head, All-tail}
use Rattle.std.proofs.lemmas.Slice.Eq.{bytes_eq-Decides}
use Rattle.cx_core.specs.declared.program.Linkage.{Linkage}
use Rattle.cx_core.specs.declared.program.Linkage.TheVariants.{External, Internal, Nothing}
use Rattle.cx_core.specs.Linked.{is_external, names_with}
use Rattle.cx_core.specs.Trees.{CTy, CPuts, CTypes, CObject, CFun, COuter, CUnit}
use Rattle.cx_links.specs.Program.{linked}
use Rattle.cx_links.specs.Rules.{broken_links}
use Rattle.cx_typed_links.proofs.Distinct.{not_same_back, all_made}
use Rattle.cx_typed_links.proofs.FunctionNumbers.{functions_differ, outers_differ}
use Rattle.cx_typed_links.proofs.Functions.{number_of_function, number_of_outer, IsFunctionOf, program_functions}
use Rattle.cx_typed_links.proofs.ObjectNumbers.{HasOtherName, all_objects_differ}
use Rattle.cx_typed_links.proofs.Objects.{number_of, IsOfUnit, program_objects}
use Rattle.cx_typed_links.proofs.Outers.{AreOtherNames, things_of, object_of, IsLeftOf, program_externals}
use Rattle.cx_typed_links.proofs.Places.{AreOther}
use Rattle.cx_typed_links.proofs.ProgramNames.{object_named, function_named, outer_named, no_function_left, no_object_function, no_object_outer}
use Rattle.cx_typed_links.specs.Laws.{AreTypedUnits}

other_by : (name other : List ℕ) → (other ≡ name → ⊥) → (same : Bool) → bytes_eq name other ≡ same → same ≡ false
other_by name other apart false is = refl
other_by name other apart true is = absurd (apart (sym ((bytes_eq-Decides name other).0 is)))

-- names that aren't the same
other_name : (name other : List ℕ) → (other ≡ name → ⊥) → bytes_eq name other ≡ false
other_name name other apart = other_by name other apart (bytes_eq name other) refl

abbrev IsOtherFunction : List ℕ → CFun → Type 0
IsOtherFunction name known = is_external known.linkage ≡ true → bytes_eq name known.name ≡ false

abbrev IsOtherOuter : List ℕ → COuter → Type 0
IsOtherOuter name known = is_external known.linkage ≡ true → bytes_eq name known.name ≡ false

-- ---- lists of names

add_other : (name first : List ℕ) (front back : List (List ℕ)) (has : Bool) → (has ≡ true → bytes_eq name first ≡ false) → AreOtherNames name (front ++ back)
    → AreOtherNames name ((if has then first ∷ front else front) ++ back)
add_other name first front back false other rest = rest
add_other name first front back true other rest = (other refl, rest)

add_last : (name first : List ℕ) (others : List (List ℕ)) (has : Bool) → (has ≡ true → bytes_eq name first ≡ false) → AreOtherNames name others
    → AreOtherNames name (if has then first ∷ others else others)
add_last name first others false other rest = rest
add_last name first others true other rest = (other refl, rest)

add_distinct : (first : List ℕ) (front back : List (List ℕ)) (has : Bool) → (has ≡ true → AreOtherNames first (front ++ back)) → IsDistinct bytes_eq (front ++ back)
    → IsDistinct bytes_eq ((if has then first ∷ front else front) ++ back)
unfolding IsDistinct
add_distinct first front back false other rest = rest
add_distinct first front back true other rest = (other refl, rest)

last_distinct : (first : List ℕ) (others : List (List ℕ)) (has : Bool) → (has ≡ true → AreOtherNames first others) → IsDistinct bytes_eq others
    → IsDistinct bytes_eq (if has then first ∷ others else others)
unfolding IsDistinct
last_distinct first others false other rest = rest
last_distinct first others true other rest = (other refl, rest)

module _ (types : CTypes) where
  abbrev names : List CObject → List CFun → List COuter → List (List ℕ)
  names objects functions externals = names_with is_external (things_of types objects functions externals)

  no_outer_has : (name : List ℕ) (externals : List COuter) → All (IsOtherOuter name) externals → AreOtherNames name (names [] [] externals)
  no_outer_has name [] all = tt
  no_outer_has name (one ∷ others) all =
      add_last name one.name (names [] [] others) (is_external one.linkage) (All-head (IsOtherOuter name) one others all)
      (no_outer_has name others (All-tail (IsOtherOuter name) one others all))

  no_function_has : (name : List ℕ) (functions : List CFun) (externals : List COuter) → All (IsOtherFunction name) functions → All (IsOtherOuter name) externals
      → AreOtherNames name (names [] functions externals)
  no_function_has name [] externals all outers = no_outer_has name externals outers
  no_function_has name (one ∷ others) externals all outers =
      add_other name one.name _ _ (is_external one.linkage) (All-head (IsOtherFunction name) one others all)
      (no_function_has name others externals (All-tail (IsOtherFunction name) one others all) outers)

  module _ (functions : List CFun) (externals : List COuter) where
    add_object : (text : List ℕ) (others : List CObject)
        (number unit : ℕ) (name : Option (List ℕ)) (is_text : Bool) (type : CTy) (linkage : Linkage) (puts : Option CPuts)
        → HasOtherName text (object_of number unit name is_text type linkage puts) → AreOtherNames text (names others functions externals)
        → AreOtherNames text (names (object_of number unit name is_text type linkage puts ∷ others) functions externals)
    add_object text others number unit None is_text type External puts other rest = rest
    add_object text others number unit (Some name) is_text type External puts other rest =
        (other_name text name (λ same. other refl (ap (λ found. Some found) same)), rest)
    add_object text others number unit None is_text type Internal puts other rest = rest
    add_object text others number unit (Some name) is_text type Internal puts other rest = rest
    add_object text others number unit name is_text type Nothing puts other rest = rest

    no_object_has : (name : List ℕ) (objects : List CObject) → All (HasOtherName name) objects → AreOtherNames name (names [] functions externals)
        → AreOtherNames name (names objects functions externals)
    no_object_has name [] all rest = rest
    no_object_has name (one ∷ others) all rest =
        add_object name others one.object one.unit one.name one.is_text one.type one.linkage one.puts (All-head (HasOtherName name) one others all)
        (no_object_has name others (All-tail (HasOtherName name) one others all) rest)

    object_distinct : (others : List CObject)
        (number unit : ℕ) (name : Option (List ℕ)) (is_text : Bool) (type : CTy) (linkage : Linkage) (puts : Option CPuts)
        → ((text : List ℕ) → is_external linkage ≡ true → name ≡ Some text → AreOtherNames text (names others functions externals))
        → IsDistinct bytes_eq (names others functions externals)
        → IsDistinct bytes_eq (names (object_of number unit name is_text type linkage puts ∷ others) functions externals)
    unfolding IsDistinct
    object_distinct others number unit None is_text type External puts other rest = rest
    object_distinct others number unit (Some name) is_text type External puts other rest = (other name refl refl, rest)
    object_distinct others number unit None is_text type Internal puts other rest = rest
    object_distinct others number unit (Some name) is_text type Internal puts other rest = rest
    object_distinct others number unit name is_text type Nothing puts other rest = rest

module _ (units : List CUnit) (typed : AreTypedUnits units) (none : broken_links units ≡ None) (types : CTypes) where
  -- ---- what has another name

  outers_apart : (x : COuter) → IsLeftOf units x → (others : List COuter) → All (IsLeftOf units) others → AreOther x.function (map number_of_outer others)
      → All (IsOtherOuter x.name) others
  outers_apart x of [] all apart = All-nil (IsOtherOuter x.name)
  outers_apart x of (y ∷ others) all apart =
      All-cons (IsOtherOuter x.name) y others
      (λ external. other_name x.name y.name
      (λ same. not_same_back x.function y.function apart.0
      (ap number_of_outer (outer_named units typed none x y of (All-head (IsLeftOf units) y others all) (sym same)))))
      (outers_apart x of others (All-tail (IsLeftOf units) y others all) apart.1)

  functions_apart : (x : CFun) → IsFunctionOf units x → is_external x.linkage ≡ true → (others : List CFun) → All (IsFunctionOf units) others
      → AreOther x.function (map number_of_function others) → All (IsOtherFunction x.name) others
  functions_apart x of external [] all apart = All-nil (IsOtherFunction x.name)
  functions_apart x of external (y ∷ others) all apart =
      All-cons (IsOtherFunction x.name) y others
      (λ y_external. other_name x.name y.name
      (λ same. not_same_back x.function y.function apart.0
      (ap number_of_function (function_named units typed none x y of (All-head (IsFunctionOf units) y others all) external y_external (sym same)))))
      (functions_apart x of external others (All-tail (IsFunctionOf units) y others all) apart.1)

  objects_apart : (x : CObject) → IsOfUnit units x → (name : List ℕ) → is_external x.linkage ≡ true → x.name ≡ Some name → (others : List CObject)
      → All (IsOfUnit units) others → AreOther x.object (map number_of others) → All (HasOtherName name) others
  objects_apart x of name external is [] all apart = All-nil (HasOtherName name)
  objects_apart x of name external is (y ∷ others) all apart =
      All-cons (HasOtherName name) y others
      (λ y_external y_is. not_same_back x.object y.object apart.0
      (ap number_of (object_named units typed none x y of (All-head (IsOfUnit units) y others all) name external is y_external y_is)))
      (objects_apart x of name external is others (All-tail (IsOfUnit units) y others all) apart.1)

  -- ---- all names

  outers_named : (outers : List COuter) → All (IsLeftOf units) outers → IsDistinct eqb (map number_of_outer outers) → IsDistinct bytes_eq (names types [] [] outers)
  unfolding IsDistinct
  outers_named [] all differ = tt
  outers_named (x ∷ others) all differ =
      last_distinct x.name (names types [] [] others) (is_external x.linkage)
      (λ external. no_outer_has types x.name others
      (outers_apart x (All-head (IsLeftOf units) x others all) others (All-tail (IsLeftOf units) x others all) differ.0))
      (outers_named others (All-tail (IsLeftOf units) x others all) differ.1)

  functions_named : (functions : List CFun) → All (IsFunctionOf units) functions → IsDistinct eqb (map number_of_function functions)
      → IsDistinct bytes_eq (names types [] functions (linked units).externals)
  unfolding IsDistinct
  functions_named [] all differ = outers_named (linked units).externals (program_externals units typed) (outers_differ units typed)
  functions_named (x ∷ others) all differ =
      let of = All-head (IsFunctionOf units) x others all in
      add_distinct x.name _ _ (is_external x.linkage)
      (λ external. no_function_has types x.name others (linked units).externals
      (functions_apart x of external others (All-tail (IsFunctionOf units) x others all) differ.0)
      (all_made (IsLeftOf units) (IsOtherOuter x.name) (linked units).externals
      (λ y left y_external. other_name x.name y.name (λ same. no_function_left units typed none x y of left external (sym same)))
      (program_externals units typed)))
      (functions_named others (All-tail (IsFunctionOf units) x others all) differ.1)

  objects_named : (objects : List CObject) → All (IsOfUnit units) objects → IsDistinct eqb (map number_of objects)
      → IsDistinct bytes_eq (names types objects (linked units).functions (linked units).externals)
  unfolding IsDistinct
  objects_named [] all differ = functions_named (linked units).functions (program_functions units typed) (functions_differ units typed)
  objects_named (x ∷ others) all differ =
      let of = All-head (IsOfUnit units) x others all in
      object_distinct types (linked units).functions (linked units).externals others x.object x.unit x.name x.is_text x.type x.linkage x.puts
      (λ name external is. no_object_has types (linked units).functions (linked units).externals name others
      (objects_apart x of name external is others (All-tail (IsOfUnit units) x others all) differ.0)
      (no_function_has types name (linked units).functions (linked units).externals
      (all_made (IsFunctionOf units) (IsOtherFunction name) (linked units).functions
      (λ y also y_external. other_name name y.name
      (λ same. no_object_function units typed none x y of also external (is ∙ ap (λ found. Some found) (sym same)) y_external))
      (program_functions units typed))
      (all_made (IsLeftOf units) (IsOtherOuter name) (linked units).externals
      (λ y left y_external. other_name name y.name
      (λ same. no_object_outer units typed none x y of left external (is ∙ ap (λ found. Some found) (sym same))))
      (program_externals units typed))))
      (objects_named others (All-tail (IsOfUnit units) x others all) differ.1)

pub program_names_differ : (units : List CUnit) → AreTypedUnits units → broken_links units ≡ None → IsDistinct bytes_eq (names_with is_external (linked units))
program_names_differ units typed none =
    objects_named units typed none (linked units).types (linked units).objects (program_objects units typed) (all_objects_differ units typed)
