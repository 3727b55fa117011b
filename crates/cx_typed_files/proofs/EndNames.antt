-- No two names with linkage of a unit are the same at its end (ISO C99, 6.2.2p2).
use Rattle.std.proofs.Common.{◌≡◌, ℕ, Bool, true, false, not, if◌then◌else◌, List, [], ◌∷◌, ◌++◌, Option, None, Some, bytes_eq, refl, sym, ap, ◌∙◌, subst, append_assoc}
use Rattle.std.proofs.lemmas.Slice.Eq.{bytes_eq-Decides}
use Rattle.std.specs.Prelude.{IfSome}
use Rattle.std.specs.List.{IsDistinct}
use Rattle.cx_core.specs.declared.program.Linkage.{Linkage}
use Rattle.cx_core.specs.Linked.{has_linkage, program_of, names_with}
use Rattle.cx_core.specs.Trees.{CObject, CFun, COuter}
use Rattle.cx_rules.specs.Declare.{thing_named}
use Rattle.cx_rules.specs.Scope.{CThing, CScope}
use Rattle.cx_typed.proofs.Stays.{both}
use Rattle.cx_typed_files.proofs.EndFunctions.{is_outer, outer_of, each_outer}
use Rattle.cx_typed_files.proofs.EndLists.{Each, AreApart, each_got, each_more, each_both, apart_both, apart_got, apart_distinct}
use Rattle.cx_typed_files.proofs.UnitEnd.{in_number_order, all_objects, outers_of, unit_at, same_object, itself}
use Rattle.cx_typed_files.specs.FileScope.{IsAtFileScope}
use Rattle.cx_typed_units.specs.Account.{account_of, IsObjectNamed, IsAccounted}

same_value : {X : Type 0} {x y : X} → Some x ≡ Some y → x ≡ y
same_value is = cc

-- ---- as `Linked` says it

abbrev name_before : Option (List ℕ) → List (List ℕ) → List (List ℕ)
name_before None names = names
name_before (Some name) names = name ∷ names

abbrev names_of_objects : (Linkage → Bool) → List CObject → List (List ℕ)
names_of_objects counts [] = []
names_of_objects counts (one ∷ others) = if counts one.linkage then name_before one.name (names_of_objects counts others) else names_of_objects counts others

abbrev names_of_functions : (Linkage → Bool) → List CFun → List (List ℕ)
names_of_functions counts [] = []
names_of_functions counts (one ∷ others) = if counts one.linkage then one.name ∷ names_of_functions counts others else names_of_functions counts others

abbrev names_of_outers : (Linkage → Bool) → List COuter → List (List ℕ)
names_of_outers counts [] = []
names_of_outers counts (one ∷ others) = if counts one.linkage then one.name ∷ names_of_outers counts others else names_of_outers counts others

-- ---- lists of names

if_counted : (P : List ℕ → Type 0) (counted : Bool) (name : List ℕ) (names : List (List ℕ)) → P name → Each P names → Each P (if counted then name ∷ names else names)
if_counted P true name names held rest = (held, rest)
if_counted P false name names held rest = rest

each_function : (P : List ℕ → Type 0) (xs : List CFun) → Each (λ one. P one.name) xs → Each P (names_of_functions has_linkage xs)
each_function P [] held = tt
each_function P (one ∷ others) held = if_counted P (has_linkage one.linkage) one.name (names_of_functions has_linkage others) held.0 (each_function P others held.1)

each_declared : (P : List ℕ → Type 0) (xs : List COuter) → Each (λ one. P one.name) xs → Each P (names_of_outers has_linkage xs)
each_declared P [] held = tt
each_declared P (one ∷ others) held = if_counted P (has_linkage one.linkage) one.name (names_of_outers has_linkage others) held.0 (each_declared P others held.1)

if_named : (P : List ℕ → Type 0) (name : Option (List ℕ)) (names : List (List ℕ)) → IfSome name P → Each P names → Each P (name_before name names)
if_named P None names held rest = rest
if_named P (Some name) names held rest = (held, rest)

each_object : (P : List ℕ → Type 0) (xs : List CObject) → Each (λ one. has_linkage one.linkage ≡ true → IfSome one.name P) xs → Each P (names_of_objects has_linkage xs)
each_object P [] held = tt
each_object P (one ∷ others) held = by_linkage (has_linkage one.linkage) refl (each_object P others held.1)
  where
    by_linkage : (counted : Bool) → has_linkage one.linkage ≡ counted → Each P (names_of_objects has_linkage others)
        → Each P (if counted then name_before one.name (names_of_objects has_linkage others) else names_of_objects has_linkage others)
    by_linkage true e rest = if_named P one.name (names_of_objects has_linkage others) (held.0 e) rest
    by_linkage false e rest = rest

-- ---- each kind by itself

function_names : (xs : List CFun) → AreApart (λ (x : CFun) (y : CFun). bytes_eq x.name y.name) xs → AreApart bytes_eq (names_of_functions has_linkage xs)
function_names [] held = tt
function_names (one ∷ others) held = by_linkage (has_linkage one.linkage) (function_names others held.1)
  where
    by_linkage : (counted : Bool) → AreApart bytes_eq (names_of_functions has_linkage others)
        → AreApart bytes_eq (if counted then one.name ∷ names_of_functions has_linkage others else names_of_functions has_linkage others)
    by_linkage true rest = (each_function (λ name. bytes_eq one.name name ≡ false) others held.0, rest)
    by_linkage false rest = rest

outer_names : (xs : List COuter) → AreApart (λ (x : COuter) (y : COuter). bytes_eq x.name y.name) xs → AreApart bytes_eq (names_of_outers has_linkage xs)
outer_names [] held = tt
outer_names (one ∷ others) held = by_linkage (has_linkage one.linkage) (outer_names others held.1)
  where
    by_linkage : (counted : Bool) → AreApart bytes_eq (names_of_outers has_linkage others)
        → AreApart bytes_eq (if counted then one.name ∷ names_of_outers has_linkage others else names_of_outers has_linkage others)
    by_linkage true rest = (each_declared (λ name. bytes_eq one.name name ≡ false) others held.0, rest)
    by_linkage false rest = rest

outers_named : (things : List CThing) → AreApart (λ (x : CThing) (y : CThing). bytes_eq x.name y.name) things → AreApart (λ (x : COuter) (y : COuter). bytes_eq x.name y.name) (outers_of things)
outers_named [] held = tt
outers_named (one ∷ others) held = by_test (is_outer one) (outers_named others held.1)
  where
    by_test : (b : Bool) → AreApart (λ (x : COuter) (y : COuter). bytes_eq x.name y.name) (outers_of others)
        → AreApart (λ (x : COuter) (y : COuter). bytes_eq x.name y.name) (if b then outer_of one ∷ outers_of others else outers_of others)
    by_test true rest =
        (each_outer (λ other. bytes_eq one.name other.name ≡ false) others (each_more (λ (other : CThing). bytes_eq one.name other.name ≡ false) _ others (λ other is outer. is) held.0), rest)
    by_test false rest = rest

module _ (things : List CThing) where
  abbrev pub IsNamed : CObject → Type 0
  IsNamed one = has_linkage one.linkage ≡ true → IsObjectNamed things one

  name_differs : (one other : CObject) → IsObjectNamed things one → IsObjectNamed things other → same_object one other ≡ false → (b : Bool) → (first : List ℕ) → one.name ≡ Some first → (second : List ℕ) → other.name ≡ Some second
      → bytes_eq first second ≡ b → bytes_eq first second ≡ false
  name_differs one other n m apart true first is second also e =
      let same : n.name ≡ m.name = same_value (sym n.named ∙ is) ∙ ((bytes_eq-Decides first second).0 e ∙ same_value (sym also ∙ m.named)) in
      let thing : n.thing ≡ m.thing = same_value (sym n.there ∙ (ap (λ name. thing_named name things) same ∙ m.there)) in
      let number : one.object ≡ other.object = sym n.number_is ∙ (ap (λ (x : CThing). x.number) thing ∙ m.number_is) in
      absurd (let h : true ≡ false = sym (itself one.object other.object number) ∙ apart in cc)
  name_differs one other n m apart false first is second also e = e

  object_names : (xs : List CObject) → AreApart same_object xs → Each IsNamed xs → AreApart bytes_eq (names_of_objects has_linkage xs)
  object_names [] apart named = tt
  object_names (one ∷ others) apart named = by_linkage (has_linkage one.linkage) refl (object_names others apart.1 named.1)
    where
      if_other : (other : CObject) (first : List ℕ) → one.name ≡ Some first → IsObjectNamed things one → IsObjectNamed things other → same_object one other ≡ false → (found : Option (List ℕ)) → other.name ≡ found
          → IfSome found (λ second. bytes_eq first second ≡ false)
      if_other other first is n m apart None e = tt
      if_other other first is n m apart (Some second) e = name_differs one other n m apart (bytes_eq first second) first is second e refl

      others_differ : (first : List ℕ) → one.name ≡ Some first → IsObjectNamed things one → (xs : List CObject) → Each (λ y. same_object one y ≡ false) xs → Each IsNamed xs
          → Each (λ other. has_linkage other.linkage ≡ true → IfSome other.name (λ second. bytes_eq first second ≡ false)) xs
      others_differ first is n [] apart named = tt
      others_differ first is n (other ∷ xs) apart named = (λ linked. if_other other first is n (named.0 linked) apart.0 other.name refl, others_differ first is n xs apart.1 named.1)

      by_name : IsObjectNamed things one → (found : Option (List ℕ)) → one.name ≡ found → AreApart bytes_eq (names_of_objects has_linkage others)
          → AreApart bytes_eq (name_before found (names_of_objects has_linkage others))
      by_name n None e rest = rest
      by_name n (Some first) e rest = (each_object (λ second. bytes_eq first second ≡ false) others (others_differ first e n others apart.0 named.1), rest)

      by_linkage : (counted : Bool) → has_linkage one.linkage ≡ counted → AreApart bytes_eq (names_of_objects has_linkage others)
          → AreApart bytes_eq (if counted then name_before one.name (names_of_objects has_linkage others) else names_of_objects has_linkage others)
      by_linkage true e rest = by_name (named.0 e) one.name refl rest
      by_linkage false e rest = rest

-- ---- all of them

cross_apart : (P Q : List ℕ → Type 0) → ((name : List ℕ) → P name → Q name → ⊥) → (xs ys : List (List ℕ)) → Each P xs → Each Q ys → Each (λ x. Each (λ y. bytes_eq x y ≡ false) ys) xs
cross_apart P Q never xs ys first second = each_more P (λ x. Each (λ y. bytes_eq x y ≡ false) ys) xs (λ x one. each_more Q (λ y. bytes_eq x y ≡ false) ys (λ y other. by_test x y one other (bytes_eq x y) refl) second) first
  where
    by_test : (x y : List ℕ) → P x → Q y → (b : Bool) → bytes_eq x y ≡ b → bytes_eq x y ≡ false
    by_test x y one other true e = absurd (never x one (subst Q (sym ((bytes_eq-Decides x y).0 e)) other))
    by_test x y one other false e = e

module _ (scope : CScope) (at : IsAtFileScope [] scope) (named : Each (IsNamed scope.things) (in_number_order (all_objects scope))) (apart : AreApart same_object (in_number_order (all_objects scope))) where
  held : IsAccounted [] None (account_of scope)
  held = at.accounted

  record IsThingName (is_function is_defined : Bool) (name : List ℕ) : Type 0 where
    thing : CThing
    there : thing_named name scope.things ≡ Some thing
    function_is : thing.is_function ≡ is_function
    defined_is : is_function ≡ true → thing.is_defined ≡ is_defined

  functions_named : Each (IsThingName true true) (names_of_functions has_linkage scope.functions)
  functions_named = each_function (IsThingName true true) scope.functions (each_got (λ (one : CFun). IsThingName true true one.name) scope.functions (λ place one here.
      let known = held.functions place one here in
      record { thing = known.thing; there = known.there; function_is = known.function_is; defined_is = λ is. known.defined }))

  outers_are : Each (IsThingName true false) (names_of_outers has_linkage (outers_of scope.things))
  outers_are =
      each_declared (IsThingName true false) (outers_of scope.things) (each_outer (λ (one : COuter). IsThingName true false one.name) scope.things
      (each_got (λ (one : CThing). is_outer one ≡ true → IsThingName true false one.name) scope.things (λ place one here outer.
      record { thing = one; there = held.listed place one here; function_is = (both outer).0; defined_is = λ is. undefined one.is_defined (both outer).1 })))
    where
      undefined : (defined : Bool) → not defined ≡ true → defined ≡ false
      undefined true is = absurd cc
      undefined false is = refl

  objects_named : Each (IsThingName false false) (names_of_objects has_linkage (in_number_order (all_objects scope)))
  objects_named = each_object (IsThingName false false) (in_number_order (all_objects scope)) (each_more (IsNamed scope.things) _ (in_number_order (all_objects scope)) (λ one n linked. by_name one (n linked) one.name refl) named)
    where
      by_name : (one : CObject) → IsObjectNamed scope.things one → (found : Option (List ℕ)) → one.name ≡ found → IfSome found (IsThingName false false)
      by_name one n None e = tt
      by_name one n (Some name) e =
          let same : n.name ≡ name = same_value (sym n.named ∙ e) in
          record { thing = n.thing; there = ap (λ x. thing_named x scope.things) (sym same) ∙ n.there; function_is = n.object_is; defined_is = λ is. absurd cc }

  same_things : (is_function other defined undefined : Bool) (name : List ℕ) (one : IsThingName is_function defined name) → (also : IsThingName other undefined name) → one.thing ≡ also.thing
  same_things is_function other defined undefined name one also = same_value (sym one.there ∙ also.there)

  object_function : (defined : Bool) (name : List ℕ) → IsThingName false false name → IsThingName true defined name → ⊥
  object_function defined name one also =
      let same = same_things false true false defined name one also in
      let h : false ≡ true = sym one.function_is ∙ (ap (λ (x : CThing). x.is_function) same ∙ also.function_is) in cc

  defined_outer : (name : List ℕ) → IsThingName true true name → IsThingName true false name → ⊥
  defined_outer name one also =
      let same = same_things true true true false name one also in
      let h : true ≡ false = sym (one.defined_is refl) ∙ (ap (λ (x : CThing). x.is_defined) same ∙ also.defined_is refl) in cc

  body_names : AreApart bytes_eq (names_of_functions has_linkage scope.functions)
  body_names = function_names scope.functions (apart_got (λ (x : CFun) (y : CFun). bytes_eq x.name y.name) scope.functions (λ first second one other here there same.
      held.bodies_differ first second one other here there ((bytes_eq-Decides one.name other.name).0 same)))

  declared_names : AreApart bytes_eq (names_of_outers has_linkage (outers_of scope.things))
  declared_names = outer_names (outers_of scope.things) (outers_named scope.things (apart_got (λ (x : CThing) (y : CThing). bytes_eq x.name y.name) scope.things (λ first second one other here there same.
      held.things_differ first second one other here there ((bytes_eq-Decides one.name other.name).0 same))))

  pub names_apart : IsDistinct bytes_eq (names_with has_linkage (program_of (unit_at scope)))
  names_apart =
      let objects = names_of_objects has_linkage (in_number_order (all_objects scope)) in
      let functions = names_of_functions has_linkage scope.functions in
      let outers = names_of_outers has_linkage (outers_of scope.things) in
      apart_distinct bytes_eq (objects ++ functions ++ outers)
      (subst (AreApart bytes_eq) (sym (append_assoc objects functions outers))
      (apart_both bytes_eq objects (functions ++ outers) (object_names scope.things (in_number_order (all_objects scope)) apart named)
      (apart_both bytes_eq functions outers body_names declared_names (cross_apart (IsThingName true true) (IsThingName true false) defined_outer functions outers functions_named outers_are))
      (cross_apart (IsThingName false false) (λ name. (defined : Bool) × IsThingName true defined name) (λ name one also. object_function also.0 name one also.1) objects (functions ++ outers) objects_named
      (each_both (λ name. (defined : Bool) × IsThingName true defined name) functions outers
      (each_more (IsThingName true true) (λ name. (defined : Bool) × IsThingName true defined name) functions (λ name one. (true, one)) functions_named)
      (each_more (IsThingName true false) (λ name. (defined : Bool) × IsThingName true defined name) outers (λ name one. (false, one)) outers_are)))))
