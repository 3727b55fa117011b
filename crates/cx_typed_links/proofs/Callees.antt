-- What a function of a unit is in the program: what the unit defines, what another defines, or what the first unit that declares it has (ISO C99,
-- 6.2.2p2, 6.5.2.2).
use Rattle.std.proofs.Common.{◌≡◌, ℕ, ◌+◌, ◌==◌, Bool, true, false, if◌then◌else◌, List, [], ◌∷◌, ◌++◌, map, Option, None, Some, slice_get, is_none, refl, sym, ap, ◌∙◌, subst}
use Rattle.std.specs.Prelude.{◌<◌, cond, IsSome}
use Rattle.std.specs.List.{list_any}
use Rattle.std.proofs.lemmas.Slice.Eq.{bytes_eq-Decides}
use Rattle.cx_core.specs.Linked.{is_external}
use Rattle.cx_core.specs.Trees.{CFun, COuter, CUnit}
use Rattle.cx_core.specs.Typing.{CCallee, function_with, outer_with, callee_with}
use Rattle.cx_links.specs.Program.{CFound, declared_function, prototyped_function, first_unit, function_of_name, outer_of_name, counts_before, function_at, function_number, numbers_of, is_in, is_left, outers_from, linked}
use Rattle.cx_renumber.specs.Numbers.{above, type_there, outer_there}
use Rattle.cx_typed_links.proofs.Compatible.{together_true}
use Rattle.cx_typed_links.proofs.ExternalObjects.{some_of, some_other, found_too, some_first}
use Rattle.cx_typed_links.proofs.Functions.{number_of_function, number_of_outer, functions_in, functions_before, less_of_first, less_of_second, IsFunctionOf, program_functions, own_function_number, own_function, named_function}
use Rattle.cx_typed_links.proofs.Joined.{rows_before, none_on}
use Rattle.cx_typed_links.proofs.Outers.{is_named, IsLeftOf, IsFirstDeclared, first_declared, left_number, left_place, linked_externals, program_externals}
use Rattle.cx_typed_links.proofs.OwnObjects.{first_holds, any_in_first, any_in_second, any_given}
use Rattle.cx_typed_links.proofs.Places.{found_holds, any_found, below_all, same_found, same_number, number_itself, units_apart}
use Rattle.cx_typed_links.specs.Laws.{AreTypedUnits}

module _ (units : List CUnit) (typed : AreTypedUnits units) (name : List ℕ) (found : CFound COuter) (found_is : outer_of_name units name ≡ Some found)
    (undefined : function_of_name units name ≡ None) where
  first : IsFirstDeclared units name found
  first = first_declared units typed name found found_is

  abbrev place : ℕ
  place = function_at units found.unit found.thing.function

  below : (home : CUnit) (number : ℕ) (thing : COuter) → outer_with number home.externals ≡ Some thing → number < functions_in home
  below home number thing is =
      less_of_second number (above (map number_of_function home.functions)) (above (map number_of_outer home.externals))
      (below_all number_of_outer home.externals number thing is)

  same_place : (unit number : ℕ) → function_at units unit number ≡ place
      → rows_before functions_in unit units + number ≡ rows_before functions_in found.unit units + found.thing.function
  same_place unit number same =
      ap (λ n. n + number) (functions_before unit units) ∙ same ∙ sym (ap (λ n. n + found.thing.function) (functions_before found.unit units))

  -- ---- no function has its number

  pub not_defined_by : (one : CFun) → IsFunctionOf units one → one.function ≡ place → ⊥
  not_defined_by one of is =
      let same : function_at units of.unit of.thing.function ≡ place =
      sym (own_function_number units of.unit of.home of.thing.function of.in_unit.own.1) ∙ sym (ap number_of_function of.is) ∙ is in
      let apart = units_apart functions_in units of.unit found.unit of.home found.home of.thing.function found.thing.function of.in_unit.unit_is
      (less_of_first of.thing.function (above (map number_of_function of.home.functions)) (above (map number_of_outer of.home.externals))
      (below_all number_of_function of.home.functions of.thing.function of.thing of.in_unit.own.0))
      first.unit_is (below found.home found.thing.function found.thing first.own.0)
      (same_place of.unit of.thing.function same) in
      let home : of.home ≡ found.home =
      same_found (slice_get units found.unit) of.home found.home (subst (λ n. slice_get units n ≡ Some of.home) apart.0 of.in_unit.unit_is) first.unit_is in
      let none : outer_with found.thing.function found.home.externals ≡ None =
      subst (λ (unit : CUnit). outer_with found.thing.function unit.externals ≡ None) home
      (subst (λ n. outer_with n of.home.externals ≡ None) apart.1 of.in_unit.own.1) in
      (let h : None ≡ Some found.thing = sym none ∙ first.own.0 in cc)

  no_function_by : (other : Option CFun) → function_with place (linked units).functions ≡ other → function_with place (linked units).functions ≡ None
  no_function_by None is = is
  no_function_by (Some other) is =
      let held = found_holds (IsFunctionOf units) (λ one. one.function == place) (linked units).functions other (program_functions units typed) is in
      absurd (not_defined_by other held.0 (same_number other.function place held.1))

  pub no_function : function_with place (linked units).functions ≡ None
  no_function = no_function_by (function_with place (linked units).functions) refl

  -- ---- it is there

  abbrev standing : COuter
  standing = outer_there (numbers_of units found.home found.unit) found.thing

  abbrev has_place : COuter → Bool
  has_place one = one.function == place

  undefined_there : function_of_name units found.thing.name ≡ None
  undefined_there = ap (function_of_name units) first.name_is ∙ undefined

  found_there : outer_of_name units found.thing.name ≡ Some found
  found_there = ap (outer_of_name units) first.name_is ∙ found_is

  standing_passes : has_place standing ≡ true
  standing_passes =
      subst (λ n. (n == place) ≡ true)
      (sym (left_number units typed found.unit found.home found.thing.function found.thing first.own.0 first.external undefined_there found found_there))
      (number_itself place)

  thing_left : is_left units found.unit found.thing ≡ true
  thing_left =
      together_true first.external
      (together_true (ap is_none undefined_there) (ap (is_in found.unit) found_there ∙ number_itself found.unit))

  abbrev part : COuter → List COuter
  part known = if is_left units found.unit known then outer_there (numbers_of units found.home found.unit) known ∷ [] else []

  part_passes : part found.thing ≡ standing ∷ []
  part_passes = ap (λ (left : Bool). if left then standing ∷ [] else []) thing_left

  parts_by : (known : COuter) (others : List COuter) (passes : Bool) → (known.function == found.thing.function) ≡ passes
      → cond passes (Some known) (outer_with found.thing.function others) ≡ Some found.thing
      → (outer_with found.thing.function others ≡ Some found.thing → list_any has_place (outers_from units found.home found.unit others) ≡ true)
      → list_any has_place (part known ++ outers_from units found.home found.unit others) ≡ true
  parts_by known others true passes is later =
      let same : known ≡ found.thing = cc (is) in
      any_in_first has_place (λ _ _. []) (part known) (outers_from units found.home found.unit others)
      (subst (λ (one : COuter). list_any has_place (part one) ≡ true) (sym same)
      (ap (list_any has_place) part_passes ∙ first_holds (has_place standing) false standing_passes))
  parts_by known others false passes is later =
      any_in_second has_place (λ _ _. []) (part known) (outers_from units found.home found.unit others) (later is)

  parts_pass : (outers : List COuter) → outer_with found.thing.function outers ≡ Some found.thing
      → list_any has_place (outers_from units found.home found.unit outers) ≡ true
  parts_pass [] is = absurd cc
  parts_pass (known ∷ others) is = parts_by known others (known.function == found.thing.function) refl is (parts_pass others)

  some_there : IsSome (outer_with place (linked units).externals)
  some_there =
      any_found has_place (linked units).externals
      (subst (λ all. list_any has_place all ≡ true) (sym (linked_externals units typed))
      (any_given has_place (λ home n. outers_from units home n home.externals) 0 units found.unit found.home first.unit_is
      (subst (λ n. list_any has_place (outers_from units found.home n found.home.externals) ≡ true) (sym (none_on found.unit))
      (parts_pass found.home.externals first.own.0))))

  same_outer : (one : COuter) → IsLeftOf units one → one.function ≡ place → one ≡ standing
  same_outer one of is =
      let own = first_declared units typed of.found.thing.name of.found of.found_is in
      let apart = units_apart functions_in units of.found.unit found.unit of.found.home found.home of.found.thing.function found.thing.function own.unit_is
      (below of.found.home of.found.thing.function of.found.thing own.own.0)
      first.unit_is (below found.home found.thing.function found.thing first.own.0)
      (same_place of.found.unit of.found.thing.function (sym (left_place units typed one of) ∙ is)) in
      let home : of.found.home ≡ found.home =
      same_found (slice_get units found.unit) of.found.home found.home (subst (λ n. slice_get units n ≡ Some of.found.home) apart.0 own.unit_is) first.unit_is in
      let thing : of.found.thing ≡ found.thing =
      same_found (outer_with found.thing.function found.home.externals) of.found.thing found.thing
      (subst (λ (unit : CUnit). outer_with found.thing.function unit.externals ≡ Some of.found.thing) home
      (subst (λ n. outer_with n of.found.home.externals ≡ Some of.found.thing) apart.1 own.own.0)) first.own.0 in
      of.is
      ∙ ap (λ n. outer_there (numbers_of units of.found.home n) of.found.thing) apart.0
      ∙ ap (λ unit. outer_there (numbers_of units unit found.unit) of.found.thing) home
      ∙ ap (λ outer. outer_there (numbers_of units found.home found.unit) outer) thing

  found_by : (other : Option COuter) → outer_with place (linked units).externals ≡ other → IsSome other → outer_with place (linked units).externals ≡ Some standing
  found_by None is some = absurd cc
  found_by (Some other) is some =
      let held = found_holds (IsLeftOf units) has_place (linked units).externals other (program_externals units typed) is in
      is ∙ ap (λ one. Some one) (same_outer other held.0 (same_number other.function place held.1))

  pub outer_found : outer_with place (linked units).externals ≡ Some standing
  outer_found = found_by (outer_with place (linked units).externals) refl some_there

-- ---- what a call finds

abbrev callee_by : Option CFun → Option COuter → Option CCallee
callee_by (Some one) outer = Some (record { type = one.type; outer = None })
callee_by None (Some one) = Some (record { type = one.type; outer = Some one })
callee_by None None = None

module _ (units : List CUnit) (typed : AreTypedUnits units) (unit : ℕ) (one : CUnit) (is : slice_get units unit ≡ Some one) (number : ℕ) where
  -- a function that the unit defines
  pub callee_defined : (known : CFun) → function_with number one.functions ≡ Some known
      → callee_with (function_number units one unit number) (linked units) ≡ Some (record { type = type_there (counts_before unit units) known.type; outer = None })
  callee_defined known found =
      ap (λ other. callee_by other (outer_with (function_number units one unit number) (linked units).externals)) (own_function units typed unit one is number known found)

  -- one that another unit defines
  pub callee_named : (outer : COuter) → outer_with number one.externals ≡ Some outer → is_external outer.linkage ≡ true
      → (found : CFound CFun) → function_of_name units outer.name ≡ Some found
      → callee_with (function_number units one unit number) (linked units) ≡ Some (record { type = type_there (counts_before found.unit units) found.thing.type; outer = None })
  callee_named outer is_outer external found found_is =
      ap (λ other. callee_by other (outer_with (function_number units one unit number) (linked units).externals))
      (named_function units typed unit one number outer is_outer external found found_is)

  -- one that no unit defines
  pub record IsLeftCallee (name : List ℕ) : Type 0 where
    pub found : CFound COuter
    pub found_is : outer_of_name units name ≡ Some found
    pub callee : callee_with (function_number units one unit number) (linked units) ≡ Some (record {
      type = type_there (counts_before found.unit units) found.thing.type;
      outer = Some (outer_there (numbers_of units found.home found.unit) found.thing);
    })

  pub callee_left : (outer : COuter) → outer_with number one.externals ≡ Some outer → is_external outer.linkage ≡ true
      → function_of_name units outer.name ≡ None → IsLeftCallee outer.name
  callee_left outer is_outer external undefined =
      let declared : IsSome (declared_function outer.name one) =
      found_too (λ other. other.function == number) (is_named outer.name) one.externals outer is_outer
      (together_true external ((bytes_eq-Decides outer.name outer.name).1 refl)) in
      let found = some_of (outer_of_name units outer.name)
      (some_other (first_unit (prototyped_function outer.name) 0 units) (first_unit (declared_function outer.name) 0 units)
      (some_first (declared_function outer.name) 0 units unit one is declared)) in
      let place : function_number units one unit number ≡ function_at units found.0.unit found.0.thing.function =
      left_number units typed unit one number outer is_outer external undefined found.0 found.1 in
      record {
        found = found.0;
        found_is = found.1;
        callee =
            ap (λ n. callee_with n (linked units)) place
            ∙ ap (λ other. callee_by other (outer_with (function_at units found.0.unit found.0.thing.function) (linked units).externals))
            (no_function units typed outer.name found.0 found.1 undefined)
            ∙ ap (callee_by None) (outer_found units typed outer.name found.0 found.1 undefined);
      }
