-- The functions of a unit at its end: those that it defines, and those that it only declares (ISO C99, 6.2.2, 6.9.1).
use Rattle.std.proofs.Common.{◌≡◌, inl, inr, ℕ, ◌==◌, Bool, true, false, not, ◌&&◌, if◌then◌else◌, List, [], ◌∷◌, Option, None, Some, slice_get, bytes_eq, refl, sym, ap, ◌∙◌, subst}
use Rattle.std.specs.Prelude.{IsSome, IfSome}
use Rattle.cx_core.specs.Compatible.{AreCompatible}
use Rattle.cx_core.specs.Trees.{CTy, CFun, COuter}
use Rattle.cx_core.specs.Typing.{CCallee, function_with, outer_with}
use Rattle.cx_core.specs.Linked.{program_of}
use Rattle.cx_rules.specs.Declare.{thing_named}
use Rattle.cx_rules.specs.Scope.{CThing, CScope}
use Rattle.cx_rules.specs.Types.{compatible}
use Rattle.cx_typed.proofs.Same.{number_is}
use Rattle.cx_typed.proofs.Stays.{both, together}
use Rattle.cx_typed_files.proofs.EndLists.{Each, IsAmong, AreApart, each_got, each_more, each_among, got_among, find_among, find_passes, find_none, apart_got}
use Rattle.cx_typed_files.proofs.UnitEnd.{outers_of, unit_at, itself}
use Rattle.cx_typed_files.specs.FileScope.{IsAtFileScope}
use Rattle.cx_typed_units.proofs.Joins.{compatible_back, earlier_goes, fills_agree}
use Rattle.cx_typed_units.proofs.Named.{has_name}
use Rattle.cx_typed_units.specs.Account.{account_of, IsFunctionThing, IsDefinedBy, IsAccounted}
use Rattle.cx_typed_units.specs.Fills.{Fills}
use Rattle.cx_typed_units.specs.Stretches.{IsLinkedFunction, IsLinkedBy}

same_value : {X : Type 0} {x y : X} → Some x ≡ Some y → x ≡ y
same_value is = cc

-- ---- functions that the unit only declares

abbrev pub is_outer : CThing → Bool
is_outer one = one.is_function && not one.is_defined

abbrev pub outer_of : CThing → COuter
outer_of one = record { function = one.number; name = one.name; linkage = one.linkage; type = one.type }

pub each_outer : (P : COuter → Type 0) (things : List CThing) → Each (λ one. is_outer one ≡ true → P (outer_of one)) things → Each P (outers_of things)
each_outer P [] held = tt
each_outer P (one ∷ others) held = by_test (is_outer one) refl (each_outer P others held.1)
  where
    by_test : (b : Bool) → is_outer one ≡ b → Each P (outers_of others) → Each P (if b then outer_of one ∷ outers_of others else outers_of others)
    by_test true e rest = (held.0 e, rest)
    by_test false e rest = rest

pub among_outers : (one : CThing) (things : List CThing) → IsAmong one things → is_outer one ≡ true → IsAmong (outer_of one) (outers_of things)
among_outers one [] is outer = absurd is
among_outers one (first ∷ others) (inl same) outer = by_test (is_outer first) (ap is_outer same ∙ outer)
  where
    by_test : (b : Bool) → b ≡ true → IsAmong (outer_of one) (if b then outer_of first ∷ outers_of others else outers_of others)
    by_test true e = inl (ap outer_of same)
    by_test false e = absurd cc
among_outers one (first ∷ others) (inr more) outer = by_test (is_outer first) (among_outers one others more outer)
  where
    by_test : (b : Bool) → IsAmong (outer_of one) (outers_of others) → IsAmong (outer_of one) (if b then outer_of first ∷ outers_of others else outers_of others)
    by_test true rest = inr rest
    by_test false rest = rest

abbrev pub same_outer : COuter → COuter → Bool
same_outer one other = one.function == other.function

abbrev pub same_functions : CThing → CThing → Bool
same_functions one other = is_outer one && (is_outer other && one.number == other.number)

differs : (a b c : Bool) → (a && (b && c)) ≡ false → a ≡ true → b ≡ true → c ≡ false
differs true true c is first second = is
differs true false c is first second = absurd cc
differs false b c is first second = absurd cc

pub apart_outers : (things : List CThing) → AreApart same_functions things → AreApart same_outer (outers_of things)
apart_outers [] held = tt
apart_outers (one ∷ others) held = by_test (is_outer one) refl (apart_outers others held.1)
  where
    by_test : (b : Bool) → is_outer one ≡ b → AreApart same_outer (outers_of others) → AreApart same_outer (if b then outer_of one ∷ outers_of others else outers_of others)
    by_test true e rest = (
      each_outer (λ other. same_outer (outer_of one) other ≡ false) others
          (each_more (λ other. same_functions one other ≡ false) (λ other. is_outer other ≡ true → (one.number == other.number) ≡ false) others
          (λ other is outer. differs (is_outer one) (is_outer other) (one.number == other.number) is e outer) held.0),
      rest,
    )
    by_test false e rest = rest

only_outer : (x : COuter) (xs : List COuter) → AreApart same_outer xs → IsAmong x xs → Each (λ y. (y.function == x.function) ≡ true → y ≡ x) xs
only_outer x [] held is = tt
only_outer x (y ∷ xs) held (inl same) = (
  λ passes. same,
  each_more (λ z. same_outer y z ≡ false) (λ z. (z.function == x.function) ≡ true → z ≡ x) xs
      (λ z apart passes. absurd (let h : z.function ≡ x.function = number_is z.function x.function passes in let k : (y.function == z.function) ≡ true = itself y.function z.function (ap (λ (o : COuter). o.function) same ∙ sym h) in let c : true ≡ false = sym k ∙ apart in cc)) held.0,
)
only_outer x (y ∷ xs) held (inr more) = (
  λ passes. absurd (let h : same_outer y x ≡ false = each_among (λ z. same_outer y z ≡ false) xs x held.0 more in let c : true ≡ false = sym passes ∙ h in cc),
  only_outer x xs held.1 more,
)

module _ (scope : CScope) (at : IsAtFileScope [] scope) where
  held : IsAccounted [] None (account_of scope)
  held = at.accounted

  -- ---- each number stands for one function

  abbrev pub same_function : CFun → CFun → Bool
  same_function one other = one.function == other.function

  same_body : (first second : ℕ) (one other : CFun) → slice_get scope.functions first ≡ Some one → slice_get scope.functions second ≡ Some other → one.function ≡ other.function → first ≡ second
  same_body first second one other here there same =
      let known = held.functions first one here in
      let also = held.functions second other there in
      held.bodies_differ first second one other here there
      (held.functions_differ one.name other.name known.thing also.thing known.there also.there known.function_is also.function_is (known.number_is ∙ (same ∙ sym also.number_is)))

  pub functions_apart : AreApart same_function scope.functions
  functions_apart = apart_got same_function scope.functions (λ first second one other here there same. same_body first second one other here there (number_is one.function other.function same))

  same_thing : (first second : ℕ) (one other : CThing) → slice_get scope.things first ≡ Some one → slice_get scope.things second ≡ Some other → same_functions one other ≡ true → first ≡ second
  same_thing first second one other here there same =
      let parts = both same in
      let more = both parts.1 in
      held.things_differ first second one other here there
      (held.functions_differ one.name other.name one other (held.listed first one here) (held.listed second other there) (both parts.0).0 (both more.0).0 (number_is one.number other.number more.1))

  pub outers_apart : AreApart same_outer (outers_of scope.things)
  outers_apart = apart_outers scope.things (apart_got same_functions scope.things same_thing)

  -- ---- a function by its name

  module _ (name : List ℕ) (thing : CThing) (there : thing_named name scope.things ≡ Some thing) (is_function : thing.is_function ≡ true) where
    pub was : IsFunctionThing [] None (account_of scope) name thing
    was = held.function_things name thing there is_function

    -- that a function with its number has its name, and is defined
    same_name : (place : ℕ) (one : CFun) → slice_get scope.functions place ≡ Some one → one.function ≡ thing.number → thing.is_defined ≡ true
    same_name place one here same =
        let known = held.functions place one here in
        let names : one.name ≡ name = held.functions_differ one.name name known.thing thing known.there there known.function_is is_function (known.number_is ∙ same) in
        ap (λ (x : CThing). x.is_defined) (same_value (sym there ∙ (ap (λ n. thing_named n scope.things) (sym names) ∙ known.there))) ∙ known.defined

    defined_found : (by : IsDefinedBy [] (account_of scope) name thing) → function_with thing.number scope.functions ≡ Some by.one
    defined_found by =
        find_among (λ one. one.function == thing.number) scope.functions by.one (got_among scope.functions by.index by.one by.at) (itself by.one.function thing.number by.number_is)
        (each_got (λ one. (one.function == thing.number) ≡ true → one ≡ by.one) scope.functions (λ place one here passes.
        let same : place ≡ by.index = same_body place by.index one by.one here by.at (number_is one.function thing.number passes ∙ sym by.number_is) in
        same_value (sym here ∙ (ap (slice_get scope.functions) same ∙ by.at))))

    none_found : thing.is_defined ≡ false → function_with thing.number scope.functions ≡ None
    none_found undefined =
        find_none (λ one. one.function == thing.number) scope.functions
        (each_got (λ one. (one.function == thing.number) ≡ false) scope.functions (λ place one here. by_test place one here (one.function == thing.number) refl))
      where
        by_test : (place : ℕ) (one : CFun) → slice_get scope.functions place ≡ Some one → (b : Bool) → (one.function == thing.number) ≡ b → (one.function == thing.number) ≡ false
        by_test place one here true e = absurd (let h : true ≡ false = sym (same_name place one here (number_is one.function thing.number e)) ∙ undefined in cc)
        by_test place one here false e = e

    outer_found : thing.is_defined ≡ false → outer_with thing.number (outers_of scope.things) ≡ Some (outer_of thing)
    outer_found undefined =
        let among = among_outers thing scope.things (find_passes (λ one. bytes_eq one.name name) scope.things thing there).0 (together is_function (ap not undefined)) in
        find_among (λ one. one.function == thing.number) (outers_of scope.things) (outer_of thing) among (itself thing.number thing.number refl) (only_outer (outer_of thing) (outers_of scope.things) outers_apart among)

    goes_with : (earlier found : CTy) → Fills [] scope.types earlier thing.type → compatible scope.types found thing.type ≡ true → AreCompatible scope.types earlier found
    goes_with earlier found fills goes = record {
      pairs = [];
      good = refl;
      meet = compatible_back scope.types found earlier (earlier_goes [] scope.types scope.unit earlier thing.type found fills goes);
    }

    linked_defined : (by : IsDefinedBy [] (account_of scope) name thing) → IsLinkedFunction scope.types [] name thing (record { type = by.one.type; outer = None })
    linked_defined by = record {
      compatible = λ earlier fills. goes_with earlier by.one.type fills (fills_agree [] scope.types scope.unit by.one.type thing.type by.fills);
      outer = tt;
    }

    linked_outer : IsLinkedFunction scope.types [] name thing (record { type = thing.type; outer = Some (outer_of thing) })
    linked_outer = record {
      compatible = λ earlier fills. record { pairs = []; good = refl; meet = fills_agree [] scope.types scope.unit earlier thing.type fills };
      outer = (has_name name scope.things thing there, refl);
    }

    abbrev IsFoundAs : Option CCallee → Type 0
    IsFoundAs found = IsSome found × IfSome found (IsLinkedFunction scope.types [] name thing)

    abbrev callee_in : Option CFun → Option COuter → Option CCallee
    callee_in (Some one) outer = Some (record { type = one.type; outer = None })
    callee_in None (Some one) = Some (record { type = one.type; outer = Some one })
    callee_in None None = None

    linked_by : (is_defined : Bool) → thing.is_defined ≡ is_defined → IsFoundAs (callee_in (function_with thing.number scope.functions) (outer_with thing.number (outers_of scope.things)))
    linked_by true e =
        let by = was.defined (λ waits. cc) e in
        subst (λ found. IsFoundAs (callee_in found (outer_with thing.number (outers_of scope.things)))) (sym (defined_found by)) (refl, linked_defined by)
    linked_by false e =
        subst (λ found. IsFoundAs (callee_in found (outer_with thing.number (outers_of scope.things)))) (sym (none_found e))
        (subst (λ found. IsFoundAs (callee_in None found)) (sym (outer_found e)) (refl, linked_outer))

    pub function_linked : IsLinkedBy true (program_of (unit_at scope)) [] name thing
    function_linked = linked_by thing.is_defined refl
