-- The objects of a unit at its end, and which of them a name with linkage has (ISO C99, 6.2.2, 6.2.7p4, 6.9.2).
use Rattle.std.proofs.Common.{◌≡◌, ℕ, ◌==◌, Bool, true, false, not, ◌&&◌, ◌||◌, if◌then◌else◌, List, [], map, Option, None, Some, is_some, is_none, find, slice_get, bytes_eq, refl, sym, ap, ◌∙◌}
use Rattle.cx_core.specs.Compatible.{AreCompatible}
use Rattle.cx_core.specs.declared.program.Linkage.{Linkage}
use Rattle.cx_core.specs.declared.program.Linkage.TheVariants.{Nothing}
use Rattle.cx_core.specs.Compatible.{in_pairs}
use Rattle.cx_core.specs.Trees.{CTy, ty, void, basic, enum_type, pointer, array, record_type, function, CTypes, CPuts, no_puts, CObject}
use Rattle.cx_core.specs.Typing.{object_with}
use Rattle.cx_rules.specs.Declare.{is_linked, thing_named, final_type}
use Rattle.cx_rules.specs.Scope.{CMade, CThing, CScope}
use Rattle.cx_rules.specs.Types.{compatible}
use Rattle.cx_typed.proofs.Promoted.{is_not}
use Rattle.cx_typed.proofs.Same.{number_is}
use Rattle.cx_typed.proofs.Stays.{both, together}
use Rattle.cx_typed.specs.Scopes.{object_made}
use Rattle.cx_typed_files.proofs.EndLists.{Each, AreApart, each_got, each_mapped, got_among, among_first, among_second, among_mapped, find_among, find_passes, find_none, apart_both, apart_mapped, apart_got, apart_more}
use Rattle.cx_typed_files.proofs.UnitEnd.{final_puts, final_as, names_object, final_object, in_number_order, all_objects, same_object, itself, found_object}
use Rattle.cx_typed_files.specs.FileScope.{IsAtFileScope}
use Rattle.cx_typed_units.proofs.Joins.{agree_itself, compatible_back, earlier_goes, fills_agree}
use Rattle.cx_typed_units.specs.Account.{account_of, IsObjectThing, IsAccounted}
use Rattle.cx_typed_units.specs.Fills.{Fills}

same_value : {X : Type 0} {x y : X} → Some x ≡ Some y → x ≡ y
same_value is = cc

pub not_linked : (linkage other : Linkage) → linkage ≡ other → other ≡ Nothing → is_linked linkage ≡ true → ⊥
not_linked linkage other same nothing linked = let h : is_linked Nothing ≡ true = ap is_linked (sym (same ∙ nothing)) ∙ linked in let k : false ≡ true = h in cc

-- ---- what an object keeps

pub record IsFinalOf (one final : CObject) : Type 0 where
  pub number_is : final.object ≡ one.object
  pub unit_is : final.unit ≡ one.unit
  pub name_is : final.name ≡ one.name
  pub text_is : final.is_text ≡ one.is_text
  pub linkage_is : final.linkage ≡ one.linkage

abbrev pub final_with : Bool → CThing → CObject → CObject
final_with is_defined thing one = if is_defined then one else record one { type = final_type thing; puts = final_puts thing one }

pub final_keeps : (one : CObject) (found : Option CThing) → IsFinalOf one (final_as one found)
final_keeps one None = record { number_is = refl; unit_is = refl; name_is = refl; text_is = refl; linkage_is = refl }
final_keeps one (Some thing) = by_state thing.is_defined
  where
    by_state : (is_defined : Bool) → IsFinalOf one (final_with is_defined thing one)
    by_state true = record { number_is = refl; unit_is = refl; name_is = refl; text_is = refl; linkage_is = refl }
    by_state false = record { number_is = refl; unit_is = refl; name_is = refl; text_is = refl; linkage_is = refl }

-- ---- an array of one element goes with one without length

abbrev pub one_element : CTy → CTy
one_element (ty (array element None) is_const) = ty (array element (Some 1)) is_const
one_element type = type

one_element_goes : (types : CTypes) (type : CTy) → compatible types (one_element type) type ≡ true
one_element_goes types (ty (array element None) is_const) =
    let same = agree_itself types (in_pairs []) (ty (array element None) is_const) in
    together (both same).0 (together refl (agree_itself types (in_pairs []) element))
one_element_goes types (ty (array element (Some count)) is_const) = agree_itself types (in_pairs []) (ty (array element (Some count)) is_const)
one_element_goes types (ty void is_const) = agree_itself types (in_pairs []) (ty void is_const)
one_element_goes types (ty (basic which) is_const) = agree_itself types (in_pairs []) (ty (basic which) is_const)
one_element_goes types (ty (enum_type number) is_const) = agree_itself types (in_pairs []) (ty (enum_type number) is_const)
one_element_goes types (ty (pointer to) is_const) = agree_itself types (in_pairs []) (ty (pointer to) is_const)
one_element_goes types (ty (record_type number) is_const) = agree_itself types (in_pairs []) (ty (record_type number) is_const)
one_element_goes types (ty (function result params variadic) is_const) = agree_itself types (in_pairs []) (ty (function result params variadic) is_const)

final_type_goes : (types : CTypes) (type : CTy) (tentative : Bool) → compatible types (if tentative then one_element type else type) type ≡ true
final_type_goes types type true = one_element_goes types type
final_type_goes types type false = agree_itself types (in_pairs []) type

module _ (scope : CScope) (at : IsAtFileScope [] scope) where
  held : IsAccounted [] None (account_of scope)
  held = at.accounted

  abbrev pub final : CObject → CObject
  final = final_object scope.things

  -- ---- each number stands for one object

  final_number : (one : CObject) → (final one).object ≡ one.object
  final_number one = (final_keeps one (find (names_object one.object) scope.things)).number_is

  apart_finals : AreApart same_object (map final scope.objects)
  apart_finals =
      apart_mapped same_object final scope.objects
      (apart_more same_object (λ x y. same_object (final x) (final y)) scope.objects
      (λ x y is. ap (λ n. n == (final y).object) (final_number x) ∙ (ap (λ n. x.object == n) (final_number y) ∙ is))
      (apart_got same_object scope.objects (λ first second x y here there same. held.objects_differ first second x y here there (number_is x.object y.object same))))

  apart_made : AreApart same_object (map (object_made scope.unit) scope.literals)
  apart_made =
      apart_mapped same_object (object_made scope.unit) scope.literals
      (apart_got (λ (x : CMade) (y : CMade). x.object == y.object) scope.literals (λ first second x y here there same. held.literals_differ first second x y here there (number_is x.object y.object same)))

  never_same : (x : CObject) (y : CMade) (place other : ℕ) → slice_get scope.objects place ≡ Some x → slice_get scope.literals other ≡ Some y → (b : Bool) → (x.object == y.object) ≡ b → (x.object == y.object) ≡ false
  never_same x y place other here there true e = absurd (held.apart place other x y here there (number_is x.object y.object e))
  never_same x y place other here there false e = e

  pub all_apart : AreApart same_object (all_objects scope)
  all_apart =
      apart_both same_object (map final scope.objects) (map (object_made scope.unit) scope.literals) apart_finals apart_made
      (each_mapped (λ x. Each (λ y. same_object x y ≡ false) (map (object_made scope.unit) scope.literals)) final scope.objects
      (each_got (λ x. Each (λ y. same_object (final x) y ≡ false) (map (object_made scope.unit) scope.literals)) scope.objects (λ place x here.
      each_mapped (λ y. same_object (final x) y ≡ false) (object_made scope.unit) scope.literals
      (each_got (λ (y : CMade). ((final x).object == y.object) ≡ false) scope.literals (λ other y there.
      ap (λ n. n == y.object) (final_number x) ∙ never_same x y place other here there (x.object == y.object) refl)))))

  pub object_found : (place : ℕ) (one : CObject) → slice_get scope.objects place ≡ Some one → object_with one.object (in_number_order (all_objects scope)) ≡ Some (final one)
  object_found place one here =
      ap (λ n. object_with n (in_number_order (all_objects scope))) (sym (final_number one))
      ∙ found_object (final one) (all_objects scope) all_apart
      (among_first (final one) (map final scope.objects) (map (object_made scope.unit) scope.literals) (among_mapped final one scope.objects (got_among scope.objects place one here)))

  pub literal_found : (place : ℕ) (one : CMade) → slice_get scope.literals place ≡ Some one → object_with one.object (in_number_order (all_objects scope)) ≡ Some (object_made scope.unit one)
  literal_found place one here =
      found_object (object_made scope.unit one) (all_objects scope) all_apart
      (among_second (object_made scope.unit one) (map final scope.objects) (map (object_made scope.unit) scope.literals) (among_mapped (object_made scope.unit) one scope.literals (got_among scope.literals place one here)))

  -- ---- an object without linkage is as it was

  same_place : (first second : ℕ) (one other : CObject) → slice_get scope.objects first ≡ Some one → slice_get scope.objects second ≡ Some other → one.object ≡ other.object → one ≡ other
  same_place first second one other here there same =
      let is : first ≡ second = held.objects_differ first second one other here there same in
      same_value (sym here ∙ (ap (slice_get scope.objects) is ∙ there))

  no_thing : (place : ℕ) (one : CObject) → slice_get scope.objects place ≡ Some one → one.linkage ≡ Nothing → find (names_object one.object) scope.things ≡ None
  no_thing place one here nothing = find_none (names_object one.object) scope.things (each_got _ scope.things (λ other thing there. by_test other thing there (names_object one.object thing) refl))
    where
      by_test : (other : ℕ) (thing : CThing) → slice_get scope.things other ≡ Some thing → (b : Bool) → names_object one.object thing ≡ b → names_object one.object thing ≡ false
      by_test other thing there true e =
          let found = held.listed other thing there in
          let was = held.object_things thing.name thing found (is_not (both e).0) in
          let same : was.one ≡ one = same_place was.index place was.one one was.at here (was.number_is ∙ number_is thing.number one.object (both e).1) in
          absurd (not_linked thing.linkage one.linkage (sym was.linkage_is ∙ ap (λ (x : CObject). x.linkage) same) nothing (at.orderly.things thing.name thing found).linked)
      by_test other thing there false e = e

  pub final_none : (place : ℕ) (one : CObject) → slice_get scope.objects place ≡ Some one → one.linkage ≡ Nothing → final one ≡ one
  final_none place one here nothing = ap (final_as one) (no_thing place one here nothing)

  -- ---- the object of a name with linkage

  module _ (name : List ℕ) (thing : CThing) (there : thing_named name scope.things ≡ Some thing) (object : thing.is_function ≡ false) where
    pub was : IsObjectThing [] None (account_of scope) name thing
    was = held.object_things name thing there object

    only_this : (place : ℕ) (other : CThing) → slice_get scope.things place ≡ Some other → names_object was.one.object other ≡ true → other ≡ thing
    only_this place other here e =
        let found = held.listed place other here in
        let also = held.object_things other.name other found (is_not (both e).0) in
        let same : also.one ≡ was.one = same_place also.index was.index also.one was.one also.at was.at (also.number_is ∙ number_is other.number was.one.object (both e).1) in
        let names : other.name ≡ name = same_value (sym also.named ∙ (ap (λ (x : CObject). x.name) same ∙ was.named)) in
        same_value (sym found ∙ (ap (λ n. thing_named n scope.things) names ∙ there))

    thing_found : find (names_object was.one.object) scope.things ≡ Some thing
    thing_found =
        find_among (names_object was.one.object) scope.things thing (find_passes (λ one. bytes_eq one.name name) scope.things thing there).0
        (together (ap not object) (itself thing.number was.one.object (sym was.number_is))) (each_got (λ other. names_object was.one.object other ≡ true → other ≡ thing) scope.things only_this)

    pub final_is : final was.one ≡ final_with thing.is_defined thing was.one
    final_is = ap (final_as was.one) thing_found

    pub object_there : object_with thing.number (in_number_order (all_objects scope)) ≡ Some (final_with thing.is_defined thing was.one)
    object_there = ap (λ n. object_with n (in_number_order (all_objects scope))) (sym was.number_is) ∙ (object_found was.index was.one was.at ∙ ap (λ x. Some x) final_is)

    -- whatever its declarations said goes with the type that it has in the end
    goes_by : (is_defined : Bool) (earlier : CTy) → Fills [] scope.types earlier thing.type → compatible scope.types earlier (final_with is_defined thing was.one).type ≡ true
    goes_by true earlier fills =
        compatible_back scope.types was.one.type earlier
        (earlier_goes [] scope.types scope.unit earlier thing.type was.one.type fills (fills_agree [] scope.types scope.unit was.one.type thing.type was.fills))
    goes_by false earlier fills =
        compatible_back scope.types (final_type thing) earlier
        (earlier_goes [] scope.types scope.unit earlier thing.type (final_type thing) fills (final_type_goes scope.types thing.type (is_some thing.tentative && not thing.is_defined)))

    pub final_goes : (earlier : CTy) → Fills [] scope.types earlier thing.type → AreCompatible scope.types earlier (final_with thing.is_defined thing was.one).type
    final_goes earlier fills = record { pairs = []; good = refl; meet = goes_by thing.is_defined earlier fills }

    some_puts : (none : Bool) (puts : Option CPuts) → is_none puts ≡ none → is_some (if none then Some no_puts else puts) ≡ true
    some_puts true puts e = refl
    some_puts false (Some puts) e = refl
    some_puts false None e = absurd cc

    filled_by : (is_defined : Bool) → thing.is_defined ≡ is_defined → (tentative : Bool) → is_some thing.tentative ≡ tentative → (is_defined || tentative) ≡ true → is_some (final_with is_defined thing was.one).puts ≡ true
    filled_by true d tentative t is = was.filled (λ waits. cc) d
    filled_by false d true t is =
        ap (λ b. is_some (if b && is_none was.one.puts then Some no_puts else was.one.puts)) t ∙ some_puts (is_none was.one.puts) was.one.puts refl
    filled_by false d false t is = absurd cc

    -- it is filled exactly where the unit defines it
    pub final_filled : (thing.is_defined || is_some thing.tentative) ≡ true → is_some (final_with thing.is_defined thing was.one).puts ≡ true
    final_filled is = filled_by thing.is_defined refl (is_some thing.tentative) refl is
