-- The objects and the functions of a program of typed units are typed, where each use of a name in a unit is one in the program (ISO C99, 5.1.1.1).
use Rattle.std.proofs.Common.{◌≡◌, ℕ, zero, suc, ◌==◌, List, [], ◌∷◌, map, All, None, Some, slice_get, refl, sym, ap, subst}
use Rattle.std.proofs.lemmas.List.Elements.{All-nil, All-cons, All-head, All-tail}
use Rattle.cx_core.specs.Linked.{program_of, is_external, IsTypedObject, IsTypedFunction}
use Rattle.cx_core.specs.Trees.{CObject, CTypes, CUnit}
use Rattle.cx_core.specs.ValidTypes.{AreTypes}
use Rattle.cx_links.specs.Program.{types_of_all, numbers_of, counts_before, from_each, linked}
use Rattle.cx_renumber.specs.Numbers.{function_there}
use Rattle.cx_typed_links.proofs.Each.{all_given}
use Rattle.cx_typed_links.proofs.Objects.{IsOfUnit, program_objects}
use Rattle.cx_typed_links.proofs.OwnObjects.{own_object, static_object}
use Rattle.cx_typed_links.proofs.Places.{found_holds}
use Rattle.cx_typed_links.proofs.Records.{all_mapped}
use Rattle.cx_typed_links.proofs.Things.{object_goes, function_goes}
use Rattle.cx_typed_links.proofs.Units.{unit_types_inside}
use Rattle.cx_typed_links.specs.Embedding.{AreUnitTypes}
use Rattle.cx_typed_links.specs.Laws.{AreTypedUnits, UsesHoldIn, NamesHoldInPrograms, ProgramThingsAreTyped}

all_goes : {X : Type 0} (P Q : X → Type 0) (xs : List X) → ((x : X) → P x → Q x) → All P xs → All Q xs
all_goes P Q [] goes all = All-nil Q
all_goes P Q (x ∷ xs) goes all = All-cons Q x xs (goes x (All-head P x xs all)) (all_goes P Q xs goes (All-tail P x xs all))

both_all : {X : Type 0} (P Q : X → Type 0) (xs : List X) → All P xs → All Q xs → All (λ x. P x × Q x) xs
both_all P Q [] first second = All-nil (λ x. P x × Q x)
both_all P Q (x ∷ xs) first second =
    All-cons (λ y. P y × Q y) x xs (All-head P x xs first, All-head Q x xs second) (both_all P Q xs (All-tail P x xs first) (All-tail Q x xs second))

pub all_by : {X : Type 0} (P : X → Type 0) (xs : List X) → ((number : ℕ) (x : X) → slice_get xs number ≡ Some x → P x) → All P xs
all_by P [] each = All-nil P
all_by P (x ∷ xs) each = All-cons P x xs (each zero x refl) (all_by P xs (λ number. each (suc number)))

pub all_types : (units : List CUnit) → AreTypedUnits units → All (λ one. AreTypes one.types) units
all_types units typed = all_by (λ one. AreTypes one.types) units (λ unit one is. (typed unit one is).types)

pub linked_types : (units : List CUnit) → (linked units).types ≡ types_of_all units
unfolding linked
linked_types units = refl

pub linked_functions : (units : List CUnit) → (linked units).functions ≡ from_each (λ one unit. map (function_there (numbers_of units one unit)) one.functions) 0 units
unfolding linked
linked_functions units = refl

pub names_hold_in_programs : NamesHoldInPrograms
names_hold_in_programs units typed uses unit one is = record {
  types = subst (λ (types : CTypes). AreUnitTypes unit (counts_before unit units) one.types types) (sym (linked_types units))
      (unit_types_inside units (all_types units typed) unit one is (typed unit one is));
  own_objects = λ number known found nothing. own_object units typed unit one is number known found (ap is_external nothing);
  statics = λ number some static. static_object units typed unit one is number some static;
  uses = uses unit one is;
}

module _ (units : List CUnit) (typed : AreTypedUnits units) (uses : UsesHoldIn units) where
  object_typed : (one : CObject) → IsOfUnit units one → IsTypedObject (linked units) None one
  object_typed one of =
      let home = typed of.unit of.home of.in_unit.unit_is in
      let held = found_holds (λ known. IsTypedObject (program_of of.home) (Some of.home.mentions) known × (known.unit ≡ of.unit))
      (λ known. known.object == of.thing.object) of.home.objects of.thing
      (both_all (IsTypedObject (program_of of.home) (Some of.home.mentions)) (λ known. known.unit ≡ of.unit) of.home.objects home.objects home.objects_here)
      of.in_unit.own in
      subst (IsTypedObject (linked units) None) (sym of.is)
      (object_goes of.unit (numbers_of units of.home of.unit) (Some of.home.mentions) (program_of of.home) (linked units)
      (names_hold_in_programs units typed uses of.unit of.home of.in_unit.unit_is) of.thing held.0.1 held.0.0)

  unit_functions : (unit : ℕ) (one : CUnit) → slice_get units unit ≡ Some one
      → All (IsTypedFunction (linked units) None) (map (function_there (numbers_of units one unit)) one.functions)
  unit_functions unit one is =
      all_mapped (λ known. IsTypedFunction (program_of one) (Some one.mentions) known × (known.unit ≡ unit)) (IsTypedFunction (linked units) None)
      (function_there (numbers_of units one unit)) one.functions
      (λ known held. function_goes unit (numbers_of units one unit) (Some one.mentions) (program_of one) (linked units)
      (names_hold_in_programs units typed uses unit one is) known held.1 held.0)
      (both_all (IsTypedFunction (program_of one) (Some one.mentions)) (λ known. known.unit ≡ unit) one.functions
      (typed unit one is).functions (typed unit one is).functions_here)

  functions_typed : All (IsTypedFunction (linked units) None) (linked units).functions
  functions_typed =
      subst (All (IsTypedFunction (linked units) None)) (sym (linked_functions units))
      (all_given (IsTypedFunction (linked units) None) (λ one unit. map (function_there (numbers_of units one unit)) one.functions) units unit_functions)

pub program_things_are_typed : ProgramThingsAreTyped
program_things_are_typed units typed uses = (
  all_goes (IsOfUnit units) (IsTypedObject (linked units) None) (linked units).objects (object_typed units typed uses) (program_objects units typed),
  functions_typed units typed uses,
)
