-- A unit stands at its end where its scope does (ISO C99, 6.9.2).
use Rattle.std.proofs.Common.{ℕ, ◌==◌, nat_le, Bool, not, ◌&&◌, if◌then◌else◌, List, [], ◌∷◌, ◌++◌, map, Option, None, Some, is_some, is_none, find}
use Rattle.std.specs.Prelude.{IfSome}
use Rattle.cx_core.specs.declared.program.Linkage.TheVariants.{Nothing}
use Rattle.cx_core.specs.Trees.{no_puts, CPuts, CObject, CUnit}
use Rattle.cx_placed.proofs.Keeps.{MadeStandsIn, ScopeStands}
use Rattle.cx_placed.proofs.Lists.{Each, by_test, each_all, each_both, each_mapped}
use Rattle.cx_placed.specs.Places.{PutsStandIn, ObjectStandsIn, FunctionStandsIn, StandIn}
use Rattle.cx_rules.specs.Declare.{final_type, unit_of}
use Rattle.cx_rules.specs.Scope.{CMade, CThing, CScope}

abbrev pub UnitStands : (ℕ → Type 0) → CUnit → Type 0
UnitStands Among one = StandIn Among one.objects one.functions

-- ---- as `Declare` says it

abbrev final_puts : CThing → CObject → Option CPuts
final_puts thing one = if is_some thing.tentative && is_none one.puts then Some no_puts else one.puts

abbrev final_as : CObject → Option CThing → CObject
final_as one None = one
final_as one (Some thing) = if thing.is_defined then one else record one { type = final_type thing; puts = final_puts thing one }

abbrev names_object : ℕ → CThing → Bool
names_object number thing = not thing.is_function && thing.number == number

abbrev final_object : List CThing → CObject → CObject
final_object things one = final_as one (find (names_object one.object) things)

abbrev made_object : ℕ → CMade → CObject
made_object unit made = record {
  object = made.object;
  unit = unit;
  name = None;
  is_text = made.is_text;
  type = made.type;
  linkage = Nothing;
  puts = made.fixed;
}

abbrev put_object : CObject → List CObject → List CObject
put_object one [] = one ∷ []
put_object one (first ∷ others) = if nat_le one.object first.object then one ∷ first ∷ others else first ∷ put_object one others

abbrev in_number_order : List CObject → List CObject
in_number_order [] = []
in_number_order (one ∷ others) = put_object one (in_number_order others)

abbrev all_objects : CScope → List CObject
all_objects scope = map (final_object scope.things) scope.objects ++ map (made_object scope.unit) scope.literals

module _ (Among : ℕ → Type 0) where
  final_as_stands : (one : CObject) (thing : Option CThing) → ObjectStandsIn Among one → ObjectStandsIn Among (final_as one thing)
  final_as_stands one None held = held
  final_as_stands one (Some thing) held =
      by_test (ObjectStandsIn Among) thing.is_defined one (record one { type = final_type thing; puts = final_puts thing one }) held
      (by_test (λ puts. IfSome puts (PutsStandIn Among)) (is_some thing.tentative && is_none one.puts) (Some no_puts) one.puts tt held)

  put_stands : (one : CObject) (others : List CObject) → ObjectStandsIn Among one → Each (ObjectStandsIn Among) others → Each (ObjectStandsIn Among) (put_object one others)
  put_stands one [] own held = (own, tt)
  put_stands one (first ∷ others) own held =
      by_test (Each (ObjectStandsIn Among)) (nat_le one.object first.object) (one ∷ first ∷ others) (first ∷ put_object one others) (own, held)
      (held.0, put_stands one others own held.1)

  ordered_stand : (objects : List CObject) → Each (ObjectStandsIn Among) objects → Each (ObjectStandsIn Among) (in_number_order objects)
  ordered_stand [] held = tt
  ordered_stand (one ∷ others) held = put_stands one (in_number_order others) held.0 (ordered_stand others held.1)

  all_stand : (scope : CScope) → ScopeStands Among scope → Each (ObjectStandsIn Among) (all_objects scope)
  all_stand scope held =
      each_both (ObjectStandsIn Among) (map (final_object scope.things) scope.objects) (map (made_object scope.unit) scope.literals)
      (each_mapped (ObjectStandsIn Among) (ObjectStandsIn Among) (final_object scope.things)
      (λ one own. final_as_stands one (find (names_object one.object) scope.things) own) scope.objects held.objects_stand)
      (each_mapped (MadeStandsIn Among) (ObjectStandsIn Among) (made_object scope.unit) (λ made own. own) scope.literals held.literals_stand)

  pub unit_stands : (scope : CScope) → ScopeStands Among scope → UnitStands Among (unit_of scope)
  unfolding unit_of
  unit_stands scope held = record {
    objects_stand = each_all (ObjectStandsIn Among) (in_number_order (all_objects scope)) (ordered_stand (all_objects scope) (all_stand scope held));
    functions_stand = each_all (FunctionStandsIn Among) scope.functions held.functions_stand;
  }
