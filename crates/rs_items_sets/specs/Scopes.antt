-- How the names of a module, of a function and of fields are kept.
use Rattle.std.specs.Prelude.{◌≡◌, ℕ, suc, ◌≤◌, not, IsTrue, List, ◌++◌, length, Some}
use Rattle.rs_items_sets.specs.Names.{candidate}
use Rattle.rs_items_sets.specs.Sets.{TakenNames, ArePassed, most_names, names_in, passed_in}
use Rattle.rs_items_sets.specs.declared.scope.NameScope.{NameScope}
use Rattle.rs_items_sets.specs.declared.scope.NameScope.TheVariants.{Module, Function, Fields}
use Rattle.rs_items_sets.specs.declared.sets.NameSet.{NameSet}
use Rattle.rs_text.specs.Names.{is_among}

abbrev pub names_of : NameSet → List (List ℕ)
names_of set = names_in set.taken.keys

-- the names of three sets
abbrev pub taken_in : (module_set own fields : NameSet) → TakenNames
taken_in module_set own fields = record { module_names = names_of module_set; own_names = names_of own; field_names = names_of fields }

-- a set isn't too large, and the candidates that are noted in it are gone among the names that count for it
pub record Holds (set : NameSet) (taken : List (List ℕ)) (scope : NameScope) : Type 0 where
  pub few : length (names_of set) ≤ most_names
  pub passes : (name : List ℕ) → ArePassed taken scope name (passed_in set.passed name)

pub record HoldsAll (module_set own fields : NameSet) : Type 0 where
  pub of_module : Holds module_set (names_of module_set) Module
  pub of_function : Holds own (names_of module_set ++ names_of own) Function
  pub of_fields : Holds fields (names_of fields) Fields

-- a candidate with a suffix is free, and those with lower suffixes are gone
pub record IsFree (taken : List (List ℕ)) (scope : NameScope) (name : List ℕ) (passed : ℕ) (one : List ℕ) : Type 0 where
  pub is : candidate scope name (suc passed) ≡ Some one
  pub free : IsTrue (not (is_among taken one))
  pub passes : ArePassed taken scope name passed
