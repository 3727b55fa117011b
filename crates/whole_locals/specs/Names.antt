-- The names of a function as they are given one behind the other.
use Rattle.std.specs.Prelude.{◌≡◌, List, ℕ, [], ◌∷◌, ◌++◌}
use Rattle.rs_items.specs.Known.{Names}
use Rattle.rs_items_sets.specs.Names.{rust_name}
use Rattle.rs_items_sets.specs.Sets.{TakenNames}
use Rattle.rs_items_sets.specs.declared.scope.NameScope.TheVariants.{Function}
use Rattle.whole_locals.specs.Wanted.{view_local_key}
use Rattle.whole_locals.specs.declared.names.LocalName.{LocalName}
use Rattle.whole_names.specs.FunctionNames as spec

abbrev pub view_local : LocalName → spec.LocalName
view_local one = record { key = view_local_key one.key; name = one.name }

-- these are taken in the function, and nothing else changed
pub record TakesOwn (before after : Names) (own : List (List ℕ)) : Type 0 where
  pub taken_are : after.taken ≡ record before.taken { own_names = own }
  pub same_known : after.known ≡ before.known
  pub same_fields : after.fields ≡ before.fields
  pub same_bits : after.has_bits ≡ before.has_bits

-- some are taken in the function, and nothing else changed
pub record TakesMoreOwn (before after : Names) : Type 0 where
  pub own : List (List ℕ)
  pub takes : TakesOwn before after own

abbrev pub local_name : (items own : List (List ℕ)) → spec.WantedLocal → List ℕ
local_name items own one = rust_name (items ++ own) Function one.wanted

abbrev pub named_local : TakenNames → spec.WantedLocal → spec.LocalName
named_local taken one = record { key = one.key; name = local_name taken.module_names taken.own_names one }

abbrev pub own_more : TakenNames → spec.WantedLocal → List (List ℕ)
own_more taken one = taken.own_names ++ local_name taken.module_names taken.own_names one ∷ []

abbrev pub own_behind : (items own : List (List ℕ)) → List spec.WantedLocal → List (List ℕ)
own_behind items own [] = own
own_behind items own (one ∷ others) = own_behind items (own ++ local_name items own one ∷ []) others

abbrev pub made_behind : (items own : List (List ℕ)) → List spec.LocalName → List spec.WantedLocal → List spec.LocalName
made_behind items own made [] = made
made_behind items own made (one ∷ others) = made_behind items (own ++ local_name items own one ∷ []) (made ++ record { key = one.key; name = local_name items own one } ∷ []) others
