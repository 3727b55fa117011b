-- The names that are taken in a set, as they are kept with an index.
use Rattle.std.specs.Prelude.{◌≡◌, ℕ, suc, ◌<◌, ◌⊎◌, List, [], ◌∷◌, ◌++◌, map, unwrap_or, bytes_eq}
use Rattle.std.specs.Global.{Vec}
use Rattle.indexmap.specs.IndexMap.{IndexMap, get_by}
use Rattle.rs_items_sets.specs.Names.{candidate, IsGone}
use Rattle.rs_items_sets.specs.declared.scope.NameScope.{NameScope}
use Rattle.rs_items_sets.specs.declared.scope.NameScope.TheVariants.{Module, Function, Fields}

-- the most names of a set: as many as a number of 32 bits tells
abbrev pub most_names : ℕ
most_names = 4294967295

-- the names of the keys of a set
abbrev pub names_in : List (Vec ℕ) → List (List ℕ)
names_in keys = map (λ key. key.items) keys

-- what a map tells of each name: 0 where it holds nothing of it
abbrev pub passed_in : {S : Type 0} → IndexMap (Vec ℕ) ℕ S → List ℕ → ℕ
passed_in passed name = unwrap_or (get_by (λ key. bytes_eq name key.items) passed) 0

-- so many candidates with a suffix are gone
abbrev pub ArePassed : List (List ℕ) → NameScope → List ℕ → ℕ → Type 0
ArePassed taken scope name count = (k : ℕ) → k < count → IsGone taken (candidate scope name (suc k))

-- the number of a name is as it was, or the name is this one and has this number
abbrev pub Notes : (old new : ℕ) → (wanted : List ℕ) → (passed : ℕ) → (name : List ℕ) → Type 0
Notes old new wanted passed name = (new ≡ old) ⊎ ((name ≡ wanted) × (new ≡ passed))

-- ---- the sets of a module, of a function in it, and of the fields of a record

-- the names of a module, those that a function has beside them, and those of fields, each in the order in which they were taken
pub record TakenNames : Type 0 where
  pub module_names : List (List ℕ)
  pub own_names : List (List ℕ)
  pub field_names : List (List ℕ)

-- the set in which a name is looked for: that of a function has the names of its module, too
abbrev pub set_of : TakenNames → NameScope → List (List ℕ)
set_of taken Module = taken.module_names
set_of taken Function = taken.module_names ++ taken.own_names
set_of taken Fields = taken.field_names

-- with one more name in a set
abbrev pub with_name : TakenNames → NameScope → List ℕ → TakenNames
with_name taken Module name = record taken { module_names = taken.module_names ++ name ∷ [] }
with_name taken Function name = record taken { own_names = taken.own_names ++ name ∷ [] }
with_name taken Fields name = record taken { field_names = taken.field_names ++ name ∷ [] }

-- as the names of another module, of another function, or of another record's fields begin
abbrev pub begun : NameScope → TakenNames → TakenNames
begun Module taken = record { module_names = []; own_names = []; field_names = [] }
begun Function taken = record taken { own_names = [] }
begun Fields taken = record taken { field_names = [] }
