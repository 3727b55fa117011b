-- Which names keys have in a module.
use Rattle.std.specs.Prelude.{ℕ, List, [], ◌∷◌, ◌++◌, Option, Some, None}
use Rattle.std.specs.HashMap.{get_by}
use Rattle.cx_core.specs.Trees.{CProgram}
use Rattle.rs_items_sets.specs.Names.{rust_name}
use Rattle.rs_items_sets.specs.declared.scope.NameScope.TheVariants.{Module}
use Rattle.whole_given.specs.declared.table.NameTable.{NameTable}
use Rattle.whole_keys.specs.Views.{view_key}
use Rattle.whole_keys.specs.declared.key.NameKey.{NameKey}
use Rattle.whole_names.specs.Keys as keys
use Rattle.whole_names.specs.Keys.{same_key}
use Rattle.whole_names.specs.ModuleNames.{wanted_name}

-- the name of a key
abbrev pub told : NameTable → NameKey → Option (List ℕ)
told table key = get_by (λ (one : NameKey). same_key (view_key key) (view_key one)) table.names

-- what is there, or else another
abbrev pub first_of : {A : Type 0} → Option A → Option A → Option A
first_of None other = other
first_of (Some one) other = Some one

-- the names that are taken once a key has one
abbrev pub taken_more : CProgram → (taken : List (List ℕ)) → keys.NameKey → List (List ℕ)
taken_more program taken key = taken ++ rust_name taken Module (wanted_name program key) ∷ []
