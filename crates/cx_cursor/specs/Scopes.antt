-- How the names in scope are kept with an index.
use Rattle.std.specs.Prelude.{◌≡◌, ℕ, Bool, false, List, [], ◌∷◌, ◌++◌, map, Option, unwrap_or, IsSome, bytes_eq}
use Rattle.std.specs.Global.{Vec}
use Rattle.std.specs.HashMap.{HashMap, get_by}
use Rattle.cx_cursor.specs.declared.scope.Bound.{Bound}
use Rattle.cx_cursor.specs.declared.scope.Declared.{Declared}
use Rattle.cx_tree.specs.Names.{Binding, latest}

abbrev pub binding : List ℕ → Bool → Binding
binding name is_type = record { name = name; is_type = is_type }

abbrev pub bound : Bound → Binding
bound one = binding one.name one.is_type

-- the bindings that the declared names are, oldest first
abbrev pub bindings : List Declared → List Binding
bindings declared = map (λ one. binding one.name.items one.is_type) declared

module _ {S : Type 0} (index : HashMap (Vec ℕ) Bool S) where
  -- what the index holds of a name
  abbrev pub indexed : List ℕ → Option Bool
  indexed name = get_by (λ key. bytes_eq name key.items) index

  -- each declared name is in the index, and keeps whether it was a typedef name before it was declared
  abbrev pub AreKept : List Binding → List Declared → Type 0
  AreKept before [] = Unit {0}
  AreKept before (one ∷ others) =
      (one.hides_type ≡ latest false before one.name.items) × IsSome (indexed one.name.items)
      × AreKept (before ++ binding one.name.items one.is_type ∷ []) others

  -- the index tells of every name whether it is a typedef name
  pub record IsIndexed (declared : List Declared) : Type 0 where
    pub told : (name : List ℕ) → unwrap_or (indexed name) false ≡ latest false (bindings declared) name
    pub kept : AreKept [] declared
