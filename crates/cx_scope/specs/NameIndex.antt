-- How names are kept with an index.
use Rattle.std.specs.Prelude.{◌≡◌, ℕ, List, [], ◌∷◌, map, Option, IsSome, bytes_eq}
use Rattle.std.specs.Global.{Vec}
use Rattle.std.specs.HashMap.{HashMap, get_by}
use Rattle.std.specs.Option.{option_flatten}
use Rattle.cx_scope.specs.Names.{CNamed, place_of}
use Rattle.cx_scope.specs.declared.names.Link.{Link}

abbrev pub named : Link → CNamed
named one = record { name = one.name.items; place = one.place }

module _ {S : Type 0} (index : HashMap (Vec ℕ) (Option ℕ) S) where
  -- what the index holds of a name
  abbrev pub indexed : List ℕ → Option (Option ℕ)
  indexed name = get_by (λ key. bytes_eq name key.items) index

  -- each name is in the index, and keeps the place that the index held before it
  abbrev pub AreKept : List Link → Type 0
  AreKept [] = Unit {0}
  AreKept (one ∷ older) = (one.older ≡ place_of one.name.items (map named older)) × IsSome (indexed one.name.items) × AreKept older

  -- the index tells of every name where its newest stands
  pub record IsIndexed (links : List Link) : Type 0 where
    pub told : (name : List ℕ) → option_flatten (indexed name) ≡ place_of name (map named links)
    pub kept : AreKept links
