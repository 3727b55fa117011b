-- How the members of a structure or union are kept with an index of their names.
use Rattle.std.specs.Prelude.{◌≡◌, ℕ, Bool, true, false, List, [], ◌∷◌, reverse, Option, None, Some}
use Rattle.cx_core.specs.declared.ty.Member.{Member}
use Rattle.cx_scope.specs.Indexed.{counted_places}
use Rattle.cx_scope.specs.Names.{CNamed}

abbrev has_some : Option (List ℕ) → Bool
has_some None = false
has_some (Some name) = true

abbrev name_in : Option (List ℕ) → List ℕ
name_in None = []
name_in (Some name) = name

abbrev pub is_named : Member → Bool
is_named one = has_some one.name

abbrev pub name_of : Member → List ℕ
name_of one = name_in one.name

-- one more, where it has a name
abbrev pub noted : Option (List ℕ) → (place : ℕ) → List CNamed → List CNamed
noted None place names = names
noted (Some name) place names = record { name = name; place = place } ∷ names

abbrev pub AreListed : List Member → List CNamed → Type 0
AreListed list names = names ≡ counted_places is_named name_of (reverse list)
