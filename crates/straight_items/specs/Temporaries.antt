-- The names of a function's temporaries.
use Rattle.std.specs.Prelude.{◌≡◌, ℕ, not, IsTrue, List, [], ◌∷◌, ◌++◌, length, codes}
use Rattle.std.specs.List.{list_all}
use Rattle.straight_items.specs.declared.scope.NameScope.TheVariants.{Function}
use Rattle.straight_items.specs.Names.{IsRustName}
use Rattle.straight_rust_tree.specs.Names.{is_among, is_plain_identifier}
use Rattle.straight_rust_tree.specs.Valid.{all_differ}

-- the names that are taken by others, and the names of the temporaries, by their numbers from 0 on
pub record TemporaryNames : Type 0 where
  pub taken : List (List ℕ)
  pub names : List (List ℕ)

-- the names of temporaries: identifiers that differ from one another and from the names that are taken
pub record AreApart (taken names : List (List ℕ)) : Type 0 where
  pub differ : IsTrue (all_differ names)
  pub apart : IsTrue (list_all (λ name. not (is_among taken name)) names)
  pub identifiers : IsTrue (list_all is_plain_identifier names)

-- a temporary was made: its number is how many there were, and its name is the first candidate of `t` that is taken
-- neither by others nor by an earlier temporary
pub record Makes (before after : TemporaryNames) (number : ℕ) : Type 0 where
  pub counted : number ≡ length before.names
  pub kept : after.taken ≡ before.taken
  pub name : List ℕ
  pub named : IsRustName (before.taken ++ before.names) Function (codes "t") name
  pub made : after.names ≡ before.names ++ name ∷ []
