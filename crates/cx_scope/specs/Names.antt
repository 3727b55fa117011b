-- Names, and the places at which they stand in a list.
use Rattle.std.specs.Prelude.{ℕ, Bool, ◌&&◌, if◌then◌else◌, List, [], ◌∷◌, length, Option, None, Some, bytes_eq}
use Rattle.std.specs.Bool.{beq}
use Rattle.cx_rules.specs.Scope.{CDeclared, is_ordinary}

pub record CNamed : Type 0 where
  pub name : List ℕ
  pub place : ℕ

-- the place of the newest of a name; the newest stands first
abbrev pub place_of : List ℕ → List CNamed → Option ℕ
place_of name [] = None
place_of name (one ∷ older) = if bytes_eq one.name name then Some one.place else place_of name older

-- where the newest stands that passes a test: behind how many older ones
abbrev pub newest : {A : Type 0} → (A → Bool) → List A → Option ℕ
newest test [] = None
newest test (one ∷ older) = if test one then Some (length older) else newest test older

-- it declares a name, as a tag or otherwise (6.2.3)
abbrev pub declares : Bool → List ℕ → CDeclared → Bool
declares ordinary name one = beq (is_ordinary one.meant) ordinary && bytes_eq one.name name
