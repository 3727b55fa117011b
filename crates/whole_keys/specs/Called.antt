-- Which functions are called by name, as they are kept with an index.
use Rattle.std.specs.Prelude.{◌≡◌, ℕ, ◌==◌, Bool, List}
use Rattle.std.specs.HashSet.{HashSet, contains_by}
use Rattle.whole_names.specs.Calls.{NamedCall}
use Rattle.whole_names.specs.Keys.{is_called_bare, is_called_with}

abbrev pub is_in : {S : Type 0} → HashSet ℕ S → ℕ → Bool
is_in set number = contains_by (λ key. number == key) set

-- each function that is called with arguments is in the one set, and each that is called without in the other
pub record AreCalled {S : Type 0} (calls : List NamedCall) (with_args bare : HashSet ℕ S) : Type 0 where
  pub called_with : (number : ℕ) → is_in with_args number ≡ is_called_with calls number
  pub called_bare : (number : ℕ) → is_in bare number ≡ is_called_bare calls number
