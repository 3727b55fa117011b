-- Where the object of a number stands among what has linkage.
use Rattle.std.specs.Prelude.{◌≡◌, ℕ, ◌==◌, List, Option}
use Rattle.std.specs.HashMap.{HashMap, get_by}
use Rattle.cx_rules.specs.Scope.{CThing}
use Rattle.cx_scope.specs.Places.{first_from}
use Rattle.cx_unit_ends.specs.Ends.{names_object}

module _ {S : Type 0} (places : HashMap ℕ ℕ S) where
  abbrev pub placed : ℕ → Option ℕ
  placed number = get_by (λ key. number == key) places

  -- each number is where its first object stands
  abbrev pub ArePlaces : List CThing → Type 0
  ArePlaces things = (number : ℕ) → placed number ≡ first_from 0 (names_object number) things
