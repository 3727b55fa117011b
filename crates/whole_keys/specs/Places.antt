-- Where the thing of a number stands in a program.
use Rattle.std.specs.Prelude.{◌≡◌, ℕ, suc, ◌==◌, Bool, if◌then◌else◌, List, [], ◌∷◌, Option, None, Some}
use Rattle.std.specs.HashMap.{HashMap, get_by}
use Rattle.cx_core.specs.Trees.{CObject, CFun, COuter, CProgram}
use Rattle.whole_keys.specs.declared.places.Places.{Places}

abbrev pub placed : {S : Type 0} → HashMap ℕ ℕ S → ℕ → Option ℕ
placed places number = get_by (λ key. number == key) places

-- the first that passes a test, counted from a number on
abbrev pub first_from : {A : Type 0} → ℕ → (A → Bool) → List A → Option ℕ
first_from k test [] = None
first_from k test (x ∷ xs) = if test x then Some k else first_from (suc k) test xs

abbrev pub has_object : ℕ → CObject → Bool
has_object number one = one.object == number

abbrev pub has_function : ℕ → CFun → Bool
has_function number one = one.function == number

abbrev pub has_outer : ℕ → COuter → Bool
has_outer number one = one.function == number

-- each number is where its first thing stands
pub record ArePlaces (places : Places) (program : CProgram) : Type 0 where
  pub of_objects : (number : ℕ) → placed places.objects number ≡ first_from 0 (has_object number) program.objects
  pub of_functions : (number : ℕ) → placed places.functions number ≡ first_from 0 (has_function number) program.functions
  pub of_externals : (number : ℕ) → placed places.externals number ≡ first_from 0 (has_outer number) program.externals
