-- What printing does to the list of tokens printed so far, which is missing from where memory ran out.
use Rattle.std.specs.Prelude.{◌≡◌, ⊤, List, ◌++◌, Option, Some, None}

-- the list grew by these elements at its end, or memory ran out
abbrev pub Appends : {A : Type 0} → Option (List A) → Option (List A) → List A → Type 0
Appends before None more = ⊤
Appends None (Some after) more = ⊥
Appends (Some before) (Some after) more = after ≡ before ++ more

-- the list with these elements at its end
abbrev pub grown : {A : Type 0} → Option (List A) → List A → Option (List A)
grown None more = None
grown (Some before) more = Some (before ++ more)
