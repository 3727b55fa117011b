-- What printing does to what was printed so far, which is missing from where memory ran out.
use Rattle.std.specs.Prelude.{◌≡◌, ⊤, ℕ, List, [], ◌∷◌, ◌++◌, Option, Some, None}
use Rattle.rs_text.specs.declared.line.Line.{Line}
use Rattle.rs_text.specs.Lines.{line}

-- the list grew by these elements at its end, or memory ran out
abbrev pub Appends : {A : Type 0} → Option (List A) → Option (List A) → List A → Type 0
Appends before None more = ⊤
Appends None (Some after) more = ⊥
Appends (Some before) (Some after) more = after ≡ before ++ more

-- the list with these elements at its end
abbrev pub grown : {A : Type 0} → Option (List A) → List A → Option (List A)
grown None more = None
grown (Some before) more = Some (before ++ more)

-- the lines grew by the one of a text, or the text is missing and now the lines are
abbrev pub AddsLine : Option (List Line) → Option (List Line) → ℕ → Option (List ℕ) → Type 0
AddsLine before after depth None = after ≡ None
AddsLine before after depth (Some text) = Appends before after (line depth text ∷ [])
