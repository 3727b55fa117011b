-- The bytes of units as they were got.
use Rattle.std.specs.Prelude.{◌≡◌, ℕ, ◌<◌, ◌≤◌, List, [], ◌∷◌, length, All, ⊤}
use Rattle.cr_base.specs.declared.refusal.Stop.{Stop}
use Rattle.cr_base.specs.declared.refusal.Stop.TheVariants.{Refused, Memory}
use Rattle.cx_lex.specs.declared.token.Token.{Token}
use Rattle.cx_lex.specs.Tokens.{Spells}
use Rattle.cx_units.specs.Broken.{BreaksUnit, FirstBroken, most_bytes}
use Rattle.cx_units.specs.declared.source.Source.{Source}
use Rattle.cx_units.specs.declared.source.Source.TheVariants.{Bytes, TooLarge}

-- what was got of a unit with these bytes
abbrev pub IsOf : Source → List ℕ → Type 0
IsOf (Bytes given) bytes = given ≡ bytes
IsOf TooLarge bytes = most_bytes < length bytes

abbrev pub AreOf : List Source → List (List ℕ) → Type 0
AreOf [] [] = ⊤
AreOf (source ∷ sources) (unit ∷ units) = IsOf source unit × AreOf sources units
AreOf [] (unit ∷ units) = ⊥
AreOf (source ∷ sources) [] = ⊥

-- a unit was got whole, as bytes: each is a number below 256 (ISO C99, 3.6)
abbrev pub IsGot : Source → Type 0
IsGot (Bytes given) = All (λ byte. byte < 256) given
IsGot TooLarge = ⊥

-- why a unit with such bytes is stopped: by the first rule that it breaks, under its own number, or for want of memory
abbrev pub StopsUnit : ℕ → (List ℕ → Type 0) → Stop → Type 0
StopsUnit number Has (Refused refusal) =
    (refusal.unit ≡ number) × ((bytes : List ℕ) → Has bytes → BreaksUnit number bytes refusal.rule refusal.line)
StopsUnit number Has Memory = ⊤

-- bytes that spell these tokens
pub record AreSpelled (tokens : List Token) (bytes : List ℕ) : Type 0 where
  pub small : length bytes ≤ most_bytes
  pub spelled : Spells bytes tokens

-- why units are stopped: by the first rule that they break, in one of them, or for want of memory
abbrev pub StopsUnits : List Source → Stop → Type 0
StopsUnits sources (Refused refusal) =
    (refusal.unit < length sources) × ((units : List (List ℕ)) → AreOf sources units → FirstBroken units refusal)
StopsUnits sources Memory = ⊤

-- the same, of the unit with this number
abbrev pub stopped_in : ℕ → Stop → Stop
stopped_in number (Refused refusal) = Refused (record refusal { unit = number })
stopped_in number Memory = Memory
