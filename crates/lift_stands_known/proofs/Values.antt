-- What stands for a list of values of a known length.
use Rattle.std.proofs.Common.{◌≡◌, List, [], ◌∷◌, refl, ap}
use Rattle.mem_bytes.specs.declared.value.Value.{Value}
use Rattle.lift_stands.specs.Stands.{Images, ValueBelow}
use Rattle.lift_stands_known.specs.Effects.{ValuesBelow}

pub none_below : (images : Images) (given : List Value) → ValuesBelow images [] given → given ≡ []
none_below images [] below = refl
none_below images (first ∷ others) below = absurd below

pub one_below : (images : Images) (one : Value) (given : List Value) → ValuesBelow images (one ∷ []) given → (first : Value) × (given ≡ first ∷ []) × ValueBelow images one first
one_below images one [] below = absurd below
one_below images one (first ∷ []) below = (first, refl, below.0)
one_below images one (first ∷ second ∷ others) below = absurd below.1

pub two_below : (images : Images) (one two : Value) (given : List Value) → ValuesBelow images (one ∷ two ∷ []) given → (first : Value) × (second : Value) × (given ≡ first ∷ second ∷ []) × ValueBelow images one first × ValueBelow images two second
two_below images one two [] below = absurd below
two_below images one two (first ∷ others) below =
    let rest = one_below images two others below.1 in
    (first, rest.0, ap (λ (os : List Value). first ∷ os) rest.1, below.0, rest.2)

pub three_below : (images : Images) (one two three : Value) (given : List Value) → ValuesBelow images (one ∷ two ∷ three ∷ []) given → (first : Value) × (second : Value) × (third : Value) × (given ≡ first ∷ second ∷ third ∷ []) × ValueBelow images one first × ValueBelow images two second × ValueBelow images three third
three_below images one two three [] below = absurd below
three_below images one two three (first ∷ others) below =
    let rest = two_below images two three others below.1 in
    (first, rest.0, rest.1, ap (λ (os : List Value). first ∷ os) rest.2, below.0, rest.3, rest.4)
