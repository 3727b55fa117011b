-- What is kept outside of a part.
use Rattle.std.proofs.Common.{◌≡◌, refl, ap, ℕ, Bool, true, false, ◌∙◌, ◌||◌, if◌then◌else◌, List, [], ◌∷◌, ◌++◌}
use Rattle.std.specs.List.{list_any}
use Rattle.cx_rules.specs.Initial.{CStored}
use Rattle.cx_rules.specs.Pieces.{is_within, kept_outside}

one_of : (inside : Bool) (one : CStored) (others last : List CStored) → (if inside then others ++ last else one ∷ (others ++ last)) ≡ (if inside then others else one ∷ others) ++ last
one_of true one others last = refl
one_of false one others last = refl

pub kept_last : (part : List ℕ) (stored : List CStored) (one : CStored)
    → kept_outside part (stored ++ one ∷ []) ≡ kept_outside part stored ++ (if is_within part one.path then [] else one ∷ [])
kept_last part [] one = refl
kept_last part (first ∷ others) one =
    ap (λ rest. if is_within part first.path then rest else first ∷ rest) (kept_last part others one)
    ∙ one_of (is_within part first.path) first (kept_outside part others) (if is_within part one.path then [] else one ∷ [])

pub one_outside : (inside : Bool) (one : CStored) (others kept : List CStored) → inside ≡ false → others ≡ kept → one ∷ others ≡ (if inside then kept else one ∷ kept)
one_outside inside one others kept none is = rw (none, is) refl

or_none : (a b : Bool) → (a || b) ≡ false → (a ≡ false) × (b ≡ false)
or_none false false none = (refl, refl)
or_none false true none = cc
or_none true b none = cc

pub none_within : (part : List ℕ) (stored : List CStored) → list_any (λ one. is_within part one.path) stored ≡ false → stored ≡ kept_outside part stored
none_within part [] none = refl
none_within part (one ∷ others) none =
    let both = or_none (is_within part one.path) (list_any (λ other. is_within part other.path) others) none in
    one_outside (is_within part one.path) one others (kept_outside part others) both.0 (none_within part others both.1)
