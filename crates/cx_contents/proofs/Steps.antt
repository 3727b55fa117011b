-- The step of a declarator that stands first is the last one.
use Rattle.std.proofs.Common.{arith, ◌≡◌, refl, ap, ◌∙◌, List, [], ◌∷◌, ◌++◌, length, map, reverse, take, None, Some}
use Rattle.std.proofs.lemmas.List.{length-append, reverse-append}
use Rattle.cx_rules.specs.Shapes.{CStep, last_step}

last_behind : (steps : List CStep) (one : CStep) → last_step (steps ++ one ∷ []) ≡ Some one
last_behind [] one = refl
last_behind (first ∷ []) one = refl
last_behind (first ∷ second ∷ others) one = last_behind (second ∷ others) one

alone : {A : Type 0} (x last : A) (others : List A) → x ∷ [] ≡ others ++ last ∷ [] → x ≡ last
alone x last [] e = cc
alone x last (y ∷ others) e = absurd (let long = ap length e in omega (arith, long, length-append others (last ∷ [])))

pub first_of : {A : Type 0} (view : A → CStep) (steps others : List A) (last : A) → take 1 steps ≡ others ++ last ∷ [] → last_step (reverse (map view steps)) ≡ Some (view last)
first_of view [] others last e = absurd (let short = ap length e in omega (arith, short, length-append others (last ∷ [])))
first_of view (x ∷ steps) others last e =
    ap last_step (reverse-append (view x ∷ []) (map view steps)) ∙ last_behind (reverse (map view steps)) (view x)
    ∙ ap (λ one. Some (view one)) (alone x last others e)

pub none_first : {A : Type 0} (view : A → CStep) (steps : List A) → take 1 steps ≡ [] → last_step (reverse (map view steps)) ≡ None
none_first view [] e = refl
none_first view (x ∷ steps) e = absurd cc
