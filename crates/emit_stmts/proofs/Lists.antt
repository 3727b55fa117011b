-- Statements and arms as lists that grow at their end while others are gone through.
use Rattle.std.proofs.Common.{◌≡◌, ◌∙◌, ℕ, ◌+◌, ◌<◌, ◌≤◌, List, [], ◌∷◌, ◌++◌, map, length, drop, get_or, refl, ap, sym}
use Rattle.std.proofs.lemmas.List.{drop_more, drop_all}
use Rattle.rs_mean.specs.Laws.{behind}
use Rattle.rs_text.specs.Tree.{Stmt, Stmts, no_stmts, more_stmts, stmts, ArmTree, Arms, no_arms, more_arms, arms}

-- what is left of a list begins with the next one
pub next_of : {A : Type 0} (xs : List A) (k : ℕ) (x : A) → x ≡ get_or xs k x → k < length xs → drop k xs ≡ x ∷ drop (k + 1) xs
next_of xs k x is within = drop_more xs k x within ∙ ap (λ y. y ∷ drop (k + 1) xs) (sym is)

pub behind_none : (ss : Stmts) → behind ss no_stmts ≡ ss
behind_none no_stmts = refl
behind_none (more_stmts s ss) = ap (more_stmts s) (behind_none ss)

pub behind_more : {A : Type 0} (f : A → Stmt) (made : List A) (one : A) (rest : Stmts) → behind (stmts (map f (made ++ one ∷ []))) rest ≡ behind (stmts (map f made)) (more_stmts (f one) rest)
behind_more f [] one rest = refl
behind_more f (other ∷ made) one rest = ap (more_stmts (f other)) (behind_more f made one rest)

-- arms behind others
abbrev pub behind_arms : Arms → Arms → Arms
behind_arms no_arms others = others
behind_arms (more_arms one ones) others = more_arms one (behind_arms ones others)

pub arms_none : (cases : Arms) → behind_arms cases no_arms ≡ cases
arms_none no_arms = refl
arms_none (more_arms one others) = ap (more_arms one) (arms_none others)

pub arms_more : {A : Type 0} (f : A → ArmTree) (made : List A) (one : A) (rest : Arms) → behind_arms (arms (map f (made ++ one ∷ []))) rest ≡ behind_arms (arms (map f made)) (more_arms (f one) rest)
arms_more f [] one rest = refl
arms_more f (other ∷ made) one rest = ap (more_arms (f other)) (arms_more f made one rest)

-- ---- one step of a loop over a list that makes one statement of each element

module _ {A B : Type 0} (f : B → Stmt) (texts : List A → Stmts) (made grown : List B) (all items : List A) (k : ℕ) (x : A) (y : B) (whole : Stmts) where
  pub stmt_made : items ≡ all → x ≡ get_or items k x → k < length items → grown ≡ made ++ y ∷ [] → ((rest : List A) → texts (x ∷ rest) ≡ more_stmts (f y) (texts rest)) →
      behind (stmts (map f made)) (texts (drop k all)) ≡ whole → behind (stmts (map f grown)) (texts (drop (k + 1) all)) ≡ whole
  stmt_made same is within more step was =
      ap (λ list. behind (stmts (map f list)) (texts (drop (k + 1) all))) more ∙ behind_more f made y (texts (drop (k + 1) all))
      ∙ ap (behind (stmts (map f made))) (sym (step (drop (k + 1) all)) ∙ ap texts (sym left)) ∙ was
    where
      left : drop k all ≡ x ∷ drop (k + 1) all
      left = ap (drop k) (sym same) ∙ next_of items k x is within ∙ ap (λ list. x ∷ drop (k + 1) list) same

module _ {A B : Type 0} (f : B → Stmt) (texts : List A → Stmts) (made : List B) (all items : List A) (k : ℕ) (whole : Stmts) where
  pub stmts_ended : items ≡ all → length items ≤ k → texts [] ≡ no_stmts → behind (stmts (map f made)) (texts (drop k all)) ≡ whole → stmts (map f made) ≡ whole
  stmts_ended same past none was = sym (behind_none (stmts (map f made))) ∙ ap (behind (stmts (map f made))) (sym none ∙ ap texts (sym left)) ∙ was
    where
      left : drop k all ≡ []
      left = ap (drop k) (sym same) ∙ drop_all k items past

-- the same of arms
module _ {A B : Type 0} (f : B → ArmTree) (texts : List A → Arms) (made grown : List B) (all items : List A) (k : ℕ) (x : A) (y : B) (whole : Arms) where
  pub arm_made : items ≡ all → x ≡ get_or items k x → k < length items → grown ≡ made ++ y ∷ [] → ((rest : List A) → texts (x ∷ rest) ≡ more_arms (f y) (texts rest)) →
      behind_arms (arms (map f made)) (texts (drop k all)) ≡ whole → behind_arms (arms (map f grown)) (texts (drop (k + 1) all)) ≡ whole
  arm_made same is within more step was =
      ap (λ list. behind_arms (arms (map f list)) (texts (drop (k + 1) all))) more ∙ arms_more f made y (texts (drop (k + 1) all))
      ∙ ap (behind_arms (arms (map f made))) (sym (step (drop (k + 1) all)) ∙ ap texts (sym left)) ∙ was
    where
      left : drop k all ≡ x ∷ drop (k + 1) all
      left = ap (drop k) (sym same) ∙ next_of items k x is within ∙ ap (λ list. x ∷ drop (k + 1) list) same

module _ {A B : Type 0} (f : B → ArmTree) (texts : List A → Arms) (made : List B) (all items : List A) (k : ℕ) (whole : Arms) where
  pub arms_ended : items ≡ all → length items ≤ k → texts [] ≡ no_arms → behind_arms (arms (map f made)) (texts (drop k all)) ≡ whole → arms (map f made) ≡ whole
  arms_ended same past none was = sym (arms_none (arms (map f made))) ∙ ap (behind_arms (arms (map f made))) (sym none ∙ ap texts (sym left)) ∙ was
    where
      left : drop k all ≡ []
      left = ap (drop k) (sym same) ∙ drop_all k items past
