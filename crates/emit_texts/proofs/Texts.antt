-- Lists of statements, and copies of them.
use Rattle.std.proofs.Common.{◌≡◌, ◌∙◌, ℕ, true, false, List, [], ◌∷◌, ◌++◌, Some, None, length, map, refl, ap, sym}
use Rattle.emit_rules.specs.Bodies.{without_return, without_last_return}
use Rattle.emit_rules.specs.Jumps.{label_of}
use Rattle.emit_rules.specs.Labels.{numbered_stmt, numbered, numbered_arms}
use Rattle.emit_stmts.specs.Copies.{stmt_copy, stmts_copy, arms_copy}
use Rattle.emit_stmts.specs.declared.labels.Labels.TheVariants.{AsTheyAre, ByDepth}
use Rattle.emit_stmts.proofs.Lists.{behind_none}
use Rattle.emit_texts.specs.Texts.{is_plain_return}
use Rattle.rs_mean.specs.Laws.{behind}
use Rattle.rs_text.specs.Tree.{Stmt, Assign, Eval, CopyBytes, If, Loop, Block, Break, Continue, Match, Return, Stmts, no_stmts, more_stmts, stmts, LiteralArm, Arms, no_arms, more_arms}

pub stmts_append : {A : Type 0} (f : A → Stmt) (xs ys : List A) → stmts (map f (xs ++ ys)) ≡ behind (stmts (map f xs)) (stmts (map f ys))
stmts_append f [] ys = refl
stmts_append f (x ∷ xs) ys = ap (more_stmts (f x)) (stmts_append f xs ys)

pub behind_behind : (a b c : Stmts) → behind (behind a b) c ≡ behind a (behind b c)
behind_behind no_stmts b c = refl
behind_behind (more_stmts s ss) b c = ap (more_stmts s) (behind_behind ss b c)

-- ---- copies

mutual
  same_stmt : (s : Stmt) → stmt_copy AsTheyAre s ≡ s
  same_stmt (Assign p e) = refl
  same_stmt (Eval e) = refl
  same_stmt (CopyBytes source target count) = refl
  same_stmt (If condition if_true if_false) = let one = as_they_are if_true in let other = as_they_are if_false in cc
  same_stmt (Loop None body) = ap (Loop None) (as_they_are body)
  same_stmt (Loop (Some label) body) = ap (Loop (Some label)) (as_they_are body)
  same_stmt (Block label body) = ap (Block label) (as_they_are body)
  same_stmt (Break label) = refl
  same_stmt (Continue label) = refl
  same_stmt (Match e cases other) = let one = same_arms cases in let rest = as_they_are other in cc
  same_stmt (Return value) = refl

  pub as_they_are : (ss : Stmts) → stmts_copy AsTheyAre ss ≡ ss
  as_they_are no_stmts = refl
  as_they_are (more_stmts s ss) = let one = same_stmt s in let rest = as_they_are ss in cc

  same_arms : (cases : Arms) → arms_copy AsTheyAre cases ≡ cases
  same_arms no_arms = refl
  same_arms (more_arms (LiteralArm value ty body) others) = let one = as_they_are body in let rest = same_arms others in cc

mutual
  numbers_stmt : (around : List (List ℕ)) (s : Stmt) → stmt_copy (ByDepth around) s ≡ numbered_stmt around s
  numbers_stmt around (Assign p e) = refl
  numbers_stmt around (Eval e) = refl
  numbers_stmt around (CopyBytes source target count) = refl
  numbers_stmt around (If condition if_true if_false) = let one = by_depth around if_true in let other = by_depth around if_false in cc
  numbers_stmt around (Loop None body) = ap (Loop None) (by_depth around body)
  numbers_stmt around (Loop (Some label) body) = ap (Loop (Some (label_of (length around)))) (by_depth (label ∷ around) body)
  numbers_stmt around (Block label body) = ap (Block (label_of (length around))) (by_depth (label ∷ around) body)
  numbers_stmt around (Break label) = refl
  numbers_stmt around (Continue label) = refl
  numbers_stmt around (Match e cases other) = let one = numbers_arms around cases in let rest = by_depth around other in cc
  numbers_stmt around (Return value) = refl

  pub by_depth : (around : List (List ℕ)) (ss : Stmts) → stmts_copy (ByDepth around) ss ≡ numbered around ss
  by_depth around no_stmts = refl
  by_depth around (more_stmts s ss) = let one = numbers_stmt around s in let rest = by_depth around ss in cc

  numbers_arms : (around : List (List ℕ)) (cases : Arms) → arms_copy (ByDepth around) cases ≡ numbered_arms around cases
  numbers_arms around no_arms = refl
  numbers_arms around (more_arms (LiteralArm value ty body) others) = let one = by_depth around body in let rest = numbers_arms around others in cc

-- ---- the last one

last_of : {A : Type 0} (f : A → Stmt) (front : List A) (last : A) → without_last_return (stmts (map f (front ++ last ∷ []))) ≡ behind (stmts (map f front)) (without_return (f last))
last_of f [] last = refl
last_of f (x ∷ []) last = refl
last_of f (x ∷ y ∷ front) last = ap (more_stmts (f x)) (last_of f (y ∷ front) last)

without_plain : (s : Stmt) → is_plain_return s ≡ true → without_return s ≡ no_stmts
without_plain (Return None) is = refl
without_plain (Return (Some value)) is = absurd cc
without_plain (Assign p e) is = absurd cc
without_plain (Eval e) is = absurd cc
without_plain (CopyBytes source target count) is = absurd cc
without_plain (If condition if_true if_false) is = absurd cc
without_plain (Loop label body) is = absurd cc
without_plain (Block label body) is = absurd cc
without_plain (Break label) is = absurd cc
without_plain (Continue label) is = absurd cc
without_plain (Match e cases other) is = absurd cc

with_other : (s : Stmt) → is_plain_return s ≡ false → without_return s ≡ more_stmts s no_stmts
with_other (Return None) is = absurd cc
with_other (Return (Some value)) is = refl
with_other (Assign p e) is = refl
with_other (Eval e) is = refl
with_other (CopyBytes source target count) is = refl
with_other (If condition if_true if_false) is = refl
with_other (Loop label body) is = refl
with_other (Block label body) is = refl
with_other (Break label) is = refl
with_other (Continue label) is = refl
with_other (Match e cases other) is = refl

module _ {A : Type 0} (f : A → Stmt) (all front : List A) (last : A) (ends : all ≡ front ++ last ∷ []) where
  pub last_dropped : is_plain_return (f last) ≡ true → stmts (map f front) ≡ without_last_return (stmts (map f all))
  last_dropped is = sym (ap (λ list. without_last_return (stmts (map f list))) ends ∙ last_of f front last ∙ ap (behind (stmts (map f front))) (without_plain (f last) is) ∙ behind_none (stmts (map f front)))

  pub last_kept : is_plain_return (f last) ≡ false → stmts (map f (front ++ last ∷ [])) ≡ without_last_return (stmts (map f all))
  last_kept is = stmts_append f front (last ∷ []) ∙ sym (ap (λ list. without_last_return (stmts (map f list))) ends ∙ last_of f front last ∙ ap (behind (stmts (map f front))) (with_other (f last) is))
