-- Closed statements end by labels around them alone.
use Rattle.std.proofs.Common.{◌≡◌, ◌⊎◌, inl, inr, ℕ, Bool, true, false, not, ◌&&◌, List, ◌∷◌, Some, None, bytes_eq, if◌then◌else◌, refl, sym, subst}
use Rattle.std.specs.Cmp.Lexicographic.{same_text}
use Rattle.reloop.proofs.Sets.{either}
use Rattle.rs_text.specs.Tree.{Stmt, Assign, Eval, CopyBytes, If, Loop, Block, Break, Continue, Match, Return, Stmts, no_stmts, more_stmts, LiteralArm, Arms, no_arms, more_arms}
use Rattle.rs_mean.specs.Typing.{LabelScope}
use Rattle.rs_mean_ends.specs.Ways.{goes, by_break, by_continue, stmt_ends, stmts_end, arms_end}
use Rattle.emit_laws.specs.Closed.{is_bound, is_loop_label, of_loop, of_block, stmt_closed, stmts_closed, arms_closed}

pub and_left : (a b : Bool) → (a && b) ≡ true → a ≡ true
and_left true b is = refl
and_left false b is = absurd cc

pub and_right : (a b : Bool) → (a && b) ≡ true → b ≡ true
and_right true b is = is
and_right false b is = absurd cc

pub and_both : (a b : Bool) → a ≡ true → b ≡ true → (a && b) ≡ true
and_both true b is so = so
and_both false b is so = absurd cc

by_side : {A B C : Type 0} → A ⊎ B → (A → C) → (B → C) → C
by_side (inl is) one other = one is
by_side (inr is) one other = other is

-- a label that isn't the innermost one is one of the others
bound_outside : (name label : List ℕ) (test : Bool) → bytes_eq name label ≡ test → (others : Bool) → (if test then true else others) ≡ true → not test ≡ true → others ≡ true
bound_outside name label true same others is differ = absurd cc
bound_outside name label false same others is differ = is

-- what names a label another way than by the innermost loop or block
module _ (label : List ℕ) where
  outside : (inner : List ℕ) (around : List LabelScope) (is_loop : Bool) → not (bytes_eq inner label) ≡ true → is_bound (record { name = inner; is_loop = is_loop } ∷ around) label ≡ true →
      is_bound around label ≡ true
  outside inner around is_loop differ is = bound_outside inner label (bytes_eq inner label) refl (is_bound around label) is differ

  loop_outside : (inner : List ℕ) (around : List LabelScope) (is_loop : Bool) → not (bytes_eq inner label) ≡ true → is_loop_label (record { name = inner; is_loop = is_loop } ∷ around) label ≡ true →
      is_loop_label around label ≡ true
  loop_outside inner around is_loop differ is = by_test (bytes_eq inner label) differ is
    where
      by_test : (test : Bool) → not test ≡ true → (if test then is_loop else is_loop_label around label) ≡ true → is_loop_label around label ≡ true
      by_test true differ is = absurd cc
      by_test false differ is = is

  -- a block is no loop
  never_block : (inner : List ℕ) (around : List LabelScope) → is_loop_label (of_block inner ∷ around) label ≡ true → is_loop_label around label ≡ true
  never_block inner around is = by_test (bytes_eq inner label) is
    where
      by_test : (test : Bool) → (if test then false else is_loop_label around label) ≡ true → is_loop_label around label ≡ true
      by_test true is = absurd cc
      by_test false is = is

  named : (name : List ℕ) (around : List LabelScope) → bytes_eq name label ≡ true → is_bound around name ≡ true → is_bound around label ≡ true
  named name around same is = subst (λ (one : List ℕ). is_bound around one ≡ true) (same_text name label (sym same)) is

  loop_named : (name : List ℕ) (around : List LabelScope) → bytes_eq name label ≡ true → is_loop_label around name ≡ true → is_loop_label around label ≡ true
  loop_named name around same is = subst (λ (one : List ℕ). is_loop_label around one ≡ true) (same_text name label (sym same)) is

  mutual
    stmt_breaks : (around : List LabelScope) (s : Stmt) → stmt_closed around s ≡ true → stmt_ends s (by_break label) ≡ true → is_bound around label ≡ true
    stmt_breaks around (Assign p e) closed ends = absurd cc
    stmt_breaks around (Eval e) closed ends = absurd cc
    stmt_breaks around (CopyBytes source target count) closed ends = absurd cc
    stmt_breaks around (If condition if_true if_false) closed ends = by_side (either (stmts_end if_true (by_break label)) (stmts_end if_false (by_break label)) ends)
        (stmts_break around if_true (and_left (stmts_closed around if_true) (stmts_closed around if_false) closed))
        (stmts_break around if_false (and_right (stmts_closed around if_true) (stmts_closed around if_false) closed))
    stmt_breaks around (Loop None body) closed ends = stmts_break around body closed ends
    stmt_breaks around (Loop (Some inner) body) closed ends =
        outside inner around true (and_left (not (bytes_eq inner label)) (stmts_end body (by_break label)) ends)
        (stmts_break (of_loop inner ∷ around) body closed (and_right (not (bytes_eq inner label)) (stmts_end body (by_break label)) ends))
    stmt_breaks around (Block inner body) closed ends =
        outside inner around false (and_left (not (bytes_eq inner label)) (stmts_end body (by_break label)) ends)
        (stmts_break (of_block inner ∷ around) body closed (and_right (not (bytes_eq inner label)) (stmts_end body (by_break label)) ends))
    stmt_breaks around (Break name) closed ends = named name around ends closed
    stmt_breaks around (Continue name) closed ends = absurd cc
    stmt_breaks around (Match e cases other) closed ends = by_side (either (arms_end cases (by_break label)) (stmts_end other (by_break label)) ends)
        (arms_break around cases (and_left (arms_closed around cases) (stmts_closed around other) closed))
        (stmts_break around other (and_right (arms_closed around cases) (stmts_closed around other) closed))
    stmt_breaks around (Return value) closed ends = absurd cc

    pub stmts_break : (around : List LabelScope) (ss : Stmts) → stmts_closed around ss ≡ true → stmts_end ss (by_break label) ≡ true → is_bound around label ≡ true
    stmts_break around no_stmts closed ends = absurd cc
    stmts_break around (more_stmts s ss) closed ends = by_side (either (stmt_ends s (by_break label)) (stmt_ends s goes && stmts_end ss (by_break label)) ends)
        (stmt_breaks around s (and_left (stmt_closed around s) (stmts_closed around ss) closed))
        (λ is. stmts_break around ss (and_right (stmt_closed around s) (stmts_closed around ss) closed) (and_right (stmt_ends s goes) (stmts_end ss (by_break label)) is))

    arms_break : (around : List LabelScope) (cases : Arms) → arms_closed around cases ≡ true → arms_end cases (by_break label) ≡ true → is_bound around label ≡ true
    arms_break around no_arms closed ends = absurd cc
    arms_break around (more_arms (LiteralArm value ty body) others) closed ends = by_side (either (stmts_end body (by_break label)) (arms_end others (by_break label)) ends)
        (stmts_break around body (and_left (stmts_closed around body) (arms_closed around others) closed))
        (arms_break around others (and_right (stmts_closed around body) (arms_closed around others) closed))

  mutual
    stmt_continues : (around : List LabelScope) (s : Stmt) → stmt_closed around s ≡ true → stmt_ends s (by_continue label) ≡ true → is_loop_label around label ≡ true
    stmt_continues around (Assign p e) closed ends = absurd cc
    stmt_continues around (Eval e) closed ends = absurd cc
    stmt_continues around (CopyBytes source target count) closed ends = absurd cc
    stmt_continues around (If condition if_true if_false) closed ends = by_side (either (stmts_end if_true (by_continue label)) (stmts_end if_false (by_continue label)) ends)
        (stmts_continue around if_true (and_left (stmts_closed around if_true) (stmts_closed around if_false) closed))
        (stmts_continue around if_false (and_right (stmts_closed around if_true) (stmts_closed around if_false) closed))
    stmt_continues around (Loop None body) closed ends = stmts_continue around body closed ends
    stmt_continues around (Loop (Some inner) body) closed ends =
        loop_outside inner around true (and_left (not (bytes_eq inner label)) (stmts_end body (by_continue label)) ends)
        (stmts_continue (of_loop inner ∷ around) body closed (and_right (not (bytes_eq inner label)) (stmts_end body (by_continue label)) ends))
    stmt_continues around (Block inner body) closed ends = never_block inner around (stmts_continue (of_block inner ∷ around) body closed ends)
    stmt_continues around (Break name) closed ends = absurd cc
    stmt_continues around (Continue name) closed ends = loop_named name around ends closed
    stmt_continues around (Match e cases other) closed ends = by_side (either (arms_end cases (by_continue label)) (stmts_end other (by_continue label)) ends)
        (arms_continue around cases (and_left (arms_closed around cases) (stmts_closed around other) closed))
        (stmts_continue around other (and_right (arms_closed around cases) (stmts_closed around other) closed))
    stmt_continues around (Return value) closed ends = absurd cc

    pub stmts_continue : (around : List LabelScope) (ss : Stmts) → stmts_closed around ss ≡ true → stmts_end ss (by_continue label) ≡ true → is_loop_label around label ≡ true
    stmts_continue around no_stmts closed ends = absurd cc
    stmts_continue around (more_stmts s ss) closed ends = by_side (either (stmt_ends s (by_continue label)) (stmt_ends s goes && stmts_end ss (by_continue label)) ends)
        (stmt_continues around s (and_left (stmt_closed around s) (stmts_closed around ss) closed))
        (λ is. stmts_continue around ss (and_right (stmt_closed around s) (stmts_closed around ss) closed) (and_right (stmt_ends s goes) (stmts_end ss (by_continue label)) is))

    arms_continue : (around : List LabelScope) (cases : Arms) → arms_closed around cases ≡ true → arms_end cases (by_continue label) ≡ true → is_loop_label around label ≡ true
    arms_continue around no_arms closed ends = absurd cc
    arms_continue around (more_arms (LiteralArm value ty body) others) closed ends = by_side (either (stmts_end body (by_continue label)) (arms_end others (by_continue label)) ends)
        (stmts_continue around body (and_left (stmts_closed around body) (arms_closed around others) closed))
        (arms_continue around others (and_right (stmts_closed around body) (arms_closed around others) closed))
