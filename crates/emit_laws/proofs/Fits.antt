-- Statements that are well typed but for their labels.
use Rattle.std.proofs.Common.{◌≡◌, ◌∙◌, ℕ, suc, ◌<◌, Bool, true, false, not, ◌&&◌, ◌||◌, ℤ, List, [], ◌∷◌, length, Option, Some, None, bytes_eq, if◌then◌else◌, arith, refl, sym, ap, subst}
use Rattle.std.specs.Cmp.Lexicographic.{same_text}
use Rattle.std.specs.List.{list_any}
use Rattle.std.specs.Ordering.{int_eq}
use Rattle.std.specs.Prelude.{⊤}
use Rattle.rs_text.specs.Tree.{Ty, Boolean, Pointer, Integer, Stmt, Assign, Eval, CopyBytes, If, Loop, Block, Break, Continue, Match, Return, Stmts, no_stmts, more_stmts, LiteralArm, Arms, no_arms, more_arms}
use Rattle.rs_text.specs.declared.integer.IntegerTy.TheVariants.{U8}
use Rattle.rs_mean.specs.Typing.{Scope, BodyScope, LabelScope, own_type, is_of_type, place_type, kind_of, gives_type, is_scalar_of, drops_call, usize_type, is_new_label, arm_differs, matches, is_matched, stmt_typed, stmts_typed, arms_typed}
use Rattle.emit_rules.specs.Jumps.{label_of}
use Rattle.emit_rules.specs.Labels.{numbered_label, numbered_stmt, numbered, numbered_arms}
use Rattle.emit_laws.specs.Closed.{is_bound, is_loop_label, of_loop, of_block, stmt_closed, stmts_closed, arms_closed}
use Rattle.emit_laws.proofs.Closing.{and_left, and_right, and_both}
use Rattle.emit_laws.proofs.Names.{told_apart}
use Rattle.emit_laws.proofs.Numbering.{names}
use Rattle.emit_laws.proofs.Turns.{same_label}

-- ---- labels around that differ

abbrev pub is_named : List ℕ → LabelScope → Bool
is_named name label = bytes_eq label.name name && true

abbrev pub AllDiffer : List LabelScope → Type 0
AllDiffer [] = ⊤
AllDiffer (one ∷ others) = (list_any (is_named one.name) others ≡ false) × AllDiffer others

label_bound : (around : List LabelScope) (label : List ℕ) → list_any (is_named label) around ≡ true → is_bound around label ≡ true
label_bound [] label is = absurd cc
label_bound (one ∷ others) label is = by_test (bytes_eq one.name label) is (label_bound others label)
  where
    by_test : (test : Bool) → ((test && true) || list_any (is_named label) others) ≡ true → (list_any (is_named label) others ≡ true → is_bound others label ≡ true) → (if test then true else is_bound others label) ≡ true
    by_test true is rest = refl
    by_test false is rest = rest is

loop_named : (around : List LabelScope) (label : List ℕ) → list_any (λ one. bytes_eq one.name label && one.is_loop) around ≡ true → list_any (is_named label) around ≡ true
loop_named [] label is = is
loop_named (one ∷ others) label is = by_test (bytes_eq one.name label) is (loop_named others label)
  where
    by_test : (test : Bool) → ((test && one.is_loop) || list_any (λ one. bytes_eq one.name label && one.is_loop) others) ≡ true →
        (list_any (λ one. bytes_eq one.name label && one.is_loop) others ≡ true → list_any (is_named label) others ≡ true) → ((test && true) || list_any (is_named label) others) ≡ true
    by_test true is rest = refl
    by_test false is rest = rest is

loop_label : (around : List LabelScope) (label : List ℕ) → AllDiffer around → list_any (λ one. bytes_eq one.name label && one.is_loop) around ≡ true → is_loop_label around label ≡ true
loop_label [] label differ is = absurd cc
loop_label (one ∷ others) label differ is = by_test (bytes_eq one.name label) refl is (loop_label others label differ.1)
  where
    none_later : bytes_eq one.name label ≡ true → list_any (λ one. bytes_eq one.name label && one.is_loop) others ≡ true → ⊥
    none_later same later =
        let named = loop_named others label later in
        let none = subst (λ (name : List ℕ). list_any (is_named name) others ≡ false) (same_text one.name label (sym same)) differ.0 in
        never (list_any (is_named label) others) named none
      where
        never : (test : Bool) → test ≡ true → test ≡ false → ⊥
        never true is none = cc
        never false is none = cc

    by_test : (test : Bool) → bytes_eq one.name label ≡ test → ((test && one.is_loop) || list_any (λ one. bytes_eq one.name label && one.is_loop) others) ≡ true →
        (list_any (λ one. bytes_eq one.name label && one.is_loop) others ≡ true → is_loop_label others label ≡ true) → (if test then one.is_loop else is_loop_label others label) ≡ true
    by_test true same is rest = by_loop one.is_loop is
      where
        by_loop : (loop : Bool) → (loop || list_any (λ one. bytes_eq one.name label && one.is_loop) others) ≡ true → loop ≡ true
        by_loop true is = refl
        by_loop false is = absurd (none_later same is)
    by_test false same is rest = rest is

not_true : (test : Bool) → not test ≡ true → test ≡ false
not_true true is = absurd cc
not_true false is = refl

-- ---- statements but for their labels

module _ (scope : Scope) (result : Option Ty) where
  abbrev mutual
    pub stmt_fits : Stmt → Bool
    stmt_fits (Assign p e) = is_scalar_of (place_type scope p) (kind_of scope e)
    stmt_fits (Eval e) = drops_call scope e
    stmt_fits (CopyBytes source target count) =
        is_of_type (Pointer (Integer U8)) (kind_of scope source) && is_of_type (Pointer (Integer U8)) (kind_of scope target) && is_of_type usize_type (kind_of scope count)
    stmt_fits (If condition if_true if_false) = is_of_type Boolean (kind_of scope condition) && stmts_fit if_true && stmts_fit if_false
    stmt_fits (Loop label body) = stmts_fit body
    stmt_fits (Block label body) = stmts_fit body
    stmt_fits (Break label) = true
    stmt_fits (Continue label) = true
    stmt_fits (Match e cases other) = is_matched (own_type (kind_of scope e)) && arms_fit (own_type (kind_of scope e)) cases && stmts_fit other
    stmt_fits (Return value) = gives_type scope result value

    pub stmts_fit : Stmts → Bool
    stmts_fit no_stmts = true
    stmts_fit (more_stmts s ss) = stmt_fits s && stmts_fit ss

    pub arms_fit : Option Ty → Arms → Bool
    arms_fit matched no_arms = true
    arms_fit matched (more_arms (LiteralArm value ty body) others) = matches matched value ty && arm_differs value others && stmts_fit body && arms_fit matched others

  abbrev pub within : List LabelScope → BodyScope
  within labels = record { names = scope; result = result; labels = labels }

  -- ---- what is well typed fits

  mutual
    stmt_typed_fits : (labels : List LabelScope) (s : Stmt) → stmt_typed (within labels) s ≡ true → stmt_fits s ≡ true
    stmt_typed_fits labels (Assign p e) typed = typed
    stmt_typed_fits labels (Eval e) typed = typed
    stmt_typed_fits labels (CopyBytes source target count) typed = typed
    stmt_typed_fits labels (If condition if_true if_false) typed =
        let condition_is = is_of_type Boolean (kind_of scope condition) in
        let both = and_left (condition_is && stmts_typed (within labels) if_true) (stmts_typed (within labels) if_false) typed in
        and_both (condition_is && stmts_fit if_true) (stmts_fit if_false)
        (and_both condition_is (stmts_fit if_true) (and_left condition_is (stmts_typed (within labels) if_true) both)
        (typed_fits labels if_true (and_right condition_is (stmts_typed (within labels) if_true) both)))
        (typed_fits labels if_false (and_right (condition_is && stmts_typed (within labels) if_true) (stmts_typed (within labels) if_false) typed))
    stmt_typed_fits labels (Loop None body) typed = typed_fits labels body typed
    stmt_typed_fits labels (Loop (Some label) body) typed =
        typed_fits (of_loop label ∷ labels) body (and_right (is_new_label (within labels) label) (stmts_typed (within (of_loop label ∷ labels)) body) typed)
    stmt_typed_fits labels (Block label body) typed =
        typed_fits (of_block label ∷ labels) body (and_right (is_new_label (within labels) label) (stmts_typed (within (of_block label ∷ labels)) body) typed)
    stmt_typed_fits labels (Break label) typed = refl
    stmt_typed_fits labels (Continue label) typed = refl
    stmt_typed_fits labels (Match e cases other) typed =
        let operand = own_type (kind_of scope e) in
        let both = and_left (is_matched operand && arms_typed (within labels) operand cases) (stmts_typed (within labels) other) typed in
        and_both (is_matched operand && arms_fit operand cases) (stmts_fit other)
        (and_both (is_matched operand) (arms_fit operand cases) (and_left (is_matched operand) (arms_typed (within labels) operand cases) both)
        (arms_typed_fit labels operand cases (and_right (is_matched operand) (arms_typed (within labels) operand cases) both)))
        (typed_fits labels other (and_right (is_matched operand && arms_typed (within labels) operand cases) (stmts_typed (within labels) other) typed))
    stmt_typed_fits labels (Return value) typed = typed

    pub typed_fits : (labels : List LabelScope) (ss : Stmts) → stmts_typed (within labels) ss ≡ true → stmts_fit ss ≡ true
    typed_fits labels no_stmts typed = refl
    typed_fits labels (more_stmts s ss) typed =
        and_both (stmt_fits s) (stmts_fit ss) (stmt_typed_fits labels s (and_left (stmt_typed (within labels) s) (stmts_typed (within labels) ss) typed))
        (typed_fits labels ss (and_right (stmt_typed (within labels) s) (stmts_typed (within labels) ss) typed))

    arms_typed_fit : (labels : List LabelScope) (operand : Option Ty) (cases : Arms) → arms_typed (within labels) operand cases ≡ true → arms_fit operand cases ≡ true
    arms_typed_fit labels operand no_arms typed = refl
    arms_typed_fit labels operand (more_arms (LiteralArm value ty body) others) typed =
        let head = matches operand value ty && arm_differs value others in
        let front = and_left (head && stmts_typed (within labels) body) (arms_typed (within labels) operand others) typed in
        and_both (head && stmts_fit body) (arms_fit operand others)
        (and_both head (stmts_fit body) (and_left head (stmts_typed (within labels) body) front) (typed_fits labels body (and_right head (stmts_typed (within labels) body) front)))
        (arms_typed_fit labels operand others (and_right (head && stmts_typed (within labels) body) (arms_typed (within labels) operand others) typed))

  -- ---- and is closed

  mutual
    stmt_typed_closed : (labels : List LabelScope) → AllDiffer labels → (s : Stmt) → stmt_typed (within labels) s ≡ true → stmt_closed labels s ≡ true
    stmt_typed_closed labels differ (Assign p e) typed = refl
    stmt_typed_closed labels differ (Eval e) typed = refl
    stmt_typed_closed labels differ (CopyBytes source target count) typed = refl
    stmt_typed_closed labels differ (If condition if_true if_false) typed =
        let condition_is = is_of_type Boolean (kind_of scope condition) in
        let both = and_left (condition_is && stmts_typed (within labels) if_true) (stmts_typed (within labels) if_false) typed in
        and_both (stmts_closed labels if_true) (stmts_closed labels if_false)
        (typed_closed labels differ if_true (and_right condition_is (stmts_typed (within labels) if_true) both))
        (typed_closed labels differ if_false (and_right (condition_is && stmts_typed (within labels) if_true) (stmts_typed (within labels) if_false) typed))
    stmt_typed_closed labels differ (Loop None body) typed = typed_closed labels differ body typed
    stmt_typed_closed labels differ (Loop (Some label) body) typed =
        typed_closed (of_loop label ∷ labels) (not_true (list_any (is_named label) labels) (and_left (is_new_label (within labels) label) (stmts_typed (within (of_loop label ∷ labels)) body) typed), differ) body
        (and_right (is_new_label (within labels) label) (stmts_typed (within (of_loop label ∷ labels)) body) typed)
    stmt_typed_closed labels differ (Block label body) typed =
        typed_closed (of_block label ∷ labels) (not_true (list_any (is_named label) labels) (and_left (is_new_label (within labels) label) (stmts_typed (within (of_block label ∷ labels)) body) typed), differ) body
        (and_right (is_new_label (within labels) label) (stmts_typed (within (of_block label ∷ labels)) body) typed)
    stmt_typed_closed labels differ (Break label) typed = label_bound labels label typed
    stmt_typed_closed labels differ (Continue label) typed = loop_label labels label differ typed
    stmt_typed_closed labels differ (Match e cases other) typed =
        let operand = own_type (kind_of scope e) in
        let both = and_left (is_matched operand && arms_typed (within labels) operand cases) (stmts_typed (within labels) other) typed in
        and_both (arms_closed labels cases) (stmts_closed labels other)
        (arms_typed_closed labels differ operand cases (and_right (is_matched operand) (arms_typed (within labels) operand cases) both))
        (typed_closed labels differ other (and_right (is_matched operand && arms_typed (within labels) operand cases) (stmts_typed (within labels) other) typed))
    stmt_typed_closed labels differ (Return value) typed = refl

    pub typed_closed : (labels : List LabelScope) → AllDiffer labels → (ss : Stmts) → stmts_typed (within labels) ss ≡ true → stmts_closed labels ss ≡ true
    typed_closed labels differ no_stmts typed = refl
    typed_closed labels differ (more_stmts s ss) typed =
        and_both (stmt_closed labels s) (stmts_closed labels ss) (stmt_typed_closed labels differ s (and_left (stmt_typed (within labels) s) (stmts_typed (within labels) ss) typed))
        (typed_closed labels differ ss (and_right (stmt_typed (within labels) s) (stmts_typed (within labels) ss) typed))

    arms_typed_closed : (labels : List LabelScope) → AllDiffer labels → (operand : Option Ty) (cases : Arms) → arms_typed (within labels) operand cases ≡ true → arms_closed labels cases ≡ true
    arms_typed_closed labels differ operand no_arms typed = refl
    arms_typed_closed labels differ operand (more_arms (LiteralArm value ty body) others) typed =
        let head = matches operand value ty && arm_differs value others in
        let front = and_left (head && stmts_typed (within labels) body) (arms_typed (within labels) operand others) typed in
        and_both (stmts_closed labels body) (arms_closed labels others)
        (typed_closed labels differ body (and_right head (stmts_typed (within labels) body) front))
        (arms_typed_closed labels differ operand others (and_right (head && stmts_typed (within labels) body) (arms_typed (within labels) operand others) typed))

-- ---- labels by depth

-- the labels around, by depth
abbrev pub by_depth : List LabelScope → List LabelScope
by_depth [] = []
by_depth (one ∷ others) = record { name = label_of (length (names others)); is_loop = one.is_loop } ∷ by_depth others

-- a label of a greater number isn't among them
new_label : (around : List LabelScope) (number : ℕ) → length (names around) < suc number → list_any (is_named (label_of number)) (by_depth around) ≡ false
new_label [] number less = refl
new_label (one ∷ others) number less =
    both_false (bytes_eq (label_of (length (names others))) (label_of number)) (list_any (is_named (label_of number)) (by_depth others))
    (told_apart (length (names others)) number (λ same. absurd (omega (arith, less, same)))) (new_label others number (omega (arith, less)))
  where
    both_false : (a b : Bool) → a ≡ false → b ≡ false → ((a && true) || b) ≡ false
    both_false false false is so = refl
    both_false false true is so = absurd cc
    both_false true b is so = absurd cc

bound_there : (around : List LabelScope) (label : List ℕ) → is_bound around label ≡ true → list_any (is_named (numbered_label (names around) label)) (by_depth around) ≡ true
bound_there [] label is = absurd cc
bound_there (one ∷ others) label is = by_test (bytes_eq one.name label) is (bound_there others label)
  where
    by_test : (test : Bool) → (if test then true else is_bound others label) ≡ true → (is_bound others label ≡ true → list_any (is_named (numbered_label (names others) label)) (by_depth others) ≡ true) →
        list_any (is_named (if test then label_of (length (names others)) else numbered_label (names others) label)) (by_depth (one ∷ others)) ≡ true
    by_test true is rest = ap (λ (test : Bool). (test && true) || list_any (is_named (label_of (length (names others)))) (by_depth others)) (same_label (label_of (length (names others))))
    by_test false is rest =
        later (bytes_eq (label_of (length (names others))) (numbered_label (names others) label) && true) (list_any (is_named (numbered_label (names others) label)) (by_depth others)) (rest is)
      where
        later : (a b : Bool) → b ≡ true → (a || b) ≡ true
        later true b is = refl
        later false b is = is

abbrev is_loop_named : List ℕ → LabelScope → Bool
is_loop_named name label = bytes_eq label.name name && label.is_loop

loop_there : (around : List LabelScope) (label : List ℕ) → is_loop_label around label ≡ true → list_any (is_loop_named (numbered_label (names around) label)) (by_depth around) ≡ true
loop_there [] label is = absurd cc
loop_there (one ∷ others) label is = by_test (bytes_eq one.name label) is (loop_there others label)
  where
    by_test : (test : Bool) → (if test then one.is_loop else is_loop_label others label) ≡ true →
        (is_loop_label others label ≡ true → list_any (is_loop_named (numbered_label (names others) label)) (by_depth others) ≡ true) →
        list_any (is_loop_named (if test then label_of (length (names others)) else numbered_label (names others) label)) (by_depth (one ∷ others)) ≡ true
    by_test true is rest =
        ap (λ (test : Bool). (test && one.is_loop) || list_any (is_loop_named (label_of (length (names others)))) (by_depth others)) (same_label (label_of (length (names others))))
        ∙ ap (λ (loop : Bool). loop || list_any (is_loop_named (label_of (length (names others)))) (by_depth others)) is
    by_test false is rest =
        later (bytes_eq (label_of (length (names others))) (numbered_label (names others) label) && one.is_loop) (list_any (is_loop_named (numbered_label (names others) label)) (by_depth others)) (rest is)
      where
        later : (a b : Bool) → b ≡ true → (a || b) ≡ true
        later true b is = refl
        later false b is = is

not_false : (test : Bool) → test ≡ false → not test ≡ true
not_false true is = absurd cc
not_false false is = refl

arm_differs_named : (around : List (List ℕ)) (value : ℤ) (cases : Arms) → arm_differs value (numbered_arms around cases) ≡ arm_differs value cases
arm_differs_named around value no_arms = refl
arm_differs_named around value (more_arms (LiteralArm other ty body) others) = ap (λ (rest : Bool). not (int_eq value other) && rest) (arm_differs_named around value others)

module _ (scope : Scope) (result : Option Ty) where
  -- with labels by depth what fits and is closed is well typed
  abbrev Named : List LabelScope → Stmts → Bool
  Named around ss = stmts_typed (within scope result (by_depth around)) (numbered (names around) ss)

  mutual
    stmt_named_typed : (around : List LabelScope) (s : Stmt) → stmt_fits scope result s ≡ true → stmt_closed around s ≡ true → stmt_typed (within scope result (by_depth around)) (numbered_stmt (names around) s) ≡ true
    stmt_named_typed around (Assign p e) fits closed = fits
    stmt_named_typed around (Eval e) fits closed = fits
    stmt_named_typed around (CopyBytes source target count) fits closed = fits
    stmt_named_typed around (If condition if_true if_false) fits closed =
        let condition_is = is_of_type Boolean (kind_of scope condition) in
        let both = and_left (condition_is && stmts_fit scope result if_true) (stmts_fit scope result if_false) fits in
        and_both (condition_is && Named around if_true) (Named around if_false)
        (and_both condition_is (Named around if_true) (and_left condition_is (stmts_fit scope result if_true) both)
        (named_typed around if_true (and_right condition_is (stmts_fit scope result if_true) both) (and_left (stmts_closed around if_true) (stmts_closed around if_false) closed)))
        (named_typed around if_false (and_right (condition_is && stmts_fit scope result if_true) (stmts_fit scope result if_false) fits)
        (and_right (stmts_closed around if_true) (stmts_closed around if_false) closed))
    stmt_named_typed around (Loop None body) fits closed = named_typed around body fits closed
    stmt_named_typed around (Loop (Some label) body) fits closed =
        and_both (not (list_any (is_named (label_of (length (names around)))) (by_depth around))) (Named (of_loop label ∷ around) body)
        (not_false (list_any (is_named (label_of (length (names around)))) (by_depth around)) (new_label around (length (names around)) (omega arith))) (named_typed (of_loop label ∷ around) body fits closed)
    stmt_named_typed around (Block label body) fits closed =
        and_both (not (list_any (is_named (label_of (length (names around)))) (by_depth around))) (Named (of_block label ∷ around) body)
        (not_false (list_any (is_named (label_of (length (names around)))) (by_depth around)) (new_label around (length (names around)) (omega arith))) (named_typed (of_block label ∷ around) body fits closed)
    stmt_named_typed around (Break label) fits closed = bound_there around label closed
    stmt_named_typed around (Continue label) fits closed = loop_there around label closed
    stmt_named_typed around (Match e cases other) fits closed =
        let operand = own_type (kind_of scope e) in
        let both = and_left (is_matched operand && arms_fit scope result operand cases) (stmts_fit scope result other) fits in
        and_both (is_matched operand && arms_typed (within scope result (by_depth around)) operand (numbered_arms (names around) cases)) (Named around other)
        (and_both (is_matched operand) (arms_typed (within scope result (by_depth around)) operand (numbered_arms (names around) cases))
        (and_left (is_matched operand) (arms_fit scope result operand cases) both)
        (arms_named_typed around operand cases (and_right (is_matched operand) (arms_fit scope result operand cases) both) (and_left (arms_closed around cases) (stmts_closed around other) closed)))
        (named_typed around other (and_right (is_matched operand && arms_fit scope result operand cases) (stmts_fit scope result other) fits)
        (and_right (arms_closed around cases) (stmts_closed around other) closed))
    stmt_named_typed around (Return value) fits closed = fits

    pub named_typed : (around : List LabelScope) (ss : Stmts) → stmts_fit scope result ss ≡ true → stmts_closed around ss ≡ true → stmts_typed (within scope result (by_depth around)) (numbered (names around) ss) ≡ true
    named_typed around no_stmts fits closed = refl
    named_typed around (more_stmts s ss) fits closed =
        and_both (stmt_typed (within scope result (by_depth around)) (numbered_stmt (names around) s)) (Named around ss)
        (stmt_named_typed around s (and_left (stmt_fits scope result s) (stmts_fit scope result ss) fits) (and_left (stmt_closed around s) (stmts_closed around ss) closed))
        (named_typed around ss (and_right (stmt_fits scope result s) (stmts_fit scope result ss) fits) (and_right (stmt_closed around s) (stmts_closed around ss) closed))

    arms_named_typed : (around : List LabelScope) (operand : Option Ty) (cases : Arms) → arms_fit scope result operand cases ≡ true → arms_closed around cases ≡ true →
        arms_typed (within scope result (by_depth around)) operand (numbered_arms (names around) cases) ≡ true
    arms_named_typed around operand no_arms fits closed = refl
    arms_named_typed around operand (more_arms (LiteralArm value ty body) others) fits closed =
        let head = matches operand value ty && arm_differs value others in
        let named_head = matches operand value ty && arm_differs value (numbered_arms (names around) others) in
        let front = and_left (head && stmts_fit scope result body) (arms_fit scope result operand others) fits in
        let own = and_left head (stmts_fit scope result body) front in
        and_both (named_head && Named around body) (arms_typed (within scope result (by_depth around)) operand (numbered_arms (names around) others))
        (and_both named_head (Named around body) (ap (λ (rest : Bool). matches operand value ty && rest) (arm_differs_named (names around) value others) ∙ own)
        (named_typed around body (and_right head (stmts_fit scope result body) front) (and_left (stmts_closed around body) (arms_closed around others) closed)))
        (arms_named_typed around operand others (and_right (head && stmts_fit scope result body) (arms_fit scope result operand others) fits) (and_right (stmts_closed around body) (arms_closed around others) closed))
