-- The text of nests is closed where the statements of the nodes are.
use Rattle.std.proofs.Common.{◌≡◌, ℕ, Bool, true, false, ◌&&◌, pos, List, [], ◌∷◌, Option, Some, None, bytes_eq, if◌then◌else◌, refl, sym, subst}
use Rattle.std.specs.Cmp.Lexicographic.{same_text}
use Rattle.std.specs.Prelude.{⊤}
use Rattle.reloop.specs.Graphs.{is_in}
use Rattle.reloop.proofs.Sets.{or_left, or_right, not_both}
use Rattle.rs_text.specs.declared.integer.IntegerTy.{IntegerTy}
use Rattle.rs_text.specs.declared.integer.IntegerTy.TheVariants.{U32}
use Rattle.rs_text.specs.Tree.{Expr, Read, Stmt, Assign, Eval, CopyBytes, If, Loop, Block, Break, Continue, Match, Return, Stmts, no_stmts, more_stmts, LiteralArm, Arms, no_arms, more_arms}
use Rattle.rs_mean.specs.Laws.{behind}
use Rattle.rs_mean.specs.Typing.{LabelScope}
use Rattle.rs_mean_ends.specs.Ways.{goes, stmts_end, stmt_names, stmts_name, arms_name}
use Rattle.flow.specs.Flows.{CaseTree, BranchTree, go, if_test, switch, gives, NodeTree, FlowTree, node_at}
use Rattle.emit_rules.specs.Bodies.{node_stmts}
use Rattle.emit_rules.specs.Jumps.{label_of, current_block}
use Rattle.emit_rules.specs.Texts.{one_stmt, negated, if_of, case_arms, first_text, other_text, head_arms, branch_stmts}
use Rattle.emit_laws.specs.Closed.{is_bound, is_loop_label, of_loop, of_block, stmt_closed, stmts_closed, arms_closed}
use Rattle.emit_laws.proofs.Closing.{and_left, and_right, and_both}
use Rattle.emit_laws.proofs.Keeping.{AllGood, IsKept}
use Rattle.emit_laws.proofs.Turns.{same_label}

-- ---- statements made from others

module _ (around : List LabelScope) where
  abbrev pub Closed : Stmts → Type 0
  Closed ss = stmts_closed around ss ≡ true

  abbrev pub AllClosed : List Stmts → Type 0
  AllClosed [] = ⊤
  AllClosed (text ∷ texts) = Closed text × AllClosed texts

  behind_closed : (first others : Stmts) → Closed first → Closed others → Closed (behind first others)
  behind_closed no_stmts others one other = other
  behind_closed (more_stmts s ss) others one other =
      and_both (stmt_closed around s) (stmts_closed around (behind ss others)) (and_left (stmt_closed around s) (stmts_closed around ss) one)
      (behind_closed ss others (and_right (stmt_closed around s) (stmts_closed around ss) one) other)

  one_closed : (s : Stmt) → stmt_closed around s ≡ true → Closed (one_stmt s)
  one_closed s is = and_both (stmt_closed around s) true is refl

  if_closed : (condition : Expr) (a b : Stmts) → Closed a → Closed b → Closed (if_of condition a b)
  if_closed condition no_stmts no_stmts one other = refl
  if_closed condition no_stmts (more_stmts s ss) one other = and_both (stmts_closed around (more_stmts s ss) && true) true (and_both (stmts_closed around (more_stmts s ss)) true other refl) refl
  if_closed condition (more_stmts s ss) no_stmts one other = and_both (stmts_closed around (more_stmts s ss) && true) true (and_both (stmts_closed around (more_stmts s ss)) true one refl) refl
  if_closed condition (more_stmts s ss) (more_stmts t ts) one other = by_ends (stmts_end (more_stmts s ss) goes) (stmts_end (more_stmts t ts) goes)
    where
      by_ends : (first second : Bool) →
          Closed (if first then (if second then one_stmt (If condition (more_stmts s ss) (more_stmts t ts)) else more_stmts (If (negated condition) (more_stmts t ts) no_stmts) (more_stmts s ss))
          else more_stmts (If condition (more_stmts s ss) no_stmts) (more_stmts t ts))
      by_ends true true = one_closed (If condition (more_stmts s ss) (more_stmts t ts)) (and_both (stmts_closed around (more_stmts s ss)) (stmts_closed around (more_stmts t ts)) one other)
      by_ends true false = and_both (stmts_closed around (more_stmts t ts) && true) (stmts_closed around (more_stmts s ss)) (and_both (stmts_closed around (more_stmts t ts)) true other refl) one
      by_ends false second = and_both (stmts_closed around (more_stmts s ss) && true) (stmts_closed around (more_stmts t ts)) (and_both (stmts_closed around (more_stmts s ss)) true one refl) other

  first_closed : (texts : List Stmts) → AllClosed texts → Closed (first_text texts)
  first_closed [] all = refl
  first_closed (text ∷ texts) all = all.0

  cases_closed : (by : IntegerTy) (cases : List CaseTree) (texts : List Stmts) → AllClosed texts → arms_closed around (case_arms by cases texts) ≡ true
  cases_closed by [] texts all = refl
  cases_closed by (one ∷ others) [] all = refl
  cases_closed by (one ∷ others) (text ∷ texts) all = and_both (stmts_closed around text) (arms_closed around (case_arms by others texts)) all.0 (cases_closed by others texts all.1)

  other_closed : (cases : List CaseTree) (texts : List Stmts) → AllClosed texts → Closed (other_text cases texts)
  other_closed [] texts all = first_closed texts all
  other_closed (one ∷ others) [] all = refl
  other_closed (one ∷ others) (text ∷ texts) all = other_closed others texts all.1

  heads_closed : (earlier heads : List ℕ) (texts : List Stmts) → AllClosed texts → arms_closed around (head_arms earlier heads texts) ≡ true
  heads_closed earlier [] texts all = refl
  heads_closed earlier (head ∷ heads) [] all = refl
  heads_closed earlier (head ∷ heads) (text ∷ texts) all = by_test (is_in head earlier) (heads_closed earlier heads texts all.1) (heads_closed (head ∷ earlier) heads texts all.1)
    where
      by_test : (gone : Bool) → arms_closed around (head_arms earlier heads texts) ≡ true → arms_closed around (head_arms (head ∷ earlier) heads texts) ≡ true →
          arms_closed around (if gone then head_arms earlier heads texts else more_arms (LiteralArm (pos head) U32 text) (head_arms (head ∷ earlier) heads texts)) ≡ true
      by_test true one other = one
      by_test false one other = and_both (stmts_closed around text) (arms_closed around (head_arms (head ∷ earlier) heads texts)) all.0 other

  branch_closed : (last : BranchTree) (texts : List Stmts) → AllClosed texts → Closed (branch_stmts last texts)
  branch_closed (go to) texts all = first_closed texts all
  branch_closed (if_test test if_true if_false) [] all = refl
  branch_closed (if_test test if_true if_false) (text ∷ texts) all = if_closed test text (first_text texts) all.0 (first_closed texts all.1)
  branch_closed (switch choices) texts all =
      one_closed (Match choices.on (case_arms choices.by choices.cases texts) (other_text choices.cases texts)) (and_both (arms_closed around (case_arms choices.by choices.cases texts)) (stmts_closed around (other_text choices.cases texts)) (cases_closed choices.by choices.cases texts all)
      (other_closed choices.cases texts all))
  branch_closed (gives value) texts all = refl

-- ---- other labels around

abbrev Follows : List LabelScope → List LabelScope → List ℕ → Type 0
Follows one other label = (is_bound one label ≡ true → is_bound other label ≡ true) × (is_loop_label one label ≡ true → is_loop_label other label ≡ true)

follows_within : (one other : List LabelScope) (inner : LabelScope) (label : List ℕ) → Follows one other label → Follows (inner ∷ one) (inner ∷ other) label
follows_within one other inner label follows = (by_bound (bytes_eq inner.name label), by_loop (bytes_eq inner.name label))
  where
    by_bound : (test : Bool) → (if test then true else is_bound one label) ≡ true → (if test then true else is_bound other label) ≡ true
    by_bound true is = refl
    by_bound false is = follows.0 is

    by_loop : (test : Bool) → (if test then inner.is_loop else is_loop_label one label) ≡ true → (if test then inner.is_loop else is_loop_label other label) ≡ true
    by_loop true is = is
    by_loop false is = follows.1 is

mutual
  -- what is closed is so where the labels that it names are around
  stmt_follows : (one other : List LabelScope) (s : Stmt) → ((label : List ℕ) → stmt_names label s ≡ true → Follows one other label) → stmt_closed one s ≡ true → stmt_closed other s ≡ true
  stmt_follows one other (Assign p e) follows closed = refl
  stmt_follows one other (Eval e) follows closed = refl
  stmt_follows one other (CopyBytes source target count) follows closed = refl
  stmt_follows one other (If condition if_true if_false) follows closed =
      and_both (stmts_closed other if_true) (stmts_closed other if_false)
      (stmts_follow one other if_true (λ label is. follows label (or_left (stmts_name label if_true) (stmts_name label if_false) is)) (and_left (stmts_closed one if_true) (stmts_closed one if_false) closed))
      (stmts_follow one other if_false (λ label is. follows label (or_right (stmts_name label if_true) (stmts_name label if_false) is)) (and_right (stmts_closed one if_true) (stmts_closed one if_false) closed))
  stmt_follows one other (Loop None body) follows closed = stmts_follow one other body follows closed
  stmt_follows one other (Loop (Some inner) body) follows closed =
      stmts_follow (of_loop inner ∷ one) (of_loop inner ∷ other) body (λ label is. follows_within one other (of_loop inner) label (follows label is)) closed
  stmt_follows one other (Block inner body) follows closed =
      stmts_follow (of_block inner ∷ one) (of_block inner ∷ other) body (λ label is. follows_within one other (of_block inner) label (follows label is)) closed
  stmt_follows one other (Break label) follows closed = (follows label (same_label label)).0 closed
  stmt_follows one other (Continue label) follows closed = (follows label (same_label label)).1 closed
  stmt_follows one other (Match e cases rest) follows closed =
      and_both (arms_closed other cases) (stmts_closed other rest)
      (arms_follow one other cases (λ label is. follows label (or_left (arms_name label cases) (stmts_name label rest) is)) (and_left (arms_closed one cases) (stmts_closed one rest) closed))
      (stmts_follow one other rest (λ label is. follows label (or_right (arms_name label cases) (stmts_name label rest) is)) (and_right (arms_closed one cases) (stmts_closed one rest) closed))
  stmt_follows one other (Return value) follows closed = refl

  pub stmts_follow : (one other : List LabelScope) (ss : Stmts) → ((label : List ℕ) → stmts_name label ss ≡ true → Follows one other label) → stmts_closed one ss ≡ true → stmts_closed other ss ≡ true
  stmts_follow one other no_stmts follows closed = refl
  stmts_follow one other (more_stmts s ss) follows closed =
      and_both (stmt_closed other s) (stmts_closed other ss)
      (stmt_follows one other s (λ label is. follows label (or_left (stmt_names label s) (stmts_name label ss) is)) (and_left (stmt_closed one s) (stmts_closed one ss) closed))
      (stmts_follow one other ss (λ label is. follows label (or_right (stmt_names label s) (stmts_name label ss) is)) (and_right (stmt_closed one s) (stmts_closed one ss) closed))

  arms_follow : (one other : List LabelScope) (cases : Arms) → ((label : List ℕ) → arms_name label cases ≡ true → Follows one other label) → arms_closed one cases ≡ true → arms_closed other cases ≡ true
  arms_follow one other no_arms follows closed = refl
  arms_follow one other (more_arms (LiteralArm value ty body) others) follows closed =
      and_both (stmts_closed other body) (arms_closed other others)
      (stmts_follow one other body (λ label is. follows label (or_left (stmts_name label body) (arms_name label others) is)) (and_left (stmts_closed one body) (arms_closed one others) closed))
      (arms_follow one other others (λ label is. follows label (or_right (stmts_name label body) (arms_name label others) is)) (and_right (stmts_closed one body) (arms_closed one others) closed))

-- without labels around, and within any
closed_anywhere : (around : List LabelScope) (ss : Stmts) → stmts_closed [] ss ≡ true → stmts_closed around ss ≡ true
closed_anywhere around ss closed = stmts_follow [] around ss (λ label is. (λ bound. absurd cc, λ loop. absurd cc)) closed

-- without a label that isn't named
closed_unnamed : (around : List LabelScope) (inner : LabelScope) (ss : Stmts) → stmts_name inner.name ss ≡ false → stmts_closed (inner ∷ around) ss ≡ true → stmts_closed around ss ≡ true
closed_unnamed around inner ss unnamed closed = stmts_follow (inner ∷ around) around ss follows closed
  where
    follows : (label : List ℕ) → stmts_name label ss ≡ true → Follows (inner ∷ around) around label
    follows label named = (by_bound (bytes_eq inner.name label) refl, by_loop (bytes_eq inner.name label) refl)
      where
        differ : bytes_eq inner.name label ≡ true → ⊥
        differ same = not_both (stmts_name label ss) named (subst (λ (one : List ℕ). stmts_name one ss ≡ false) (same_text inner.name label (sym same)) unnamed)

        by_bound : (test : Bool) → bytes_eq inner.name label ≡ test → (if test then true else is_bound around label) ≡ true → is_bound around label ≡ true
        by_bound true same is = absurd (differ same)
        by_bound false same is = is

        by_loop : (test : Bool) → bytes_eq inner.name label ≡ test → (if test then inner.is_loop else is_loop_label around label) ≡ true → is_loop_label around label ≡ true
        by_loop true same is = absurd (differ same)
        by_loop false same is = is

-- ---- the text of nests

module _ (flow : FlowTree) (nodes : (number : ℕ) (node : NodeTree) → node_at flow number ≡ Some node → stmts_closed [] node.body ≡ true) where
  abbrev Any : ℕ → Type 0
  Any node = ⊤

  all_closed : (around : List LabelScope) (texts : List Stmts) → AllGood flow Closed Any ⊤ ⊤ around texts → AllClosed around texts
  all_closed around [] all = tt
  all_closed around (text ∷ texts) all = (all.0, all_closed around texts all.1)

  node_closed : (around : List LabelScope) (found : Option NodeTree) → ((node : NodeTree) → found ≡ Some node → stmts_closed [] node.body ≡ true) → (texts : List Stmts) → AllClosed around texts →
      Closed around (node_stmts found texts)
  node_closed around None closed texts all = refl
  node_closed around (Some node) closed texts all =
      behind_closed around node.body (branch_stmts node.last texts) (closed_anywhere around node.body (closed node refl)) (branch_closed around node.last texts all)

  jump_closed : (around : List LabelScope) (label : List ℕ) (turns : Bool) → (if turns then is_loop_label around label else is_bound around label) ≡ true →
      Closed around (one_stmt (if turns then Continue label else Break label))
  jump_closed around label true is = and_both (is_loop_label around label) true is refl
  jump_closed around label false is = and_both (is_bound around label) true is refl

  block_closed : (around : List LabelScope) (label : List ℕ) (body rest : Stmts) → Closed (of_block label ∷ around) body → Closed around rest → (named : Bool) → stmts_name label body ≡ named →
      Closed around (if named then more_stmts (Block label body) rest else behind body rest)
  block_closed around label body rest one other true is = and_both (stmts_closed (of_block label ∷ around) body) (stmts_closed around rest) one other
  block_closed around label body rest one other false is = behind_closed around body rest (closed_unnamed around (of_block label) body is one) other

  loop_closed : (around : List LabelScope) (label : List ℕ) (body : Stmts) → Closed (of_loop label ∷ around) body → (named : Bool) → stmts_name label body ≡ named →
      Closed around (one_stmt (Loop (if named then Some label else None) body))
  loop_closed around label body closed true is = one_closed around (Loop (Some label) body) closed
  loop_closed around label body closed false is = one_closed around (Loop None body) (closed_unnamed around (of_loop label) body is closed)

  pub closed_kept : IsKept flow Closed Any ⊤ ⊤
  closed_kept = record {
    nothing = λ around. refl;
    node = λ around number texts all. node_closed around (node_at flow number) (nodes number) texts (all_closed around texts all);
    choice = λ around heads texts asked all.
        one_closed around (Match (Read current_block) (head_arms [] heads texts) no_stmts) (and_both (arms_closed around (head_arms [] heads texts)) true (heads_closed around [] heads texts (all_closed around texts all)) refl);
    tells = λ around node text tells may closed. closed;
    jumps = λ around jump is. jump_closed around (label_of jump.label) jump.turns is;
    block = λ around label body rest one other. block_closed around (label_of label) body rest one other (stmts_name (label_of label) body) refl;
    loop = λ around label body rounds closed. loop_closed around (label_of label) body closed (stmts_name (label_of label) body) refl;
  }
