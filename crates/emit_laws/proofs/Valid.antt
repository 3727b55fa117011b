-- The text of nests is valid where nodes and branches are.
use Rattle.std.proofs.Common.{◌≡◌, ◌∙◌, ℕ, ◌^◌, ◌<◌, ◌≤◌, ◌==◌, Bool, true, false, ◌&&◌, ℤ, pos, List, [], ◌∷◌, length, Option, Some, None, if◌then◌else◌, arith, refl, ap}
use Rattle.std.proofs.lemmas.Bool.Decides.{nat_tests}
use Rattle.std.specs.Prelude.{⊤}
use Rattle.reloop.specs.Fits.{IsFit}
use Rattle.reloop.specs.Graphs.{is_in, IsIn}
use Rattle.reloop.specs.Shapes.{ShapeTree, has_dispatch, goes_round}
use Rattle.reloop.proofs.Sets.{or_left, or_right, equal_itself}
use Rattle.rs_text.specs.declared.integer.IntegerTy.{IntegerTy}
use Rattle.rs_text.specs.declared.integer.IntegerTy.TheVariants.{U32}
use Rattle.rs_text.specs.declared.operator.Operator.{Operator}
use Rattle.rs_text.specs.declared.operator.Operator.TheVariants.{Add, Sub, Mul, Div, Rem, BitAnd, BitOr, BitXor, Shl, Shr, Equal, NotEqual, Less, LessEqual, Greater, GreaterEqual}
use Rattle.rs_text.specs.Forms.{is_call}
use Rattle.rs_text.specs.Names.{path_words, keywords, is_label}
use Rattle.rs_text.specs.Tree.{Expr, Literal, Truth, NoFunction, Read, Call, CallBy, Wrapped, WrappingNeg, Offset, OffsetFrom, IsNull, IsNone, AddressOf, NullPointer, SomeFunction, Transmute, Neg, Not, Cast, Binary, And, Or, Choose, Stmt, Assign, Eval, CopyBytes, If, Loop, Block, Break, Continue, Match, Return, Stmts, no_stmts, more_stmts, LiteralArm, Arms, no_arms, more_arms}
use Rattle.rs_text.specs.Valid.{is_value, valid_place, valid_expr, valid_label, valid_returned, valid_stmt, valid_stmts, valid_arms}
use Rattle.rs_mean.specs.Laws.{behind}
use Rattle.rs_mean.specs.Typing.{LabelScope}
use Rattle.rs_mean_ends.specs.Ways.{goes, stmts_end, stmts_name}
use Rattle.flow.specs.Flows.{CaseTree, BranchTree, go, if_test, switch, gives, NodeTree, FlowTree, node_at, graph_of}
use Rattle.emit_rules.specs.Bodies.{node_stmts, draft_of, emitted, without_return, without_last_return}
use Rattle.emit_rules.specs.Jumps.{label_of, current_block}
use Rattle.emit_rules.specs.Labels.{numbered_label, numbered_stmt, numbered, numbered_arms}
use Rattle.emit_rules.specs.Sorting.{nests_of}
use Rattle.emit_rules.specs.Texts.{one_stmt, opposite, compared_by, negated, if_of, case_arms, first_text, other_text, head_arms, branch_stmts}
use Rattle.emit_laws.specs.Closed.{is_bound, of_loop, of_block, stmt_closed, stmts_closed, arms_closed}
use Rattle.emit_laws.specs.LawsText.{NodesClosed}
use Rattle.emit_laws.specs.LawsValid.{cases_valid, branch_valid, NodesValid, TextValid}
use Rattle.emit_laws.proofs.Closing.{and_left, and_right, and_both}
use Rattle.emit_laws.proofs.Keeping.{AllGood, IsKept, draft_good}
use Rattle.emit_laws.proofs.Labels.{label_is}
use Rattle.emit_laws.proofs.Numbering.{names, bound_number, loop_bound}
use Rattle.emit_laws.proofs.Shaped.{entry_less, target_less, nests_asked}
use Rattle.emit_laws.proofs.Written.{draft_closed}

-- ---- statements that are valid but for their labels

abbrev mutual
  stmt_sound : Stmt → Bool
  stmt_sound (Assign place value) = valid_place place && valid_expr value
  stmt_sound (Eval value) = is_call value && valid_expr value
  stmt_sound (CopyBytes source target count) = valid_expr source && valid_expr target && valid_expr count
  stmt_sound (If condition if_true if_false) = valid_expr condition && stmts_sound if_true && stmts_sound if_false
  stmt_sound (Loop label body) = stmts_sound body
  stmt_sound (Block label body) = stmts_sound body
  stmt_sound (Break label) = true
  stmt_sound (Continue label) = true
  stmt_sound (Match value cases other) = valid_expr value && arms_sound cases && stmts_sound other
  stmt_sound (Return value) = valid_returned value

  stmts_sound : Stmts → Bool
  stmts_sound no_stmts = true
  stmts_sound (more_stmts s ss) = stmt_sound s && stmts_sound ss

  arms_sound : Arms → Bool
  arms_sound no_arms = true
  arms_sound (more_arms (LiteralArm value ty body) others) = (is_value value && stmts_sound body) && arms_sound others

mutual
  stmt_valid_sound : (s : Stmt) → valid_stmt s ≡ true → stmt_sound s ≡ true
  stmt_valid_sound (Assign place value) valid = valid
  stmt_valid_sound (Eval value) valid = valid
  stmt_valid_sound (CopyBytes source target count) valid = valid
  stmt_valid_sound (If condition if_true if_false) valid =
      let both = and_left (valid_expr condition && valid_stmts if_true) (valid_stmts if_false) valid in
      and_both (valid_expr condition && stmts_sound if_true) (stmts_sound if_false)
      (and_both (valid_expr condition) (stmts_sound if_true) (and_left (valid_expr condition) (valid_stmts if_true) both) (valid_sound if_true (and_right (valid_expr condition) (valid_stmts if_true) both)))
      (valid_sound if_false (and_right (valid_expr condition && valid_stmts if_true) (valid_stmts if_false) valid))
  stmt_valid_sound (Loop label body) valid = valid_sound body (and_right (valid_label label) (valid_stmts body) valid)
  stmt_valid_sound (Block label body) valid = valid_sound body (and_right (is_label label) (valid_stmts body) valid)
  stmt_valid_sound (Break label) valid = refl
  stmt_valid_sound (Continue label) valid = refl
  stmt_valid_sound (Match value cases other) valid =
      let both = and_left (valid_expr value && valid_arms cases) (valid_stmts other) valid in
      and_both (valid_expr value && arms_sound cases) (stmts_sound other)
      (and_both (valid_expr value) (arms_sound cases) (and_left (valid_expr value) (valid_arms cases) both) (arms_valid_sound cases (and_right (valid_expr value) (valid_arms cases) both)))
      (valid_sound other (and_right (valid_expr value && valid_arms cases) (valid_stmts other) valid))
  stmt_valid_sound (Return value) valid = valid

  valid_sound : (ss : Stmts) → valid_stmts ss ≡ true → stmts_sound ss ≡ true
  valid_sound no_stmts valid = refl
  valid_sound (more_stmts s ss) valid =
      and_both (stmt_sound s) (stmts_sound ss) (stmt_valid_sound s (and_left (valid_stmt s) (valid_stmts ss) valid)) (valid_sound ss (and_right (valid_stmt s) (valid_stmts ss) valid))

  arms_valid_sound : (cases : Arms) → valid_arms cases ≡ true → arms_sound cases ≡ true
  arms_valid_sound no_arms valid = refl
  arms_valid_sound (more_arms (LiteralArm value ty body) others) valid =
      let one = and_left (is_value value && valid_stmts body) (valid_arms others) valid in
      and_both (is_value value && stmts_sound body) (arms_sound others)
      (and_both (is_value value) (stmts_sound body) (and_left (is_value value) (valid_stmts body) one) (valid_sound body (and_right (is_value value) (valid_stmts body) one)))
      (arms_valid_sound others (and_right (is_value value && valid_stmts body) (valid_arms others) valid))

-- ---- with labels by depth

bound_label : (around : List LabelScope) (label : List ℕ) → is_bound around label ≡ true → is_label (numbered_label (names around) label) ≡ true
bound_label around label is = let found = bound_number around label is in ap is_label found.is ∙ label_is found.number

mutual
  stmt_named_valid : (around : List LabelScope) (s : Stmt) → stmt_sound s ≡ true → stmt_closed around s ≡ true → valid_stmt (numbered_stmt (names around) s) ≡ true
  stmt_named_valid around (Assign place value) sound closed = sound
  stmt_named_valid around (Eval value) sound closed = sound
  stmt_named_valid around (CopyBytes source target count) sound closed = sound
  stmt_named_valid around (If condition if_true if_false) sound closed =
      let both = and_left (valid_expr condition && stmts_sound if_true) (stmts_sound if_false) sound in
      and_both (valid_expr condition && valid_stmts (numbered (names around) if_true)) (valid_stmts (numbered (names around) if_false))
      (and_both (valid_expr condition) (valid_stmts (numbered (names around) if_true)) (and_left (valid_expr condition) (stmts_sound if_true) both)
      (named_valid around if_true (and_right (valid_expr condition) (stmts_sound if_true) both) (and_left (stmts_closed around if_true) (stmts_closed around if_false) closed)))
      (named_valid around if_false (and_right (valid_expr condition && stmts_sound if_true) (stmts_sound if_false) sound) (and_right (stmts_closed around if_true) (stmts_closed around if_false) closed))
  stmt_named_valid around (Loop None body) sound closed = named_valid around body sound closed
  stmt_named_valid around (Loop (Some label) body) sound closed =
      and_both (is_label (label_of (length (names around)))) (valid_stmts (numbered (names (of_loop label ∷ around)) body)) (label_is (length (names around))) (named_valid (of_loop label ∷ around) body sound closed)
  stmt_named_valid around (Block label body) sound closed =
      and_both (is_label (label_of (length (names around)))) (valid_stmts (numbered (names (of_block label ∷ around)) body)) (label_is (length (names around))) (named_valid (of_block label ∷ around) body sound closed)
  stmt_named_valid around (Break label) sound closed = bound_label around label closed
  stmt_named_valid around (Continue label) sound closed = bound_label around label (loop_bound around label closed)
  stmt_named_valid around (Match value cases other) sound closed =
      let both = and_left (valid_expr value && arms_sound cases) (stmts_sound other) sound in
      and_both (valid_expr value && valid_arms (numbered_arms (names around) cases)) (valid_stmts (numbered (names around) other))
      (and_both (valid_expr value) (valid_arms (numbered_arms (names around) cases)) (and_left (valid_expr value) (arms_sound cases) both)
      (arms_named_valid around cases (and_right (valid_expr value) (arms_sound cases) both) (and_left (arms_closed around cases) (stmts_closed around other) closed)))
      (named_valid around other (and_right (valid_expr value && arms_sound cases) (stmts_sound other) sound) (and_right (arms_closed around cases) (stmts_closed around other) closed))
  stmt_named_valid around (Return value) sound closed = sound

  named_valid : (around : List LabelScope) (ss : Stmts) → stmts_sound ss ≡ true → stmts_closed around ss ≡ true → valid_stmts (numbered (names around) ss) ≡ true
  named_valid around no_stmts sound closed = refl
  named_valid around (more_stmts s ss) sound closed =
      and_both (valid_stmt (numbered_stmt (names around) s)) (valid_stmts (numbered (names around) ss))
      (stmt_named_valid around s (and_left (stmt_sound s) (stmts_sound ss) sound) (and_left (stmt_closed around s) (stmts_closed around ss) closed))
      (named_valid around ss (and_right (stmt_sound s) (stmts_sound ss) sound) (and_right (stmt_closed around s) (stmts_closed around ss) closed))

  arms_named_valid : (around : List LabelScope) (cases : Arms) → arms_sound cases ≡ true → arms_closed around cases ≡ true → valid_arms (numbered_arms (names around) cases) ≡ true
  arms_named_valid around no_arms sound closed = refl
  arms_named_valid around (more_arms (LiteralArm value ty body) others) sound closed =
      let one = and_left (is_value value && stmts_sound body) (arms_sound others) sound in
      and_both (is_value value && valid_stmts (numbered (names around) body)) (valid_arms (numbered_arms (names around) others))
      (and_both (is_value value) (valid_stmts (numbered (names around) body)) (and_left (is_value value) (stmts_sound body) one)
      (named_valid around body (and_right (is_value value) (stmts_sound body) one) (and_left (stmts_closed around body) (arms_closed around others) closed)))
      (arms_named_valid around others (and_right (is_value value && stmts_sound body) (arms_sound others) sound) (and_right (stmts_closed around body) (arms_closed around others) closed))

-- ---- conditions

compared_valid : (left right : Expr) (operator : Operator) → valid_expr (compared_by left right operator (opposite operator)) ≡ valid_expr (Binary left operator right)
compared_valid left right Equal = refl
compared_valid left right NotEqual = refl
compared_valid left right Less = refl
compared_valid left right LessEqual = refl
compared_valid left right Greater = refl
compared_valid left right GreaterEqual = refl
compared_valid left right Add = refl
compared_valid left right Sub = refl
compared_valid left right Mul = refl
compared_valid left right Div = refl
compared_valid left right Rem = refl
compared_valid left right BitAnd = refl
compared_valid left right BitOr = refl
compared_valid left right BitXor = refl
compared_valid left right Shl = refl
compared_valid left right Shr = refl

negated_valid : (e : Expr) → valid_expr (negated e) ≡ valid_expr e
negated_valid (Not e) = refl
negated_valid (Binary left operator right) = compared_valid left right operator
negated_valid (Literal value ty) = refl
negated_valid (Truth value) = refl
negated_valid NoFunction = refl
negated_valid (Read p) = refl
negated_valid (Call m x args) = refl
negated_valid (CallBy e args) = refl
negated_valid (Wrapped e op arg) = refl
negated_valid (WrappingNeg e) = refl
negated_valid (Offset e arg) = refl
negated_valid (OffsetFrom e arg) = refl
negated_valid (IsNull e) = refl
negated_valid (IsNone e) = refl
negated_valid (AddressOf p) = refl
negated_valid (NullPointer ty) = refl
negated_valid (SomeFunction m x params result) = refl
negated_valid (Transmute from to e) = refl
negated_valid (Neg e) = refl
negated_valid (Cast e ty) = refl
negated_valid (And left right) = refl
negated_valid (Or left right) = refl
negated_valid (Choose condition if_true if_false) = refl

-- ---- statements made from others

abbrev Sound : Stmts → Type 0
Sound ss = stmts_sound ss ≡ true

abbrev AllSound : List Stmts → Type 0
AllSound [] = ⊤
AllSound (text ∷ texts) = Sound text × AllSound texts

behind_sound : (first others : Stmts) → Sound first → Sound others → Sound (behind first others)
behind_sound no_stmts others one other = other
behind_sound (more_stmts s ss) others one other =
    and_both (stmt_sound s) (stmts_sound (behind ss others)) (and_left (stmt_sound s) (stmts_sound ss) one) (behind_sound ss others (and_right (stmt_sound s) (stmts_sound ss) one) other)

one_sound : (s : Stmt) → stmt_sound s ≡ true → Sound (one_stmt s)
one_sound s is = and_both (stmt_sound s) true is refl

if_one : (condition : Expr) (a b : Stmts) → valid_expr condition ≡ true → Sound a → Sound b → stmt_sound (If condition a b) ≡ true
if_one condition a b is one other = and_both (valid_expr condition && stmts_sound a) (stmts_sound b) (and_both (valid_expr condition) (stmts_sound a) is one) other

if_sound : (condition : Expr) (a b : Stmts) → valid_expr condition ≡ true → Sound a → Sound b → Sound (if_of condition a b)
if_sound condition no_stmts no_stmts is one other = one_sound (If condition no_stmts no_stmts) (if_one condition no_stmts no_stmts is refl refl)
if_sound condition no_stmts (more_stmts s ss) is one other =
    one_sound (If (negated condition) (more_stmts s ss) no_stmts) (if_one (negated condition) (more_stmts s ss) no_stmts (negated_valid condition ∙ is) other refl)
if_sound condition (more_stmts s ss) no_stmts is one other = one_sound (If condition (more_stmts s ss) no_stmts) (if_one condition (more_stmts s ss) no_stmts is one refl)
if_sound condition (more_stmts s ss) (more_stmts t ts) is one other = by_ends (stmts_end (more_stmts s ss) goes) (stmts_end (more_stmts t ts) goes)
  where
    by_ends : (first second : Bool) →
        Sound (if first then (if second then one_stmt (If condition (more_stmts s ss) (more_stmts t ts)) else more_stmts (If (negated condition) (more_stmts t ts) no_stmts) (more_stmts s ss))
        else more_stmts (If condition (more_stmts s ss) no_stmts) (more_stmts t ts))
    by_ends true true = one_sound (If condition (more_stmts s ss) (more_stmts t ts)) (if_one condition (more_stmts s ss) (more_stmts t ts) is one other)
    by_ends true false =
        and_both (stmt_sound (If (negated condition) (more_stmts t ts) no_stmts)) (stmts_sound (more_stmts s ss)) (if_one (negated condition) (more_stmts t ts) no_stmts (negated_valid condition ∙ is) other refl) one
    by_ends false second = and_both (stmt_sound (If condition (more_stmts s ss) no_stmts)) (stmts_sound (more_stmts t ts)) (if_one condition (more_stmts s ss) no_stmts is one refl) other

first_sound : (texts : List Stmts) → AllSound texts → Sound (first_text texts)
first_sound [] all = refl
first_sound (text ∷ texts) all = all.0

arm_sound : (value : ℤ) (by : IntegerTy) (text : Stmts) (others : Arms) → is_value value ≡ true → Sound text → arms_sound others ≡ true → arms_sound (more_arms (LiteralArm value by text) others) ≡ true
arm_sound value by text others is sound rest = and_both (is_value value && stmts_sound text) (arms_sound others) (and_both (is_value value) (stmts_sound text) is sound) rest

cases_sound : (by : IntegerTy) (cases : List CaseTree) (texts : List Stmts) → cases_valid cases ≡ true → AllSound texts → arms_sound (case_arms by cases texts) ≡ true
cases_sound by [] texts valid all = refl
cases_sound by (one ∷ others) [] valid all = refl
cases_sound by (one ∷ others) (text ∷ texts) valid all =
    arm_sound one.value by text (case_arms by others texts) (and_left (is_value one.value) (cases_valid others) valid) all.0 (cases_sound by others texts (and_right (is_value one.value) (cases_valid others) valid) all.1)

other_sound : (cases : List CaseTree) (texts : List Stmts) → AllSound texts → Sound (other_text cases texts)
other_sound [] texts all = first_sound texts all
other_sound (one ∷ others) [] all = refl
other_sound (one ∷ others) (text ∷ texts) all = other_sound others texts all.1

match_sound : (e : Expr) (cases : Arms) (other : Stmts) → valid_expr e ≡ true → arms_sound cases ≡ true → Sound other → Sound (one_stmt (Match e cases other))
match_sound e cases other is arms rest = one_sound (Match e cases other) (and_both (valid_expr e && arms_sound cases) (stmts_sound other) (and_both (valid_expr e) (arms_sound cases) is arms) rest)

branch_sound : (last : BranchTree) (texts : List Stmts) → branch_valid last ≡ true → AllSound texts → Sound (branch_stmts last texts)
branch_sound (go to) texts valid all = first_sound texts all
branch_sound (if_test test if_true if_false) [] valid all = refl
branch_sound (if_test test if_true if_false) (text ∷ texts) valid all = if_sound test text (first_text texts) valid all.0 (first_sound texts all.1)
branch_sound (switch choices) texts valid all =
    match_sound choices.on (case_arms choices.by choices.cases texts) (other_text choices.cases texts) (and_left (valid_expr choices.on) (cases_valid choices.cases) valid)
    (cases_sound choices.by choices.cases texts (and_right (valid_expr choices.on) (cases_valid choices.cases) valid) all) (other_sound choices.cases texts all)
branch_sound (gives value) texts valid all = one_sound (Return value) valid

heads_sound : (earlier heads : List ℕ) (texts : List Stmts) → ((head : ℕ) → IsIn head heads → is_value (pos head) ≡ true) → AllSound texts → arms_sound (head_arms earlier heads texts) ≡ true
heads_sound earlier [] texts small all = refl
heads_sound earlier (head ∷ heads) [] small all = refl
heads_sound earlier (head ∷ heads) (text ∷ texts) small all = by_test (is_in head earlier) (heads_sound earlier heads texts later all.1) (heads_sound (head ∷ earlier) heads texts later all.1)
  where
    later : (one : ℕ) → IsIn one heads → is_value (pos one) ≡ true
    later one there = small one (or_right (one == head) (is_in one heads) there)

    by_test : (gone : Bool) → arms_sound (head_arms earlier heads texts) ≡ true → arms_sound (head_arms (head ∷ earlier) heads texts) ≡ true →
        arms_sound (if gone then head_arms earlier heads texts else more_arms (LiteralArm (pos head) U32 text) (head_arms (head ∷ earlier) heads texts)) ≡ true
    by_test true first second = first
    by_test false first second =
        arm_sound (pos head) U32 text (head_arms (head ∷ earlier) heads texts) (small head (or_left (head == head) (is_in head heads) (equal_itself head))) all.0 second

small_value : (number : ℕ) → number < 2 ^ 32 → is_value (pos number) ≡ true
small_value number less = grind (arith, nat_tests, less)

block_valid : valid_place current_block ≡ true
unfolding path_words keywords
block_valid = refl

-- ---- the text of nests

module _ (flow : FlowTree) (valid : NodesValid flow) (Tells Rounds : Type 0) (few : Tells → length flow.nodes ≤ 2 ^ 32) where
  abbrev IsNumber : ℕ → Type 0
  IsNumber node = node < length flow.nodes

  abbrev SoundAround : List LabelScope → Stmts → Type 0
  SoundAround around = Sound

  is_small : Tells → (node : ℕ) → IsNumber node → is_value (pos node) ≡ true
  is_small has node less = small_value node (let most = few has in omega (arith, less, most))

  all_sound : (around : List LabelScope) (texts : List Stmts) → AllGood flow SoundAround IsNumber Tells Rounds around texts → AllSound texts
  all_sound around [] all = tt
  all_sound around (text ∷ texts) all = (all.0, all_sound around texts all.1)

  node_sound : (number : ℕ) (found : Option NodeTree) → node_at flow number ≡ found → (texts : List Stmts) → AllSound texts → Sound (node_stmts found texts)
  node_sound number None is texts all = refl
  node_sound number (Some node) is texts all =
      behind_sound node.body (branch_stmts node.last texts) (valid_sound node.body (valid.bodies number node is)) (branch_sound node.last texts (valid.branches number node is) all)

  jump_sound : (label : List ℕ) (turns : Bool) → Sound (one_stmt (if turns then Continue label else Break label))
  jump_sound label true = refl
  jump_sound label false = refl

  block_sound : (label : List ℕ) (body rest : Stmts) → Sound body → Sound rest → (named : Bool) → Sound (if named then more_stmts (Block label body) rest else behind body rest)
  block_sound label body rest one other true = and_both (stmts_sound body) (stmts_sound rest) one other
  block_sound label body rest one other false = behind_sound body rest one other

  valid_kept : IsKept flow SoundAround IsNumber Tells Rounds
  valid_kept = record {
    nothing = λ around. refl;
    node = λ around number texts all. node_sound number (node_at flow number) refl texts (all_sound around texts all);
    choice = λ around heads texts asked all.
        match_sound (Read current_block) (head_arms [] heads texts) no_stmts block_valid (heads_sound [] heads texts (λ head there. is_small asked.0 head (asked.1 head there)) (all_sound around texts all)) refl;
    tells = λ around node text has less sound.
        and_both (valid_place current_block && is_value (pos node)) (stmts_sound text) (and_both (valid_place current_block) (is_value (pos node)) block_valid (is_small has node less)) sound;
    jumps = λ around jump is. jump_sound (label_of jump.label) jump.turns;
    block = λ around label body rest one other. block_sound (label_of label) body rest one other (stmts_name (label_of label) body);
    loop = λ around label body rounds sound. one_sound (Loop (if stmts_name (label_of label) body then Some (label_of label) else None) body) sound;
  }

-- ---- a last `return;`

last_one : (s : Stmt) → valid_stmts (one_stmt s) ≡ true → valid_stmts (without_return s) ≡ true
last_one (Return None) valid = refl
last_one (Return (Some value)) valid = valid
last_one (Assign p e) valid = valid
last_one (Eval e) valid = valid
last_one (CopyBytes source target count) valid = valid
last_one (If condition if_true if_false) valid = valid
last_one (Loop label body) valid = valid
last_one (Block label body) valid = valid
last_one (Break label) valid = valid
last_one (Continue label) valid = valid
last_one (Match e cases other) valid = valid

last_valid : (ss : Stmts) → valid_stmts ss ≡ true → valid_stmts (without_last_return ss) ≡ true
last_valid no_stmts valid = valid
last_valid (more_stmts s no_stmts) valid = last_one s valid
last_valid (more_stmts s (more_stmts other others)) valid =
    and_both (valid_stmt s) (valid_stmts (without_last_return (more_stmts other others))) (and_left (valid_stmt s) (valid_stmts (more_stmts other others)) valid)
    (last_valid (more_stmts other others) (and_right (valid_stmt s) (valid_stmts (more_stmts other others)) valid))

-- ---- the law

text_valid : (flow : FlowTree) (shape : ShapeTree) → NodesValid flow → NodesClosed flow → IsFit (graph_of flow) shape → (has_dispatch shape ≡ true → length flow.nodes ≤ 2 ^ 32) → valid_stmts (emitted flow shape) ≡ true
text_valid flow shape valid closed fits few =
    last_valid (numbered [] (draft_of flow (nests_of flow shape)))
    (named_valid [] (draft_of flow (nests_of flow shape))
    (draft_good flow (SoundAround flow valid (has_dispatch shape ≡ true) (goes_round shape ≡ true) few) (λ node. node < length flow.nodes) (has_dispatch shape ≡ true) (goes_round shape ≡ true)
    (valid_kept flow valid (has_dispatch shape ≡ true) (goes_round shape ≡ true) few) (target_less flow shape fits) (nests_of flow shape) (nests_asked flow shape fits) (entry_less flow shape fits))
    (draft_closed flow closed (nests_of flow shape)))

pub all_valid : TextValid
all_valid = record { valid = text_valid }
