-- The text of nests is well typed where nodes and branches are.
use Rattle.std.proofs.Common.{◌≡◌, ◌∙◌, ℕ, ◌^◌, ◌<◌, ◌==◌, Bool, true, false, not, ◌&&◌, ℤ, pos, List, [], ◌∷◌, length, Option, Some, None, if◌then◌else◌, arith, tests, refl, sym, ap, subst}
use Rattle.std.proofs.lemmas.Bool.Decides.{nat_tests}
use Rattle.std.specs.Ordering.{int_eq}
use Rattle.std.specs.Prelude.{⊤}
use Rattle.reloop.specs.Fits.{IsFit}
use Rattle.reloop.specs.Graphs.{is_in, IsIn}
use Rattle.reloop.specs.Shapes.{ShapeTree, has_dispatch, goes_round}
use Rattle.reloop.proofs.Sets.{or_left, or_right, equal_itself, same_number, not_both}
use Rattle.rs_text.specs.declared.integer.IntegerTy.{IntegerTy}
use Rattle.rs_text.specs.declared.integer.IntegerTy.TheVariants.{U32}
use Rattle.rs_text.specs.declared.operator.Operator.{Operator}
use Rattle.rs_text.specs.declared.operator.Operator.TheVariants.{Add, Sub, Mul, Div, Rem, BitAnd, BitOr, BitXor, Shl, Shr, Equal, NotEqual, Less, LessEqual, Greater, GreaterEqual}
use Rattle.rs_text.specs.Tree.{Ty, Integer, Boolean, Void, Pointer, Array, Code, Record, Expr, Literal, Truth, NoFunction, Read, Call, CallBy, Wrapped, WrappingNeg, Offset, OffsetFrom, IsNull, IsNone, AddressOf, NullPointer, SomeFunction, Transmute, Neg, Not, Cast, Binary, And, Or, Choose, Stmt, Assign, Eval, CopyBytes, If, Loop, Block, Break, Continue, Match, Return, Stmts, no_stmts, more_stmts, LiteralArm, Arms, more_arms}
use Rattle.rs_mean.specs.Laws.{behind}
use Rattle.rs_mean.specs.Scalars.{is_scalar, fits_integer}
use Rattle.rs_mean.specs.Typing.{Scope, BodyScope, LabelScope, Kind, of, of_none, is_of_type, own_type, where_is, is_bits, only_if, place_type, kind_of, is_scalar_of, arm_differs, matches, is_matched, stmt_typed, stmts_typed}
use Rattle.rs_mean_ends.specs.Ways.{goes, stmts_end, stmts_name}
use Rattle.flow.specs.Flows.{CaseTree, BranchTree, go, if_test, switch, gives, NodeTree, FlowTree, node_at, graph_of}
use Rattle.emit_rules.specs.Bodies.{node_stmts, draft_of, emitted, without_return, without_last_return}
use Rattle.emit_rules.specs.Jumps.{label_of, current_block}
use Rattle.emit_rules.specs.Labels.{numbered}
use Rattle.emit_rules.specs.Sorting.{nests_of}
use Rattle.emit_rules.specs.Texts.{one_stmt, opposite, compared_by, negated, if_of, case_arms, first_text, other_text, head_arms, branch_stmts}
use Rattle.emit_laws.specs.LawsText.{NodesClosed}
use Rattle.emit_laws.specs.LawsTyping.{value_differs, cases_typed, branch_typed, whole_body, NodesTyped, TellsTyped, TextTyped}
use Rattle.emit_laws.proofs.Closing.{and_left, and_right, and_both}
use Rattle.emit_laws.proofs.Fits.{stmt_fits, stmts_fit, arms_fit, typed_fits, typed_closed, named_typed}
use Rattle.emit_laws.proofs.Keeping.{AllGood, IsKept, draft_good}
use Rattle.emit_laws.proofs.Shaped.{entry_less, target_less, nests_asked}
use Rattle.emit_laws.proofs.Written.{draft_closed}

-- ---- conditions

-- a truth value may be negated
not_kind : (kind : Option Kind) → is_of_type Boolean kind ≡ true → is_of_type Boolean (where_is is_bits (own_type kind)) ≡ true
not_kind None is = absurd cc
not_kind (Some of_none) is = absurd cc
not_kind (Some (of Boolean)) is = refl
not_kind (Some (of (Integer which))) is = absurd cc
not_kind (Some (of Void)) is = absurd cc
not_kind (Some (of (Pointer target))) is = absurd cc
not_kind (Some (of (Array element size))) is = absurd cc
not_kind (Some (of (Code params result))) is = absurd cc
not_kind (Some (of (Record m x))) is = absurd cc

-- and what is negated is one
kind_not : (kind : Option Kind) → is_of_type Boolean (where_is is_bits (own_type kind)) ≡ true → is_of_type Boolean kind ≡ true
kind_not None is = absurd cc
kind_not (Some of_none) is = absurd cc
kind_not (Some (of Boolean)) is = refl
kind_not (Some (of (Integer which))) is = absurd cc
kind_not (Some (of Void)) is = absurd cc
kind_not (Some (of (Pointer target))) is = absurd cc
kind_not (Some (of (Array element size))) is = absurd cc
kind_not (Some (of (Code params result))) is = absurd cc
kind_not (Some (of (Record m x))) is = absurd cc

module _ (scope : Scope) where
  abbrev IsTruth : Expr → Type 0
  IsTruth e = is_of_type Boolean (kind_of scope e) ≡ true

  compared_truth : (left right : Expr) (operator : Operator) → IsTruth (Binary left operator right) → IsTruth (compared_by left right operator (opposite operator))
  compared_truth left right Equal is = is
  compared_truth left right NotEqual is = is
  compared_truth left right Less is = is
  compared_truth left right LessEqual is = is
  compared_truth left right Greater is = is
  compared_truth left right GreaterEqual is = is
  compared_truth left right Add is = not_kind (kind_of scope (Binary left Add right)) is
  compared_truth left right Sub is = not_kind (kind_of scope (Binary left Sub right)) is
  compared_truth left right Mul is = not_kind (kind_of scope (Binary left Mul right)) is
  compared_truth left right Div is = not_kind (kind_of scope (Binary left Div right)) is
  compared_truth left right Rem is = not_kind (kind_of scope (Binary left Rem right)) is
  compared_truth left right BitAnd is = not_kind (kind_of scope (Binary left BitAnd right)) is
  compared_truth left right BitOr is = not_kind (kind_of scope (Binary left BitOr right)) is
  compared_truth left right BitXor is = not_kind (kind_of scope (Binary left BitXor right)) is
  compared_truth left right Shl is = not_kind (kind_of scope (Binary left Shl right)) is
  compared_truth left right Shr is = not_kind (kind_of scope (Binary left Shr right)) is

  negated_truth : (e : Expr) → IsTruth e → IsTruth (negated e)
  negated_truth (Not e) is = kind_not (kind_of scope e) is
  negated_truth (Binary left operator right) is = compared_truth left right operator is
  negated_truth (Literal value ty) is = not_kind (kind_of scope (Literal value ty)) is
  negated_truth (Truth value) is = not_kind (kind_of scope (Truth value)) is
  negated_truth NoFunction is = not_kind (kind_of scope NoFunction) is
  negated_truth (Read p) is = not_kind (kind_of scope (Read p)) is
  negated_truth (Call m x args) is = not_kind (kind_of scope (Call m x args)) is
  negated_truth (CallBy e args) is = not_kind (kind_of scope (CallBy e args)) is
  negated_truth (Wrapped e op arg) is = not_kind (kind_of scope (Wrapped e op arg)) is
  negated_truth (WrappingNeg e) is = not_kind (kind_of scope (WrappingNeg e)) is
  negated_truth (Offset e arg) is = not_kind (kind_of scope (Offset e arg)) is
  negated_truth (OffsetFrom e arg) is = not_kind (kind_of scope (OffsetFrom e arg)) is
  negated_truth (IsNull e) is = not_kind (kind_of scope (IsNull e)) is
  negated_truth (IsNone e) is = not_kind (kind_of scope (IsNone e)) is
  negated_truth (AddressOf p) is = not_kind (kind_of scope (AddressOf p)) is
  negated_truth (NullPointer ty) is = not_kind (kind_of scope (NullPointer ty)) is
  negated_truth (SomeFunction m x params result) is = not_kind (kind_of scope (SomeFunction m x params result)) is
  negated_truth (Transmute from to e) is = not_kind (kind_of scope (Transmute from to e)) is
  negated_truth (Neg e) is = not_kind (kind_of scope (Neg e)) is
  negated_truth (Cast e ty) is = not_kind (kind_of scope (Cast e ty)) is
  negated_truth (And left right) is = not_kind (kind_of scope (And left right)) is
  negated_truth (Or left right) is = not_kind (kind_of scope (Or left right)) is
  negated_truth (Choose condition if_true if_false) is = not_kind (kind_of scope (Choose condition if_true if_false)) is

-- ---- statements made from others

differs_otherwise : (a b : ℕ) → (a == b) ≡ false → not (int_eq (pos a) (pos b)) ≡ true
differs_otherwise a b differ = grind (arith, nat_tests, tests, differ)

module _ (scope : Scope) (result : Option Ty) where
  abbrev Fits : Stmts → Type 0
  Fits ss = stmts_fit scope result ss ≡ true

  abbrev AllFit : List Stmts → Type 0
  AllFit [] = ⊤
  AllFit (text ∷ texts) = Fits text × AllFit texts

  behind_fits : (first others : Stmts) → Fits first → Fits others → Fits (behind first others)
  behind_fits no_stmts others one other = other
  behind_fits (more_stmts s ss) others one other =
      and_both (stmt_fits scope result s) (stmts_fit scope result (behind ss others)) (and_left (stmt_fits scope result s) (stmts_fit scope result ss) one)
      (behind_fits ss others (and_right (stmt_fits scope result s) (stmts_fit scope result ss) one) other)

  one_fits : (s : Stmt) → stmt_fits scope result s ≡ true → Fits (one_stmt s)
  one_fits s is = and_both (stmt_fits scope result s) true is refl

  if_one : (condition : Expr) (a b : Stmts) → IsTruth scope condition → Fits a → Fits b → stmt_fits scope result (If condition a b) ≡ true
  if_one condition a b is one other =
      and_both (is_of_type Boolean (kind_of scope condition) && stmts_fit scope result a) (stmts_fit scope result b) (and_both (is_of_type Boolean (kind_of scope condition)) (stmts_fit scope result a) is one) other

  if_fits : (condition : Expr) (a b : Stmts) → IsTruth scope condition → Fits a → Fits b → Fits (if_of condition a b)
  if_fits condition no_stmts no_stmts is one other = one_fits (If condition no_stmts no_stmts) (if_one condition no_stmts no_stmts is refl refl)
  if_fits condition no_stmts (more_stmts s ss) is one other =
      one_fits (If (negated condition) (more_stmts s ss) no_stmts) (if_one (negated condition) (more_stmts s ss) no_stmts (negated_truth scope condition is) other refl)
  if_fits condition (more_stmts s ss) no_stmts is one other = one_fits (If condition (more_stmts s ss) no_stmts) (if_one condition (more_stmts s ss) no_stmts is one refl)
  if_fits condition (more_stmts s ss) (more_stmts t ts) is one other = by_ends (stmts_end (more_stmts s ss) goes) (stmts_end (more_stmts t ts) goes)
    where
      by_ends : (first second : Bool) →
          Fits (if first then (if second then one_stmt (If condition (more_stmts s ss) (more_stmts t ts)) else more_stmts (If (negated condition) (more_stmts t ts) no_stmts) (more_stmts s ss))
          else more_stmts (If condition (more_stmts s ss) no_stmts) (more_stmts t ts))
      by_ends true true = one_fits (If condition (more_stmts s ss) (more_stmts t ts)) (if_one condition (more_stmts s ss) (more_stmts t ts) is one other)
      by_ends true false =
          and_both (stmt_fits scope result (If (negated condition) (more_stmts t ts) no_stmts)) (stmts_fit scope result (more_stmts s ss))
          (if_one (negated condition) (more_stmts t ts) no_stmts (negated_truth scope condition is) other refl) one
      by_ends false second =
          and_both (stmt_fits scope result (If condition (more_stmts s ss) no_stmts)) (stmts_fit scope result (more_stmts t ts)) (if_one condition (more_stmts s ss) no_stmts is one refl) other

  first_fits : (texts : List Stmts) → AllFit texts → Fits (first_text texts)
  first_fits [] all = refl
  first_fits (text ∷ texts) all = all.0

  case_differs : (value : ℤ) (by : IntegerTy) (cases : List CaseTree) (texts : List Stmts) → value_differs value cases ≡ true → arm_differs value (case_arms by cases texts) ≡ true
  case_differs value by [] texts differ = refl
  case_differs value by (one ∷ others) [] differ = refl
  case_differs value by (one ∷ others) (text ∷ texts) differ =
      and_both (not (int_eq value one.value)) (arm_differs value (case_arms by others texts)) (and_left (not (int_eq value one.value)) (value_differs value others) differ)
      (case_differs value by others texts (and_right (not (int_eq value one.value)) (value_differs value others) differ))

  arm_fits : (operand : Option Ty) (value : ℤ) (by : IntegerTy) (text : Stmts) (others : Arms) → matches operand value by ≡ true → arm_differs value others ≡ true → Fits text → arms_fit scope result operand others ≡ true →
      arms_fit scope result operand (more_arms (LiteralArm value by text) others) ≡ true
  arm_fits operand value by text others is differ fits rest =
      and_both ((matches operand value by && arm_differs value others) && stmts_fit scope result text) (arms_fit scope result operand others)
      (and_both (matches operand value by && arm_differs value others) (stmts_fit scope result text) (and_both (matches operand value by) (arm_differs value others) is differ) fits) rest

  cases_fit : (operand : Option Ty) (by : IntegerTy) (cases : List CaseTree) (texts : List Stmts) → cases_typed operand by cases ≡ true → AllFit texts → arms_fit scope result operand (case_arms by cases texts) ≡ true
  cases_fit operand by [] texts typed all = refl
  cases_fit operand by (one ∷ others) [] typed all = refl
  cases_fit operand by (one ∷ others) (text ∷ texts) typed all =
      let head = matches operand one.value by && value_differs one.value others in
      let front = and_left head (cases_typed operand by others) typed in
      arm_fits operand one.value by text (case_arms by others texts) (and_left (matches operand one.value by) (value_differs one.value others) front)
      (case_differs one.value by others texts (and_right (matches operand one.value by) (value_differs one.value others) front)) all.0
      (cases_fit operand by others texts (and_right head (cases_typed operand by others) typed) all.1)

  other_fits : (cases : List CaseTree) (texts : List Stmts) → AllFit texts → Fits (other_text cases texts)
  other_fits [] texts all = first_fits texts all
  other_fits (one ∷ others) [] all = refl
  other_fits (one ∷ others) (text ∷ texts) all = other_fits others texts all.1

  match_fits : (e : Expr) (cases : Arms) (other : Stmts) → is_matched (own_type (kind_of scope e)) ≡ true → arms_fit scope result (own_type (kind_of scope e)) cases ≡ true → Fits other →
      Fits (one_stmt (Match e cases other))
  match_fits e cases other is arms rest =
      one_fits (Match e cases other)
      (and_both (is_matched (own_type (kind_of scope e)) && arms_fit scope result (own_type (kind_of scope e)) cases) (stmts_fit scope result other)
      (and_both (is_matched (own_type (kind_of scope e))) (arms_fit scope result (own_type (kind_of scope e)) cases) is arms) rest)

  branch_fits : (last : BranchTree) (texts : List Stmts) → branch_typed scope result last ≡ true → AllFit texts → Fits (branch_stmts last texts)
  branch_fits (go to) texts typed all = first_fits texts all
  branch_fits (if_test test if_true if_false) [] typed all = refl
  branch_fits (if_test test if_true if_false) (text ∷ texts) typed all = if_fits test text (first_text texts) typed all.0 (first_fits texts all.1)
  branch_fits (switch choices) texts typed all =
      let operand = own_type (kind_of scope choices.on) in
      match_fits choices.on (case_arms choices.by choices.cases texts) (other_text choices.cases texts) (and_left (is_matched operand) (cases_typed operand choices.by choices.cases) typed)
      (cases_fit operand choices.by choices.cases texts (and_right (is_matched operand) (cases_typed operand choices.by choices.cases) typed) all) (other_fits choices.cases texts all)
  branch_fits (gives value) texts typed all = one_fits (Return value) typed

  -- ---- a choice of a head

  -- an earlier head has no arm
  head_differs : (head : ℕ) (earlier heads : List ℕ) (texts : List Stmts) → IsIn head earlier → arm_differs (pos head) (head_arms earlier heads texts) ≡ true
  head_differs head earlier [] texts there = refl
  head_differs head earlier (one ∷ heads) [] there = refl
  head_differs head earlier (one ∷ heads) (text ∷ texts) there =
      by_test (is_in one earlier) refl (head_differs head earlier heads texts there) (head_differs head (one ∷ earlier) heads texts (or_right (head == one) (is_in head earlier) there))
    where
      other : is_in one earlier ≡ false → (test : Bool) → (head == one) ≡ test → test ≡ false
      other none false is = refl
      other none true is = not_both (is_in one earlier) (subst (λ (x : ℕ). is_in x earlier ≡ true) (same_number head one is) there) none

      by_test : (gone : Bool) → is_in one earlier ≡ gone → arm_differs (pos head) (head_arms earlier heads texts) ≡ true → arm_differs (pos head) (head_arms (one ∷ earlier) heads texts) ≡ true →
          arm_differs (pos head) (if gone then head_arms earlier heads texts else more_arms (LiteralArm (pos one) U32 text) (head_arms (one ∷ earlier) heads texts)) ≡ true
      by_test true is first second = first
      by_test false is first second =
          and_both (not (int_eq (pos head) (pos one))) (arm_differs (pos head) (head_arms (one ∷ earlier) heads texts)) (differs_otherwise head one (other is (head == one) refl)) second

  heads_fit : (earlier heads : List ℕ) (texts : List Stmts) → ((head : ℕ) → IsIn head heads → fits_integer U32 (pos head) ≡ true) → AllFit texts → arms_fit scope result (Some (Integer U32)) (head_arms earlier heads texts) ≡ true
  heads_fit earlier [] texts small all = refl
  heads_fit earlier (head ∷ heads) [] small all = refl
  heads_fit earlier (head ∷ heads) (text ∷ texts) small all =
      by_test (is_in head earlier) (heads_fit earlier heads texts later all.1) (heads_fit (head ∷ earlier) heads texts later all.1)
    where
      later : (one : ℕ) → IsIn one heads → fits_integer U32 (pos one) ≡ true
      later one there = small one (or_right (one == head) (is_in one heads) there)

      by_test : (gone : Bool) → arms_fit scope result (Some (Integer U32)) (head_arms earlier heads texts) ≡ true → arms_fit scope result (Some (Integer U32)) (head_arms (head ∷ earlier) heads texts) ≡ true →
          arms_fit scope result (Some (Integer U32)) (if gone then head_arms earlier heads texts else more_arms (LiteralArm (pos head) U32 text) (head_arms (head ∷ earlier) heads texts)) ≡ true
      by_test true first second = first
      by_test false first second =
          arm_fits (Some (Integer U32)) (pos head) U32 text (head_arms (head ∷ earlier) heads texts) (small head (or_left (head == head) (is_in head heads) (equal_itself head)))
          (head_differs head (head ∷ earlier) heads texts (or_left (head == head) (is_in head earlier) (equal_itself head))) all.0 second

fits_u32 : (number : ℕ) → number < 2 ^ 32 → fits_integer U32 (pos number) ≡ true
fits_u32 number less = grind (arith, nat_tests, less)

-- ---- the text of nests

module _ (scope : Scope) (result : Option Ty) (flow : FlowTree) (typed : NodesTyped scope result flow) where
  pub nodes_closed : NodesClosed flow
  nodes_closed number node is = typed_closed scope result [] tt node.body (typed.bodies number node is)

  module _ (Tells Rounds : Type 0) (tells : Tells → TellsTyped scope flow) where
    abbrev IsNumber : ℕ → Type 0
    IsNumber node = node < length flow.nodes

    abbrev FitsAround : List LabelScope → Stmts → Type 0
    FitsAround around = Fits scope result

    is_small : Tells → (node : ℕ) → IsNumber node → fits_integer U32 (pos node) ≡ true
    is_small has node less = fits_u32 node (let most = (tells has).numbers in omega (arith, less, most))

    all_fit : (around : List LabelScope) (texts : List Stmts) → AllGood flow FitsAround IsNumber Tells Rounds around texts → AllFit scope result texts
    all_fit around [] all = tt
    all_fit around (text ∷ texts) all = (all.0, all_fit around texts all.1)

    node_fits : (number : ℕ) (found : Option NodeTree) → node_at flow number ≡ found → (texts : List Stmts) → AllFit scope result texts → Fits scope result (node_stmts found texts)
    node_fits number None is texts all = refl
    node_fits number (Some node) is texts all =
        behind_fits scope result node.body (branch_stmts node.last texts) (typed_fits scope result [] node.body (typed.bodies number node is)) (branch_fits scope result node.last texts (typed.branches number node is) all)

    read_block : Tells → own_type (kind_of scope (Read current_block)) ≡ Some (Integer U32)
    read_block has = ap (λ (type : Option Ty). own_type (where_is is_scalar type)) (tells has).block

    tells_fit : Tells → (node : ℕ) → IsNumber node → is_scalar_of (place_type scope current_block) (kind_of scope (Literal (pos node) U32)) ≡ true
    tells_fit has node less =
        ap (λ (type : Option Ty). is_scalar_of type (kind_of scope (Literal (pos node) U32))) (tells has).block
        ∙ ap (λ (fits : Bool). is_scalar_of (Some (Integer U32)) (only_if fits (Integer U32))) (is_small has node less)

    choice_fits : (heads : List ℕ) (texts : List Stmts) → Tells → ((head : ℕ) → IsIn head heads → IsNumber head) → AllFit scope result texts →
        Fits scope result (one_stmt (Match (Read current_block) (head_arms [] heads texts) no_stmts))
    choice_fits heads texts has less all =
        match_fits scope result (Read current_block) (head_arms [] heads texts) no_stmts (ap is_matched (read_block has))
        (subst (λ (operand : Option Ty). arms_fit scope result operand (head_arms [] heads texts) ≡ true) (sym (read_block has)) (heads_fit scope result [] heads texts (λ head there. is_small has head (less head there)) all)) refl

    jump_fits : (label : List ℕ) (turns : Bool) → Fits scope result (one_stmt (if turns then Continue label else Break label))
    jump_fits label true = refl
    jump_fits label false = refl

    block_fits : (label : List ℕ) (body rest : Stmts) → Fits scope result body → Fits scope result rest → (named : Bool) → Fits scope result (if named then more_stmts (Block label body) rest else behind body rest)
    block_fits label body rest one other true = and_both (stmts_fit scope result body) (stmts_fit scope result rest) one other
    block_fits label body rest one other false = behind_fits scope result body rest one other

    typed_kept : IsKept flow FitsAround IsNumber Tells Rounds
    typed_kept = record {
      nothing = λ around. refl;
      node = λ around number texts all. node_fits number (node_at flow number) refl texts (all_fit around texts all);
      choice = λ around heads texts asked all. choice_fits heads texts asked.0 asked.1 (all_fit around texts all);
      tells = λ around node text has less fits.
          and_both (is_scalar_of (place_type scope current_block) (kind_of scope (Literal (pos node) U32))) (stmts_fit scope result text) (tells_fit has node less) fits;
      jumps = λ around jump is. jump_fits (label_of jump.label) jump.turns;
      block = λ around label body rest one other. block_fits (label_of label) body rest one other (stmts_name (label_of label) body);
      loop = λ around label body rounds fits. one_fits scope result (Loop (if stmts_name (label_of label) body then Some (label_of label) else None) body) fits;
    }

-- ---- a last `return;`

module _ (scope : BodyScope) where
  last_one : (s : Stmt) → stmts_typed scope (one_stmt s) ≡ true → stmts_typed scope (without_return s) ≡ true
  last_one (Return None) typed = refl
  last_one (Return (Some value)) typed = typed
  last_one (Assign p e) typed = typed
  last_one (Eval e) typed = typed
  last_one (CopyBytes source target count) typed = typed
  last_one (If condition if_true if_false) typed = typed
  last_one (Loop label body) typed = typed
  last_one (Block label body) typed = typed
  last_one (Break label) typed = typed
  last_one (Continue label) typed = typed
  last_one (Match e cases other) typed = typed

  last_typed : (ss : Stmts) → stmts_typed scope ss ≡ true → stmts_typed scope (without_last_return ss) ≡ true
  last_typed no_stmts typed = typed
  last_typed (more_stmts s no_stmts) typed = last_one s typed
  last_typed (more_stmts s (more_stmts other others)) typed =
      and_both (stmt_typed scope s) (stmts_typed scope (without_last_return (more_stmts other others))) (and_left (stmt_typed scope s) (stmts_typed scope (more_stmts other others)) typed)
      (last_typed (more_stmts other others) (and_right (stmt_typed scope s) (stmts_typed scope (more_stmts other others)) typed))

-- ---- the law

text_typed : (names : Scope) (result : Option Ty) (flow : FlowTree) (shape : ShapeTree) → NodesTyped names result flow → IsFit (graph_of flow) shape → (has_dispatch shape ≡ true → TellsTyped names flow) →
    stmts_typed (whole_body names result) (emitted flow shape) ≡ true
text_typed names result flow shape typed fits tells =
    last_typed (whole_body names result) (numbered [] (draft_of flow (nests_of flow shape)))
    (named_typed names result [] (draft_of flow (nests_of flow shape))
    (draft_good flow (FitsAround names result flow typed (has_dispatch shape ≡ true) (goes_round shape ≡ true) tells) (λ node. node < length flow.nodes) (has_dispatch shape ≡ true) (goes_round shape ≡ true)
    (typed_kept names result flow typed (has_dispatch shape ≡ true) (goes_round shape ≡ true) tells) (target_less flow shape fits) (nests_of flow shape) (nests_asked flow shape fits) (entry_less flow shape fits))
    (draft_closed flow (nodes_closed names result flow typed) (nests_of flow shape)))

pub all_typed : TextTyped
all_typed = record { typed = text_typed; closed = nodes_closed }
