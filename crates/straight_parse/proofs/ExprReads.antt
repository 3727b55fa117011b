-- Each valid expression that isn't too deep is read from its tokens.
use Rattle.std.proofs.Common.{◌≡◌, ℕ, zero, suc, ◌+◌, ◌-◌, ◌<◌, ◌≤◌, max, Bool, true, false, ◌&&◌, nat_lt, nat_le, cond, Option, Some, None, List, [], ◌∷◌, ◌++◌, length, get_or, drop, refl, sym, ap, ◌∙◌, subst, ⊎_elim, inl, inr, arith, append_assoc}
use Rattle.std.proofs.lemmas.Bool.{cond-true, cond-false, cases_Bool, true≢false}
use Rattle.std.proofs.lemmas.Bool.Decides.{nat_tests}
use Rattle.cx_lex.specs.declared.token.Punct.{Punct}
use Rattle.cx_lex.specs.declared.token.Punct.TheVariants.{LeftParenthesis, RightParenthesis}
use Rattle.cx_lex.specs.declared.token.Token.{Token}
use Rattle.cx_lex.specs.declared.token.TokenKind.TheVariants as kind
use Rattle.straight_parse.specs.declared.continuation.Continuation.{Continuation}
use Rattle.straight_parse.specs.declared.continuation.Continuation.TheVariants.{Operates, Assigns, Calls}
use Rattle.straight_parse.specs.declared.sight.Sight.{Sight}
use Rattle.straight_parse.specs.declared.sight.Sight.TheVariants as sights
use Rattle.straight_parse.specs.Continuations.{continuation_of, continuation_of_mark, goes_on, strength, needs}
use Rattle.straight_parse.specs.Exprs.{Measured, name, constant, paren, unary, start_mark, start_by, start, args, args_or_none, call, binary, assign, operation, operation_by, climb, expr_from, expr}
use Rattle.straight_parse.specs.Lists.{list_read, listed_none, with_item}
use Rattle.straight_parse.specs.Reading.{State, Reader}
use Rattle.straight_parse.specs.Sights.{sight, shows_mark, sees_mark, same_mark, mark, word, number, operator}
use Rattle.straight_parse.proofs.Commas.{Follows, zipped, commas_reads, lines_of, items_of, trees_of, parts_of, deepest}
use Rattle.straight_parse.proofs.ExprSound.{IsArg}
use Rattle.straight_parse.proofs.Many.{Each}
use Rattle.straight_parse.proofs.Marks.{same_mark_same, same_mark_refl, binary_level_most, binary_level_least, unary_no_parenthesis, operates, assigns, calls, comma_continues, parenthesis_continues, parenthesis_no_comma, BeginsNone, parenthesis_begins_none}
use Rattle.straight_parse.proofs.Readers.{bind_some, bind_none, none_some, token, word_reads, number_reads, operator_reads, mark_reads}
use Rattle.straight_tree.specs.Depth.{expr_depth, exprs_depth}
use Rattle.straight_tree.specs.Levels.{unary_level, binary_level, is_unary_operator, level}
use Rattle.straight_tree.specs.Tokens as tree
use Rattle.straight_tree.specs.Tokens.{expr_tokens, exprs_tokens, listed}
use Rattle.straight_tree.specs.Trees.{ExprTree, ExprTrees, no_exprs, more_exprs, Name, Number, Paren, Call, Unary, Binary, Assign}
use Rattle.straight_tree.specs.Valid.{IsValidExpr, AreValidArgs, exprs_count, list_marks}
use Rattle.straight_tree.specs.Views.{exprs}

-- the level at which what stands ahead continues an operand, 0 where it doesn't
abbrev pub ahead : State → ℕ
ahead state = strength (continuation_of (sight state))

-- a reader reads each valid expression of the level that is asked for, where what stands behind doesn't continue it
abbrev pub Reads : (ℕ → Reader Measured) → ℕ → Type 0
Reads read depth =
    (t : ExprTree) (least : ℕ) (rest : State) → IsValidExpr t → expr_depth t ≤ depth → 1 ≤ least → least ≤ 14 → least ≤ level t → ahead rest < least
    → read least (expr_tokens t ++ rest) ≡ Some ((t, expr_depth t), rest)

-- a mark that begins no expression is refused
abbrev pub Refuses : (ℕ → Reader Measured) → Type 0
Refuses read = (p : Punct) (least : ℕ) (state : State) → BeginsNone p → sees_mark p state ≡ true → read least state ≡ None

-- ---- lines

pub one_line : (lines : List ℕ) → length lines ≡ 1 → get_or lines 0 0 ∷ [] ≡ lines
one_line [] e = absurd (omega arith)
one_line (l ∷ []) e = refl
one_line (l ∷ k ∷ lines) e = absurd (omega arith)

pub two_lines : (lines : List ℕ) → length lines ≡ 2 → get_or lines 0 0 ∷ get_or lines 1 0 ∷ [] ≡ lines
two_lines [] e = absurd (omega arith)
two_lines (l ∷ []) e = absurd (omega arith)
two_lines (l ∷ k ∷ []) e = refl
two_lines (l ∷ k ∷ j ∷ lines) e = absurd (omega arith)

pub some_line : (lines : List ℕ) (n : ℕ) → length lines ≡ suc n → get_or lines 0 0 ∷ drop 1 lines ≡ lines
some_line [] n e = absurd (omega arith)
some_line (l ∷ lines) n e = refl

pub less_line : (lines : List ℕ) (n : ℕ) → length lines ≡ suc n → length (drop 1 lines) ≡ n
less_line [] n e = absurd (omega arith)
less_line (l ∷ lines) n e = omega arith

-- ---- the left edge and the right edge of a tree

-- how many operators stand on the left edge
abbrev pub spine : ExprTree → ℕ
spine (Name bytes lines) = 0
spine (Number value ty lines) = 0
spine (Paren inner lines) = 0
spine (Call of args lines) = suc (spine of)
spine (Unary op on lines) = 0
spine (Binary left op right lines) = suc (spine left)
spine (Assign left op right lines) = suc (spine left)

pub spine_deep : (t : ExprTree) → spine t < expr_depth t
spine_deep (Name bytes lines) = omega arith
spine_deep (Number value ty lines) = omega arith
spine_deep (Paren inner lines) = omega arith
spine_deep (Call of args lines) = let a = spine_deep of in omega arith
spine_deep (Unary op on lines) = omega arith
spine_deep (Binary left op right lines) = let a = spine_deep left in omega arith
spine_deep (Assign left op right lines) = let a = spine_deep left in omega arith

-- the level at which the operand on the right edge was asked for; 18 where there is none
abbrev pub bound : ExprTree → ℕ
bound (Name bytes lines) = 18
bound (Number value ty lines) = 18
bound (Paren inner lines) = 18
bound (Call of args lines) = 18
bound (Unary op on lines) = 14
bound (Binary left op right lines) = suc (binary_level op)
bound (Assign left op right lines) = 2

bound_level : (t : ExprTree) (k : ℕ) → k ≤ 14 → k ≤ level t → k ≤ bound t
bound_level (Name bytes lines) k low le = omega arith
bound_level (Number value ty lines) k low le = omega arith
bound_level (Paren inner lines) k low le = omega arith
bound_level (Call of args lines) k low le = omega arith
bound_level (Unary op on lines) k low le = omega arith
bound_level (Binary left op right lines) k low le = omega arith
bound_level (Assign left op right lines) k low le = omega arith

-- an operator whose left operand a tree may be doesn't continue the tree's right edge
bound_operand : (t : ExprTree) (k : ℕ) → 4 ≤ k → k ≤ 13 → k ≤ level t → k < bound t
bound_operand (Name bytes lines) k some low le = omega arith
bound_operand (Number value ty lines) k some low le = omega arith
bound_operand (Paren inner lines) k some low le = omega arith
bound_operand (Call of args lines) k some low le = omega arith
bound_operand (Unary op on lines) k some low le = omega arith
bound_operand (Binary left op right lines) k some low le = omega arith
bound_operand (Assign left op right lines) k some low le = omega arith

bound_unary : (t : ExprTree) → 15 ≤ level t → 14 ≤ bound t
bound_unary (Name bytes lines) le = omega arith
bound_unary (Number value ty lines) le = omega arith
bound_unary (Paren inner lines) le = omega arith
bound_unary (Call of args lines) le = omega arith
bound_unary (Unary op on lines) le = omega arith
bound_unary (Binary left op right lines) le = let a = binary_level_most op in absurd (omega arith)
bound_unary (Assign left op right lines) le = absurd (omega arith)

bound_postfix : (t : ExprTree) → 16 ≤ level t → 18 ≤ bound t
bound_postfix (Name bytes lines) le = omega arith
bound_postfix (Number value ty lines) le = omega arith
bound_postfix (Paren inner lines) le = omega arith
bound_postfix (Call of args lines) le = omega arith
bound_postfix (Unary op on lines) le = absurd (omega arith)
bound_postfix (Binary left op right lines) le = let a = binary_level_most op in absurd (omega arith)
bound_postfix (Assign left op right lines) le = absurd (omega arith)

-- ---- what continues an operand

goes_on_true : (least : ℕ) (c : Continuation) (lv : ℕ) → 0 < strength c → least ≤ strength c → needs c ≤ lv → goes_on least c lv ≡ true
unfolding goes_on
goes_on_true least c lv some strong enough = grind (arith, nat_tests)

goes_on_false : (least : ℕ) (c : Continuation) (lv : ℕ) → strength c < least → goes_on least c lv ≡ false
unfolding goes_on
goes_on_false least c lv weak = grind (arith, nat_tests)

-- ---- arguments

-- with their depths
abbrev pub measured_list : ExprTrees → List Measured
measured_list no_exprs = []
measured_list (more_exprs e es) = (e, expr_depth e) ∷ measured_list es

measured_tokens : (es : ExprTrees) → exprs_tokens es ≡ parts_of expr_tokens (measured_list es)
measured_tokens no_exprs = refl
measured_tokens (more_exprs e es) = ap (λ (ts : List (List Token)). expr_tokens e ∷ ts) (measured_tokens es)

measured_trees : (es : ExprTrees) → exprs (trees_of (measured_list es)) ≡ es
measured_trees no_exprs = refl
measured_trees (more_exprs e es) = ap (λ (ts : ExprTrees). more_exprs e ts) (measured_trees es)

measured_deepest : (es : ExprTrees) → deepest (measured_list es) ≡ exprs_depth es
measured_deepest no_exprs = refl
measured_deepest (more_exprs e es) = ap (λ (n : ℕ). max (expr_depth e) n) (measured_deepest es)

measured_count : (es : ExprTrees) → length (measured_list es) ≡ exprs_count es
measured_count no_exprs = refl
measured_count (more_exprs e es) = ap suc (measured_count es)

measured_good : (depth : ℕ) (es : ExprTrees) → AreValidArgs es → exprs_depth es ≤ depth → Each (IsArg depth) (measured_list es)
measured_good depth no_exprs valid within = tt
measured_good depth (more_exprs e es) valid within = ((valid.0, valid.1, refl, omega arith), measured_good depth es valid.2 (omega arith))

-- what follows an argument doesn't continue it
follows_weak : (state : State) → Follows RightParenthesis state → ahead state ≡ 0
follows_weak state (inl comma) = ap (λ (s : Sight). strength (continuation_of s)) comma ∙ ap strength comma_continues
follows_weak state (inr last) = ap (λ (s : Sight). strength (continuation_of s)) last ∙ ap strength parenthesis_continues

pub follows_commas : (closing : Punct) (parts : List (List Token)) (lines : List ℕ) (rest : State) → Follows closing (tree.behind_commas closing parts lines ++ rest)
follows_commas closing [] lines rest = inr refl
follows_commas closing (part ∷ parts) lines rest = inl refl

-- each valid expression has a level
pub some_level : (t : ExprTree) → IsValidExpr t → 1 ≤ level t
some_level (Name bytes lines) v = omega arith
some_level (Number value ty lines) v = omega arith
some_level (Paren inner lines) v = omega arith
some_level (Call of args lines) v = omega arith
some_level (Unary op on lines) v = omega arith
some_level (Binary left op right lines) v = v.0
some_level (Assign left op right lines) v = omega arith

record GoesAt (least : ℕ) (c : Continuation) (lv : ℕ) : Type 0 where
  some : 0 < strength c
  strong : least ≤ strength c
  enough : needs c ≤ lv

two_of : (lines : List ℕ) → length lines ≡ 2 → get_or lines 0 0 ∷ get_or (drop 1 lines) 0 0 ∷ [] ≡ lines
two_of [] e = absurd (omega arith)
two_of (l ∷ []) e = absurd (omega arith)
two_of (l ∷ k ∷ []) e = refl
two_of (l ∷ k ∷ j ∷ lines) e = absurd (omega arith)

-- the call whose arguments were read
call_is : (left e : ExprTree) (es : ExprTrees) (lines : List ℕ) (rest : State) (nexts : List (ℕ × Measured)) (last : ℕ) → items_of nexts ≡ measured_list es
    → lines_of nexts ++ last ∷ [] ≡ drop 1 lines → length lines ≡ suc (list_marks (exprs_count (more_exprs e es)))
    → ◌≡◌ {A = Option (Measured × State)}
    (Some ((Call left (exprs (e ∷ trees_of (items_of nexts))) ((get_or lines 0 0 ∷ lines_of nexts) ++ last ∷ []), suc (max (expr_depth left) (max (max 0 (expr_depth e)) (deepest (items_of nexts))))), rest))
    (Some ((Call left (more_exprs e es) lines, expr_depth (Call left (more_exprs e es) lines)), rest))
call_is left e es lines rest nexts last items_is lines_is count =
    let trees : exprs (trees_of (items_of nexts)) ≡ es = ap (λ (is : List Measured). exprs (trees_of is)) items_is ∙ measured_trees es in
    let deep : max (max 0 (expr_depth e)) (deepest (items_of nexts)) ≡ max (expr_depth e) (exprs_depth es) =
    ap (λ (is : List Measured). max (max 0 (expr_depth e)) (deepest is)) items_is ∙ ap (λ (n : ℕ). max (max 0 (expr_depth e)) n) (measured_deepest es)
    ∙ ap (λ (n : ℕ). max n (exprs_depth es)) (omega arith) in
    let same : get_or lines 0 0 ∷ (lines_of nexts ++ last ∷ []) ≡ lines = ap (λ (ls : List ℕ). get_or lines 0 0 ∷ ls) lines_is ∙ some_line lines _ count in
    λ i. Some ((Call left (more_exprs e (trees i)) (same i), suc (max (expr_depth left) (deep i))), rest)

-- ---- expressions, where `below` reads those that are less deep

module _ (below : ℕ → Reader Measured) (depth : ℕ) (reads : Reads below depth) (refuses : Refuses below) where
  started : (least turns : ℕ) (state : State) (m : Measured) (rest : State) → turns + 0 ≡ suc depth → start below least state ≡ Some (m, rest)
      → expr_from below depth least state ≡ climb below depth least turns m rest
  unfolding expr_from
  started least turns state m rest e h =
      let same : suc depth ≡ turns = omega arith in
      bind_some (start below least) (λ left. climb below depth least (suc depth) left) state m rest h ∙ ap (λ (n : ℕ). climb below depth least n m rest) same

  name_reads : (least : ℕ) (bytes lines : List ℕ) (rest : State) → length lines ≡ 1 → start below least (expr_tokens (Name bytes lines) ++ rest) ≡ Some ((Name bytes lines, 1), rest)
  unfolding start name
  name_reads least bytes lines rest v =
      bind_some word _ (expr_tokens (Name bytes lines) ++ rest) (bytes, get_or lines 0 0) rest (word_reads bytes (get_or lines 0 0) rest)
      ∙ ap (λ (ls : List ℕ). Some ((Name bytes ls, 1), rest)) (one_line lines v)

  constant_reads : (least value : ℕ) (ty : _) (lines : List ℕ) (rest : State) → length lines ≡ 1
      → start below least (expr_tokens (Number value ty lines) ++ rest) ≡ Some ((Number value ty lines, 1), rest)
  unfolding start constant
  constant_reads least value ty lines rest v =
      bind_some number _ (expr_tokens (Number value ty lines) ++ rest) (value, ty, get_or lines 0 0) rest (number_reads value ty (get_or lines 0 0) rest)
      ∙ ap (λ (ls : List ℕ). Some ((Number value ty ls, 1), rest)) (one_line lines v)

  -- a parenthesis begins an expression in parentheses
  start_paren : (least line : ℕ) (behind : State) → start below least (token (kind.Mark LeftParenthesis) line ∷ behind) ≡ paren below (token (kind.Mark LeftParenthesis) line ∷ behind)
  unfolding start start_mark
  start_paren least line behind =
      ap (λ (b : Bool). cond b (paren below) (cond (is_unary_operator LeftParenthesis && nat_le least unary_level) (unary below) (λ s. None)) (token (kind.Mark LeftParenthesis) line ∷ behind))
      (same_mark_refl LeftParenthesis)

  start_unary : (least line : ℕ) (op : Punct) (behind : State) → is_unary_operator op ≡ true → least ≤ 15
      → start below least (token (kind.Mark op) line ∷ behind) ≡ unary below (token (kind.Mark op) line ∷ behind)
  unfolding start start_mark
  start_unary least line op behind is low =
      let le : nat_le least 15 ≡ true = grind (arith, nat_tests) in
      ap (λ (b : Bool). cond b (paren below) (cond (is_unary_operator op && nat_le least unary_level) (unary below) (λ s. None)) (token (kind.Mark op) line ∷ behind))
      (unary_no_parenthesis op is)
      ∙ ap (λ (b : Bool). cond (b && nat_le least unary_level) (unary below) (λ s. None) (token (kind.Mark op) line ∷ behind)) is
      ∙ ap (λ (b : Bool). cond b (unary below) (λ s. None) (token (kind.Mark op) line ∷ behind)) le

  paren_reads : (least : ℕ) (inner : ExprTree) (lines : List ℕ) (rest : State) → IsValidExpr (Paren inner lines) → expr_depth inner ≤ depth
      → start below least (expr_tokens (Paren inner lines) ++ rest) ≡ Some ((Paren inner lines, suc (expr_depth inner)), rest)
  unfolding paren
  paren_reads least inner lines rest v deep =
      let first = get_or lines 0 0 in
      let last = get_or lines 1 0 in
      let behind : State = token (kind.Mark RightParenthesis) last ∷ rest in
      let weak : ahead behind ≡ 0 = ap strength parenthesis_continues in
      let inside : State = expr_tokens inner ++ behind in
      ap (λ (s : State). start below least (token (kind.Mark LeftParenthesis) first ∷ s)) (append_assoc (expr_tokens inner) (token (kind.Mark RightParenthesis) last ∷ []) rest)
      ∙ start_paren least first inside
      ∙ bind_some (mark LeftParenthesis) _ (token (kind.Mark LeftParenthesis) first ∷ inside) first inside (mark_reads LeftParenthesis first inside)
      ∙ bind_some (below 1) _ inside (inner, expr_depth inner) behind (reads inner 1 behind v.0 deep (omega arith) (omega arith) (some_level inner v.0) (omega arith))
      ∙ bind_some (mark RightParenthesis) _ behind last rest (mark_reads RightParenthesis last rest)
      ∙ ap (λ (ls : List ℕ). Some ((Paren inner ls, suc (expr_depth inner)), rest)) (two_lines lines v.1)

  unary_reads : (least : ℕ) (op : Punct) (on : ExprTree) (lines : List ℕ) (rest : State) → IsValidExpr (Unary op on lines) → expr_depth on ≤ depth → least ≤ 15 → ahead rest < 14
      → start below least (expr_tokens (Unary op on lines) ++ rest) ≡ Some ((Unary op on lines, suc (expr_depth on)), rest)
  unfolding unary
  unary_reads least op on lines rest v deep low weak =
      let line = get_or lines 0 0 in
      let inside : State = expr_tokens on ++ rest in
      start_unary least line op inside v.0 low
      ∙ bind_some operator _ (token (kind.Mark op) line ∷ inside) (op, line) inside (operator_reads op line inside)
      ∙ bind_some (below 14) _ inside (on, expr_depth on) rest (reads on 14 rest v.1 deep (omega arith) (omega arith) v.2 weak)
      ∙ ap (λ (ls : List ℕ). Some ((Unary op on ls, suc (expr_depth on)), rest)) (one_line lines v.3)

  -- ---- operations

  climb_on : (least turns : ℕ) (left next : Measured) (state rest : State) (c : Continuation) → continuation_of (sight state) ≡ c → GoesAt least c (level left.0)
      → left.1 ≤ depth → operation_by below c left state ≡ Some (next, rest)
      → climb below depth least (suc turns) left state ≡ climb below depth least turns next rest
  unfolding climb operation
  climb_on least turns left next state rest c is goes shallow h =
      let b : goes_on least (continuation_of (sight state)) (level left.0) ≡ true =
      ap (λ (c : Continuation). goes_on least c (level left.0)) is ∙ goes_on_true least c (level left.0) goes.some goes.strong goes.enough in
      let d : nat_lt depth left.1 ≡ false = grind (arith, nat_tests) in
      cond-true (goes_on least (continuation_of (sight state)) (level left.0)) _ _ b
      ∙ bind_some (operation below depth (continuation_of (sight state)) left) (λ next. climb below depth least turns next) state next rest
      (ap (λ (b : Bool). cond b (λ (s : State). None) (operation_by below (continuation_of (sight state)) left) state) d
      ∙ ap (λ (c : Continuation). operation_by below c left state) is ∙ h)

  binary_reads : (left right : ExprTree) (op : Punct) (lines : List ℕ) (rest : State) → IsValidExpr (Binary left op right lines) → expr_depth right ≤ depth → ahead rest < suc (binary_level op)
      → binary below (binary_level op) (left, expr_depth left) (token (kind.Mark op) (get_or lines 0 0) ∷ (expr_tokens right ++ rest))
      ≡ Some ((Binary left op right lines, expr_depth (Binary left op right lines)), rest)
  unfolding binary
  binary_reads left right op lines rest v deep weak =
      let line = get_or lines 0 0 in
      let inside : State = expr_tokens right ++ rest in
      let most = binary_level_most op in
      bind_some operator _ (token (kind.Mark op) line ∷ inside) (op, line) inside (operator_reads op line inside)
      ∙ bind_some (below (suc (binary_level op))) _ inside (right, expr_depth right) rest
      (reads right (suc (binary_level op)) rest v.3 deep (omega arith) (omega arith) (let a : binary_level op < level right = v.4 in omega arith) weak)
      ∙ ap (λ (ls : List ℕ). Some ((Binary left op right ls, suc (max (expr_depth left) (expr_depth right))), rest)) (one_line lines v.5)

  assign_reads : (left right : ExprTree) (op : Punct) (lines : List ℕ) (rest : State) → IsValidExpr (Assign left op right lines) → expr_depth right ≤ depth → ahead rest < 2
      → assign below (left, expr_depth left) (token (kind.Mark op) (get_or lines 0 0) ∷ (expr_tokens right ++ rest))
      ≡ Some ((Assign left op right lines, expr_depth (Assign left op right lines)), rest)
  unfolding assign
  assign_reads left right op lines rest v deep weak =
      let line = get_or lines 0 0 in
      let inside : State = expr_tokens right ++ rest in
      bind_some operator _ (token (kind.Mark op) line ∷ inside) (op, line) inside (operator_reads op line inside)
      ∙ bind_some (below 2) _ inside (right, expr_depth right) rest (reads right 2 rest v.3 deep (omega arith) (omega arith) v.4 weak)
      ∙ ap (λ (ls : List ℕ). Some ((Assign left op right ls, suc (max (expr_depth left) (expr_depth right))), rest)) (one_line lines v.5)

  -- ---- calls

  arg_reads : (x : Measured) (behind : State) → IsArg depth x → Follows RightParenthesis behind → below 2 (expr_tokens x.0 ++ behind) ≡ Some (x, behind)
  arg_reads x behind good follows =
      let weak = follows_weak behind follows in
      let shallow : expr_depth x.0 ≤ depth = let a = good.2 in let b : x.1 ≤ depth = good.3 in omega (arith, a) in
      reads x.0 2 behind good.0 shallow (omega arith) (omega arith) good.1 (omega arith) ∙ ap (λ (n : ℕ). Some ((x.0, n), behind)) good.2

  args_or_none_some : (first : ℕ) (state : State) (m : Measured) (rest : State) → below 2 state ≡ Some (m, rest) → args_or_none below first state ≡ args below first state
  unfolding args_or_none
  args_or_none_some first state m rest h =
      ⊎_elim (λ shut. none_some _ (m, rest) (sym (refuses RightParenthesis 2 state parenthesis_begins_none shut) ∙ h))
      (λ other. cond-false (sees_mark RightParenthesis state) _ _ other) (cases_Bool (sees_mark RightParenthesis state))

  -- the arguments of a call, and the closing parenthesis
  some_args_read : (left e : ExprTree) (es : ExprTrees) (lines : List ℕ) (rest : State) → IsValidExpr (Call left (more_exprs e es) lines) → exprs_depth (more_exprs e es) ≤ depth
      → call below (left, expr_depth left) (token (kind.Mark LeftParenthesis) (get_or lines 0 0) ∷ (listed RightParenthesis (exprs_tokens (more_exprs e es)) (drop 1 lines) ++ rest))
      ≡ Some ((Call left (more_exprs e es) lines, expr_depth (Call left (more_exprs e es) lines)), rest)
  unfolding call args
  some_args_read left e es lines rest v deep =
      let first = get_or lines 0 0 in
      let count : length (drop 1 lines) ≡ suc (length (measured_list es)) = let a = measured_count es in let b = less_line lines _ v.3 in omega (arith, a, b) in
      let zip = zipped (measured_list es) (drop 1 lines) count in
      let nexts = zip.nexts in
      let last = zip.last in
      let args_valid = v.2 in
      let good_es : Each (IsArg depth) (measured_list es) = measured_good depth es args_valid.2 (omega arith) in
      let good_nexts : Each (IsArg depth) (items_of nexts) = subst (λ (is : List Measured). Each (IsArg depth) is) (sym zip.items_is) good_es in
      let tail : State = tree.behind_commas RightParenthesis (parts_of expr_tokens (items_of nexts)) (lines_of nexts ++ last ∷ []) ++ rest in
      let tail_is : tree.behind_commas RightParenthesis (exprs_tokens es) (drop 1 lines) ++ rest ≡ tail =
      ap (λ (ts : List (List Token)). tree.behind_commas RightParenthesis ts (drop 1 lines) ++ rest) (measured_tokens es)
      ∙ ap (λ (is : List Measured). tree.behind_commas RightParenthesis (parts_of expr_tokens is) (drop 1 lines) ++ rest) (sym zip.items_is)
      ∙ ap (λ (ls : List ℕ). tree.behind_commas RightParenthesis (parts_of expr_tokens (items_of nexts)) ls ++ rest) (sym zip.lines_is) in
      let inside : State = expr_tokens e ++ tail in
      let one : below 2 inside ≡ Some ((e, expr_depth e), tail) =
      arg_reads (e, expr_depth e) tail (args_valid.0, args_valid.1, refl, omega arith) (follows_commas RightParenthesis (parts_of expr_tokens (items_of nexts)) (lines_of nexts ++ last ∷ []) rest) in
      let all = with_item (listed_none (first ∷ [])) (e, expr_depth e) in
      let list = list_read (e ∷ trees_of (items_of nexts)) (max (max 0 (expr_depth e)) (deepest (items_of nexts))) (first ∷ lines_of nexts) in
      let closing : State = token (kind.Mark RightParenthesis) last ∷ rest in
      ap (λ (s : State). call below (left, expr_depth left) (token (kind.Mark LeftParenthesis) first ∷ s))
      (append_assoc (expr_tokens e) (tree.behind_commas RightParenthesis (exprs_tokens es) (drop 1 lines)) rest ∙ ap (λ (s : State). expr_tokens e ++ s) tail_is)
      ∙ bind_some (mark LeftParenthesis) _ (token (kind.Mark LeftParenthesis) first ∷ inside) first inside (mark_reads LeftParenthesis first inside)
      ∙ bind_some (args_or_none below first) _ inside list closing
      (args_or_none_some first inside (e, expr_depth e) tail one
      ∙ bind_some (below 2) _ inside (e, expr_depth e) tail one
      ∙ commas_reads (IsArg depth) expr_tokens (below 2) RightParenthesis parenthesis_no_comma arg_reads nexts last all rest good_nexts)
      ∙ bind_some (mark RightParenthesis) _ closing last rest (mark_reads RightParenthesis last rest)
      ∙ call_is left e es lines rest nexts last zip.items_is zip.lines_is v.3

  no_args_read : (left : ExprTree) (lines : List ℕ) (rest : State) → IsValidExpr (Call left no_exprs lines)
      → call below (left, expr_depth left) (token (kind.Mark LeftParenthesis) (get_or lines 0 0) ∷ (listed RightParenthesis (exprs_tokens no_exprs) (drop 1 lines) ++ rest))
      ≡ Some ((Call left no_exprs lines, expr_depth (Call left no_exprs lines)), rest)
  unfolding call args_or_none
  no_args_read left lines rest v =
      let first = get_or lines 0 0 in
      let last = get_or (drop 1 lines) 0 0 in
      let closing : State = token (kind.Mark RightParenthesis) last ∷ rest in
      bind_some (mark LeftParenthesis) _ (token (kind.Mark LeftParenthesis) first ∷ closing) first closing (mark_reads LeftParenthesis first closing)
      ∙ bind_some (args_or_none below first) _ closing (listed_none (first ∷ [])) closing
      (cond-true (sees_mark RightParenthesis closing) _ _ (same_mark_refl RightParenthesis))
      ∙ bind_some (mark RightParenthesis) _ closing last rest (mark_reads RightParenthesis last rest)
      ∙ ap (λ (ls : List ℕ). Some ((Call left no_exprs ls, suc (max (expr_depth left) 0)), rest)) (two_of lines v.3)

  call_reads : (left : ExprTree) (es : ExprTrees) (lines : List ℕ) (rest : State) → IsValidExpr (Call left es lines) → exprs_depth es ≤ depth
      → call below (left, expr_depth left) (token (kind.Mark LeftParenthesis) (get_or lines 0 0) ∷ (listed RightParenthesis (exprs_tokens es) (drop 1 lines) ++ rest))
      ≡ Some ((Call left es lines, expr_depth (Call left es lines)), rest)
  call_reads left no_exprs lines rest v deep = no_args_read left lines rest v
  call_reads left (more_exprs e es) lines rest v deep = some_args_read left e es lines rest v deep

  -- ---- reading a tree's tokens is the loop that stands at the tree

  pub tree_reads : (t : ExprTree) (least turns : ℕ) (rest : State) → IsValidExpr t → expr_depth t ≤ suc depth → least ≤ 14 → least ≤ level t → turns + spine t ≡ suc depth
      → ahead rest < bound t → expr_from below depth least (expr_tokens t ++ rest) ≡ climb below depth least turns (t, expr_depth t) rest
  tree_reads (Name bytes lines) least turns rest v deep low le room weak = started least turns _ (Name bytes lines, 1) rest room (name_reads least bytes lines rest v)
  tree_reads (Number value ty lines) least turns rest v deep low le room weak = started least turns _ (Number value ty lines, 1) rest room (constant_reads least value ty lines rest v)
  tree_reads (Paren inner lines) least turns rest v deep low le room weak =
      started least turns _ (Paren inner lines, suc (expr_depth inner)) rest room (paren_reads least inner lines rest v (omega arith))
  tree_reads (Unary op on lines) least turns rest v deep low le room weak =
      started least turns _ (Unary op on lines, suc (expr_depth on)) rest room (unary_reads least op on lines rest v (omega arith) (omega arith) weak)
  tree_reads (Call of es lines) least turns rest v deep low le room weak =
      let line = get_or lines 0 0 in
      let behind : State = token (kind.Mark LeftParenthesis) line ∷ (listed RightParenthesis (exprs_tokens es) (drop 1 lines) ++ rest) in
      let enough : 16 ≤ level of = v.1 in
      let strong : ahead behind ≡ 16 = ap strength calls in
      let far = bound_postfix of enough in
      ap (λ (s : State). expr_from below depth least s) (append_assoc (expr_tokens of) (token (kind.Mark LeftParenthesis) line ∷ listed RightParenthesis (exprs_tokens es) (drop 1 lines)) rest)
      ∙ tree_reads of least (suc turns) behind v.0 (omega arith) low (omega arith) (omega arith) (omega arith)
      ∙ climb_on least turns (of, expr_depth of) (Call of es lines, expr_depth (Call of es lines)) behind rest Calls calls
      (record { some = omega arith; strong = omega arith; enough = enough }) (omega arith) (call_reads of es lines rest v (omega arith))
  tree_reads (Binary left op right lines) least turns rest v deep low le room weak =
      let line = get_or lines 0 0 in
      let behind : State = token (kind.Mark op) line ∷ (expr_tokens right ++ rest) in
      let some : 0 < binary_level op = v.0 in
      let enough : binary_level op ≤ level left = v.2 in
      let least_level = binary_level_least op some in
      let most = binary_level_most op in
      let is : continuation_of_mark op ≡ Operates (binary_level op) = operates op some in
      let strong : ahead behind ≡ binary_level op = ap strength is in
      let far = bound_operand left (binary_level op) least_level most enough in
      ap (λ (s : State). expr_from below depth least s) (append_assoc (expr_tokens left) (token (kind.Mark op) line ∷ expr_tokens right) rest)
      ∙ tree_reads left least (suc turns) behind v.1 (omega arith) low (omega arith) (omega arith) (omega arith)
      ∙ climb_on least turns (left, expr_depth left) (Binary left op right lines, expr_depth (Binary left op right lines)) behind rest (Operates (binary_level op)) is
      (record { some = some; strong = le; enough = enough }) (omega arith) (binary_reads left right op lines rest v (omega arith) weak)
  tree_reads (Assign left op right lines) least turns rest v deep low le room weak =
      let line = get_or lines 0 0 in
      let behind : State = token (kind.Mark op) line ∷ (expr_tokens right ++ rest) in
      let enough : 15 ≤ level left = v.2 in
      let is : continuation_of_mark op ≡ Assigns = assigns op v.0 in
      let strong : ahead behind ≡ 2 = ap strength is in
      let far = bound_unary left enough in
      ap (λ (s : State). expr_from below depth least s) (append_assoc (expr_tokens left) (token (kind.Mark op) line ∷ expr_tokens right) rest)
      ∙ tree_reads left least (suc turns) behind v.1 (omega arith) low (omega arith) (omega arith) (omega arith)
      ∙ climb_on least turns (left, expr_depth left) (Assign left op right lines, expr_depth (Assign left op right lines)) behind rest Assigns is
      (record { some = omega arith; strong = le; enough = enough }) (omega arith) (assign_reads left right op lines rest v (omega arith) weak)

  pub expr_from_reads : Reads (expr_from below depth) (suc depth)
  unfolding climb
  expr_from_reads t least rest v deep some low le weak =
      let n : ℕ = depth - spine t in
      let left = spine_deep t in
      let room : suc n + spine t ≡ suc depth = omega arith in
      let far = bound_level t least low le in
      tree_reads t least (suc n) rest v deep low le room (omega arith)
      ∙ cond-false (goes_on least (continuation_of (sight rest)) (level t)) _ _ (goes_on_false least (continuation_of (sight rest)) (level t) weak)

-- ---- what begins no expression

refuses_by : (depth : ℕ) (p q : Punct) (least : ℕ) (state : State) (none : BeginsNone p) → same_mark q p ≡ true → start_mark (expr depth) least q state ≡ None
unfolding start_mark
refuses_by depth p q least state none same =
    let is : q ≡ p = same_mark_same q p same in
    ap (λ (q : Punct). start_mark (expr depth) least q state) is
    ∙ ap (λ (b : Bool). cond b (paren (expr depth)) (cond (is_unary_operator p && nat_le least unary_level) (unary (expr depth)) (λ s. None)) state) none.no_parenthesis
    ∙ ap (λ (b : Bool). cond (b && nat_le least unary_level) (unary (expr depth)) (λ s. None) state) none.no_operator

start_refuses : (depth : ℕ) (p : Punct) (least : ℕ) (s : Sight) (state : State) → BeginsNone p → shows_mark p s ≡ true → start_by (expr depth) least s state ≡ None
start_refuses depth p least (sights.Mark q) state none sees = refuses_by depth p q least state none sees
start_refuses depth p least sights.End state none sees = absurd (true≢false (sym sees))
start_refuses depth p least sights.Word state none sees = absurd (true≢false (sym sees))
start_refuses depth p least sights.Number state none sees = absurd (true≢false (sym sees))
start_refuses depth p least (sights.Key k) state none sees = absurd (true≢false (sym sees))
start_refuses depth p least sights.Literal state none sees = absurd (true≢false (sym sees))

pub expr_refuses : (depth : ℕ) → Refuses (expr depth)
unfolding expr expr_from start
expr_refuses zero p least state none sees = refl
expr_refuses (suc depth) p least state none sees =
    bind_none (start (expr depth) least) (λ left. climb (expr depth) depth least (suc depth) left) state (start_refuses depth p least (sight state) state none sees)

pub expr_reads : (depth : ℕ) → Reads (expr depth) depth
unfolding expr
expr_reads zero t least rest v deep some low le weak = let a = spine_deep t in absurd (omega arith)
expr_reads (suc depth) t least rest v deep some low le weak = expr_from_reads (expr depth) depth (expr_reads depth) (expr_refuses depth) t least rest v deep some low le weak
