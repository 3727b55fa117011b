-- What the reader of expressions gives stands in front of the tokens.
use Rattle.std.proofs.Common.{◌≡◌, ℕ, zero, suc, ◌<◌, ◌≤◌, max, Bool, true, false, ◌&&◌, nat_lt, nat_le, cond, Option, Some, None, List, [], ◌∷◌, ◌++◌, length, refl, sym, ap, ◌∙◌, subst, arith, append_assoc, length-append}
use Rattle.std.proofs.lemmas.Bool.Decides.{nat_tests}
use Rattle.cx_lex.specs.declared.token.Punct.{Punct}
use Rattle.cx_lex.specs.declared.token.Punct.TheVariants.{LeftParenthesis, RightParenthesis}
use Rattle.cx_lex.specs.declared.token.Token.{Token}
use Rattle.cx_lex.specs.declared.token.TokenKind.TheVariants as kind
use Rattle.straight_parse.specs.declared.continuation.Continuation.{Continuation}
use Rattle.straight_parse.specs.declared.continuation.Continuation.TheVariants.{Nothing, Operates, Assigns, Calls}
use Rattle.straight_parse.specs.declared.sight.Sight.{Sight}
use Rattle.straight_parse.specs.declared.sight.Sight.TheVariants as sights
use Rattle.straight_parse.specs.Continuations.{continuation_of, continuation_of_mark, goes_on, strength, needs}
use Rattle.straight_parse.specs.Exprs.{Measured, name, constant, paren, unary, start_mark, start_by, start, args, args_or_none, call, call_of, binary, assign, operation, operation_by, climb, expr_from, expr}
use Rattle.straight_parse.specs.Lists.{ListRead, listed_none, with_line}
use Rattle.straight_parse.specs.Reading.{State, Reader, bind}
use Rattle.straight_parse.specs.Sights.{sight, sees_mark, same_mark, mark, word, number, operator}
use Rattle.straight_parse.proofs.Commas.{CommaList, commas_sound, trees_of, parts_of, deepest}
use Rattle.straight_parse.proofs.Many.{Each}
use Rattle.straight_parse.proofs.Marks.{binary_level_most}
use Rattle.straight_parse.proofs.Readers.{bind_elim, same_answer, none_some, token, word_front, number_front, operator_front, mark_front}
use Rattle.straight_tree.specs.Depth.{expr_depth, exprs_depth}
use Rattle.straight_tree.specs.Levels.{unary_level, binary_level, is_unary_operator, is_assignment_operator, level}
use Rattle.straight_tree.specs.Tokens.{expr_tokens, exprs_tokens, listed}
use Rattle.straight_tree.specs.Trees.{ExprTree, Name, Number, Paren, Call, Unary, Binary, Assign}
use Rattle.straight_tree.specs.Valid.{IsValidExpr, AreValidArgs, exprs_count, list_marks}
use Rattle.straight_tree.specs.Views.{exprs}

-- an expression of the level `least` or above, at most `depth` deep, stands in front of the rest
pub record Stands (depth least : ℕ) (state : State) (m : Measured) (after : State) : Type 0 where
  pub spelled : state ≡ expr_tokens m.0 ++ after
  pub valid : IsValidExpr m.0
  pub level : least ≤ level m.0
  pub deep : expr_depth m.0 ≡ m.1
  pub within : m.1 ≤ depth

-- a reader of expressions gives what stands in front
abbrev pub Sound : (ℕ → Reader Measured) → ℕ → Type 0
Sound read depth = (least : ℕ) (state : State) (m : Measured) (after : State) → least ≤ 14 → read least state ≡ Some (m, after) → Stands depth least state m after

-- ---- equations of tokens

between : (t : Token) (a : List Token) (u : Token) (s0 s1 s2 s3 : State) → s0 ≡ t ∷ s1 → s1 ≡ a ++ s2 → s2 ≡ u ∷ s3 → s0 ≡ (t ∷ a ++ u ∷ []) ++ s3
between t a u s0 s1 s2 s3 e f g = e ∙ ap (λ (s : State). t ∷ s) (f ∙ ap (λ (s : State). a ++ s) g ∙ sym (append_assoc a (u ∷ []) s3))

infix_tokens : (a : List Token) (t : Token) (b : List Token) (s0 s1 s2 s3 : State) → s0 ≡ a ++ s1 → s1 ≡ t ∷ s2 → s2 ≡ b ++ s3 → s0 ≡ (a ++ t ∷ b) ++ s3
infix_tokens a t b s0 s1 s2 s3 e f g = e ∙ ap (λ (s : State). a ++ s) (f ∙ ap (λ (s : State). t ∷ s) g) ∙ sym (append_assoc a (t ∷ b) s3)

prefix_tokens : (t : Token) (b : List Token) (s0 s1 s2 : State) → s0 ≡ t ∷ s1 → s1 ≡ b ++ s2 → s0 ≡ (t ∷ b) ++ s2
prefix_tokens t b s0 s1 s2 e f = e ∙ ap (λ (s : State). t ∷ s) f

-- ---- operands

name_sound : (depth least : ℕ) (state : State) (m : Measured) (after : State) → least ≤ 14 → name state ≡ Some (m, after) → Stands (suc depth) least state m after
unfolding name
name_sound depth least state m after low h =
    bind_elim _ word _ state m after h (λ w mid e k.
    same_answer (Stands (suc depth) least state) (Name w.0 (w.1 ∷ []), 1) mid m after k
    (record { spelled = word_front state w mid e; valid = refl; level = omega arith; deep = refl; within = omega arith }))

constant_sound : (depth least : ℕ) (state : State) (m : Measured) (after : State) → least ≤ 14 → constant state ≡ Some (m, after) → Stands (suc depth) least state m after
unfolding constant
constant_sound depth least state m after low h =
    bind_elim _ number _ state m after h (λ n mid e k.
    same_answer (Stands (suc depth) least state) (Number n.0 n.1 (n.2 ∷ []), 1) mid m after k
    (record { spelled = number_front state n mid e; valid = refl; level = omega arith; deep = refl; within = omega arith }))

-- ---- what continues an operand

-- what a mark is that makes an operand part of a larger expression
abbrev pub Continues : Punct → Continuation → Type 0
Continues p (Operates lv) = (lv ≡ binary_level p) × (0 < lv)
Continues p Assigns = is_assignment_operator p ≡ true
Continues p Calls = Unit {0}
Continues p Nothing = Unit {0}

continues_by : (p : Punct) (b1 b2 b3 : Bool) → nat_lt 0 (binary_level p) ≡ b1 → is_assignment_operator p ≡ b2
    → Continues p (cond b1 (Operates (binary_level p)) (cond b2 Assigns (cond b3 Calls Nothing)))
continues_by p true b2 b3 e f = (refl, grind (arith, nat_tests))
continues_by p false true b3 e f = f
continues_by p false false true e f = tt
continues_by p false false false e f = tt

pub continues : (p : Punct) → Continues p (continuation_of_mark p)
unfolding continuation_of_mark
continues p = continues_by p (nat_lt 0 (binary_level p)) (is_assignment_operator p) (same_mark p LeftParenthesis) refl refl

pub record GoesOn (least : ℕ) (c : Continuation) (lv : ℕ) : Type 0 where
  pub some : 0 < strength c
  pub strong : least ≤ strength c
  pub enough : needs c ≤ lv

pub goes_on_parts : (least : ℕ) (c : Continuation) (lv : ℕ) → goes_on least c lv ≡ true → GoesOn least c lv
unfolding goes_on
goes_on_parts least c lv h = record { some = grind (arith, nat_tests); strong = grind (arith, nat_tests); enough = grind (arith, nat_tests) }

-- ---- arguments

-- an argument and its depth
abbrev pub IsArg : ℕ → Measured → Type 0
IsArg depth m = IsValidExpr m.0 × (2 ≤ level m.0) × (expr_depth m.0 ≡ m.1) × (m.1 ≤ depth)

pub args_tokens : (items : List Measured) → parts_of expr_tokens items ≡ exprs_tokens (exprs (trees_of items))
args_tokens [] = refl
args_tokens (i ∷ is) = ap (λ (ts : List (List Token)). expr_tokens i.0 ∷ ts) (args_tokens is)

pub args_count : (items : List Measured) → exprs_count (exprs (trees_of items)) ≡ length items
args_count [] = refl
args_count (i ∷ is) = ap suc (args_count is)

args_valid : (depth : ℕ) (items : List Measured) → Each (IsArg depth) items → AreValidArgs (exprs (trees_of items))
args_valid depth [] good = tt
args_valid depth (i ∷ is) good = (good.0.0, good.0.1, args_valid depth is good.1)

args_deep : (depth : ℕ) (items : List Measured) → Each (IsArg depth) items → exprs_depth (exprs (trees_of items)) ≡ deepest items
args_deep depth [] good = refl
args_deep depth (i ∷ is) good = let a = good.0.2 in let b = args_deep depth is good.1 in cc

args_within : (depth : ℕ) (items : List Measured) → Each (IsArg depth) items → deepest items ≤ depth
args_within depth [] good = omega arith
args_within depth (i ∷ is) good = let a : i.1 ≤ depth = good.0.3 in let b = args_within depth is good.1 in omega arith

-- the arguments of a call stand in front; the closing parenthesis isn't read yet
pub record ArgsStand (depth first : ℕ) (state : State) (list : ListRead ExprTree) (after : State) : Type 0 where
  pub marks : List ℕ
  pub lines : list.lines ≡ first ∷ marks
  pub count : suc (length marks) ≡ list_marks (exprs_count (exprs list.list))
  pub valid : AreValidArgs (exprs list.list)
  pub deep : exprs_depth (exprs list.list) ≡ list.depth
  pub within : list.depth ≤ depth
  pub spelled : (last : ℕ) (rest : State) → after ≡ token (kind.Mark RightParenthesis) last ∷ rest
      → state ≡ listed RightParenthesis (exprs_tokens (exprs list.list)) (marks ++ last ∷ []) ++ rest

no_args : (depth first : ℕ) (state : State) → ArgsStand depth first state (listed_none (first ∷ [])) state
no_args depth first state = record { marks = []; lines = refl; count = refl; valid = tt; deep = refl; within = omega arith; spelled = λ last rest e. e }

some_args : (depth first : ℕ) (state : State) (list : ListRead ExprTree) (after : State)
    → CommaList (IsArg depth) expr_tokens (first ∷ []) state list after → ArgsStand depth first state list after
some_args depth first state list after read =
    let items = read.items in
    subst (λ (l : ListRead ExprTree). ArgsStand depth first state l after) (sym read.made) (record {
      marks = read.marks;
      lines = refl;
      count = let a = args_count items in let b = read.count in omega (arith, a, b);
      valid = args_valid depth items read.good;
      deep = args_deep depth items read.good;
      within = args_within depth items read.good;
      spelled = λ last rest e. read.spelled RightParenthesis last rest e
          ∙ ap (λ (ts : List (List Token)). listed RightParenthesis ts (read.marks ++ last ∷ []) ++ rest) (args_tokens items);
    })

call_tokens : (a : List Token) (t : Token) (b : List Token) (s0 s1 s2 rest : State) → s0 ≡ a ++ s1 → s1 ≡ t ∷ s2 → s2 ≡ b ++ rest → s0 ≡ (a ++ t ∷ b) ++ rest
call_tokens a t b s0 s1 s2 rest e f g = infix_tokens a t b s0 s1 s2 rest e f g

-- ---- expressions, where `below` is sound

module _ (below : ℕ → Reader Measured) (depth : ℕ) (sound : Sound below depth) where
  paren_sound : (least : ℕ) (state : State) (m : Measured) (after : State) → least ≤ 14 → paren below state ≡ Some (m, after) → Stands (suc depth) least state m after
  unfolding paren
  paren_sound least state m after low h =
      bind_elim _ (mark LeftParenthesis) _ state m after h (λ first s1 e1 k1.
      bind_elim _ (below 1) _ s1 m after k1 (λ inner s2 e2 k2.
      bind_elim _ (mark RightParenthesis) _ s2 m after k2 (λ last s3 e3 k3.
      let inside = sound 1 s1 inner s2 (omega arith) e2 in
      same_answer (Stands (suc depth) least state) (Paren inner.0 (first ∷ last ∷ []), suc inner.1) s3 m after k3
      (record {
        spelled = between (token (kind.Mark LeftParenthesis) first) (expr_tokens inner.0) (token (kind.Mark RightParenthesis) last) state s1 s2 s3
            (mark_front LeftParenthesis state first s1 e1) inside.spelled (mark_front RightParenthesis s2 last s3 e3);
        valid = (inside.valid, refl);
        level = omega arith;
        deep = ap suc inside.deep;
        within = let le : inner.1 ≤ depth = inside.within in omega arith;
      }))))

  unary_sound : (least : ℕ) (state : State) (m : Measured) (after : State) → least ≤ 14
      → ((op : Punct) (line : ℕ) (mid : State) → state ≡ token (kind.Mark op) line ∷ mid → is_unary_operator op ≡ true)
      → unary below state ≡ Some (m, after) → Stands (suc depth) least state m after
  unfolding unary
  unary_sound least state m after low is h =
      bind_elim _ operator _ state m after h (λ op s1 e1 k1.
      bind_elim _ (below 14) _ s1 m after k1 (λ on s2 e2 k2.
      let inside = sound 14 s1 on s2 (omega arith) e2 in
      let front = operator_front state op s1 e1 in
      same_answer (Stands (suc depth) least state) (Unary op.0 on.0 (op.1 ∷ []), suc on.1) s2 m after k2
      (record {
        spelled = prefix_tokens (token (kind.Mark op.0) op.1) (expr_tokens on.0) state s1 s2 front inside.spelled;
        valid = (is op.0 op.1 s1 front, inside.valid, inside.level, refl);
        level = omega arith;
        deep = ap suc inside.deep;
        within = let le : on.1 ≤ depth = inside.within in omega arith;
      })))

  start_mark_by : (least : ℕ) (punct : Punct) (state : State) (m : Measured) (after : State) (b1 b2 b3 : Bool) → least ≤ 14 → sight state ≡ sights.Mark punct
      → is_unary_operator punct ≡ b2
      → cond b1 (paren below) (cond (b2 && b3) (unary below) (λ state. None)) state ≡ Some (m, after) → Stands (suc depth) least state m after
  start_mark_by least punct state m after true b2 b3 low is one h = paren_sound least state m after low h
  start_mark_by least punct state m after false true true low is one h =
      unary_sound least state m after low (λ op line mid e.
      let same : sights.Mark punct ≡ sights.Mark op = sym is ∙ ap sight e in
      let same_punct : punct ≡ op = cc in
      subst (λ (p : Punct). is_unary_operator p ≡ true) same_punct one) h
  start_mark_by least punct state m after false true false low is one h = none_some _ _ h
  start_mark_by least punct state m after false false b3 low is one h = none_some _ _ h

  start_sound_by : (least : ℕ) (s : Sight) (state : State) (m : Measured) (after : State) → least ≤ 14 → sight state ≡ s
      → start_by below least s state ≡ Some (m, after) → Stands (suc depth) least state m after
  unfolding start_mark
  start_sound_by least sights.Word state m after low is h = name_sound depth least state m after low h
  start_sound_by least sights.Number state m after low is h = constant_sound depth least state m after low h
  start_sound_by least (sights.Mark punct) state m after low is h =
      start_mark_by least punct state m after (same_mark punct LeftParenthesis) (is_unary_operator punct) (nat_le least unary_level) low is refl h
  start_sound_by least sights.End state m after low is h = none_some _ _ h
  start_sound_by least (sights.Key k) state m after low is h = none_some _ _ h
  start_sound_by least sights.Literal state m after low is h = none_some _ _ h

  start_sound : (least : ℕ) (state : State) (m : Measured) (after : State) → least ≤ 14 → start below least state ≡ Some (m, after) → Stands (suc depth) least state m after
  unfolding start
  start_sound least state m after low h = start_sound_by least (sight state) state m after low refl h

  -- what continues a left operand that stands in front
  module _ (least : ℕ) (state : State) (left : Measured) (mid : State) (stands : Stands (suc depth) least state left mid) (shallow : left.1 ≤ depth) where
    binary_sound : (lv : ℕ) (m : Measured) (after : State) → continuation_of (sight mid) ≡ Operates lv → least ≤ lv → lv ≤ level left.0
        → binary below lv left mid ≡ Some (m, after) → Stands (suc depth) least state m after
    unfolding binary
    binary_sound lv m after is strong enough h =
        bind_elim _ operator _ mid m after h (λ op s1 e1 k1.
        bind_elim _ (below (suc lv)) _ s1 m after k1 (λ right s2 e2 k2.
        let front = operator_front mid op s1 e1 in
        let same : Operates lv ≡ continuation_of_mark op.0 = sym is ∙ ap (λ (s : State). continuation_of (sight s)) front in
        let known : Continues op.0 (Operates lv) = subst (Continues op.0) (sym same) (continues op.0) in
        let lv_is : lv ≡ binary_level op.0 = known.0 in
        let some : 0 < lv = known.1 in
        let most : binary_level op.0 ≤ 13 = binary_level_most op.0 in
        let inside = sound (suc lv) s1 right s2 (omega arith) e2 in
        let high : suc lv ≤ level right.0 = inside.level in
        same_answer (Stands (suc depth) least state) (Binary left.0 op.0 right.0 (op.1 ∷ []), suc (max left.1 right.1)) s2 m after k2
        (record {
          spelled = infix_tokens (expr_tokens left.0) (token (kind.Mark op.0) op.1) (expr_tokens right.0) state mid s1 s2 stands.spelled front inside.spelled;
          valid = (omega arith, stands.valid, omega arith, inside.valid, omega arith, refl);
          level = omega arith;
          deep = let a = stands.deep in let b = inside.deep in cc;
          within = let le : right.1 ≤ depth = inside.within in omega arith;
        })))

    assign_sound : (m : Measured) (after : State) → continuation_of (sight mid) ≡ Assigns → least ≤ 2 → 15 ≤ level left.0
        → assign below left mid ≡ Some (m, after) → Stands (suc depth) least state m after
    unfolding assign
    assign_sound m after is strong enough h =
        bind_elim _ operator _ mid m after h (λ op s1 e1 k1.
        bind_elim _ (below 2) _ s1 m after k1 (λ right s2 e2 k2.
        let front = operator_front mid op s1 e1 in
        let same : Assigns ≡ continuation_of_mark op.0 = sym is ∙ ap (λ (s : State). continuation_of (sight s)) front in
        let known : Continues op.0 Assigns = subst (Continues op.0) (sym same) (continues op.0) in
        let inside = sound 2 s1 right s2 (omega arith) e2 in
        same_answer (Stands (suc depth) least state) (Assign left.0 op.0 right.0 (op.1 ∷ []), suc (max left.1 right.1)) s2 m after k2
        (record {
          spelled = infix_tokens (expr_tokens left.0) (token (kind.Mark op.0) op.1) (expr_tokens right.0) state mid s1 s2 stands.spelled front inside.spelled;
          valid = (known, stands.valid, enough, inside.valid, inside.level, refl);
          level = strong;
          deep = let a = stands.deep in let b = inside.deep in cc;
          within = let le : right.1 ≤ depth = inside.within in omega arith;
        })))

    args_sound : (first : ℕ) (list : ListRead ExprTree) (s1 after : State) → args below first s1 ≡ Some (list, after) → ArgsStand depth first s1 list after
    unfolding args
    args_sound first list s1 after h =
        bind_elim _ (below 2) _ s1 list after h (λ arg s2 e k.
        let one = sound 2 s1 arg s2 (omega arith) e in
        some_args depth first s1 list after
        (commas_sound (IsArg depth) expr_tokens (below 2)
        (λ state m after e. let other = sound 2 state m after (omega arith) e in (other.spelled, (other.valid, other.level, other.deep, other.within)))
        (first ∷ []) s1 s2 arg list after one.spelled (one.valid, one.level, one.deep, one.within) k))

    args_sound_by : (first : ℕ) (list : ListRead ExprTree) (s1 after : State) (test : Bool)
        → cond {A = Option (ListRead ExprTree × State)} test (Some (listed_none (first ∷ []), s1)) (args below first s1) ≡ Some (list, after) → ArgsStand depth first s1 list after
    args_sound_by first list s1 after true h = same_answer (ArgsStand depth first s1) (listed_none (first ∷ [])) s1 list after h (no_args depth first s1)
    args_sound_by first list s1 after false h = args_sound first list s1 after h

    call_sound : (m : Measured) (after : State) → least ≤ 16 → 16 ≤ level left.0 → call below left mid ≡ Some (m, after) → Stands (suc depth) least state m after
    unfolding call args_or_none
    call_sound m after strong enough h =
        bind_elim _ (mark LeftParenthesis) _ mid m after h (λ first s1 e1 k1.
        bind_elim _ (args_or_none below first) _ s1 m after k1 (λ list s2 e2 k2.
        bind_elim _ (mark RightParenthesis) _ s2 m after k2 (λ last s3 e3 k3.
        let inside = args_sound_by first list s1 s2 (sees_mark RightParenthesis s1) e2 in
        let lines : list.lines ++ last ∷ [] ≡ first ∷ (inside.marks ++ last ∷ []) = ap (λ (ls : List ℕ). ls ++ last ∷ []) inside.lines in
        let P : List ℕ → Type 0 = λ ls. Stands (suc depth) least state (Call left.0 (exprs list.list) ls, suc (max left.1 list.depth)) s3 in
        same_answer (Stands (suc depth) least state) (call_of left (with_line list last)) s3 m after k3
        (subst P (sym lines) (record {
          spelled = call_tokens (expr_tokens left.0) (token (kind.Mark LeftParenthesis) first) (listed RightParenthesis (exprs_tokens (exprs list.list)) (inside.marks ++ last ∷ []))
              state mid s1 s3 stands.spelled (mark_front LeftParenthesis mid first s1 e1) (inside.spelled last s3 (mark_front RightParenthesis s2 last s3 e3));
          valid = (stands.valid, enough, inside.valid, let a = inside.count in omega (arith, a, length-append inside.marks (last ∷ [])));
          level = strong;
          deep = let a = stands.deep in let b = inside.deep in cc;
          within = let le : list.depth ≤ depth = inside.within in omega arith;
        })))))

    operation_by_sound : (c : Continuation) (m : Measured) (after : State) → continuation_of (sight mid) ≡ c → GoesOn least c (level left.0)
        → operation_by below c left mid ≡ Some (m, after) → Stands (suc depth) least state m after
    operation_by_sound (Operates lv) m after is goes h = binary_sound lv m after is goes.strong goes.enough h
    operation_by_sound Assigns m after is goes h = assign_sound m after is goes.strong goes.enough h
    operation_by_sound Calls m after is goes h = call_sound m after goes.strong goes.enough h
    operation_by_sound Nothing m after is goes h = none_some _ _ h

  operation_sound_by : (least : ℕ) (state : State) (left : Measured) (mid : State) (c : Continuation) (m : Measured) (after : State) (test : Bool) → nat_lt depth left.1 ≡ test
      → Stands (suc depth) least state left mid → continuation_of (sight mid) ≡ c → GoesOn least c (level left.0)
      → cond test (λ (s : State). None) (operation_by below c left) mid ≡ Some (m, after) → Stands (suc depth) least state m after
  operation_sound_by least state left mid c m after true deep stands is goes h = none_some _ _ h
  operation_sound_by least state left mid c m after false deep stands is goes h =
      let shallow : left.1 ≤ depth = grind (arith, nat_tests) in
      operation_by_sound least state left mid stands shallow c m after is goes h

  operation_sound : (least : ℕ) (state : State) (left : Measured) (mid : State) (m : Measured) (after : State)
      → Stands (suc depth) least state left mid → goes_on least (continuation_of (sight mid)) (level left.0) ≡ true
      → operation below depth (continuation_of (sight mid)) left mid ≡ Some (m, after) → Stands (suc depth) least state m after
  unfolding operation
  operation_sound least state left mid m after stands goes h =
      operation_sound_by least state left mid (continuation_of (sight mid)) m after (nat_lt depth left.1) refl stands refl
      (goes_on_parts least (continuation_of (sight mid)) (level left.0) goes) h

  climb_turn : (least : ℕ) (state : State) (turns : ℕ) (left : Measured) (mid : State) (m : Measured) (after : State) (test : Bool)
      → goes_on least (continuation_of (sight mid)) (level left.0) ≡ test → Stands (suc depth) least state left mid
      → ((left : Measured) (mid : State) → Stands (suc depth) least state left mid → climb below depth least turns left mid ≡ Some (m, after) → Stands (suc depth) least state m after)
      → cond {A = Option (Measured × State)} test (bind (operation below depth (continuation_of (sight mid)) left) (λ next. climb below depth least turns next) mid) (Some (left, mid)) ≡ Some (m, after)
      → Stands (suc depth) least state m after
  climb_turn least state turns left mid m after true goes stands rec h =
      bind_elim _ (operation below depth (continuation_of (sight mid)) left) _ mid m after h (λ next behind e k.
      rec next behind (operation_sound least state left mid next behind stands goes e) k)
  climb_turn least state turns left mid m after false goes stands rec h = same_answer (Stands (suc depth) least state) left mid m after h stands

  climb_sound : (least : ℕ) (state : State) (turns : ℕ) (left : Measured) (mid : State) (m : Measured) (after : State) → Stands (suc depth) least state left mid
      → climb below depth least turns left mid ≡ Some (m, after) → Stands (suc depth) least state m after
  unfolding climb
  climb_sound least state zero left mid m after stands h = none_some _ _ h
  climb_sound least state (suc turns) left mid m after stands h =
      climb_turn least state turns left mid m after (goes_on least (continuation_of (sight mid)) (level left.0)) refl stands
      (λ next behind more k. climb_sound least state turns next behind m after more k) h

  pub expr_from_sound : Sound (expr_from below depth) (suc depth)
  unfolding expr_from
  expr_from_sound least state m after low h =
      bind_elim _ (start below least) _ state m after h (λ left mid e k.
      climb_sound least state (suc depth) left mid m after (start_sound least state left mid low e) k)

pub expr_sound : (depth : ℕ) → Sound (expr depth) depth
unfolding expr
expr_sound zero least state m after low h = none_some _ _ h
expr_sound (suc depth) least state m after low h = expr_from_sound (expr depth) depth (expr_sound depth) least state m after low h
