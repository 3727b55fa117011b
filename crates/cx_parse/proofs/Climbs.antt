-- An expression is read from its left edge on: the loop that stands at the edge goes on to the whole.
use Rattle.std.proofs.Common.{◌≡◌, ℕ, suc, ◌+◌, ◌≤◌, false, nat_lt, List, [], ◌++◌, refl, sym, ap, ◌∙◌, subst, arith, append_assoc}
use Rattle.std.proofs.lemmas.Bool.{cond-true, cond-false}
use Rattle.std.proofs.lemmas.Bool.Decides.{nat_tests}
use Rattle.std.proofs.lemmas.List.{append-nil}
use Rattle.cx_cursor.specs.Reading.{State, at}
use Rattle.cx_cursor.specs.Sights.{sight, same_mark}
use Rattle.cx_cursor.proofs.Readers.{bind_some}
use Rattle.cx_expr.specs.Below.{Below}
use Rattle.cx_words.specs.Continuations.{continuation_of, goes_on}
use Rattle.cx_expr.specs.Exprs as read
use Rattle.cx_expr.specs.Exprs.{picked, stepped, operation, climb}
use Rattle.cx_expr.specs.Tails.{TailTree, indexed, called, dotted, pointed, up, down, operated, chosen, assigned, sequenced, join}
use Rattle.cx_words.specs.declared.continuation.Continuation.{Continuation}
use Rattle.cx_lex.specs.declared.token.Punct.TheVariants as punct
use Rattle.cx_lex.specs.declared.token.Token.{Token}
use Rattle.cx_parse.proofs.Operands.{tail_tokens, new_tail, continues, joined_tokens, joined_names, spine, bound, Operand, operand, tail_ends, tail_continues, goes_on_true}
use Rattle.cx_parse.proofs.ReadsSteps.{one_line, two_lines}
use Rattle.cx_parse.proofs.ReadsTails.{index_reads, call_reads, picked_reads, stepped_reads, operated_reads, chosen_reads, assigned_reads, sequenced_reads}
use Rattle.cx_parse.proofs.Stood.{Reads, EndsExpr, AllRead, left_edge}
use Rattle.cx_tree.specs.Depth.{expr_depth}
use Rattle.cx_tree.specs.Levels.{level}
use Rattle.cx_tree.specs.Names.{Binding, new_expr, ExprStands}
use Rattle.cx_tree.specs.Tokens.{expr_tokens}
use Rattle.cx_tree.specs.Trees.{ExprTree, Name, Number, Letter, Text, Paren, Index, Call, Dot, Arrow, PostUp, PostDown, Literal, PreUp, PreDown, Unary, SizeofExpr, SizeofType, Cast, Binary, Cond, Assign, Comma}
use Rattle.cx_tree.specs.Valid.{IsValidExpr}

-- what stands behind the left edge of an expression
abbrev pub behind_edge : ExprTree → List Token
behind_edge (Index of index lines) = behind_edge of ++ tail_tokens (indexed index lines)
behind_edge (Call of args lines) = behind_edge of ++ tail_tokens (called args lines)
behind_edge (Dot of member lines) = behind_edge of ++ tail_tokens (dotted member lines)
behind_edge (Arrow of member lines) = behind_edge of ++ tail_tokens (pointed member lines)
behind_edge (PostUp of lines) = behind_edge of ++ tail_tokens (up lines)
behind_edge (PostDown of lines) = behind_edge of ++ tail_tokens (down lines)
behind_edge (Binary left op right lines) = behind_edge left ++ tail_tokens (operated op right lines)
behind_edge (Cond condition if_true if_false lines) = behind_edge condition ++ tail_tokens (chosen if_true if_false lines)
behind_edge (Assign left op right lines) = behind_edge left ++ tail_tokens (assigned op right lines)
behind_edge (Comma left right lines) = behind_edge left ++ tail_tokens (sequenced right lines)
behind_edge _ = []

abbrev pub new_behind : ExprTree → List Binding
new_behind (Index of index lines) = new_behind of ++ new_tail (indexed index lines)
new_behind (Call of args lines) = new_behind of ++ new_tail (called args lines)
new_behind (Dot of member lines) = new_behind of ++ new_tail (dotted member lines)
new_behind (Arrow of member lines) = new_behind of ++ new_tail (pointed member lines)
new_behind (PostUp of lines) = new_behind of ++ new_tail (up lines)
new_behind (PostDown of lines) = new_behind of ++ new_tail (down lines)
new_behind (Binary left op right lines) = new_behind left ++ new_tail (operated op right lines)
new_behind (Cond condition if_true if_false lines) = new_behind condition ++ new_tail (chosen if_true if_false lines)
new_behind (Assign left op right lines) = new_behind left ++ new_tail (assigned op right lines)
new_behind (Comma left right lines) = new_behind left ++ new_tail (sequenced right lines)
new_behind _ = []

-- The edge of an expression, and what stands behind it. The loop for this level with `from` turns left, which stands behind the
-- edge, comes to stand behind the whole with `turns` left.
pub record Climbed (below : Below) (most least from turns : ℕ) (names : List Binding) (t edge : ExprTree) (behind : List Token) (new : List Binding)
    (rest : List Token) : Type 0 where
  pub tokens : expr_tokens t ≡ expr_tokens edge ++ behind
  pub names_are : new_expr t ≡ new_expr edge ++ new
  pub alone : spine edge ≡ 0
  pub valid : IsValidExpr edge
  pub stands : ExprStands names edge
  pub deep : expr_depth edge ≤ expr_depth t
  pub higher : level t ≤ level edge
  pub ends : EndsExpr (bound edge) (behind ++ rest)
  pub climbs : climb below most least from edge (at (behind ++ rest) (names ++ new_expr edge)) ≡ climb below most least turns t (at rest (names ++ new_expr t))

module _ (below : Below) (most : ℕ) (reads : AllRead below most) where
  tail_reads : (left : ExprTree) (t : TailTree) (names : List Binding) (rest : List Token) → IsValidExpr (join left t) → ExprStands names (join left t)
      → expr_depth (join left t) ≤ suc most
      → EndsExpr (bound (join left t)) rest → Reads (read.tail below (continues t)) (tail_tokens t) (new_tail t) t (names ++ new_expr left) rest
  unfolding same_mark
  tail_reads left (indexed index lines) names rest v stands deep ends =
      index_reads below most reads index lines (names ++ new_expr left) rest v.own v.second stands.1 (omega (arith, deep))
  tail_reads left (called args lines) names rest v stands deep ends =
      call_reads below most reads args lines (names ++ new_expr left) rest v.own v.second stands.1 (omega (arith, deep))
  tail_reads left (dotted member lines) names rest v stands deep ends = picked_reads below most reads punct.Dot member lines (dotted member lines) (names ++ new_expr left) rest
      (ap (λ (ls : List ℕ). dotted member ls) (two_lines lines v.own))
  tail_reads left (pointed member lines) names rest v stands deep ends = picked_reads below most reads punct.Arrow member lines (pointed member lines) (names ++ new_expr left) rest
      (ap (λ (ls : List ℕ). pointed member ls) (two_lines lines v.own))
  tail_reads left (up lines) names rest v stands deep ends =
      stepped_reads below most reads punct.PlusPlus lines (up lines) (names ++ new_expr left) rest (ap (λ (ls : List ℕ). up ls) (one_line lines v.own))
  tail_reads left (down lines) names rest v stands deep ends =
      stepped_reads below most reads punct.MinusMinus lines (down lines) (names ++ new_expr left) rest (ap (λ (ls : List ℕ). down ls) (one_line lines v.own))
  tail_reads left (operated op right lines) names rest v stands deep ends =
      operated_reads below most reads op right lines (names ++ new_expr left) rest v.own v.right stands.1 (omega (arith, deep)) ends
  tail_reads left (chosen if_true if_false lines) names rest v stands deep ends =
      chosen_reads below most reads if_true if_false lines (names ++ new_expr left) rest v.own v.second v.third stands.second stands.third (omega (arith, deep))
      (omega (arith, deep)) ends
  tail_reads left (assigned op right lines) names rest v stands deep ends =
      assigned_reads below most reads op right lines (names ++ new_expr left) rest v.own v.right stands.1 (omega (arith, deep)) ends
  tail_reads left (sequenced right lines) names rest v stands deep ends =
      sequenced_reads below most reads right lines (names ++ new_expr left) rest v.own v.second stands.1 (omega (arith, deep)) ends

  -- one turn
  climb_on : (left : ExprTree) (t : TailTree) (least turns : ℕ) (names : List Binding) (rest : List Token) → Operand left t names → least ≤ level (join left t)
      → expr_depth (join left t) ≤ suc most → Reads (read.tail below (continues t)) (tail_tokens t) (new_tail t) t (names ++ new_expr left) rest
      → climb below most least (suc turns) left (at (tail_tokens t ++ rest) (names ++ new_expr left)) ≡ climb below most least turns (join left t) (at rest (names ++ new_expr (join left t)))
  unfolding climb operation
  climb_on left t least turns names rest part le deep one =
      let here : List Binding = names ++ new_expr left in
      let state : State = at (tail_tokens t ++ rest) here in
      let after : State = at rest (here ++ new_tail t) in
      let c : Continuation = continuation_of (sight state) in
      let is : c ≡ continues t = tail_continues left t names here rest part in
      let reached = part.reached in
      let smaller = part.deep in
      let shallow : nat_lt most (expr_depth left) ≡ false = let a : expr_depth left ≤ most = omega (arith, smaller, deep) in grind (arith, nat_tests, a) in
      cond-true (goes_on least c (level left)) _ _
      (ap (λ (c : Continuation). goes_on least c (level left)) is ∙ goes_on_true least (continues t) (level left) part.some (omega (arith, reached, le)) part.enough)
      ∙ bind_some (operation below most c left) (λ next. climb below most least turns next) state (join left t) after
      (ap (λ (c : Continuation). operation below most c left state) is
      ∙ cond-false (nat_lt most (expr_depth left)) _ _ shallow
      ∙ bind_some (read.tail below (continues t)) _ state t after one)
      ∙ ap (λ (bs : List Binding). climb below most least turns (join left t) (at rest bs))
      (append_assoc names (new_expr left) (new_tail t) ∙ ap (λ (bs : List Binding). names ++ bs) (sym (joined_names left t)))

  itself : (t : ExprTree) (least from turns : ℕ) (names : List Binding) (rest : List Token) → spine t ≡ 0 → IsValidExpr t → ExprStands names t → turns + spine t ≡ from
      → EndsExpr (bound t) rest
      → Climbed below most least from turns names t t [] [] rest
  itself t least from turns names rest alone v stands room ends = record {
    tokens = sym (append-nil (expr_tokens t));
    names_are = sym (append-nil (new_expr t));
    alone = alone;
    valid = v;
    stands = stands;
    deep = omega arith;
    higher = omega arith;
    ends = ends;
    climbs = let same : from ≡ turns = omega (arith, alone, room) in ap (λ (n : ℕ). climb below most least n t (at rest (names ++ new_expr t))) same;
  }

  module _ (left : ExprTree) (t : TailTree) (least from turns : ℕ) (names : List Binding) (rest : List Token) (edge : ExprTree) (behind : List Token) (new : List Binding) where
    behind_left : IsValidExpr (join left t) → ExprStands names (join left t) → expr_depth (join left t) ≤ suc most → least ≤ level (join left t)
        → turns + spine (join left t) ≡ from → EndsExpr (bound (join left t)) rest
        → (IsValidExpr left → ExprStands names left → expr_depth left ≤ suc most → least ≤ level left → suc turns + spine left ≡ from → EndsExpr (bound left) (tail_tokens t ++ rest)
        → Climbed below most least from (suc turns) names left edge behind new (tail_tokens t ++ rest))
        → Climbed below most least from turns names (join left t) edge (behind ++ tail_tokens t) (new ++ new_tail t) rest
    behind_left v stands deep le room ends climbed =
        let part : Operand left t names = operand left t names v stands in
        let smaller = part.deep in
        let lower = part.lower in
        let spined = part.spined in
        let first : Climbed below most least from (suc turns) names left edge behind new (tail_tokens t ++ rest) =
        climbed part.valid part.stands (omega (arith, smaller, deep)) (omega (arith, lower, le)) (omega (arith, spined, room)) (tail_ends left t names rest part) in
        let inner = first.deep in
        let higher = first.higher in
        let front : (behind ++ tail_tokens t) ++ rest ≡ behind ++ (tail_tokens t ++ rest) = append_assoc behind (tail_tokens t) rest in
        record {
          tokens = joined_tokens left t ∙ ap (λ (ts : List Token). ts ++ tail_tokens t) first.tokens ∙ append_assoc (expr_tokens edge) behind (tail_tokens t);
          names_are = joined_names left t ∙ ap (λ (bs : List Binding). bs ++ new_tail t) first.names_are ∙ append_assoc (new_expr edge) new (new_tail t);
          alone = first.alone;
          valid = first.valid;
          stands = first.stands;
          deep = omega (arith, inner, smaller);
          higher = omega (arith, higher, lower);
          ends = subst (λ (ts : List Token). EndsExpr (bound edge) ts) (sym front) first.ends;
          climbs = ap (λ (ts : List Token). climb below most least from edge (at ts (names ++ new_expr edge))) front ∙ first.climbs
              ∙ climb_on left t least turns names rest part le deep (tail_reads left t names rest v stands deep ends);
        }

  pub climbed : (t : ExprTree) (least from turns : ℕ) (names : List Binding) (rest : List Token) → IsValidExpr t → ExprStands names t → expr_depth t ≤ suc most → least ≤ level t
      → turns + spine t ≡ from → EndsExpr (bound t) rest → Climbed below most least from turns names t (left_edge t) (behind_edge t) (new_behind t) rest
  climbed (Index of index lines) least from turns names rest v stands deep le room ends =
      behind_left of (indexed index lines) least from turns names rest _ _ _ v stands deep le room ends (climbed of least from (suc turns) names _)
  climbed (Call of args lines) least from turns names rest v stands deep le room ends =
      behind_left of (called args lines) least from turns names rest _ _ _ v stands deep le room ends (climbed of least from (suc turns) names _)
  climbed (Dot of member lines) least from turns names rest v stands deep le room ends =
      behind_left of (dotted member lines) least from turns names rest _ _ _ v stands deep le room ends (climbed of least from (suc turns) names _)
  climbed (Arrow of member lines) least from turns names rest v stands deep le room ends =
      behind_left of (pointed member lines) least from turns names rest _ _ _ v stands deep le room ends (climbed of least from (suc turns) names _)
  climbed (PostUp of lines) least from turns names rest v stands deep le room ends =
      behind_left of (up lines) least from turns names rest _ _ _ v stands deep le room ends (climbed of least from (suc turns) names _)
  climbed (PostDown of lines) least from turns names rest v stands deep le room ends =
      behind_left of (down lines) least from turns names rest _ _ _ v stands deep le room ends (climbed of least from (suc turns) names _)
  climbed (Binary left op right lines) least from turns names rest v stands deep le room ends =
      behind_left left (operated op right lines) least from turns names rest _ _ _ v stands deep le room ends (climbed left least from (suc turns) names _)
  climbed (Cond condition if_true if_false lines) least from turns names rest v stands deep le room ends =
      behind_left condition (chosen if_true if_false lines) least from turns names rest _ _ _ v stands deep le room ends (climbed condition least from (suc turns) names _)
  climbed (Assign left op right lines) least from turns names rest v stands deep le room ends =
      behind_left left (assigned op right lines) least from turns names rest _ _ _ v stands deep le room ends (climbed left least from (suc turns) names _)
  climbed (Comma left right lines) least from turns names rest v stands deep le room ends =
      behind_left left (sequenced right lines) least from turns names rest _ _ _ v stands deep le room ends (climbed left least from (suc turns) names _)
  climbed (Name name lines) least from turns names rest v stands deep le room ends = itself (Name name lines) least from turns names rest refl v stands room ends
  climbed (Number value ty lines) least from turns names rest v stands deep le room ends = itself (Number value ty lines) least from turns names rest refl v stands room ends
  climbed (Letter value lines) least from turns names rest v stands deep le room ends = itself (Letter value lines) least from turns names rest refl v stands room ends
  climbed (Text parts lines) least from turns names rest v stands deep le room ends = itself (Text parts lines) least from turns names rest refl v stands room ends
  climbed (Paren inner lines) least from turns names rest v stands deep le room ends = itself (Paren inner lines) least from turns names rest refl v stands room ends
  climbed (Literal of list lines) least from turns names rest v stands deep le room ends = itself (Literal of list lines) least from turns names rest refl v stands room ends
  climbed (PreUp on lines) least from turns names rest v stands deep le room ends = itself (PreUp on lines) least from turns names rest refl v stands room ends
  climbed (PreDown on lines) least from turns names rest v stands deep le room ends = itself (PreDown on lines) least from turns names rest refl v stands room ends
  climbed (Unary op on lines) least from turns names rest v stands deep le room ends = itself (Unary op on lines) least from turns names rest refl v stands room ends
  climbed (SizeofExpr on lines) least from turns names rest v stands deep le room ends = itself (SizeofExpr on lines) least from turns names rest refl v stands room ends
  climbed (SizeofType of lines) least from turns names rest v stands deep le room ends = itself (SizeofType of lines) least from turns names rest refl v stands room ends
  climbed (Cast to on lines) least from turns names rest v stands deep le room ends = itself (Cast to on lines) least from turns names rest refl v stands room ends
