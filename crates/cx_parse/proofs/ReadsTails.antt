-- What stands behind a left operand is read.
use Rattle.std.proofs.Common.{◌≡◌, ℕ, suc, ◌+◌, ◌-◌, ◌≤◌, false, Some, List, [], ◌∷◌, ◌++◌, length, map, get_or, take, drop, refl, ap, ◌∙◌, arith, lit≤, append_assoc}
use Rattle.std.proofs.lemmas.Bool.{cond-true, cond-false}
use Rattle.cx_cursor.specs.Lists.{ListRead, list_read}
use Rattle.cx_cursor.specs.Reading.{State, at, bind}
use Rattle.cx_cursor.specs.Sights as read
use Rattle.cx_cursor.specs.Sights.{sight, same_mark, sees_mark}
use Rattle.cx_cursor.proofs.Readers.{bind_some, token, mark_reads, operator_reads, word_reads, same_mark_refl}
use Rattle.cx_expr.specs.Below.{Below}
use Rattle.cx_words.specs.Continuations.{continuation_of_mark, continuation_of_other}
use Rattle.cx_expr.specs.Exprs.{picked, picks, stepped, steps, indexes, some_args, args, calls, operates, assigns, chooses, commas}
use Rattle.cx_expr.specs.Tails.{TailTree, indexed, called, operated, chosen, assigned, sequenced}
use Rattle.cx_lex.specs.declared.token.Punct.{Punct}
use Rattle.cx_lex.specs.declared.token.Punct.TheVariants as punct
use Rattle.cx_lex.specs.declared.token.Token.{Token}
use Rattle.cx_lex.specs.declared.token.TokenKind.TheVariants as kind
use Rattle.cx_parse.proofs.Ends.{arg_ends}
use Rattle.cx_parse.proofs.ExprEdges.{expr_no_mark}
use Rattle.cx_parse.proofs.Lists.{each_of}
use Rattle.cx_parse.proofs.Operands.{tail_tokens, binary_level_most}
use Rattle.cx_parse.proofs.ReadsCommas.{AllGood, ended_read, last_line}
use Rattle.cx_parse.proofs.ReadsRules.{reads_is, reads_none, part_then, part_last, mark_then, operator_then, part_closed, ends_by}
use Rattle.cx_parse.proofs.ReadsSteps.{one_line, two_lines, some_line, less_line}
use Rattle.cx_parse.proofs.Stood.{Reads, EndsExpr, EndsAt, AllRead}
use Rattle.cx_tree.specs.Depth.{expr_depth, exprs_depth}
use Rattle.cx_tree.specs.Levels.{level, binary_level, is_assignment_operator}
use Rattle.cx_tree.specs.Names.{Binding, new_expr, new_exprs, ExprStands, ExprsStand}
use Rattle.cx_tree.specs.Tokens.{mark, word, listed, ended, behind_commas, expr_tokens, exprs_tokens}
use Rattle.cx_tree.specs.Trees.{ExprTree, ExprTrees, no_exprs, more_exprs}
use Rattle.cx_tree.specs.Valid.{At, Lines, exprs_count, IsValidExpr, AreValidArgs}
use Rattle.cx_tree.specs.Views.{exprs}

-- ---- arguments as a list

abbrev pub args_of : ExprTrees → List ExprTree
args_of no_exprs = []
args_of (more_exprs e es) = e ∷ args_of es

args_tokens : (es : ExprTrees) → exprs_tokens es ≡ map expr_tokens (args_of es)
args_tokens no_exprs = refl
args_tokens (more_exprs e es) = ap (λ (ts : List (List Token)). expr_tokens e ∷ ts) (args_tokens es)

args_names : (es : ExprTrees) → each_of new_expr (args_of es) ≡ new_exprs es
args_names no_exprs = refl
args_names (more_exprs e es) = ap (λ (bs : List Binding). new_expr e ++ bs) (args_names es)

args_are : (es : ExprTrees) → exprs (args_of es) ≡ es
args_are no_exprs = refl
args_are (more_exprs e es) = ap (λ (es : ExprTrees). more_exprs e es) (args_are es)

args_count : (es : ExprTrees) → length (args_of es) ≡ exprs_count es
args_count no_exprs = refl
args_count (more_exprs e es) = ap suc (args_count es)

-- an argument that is at most `most` nodes deep
record IsArg (most : ℕ) (names : List Binding) (e : ExprTree) : Type 0 where
  valid : At (IsValidExpr e) (level e) 2
  stands : ExprStands names e
  deep : expr_depth e ≤ most

args_good : (most : ℕ) (names : List Binding) (es : ExprTrees) → AreValidArgs es → ExprsStand names es → exprs_depth es ≤ most → AllGood (IsArg most) new_expr names (args_of es)
args_good most names no_exprs valid stands deep = tt
args_good most names (more_exprs e es) valid stands deep =
    (record { valid = valid.0; stands = stands.0; deep = omega (arith, deep) }, args_good most (names ++ new_expr e) es valid.1 stands.1 (omega (arith, deep)))

two_of : (first : ℕ) (lines : List ℕ) → length lines ≡ 1 → first ∷ get_or lines 0 0 ∷ [] ≡ first ∷ lines
two_of first [] e = absurd (omega arith)
two_of first (l ∷ []) e = refl
two_of first (l ∷ k ∷ lines) e = absurd (omega arith)

module _ (below : Below) (most : ℕ) (reads : AllRead below most) where
  pub expr_reads : (e : ExprTree) (least : ℕ) (names : List Binding) (rest : List Token) → 1 ≤ least → least ≤ 15 → At (IsValidExpr e) (level e) least → ExprStands names e
      → expr_depth e ≤ most → EndsExpr least rest → Reads (below.expr least) (expr_tokens e) (new_expr e) e names rest
  expr_reads e least names rest some low valid stands deep ends = reads.expr e least names rest some low (record { valid = valid; stands = stands; deep = deep }) ends

  -- ---- each tail

  pub index_reads : (index : ExprTree) (lines : List ℕ) (names : List Binding) (rest : List Token) → Lines lines 2 → At (IsValidExpr index) (level index) 1 → ExprStands names index
      → expr_depth index ≤ most → Reads (indexes below) (tail_tokens (indexed index lines)) (new_expr index) (indexed index lines) names rest
  unfolding indexes continuation_of_mark continuation_of_other binary_level is_assignment_operator same_mark
  index_reads index lines names rest lined valid stands deep =
      let first = get_or lines 0 0 in
      let last = get_or lines 1 0 in
      reads_is (indexes below) (tail_tokens (indexed index lines)) (new_expr index) (indexed index (first ∷ last ∷ [])) (indexed index lines) names rest
      (ap (λ (ls : List ℕ). indexed index ls) (two_lines lines lined))
      (mark_then _ punct.LeftBracket first _ (new_expr index) _ names rest
      (part_closed (below.expr 1) (λ index last. indexed index (first ∷ last ∷ [])) punct.RightBracket last (expr_tokens index) (new_expr index) index names rest
      (expr_reads index 1 names _ (lit≤ tt) (lit≤ tt) valid stands deep (ends_by punct.RightBracket last rest 1 (lit≤ tt) refl refl))))

  pub picked_reads : (p : Punct) (member lines : List ℕ) (t : TailTree) (names : List Binding) (rest : List Token) → picked p member (get_or lines 0 0 ∷ get_or lines 1 0 ∷ []) ≡ t
      → Reads picks (mark lines 0 p ∷ word lines 1 member ∷ []) [] t names rest
  unfolding picks
  picked_reads p member lines t names rest is =
      let first = get_or lines 0 0 in
      let last = get_or lines 1 0 in
      reads_none picks (mark lines 0 p ∷ word lines 1 member ∷ []) t names rest
      (bind_some read.operator _ (at (mark lines 0 p ∷ word lines 1 member ∷ rest) names) (p, first) (at (word lines 1 member ∷ rest) names) (operator_reads p first (word lines 1 member ∷ rest) names)
      ∙ bind_some read.word _ (at (word lines 1 member ∷ rest) names) (member, last) (at rest names) (word_reads member last rest names)
      ∙ ap (λ (t : TailTree). Some (t, at rest names)) is)

  pub stepped_reads : (p : Punct) (lines : List ℕ) (t : TailTree) (names : List Binding) (rest : List Token) → stepped p (get_or lines 0 0 ∷ []) ≡ t
      → Reads steps (mark lines 0 p ∷ []) [] t names rest
  unfolding steps
  stepped_reads p lines t names rest is =
      let first = get_or lines 0 0 in
      reads_none steps (mark lines 0 p ∷ []) t names rest
      (bind_some read.operator _ (at (mark lines 0 p ∷ rest) names) (p, first) (at rest names) (operator_reads p first rest names)
      ∙ ap (λ (t : TailTree). Some (t, at rest names)) is)

  pub operated_reads : (op : Punct) (right : ExprTree) (lines : List ℕ) (names : List Binding) (rest : List Token) → Lines lines 1
      → At (IsValidExpr right) (level right) (suc (binary_level op))
      → ExprStands names right → expr_depth right ≤ most → EndsExpr (suc (binary_level op)) rest
      → Reads (operates below (binary_level op)) (tail_tokens (operated op right lines)) (new_expr right) (operated op right lines) names rest
  unfolding operates
  operated_reads op right lines names rest lined valid stands deep ends =
      let lv = binary_level op in
      let first = get_or lines 0 0 in
      let top = binary_level_most op in
      reads_is (operates below lv) (tail_tokens (operated op right lines)) (new_expr right) (operated op right (first ∷ [])) (operated op right lines) names rest
      (ap (λ (ls : List ℕ). operated op right ls) (one_line lines lined))
      (operator_then _ op first (expr_tokens right) (new_expr right) _ names rest
      (part_last (below.expr (suc lv)) _ (expr_tokens right) (new_expr right) right (operated op right (first ∷ [])) names rest
      (expr_reads right (suc lv) names rest (omega arith) (omega (arith, top)) valid stands deep ends) refl))

  pub assigned_reads : (op : Punct) (right : ExprTree) (lines : List ℕ) (names : List Binding) (rest : List Token) → Lines lines 1 → At (IsValidExpr right) (level right) 2
      → ExprStands names right → expr_depth right ≤ most → EndsExpr 2 rest
      → Reads (assigns below) (tail_tokens (assigned op right lines)) (new_expr right) (assigned op right lines) names rest
  unfolding assigns
  assigned_reads op right lines names rest lined valid stands deep ends =
      let first = get_or lines 0 0 in
      reads_is (assigns below) (tail_tokens (assigned op right lines)) (new_expr right) (assigned op right (first ∷ [])) (assigned op right lines) names rest
      (ap (λ (ls : List ℕ). assigned op right ls) (one_line lines lined))
      (operator_then _ op first (expr_tokens right) (new_expr right) _ names rest
      (part_last (below.expr 2) _ (expr_tokens right) (new_expr right) right (assigned op right (first ∷ [])) names rest
      (expr_reads right 2 names rest (lit≤ tt) (lit≤ tt) valid stands deep ends) refl))

  pub sequenced_reads : (right : ExprTree) (lines : List ℕ) (names : List Binding) (rest : List Token) → Lines lines 1 → At (IsValidExpr right) (level right) 2
      → ExprStands names right → expr_depth right ≤ most → EndsExpr 2 rest
      → Reads (commas below) (tail_tokens (sequenced right lines)) (new_expr right) (sequenced right lines) names rest
  unfolding commas
  sequenced_reads right lines names rest lined valid stands deep ends =
      let first = get_or lines 0 0 in
      reads_is (commas below) (tail_tokens (sequenced right lines)) (new_expr right) (sequenced right (first ∷ [])) (sequenced right lines) names rest
      (ap (λ (ls : List ℕ). sequenced right ls) (one_line lines lined))
      (operator_then _ punct.Comma first (expr_tokens right) (new_expr right) _ names rest
      (part_last (below.expr 2) _ (expr_tokens right) (new_expr right) right (sequenced right (first ∷ [])) names rest
      (expr_reads right 2 names rest (lit≤ tt) (lit≤ tt) valid stands deep ends) refl))

  pub chosen_reads : (if_true if_false : ExprTree) (lines : List ℕ) (names : List Binding) (rest : List Token) → Lines lines 2 → At (IsValidExpr if_true) (level if_true) 1
      → At (IsValidExpr if_false) (level if_false) 3 → ExprStands names if_true → ExprStands (names ++ new_expr if_true) if_false → expr_depth if_true ≤ most
      → expr_depth if_false ≤ most
      → EndsExpr 3 rest → Reads (chooses below) (tail_tokens (chosen if_true if_false lines)) (new_expr if_true ++ new_expr if_false) (chosen if_true if_false lines) names rest
  unfolding chooses continuation_of_mark continuation_of_other binary_level is_assignment_operator same_mark
  chosen_reads yea nay lines names rest lined valid_yea valid_nay stands_yea stands_nay deep_yea deep_nay ends =
      let first = get_or lines 0 0 in
      let second = get_or lines 1 0 in
      reads_is (chooses below) (tail_tokens (chosen yea nay lines)) (new_expr yea ++ new_expr nay) (chosen yea nay (first ∷ second ∷ [])) (chosen yea nay lines) names rest
      (ap (λ (ls : List ℕ). chosen yea nay ls) (two_lines lines lined))
      (mark_then _ punct.Question first _ (new_expr yea ++ new_expr nay) _ names rest
      (part_then (below.expr 1) _ (expr_tokens yea) (token (kind.Mark punct.Colon) second ∷ expr_tokens nay) (new_expr yea) (new_expr nay) yea (chosen yea nay (first ∷ second ∷ [])) names rest
      (expr_reads yea 1 names _ (lit≤ tt) (lit≤ tt) valid_yea stands_yea deep_yea (ends_by punct.Colon second (expr_tokens nay ++ rest) 1 (lit≤ tt) refl refl))
      (mark_then _ punct.Colon second (expr_tokens nay) (new_expr nay) _ (names ++ new_expr yea) rest
      (part_last (below.expr 3) _ (expr_tokens nay) (new_expr nay) nay (chosen yea nay (first ∷ second ∷ [])) (names ++ new_expr yea) rest
      (expr_reads nay 3 (names ++ new_expr yea) rest (lit≤ tt) (lit≤ tt) valid_nay stands_nay deep_nay ends) refl))))

  -- ---- calls

  arg_reads : (names : List Binding) (e : ExprTree) (rest : List Token) → IsArg most names e → EndsAt punct.Comma punct.RightParenthesis rest
      → Reads (below.expr 2) (expr_tokens e) (new_expr e) e names rest
  arg_reads names e rest good ends = expr_reads e 2 names rest (lit≤ tt) (lit≤ tt) good.valid good.stands good.deep (arg_ends rest ends)

  args_read : (e : ExprTree) (es : ExprTrees) (first : ℕ) (lines : List ℕ) (names : List Binding) (rest : List Token) → length lines ≡ exprs_count es + 1
      → AreValidArgs (more_exprs e es)
      → ExprsStand names (more_exprs e es) → exprs_depth (more_exprs e es) ≤ most
      → args below first (at (listed (ended punct.RightParenthesis) (exprs_tokens (more_exprs e es)) lines ++ rest) names)
      ≡ Some (
        list_read (e ∷ args_of es) (first ∷ take (length (args_of es)) lines),
        at (token (kind.Mark punct.RightParenthesis) (get_or (drop (length (args_of es)) lines) 0 0) ∷ rest) (names ++ new_exprs (more_exprs e es)),
      )
  unfolding args some_args same_mark
  args_read e es first lines names rest lined valid stands deep =
      let closing = ended punct.RightParenthesis in
      let items : List ExprTree = args_of es in
      let front : List Token = listed closing (map expr_tokens (e ∷ items)) lines in
      let behind : List Token = behind_commas closing (map expr_tokens items) lines in
      let all : ListRead ExprTree = list_read (e ∷ items) (first ∷ take (length items) lines) in
      let last : List Token = token (kind.Mark punct.RightParenthesis) (get_or (drop (length items) lines) 0 0) ∷ rest in
      let counted = args_count es in
      let one = valid.0 in
      let open_still : sees_mark punct.RightParenthesis (at (front ++ rest) names) ≡ false =
      ap (λ (ts : List Token). sees_mark punct.RightParenthesis (at ts names)) (append_assoc (expr_tokens e) behind rest)
      ∙ expr_no_mark punct.RightParenthesis e names (behind ++ rest) one.valid stands.0 refl in
      let listed_so : some_args below first (at (front ++ rest) names) ≡ Some (all, at last (names ++ each_of new_expr (e ∷ items))) =
      ended_read (below.expr 2) expr_tokens new_expr (IsArg most) punct.RightParenthesis refl (λ e names rest good ends. arg_reads names e rest good ends)
      e items [] (first ∷ []) lines names rest (omega (arith, lined, counted)) (args_good most names (more_exprs e es) valid stands deep) in
      ap (λ (ts : List (List Token)). args below first (at (listed closing ts lines ++ rest) names)) (args_tokens (more_exprs e es))
      ∙ cond-false (sees_mark punct.RightParenthesis (at (front ++ rest) names)) _ _ open_still
      ∙ listed_so
      ∙ ap (λ (bs : List Binding). Some (all, at last (names ++ (new_expr e ++ bs)))) (args_names es)

  called_is : (e : ExprTree) (es : ExprTrees) (lines : List ℕ) → Lines lines (exprs_count es + 2)
      → called (exprs (e ∷ args_of es)) ((get_or lines 0 0 ∷ take (length (args_of es)) (drop 1 lines)) ++ get_or (drop (length (args_of es)) (drop 1 lines)) 0 0 ∷ []) ≡ called (more_exprs e es) lines
  called_is e es lines lined =
      let first = get_or lines 0 0 in
      let n = length (args_of es) in
      let counted = args_count es in
      let shorter = less_line lines (suc (exprs_count es)) (omega (arith, lined)) in
      let inside : take n (drop 1 lines) ++ get_or (drop n (drop 1 lines)) 0 0 ∷ [] ≡ drop 1 lines = last_line n (drop 1 lines) (omega (arith, shorter, counted)) in
      ap (λ (es : ExprTrees). called (more_exprs e es) (first ∷ (take n (drop 1 lines) ++ get_or (drop n (drop 1 lines)) 0 0 ∷ []))) (args_are es)
      ∙ ap (λ (ls : List ℕ). called (more_exprs e es) (first ∷ ls)) inside
      ∙ ap (λ (ls : List ℕ). called (more_exprs e es) ls) (some_line lines (suc (exprs_count es)) (omega (arith, lined)))

  some_args_read : (e : ExprTree) (es : ExprTrees) (lines : List ℕ) (names : List Binding) (rest : List Token) → Lines lines (exprs_count es + 2) → AreValidArgs (more_exprs e es)
      → ExprsStand names (more_exprs e es) → exprs_depth (more_exprs e es) ≤ most
      → Reads (calls below) (tail_tokens (called (more_exprs e es) lines)) (new_exprs (more_exprs e es)) (called (more_exprs e es) lines) names rest
  unfolding calls
  some_args_read e es lines names rest lined valid stands deep =
      let first = get_or lines 0 0 in
      let n = length (args_of es) in
      let last = get_or (drop n (drop 1 lines)) 0 0 in
      let inside : List Token = listed (ended punct.RightParenthesis) (exprs_tokens (more_exprs e es)) (drop 1 lines) in
      let after : List Binding = names ++ new_exprs (more_exprs e es) in
      let all : ListRead ExprTree = list_read (e ∷ args_of es) (first ∷ take n (drop 1 lines)) in
      let ending : State = at (token (kind.Mark punct.RightParenthesis) last ∷ rest) after in
      let shorter : length (drop 1 lines) ≡ exprs_count es + 1 = let a = less_line lines (suc (exprs_count es)) (omega (arith, lined)) in omega (arith, a) in
      mark_then _ punct.LeftParenthesis first inside (new_exprs (more_exprs e es)) (called (more_exprs e es) lines) names rest
      (bind_some (args below first) _ (at (inside ++ rest) names) all ending (args_read e es first (drop 1 lines) names rest shorter valid stands deep)
      ∙ bind_some (read.mark punct.RightParenthesis) _ ending last (at rest after) (mark_reads punct.RightParenthesis last rest after)
      ∙ ap (λ (t : TailTree). Some (t, at rest after)) (called_is e es lines lined))

  no_args_read : (lines : List ℕ) (names : List Binding) (rest : List Token) → Lines lines 2
      → Reads (calls below) (tail_tokens (called no_exprs lines)) [] (called no_exprs lines) names rest
  unfolding calls args
  no_args_read lines names rest lined =
      let first = get_or lines 0 0 in
      let last = get_or (drop 1 lines) 0 0 in
      let ending : State = at (token (kind.Mark punct.RightParenthesis) last ∷ rest) names in
      mark_then _ punct.LeftParenthesis first (token (kind.Mark punct.RightParenthesis) last ∷ []) [] (called no_exprs lines) names rest
      (reads_none (bind (args below first) (λ all. bind (read.mark punct.RightParenthesis) (λ last. λ s. Some (called (exprs all.list) (all.lines ++ last ∷ []), s))))
      (token (kind.Mark punct.RightParenthesis) last ∷ []) (called no_exprs lines) names rest
      (bind_some (args below first) _ ending (list_read [] (first ∷ [])) ending
      (cond-true (sees_mark punct.RightParenthesis ending) _ _ (same_mark_refl punct.RightParenthesis))
      ∙ bind_some (read.mark punct.RightParenthesis) _ ending last (at rest names) (mark_reads punct.RightParenthesis last rest names)
      ∙ ap (λ (ls : List ℕ). Some (called no_exprs ls, at rest names))
      (two_of first (drop 1 lines) (less_line lines 1 lined) ∙ some_line lines 1 lined)))

  pub call_reads : (es : ExprTrees) (lines : List ℕ) (names : List Binding) (rest : List Token) → Lines lines ((exprs_count es - 1) + 2) → AreValidArgs es
      → ExprsStand names es → exprs_depth es ≤ most
      → Reads (calls below) (tail_tokens (called es lines)) (new_exprs es) (called es lines) names rest
  call_reads no_exprs lines names rest lined valid stands deep = no_args_read lines names rest (omega (arith, lined))
  call_reads (more_exprs e es) lines names rest lined valid stands deep = some_args_read e es lines names rest (omega (arith, lined)) valid stands deep
