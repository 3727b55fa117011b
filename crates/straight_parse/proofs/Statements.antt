-- Statements, in both directions.
use Rattle.std.proofs.Common.{◌≡◌, ℕ, zero, suc, ◌<◌, ◌≤◌, Bool, true, false, ◌||◌, cond, Option, Some, None, List, [], ◌∷◌, ◌++◌, length, map, fold, get_or, refl, sym, ap, ◌∙◌, subst, arith, append_assoc, append-nil, length-append}
use Rattle.std.proofs.lemmas.Bool.{cond-true, cond-false, true≢false, or_from, or_right}
use Rattle.cx_lex.specs.declared.token.Keyword.{Keyword}
use Rattle.cx_lex.specs.declared.token.Keyword.TheVariants as keywords
use Rattle.cx_lex.specs.declared.token.Punct.{Punct}
use Rattle.cx_lex.specs.declared.token.Punct.TheVariants.{LeftParenthesis, LeftBrace, RightBrace, Semicolon}
use Rattle.cx_lex.specs.declared.token.Token.{Token}
use Rattle.cx_lex.specs.declared.token.TokenKind.TheVariants as kind
use Rattle.straight_parse.specs.declared.sight.Sight.{Sight}
use Rattle.straight_parse.specs.declared.sight.Sight.TheVariants as sights
use Rattle.straight_parse.specs.Continuations.{strength}
use Rattle.straight_parse.specs.Exprs.{expr, option_expr}
use Rattle.straight_parse.specs.Lists.{many_ahead, taking}
use Rattle.straight_parse.specs.Reading.{State, Reader, bind}
use Rattle.straight_parse.specs.Sights.{sight, shows_mark, sees_mark, same_mark, mark, keyword}
use Rattle.straight_parse.specs.Stmts.{expr_stmt, return_stmt, with_stmt, block_from, is_return, shows_return, stmt_from, stmt, block}
use Rattle.straight_parse.proofs.Commas.{no_longer}
use Rattle.straight_parse.proofs.ExprReads.{ahead, expr_reads, one_line, two_lines}
use Rattle.straight_parse.proofs.ExprSound.{expr_sound}
use Rattle.straight_parse.proofs.Many.{Each, Items, many_sound, many_reads}
use Rattle.straight_parse.proofs.Marks.{same_mark_same, same_mark_refl, semicolon_continues, BeginsNone, brace_begins_none, left_brace_begins_none, semicolon_begins_none, semicolon_no_left_brace, semicolon_no_right_brace, left_brace_no_right_brace}
use Rattle.straight_parse.proofs.Readers.{bind_some, bind_elim, same_answer, none_some, token, mark_front, mark_reads, keyword_front, keyword_reads}
use Rattle.straight_tree.specs.Depth.{expr_depth, option_depth, stmt_depth, items_depth}
use Rattle.straight_tree.specs.Levels.{is_unary_operator}
use Rattle.straight_tree.specs.Tokens.{joined, expr_tokens, option_tokens, stmt_tokens, items_tokens}
use Rattle.straight_tree.specs.Trees.{ExprTree, Name, Number, Paren, Call, Unary, Binary, Assign, StmtTree, Block, ExprStmt, Return, ItemTree, StmtItem, ItemTrees, no_items, more_items}
use Rattle.straight_tree.specs.Valid.{IsValidExpr, IsValidOption, IsValidStmt, AreValidItems, IsBlock}
use Rattle.straight_tree.specs.Views.{items}

-- ---- what begins an expression

begins_expr : Sight → Bool
begins_expr sights.Word = true
begins_expr sights.Number = true
begins_expr (sights.Mark p) = same_mark p LeftParenthesis || is_unary_operator p
begins_expr sights.End = false
begins_expr (sights.Key k) = false
begins_expr sights.Literal = false

expr_begins : (t : ExprTree) (rest : State) → IsValidExpr t → begins_expr (sight (expr_tokens t ++ rest)) ≡ true
unfolding begins_expr
expr_begins (Name bytes lines) rest v = refl
expr_begins (Number value ty lines) rest v = refl
expr_begins (Paren inner lines) rest v = ap (λ (b : Bool). b || is_unary_operator LeftParenthesis) (same_mark_refl LeftParenthesis)
expr_begins (Call of args lines) rest v = ap (λ (s : State). begins_expr (sight s)) (append_assoc (expr_tokens of) _ rest) ∙ expr_begins of _ v.0
expr_begins (Unary op on lines) rest v = or_right (same_mark op LeftParenthesis) (is_unary_operator op) v.0
expr_begins (Binary left op right lines) rest v = ap (λ (s : State). begins_expr (sight s)) (append_assoc (expr_tokens left) _ rest) ∙ expr_begins left _ v.1
expr_begins (Assign left op right lines) rest v = ap (λ (s : State). begins_expr (sight s)) (append_assoc (expr_tokens left) _ rest) ∙ expr_begins left _ v.1

no_mark : (p q : Punct) → BeginsNone p → begins_expr (sights.Mark q) ≡ true → (test : Bool) → same_mark q p ≡ test → test ≡ false
unfolding begins_expr
no_mark p q none begins true same =
    let is : q ≡ p = same_mark_same q p same in
    let not_p : begins_expr (sights.Mark p) ≡ false = or_from _ _ none.no_parenthesis none.no_operator in
    absurd (true≢false (sym begins ∙ ap (λ (q : Punct). begins_expr (sights.Mark q)) is ∙ not_p))
no_mark p q none begins false same = refl

begins_no_mark : (p : Punct) (s : Sight) → BeginsNone p → begins_expr s ≡ true → shows_mark p s ≡ false
unfolding begins_expr
begins_no_mark p (sights.Mark q) none begins = no_mark p q none begins (same_mark q p) refl
begins_no_mark p sights.Word none begins = refl
begins_no_mark p sights.Number none begins = refl
begins_no_mark p sights.End none begins = refl
begins_no_mark p (sights.Key k) none begins = refl
begins_no_mark p sights.Literal none begins = refl

begins_no_return : (s : Sight) → begins_expr s ≡ true → shows_return s ≡ false
unfolding begins_expr
begins_no_return (sights.Mark q) begins = refl
begins_no_return sights.Word begins = refl
begins_no_return sights.Number begins = refl
begins_no_return sights.End begins = refl
begins_no_return (sights.Key k) begins = absurd (true≢false (sym begins))
begins_no_return sights.Literal begins = refl

-- ---- what was read stands in front

record StandsOption (depth : ℕ) (state : State) (e : Option ExprTree) (after : State) : Type 0 where
  spelled : state ≡ option_tokens e ++ after
  valid : IsValidOption e
  within : option_depth e ≤ depth

pub record StandsStmt (depth : ℕ) (state : State) (s : StmtTree) (after : State) : Type 0 where
  pub spelled : state ≡ stmt_tokens s ++ after
  pub valid : IsValidStmt s
  pub within : stmt_depth s ≤ depth

option_by : (depth : ℕ) (state : State) (e : Option ExprTree) (after : State) (test : Bool)
    → cond {A = Option (Option ExprTree × State)} test (Some (None, state)) (bind (expr depth 1) (λ m. λ s. Some (Some m.0, s)) state) ≡ Some (e, after) → StandsOption depth state e after
option_by depth state e after true h = same_answer (StandsOption depth state) None state e after h (record { spelled = refl; valid = tt; within = omega arith })
option_by depth state e after false h =
    bind_elim _ (expr depth 1) _ state e after h (λ m mid one k.
    let inside = expr_sound depth 1 state m mid (omega arith) one in
    same_answer (StandsOption depth state) (Some m.0) mid e after k (record {
      spelled = inside.spelled;
      valid = (inside.valid, inside.level);
      within = let a = inside.deep in let b : m.1 ≤ depth = inside.within in omega (arith, a);
    }))

option_sound : (depth : ℕ) (state : State) (e : Option ExprTree) (after : State) → option_expr depth state ≡ Some (e, after) → StandsOption depth state e after
unfolding option_expr
option_sound depth state e after h = option_by depth state e after (sees_mark Semicolon state) h

closed_by : (a : List Token) (t : Token) (s0 s1 s2 : State) → s0 ≡ a ++ s1 → s1 ≡ t ∷ s2 → s0 ≡ (a ++ t ∷ []) ++ s2
closed_by a t s0 s1 s2 e f = e ∙ ap (λ (s : State). a ++ s) f ∙ sym (append_assoc a (t ∷ []) s2)

expr_stmt_sound : (depth : ℕ) (state : State) (s : StmtTree) (after : State) → expr_stmt depth state ≡ Some (s, after) → StandsStmt (suc depth) state s after
unfolding expr_stmt
expr_stmt_sound depth state s after h =
    bind_elim _ (option_expr depth) _ state s after h (λ e s1 e1 k1.
    bind_elim _ (mark Semicolon) _ s1 s after k1 (λ line s2 e2 k2.
    let inside = option_sound depth state e s1 e1 in
    same_answer (StandsStmt (suc depth) state) (ExprStmt e (line ∷ [])) s2 s after k2 (record {
      spelled = closed_by (option_tokens e) (token (kind.Mark Semicolon) line) state s1 s2 inside.spelled (mark_front Semicolon s1 line s2 e2);
      valid = (inside.valid, refl);
      within = let a = inside.within in omega (arith, a);
    })))

is_return_only : (k : Keyword) → is_return k ≡ true → k ≡ keywords.Return
is_return_only keywords.Return e = refl
is_return_only _ e = absurd (true≢false (sym e))

return_sound : (depth : ℕ) (state : State) (s : StmtTree) (after : State) → shows_return (sight state) ≡ true → return_stmt depth state ≡ Some (s, after) → StandsStmt (suc depth) state s after
unfolding return_stmt
return_sound depth state s after shows h =
    bind_elim _ keyword _ state s after h (λ first s1 e1 k1.
    bind_elim _ (option_expr depth) _ s1 s after k1 (λ e s2 e2 k2.
    bind_elim _ (mark Semicolon) _ s2 s after k2 (λ last s3 e3 k3.
    let front = keyword_front state first s1 e1 in
    let inside = option_sound depth s1 e s2 e2 in
    let is : first.0 ≡ keywords.Return = is_return_only first.0 (sym (ap (λ (s : State). shows_return (sight s)) front) ∙ shows) in
    same_answer (StandsStmt (suc depth) state) (Return e (first.1 ∷ last ∷ [])) s3 s after k3 (record {
      spelled = front ∙ ap (λ (k : Keyword). token (kind.Key k) first.1 ∷ s1) is
          ∙ ap (λ (s : State). token (kind.Key keywords.Return) first.1 ∷ s) (closed_by (option_tokens e) (token (kind.Mark Semicolon) last) s1 s2 s3 inside.spelled (mark_front Semicolon s2 last s3 e3));
      valid = (inside.valid, refl);
      within = let a = inside.within in omega (arith, a);
    }))))

-- ---- the statements of a block

abbrev GoodStmt : ℕ → StmtTree → Type 0
GoodStmt depth s = IsValidStmt s × (stmt_depth s ≤ depth)

abbrev stmt_items : List StmtTree → List ItemTree
stmt_items [] = []
stmt_items (s ∷ ss) = StmtItem s ∷ stmt_items ss

fold_stmts : (ss : List StmtTree) (all : List ItemTree) → fold with_stmt all ss ≡ all ++ stmt_items ss
fold_stmts [] all = sym (append-nil all)
fold_stmts (s ∷ ss) all = fold_stmts ss (with_stmt all s) ∙ append_assoc all (StmtItem s ∷ []) (stmt_items ss)

stmts_tokens : (ss : List StmtTree) → joined (map stmt_tokens ss) ≡ joined (items_tokens (items (stmt_items ss)))
stmts_tokens [] = refl
stmts_tokens (s ∷ ss) = ap (λ (ts : List Token). stmt_tokens s ++ ts) (stmts_tokens ss)

stmts_valid : (depth : ℕ) (ss : List StmtTree) → Each (GoodStmt depth) ss → AreValidItems (items (stmt_items ss))
stmts_valid depth [] good = tt
stmts_valid depth (s ∷ ss) good = (good.0.0, stmts_valid depth ss good.1)

stmts_within : (depth : ℕ) (ss : List StmtTree) → Each (GoodStmt depth) ss → items_depth (items (stmt_items ss)) ≤ depth
stmts_within depth [] good = omega arith
stmts_within depth (s ∷ ss) good = let a = good.0.1 in let b = stmts_within depth ss good.1 in omega (arith, a, b)

abbrev SoundStmt : Reader StmtTree → ℕ → Type 0
SoundStmt read depth = (state : State) (s : StmtTree) (after : State) → read state ≡ Some (s, after) → StandsStmt depth state s after

between : (t : Token) (a : List Token) (u : Token) (s0 s1 s2 s3 : State) → s0 ≡ t ∷ s1 → s1 ≡ a ++ s2 → s2 ≡ u ∷ s3 → s0 ≡ (t ∷ a ++ u ∷ []) ++ s3
between t a u s0 s1 s2 s3 e f g = e ∙ ap (λ (s : State). t ∷ s) (f ∙ ap (λ (s : State). a ++ s) g ∙ sym (append_assoc a (u ∷ []) s3))

pub record StandsBlock (depth : ℕ) (state : State) (s : StmtTree) (after : State) : Type 0 where
  pub stands : StandsStmt depth state s after
  pub is_block : IsBlock s

module _ (read : Reader StmtTree) (depth : ℕ) (sound : SoundStmt read depth) where
  stmts_stand : (state s1 s2 : State) (first last : ℕ) (list : List ItemTree) (after : State) → state ≡ token (kind.Mark LeftBrace) first ∷ s1
      → Items (GoodStmt depth) stmt_tokens with_stmt (shows_mark RightBrace) [] s1 list s2 → s2 ≡ token (kind.Mark RightBrace) last ∷ after
      → StandsBlock (suc depth) state (Block (items list) (first ∷ last ∷ [])) after
  stmts_stand state s1 s2 first last list after front read end =
      let ss = read.items in
      let made : list ≡ stmt_items ss = read.taken ∙ fold_stmts ss [] in
      let P : List ItemTree → Type 0 = λ list. StandsBlock (suc depth) state (Block (items list) (first ∷ last ∷ [])) after in
      subst P (sym made) (record {
        stands = record {
          spelled = between (token (kind.Mark LeftBrace) first) (joined (items_tokens (items (stmt_items ss)))) (token (kind.Mark RightBrace) last) state s1 s2 after
              front (read.spelled ∙ ap (λ (ts : List Token). ts ++ s2) (stmts_tokens ss)) end;
          valid = (stmts_valid depth ss read.good, refl);
          within = let a = stmts_within depth ss read.good in omega (arith, a);
        };
        is_block = tt;
      })

  block_from_sound : (state : State) (s : StmtTree) (after : State) → block_from read state ≡ Some (s, after) → StandsBlock (suc depth) state s after
  unfolding block_from many_ahead
  block_from_sound state s after h =
      bind_elim _ (mark LeftBrace) _ state s after h (λ first s1 e1 k1.
      bind_elim _ (many_ahead (shows_mark RightBrace) (taking read with_stmt) []) _ s1 s after k1 (λ list s2 e2 k2.
      bind_elim _ (mark RightBrace) _ s2 s after k2 (λ last s3 e3 k3.
      same_answer (StandsBlock (suc depth) state) (Block (items list) (first ∷ last ∷ [])) s3 s after k3
      (stmts_stand state s1 s2 first last list s3 (mark_front LeftBrace state first s1 e1)
      (many_sound (GoodStmt depth) stmt_tokens with_stmt (shows_mark RightBrace) read
      (λ state s after e. let one = sound state s after e in (one.spelled, (one.valid, one.within))) (suc (length s1)) [] s1 list s2 e2)
      (mark_front RightBrace s2 last s3 e3)))))

  stmt_by : (state : State) (s : StmtTree) (after : State) (b1 b2 : Bool) → shows_return (sight state) ≡ b2
      → cond {A = Option (StmtTree × State)} b1 (block_from read state) (cond {A = Option (StmtTree × State)} b2 (return_stmt depth state) (expr_stmt depth state)) ≡ Some (s, after)
      → StandsStmt (suc depth) state s after
  stmt_by state s after true b2 shows h = (block_from_sound state s after h).stands
  stmt_by state s after false true shows h = return_sound depth state s after shows h
  stmt_by state s after false false shows h = expr_stmt_sound depth state s after h

  stmt_from_sound : SoundStmt (stmt_from read depth) (suc depth)
  unfolding stmt_from
  stmt_from_sound state s after h = stmt_by state s after (sees_mark LeftBrace state) (shows_return (sight state)) refl h

stmt_sound : (depth : ℕ) → SoundStmt (stmt depth) depth
unfolding stmt
stmt_sound zero state s after h = none_some _ _ h
stmt_sound (suc depth) state s after h = stmt_from_sound (stmt depth) depth (stmt_sound depth) state s after h

pub block_sound : (depth : ℕ) (state : State) (s : StmtTree) (after : State) → block depth state ≡ Some (s, after) → StandsBlock depth state s after
unfolding block
block_sound zero state s after h = none_some _ _ h
block_sound (suc depth) state s after h = block_from_sound (stmt depth) depth (stmt_sound depth) state s after h

-- ---- what stands in front is read

option_reads : (depth : ℕ) (e : Option ExprTree) (line : ℕ) (rest : State) → IsValidOption e → option_depth e ≤ depth
    → option_expr depth (option_tokens e ++ token (kind.Mark Semicolon) line ∷ rest) ≡ Some (e, token (kind.Mark Semicolon) line ∷ rest)
unfolding option_expr
option_reads depth None line rest v deep = cond-true (sees_mark Semicolon (token (kind.Mark Semicolon) line ∷ rest)) _ _ (same_mark_refl Semicolon)
option_reads depth (Some e) line rest v deep =
    let behind : State = token (kind.Mark Semicolon) line ∷ rest in
    let weak : ahead behind ≡ 0 = ap strength semicolon_continues in
    cond-false (sees_mark Semicolon (expr_tokens e ++ behind)) _ _ (begins_no_mark Semicolon (sight (expr_tokens e ++ behind)) semicolon_begins_none (expr_begins e behind v.0))
    ∙ bind_some (expr depth 1) _ (expr_tokens e ++ behind) (e, expr_depth e) behind (expr_reads depth e 1 behind v.0 deep (omega arith) (omega arith) v.1 (omega arith))

-- an expression statement begins with no brace and no `return`
record NoOther (state : State) : Type 0 where
  no_brace : sees_mark LeftBrace state ≡ false
  no_end : sees_mark RightBrace state ≡ false
  no_return : shows_return (sight state) ≡ false

option_other : (e : Option ExprTree) (line : ℕ) (rest : State) → IsValidOption e → NoOther (option_tokens e ++ token (kind.Mark Semicolon) line ∷ rest)
option_other None line rest v = record { no_brace = semicolon_no_left_brace; no_end = semicolon_no_right_brace; no_return = refl }
option_other (Some e) line rest v =
    let behind : State = token (kind.Mark Semicolon) line ∷ rest in
    let begins = expr_begins e behind v.0 in
    record {
      no_brace = begins_no_mark LeftBrace (sight (expr_tokens e ++ behind)) left_brace_begins_none begins;
      no_end = begins_no_mark RightBrace (sight (expr_tokens e ++ behind)) brace_begins_none begins;
      no_return = begins_no_return (sight (expr_tokens e ++ behind)) begins;
    }

stmt_begins : (s : StmtTree) (rest : State) → IsValidStmt s → shows_mark RightBrace (sight (stmt_tokens s ++ rest)) ≡ false
stmt_begins (Block list lines) rest v = left_brace_no_right_brace
stmt_begins (Return e lines) rest v = refl
stmt_begins (ExprStmt e lines) rest v =
    ap (λ (s : State). sees_mark RightBrace s) (append_assoc (option_tokens e) (token (kind.Mark Semicolon) (get_or lines 0 0) ∷ []) rest) ∙ (option_other e (get_or lines 0 0) rest v.0).no_end

abbrev ReadsStmt : Reader StmtTree → ℕ → Type 0
ReadsStmt read depth = (s : StmtTree) (rest : State) → IsValidStmt s → stmt_depth s ≤ depth → read (stmt_tokens s ++ rest) ≡ Some (s, rest)

abbrev list_of : ItemTrees → List StmtTree
list_of no_items = []
list_of (more_items (StmtItem s) is) = s ∷ list_of is

list_items : (is : ItemTrees) → items (stmt_items (list_of is)) ≡ is
list_items no_items = refl
list_items (more_items (StmtItem s) is) = ap (λ (is : ItemTrees). more_items (StmtItem s) is) (list_items is)

list_tokens : (is : ItemTrees) → joined (items_tokens is) ≡ joined (map stmt_tokens (list_of is))
list_tokens no_items = refl
list_tokens (more_items (StmtItem s) is) = ap (λ (ts : List Token). stmt_tokens s ++ ts) (list_tokens is)

list_good : (depth : ℕ) (is : ItemTrees) → AreValidItems is → items_depth is ≤ depth → Each (GoodStmt depth) (list_of is)
list_good depth no_items valid within = tt
list_good depth (more_items (StmtItem s) is) valid within = ((valid.0, omega (arith, within)), list_good depth is valid.1 (omega (arith, within)))

some_tokens : (s : StmtTree) → 0 < length (stmt_tokens s)
some_tokens (Block list lines) = omega arith
some_tokens (Return e lines) = omega arith
some_tokens (ExprStmt e lines) = omega (arith, length-append (option_tokens e) (token (kind.Mark Semicolon) (get_or lines 0 0) ∷ []))

module _ (read : Reader StmtTree) (depth : ℕ) (reads : ReadsStmt read depth) where
  block_from_reads : (is : ItemTrees) (lines : List ℕ) (rest : State) → IsValidStmt (Block is lines) → items_depth is ≤ depth
      → block_from read (stmt_tokens (Block is lines) ++ rest) ≡ Some (Block is lines, rest)
  unfolding block_from many_ahead
  block_from_reads is lines rest v deep =
      let first = get_or lines 0 0 in
      let last = get_or lines 1 0 in
      let closing : State = token (kind.Mark RightBrace) last ∷ rest in
      let ss = list_of is in
      let inside : State = joined (map stmt_tokens ss) ++ closing in
      ap (λ (s : State). block_from read (token (kind.Mark LeftBrace) first ∷ s))
      (append_assoc (joined (items_tokens is)) (token (kind.Mark RightBrace) last ∷ []) rest ∙ ap (λ (ts : List Token). ts ++ closing) (list_tokens is))
      ∙ bind_some (mark LeftBrace) _ (token (kind.Mark LeftBrace) first ∷ inside) first inside (mark_reads LeftBrace first inside)
      ∙ bind_some (many_ahead (shows_mark RightBrace) (taking read with_stmt) []) _ inside (fold with_stmt [] ss) closing
      (many_reads (GoodStmt depth) stmt_tokens with_stmt (shows_mark RightBrace) read (λ s. Unit {0}) (λ s behind good. stmt_begins s behind good.0) (λ s behind good. tt)
      (λ s behind good follows. reads s behind good.0 good.1) ss (suc (length inside)) [] closing
      (omega (arith, no_longer stmt_tokens some_tokens ss closing)) (list_good depth is v.0 deep) tt (same_mark_refl RightBrace))
      ∙ bind_some (mark RightBrace) _ closing last rest (mark_reads RightBrace last rest)
      ∙ ap (λ (l : List ItemTree). Some (Block (items l) (first ∷ last ∷ []), rest)) (fold_stmts ss [])
      ∙ ap (λ (l : ItemTrees). Some (Block l (first ∷ last ∷ []), rest)) (list_items is)
      ∙ ap (λ (ls : List ℕ). Some (Block is ls, rest)) (two_lines lines v.1)

  stmt_from_reads : ReadsStmt (stmt_from read depth) (suc depth)
  unfolding stmt_from return_stmt expr_stmt
  stmt_from_reads (Block is lines) rest v deep =
      cond-true (sees_mark LeftBrace (stmt_tokens (Block is lines) ++ rest)) _ _ (same_mark_refl LeftBrace) ∙ block_from_reads is lines rest v (omega (arith, deep))
  stmt_from_reads (Return e lines) rest v deep =
      let first = get_or lines 0 0 in
      let last = get_or lines 1 0 in
      let closing : State = token (kind.Mark Semicolon) last ∷ rest in
      let inside : State = option_tokens e ++ closing in
      ap (λ (s : State). stmt_from read depth (token (kind.Key keywords.Return) first ∷ s)) (append_assoc (option_tokens e) (token (kind.Mark Semicolon) last ∷ []) rest)
      ∙ bind_some keyword _ (token (kind.Key keywords.Return) first ∷ inside) (keywords.Return, first) inside (keyword_reads keywords.Return first inside)
      ∙ bind_some (option_expr depth) _ inside e closing (option_reads depth e last rest v.0 (omega (arith, deep)))
      ∙ bind_some (mark Semicolon) _ closing last rest (mark_reads Semicolon last rest)
      ∙ ap (λ (ls : List ℕ). Some (Return e ls, rest)) (two_lines lines v.1)
  stmt_from_reads (ExprStmt e lines) rest v deep =
      let line = get_or lines 0 0 in
      let closing : State = token (kind.Mark Semicolon) line ∷ rest in
      let inside : State = option_tokens e ++ closing in
      let other = option_other e line rest v.0 in
      ap (λ (s : State). stmt_from read depth s) (append_assoc (option_tokens e) (token (kind.Mark Semicolon) line ∷ []) rest)
      ∙ cond-false (sees_mark LeftBrace inside) _ _ other.no_brace
      ∙ cond-false (shows_return (sight inside)) _ _ other.no_return
      ∙ bind_some (option_expr depth) _ inside e closing (option_reads depth e line rest v.0 (omega (arith, deep)))
      ∙ bind_some (mark Semicolon) _ closing line rest (mark_reads Semicolon line rest)
      ∙ ap (λ (ls : List ℕ). Some (ExprStmt e ls, rest)) (one_line lines v.1)

some_stmt_depth : (s : StmtTree) → 1 ≤ stmt_depth s
some_stmt_depth (Block is lines) = omega arith
some_stmt_depth (Return e lines) = omega arith
some_stmt_depth (ExprStmt e lines) = omega arith

stmt_reads : (depth : ℕ) → ReadsStmt (stmt depth) depth
unfolding stmt
stmt_reads zero s rest v deep = let a = some_stmt_depth s in absurd (omega arith)
stmt_reads (suc depth) s rest v deep = stmt_from_reads (stmt depth) depth (stmt_reads depth) s rest v deep

pub block_reads : (depth : ℕ) (s : StmtTree) (rest : State) → IsValidStmt s → IsBlock s → stmt_depth s ≤ depth → block depth (stmt_tokens s ++ rest) ≡ Some (s, rest)
unfolding block
block_reads zero s rest v is deep = let a = some_stmt_depth s in absurd (omega arith)
block_reads (suc depth) (Block list lines) rest v is deep = block_from_reads (stmt depth) depth (stmt_reads depth) list lines rest v (omega (arith, deep))
block_reads (suc depth) (Return e lines) rest v is deep = absurd is
block_reads (suc depth) (ExprStmt e lines) rest v is deep = absurd is

-- a block begins with a brace
pub block_begins : (s : StmtTree) (rest : State) → IsBlock s → sight (stmt_tokens s ++ rest) ≡ sights.Mark LeftBrace
block_begins (Block list lines) rest is = refl
block_begins (Return e lines) rest is = absurd is
block_begins (ExprStmt e lines) rest is = absurd is
