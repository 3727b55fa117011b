-- Blocks, statements of any depth, function definitions and units are read.
use Rattle.std.proofs.Common.{◌≡◌, ℕ, zero, suc, ◌≤◌, Bool, true, false, ◌&&◌, Some, List, [], ◌∷◌, ◌++◌, fold, get_or, refl, sym, ap, ◌∙◌, arith, append_assoc}
use Rattle.std.proofs.lemmas.Bool.{cond-true, cond-false}
use Rattle.cx_cursor.specs.Lists.{many_ahead, taking}
use Rattle.cx_cursor.specs.Reading.{State, at, Reader, bind, declaring, scoped}
use Rattle.cx_cursor.specs.Sights.{sight, sight_behind, word_sight, same_mark, shows_mark, shows_word, sees_mark}
use Rattle.cx_cursor.specs.declared.sight.Sight.{Sight}
use Rattle.cx_cursor.specs.declared.sight.Sight.TheVariants as sights
use Rattle.cx_cursor.proofs.Readers.{bind_some, token, same_mark_refl, same_key_same}
use Rattle.cx_expr.specs.Knot.{readers}
use Rattle.cx_lex.specs.declared.token.Keyword.{Keyword}
use Rattle.cx_lex.specs.declared.token.Keyword.TheVariants as keywords
use Rattle.cx_lex.specs.declared.token.Punct.TheVariants.{LeftBrace, RightBrace, Colon, Semicolon}
use Rattle.cx_lex.specs.declared.token.Token.{Token}
use Rattle.cx_lex.specs.declared.token.TokenKind.TheVariants as kind
use Rattle.cx_parse.proofs.ExprEdges.{before, begins_expr, expr_begins, expr_no_mark, no_label}
use Rattle.cx_parse.proofs.Lists.{each_of, Each, many_ahead_reads}
use Rattle.cx_parse.proofs.ReadsBranches.{mark_no_else, if_reads, else_reads, switch_reads, while_reads, do_reads, for_reads}
use Rattle.cx_parse.proofs.ReadsRules.{reads_is}
use Rattle.cx_parse.proofs.ReadsSteps.{read_as, mark_then, then_quiet, mark_last, two_lines}
use Rattle.cx_parse.proofs.ReadsStmts.{reads_text, scoped_reads, StmtsRead, expr_stmt_reads, return_reads, goto_reads, continue_reads, break_reads, label_reads, default_reads, case_reads}
use Rattle.cx_parse.proofs.SoundBranches.{all_taken}
use Rattle.cx_parse.proofs.Stood.{Reads, AllRead}
use Rattle.cx_parse.proofs.StoodStmts.{DeclFits, OptionFits, StmtFits, ItemFits, NoElse, EndsStmt}
use Rattle.cx_parse.proofs.StmtEdges.{no_both, both_true, decl_seen, option_unseen, stmt_seen, item_seen}
use Rattle.cx_stmt.specs.Declarations.{decl}
use Rattle.cx_words.specs.Beginnings.{sees_label, sees_decl}
use Rattle.cx_stmt.specs.Stmts.{expr_stmt, with_item, sees_end, item, block_items, block_from, keyword_stmt, stmt_by, stmt_from, stmt}
use Rattle.cx_stmt.specs.Units.{block, body}
use Rattle.cx_tree.specs.Depth.{items_depth, stmt_depth}
use Rattle.cx_tree.specs.Levels.{expression_level}
use Rattle.cx_tree.specs.Names.{Binding, is_type, new_stmt, new_item, new_decl, ItemsStand}
use Rattle.cx_tree.specs.Tokens.{option_tokens, decl_tokens, stmt_tokens, item_tokens, items_tokens}
use Rattle.cx_tree.specs.Trees.{ExprTree, OptionExprTree, no_expr, some_expr, DeclTree, StmtTree, Label, Case, Default, Block, ExprStmt, If, Switch, While, Do, For, Goto, Continue, Break, Return, no_stmt, some_stmt, ItemTree, Statement, Declared, ItemTrees, no_items, more_items}
use Rattle.cx_tree.specs.Valid.{AreValidItems}
use Rattle.cx_tree.specs.Views.{items}

-- ---- the items of a block

abbrev pub item_list : ItemTrees → List ItemTree
item_list no_items = []
item_list (more_items i is) = i ∷ item_list is

pub items_of_list : (is : ItemTrees) → items (item_list is) ≡ is
items_of_list no_items = refl
items_of_list (more_items i is) = ap (λ (t : ItemTrees). more_items i t) (items_of_list is)

item_tokens_are : (is : ItemTrees) → items_tokens is ≡ each_of item_tokens (item_list is)
item_tokens_are no_items = refl
item_tokens_are (more_items i is) = ap (λ (ts : List Token). item_tokens i ++ ts) (item_tokens_are is)

abbrev IsItem : ℕ → List ItemTree → List Binding → ItemTree → Type 0
IsItem most all names i = ItemFits most names i

items_good : (most : ℕ) (is : ItemTrees) (all : List ItemTree) (names : List Binding) → AreValidItems is → ItemsStand names is → items_depth is ≤ most
    → Each (IsItem most) new_item with_item all names (item_list is)
items_good most no_items all names valid stands deep = tt
items_good most (more_items i is) all names valid stands deep =
    (record { valid = valid.0; stands = stands.0; deep = omega (arith, deep) }, items_good most is (with_item all i) (names ++ new_item i) valid.1 stands.1 (omega (arith, deep)))

-- what an expression begins with begins no other statement
by_expr : (read : Reader StmtTree) (depth : ℕ) (s : Sight) → begins_expr s ≡ true → stmt_by read depth s ≡ expr_stmt depth
by_expr read depth (sights.Key k) h = ap (λ (k : Keyword). keyword_stmt read depth k) (same_key_same k keywords.Sizeof h)
by_expr read depth sights.Word h = refl
by_expr read depth sights.TypeWord h = refl
by_expr read depth sights.Number h = refl
by_expr read depth sights.Letter h = refl
by_expr read depth sights.Text h = refl
by_expr read depth sights.End h = refl
by_expr read depth (sights.Mark p) h = refl

semicolon_colon : same_mark Semicolon Colon ≡ false
unfolding same_mark
semicolon_colon = refl

semicolon_brace : same_mark Semicolon LeftBrace ≡ false
unfolding same_mark
semicolon_brace = refl

module _ (read : Reader StmtTree) (depth : ℕ) (reads : AllRead (readers depth) depth) (stmts_read : StmtsRead read depth)
    (decl_reads : (d : DeclTree) (names : List Binding) (rest : List Token) → DeclFits depth names d → Reads (decl depth) (decl_tokens d) (new_decl d) d names rest) where
  item_reads : (all : List ItemTree) (names : List Binding) (i : ItemTree) (rest : List Token) → ItemFits depth names i → NoElse rest → Reads (item read depth) (item_tokens i) (new_item i) i names rest
  unfolding item
  item_reads all names (Statement s) rest fits none =
      let fit : StmtFits depth names s = record { valid = fits.valid; stands = fits.stands; deep = fits.deep } in
      cond-false (sees_decl (at (stmt_tokens s ++ rest) names)) _ _ (let seen = stmt_seen depth s names rest fit in seen.decl)
      ∙ read_as read Statement (stmt_tokens s) (new_stmt s) s names rest (stmts_read s names rest fit (λ _. none))
  item_reads all names (Declared d) rest fits none =
      let fit : DeclFits depth names d = record { valid = fits.valid; stands = fits.stands; deep = fits.deep } in
      cond-true (sees_decl (at (decl_tokens d ++ rest) names)) _ _ (decl_seen depth d names rest fit)
      ∙ read_as (decl depth) Declared (decl_tokens d) (new_decl d) d names rest (decl_reads d names rest fit)

  pub block_reads : (is : ItemTrees) (lines : List ℕ) (names : List Binding) (rest : List Token) → StmtFits (suc depth) names (Block is lines)
      → Reads (block_from read depth) (stmt_tokens (Block is lines)) [] (Block is lines) names rest
  unfolding block_from block_items
  block_reads is lines names rest fits =
      let first = get_or lines 0 0 in
      let last = get_or lines 1 0 in
      let list = item_list is in
      let closing : List Token = token (kind.Mark RightBrace) last ∷ [] in
      let new = each_of new_item list in
      let deep = fits.deep in
      let made : StmtTree = Block (items (fold with_item [] list)) (first ∷ last ∷ []) in
      let same : made ≡ Block is lines =
      ap (λ (l : List ItemTree). Block (items l) (first ∷ last ∷ [])) (all_taken list []) ∙ ap (λ (t : ItemTrees). Block t (first ∷ last ∷ [])) (items_of_list is)
      ∙ ap (λ (ls : List ℕ). Block is ls) (two_lines lines fits.valid.own) in
      reads_is (scoped (block_items read depth)) (stmt_tokens (Block is lines)) [] made (Block is lines) names rest same
      (scoped_reads (block_items read depth) (stmt_tokens (Block is lines)) new made names rest
      (mark_then LeftBrace _ first (items_tokens is ++ closing) new made names rest
      (reads_text (bind (many_ahead sees_end (taking (item read depth) with_item) []) _) (each_of item_tokens list ++ closing) (items_tokens is ++ closing) new made names rest
      (ap (λ (ts : List Token). ts ++ closing) (sym (item_tokens_are is)))
      (then_quiet (many_ahead sees_end (taking (item read depth) with_item) []) _ (each_of item_tokens list) closing new (fold with_item [] list) made names rest
      (many_ahead_reads (IsItem depth) item_tokens new_item with_item sees_end (item read depth) NoElse
      (λ all names i rest fit. let seen = item_seen depth i names rest fit in seen.brace)
      (λ all names i rest fit. let seen = item_seen depth i names rest fit in seen.closed)
      item_reads
      (λ all names i fit. let seen = item_seen depth i names [] fit in seen.some)
      list [] names (closing ++ rest) (items_good depth is [] names fits.valid.part fits.stands (omega (arith, deep)))
      (mark_no_else RightBrace last rest) (same_mark_refl RightBrace))
      (mark_last RightBrace (λ last. Block (items (fold with_item [] list)) (first ∷ last ∷ [])) last (names ++ new) rest)))))

  -- ---- a statement by its first token

  expr_stmt_from : (e : ExprTree) (lines : List ℕ) (names : List Binding) (rest : List Token) → StmtFits (suc depth) names (ExprStmt (some_expr e) lines)
      → Reads (stmt_from read depth) (stmt_tokens (ExprStmt (some_expr e) lines)) (new_stmt (ExprStmt (some_expr e) lines)) (ExprStmt (some_expr e) lines) names rest
  unfolding stmt_from
  expr_stmt_from e lines names rest fits =
      let closing : List Token = token (kind.Mark Semicolon) (get_or lines 0 0) ∷ [] in
      let valid = fits.valid.part.valid in
      let state : State = at (stmt_tokens (ExprStmt (some_expr e) lines) ++ rest) names in
      let text : state ≡ before e (closing ++ rest) names = ap (λ (ts : List Token). at ts names) (append_assoc (option_tokens (some_expr e)) closing rest) in
      cond-false (sees_label state) _ _
      (ap sees_label text ∙ no_both (shows_word (sight (before e (closing ++ rest) names))) (shows_mark Colon (sight_behind (before e (closing ++ rest) names)))
      (λ is. no_label e names (closing ++ rest) valid fits.stands semicolon_colon is))
      ∙ cond-false (sees_mark LeftBrace state) _ _ (ap (sees_mark LeftBrace) text ∙ expr_no_mark LeftBrace e names (closing ++ rest) valid fits.stands refl)
      ∙ ap (λ (r : Reader StmtTree). r state) (by_expr read depth (sight state) (ap (λ (s : State). begins_expr (sight s)) text ∙ expr_begins e names (closing ++ rest) valid fits.stands))
      ∙ expr_stmt_reads depth reads (some_expr e) lines names rest fits

  null_stmt_from : (lines : List ℕ) (names : List Binding) (rest : List Token) → StmtFits (suc depth) names (ExprStmt no_expr lines)
      → Reads (stmt_from read depth) (stmt_tokens (ExprStmt no_expr lines)) [] (ExprStmt no_expr lines) names rest
  unfolding stmt_from
  null_stmt_from lines names rest fits =
      cond-false (same_mark Semicolon LeftBrace) _ _ semicolon_brace ∙ expr_stmt_reads depth reads no_expr lines names rest fits

  label_from : (name : List ℕ) (s : StmtTree) (lines : List ℕ) (names : List Binding) (rest : List Token) → StmtFits (suc depth) names (Label name s lines) → EndsStmt s rest
      → Reads (stmt_from read depth) (stmt_tokens (Label name s lines)) (new_stmt s) (Label name s lines) names rest
  unfolding stmt_from
  label_from name s lines names rest fits ends =
      cond-true (shows_word (word_sight (is_type names name)) && same_mark Colon Colon) _ _
      (both_true (shows_word (word_sight (is_type names name))) (same_mark Colon Colon) (word_is (is_type names name)) (same_mark_refl Colon))
      ∙ label_reads read depth reads stmts_read name s lines names rest fits ends where
        word_is : (b : Bool) → shows_word (word_sight b) ≡ true
        word_is true = refl
        word_is false = refl

  block_stmt_from : (is : ItemTrees) (lines : List ℕ) (names : List Binding) (rest : List Token) → StmtFits (suc depth) names (Block is lines)
      → Reads (stmt_from read depth) (stmt_tokens (Block is lines)) [] (Block is lines) names rest
  unfolding stmt_from
  block_stmt_from is lines names rest fits = cond-true (same_mark LeftBrace LeftBrace) _ _ (same_mark_refl LeftBrace) ∙ block_reads is lines names rest fits

  seen : (d : DeclTree) (names : List Binding) (rest : List Token) → DeclFits depth names d → sees_decl (at (decl_tokens d ++ rest) names) ≡ true
  seen d names rest fits = decl_seen depth d names rest fits

  unseen : (e : OptionExprTree) (names : List Binding) (line : ℕ) (rest : List Token) → OptionFits depth expression_level names e
      → sees_decl (at (option_tokens e ++ (token (kind.Mark Semicolon) line ∷ rest)) names) ≡ false
  unseen e names line rest fits = option_unseen depth e names line rest fits

  pub stmt_from_reads : StmtsRead (stmt_from read depth) (suc depth)
  unfolding stmt_from
  stmt_from_reads (Label name s lines) names rest fits ends = label_from name s lines names rest fits ends
  stmt_from_reads (ExprStmt no_expr lines) names rest fits ends = null_stmt_from lines names rest fits
  stmt_from_reads (ExprStmt (some_expr e) lines) names rest fits ends = expr_stmt_from e lines names rest fits
  stmt_from_reads (Block is lines) names rest fits ends = block_stmt_from is lines names rest fits
  stmt_from_reads (Case value s lines) names rest fits ends = case_reads read depth reads stmts_read value s lines names rest fits ends
  stmt_from_reads (Default s lines) names rest fits ends = default_reads read depth reads stmts_read s lines names rest fits ends
  stmt_from_reads (If condition branch no_stmt lines) names rest fits ends = if_reads read depth reads stmts_read decl_reads seen unseen condition branch lines names rest fits (ends refl)
  stmt_from_reads (If condition branch (some_stmt otherwise) lines) names rest fits ends =
      else_reads read depth reads stmts_read decl_reads seen unseen condition branch otherwise lines names rest fits ends
  stmt_from_reads (Switch on body lines) names rest fits ends = switch_reads read depth reads stmts_read decl_reads seen unseen on body lines names rest fits ends
  stmt_from_reads (While condition body lines) names rest fits ends = while_reads read depth reads stmts_read decl_reads seen unseen condition body lines names rest fits ends
  stmt_from_reads (Do body condition lines) names rest fits ends = do_reads read depth reads stmts_read decl_reads seen unseen body condition lines names rest fits
  stmt_from_reads (For first second third body lines) names rest fits ends =
      for_reads read depth reads stmts_read decl_reads seen unseen first second third body lines names rest fits ends
  stmt_from_reads (Goto name lines) names rest fits ends = goto_reads (suc depth) name lines names rest fits
  stmt_from_reads (Continue lines) names rest fits ends = continue_reads (suc depth) lines names rest fits
  stmt_from_reads (Break lines) names rest fits ends = break_reads (suc depth) lines names rest fits
  stmt_from_reads (Return value lines) names rest fits ends = return_reads depth reads value lines names rest fits

-- each statement is at least one node deep
some_deep : (s : StmtTree) → 1 ≤ stmt_depth s
some_deep (Label name s lines) = omega arith
some_deep (ExprStmt e lines) = omega arith
some_deep (Block is lines) = omega arith
some_deep (Case value s lines) = omega arith
some_deep (Default s lines) = omega arith
some_deep (If condition branch otherwise lines) = omega arith
some_deep (Switch on body lines) = omega arith
some_deep (While condition body lines) = omega arith
some_deep (Do body condition lines) = omega arith
some_deep (For first second third body lines) = omega arith
some_deep (Goto name lines) = omega arith
some_deep (Continue lines) = omega arith
some_deep (Break lines) = omega arith
some_deep (Return value lines) = omega arith

module _ (reads : (depth : ℕ) → AllRead (readers depth) depth)
    (decls_read : (depth : ℕ) (d : DeclTree) (names : List Binding) (rest : List Token) → DeclFits depth names d → Reads (decl depth) (decl_tokens d) (new_decl d) d names rest) where
  pub stmts_read : (depth : ℕ) → StmtsRead (stmt depth) depth
  unfolding stmt
  stmts_read zero s names rest fits ends = let deep = fits.deep in let some = some_deep s in absurd (omega (arith, deep, some))
  stmts_read (suc depth) s names rest fits ends = stmt_from_reads (stmt depth) depth (reads depth) (stmts_read depth) (decls_read depth) s names rest fits ends

  -- a block that is at most so deep
  pub whole_block : (depth : ℕ) (is : ItemTrees) (lines : List ℕ) (names : List Binding) (rest : List Token) → StmtFits depth names (Block is lines)
      → Reads (block depth) (stmt_tokens (Block is lines)) [] (Block is lines) names rest
  unfolding block
  whole_block zero is lines names rest fits = let deep = fits.deep in absurd (omega (arith, deep))
  whole_block (suc depth) is lines names rest fits = block_reads (stmt depth) depth (reads depth) (stmts_read depth) (decls_read depth) is lines names rest fits

  -- the body of a function, in which these names are in scope too
  pub body_reads : (depth : ℕ) (own : List Binding) (is : ItemTrees) (lines : List ℕ) (names : List Binding) (rest : List Token) → StmtFits depth (names ++ own) (Block is lines)
      → Reads (body depth own) (stmt_tokens (Block is lines)) [] (Block is lines) names rest
  unfolding body
  body_reads depth own is lines names rest fits =
      scoped_reads (bind (declaring own own) (λ names. block depth)) (stmt_tokens (Block is lines)) (own ++ []) (Block is lines) names rest
      (bind_some (declaring own own) (λ names. block depth) (at (stmt_tokens (Block is lines) ++ rest) names) own (at (stmt_tokens (Block is lines) ++ rest) (names ++ own)) refl
      ∙ whole_block depth is lines (names ++ own) rest fits ∙ ap (λ (bs : List Binding). Some (Block is lines, at rest bs)) (append_assoc names own []))
