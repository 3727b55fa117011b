-- Statements with branches and bodies are read.
use Rattle.std.proofs.Common.{◌≡◌, ℕ, suc, ◌+◌, Bool, true, false, not, Some, List, [], ◌∷◌, ◌++◌, length, get_or, drop, refl, sym, ap, ◌∙◌, subst, arith, append_assoc}
use Rattle.std.proofs.lemmas.Bool.{cond-true, cond-false, true≢false}
use Rattle.std.proofs.lemmas.List.{append-nil}
use Rattle.cx_cursor.specs.Reading.{at, Reader, bind}
use Rattle.cx_cursor.specs.Sights.{same_key, sees_key, mark}
use Rattle.cx_cursor.proofs.Readers.{token, same_key_refl}
use Rattle.cx_expr.specs.Knot.{readers}
use Rattle.cx_lex.specs.declared.token.Keyword.{Keyword}
use Rattle.cx_lex.specs.declared.token.Keyword.TheVariants as keywords
use Rattle.cx_lex.specs.declared.token.Punct.TheVariants.{LeftParenthesis, RightParenthesis, Semicolon}
use Rattle.cx_lex.specs.declared.token.Token.{Token}
use Rattle.cx_lex.specs.declared.token.TokenKind.TheVariants as kind
use Rattle.cx_parse.proofs.ReadsRules.{reads_is, three_lines}
use Rattle.cx_parse.proofs.ReadsSteps.{both_read, then_quiet, read_as, mark_then, key_then, mark_last, two_lines, some_line, less_line}
use Rattle.cx_parse.proofs.ReadsStmts.{semicolon_closes, parenthesis_closes, shows_no_else, no_else_shown, reads_text, scoped_reads, last_mark, option_reads, StmtsRead, head_front, head_reads, part_reads}
use Rattle.cx_parse.proofs.Stood.{Reads, AllRead}
use Rattle.cx_parse.proofs.StoodStmts.{DeclFits, FirstFits, OptionFits, StmtFits, NoElse, EndsStmt}
use Rattle.cx_stmt.specs.Declarations.{decl}
use Rattle.cx_words.specs.Beginnings.{sees_decl}
use Rattle.cx_stmt.specs.Stmts.{option_expr, HeadRead, head_read, head, ForRead, for_read, first_read, first_value, first_clause, clauses, part, else_branch, behind_branch, if_stmt, switch_stmt, while_stmt, do_stmt, for_stmt}
use Rattle.cx_tree.specs.Levels.{expression_level}
use Rattle.cx_tree.specs.Names.{Binding, new_expr, new_option, new_first, new_decl, ExprStands}
use Rattle.cx_tree.specs.Tokens.{expr_tokens, option_tokens, first_tokens, behind_first, clauses_tokens, decl_tokens, stmt_tokens}
use Rattle.cx_tree.specs.Trees.{ExprTree, OptionExprTree, ForFirstTree, FirstValue, FirstDeclared, DeclTree, StmtTree, If, Switch, While, Do, For, no_stmt, some_stmt}
use Rattle.cx_tree.specs.Valid.{first_own, is_open}

pub four_lines : (lines : List ℕ) → length lines ≡ 4 → get_or lines 0 0 ∷ get_or lines 1 0 ∷ get_or lines 2 0 ∷ get_or lines 3 0 ∷ [] ≡ lines
four_lines [] e = absurd (omega arith)
four_lines (l ∷ []) e = absurd (omega arith)
four_lines (l ∷ k ∷ []) e = absurd (omega arith)
four_lines (l ∷ k ∷ j ∷ []) e = absurd (omega arith)
four_lines (l ∷ k ∷ j ∷ i ∷ []) e = refl
four_lines (l ∷ k ∷ j ∷ i ∷ h ∷ lines) e = absurd (omega arith)

pub five_lines : (lines : List ℕ) → length lines ≡ 5 → get_or lines 0 0 ∷ get_or lines 1 0 ∷ get_or lines 2 0 ∷ get_or lines 3 0 ∷ get_or lines 4 0 ∷ [] ≡ lines
five_lines [] e = absurd (omega arith)
five_lines (l ∷ []) e = absurd (omega arith)
five_lines (l ∷ k ∷ []) e = absurd (omega arith)
five_lines (l ∷ k ∷ j ∷ []) e = absurd (omega arith)
five_lines (l ∷ k ∷ j ∷ i ∷ []) e = absurd (omega arith)
five_lines (l ∷ k ∷ j ∷ i ∷ h ∷ []) e = refl
five_lines (l ∷ k ∷ j ∷ i ∷ h ∷ g ∷ lines) e = absurd (omega arith)

two_less : (lines : List ℕ) (n : ℕ) → length lines ≡ 2 + n → length (drop 2 lines) ≡ n
two_less [] n e = absurd (omega arith)
two_less (l ∷ []) n e = absurd (omega arith)
two_less (l ∷ k ∷ lines) n e = omega arith

two_front : (lines : List ℕ) (n : ℕ) → length lines ≡ 2 + n → get_or lines 0 0 ∷ get_or lines 1 0 ∷ drop 2 lines ≡ lines
two_front [] n e = absurd (omega arith)
two_front (l ∷ []) n e = absurd (omega arith)
two_front (l ∷ k ∷ lines) n e = refl

-- `while` is no `else`
while_no_else : (line : ℕ) (more : List Token) → NoElse (token (kind.Key keywords.While) line ∷ more)
unfolding same_key
while_no_else line more = no_else_shown [] (token (kind.Key keywords.While) line ∷ more) refl

-- nor is a mark
pub mark_no_else : (p : _) (line : ℕ) (more : List Token) → NoElse (token (kind.Mark p) line ∷ more)
mark_no_else p line more = no_else_shown [] (token (kind.Mark p) line ∷ more) refl

-- a statement that an `else` doesn't belong to ends at any token
pub shut_ends : (s : StmtTree) (rest : List Token) → is_open s ≡ false → EndsStmt s rest
shut_ends s rest shut = λ o. absurd (true≢false (sym o ∙ shut))

module _ (stmt : Reader StmtTree) (depth : ℕ) (reads : AllRead (readers depth) depth) (stmt_reads : StmtsRead stmt depth)
    (decl_reads : (d : DeclTree) (names : List Binding) (rest : List Token) → DeclFits depth names d → Reads (decl depth) (decl_tokens d) (new_decl d) d names rest)
    (decl_seen : (d : DeclTree) (names : List Binding) (rest : List Token) → DeclFits depth names d → sees_decl (at (decl_tokens d ++ rest) names) ≡ true)
    (option_unseen : (e : OptionExprTree) (names : List Binding) (line : ℕ) (rest : List Token) → OptionFits depth expression_level names e
    → sees_decl (at (option_tokens e ++ (token (kind.Mark Semicolon) line ∷ rest)) names) ≡ false) where
  -- a head and what stands behind it
  head_then_reads : (keyword : Keyword) (first second third : ℕ) (e : ExprTree) (go : HeadRead → Reader StmtTree) (more : List Token) (further : List Binding) (made : StmtTree)
      (names : List Binding) (rest : List Token)
      → Reads (head depth keyword) (head_front stmt depth reads stmt_reads keyword first second third e) (new_expr e) (head_read e (first ∷ second ∷ third ∷ [])) names (more ++ rest)
      → Reads (go (head_read e (first ∷ second ∷ third ∷ []))) more further made (names ++ new_expr e) rest
      → Reads (bind (head depth keyword) go)
      (token (kind.Key keyword) first ∷ token (kind.Mark LeftParenthesis) second ∷ (expr_tokens e ++ (token (kind.Mark RightParenthesis) third ∷ more))) (new_expr e ++ further) made names rest
  head_then_reads keyword first second third e go more further made names rest one two =
      let front = head_front stmt depth reads stmt_reads keyword first second third e in
      reads_text (bind (head depth keyword) go) (front ++ more)
      (token (kind.Key keyword) first ∷ token (kind.Mark LeftParenthesis) second ∷ (expr_tokens e ++ (token (kind.Mark RightParenthesis) third ∷ more))) (new_expr e ++ further) made names rest
      (ap (λ (ts : List Token). token (kind.Key keyword) first ∷ token (kind.Mark LeftParenthesis) second ∷ ts)
      (append_assoc (expr_tokens e) (token (kind.Mark RightParenthesis) third ∷ []) more))
      (both_read (head depth keyword) go front more (new_expr e) further (head_read e (first ∷ second ∷ third ∷ [])) made names rest one two)

  pub switch_reads : (on : ExprTree) (body : StmtTree) (lines : List ℕ) (names : List Binding) (rest : List Token) → StmtFits (suc depth) names (Switch on body lines) → EndsStmt body rest
      → Reads (switch_stmt stmt depth) (stmt_tokens (Switch on body lines)) [] (Switch on body lines) names rest
  unfolding switch_stmt
  switch_reads on body lines names rest fits ends =
      let first = get_or lines 0 0 in
      let second = get_or lines 1 0 in
      let third = get_or lines 2 0 in
      let ls : List ℕ = first ∷ second ∷ third ∷ [] in
      reads_is (switch_stmt stmt depth) (stmt_tokens (Switch on body lines)) [] (Switch on body ls) (Switch on body lines) names rest (ap (λ (ls : List ℕ). Switch on body ls) (three_lines lines fits.valid.own))
      (scoped_reads _ (stmt_tokens (Switch on body lines)) (new_expr on ++ []) (Switch on body ls) names rest
      (head_then_reads keywords.Switch first second third on _ (stmt_tokens body) [] (Switch on body ls) names rest
      (head_reads stmt depth reads stmt_reads keywords.Switch first second third on names (stmt_tokens body ++ rest)
      (record { valid = fits.valid.first; stands = fits.stands.0; deep = let a = fits.deep in omega (arith, a) }))
      (read_as (part stmt depth) (λ b. Switch on b ls) (stmt_tokens body) [] body (names ++ new_expr on) rest
      (part_reads stmt depth reads stmt_reads body (names ++ new_expr on) rest (record { valid = fits.valid.second; stands = fits.stands.1; deep = let a = fits.deep in omega (arith, a) }) ends))))

  pub while_reads : (on : ExprTree) (body : StmtTree) (lines : List ℕ) (names : List Binding) (rest : List Token) → StmtFits (suc depth) names (While on body lines) → EndsStmt body rest
      → Reads (while_stmt stmt depth) (stmt_tokens (While on body lines)) [] (While on body lines) names rest
  unfolding while_stmt
  while_reads on body lines names rest fits ends =
      let first = get_or lines 0 0 in
      let second = get_or lines 1 0 in
      let third = get_or lines 2 0 in
      let ls : List ℕ = first ∷ second ∷ third ∷ [] in
      reads_is (while_stmt stmt depth) (stmt_tokens (While on body lines)) [] (While on body ls) (While on body lines) names rest (ap (λ (ls : List ℕ). While on body ls) (three_lines lines fits.valid.own))
      (scoped_reads _ (stmt_tokens (While on body lines)) (new_expr on ++ []) (While on body ls) names rest
      (head_then_reads keywords.While first second third on _ (stmt_tokens body) [] (While on body ls) names rest
      (head_reads stmt depth reads stmt_reads keywords.While first second third on names (stmt_tokens body ++ rest)
      (record { valid = fits.valid.first; stands = fits.stands.0; deep = let a = fits.deep in omega (arith, a) }))
      (read_as (part stmt depth) (λ b. While on b ls) (stmt_tokens body) [] body (names ++ new_expr on) rest
      (part_reads stmt depth reads stmt_reads body (names ++ new_expr on) rest (record { valid = fits.valid.second; stands = fits.stands.1; deep = let a = fits.deep in omega (arith, a) }) ends))))

  pub do_reads : (body : StmtTree) (on : ExprTree) (lines : List ℕ) (names : List Binding) (rest : List Token) → StmtFits (suc depth) names (Do body on lines)
      → Reads (do_stmt stmt depth) (stmt_tokens (Do body on lines)) [] (Do body on lines) names rest
  unfolding do_stmt
  do_reads body on lines names rest fits =
      let l0 = get_or lines 0 0 in
      let l1 = get_or lines 1 0 in
      let l2 = get_or lines 2 0 in
      let l3 = get_or lines 3 0 in
      let l4 = get_or lines 4 0 in
      let made : StmtTree = Do body on (l0 ∷ l1 ∷ l2 ∷ l3 ∷ l4 ∷ []) in
      let ending : List Token = token (kind.Mark Semicolon) l4 ∷ [] in
      let condition : List Token = token (kind.Mark LeftParenthesis) l2 ∷ (expr_tokens on ++ (token (kind.Mark RightParenthesis) l3 ∷ ending)) in
      let behind : List Token = token (kind.Key keywords.While) l1 ∷ condition in
      let bare : names ++ [] ≡ names = append-nil names in
      let bodies : Reads (part stmt depth) (stmt_tokens body) [] body names (behind ++ rest) =
      part_reads stmt depth reads stmt_reads body names (behind ++ rest) (record { valid = fits.valid.first; stands = fits.stands.0; deep = let a = fits.deep in omega (arith, a) })
      (λ _. while_no_else l1 (condition ++ rest)) in
      let heads : (here : List Binding) → here ≡ names → Reads (head depth keywords.While) (head_front stmt depth reads stmt_reads keywords.While l1 l2 l3 on) (new_expr on)
      (head_read on (l1 ∷ l2 ∷ l3 ∷ [])) here (ending ++ rest) =
      λ here is. head_reads stmt depth reads stmt_reads keywords.While l1 l2 l3 on here (ending ++ rest)
      (record { valid = fits.valid.second; stands = subst (λ (bs : List Binding). ExprStands bs on) (sym is) fits.stands.1; deep = let a = fits.deep in omega (arith, a) }) in
      reads_is (do_stmt stmt depth) (stmt_tokens (Do body on lines)) [] made (Do body on lines) names rest (ap (λ (ls : List ℕ). Do body on ls) (five_lines lines fits.valid.own))
      (scoped_reads _ (stmt_tokens (Do body on lines)) ([] ++ (new_expr on ++ [])) made names rest
      (key_then keywords.Do _ l0 (stmt_tokens body ++ behind) ([] ++ (new_expr on ++ [])) made names rest
      (both_read (part stmt depth) _ (stmt_tokens body) behind [] (new_expr on ++ []) body made names rest bodies
      (head_then_reads keywords.While l1 l2 l3 on _ ending [] made (names ++ []) rest (heads (names ++ []) bare)
      (last_mark Semicolon (λ last. Do body on (l0 ∷ l1 ∷ l2 ∷ l3 ∷ last ∷ [])) l4 ((names ++ []) ++ new_expr on) rest)))))

  -- ---- `if` (6.8.4.1)

  -- what stands behind a branch without `else`
  bare_branch : (e : ExprTree) (ls : List ℕ) (branch : StmtTree) (names : List Binding) (rest : List Token) → NoElse rest
      → behind_branch stmt depth (head_read e ls) branch (at rest names) ≡ Some (If e branch no_stmt ls, at rest names)
  unfolding behind_branch
  bare_branch e ls branch names rest none = cond-false (sees_key keywords.Else (at rest names)) _ _ (shows_no_else names rest none)

  pub if_reads : (on : ExprTree) (branch : StmtTree) (lines : List ℕ) (names : List Binding) (rest : List Token) → StmtFits (suc depth) names (If on branch no_stmt lines) → NoElse rest
      → Reads (if_stmt stmt depth) (stmt_tokens (If on branch no_stmt lines)) [] (If on branch no_stmt lines) names rest
  unfolding if_stmt
  if_reads on branch lines names rest fits none =
      let first = get_or lines 0 0 in
      let second = get_or lines 1 0 in
      let third = get_or lines 2 0 in
      let ls : List ℕ = first ∷ second ∷ third ∷ [] in
      let made : StmtTree = If on branch no_stmt ls in
      let here = names ++ new_expr on in
      reads_is (if_stmt stmt depth) (stmt_tokens (If on branch no_stmt lines)) [] made (If on branch no_stmt lines) names rest
      (ap (λ (ls : List ℕ). If on branch no_stmt ls) (three_lines lines fits.valid.own))
      (scoped_reads _ (stmt_tokens (If on branch no_stmt lines)) (new_expr on ++ ([] ++ [])) made names rest
      (head_then_reads keywords.If first second third on _ (stmt_tokens branch ++ []) ([] ++ []) made names rest
      (head_reads stmt depth reads stmt_reads keywords.If first second third on names ((stmt_tokens branch ++ []) ++ rest)
      (record { valid = fits.valid.condition; stands = fits.stands.first; deep = let a = fits.deep in omega (arith, a) }))
      (both_read (part stmt depth) _ (stmt_tokens branch) [] [] [] branch made here rest
      (part_reads stmt depth reads stmt_reads branch here rest (record { valid = fits.valid.branch; stands = fits.stands.second; deep = let a = fits.deep in omega (arith, a) }) (λ _. none))
      (bare_branch on ls branch (here ++ []) rest none ∙ ap (λ (bs : List Binding). Some (made, at rest bs)) (sym (append-nil (here ++ [])))))))

  else_branch_reads : (e : ExprTree) (l0 l1 l2 last : ℕ) (branch otherwise : StmtTree) (names : List Binding) (rest : List Token) → StmtFits depth names otherwise → EndsStmt otherwise rest
      → Reads (behind_branch stmt depth (head_read e (l0 ∷ l1 ∷ l2 ∷ [])) branch) (token (kind.Key keywords.Else) last ∷ stmt_tokens otherwise) []
      (If e branch (some_stmt otherwise) (l0 ∷ l1 ∷ l2 ∷ last ∷ [])) names rest
  unfolding behind_branch else_branch
  else_branch_reads e l0 l1 l2 last branch otherwise names rest fits ends =
      cond-true (same_key keywords.Else keywords.Else) _ _ (same_key_refl keywords.Else)
      ∙ key_then keywords.Else _ last (stmt_tokens otherwise) [] (If e branch (some_stmt otherwise) (l0 ∷ l1 ∷ l2 ∷ last ∷ [])) names rest
      (read_as (part stmt depth) (λ o. If e branch (some_stmt o) (l0 ∷ l1 ∷ l2 ∷ last ∷ [])) (stmt_tokens otherwise) [] otherwise names rest
      (part_reads stmt depth reads stmt_reads otherwise names rest fits ends))

  pub else_reads : (on : ExprTree) (branch otherwise : StmtTree) (lines : List ℕ) (names : List Binding) (rest : List Token)
      → StmtFits (suc depth) names (If on branch (some_stmt otherwise) lines) → EndsStmt otherwise rest
      → Reads (if_stmt stmt depth) (stmt_tokens (If on branch (some_stmt otherwise) lines)) [] (If on branch (some_stmt otherwise) lines) names rest
  unfolding if_stmt
  else_reads on branch otherwise lines names rest fits ends =
      let l0 = get_or lines 0 0 in
      let l1 = get_or lines 1 0 in
      let l2 = get_or lines 2 0 in
      let last = get_or lines 3 0 in
      let made : StmtTree = If on branch (some_stmt otherwise) (l0 ∷ l1 ∷ l2 ∷ last ∷ []) in
      let here = names ++ new_expr on in
      let behind : List Token = token (kind.Key keywords.Else) last ∷ stmt_tokens otherwise in
      let shut : is_open branch ≡ false = not_true (is_open branch) fits.valid.closed in
      let otherwise_fits : StmtFits depth (here ++ []) otherwise =
      subst (λ (bs : List Binding). StmtFits depth bs otherwise) (sym (append-nil here))
      (record { valid = fits.valid.otherwise; stands = fits.stands.third; deep = let a = fits.deep in omega (arith, a) }) in
      reads_is (if_stmt stmt depth) (stmt_tokens (If on branch (some_stmt otherwise) lines)) [] made (If on branch (some_stmt otherwise) lines) names rest
      (ap (λ (ls : List ℕ). If on branch (some_stmt otherwise) ls) (four_lines lines fits.valid.own))
      (scoped_reads _ (stmt_tokens (If on branch (some_stmt otherwise) lines)) (new_expr on ++ ([] ++ [])) made names rest
      (head_then_reads keywords.If l0 l1 l2 on _ (stmt_tokens branch ++ behind) ([] ++ []) made names rest
      (head_reads stmt depth reads stmt_reads keywords.If l0 l1 l2 on names ((stmt_tokens branch ++ behind) ++ rest)
      (record { valid = fits.valid.condition; stands = fits.stands.first; deep = let a = fits.deep in omega (arith, a) }))
      (both_read (part stmt depth) _ (stmt_tokens branch) behind [] [] branch made here rest
      (part_reads stmt depth reads stmt_reads branch here (behind ++ rest) (record { valid = fits.valid.branch; stands = fits.stands.second; deep = let a = fits.deep in omega (arith, a) })
      (shut_ends branch (behind ++ rest) shut))
      (else_branch_reads on l0 l1 l2 last branch otherwise (here ++ []) rest otherwise_fits ends)))) where
        not_true : (b : Bool) → not b ≡ true → b ≡ false
        not_true true e = absurd (true≢false (sym e))
        not_true false e = refl

  -- ---- `for` (6.8.5.3)

  -- the first clause behind these lines, with the line of its semicolon, which a declaration prints itself
  first_value_reads : (e : OptionExprTree) (before : List ℕ) (line : ℕ) (names : List Binding) (rest : List Token) → OptionFits depth expression_level names e
      → Reads (first_clause depth before) (option_tokens e ++ token (kind.Mark Semicolon) line ∷ []) (new_option e) (first_read (FirstValue e) (before ++ line ∷ [])) names rest
  unfolding first_clause first_value
  first_value_reads e before line names rest fits =
      let closing : List Token = token (kind.Mark Semicolon) line ∷ [] in
      cond-false (sees_decl (at ((option_tokens e ++ closing) ++ rest) names)) _ _
      (ap (λ (ts : List Token). sees_decl (at ts names)) (append_assoc (option_tokens e) closing rest) ∙ option_unseen e names line rest fits)
      ∙ then_quiet (option_expr depth Semicolon) (λ e. bind (mark Semicolon) (λ last. λ s. Some (first_read (FirstValue e) (before ++ last ∷ []), s))) (option_tokens e) closing (new_option e) e
      (first_read (FirstValue e) (before ++ line ∷ [])) names rest
      (option_reads depth reads Semicolon e names line rest semicolon_closes fits)
      (mark_last Semicolon (λ last. first_read (FirstValue e) (before ++ last ∷ [])) line (names ++ new_option e) rest)

  first_decl_reads : (d : DeclTree) (before : List ℕ) (names : List Binding) (rest : List Token) → DeclFits depth names d
      → Reads (first_clause depth before) (decl_tokens d) (new_decl d) (first_read (FirstDeclared d) before) names rest
  unfolding first_clause
  first_decl_reads d before names rest fits =
      cond-true (sees_decl (at (decl_tokens d ++ rest) names)) _ _ (decl_seen d names rest fits)
      ∙ read_as (decl depth) (λ d. first_read (FirstDeclared d) before) (decl_tokens d) (new_decl d) d names rest (decl_reads d names rest fits)

  -- a first clause and the lines behind its own
  record FirstSplit (f : ForFirstTree) (lines : List ℕ) : Type 0 where
    own : List ℕ
    whole : own ++ behind_first f lines ≡ lines
    left : length (behind_first f lines) ≡ 2
    given : (before : List ℕ) (names : List Binding) (rest : List Token) → FirstFits depth names f
        → Reads (first_clause depth before) (first_tokens f lines) (new_first f) (first_read f (before ++ own)) names rest

  first_split : (f : ForFirstTree) (lines : List ℕ) → length lines ≡ 2 + first_own f → FirstSplit f lines
  first_split (FirstValue e) lines count = record {
    own = get_or lines 0 0 ∷ [];
    whole = some_line lines 2 (omega (arith, count));
    left = less_line lines 2 (omega (arith, count));
    given = λ before names rest fits. first_value_reads e before (get_or lines 0 0) names rest (record { valid = fits.valid; stands = fits.stands; deep = fits.deep });
  }
  first_split (FirstDeclared d) lines count = record {
    own = [];
    whole = refl;
    left = omega (arith, count);
    given = λ before names rest fits. reads_is (first_clause depth before) (decl_tokens d) (new_decl d) (first_read (FirstDeclared d) before) (first_read (FirstDeclared d) (before ++ [])) names rest
        (ap (λ (ls : List ℕ). first_read (FirstDeclared d) ls) (sym (append-nil before)))
        (first_decl_reads d before names rest (record { valid = fits.valid; stands = fits.stands; deep = fits.deep }));
  }

  -- the clauses, up to the parenthesis
  clauses_reads : (f : ForFirstTree) (second third : OptionExprTree) (word left : ℕ) (lines : List ℕ) (split : FirstSplit f lines) (names : List Binding) (rest : List Token)
      → FirstFits depth names f → OptionFits depth expression_level (names ++ new_first f) second → OptionFits depth expression_level ((names ++ new_first f) ++ new_option second) third
      → Reads (clauses depth)
      (token (kind.Key keywords.For) word ∷ token (kind.Mark LeftParenthesis) left ∷ (first_tokens f lines ++ clauses_tokens second third (behind_first f lines)))
      (new_first f ++ (new_option second ++ new_option third))
      (for_read f second third (((word ∷ left ∷ []) ++ split.own) ++ get_or (behind_first f lines) 0 0 ∷ get_or (behind_first f lines) 1 0 ∷ [])) names rest
  unfolding clauses
  clauses_reads f second third word left lines split names rest first_fits second_fits third_fits =
      let ends = behind_first f lines in
      let last = get_or ends 0 0 in
      let close = get_or ends 1 0 in
      let before : List ℕ = (word ∷ left ∷ []) ++ split.own in
      let made : ForRead = for_read f second third (before ++ last ∷ close ∷ []) in
      let here = names ++ new_first f in
      let closing : List Token = token (kind.Mark RightParenthesis) close ∷ [] in
      let behind : List Token = token (kind.Mark Semicolon) last ∷ (option_tokens third ++ closing) in
      let new : List Binding = new_first f ++ (new_option second ++ new_option third) in
      key_then keywords.For _ word (token (kind.Mark LeftParenthesis) left ∷ (first_tokens f lines ++ clauses_tokens second third ends)) new made names rest
      (mark_then LeftParenthesis _ left (first_tokens f lines ++ clauses_tokens second third ends) new made names rest
      (both_read (first_clause depth (word ∷ left ∷ [])) _ (first_tokens f lines) (clauses_tokens second third ends) (new_first f) (new_option second ++ new_option third) (first_read f before) made names rest
      (split.given (word ∷ left ∷ []) names (clauses_tokens second third ends ++ rest) first_fits)
      (both_read (option_expr depth Semicolon) _ (option_tokens second) behind (new_option second) (new_option third) second made here rest
      (option_reads depth reads Semicolon second here last ((option_tokens third ++ closing) ++ rest) semicolon_closes second_fits)
      (mark_then Semicolon _ last (option_tokens third ++ closing) (new_option third) made (here ++ new_option second) rest
      (then_quiet (option_expr depth RightParenthesis) _ (option_tokens third) closing (new_option third) third made (here ++ new_option second) rest
      (option_reads depth reads RightParenthesis third (here ++ new_option second) close rest parenthesis_closes third_fits)
      (mark_last RightParenthesis (λ close. for_read f second third (before ++ last ∷ close ∷ [])) close ((here ++ new_option second) ++ new_option third) rest))))))

  pub for_reads : (f : ForFirstTree) (second third : OptionExprTree) (body : StmtTree) (lines : List ℕ) (names : List Binding) (rest : List Token)
      → StmtFits (suc depth) names (For f second third body lines) → EndsStmt body rest
      → Reads (for_stmt stmt depth) (stmt_tokens (For f second third body lines)) [] (For f second third body lines) names rest
  unfolding for_stmt
  for_reads f second third body lines names rest fits ends =
      let word = get_or lines 0 0 in
      let left = get_or lines 1 0 in
      let count : length (drop 2 lines) ≡ 2 + first_own f = two_less lines (2 + first_own f) (let a = fits.valid.own in omega (arith, a)) in
      let split = first_split f (drop 2 lines) count in
      let behind = behind_first f (drop 2 lines) in
      let front : List Token = token (kind.Key keywords.For) word ∷ token (kind.Mark LeftParenthesis) left ∷ (first_tokens f (drop 2 lines) ++ clauses_tokens second third behind) in
      let new : List Binding = new_first f ++ (new_option second ++ new_option third) in
      let read_lines : List ℕ = ((word ∷ left ∷ []) ++ split.own) ++ get_or behind 0 0 ∷ get_or behind 1 0 ∷ [] in
      let lines_are : read_lines ≡ lines =
      append_assoc (word ∷ left ∷ []) split.own (get_or behind 0 0 ∷ get_or behind 1 0 ∷ [])
      ∙ ap (λ (ls : List ℕ). word ∷ left ∷ (split.own ++ ls)) (two_lines behind split.left)
      ∙ ap (λ (ls : List ℕ). word ∷ left ∷ ls) split.whole ∙ two_front lines (2 + first_own f) (let a = fits.valid.own in omega (arith, a)) in
      let here : names ++ new ≡ ((names ++ new_first f) ++ new_option second) ++ new_option third =
      sym (append_assoc names (new_first f) (new_option second ++ new_option third)) ∙ sym (append_assoc (names ++ new_first f) (new_option second) (new_option third)) in
      let body_fits : StmtFits depth (names ++ new) body = subst (λ (bs : List Binding). StmtFits depth bs body) (sym here)
      (record { valid = fits.valid.fourth; stands = fits.stands.body; deep = let a = fits.deep in omega (arith, a) }) in
      reads_is (for_stmt stmt depth) (stmt_tokens (For f second third body lines)) [] (For f second third body read_lines) (For f second third body lines) names rest
      (ap (λ (ls : List ℕ). For f second third body ls) lines_are)
      (scoped_reads (bind (clauses depth) (λ read. bind (part stmt depth) (λ b. λ s. Some (For read.first read.second read.third b read.lines, s))))
      (stmt_tokens (For f second third body lines)) (new ++ []) (For f second third body read_lines) names rest
      (reads_text (bind (clauses depth) (λ read. bind (part stmt depth) (λ b. λ s. Some (For read.first read.second read.third b read.lines, s)))) (front ++ stmt_tokens body)
      (stmt_tokens (For f second third body lines)) (new ++ []) (For f second third body read_lines) names rest
      (ap (λ (ts : List Token). token (kind.Key keywords.For) word ∷ token (kind.Mark LeftParenthesis) left ∷ ts)
      (append_assoc (first_tokens f (drop 2 lines)) (clauses_tokens second third behind) (stmt_tokens body)))
      (both_read (clauses depth) (λ read. bind (part stmt depth) (λ b. λ s. Some (For read.first read.second read.third b read.lines, s))) front (stmt_tokens body) new []
      (for_read f second third read_lines) (For f second third body read_lines) names rest
      (clauses_reads f second third word left (drop 2 lines) split names (stmt_tokens body ++ rest)
      (record { valid = fits.valid.first; stands = fits.stands.first; deep = let a = fits.deep in omega (arith, a) })
      (record { valid = fits.valid.second; stands = fits.stands.second; deep = let a = fits.deep in omega (arith, a) })
      (record { valid = fits.valid.third; stands = fits.stands.third; deep = let a = fits.deep in omega (arith, a) }))
      (read_as (part stmt depth) (λ b. For f second third b read_lines) (stmt_tokens body) [] body (names ++ new) rest
      (part_reads stmt depth reads stmt_reads body (names ++ new) rest body_fits ends)))))
