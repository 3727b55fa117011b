-- Statements without others in them are read, and so are the heads of the others.
use Rattle.std.proofs.Common.{◌≡◌, ℕ, suc, ◌≤◌, Bool, true, false, Some, List, [], ◌∷◌, ◌++◌, get_or, refl, sym, ap, ◌∙◌, subst, arith}
use Rattle.std.proofs.lemmas.Bool.{cond-true, cond-false, true≢false}
use Rattle.std.proofs.lemmas.List.{append-nil}
use Rattle.std.proofs.Math.Seq.{take-append_seam}
use Rattle.cx_cursor.specs.Reading.{at, Reader, bind, scoped}
use Rattle.cx_cursor.specs.Sights.{sight_of, word_sight, same_mark, same_key, shows_key, sees_mark, sees_key, mark, word}
use Rattle.cx_cursor.proofs.Readers.{bind_some, token, word_reads, same_mark_refl, same_key_same, same_key_refl}
use Rattle.cx_words.specs.Continuations.{continuation_of_mark, continuation_of_other}
use Rattle.cx_expr.specs.Knot.{readers}
use Rattle.cx_words.specs.declared.continuation.Continuation.TheVariants.{Nothing}
use Rattle.cx_lex.specs.declared.token.Keyword.{Keyword}
use Rattle.cx_lex.specs.declared.token.Keyword.TheVariants as keywords
use Rattle.cx_lex.specs.declared.token.Punct.{Punct}
use Rattle.cx_lex.specs.declared.token.Punct.TheVariants.{LeftParenthesis, RightParenthesis, LeftBrace, Colon, Semicolon}
use Rattle.cx_lex.specs.declared.token.Token.{Token}
use Rattle.cx_lex.specs.declared.token.TokenKind.{TokenKind}
use Rattle.cx_lex.specs.declared.token.TokenKind.TheVariants as kind
use Rattle.cx_parse.proofs.ExprEdges.{begins_mark, expr_no_mark}
use Rattle.cx_parse.proofs.ReadsSteps.{both_read, then_quiet, read_as, mark_then, key_then, mark_last, quiet_reads, one_line, two_lines}
use Rattle.cx_parse.proofs.ReadsRules.{reads_is, three_lines, ends_by}
use Rattle.cx_parse.proofs.Stood.{Reads, EndsExpr, AllRead, ExprFits}
use Rattle.cx_parse.proofs.StoodStmts.{OptionFits, StmtFits, NoElse, EndsStmt}
use Rattle.cx_stmt.specs.Stmts.{option_expr, expr_stmt, goto, continue_stmt, break_stmt, return_stmt, HeadRead, head_read, head, label, case_stmt, default_stmt, part}
use Rattle.cx_tree.specs.Levels.{binary_level, is_assignment_operator, expression_level, conditional_level}
use Rattle.cx_tree.specs.Names.{Binding, new_expr, new_option, new_stmt}
use Rattle.cx_tree.specs.Tokens.{expr_tokens, option_tokens, stmt_tokens}
use Rattle.cx_tree.specs.Trees.{ExprTree, OptionExprTree, no_expr, some_expr, StmtTree, Label, Case, Default, ExprStmt, Goto, Continue, Break, Return}

-- ---- what ends an expression

-- a mark that ends an expression of any level, and begins none
pub record Closes (p : Punct) : Type 0 where
  pub continues : continuation_of_mark p ≡ Nothing
  pub brace : same_mark p LeftBrace ≡ false
  pub begins : begins_mark p ≡ false

pub semicolon_closes : Closes Semicolon
unfolding continuation_of_mark continuation_of_other binary_level is_assignment_operator same_mark
semicolon_closes = record { continues = refl; brace = refl; begins = refl }

pub parenthesis_closes : Closes RightParenthesis
unfolding continuation_of_mark continuation_of_other binary_level is_assignment_operator same_mark
parenthesis_closes = record { continues = refl; brace = refl; begins = refl }

pub colon_closes : Closes Colon
unfolding continuation_of_mark continuation_of_other binary_level is_assignment_operator same_mark
colon_closes = record { continues = refl; brace = refl; begins = refl }

pub closed_by : (p : Punct) (line : ℕ) (more : List Token) (least : ℕ) → 1 ≤ least → Closes p → EndsExpr least (token (kind.Mark p) line ∷ more)
closed_by p line more least some closes = ends_by p line more least some closes.continues closes.brace

-- ---- a keyword that isn't in front

word_no_key : (k : Keyword) (b : Bool) → shows_key k (word_sight b) ≡ false
word_no_key k true = refl
word_no_key k false = refl

else_by : (names : List Binding) (t : Token) (k : TokenKind) → t.kind ≡ k → ((line : ℕ) → t ≡ token (kind.Key keywords.Else) line → ⊥) → shows_key keywords.Else (sight_of names k) ≡ false
else_by names t (kind.Word name) is absent = word_no_key keywords.Else _
else_by names t (kind.Key found) is absent = key_by (same_key found keywords.Else) refl where
  key_by : (test : Bool) → same_key found keywords.Else ≡ test → same_key found keywords.Else ≡ false
  key_by false e = e
  key_by true e = absurd (absent t.line (ap (λ (k : TokenKind). token k t.line) (is ∙ ap kind.Key (same_key_same found keywords.Else e))))
else_by names t (kind.Number value ty) is absent = refl
else_by names t (kind.Letter value) is absent = refl
else_by names t (kind.Text bytes) is absent = refl
else_by names t (kind.Mark p) is absent = refl

pub shows_no_else : (names : List Binding) (tokens : List Token) → NoElse tokens → sees_key keywords.Else (at tokens names) ≡ false
shows_no_else names [] absent = refl
shows_no_else names (t ∷ tokens) absent = else_by names t t.kind refl absent

-- where no `else` shows, none is in front
pub no_else_shown : (names : List Binding) (tokens : List Token) → sees_key keywords.Else (at tokens names) ≡ false → NoElse tokens
no_else_shown names [] h = tt
no_else_shown names (t ∷ tokens) h = λ line is.
    true≢false (sym (ap (λ (t : Token). shows_key keywords.Else (sight_of names t.kind)) is ∙ same_key_refl keywords.Else) ∙ h)

-- ---- rules

-- these are the tokens
pub reads_text : {A : Type 0} (read : Reader A) (front other : List Token) (new : List Binding) (a : A) (names : List Binding) (rest : List Token) → front ≡ other
    → Reads read front new a names rest → Reads read other new a names rest
reads_text read front other new a names rest e h = subst (λ (ts : List Token). Reads read ts new a names rest) e h

pub word_then : {B : Type 0} (go : List ℕ × ℕ → Reader B) (name : List ℕ) (line : ℕ) (more : List Token) (new : List Binding) (b : B) (names : List Binding) (rest : List Token)
    → Reads (go (name, line)) more new b names rest → Reads (bind word go) (token (kind.Word name) line ∷ more) new b names rest
word_then go name line more new b names rest second =
    bind_some word go (at (token (kind.Word name) line ∷ (more ++ rest)) names) (name, line) (at (more ++ rest) names) (word_reads name line (more ++ rest) names) ∙ second

-- what is read in a scope of its own leaves no name
pub scoped_reads : {A : Type 0} (read : Reader A) (front : List Token) (new : List Binding) (a : A) (names : List Binding) (rest : List Token)
    → Reads read front new a names rest → Reads (scoped read) front [] a names rest
unfolding scoped
scoped_reads read front new a names rest h =
    bind_some read _ (at (front ++ rest) names) a (at rest (names ++ new)) h
    ∙ ap (λ (bs : List Binding). Some (a, at rest bs)) (take-append_seam names new ∙ sym (append-nil names))

-- a closing mark behind which nothing is read
pub last_mark : {B : Type 0} (p : Punct) (make : ℕ → B) (line : ℕ) (names : List Binding) (rest : List Token)
    → Reads (bind (mark p) (λ line. λ s. Some (make line, s))) (token (kind.Mark p) line ∷ []) [] (make line) names rest
last_mark p make line names rest =
    quiet_reads (bind (mark p) (λ line. λ s. Some (make line, s))) (token (kind.Mark p) line ∷ []) (make line) names rest (mark_last p make line names rest)

-- ---- statements without others in them

module _ (depth : ℕ) (reads : AllRead (readers depth) depth) where
  pub option_reads : (closing : Punct) (e : OptionExprTree) (names : List Binding) (line : ℕ) (more : List Token) → Closes closing → OptionFits depth expression_level names e
      → Reads (option_expr depth closing) (option_tokens e) (new_option e) e names (token (kind.Mark closing) line ∷ more)
  unfolding option_expr
  option_reads closing no_expr names line more closes fits =
      cond-true (same_mark closing closing) _ _ (same_mark_refl closing) ∙ ap (λ (bs : List Binding). Some (no_expr, at (token (kind.Mark closing) line ∷ more) bs)) (sym (append-nil names))
  option_reads closing (some_expr e) names line more closes fits =
      cond-false (sees_mark closing (at (expr_tokens e ++ (token (kind.Mark closing) line ∷ more)) names)) _ _
      (expr_no_mark closing e names (token (kind.Mark closing) line ∷ more) fits.valid.valid fits.stands closes.begins)
      ∙ read_as ((readers depth).expr expression_level) some_expr (expr_tokens e) (new_expr e) e names (token (kind.Mark closing) line ∷ more)
      (reads.expr e expression_level names (token (kind.Mark closing) line ∷ more) (omega arith) (omega arith)
      (record { valid = fits.valid; stands = fits.stands; deep = fits.deep }) (closed_by closing line more expression_level (omega arith) closes))

  pub expr_stmt_reads : (e : OptionExprTree) (lines : List ℕ) (names : List Binding) (rest : List Token) → StmtFits (suc depth) names (ExprStmt e lines)
      → Reads (expr_stmt depth) (stmt_tokens (ExprStmt e lines)) (new_option e) (ExprStmt e lines) names rest
  unfolding expr_stmt
  expr_stmt_reads e lines names rest fits =
      let line = get_or lines 0 0 in
      reads_is (expr_stmt depth) (stmt_tokens (ExprStmt e lines)) (new_option e) (ExprStmt e (line ∷ [])) (ExprStmt e lines) names rest (ap (λ (ls : List ℕ). ExprStmt e ls) (one_line lines fits.valid.own))
      (then_quiet (option_expr depth Semicolon) _ (option_tokens e) (token (kind.Mark Semicolon) line ∷ []) (new_option e) e (ExprStmt e (line ∷ [])) names rest
      (option_reads Semicolon e names line rest semicolon_closes (record { valid = fits.valid.part; stands = fits.stands; deep = let a = fits.deep in omega (arith, a) }))
      (mark_last Semicolon (λ line. ExprStmt e (line ∷ [])) line (names ++ new_option e) rest))

  pub return_reads : (e : OptionExprTree) (lines : List ℕ) (names : List Binding) (rest : List Token) → StmtFits (suc depth) names (Return e lines)
      → Reads (return_stmt depth) (stmt_tokens (Return e lines)) (new_option e) (Return e lines) names rest
  unfolding return_stmt
  return_reads e lines names rest fits =
      let first = get_or lines 0 0 in
      let last = get_or lines 1 0 in
      reads_is (return_stmt depth) (stmt_tokens (Return e lines)) (new_option e) (Return e (first ∷ last ∷ [])) (Return e lines) names rest
      (ap (λ (ls : List ℕ). Return e ls) (two_lines lines fits.valid.own))
      (key_then keywords.Return _ first (option_tokens e ++ token (kind.Mark Semicolon) last ∷ []) (new_option e) (Return e (first ∷ last ∷ [])) names rest
      (then_quiet (option_expr depth Semicolon) _ (option_tokens e) (token (kind.Mark Semicolon) last ∷ []) (new_option e) e (Return e (first ∷ last ∷ [])) names rest
      (option_reads Semicolon e names last rest semicolon_closes (record { valid = fits.valid.part; stands = fits.stands; deep = let a = fits.deep in omega (arith, a) }))
      (mark_last Semicolon (λ last. Return e (first ∷ last ∷ [])) last (names ++ new_option e) rest)))

pub goto_reads : (most : ℕ) (name lines : List ℕ) (names : List Binding) (rest : List Token) → StmtFits most names (Goto name lines)
    → Reads goto (stmt_tokens (Goto name lines)) [] (Goto name lines) names rest
unfolding goto
goto_reads most name lines names rest fits =
    let first = get_or lines 0 0 in
    let middle = get_or lines 1 0 in
    let last = get_or lines 2 0 in
    let made : StmtTree = Goto name (first ∷ middle ∷ last ∷ []) in
    reads_is goto (stmt_tokens (Goto name lines)) [] made (Goto name lines) names rest (ap (λ (ls : List ℕ). Goto name ls) (three_lines lines fits.valid))
    (key_then keywords.Goto _ first (token (kind.Word name) middle ∷ token (kind.Mark Semicolon) last ∷ []) [] made names rest
    (word_then _ name middle (token (kind.Mark Semicolon) last ∷ []) [] made names rest
    (last_mark Semicolon (λ last. Goto name (first ∷ middle ∷ last ∷ [])) last names rest)))

pub continue_reads : (most : ℕ) (lines : List ℕ) (names : List Binding) (rest : List Token) → StmtFits most names (Continue lines)
    → Reads continue_stmt (stmt_tokens (Continue lines)) [] (Continue lines) names rest
unfolding continue_stmt
continue_reads most lines names rest fits =
    let first = get_or lines 0 0 in
    let last = get_or lines 1 0 in
    reads_is continue_stmt (stmt_tokens (Continue lines)) [] (Continue (first ∷ last ∷ [])) (Continue lines) names rest (ap (λ (ls : List ℕ). Continue ls) (two_lines lines fits.valid))
    (key_then keywords.Continue _ first (token (kind.Mark Semicolon) last ∷ []) [] (Continue (first ∷ last ∷ [])) names rest
    (last_mark Semicolon (λ last. Continue (first ∷ last ∷ [])) last names rest))

pub break_reads : (most : ℕ) (lines : List ℕ) (names : List Binding) (rest : List Token) → StmtFits most names (Break lines)
    → Reads break_stmt (stmt_tokens (Break lines)) [] (Break lines) names rest
unfolding break_stmt
break_reads most lines names rest fits =
    let first = get_or lines 0 0 in
    let last = get_or lines 1 0 in
    reads_is break_stmt (stmt_tokens (Break lines)) [] (Break (first ∷ last ∷ [])) (Break lines) names rest (ap (λ (ls : List ℕ). Break ls) (two_lines lines fits.valid))
    (key_then keywords.Break _ first (token (kind.Mark Semicolon) last ∷ []) [] (Break (first ∷ last ∷ [])) names rest
    (last_mark Semicolon (λ last. Break (first ∷ last ∷ [])) last names rest))

-- ---- statements that hold others

-- a reader of statements reads what fits, where no `else` of its own stands behind it
abbrev pub StmtsRead : Reader StmtTree → ℕ → Type 0
StmtsRead stmt depth = (s : StmtTree) (names : List Binding) (rest : List Token) → StmtFits depth names s → EndsStmt s rest → Reads stmt (stmt_tokens s) (new_stmt s) s names rest

module _ (stmt : Reader StmtTree) (depth : ℕ) (reads : AllRead (readers depth) depth) (stmt_reads : StmtsRead stmt depth) where
  -- an expression in parentheses behind a keyword
  abbrev pub head_front : Keyword → ℕ → ℕ → ℕ → ExprTree → List Token
  head_front keyword first second third e =
      token (kind.Key keyword) first ∷ token (kind.Mark LeftParenthesis) second ∷ (expr_tokens e ++ token (kind.Mark RightParenthesis) third ∷ [])

  pub head_reads : (keyword : Keyword) (first second third : ℕ) (e : ExprTree) (names : List Binding) (rest : List Token) → ExprFits depth expression_level names e
      → Reads (head depth keyword) (head_front keyword first second third e) (new_expr e) (head_read e (first ∷ second ∷ third ∷ [])) names rest
  unfolding head
  head_reads keyword first second third e names rest fits =
      let made : HeadRead = head_read e (first ∷ second ∷ third ∷ []) in
      let closing : List Token = token (kind.Mark RightParenthesis) third ∷ [] in
      key_then keyword _ first (token (kind.Mark LeftParenthesis) second ∷ (expr_tokens e ++ closing)) (new_expr e) made names rest
      (mark_then LeftParenthesis _ second (expr_tokens e ++ closing) (new_expr e) made names rest
      (then_quiet ((readers depth).expr expression_level) _ (expr_tokens e) closing (new_expr e) e made names rest
      (reads.expr e expression_level names (token (kind.Mark RightParenthesis) third ∷ rest) (omega arith) (omega arith) fits
      (closed_by RightParenthesis third rest expression_level (omega arith) parenthesis_closes))
      (mark_last RightParenthesis (λ third. head_read e (first ∷ second ∷ third ∷ [])) third (names ++ new_expr e) rest)))

  -- a branch or a body
  pub part_reads : (s : StmtTree) (names : List Binding) (rest : List Token) → StmtFits depth names s → EndsStmt s rest → Reads (part stmt depth) (stmt_tokens s) [] s names rest
  unfolding part
  part_reads s names rest fits ends = scoped_reads stmt (stmt_tokens s) (new_stmt s) s names rest (stmt_reads s names rest fits ends)

  pub label_reads : (name : List ℕ) (s : StmtTree) (lines : List ℕ) (names : List Binding) (rest : List Token) → StmtFits (suc depth) names (Label name s lines) → EndsStmt s rest
      → Reads (label stmt depth) (stmt_tokens (Label name s lines)) (new_stmt s) (Label name s lines) names rest
  unfolding label
  label_reads name s lines names rest fits ends =
      let first = get_or lines 0 0 in
      let last = get_or lines 1 0 in
      let made : StmtTree = Label name s (first ∷ last ∷ []) in
      reads_is (label stmt depth) (stmt_tokens (Label name s lines)) (new_stmt s) made (Label name s lines) names rest (ap (λ (ls : List ℕ). Label name s ls) (two_lines lines fits.valid.own))
      (word_then _ name first (token (kind.Mark Colon) last ∷ stmt_tokens s) (new_stmt s) made names rest
      (mark_then Colon _ last (stmt_tokens s) (new_stmt s) made names rest
      (read_as stmt (λ s. Label name s (first ∷ last ∷ [])) (stmt_tokens s) (new_stmt s) s names rest
      (stmt_reads s names rest (record { valid = fits.valid.part; stands = fits.stands; deep = let a = fits.deep in omega (arith, a) }) ends))))

  pub default_reads : (s : StmtTree) (lines : List ℕ) (names : List Binding) (rest : List Token) → StmtFits (suc depth) names (Default s lines) → EndsStmt s rest
      → Reads (default_stmt stmt depth) (stmt_tokens (Default s lines)) (new_stmt s) (Default s lines) names rest
  unfolding default_stmt
  default_reads s lines names rest fits ends =
      let first = get_or lines 0 0 in
      let last = get_or lines 1 0 in
      let made : StmtTree = Default s (first ∷ last ∷ []) in
      reads_is (default_stmt stmt depth) (stmt_tokens (Default s lines)) (new_stmt s) made (Default s lines) names rest (ap (λ (ls : List ℕ). Default s ls) (two_lines lines fits.valid.own))
      (key_then keywords.Default _ first (token (kind.Mark Colon) last ∷ stmt_tokens s) (new_stmt s) made names rest
      (mark_then Colon _ last (stmt_tokens s) (new_stmt s) made names rest
      (read_as stmt (λ s. Default s (first ∷ last ∷ [])) (stmt_tokens s) (new_stmt s) s names rest
      (stmt_reads s names rest (record { valid = fits.valid.part; stands = fits.stands; deep = let a = fits.deep in omega (arith, a) }) ends))))

  pub case_reads : (value : ExprTree) (s : StmtTree) (lines : List ℕ) (names : List Binding) (rest : List Token) → StmtFits (suc depth) names (Case value s lines) → EndsStmt s rest
      → Reads (case_stmt stmt depth) (stmt_tokens (Case value s lines)) (new_expr value ++ new_stmt s) (Case value s lines) names rest
  unfolding case_stmt
  case_reads value s lines names rest fits ends =
      let first = get_or lines 0 0 in
      let last = get_or lines 1 0 in
      let made : StmtTree = Case value s (first ∷ last ∷ []) in
      let behind : List Token = token (kind.Mark Colon) last ∷ stmt_tokens s in
      reads_is (case_stmt stmt depth) (stmt_tokens (Case value s lines)) (new_expr value ++ new_stmt s) made (Case value s lines) names rest
      (ap (λ (ls : List ℕ). Case value s ls) (two_lines lines fits.valid.own))
      (key_then keywords.Case _ first (expr_tokens value ++ behind) (new_expr value ++ new_stmt s) made names rest
      (both_read ((readers depth).expr conditional_level) _ (expr_tokens value) behind (new_expr value) (new_stmt s) value made names rest
      (reads.expr value conditional_level names (behind ++ rest) (omega arith) (omega arith)
      (record { valid = fits.valid.first; stands = fits.stands.0; deep = let a = fits.deep in omega (arith, a) })
      (closed_by Colon last (stmt_tokens s ++ rest) conditional_level (omega arith) colon_closes))
      (mark_then Colon _ last (stmt_tokens s) (new_stmt s) made (names ++ new_expr value) rest
      (read_as stmt (λ s. Case value s (first ∷ last ∷ [])) (stmt_tokens s) (new_stmt s) s (names ++ new_expr value) rest
      (stmt_reads s (names ++ new_expr value) rest (record { valid = fits.valid.second; stands = fits.stands.1; deep = let a = fits.deep in omega (arith, a) }) ends)))))
