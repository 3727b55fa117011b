-- The readers of statements (ISO C99, 6.8).
use Rattle.std.specs.Prelude.{ℕ, zero, suc, Bool, true, false, if◌then◌else◌, List, [], ◌∷◌, ◌++◌, Some, None}
use Rattle.cx_cursor.specs.Lists.{many_ahead, taking}
use Rattle.cx_cursor.specs.Reading.{State, Reader, bind, ◌>>=◌, pure, refuse, scoped}
use Rattle.cx_cursor.specs.Sights.{sight, sees_mark, sees_key, mark, key, word}
use Rattle.cx_cursor.specs.declared.sight.Sight.{Sight}
use Rattle.cx_cursor.specs.declared.sight.Sight.TheVariants as sights
use Rattle.cx_expr.specs.Knot.{readers}
use Rattle.cx_lex.specs.declared.token.Keyword.{Keyword}
use Rattle.cx_lex.specs.declared.token.Keyword.TheVariants as keywords
use Rattle.cx_lex.specs.declared.token.Punct.{Punct}
use Rattle.cx_lex.specs.declared.token.Punct.TheVariants.{LeftParenthesis, RightParenthesis, LeftBrace, RightBrace, Colon, Semicolon}
use Rattle.cx_stmt.specs.Declarations.{decl}
use Rattle.cx_words.specs.Beginnings.{sees_label, sees_decl}
use Rattle.cx_tree.specs.Levels.{expression_level, conditional_level}
use Rattle.cx_tree.specs.Trees.{ExprTree, OptionExprTree, no_expr, some_expr, ForFirstTree, FirstValue, FirstDeclared, StmtTree, Label, Case, Default, Block, ExprStmt, If, Switch, While, Do, For, Goto, Continue, Break, Return, OptionStmtTree, no_stmt, some_stmt, ItemTree, Statement, Declared}
use Rattle.cx_tree.specs.Views.{items}

-- an expression at most `depth` deep, or none where this mark stands ahead
unfoldable pub option_expr : ℕ → Punct → Reader OptionExprTree
option_expr depth closing state =
    if sees_mark closing state then Some (no_expr, state)
    else bind ((readers depth).expr expression_level) (λ e. pure (some_expr e)) state

unfoldable pub expr_stmt : ℕ → Reader StmtTree
expr_stmt depth = option_expr depth Semicolon >>= (λ e. mark Semicolon >>= (λ line. pure (ExprStmt e (line ∷ []))))

-- ---- jumps (6.8.6)

unfoldable pub goto : Reader StmtTree
goto = key keywords.Goto >>= (λ first. word >>= (λ name. mark Semicolon >>= (λ last. pure (Goto name.0 (first ∷ name.1 ∷ last ∷ [])))))

unfoldable pub continue_stmt : Reader StmtTree
continue_stmt = key keywords.Continue >>= (λ first. mark Semicolon >>= (λ last. pure (Continue (first ∷ last ∷ []))))

unfoldable pub break_stmt : Reader StmtTree
break_stmt = key keywords.Break >>= (λ first. mark Semicolon >>= (λ last. pure (Break (first ∷ last ∷ []))))

unfoldable pub return_stmt : ℕ → Reader StmtTree
return_stmt depth = key keywords.Return >>= (λ first. option_expr depth Semicolon >>= (λ value. mark Semicolon >>= (λ last.
    pure (Return value (first ∷ last ∷ [])))))

-- ---- what stands in parentheses behind a keyword

-- an expression in parentheses, and the lines of a keyword and of these
pub record HeadRead : Type 0 where
  pub expr : ExprTree
  pub lines : List ℕ

abbrev pub head_read : ExprTree → List ℕ → HeadRead
head_read expr lines = record { expr = expr; lines = lines }

unfoldable pub head : ℕ → Keyword → Reader HeadRead
head depth keyword = key keyword >>= (λ first. mark LeftParenthesis >>= (λ second. (readers depth).expr expression_level >>= (λ e. mark RightParenthesis >>= (λ third.
    pure (head_read e (first ∷ second ∷ third ∷ []))))))

-- the clauses of a `for` statement, and the lines of its keyword and marks
pub record ForRead : Type 0 where
  pub first : ForFirstTree
  pub second : OptionExprTree
  pub third : OptionExprTree
  pub lines : List ℕ

abbrev pub for_read : ForFirstTree → OptionExprTree → OptionExprTree → List ℕ → ForRead
for_read first second third lines = record { first = first; second = second; third = third; lines = lines }

-- the first clause, with the lines of its semicolon, which a declaration prints itself
pub record FirstRead : Type 0 where
  pub first : ForFirstTree
  pub lines : List ℕ

abbrev pub first_read : ForFirstTree → List ℕ → FirstRead
first_read first lines = record { first = first; lines = lines }

unfoldable pub first_value : ℕ → List ℕ → Reader FirstRead
first_value depth lines = option_expr depth Semicolon >>= (λ e. mark Semicolon >>= (λ last. pure (first_read (FirstValue e) (lines ++ last ∷ []))))

unfoldable pub first_clause : ℕ → List ℕ → Reader FirstRead
first_clause depth lines state =
    if sees_decl state then bind (decl depth) (λ d. pure (first_read (FirstDeclared d) lines)) state
    else first_value depth lines state

unfoldable pub clauses : ℕ → Reader ForRead
clauses depth = key keywords.For >>= (λ word. mark LeftParenthesis >>= (λ first. first_clause depth (word ∷ first ∷ []) >>= (λ f.
    option_expr depth Semicolon >>= (λ second. mark Semicolon >>= (λ last. option_expr depth RightParenthesis >>= (λ third. mark RightParenthesis >>= (λ close.
    pure (for_read f.first second third (f.lines ++ last ∷ close ∷ [])))))))))

-- ---- statements that hold others. `stmt` reads a statement that is less deep.

abbrev pub with_item : List ItemTree → ItemTree → List ItemTree
with_item all item = all ++ item ∷ []

abbrev pub sees_end : {A : Type 0} → A → State → Bool
sees_end all state = sees_mark RightBrace state

module _ (stmt : Reader StmtTree) (depth : ℕ) where
  -- what stands in a block (6.8.2)
  unfoldable pub item : Reader ItemTree
  item state = if sees_decl state then bind (decl depth) (λ d. pure (Declared d)) state else bind stmt (λ s. pure (Statement s)) state

  unfoldable pub block_items : Reader StmtTree
  block_items = mark LeftBrace >>= (λ first. many_ahead sees_end (taking item with_item) [] >>= (λ list. mark RightBrace >>= (λ last.
      pure (Block (items list) (first ∷ last ∷ [])))))

  -- a block is a scope (6.8.2)
  unfoldable pub block_from : Reader StmtTree
  block_from = scoped block_items

  -- a branch or a body is a scope of its own (6.8.4p3, 6.8.5p5)
  unfoldable pub part : Reader StmtTree
  part = scoped stmt

  unfoldable pub label : Reader StmtTree
  label = word >>= (λ name. mark Colon >>= (λ last. stmt >>= (λ s. pure (Label name.0 s (name.1 ∷ last ∷ [])))))

  unfoldable pub case_stmt : Reader StmtTree
  case_stmt = key keywords.Case >>= (λ first. (readers depth).expr conditional_level >>= (λ value. mark Colon >>= (λ last. stmt >>= (λ s.
      pure (Case value s (first ∷ last ∷ []))))))

  unfoldable pub default_stmt : Reader StmtTree
  default_stmt = key keywords.Default >>= (λ first. mark Colon >>= (λ last. stmt >>= (λ s. pure (Default s (first ∷ last ∷ [])))))

  unfoldable pub else_branch : HeadRead → StmtTree → Reader StmtTree
  else_branch read branch = key keywords.Else >>= (λ last. part >>= (λ otherwise. pure (If read.expr branch (some_stmt otherwise) (read.lines ++ last ∷ []))))

  -- what stands behind a branch: the `else` belongs to it (6.8.4.1p3)
  unfoldable pub behind_branch : HeadRead → StmtTree → Reader StmtTree
  behind_branch read branch state =
      if sees_key keywords.Else state then else_branch read branch state
      else Some (If read.expr branch no_stmt read.lines, state)

  unfoldable pub if_stmt : Reader StmtTree
  if_stmt = scoped (head depth keywords.If >>= (λ read. part >>= (λ branch. behind_branch read branch)))

  unfoldable pub switch_stmt : Reader StmtTree
  switch_stmt = scoped (head depth keywords.Switch >>= (λ read. part >>= (λ body. pure (Switch read.expr body read.lines))))

  unfoldable pub while_stmt : Reader StmtTree
  while_stmt = scoped (head depth keywords.While >>= (λ read. part >>= (λ body. pure (While read.expr body read.lines))))

  unfoldable pub do_stmt : Reader StmtTree
  do_stmt = scoped (key keywords.Do >>= (λ first. part >>= (λ body. head depth keywords.While >>= (λ read. mark Semicolon >>= (λ last.
      pure (Do body read.expr (first ∷ (read.lines ++ last ∷ []))))))))

  unfoldable pub for_stmt : Reader StmtTree
  for_stmt = scoped (clauses depth >>= (λ read. part >>= (λ body. pure (For read.first read.second read.third body read.lines))))

  -- a statement that begins with a keyword
  abbrev pub keyword_stmt : Keyword → Reader StmtTree
  keyword_stmt keywords.Case = case_stmt
  keyword_stmt keywords.Default = default_stmt
  keyword_stmt keywords.If = if_stmt
  keyword_stmt keywords.Switch = switch_stmt
  keyword_stmt keywords.While = while_stmt
  keyword_stmt keywords.Do = do_stmt
  keyword_stmt keywords.For = for_stmt
  keyword_stmt keywords.Goto = goto
  keyword_stmt keywords.Continue = continue_stmt
  keyword_stmt keywords.Break = break_stmt
  keyword_stmt keywords.Return = return_stmt depth
  keyword_stmt _ = expr_stmt depth

  abbrev pub stmt_by : Sight → Reader StmtTree
  stmt_by (sights.Key keyword) = keyword_stmt keyword
  stmt_by _ = expr_stmt depth

  -- a statement whose parts are at most `depth` deep
  unfoldable pub stmt_from : Reader StmtTree
  stmt_from state =
      if sees_label state then label state
      else (if sees_mark LeftBrace state then block_from state else stmt_by (sight state) state)

-- a statement, at most `depth` deep
unfoldable pub stmt : ℕ → Reader StmtTree
stmt zero = refuse
stmt (suc depth) = stmt_from (stmt depth) depth
