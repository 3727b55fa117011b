-- The readers of statements (ISO C99, 6.8).
use Rattle.std.specs.Prelude.{ℕ, zero, suc, Bool, true, false, if◌then◌else◌, List, [], ◌∷◌, ◌++◌}
use Rattle.cx_lex.specs.declared.token.Keyword.{Keyword}
use Rattle.cx_lex.specs.declared.token.Keyword.TheVariants as keywords
use Rattle.cx_lex.specs.declared.token.Punct.TheVariants.{LeftBrace, RightBrace, Semicolon}
use Rattle.straight_parse.specs.declared.sight.Sight.{Sight}
use Rattle.straight_parse.specs.declared.sight.Sight.TheVariants as sights
use Rattle.straight_parse.specs.Exprs.{option_expr}
use Rattle.straight_parse.specs.Lists.{many_ahead, taking}
use Rattle.straight_parse.specs.Reading.{Reader, ◌>>=◌, pure, refuse}
use Rattle.straight_parse.specs.Sights.{sight, shows_mark, sees_mark, mark, keyword}
use Rattle.straight_tree.specs.Trees.{StmtTree, Block, ExprStmt, Return, ItemTree, StmtItem}
use Rattle.straight_tree.specs.Views.{items}

unfoldable pub expr_stmt : ℕ → Reader StmtTree
expr_stmt depth = option_expr depth >>= (λ e. mark Semicolon >>= (λ line. pure (ExprStmt e (line ∷ []))))

-- a keyword, which is `return` where this is read, an expression or none, and a semicolon
unfoldable pub return_stmt : ℕ → Reader StmtTree
return_stmt depth = keyword >>= (λ first. option_expr depth >>= (λ value. mark Semicolon >>= (λ last. pure (Return value (first.1 ∷ last ∷ [])))))

abbrev pub with_stmt : List ItemTree → StmtTree → List ItemTree
with_stmt all stmt = all ++ StmtItem stmt ∷ []

-- `stmt` reads a statement that is less deep
unfoldable pub block_from : Reader StmtTree → Reader StmtTree
block_from stmt = mark LeftBrace >>= (λ first. many_ahead (shows_mark RightBrace) (taking stmt with_stmt) [] >>= (λ list. mark RightBrace >>= (λ last.
    pure (Block (items list) (first ∷ last ∷ [])))))

abbrev pub is_return : Keyword → Bool
is_return keywords.Return = true
is_return _ = false

-- `return` stands ahead
abbrev pub shows_return : Sight → Bool
shows_return (sights.Key k) = is_return k
shows_return sights.End = false
shows_return sights.Word = false
shows_return sights.Number = false
shows_return (sights.Mark punct) = false
shows_return sights.Literal = false

unfoldable pub stmt_from : Reader StmtTree → ℕ → Reader StmtTree
stmt_from stmt depth state =
    if sees_mark LeftBrace state then block_from stmt state
    else (if shows_return (sight state) then return_stmt depth state else expr_stmt depth state)

-- a statement, at most `depth` deep
unfoldable pub stmt : ℕ → Reader StmtTree
stmt zero = refuse
stmt (suc depth) = stmt_from (stmt depth) depth

-- a block, at most `depth` deep
unfoldable pub block : ℕ → Reader StmtTree
block zero = refuse
block (suc depth) = block_from (stmt depth)
