-- Readers of statements (the Rust Reference, "Statements"). `below` reads the statements of a block up to its brace.
use Rattle.std.specs.Prelude.{ℕ, zero, suc, Bool, true, false, ◌&&◌, bytes_eq, codes, List, [], drop, length, Option, Some, None, if◌then◌else◌}
use Rattle.rs_expr.specs.Exprs.{expr, place_of}
use Rattle.rs_expr.specs.Numbers.{literal}
use Rattle.rs_expr.specs.Reading.{Toks, Reader, read_of, many_ahead}
use Rattle.rs_expr.specs.Signs.{sign_at, text_at}
use Rattle.rs_expr.specs.declared.sign.Sign.{Sign}
use Rattle.rs_expr.specs.declared.sign.Sign.TheVariants as of
use Rattle.rs_text.specs.Tree.{Expr, Stmt, Assign, Eval, CopyBytes, If, Loop, Block, Break, Continue, Match, Return, stmts, ArmTree, LiteralArm, arms}

-- an expression that stands in a statement
abbrev pub read_expr : Reader Expr
read_expr tokens = expr (length tokens) tokens

-- `{ .. }`
unfoldable pub block : Reader (List Stmt) → Reader (List Stmt)
block below tokens = read_of (below (drop 1 tokens)).0 (drop 1 (below (drop 1 tokens)).1)

abbrev pub else_by : Sign → Reader (List Stmt) → Reader (List Stmt)
else_by of.Else below tokens = block below (drop 1 tokens)
else_by _ below tokens = read_of [] tokens

-- `else { .. }`, which may be missing
unfoldable pub else_part : Reader (List Stmt) → Reader (List Stmt)
else_part below tokens = else_by (sign_at tokens) below tokens

-- `{ .. } else { .. }`, where the condition is read
unfoldable pub if_from : Expr → Reader (List Stmt) → Reader Stmt
if_from condition below tokens =
    read_of (If condition (stmts (block below tokens).0) (stmts (else_part below (block below tokens).1).0))
    (else_part below (block below tokens).1).1

-- `if e { .. } else { .. }`
unfoldable pub if_stmt : Reader (List Stmt) → Reader Stmt
if_stmt below tokens = if_from (read_expr (drop 1 tokens)).0 below (read_expr (drop 1 tokens)).1

-- `loop { .. }`, behind its label
unfoldable pub loop_from : Option (List ℕ) → Reader (List Stmt) → Reader Stmt
loop_from label below tokens = read_of (Loop label (stmts (block below (drop 1 tokens)).0)) (block below (drop 1 tokens)).1

-- `{ .. }`, behind its label
unfoldable pub block_from : List ℕ → Reader (List Stmt) → Reader Stmt
block_from label below tokens = read_of (Block label (stmts (block below tokens).0)) (block below tokens).1

abbrev pub labelled_by : Sign → List ℕ → Reader (List Stmt) → Reader Stmt
labelled_by of.Loop label below tokens = loop_from (Some label) below tokens
labelled_by _ label below tokens = block_from label below tokens

-- `'l: loop { .. }` and `'l: { .. }`
unfoldable pub labelled : Reader (List Stmt) → Reader Stmt
labelled below tokens = labelled_by (sign_at (drop 2 tokens)) (text_at tokens) below (drop 2 tokens)

-- `break 'l;`
unfoldable pub break_stmt : Reader Stmt
break_stmt tokens = read_of (Break (text_at (drop 1 tokens))) (drop 3 tokens)

-- `continue 'l;`
unfoldable pub continue_stmt : Reader Stmt
continue_stmt tokens = read_of (Continue (text_at (drop 1 tokens))) (drop 3 tokens)

-- `1i32 => { .. }`
unfoldable pub arm : Reader (List Stmt) → Reader ArmTree
arm below tokens =
    read_of (LiteralArm (literal tokens).0.0 (literal tokens).0.1 (stmts (block below (drop 1 (literal tokens).1)).0))
    (block below (drop 1 (literal tokens).1)).1

abbrev pub ends_arms : Sign → Bool
ends_arms of.End = true
ends_arms of.Underscore = true
ends_arms _ = false

abbrev pub read_arms : Reader (List Stmt) → Reader (List ArmTree)
read_arms below = many_ahead ends_arms (arm below)

-- `_ => { .. } }`, where the arms of literals are read
unfoldable pub match_end : Expr → List ArmTree → Reader (List Stmt) → Reader Stmt
match_end value cases below tokens =
    read_of (Match value (arms cases) (stmts (block below (drop 2 tokens)).0)) (drop 1 (block below (drop 2 tokens)).1)

-- `{ .. }` of a match, whose value is read
unfoldable pub match_from : Expr → Reader (List Stmt) → Reader Stmt
match_from value below tokens = match_end value (read_arms below (drop 1 tokens)).0 below (read_arms below (drop 1 tokens)).1

-- `match e { .. }`
unfoldable pub match_stmt : Reader (List Stmt) → Reader Stmt
match_stmt below tokens = match_from (read_expr (drop 1 tokens)).0 below (read_expr (drop 1 tokens)).1

abbrev pub returned_by : Sign → Reader (Option Expr)
returned_by of.Semicolon tokens = read_of None tokens
returned_by _ tokens = read_of (Some (read_expr tokens).0) (read_expr tokens).1

-- the value of a `return`, behind its word
abbrev pub returned : Reader (Option Expr)
returned tokens = returned_by (sign_at tokens) tokens

-- `return e;`, or `return;`
unfoldable pub return_stmt : Reader Stmt
return_stmt tokens = read_of (Return (returned (drop 1 tokens)).0) (drop 1 (returned (drop 1 tokens)).1)

-- an expression and the mark behind it
unfoldable pub copied : Reader Expr
copied tokens = read_of (read_expr tokens).0 (drop 1 (read_expr tokens).1)

-- `core::ptr::copy(e, e, e);`
unfoldable pub copy_stmt : Reader Stmt
copy_stmt tokens =
    read_of (CopyBytes (copied (drop 6 tokens)).0 (copied (copied (drop 6 tokens)).1).0 (copied (copied (copied (drop 6 tokens)).1).1).0)
    (drop 1 (copied (copied (copied (drop 6 tokens)).1).1).1)

-- `= e;`
unfoldable pub assigned : Expr → Reader Stmt
assigned left tokens = read_of (Assign (place_of left) (copied (drop 1 tokens)).0) (copied (drop 1 tokens)).1

abbrev pub assign_by : Sign → Expr → Reader Stmt
assign_by of.Equal left tokens = assigned left tokens
assign_by _ left tokens = read_of (Eval left) (drop 1 tokens)

-- `= e;`, or the end of an expression that is a statement
unfoldable pub assign_from : Expr → Reader Stmt
assign_from left tokens = assign_by (sign_at tokens) left tokens

-- `p = e;` and `e;`
unfoldable pub expr_stmt : Reader Stmt
expr_stmt tokens = assign_from (read_expr tokens).0 (read_expr tokens).1

abbrev pub is_path_mark : Sign → Bool
is_path_mark of.PathMark = true
is_path_mark _ = false

-- `core::ptr::copy` is ahead
abbrev pub is_copy : Toks → Bool
is_copy tokens = is_path_mark (sign_at (drop 1 tokens)) && bytes_eq (text_at (drop 4 tokens)) (codes "copy")

-- what begins with a name
unfoldable pub name_stmt : Reader Stmt
name_stmt tokens = if is_copy tokens then copy_stmt tokens else expr_stmt tokens

abbrev pub stmt_by : Sign → Reader (List Stmt) → Reader Stmt
stmt_by of.If below tokens = if_stmt below tokens
stmt_by of.Loop below tokens = loop_from None below tokens
stmt_by of.Label below tokens = labelled below tokens
stmt_by of.Match below tokens = match_stmt below tokens
stmt_by of.Break below tokens = break_stmt tokens
stmt_by of.Continue below tokens = continue_stmt tokens
stmt_by of.Return below tokens = return_stmt tokens
stmt_by of.Name below tokens = name_stmt tokens
stmt_by _ below tokens = expr_stmt tokens

unfoldable pub stmt_from : Reader (List Stmt) → Reader Stmt
stmt_from below tokens = stmt_by (sign_at tokens) below tokens

abbrev pub ends_block : Sign → Bool
ends_block of.End = true
ends_block of.RightBrace = true
ends_block _ = false

abbrev pub stmts_from : Reader (List Stmt) → Reader (List Stmt)
stmts_from below = many_ahead ends_block (stmt_from below)

-- statements of blocks of at most so many levels, up to a brace
unfoldable pub read_stmts : ℕ → Reader (List Stmt)
read_stmts zero tokens = read_of [] tokens
read_stmts (suc levels) tokens = stmts_from (read_stmts levels) tokens
