-- Statements that stand in the arms of a branch.
use Rattle.std.specs.Prelude.{Bool, true, false, List, [], ◌∷◌, None, map}
use Rattle.emit_rules.specs.Texts.{first_text, if_of}
use Rattle.rs_text.specs.Tree.{Expr, Stmt, Return, Stmts, no_stmts, stmts}
use Rattle.rs_tree.specs.Views.{stmt_view}
use Rattle.emit_texts.specs.declared.branches.Text.{Text}

abbrev pub text_view : Text → Stmts
text_view text = stmts (map stmt_view text.stmts)

-- a statement is `return;`
abbrev pub is_plain_return : Stmt → Bool
is_plain_return (Return None) = true
is_plain_return other = false

-- an `if` of the statements on its sides
abbrev pub if_texts : Expr → List Stmts → Stmts
if_texts test [] = no_stmts
if_texts test (text ∷ texts) = if_of test text (first_text texts)
