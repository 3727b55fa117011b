-- The tokens of an expression and of a statement in three parts, in the order in which they are printed, so that each is printed by
-- a function that looks at the tree's form once and goes on with one other tree at most.
use Rattle.std.specs.Prelude.{List, [], ◌∷◌, ◌++◌, drop}
use Rattle.cx_lex.specs.declared.token.Keyword.TheVariants as keyword
use Rattle.cx_lex.specs.declared.token.Punct.TheVariants as punct
use Rattle.cx_lex.specs.declared.token.Token.{Token}
use Rattle.cx_lex.specs.declared.token.TokenKind.TheVariants as kind
use Rattle.cx_tree.specs.Tokens.{own, mark, key, word, listed, ended, texts_tokens, expr_tokens, exprs_tokens, option_tokens, type_name_tokens, initialiser_list_tokens, first_tokens, behind_first, clauses_tokens, stmt_tokens, else_tokens, items_tokens}
use Rattle.cx_tree.specs.Trees.{ExprTree, Name, Number, Letter, Text, Paren, Index, Call, Dot, Arrow, PostUp, PostDown, Literal, PreUp, PreDown, Unary, SizeofExpr, SizeofType, Cast, Binary, Cond, Assign, Comma, StmtTree, Label, Case, Default, Block, ExprStmt, If, Switch, While, Do, For, Goto, Continue, Break, Return}

-- ---- expressions (6.5)

-- the left operand, or the type name in parentheses, that an expression begins with
abbrev pub left_tokens : ExprTree → List Token
left_tokens (Index of index lines) = expr_tokens of
left_tokens (Call of args lines) = expr_tokens of
left_tokens (Dot of member lines) = expr_tokens of
left_tokens (Arrow of member lines) = expr_tokens of
left_tokens (PostUp of lines) = expr_tokens of
left_tokens (PostDown of lines) = expr_tokens of
left_tokens (Literal of list lines) = mark lines 0 punct.LeftParenthesis ∷ (type_name_tokens of ++ mark lines 1 punct.RightParenthesis ∷ [])
left_tokens (Cast to on lines) = mark lines 0 punct.LeftParenthesis ∷ (type_name_tokens to ++ mark lines 1 punct.RightParenthesis ∷ [])
left_tokens (Binary left op right lines) = expr_tokens left
left_tokens (Cond condition if_true if_false lines) = expr_tokens condition
left_tokens (Assign left op right lines) = expr_tokens left
left_tokens (Comma left right lines) = expr_tokens left
left_tokens _ = []

-- what stands behind it, other than the third operand of `?:`
abbrev pub right_tokens : ExprTree → List Token
right_tokens (Index of index lines) = mark lines 0 punct.LeftBracket ∷ (expr_tokens index ++ mark lines 1 punct.RightBracket ∷ [])
right_tokens (Call of args lines) = mark lines 0 punct.LeftParenthesis ∷ listed (ended punct.RightParenthesis) (exprs_tokens args) (drop 1 lines)
right_tokens (Dot of member lines) = mark lines 0 punct.Dot ∷ word lines 1 member ∷ []
right_tokens (Arrow of member lines) = mark lines 0 punct.Arrow ∷ word lines 1 member ∷ []
right_tokens (PostUp of lines) = mark lines 0 punct.PlusPlus ∷ []
right_tokens (PostDown of lines) = mark lines 0 punct.MinusMinus ∷ []
right_tokens (Literal of list lines) = initialiser_list_tokens list
right_tokens (Cast to on lines) = expr_tokens on
right_tokens (Binary left op right lines) = mark lines 0 op ∷ expr_tokens right
right_tokens (Cond condition if_true if_false lines) = mark lines 0 punct.Question ∷ expr_tokens if_true
right_tokens (Assign left op right lines) = mark lines 0 op ∷ expr_tokens right
right_tokens (Comma left right lines) = mark lines 0 punct.Comma ∷ expr_tokens right
right_tokens _ = []

-- what is left: the third operand of `?:`, or an expression that begins with another token of its own
abbrev pub rest_tokens : ExprTree → List Token
rest_tokens (Name name lines) = word lines 0 name ∷ []
rest_tokens (Number value ty lines) = own lines 0 (kind.Number value ty) ∷ []
rest_tokens (Letter value lines) = own lines 0 (kind.Letter value) ∷ []
rest_tokens (Text parts lines) = texts_tokens parts lines
rest_tokens (Paren inner lines) = mark lines 0 punct.LeftParenthesis ∷ (expr_tokens inner ++ mark lines 1 punct.RightParenthesis ∷ [])
rest_tokens (PreUp on lines) = mark lines 0 punct.PlusPlus ∷ expr_tokens on
rest_tokens (PreDown on lines) = mark lines 0 punct.MinusMinus ∷ expr_tokens on
rest_tokens (Unary op on lines) = mark lines 0 op ∷ expr_tokens on
rest_tokens (SizeofExpr on lines) = key lines 0 keyword.Sizeof ∷ expr_tokens on
rest_tokens (SizeofType of lines) =
    key lines 0 keyword.Sizeof ∷ mark lines 1 punct.LeftParenthesis ∷ (type_name_tokens of ++ mark lines 2 punct.RightParenthesis ∷ [])
rest_tokens (Cond condition if_true if_false lines) = mark lines 1 punct.Colon ∷ expr_tokens if_false
rest_tokens _ = []

-- ---- statements (6.8)

-- a statement without another one in it
abbrev pub simple_tokens : StmtTree → List Token
simple_tokens (ExprStmt expr lines) = option_tokens expr ++ mark lines 0 punct.Semicolon ∷ []
simple_tokens (Goto name lines) = key lines 0 keyword.Goto ∷ word lines 1 name ∷ mark lines 2 punct.Semicolon ∷ []
simple_tokens (Continue lines) = key lines 0 keyword.Continue ∷ mark lines 1 punct.Semicolon ∷ []
simple_tokens (Break lines) = key lines 0 keyword.Break ∷ mark lines 1 punct.Semicolon ∷ []
simple_tokens (Return value lines) = key lines 0 keyword.Return ∷ (option_tokens value ++ mark lines 1 punct.Semicolon ∷ [])
simple_tokens _ = []

-- a statement that holds others, without `else` and its branch
abbrev pub compound_tokens : StmtTree → List Token
compound_tokens (Label name stmt lines) = word lines 0 name ∷ mark lines 1 punct.Colon ∷ stmt_tokens stmt
compound_tokens (Case value stmt lines) = key lines 0 keyword.Case ∷ (expr_tokens value ++ (mark lines 1 punct.Colon ∷ stmt_tokens stmt))
compound_tokens (Default stmt lines) = key lines 0 keyword.Default ∷ mark lines 1 punct.Colon ∷ stmt_tokens stmt
compound_tokens (Block items lines) = mark lines 0 punct.LeftBrace ∷ (items_tokens items ++ mark lines 1 punct.RightBrace ∷ [])
compound_tokens (If condition branch otherwise lines) =
    key lines 0 keyword.If ∷ mark lines 1 punct.LeftParenthesis ∷ (expr_tokens condition ++ (mark lines 2 punct.RightParenthesis ∷ stmt_tokens branch))
compound_tokens (Switch on body lines) =
    key lines 0 keyword.Switch ∷ mark lines 1 punct.LeftParenthesis ∷ (expr_tokens on ++ (mark lines 2 punct.RightParenthesis ∷ stmt_tokens body))
compound_tokens (While condition body lines) =
    key lines 0 keyword.While ∷ mark lines 1 punct.LeftParenthesis ∷ (expr_tokens condition ++ (mark lines 2 punct.RightParenthesis ∷ stmt_tokens body))
compound_tokens (Do body condition lines) =
    key lines 0 keyword.Do ∷ (stmt_tokens body ++ (key lines 1 keyword.While ∷ mark lines 2 punct.LeftParenthesis ∷ (expr_tokens condition
    ++ mark lines 3 punct.RightParenthesis ∷ mark lines 4 punct.Semicolon ∷ [])))
compound_tokens (For first second third body lines) =
    (key lines 0 keyword.For ∷ mark lines 1 punct.LeftParenthesis ∷ (first_tokens first (drop 2 lines)
    ++ clauses_tokens second third (behind_first first (drop 2 lines)))) ++ stmt_tokens body
compound_tokens _ = []

-- `else` and its branch
abbrev pub otherwise_tokens : StmtTree → List Token
otherwise_tokens (If condition branch otherwise lines) = else_tokens lines otherwise
otherwise_tokens _ = []
