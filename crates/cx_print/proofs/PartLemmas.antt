-- The parts in which trees are printed are their tokens.
use Rattle.std.proofs.Common.{◌≡◌, ℕ, suc, ◌+◌, List, [], ◌∷◌, ◌++◌, drop, length, refl, sym, ap, ◌∙◌, arith, append_assoc, append-nil, drop-drop, length-append}
use Rattle.std.proofs.lemmas.List.{length-map}
use Rattle.cx_lex.specs.declared.token.Keyword.{Keyword}
use Rattle.cx_lex.specs.declared.token.Token.{Token}
use Rattle.cx_lex.specs.declared.token.TokenKind.{TokenKind}
use Rattle.cx_print.specs.Parts.{left_tokens, right_tokens, rest_tokens, simple_tokens, compound_tokens, otherwise_tokens}
use Rattle.cx_tree.specs.Tokens.{own, owns, keys, expr_tokens, stmt_tokens}
use Rattle.cx_tree.specs.Trees.{ExprTree, Name, Number, Letter, Text, Paren, Index, Call, Dot, Arrow, PostUp, PostDown, Literal, PreUp, PreDown, Unary, SizeofExpr, SizeofType, Cast, Binary, Cond, Assign, Comma, StmtTree, Label, Case, Default, Block, ExprStmt, If, Switch, While, Do, For, Goto, Continue, Break, Return}

pub expr_in_parts : (e : ExprTree) → expr_tokens e ≡ left_tokens e ++ (right_tokens e ++ rest_tokens e)
expr_in_parts (Name name lines) = refl
expr_in_parts (Number value ty lines) = refl
expr_in_parts (Letter value lines) = refl
expr_in_parts (Text parts lines) = refl
expr_in_parts (Paren inner lines) = refl
expr_in_parts (Index of index lines) = simp append-nil refl
expr_in_parts (Call of args lines) = simp append-nil refl
expr_in_parts (Dot of member lines) = simp append-nil refl
expr_in_parts (Arrow of member lines) = simp append-nil refl
expr_in_parts (PostUp of lines) = simp append-nil refl
expr_in_parts (PostDown of lines) = simp append-nil refl
expr_in_parts (Literal of list lines) = simp (append_assoc, append-nil) refl
expr_in_parts (PreUp on lines) = refl
expr_in_parts (PreDown on lines) = refl
expr_in_parts (Unary op on lines) = refl
expr_in_parts (SizeofExpr on lines) = refl
expr_in_parts (SizeofType of lines) = refl
expr_in_parts (Cast to on lines) = simp (append_assoc, append-nil) refl
expr_in_parts (Binary left op right lines) = simp append-nil refl
expr_in_parts (Cond condition if_true if_false lines) = refl
expr_in_parts (Assign left op right lines) = simp append-nil refl
expr_in_parts (Comma left right lines) = simp append-nil refl

pub stmt_in_parts : (s : StmtTree) → stmt_tokens s ≡ simple_tokens s ++ (compound_tokens s ++ otherwise_tokens s)
stmt_in_parts (Label name stmt lines) = simp append-nil refl
stmt_in_parts (Case value stmt lines) = simp append-nil refl
stmt_in_parts (Default stmt lines) = simp append-nil refl
stmt_in_parts (Block items lines) = simp append-nil refl
stmt_in_parts (ExprStmt expr lines) = sym (append-nil (simple_tokens (ExprStmt expr lines)))
stmt_in_parts (If condition branch otherwise lines) = simp append_assoc refl
stmt_in_parts (Switch on body lines) = simp append-nil refl
stmt_in_parts (While condition body lines) = simp append-nil refl
stmt_in_parts (Do body condition lines) = simp append-nil refl
stmt_in_parts (For first second third body lines) = simp (append_assoc, append-nil) refl
stmt_in_parts (Goto name lines) = refl
stmt_in_parts (Continue lines) = refl
stmt_in_parts (Break lines) = refl
stmt_in_parts (Return value lines) = sym (append-nil (simple_tokens (Return value lines)))

-- ---- own tokens that stand side by side

pub keys_count : (words : List Keyword) → length (keys words) ≡ length words
keys_count words = length-map words _

-- the lines behind a token and others
pub behind_one : (kind : TokenKind) (others : List TokenKind) (lines : List ℕ) → drop (length (kind ∷ others)) lines ≡ drop (length others) (drop 1 lines)
behind_one kind others lines =
    let count : length (kind ∷ others) ≡ 1 + length others = omega arith in
    ap (λ k. drop k lines) count ∙ sym (drop-drop (length others) 1 lines)

-- the lines behind others and a token
pub behind_last : (kind : TokenKind) (others : List TokenKind) (lines : List ℕ) → drop (length (others ++ kind ∷ [])) lines ≡ drop 1 (drop (length others) lines)
behind_last kind others lines =
    let count : length (others ++ kind ∷ []) ≡ length others + 1 = length-append others (kind ∷ []) in
    ap (λ k. drop k lines) count ∙ sym (drop-drop 1 (length others) lines)

pub owns_last : (kind : TokenKind) (others : List TokenKind) (lines : List ℕ) →
    owns (others ++ kind ∷ []) lines ≡ owns others lines ++ own (drop (length others) lines) 0 kind ∷ []
owns_last kind [] lines = refl
owns_last kind (other ∷ others) lines =
    ap (λ rest. own lines 0 other ∷ rest) (owns_last kind others (drop 1 lines)
    ∙ ap (λ rest. owns others (drop 1 lines) ++ own rest 0 kind ∷ []) (sym (behind_one other others lines)))

pub owns_then : (kind : TokenKind) (others : List TokenKind) (lines rest : List ℕ) (before behind after : List Token) →
    rest ≡ drop (length others) lines → behind ≡ before ++ owns others lines → after ≡ behind ++ own rest 0 kind ∷ [] →
    after ≡ before ++ owns (others ++ kind ∷ []) lines
owns_then kind others lines rest before behind after at front last =
    last ∙ ap (λ text. text ++ own rest 0 kind ∷ []) front ∙ append_assoc before (owns others lines) (own rest 0 kind ∷ [])
    ∙ ap (λ text. before ++ text) (ap (λ ahead. owns others lines ++ own ahead 0 kind ∷ []) at ∙ sym (owns_last kind others lines))
