-- What an expression begins with, and what the token behind that may be.
use Rattle.std.proofs.Common.{◌≡◌, ◌<◌, Bool, true, false, List, [], ◌∷◌, ◌++◌, refl, sym, ap, ◌∙◌, subst, arith, append_assoc}
use Rattle.std.specs.Prelude.{IsTrue}
use Rattle.std.proofs.lemmas.Bool.{true≢false}
use Rattle.cx_cursor.specs.Reading.{State, at}
use Rattle.cx_cursor.specs.Sights.{sight, sight_behind, word_sight, same_mark, same_key, shows_mark, shows_key, shows_word, sees_mark}
use Rattle.cx_cursor.specs.declared.sight.Sight.{Sight}
use Rattle.cx_cursor.specs.declared.sight.Sight.TheVariants as sights
use Rattle.cx_cursor.proofs.Readers.{same_mark_same, same_key_same, same_key_refl}
use Rattle.cx_words.specs.Beginnings.{shows_spec, begins_spec, begins_member_spec, begins_tagged}
use Rattle.cx_lex.specs.declared.token.Keyword.{Keyword}
use Rattle.cx_lex.specs.declared.token.Keyword.TheVariants as keyword
use Rattle.cx_lex.specs.declared.token.Punct.{Punct}
use Rattle.cx_lex.specs.declared.token.Punct.TheVariants as punct
use Rattle.cx_lex.specs.declared.token.Token.{Token}
use Rattle.cx_tree.specs.Levels.{binary_level, is_unary_operator, is_assignment_operator}
use Rattle.cx_tree.specs.Names.{Binding, ExprStands}
use Rattle.cx_tree.specs.Tokens.{expr_tokens}
use Rattle.cx_tree.specs.Trees.{ExprTree, Name, Number, Letter, Text, Paren, Index, Call, Dot, Arrow, PostUp, PostDown, Literal, PreUp, PreDown, Unary, SizeofExpr, SizeofType, Cast, Binary, Cond, Assign, Comma}
use Rattle.cx_tree.specs.Valid.{IsValidExpr}
use Rattle.cx_tree.specs.Words.{is_storage_class, is_type_word, is_qualifier, is_function_specifier}

-- ---- what begins an expression

-- a mark that begins an expression
abbrev pub begins_mark : Punct → Bool
begins_mark punct.LeftParenthesis = true
begins_mark punct.PlusPlus = true
begins_mark punct.MinusMinus = true
begins_mark punct.Ampersand = true
begins_mark punct.Star = true
begins_mark punct.Plus = true
begins_mark punct.Minus = true
begins_mark punct.Tilde = true
begins_mark punct.Exclamation = true
begins_mark _ = false

abbrev pub begins_expr : Sight → Bool
begins_expr sights.Word = true
begins_expr sights.Number = true
begins_expr sights.Letter = true
begins_expr sights.Text = true
begins_expr (sights.Key k) = same_key k keyword.Sizeof
begins_expr (sights.Mark p) = begins_mark p
begins_expr sights.End = false
begins_expr sights.TypeWord = false

unary_begins : (op : Punct) → IsTrue (is_unary_operator op) → begins_mark op ≡ true
unfolding is_unary_operator
unary_begins punct.Ampersand h = refl
unary_begins punct.Star h = refl
unary_begins punct.Plus h = refl
unary_begins punct.Minus h = refl
unary_begins punct.Tilde h = refl
unary_begins punct.Exclamation h = refl
unary_begins _ h = absurd (true≢false (sym h))

-- an expression in front
abbrev pub before : ExprTree → List Token → List Binding → State
before e rest names = at (expr_tokens e ++ rest) names

-- behind a left operand
module _ (P : State → Type 0) (left : ExprTree) (behind rest : List Token) (names : List Binding) where
  pub regrouped : P (before left (behind ++ rest) names) → P (at ((expr_tokens left ++ behind) ++ rest) names)
  regrouped p = subst (λ (ts : List Token). P (at ts names)) (sym (append_assoc (expr_tokens left) behind rest)) p

abbrev Begun : State → Type 0
Begun state = begins_expr (sight state) ≡ true

-- a valid expression begins with a token that begins an expression
pub expr_begins : (e : ExprTree) (names : List Binding) (rest : List Token) → IsValidExpr e → ExprStands names e → begins_expr (sight (before e rest names)) ≡ true
expr_begins (Name name lines) names rest v stands = ap (λ (b : Bool). begins_expr (word_sight b)) stands
expr_begins (Number value ty lines) names rest v stands = refl
expr_begins (Letter value lines) names rest v stands = refl
expr_begins (Text [] lines) names rest v stands = let a : 0 < 0 = v.part in absurd (omega (arith, a))
expr_begins (Text (part ∷ parts) lines) names rest v stands = refl
expr_begins (Paren inner lines) names rest v stands = refl
expr_begins (Index of index lines) names rest v stands = regrouped Begun of _ rest names (expr_begins of names _ v.first.valid stands.0)
expr_begins (Call of args lines) names rest v stands = regrouped Begun of _ rest names (expr_begins of names _ v.first.valid stands.0)
expr_begins (Dot of member lines) names rest v stands = regrouped Begun of _ rest names (expr_begins of names _ v.part.valid stands)
expr_begins (Arrow of member lines) names rest v stands = regrouped Begun of _ rest names (expr_begins of names _ v.part.valid stands)
expr_begins (PostUp of lines) names rest v stands = regrouped Begun of _ rest names (expr_begins of names _ v.part.valid stands)
expr_begins (PostDown of lines) names rest v stands = regrouped Begun of _ rest names (expr_begins of names _ v.part.valid stands)
expr_begins (Literal of list lines) names rest v stands = refl
expr_begins (PreUp on lines) names rest v stands = refl
expr_begins (PreDown on lines) names rest v stands = refl
expr_begins (Unary op on lines) names rest v stands = unary_begins op v.operator
expr_begins (SizeofExpr on lines) names rest v stands = same_key_refl keyword.Sizeof
expr_begins (SizeofType of lines) names rest v stands = same_key_refl keyword.Sizeof
expr_begins (Cast to on lines) names rest v stands = refl
expr_begins (Binary left op right lines) names rest v stands = regrouped Begun left _ rest names (expr_begins left names _ v.left.valid stands.0)
expr_begins (Cond condition if_true if_false lines) names rest v stands = regrouped Begun condition _ rest names (expr_begins condition names _ v.first.valid stands.first)
expr_begins (Assign left op right lines) names rest v stands = regrouped Begun left _ rest names (expr_begins left names _ v.left.valid stands.0)
expr_begins (Comma left right lines) names rest v stands = regrouped Begun left _ rest names (expr_begins left names _ v.first.valid stands.0)

-- ---- what doesn't begin an expression

sizeof_no_spec : (all : Bool) → begins_spec all keyword.Sizeof ≡ false
unfolding begins_spec begins_member_spec begins_tagged is_type_word is_qualifier is_storage_class is_function_specifier
sizeof_no_spec true = refl
sizeof_no_spec false = refl

pub begins_no_spec : (s : Sight) (all typed : Bool) → begins_expr s ≡ true → shows_spec all typed s ≡ false
begins_no_spec sights.Word all typed h = refl
begins_no_spec sights.Number all typed h = refl
begins_no_spec sights.Letter all typed h = refl
begins_no_spec sights.Text all typed h = refl
begins_no_spec (sights.Key k) all typed h = ap (λ (k : Keyword). begins_spec all k) (same_key_same k keyword.Sizeof h) ∙ sizeof_no_spec all
begins_no_spec (sights.Mark p) all typed h = refl
begins_no_spec sights.End all typed h = refl
begins_no_spec sights.TypeWord all typed h = absurd (true≢false (sym h))

other_mark : (q p : Punct) (b : Bool) → same_mark q p ≡ b → begins_mark q ≡ true → begins_mark p ≡ false → b ≡ false
other_mark q p true same h none = absurd (true≢false (sym h ∙ ap begins_mark (same_mark_same q p same) ∙ none))
other_mark q p false same h none = refl

-- for each mark that begins no expression, where the second equation is `refl`
pub begins_no_mark : (p : Punct) (s : Sight) → begins_expr s ≡ true → begins_mark p ≡ false → shows_mark p s ≡ false
begins_no_mark p (sights.Mark q) h none = other_mark q p (same_mark q p) refl h none
begins_no_mark p sights.Word h none = refl
begins_no_mark p sights.Number h none = refl
begins_no_mark p sights.Letter h none = refl
begins_no_mark p sights.Text h none = refl
begins_no_mark p (sights.Key k) h none = refl
begins_no_mark p sights.End h none = refl
begins_no_mark p sights.TypeWord h none = refl

pub begins_no_key : (k : Keyword) (s : Sight) → begins_expr s ≡ true → same_key keyword.Sizeof k ≡ false → shows_key k s ≡ false
begins_no_key k (sights.Key found) h other = ap (λ (found : Keyword). same_key found k) (same_key_same found keyword.Sizeof h) ∙ other
begins_no_key k (sights.Mark q) h other = refl
begins_no_key k sights.Word h other = refl
begins_no_key k sights.Number h other = refl
begins_no_key k sights.Letter h other = refl
begins_no_key k sights.Text h other = refl
begins_no_key k sights.End h other = refl
begins_no_key k sights.TypeWord h other = refl

-- an expression shows no specifier
pub expr_no_spec : (e : ExprTree) (names : List Binding) (rest : List Token) (all typed : Bool) → IsValidExpr e → ExprStands names e → shows_spec all typed (sight (before e rest names)) ≡ false
expr_no_spec e names rest all typed v stands = begins_no_spec (sight (before e rest names)) all typed (expr_begins e names rest v stands)

-- nor a mark that begins no expression: for `)`, `]`, `}`, `{`, `[`, `,`, `;`, `:`, `=` and `.` the last equation is `refl`
pub expr_no_mark : (p : Punct) (e : ExprTree) (names : List Binding) (rest : List Token) → IsValidExpr e → ExprStands names e → begins_mark p ≡ false → sees_mark p (before e rest names) ≡ false
expr_no_mark p e names rest v stands none = begins_no_mark p (sight (before e rest names)) (expr_begins e names rest v stands) none

-- nor a keyword other than `sizeof`
pub expr_no_key : (k : Keyword) (e : ExprTree) (names : List Binding) (rest : List Token) → IsValidExpr e → ExprStands names e → same_key keyword.Sizeof k ≡ false
    → shows_key k (sight (before e rest names)) ≡ false
expr_no_key k e names rest v stands other = begins_no_key k (sight (before e rest names)) (expr_begins e names rest v stands) other

-- ---- the second token

abbrev StarBegun : State → Type 0
StarBegun state = sees_mark punct.Star state ≡ true → begins_expr (sight_behind state) ≡ true

-- behind a `*` that an expression begins with, an expression begins
pub star_behind : (e : ExprTree) (names : List Binding) (rest : List Token) → IsValidExpr e → ExprStands names e
    → sees_mark punct.Star (before e rest names) ≡ true → begins_expr (sight_behind (before e rest names)) ≡ true
unfolding same_mark
star_behind (Name name lines) names rest v stands star =
    absurd (true≢false (sym star ∙ ap (λ (b : Bool). shows_mark punct.Star (word_sight b)) stands))
star_behind (Number value ty lines) names rest v stands star = absurd (true≢false (sym star))
star_behind (Letter value lines) names rest v stands star = absurd (true≢false (sym star))
star_behind (Text [] lines) names rest v stands star = let a : 0 < 0 = v.part in absurd (omega (arith, a))
star_behind (Text (part ∷ parts) lines) names rest v stands star = absurd (true≢false (sym star))
star_behind (Paren inner lines) names rest v stands star = absurd (true≢false (sym star))
star_behind (Index of index lines) names rest v stands star = regrouped StarBegun of _ rest names (star_behind of names _ v.first.valid stands.0) star
star_behind (Call of args lines) names rest v stands star = regrouped StarBegun of _ rest names (star_behind of names _ v.first.valid stands.0) star
star_behind (Dot of member lines) names rest v stands star = regrouped StarBegun of _ rest names (star_behind of names _ v.part.valid stands) star
star_behind (Arrow of member lines) names rest v stands star = regrouped StarBegun of _ rest names (star_behind of names _ v.part.valid stands) star
star_behind (PostUp of lines) names rest v stands star = regrouped StarBegun of _ rest names (star_behind of names _ v.part.valid stands) star
star_behind (PostDown of lines) names rest v stands star = regrouped StarBegun of _ rest names (star_behind of names _ v.part.valid stands) star
star_behind (Literal of list lines) names rest v stands star = absurd (true≢false (sym star))
star_behind (PreUp on lines) names rest v stands star = absurd (true≢false (sym star))
star_behind (PreDown on lines) names rest v stands star = absurd (true≢false (sym star))
star_behind (Unary op on lines) names rest v stands star = expr_begins on names rest v.operand.valid stands
star_behind (SizeofExpr on lines) names rest v stands star = absurd (true≢false (sym star))
star_behind (SizeofType of lines) names rest v stands star = absurd (true≢false (sym star))
star_behind (Cast to on lines) names rest v stands star = absurd (true≢false (sym star))
star_behind (Binary left op right lines) names rest v stands star = regrouped StarBegun left _ rest names (star_behind left names _ v.left.valid stands.0) star
star_behind (Cond condition if_true if_false lines) names rest v stands star = regrouped StarBegun condition _ rest names (star_behind condition names _ v.first.valid stands.first) star
star_behind (Assign left op right lines) names rest v stands star = regrouped StarBegun left _ rest names (star_behind left names _ v.left.valid stands.0) star
star_behind (Comma left right lines) names rest v stands star = regrouped StarBegun left _ rest names (star_behind left names _ v.first.valid stands.0) star

binary_no_colon : (op : Punct) → 0 < binary_level op → same_mark op punct.Colon ≡ false
unfolding binary_level same_mark
binary_no_colon punct.Colon h = absurd (omega (arith, h))
binary_no_colon _ h = refl

assign_no_colon : (op : Punct) → IsTrue (is_assignment_operator op) → same_mark op punct.Colon ≡ false
unfolding is_assignment_operator same_mark
assign_no_colon punct.Colon h = absurd (true≢false (sym h))
assign_no_colon _ h = refl

abbrev NoLabel : State → Type 0
NoLabel state = shows_word (sight state) ≡ true → shows_mark punct.Colon (sight_behind state) ≡ false

-- Behind an identifier that an expression begins with stands no colon, where none stands behind the expression.
pub no_label : (e : ExprTree) (names : List Binding) (rest : List Token) → IsValidExpr e → ExprStands names e → sees_mark punct.Colon (at rest names) ≡ false
    → shows_word (sight (before e rest names)) ≡ true → shows_mark punct.Colon (sight_behind (before e rest names)) ≡ false
unfolding same_mark
no_label (Name name lines) names rest v stands none is = none
no_label (Number value ty lines) names rest v stands none is = absurd (true≢false (sym is))
no_label (Letter value lines) names rest v stands none is = absurd (true≢false (sym is))
no_label (Text [] lines) names rest v stands none is = let a : 0 < 0 = v.part in absurd (omega (arith, a))
no_label (Text (part ∷ parts) lines) names rest v stands none is = absurd (true≢false (sym is))
no_label (Paren inner lines) names rest v stands none is = absurd (true≢false (sym is))
no_label (Index of index lines) names rest v stands none is = regrouped NoLabel of _ rest names (no_label of names _ v.first.valid stands.0 refl) is
no_label (Call of args lines) names rest v stands none is = regrouped NoLabel of _ rest names (no_label of names _ v.first.valid stands.0 refl) is
no_label (Dot of member lines) names rest v stands none is = regrouped NoLabel of _ rest names (no_label of names _ v.part.valid stands refl) is
no_label (Arrow of member lines) names rest v stands none is = regrouped NoLabel of _ rest names (no_label of names _ v.part.valid stands refl) is
no_label (PostUp of lines) names rest v stands none is = regrouped NoLabel of _ rest names (no_label of names _ v.part.valid stands refl) is
no_label (PostDown of lines) names rest v stands none is = regrouped NoLabel of _ rest names (no_label of names _ v.part.valid stands refl) is
no_label (Literal of list lines) names rest v stands none is = absurd (true≢false (sym is))
no_label (PreUp on lines) names rest v stands none is = absurd (true≢false (sym is))
no_label (PreDown on lines) names rest v stands none is = absurd (true≢false (sym is))
no_label (Unary op on lines) names rest v stands none is = absurd (true≢false (sym is))
no_label (SizeofExpr on lines) names rest v stands none is = absurd (true≢false (sym is))
no_label (SizeofType of lines) names rest v stands none is = absurd (true≢false (sym is))
no_label (Cast to on lines) names rest v stands none is = absurd (true≢false (sym is))
no_label (Binary left op right lines) names rest v stands none is =
    regrouped NoLabel left _ rest names (no_label left names _ v.left.valid stands.0 (binary_no_colon op v.operator)) is
no_label (Cond condition if_true if_false lines) names rest v stands none is =
    regrouped NoLabel condition _ rest names (no_label condition names _ v.first.valid stands.first refl) is
no_label (Assign left op right lines) names rest v stands none is =
    regrouped NoLabel left _ rest names (no_label left names _ v.left.valid stands.0 (assign_no_colon op v.operator)) is
no_label (Comma left right lines) names rest v stands none is = regrouped NoLabel left _ rest names (no_label left names _ v.first.valid stands.0 refl) is
