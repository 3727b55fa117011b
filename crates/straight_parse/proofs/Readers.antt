-- Readers in sequence, and the readers of one token, in both directions.
use Rattle.std.proofs.Common.{◌≡◌, ℕ, Bool, true, false, cond, Option, Some, None, List, [], ◌∷◌, refl, ap, ◌∙◌, subst}
use Rattle.std.proofs.lemmas.Bool.{cond-true}
use Rattle.cx_lex.specs.declared.token.Keyword.{Keyword}
use Rattle.cx_lex.specs.declared.token.Punct.{Punct}
use Rattle.cx_lex.specs.declared.token.Token.{Token}
use Rattle.cx_lex.specs.declared.token.TokenKind.{TokenKind}
use Rattle.cx_lex.specs.declared.token.TokenKind.TheVariants as kind
use Rattle.cx_lex.specs.declared.token.Ty0.{Ty0}
use Rattle.straight_parse.specs.Reading.{State, Reader, onward, bind}
use Rattle.straight_parse.specs.Sights.{same_mark, word, word_by, number, number_by, operator, operator_by, keyword, keyword_by, mark, mark_by}
use Rattle.straight_parse.proofs.Marks.{same_mark_same, same_mark_refl}

-- ---- sequences

pub bind_some : {A B : Type 0} (read : Reader A) (go : A → Reader B) (state : State) (a : A) (mid : State)
    → read state ≡ Some (a, mid) → bind read go state ≡ go a mid
unfolding bind
bind_some read go state a mid e = ap (λ r. onward r go) e

pub bind_none : {A B : Type 0} (read : Reader A) (go : A → Reader B) (state : State) → read state ≡ None → bind read go state ≡ None
unfolding bind
bind_none read go state e = ap (λ r. onward r go) e

-- what a sequence gives was given by its second part, behind what its first part gave
onward_elim : {A B : Type 0} (C : Type 0) (r : Option (A × State)) (go : A → Reader B) (b : B) (after : State)
    → onward r go ≡ Some (b, after) → ((a : A) (mid : State) → r ≡ Some (a, mid) → go a mid ≡ Some (b, after) → C) → C
onward_elim C None go b after e k = cc
onward_elim C (Some read) go b after e k = k read.0 read.1 refl e

pub bind_elim : {A B : Type 0} (C : Type 0) (read : Reader A) (go : A → Reader B) (state : State) (b : B) (after : State)
    → bind read go state ≡ Some (b, after) → ((a : A) (mid : State) → read state ≡ Some (a, mid) → go a mid ≡ Some (b, after) → C) → C
unfolding bind
bind_elim C read go state b after e k = onward_elim C (read state) go b after e k

some_one : {A : Type 0} (a b : A) → Some a ≡ Some b → a ≡ b
some_one a b e = cc

-- what holds of an answer holds of an equal one
pub same_answer : {A : Type 0} (P : A → State → Type 0) (x : A) (s : State) (a : A) (after : State) → ◌≡◌ {A = Option (A × State)} (Some (x, s)) (Some (a, after)) → P x s → P a after
same_answer {A} P x s a after e p =
    subst (λ (r : A × State). P r.0 r.1) (some_one {A = A × State} (x, s) (a, after) e) p

pub none_some : {A : Type 0} (C : Type 0) (a : A) → None ≡ Some a → C
none_some C a e = cc

-- ---- one token

abbrev pub token : TokenKind → ℕ → Token
token k line = record { kind = k; line = line }

pub word_reads : (name : List ℕ) (line : ℕ) (rest : State) → word (token (kind.Word name) line ∷ rest) ≡ Some ((name, line), rest)
unfolding word
word_reads name line rest = refl

pub number_reads : (value : ℕ) (ty : Ty0) (line : ℕ) (rest : State) → number (token (kind.Number value ty) line ∷ rest) ≡ Some ((value, ty, line), rest)
unfolding number
number_reads value ty line rest = refl

pub operator_reads : (punct : Punct) (line : ℕ) (rest : State) → operator (token (kind.Mark punct) line ∷ rest) ≡ Some ((punct, line), rest)
unfolding operator
operator_reads punct line rest = refl

pub keyword_reads : (k : Keyword) (line : ℕ) (rest : State) → keyword (token (kind.Key k) line ∷ rest) ≡ Some ((k, line), rest)
unfolding keyword
keyword_reads k line rest = refl

pub mark_reads : (punct : Punct) (line : ℕ) (rest : State) → mark punct (token (kind.Mark punct) line ∷ rest) ≡ Some (line, rest)
unfolding mark
mark_reads punct line rest = cond-true (same_mark punct punct) (Some (line, rest)) None (same_mark_refl punct)

-- ---- a token that was read stood in front

word_by_front : (t : Token) (k : TokenKind) (rest : State) (w : List ℕ × ℕ) (after : State) → t.kind ≡ k → word_by k t.line rest ≡ Some (w, after)
    → t ∷ rest ≡ token (kind.Word w.0) w.1 ∷ after
word_by_front t (kind.Word name) rest w after is e =
    same_answer (λ w after. t ∷ rest ≡ token (kind.Word w.0) w.1 ∷ after) (name, t.line) rest w after e (ap (λ (k : TokenKind). token k t.line ∷ rest) is)
word_by_front t (kind.Key k) rest w after is e = none_some _ _ e
word_by_front t (kind.Number value ty) rest w after is e = none_some _ _ e
word_by_front t (kind.Letter value) rest w after is e = none_some _ _ e
word_by_front t (kind.Text bytes) rest w after is e = none_some _ _ e
word_by_front t (kind.Mark punct) rest w after is e = none_some _ _ e

pub word_front : (state : State) (w : List ℕ × ℕ) (after : State) → word state ≡ Some (w, after) → state ≡ token (kind.Word w.0) w.1 ∷ after
unfolding word
word_front [] w after e = none_some _ _ e
word_front (t ∷ rest) w after e = word_by_front t t.kind rest w after refl e

number_by_front : (t : Token) (k : TokenKind) (rest : State) (n : ℕ × Ty0 × ℕ) (after : State) → t.kind ≡ k → number_by k t.line rest ≡ Some (n, after)
    → t ∷ rest ≡ token (kind.Number n.0 n.1) n.2 ∷ after
number_by_front t (kind.Number value ty) rest n after is e =
    same_answer (λ n after. t ∷ rest ≡ token (kind.Number n.0 n.1) n.2 ∷ after) (value, ty, t.line) rest n after e (ap (λ (k : TokenKind). token k t.line ∷ rest) is)
number_by_front t (kind.Key k) rest n after is e = none_some _ _ e
number_by_front t (kind.Word name) rest n after is e = none_some _ _ e
number_by_front t (kind.Letter value) rest n after is e = none_some _ _ e
number_by_front t (kind.Text bytes) rest n after is e = none_some _ _ e
number_by_front t (kind.Mark punct) rest n after is e = none_some _ _ e

pub number_front : (state : State) (n : ℕ × Ty0 × ℕ) (after : State) → number state ≡ Some (n, after) → state ≡ token (kind.Number n.0 n.1) n.2 ∷ after
unfolding number
number_front [] n after e = none_some _ _ e
number_front (t ∷ rest) n after e = number_by_front t t.kind rest n after refl e

operator_by_front : (t : Token) (k : TokenKind) (rest : State) (m : Punct × ℕ) (after : State) → t.kind ≡ k → operator_by k t.line rest ≡ Some (m, after)
    → t ∷ rest ≡ token (kind.Mark m.0) m.1 ∷ after
operator_by_front t (kind.Mark punct) rest m after is e =
    same_answer (λ m after. t ∷ rest ≡ token (kind.Mark m.0) m.1 ∷ after) (punct, t.line) rest m after e (ap (λ (k : TokenKind). token k t.line ∷ rest) is)
operator_by_front t (kind.Key k) rest m after is e = none_some _ _ e
operator_by_front t (kind.Word name) rest m after is e = none_some _ _ e
operator_by_front t (kind.Letter value) rest m after is e = none_some _ _ e
operator_by_front t (kind.Text bytes) rest m after is e = none_some _ _ e
operator_by_front t (kind.Number value ty) rest m after is e = none_some _ _ e

pub operator_front : (state : State) (m : Punct × ℕ) (after : State) → operator state ≡ Some (m, after) → state ≡ token (kind.Mark m.0) m.1 ∷ after
unfolding operator
operator_front [] m after e = none_some _ _ e
operator_front (t ∷ rest) m after e = operator_by_front t t.kind rest m after refl e

keyword_by_front : (t : Token) (k : TokenKind) (rest : State) (m : Keyword × ℕ) (after : State) → t.kind ≡ k → keyword_by k t.line rest ≡ Some (m, after)
    → t ∷ rest ≡ token (kind.Key m.0) m.1 ∷ after
keyword_by_front t (kind.Key word) rest m after is e =
    same_answer (λ m after. t ∷ rest ≡ token (kind.Key m.0) m.1 ∷ after) (word, t.line) rest m after e (ap (λ (k : TokenKind). token k t.line ∷ rest) is)
keyword_by_front t (kind.Mark k) rest m after is e = none_some _ _ e
keyword_by_front t (kind.Word name) rest m after is e = none_some _ _ e
keyword_by_front t (kind.Letter value) rest m after is e = none_some _ _ e
keyword_by_front t (kind.Text bytes) rest m after is e = none_some _ _ e
keyword_by_front t (kind.Number value ty) rest m after is e = none_some _ _ e

pub keyword_front : (state : State) (m : Keyword × ℕ) (after : State) → keyword state ≡ Some (m, after) → state ≡ token (kind.Key m.0) m.1 ∷ after
unfolding keyword
keyword_front [] m after e = none_some _ _ e
keyword_front (t ∷ rest) m after e = keyword_by_front t t.kind rest m after refl e

mark_found : (p q : Punct) (t : Token) (rest : State) (line : ℕ) (after : State) (test : Bool) → same_mark q p ≡ test → t.kind ≡ kind.Mark q
    → cond {A = Option (ℕ × State)} test (Some (t.line, rest)) None ≡ Some (line, after) → t ∷ rest ≡ token (kind.Mark p) line ∷ after
mark_found p q t rest line after true same is e =
    same_answer (λ line after. t ∷ rest ≡ token (kind.Mark p) line ∷ after) t.line rest line after e
    (ap (λ (k : TokenKind). token k t.line ∷ rest) (is ∙ ap kind.Mark (same_mark_same q p same)))
mark_found p q t rest line after false same is e = none_some _ _ e

mark_by_front : (p : Punct) (t : Token) (k : TokenKind) (rest : State) (line : ℕ) (after : State) → t.kind ≡ k → mark_by p k t.line rest ≡ Some (line, after)
    → t ∷ rest ≡ token (kind.Mark p) line ∷ after
mark_by_front p t (kind.Mark q) rest line after is e = mark_found p q t rest line after (same_mark q p) refl is e
mark_by_front p t (kind.Key k) rest line after is e = none_some _ _ e
mark_by_front p t (kind.Word name) rest line after is e = none_some _ _ e
mark_by_front p t (kind.Letter value) rest line after is e = none_some _ _ e
mark_by_front p t (kind.Text bytes) rest line after is e = none_some _ _ e
mark_by_front p t (kind.Number value ty) rest line after is e = none_some _ _ e

pub mark_front : (p : Punct) (state : State) (line : ℕ) (after : State) → mark p state ≡ Some (line, after) → state ≡ token (kind.Mark p) line ∷ after
unfolding mark
mark_front p [] line after e = none_some _ _ e
mark_front p (t ∷ rest) line after e = mark_by_front p t t.kind rest line after refl e
