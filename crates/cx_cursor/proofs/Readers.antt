-- Readers in sequence, and the readers of one token, in both directions.
use Rattle.std.proofs.Common.{◌≡◌, ℕ, ℤ, Bool, true, false, cond, Option, Some, None, List, [], ◌∷◌, ◌++◌, length, take, refl, sym, ap, ◌∙◌, subst, append_assoc}
use Rattle.std.proofs.lemmas.List.{append-nil}
use Rattle.std.proofs.lemmas.Bool.{cond-true, eq-eqb}
use denote.Enum.Bare.{same_true}
use denote.Enum.Declared.{tag_of}
use Rattle.cx_cursor.specs.Reading.{State, at, Reader, onward, bind}
use Rattle.cx_cursor.specs.Sights.{same_mark, same_key, taken, token_in, word, word_by, number, number_by, letter, letter_by, text, text_by, operator, operator_by, keyword, keyword_by, mark, mark_by, key, key_by}
use Rattle.cx_lex.specs.contracts.token.Keyword.{the_type as keyword_type}
use Rattle.cx_lex.specs.contracts.token.Punct.{the_type as punct_type}
use Rattle.cx_lex.specs.declared.token.Keyword.{Keyword}
use Rattle.cx_lex.specs.declared.token.Punct.{Punct}
use Rattle.cx_lex.specs.declared.token.Token.{Token}
use Rattle.cx_lex.specs.declared.token.TokenKind.{TokenKind}
use Rattle.cx_lex.specs.declared.token.TokenKind.TheVariants as kind
use Rattle.cx_lex.specs.declared.token.Ty0.{Ty0}
use Rattle.cx_tree.specs.Names.{Binding}

-- ---- marks and keywords

pub same_mark_same : (a b : Punct) → same_mark a b ≡ true → a ≡ b
unfolding same_mark
same_mark_same a b h = same_true punct_type tt a b h

pub same_mark_refl : (a : Punct) → same_mark a a ≡ true
unfolding same_mark
same_mark_refl a = eq-eqb (tag_of punct_type a) (tag_of punct_type a) refl

pub same_key_same : (a b : Keyword) → same_key a b ≡ true → a ≡ b
unfolding same_key
same_key_same a b h = same_true keyword_type tt a b h

pub same_key_refl : (a : Keyword) → same_key a a ≡ true
unfolding same_key
same_key_refl a = eq-eqb (tag_of keyword_type a) (tag_of keyword_type a) refl

-- ---- sequences

pub bind_some : {A B : Type 0} (read : Reader A) (go : A → Reader B) (state : State) (a : A) (mid : State)
    → read state ≡ Some (a, mid) → bind read go state ≡ go a mid
unfolding bind
bind_some read go state a mid e = ap (λ r. onward r go) e

pub bind_none : {A B : Type 0} (read : Reader A) (go : A → Reader B) (state : State) → read state ≡ None → bind read go state ≡ None
unfolding bind
bind_none read go state e = ap (λ r. onward r go) e

-- what a sequence gives was given by its second part, behind what its first part gave
onward_elim : {A B : Type 0} (C : Type 0) (r : Option (A × State)) (go : A → Reader B) (b : B) (after : State)
    → onward r go ≡ Some (b, after) → ((a : A) (mid : State) → r ≡ Some (a, mid) → go a mid ≡ Some (b, after) → C) → C
onward_elim C None go b after e k = cc
onward_elim C (Some read) go b after e k = k read.0 read.1 refl e

pub bind_elim : {A B : Type 0} (C : Type 0) (read : Reader A) (go : A → Reader B) (state : State) (b : B) (after : State)
    → bind read go state ≡ Some (b, after) → ((a : A) (mid : State) → read state ≡ Some (a, mid) → go a mid ≡ Some (b, after) → C) → C
unfolding bind
bind_elim C read go state b after e k = onward_elim C (read state) go b after e k

some_one : {A : Type 0} (a b : A) → Some a ≡ Some b → a ≡ b
some_one a b e = cc

-- what holds of an answer holds of an equal one
pub same_answer : {A : Type 0} (P : A → State → Type 0) (x : A) (s : State) (a : A) (after : State) → ◌≡◌ {A = Option (A × State)} (Some (x, s)) (Some (a, after)) → P x s → P a after
same_answer {A} P x s a after e p =
    subst (λ (r : A × State). P r.0 r.1) (some_one {A = A × State} (x, s) (a, after) e) p

pub none_some : {A : Type 0} (C : Type 0) (a : A) → None ≡ Some a → C
none_some C a e = cc

-- ---- what a reader gives

-- whatever the reader gives at a state, with the state behind it, is so
abbrev pub Gives : {A : Type 0} → Reader A → (A → State → Type 0) → State → Type 0
Gives {A} read Q state = (a : A) (after : State) → read state ≡ Some (a, after) → Q a after

pub gives_bind : {A B : Type 0} (read : Reader A) (go : A → Reader B) (P : A → State → Type 0) (Q : B → State → Type 0) (state : State)
    → Gives read P state → ((a : A) (mid : State) → P a mid → Gives (go a) Q mid) → Gives (bind read go) Q state
gives_bind read go P Q state first second b after e =
    bind_elim (Q b after) read go state b after e (λ a mid h k. second a mid (first a mid h) b after k)

pub gives_pure : {A : Type 0} (a : A) (Q : A → State → Type 0) (state : State) → Q a state → Gives (λ s. Some (a, s)) Q state
gives_pure a Q state q b after e = same_answer Q a state b after e q

pub gives_none : {A : Type 0} (Q : A → State → Type 0) (state : State) → Gives {A = A} (λ s. None) Q state
gives_none Q state b after e = none_some _ _ e

pub gives_if : {A : Type 0} (test : State → Bool) (so otherwise : Reader A) (Q : A → State → Type 0) (state : State)
    → (test state ≡ true → Gives so Q state) → (test state ≡ false → Gives otherwise Q state) → Gives (λ s. cond (test s) (so s) (otherwise s)) Q state
gives_if {A} test so otherwise Q state if_so if_not = by_test (test state) refl where
  by_test : (b : Bool) → test state ≡ b → (a : A) (after : State) → cond b (so state) (otherwise state) ≡ Some (a, after) → Q a after
  by_test true is a after e = if_so is a after e
  by_test false is a after e = if_not is a after e

-- ---- tokens that were taken

-- these tokens stood in front, and these names came into scope
pub record Took (front : List Token) (new : List Binding) (state after : State) : Type 0 where
  pub spelled : state.tokens ≡ front ++ after.tokens
  pub scope : after.names ≡ state.names ++ new

pub nothing_taken : (state : State) → Took [] [] state state
nothing_taken state = record { spelled = refl; scope = sym (append-nil state.names) }

-- one token stood in front
pub record TookOne (token : Token) (state after : State) : Type 0 where
  pub ahead : state.tokens ≡ token ∷ after.tokens
  pub same : after.names ≡ state.names

pub one_then : (token : Token) (front : List Token) (new : List Binding) (state mid after : State)
    → TookOne token state mid → Took front new mid after → Took (token ∷ front) new state after
one_then token front new state mid after one rest = record {
  spelled = one.ahead ∙ ap (λ (ts : List Token). token ∷ ts) rest.spelled;
  scope = rest.scope ∙ ap (λ (bs : List Binding). bs ++ new) one.same;
}

pub then_one : (token : Token) (front : List Token) (new : List Binding) (state mid after : State)
    → Took front new state mid → TookOne token mid after → Took (front ++ token ∷ []) new state after
then_one token front new state mid after first one = record {
  spelled = first.spelled ∙ ap (λ (ts : List Token). front ++ ts) one.ahead ∙ sym (append_assoc front (token ∷ []) after.tokens);
  scope = one.same ∙ first.scope;
}

pub took_one : (token : Token) (state after : State) → TookOne token state after → Took (token ∷ []) [] state after
took_one token state after one = record { spelled = one.ahead; scope = one.same ∙ sym (append-nil state.names) }

pub took_both : (front more : List Token) (new further : List Binding) (state mid after : State)
    → Took front new state mid → Took more further mid after → Took (front ++ more) (new ++ further) state after
took_both front more new further state mid after first second = record {
  spelled = first.spelled ∙ ap (λ (ts : List Token). front ++ ts) second.spelled ∙ sym (append_assoc front more after.tokens);
  scope = second.scope ∙ ap (λ (bs : List Binding). bs ++ further) first.scope ∙ append_assoc state.names new further;
}

-- ---- one token

abbrev pub token : TokenKind → ℕ → Token
token k line = record { kind = k; line = line }

record Taken {A : Type 0} (take : TokenKind → ℕ → Option A) (a : A) (state after : State) : Type 0 where
  front : Token
  ahead : state.tokens ≡ front ∷ after.tokens
  same : after.names ≡ state.names
  of_it : take front.kind front.line ≡ Some a

taken_by : {A : Type 0} (take : TokenKind → ℕ → Option A) (t : Token) (rest : List Token) (names : List Binding) (o : Option A) → take t.kind t.line ≡ o
    → (a : A) (after : State) → taken o rest names ≡ Some (a, after) → Taken take a (at (t ∷ rest) names) after
taken_by take t rest names None is a after e = none_some _ _ e
taken_by take t rest names (Some x) is a after e =
    same_answer (λ a after. Taken take a (at (t ∷ rest) names) after) x (at rest names) a after e (record { front = t; ahead = refl; same = refl; of_it = is })

token_taken : {A : Type 0} (take : TokenKind → ℕ → Option A) (tokens : List Token) (names : List Binding) (a : A) (after : State)
    → token_in take tokens names ≡ Some (a, after) → Taken take a (at tokens names) after
token_taken take [] names a after e = none_some _ _ e
token_taken take (t ∷ rest) names a after e = taken_by take t rest names (take t.kind t.line) refl a after e

found : (state after : State) (t : Token) (k : TokenKind) (line : ℕ) → state.tokens ≡ t ∷ after.tokens → after.names ≡ state.names → t.kind ≡ k → t.line ≡ line → TookOne (token k line) state after
found state after t k line ahead same is at = record {
  ahead = ahead ∙ ap (λ (k : TokenKind). token k t.line ∷ after.tokens) is ∙ ap (λ (n : ℕ). token k n ∷ after.tokens) at;
  same = same;
}

pair_is : {A B : Type 0} (P : A → B → Type 0) (x : A) (y : B) (p : A × B) → ◌≡◌ {A = Option (A × B)} (Some (x, y)) (Some p) → P x y → P p.0 p.1
pair_is {A} {B} P x y p e h = subst (λ (q : A × B). P q.0 q.1) (some_one {A = A × B} (x, y) p e) h

word_at : (state after : State) (t : Token) (k : TokenKind) (w : List ℕ × ℕ) → t.kind ≡ k → word_by k t.line ≡ Some w → state.tokens ≡ t ∷ after.tokens → after.names ≡ state.names
    → TookOne (token (kind.Word w.0) w.1) state after
word_at state after t (kind.Word name) w is e ahead same =
    pair_is (λ n l. TookOne (token (kind.Word n) l) state after) name t.line w e (found state after t (kind.Word name) t.line ahead same is refl)
word_at state after t (kind.Key k) w is e ahead same = none_some _ _ e
word_at state after t (kind.Number value ty) w is e ahead same = none_some _ _ e
word_at state after t (kind.Letter value) w is e ahead same = none_some _ _ e
word_at state after t (kind.Text bytes) w is e ahead same = none_some _ _ e
word_at state after t (kind.Mark punct) w is e ahead same = none_some _ _ e

pub word_gives : (state : State) → Gives word (λ w after. TookOne (token (kind.Word w.0) w.1) state after) state
unfolding word
word_gives state w after e =
    let one : Taken word_by w state after = token_taken word_by state.tokens state.names w after e in
    word_at state after one.front one.front.kind w refl one.of_it one.ahead one.same

text_at : (state after : State) (t : Token) (k : TokenKind) (w : List ℕ × ℕ) → t.kind ≡ k → text_by k t.line ≡ Some w → state.tokens ≡ t ∷ after.tokens → after.names ≡ state.names
    → TookOne (token (kind.Text w.0) w.1) state after
text_at state after t (kind.Text bytes) w is e ahead same =
    pair_is (λ n l. TookOne (token (kind.Text n) l) state after) bytes t.line w e (found state after t (kind.Text bytes) t.line ahead same is refl)
text_at state after t (kind.Key k) w is e ahead same = none_some _ _ e
text_at state after t (kind.Number value ty) w is e ahead same = none_some _ _ e
text_at state after t (kind.Letter value) w is e ahead same = none_some _ _ e
text_at state after t (kind.Word bytes) w is e ahead same = none_some _ _ e
text_at state after t (kind.Mark punct) w is e ahead same = none_some _ _ e

pub text_gives : (state : State) → Gives text (λ w after. TookOne (token (kind.Text w.0) w.1) state after) state
unfolding text
text_gives state w after e =
    let one : Taken text_by w state after = token_taken text_by state.tokens state.names w after e in
    text_at state after one.front one.front.kind w refl one.of_it one.ahead one.same

letter_at : (state after : State) (t : Token) (k : TokenKind) (w : ℤ × ℕ) → t.kind ≡ k → letter_by k t.line ≡ Some w → state.tokens ≡ t ∷ after.tokens → after.names ≡ state.names
    → TookOne (token (kind.Letter w.0) w.1) state after
letter_at state after t (kind.Letter value) w is e ahead same =
    pair_is (λ n l. TookOne (token (kind.Letter n) l) state after) value t.line w e (found state after t (kind.Letter value) t.line ahead same is refl)
letter_at state after t (kind.Key k) w is e ahead same = none_some _ _ e
letter_at state after t (kind.Number value ty) w is e ahead same = none_some _ _ e
letter_at state after t (kind.Text bytes) w is e ahead same = none_some _ _ e
letter_at state after t (kind.Word bytes) w is e ahead same = none_some _ _ e
letter_at state after t (kind.Mark punct) w is e ahead same = none_some _ _ e

pub letter_gives : (state : State) → Gives letter (λ w after. TookOne (token (kind.Letter w.0) w.1) state after) state
unfolding letter
letter_gives state w after e =
    let one : Taken letter_by w state after = token_taken letter_by state.tokens state.names w after e in
    letter_at state after one.front one.front.kind w refl one.of_it one.ahead one.same

number_at : (state after : State) (t : Token) (k : TokenKind) (n : ℕ × Ty0 × ℕ) → t.kind ≡ k → number_by k t.line ≡ Some n → state.tokens ≡ t ∷ after.tokens → after.names ≡ state.names
    → TookOne (token (kind.Number n.0 n.1) n.2) state after
number_at state after t (kind.Number value ty) n is e ahead same =
    subst (λ (n : ℕ × Ty0 × ℕ). TookOne (token (kind.Number n.0 n.1) n.2) state after) (some_one {A = ℕ × Ty0 × ℕ} (value, ty, t.line) n e)
    (found state after t (kind.Number value ty) t.line ahead same is refl)
number_at state after t (kind.Key k) n is e ahead same = none_some _ _ e
number_at state after t (kind.Letter value) n is e ahead same = none_some _ _ e
number_at state after t (kind.Text bytes) n is e ahead same = none_some _ _ e
number_at state after t (kind.Word bytes) n is e ahead same = none_some _ _ e
number_at state after t (kind.Mark punct) n is e ahead same = none_some _ _ e

pub number_gives : (state : State) → Gives number (λ n after. TookOne (token (kind.Number n.0 n.1) n.2) state after) state
unfolding number
number_gives state n after e =
    let one : Taken number_by n state after = token_taken number_by state.tokens state.names n after e in
    number_at state after one.front one.front.kind n refl one.of_it one.ahead one.same

operator_at : (state after : State) (t : Token) (k : TokenKind) (m : Punct × ℕ) → t.kind ≡ k → operator_by k t.line ≡ Some m → state.tokens ≡ t ∷ after.tokens → after.names ≡ state.names
    → TookOne (token (kind.Mark m.0) m.1) state after
operator_at state after t (kind.Mark punct) m is e ahead same =
    pair_is (λ p l. TookOne (token (kind.Mark p) l) state after) punct t.line m e (found state after t (kind.Mark punct) t.line ahead same is refl)
operator_at state after t (kind.Key k) m is e ahead same = none_some _ _ e
operator_at state after t (kind.Number value ty) m is e ahead same = none_some _ _ e
operator_at state after t (kind.Letter value) m is e ahead same = none_some _ _ e
operator_at state after t (kind.Text bytes) m is e ahead same = none_some _ _ e
operator_at state after t (kind.Word bytes) m is e ahead same = none_some _ _ e

pub operator_gives : (state : State) → Gives operator (λ m after. TookOne (token (kind.Mark m.0) m.1) state after) state
unfolding operator
operator_gives state m after e =
    let one : Taken operator_by m state after = token_taken operator_by state.tokens state.names m after e in
    operator_at state after one.front one.front.kind m refl one.of_it one.ahead one.same

keyword_at : (state after : State) (t : Token) (k : TokenKind) (m : Keyword × ℕ) → t.kind ≡ k → keyword_by k t.line ≡ Some m → state.tokens ≡ t ∷ after.tokens → after.names ≡ state.names
    → TookOne (token (kind.Key m.0) m.1) state after
keyword_at state after t (kind.Key k) m is e ahead same =
    pair_is (λ p l. TookOne (token (kind.Key p) l) state after) k t.line m e (found state after t (kind.Key k) t.line ahead same is refl)
keyword_at state after t (kind.Mark punct) m is e ahead same = none_some _ _ e
keyword_at state after t (kind.Number value ty) m is e ahead same = none_some _ _ e
keyword_at state after t (kind.Letter value) m is e ahead same = none_some _ _ e
keyword_at state after t (kind.Text bytes) m is e ahead same = none_some _ _ e
keyword_at state after t (kind.Word bytes) m is e ahead same = none_some _ _ e

pub keyword_gives : (state : State) → Gives keyword (λ m after. TookOne (token (kind.Key m.0) m.1) state after) state
unfolding keyword
keyword_gives state m after e =
    let one : Taken keyword_by m state after = token_taken keyword_by state.tokens state.names m after e in
    keyword_at state after one.front one.front.kind m refl one.of_it one.ahead one.same

mark_is : (p q : Punct) (line at : ℕ) (test : Bool) → same_mark q p ≡ test → cond test (Some at) None ≡ Some line → (q ≡ p) × (at ≡ line)
mark_is p q line at true same e = (same_mark_same q p same, some_one at line e)
mark_is p q line at false same e = none_some _ _ e

mark_at : (p : Punct) (state after : State) (t : Token) (k : TokenKind) (line : ℕ) → t.kind ≡ k → mark_by p k t.line ≡ Some line → state.tokens ≡ t ∷ after.tokens → after.names ≡ state.names
    → TookOne (token (kind.Mark p) line) state after
mark_at p state after t (kind.Mark q) line is e ahead same =
    let both : (q ≡ p) × (t.line ≡ line) = mark_is p q line t.line (same_mark q p) refl e in
    found state after t (kind.Mark p) line ahead same (is ∙ ap kind.Mark both.0) both.1
mark_at p state after t (kind.Key k) line is e ahead same = none_some _ _ e
mark_at p state after t (kind.Number value ty) line is e ahead same = none_some _ _ e
mark_at p state after t (kind.Letter value) line is e ahead same = none_some _ _ e
mark_at p state after t (kind.Text bytes) line is e ahead same = none_some _ _ e
mark_at p state after t (kind.Word bytes) line is e ahead same = none_some _ _ e

pub mark_gives : (p : Punct) (state : State) → Gives (mark p) (λ line after. TookOne (token (kind.Mark p) line) state after) state
unfolding mark
mark_gives p state line after e =
    let one : Taken (mark_by p) line state after = token_taken (mark_by p) state.tokens state.names line after e in
    mark_at p state after one.front one.front.kind line refl one.of_it one.ahead one.same

key_is : (p q : Keyword) (line at : ℕ) (test : Bool) → same_key q p ≡ test → cond test (Some at) None ≡ Some line → (q ≡ p) × (at ≡ line)
key_is p q line at true same e = (same_key_same q p same, some_one at line e)
key_is p q line at false same e = none_some _ _ e

key_at : (p : Keyword) (state after : State) (t : Token) (k : TokenKind) (line : ℕ) → t.kind ≡ k → key_by p k t.line ≡ Some line → state.tokens ≡ t ∷ after.tokens → after.names ≡ state.names
    → TookOne (token (kind.Key p) line) state after
key_at p state after t (kind.Key q) line is e ahead same =
    let both : (q ≡ p) × (t.line ≡ line) = key_is p q line t.line (same_key q p) refl e in
    found state after t (kind.Key p) line ahead same (is ∙ ap kind.Key both.0) both.1
key_at p state after t (kind.Mark k) line is e ahead same = none_some _ _ e
key_at p state after t (kind.Number value ty) line is e ahead same = none_some _ _ e
key_at p state after t (kind.Letter value) line is e ahead same = none_some _ _ e
key_at p state after t (kind.Text bytes) line is e ahead same = none_some _ _ e
key_at p state after t (kind.Word bytes) line is e ahead same = none_some _ _ e

pub key_gives : (p : Keyword) (state : State) → Gives (key p) (λ line after. TookOne (token (kind.Key p) line) state after) state
unfolding key
key_gives p state line after e =
    let one : Taken (key_by p) line state after = token_taken (key_by p) state.tokens state.names line after e in
    key_at p state after one.front one.front.kind line refl one.of_it one.ahead one.same

-- ---- reading what stands in front

pub word_reads : (name : List ℕ) (line : ℕ) (rest : List Token) (names : List Binding) → word (at (token (kind.Word name) line ∷ rest) names) ≡ Some ((name, line), at rest names)
unfolding word
word_reads name line rest names = refl

pub number_reads : (value : ℕ) (ty : Ty0) (line : ℕ) (rest : List Token) (names : List Binding)
    → number (at (token (kind.Number value ty) line ∷ rest) names) ≡ Some ((value, ty, line), at rest names)
unfolding number
number_reads value ty line rest names = refl

pub letter_reads : (value : ℤ) (line : ℕ) (rest : List Token) (names : List Binding) → letter (at (token (kind.Letter value) line ∷ rest) names) ≡ Some ((value, line), at rest names)
unfolding letter
letter_reads value line rest names = refl

pub text_reads : (bytes : List ℕ) (line : ℕ) (rest : List Token) (names : List Binding) → text (at (token (kind.Text bytes) line ∷ rest) names) ≡ Some ((bytes, line), at rest names)
unfolding text
text_reads bytes line rest names = refl

pub operator_reads : (punct : Punct) (line : ℕ) (rest : List Token) (names : List Binding) → operator (at (token (kind.Mark punct) line ∷ rest) names) ≡ Some ((punct, line), at rest names)
unfolding operator
operator_reads punct line rest names = refl

pub keyword_reads : (k : Keyword) (line : ℕ) (rest : List Token) (names : List Binding) → keyword (at (token (kind.Key k) line ∷ rest) names) ≡ Some ((k, line), at rest names)
unfolding keyword
keyword_reads k line rest names = refl

pub mark_reads : (punct : Punct) (line : ℕ) (rest : List Token) (names : List Binding) → mark punct (at (token (kind.Mark punct) line ∷ rest) names) ≡ Some (line, at rest names)
unfolding mark
mark_reads punct line rest names = ap (λ (b : Bool). taken (cond b (Some line) None) rest names) (same_mark_refl punct)

pub key_reads : (k : Keyword) (line : ℕ) (rest : List Token) (names : List Binding) → key k (at (token (kind.Key k) line ∷ rest) names) ≡ Some (line, at rest names)
unfolding key
key_reads k line rest names = ap (λ (b : Bool). taken (cond b (Some line) None) rest names) (same_key_refl k)
