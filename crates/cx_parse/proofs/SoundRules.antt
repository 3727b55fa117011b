-- Rules for what a reader gives, from part to part: behind each part the tokens and names are known.
use Rattle.std.proofs.Common.{◌≡◌, ℕ, Bool, true, false, cond, Option, Some, None, List, ◌∷◌, ◌++◌, refl, sym, ap, ◌∙◌, subst, append_assoc}
use Rattle.cx_cursor.specs.Reading.{State, at, Reader, bind}
use Rattle.cx_cursor.specs.Sights.{word, operator, keyword, mark, key}
use Rattle.cx_cursor.proofs.Readers.{Gives, gives_bind, same_answer, none_some, TookOne, token, word_gives, operator_gives, keyword_gives, mark_gives, key_gives}
use Rattle.cx_lex.specs.declared.token.Keyword.{Keyword}
use Rattle.cx_lex.specs.declared.token.Punct.{Punct}
use Rattle.cx_lex.specs.declared.token.Token.{Token}
use Rattle.cx_lex.specs.declared.token.TokenKind.TheVariants as kind
use Rattle.cx_parse.proofs.Stood.{Stood}
use Rattle.cx_tree.specs.Names.{Binding}

-- ---- answers

-- whatever is answered is so
abbrev pub Answered : {A : Type 0} → Option (A × State) → (A → State → Type 0) → Type 0
Answered {A} answer Q = (a : A) (after : State) → answer ≡ Some (a, after) → Q a after

pub on_test : {A : Type 0} {so otherwise : Option (A × State)} (test : Bool) (Q : A → State → Type 0)
    → (test ≡ true → Answered so Q) → (test ≡ false → Answered otherwise Q) → Answered (cond test so otherwise) Q
on_test {A} {so} {otherwise} test Q if_so if_not = by_test test refl where
  by_test : (b : Bool) → test ≡ b → Answered {A = A} (cond b so otherwise) Q
  by_test true is = if_so is
  by_test false is = if_not is

pub on_choice : {A : Type 0} (test : Bool) (so otherwise : Reader A) (Q : A → State → Type 0) (state : State)
    → (test ≡ true → Gives so Q state) → (test ≡ false → Gives otherwise Q state) → Answered {A = A} (cond test so otherwise state) Q
on_choice {A} test so otherwise Q state if_so if_not = by_test test refl where
  by_test : (b : Bool) → test ≡ b → Answered {A = A} (cond b so otherwise state) Q
  by_test true is = if_so is
  by_test false is = if_not is

pub given : {A : Type 0} {a : A} {state : State} (Q : A → State → Type 0) → Q a state → Answered (Some (a, state)) Q
given {A} {a} {state} Q q b after e = same_answer Q a state b after e q

pub refused : {A : Type 0} (Q : A → State → Type 0) → Answered {A = A} None Q
refused Q a after e = none_some _ _ e

-- ---- one token, then

pub on_one : {A B : Type 0} {tokens : List Token} {names : List Binding} (read : Reader A) (go : A → Reader B) (Q : B → State → Type 0) (t : A → Token)
    → Gives read (λ a after. TookOne (t a) (at tokens names) after) (at tokens names)
    → ((a : A) (rest : List Token) → tokens ≡ t a ∷ rest → Gives (go a) Q (at rest names))
    → Gives (bind read go) Q (at tokens names)
on_one {A} {B} {tokens} {names} read go Q t one next =
    gives_bind read go (λ a after. TookOne (t a) (at tokens names) after) Q (at tokens names) one
    (λ a mid took. subst (λ (ns : List Binding). Gives (go a) Q (at mid.tokens ns)) (sym took.same) (next a mid.tokens took.ahead))

pub on_mark : {B : Type 0} {tokens : List Token} {names : List Binding} (p : Punct) (go : ℕ → Reader B) (Q : B → State → Type 0)
    → ((line : ℕ) (rest : List Token) → tokens ≡ token (kind.Mark p) line ∷ rest → Gives (go line) Q (at rest names))
    → Gives (bind (mark p) go) Q (at tokens names)
on_mark {B} {tokens} {names} p go Q next = on_one (mark p) go Q (λ line. token (kind.Mark p) line) (mark_gives p (at tokens names)) next

pub on_key : {B : Type 0} {tokens : List Token} {names : List Binding} (k : Keyword) (go : ℕ → Reader B) (Q : B → State → Type 0)
    → ((line : ℕ) (rest : List Token) → tokens ≡ token (kind.Key k) line ∷ rest → Gives (go line) Q (at rest names))
    → Gives (bind (key k) go) Q (at tokens names)
on_key {B} {tokens} {names} k go Q next = on_one (key k) go Q (λ line. token (kind.Key k) line) (key_gives k (at tokens names)) next

pub on_word : {B : Type 0} {tokens : List Token} {names : List Binding} (go : List ℕ × ℕ → Reader B) (Q : B → State → Type 0)
    → ((w : List ℕ × ℕ) (rest : List Token) → tokens ≡ token (kind.Word w.0) w.1 ∷ rest → Gives (go w) Q (at rest names))
    → Gives (bind word go) Q (at tokens names)
on_word {B} {tokens} {names} go Q next = on_one word go Q (λ w. token (kind.Word w.0) w.1) (word_gives (at tokens names)) next

pub on_operator : {B : Type 0} {tokens : List Token} {names : List Binding} (go : Punct × ℕ → Reader B) (Q : B → State → Type 0)
    → ((op : Punct × ℕ) (rest : List Token) → tokens ≡ token (kind.Mark op.0) op.1 ∷ rest → Gives (go op) Q (at rest names))
    → Gives (bind operator go) Q (at tokens names)
on_operator {B} {tokens} {names} go Q next = on_one operator go Q (λ op. token (kind.Mark op.0) op.1) (operator_gives (at tokens names)) next

pub on_keyword : {B : Type 0} {tokens : List Token} {names : List Binding} (go : Keyword × ℕ → Reader B) (Q : B → State → Type 0)
    → ((k : Keyword × ℕ) (rest : List Token) → tokens ≡ token (kind.Key k.0) k.1 ∷ rest → Gives (go k) Q (at rest names))
    → Gives (bind keyword go) Q (at tokens names)
on_keyword {B} {tokens} {names} go Q next = on_one keyword go Q (λ k. token (kind.Key k.0) k.1) (keyword_gives (at tokens names)) next

-- ---- a part, then

-- a part that stood in front, and fits where these names are in scope
pub on_part : {A B : Type 0} {tokens : List Token} {names : List Binding} (read : Reader A) (go : A → Reader B) (Q : B → State → Type 0)
    (front : A → List Token) (new : A → List Binding) (Fit : A → Type 0)
    → Gives read (λ a after. Stood (front a) (new a) (Fit a) (at tokens names) after) (at tokens names)
    → ((a : A) (rest : List Token) → tokens ≡ front a ++ rest → Fit a → Gives (go a) Q (at rest (names ++ new a)))
    → Gives (bind read go) Q (at tokens names)
on_part {A} {B} {tokens} {names} read go Q front new Fit part next =
    gives_bind read go (λ a after. Stood (front a) (new a) (Fit a) (at tokens names) after) Q (at tokens names) part
    (λ a mid stood. subst (λ (ns : List Binding). Gives (go a) Q (at mid.tokens ns)) (sym stood.took.scope) (next a mid.tokens stood.took.spelled stood.fits))

-- a state whose names are these
pub with_names : {A : Type 0} (read : Reader A) (Q : A → State → Type 0) (mid : State) (names : List Binding) → mid.names ≡ names
    → Gives read Q (at mid.tokens names) → Gives read Q mid
with_names {A} read Q mid names e gives = subst (λ (ns : List Binding). Gives read Q (at mid.tokens ns)) (sym e) gives

-- a part behind which these names are in scope
pub on_part_at : {A B : Type 0} (mid : State) (names : List Binding) → mid.names ≡ names → (read : Reader A) (go : A → Reader B) (Q : B → State → Type 0)
    (front : A → List Token) (new : A → List Binding) (Fit : A → Type 0)
    → Gives read (λ a after. Stood (front a) (new a) (Fit a) (at mid.tokens names) after) (at mid.tokens names)
    → ((a : A) (rest : List Token) → mid.tokens ≡ front a ++ rest → Fit a → Gives (go a) Q (at rest (names ++ new a)))
    → Gives (bind read go) Q mid
on_part_at mid names e read go Q front new Fit part next = with_names (bind read go) Q mid names e (on_part read go Q front new Fit part next)

-- ---- equations of tokens

pub first : {t : Token} {before mid more : List Token} → before ≡ t ∷ mid → mid ≡ more → before ≡ t ∷ more
first {t} e f = e ∙ ap (λ (ts : List Token). t ∷ ts) f

pub both : {before mid : List Token} (a b rest : List Token) → before ≡ a ++ mid → mid ≡ b ++ rest → before ≡ (a ++ b) ++ rest
both a b rest e f = e ∙ ap (λ (ts : List Token). a ++ ts) f ∙ sym (append_assoc a b rest)

-- ---- what was read

pub stood : {front : List Token} {new : List Binding} {Fit : Type 0} {state after : State} → state.tokens ≡ front ++ after.tokens → after.names ≡ state.names ++ new
    → Fit → Stood front new Fit state after
stood spelled scope fits = record { took = record { spelled = spelled; scope = scope }; fits = fits }
