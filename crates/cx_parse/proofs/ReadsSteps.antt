-- Readers that read what stands in front, one after the other.
use Rattle.std.proofs.Common.{◌≡◌, ℕ, suc, Bool, true, false, Some, List, [], ◌∷◌, ◌++◌, length, get_or, drop, refl, sym, ap, ◌∙◌, subst, arith, append_assoc, append-nil}
use Rattle.std.proofs.lemmas.Bool.{cond-true, cond-false, true≢false}
use Rattle.cx_cursor.specs.Lists.{many, taking}
use Rattle.cx_cursor.specs.Reading.{State, at, Reader, bind}
use Rattle.cx_cursor.specs.Sights.{word_sight, sight_of, sight_in, shows_mark, same_mark, mark, key}
use Rattle.cx_cursor.proofs.Readers.{bind_some, token, mark_reads, key_reads, same_mark_same, same_mark_refl}
use Rattle.cx_lex.specs.declared.token.Keyword.{Keyword}
use Rattle.cx_lex.specs.declared.token.Punct.{Punct}
use Rattle.cx_lex.specs.declared.token.Punct.TheVariants as punct
use Rattle.cx_lex.specs.declared.token.Token.{Token}
use Rattle.cx_lex.specs.declared.token.TokenKind.{TokenKind}
use Rattle.cx_lex.specs.declared.token.TokenKind.TheVariants as kind
use Rattle.cx_tree.specs.Names.{Binding, is_type}
use Rattle.cx_parse.proofs.Stood.{Reads, NoBrace}

-- the reader takes these tokens, and gives this; no name comes into scope
abbrev pub Quiet : {A : Type 0} → Reader A → List Token → A → List Binding → List Token → Type 0
Quiet {A} read front a names rest = read (at (front ++ rest) names) ≡ Some (a, at rest names)

-- ---- one after the other

module _ {A B : Type 0} (read : Reader A) (go : A → Reader B) where
  pub both_read : (front more : List Token) (new further : List Binding) (a : A) (b : B) (names : List Binding) (rest : List Token)
      → Reads read front new a names (more ++ rest) → Reads (go a) more further b (names ++ new) rest → Reads (bind read go) (front ++ more) (new ++ further) b names rest
  both_read front more new further a b names rest first second =
      ap (λ (ts : List Token). bind read go (at ts names)) (append_assoc front more rest)
      ∙ bind_some read go (at (front ++ (more ++ rest)) names) a (at (more ++ rest) (names ++ new)) first
      ∙ second
      ∙ ap (λ (bs : List Binding). Some (b, at rest bs)) (append_assoc names new further)

  pub then_quiet : (front more : List Token) (new : List Binding) (a : A) (b : B) (names : List Binding) (rest : List Token)
      → Reads read front new a names (more ++ rest) → Quiet (go a) more b (names ++ new) rest → Reads (bind read go) (front ++ more) new b names rest
  then_quiet front more new a b names rest first second =
      ap (λ (ts : List Token). bind read go (at ts names)) (append_assoc front more rest)
      ∙ bind_some read go (at (front ++ (more ++ rest)) names) a (at (more ++ rest) (names ++ new)) first
      ∙ second

  pub quiet_then : (front more : List Token) (further : List Binding) (a : A) (b : B) (names : List Binding) (rest : List Token)
      → Quiet read front a names (more ++ rest) → Reads (go a) more further b names rest → Reads (bind read go) (front ++ more) further b names rest
  quiet_then front more further a b names rest first second =
      ap (λ (ts : List Token). bind read go (at ts names)) (append_assoc front more rest)
      ∙ bind_some read go (at (front ++ (more ++ rest)) names) a (at (more ++ rest) names) first
      ∙ second

  pub both_quiet : (front more : List Token) (a : A) (b : B) (names : List Binding) (rest : List Token)
      → Quiet read front a names (more ++ rest) → Quiet (go a) more b names rest → Quiet (bind read go) (front ++ more) b names rest
  both_quiet front more a b names rest first second =
      ap (λ (ts : List Token). bind read go (at ts names)) (append_assoc front more rest)
      ∙ bind_some read go (at (front ++ (more ++ rest)) names) a (at (more ++ rest) names) first
      ∙ second

-- what was read is made into something else
pub read_as : {A B : Type 0} (read : Reader A) (make : A → B) (front : List Token) (new : List Binding) (a : A) (names : List Binding) (rest : List Token)
    → Reads read front new a names rest → Reads (bind read (λ a. λ s. Some (make a, s))) front new (make a) names rest
read_as read make front new a names rest first = bind_some read (λ a. λ s. Some (make a, s)) (at (front ++ rest) names) a (at rest (names ++ new)) first

pub quiet_as : {A B : Type 0} (read : Reader A) (make : A → B) (front : List Token) (a : A) (names : List Binding) (rest : List Token)
    → Quiet read front a names rest → Quiet (bind read (λ a. λ s. Some (make a, s))) front (make a) names rest
quiet_as read make front a names rest first = bind_some read (λ a. λ s. Some (make a, s)) (at (front ++ rest) names) a (at rest names) first

-- a mark, and what stands behind it
pub mark_then : {B : Type 0} (p : Punct) (go : ℕ → Reader B) (line : ℕ) (more : List Token) (new : List Binding) (b : B) (names : List Binding) (rest : List Token)
    → Reads (go line) more new b names rest → Reads (bind (mark p) go) (token (kind.Mark p) line ∷ more) new b names rest
mark_then p go line more new b names rest second =
    bind_some (mark p) go (at (token (kind.Mark p) line ∷ (more ++ rest)) names) line (at (more ++ rest) names) (mark_reads p line (more ++ rest) names) ∙ second

pub mark_quiet : {B : Type 0} (p : Punct) (go : ℕ → Reader B) (line : ℕ) (more : List Token) (b : B) (names : List Binding) (rest : List Token)
    → Quiet (go line) more b names rest → Quiet (bind (mark p) go) (token (kind.Mark p) line ∷ more) b names rest
mark_quiet p go line more b names rest second =
    bind_some (mark p) go (at (token (kind.Mark p) line ∷ (more ++ rest)) names) line (at (more ++ rest) names) (mark_reads p line (more ++ rest) names) ∙ second

pub key_then : {B : Type 0} (k : Keyword) (go : ℕ → Reader B) (line : ℕ) (more : List Token) (new : List Binding) (b : B) (names : List Binding) (rest : List Token)
    → Reads (go line) more new b names rest → Reads (bind (key k) go) (token (kind.Key k) line ∷ more) new b names rest
key_then k go line more new b names rest second =
    bind_some (key k) go (at (token (kind.Key k) line ∷ (more ++ rest)) names) line (at (more ++ rest) names) (key_reads k line (more ++ rest) names) ∙ second

-- the last mark
pub mark_last : {B : Type 0} (p : Punct) (make : ℕ → B) (line : ℕ) (names : List Binding) (rest : List Token)
    → Quiet (bind (mark p) (λ line. λ s. Some (make line, s))) (token (kind.Mark p) line ∷ []) (make line) names rest
mark_last p make line names rest = bind_some (mark p) (λ line. λ s. Some (make line, s)) (at (token (kind.Mark p) line ∷ rest) names) line (at rest names) (mark_reads p line rest names)

-- no name in place of no more names
pub no_more : {A : Type 0} (read : Reader A) (front : List Token) (new : List Binding) (a : A) (names : List Binding) (rest : List Token)
    → Reads read front (new ++ []) a names rest → Reads read front new a names rest
no_more read front new a names rest e = subst (λ (bs : List Binding). Reads read front bs a names rest) (append-nil new) e

pub quiet_reads : {A : Type 0} (read : Reader A) (front : List Token) (a : A) (names : List Binding) (rest : List Token)
    → Quiet read front a names rest → Reads read front [] a names rest
quiet_reads read front a names rest e = e ∙ ap (λ (bs : List Binding). Some (a, at rest bs)) (sym (append-nil names))

pub reads_quiet : {A : Type 0} (read : Reader A) (front : List Token) (a : A) (names : List Binding) (rest : List Token)
    → Reads read front [] a names rest → Quiet read front a names rest
reads_quiet read front a names rest e = e ∙ ap (λ (bs : List Binding). Some (a, at rest bs)) (append-nil names)

-- ---- turns

module _ {A : Type 0} (stops : A → State → Bool) (step : A → Reader A) where
  pub many_stops : (turns : ℕ) (all : A) (state : State) → stops all state ≡ true → many stops step (suc turns) all state ≡ Some (all, state)
  unfolding many
  many_stops turns all state stop = cond-true (stops all state) _ _ stop

  pub many_steps : (turns : ℕ) (all next : A) (state mid : State) → stops all state ≡ false → step all state ≡ Some (next, mid)
      → many stops step (suc turns) all state ≡ many stops step turns next mid
  unfolding many
  many_steps turns all next state mid go one = cond-false (stops all state) _ _ go ∙ bind_some (step all) (many stops step turns) state next mid one

pub takes : {A B : Type 0} (item : Reader A) (add : B → A → B) (all : B) (state mid : State) (a : A) → item state ≡ Some (a, mid) → taking item add all state ≡ Some (add all a, mid)
unfolding taking
takes item add all state mid a one = bind_some item (λ a. λ s. Some (add all a, s)) state a mid one

-- ---- lines

pub no_line : (lines : List ℕ) → length lines ≡ 0 → [] ≡ lines
no_line [] e = refl
no_line (l ∷ lines) e = absurd (omega arith)

pub one_line : (lines : List ℕ) → length lines ≡ 1 → get_or lines 0 0 ∷ [] ≡ lines
one_line [] e = absurd (omega arith)
one_line (l ∷ []) e = refl
one_line (l ∷ k ∷ lines) e = absurd (omega arith)

pub two_lines : (lines : List ℕ) → length lines ≡ 2 → get_or lines 0 0 ∷ get_or lines 1 0 ∷ [] ≡ lines
two_lines [] e = absurd (omega arith)
two_lines (l ∷ []) e = absurd (omega arith)
two_lines (l ∷ k ∷ []) e = refl
two_lines (l ∷ k ∷ j ∷ lines) e = absurd (omega arith)

pub some_line : (lines : List ℕ) (n : ℕ) → length lines ≡ suc n → get_or lines 0 0 ∷ drop 1 lines ≡ lines
some_line [] n e = absurd (omega arith)
some_line (l ∷ lines) n e = refl

pub less_line : (lines : List ℕ) (n : ℕ) → length lines ≡ suc n → length (drop 1 lines) ≡ n
less_line [] n e = absurd (omega arith)
less_line (l ∷ lines) n e = omega arith

-- ---- what stands in front

-- no `{` is in front, where none shows
pub no_brace_shown : (names : List Binding) (tokens : List Token) → shows_mark punct.LeftBrace (sight_in names tokens) ≡ false → NoBrace tokens
no_brace_shown names [] h = tt
no_brace_shown names (t ∷ tokens) h = λ line is.
    true≢false (sym (ap (λ (t : Token). shows_mark punct.LeftBrace (sight_of names t.kind)) is ∙ same_mark_refl punct.LeftBrace) ∙ h)

pub word_no_mark : (p : Punct) (is_type : Bool) → shows_mark p (word_sight is_type) ≡ false
word_no_mark p true = refl
word_no_mark p false = refl

brace_by : (names : List Binding) (t : Token) (k : TokenKind) → t.kind ≡ k → ((line : ℕ) → t ≡ token (kind.Mark punct.LeftBrace) line → ⊥) → shows_mark punct.LeftBrace (sight_of names k) ≡ false
brace_by names t (kind.Word name) is absent = word_no_mark punct.LeftBrace (is_type names name)
brace_by names t (kind.Key keyword) is absent = refl
brace_by names t (kind.Number value ty) is absent = refl
brace_by names t (kind.Letter value) is absent = refl
brace_by names t (kind.Text bytes) is absent = refl
brace_by names t (kind.Mark p) is absent = mark_by (same_mark p punct.LeftBrace) refl where
  mark_by : (test : Bool) → same_mark p punct.LeftBrace ≡ test → same_mark p punct.LeftBrace ≡ false
  mark_by false e = e
  mark_by true e = absurd (absent t.line (ap (λ (k : TokenKind). token k t.line) (is ∙ ap kind.Mark (same_mark_same p punct.LeftBrace e))))

-- where no `{` is in front, none shows
pub shows_no_brace : (names : List Binding) (tokens : List Token) → NoBrace tokens → shows_mark punct.LeftBrace (sight_in names tokens) ≡ false
shows_no_brace names [] absent = refl
shows_no_brace names (t ∷ tokens) absent = brace_by names t t.kind refl absent
