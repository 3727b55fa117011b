-- The ends of lists of types are told apart in the tokens of a text as they are in those of the tree that it spells.
use Rattle.std.proofs.Common.{◌≡◌, ℕ, zero, suc, ◌+◌, ◌-◌, ◌≤◌, Bool, true, false, ◌&&◌, nat_le, List, [], ◌∷◌, ◌++◌, replicate, codes, bytes_eq, Option, Some, None, is_some, refl, sym, ap, subst, ◌∙◌, arith, if◌then◌else◌}
use Rattle.std.specs.Cmp.Lexicographic.{same_text}
use Rattle.std.proofs.lemmas.Bool.{and_parts}
use Rattle.std.proofs.lemmas.Bool.Decides.{nat_tests}
use Rattle.rs_lex.specs.Closed.{last_of, opens, ends, closed_token, open_behind, closed_from, closed}
use Rattle.rs_text.specs.Reads.{is_token, is_double_close, fits}
use Rattle.rs_text.specs.Tokens.{RToken, Word, Label, Quoted, Mark, Close}

abbrev pub Toks : Type 0
Toks = List RToken

-- how many lists of types are open, and the token before
abbrev pub State : Type 0
State = ℕ × RToken

abbrev pub at : ℕ → RToken → State
at n t = (n, t)

-- how many lists of types are open behind tokens of a tree, where each `Close` ends one that is open, and no other token would
abbrev pub behind_plain : ℕ → RToken → RToken → Option State
behind_plain n p t = if nat_le 1 (ends t) && nat_le 1 n then None else Some (at (if opens (last_of p) t then n + 1 else n) t)

abbrev pub behind_close : ℕ → Option State
behind_close zero = None
behind_close (suc n) = Some (at n Close)

abbrev pub behind : ℕ → RToken → RToken → Option State
behind n p Close = behind_close n
behind n p t = behind_plain n p t

abbrev pub onward : Option State → (ℕ → RToken → Option State) → Option State
onward None go = None
onward (Some s) go = go s.0 s.1

abbrev pub walk : ℕ → RToken → Toks → Option State
walk n p [] = Some (at n p)
walk n p (t ∷ ts) = onward (behind n p t) (λ m q. walk m q ts)

onward_twice : (o : Option State) (f g : ℕ → RToken → Option State) → onward (onward o f) g ≡ onward o (λ m l. onward (f m l) g)
onward_twice None f g = refl
onward_twice (Some s) f g = refl

onward_same : (o : Option State) (f g : ℕ → RToken → Option State) → ((m : ℕ) (l : RToken) → f m l ≡ g m l) → onward o f ≡ onward o g
onward_same None f g same = refl
onward_same (Some s) f g same = same s.0 s.1

pub walk_append : (n : ℕ) (p : RToken) (xs ys : Toks) → walk n p (xs ++ ys) ≡ onward (walk n p xs) (λ m l. walk m l ys)
walk_append n p [] ys = refl
walk_append n p (x ∷ xs) ys =
    onward_same (behind n p x) (λ m l. walk m l (xs ++ ys)) (λ m l. onward (walk m l xs) (λ i k. walk i k ys)) (λ m l. walk_append m l xs ys)
    ∙ sym (onward_twice (behind n p x) (λ m l. walk m l xs) (λ m l. walk m l ys))

-- ---- one token

record IsCut (n m : ℕ) (p g t : RToken) (out : Toks) : Type 0 where
  token : closed_token n t ≡ out
  count : open_behind n (last_of p) t ≡ m
  last : last_of t ≡ last_of g

le_true : (a b : ℕ) → a ≤ b → nat_le a b ≡ true
le_true a b h = grind (arith, nat_tests, h)

one_close : (n : ℕ) (p : RToken) (text : List ℕ) → bytes_eq text (codes ">") ≡ true → IsCut (suc n) n p Close (Mark text) (Close ∷ [])
one_close n p text h =
    let same : codes ">" ≡ text = sym (same_text text (codes ">") (sym h)) in
    let le = le_true 1 (suc n) (omega arith) in
    let less : suc n - 1 ≡ n = omega arith in
    subst (λ (l : List ℕ). IsCut (suc n) n p Close (Mark l) (Close ∷ [])) same (record {
      token = ap (λ (b : Bool). if b then Close ∷ [] else Mark (codes ">") ∷ []) le;
      count = ap (λ (b : Bool). if b then suc n - 1 else if opens (last_of p) (Mark (codes ">")) then suc n + 1 else suc n) le ∙ less;
      last = refl;
    })

two_closes : (n : ℕ) (p : RToken) (text : List ℕ) → bytes_eq text (codes ">>") ≡ true → IsCut (suc (suc n)) n p Close (Mark text) (Close ∷ Close ∷ [])
two_closes n p text h =
    let same : codes ">>" ≡ text = sym (same_text text (codes ">>") (sym h)) in
    let le = le_true 2 (suc (suc n)) (omega arith) in
    let less : suc (suc n) - 2 ≡ n = omega arith in
    subst (λ (l : List ℕ). IsCut (suc (suc n)) n p Close (Mark l) (Close ∷ Close ∷ [])) same (record {
      token = ap (λ (b : Bool). if b then Close ∷ Close ∷ [] else Mark (codes ">>") ∷ []) le;
      count = ap (λ (b : Bool). if b then suc (suc n) - 2 else if opens (last_of p) (Mark (codes ">>")) then suc (suc n) + 1 else suc (suc n)) le ∙ less;
      last = refl;
    })

no_end_by : (e n : ℕ) → (nat_le 1 e && nat_le 1 n) ≡ false → (nat_le 1 e && nat_le e n) ≡ false
no_end_by zero n h = refl
no_end_by (suc e) zero h = grind (arith, nat_tests, h)
no_end_by (suc e) (suc n) h = grind (arith, nat_tests, h)

some_state : (x y : State) → Some x ≡ Some y → x ≡ y
some_state x y h = cc

plain_by : (n m : ℕ) (p g t : RToken) (b : Bool) → (nat_le 1 (ends t) && nat_le 1 n) ≡ b →
    (if b then None else Some (at (if opens (last_of p) t then n + 1 else n) t)) ≡ Some (at m g) → IsCut n m p g t (t ∷ [])
plain_by n m p g t true is h = cc
plain_by n m p g t false is h =
    let none = no_end_by (ends t) n is in
    let same = some_state (at (if opens (last_of p) t then n + 1 else n) t) (at m g) h in
    record {
      token = ap (λ (b : Bool). if b then replicate (ends t) Close else t ∷ []) none;
      count = ap (λ (b : Bool). if b then n - ends t else if opens (last_of p) t then n + 1 else n) none ∙ ap (λ (s : State). s.0) same;
      last = ap (λ (s : State). last_of s.1) same;
    }

plain_cut : (n m : ℕ) (p g t : RToken) → behind_plain n p t ≡ Some (at m g) → IsCut n m p g t (t ∷ [])
plain_cut n m p g t h = plain_by n m p g t (nat_le 1 (ends t) && nat_le 1 n) refl h

-- ---- all tokens

-- what is cut off, and the rest
cut_then : (n m : ℕ) (p g t : RToken) (out ts us : Toks) → IsCut n m p g t out → closed_from m (last_of g) ts ≡ us → closed_from n (last_of p) (t ∷ ts) ≡ out ++ us
cut_then n m p g t out ts us cut rest =
    ap (λ (l : Toks). l ++ closed_from (open_behind n (last_of p) t) (last_of t) ts) cut.token
    ∙ ap (λ k. out ++ closed_from k (last_of t) ts) cut.count
    ∙ ap (λ k. out ++ closed_from m k ts) cut.last
    ∙ ap (λ (l : Toks). out ++ l) rest

abbrev Agrees : Toks → Toks → Type 0
Agrees ts us = (n : ℕ) (p : RToken) (s : State) → walk n p us ≡ Some s → closed_from n (last_of p) ts ≡ us

-- a token that stands for itself
plain_step : (n : ℕ) (p t : RToken) (ts us : Toks) (s : State) (o : Option State) → behind_plain n p t ≡ o → onward o (λ m q. walk m q us) ≡ Some s → Agrees ts us →
    closed_from n (last_of p) (t ∷ ts) ≡ t ∷ us
plain_step n p t ts us s None is walks next = cc
plain_step n p t ts us s (Some q) is walks next = cut_then n q.0 p q.1 t (t ∷ []) ts us (plain_cut n q.0 p q.1 t is) (next q.0 q.1 s walks)

close_step : (n : ℕ) (p : RToken) (text : List ℕ) (ts us : Toks) (s : State) → bytes_eq text (codes ">") ≡ true → onward (behind_close n) (λ m q. walk m q us) ≡ Some s → Agrees ts us →
    closed_from n (last_of p) (Mark text ∷ ts) ≡ Close ∷ us
close_step zero p text ts us s is walks next = cc
close_step (suc n) p text ts us s is walks next = cut_then (suc n) n p Close (Mark text) (Close ∷ []) ts us (one_close n p text is) (next n Close s walks)

double_step : (n : ℕ) (p : RToken) (text : List ℕ) (ts us : Toks) (s : State) → bytes_eq text (codes ">>") ≡ true → walk n p (Close ∷ Close ∷ us) ≡ Some s → Agrees ts us →
    closed_from n (last_of p) (Mark text ∷ ts) ≡ Close ∷ Close ∷ us
double_step zero p text ts us s is walks next = cc
double_step (suc zero) p text ts us s is walks next = cc
double_step (suc (suc n)) p text ts us s is walks next =
    cut_then (suc (suc n)) n p Close (Mark text) (Close ∷ Close ∷ []) ts us (two_closes n p text is) (next n Close s walks)

pub word_is : (t : RToken) (x : List ℕ) → is_token t (Word x) ≡ true → t ≡ Word x
word_is (Word a) x h = ap Word (same_text a x (sym h))
word_is _ x h = cc

pub label_is : (t : RToken) (x : List ℕ) → is_token t (Label x) ≡ true → t ≡ Label x
label_is (Label a) x h = ap Label (same_text a x (sym h))
label_is _ x h = cc

pub quoted_is : (t : RToken) (x : List ℕ) → is_token t (Quoted x) ≡ true → t ≡ Quoted x
quoted_is (Quoted a) x h = ap Quoted (same_text a x (sym h))
quoted_is _ x h = cc

pub mark_is : (t : RToken) (x : List ℕ) → is_token t (Mark x) ≡ true → t ≡ Mark x
mark_is (Mark a) x h = ap Mark (same_text a x (sym h))
mark_is _ x h = cc

close_case : (t : RToken) (ts us : Toks) → is_token t Close ≡ true → Agrees ts us → Agrees (t ∷ ts) (Close ∷ us)
close_case (Mark text) ts us h next = λ n p s walks. close_step n p text ts us s h walks next
close_case _ ts us h next = cc

abbrev double_or : Bool → Bool → Bool → Bool
double_or b x y = if b then x else y

double_text : (t : RToken) (ts us : Toks) → is_double_close t ≡ true → Agrees ts us → Agrees (t ∷ ts) (Close ∷ Close ∷ us)
double_text (Mark text) ts us h next = λ n p s walks. double_step n p text ts us s h walks next
double_text _ ts us h next = cc

double_case : (b : Bool) (t : RToken) (ts us : Toks) → is_double_close t ≡ b → (if b then fits ts us else is_token t Close && fits ts (Close ∷ us)) ≡ true →
    (fits ts us ≡ true → Agrees ts us) → (fits ts (Close ∷ us) ≡ true → Agrees ts (Close ∷ us)) → Agrees (t ∷ ts) (Close ∷ Close ∷ us)
double_case true t ts us is h two one = double_text t ts us is (two h)
double_case false t ts us is h two one =
    let parts = and_parts (is_token t Close) (fits ts (Close ∷ us)) h in close_case t ts (Close ∷ us) parts.0 (one parts.1)

single_case : (t : RToken) (ts us : Toks) → (is_token t Close && fits ts us) ≡ true → (fits ts us ≡ true → Agrees ts us) → Agrees (t ∷ ts) (Close ∷ us)
single_case t ts us h next = let parts = and_parts (is_token t Close) (fits ts us) h in close_case t ts us parts.0 (next parts.1)

plain_case : (t u : RToken) (ts us : Toks) → t ≡ u → ((n : ℕ) (p : RToken) → behind n p u ≡ behind_plain n p u) → Agrees ts us → Agrees (t ∷ ts) (u ∷ us)
plain_case t u ts us same plain next n p s walks =
    subst (λ (v : RToken). closed_from n (last_of p) (v ∷ ts) ≡ u ∷ us) (sym same)
    (plain_step n p u ts us s (behind_plain n p u) refl (ap (λ o. onward o (λ m q. walk m q us)) (sym (plain n p)) ∙ walks) next)

pub agree : (ts us : Toks) → fits ts us ≡ true → Agrees ts us
agree [] [] h = λ n p s walks. refl
agree [] (u ∷ us) h = cc
agree (t ∷ ts) [] h = cc
agree (t ∷ ts) (Word x ∷ us) h =
    let parts = and_parts (is_token t (Word x)) (fits ts us) h in plain_case t (Word x) ts us (word_is t x parts.0) (λ n p. refl) (agree ts us parts.1)
agree (t ∷ ts) (Label x ∷ us) h =
    let parts = and_parts (is_token t (Label x)) (fits ts us) h in plain_case t (Label x) ts us (label_is t x parts.0) (λ n p. refl) (agree ts us parts.1)
agree (t ∷ ts) (Quoted x ∷ us) h =
    let parts = and_parts (is_token t (Quoted x)) (fits ts us) h in plain_case t (Quoted x) ts us (quoted_is t x parts.0) (λ n p. refl) (agree ts us parts.1)
agree (t ∷ ts) (Mark x ∷ us) h =
    let parts = and_parts (is_token t (Mark x)) (fits ts us) h in plain_case t (Mark x) ts us (mark_is t x parts.0) (λ n p. refl) (agree ts us parts.1)
agree (t ∷ ts) (Close ∷ []) h = single_case t ts [] h (agree ts [])
agree (t ∷ ts) (Close ∷ Word x ∷ us) h = single_case t ts (Word x ∷ us) h (agree ts (Word x ∷ us))
agree (t ∷ ts) (Close ∷ Label x ∷ us) h = single_case t ts (Label x ∷ us) h (agree ts (Label x ∷ us))
agree (t ∷ ts) (Close ∷ Quoted x ∷ us) h = single_case t ts (Quoted x ∷ us) h (agree ts (Quoted x ∷ us))
agree (t ∷ ts) (Close ∷ Mark x ∷ us) h = single_case t ts (Mark x ∷ us) h (agree ts (Mark x ∷ us))
agree (t ∷ ts) (Close ∷ Close ∷ us) h = double_case (is_double_close t) t ts us refl h (agree ts us) (agree ts (Close ∷ us))

-- ---- tokens that end just the lists that they open

abbrev pub ok : ℕ → RToken → Toks → Bool
ok n p us = is_some (walk n p us)

some_agree : (o : Option State) (ts us : Toks) (n : ℕ) (p : RToken) → walk n p us ≡ o → is_some o ≡ true → Agrees ts us → closed_from n (last_of p) ts ≡ us
some_agree None ts us n p is h next = cc
some_agree (Some s) ts us n p is h next = next n p s is

pub closed_is : (ts us : Toks) → fits ts us ≡ true → ok 0 Close us ≡ true → closed ts ≡ us
closed_is ts us fit h = some_agree (walk 0 Close us) ts us 0 Close refl h (agree ts us fit)

-- a token that no list of types begins or ends at is all that the next one has to know
pub calm_same : (n : ℕ) (p q : RToken) (us : Toks) → last_of p ≡ last_of q → ok n p us ≡ ok n q us
calm_same n p q [] h = refl
calm_same n p q (Close ∷ us) h = refl
calm_same n p q (Word x ∷ us) h =
    ap (λ k. is_some (onward (if nat_le 1 (ends (Word x)) && nat_le 1 n then None else Some (at (if opens k (Word x) then n + 1 else n) (Word x))) (λ m q. walk m q us))) h
calm_same n p q (Label x ∷ us) h =
    ap (λ k. is_some (onward (if nat_le 1 (ends (Label x)) && nat_le 1 n then None else Some (at (if opens k (Label x) then n + 1 else n) (Label x))) (λ m q. walk m q us))) h
calm_same n p q (Quoted x ∷ us) h =
    ap (λ k. is_some (onward (if nat_le 1 (ends (Quoted x)) && nat_le 1 n then None else Some (at (if opens k (Quoted x) then n + 1 else n) (Quoted x))) (λ m q. walk m q us))) h
calm_same n p q (Mark x ∷ us) h =
    ap (λ k. is_some (onward (if nat_le 1 (ends (Mark x)) && nat_le 1 n then None else Some (at (if opens k (Mark x) then n + 1 else n) (Mark x))) (λ m q. walk m q us))) h
