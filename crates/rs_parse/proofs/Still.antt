-- Tokens that end no list of types stay as they are where such ends are told apart.
use Rattle.std.proofs.Common.{◌≡◌, ℕ, true, not, ◌&&◌, List, [], ◌∷◌, ◌++◌, codes, bytes_eq, Option, Some, option_map, refl, ap, ◌∙◌}
use Rattle.std.specs.List.{list_all}
use Rattle.std.proofs.lemmas.Bool.{and_parts}
use Rattle.rs_lex.specs.Closed.{closed_in, closed, closed_from, open_behind, last_of}
use Rattle.rs_parse.specs.Cargo.{is_still}
use Rattle.rs_parse.proofs.CutFits.{no_end, spells_closed}
use Rattle.rs_parse.proofs.Lexing.{Toks, Text}
use Rattle.rs_parse.proofs.MainText.{is_plain, plain_tokens, main_tokens, declared, begun}
use Rattle.rs_parse.proofs.NameSigns.{not_true}
use Rattle.rs_text.specs.Tokens.{RToken, Word, Mark, Label, Quoted, Close, tokens_in}

-- p is the token before
closed_still : (n : ℕ) (p : RToken) (ts : Toks) → list_all is_still ts ≡ true → closed_from n (last_of p) ts ≡ ts
closed_still n p [] h = refl
closed_still n p (Close ∷ ts) h = cc
closed_still n p (Word x ∷ ts) h = ap (λ l. Word x ∷ l) (closed_still (open_behind n (last_of p) (Word x)) (Word x) ts h)
closed_still n p (Label x ∷ ts) h = ap (λ l. Label x ∷ l) (closed_still (open_behind n (last_of p) (Label x)) (Label x) ts h)
closed_still n p (Quoted x ∷ ts) h = ap (λ l. Quoted x ∷ l) (closed_still (open_behind n (last_of p) (Quoted x)) (Quoted x) ts h)
closed_still n p (Mark x ∷ ts) h =
    let parts = and_parts (is_still (Mark x)) (list_all is_still ts) h in
    let ends = and_parts (not (bytes_eq x (codes ">"))) (not (bytes_eq x (codes ">>"))) parts.0 in
    ap (λ out. out ++ closed_from (open_behind n (last_of p) (Mark x)) (last_of (Mark x)) ts)
    (no_end n x (not_true (bytes_eq x (codes ">")) ends.0) (not_true (bytes_eq x (codes ">>")) ends.1))
    ∙ ap (λ l. Mark x ∷ l) (closed_still (open_behind n (last_of p) (Mark x)) (Mark x) ts parts.1)

pub still_plain : (ts : Toks) → list_all is_still ts ≡ true → list_all is_plain ts ≡ true
still_plain [] h = refl
still_plain (Close ∷ ts) h = cc
still_plain (Word x ∷ ts) h = still_plain ts h
still_plain (Label x ∷ ts) h = still_plain ts h
still_plain (Quoted x ∷ ts) h = still_plain ts h
still_plain (Mark x ∷ ts) h = still_plain ts (and_parts (is_still (Mark x)) (list_all is_still ts) h).1

-- a text whose tokens are these has them where ends are told apart, and the other way round
pub still_closed : (text : Text) (us : Toks) → list_all is_still us ≡ true → tokens_in text ≡ Some us → closed_in text ≡ Some us
still_closed text us h e = ap (λ (o : Option Toks). option_map closed o) e ∙ ap Some (closed_still 0 Close us h)

pub closed_told : (text : Text) (us : Toks) → list_all is_still us ≡ true → closed_in text ≡ Some us → tokens_in text ≡ Some us
closed_told text us h e = plain_tokens (tokens_in text) us (still_plain us h) (spells_closed text us e)

-- ---- the tokens of `main.rs` are such

still_both : (xs ys : Toks) → list_all is_still xs ≡ true → list_all is_still ys ≡ true → list_all is_still (xs ++ ys) ≡ true
still_both [] ys h g = g
still_both (x ∷ xs) ys h g = let parts = and_parts (is_still x) (list_all is_still xs) h in ap (λ b. b && list_all is_still (xs ++ ys)) parts.0 ∙ still_both xs ys parts.1 g

declared_still : (names : List Text) → list_all is_still (declared names) ≡ true
declared_still [] = refl
declared_still (x ∷ xs) = declared_still xs

begun_still : (names : List Text) → list_all is_still (begun names) ≡ true
begun_still [] = refl
begun_still (x ∷ xs) = begun_still xs

pub main_still : (names : List Text) (entry : Text) → list_all is_still (main_tokens names entry) ≡ true
main_still names entry = still_both (declared names) _ (declared_still names) (still_both (begun names) _ (begun_still names) refl)
