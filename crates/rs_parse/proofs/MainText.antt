-- The printed text of `main.rs` has its tokens.
use Rattle.std.proofs.Common.{◌≡◌, Bool, true, false, not, ◌&&◌, List, [], ◌∷◌, ◌++◌, map, codes, bytes_eq, Option, Some, None, refl, ap, subst, ◌∙◌, append-nil}
use Rattle.std.specs.List.{list_all}
use Rattle.std.proofs.lemmas.Bool.{and_parts}
use Rattle.rs_text.specs.Lines.{text_of_lines, allow_line, declaration_line, initialiser_of, initialiser_line, exit_of, main_of}
use Rattle.rs_text.specs.Names.{is_plain_identifier, is_module_name}
use Rattle.rs_text.specs.Reads.{is_token, fits, both_fit}
use Rattle.rs_text.specs.Tokens.{RToken, Word, Mark, Label, Quoted, Close, tokens_in}
use Rattle.rs_parse.proofs.Closing.{word_is, label_is, quoted_is, mark_is}
use Rattle.rs_parse.proofs.Lexing.{Toks, Text, Reads, reads_nil, mild_of, same_self, blank, word_reads, plain_reads, hash, bang, open_bracket, close_bracket, open_paren, close_paren, open_brace, comma, semicolon, path_mark}
use Rattle.rs_parse.proofs.TextItems.{LinesGood, cons_line, one_line, no_lines, lines_then}
use Rattle.rs_parse.proofs.Texts.{Good, nothing, loosen, soft_then, l_brace, l_end, l_crate}

-- ---- tokens of a text and of a tree without ends of lists of types

abbrev pub is_plain : RToken → Bool
is_plain Close = false
is_plain _ = true

pub plain_fit : (ts us : Toks) → list_all is_plain us ≡ true → fits ts us ≡ true → ts ≡ us
plain_fit [] [] p h = refl
plain_fit [] (u ∷ us) p h = cc
plain_fit (t ∷ ts) [] p h = cc
plain_fit (t ∷ ts) (Close ∷ us) p h = cc
plain_fit (t ∷ ts) (Word x ∷ us) p h =
    let parts = and_parts (is_token t (Word x)) (fits ts us) h in ap (λ k. k ∷ ts) (word_is t x parts.0) ∙ ap (λ l. Word x ∷ l) (plain_fit ts us p parts.1)
plain_fit (t ∷ ts) (Label x ∷ us) p h =
    let parts = and_parts (is_token t (Label x)) (fits ts us) h in ap (λ k. k ∷ ts) (label_is t x parts.0) ∙ ap (λ l. Label x ∷ l) (plain_fit ts us p parts.1)
plain_fit (t ∷ ts) (Quoted x ∷ us) p h =
    let parts = and_parts (is_token t (Quoted x)) (fits ts us) h in ap (λ k. k ∷ ts) (quoted_is t x parts.0) ∙ ap (λ l. Quoted x ∷ l) (plain_fit ts us p parts.1)
plain_fit (t ∷ ts) (Mark x ∷ us) p h =
    let parts = and_parts (is_token t (Mark x)) (fits ts us) h in ap (λ k. k ∷ ts) (mark_is t x parts.0) ∙ ap (λ l. Mark x ∷ l) (plain_fit ts us p parts.1)

pub self_fit : (us : Toks) → list_all is_plain us ≡ true → fits us us ≡ true
self_fit [] p = refl
self_fit (Close ∷ us) p = cc
self_fit (Word x ∷ us) p = ap (λ b. b && fits us us) (same_self x) ∙ self_fit us p
self_fit (Label x ∷ us) p = ap (λ b. b && fits us us) (same_self x) ∙ self_fit us p
self_fit (Quoted x ∷ us) p = ap (λ b. b && fits us us) (same_self x) ∙ self_fit us p
self_fit (Mark x ∷ us) p = ap (λ b. b && fits us us) (same_self x) ∙ self_fit us p

pub plain_tokens : (o : Option Toks) (us : Toks) → list_all is_plain us ≡ true → both_fit o (Some us) ≡ true → o ≡ Some us
plain_tokens None us p h = cc
plain_tokens (Some ts) us p h = ap Some (plain_fit ts us p h)

-- ---- the tokens of `main.rs`

abbrev pub declared : List Text → Toks
declared [] = []
declared (x ∷ xs) = Word (codes "mod") ∷ Word x ∷ Mark (codes ";") ∷ declared xs

abbrev pub begun : List Text → Toks
begun [] = []
begun (x ∷ xs) =
    Word (codes "crate") ∷ Mark (codes "::") ∷ Word x ∷ Mark (codes "::") ∷ Word (codes "run_static_initializers") ∷ Mark (codes "(") ∷ Mark (codes ")") ∷ Mark (codes ";") ∷ begun xs

abbrev pub allowed : Toks
allowed =
    Mark (codes "#") ∷ Mark (codes "!") ∷ Mark (codes "[") ∷ Word (codes "allow") ∷ Mark (codes "(") ∷ Word (codes "unconditional_panic") ∷ Mark (codes ",")
    ∷ Word (codes "arithmetic_overflow") ∷ Mark (codes ")") ∷ Mark (codes "]") ∷ []

abbrev pub left : Text → Toks
left entry =
    Word (codes "std") ∷ Mark (codes "::") ∷ Word (codes "process") ∷ Mark (codes "::") ∷ Word (codes "exit") ∷ Mark (codes "(") ∷ Word (codes "crate") ∷ Mark (codes "::") ∷ Word entry
    ∷ Mark (codes "::") ∷ Word (codes "main_0") ∷ Mark (codes "(") ∷ Mark (codes ")") ∷ Mark (codes ")") ∷ Mark (codes ";") ∷ []

abbrev pub head_of_main : Toks
head_of_main = Word (codes "fn") ∷ Word (codes "main") ∷ Mark (codes "(") ∷ Mark (codes ")") ∷ Mark (codes "{") ∷ []

abbrev pub main_tokens : List Text → Text → Toks
main_tokens names entry =
    allowed ++ (declared names ++ (head_of_main ++ ((Word (codes "unsafe") ∷ Mark (codes "{") ∷ []) ++ (begun names ++ (left entry ++ ((Mark (codes "}") ∷ []) ++ (Mark (codes "}") ∷ [])))))))

pub plain_both : (xs ys : Toks) → list_all is_plain xs ≡ true → list_all is_plain ys ≡ true → list_all is_plain (xs ++ ys) ≡ true
plain_both [] ys h g = g
plain_both (x ∷ xs) ys h g = let parts = and_parts (is_plain x) (list_all is_plain xs) h in ap (λ b. b && list_all is_plain (xs ++ ys)) parts.0 ∙ plain_both xs ys parts.1 g

declared_plain : (names : List Text) → list_all is_plain (declared names) ≡ true
declared_plain [] = refl
declared_plain (x ∷ xs) = declared_plain xs

begun_plain : (names : List Text) → list_all is_plain (begun names) ≡ true
begun_plain [] = refl
begun_plain (x ∷ xs) = begun_plain xs

pub main_plain : (names : List Text) (entry : Text) → list_all is_plain (main_tokens names entry) ≡ true
main_plain names entry =
    plain_both (declared names) _ (declared_plain names) (plain_both (begun names) _ (begun_plain names) refl)

-- ---- pieces of fixed text

l_allow : {n : Bool} {b : Text} {bs : Toks} → Good n b bs → Good n (35 ∷ 33 ∷ 91 ∷ 97 ∷ 108 ∷ 108 ∷ 111 ∷ 119 ∷ 40 ∷ 117 ∷ 110 ∷ 99 ∷ 111 ∷ 110 ∷ 100 ∷ 105 ∷ 116 ∷ 105 ∷ 111 ∷ 110 ∷ 97 ∷ 108 ∷ 95 ∷ 112 ∷ 97 ∷ 110 ∷ 105 ∷ 99 ∷ 44 ∷ 32 ∷ 97 ∷ 114 ∷ 105 ∷ 116 ∷ 104 ∷ 109 ∷ 101 ∷ 116 ∷ 105 ∷ 99 ∷ 95 ∷ 111 ∷ 118 ∷ 101 ∷ 114 ∷ 102 ∷ 108 ∷ 111 ∷ 119 ∷ 41 ∷ 93 ∷ b) (Mark (codes "#") ∷ Mark (codes "!") ∷ Mark (codes "[") ∷ Word (codes "allow") ∷ Mark (codes "(") ∷ Word (codes "unconditional_panic") ∷ Mark (codes ",") ∷ Word (codes "arithmetic_overflow") ∷ Mark (codes ")") ∷ Mark (codes "]") ∷ bs)
l_allow {n} {b} {bs} good = record { on = λ t us h r. (hash (bang refl (open_bracket (word_reads (codes "allow") (40 ∷ 117 ∷ 110 ∷ 99 ∷ 111 ∷ 110 ∷ 100 ∷ 105 ∷ 116 ∷ 105 ∷ 111 ∷ 110 ∷ 97 ∷ 108 ∷ 95 ∷ 112 ∷ 97 ∷ 110 ∷ 105 ∷ 99 ∷ 44 ∷ 32 ∷ 97 ∷ 114 ∷ 105 ∷ 116 ∷ 104 ∷ 109 ∷ 101 ∷ 116 ∷ 105 ∷ 99 ∷ 95 ∷ 111 ∷ 118 ∷ 101 ∷ 114 ∷ 102 ∷ 108 ∷ 111 ∷ 119 ∷ 41 ∷ 93 ∷ (b ++ t)) (Mark (codes "(") ∷ Word (codes "unconditional_panic") ∷ Mark (codes ",") ∷ Word (codes "arithmetic_overflow") ∷ Mark (codes ")") ∷ Mark (codes "]") ∷ (bs ++ us)) refl refl (open_paren (word_reads (codes "unconditional_panic") (44 ∷ 32 ∷ 97 ∷ 114 ∷ 105 ∷ 116 ∷ 104 ∷ 109 ∷ 101 ∷ 116 ∷ 105 ∷ 99 ∷ 95 ∷ 111 ∷ 118 ∷ 101 ∷ 114 ∷ 102 ∷ 108 ∷ 111 ∷ 119 ∷ 41 ∷ 93 ∷ (b ++ t)) (Mark (codes ",") ∷ Word (codes "arithmetic_overflow") ∷ Mark (codes ")") ∷ Mark (codes "]") ∷ (bs ++ us)) refl refl (comma (blank (word_reads (codes "arithmetic_overflow") (41 ∷ 93 ∷ (b ++ t)) (Mark (codes ")") ∷ Mark (codes "]") ∷ (bs ++ us)) refl refl (close_paren (close_bracket (good.on t us h r)))))))))))) }

l_mod : {n : Bool} {b : Text} {bs : Toks} → Good n b bs → Good n (109 ∷ 111 ∷ 100 ∷ 32 ∷ b) (Word (codes "mod") ∷ bs)
l_mod {n} {b} {bs} good = record { on = λ t us h r. (word_reads (codes "mod") (32 ∷ (b ++ t)) ((bs ++ us)) refl refl (blank (good.on t us h r))) }

l_fn_main : {n : Bool} {b : Text} {bs : Toks} → Good n b bs → Good n (102 ∷ 110 ∷ 32 ∷ 109 ∷ 97 ∷ 105 ∷ 110 ∷ 40 ∷ 41 ∷ 32 ∷ 123 ∷ b) (Word (codes "fn") ∷ Word (codes "main") ∷ Mark (codes "(") ∷ Mark (codes ")") ∷ Mark (codes "{") ∷ bs)
l_fn_main {n} {b} {bs} good = record { on = λ t us h r. (word_reads (codes "fn") (32 ∷ 109 ∷ 97 ∷ 105 ∷ 110 ∷ 40 ∷ 41 ∷ 32 ∷ 123 ∷ (b ++ t)) (Word (codes "main") ∷ Mark (codes "(") ∷ Mark (codes ")") ∷ Mark (codes "{") ∷ (bs ++ us)) refl refl (blank (word_reads (codes "main") (40 ∷ 41 ∷ 32 ∷ 123 ∷ (b ++ t)) (Mark (codes "(") ∷ Mark (codes ")") ∷ Mark (codes "{") ∷ (bs ++ us)) refl refl (open_paren (close_paren (blank (open_brace (good.on t us h r)))))))) }

l_unsafe_brace : {n : Bool} {b : Text} {bs : Toks} → Good n b bs → Good n (117 ∷ 110 ∷ 115 ∷ 97 ∷ 102 ∷ 101 ∷ 32 ∷ 123 ∷ b) (Word (codes "unsafe") ∷ Mark (codes "{") ∷ bs)
l_unsafe_brace {n} {b} {bs} good = record { on = λ t us h r. (word_reads (codes "unsafe") (32 ∷ 123 ∷ (b ++ t)) (Mark (codes "{") ∷ (bs ++ us)) refl refl (blank (open_brace (good.on t us h r)))) }

l_init_end : {n : Bool} {b : Text} {bs : Toks} → Good n b bs → Good n (58 ∷ 58 ∷ 114 ∷ 117 ∷ 110 ∷ 95 ∷ 115 ∷ 116 ∷ 97 ∷ 116 ∷ 105 ∷ 99 ∷ 95 ∷ 105 ∷ 110 ∷ 105 ∷ 116 ∷ 105 ∷ 97 ∷ 108 ∷ 105 ∷ 122 ∷ 101 ∷ 114 ∷ 115 ∷ 40 ∷ 41 ∷ 59 ∷ b) (Mark (codes "::") ∷ Word (codes "run_static_initializers") ∷ Mark (codes "(") ∷ Mark (codes ")") ∷ Mark (codes ";") ∷ bs)
l_init_end {n} {b} {bs} good = record { on = λ t us h r. (path_mark (word_reads (codes "run_static_initializers") (40 ∷ 41 ∷ 59 ∷ (b ++ t)) (Mark (codes "(") ∷ Mark (codes ")") ∷ Mark (codes ";") ∷ (bs ++ us)) refl refl (open_paren (close_paren (semicolon (good.on t us h r)))))) }

l_exit : {n : Bool} {b : Text} {bs : Toks} → Good n b bs → Good n (115 ∷ 116 ∷ 100 ∷ 58 ∷ 58 ∷ 112 ∷ 114 ∷ 111 ∷ 99 ∷ 101 ∷ 115 ∷ 115 ∷ 58 ∷ 58 ∷ 101 ∷ 120 ∷ 105 ∷ 116 ∷ 40 ∷ 99 ∷ 114 ∷ 97 ∷ 116 ∷ 101 ∷ 58 ∷ 58 ∷ b) (Word (codes "std") ∷ Mark (codes "::") ∷ Word (codes "process") ∷ Mark (codes "::") ∷ Word (codes "exit") ∷ Mark (codes "(") ∷ Word (codes "crate") ∷ Mark (codes "::") ∷ bs)
l_exit {n} {b} {bs} good = record { on = λ t us h r. (word_reads (codes "std") (58 ∷ 58 ∷ 112 ∷ 114 ∷ 111 ∷ 99 ∷ 101 ∷ 115 ∷ 115 ∷ 58 ∷ 58 ∷ 101 ∷ 120 ∷ 105 ∷ 116 ∷ 40 ∷ 99 ∷ 114 ∷ 97 ∷ 116 ∷ 101 ∷ 58 ∷ 58 ∷ (b ++ t)) (Mark (codes "::") ∷ Word (codes "process") ∷ Mark (codes "::") ∷ Word (codes "exit") ∷ Mark (codes "(") ∷ Word (codes "crate") ∷ Mark (codes "::") ∷ (bs ++ us)) refl refl (path_mark (word_reads (codes "process") (58 ∷ 58 ∷ 101 ∷ 120 ∷ 105 ∷ 116 ∷ 40 ∷ 99 ∷ 114 ∷ 97 ∷ 116 ∷ 101 ∷ 58 ∷ 58 ∷ (b ++ t)) (Mark (codes "::") ∷ Word (codes "exit") ∷ Mark (codes "(") ∷ Word (codes "crate") ∷ Mark (codes "::") ∷ (bs ++ us)) refl refl (path_mark (word_reads (codes "exit") (40 ∷ 99 ∷ 114 ∷ 97 ∷ 116 ∷ 101 ∷ 58 ∷ 58 ∷ (b ++ t)) (Mark (codes "(") ∷ Word (codes "crate") ∷ Mark (codes "::") ∷ (bs ++ us)) refl refl (open_paren (word_reads (codes "crate") (58 ∷ 58 ∷ (b ++ t)) (Mark (codes "::") ∷ (bs ++ us)) refl refl (path_mark (good.on t us h r))))))))) }

l_exit_end : {n : Bool} {b : Text} {bs : Toks} → Good n b bs → Good n (58 ∷ 58 ∷ 109 ∷ 97 ∷ 105 ∷ 110 ∷ 95 ∷ 48 ∷ 40 ∷ 41 ∷ 41 ∷ 59 ∷ b) (Mark (codes "::") ∷ Word (codes "main_0") ∷ Mark (codes "(") ∷ Mark (codes ")") ∷ Mark (codes ")") ∷ Mark (codes ";") ∷ bs)
l_exit_end {n} {b} {bs} good = record { on = λ t us h r. (path_mark (word_reads (codes "main_0") (40 ∷ 41 ∷ 41 ∷ 59 ∷ (b ++ t)) (Mark (codes "(") ∷ Mark (codes ")") ∷ Mark (codes ")") ∷ Mark (codes ";") ∷ (bs ++ us)) refl refl (open_paren (close_paren (close_paren (semicolon (good.on t us h r))))))) }

-- ---- lines

plain_good : (x : Text) → is_module_name x ≡ true → Good true x (Word x ∷ [])
plain_good x v = record { on = λ t us s r. plain_reads x t us (and_parts (is_plain_identifier x) (not (bytes_eq x (codes "main"))) v).0 (mild_of t (s refl)) r }

declared_good : (names : List Text) → list_all is_module_name names ≡ true → LinesGood (map declaration_line names) (declared names)
declared_good [] v = no_lines
declared_good (x ∷ xs) v =
    let parts = and_parts (is_module_name x) (list_all is_module_name xs) v in
    cons_line 0 (loosen (l_mod (soft_then (plain_good x parts.0) (l_end nothing) (λ t s. refl)))) (declared_good xs parts.1)

begun_good : (names : List Text) → list_all is_module_name names ≡ true → LinesGood (map initialiser_line names) (begun names)
unfolding initialiser_of
begun_good [] v = no_lines
begun_good (x ∷ xs) v =
    let parts = and_parts (is_module_name x) (list_all is_module_name xs) v in
    cons_line 2 (loosen (l_crate (soft_then (plain_good x parts.0) (l_init_end nothing) (λ t s. refl)))) (begun_good xs parts.1)

main_good : (names : List Text) (entry : Text) → list_all is_module_name names ≡ true → is_module_name entry ≡ true → LinesGood (main_of names entry) (main_tokens names entry)
unfolding allow_line exit_of
main_good names entry v w =
    cons_line 0 (loosen (l_allow nothing)) (lines_then (declared_good names v) (cons_line 0 (loosen (l_fn_main nothing)) (cons_line 1 (loosen (l_unsafe_brace nothing))
    (lines_then (begun_good names v) (cons_line 2 (loosen (l_exit (soft_then (plain_good entry w) (l_exit_end nothing) (λ t s. refl)))) (cons_line 1 (loosen (l_brace nothing)) (one_line 0 (loosen (l_brace nothing)))))))))

pub main_spelled : (names : List Text) (entry : Text) → list_all is_module_name names ≡ true → is_module_name entry ≡ true →
    tokens_in (text_of_lines (main_of names entry)) ≡ Some (main_tokens names entry)
main_spelled names entry v w =
    let lines : LinesGood (main_of names entry) (main_tokens names entry) = main_good names entry v w in
    let r : Reads (text_of_lines (main_of names entry) ++ []) (main_tokens names entry ++ []) = lines.good.on [] [] (λ e. let k : false ≡ true = e in cc) reads_nil in
    plain_tokens (tokens_in (text_of_lines (main_of names entry))) (main_tokens names entry) (main_plain names entry)
    (subst (λ (l : Text). both_fit (tokens_in l) (Some (main_tokens names entry)) ≡ true) (append-nil (text_of_lines (main_of names entry)))
    (subst (λ (l : Toks). both_fit (tokens_in (text_of_lines (main_of names entry) ++ [])) (Some l) ≡ true) (append-nil (main_tokens names entry)) r.fit))
