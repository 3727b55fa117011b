-- What is read of `Cargo.toml`.
use Rattle.std.proofs.Common.{◌≡◌, ℕ, suc, ◌+◌, ◌≤◌, Bool, true, false, not, ◌&&◌, nat_eq, List, [], ◌∷◌, map, length, take, drop, get_or, Option, Some, None, option_map, Bor, refl, sym, ap, subst, ◌∙◌, arith, Result, Ok, Err, IsTrue, ◌↔◌, if◌then◌else◌}
use Rattle.std.specs.List.{list_all}
use Rattle.std.proofs.lemmas.Bool.{and_parts}
use Rattle.std.proofs.lemmas.List.{drop-drop}
use Rattle.rs_lex.specs.Closed.{closed, closed_in}
use Rattle.rs_lex.specs.declared.lexer.LexFault.{LexFault}
use Rattle.rs_lex.specs.declared.lexer.LexFault.TheVariants.{NotTokens}
use Rattle.rs_lex.specs.Lexed.{IsLexed}
use Rattle.rs_lex.specs.Same.{same_tokens}
use Rattle.rs_lex.specs.Views.{tokens_view}
use Rattle.rs_lex.specs.declared.token.Token.{Token}
use Rattle.rs_parse.specs.Cargo.{line_size, is_still, are_still, is_still_line, behind_line, left_behind}
use Rattle.rs_parse.proofs.CutFits.{some_same, spells_closed}
use Rattle.rs_parse.proofs.Lexing.{Text, Toks}
use Rattle.rs_parse.proofs.MainText.{plain_tokens}
use Rattle.rs_parse.proofs.ModuleRead.{all_same, all_self}
use Rattle.rs_parse.proofs.Still.{still_closed, still_plain}
use Rattle.rs_text.specs.declared.line.Line.{Line}
use Rattle.rs_text.specs.Lines.{cargo_lines}
use Rattle.rs_text.specs.Reads.{both_fit, spells, spells_as, lines_in, onto, spells_next, spells_lines}
use Rattle.rs_text.specs.Tokens.{marks, tokens_in}

pub cargo_still : list_all is_still_line cargo_lines ≡ true
unfolding cargo_lines marks
cargo_still = refl

-- ---- one line

same_bools : (a b : Bool) → (a ≡ true → b ≡ true) → (b ≡ true → a ≡ true) → a ≡ b
same_bools true b f g = sym (f refl)
same_bools false true f g = g refl
same_bools false false f g = refl

still_same : (text : Text) (ts ls : Toks) → list_all is_still ls ≡ true → closed_in text ≡ Some ts → same_tokens ts ls ≡ both_fit (tokens_in text) (Some ls)
still_same text ts ls s h = same_bools (same_tokens ts ls) (both_fit (tokens_in text) (Some ls))
    (λ a. spells_closed text ls (h ∙ ap Some (all_same ts ls a)))
    (λ b. let told : tokens_in text ≡ Some ls = plain_tokens (tokens_in text) ls (still_plain ls s) b in
    let same : ts ≡ ls = some_same (sym h ∙ still_closed text ls s told) in
    ap (λ (l : Toks). same_tokens l ls) same ∙ all_self ls)

line_by : (o : Option Toks) (text line : Text) (ts us : Toks) → tokens_in line ≡ o → are_still o ≡ true → closed_in text ≡ Some ts → closed_in line ≡ Some us →
    same_tokens ts us ≡ spells_as text line
line_by None text line ts us e s h g = cc
line_by (Some ls) text line ts us e s h g =
    let same : us ≡ ls = some_same (sym g ∙ still_closed line ls s e) in
    ap (λ (l : Toks). same_tokens ts l) same ∙ still_same text ts ls s h ∙ ap (λ (p : Option Toks). both_fit (tokens_in text) p) (sym e)

pub line_same : (text : Text) (line : Line) (ts us : Toks) → is_still_line line ≡ true → closed_in text ≡ Some ts → closed_in line.text ≡ Some us →
    same_tokens ts us ≡ spells_as text line.text
line_same text line ts us s h g = line_by (tokens_in line.text) text line.text ts us refl s h g

none_told : (o : Option Toks) → option_map closed o ≡ None → o ≡ None
none_told None h = refl
none_told (Some ts) h = cc

pub no_text : (text line : Text) → closed_in text ≡ None → false ≡ spells_as text line
no_text text line h = sym (ap (λ (o : Option Toks). both_fit o (tokens_in line)) (none_told (tokens_in text) h))

no_second : (o : Option Toks) → false ≡ both_fit o None
no_second None = refl
no_second (Some ts) = refl

pub no_line : (text line : Text) → closed_in line ≡ None → false ≡ spells_as text line
no_line text line h = no_second (tokens_in text) ∙ ap (λ (o : Option Toks). both_fit (tokens_in text) o) (sym (none_told (tokens_in line) h))

pub no_tokens : (text : Text) → closed_in text ≡ None → false ≡ spells text []
no_tokens text h = sym (ap (λ (o : Option Toks). both_fit o (Some [])) (none_told (tokens_in text) h))

empty_is : (is : Bool) (tokens : List Token) → (IsTrue is ↔ (tokens ≡ [])) → is ≡ same_tokens (tokens_view tokens) []
empty_is is [] h = h.1 refl
empty_is true (t ∷ ts) h = let e = h.0 refl in cc
empty_is false (t ∷ ts) h = refl

pub is_no_token : (text : Text) (is : Bool) (tokens : List Token) → closed_in text ≡ Some (tokens_view tokens) → (IsTrue is ↔ (tokens ≡ [])) → is ≡ spells text []
is_no_token text is tokens h e = empty_is is tokens e ∙ still_same text (tokens_view tokens) [] refl h

-- ---- the lines of a text

abbrev lines_behind : Text → List Text
lines_behind [] = []
lines_behind (byte ∷ rest) = lines_in rest

first_by : (b : Bool) (byte size : ℕ) (rest : Text) → size ≡ suc (line_size rest) → lines_in rest ≡ take (line_size rest) rest ∷ lines_behind (drop (line_size rest) rest) →
    (if b then [] ∷ lines_in rest else onto byte (lines_in rest))
    ≡ take (if not b then size else 0) (byte ∷ rest) ∷ lines_behind (drop (if not b then size else 0) (byte ∷ rest))
first_by true byte size rest e h = refl
first_by false byte size rest e h = ap (λ l. onto byte l) h ∙ ap (λ n. take n (byte ∷ rest) ∷ lines_behind (drop n (byte ∷ rest))) (sym e)

first_line : (text : Text) → lines_in text ≡ take (line_size text) text ∷ lines_behind (drop (line_size text) text)
first_line [] = refl
first_line (byte ∷ rest) = let e : 1 + line_size rest ≡ suc (line_size rest) = omega arith in first_by (nat_eq byte 10) byte (1 + line_size rest) rest e (first_line rest)

abbrev texts : List Line → List Text
texts lines = map (λ line. line.text) lines

behind_lines : (text : Text) (lines : List Line) → spells_lines (lines_behind text) (texts lines) ≡ spells_lines (lines_in (drop 1 text)) (texts lines)
behind_lines [] [] = refl
behind_lines [] (line ∷ lines) = refl
behind_lines (byte ∷ rest) lines = refl

-- what is said of the lines that are left
abbrev goes : Option (List Line) → List Text → Bool
goes None others = false
goes (Some lines) others = spells_lines others (texts lines)

goes_on : (left : Option (List Line)) (text : Text) → goes left (lines_behind text) ≡ goes left (lines_in (drop 1 text))
goes_on None text = refl
goes_on (Some lines) text = behind_lines text lines

lines_same : (lines others : List Line) → Some lines ≡ Some others → lines ≡ others
lines_same lines others h = cc

next_by : (b : Bool) (l : List Line) (others : List Text) → (b && spells_lines others (texts l)) ≡ goes (if b then Some l else None) others
next_by true l others = refl
next_by false l others = refl

next_is : (text : Text) (lines : List Line) (others : List Text) → spells_next text (texts lines) (spells_lines others) ≡ goes (behind_line text lines) others
next_is text [] others = refl
next_is text (line ∷ lines) others = next_by (spells_as text line.text) lines others

line_goes : (b : Bool) (text : Text) (lines : List Line) (others : List Text) →
    (if b then spells_lines others (texts lines) else spells_next text (texts lines) (spells_lines others)) ≡ goes (if b then Some lines else behind_line text lines) others
line_goes true text lines others = refl
line_goes false text lines others = next_is text lines others

pub line_taken : (text : Text) (lines : List Line) (size : ℕ) → size ≡ line_size text →
    spells_lines (lines_in text) (texts lines) ≡ goes (left_behind (take size text) lines) (lines_in (drop (size + 1) text))
line_taken text lines size e =
    let first : spells_lines (lines_in text) (texts lines) ≡ spells_lines (take (line_size text) text ∷ lines_behind (drop (line_size text) text)) (texts lines) =
    ap (λ (l : List Text). spells_lines l (texts lines)) (first_line text) in
    let line : Text = take (line_size text) text in
    let others : List Text = lines_behind (drop (line_size text) text) in
    let taken : spells_lines (line ∷ others) (texts lines) ≡ goes (left_behind line lines) others = line_goes (spells line []) line lines others in
    first ∙ taken ∙ goes_on (left_behind line lines) (drop (line_size text) text)
    ∙ ap (λ (l : Text). goes (left_behind line lines) (lines_in l)) (drop-drop 1 (line_size text) text)
    ∙ ap (λ n. goes (left_behind (take n text) lines) (lines_in (drop (n + 1) text))) (sym e)

-- what is left of the printed lines is such, too
still_by : (b : Bool) (lines others : List Line) → list_all is_still_line lines ≡ true → (if b then Some lines else None) ≡ Some others → list_all is_still_line others ≡ true
still_by true lines others s h = ap (λ (l : List Line). list_all is_still_line l) (sym (lines_same lines others h)) ∙ s
still_by false lines others s h = cc

still_behind : (text : Text) (lines others : List Line) → list_all is_still_line lines ≡ true → behind_line text lines ≡ Some others → list_all is_still_line others ≡ true
still_behind text [] others s h = cc
still_behind text (line ∷ lines) others s h =
    still_by (spells_as text line.text) lines others (and_parts (is_still_line line) (list_all is_still_line lines) s).1 h

still_left_by : (b : Bool) (text : Text) (lines others : List Line) → list_all is_still_line lines ≡ true → (if b then Some lines else behind_line text lines) ≡ Some others → list_all is_still_line others ≡ true
still_left_by true text lines others s h = still_by true lines others s h
still_left_by false text lines others s h = still_behind text lines others s h

pub still_left : (text : Text) (lines others : List Line) → list_all is_still_line lines ≡ true → left_behind text lines ≡ Some others → list_all is_still_line others ≡ true
still_left text lines others s h = still_left_by (spells text []) text lines others s h

-- what is left answers for all
pub record IsLeft (text : Text) (lines : List Line) (rest : Text) (left : List Line) : Type 0 where
  pub same : spells_lines (lines_in rest) (texts left) ≡ spells_lines (lines_in text) (texts lines)
  pub still : list_all is_still_line left ≡ true

pub left_first : (text : Text) (lines : List Line) → list_all is_still_line lines ≡ true → IsLeft text lines text lines
left_first text lines s = record { same = refl; still = s }

pub left_next : (text : Text) (lines : List Line) (rest : Text) (left : List Line) (size : ℕ) (next : List Line) → IsLeft text lines rest left → size ≡ line_size rest →
    left_behind (take size rest) left ≡ Some next → IsLeft text lines (drop (size + 1) rest) next
left_next text lines rest left size next l e h = record {
  same = sym (line_taken rest left size e ∙ ap (λ (o : Option (List Line)). goes o (lines_in (drop (size + 1) rest))) h) ∙ l.same;
  still = still_left (take size rest) left next l.still h;
}

pub left_wrong : (text : Text) (lines : List Line) (rest : Text) (left : List Line) (size : ℕ) → IsLeft text lines rest left → size ≡ line_size rest →
    left_behind (take size rest) left ≡ None → false ≡ spells_lines (lines_in text) (texts lines)
left_wrong text lines rest left size l e h =
    sym (line_taken rest left size e ∙ ap (λ (o : Option (List Line)). goes o (lines_in (drop (size + 1) rest))) h) ∙ l.same

pub none_left : (text : Text) (lines : List Line) (rest : Text) (left : List Line) → IsLeft text lines rest left → rest ≡ [] → left ≡ [] → true ≡ spells_lines (lines_in text) (texts lines)
none_left text lines rest left l r e =
    sym (ap (λ (t : Text). spells_lines (lines_in t) (texts left)) r ∙ ap (λ (m : List Line). spells_lines (lines_in []) (texts m)) e) ∙ l.same

some_left_by : (left : List Line) → (left ≡ [] → ⊥) → false ≡ spells_lines (lines_in []) (texts left)
some_left_by [] h = absurd (h refl)
some_left_by (line ∷ lines) h = refl

pub some_left : (text : Text) (lines : List Line) (rest : Text) (left : List Line) → IsLeft text lines rest left → rest ≡ [] → (left ≡ [] → ⊥) → false ≡ spells_lines (lines_in text) (texts lines)
some_left text lines rest left l r h = some_left_by left h ∙ sym (ap (λ (t : Text). spells_lines (lines_in t) (texts left)) r) ∙ l.same

-- ---- what the lexer answered

pub lexed_some : (o : Option Toks) (result : Result (List Token) LexFault) (tokens : List Token) → IsLexed o result → result ≡ Ok tokens → o ≡ Some (tokens_view tokens)
lexed_some o result tokens h e = subst (λ (r : Result (List Token) LexFault). IsLexed o r) e h

pub lexed_none : (o : Option Toks) (result : Result (List Token) LexFault) (line : ℕ) → IsLexed o result → result ≡ Err (NotTokens line) → o ≡ None
lexed_none o result line h e = subst (λ (r : Result (List Token) LexFault). IsLexed o r) e h

pub first_still : (lines : List Line) (line : Line) → 1 ≤ length lines → line ≡ get_or lines 0 line → list_all is_still_line lines ≡ true → is_still_line line ≡ true
first_still [] line some e s = absurd (omega (arith, some))
first_still (first ∷ lines) line some e s = ap is_still_line e ∙ (and_parts (is_still_line first) (list_all is_still_line lines) s).0

pub none_behind : (o : Option (Bor (List Line))) (left : Option (List Line)) → option_map (λ lines. lines.now) o ≡ left → o ≡ None → left ≡ None
none_behind o left h e = sym h ∙ ap (λ (p : Option (Bor (List Line))). option_map (λ lines. lines.now) p) e

pub some_behind : (o : Option (Bor (List Line))) (left : Option (List Line)) (next : Bor (List Line)) → option_map (λ lines. lines.now) o ≡ left → o ≡ Some next → left ≡ Some next.now
some_behind o left next h e = sym h ∙ ap (λ (p : Option (Bor (List Line))). option_map (λ lines. lines.now) p) e
