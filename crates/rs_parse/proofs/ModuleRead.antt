-- What is read from a module's text.
use Rattle.std.proofs.Common.{◌≡◌, ℕ, true, false, ◌&&◌, List, [], ◌∷◌, Option, Some, None, refl, sym, ap, subst, ◌∙◌, Result, Err}
use Rattle.std.specs.Cmp.Lexicographic.{same_text}
use Rattle.std.proofs.lemmas.Bool.{and_parts}
use Rattle.rs_item.specs.Items.{items}
use Rattle.rs_lex.specs.Closed.{closed_in}
use Rattle.rs_lex.specs.declared.lexer.LexFault.{LexFault}
use Rattle.rs_lex.specs.declared.lexer.LexFault.TheVariants.{NotTokens}
use Rattle.rs_lex.specs.declared.token.Token.{Token}
use Rattle.rs_lex.specs.Lexed.{IsLexed}
use Rattle.rs_lex.specs.Same.{same_token, same_tokens}
use Rattle.rs_text.specs.Lines.{module_lines, text_of_lines}
use Rattle.rs_text.specs.Tokens.{RToken, Word, Label, Quoted, Mark, Close}
use Rattle.rs_text.specs.Tree.{ModuleTree, ItemTree}
use Rattle.rs_text.specs.Valid.{valid_items}
use Rattle.rs_tree.specs.declared.item.Module.{Module}
use Rattle.rs_tree.specs.Views.{module_view}
use Rattle.rs_parse.specs.Module.{tokens_of, IsModule, are_theirs}
use Rattle.rs_parse.proofs.CutFits.{some_same, spells_closed}
use Rattle.rs_parse.proofs.Lexing.{Text, Toks, same_self}
use Rattle.rs_parse.proofs.ModuleLaws.{modules_are_read, texts_are_closed, module_texts_spell}

same_is : (t u : RToken) → same_token t u ≡ true → t ≡ u
same_is (Word x) (Word y) h = ap Word (same_text x y (sym h))
same_is (Label x) (Label y) h = ap Label (same_text x y (sym h))
same_is (Quoted x) (Quoted y) h = ap Quoted (same_text x y (sym h))
same_is (Mark x) (Mark y) h = ap Mark (same_text x y (sym h))
same_is Close Close h = refl
same_is _ _ h = cc

pub all_same : (ts us : Toks) → same_tokens ts us ≡ true → ts ≡ us
all_same [] [] h = refl
all_same [] (u ∷ us) h = cc
all_same (t ∷ ts) [] h = cc
all_same (t ∷ ts) (u ∷ us) h =
    let parts = and_parts (same_token t u) (same_tokens ts us) h in ap (λ k. k ∷ ts) (same_is t u parts.0) ∙ ap (λ l. u ∷ l) (all_same ts us parts.1)

one_self : (t : RToken) → same_token t t ≡ true
one_self (Word x) = same_self x
one_self (Label x) = same_self x
one_self (Quoted x) = same_self x
one_self (Mark x) = same_self x
one_self Close = refl

pub all_self : (ts : Toks) → same_tokens ts ts ≡ true
all_self [] = refl
all_self (t ∷ ts) = ap (λ b. b && same_tokens ts ts) (one_self t) ∙ all_self ts

abbrev unit_of : List ItemTree → ModuleTree
unit_of list = record { name = []; items = list }

spelled_closed : (text : Text) (list : List ItemTree) → IsModule text list → closed_in text ≡ Some (tokens_of list)
spelled_closed text list m = texts_are_closed (unit_of list) text m.valid m.spelled

pub no_tokens : (text : Text) (list : List ItemTree) → closed_in text ≡ None → IsModule text list → ⊥
no_tokens text list h m = let e = spelled_closed text list m in cc

pub found : (text : Text) (ts : Toks) (list : List ItemTree) → closed_in text ≡ Some ts → are_theirs ts list ≡ true → IsModule text list
found text ts list h a =
    let parts = and_parts (valid_items list) (same_tokens ts (tokens_of list)) a in
    record { valid = parts.0; spelled = spells_closed text (tokens_of list) (h ∙ ap Some (all_same ts (tokens_of list) parts.1)) }

theirs : (ts : Toks) (list : List ItemTree) → valid_items list ≡ true → ts ≡ tokens_of list → are_theirs ts list ≡ true
theirs ts list v e = subst (λ (l : Toks). are_theirs l list ≡ true) (sym e) (ap (λ b. b && same_tokens (tokens_of list) (tokens_of list)) v ∙ all_self (tokens_of list))

pub refused : (text : Text) (ts : Toks) (list other : List ItemTree) → closed_in text ≡ Some ts → list ≡ items ts → are_theirs ts list ≡ false →
    IsModule text other → ⊥
refused text ts list other h r a m =
    let e : ts ≡ tokens_of other = some_same (sym h ∙ spelled_closed text other m) in
    let o : list ≡ other = r ∙ ap items e ∙ modules_are_read (unit_of other) m.valid in
    let t : are_theirs ts list ≡ true = subst (λ (l : List ItemTree). are_theirs ts l ≡ true) (sym o) (theirs ts other m.valid e) in
    cc

pub printed_closed : (unit : Module) → valid_items (module_view unit).items ≡ true →
    closed_in (text_of_lines (module_lines (module_view unit))) ≡ Some (tokens_of (module_view unit).items)
printed_closed unit v = texts_are_closed (module_view unit) (text_of_lines (module_lines (module_view unit))) v (module_texts_spell (module_view unit) v)

lexed_none : (o : Option Toks) (result : Result (List Token) LexFault) (line : ℕ) → IsLexed o result → result ≡ Err (NotTokens line) → o ≡ None
lexed_none o result line h e = subst (λ (r : Result (List Token) LexFault). IsLexed o r) e h

pub not_refused : (text : Text) (result : Result (List Token) LexFault) (unit : Module) (line : ℕ) → valid_items (module_view unit).items ≡ true →
    text ≡ text_of_lines (module_lines (module_view unit)) → IsLexed (closed_in text) result → result ≡ Err (NotTokens line) → ⊥
not_refused text result unit line v e h r =
    let n = lexed_none (closed_in text) result line h r in
    let p : closed_in text ≡ Some (tokens_of (module_view unit).items) = ap closed_in e ∙ printed_closed unit v in
    cc
