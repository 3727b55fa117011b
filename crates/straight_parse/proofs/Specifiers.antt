-- Specifiers, in both directions.
use Rattle.std.proofs.Common.{◌≡◌, ℕ, zero, suc, ◌<◌, ◌≤◌, true, false, Option, Some, None, List, [], ◌∷◌, ◌++◌, length, map, fold, refl, sym, ap, ◌∙◌, subst, arith, append_assoc, append-nil}
use Rattle.cx_lex.specs.declared.token.Keyword.{Keyword}
use Rattle.cx_lex.specs.declared.token.Keyword.TheVariants as keywords
use Rattle.cx_lex.specs.declared.token.Token.{Token}
use Rattle.cx_lex.specs.declared.token.TokenKind.TheVariants as kind
use Rattle.straight_parse.specs.Declarators.{spec_of, spec_or_refuse, spec, SpecsRead, specs_read, with_spec, stops_specs, specs_of, some_specs, specs}
use Rattle.straight_parse.specs.Lists.{many_ahead, taking}
use Rattle.straight_parse.specs.Reading.{State}
use Rattle.straight_parse.specs.Sights.{sight, keyword}
use Rattle.straight_parse.proofs.Commas.{no_longer}
use Rattle.straight_parse.proofs.Many.{Each, Items, many_sound, many_reads}
use Rattle.straight_parse.proofs.Readers.{bind_some, bind_elim, same_answer, none_some, token, keyword_front, keyword_reads}
use Rattle.straight_tree.specs.Tokens.{joined, spec_keyword, specs_tokens}
use Rattle.straight_tree.specs.Trees.{SpecTree, SpecTrees, no_specs, more_specs, SpecsTree, Specs, Int, Void}
use Rattle.straight_tree.specs.Valid.{IsValidSpecs, specs_count}
use Rattle.straight_tree.specs.Views.{specs_list}

-- a specifier and its line
abbrev pub Spelled : Type 0
Spelled = SpecTree × ℕ

abbrev tokens_of : Spelled → List Token
tokens_of s = token (kind.Key (spec_keyword s.0)) s.1 ∷ []

abbrev Any : Spelled → Type 0
Any s = Unit {0}

abbrev trees_of : List Spelled → List SpecTree
trees_of [] = []
trees_of (s ∷ ss) = s.0 ∷ trees_of ss

abbrev lines_of : List Spelled → List ℕ
lines_of [] = []
lines_of (s ∷ ss) = s.1 ∷ lines_of ss

abbrev tree_of : List Spelled → SpecsTree
tree_of ss = Specs (specs_list (trees_of ss)) (lines_of ss)

spelled_tokens : (ss : List Spelled) → joined (map tokens_of ss) ≡ specs_tokens (tree_of ss)
spelled_tokens [] = refl
spelled_tokens (s ∷ ss) = ap (λ (ts : List Token). token (kind.Key (spec_keyword s.0)) s.1 ∷ ts) (spelled_tokens ss)

spelled_count : (ss : List Spelled) → specs_count (specs_list (trees_of ss)) ≡ length (lines_of ss)
spelled_count [] = refl
spelled_count (s ∷ ss) = ap suc (spelled_count ss)

same_specs : (a b : List SpecTree) (ls ks : List ℕ) → a ≡ b → ls ≡ ks → specs_read a ls ≡ specs_read b ks
same_specs a b ls ks e f = λ i. specs_read (e i) (f i)

fold_specs : (ss : List Spelled) (all : SpecsRead) → fold with_spec all ss ≡ specs_read (all.list ++ trees_of ss) (all.lines ++ lines_of ss)
fold_specs [] all = same_specs all.list (all.list ++ []) all.lines (all.lines ++ []) (sym (append-nil all.list)) (sym (append-nil all.lines))
fold_specs (s ∷ ss) all =
    fold_specs ss (with_spec all s)
    ∙ same_specs _ _ _ _ (append_assoc all.list (s.0 ∷ []) (trees_of ss)) (append_assoc all.lines (s.1 ∷ []) (lines_of ss))

-- ---- what was read stands in front

spec_of_keyword : (k : Keyword) (s : SpecTree) → spec_of k ≡ Some s → spec_keyword s ≡ k
spec_of_keyword keywords.Int s e = let same : Int ≡ s = cc in ap spec_keyword (sym same)
spec_of_keyword keywords.Void s e = let same : Void ≡ s = cc in ap spec_keyword (sym same)
spec_of_keyword _ s e = none_some _ _ e

spec_found : (k : Keyword) (line : ℕ) (state mid : State) (found : Option SpecTree) (a : Spelled) (after : State) → state ≡ token (kind.Key k) line ∷ mid → spec_of k ≡ found
    → spec_or_refuse found line mid ≡ Some (a, after) → (state ≡ tokens_of a ++ after) × Any a
spec_found k line state mid None a after front is e = none_some _ _ e
spec_found k line state mid (Some s) a after front is e =
    same_answer (λ a after. (state ≡ tokens_of a ++ after) × Any a) (s, line) mid a after e
    (front ∙ ap (λ (k : Keyword). token (kind.Key k) line ∷ mid) (sym (spec_of_keyword k s is)), tt)

spec_sound : (state : State) (a : Spelled) (after : State) → spec state ≡ Some (a, after) → (state ≡ tokens_of a ++ after) × Any a
unfolding spec
spec_sound state a after h =
    bind_elim _ keyword _ state a after h (λ k mid e rest.
    spec_found k.0 k.1 state mid (spec_of k.0) a after (keyword_front state k mid e) refl rest)

pub record SpecsStand (state : State) (tree : SpecsTree) (after : State) : Type 0 where
  pub spelled : state ≡ specs_tokens tree ++ after
  pub valid : IsValidSpecs tree

specs_stand : (state mid : State) (first : Spelled) (all : SpecsRead) (after : State) → state ≡ tokens_of first ++ mid
    → Items Any tokens_of with_spec stops_specs (with_spec (specs_read [] []) first) mid all after → SpecsStand state (specs_of all) after
specs_stand state mid first all after front items =
    let ss = items.items in
    let made : all ≡ specs_read (trees_of (first ∷ ss)) (lines_of (first ∷ ss)) = items.taken ∙ fold_specs ss (with_spec (specs_read [] []) first) in
    let P : SpecsRead → Type 0 = λ all. SpecsStand state (specs_of all) after in
    subst P (sym made) (record {
      spelled = front ∙ ap (λ (s : State). tokens_of first ++ s) (items.spelled ∙ ap (λ (ts : List Token). ts ++ after) (spelled_tokens ss));
      valid = (omega arith, sym (spelled_count (first ∷ ss)));
    })

some_specs_sound : (state : State) (tree : SpecsTree) (after : State) → some_specs state ≡ Some (tree, after) → SpecsStand state tree after
unfolding some_specs taking many_ahead
some_specs_sound state tree after h =
    bind_elim _ (taking spec with_spec (specs_read [] [])) _ state tree after h (λ one s1 e1 k1.
    bind_elim _ (many_ahead stops_specs (taking spec with_spec) one) _ s1 tree after k1 (λ all s2 e2 k2.
    bind_elim _ spec _ state one s1 e1 (λ first mid e same.
    let P : SpecsRead → State → Type 0 = λ one s1. many_ahead stops_specs (taking spec with_spec) one s1 ≡ Some (all, s2) → SpecsStand state (specs_of all) s2 in
    same_answer (SpecsStand state) (specs_of all) s2 tree after k2
    (same_answer P (with_spec (specs_read [] []) first) mid one s1 same
    (λ read. specs_stand state mid first all s2 (spec_sound state first mid e).0
    (many_sound Any tokens_of with_spec stops_specs spec spec_sound (suc (length mid)) (with_spec (specs_read [] []) first) mid all s2 read)) e2))))

pub specs_sound : (depth : ℕ) (state : State) (tree : SpecsTree) (after : State) → specs depth state ≡ Some (tree, after) → SpecsStand state tree after × (1 ≤ depth)
unfolding specs
specs_sound zero state tree after h = none_some _ _ h
specs_sound (suc depth) state tree after h = (some_specs_sound state tree after h, omega arith)

-- ---- what stands in front is read

spec_reads : (s : Spelled) (behind : State) → spec (tokens_of s ++ behind) ≡ Some (s, behind)
unfolding spec
spec_reads (Int, line) behind = bind_some keyword _ (token (kind.Key keywords.Int) line ∷ behind) (keywords.Int, line) behind (keyword_reads keywords.Int line behind)
spec_reads (Void, line) behind = bind_some keyword _ (token (kind.Key keywords.Void) line ∷ behind) (keywords.Void, line) behind (keyword_reads keywords.Void line behind)

spec_begins : (s : Spelled) (behind : State) → stops_specs (sight (tokens_of s ++ behind)) ≡ false
spec_begins (Int, line) behind = refl
spec_begins (Void, line) behind = refl

record Listed (list : SpecTrees) (lines : List ℕ) : Type 0 where
  spelled : List Spelled
  list_is : specs_list (trees_of spelled) ≡ list
  lines_is : lines_of spelled ≡ lines

listed : (list : SpecTrees) (lines : List ℕ) → length lines ≡ specs_count list → Listed list lines
listed no_specs [] e = record { spelled = []; list_is = refl; lines_is = refl }
listed no_specs (l ∷ lines) e = absurd (omega arith)
listed (more_specs s ss) [] e = absurd (omega arith)
listed (more_specs s ss) (l ∷ lines) e =
    let rest = listed ss lines (omega arith) in
    record {
      spelled = (s, l) ∷ rest.spelled;
      list_is = ap (λ (ss : SpecTrees). more_specs s ss) rest.list_is;
      lines_is = ap (λ (ls : List ℕ). l ∷ ls) rest.lines_is;
    }

each_any : (ss : List Spelled) → Each Any ss
each_any [] = tt
each_any (s ∷ ss) = (tt, each_any ss)

spelled_reads : (first : Spelled) (ss : List Spelled) (rest : State) → stops_specs (sight rest) ≡ true
    → some_specs (specs_tokens (tree_of (first ∷ ss)) ++ rest) ≡ Some (tree_of (first ∷ ss), rest)
unfolding some_specs taking many_ahead
spelled_reads first ss rest stop =
    let mid : State = joined (map tokens_of ss) ++ rest in
    let one = with_spec (specs_read [] []) first in
    ap (λ (ts : List Token). some_specs (tokens_of first ++ (ts ++ rest))) (sym (spelled_tokens ss))
    ∙ bind_some (taking spec with_spec (specs_read [] [])) _ (tokens_of first ++ mid) one mid
    (bind_some spec _ (tokens_of first ++ mid) first mid (spec_reads first mid))
    ∙ bind_some (many_ahead stops_specs (taking spec with_spec) one) _ mid (fold with_spec one ss) rest
    (many_reads Any tokens_of with_spec stops_specs spec (λ s. Unit {0}) (λ s behind good. spec_begins s behind) (λ s behind good. tt) (λ s behind good follows. spec_reads s behind)
    ss (suc (length mid)) one rest (omega (arith, no_longer tokens_of (λ s. omega arith) ss rest)) (each_any ss) tt stop)
    ∙ ap (λ (all : SpecsRead). Some (specs_of all, rest)) (fold_specs ss one)

listed_reads : (spelled : List Spelled) (rest : State) → 0 < length (lines_of spelled) → stops_specs (sight rest) ≡ true
    → some_specs (specs_tokens (tree_of spelled) ++ rest) ≡ Some (tree_of spelled, rest)
listed_reads [] rest some stop = absurd (omega arith)
listed_reads (s ∷ ss) rest some stop = spelled_reads s ss rest stop

tree_is : (list : SpecTrees) (lines : List ℕ) (l : Listed list lines) → tree_of l.spelled ≡ Specs list lines
tree_is list lines l = λ i. Specs (l.list_is i) (l.lines_is i)

some_specs_reads : (list : SpecTrees) (lines : List ℕ) (rest : State) → IsValidSpecs (Specs list lines) → stops_specs (sight rest) ≡ true
    → some_specs (specs_tokens (Specs list lines) ++ rest) ≡ Some (Specs list lines, rest)
some_specs_reads list lines rest valid stop =
    let l = listed list lines valid.1 in
    let some : 0 < length (lines_of l.spelled) = let a = ap length l.lines_is in omega (arith, a, valid.0, valid.1) in
    let P : SpecsTree → Type 0 = λ tree. some_specs (specs_tokens tree ++ rest) ≡ Some (tree, rest) in
    subst P (tree_is list lines l) (listed_reads l.spelled rest some stop)

pub specs_reads : (depth : ℕ) (tree : SpecsTree) (rest : State) → 1 ≤ depth → IsValidSpecs tree → stops_specs (sight rest) ≡ true
    → specs depth (specs_tokens tree ++ rest) ≡ Some (tree, rest)
unfolding specs
specs_reads zero tree rest some valid stop = absurd (omega arith)
specs_reads (suc depth) (Specs list lines) rest some valid stop = some_specs_reads list lines rest valid stop
