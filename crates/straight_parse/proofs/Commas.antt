-- Lists with commas between their items, in both directions.
use Rattle.std.proofs.Common.{◌≡◌, ℕ, suc, ◌<◌, ◌≤◌, max, false, not, ◌⊎◌, Some, List, [], ◌∷◌, ◌++◌, length, map, fold, refl, sym, ap, ◌∙◌, arith, append_assoc, append-nil, length-append, inl, inr}
use Rattle.cx_lex.specs.declared.token.Punct.{Punct}
use Rattle.cx_lex.specs.declared.token.Punct.TheVariants.{Comma}
use Rattle.cx_lex.specs.declared.token.Token.{Token}
use Rattle.cx_lex.specs.declared.token.TokenKind.TheVariants as kind
use Rattle.straight_parse.specs.declared.sight.Sight.TheVariants as sights
use Rattle.straight_parse.specs.Lists.{ListRead, list_read, listed_none, with_item, with_next, many_ahead, stops_commas, comma_item, behind_commas}
use Rattle.straight_parse.specs.Reading.{State, Reader, bind}
use Rattle.straight_parse.specs.Sights.{sight, same_mark, mark}
use Rattle.straight_parse.proofs.Many.{Each, many_sound, many_reads}
use Rattle.straight_parse.proofs.Marks.{same_mark_refl}
use Rattle.straight_parse.proofs.Readers.{bind_some, bind_elim, same_answer, token, mark_front, mark_reads}
use Rattle.straight_tree.specs.Tokens as tree
use Rattle.straight_tree.specs.Tokens.{joined, listed}

-- an item behind a comma: the comma's line, the item and its depth
abbrev pub Next : Type 0 → Type 0
Next X = ℕ × (X × ℕ)

abbrev pub lines_of : {X : Type 0} → List (Next X) → List ℕ
lines_of [] = []
lines_of (n ∷ ns) = n.0 ∷ lines_of ns

abbrev pub items_of : {X : Type 0} → List (Next X) → List (X × ℕ)
items_of [] = []
items_of (n ∷ ns) = n.1 ∷ items_of ns

abbrev pub trees_of : {X : Type 0} → List (X × ℕ) → List X
trees_of [] = []
trees_of (i ∷ is) = i.0 ∷ trees_of is

-- the greatest depth
abbrev pub deepest : {X : Type 0} → List (X × ℕ) → ℕ
deepest [] = 0
deepest (i ∷ is) = max i.1 (deepest is)

abbrev pub next_tokens : {X : Type 0} → (X → List Token) → Next X → List Token
next_tokens tokens next = token (kind.Mark Comma) next.0 ∷ tokens next.1.0

abbrev pub parts_of : {X : Type 0} → (X → List Token) → List (X × ℕ) → List (List Token)
parts_of tokens [] = []
parts_of tokens (i ∷ is) = tokens i.0 ∷ parts_of tokens is

same_read : {X : Type 0} (a b : List X) (m n : ℕ) (ls ks : List ℕ) → a ≡ b → m ≡ n → ls ≡ ks → list_read a m ls ≡ list_read b n ks
same_read a b m n ls ks e f g = λ i. list_read (e i) (f i) (g i)

max_assoc : (a b c : ℕ) → max (max a b) c ≡ max a (max b c)
max_assoc a b c = omega arith

max_zero : (a : ℕ) → a ≡ max a 0
max_zero a = omega arith

pub fold_next : {X : Type 0} (ns : List (Next X)) (all : ListRead X)
    → fold with_next all ns ≡ list_read (all.list ++ trees_of (items_of ns)) (max all.depth (deepest (items_of ns))) (all.lines ++ lines_of ns)
fold_next [] all = same_read all.list (all.list ++ []) all.depth (max all.depth 0) all.lines (all.lines ++ []) (sym (append-nil all.list)) (max_zero all.depth) (sym (append-nil all.lines))
fold_next (n ∷ ns) all =
    fold_next ns (with_next all n)
    ∙ same_read _ _ _ _ _ _ (append_assoc all.list (n.1.0 ∷ []) (trees_of (items_of ns))) (max_assoc all.depth n.1.1 (deepest (items_of ns)))
    (append_assoc all.lines (n.0 ∷ []) (lines_of ns))

-- the tokens of the items behind the first, with the closing mark
pub closed : {X : Type 0} (tokens : X → List Token) (closing : Punct) (last : ℕ) (ns : List (Next X)) (rest : State)
    → joined (map (next_tokens tokens) ns) ++ token (kind.Mark closing) last ∷ rest
    ≡ tree.behind_commas closing (parts_of tokens (items_of ns)) (lines_of ns ++ last ∷ []) ++ rest
closed tokens closing last [] rest = refl
closed tokens closing last (n ∷ ns) rest =
    ap (λ (s : State). token (kind.Mark Comma) n.0 ∷ s)
    (append_assoc (tokens n.1.0) (joined (map (next_tokens tokens) ns)) (token (kind.Mark closing) last ∷ rest)
    ∙ ap (λ (s : State). tokens n.1.0 ++ s) (closed tokens closing last ns rest)
    ∙ sym (append_assoc (tokens n.1.0) (tree.behind_commas closing (parts_of tokens (items_of ns)) (lines_of ns ++ last ∷ [])) rest))

each_of : {X : Type 0} (Q : X × ℕ → Type 0) (ns : List (Next X)) → Each (λ n. Q n.1) ns → Each Q (items_of ns)
each_of Q [] good = tt
each_of Q (n ∷ ns) good = (good.0, each_of Q ns good.1)

as_many : {X : Type 0} (ns : List (Next X)) → length (lines_of ns) ≡ length (items_of ns)
as_many [] = refl
as_many (n ∷ ns) = ap suc (as_many ns)

-- ---- what was read stands in front

pub record CommaList {X : Type 0} (Q : X × ℕ → Type 0) (tokens : X → List Token) (front : List ℕ) (state : State) (read : ListRead X) (after : State) : Type 0 where
  pub items : List (X × ℕ)
  pub marks : List ℕ
  pub made : read ≡ list_read (trees_of items) (deepest items) (front ++ marks)
  pub count : suc (length marks) ≡ length items
  pub good : Each Q items
  pub spelled : (closing : Punct) (last : ℕ) (rest : State) → after ≡ token (kind.Mark closing) last ∷ rest
      → state ≡ listed closing (parts_of tokens items) (marks ++ last ∷ []) ++ rest

module _ {X : Type 0} (Q : X × ℕ → Type 0) (tokens : X → List Token) (item : Reader (X × ℕ))
    (sound : (state : State) (x : X × ℕ) (after : State) → item state ≡ Some (x, after) → (state ≡ tokens x.0 ++ after) × Q x) where
  next_sound : (state : State) (n : Next X) (after : State) → comma_item item state ≡ Some (n, after) → (state ≡ next_tokens tokens n ++ after) × Q n.1
  unfolding comma_item
  next_sound state n after h =
      bind_elim _ (mark Comma) _ state n after h (λ line s1 e1 k1.
      bind_elim _ item (λ a. λ s. Some ((line, a), s)) s1 n after k1 (λ x s2 e2 k2.
      let one = sound s1 x s2 e2 in
      let P : Next X → State → Type 0 = λ n after. (state ≡ next_tokens tokens n ++ after) × Q n.1 in
      same_answer P (line, x) s2 n after k2 (mark_front Comma state line s1 e1 ∙ ap (λ (s : State). token (kind.Mark Comma) line ∷ s) one.0, one.1)))

  pub commas_sound : (front : List ℕ) (state mid : State) (first : X × ℕ) (read : ListRead X) (after : State) → state ≡ tokens first.0 ++ mid → Q first
      → behind_commas item (with_item (listed_none front) first) mid ≡ Some (read, after) → CommaList Q tokens front state read after
  unfolding many_ahead
  commas_sound front state mid first read after e good h =
      let items = many_sound (λ n. Q n.1) (next_tokens tokens) with_next stops_commas (comma_item item) next_sound (suc (length mid)) (with_item (listed_none front) first) mid read after h in
      let ns = items.items in
      record {
        items = first ∷ items_of ns;
        marks = lines_of ns;
        made = items.taken ∙ fold_next ns (with_item (listed_none front) first) ∙ same_read _ _ _ _ _ _ refl (ap (λ (n : ℕ). max n (deepest (items_of ns))) (omega arith)) refl;
        count = ap suc (as_many ns);
        good = (good, each_of Q ns items.good);
        spelled = λ closing last rest end.
            e ∙ ap (λ (s : State). tokens first.0 ++ s) (items.spelled ∙ ap (λ (s : State). joined (map (next_tokens tokens) ns) ++ s) end ∙ closed tokens closing last ns rest)
            ∙ sym (append_assoc (tokens first.0) _ rest);
      }

-- ---- what stands in front is read

-- items with the lines of the commas before them, and of the closing mark
pub record Zipped {X : Type 0} (items : List (X × ℕ)) (lines : List ℕ) : Type 0 where
  pub nexts : List (Next X)
  pub last : ℕ
  pub items_is : items_of nexts ≡ items
  pub lines_is : lines_of nexts ++ last ∷ [] ≡ lines

pub zipped : {X : Type 0} (items : List (X × ℕ)) (lines : List ℕ) → length lines ≡ suc (length items) → Zipped items lines
zipped [] [] e = absurd (omega arith)
zipped [] (l ∷ []) e = record { nexts = []; last = l; items_is = refl; lines_is = refl }
zipped [] (l ∷ k ∷ lines) e = absurd (omega arith)
zipped (i ∷ items) [] e = absurd (omega arith)
zipped (i ∷ items) (l ∷ lines) e =
    let rest = zipped items lines (omega arith) in
    record {
      nexts = (l, i) ∷ rest.nexts;
      last = rest.last;
      items_is = ap (λ (is : List _). i ∷ is) rest.items_is;
      lines_is = ap (λ (ls : List ℕ). l ∷ ls) rest.lines_is;
    }

-- a comma or the closing mark stands ahead
abbrev pub Follows : Punct → State → Type 0
Follows closing state = (sight state ≡ sights.Mark Comma) ⊎ (sight state ≡ sights.Mark closing)

pub no_longer : {A : Type 0} (tokens : A → List Token) → ((a : A) → 0 < length (tokens a)) → (items : List A) (rest : State) → length items ≤ length (joined (map tokens items) ++ rest)
no_longer tokens some [] rest = omega arith
no_longer tokens some (a ∷ items) rest =
    omega (arith, no_longer tokens some items rest, some a, ap length (append_assoc (tokens a) (joined (map tokens items)) rest), length-append (tokens a) (joined (map tokens items) ++ rest))

each_next : {X : Type 0} (Q : X × ℕ → Type 0) (ns : List (Next X)) → Each Q (items_of ns) → Each (λ n. Q n.1) ns
each_next Q [] good = tt
each_next Q (n ∷ ns) good = (good.0, each_next Q ns good.1)

module _ {X : Type 0} (Q : X × ℕ → Type 0) (tokens : X → List Token) (item : Reader (X × ℕ)) (closing : Punct) (apart : same_mark closing Comma ≡ false)
    (reads : (x : X × ℕ) (behind : State) → Q x → Follows closing behind → item (tokens x.0 ++ behind) ≡ Some (x, behind)) where
  next_reads : (n : Next X) (behind : State) → Q n.1 → Follows closing behind → comma_item item (next_tokens tokens n ++ behind) ≡ Some (n, behind)
  unfolding comma_item
  next_reads n behind good follows =
      bind_some (mark Comma) (λ line. bind item (λ a. λ s. Some ((line, a), s))) (next_tokens tokens n ++ behind) n.0 (tokens n.1.0 ++ behind)
      (mark_reads Comma n.0 (tokens n.1.0 ++ behind))
      ∙ bind_some item (λ a. λ s. Some ((n.0, a), s)) (tokens n.1.0 ++ behind) n.1 behind (reads n.1 behind good follows)

  -- what is read of the items behind the first
  pub commas_reads : (ns : List (Next X)) (last : ℕ) (all : ListRead X) (rest : State) → Each Q (items_of ns)
      → behind_commas item all (tree.behind_commas closing (parts_of tokens (items_of ns)) (lines_of ns ++ last ∷ []) ++ rest)
      ≡ Some (list_read (all.list ++ trees_of (items_of ns)) (max all.depth (deepest (items_of ns))) (all.lines ++ lines_of ns), token (kind.Mark closing) last ∷ rest)
  unfolding many_ahead
  commas_reads ns last all rest good =
      let state = joined (map (next_tokens tokens) ns) ++ token (kind.Mark closing) last ∷ rest in
      ap (λ (s : State). behind_commas item all s) (sym (closed tokens closing last ns rest))
      ∙ many_reads (λ n. Q n.1) (next_tokens tokens) with_next stops_commas (comma_item item) (Follows closing)
      (λ n behind one. ap not (same_mark_refl Comma)) (λ n behind one. inl refl) (λ n behind one end. next_reads n behind one end)
      ns (suc (length state)) all (token (kind.Mark closing) last ∷ rest)
      (omega (arith, no_longer (next_tokens tokens) (λ n. omega arith) ns (token (kind.Mark closing) last ∷ rest)))
      (each_next Q ns good) (inr refl) (ap not apart)
      ∙ ap (λ (r : ListRead X). Some (r, token (kind.Mark closing) last ∷ rest)) (fold_next ns all)
