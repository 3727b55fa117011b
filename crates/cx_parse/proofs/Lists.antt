-- Readers of lists, in both directions.
use Rattle.std.proofs.Common.{◌≡◌, ℕ, zero, suc, ◌+◌, ◌<◌, ◌≤◌, Bool, true, false, cond, Some, List, [], ◌∷◌, ◌++◌, length, map, fold, refl, sym, ap, ◌∙◌, subst, arith, append_assoc, length-append}
use Rattle.std.proofs.lemmas.Bool.{cond-true, cond-false}
use Rattle.std.proofs.lemmas.List.{append-nil}
use Rattle.std.specs.Prelude.{⊤}
use Rattle.cx_cursor.specs.Lists.{many, many_ahead, taking, list_read, with_next, comma_item}
use Rattle.cx_cursor.specs.Reading.{State, at, Reader, bind}
use Rattle.cx_cursor.specs.Sights.{mark}
use Rattle.cx_cursor.proofs.Readers.{bind_some, bind_elim, same_answer, none_some, Gives, gives_bind, gives_pure, Took, nothing_taken, took_both, one_then, token, mark_gives, mark_reads}
use Rattle.cx_lex.specs.declared.token.Punct.TheVariants.{Comma}
use Rattle.cx_lex.specs.declared.token.Token.{Token}
use Rattle.cx_lex.specs.declared.token.TokenKind.{TokenKind}
use Rattle.cx_lex.specs.declared.token.TokenKind.TheVariants as kind
use Rattle.cx_parse.proofs.Stood.{Reads}
use Rattle.cx_tree.specs.Names.{Binding}
use Rattle.cx_tree.specs.Tokens.{owns, behind_commas}

-- what each item has, one after the other
abbrev pub each_of : {A B : Type 0} → (A → List B) → List A → List B
each_of f [] = []
each_of f (x ∷ xs) = f x ++ each_of f xs

-- each item is so where it stands: what was taken in before it, and the names in scope
abbrev pub Each : {A B : Type 0} → (B → List Binding → A → Type 0) → (A → List Binding) → (B → A → B) → B → List Binding → List A → Type 0
Each P new add all names [] = ⊤
Each P new add all names (x ∷ xs) = P all names x × Each P new add (add all x) (names ++ new x) xs

-- ---- soundness

-- What was read of a list: the items, whose tokens stood in front, taken in one after the other.
pub record Items {A B : Type 0} (P : B → List Binding → A → Type 0) (tokens : A → List Token) (new : A → List Binding) (add : B → A → B) (stops : B → State → Bool)
    (all : B) (state : State) (made : B) (after : State) : Type 0 where
  pub items : List A
  pub took : Took (each_of tokens items) (each_of new items) state after
  pub good : Each P new add all state.names items
  pub taken : made ≡ fold add all items
  pub stopped : stops made after ≡ true

module _ {A B : Type 0} (P : B → List Binding → A → Type 0) (tokens : A → List Token) (new : A → List Binding) (add : B → A → B) (stops : B → State → Bool) (item : Reader A)
    (sound : (all : B) (state : State) → stops all state ≡ false → Gives item (λ a after. Took (tokens a) (new a) state after × P all state.names a) state) where
  more_items : (all : B) (state mid : State) (a : A) (made : B) (after : State) → Took (tokens a) (new a) state mid × P all state.names a
      → Items P tokens new add stops (add all a) mid made after → Items P tokens new add stops all state made after
  more_items all state mid a made after one rest = record {
    items = a ∷ rest.items;
    took = took_both (tokens a) (each_of tokens rest.items) (new a) (each_of new rest.items) state mid after one.0 rest.took;
    good = (one.1, subst (λ (names : List Binding). Each P new add (add all a) names rest.items) one.0.scope rest.good);
    taken = rest.taken;
    stopped = rest.stopped;
  }

  many_turn : (turns : ℕ) (all : B) (state : State) (made : B) (after : State) (test : Bool) → stops all state ≡ test
      → ((all : B) (state : State) (made : B) (after : State) → many stops (taking item add) turns all state ≡ Some (made, after) → Items P tokens new add stops all state made after)
      → cond test (Some (all, state)) (bind (taking item add all) (many stops (taking item add) turns) state) ≡ Some (made, after)
      → Items P tokens new add stops all state made after
  unfolding taking
  many_turn turns all state made after true stop rec e =
      same_answer (λ made after. Items P tokens new add stops all state made after) all state made after e
      (record { items = []; took = nothing_taken state; good = tt; taken = refl; stopped = stop })
  many_turn turns all state made after false stop rec e =
      bind_elim _ (taking item add all) (many stops (taking item add) turns) state made after e (λ next mid h k.
      bind_elim _ item (λ a. λ s. Some (add all a, s)) state next mid h (λ a behind one same.
      more_items all state behind a made after (sound all state stop a behind one)
      (same_answer (λ next mid. many stops (taking item add) turns next mid ≡ Some (made, after) → Items P tokens new add stops (add all a) behind made after)
      (add all a) behind next mid same (λ read. rec (add all a) behind made after read) k)))

  pub many_sound : (turns : ℕ) (all : B) (state : State) (made : B) (after : State) → many stops (taking item add) turns all state ≡ Some (made, after)
      → Items P tokens new add stops all state made after
  unfolding many
  many_sound zero all state made after e = none_some _ _ e
  many_sound (suc turns) all state made after e =
      many_turn turns all state made after (stops all state) refl (λ all state made after read. many_sound turns all state made after read) e

  pub many_ahead_sound : (all : B) (state : State) → Gives (many_ahead stops (taking item add) all) (λ made after. Items P tokens new add stops all state made after) state
  unfolding many_ahead
  many_ahead_sound all state made after e = many_sound (suc (length state.tokens)) all state made after e

-- ---- completeness

module _ {A B : Type 0} (P : B → List Binding → A → Type 0) (tokens : A → List Token) (new : A → List Binding) (add : B → A → B) (stops : B → State → Bool) (item : Reader A)
    -- what may stand behind an item
    (Follows : List Token → Type 0)
    (begins : (all : B) (names : List Binding) (a : A) (rest : List Token) → P all names a → stops all (at (tokens a ++ rest) names) ≡ false)
    (follows : (all : B) (names : List Binding) (a : A) (rest : List Token) → P all names a → Follows (tokens a ++ rest))
    (reads : (all : B) (names : List Binding) (a : A) (rest : List Token) → P all names a → Follows rest → Reads item (tokens a) (new a) a names rest) where
  follows_each : (items : List A) (all : B) (names : List Binding) (rest : List Token) → Each P new add all names items → Follows rest → Follows (each_of tokens items ++ rest)
  follows_each [] all names rest good end = end
  follows_each (a ∷ items) all names rest good end =
      subst Follows (sym (append_assoc (tokens a) (each_of tokens items) rest)) (follows all names a (each_of tokens items ++ rest) good.0)

  pub many_reads : (items : List A) (turns : ℕ) (all : B) (names : List Binding) (rest : List Token) → length items < turns → Each P new add all names items → Follows rest
      → stops (fold add all items) (at rest (names ++ each_of new items)) ≡ true
      → many stops (taking item add) turns all (at (each_of tokens items ++ rest) names) ≡ Some (fold add all items, at rest (names ++ each_of new items))
  unfolding many taking
  many_reads items zero all names rest room good end stop = absurd (omega arith)
  many_reads [] (suc turns) all names rest room good end stop =
      let none : names ++ [] ≡ names = append-nil names in
      let stop_here : stops all (at rest names) ≡ true = ap (λ (bs : List Binding). stops all (at rest bs)) (sym none) ∙ stop in
      cond-true (stops all (at rest names)) _ _ stop_here ∙ ap (λ (bs : List Binding). Some (all, at rest bs)) (sym none)
  many_reads (a ∷ items) (suc turns) all names rest room good end stop =
      let behind = each_of tokens items ++ rest in
      let front : (tokens a ++ each_of tokens items) ++ rest ≡ tokens a ++ behind = append_assoc (tokens a) (each_of tokens items) rest in
      let new_is : (names ++ new a) ++ each_of new items ≡ names ++ (new a ++ each_of new items) = append_assoc names (new a) (each_of new items) in
      let one : item (at (tokens a ++ behind) names) ≡ Some (a, at behind (names ++ new a)) =
      reads all names a behind good.0 (follows_each items (add all a) (names ++ new a) rest good.1 end) in
      let stop_there : stops (fold add (add all a) items) (at rest ((names ++ new a) ++ each_of new items)) ≡ true =
      ap (λ (bs : List Binding). stops (fold add (add all a) items) (at rest bs)) new_is ∙ stop in
      ap (λ (ts : List Token). many stops (taking item add) (suc turns) all (at ts names)) front
      ∙ cond-false (stops all (at (tokens a ++ behind) names)) _ _ (begins all names a behind good.0)
      ∙ bind_some (taking item add all) (many stops (taking item add) turns) (at (tokens a ++ behind) names) (add all a) (at behind (names ++ new a))
      (bind_some item (λ a. λ s. Some (add all a, s)) (at (tokens a ++ behind) names) a (at behind (names ++ new a)) one)
      ∙ many_reads items turns (add all a) (names ++ new a) rest (omega arith) good.1 end stop_there
      ∙ ap (λ (bs : List Binding). Some (fold add (add all a) items, at rest bs)) new_is

  -- where each item has a token at least
  module _ (some : (all : B) (names : List Binding) (a : A) → P all names a → 0 < length (tokens a)) where
    fewer : (items : List A) (all : B) (names : List Binding) → Each P new add all names items → length items ≤ length (each_of tokens items)
    fewer [] all names good = omega arith
    fewer (a ∷ items) all names good =
        let one = some all names a good.0 in
        let more = fewer items (add all a) (names ++ new a) good.1 in
        let sum = length-append (tokens a) (each_of tokens items) in
        omega (arith, one, more, sum)

    pub many_ahead_reads : (items : List A) (all : B) (names : List Binding) (rest : List Token) → Each P new add all names items → Follows rest
        → stops (fold add all items) (at rest (names ++ each_of new items)) ≡ true
        → Reads (many_ahead stops (taking item add) all) (each_of tokens items) (each_of new items) (fold add all items) names rest
    unfolding many_ahead
    many_ahead_reads items all names rest good end stop =
        let few = fewer items all names good in
        let sum = length-append (each_of tokens items) rest in
        many_reads items (suc (length (each_of tokens items ++ rest))) all names rest (omega (arith, few, sum)) good end stop

-- ---- items behind commas, each with the line of its comma

abbrev pub comma_tokens : {A : Type 0} → (A → List Token) → ℕ × A → List Token
comma_tokens tokens next = token (kind.Mark Comma) next.0 ∷ tokens next.1

abbrev pub comma_new : {A : Type 0} → (A → List Binding) → ℕ × A → List Binding
comma_new new next = new next.1

abbrev pub lines_of : {A : Type 0} → List (ℕ × A) → List ℕ
lines_of [] = []
lines_of (next ∷ nexts) = next.0 ∷ lines_of nexts

abbrev pub items_of : {A : Type 0} → List (ℕ × A) → List A
items_of [] = []
items_of (next ∷ nexts) = next.1 ∷ items_of nexts

-- the items and lines that are taken in
pub taken_in : {A : Type 0} (nexts : List (ℕ × A)) (list : List A) (lines : List ℕ) → fold with_next (list_read list lines) nexts ≡ list_read (list ++ items_of nexts) (lines ++ lines_of nexts)
taken_in [] list lines = λ i. list_read (sym (append-nil list) i) (sym (append-nil lines) i)
taken_in (next ∷ nexts) list lines =
    taken_in nexts (list ++ next.1 ∷ []) (lines ++ next.0 ∷ [])
    ∙ (λ i. list_read (append_assoc list (next.1 ∷ []) (items_of nexts) i) (append_assoc lines (next.0 ∷ []) (lines_of nexts) i))

-- the text of a list behind its first item
pub behind_commas_is : {A : Type 0} (tokens : A → List Token) (closing : List TokenKind) (nexts : List (ℕ × A)) (ends : List ℕ)
    → behind_commas closing (map tokens (items_of nexts)) (lines_of nexts ++ ends) ≡ each_of (comma_tokens tokens) nexts ++ owns closing ends
behind_commas_is tokens closing [] ends = refl
behind_commas_is tokens closing (next ∷ nexts) ends =
    ap (λ (ts : List Token). token (kind.Mark Comma) next.0 ∷ (tokens next.1 ++ ts)) (behind_commas_is tokens closing nexts ends)
    ∙ ap (λ (ts : List Token). token (kind.Mark Comma) next.0 ∷ ts) (sym (append_assoc (tokens next.1) (each_of (comma_tokens tokens) nexts) (owns closing ends)))

-- items with the lines of their commas, and the lines that are left
pub record Zipped {A : Type 0} (items : List A) (lines : List ℕ) (extra : ℕ) : Type 0 where
  pub nexts : List (ℕ × A)
  pub ends : List ℕ
  pub items_are : items_of nexts ≡ items
  pub lines_are : lines_of nexts ++ ends ≡ lines
  pub left : length ends ≡ extra

pub zipped : {A : Type 0} (items : List A) (lines : List ℕ) (extra : ℕ) → length lines ≡ length items + extra → Zipped items lines extra
zipped [] lines extra e = record { nexts = []; ends = lines; items_are = refl; lines_are = refl; left = omega arith }
zipped (a ∷ items) [] extra e = absurd (omega arith)
zipped (a ∷ items) (line ∷ lines) extra e =
    let rest = zipped items lines extra (omega arith) in
    record {
      nexts = (line, a) ∷ rest.nexts;
      ends = rest.ends;
      items_are = ap (λ (is : List _). a ∷ is) rest.items_are;
      lines_are = ap (λ (ls : List ℕ). line ∷ ls) rest.lines_are;
      left = rest.left;
    }

-- a comma and an item
pub comma_item_sound : {A : Type 0} (item : Reader A) (tokens : A → List Token) (new : A → List Binding) (P : List Binding → A → Type 0)
    → ((state : State) → Gives item (λ a after. Took (tokens a) (new a) state after × P state.names a) state)
    → (state : State) → Gives (comma_item item) (λ next after. Took (comma_tokens tokens next) (comma_new new next) state after × P state.names next.1) state
unfolding comma_item
comma_item_sound {A} item tokens new P sound state =
    gives_bind (mark Comma) _ _ _ state (mark_gives Comma state) (λ line mid one.
    gives_bind item _ _ _ mid (sound mid) (λ a behind both.
    gives_pure (line, a) (λ (next : ℕ × A) (after : State). Took (comma_tokens tokens next) (comma_new new next) state after × P state.names next.1) behind
    (one_then (token (kind.Mark Comma) line) (tokens a) (new a) state mid behind one both.0, subst (λ (names : List Binding). P names a) one.same both.1)))

pub comma_item_reads : {A : Type 0} (item : Reader A) (tokens : A → List Token) (new : A → List Binding) (next : ℕ × A) (names : List Binding) (rest : List Token)
    → Reads item (tokens next.1) (new next.1) next.1 names rest → Reads (comma_item item) (comma_tokens tokens next) (comma_new new next) next names rest
unfolding comma_item
comma_item_reads item tokens new next names rest one =
    bind_some (mark Comma) _ (at (comma_tokens tokens next ++ rest) names) next.0 (at (tokens next.1 ++ rest) names) (mark_reads Comma next.0 (tokens next.1 ++ rest) names)
    ∙ bind_some item _ (at (tokens next.1 ++ rest) names) next.1 (at rest (names ++ new next.1)) one
