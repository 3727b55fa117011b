-- Lists with commas between their items are read.
use Rattle.std.proofs.Common.{◌≡◌, ℕ, zero, suc, ◌+◌, ◌<◌, ◌≤◌, Bool, true, false, not, ◌||◌, Option, Some, List, [], ◌∷◌, ◌++◌, length, map, get_or, take, drop, refl, sym, ap, ◌∙◌, inl, inr, arith, append_assoc, append-nil, length-append, take-append-drop}
use Rattle.std.proofs.lemmas.Bool.{cond-true, cond-false, or_right}
use Rattle.std.specs.Prelude.{⊤}
use Rattle.cx_cursor.specs.Lists.{ListRead, list_read, many, many_ahead, with_next, comma_item, next_item, no_comma}
use Rattle.cx_cursor.specs.Reading.{State, at, Reader, bind}
use Rattle.cx_cursor.specs.Sights.{sight_in, shows_mark, same_mark, mark}
use Rattle.cx_cursor.proofs.Readers.{bind_some, token, mark_reads, same_mark_refl}
use Rattle.cx_expr.specs.Specifiers.{no_further, braced_read, closing_brace, items_in, braced}
use Rattle.cx_lex.specs.declared.token.Punct.{Punct}
use Rattle.cx_lex.specs.declared.token.Punct.TheVariants as punct
use Rattle.cx_lex.specs.declared.token.Token.{Token}
use Rattle.cx_lex.specs.declared.token.TokenKind.{TokenKind}
use Rattle.cx_lex.specs.declared.token.TokenKind.TheVariants as kind
use Rattle.cx_tree.specs.Names.{Binding}
use Rattle.cx_tree.specs.Tokens as tree
use Rattle.cx_tree.specs.Tokens.{owns, behind_commas, listed, brace}
use Rattle.cx_parse.proofs.Lists.{each_of, comma_item_reads}
use Rattle.cx_parse.proofs.ReadsSteps.{many_stops, many_steps, takes, one_line}
use Rattle.cx_parse.proofs.Stood.{Reads, EndsAt}

-- each item is so where it stands
abbrev pub AllGood : {A : Type 0} → (List Binding → A → Type 0) → (A → List Binding) → List Binding → List A → Type 0
AllGood P new names [] = ⊤
AllGood P new names (x ∷ xs) = P names x × AllGood P new (names ++ new x) xs

same_list : {A : Type 0} (a b : List A) (ls ks : List ℕ) → a ≡ b → ls ≡ ks → list_read a ls ≡ list_read b ks
same_list a b ls ks e f = λ i. list_read (e i) (f i)

same_read : {A : Type 0} (a b : A) (rest : List Token) (names more : List Binding) → a ≡ b → names ≡ more → ◌≡◌ {A = Option (A × State)} (Some (a, at rest names)) (Some (b, at rest more))
same_read a b rest names more e f = λ i. Some (e i, at rest (f i))

commas_fewer : {A : Type 0} (tokens : A → List Token) (closing : List TokenKind) (xs : List A) (lines : List ℕ) → length xs ≤ length (behind_commas closing (map tokens xs) lines)
commas_fewer tokens closing [] lines = omega arith
commas_fewer tokens closing (x ∷ xs) lines =
    let a = commas_fewer tokens closing xs (drop 1 lines) in
    let b = length-append (tokens x) (behind_commas closing (map tokens xs) (drop 1 lines)) in
    omega (arith, a, b)

module _ {A : Type 0} (item : Reader A) (tokens : A → List Token) (new : A → List Binding) (P : List Binding → A → Type 0)
    -- what may stand behind an item
    (Ends : List Token → Type 0)
    (stops : ListRead A → State → Bool)
    (reads : (a : A) (names : List Binding) (rest : List Token) → P names a → Ends rest → Reads item (tokens a) (new a) a names rest)
    (comma_ends : (line : ℕ) (more : List Token) → Ends (token (kind.Mark punct.Comma) line ∷ more))
    (goes : (all : ListRead A) (line : ℕ) (a : A) (names : List Binding) (rest : List Token) → P names a → stops all (at (token (kind.Mark punct.Comma) line ∷ (tokens a ++ rest)) names) ≡ false)
    (closing : List TokenKind) (rest : List Token)
    (end : (lines : List ℕ) → length lines ≡ length closing → Ends (owns closing lines ++ rest))
    (stop : (all : ListRead A) (lines : List ℕ) (names : List Binding) → length lines ≡ length closing → stops all (at (owns closing lines ++ rest) names) ≡ true) where
  items_end : (xs : List A) (lines : List ℕ) → length lines ≡ length xs + length closing → Ends (behind_commas closing (map tokens xs) lines ++ rest)
  items_end [] lines count = end lines (omega arith)
  items_end (x ∷ xs) lines count = comma_ends (get_or lines 0 0) _

  commas_many : (xs : List A) (turns : ℕ) (list : List A) (front lines : List ℕ) (names : List Binding) → length xs < turns → length lines ≡ length xs + length closing → AllGood P new names xs
      → many stops (next_item item) turns (list_read list front) (at (behind_commas closing (map tokens xs) lines ++ rest) names)
      ≡ Some (list_read (list ++ xs) (front ++ take (length xs) lines), at (owns closing (drop (length xs) lines) ++ rest) (names ++ each_of new xs))
  commas_many xs zero list front lines names room count good = absurd (omega arith)
  commas_many [] (suc turns) list front lines names room count good =
      many_stops stops (next_item item) turns (list_read list front) (at (owns closing lines ++ rest) names) (stop (list_read list front) lines names (omega arith))
      ∙ same_read _ _ (owns closing lines ++ rest) names (names ++ []) (same_list list (list ++ []) front (front ++ []) (sym (append-nil list)) (sym (append-nil front))) (sym (append-nil names))
  commas_many (x ∷ xs) (suc turns) list front [] names room count good = absurd (omega arith)
  commas_many (x ∷ xs) (suc turns) list front (line ∷ lines) names room count good =
      let more : List Token = behind_commas closing (map tokens xs) lines in
      let next : ℕ × A = (line, x) in
      let opened : State = at (token (kind.Mark punct.Comma) line ∷ (tokens x ++ (more ++ rest))) names in
      let one : comma_item item opened ≡ Some (next, at (more ++ rest) (names ++ new x)) =
      comma_item_reads item tokens new next names (more ++ rest) (reads x names (more ++ rest) good.0 (items_end xs lines (omega arith))) in
      ap (λ (ts : List Token). many stops (next_item item) (suc turns) (list_read list front) (at (token (kind.Mark punct.Comma) line ∷ ts) names)) (append_assoc (tokens x) more rest)
      ∙ many_steps stops (next_item item) turns (list_read list front) (with_next (list_read list front) next) opened (at (more ++ rest) (names ++ new x))
      (goes (list_read list front) line x names (more ++ rest) good.0)
      (takes (comma_item item) with_next (list_read list front) opened (at (more ++ rest) (names ++ new x)) next one)
      ∙ commas_many xs turns (list ++ x ∷ []) (front ++ line ∷ []) lines (names ++ new x) (omega arith) (omega arith) good.1
      ∙ same_read _ _ (owns closing (drop (length xs) lines) ++ rest) _ _
      (same_list _ _ _ _ (append_assoc list (x ∷ []) xs) (append_assoc front (line ∷ []) (take (length xs) lines))) (append_assoc names (new x) (each_of new xs))

  -- the items behind the first
  pub commas_read : (xs : List A) (list : List A) (front lines : List ℕ) (names : List Binding) → length lines ≡ length xs + length closing → AllGood P new names xs
      → many_ahead stops (next_item item) (list_read list front) (at (behind_commas closing (map tokens xs) lines ++ rest) names)
      ≡ Some (list_read (list ++ xs) (front ++ take (length xs) lines), at (owns closing (drop (length xs) lines) ++ rest) (names ++ each_of new xs))
  unfolding many_ahead
  commas_read xs list front lines names count good =
      let few = commas_fewer tokens closing xs lines in
      let sum = length-append (behind_commas closing (map tokens xs) lines) rest in
      commas_many xs (suc (length (behind_commas closing (map tokens xs) lines ++ rest))) list front lines names (omega (arith, few, sum)) count good

  -- the first item and those behind it
  pub listed_read : (x : A) (xs : List A) (list : List A) (front lines : List ℕ) (names : List Binding) → length lines ≡ length xs + length closing → AllGood P new names (x ∷ xs)
      → bind item (λ a. many_ahead stops (next_item item) (list_read (list ++ a ∷ []) front)) (at (listed closing (map tokens (x ∷ xs)) lines ++ rest) names)
      ≡ Some (list_read (list ++ x ∷ xs) (front ++ take (length xs) lines), at (owns closing (drop (length xs) lines) ++ rest) (names ++ each_of new (x ∷ xs)))
  listed_read x xs list front lines names count good =
      let more : List Token = behind_commas closing (map tokens xs) lines in
      ap (λ (ts : List Token). bind item (λ a. many_ahead stops (next_item item) (list_read (list ++ a ∷ []) front)) (at ts names)) (append_assoc (tokens x) more rest)
      ∙ bind_some item (λ a. many_ahead stops (next_item item) (list_read (list ++ a ∷ []) front)) (at (tokens x ++ (more ++ rest)) names) x (at (more ++ rest) (names ++ new x))
      (reads x names (more ++ rest) good.0 (items_end xs lines count))
      ∙ commas_read xs (list ++ x ∷ []) front lines (names ++ new x) count good.1
      ∙ same_read _ _ (owns closing (drop (length xs) lines) ++ rest) _ _
      (same_list _ _ _ _ (append_assoc list (x ∷ []) xs) refl) (append_assoc names (new x) (each_of new xs))

-- the lines of the commas, and those of what closes the list
pub lines_split : (count : ℕ) (lines : List ℕ) → take count lines ++ drop count lines ≡ lines
lines_split count lines = take-append-drop count lines

pub lines_left : (count extra : ℕ) (lines : List ℕ) → length lines ≡ count + extra → length (drop count lines) ≡ extra
lines_left zero extra lines e = omega arith
lines_left (suc count) extra [] e = absurd (omega arith)
lines_left (suc count) extra (line ∷ lines) e = lines_left count extra lines (omega arith)

-- one of two marks, in front
pub ends_first : (one other : Punct) (line : ℕ) (more : List Token) → EndsAt one other (token (kind.Mark one) line ∷ more)
ends_first one other line more = record { front = record { punct = one; line = line; more = more; is = refl }; among = inl refl }

pub ends_second : (one other : Punct) (line : ℕ) (more : List Token) → EndsAt one other (token (kind.Mark other) line ∷ more)
ends_second one other line more = record { front = record { punct = other; line = line; more = more; is = refl }; among = inr refl }

-- ---- lists that end at one mark

-- one mark behind the items
module _ {A : Type 0} (item : Reader A) (tokens : A → List Token) (new : A → List Binding) (P : List Binding → A → Type 0) (last : Punct)
    (apart : same_mark last punct.Comma ≡ false)
    (reads : (a : A) (names : List Binding) (rest : List Token) → P names a → EndsAt punct.Comma last rest → Reads item (tokens a) (new a) a names rest) where
  ended_stop : (rest : List Token) (all : ListRead A) (lines : List ℕ) (names : List Binding) → no_comma all (at (owns (tree.ended last) lines ++ rest) names) ≡ true
  ended_stop rest all lines names = ap not apart

  pub behind_commas_read : (xs : List A) (list : List A) (front lines : List ℕ) (names : List Binding) (rest : List Token) → length lines ≡ length xs + 1 → AllGood P new names xs
      → many_ahead no_comma (next_item item) (list_read list front) (at (behind_commas (tree.ended last) (map tokens xs) lines ++ rest) names)
      ≡ Some (list_read (list ++ xs) (front ++ take (length xs) lines), at (owns (tree.ended last) (drop (length xs) lines) ++ rest) (names ++ each_of new xs))
  behind_commas_read xs list front lines names rest count good =
      commas_read item tokens new P (EndsAt punct.Comma last) no_comma reads (λ line more. ends_first punct.Comma last line more) (λ all line a names rest one. ap not (same_mark_refl punct.Comma))
      (tree.ended last) rest (λ lines count. ends_second punct.Comma last (get_or lines 0 0) rest) (λ all lines names count. ended_stop rest all lines names)
      xs list front lines names count good

  -- the first item and those behind it
  pub ended_read : (x : A) (xs : List A) (list : List A) (front lines : List ℕ) (names : List Binding) (rest : List Token) → length lines ≡ length xs + 1 → AllGood P new names (x ∷ xs)
      → bind item (λ a. many_ahead no_comma (next_item item) (list_read (list ++ a ∷ []) front)) (at (listed (tree.ended last) (map tokens (x ∷ xs)) lines ++ rest) names)
      ≡ Some (list_read (list ++ x ∷ xs) (front ++ take (length xs) lines), at (owns (tree.ended last) (drop (length xs) lines) ++ rest) (names ++ each_of new (x ∷ xs)))
  ended_read x xs list front lines names rest count good =
      listed_read item tokens new P (EndsAt punct.Comma last) no_comma reads (λ line more. ends_first punct.Comma last line more) (λ all line a names rest one. ap not (same_mark_refl punct.Comma))
      (tree.ended last) rest (λ lines count. ends_second punct.Comma last (get_or lines 0 0) rest) (λ all lines names count. ended_stop rest all lines names)
      x xs list front lines names count good

-- the line of the mark that ends the list
pub last_line : (count : ℕ) (lines : List ℕ) → length lines ≡ count + 1 → take count lines ++ get_or (drop count lines) 0 0 ∷ [] ≡ lines
last_line count lines e =
    ap (λ (ls : List ℕ). take count lines ++ ls) (one_line (drop count lines) (lines_left count 1 lines e)) ∙ lines_split count lines

-- ---- lists in braces

brace_no_comma : same_mark punct.RightBrace punct.Comma ≡ false
unfolding same_mark
brace_no_comma = refl

pub brace_ends : (last_comma : Bool) (lines : List ℕ) (rest : List Token) → EndsAt punct.Comma punct.RightBrace (owns (brace last_comma) lines ++ rest)
brace_ends true lines rest = ends_first punct.Comma punct.RightBrace (get_or lines 0 0) _
brace_ends false lines rest = ends_second punct.Comma punct.RightBrace (get_or lines 0 0) rest

brace_stops : {A : Type 0} (last_comma : Bool) (all : ListRead A) (lines : List ℕ) (names : List Binding) (rest : List Token) → no_further all (at (owns (brace last_comma) lines ++ rest) names) ≡ true
brace_stops true all lines names rest = or_right (not (same_mark punct.Comma punct.Comma)) (same_mark punct.RightBrace punct.RightBrace) (same_mark_refl punct.RightBrace)
brace_stops false all lines names rest = ap (λ (b : Bool). not b || shows_mark punct.RightBrace (sight_in names rest)) brace_no_comma

closing_reads : {A : Type 0} (last_comma : Bool) (list : List A) (front lines : List ℕ) (names : List Binding) (rest : List Token) → length lines ≡ length (brace last_comma)
    → closing_brace (list_read list front) (at (owns (brace last_comma) lines ++ rest) names) ≡ Some (braced_read list last_comma (front ++ lines), at rest names)
unfolding closing_brace
closing_reads true list front [] names rest count = absurd (omega arith)
closing_reads true list front (l ∷ []) names rest count = absurd (omega arith)
closing_reads true list front (l ∷ k ∷ []) names rest count =
    let behind : List Token = token (kind.Mark punct.RightBrace) k ∷ rest in
    cond-true (same_mark punct.Comma punct.Comma) _ _ (same_mark_refl punct.Comma)
    ∙ bind_some (mark punct.Comma) _ (at (token (kind.Mark punct.Comma) l ∷ behind) names) l (at behind names) (mark_reads punct.Comma l behind names)
    ∙ bind_some (mark punct.RightBrace) _ (at behind names) k (at rest names) (mark_reads punct.RightBrace k rest names)
closing_reads true list front (l ∷ k ∷ j ∷ lines) names rest count = absurd (omega arith)
closing_reads false list front [] names rest count = absurd (omega arith)
closing_reads false list front (l ∷ []) names rest count =
    cond-false (same_mark punct.RightBrace punct.Comma) _ _ brace_no_comma
    ∙ bind_some (mark punct.RightBrace) _ (at (token (kind.Mark punct.RightBrace) l ∷ rest) names) l (at rest names) (mark_reads punct.RightBrace l rest names)
closing_reads false list front (l ∷ k ∷ lines) names rest count = absurd (omega arith)

module _ {A : Type 0} (item : Reader A) (tokens : A → List Token) (new : A → List Binding) (P : List Binding → A → Type 0)
    (reads : (a : A) (names : List Binding) (rest : List Token) → P names a → EndsAt punct.Comma punct.RightBrace rest → Reads item (tokens a) (new a) a names rest)
    -- no item begins with a closing brace
    (begins : (a : A) (names : List Binding) (rest : List Token) → P names a → shows_mark punct.RightBrace (sight_in names (tokens a ++ rest)) ≡ false) where
  further : (all : ListRead A) (line : ℕ) (a : A) (names : List Binding) (rest : List Token) → P names a → no_further all (at (token (kind.Mark punct.Comma) line ∷ (tokens a ++ rest)) names) ≡ false
  further all line a names rest good =
      ap (λ (b : Bool). not b || shows_mark punct.RightBrace (sight_in names (tokens a ++ rest))) (same_mark_refl punct.Comma) ∙ begins a names rest good

  braced_by : (x : A) (xs : List A) (last_comma : Bool) (front : List ℕ) (line : ℕ) (lines : List ℕ) (names : List Binding) (rest : List Token)
      → length lines ≡ length xs + length (brace last_comma) → AllGood P new names (x ∷ xs)
      → Reads (braced item front) (token (kind.Mark punct.LeftBrace) line ∷ listed (brace last_comma) (map tokens (x ∷ xs)) lines) (each_of new (x ∷ xs))
      (braced_read (x ∷ xs) last_comma (front ++ line ∷ lines)) names rest
  unfolding braced items_in
  braced_by x xs last_comma front line lines names rest count good =
      let inside : List Token = listed (brace last_comma) (map tokens (x ∷ xs)) lines ++ rest in
      let n = length xs in
      let left = drop n lines in
      let marks = (front ++ line ∷ []) ++ take n lines in
      let closing : State = at (owns (brace last_comma) left ++ rest) (names ++ each_of new (x ∷ xs)) in
      bind_some (items_in item front) (λ all. closing_brace all) (at (token (kind.Mark punct.LeftBrace) line ∷ inside) names) (list_read (x ∷ xs) marks) closing
      (bind_some (mark punct.LeftBrace) _ (at (token (kind.Mark punct.LeftBrace) line ∷ inside) names) line (at inside names) (mark_reads punct.LeftBrace line inside names)
      ∙ listed_read item tokens new P (EndsAt punct.Comma punct.RightBrace) no_further reads (λ line more. ends_first punct.Comma punct.RightBrace line more) further
      (brace last_comma) rest (λ lines count. brace_ends last_comma lines rest) (λ all lines names count. brace_stops last_comma all lines names rest)
      x xs [] (front ++ line ∷ []) lines names count good)
      ∙ closing_reads last_comma (x ∷ xs) marks left (names ++ each_of new (x ∷ xs)) rest (lines_left n (length (brace last_comma)) lines count)
      ∙ ap (λ (ls : List ℕ). Some (braced_read (x ∷ xs) last_comma ls, at rest (names ++ each_of new (x ∷ xs))))
      (append_assoc (front ++ line ∷ []) (take n lines) left ∙ ap (λ (ls : List ℕ). (front ++ line ∷ []) ++ ls) (lines_split n lines) ∙ append_assoc front (line ∷ []) lines)

  pub braced_reads : (x : A) (xs : List A) (last_comma : Bool) (front lines : List ℕ) (names : List Binding) (rest : List Token)
      → length lines ≡ suc (length xs + length (brace last_comma)) → AllGood P new names (x ∷ xs)
      → Reads (braced item front) (token (kind.Mark punct.LeftBrace) (get_or lines 0 0) ∷ listed (brace last_comma) (map tokens (x ∷ xs)) (drop 1 lines)) (each_of new (x ∷ xs))
      (braced_read (x ∷ xs) last_comma (front ++ lines)) names rest
  braced_reads x xs last_comma front [] names rest count good = absurd (omega arith)
  braced_reads x xs last_comma front (line ∷ lines) names rest count good = braced_by x xs last_comma front line lines names rest (omega arith) good
