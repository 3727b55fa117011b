-- Readers in sequence read what stands in front, and what ends an expression.
use Rattle.std.proofs.Common.{◌≡◌, ℕ, ◌<◌, ◌≤◌, false, Some, List, [], ◌∷◌, ◌++◌, length, get_or, refl, sym, ap, ◌∙◌, arith, append_assoc}
use Rattle.std.proofs.lemmas.List.{append-nil}
use Rattle.cx_cursor.specs.Reading.{at, Reader, bind}
use Rattle.cx_cursor.specs.Sights.{same_mark, mark, operator}
use Rattle.cx_cursor.proofs.Readers.{bind_some, token, mark_reads, operator_reads}
use Rattle.cx_words.specs.Continuations.{continuation_of_mark, strength}
use Rattle.cx_words.specs.declared.continuation.Continuation.TheVariants.{Nothing}
use Rattle.cx_lex.specs.declared.token.Punct.{Punct}
use Rattle.cx_lex.specs.declared.token.Punct.TheVariants as punct
use Rattle.cx_lex.specs.declared.token.Token.{Token}
use Rattle.cx_lex.specs.declared.token.TokenKind.TheVariants as kind
use Rattle.cx_parse.proofs.Stood.{Reads, EndsExpr}
use Rattle.cx_tree.specs.Names.{Binding}

-- ---- lines

pub three_lines : (lines : List ℕ) → length lines ≡ 3 → get_or lines 0 0 ∷ get_or lines 1 0 ∷ get_or lines 2 0 ∷ [] ≡ lines
three_lines [] e = absurd (omega arith)
three_lines (l ∷ []) e = absurd (omega arith)
three_lines (l ∷ k ∷ []) e = absurd (omega arith)
three_lines (l ∷ k ∷ j ∷ []) e = refl
three_lines (l ∷ k ∷ j ∷ i ∷ lines) e = absurd (omega arith)

-- ---- sequences

module _ {A : Type 0} (read : Reader A) where
  -- what is read is this
  pub reads_is : (front : List Token) (new : List Binding) (a b : A) (names : List Binding) (rest : List Token) → a ≡ b → Reads read front new a names rest → Reads read front new b names rest
  reads_is front new a b names rest e h = h ∙ ap (λ (x : A). Some (x, at rest (names ++ new))) e

  -- where no name comes into scope
  pub reads_none : (front : List Token) (a : A) (names : List Binding) (rest : List Token) → read (at (front ++ rest) names) ≡ Some (a, at rest names) → Reads read front [] a names rest
  reads_none front a names rest h = h ∙ ap (λ (bs : List Binding). Some (a, at rest bs)) (sym (append-nil names))

  -- no name more behind those of a part
  pub reads_no_more : (front : List Token) (new : List Binding) (a : A) (names : List Binding) (rest : List Token) → Reads read front (new ++ []) a names rest → Reads read front new a names rest
  reads_no_more front new a names rest h = h ∙ ap (λ (bs : List Binding). Some (a, at rest (names ++ bs))) (append-nil new)

module _ {A B : Type 0} (read : Reader A) (go : A → Reader B) where
  -- a part and what stands behind it
  pub part_then : (front more : List Token) (new further : List Binding) (a : A) (b : B) (names : List Binding) (rest : List Token)
      → Reads read front new a names (more ++ rest) → Reads (go a) more further b (names ++ new) rest → Reads (bind read go) (front ++ more) (new ++ further) b names rest
  part_then front more new further a b names rest first second =
      ap (λ (ts : List Token). bind read go (at ts names)) (append_assoc front more rest)
      ∙ bind_some read go (at (front ++ (more ++ rest)) names) a (at (more ++ rest) (names ++ new)) first ∙ second
      ∙ ap (λ (bs : List Binding). Some (b, at rest bs)) (append_assoc names new further)

  -- a part behind which nothing is read
  pub part_last : (front : List Token) (new : List Binding) (a : A) (b : B) (names : List Binding) (rest : List Token)
      → Reads read front new a names rest → go a (at rest (names ++ new)) ≡ Some (b, at rest (names ++ new)) → Reads (bind read go) front new b names rest
  part_last front new a b names rest first second = bind_some read go (at (front ++ rest) names) a (at rest (names ++ new)) first ∙ second

module _ {B : Type 0} (go : ℕ → Reader B) where
  pub mark_then : (p : Punct) (line : ℕ) (more : List Token) (new : List Binding) (b : B) (names : List Binding) (rest : List Token)
      → Reads (go line) more new b names rest → Reads (bind (mark p) go) (token (kind.Mark p) line ∷ more) new b names rest
  mark_then p line more new b names rest second =
      bind_some (mark p) go (at (token (kind.Mark p) line ∷ (more ++ rest)) names) line (at (more ++ rest) names) (mark_reads p line (more ++ rest) names) ∙ second

  -- the last token of a sequence
  pub mark_last : (p : Punct) (line : ℕ) (b : B) (names : List Binding) (rest : List Token)
      → go line (at rest names) ≡ Some (b, at rest names) → Reads (bind (mark p) go) (token (kind.Mark p) line ∷ []) [] b names rest
  mark_last p line b names rest second =
      reads_none (bind (mark p) go) (token (kind.Mark p) line ∷ []) b names rest
      (bind_some (mark p) go (at (token (kind.Mark p) line ∷ rest) names) line (at rest names) (mark_reads p line rest names) ∙ second)

module _ {B : Type 0} (go : Punct × ℕ → Reader B) where
  pub operator_then : (p : Punct) (line : ℕ) (more : List Token) (new : List Binding) (b : B) (names : List Binding) (rest : List Token)
      → Reads (go (p, line)) more new b names rest → Reads (bind operator go) (token (kind.Mark p) line ∷ more) new b names rest
  operator_then p line more new b names rest second =
      bind_some operator go (at (token (kind.Mark p) line ∷ (more ++ rest)) names) (p, line) (at (more ++ rest) names) (operator_reads p line (more ++ rest) names) ∙ second

-- a part, a closing mark, and what is made of both
pub part_closed : {A B : Type 0} (read : Reader A) (made : A → ℕ → B) (p : Punct) (line : ℕ) (front : List Token) (new : List Binding) (a : A) (names : List Binding) (rest : List Token)
    → Reads read front new a names (token (kind.Mark p) line ∷ rest)
    → Reads (bind read (λ a. bind (mark p) (λ last. λ s. Some (made a last, s)))) (front ++ token (kind.Mark p) line ∷ []) new (made a line) names rest
part_closed read made p line front new a names rest first =
    reads_no_more (bind read (λ a. bind (mark p) (λ last. λ s. Some (made a last, s)))) (front ++ token (kind.Mark p) line ∷ []) new (made a line) names rest
    (part_then read (λ a. bind (mark p) (λ last. λ s. Some (made a last, s))) front (token (kind.Mark p) line ∷ []) new [] a (made a line) names rest first
    (mark_last (λ last. λ s. Some (made a last, s)) p line (made a line) (names ++ new) rest refl))

-- ---- what ends an expression

pub weaker : (a b : ℕ) (rest : List Token) → a ≤ b → EndsExpr a rest → EndsExpr b rest
weaker a b rest le ends = record { front = ends.front; weak = let w = ends.weak in omega (arith, w, le); no_brace = ends.no_brace }

-- a mark in front ends an expression of a level
pub ends_at : (p : Punct) (line : ℕ) (more : List Token) (least : ℕ) → strength (continuation_of_mark p) < least → same_mark p punct.LeftBrace ≡ false
    → EndsExpr least (token (kind.Mark p) line ∷ more)
ends_at p line more least weak none = record { front = record { punct = p; line = line; more = more; is = refl }; weak = weak; no_brace = none }

-- a mark that continues nothing
pub ends_by : (p : Punct) (line : ℕ) (more : List Token) (least : ℕ) → 1 ≤ least → continuation_of_mark p ≡ Nothing → same_mark p punct.LeftBrace ≡ false
    → EndsExpr least (token (kind.Mark p) line ∷ more)
ends_by p line more least some none no_brace =
    let weak : strength (continuation_of_mark p) ≡ 0 = ap strength none in
    ends_at p line more least (omega (arith, weak, some)) no_brace
