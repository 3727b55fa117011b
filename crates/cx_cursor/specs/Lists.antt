-- Readers of lists.
use Rattle.std.specs.Prelude.{ℕ, zero, suc, Bool, not, if◌then◌else◌, List, [], ◌∷◌, ◌++◌, length, Some, None}
use Rattle.cx_cursor.specs.Reading.{State, Reader, bind, ◌>>=◌, pure}
use Rattle.cx_cursor.specs.Sights.{sees_mark, mark}
use Rattle.cx_lex.specs.declared.token.Punct.TheVariants.{Comma}

-- Steps one after the other, until `stops` holds of what stands ahead; at most so many turns.
module _ {A : Type 0} (stops : A → State → Bool) (step : A → Reader A) where
  unfoldable pub many : ℕ → A → Reader A
  many zero all state = None
  many (suc turns) all state = if stops all state then Some (all, state) else bind (step all) (many turns) state

  -- as many turns as there may be
  unfoldable pub many_ahead : A → Reader A
  many_ahead all state = many (suc (length state.tokens)) all state

-- a step that takes in an item
unfoldable pub taking : {A B : Type 0} → Reader A → (B → A → B) → B → Reader B
taking item add all = item >>= (λ a. pure (add all a))

-- What was read of a list: the items, and the lines of the list's own tokens.
pub record ListRead (A : Type 0) : Type 0 where
  pub list : List A
  pub lines : List ℕ

abbrev pub list_read : {A : Type 0} → List A → List ℕ → ListRead A
list_read list lines = record { list = list; lines = lines }

-- with an item
abbrev pub with_item : {A : Type 0} → ListRead A → A → ListRead A
with_item all item = record { list = all.list ++ item ∷ []; lines = all.lines }

-- with the line of a token
abbrev pub with_line : {A : Type 0} → ListRead A → ℕ → ListRead A
with_line all line = record { list = all.list; lines = all.lines ++ line ∷ [] }

-- with a comma's line and the item behind it
abbrev pub with_next : {A : Type 0} → ListRead A → ℕ × A → ListRead A
with_next all next = with_item (with_line all next.0) next.1

-- a comma and an item
unfoldable pub comma_item : {A : Type 0} → Reader A → Reader (ℕ × A)
comma_item item = mark Comma >>= (λ line. item >>= (λ a. pure (line, a)))

-- a comma and the item behind it, taken in
abbrev pub next_item : {A : Type 0} → Reader A → ListRead A → Reader (ListRead A)
next_item item = taking (comma_item item) with_next

-- no comma stands ahead
abbrev pub no_comma : {A : Type 0} → A → State → Bool
no_comma all state = not (sees_mark Comma state)

-- the items behind the first, each behind a comma
abbrev pub behind_commas : {A : Type 0} → Reader A → ListRead A → Reader (ListRead A)
behind_commas item = many_ahead no_comma (next_item item)
