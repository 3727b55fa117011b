-- Readers of lists.
use Rattle.std.specs.Prelude.{ℕ, zero, suc, Bool, not, max, if◌then◌else◌, List, [], ◌∷◌, ◌++◌, length, Some, None}
use Rattle.cx_lex.specs.declared.token.Punct.TheVariants.{Comma}
use Rattle.straight_parse.specs.declared.sight.Sight.{Sight}
use Rattle.straight_parse.specs.Reading.{Reader, bind, ◌>>=◌, pure}
use Rattle.straight_parse.specs.Sights.{sight, mark, shows_mark}

-- Steps one after the other, until `stops` holds of what stands ahead; at most so many turns.
module _ {A : Type 0} (stops : Sight → Bool) (step : A → Reader A) where
  unfoldable pub many : ℕ → A → Reader A
  many zero all state = None
  many (suc turns) all state = if stops (sight state) then Some (all, state) else bind (step all) (many turns) state

  -- as many turns as there may be
  unfoldable pub many_ahead : A → Reader A
  many_ahead all state = many (suc (length state)) all state

-- a step that takes in an item
unfoldable pub taking : {A B : Type 0} → Reader A → (B → A → B) → B → Reader B
taking item add all = item >>= (λ a. pure (add all a))

-- What was read of a list: the items, the depth of the deepest of them, and the lines of the list's own tokens.
pub record ListRead (A : Type 0) : Type 0 where
  pub list : List A
  pub depth : ℕ
  pub lines : List ℕ

abbrev pub list_read : {A : Type 0} → List A → ℕ → List ℕ → ListRead A
list_read list depth lines = record { list = list; depth = depth; lines = lines }

-- a list of no item
abbrev pub listed_none : {A : Type 0} → List ℕ → ListRead A
listed_none lines = record { list = []; depth = 0; lines = lines }

-- with an item, of this depth
abbrev pub with_item : {A : Type 0} → ListRead A → A × ℕ → ListRead A
with_item all item = record { list = all.list ++ item.0 ∷ []; depth = max all.depth item.1; lines = all.lines }

-- with the line of a token
abbrev pub with_line : {A : Type 0} → ListRead A → ℕ → ListRead A
with_line all line = record { list = all.list; depth = all.depth; lines = all.lines ++ line ∷ [] }

-- with a comma's line and the item behind it
abbrev pub with_next : {A : Type 0} → ListRead A → ℕ × (A × ℕ) → ListRead A
with_next all next = with_item (with_line all next.0) next.1

abbrev pub stops_commas : Sight → Bool
stops_commas sight = not (shows_mark Comma sight)

-- a comma and an item
unfoldable pub comma_item : {A : Type 0} → Reader (A × ℕ) → Reader (ℕ × (A × ℕ))
comma_item item = mark Comma >>= (λ line. item >>= (λ a. pure (line, a)))

-- a comma and the item behind it, taken in
abbrev pub next_item : {A : Type 0} → Reader (A × ℕ) → ListRead A → Reader (ListRead A)
next_item item = taking (comma_item item) with_next

-- the items behind the first, each behind a comma
abbrev pub behind_commas : {A : Type 0} → Reader (A × ℕ) → ListRead A → Reader (ListRead A)
behind_commas item = many_ahead stops_commas (next_item item)
