-- Initialisers whose expressions are typed (ISO C99, 6.7.8).
use Rattle.std.specs.Prelude.{ℕ, List}
use Rattle.cr_base.specs.declared.refusal.Place.{Place as TextPlace}
use Rattle.cx_core.specs.Trees.{CExpr}
use Rattle.cx_place.specs.declared.given.To.{To}

mutual
  pub data CGiven : Type 0 where
    -- a value
    given_value : CExpr → CGiven
    -- string literals beside each other: their bytes with one zero byte at their end, the number that their object has where they
    -- fill no array, and where they stand
    given_text : (bytes : List ℕ) → (object : ℕ) → TextPlace → CGiven
    -- a list in braces
    given_list : CEntries → CGiven

  pub data CEntries : Type 0 where
    no_entries : CEntries
    -- the designators of an entry, which may be none, and what is given behind them
    more_entries : (at : List To) → (given : CGiven) → (others : CEntries) → CEntries
