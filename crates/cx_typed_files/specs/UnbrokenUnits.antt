-- Units that break no rule are typed (ISO C99, 6.9).
use Rattle.std.specs.Prelude.{◌≡◌, ℕ, List, None, All}
use Rattle.cx_core.specs.Linked.{IsTypedUnit}
use Rattle.cx_lex.specs.declared.token.Token.{Token}
use Rattle.cx_lex.specs.Tokens.{Spells}
use Rattle.cx_rules.specs.Units.{seen_unit, broken_unit}
use Rattle.cx_tree.specs.Derives.{Derives}
use Rattle.cx_tree.specs.Trees.{UnitTree}
use Rattle.cx_typed.specs.Constants.{IsByte}
use Rattle.cx_typed_files.specs.FileUnits.{AreSpelledExternals}

-- a unit that tokens can spell, in which no node is broken, means a typed one, under each number
abbrev pub UnbrokenUnitsAreTyped : Type 0
UnbrokenUnitsAreTyped = (number : ℕ) (tree : UnitTree) → AreSpelledExternals tree.parts → broken_unit number tree ≡ None → IsTypedUnit number (seen_unit number tree).meaning

-- so does the unit that the bytes of a file spell
abbrev pub ReadUnitsAreTyped : Type 0
ReadUnitsAreTyped = (number : ℕ) (bytes : List ℕ) (tokens : List Token) (tree : UnitTree) → All IsByte bytes → Spells bytes tokens → Derives tokens tree → broken_unit number tree ≡ None
    → IsTypedUnit number (seen_unit number tree).meaning
