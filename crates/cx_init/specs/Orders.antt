-- How what is kept is found and put in order. Named by the contracts of parts alone.
use Rattle.std.specs.Prelude.{ℕ, suc, Bool, true, not, ◌&&◌, if◌then◌else◌, List, [], ◌∷◌, length, Some}
use Rattle.cx_core.specs.Trees.{CTy, CTypes}
use Rattle.cx_init.specs.Ascending.{stands_behind}
use Rattle.cx_rules.specs.Initial.{CStored, kept_by, comes_before, put_in_order, takes_away}

-- for each value whether it is kept
abbrev pub kept_flags : CTypes → CTy → List CStored → List Bool
kept_flags types type [] = []
kept_flags types type (one ∷ others) = kept_by types type others one ∷ kept_flags types type others

-- the values whose flag is set
abbrev pub chosen : List Bool → List CStored → List CStored
chosen (flag ∷ flags) (one ∷ others) = if flag then one ∷ chosen flags others else chosen flags others
chosen _ _ = []

-- how many of those in order stand behind a part, from the first on that doesn't stand before it
abbrev pub place_among : List CStored → List ℕ → ℕ
place_among [] path = 0
place_among (one ∷ others) path = if comes_before one.path path then place_among others path else suc (length others)

-- values, each put in its place among those behind it that are in order
abbrev pub ordered_onto : List CStored → List CStored → List CStored
ordered_onto [] sorted = sorted
ordered_onto (one ∷ others) sorted = put_in_order one (ordered_onto others sorted)

-- a later value stands behind an earlier one, and leaves it
abbrev pub rises : CTypes → CTy → (earlier later : List ℕ) → Bool
rises types type earlier later = stands_behind earlier later && not (takes_away types (Some type) later earlier)

-- the next one, where there is one, stands behind a value and leaves it
abbrev pub rises_to : CTypes → CTy → CStored → List CStored → Bool
rises_to types type one [] = true
rises_to types type one (next ∷ others) = rises types type one.path next.path

-- each value stands behind the one before, and leaves it
abbrev pub all_rise : CTypes → CTy → List CStored → Bool
all_rise types type [] = true
all_rise types type (one ∷ others) = rises_to types type one others && all_rise types type others

-- how many values at the front rise, each to the next one
abbrev pub rising_front : CTypes → CTy → List CStored → ℕ
rising_front types type [] = 0
rising_front types type (one ∷ others) = if rises_to types type one others then suc (rising_front types type others) else 1
