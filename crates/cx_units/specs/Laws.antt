-- Laws of the first rule that units break.
use Rattle.std.specs.Prelude.{◌≡◌, ℕ, List}
use Rattle.cr_base.specs.declared.refusal.Refusal.{Refusal}
use Rattle.cx_core.specs.Trees.{CUnit}
use Rattle.cx_units.specs.Broken.{AreUnbroken, FirstBroken}

-- units that break no rule have no first broken rule
abbrev pub UnbrokenBreaksNone : Type 0
UnbrokenBreaksNone = (units : List (List ℕ)) (cores : List CUnit) (refusal : Refusal) → AreUnbroken units cores → FirstBroken units refusal → ⊥

-- the causes exclude each other: two first broken rules are one rule of one unit
abbrev pub OneIsFirst : Type 0
OneIsFirst = (units : List (List ℕ)) (one other : Refusal) → FirstBroken units one → FirstBroken units other → (one.rule ≡ other.rule) × (one.unit ≡ other.unit)

-- units mean one list of typed units
abbrev pub OneMeaning : Type 0
OneMeaning = (units : List (List ℕ)) (ones others : List CUnit) → AreUnbroken units ones → AreUnbroken units others → ones ≡ others
