-- Units that are linked, and why units aren't.
use Rattle.std.specs.Prelude.{◌≡◌, ℕ, List, Some, ⊤}
use Rattle.cr_base.specs.declared.refusal.Stop.{Stop}
use Rattle.cr_base.specs.declared.refusal.Stop.TheVariants.{Refused, Memory}
use Rattle.cx_core.specs.Trees.{CUnit}
use Rattle.cx_links.specs.Rules.{broken_links}
use Rattle.cx_sound.specs.Sound.{MeanUnits, BreakNothing}

-- each unit is what some bytes mean that break no rule by themselves, under its number in the list
abbrev pub AreChecked : List CUnit → Type 0
AreChecked units = (given : List (List ℕ)) × MeanUnits 0 given units

-- and they break no rule together
abbrev pub AreUnbroken : List CUnit → Type 0
AreUnbroken units = (given : List (List ℕ)) × BreakNothing given units

-- by the first rule that they break together, or for want of memory
abbrev pub StopsLinking : List CUnit → Stop → Type 0
StopsLinking units (Refused refusal) = broken_links units ≡ Some refusal
StopsLinking units Memory = ⊤
