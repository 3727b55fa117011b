-- Laws of the first rule that the units of a job break.
use Rattle.std.specs.Prelude.{◌≡◌, List}
use Rattle.cr_base.specs.declared.refusal.Refusal.{Refusal}
use Rattle.straight_core.specs.Trees.{CProgram}
use Rattle.shelf.specs.declared.file.File.{File}
use Rattle.front.specs.Refusals.{CoreOf, FirstBroken}

-- units that have a program have no first broken rule
abbrev pub TranslatedBreakNone : Type 0
TranslatedBreakNone = (units : List File) (program : CProgram) (refusal : Refusal) → CoreOf units program → FirstBroken units refusal → ⊥

-- the causes exclude each other: two first broken rules are one rule of one unit
abbrev pub OneIsFirst : Type 0
OneIsFirst = (units : List File) (one other : Refusal) → FirstBroken units one → FirstBroken units other → (one.rule ≡ other.rule) × (one.unit ≡ other.unit)
