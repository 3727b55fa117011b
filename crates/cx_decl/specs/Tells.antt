-- What the check of a unit answers, by all its nodes.
use Rattle.std.specs.Prelude.{◌≡◌, Option, None, Some, Result, Ok, Err}
use Rattle.cr_base.specs.declared.refusal.Refusal.{Refusal}
use Rattle.cr_base.specs.declared.refusal.Stop.{Stop}
use Rattle.cr_base.specs.declared.refusal.Stop.TheVariants as stop
use Rattle.cx_core.specs.declared.unit.CoreUnit.{CoreUnit}
use Rattle.cx_core.specs.Trees.{CUnit}
use Rattle.cx_core.specs.Views.{view_unit}
use Rattle.cx_rules.specs.Readings.{CChecked, stops, fine, CSeen, first_broken}

-- Either no node is broken, and the answer is the typed unit; or the answer is the first broken node. Want of memory may come in place of
-- both.
abbrev pub TellsUnit : Result CoreUnit Stop → CSeen CUnit → Type 0
TellsUnit (Ok value) seen = (first_broken seen.nodes ≡ None) × (view_unit value ≡ seen.meaning)
TellsUnit (Err why) seen = (refusal : Refusal) → why ≡ stop.Refused refusal → first_broken seen.nodes ≡ Some refusal

-- what the walk up to the first broken node means, where no node is broken
abbrev pub meant_by : CChecked CUnit → Option CUnit
meant_by (stops refusal) = None
meant_by (fine meaning scope) = Some meaning

-- the answer is what that walk gives, but for the scope behind it
abbrev pub ChecksUnit : Result CoreUnit Stop → CChecked CUnit → Type 0
ChecksUnit (Ok value) walked = meant_by walked ≡ Some (view_unit value)
ChecksUnit (Err why) walked = (refusal : Refusal) → why ≡ stop.Refused refusal → walked ≡ stops refusal
