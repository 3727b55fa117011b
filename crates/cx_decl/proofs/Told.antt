-- What the walk that stops at the first broken node answers says what is broken of all nodes of a unit.
use Rattle.std.proofs.Common.{◌≡◌, refl, sym, ◌∙◌, Option, None, Some, Result, Ok, Err}
use Rattle.cr_base.specs.declared.refusal.Refusal.{Refusal}
use Rattle.cr_base.specs.declared.refusal.Stop.{Stop}
use Rattle.cx_core.specs.declared.unit.CoreUnit.{CoreUnit}
use Rattle.cx_core.specs.Trees.{CUnit}
use Rattle.cx_core.specs.Views.{view_unit}
use Rattle.cx_decl.specs.Tells.{TellsUnit, ChecksUnit, meant_by}
use Rattle.cx_rules.specs.Readings.{CSeen, first_broken, CChecked, stops, fine, verdict_by, verdict}

meant_is : (seen : CSeen CUnit) (found : Option Refusal) (meaning : CUnit) → meant_by (verdict_by seen found) ≡ Some meaning → (found ≡ None) × (meaning ≡ seen.meaning)
meant_is seen None meaning e = (refl, cc)
meant_is seen (Some refusal) meaning e = absurd cc

stops_by : (seen : CSeen CUnit) (found : Option Refusal) (refusal : Refusal) → verdict_by seen found ≡ stops refusal → found ≡ Some refusal
stops_by seen None refusal e = absurd cc
stops_by seen (Some other) refusal e = cc

pub unit_told : (result : Result CoreUnit Stop) (seen : CSeen CUnit) → ChecksUnit result (verdict seen) → TellsUnit result seen
unfolding verdict
unit_told (Ok value) seen checks = meant_is seen (first_broken seen.nodes) (view_unit value) checks
unit_told (Err why) seen checks = λ refusal is. stops_by seen (first_broken seen.nodes) refusal (checks refusal is)
