-- The end of a unit behind its tentative definitions.
use Rattle.std.proofs.Common.{◌≡◌, ap}
use Rattle.cr_base.specs.declared.refusal.Refusal.{Refusal}
use Rattle.cx_decl_steps.specs.Steps as steps
use Rattle.cx_rules.specs.Declare.{unit_of}
use Rattle.cx_rules.specs.Readings.{stops, fine, check_behind, check_gives, check_chain, check_here}
use Rattle.cx_rules.specs.Scope.{CScope}
use Rattle.cx_rules.specs.UnitWalk.{tentative_things}

pub unit_stops : (scope : CScope) (refusal : Refusal) → steps.tentatives_seen (tentative_things scope.things) scope ≡ stops refusal → steps.unit_ends scope ≡ stops refusal
unfolding check_chain check_here
unit_stops scope refusal e = ap (λ walked. check_behind walked (λ _. check_gives _ (unit_of scope))) e

pub unit_fine : (scope : CScope) → steps.tentatives_seen (tentative_things scope.things) scope ≡ fine tt scope → steps.unit_ends scope ≡ fine (unit_of scope) scope
unfolding check_chain check_here check_gives
unit_fine scope e = ap (λ walked. check_behind walked (λ _. check_gives _ (unit_of scope))) e
