-- What is kept of a head is enough for the end of its body.
use Rattle.std.proofs.Common.{◌≡◌, refl}
use Rattle.cx_core.specs.Trees.{CStmt}
use Rattle.cx_decl_steps.specs.Kept.{kept_of}
use Rattle.cx_decl_steps.specs.Steps.{body_ended}
use Rattle.cx_rules.specs.Readings.{Check, check_gives, check_chain, check_here, check_becomes, check_look}
use Rattle.cx_rules.specs.Scope.{CScope}
use Rattle.cx_rules.specs.UnitWalk as unit
use Rattle.cx_rules.specs.UnitWalk.{CHead}

pub body_is : (head : CHead) (body : CStmt) (scope : CScope) →
    body_ended (kept_of head) body scope ≡ unit.body_ends Check check_gives check_chain check_here check_becomes check_look head body scope
body_is head body scope = refl
