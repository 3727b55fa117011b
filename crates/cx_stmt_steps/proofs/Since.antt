-- The objects of compound literals, by how many literals there were before.
use Rattle.std.proofs.Common.{◌≡◌, refl, ap, ◌∙◌, Bool, true, false, List, [], ◌∷◌, length, drop, is_none, if◌then◌else◌}
use Rattle.cx_rules.specs.Scope.{CMade, CScope}
use Rattle.cx_rules.specs.UnitWalk.{literals_since}
use Rattle.cx_contents.specs.Contents.{block_literals}
use Rattle.cx_stmt_steps.specs.Literals.{literals_from}

-- behind none
all_since : (scope : CScope) (list : List CMade) → block_literals list ≡ literals_since (record scope { literals = [] }) (record scope { literals = list })
all_since scope [] = refl
all_since scope (made ∷ others) =
    ap (λ objects. if is_none made.fixed then made.object ∷ objects else objects) (all_since scope others)

pub since_is : (before scope : CScope) → literals_from (length before.literals) scope ≡ literals_since before scope
since_is before scope = all_since scope (drop (length before.literals) scope.literals)
