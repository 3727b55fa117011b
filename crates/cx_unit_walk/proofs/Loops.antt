-- What a loop over items has done.
use Rattle.std.proofs.Common.{◌≡◌, refl, ap, sym, ◌∙◌, List, [], ◌++◌, append_assoc}
use Rattle.cx_unit_walk.specs.Loops.{meant_done}
use Rattle.cx_rules.specs.Readings.{CChecked, stops, fine, check_behind}
use Rattle.cx_rules.specs.UnitWalk.{CMeant, meant_behind, nothing_meant}

behind_behind : (done one more : CMeant) → meant_behind (meant_behind done one) more ≡ meant_behind done (meant_behind one more)
behind_behind done one more =
    ap (λ stmts. record { stmts = stmts; objects = (done.objects ++ one.objects) ++ more.objects }) (append_assoc done.stmts one.stmts more.stmts)
    ∙ ap (λ objects. record { stmts = done.stmts ++ (one.stmts ++ more.stmts); objects = objects }) (append_assoc done.objects one.objects more.objects)

-- one more item stands behind what was done
pub one_done : (done one : CMeant) (walked : CChecked CMeant) →
    meant_done (meant_behind done one) walked ≡ meant_done done (check_behind walked (λ more. λ scope. fine (meant_behind one more) scope))
one_done done one (stops refusal) = refl
one_done done one (fine more scope) = ap (λ meant. fine meant scope) (behind_behind done one more)
