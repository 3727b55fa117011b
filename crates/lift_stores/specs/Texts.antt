-- What is written for stores, by itself.
use Rattle.std.specs.Prelude.{ℕ, suc, ◌||◌, Bool, true, false, if◌then◌else◌, List, [], ◌∷◌, ◌++◌}
use Rattle.lift_exprs.specs.Names.{Names}
use Rattle.lift_exprs.specs.Stores.{Target, Change, is_field, settled, taken, taken_value, target_type, given_where, old_value, changed, stores}
use Rattle.lift_exprs.specs.Written.{temporary_place}
use Rattle.lift_forms.specs.Given.{Given, nothing, value}
use Rattle.lift_forms.specs.Operators.{given_value}
use Rattle.lift_stores.specs.Views.{Text}
use Rattle.rs_text.specs.Tree.{Place, Expr, Read, Stmt, Assign}

abbrev pub then_does : List Stmt → Given → Text → Text
then_does more given one = record { body = one.body ++ more; given = given; next = one.next }

abbrev pub then_takes : List Stmt → Given → Text → Text
then_takes more given one = record { body = one.body ++ more; given = given; next = suc one.next }

-- a value is held and stored
abbrev pub held_store : Names → (used : Bool) → Target → Expr → Text → Text
held_store names used target e one =
    let temporary = temporary_place names one.next in
    then_takes (taken temporary target (settled used target e) ∷ stores target (taken_value temporary target)) (given_where used (taken_value temporary target)) one

-- what was computed is stored, and given where it is used
abbrev pub stored : Names → (used : Bool) → Target → Expr → Text → Text
stored names used target e one =
    if used || is_field target then held_store names used target e one else then_does (stores target e) nothing one

abbrev pub changed_behind : Names → Target → Change → Text → Text
changed_behind names target change one =
    let temporary = temporary_place names one.next in
    then_takes (Assign temporary (given_value (old_value target)) ∷ stores target (changed change (target_type target) (value (Read temporary)))) (value (Read temporary)) one
