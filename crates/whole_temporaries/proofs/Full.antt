-- The temporaries of a full expression are those of it with what it is asked.
use Rattle.std.proofs.Common.{◌≡◌, ◌∙◌, List, ◌++◌, Result, Ok, Err, OnOk, ap}
use Rattle.cx_core.specs.Trees.{CExpr}
use Rattle.lift_exprs.specs.Names.{Names}
use Rattle.lift_exprs.specs.Temporaries.{held_types}
use Rattle.lift_held.specs.Held.{full}
use Rattle.lift_held.specs.declared.asked.Asked.{Asked}
use Rattle.rs_text.specs.Tree.{Ty}

pub full_types : {E : Type 0} (names : Names) (asked : Asked) (e : CExpr) (before after : List Ty) (result : Result (Unit {0}) E) → asked ≡ full e → OnOk result (after ≡ before ++ held_types names asked e) →
    OnOk result (after ≡ before ++ held_types names (full e) e)
full_types names asked e before after (Ok done) same is = is ∙ ap (λ (one : Asked). before ++ held_types names one e) same
full_types names asked e before after (Err why) same is = tt
