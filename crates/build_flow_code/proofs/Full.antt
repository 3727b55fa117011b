-- What is written for a full expression is what is written for it with what it is asked.
use Rattle.std.proofs.Common.{◌≡◌, ◌∙◌, ℕ, ◌+◌, length, ap}
use Rattle.cx_core.specs.Trees.{CExpr}
use Rattle.lift_exprs.specs.Lifted.{lifted, lifted_full}
use Rattle.lift_exprs.specs.Names.{Names}
use Rattle.lift_exprs.specs.Temporaries.{held_types}
use Rattle.lift_held.specs.Held.{full}
use Rattle.lift_held.specs.declared.asked.Asked.{Asked}
use Rattle.lift_stores.specs.Views.{Text, text_of}

pub full_is : (names : Names) (asked : Asked) (e : CExpr) (next : ℕ) (made : Text) → asked ≡ full e → made ≡ text_of (lifted names asked e next) → made ≡ text_of (lifted_full names e next)
full_is names asked e next made same is = is ∙ ap (λ one. text_of (lifted names one e next)) same

pub count_is : (names : Names) (asked : Asked) (e : CExpr) (number next : ℕ) → asked ≡ full e → next ≡ number + length (held_types names asked e) → next ≡ number + length (held_types names (full e) e)
count_is names asked e number next same is = is ∙ ap (λ one. number + length (held_types names one e)) same
