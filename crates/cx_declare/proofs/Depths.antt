-- What is asked for at a depth, by what is asked for one node less deep.
use Rattle.std.proofs.Common.{◌≡◌, ◌≢◌, ℕ, zero, suc, ◌-◌, ◌<◌, Result, Err, refl, arith, subst}
use Rattle.cx_cursor.specs.Reading.{State}
use Rattle.cx_cursor.specs.declared.fault.Fault.{Fault}
use Rattle.cx_expr.specs.Asked.{Tells}
use Rattle.cx_expr.specs.Knot.{above, readers}
use Rattle.cx_expr.specs.declared.wanted.Found.{Found}
use Rattle.cx_expr.specs.declared.wanted.Wanted.{Wanted}
use Rattle.cx_expr.specs.declared.wanted.Wanted.TheVariants as wanted

-- nothing is at most 0 nodes deep
pub none_told : (depth : ℕ) (asked : Wanted) (old : State) (fault : Fault) (new : State) → depth ≡ 0 → Tells (readers depth) depth asked old (Err fault) new
unfolding readers
none_told (suc depth) asked old fault new none = absurd (omega arith)
none_told zero (wanted.Expr least) old fault new none = λ _. refl
none_told zero wanted.TypeName old fault new none = λ _. refl
none_told zero wanted.Spec old fault new none = λ _. refl
none_told zero (wanted.Declarator form) old fault new none = λ _. refl
none_told zero wanted.List old fault new none = λ _. refl

pub above_told : (depth : ℕ) (asked : Wanted) (old : State) (result : Result Found Fault) (new : State) → 0 < depth
    → Tells (above (readers (depth - 1)) (depth - 1)) (suc (depth - 1)) asked old result new → Tells (readers depth) depth asked old result new
unfolding readers
above_told zero asked old result new some told = absurd (omega arith)
above_told (suc depth) asked old result new some told =
    let e : suc depth - 1 ≡ depth = omega arith in
    subst (λ (n : ℕ). Tells (above (readers n) n) (suc n) asked old result new) e told
