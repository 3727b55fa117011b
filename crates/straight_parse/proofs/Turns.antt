-- One turn of each loop of the readers.
use Rattle.std.proofs.Common.{◌≡◌, ℕ, zero, suc, ◌-◌, ◌<◌, Bool, true, false, Option, Some, None, refl, sym, ap, ◌∙◌, arith}
use Rattle.std.proofs.lemmas.Bool.{cond-true, cond-false}
use Rattle.straight_parse.specs.declared.sight.Sight.{Sight}
use Rattle.straight_parse.specs.Continuations.{continuation_of, goes_on}
use Rattle.straight_parse.specs.Declarators.{specs, some_specs, identifier, function, stops_functions, declarator_from, declarator, param_from, param}
use Rattle.straight_parse.specs.Exprs.{Measured, operation, climb, start, expr_from, expr}
use Rattle.straight_parse.specs.Lists.{many, many_ahead}
use Rattle.straight_parse.specs.Stmts.{block, block_from, stmt, stmt_from}
use Rattle.straight_parse.specs.Reading.{State, Reader, onward, bind}
use Rattle.straight_parse.specs.Sights.{sight}
use Rattle.straight_tree.specs.Levels.{level}

module _ {A : Type 0} (stops : Sight → Bool) (step : A → Reader A) where
  pub many_out : (turns : ℕ) (all : A) (state : State) → turns ≡ 0 → many stops step turns all state ≡ None
  unfolding many
  many_out zero all state out = refl
  many_out (suc turns) all state out = absurd (omega arith)

  pub many_stop : (turns : ℕ) (all : A) (state : State) → 0 < turns → stops (sight state) ≡ true → many stops step turns all state ≡ Some (all, state)
  unfolding many
  many_stop zero all state some stop = absurd (omega arith)
  many_stop (suc turns) all state some stop = cond-true (stops (sight state)) _ _ stop

  pub many_goes : (turns : ℕ) (all : A) (state : State) → 0 < turns → stops (sight state) ≡ false
      → many stops step turns all state ≡ bind (step all) (many stops step (turns - 1)) state
  unfolding many
  many_goes zero all state some stop = absurd (omega arith)
  many_goes (suc turns) all state some stop =
      let e : turns ≡ suc turns - 1 = omega arith in
      cond-false (stops (sight state)) _ _ stop ∙ ap (λ (n : ℕ). bind (step all) (many stops step n) state) e

  pub many_next : (turns rest : ℕ) (all next : A) (state after : State) → turns ≡ suc rest → stops (sight state) ≡ false → step all state ≡ Some (next, after)
      → many stops step rest next after ≡ many stops step turns all state
  unfolding many bind
  many_next turns rest all next state after e go read =
      sym (rw (e) (cond-false (stops (sight state)) _ _ go ∙ ap (λ (r : Option (A × State)). onward r (many stops step rest)) read))

module _ (below : ℕ → Reader Measured) (depth least : ℕ) where
  pub climb_out : (turns : ℕ) (left : Measured) (state : State) → turns ≡ 0 → climb below depth least turns left state ≡ None
  unfolding climb
  climb_out zero left state out = refl
  climb_out (suc turns) left state out = absurd (omega arith)

  pub climb_stop : (turns : ℕ) (left : Measured) (state : State) → 0 < turns → goes_on least (continuation_of (sight state)) (level left.0) ≡ false
      → climb below depth least turns left state ≡ Some (left, state)
  unfolding climb
  climb_stop zero left state some stop = absurd (omega arith)
  climb_stop (suc turns) left state some stop = cond-false (goes_on least (continuation_of (sight state)) (level left.0)) _ _ stop

  pub climb_goes : (turns : ℕ) (left : Measured) (state : State) → 0 < turns → goes_on least (continuation_of (sight state)) (level left.0) ≡ true
      → climb below depth least turns left state
      ≡ bind (operation below depth (continuation_of (sight state)) left) (λ next. climb below depth least (turns - 1) next) state
  unfolding climb
  climb_goes zero left state some go = absurd (omega arith)
  climb_goes (suc turns) left state some go =
      let e : turns ≡ suc turns - 1 = omega arith in
      cond-true (goes_on least (continuation_of (sight state)) (level left.0)) _ _ go
      ∙ ap (λ (n : ℕ). bind (operation below depth (continuation_of (sight state)) left) (λ next. climb below depth least n next) state) e

pub expr_none : (depth least : ℕ) (state : State) → depth ≡ 0 → expr depth least state ≡ None
unfolding expr
expr_none zero least state none = refl
expr_none (suc depth) least state none = absurd (omega arith)

pub expr_some : (depth least : ℕ) (state : State) → 0 < depth
    → expr depth least state ≡ bind (start (expr (depth - 1)) least) (λ left. climb (expr (depth - 1)) (depth - 1) least (suc (depth - 1)) left) state
unfolding expr expr_from
expr_some zero least state some = absurd (omega arith)
expr_some (suc depth) least state some =
    let e : depth ≡ suc depth - 1 = omega arith in
    ap (λ (n : ℕ). bind (start (expr n) least) (λ left. climb (expr n) n least (suc n) left) state) e

pub specs_none : (depth : ℕ) (state : State) → depth ≡ 0 → specs depth state ≡ None
unfolding specs
specs_none zero state none = refl
specs_none (suc depth) state none = absurd (omega arith)

pub specs_some : (depth : ℕ) (state : State) → 0 < depth → specs depth state ≡ some_specs state
unfolding specs
specs_some zero state some = absurd (omega arith)
specs_some (suc depth) state some = refl

pub declarator_none : (depth : ℕ) (state : State) → depth ≡ 0 → declarator depth state ≡ None
unfolding declarator
declarator_none zero state none = refl
declarator_none (suc depth) state none = absurd (omega arith)

pub declarator_some : (depth : ℕ) (state : State) → 0 < depth
    → declarator depth state ≡ bind identifier (λ of. many_ahead stops_functions (function (param (depth - 1)) (depth - 1)) of) state
unfolding declarator declarator_from
declarator_some zero state some = absurd (omega arith)
declarator_some (suc depth) state some =
    let e : depth ≡ suc depth - 1 = omega arith in
    ap (λ (n : ℕ). bind identifier (λ of. many_ahead stops_functions (function (param n) n) of) state) e

pub param_none : (depth : ℕ) (state : State) → depth ≡ 0 → param depth state ≡ None
unfolding param
param_none zero state none = refl
param_none (suc depth) state none = absurd (omega arith)

pub param_some : (depth : ℕ) (state : State) → 0 < depth → param depth state ≡ param_from (declarator (depth - 1)) (depth - 1) state
unfolding param
param_some zero state some = absurd (omega arith)
param_some (suc depth) state some =
    let e : depth ≡ suc depth - 1 = omega arith in
    ap (λ (n : ℕ). param_from (declarator n) n state) e

pub stmt_none : (depth : ℕ) (state : State) → depth ≡ 0 → stmt depth state ≡ None
unfolding stmt
stmt_none zero state none = refl
stmt_none (suc depth) state none = absurd (omega arith)

pub stmt_some : (depth : ℕ) (state : State) → 0 < depth → stmt depth state ≡ stmt_from (stmt (depth - 1)) (depth - 1) state
unfolding stmt
stmt_some zero state some = absurd (omega arith)
stmt_some (suc depth) state some =
    let e : depth ≡ suc depth - 1 = omega arith in
    ap (λ (n : ℕ). stmt_from (stmt n) n state) e

pub block_none : (depth : ℕ) (state : State) → depth ≡ 0 → block depth state ≡ None
unfolding block
block_none zero state none = refl
block_none (suc depth) state none = absurd (omega arith)

pub block_some : (depth : ℕ) (state : State) → 0 < depth → block depth state ≡ block_from (stmt (depth - 1)) state
unfolding block
block_some zero state some = absurd (omega arith)
block_some (suc depth) state some =
    let e : depth ≡ suc depth - 1 = omega arith in
    ap (λ (n : ℕ). block_from (stmt n) state) e
