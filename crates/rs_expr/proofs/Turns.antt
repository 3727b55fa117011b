-- One turn of each loop, and one level of each reader.
use Rattle.std.proofs.Common.{◌≡◌, ℕ, zero, suc, ◌-◌, ◌<◌, Bool, true, false, List, refl, sym, ap, ◌∙◌, arith}
use Rattle.std.proofs.lemmas.Bool.{cond-true, cond-false}
use Rattle.rs_expr.specs.Reading.{Toks, Reader, read_of, added, many}
use Rattle.rs_expr.specs.Signs.{sign_at}
use Rattle.rs_expr.specs.Exprs.{is_dot, tail, tails, expr, expr_from}
use Rattle.rs_text.specs.Tree.{Expr, NoFunction, Boolean}
use Rattle.rs_expr.specs.Types.{ty, ty_from}
use Rattle.rs_expr.specs.declared.sign.Sign.{Sign}

module _ {A : Type 0} (stops : Sign → Bool) (read : Reader A) where
  pub many_out : (turns : ℕ) (all : List A) (tokens : Toks) → turns ≡ 0 → many stops read turns all tokens ≡ read_of all tokens
  unfolding many
  many_out zero all tokens out = refl
  many_out (suc turns) all tokens out = absurd (omega (arith, out))

  pub many_stop : (turns : ℕ) (all : List A) (tokens : Toks) → stops (sign_at tokens) ≡ true → many stops read turns all tokens ≡ read_of all tokens
  unfolding many
  many_stop zero all tokens stop = refl
  many_stop (suc turns) all tokens stop = cond-true (stops (sign_at tokens)) _ _ stop

  pub many_goes : (turns : ℕ) (all : List A) (tokens : Toks) → 0 < turns → stops (sign_at tokens) ≡ false
      → many stops read turns all tokens ≡ many stops read (turns - 1) (added read all tokens).0 (added read all tokens).1
  unfolding many
  many_goes zero all tokens some stop = absurd (omega (arith, some))
  many_goes (suc turns) all tokens some stop =
      let e : turns ≡ suc turns - 1 = omega arith in
      cond-false (stops (sign_at tokens)) _ _ stop ∙ ap (λ (n : ℕ). many stops read n (added read all tokens).0 (added read all tokens).1) e

  -- one turn, as a loop takes it
  pub many_next : (turns left : ℕ) (all next : List A) (tokens after : Toks) → turns ≡ suc left → stops (sign_at tokens) ≡ false
      → added read all tokens ≡ read_of next after → many stops read left next after ≡ many stops read turns all tokens
  many_next turns left all next tokens after e go is =
      let some : 0 < turns = omega (arith, e) in
      let less : turns - 1 ≡ left = omega (arith, e) in
      sym (many_goes turns all tokens some go
      ∙ ap (λ (n : ℕ). many stops read n (added read all tokens).0 (added read all tokens).1) less
      ∙ ap (λ (r : List A × Toks). many stops read left r.0 r.1) is)

module _ (below : Reader Expr) where
  pub tails_out : (turns : ℕ) (operand : Expr) (tokens : Toks) → turns ≡ 0 → tails turns operand below tokens ≡ read_of operand tokens
  unfolding tails
  tails_out zero operand tokens out = refl
  tails_out (suc turns) operand tokens out = absurd (omega (arith, out))

  pub tails_stop : (turns : ℕ) (operand : Expr) (tokens : Toks) → is_dot (sign_at tokens) ≡ false → tails turns operand below tokens ≡ read_of operand tokens
  unfolding tails
  tails_stop zero operand tokens stop = refl
  tails_stop (suc turns) operand tokens stop = cond-false (is_dot (sign_at tokens)) _ _ stop

  pub tails_goes : (turns : ℕ) (operand : Expr) (tokens : Toks) → 0 < turns → is_dot (sign_at tokens) ≡ true
      → tails turns operand below tokens ≡ tails (turns - 1) (tail operand below tokens).0 below (tail operand below tokens).1
  unfolding tails
  tails_goes zero operand tokens some stop = absurd (omega (arith, some))
  tails_goes (suc turns) operand tokens some go =
      let e : turns ≡ suc turns - 1 = omega arith in
      cond-true (is_dot (sign_at tokens)) _ _ go ∙ ap (λ (n : ℕ). tails n (tail operand below tokens).0 below (tail operand below tokens).1) e

  pub tails_next : (turns left : ℕ) (operand next : Expr) (tokens after : Toks) → turns ≡ suc left → is_dot (sign_at tokens) ≡ true
      → tail operand below tokens ≡ read_of next after → tails left next below after ≡ tails turns operand below tokens
  tails_next turns left operand next tokens after e go is =
      let some : 0 < turns = omega (arith, e) in
      let less : turns - 1 ≡ left = omega (arith, e) in
      sym (tails_goes turns operand tokens some go
      ∙ ap (λ (n : ℕ). tails n (tail operand below tokens).0 below (tail operand below tokens).1) less
      ∙ ap (λ (r : Expr × Toks). tails left r.0 below r.1) is)

pub expr_some : (levels : ℕ) (tokens : Toks) → 0 < levels → expr levels tokens ≡ expr_from (expr (levels - 1)) tokens
unfolding expr
expr_some zero tokens some = absurd (omega (arith, some))
expr_some (suc levels) tokens some =
    let e : levels ≡ suc levels - 1 = omega arith in
    ap (λ (n : ℕ). expr_from (expr n) tokens) e

pub expr_none : (levels : ℕ) (tokens : Toks) → levels ≡ 0 → expr levels tokens ≡ read_of NoFunction tokens
unfolding expr
expr_none zero tokens none = refl
expr_none (suc levels) tokens none = absurd (omega (arith, none))

pub ty_none : (levels : ℕ) (tokens : Toks) → levels ≡ 0 → ty levels tokens ≡ read_of Boolean tokens
unfolding ty
ty_none zero tokens none = refl
ty_none (suc levels) tokens none = absurd (omega (arith, none))

pub ty_some : (levels : ℕ) (tokens : Toks) → 0 < levels → ty levels tokens ≡ ty_from (ty (levels - 1)) tokens
unfolding ty
ty_some zero tokens some = absurd (omega (arith, some))
ty_some (suc levels) tokens some =
    let e : levels ≡ suc levels - 1 = omega arith in
    ap (λ (n : ℕ). ty_from (ty n) tokens) e
