-- What is read, by the sign that stands ahead.
use Rattle.std.proofs.Common.{◌≡◌, drop, refl, sym, ap, ◌∙◌}
use Rattle.rs_expr.specs.Exprs.{base, base_by, between, continuation, continuation_by, expr_by, expr_from, local, name_by, named, operand}
use Rattle.rs_expr.specs.Reading.{Toks, Reader, read_of}
use Rattle.rs_expr.specs.Signs.{sign_at}
use Rattle.rs_expr.specs.declared.sign.Sign.{Sign}
use Rattle.rs_expr.specs.declared.sign.Sign.TheVariants as of
use Rattle.rs_text.specs.Tree.{Expr}

pub expr_at : (sign : Sign) (below : Reader Expr) (tokens : Toks) → sign_at tokens ≡ sign → expr_by sign below tokens ≡ expr_from below tokens
unfolding expr_from
expr_at sign below tokens e = sym (ap (λ one. expr_by one below tokens) e)

pub other_expr : (sign : Sign) (below : Reader Expr) (tokens : Toks) → (sign ≡ of.If → ⊥) → (sign ≡ of.Minus → ⊥) → (sign ≡ of.Bang → ⊥) → (sign ≡ of.Star → ⊥) →
    between below tokens ≡ expr_by sign below tokens
other_expr of.If below tokens not_if not_minus not_bang not_star = absurd (not_if refl)
other_expr of.Minus below tokens not_if not_minus not_bang not_star = absurd (not_minus refl)
other_expr of.Bang below tokens not_if not_minus not_bang not_star = absurd (not_bang refl)
other_expr of.Star below tokens not_if not_minus not_bang not_star = absurd (not_star refl)
other_expr _ below tokens not_if not_minus not_bang not_star = refl

pub base_at : (sign : Sign) (below : Reader Expr) (tokens : Toks) → sign_at tokens ≡ sign → base_by sign below tokens ≡ base below tokens
unfolding base
base_at sign below tokens e = sym (ap (λ one. base_by one below tokens) e)

pub other_base : (sign : Sign) (below : Reader Expr) (tokens : Toks) → (sign ≡ of.LeftParenthesis → ⊥) → (sign ≡ of.Number → ⊥) → (sign ≡ of.True → ⊥) → (sign ≡ of.False → ⊥) → (sign ≡ of.NoneWord → ⊥) → (sign ≡ of.Crate → ⊥) →
    named below tokens ≡ base_by sign below tokens
other_base of.LeftParenthesis below tokens not_leftparenthesis not_number not_true not_false not_noneword not_crate = absurd (not_leftparenthesis refl)
other_base of.Number below tokens not_leftparenthesis not_number not_true not_false not_noneword not_crate = absurd (not_number refl)
other_base of.True below tokens not_leftparenthesis not_number not_true not_false not_noneword not_crate = absurd (not_true refl)
other_base of.False below tokens not_leftparenthesis not_number not_true not_false not_noneword not_crate = absurd (not_false refl)
other_base of.NoneWord below tokens not_leftparenthesis not_number not_true not_false not_noneword not_crate = absurd (not_noneword refl)
other_base of.Crate below tokens not_leftparenthesis not_number not_true not_false not_noneword not_crate = absurd (not_crate refl)
other_base _ below tokens not_leftparenthesis not_number not_true not_false not_noneword not_crate = refl

pub name_at : (sign : Sign) (below : Reader Expr) (tokens : Toks) → sign_at (drop 1 tokens) ≡ sign → name_by sign below tokens ≡ named below tokens
unfolding named
name_at sign below tokens e = sym (ap (λ one. name_by one below tokens) e)

pub other_name : (sign : Sign) (below : Reader Expr) (tokens : Toks) → (sign ≡ of.PathMark → ⊥) → (sign ≡ of.LeftParenthesis → ⊥) →
    local tokens ≡ name_by sign below tokens
other_name of.PathMark below tokens not_pathmark not_leftparenthesis = absurd (not_pathmark refl)
other_name of.LeftParenthesis below tokens not_pathmark not_leftparenthesis = absurd (not_leftparenthesis refl)
other_name _ below tokens not_pathmark not_leftparenthesis = refl

pub between_at : (sign : Sign) (left : Expr) (below : Reader Expr) (tokens after : Toks) → operand below tokens ≡ (left, after) → sign_at after ≡ sign →
    continuation_by sign left below after ≡ between below tokens
unfolding between continuation
between_at sign left below tokens after e s =
    sym (ap (λ (r : Expr × Toks). continuation r.0 below r.1) e ∙ ap (λ one. continuation_by one left below after) s)

pub left_alone : (sign : Sign) (left : Expr) (below : Reader Expr) (tokens : Toks) → (sign ≡ of.As → ⊥) → (sign ≡ of.AndAnd → ⊥) → (sign ≡ of.OrOr → ⊥) → (sign ≡ of.Star → ⊥) → (sign ≡ of.Minus → ⊥) → (sign ≡ of.OtherMark → ⊥) →
    read_of left tokens ≡ continuation_by sign left below tokens
left_alone of.As left below tokens not_as not_andand not_oror not_star not_minus not_othermark = absurd (not_as refl)
left_alone of.AndAnd left below tokens not_as not_andand not_oror not_star not_minus not_othermark = absurd (not_andand refl)
left_alone of.OrOr left below tokens not_as not_andand not_oror not_star not_minus not_othermark = absurd (not_oror refl)
left_alone of.Star left below tokens not_as not_andand not_oror not_star not_minus not_othermark = absurd (not_star refl)
left_alone of.Minus left below tokens not_as not_andand not_oror not_star not_minus not_othermark = absurd (not_minus refl)
left_alone of.OtherMark left below tokens not_as not_andand not_oror not_star not_minus not_othermark = absurd (not_othermark refl)
left_alone _ left below tokens not_as not_andand not_oror not_star not_minus not_othermark = refl
