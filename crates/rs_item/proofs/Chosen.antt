-- What a statement is, by the sign that it begins with.
use Rattle.std.proofs.Common.{◌≡◌, List, refl, sym, ap}
use Rattle.rs_expr.specs.Reading.{Toks, Reader}
use Rattle.rs_expr.specs.Signs.{sign_at}
use Rattle.rs_expr.specs.declared.sign.Sign.{Sign}
use Rattle.rs_expr.specs.declared.sign.Sign.TheVariants as of
use Rattle.rs_item.specs.Stmts.{expr_stmt, stmt_by, stmt_from}
use Rattle.rs_text.specs.Tree.{Stmt}

pub stmt_at : (sign : Sign) (below : Reader (List Stmt)) (tokens : Toks) → sign_at tokens ≡ sign → stmt_by sign below tokens ≡ stmt_from below tokens
unfolding stmt_from
stmt_at sign below tokens e = sym (ap (λ one. stmt_by one below tokens) e)

pub other_stmt : (sign : Sign) (below : Reader (List Stmt)) (tokens : Toks) → (sign ≡ of.If → ⊥) → (sign ≡ of.Loop → ⊥) → (sign ≡ of.Label → ⊥) → (sign ≡ of.Match → ⊥) → (sign ≡ of.Break → ⊥) → (sign ≡ of.Continue → ⊥) → (sign ≡ of.Return → ⊥) → (sign ≡ of.Name → ⊥) →
    expr_stmt tokens ≡ stmt_by sign below tokens
other_stmt of.If below tokens not_if not_loop not_label not_match not_break not_continue not_return not_name = absurd (not_if refl)
other_stmt of.Loop below tokens not_if not_loop not_label not_match not_break not_continue not_return not_name = absurd (not_loop refl)
other_stmt of.Label below tokens not_if not_loop not_label not_match not_break not_continue not_return not_name = absurd (not_label refl)
other_stmt of.Match below tokens not_if not_loop not_label not_match not_break not_continue not_return not_name = absurd (not_match refl)
other_stmt of.Break below tokens not_if not_loop not_label not_match not_break not_continue not_return not_name = absurd (not_break refl)
other_stmt of.Continue below tokens not_if not_loop not_label not_match not_break not_continue not_return not_name = absurd (not_continue refl)
other_stmt of.Return below tokens not_if not_loop not_label not_match not_break not_continue not_return not_name = absurd (not_return refl)
other_stmt of.Name below tokens not_if not_loop not_label not_match not_break not_continue not_return not_name = absurd (not_name refl)
other_stmt _ below tokens not_if not_loop not_label not_match not_break not_continue not_return not_name = refl
