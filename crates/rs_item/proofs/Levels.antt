-- One level of blocks.
use Rattle.std.proofs.Common.{◌≡◌, ℕ, zero, suc, ◌-◌, ◌<◌, [], refl, ap, arith}
use Rattle.rs_expr.specs.Reading.{Toks, read_of}
use Rattle.rs_item.specs.Stmts.{read_stmts, stmts_from}

pub stmts_none : (levels : ℕ) (tokens : Toks) → levels ≡ 0 → read_stmts levels tokens ≡ read_of [] tokens
unfolding read_stmts
stmts_none zero tokens none = refl
stmts_none (suc levels) tokens none = absurd (omega (arith, none))

pub stmts_some : (levels : ℕ) (tokens : Toks) → 0 < levels → read_stmts levels tokens ≡ stmts_from (read_stmts (levels - 1)) tokens
unfolding read_stmts
stmts_some zero tokens some = absurd (omega (arith, some))
stmts_some (suc levels) tokens some =
    let e : levels ≡ suc levels - 1 = omega arith in
    ap (λ (n : ℕ). stmts_from (read_stmts n) tokens) e
