-- The readers at one depth, by those below.
use Rattle.std.proofs.Common.{◌≡◌, ℕ, zero, suc, ◌-◌, ◌<◌, Option, Some, None, refl, ap, arith}
use Rattle.cx_cursor.specs.Reading.{State}
use Rattle.cx_stmt.specs.Declarations.{decl, decl_from}
use Rattle.cx_stmt.specs.Stmts.{stmt, stmt_from, block_from}
use Rattle.cx_stmt.specs.Units.{block}

pub decl_none : (depth : ℕ) (state : State) → depth ≡ 0 → decl depth state ≡ None
unfolding decl
decl_none zero state none = refl
decl_none (suc depth) state none = absurd (omega arith)

pub decl_some : (depth : ℕ) (state : State) → 0 < depth → decl depth state ≡ decl_from (depth - 1) state
unfolding decl
decl_some zero state some = absurd (omega arith)
decl_some (suc depth) state some = let e : depth ≡ suc depth - 1 = omega arith in ap (λ (n : ℕ). decl_from n state) e

pub stmt_none : (depth : ℕ) (state : State) → depth ≡ 0 → stmt depth state ≡ None
unfolding stmt
stmt_none zero state none = refl
stmt_none (suc depth) state none = absurd (omega arith)

pub stmt_some : (depth : ℕ) (state : State) → 0 < depth → stmt depth state ≡ stmt_from (stmt (depth - 1)) (depth - 1) state
unfolding stmt
stmt_some zero state some = absurd (omega arith)
stmt_some (suc depth) state some = let e : depth ≡ suc depth - 1 = omega arith in ap (λ (n : ℕ). stmt_from (stmt n) n state) e

pub block_none : (depth : ℕ) (state : State) → depth ≡ 0 → block depth state ≡ None
unfolding block
block_none zero state none = refl
block_none (suc depth) state none = absurd (omega arith)

pub block_some : (depth : ℕ) (state : State) → 0 < depth → block depth state ≡ block_from (stmt (depth - 1)) (depth - 1) state
unfolding block
block_some zero state some = absurd (omega arith)
block_some (suc depth) state some = let e : depth ≡ suc depth - 1 = omega arith in ap (λ (n : ℕ). block_from (stmt n) n state) e
