-- Statements in a block.
use Rattle.std.specs.Prelude.{ℕ, Bool, true, false, if◌then◌else◌}
use Rattle.emit_rules.specs.Jumps.{label_of}
use Rattle.emit_rules.specs.Texts.{one_stmt}
use Rattle.rs_mean_ends.specs.Ways.{stmts_name}
use Rattle.rs_text.specs.Tree.{Block, Stmts}

-- statements in a block of a label, which is written where they name it
abbrev pub block_of : (label : ℕ) → Stmts → Stmts
block_of label body = if stmts_name (label_of label) body then one_stmt (Block (label_of label) body) else body

-- the same where others follow; else the statements as they are
abbrev pub in_front : (has_others : Bool) → (label : ℕ) → Stmts → Stmts
in_front true label body = block_of label body
in_front false label body = body
