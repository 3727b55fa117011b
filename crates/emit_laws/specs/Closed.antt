-- Statements that break and continue to labels around them alone (the Rust Reference, "Loop labels" and "Labelled block expressions"). A label is that of the innermost loop or block
-- which has it.
use Rattle.std.specs.Prelude.{ℕ, Bool, true, false, ◌&&◌, List, [], ◌∷◌, Some, None, bytes_eq, if◌then◌else◌}
use Rattle.rs_text.specs.Tree.{Stmt, Assign, Eval, CopyBytes, If, Loop, Block, Break, Continue, Match, Return, Stmts, no_stmts, more_stmts, LiteralArm, Arms, no_arms, more_arms}
use Rattle.rs_mean.specs.Typing.{LabelScope}

-- a label is one of those around, the innermost first
abbrev pub is_bound : List LabelScope → List ℕ → Bool
is_bound [] label = false
is_bound (one ∷ others) label = if bytes_eq one.name label then true else is_bound others label

-- and a loop's
abbrev pub is_loop_label : List LabelScope → List ℕ → Bool
is_loop_label [] label = false
is_loop_label (one ∷ others) label = if bytes_eq one.name label then one.is_loop else is_loop_label others label

abbrev pub of_loop : List ℕ → LabelScope
of_loop label = record { name = label; is_loop = true }

abbrev pub of_block : List ℕ → LabelScope
of_block label = record { name = label; is_loop = false }

abbrev mutual
  pub stmt_closed : List LabelScope → Stmt → Bool
  stmt_closed around (Assign p e) = true
  stmt_closed around (Eval e) = true
  stmt_closed around (CopyBytes source target count) = true
  stmt_closed around (If condition if_true if_false) = stmts_closed around if_true && stmts_closed around if_false
  stmt_closed around (Loop None body) = stmts_closed around body
  stmt_closed around (Loop (Some label) body) = stmts_closed (of_loop label ∷ around) body
  stmt_closed around (Block label body) = stmts_closed (of_block label ∷ around) body
  stmt_closed around (Break label) = is_bound around label
  stmt_closed around (Continue label) = is_loop_label around label
  stmt_closed around (Match e cases other) = arms_closed around cases && stmts_closed around other
  stmt_closed around (Return value) = true

  pub stmts_closed : List LabelScope → Stmts → Bool
  stmts_closed around no_stmts = true
  stmts_closed around (more_stmts s ss) = stmt_closed around s && stmts_closed around ss

  pub arms_closed : List LabelScope → Arms → Bool
  arms_closed around no_arms = true
  arms_closed around (more_arms (LiteralArm value ty body) others) = stmts_closed around body && arms_closed around others
