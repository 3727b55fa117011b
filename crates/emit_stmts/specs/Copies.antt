-- Copies of statements, with the labels that they have or with labels by their depth.
use Rattle.std.specs.Prelude.{ℕ, List, ◌∷◌, length, Some, None}
use Rattle.rs_text.specs.Tree.{Stmt, Assign, Eval, CopyBytes, If, Loop, Block, Break, Continue, Match, Return, Stmts, no_stmts, more_stmts, LiteralArm, Arms, no_arms, more_arms}
use Rattle.emit_rules.specs.Jumps.{label_of}
use Rattle.emit_rules.specs.Labels.{numbered_label}
use Rattle.emit_stmts.specs.declared.labels.Labels.{Labels}
use Rattle.emit_stmts.specs.declared.labels.Labels.TheVariants.{AsTheyAre, ByDepth}

-- the label that a jump to a label has in the copy
abbrev pub jump_label : Labels → List ℕ → List ℕ
jump_label AsTheyAre label = label
jump_label (ByDepth around) label = numbered_label around label

-- the label that a loop or a block of a label has
abbrev pub own_label : Labels → List ℕ → List ℕ
own_label AsTheyAre label = label
own_label (ByDepth around) label = label_of (length around)

-- how labels are copied in it
abbrev pub inside : List ℕ → Labels → Labels
inside label AsTheyAre = AsTheyAre
inside label (ByDepth around) = ByDepth (label ∷ around)

abbrev mutual
  -- the copy of a statement
  pub stmt_copy : Labels → Stmt → Stmt
  stmt_copy labels (Assign p e) = Assign p e
  stmt_copy labels (Eval e) = Eval e
  stmt_copy labels (CopyBytes source target count) = CopyBytes source target count
  stmt_copy labels (If condition if_true if_false) = If condition (stmts_copy labels if_true) (stmts_copy labels if_false)
  stmt_copy labels (Loop None body) = Loop None (stmts_copy labels body)
  stmt_copy labels (Loop (Some label) body) = Loop (Some (own_label labels label)) (stmts_copy (inside label labels) body)
  stmt_copy labels (Block label body) = Block (own_label labels label) (stmts_copy (inside label labels) body)
  stmt_copy labels (Break label) = Break (jump_label labels label)
  stmt_copy labels (Continue label) = Continue (jump_label labels label)
  stmt_copy labels (Match e cases other) = Match e (arms_copy labels cases) (stmts_copy labels other)
  stmt_copy labels (Return value) = Return value

  pub stmts_copy : Labels → Stmts → Stmts
  stmts_copy labels no_stmts = no_stmts
  stmts_copy labels (more_stmts s ss) = more_stmts (stmt_copy labels s) (stmts_copy labels ss)

  pub arms_copy : Labels → Arms → Arms
  arms_copy labels no_arms = no_arms
  arms_copy labels (more_arms (LiteralArm value ty body) others) = more_arms (LiteralArm value ty (stmts_copy labels body)) (arms_copy labels others)
