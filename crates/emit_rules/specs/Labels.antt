-- Labels by their depth: each has the number of labels that are written around it.
use Rattle.std.specs.Prelude.{ℕ, List, [], ◌∷◌, length, Some, None, bytes_eq, if◌then◌else◌}
use Rattle.rs_text.specs.Tree.{Stmt, Assign, Eval, CopyBytes, If, Loop, Block, Break, Continue, Match, Return, Stmts, no_stmts, more_stmts, LiteralArm, Arms, no_arms, more_arms}
use Rattle.emit_rules.specs.Jumps.{label_of}

-- the label by depth of one among those around, the innermost first
abbrev pub numbered_label : List (List ℕ) → List ℕ → List ℕ
numbered_label [] label = label
numbered_label (inner ∷ around) label = if bytes_eq inner label then label_of (length around) else numbered_label around label

abbrev mutual
  -- statements with labels by depth, where these are the labels around, the innermost first
  pub numbered_stmt : List (List ℕ) → Stmt → Stmt
  numbered_stmt around (Assign p e) = Assign p e
  numbered_stmt around (Eval e) = Eval e
  numbered_stmt around (CopyBytes source target count) = CopyBytes source target count
  numbered_stmt around (If condition if_true if_false) = If condition (numbered around if_true) (numbered around if_false)
  numbered_stmt around (Loop None body) = Loop None (numbered around body)
  numbered_stmt around (Loop (Some label) body) = Loop (Some (label_of (length around))) (numbered (label ∷ around) body)
  numbered_stmt around (Block label body) = Block (label_of (length around)) (numbered (label ∷ around) body)
  numbered_stmt around (Break label) = Break (numbered_label around label)
  numbered_stmt around (Continue label) = Continue (numbered_label around label)
  numbered_stmt around (Match e cases other) = Match e (numbered_arms around cases) (numbered around other)
  numbered_stmt around (Return value) = Return value

  pub numbered : List (List ℕ) → Stmts → Stmts
  numbered around no_stmts = no_stmts
  numbered around (more_stmts s ss) = more_stmts (numbered_stmt around s) (numbered around ss)

  pub numbered_arms : List (List ℕ) → Arms → Arms
  numbered_arms around no_arms = no_arms
  numbered_arms around (more_arms (LiteralArm value ty body) others) = more_arms (LiteralArm value ty (numbered around body)) (numbered_arms around others)
