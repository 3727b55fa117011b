-- In which ways statements can end, by their form (the Rust Reference, "Loops and other breakable expressions" and "return expressions"),
-- and which labels they name.
use Rattle.std.specs.Prelude.{ℕ, Bool, true, false, not, ◌&&◌, ◌||◌, List, Option, Some, None, bytes_eq}
use Rattle.rs_text.specs.Tree.{Stmt, Assign, Eval, CopyBytes, If, Loop, Block, Break, Continue, Match, Return, Stmts, no_stmts, more_stmts, LiteralArm, Arms, no_arms, more_arms}
use Rattle.rs_mean.specs.Run.{Flow, normal, breaks, continues, returned, is_label}

-- a way in which statements end
pub data Way : Type 0 where
  -- control goes on behind them
  goes : Way
  -- the block or loop of this label is left
  by_break : (label : List ℕ) → Way
  -- the next turn of the loop of this label begins
  by_continue : (label : List ℕ) → Way
  -- the function gives back
  by_return : Way

-- the way of a flow
abbrev pub way_of : Flow → Way
way_of normal = goes
way_of (breaks label) = by_break label
way_of (continues label) = by_continue label
way_of (returned value) = by_return

abbrev pub is_goes : Way → Bool
is_goes goes = true
is_goes (by_break label) = false
is_goes (by_continue label) = false
is_goes by_return = false

abbrev pub is_break : List ℕ → Way → Bool
is_break name goes = false
is_break name (by_break label) = bytes_eq name label
is_break name (by_continue label) = false
is_break name by_return = false

abbrev pub is_continue : List ℕ → Way → Bool
is_continue name goes = false
is_continue name (by_break label) = false
is_continue name (by_continue label) = bytes_eq name label
is_continue name by_return = false

abbrev pub is_return : Way → Bool
is_return goes = false
is_return (by_break label) = false
is_return (by_continue label) = false
is_return by_return = true

-- a block of a label ends where its body does, and where it is left
abbrev pub block_ends : List ℕ → (Way → Bool) → Way → Bool
block_ends name body goes = body goes || body (by_break name)
block_ends name body (by_break label) = not (bytes_eq name label) && body (by_break label)
block_ends name body (by_continue label) = body (by_continue label)
block_ends name body by_return = body by_return

-- control goes on behind a loop where it is left by its label alone; its own turns end no other way
abbrev pub loop_ends : Option (List ℕ) → (Way → Bool) → Way → Bool
loop_ends None body goes = false
loop_ends (Some name) body goes = body (by_break name)
loop_ends name body (by_break label) = not (is_label label name) && body (by_break label)
loop_ends name body (by_continue label) = not (is_label label name) && body (by_continue label)
loop_ends name body by_return = body by_return

-- one statement and others behind it
abbrev pub list_ends : (first others : Way → Bool) → Way → Bool
list_ends first others goes = first goes && others goes
list_ends first others (by_break label) = first (by_break label) || (first goes && others (by_break label))
list_ends first others (by_continue label) = first (by_continue label) || (first goes && others (by_continue label))
list_ends first others by_return = first by_return || (first goes && others by_return)

abbrev mutual
  -- whether a statement can end in a way
  pub stmt_ends : Stmt → Way → Bool
  stmt_ends (Assign p e) way = is_goes way
  stmt_ends (Eval e) way = is_goes way
  stmt_ends (CopyBytes source target count) way = is_goes way
  stmt_ends (If condition if_true if_false) way = stmts_end if_true way || stmts_end if_false way
  stmt_ends (Loop label body) way = loop_ends label (stmts_end body) way
  stmt_ends (Block label body) way = block_ends label (stmts_end body) way
  stmt_ends (Break label) way = is_break label way
  stmt_ends (Continue label) way = is_continue label way
  stmt_ends (Match e cases other) way = arms_end cases way || stmts_end other way
  stmt_ends (Return value) way = is_return way

  -- whether a list of statements can
  pub stmts_end : Stmts → Way → Bool
  stmts_end no_stmts way = is_goes way
  stmts_end (more_stmts s ss) way = list_ends (stmt_ends s) (stmts_end ss) way

  pub arms_end : Arms → Way → Bool
  arms_end no_arms way = false
  arms_end (more_arms (LiteralArm value ty body) others) way = stmts_end body way || arms_end others way

-- ---- labels

abbrev mutual
  -- a statement names a label by a `break` or a `continue`
  pub stmt_names : List ℕ → Stmt → Bool
  stmt_names name (Assign p e) = false
  stmt_names name (Eval e) = false
  stmt_names name (CopyBytes source target count) = false
  stmt_names name (If condition if_true if_false) = stmts_name name if_true || stmts_name name if_false
  stmt_names name (Loop label body) = stmts_name name body
  stmt_names name (Block label body) = stmts_name name body
  stmt_names name (Break label) = bytes_eq label name
  stmt_names name (Continue label) = bytes_eq label name
  stmt_names name (Match e cases other) = arms_name name cases || stmts_name name other
  stmt_names name (Return value) = false

  pub stmts_name : List ℕ → Stmts → Bool
  stmts_name name no_stmts = false
  stmts_name name (more_stmts s ss) = stmt_names name s || stmts_name name ss

  pub arms_name : List ℕ → Arms → Bool
  arms_name name no_arms = false
  arms_name name (more_arms (LiteralArm value ty body) others) = stmts_name name body || arms_name name others
