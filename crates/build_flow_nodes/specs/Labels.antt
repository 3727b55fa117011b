-- Labels, and the objects whose lives begin on the way to them (ISO C99, 6.2.4p5, 6.8.1 and 6.8.6.1).
use Rattle.std.specs.Prelude.{ℕ, suc, ◌||◌, Bool, true, false, if◌then◌else◌, List, [], ◌∷◌, ◌++◌, Option, Some, None}
use Rattle.cx_core.specs.Trees.{CStmt, stmt, CStmtForm, label, case, default, block, expression, if_then, switch, while, do_while, for_loop, goto, continue, break, returns, begin, COtherwise, no_else, else_do, CStmts, no_stmts, more_stmts}
use Rattle.cx_mean.specs.BodyGraph.{CPath, body_path}
use Rattle.cx_mean.specs.Paths.{CTarget, named, case_of, default_case}

-- a labelled statement, and the objects of the statements that are entered on the way to it
pub record Label : Type 0 where
  pub target : CTarget
  pub path : CPath
  pub objects : List ℕ

abbrev pub label_at : CTarget → CPath → List ℕ → Label
label_at target path objects = record { target = target; path = path; objects = objects }

abbrev pub is_labelled : CStmtForm → Bool
is_labelled (label name body) = true
is_labelled (case value body) = true
is_labelled (default body) = true
is_labelled _ = false

abbrev pub own_label : CStmtForm → CPath → List ℕ → List Label
own_label (label name body) path objects = label_at (named name) path objects ∷ []
own_label (case value body) path objects = label_at (case_of value) path objects ∷ []
own_label (default body) path objects = label_at default_case path objects ∷ []
own_label _ path objects = []

abbrev pub unless : Bool → List Label → List Label
unless true found = []
unless false found = found

abbrev mutual
  -- the labels in a statement; those of an inner `switch` may be left out
  pub labels_from : (own : Bool) → CStmt → CPath → (entered : List ℕ) → List Label
  labels_from own (stmt place objects form) path entered = own_label form path entered ++ labels_in own form path (entered ++ objects)

  -- those inside an open statement
  pub labels_in : (own : Bool) → CStmtForm → CPath → (entered : List ℕ) → List Label
  labels_in own (label name body) path entered = labels_from own body (0 ∷ path) entered
  labels_in own (case value body) path entered = labels_from own body (0 ∷ path) entered
  labels_in own (default body) path entered = labels_from own body (0 ∷ path) entered
  labels_in own (block stmts) path entered = labels_among own stmts 0 path entered
  labels_in own (if_then test body otherwise) path entered = labels_from own body (0 ∷ path) entered ++ labels_in_else own otherwise path entered
  labels_in own (switch value body) path entered = unless own (labels_from own body (0 ∷ path) entered)
  labels_in own (while test body) path entered = labels_from own body (0 ∷ path) entered
  labels_in own (do_while body test) path entered = labels_from own body (0 ∷ path) entered
  labels_in own (for_loop first test next body) path entered = labels_from own body (body_path first path) entered
  labels_in own (expression value) path entered = []
  labels_in own (goto name) path entered = []
  labels_in own continue path entered = []
  labels_in own break path entered = []
  labels_in own (returns value) path entered = []
  labels_in own (begin number puts) path entered = []

  pub labels_in_else : Bool → COtherwise → CPath → List ℕ → List Label
  labels_in_else own no_else path entered = []
  labels_in_else own (else_do body) path entered = labels_from own body (1 ∷ path) entered

  pub labels_among : Bool → CStmts → ℕ → CPath → List ℕ → List Label
  labels_among own no_stmts number path entered = []
  labels_among own (more_stmts first others) number path entered =
      labels_from own first (number ∷ path) entered ++ labels_among own others (suc number) path entered

-- the first label that passes a test
abbrev pub label_where : (CTarget → Bool) → List Label → Option Label
label_where test [] = None
label_where test (one ∷ others) = if test one.target then Some one else label_where test others

-- the `case` labels of a `switch` whose body this is
abbrev pub labels_of_switch : CStmt → CPath → List Label
labels_of_switch body path = labels_from true body (0 ∷ path) []

-- ---- loops that are gone on with

abbrev mutual
  -- a `continue` of the loop whose body this is stands in it (6.8.6.2)
  pub has_continue : CStmt → Bool
  has_continue (stmt place objects form) = has_continue_in form

  pub has_continue_in : CStmtForm → Bool
  has_continue_in (label name body) = has_continue body
  has_continue_in (case value body) = has_continue body
  has_continue_in (default body) = has_continue body
  has_continue_in (block stmts) = some_has_continue stmts
  has_continue_in (if_then test body otherwise) = has_continue body || else_has_continue otherwise
  has_continue_in (switch value body) = has_continue body
  has_continue_in (while test body) = false
  has_continue_in (do_while body test) = false
  has_continue_in (for_loop first test next body) = false
  has_continue_in (expression value) = false
  has_continue_in (goto name) = false
  has_continue_in continue = true
  has_continue_in break = false
  has_continue_in (returns value) = false
  has_continue_in (begin number puts) = false

  pub else_has_continue : COtherwise → Bool
  else_has_continue no_else = false
  else_has_continue (else_do body) = has_continue body

  pub some_has_continue : CStmts → Bool
  some_has_continue no_stmts = false
  some_has_continue (more_stmts first others) = has_continue first || some_has_continue others
