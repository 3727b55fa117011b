-- Where a run stands in a body (ISO C99, 6.8): the open statements, and the ways that jumps take into statements.
use Rattle.std.specs.Prelude.{ℕ, ℤ, Bool, true, false, List, ◌∷◌, Option, Some, None, option_map, bytes_eq}
use Rattle.std.specs.Ordering.{int_eq}
use Rattle.cx_core.specs.Trees.{CStmt, stmt, CStmtForm, label, case, default, block, expression, if_then, switch, while, do_while, for_loop, goto, continue, break, returns, begin, COtherwise, no_else, else_do, CStmts, no_stmts, more_stmts}
use Rattle.cx_mean.specs.Operands.{CValue, Frame}

-- ---- open statements

-- what is left of an open statement behind the part of it that runs
pub data CRest : Type 0 where
  nothing_left : CRest
  -- the statements that follow in a block
  statements_left : CStmts → CRest
  -- those that follow in the first part of a `for`
  firsts_left : CStmts → CRest
  -- the end of a turn of a loop
  turn_left : CRest

-- an open statement: the objects whose block it is, each with the block of memory in which it lives, and what it does
pub record CLevel : Type 0 where
  pub slots : Frame
  pub form : CStmtForm
  pub rest : CRest

-- a function that runs: its parameters, and what its end gives where no `return` is reached (6.9.1p12; 0 for `main`,
-- 5.1.2.2.3)
pub record CBottom : Type 0 where
  pub params : Frame
  pub at_end : CValue

-- where a run stands in a function: its open statements, the innermost first
pub record CSite : Type 0 where
  pub levels : List CLevel
  pub bottom : CBottom

abbrev pub site_at : List CLevel → CBottom → CSite
site_at levels bottom = record { levels = levels; bottom = bottom }

abbrev pub with_level : CLevel → CSite → CSite
with_level level site = record site { levels = level ∷ site.levels }

abbrev pub with_rest : CRest → CLevel → CLevel
with_rest rest level = record level { rest = rest }

-- ---- ways into statements

-- what a jump leads to: a label (6.8.6.1), or the `case` of a value or the `default` of a `switch` (6.8.4.2p5)
pub data CTarget : Type 0 where
  named : List ℕ → CTarget
  case_of : ℤ → CTarget
  default_case : CTarget

-- the way into a statement: it is that which is reached, or it is opened, with its objects, and the way goes on inside
pub data CWay : Type 0 where
  arrives : CStmt → CWay
  opens : (objects : List ℕ) → CStmtForm → CRest → CWay → CWay

-- the way inside an open statement, and what is then left of it
pub record CInside : Type 0 where
  pub rest : CRest
  pub way : CWay

-- a statement is the target
abbrev pub is_target : CTarget → CStmtForm → Bool
is_target (named name) (label own body) = bytes_eq name own
is_target (case_of value) (case own body) = int_eq value own
is_target default_case (default body) = true
is_target target form = false

-- the `case` and `default` labels of a `switch` aren't those of one around it
abbrev pub passes_switch : CTarget → Bool
passes_switch (named name) = true
passes_switch (case_of value) = false
passes_switch default_case = false

abbrev pub if_passing : Bool → Option CInside → Option CInside
if_passing true inside = inside
if_passing false inside = None

abbrev pub with_rest_of : CRest → Option CWay → Option CInside
with_rest_of rest found = option_map (λ way. record { rest = rest; way = way }) found

-- the first that there is
abbrev pub first_of_two : {A : Type 0} → Option A → Option A → Option A
first_of_two (Some one) other = Some one
first_of_two None other = other

abbrev pub arrives_or : CStmt → Bool → Option CWay → Option CWay
arrives_or here true inside = Some (arrives here)
arrives_or here false inside = inside

abbrev pub opened : List ℕ → CStmtForm → Option CInside → Option CWay
opened objects form inside = option_map (λ one. opens objects form one.rest one.way) inside

abbrev mutual
  -- the way to a target from a statement on; none where the target isn't in it
  pub way_to : CTarget → CStmt → Option CWay
  way_to target (stmt place objects form) =
      arrives_or (stmt place objects form) (is_target target form) (opened objects form (way_in target form))

  -- the way to a target inside an open statement
  pub way_in : CTarget → CStmtForm → Option CInside
  way_in target (label name body) = with_rest_of nothing_left (way_to target body)
  way_in target (case value body) = with_rest_of nothing_left (way_to target body)
  way_in target (default body) = with_rest_of nothing_left (way_to target body)
  way_in target (block stmts) = way_among target stmts
  way_in target (if_then test body otherwise) =
      first_of_two (with_rest_of nothing_left (way_to target body)) (with_rest_of nothing_left (way_in_else target otherwise))
  way_in target (switch value body) = if_passing (passes_switch target) (with_rest_of nothing_left (way_to target body))
  way_in target (while test body) = with_rest_of turn_left (way_to target body)
  way_in target (do_while body test) = with_rest_of turn_left (way_to target body)
  way_in target (for_loop first test next body) = with_rest_of turn_left (way_to target body)
  way_in target (expression value) = None
  way_in target (goto name) = None
  way_in target continue = None
  way_in target break = None
  way_in target (returns value) = None
  way_in target (begin number puts) = None

  pub way_in_else : CTarget → COtherwise → Option CWay
  way_in_else target no_else = None
  way_in_else target (else_do body) = way_to target body

  pub way_among : CTarget → CStmts → Option CInside
  way_among target no_stmts = None
  way_among target (more_stmts first others) =
      first_of_two (with_rest_of (statements_left others) (way_to target first)) (way_among target others)
