-- Ways into statements that stand in some units: what is opened on one and what it leads to stands there, too (ISO C99, 6.8.4.2p5 and
-- 6.8.6.1).
use Rattle.std.proofs.Common.{ℕ, Bool, true, false, List, Option, Some, None, IfSome, option_map, bytes_eq}
use Rattle.std.specs.Ordering.{int_eq}
use Rattle.cx_core.specs.Trees.{CStmt, stmt, CStmtForm, label, case, default, block, expression, if_then, switch, while, do_while, for_loop, goto, continue, break, returns, begin, no_else, else_do, CStmts, no_stmts, more_stmts}
use Rattle.cx_mean.specs.Paths.{CRest, nothing_left, statements_left, turn_left, CTarget, named, case_of, default_case, CWay, arrives, opens, CInside, way_to, way_in}
use Rattle.cx_placed.specs.Places.{StmtStandsIn, StmtFormStandsIn, StmtsStandIn}
use Rattle.cx_stops.proofs.Standing.{RestStandsIn, WayStandsIn}

-- ---- the words in which ways are found

-- a statement is the target
abbrev is_target : CTarget → CStmtForm → Bool
is_target (named name) (label own body) = bytes_eq name own
is_target (case_of value) (case own body) = int_eq value own
is_target default_case (default body) = true
is_target target form = false

abbrev passes_switch : CTarget → Bool
passes_switch (named name) = true
passes_switch (case_of value) = false
passes_switch default_case = false

abbrev if_passing : Bool → Option CInside → Option CInside
if_passing true inside = inside
if_passing false inside = None

abbrev with_rest_of : CRest → Option CWay → Option CInside
with_rest_of rest found = option_map (λ way. record { rest = rest; way = way }) found

abbrev first_of_two : {A : Type 0} → Option A → Option A → Option A
first_of_two (Some one) other = Some one
first_of_two None other = other

abbrev arrives_or : CStmt → Bool → Option CWay → Option CWay
arrives_or here true inside = Some (arrives here)
arrives_or here false inside = inside

abbrev opened : List ℕ → CStmtForm → Option CInside → Option CWay
opened objects form inside = option_map (λ one. opens objects form one.rest one.way) inside

-- ---- ways that are found

module _ (Among : ℕ → Type 0) where
  -- a way inside an open statement, and what is then left of it
  abbrev pub InsideStandsIn : CInside → Type 0
  InsideStandsIn one = RestStandsIn Among one.rest × WayStandsIn Among one.way

  abbrev IfWay : Option CWay → Type 0
  IfWay found = IfSome found (WayStandsIn Among)

  abbrev IfInside : Option CInside → Type 0
  IfInside found = IfSome found InsideStandsIn

  rested : (rest : CRest) (found : Option CWay) → RestStandsIn Among rest → IfWay found → IfInside (with_rest_of rest found)
  rested rest None left is = tt
  rested rest (Some way) left is = (left, is)

  first_stands : (one other : Option CInside) → IfInside one → IfInside other → IfInside (first_of_two one other)
  first_stands (Some one) other is too = is
  first_stands None other is too = too

  passing_stands : (passes : Bool) (found : Option CInside) → IfInside found → IfInside (if_passing passes found)
  passing_stands true found is = is
  passing_stands false found is = tt

  opened_stands : (objects : List ℕ) (form : CStmtForm) (found : Option CInside) → StmtFormStandsIn Among form → IfInside found → IfWay (opened objects form found)
  opened_stands objects form None stands is = tt
  opened_stands objects form (Some one) stands is = (stands, is.0, is.1)

  arrives_stands : (here : CStmt) (test : Bool) (found : Option CWay) → StmtStandsIn Among here → IfWay found → IfWay (arrives_or here test found)
  arrives_stands here true found stands is = stands
  arrives_stands here false found stands is = is

  mutual
    pub way_stands : (target : CTarget) (one : CStmt) → StmtStandsIn Among one → IfSome (way_to target one) (WayStandsIn Among)
    way_stands target (stmt place objects form) stands =
        arrives_stands (stmt place objects form) (is_target target form) (opened objects form (way_in target form)) stands
        (opened_stands objects form (way_in target form) stands.1 (inside_stands target form stands.1))

    pub inside_stands : (target : CTarget) (form : CStmtForm) → StmtFormStandsIn Among form → IfSome (way_in target form) InsideStandsIn
    inside_stands target (label name body) stands = rested nothing_left (way_to target body) tt (way_stands target body stands)
    inside_stands target (case value body) stands = rested nothing_left (way_to target body) tt (way_stands target body stands)
    inside_stands target (default body) stands = rested nothing_left (way_to target body) tt (way_stands target body stands)
    inside_stands target (block stmts) stands = among_stands target stmts stands
    inside_stands target (if_then test body no_else) stands =
        first_stands (with_rest_of nothing_left (way_to target body)) None (rested nothing_left (way_to target body) tt (way_stands target body stands.1)) tt
    inside_stands target (if_then test body (else_do other)) stands =
        first_stands (with_rest_of nothing_left (way_to target body)) (with_rest_of nothing_left (way_to target other))
        (rested nothing_left (way_to target body) tt (way_stands target body stands.1)) (rested nothing_left (way_to target other) tt (way_stands target other stands.2))
    inside_stands target (switch value body) stands =
        passing_stands (passes_switch target) (with_rest_of nothing_left (way_to target body)) (rested nothing_left (way_to target body) tt (way_stands target body stands.1))
    inside_stands target (while test body) stands = rested turn_left (way_to target body) tt (way_stands target body stands.1)
    inside_stands target (do_while body test) stands = rested turn_left (way_to target body) tt (way_stands target body stands.0)
    inside_stands target (for_loop first test next body) stands = rested turn_left (way_to target body) tt (way_stands target body stands.3)
    inside_stands target (expression value) stands = tt
    inside_stands target (goto name) stands = tt
    inside_stands target continue stands = tt
    inside_stands target break stands = tt
    inside_stands target (returns value) stands = tt
    inside_stands target (begin number puts) stands = tt

    among_stands : (target : CTarget) (stmts : CStmts) → StmtsStandIn Among stmts → IfInside (way_in target (block stmts))
    among_stands target no_stmts stands = tt
    among_stands target (more_stmts first others) stands =
        first_stands (with_rest_of (statements_left others) (way_to target first)) (way_in target (block others))
        (rested (statements_left others) (way_to target first) stands.1 (way_stands target first stands.0)) (among_stands target others stands.1)
