-- Ways into statements, as the engine holds them.
use Rattle.std.specs.Prelude.{◌≡◌, ℕ, ℤ, Bool, true, false, List, [], ◌∷◌, map, Option, Some, None, option_map, bytes_eq}
use Rattle.std.specs.Ordering.{int_eq}
use Rattle.cx_core.specs.declared.stmt.CoreStmt.{CoreStmt}
use Rattle.cx_core.specs.Trees.{ty, void, CExpr, expr, null, CStmt, stmt, CStmtForm, label, case, default, COtherwise, no_else, else_do}
use Rattle.cx_core.specs.Views.{stmts_of, view_stmt}
use Rattle.cx_mean.specs.Paths.{CRest, nothing_left, statements_left, firsts_left, turn_left, CTarget, named, case_of, default_case, CWay, arrives, opens, CInside, way_to}
use Rattle.cx_moves.specs.declared.ways.Rest.{Rest}
use Rattle.cx_moves.specs.declared.ways.Rest.TheVariants as rest
use Rattle.cx_moves.specs.declared.ways.Target.{Target}
use Rattle.cx_moves.specs.declared.ways.Target.TheVariants as target
use Rattle.cx_moves.specs.declared.ways.Opened.{Opened}
use Rattle.cx_moves.specs.declared.ways.Inside.{Inside}

-- ---- parts of statements

abbrev pub form_of : CStmt → CStmtForm
form_of (stmt place objects form) = form

abbrev pub objects_of : CStmt → List ℕ
objects_of (stmt place objects form) = objects

-- an expression in whose place any other may stand, where none is looked at
abbrev pub no_expr : CExpr
no_expr = expr (ty void false) (record { unit = 0; line = 0 }) null

-- ---- targets

abbrev pub view_target : Target → CTarget
view_target (target.Label name) = named name.now
view_target (target.Case value) = case_of value.now
view_target target.Default = default_case

abbrev pub is_of_label : CTarget → List ℕ → Bool
is_of_label (named name) own = bytes_eq name own
is_of_label (case_of value) own = false
is_of_label default_case own = false

abbrev pub is_of_case : CTarget → ℤ → Bool
is_of_case (named name) own = false
is_of_case (case_of value) own = int_eq value own
is_of_case default_case own = false

abbrev pub is_of_default : CTarget → Bool
is_of_default (named name) = false
is_of_default (case_of value) = false
is_of_default default_case = true

-- a statement is what a jump leads to
abbrev pub is_aimed_at : CTarget → CStmtForm → Bool
is_aimed_at target (label own body) = is_of_label target own
is_aimed_at target (case own body) = is_of_case target own
is_aimed_at target (default body) = is_of_default target
is_aimed_at target form = false

-- a jump leads into a `switch` that stands inside of another
abbrev pub passes : CTarget → Bool
passes (named name) = true
passes (case_of value) = false
passes default_case = false

-- ---- ways

abbrev pub view_rest : Rest → CRest
view_rest rest.Nothing = nothing_left
view_rest (rest.Statements list) = statements_left (stmts_of (map view_stmt list.now))
view_rest (rest.Firsts list) = firsts_left (stmts_of (map view_stmt list.now))
view_rest rest.Turn = turn_left

abbrev pub opening : Opened → CWay → CWay
opening one way = opens (objects_of (view_stmt one.stmt.now)) (form_of (view_stmt one.stmt.now)) (view_rest one.rest) way

-- a way that statements around it open, the innermost first
abbrev pub opened_by : List Opened → CWay → CWay
opened_by [] way = way
opened_by (one ∷ others) way = opened_by others (opening one way)

-- a way to a statement
abbrev pub view_way : CoreStmt → List Opened → CWay
view_way target opened = opened_by opened (arrives (view_stmt target))

-- a way was found, or there is none, and nothing is opened
abbrev pub IsWay : Option CoreStmt → List Opened → Option CWay → Type 0
IsWay None opened way = (way ≡ None) × (opened ≡ [])
IsWay (Some target) opened way = way ≡ Some (view_way target opened)

abbrev pub IsInside : Option Inside → List Opened → Option CInside → Type 0
IsInside None opened inside = (inside ≡ None) × (opened ≡ [])
IsInside (Some one) opened inside = inside ≡ Some (record { rest = view_rest one.rest; way = view_way one.target.now opened })

-- the way to a target in what follows `else`
abbrev pub way_in_else : CTarget → COtherwise → Option CInside
way_in_else target no_else = None
way_in_else target (else_do body) = option_map (λ way. record { rest = nothing_left; way = way }) (way_to target body)
