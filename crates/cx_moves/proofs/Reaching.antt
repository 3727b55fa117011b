-- What ways are, by whether a statement is the target.
use Rattle.std.proofs.Common.{◌≡◌, ◌∙◌, refl, sym, ap, Bool, true, false, List, [], ◌∷◌, ◌++◌, Option, Some, None, option_map}
use Rattle.cx_core.specs.declared.stmt.CoreStmt.{CoreStmt}
use Rattle.cx_core.specs.Trees.{CExpr, CStmt, stmt, CStmtForm, label, case, default, block, expression, if_then, switch, while, do_while, for_loop, goto, continue, break, returns, begin, COtherwise}
use Rattle.cx_core.specs.Views.{view_stmt}
use Rattle.cx_mean.specs.Moves.{CMove, following}
use Rattle.cx_mean.specs.Paths.{CTarget, named, case_of, default_case, CWay, arrives, opens, CSite, way_to, way_in}
use Rattle.cx_moves.specs.declared.ways.Opened.{Opened}
use Rattle.cx_moves.specs.declared.ways.Inside.{Inside}
use Rattle.cx_moves.specs.declared.moves.Move.{Move}
use Rattle.cx_moves.specs.Moving.{Opens}
use Rattle.cx_moves.specs.Ways.{form_of, objects_of, is_aimed_at, passes, view_rest, opening, opened_by, view_way, IsWay, IsInside}

pub is_reached : (target : CTarget) (s : CStmt) → is_aimed_at target (form_of s) ≡ true → way_to target s ≡ Some (arrives s)
is_reached (named aim) (stmt place objects (label name body)) is = rw is refl
is_reached (case_of aim) (stmt place objects (label name body)) is = cc
is_reached default_case (stmt place objects (label name body)) is = cc
is_reached (named aim) (stmt place objects (case value body)) is = cc
is_reached (case_of aim) (stmt place objects (case value body)) is = rw is refl
is_reached default_case (stmt place objects (case value body)) is = cc
is_reached (named aim) (stmt place objects (default body)) is = cc
is_reached (case_of aim) (stmt place objects (default body)) is = cc
is_reached default_case (stmt place objects (default body)) is = refl
is_reached (named aim) (stmt place objects (block stmts)) is = cc
is_reached (case_of aim) (stmt place objects (block stmts)) is = cc
is_reached default_case (stmt place objects (block stmts)) is = cc
is_reached (named aim) (stmt place objects (expression value)) is = cc
is_reached (case_of aim) (stmt place objects (expression value)) is = cc
is_reached default_case (stmt place objects (expression value)) is = cc
is_reached (named aim) (stmt place objects (if_then test body otherwise)) is = cc
is_reached (case_of aim) (stmt place objects (if_then test body otherwise)) is = cc
is_reached default_case (stmt place objects (if_then test body otherwise)) is = cc
is_reached (named aim) (stmt place objects (switch value body)) is = cc
is_reached (case_of aim) (stmt place objects (switch value body)) is = cc
is_reached default_case (stmt place objects (switch value body)) is = cc
is_reached (named aim) (stmt place objects (while test body)) is = cc
is_reached (case_of aim) (stmt place objects (while test body)) is = cc
is_reached default_case (stmt place objects (while test body)) is = cc
is_reached (named aim) (stmt place objects (do_while body test)) is = cc
is_reached (case_of aim) (stmt place objects (do_while body test)) is = cc
is_reached default_case (stmt place objects (do_while body test)) is = cc
is_reached (named aim) (stmt place objects (for_loop first test next body)) is = cc
is_reached (case_of aim) (stmt place objects (for_loop first test next body)) is = cc
is_reached default_case (stmt place objects (for_loop first test next body)) is = cc
is_reached (named aim) (stmt place objects (goto name)) is = cc
is_reached (case_of aim) (stmt place objects (goto name)) is = cc
is_reached default_case (stmt place objects (goto name)) is = cc
is_reached (named aim) (stmt place objects continue) is = cc
is_reached (case_of aim) (stmt place objects continue) is = cc
is_reached default_case (stmt place objects continue) is = cc
is_reached (named aim) (stmt place objects break) is = cc
is_reached (case_of aim) (stmt place objects break) is = cc
is_reached default_case (stmt place objects break) is = cc
is_reached (named aim) (stmt place objects (returns value)) is = cc
is_reached (case_of aim) (stmt place objects (returns value)) is = cc
is_reached default_case (stmt place objects (returns value)) is = cc
is_reached (named aim) (stmt place objects (begin number puts)) is = cc
is_reached (case_of aim) (stmt place objects (begin number puts)) is = cc
is_reached default_case (stmt place objects (begin number puts)) is = cc

pub goes_inside : (target : CTarget) (s : CStmt) → is_aimed_at target (form_of s) ≡ false →
    way_to target s ≡ option_map (λ one. opens (objects_of s) (form_of s) one.rest one.way) (way_in target (form_of s))
goes_inside (named aim) (stmt place objects (label name body)) is = rw is refl
goes_inside (case_of aim) (stmt place objects (label name body)) is = refl
goes_inside default_case (stmt place objects (label name body)) is = refl
goes_inside (named aim) (stmt place objects (case value body)) is = refl
goes_inside (case_of aim) (stmt place objects (case value body)) is = rw is refl
goes_inside default_case (stmt place objects (case value body)) is = refl
goes_inside (named aim) (stmt place objects (default body)) is = refl
goes_inside (case_of aim) (stmt place objects (default body)) is = refl
goes_inside default_case (stmt place objects (default body)) is = cc
goes_inside (named aim) (stmt place objects (block stmts)) is = refl
goes_inside (case_of aim) (stmt place objects (block stmts)) is = refl
goes_inside default_case (stmt place objects (block stmts)) is = refl
goes_inside (named aim) (stmt place objects (expression value)) is = refl
goes_inside (case_of aim) (stmt place objects (expression value)) is = refl
goes_inside default_case (stmt place objects (expression value)) is = refl
goes_inside (named aim) (stmt place objects (if_then test body otherwise)) is = refl
goes_inside (case_of aim) (stmt place objects (if_then test body otherwise)) is = refl
goes_inside default_case (stmt place objects (if_then test body otherwise)) is = refl
goes_inside (named aim) (stmt place objects (switch value body)) is = refl
goes_inside (case_of aim) (stmt place objects (switch value body)) is = refl
goes_inside default_case (stmt place objects (switch value body)) is = refl
goes_inside (named aim) (stmt place objects (while test body)) is = refl
goes_inside (case_of aim) (stmt place objects (while test body)) is = refl
goes_inside default_case (stmt place objects (while test body)) is = refl
goes_inside (named aim) (stmt place objects (do_while body test)) is = refl
goes_inside (case_of aim) (stmt place objects (do_while body test)) is = refl
goes_inside default_case (stmt place objects (do_while body test)) is = refl
goes_inside (named aim) (stmt place objects (for_loop first test next body)) is = refl
goes_inside (case_of aim) (stmt place objects (for_loop first test next body)) is = refl
goes_inside default_case (stmt place objects (for_loop first test next body)) is = refl
goes_inside (named aim) (stmt place objects (goto name)) is = refl
goes_inside (case_of aim) (stmt place objects (goto name)) is = refl
goes_inside default_case (stmt place objects (goto name)) is = refl
goes_inside (named aim) (stmt place objects continue) is = refl
goes_inside (case_of aim) (stmt place objects continue) is = refl
goes_inside default_case (stmt place objects continue) is = refl
goes_inside (named aim) (stmt place objects break) is = refl
goes_inside (case_of aim) (stmt place objects break) is = refl
goes_inside default_case (stmt place objects break) is = refl
goes_inside (named aim) (stmt place objects (returns value)) is = refl
goes_inside (case_of aim) (stmt place objects (returns value)) is = refl
goes_inside default_case (stmt place objects (returns value)) is = refl
goes_inside (named aim) (stmt place objects (begin number puts)) is = refl
goes_inside (case_of aim) (stmt place objects (begin number puts)) is = refl
goes_inside default_case (stmt place objects (begin number puts)) is = refl

-- a statement that is opened last
pub opened_last : (opened : List Opened) (one : Opened) (way : CWay) → opened_by (opened ++ one ∷ []) way ≡ opening one (opened_by opened way)
opened_last [] one way = refl
opened_last (first ∷ others) one way = opened_last others one (opening first way)

pub opened_more : (opened all : List Opened) (one : Opened) (way : CWay) → all ≡ opened ++ one ∷ [] →
    Some (opening one (opened_by opened way)) ≡ Some (opened_by all way)
opened_more opened all one way is = ap Some (sym (opened_last opened one way) ∙ ap (λ list. opened_by list way) (sym is))

-- what is left of a way, behind the statement that is opened next
pub followed : (target : CoreStmt) (all way : List Opened) (one : Opened) (site : CSite) → all ≡ way ++ one ∷ [] →
    following (opening one (view_way target way)) site ≡ following (view_way target all) site
followed target all way one site is =
    ap (λ (to : CWay). following to site) (sym (ap (λ (list : List Opened). view_way target list) is ∙ opened_last way one (arrives (view_stmt target))))

-- an opened statement has an object that begins, or the way goes on
pub begins_there : (begins : Option Move) (one : Move) (view : Move → CMove) (goes_on whole : CMove) → begins ≡ Some one →
    Opens (option_map view begins) goes_on whole → view one ≡ whole
begins_there (Some other) one view goes_on whole is holds = let same : other ≡ one = cc in ap view (sym same) ∙ holds
begins_there None one view goes_on whole is holds = absurd cc

pub goes_further : (begins : Option Move) (view : Move → CMove) (goes_on whole : CMove) → begins ≡ None →
    Opens (option_map view begins) goes_on whole → goes_on ≡ whole
goes_further None view goes_on whole is holds = holds
goes_further (Some other) view goes_on whole is holds = absurd cc
