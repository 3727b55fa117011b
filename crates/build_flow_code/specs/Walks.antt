-- What is written for the parts of statements, in linear code.
use Rattle.std.specs.Prelude.{ℕ, ◌+◌, Bool, List, [], ◌∷◌, ◌++◌, map, Option}
use Rattle.build_flow_code.specs.Labels.{label_view}
use Rattle.build_flow_instrs.specs.Views.{place_view}
use Rattle.build_flow_code.specs.declared.walk.Around.{Around}
use Rattle.build_flow_linear.specs.Linear as line
use Rattle.build_flow_linear.specs.Linear.{Instr, marks, does, leaves}
use Rattle.build_flow_nodes.specs.Builder.{statement_at, turn_place}
use Rattle.build_flow_nodes.specs.Labels.{is_labelled}
use Rattle.build_flow_nodes.specs.Parts.{BodyNames, count_in_option, count_in_condition, count_in_test, begun, given}
use Rattle.build_flow_nodes.specs.Points.{FlowPlace, goes, returns as gives_back}
use Rattle.cx_core.specs.Trees.{CExpr, CStmt, stmt}
use Rattle.cx_mean.specs.BodyGraph.{CPath}

abbrev pub around_view : Around → line.Around
around_view one = record {
  place = place_view one.place.now;
  breaks = place_view one.breaks.now;
  continues = place_view one.continues.now;
  labels = map label_view one.labels.now;
}

-- an open statement, with what is around it
abbrev pub open_code : BodyNames → line.Around → CPath → ℕ → CStmt → List Instr
open_code of around path number (stmt place objects form) = line.form_code of (line.inside form path around) path number form

-- and with what is around its parts
abbrev pub form_code : BodyNames → line.Around → CPath → ℕ → CStmt → List Instr
form_code of around path number (stmt place objects form) = line.form_code of around path number form

-- a `for` behind its first part, whose body is part of it by a number
abbrev pub for_rest : BodyNames → line.Around → CPath → (index number : ℕ) → (head : FlowPlace) → Option CExpr → Option CExpr → CStmt → List Instr
for_rest of around path index number head test next body =
    line.condition_code of test number path (statement_at (index ∷ path)) around.place
    (line.code of (line.in_loop (turn_place next head path) around) (index ∷ path)
    (number + count_in_condition of.names test + count_in_option of.names next) body
    ++ line.third_code of body next (number + count_in_condition of.names test) head path)

abbrev pub is_labelled_stmt : CStmt → Bool
is_labelled_stmt (stmt place objects form) = is_labelled form

-- what stands in front of what an open statement does
abbrev pub entry_code : BodyNames → CPath → CStmt → List Instr
entry_code of path (stmt place objects form) = line.entry_code form path (marks (statement_at path) ∷ does (begun of objects) ∷ [])

-- the condition of an `if`, and what is done where it holds
abbrev pub arm_code : BodyNames → line.Around → CPath → ℕ → CExpr → CStmt → (other : FlowPlace) → List Instr
arm_code of around path number test first other =
    line.test_code of test number (statement_at (0 ∷ path)) other
    (line.code of around (0 ∷ path) (number + count_in_test of.names test) first ++ (leaves (goes around.place) ∷ []))

abbrev pub return_code : BodyNames → Option CExpr → ℕ → List Instr
return_code of value number =
    let one = given of value number in
    does one.body ∷ leaves (gives_back one.value) ∷ []
