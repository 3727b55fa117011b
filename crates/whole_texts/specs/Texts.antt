-- The body of a function from the names with which it is written, its flow and a shape.
use Rattle.std.specs.Prelude.{◌≡◌, true, ℕ, if◌then◌else◌, List, [], ◌∷◌, map, flat_map}
use Rattle.build_flow_nodes.specs.Parts.{BodyNames}
use Rattle.cx_core.specs.Trees.{CTy, CStmt, CFun}
use Rattle.emit_rules.specs.Bodies.{emitted}
use Rattle.flow.specs.Flows.{FlowTree}
use Rattle.lift_exprs.specs.Names.{Names, type_in}
use Rattle.lift_exprs.specs.Objects.{object_at}
use Rattle.lift_exprs.specs.Written.{copied}
use Rattle.lift_forms.specs.Given.{address_of}
use Rattle.lift_forms.specs.Operators.{zero_of}
use Rattle.lift_held.specs.Held.{is_record}
use Rattle.reloop.specs.Fits.{IsFormed, IsFit}
use Rattle.reloop.specs.Graphs.{FlowGraph, HasCycle, IsIrreducible}
use Rattle.reloop.specs.Shapes.{ShapeTree, entries_of, goes_round, has_dispatch}
use Rattle.rs_mean.specs.Laws.{behind}
use Rattle.rs_text.specs.Tree.{Local, Read, Stmt, Stmts, stmts}
use Rattle.whole_bodies.specs.Bodies.{gives_value, with_last_return}
use Rattle.whole_bodies.specs.Names.{body_names, object_type, own_names}
use Rattle.whole_names.specs.FunctionNames.{a_passed}
use Rattle.whole_names.specs.Kept.{NamedProgram, local_among}
use Rattle.whole_names.specs.ModuleNames.{name_or}

-- ---- what is passed

-- a structure or union that is passed: the object of the parameter, its type, and the Rust parameter that points to where it stands
pub record PassedTree : Type 0 where
  pub object : ℕ
  pub type : CTy
  pub pointer : List ℕ

abbrev pub copy_of : Names → PassedTree → Stmt
copy_of names one = copied (Read (Local one.pointer)) (address_of (object_at names one.type one.object)) (names.size_of one.type)

abbrev pub copies_of : Names → List PassedTree → List Stmt
copies_of names passed = map (copy_of names) passed

-- those of a function
abbrev pub passed_param : NamedProgram → CFun → ℕ → List PassedTree
passed_param program fun number =
    if is_record (object_type program number)
    then record { object = number; type = object_type program number; pointer = name_or [] (local_among (a_passed number) (own_names program fun)) } ∷ []
    else []

abbrev pub passed_of : NamedProgram → CFun → List PassedTree
passed_of program fun = flat_map (passed_param program fun) fun.params

-- ---- texts

abbrev pub ended_text : BodyNames → Stmts → Stmts
ended_text of body = with_last_return (gives_value of.result_type) (zero_of (type_in of.names of.result_type)) body

abbrev pub text_of : BodyNames → List PassedTree → FlowTree → ShapeTree → Stmts
text_of of passed flow shape = ended_text of (behind (stmts (copies_of of.names passed)) (emitted flow shape))

-- a shape that fits a graph, with a dispatch exactly where the graph is irreducible
pub record IsShape (graph : FlowGraph) (shape : ShapeTree) : Type 0 where
  pub fits : IsFit graph shape
  pub entry : entries_of shape ≡ graph.entry ∷ []
  pub formed : IsFormed graph shape
  pub dispatch : has_dispatch shape ≡ true → IsIrreducible graph
  pub irreducible : IsIrreducible graph → has_dispatch shape ≡ true
  pub cyclic : goes_round shape ≡ true → HasCycle graph

-- the body of a function, with the names with which it is written
pub record AreNames (program : NamedProgram) (fun : CFun) (of : BodyNames) (passed : List PassedTree) (body : CStmt) : Type 0 where
  pub names : of ≡ body_names program fun
  pub passes : passed ≡ passed_of program fun
  pub body_is : body ≡ fun.body
