-- What values of the declared types say of bodies.
use Rattle.std.specs.Prelude.{◌≡◌, List, map}
use Rattle.build_flow_nodes.specs.Flows.{flow_of}
use Rattle.build_flow_nodes.specs.Parts.{BodyNames}
use Rattle.cx_core.specs.Trees.{CFun}
use Rattle.cx_core.specs.Views.{view_type}
use Rattle.flow.specs.Flows.{FlowTree, graph_of}
use Rattle.reloop.specs.Shapes.{ShapeTree, has_dispatch}
use Rattle.rs_text.specs.Tree.{stmts}
use Rattle.rs_tree.specs.Views.{stmt_view}
use Rattle.whole_bodies.specs.Bodies.{written_body}
use Rattle.whole_bodies.specs.Names.{body_names}
use Rattle.whole_names.specs.Kept.{NamedProgram}
use Rattle.whole_texts.specs.Texts.{PassedTree, IsShape, text_of}
use Rattle.whole_texts.specs.declared.bodies.BodyText.{BodyText}
use Rattle.whole_texts.specs.declared.passed.Passed.{Passed}

abbrev pub passed_view : Passed → PassedTree
passed_view one = record { object = one.object; type = view_type one.ty.now; pointer = one.pointer.now }

-- what is written from a flow by a shape that fits its graph
pub record IsText (of : BodyNames) (passed : List PassedTree) (flow : FlowTree) (made : BodyText) : Type 0 where
  pub shape : ShapeTree
  pub shaped : IsShape (graph_of flow) shape
  pub dispatch : made.has_dispatch ≡ has_dispatch shape
  pub text : stmts (map stmt_view made.statements) ≡ text_of of passed flow shape

-- the body that is written for a function by a shape that fits its flow
pub record IsWritten (program : NamedProgram) (fun : CFun) (made : BodyText) : Type 0 where
  pub shape : ShapeTree
  pub shaped : IsShape (graph_of (flow_of (body_names program fun) fun.body)) shape
  pub dispatch : made.has_dispatch ≡ (written_body program (λ (one : CFun). shape) fun).has_dispatch
  pub text : stmts (map stmt_view made.statements) ≡ (written_body program (λ (one : CFun). shape) fun).statements
