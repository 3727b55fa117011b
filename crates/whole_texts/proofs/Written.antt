-- What is written for a function, by the names with which it is written.
use Rattle.std.proofs.Common.{◌≡◌, ◌∙◌, ℕ, Bool, true, false, if◌then◌else◌, List, [], ◌∷◌, ◌++◌, flat_map, Result, Ok, Err, IfOk, refl, ap, subst}
use Rattle.build_flow_nodes.specs.Flows.{flow_of}
use Rattle.build_flow_nodes.specs.Parts.{BodyNames}
use Rattle.cx_core.specs.Trees.{CStmt, CFun}
use Rattle.emit_rules.specs.Bodies.{emitted}
use Rattle.flow.specs.Flows.{FlowTree, graph_of}
use Rattle.lift_held.specs.Held.{is_record}
use Rattle.reloop.specs.Shapes.{ShapeTree}
use Rattle.rs_mean.specs.Laws.{behind}
use Rattle.rs_text.specs.Tree.{Stmt, stmts}
use Rattle.whole_bodies.specs.Bodies.{copy_of_passed, body_text}
use Rattle.whole_bodies.specs.Names.{body_names, object_type, own_names}
use Rattle.whole_names.specs.FunctionNames.{a_passed}
use Rattle.whole_names.specs.Kept.{NamedProgram, local_among}
use Rattle.whole_names.specs.ModuleNames.{name_or}
use Rattle.whole_texts.specs.Texts.{PassedTree, copy_of, copies_of, passed_param, passed_of, ended_text, text_of, IsShape, AreNames}
use Rattle.whole_texts.specs.Views.{IsText, IsWritten}
use Rattle.whole_texts.specs.declared.bodies.BodyText.{BodyText}

module _ (program : NamedProgram) (fun : CFun) where
  one_copy : (number : ℕ) (others : List PassedTree) (rest : List Stmt) → copies_of (body_names program fun).names others ≡ rest →
      copies_of (body_names program fun).names (passed_param program fun number ++ others) ≡ copy_of_passed program fun number ++ rest
  one_copy number others rest more = by (is_record (object_type program number))
    where
      by : (is : Bool) →
          copies_of (body_names program fun).names
          ((if is then record { object = number; type = object_type program number; pointer = name_or [] (local_among (a_passed number) (own_names program fun)) } ∷ [] else []) ++ others)
          ≡ (if is then copy_of (body_names program fun).names (record { object = number; type = object_type program number; pointer = name_or [] (local_among (a_passed number) (own_names program fun)) }) ∷ [] else []) ++ rest
      by true =
          ap (λ (list : List Stmt). copy_of (body_names program fun).names (record { object = number; type = object_type program number; pointer = name_or [] (local_among (a_passed number) (own_names program fun)) }) ∷ list) more
      by false = more

  all_copies : (params : List ℕ) → copies_of (body_names program fun).names (flat_map (passed_param program fun) params) ≡ flat_map (copy_of_passed program fun) params
  all_copies [] = refl
  all_copies (number ∷ params) = one_copy number (flat_map (passed_param program fun) params) (flat_map (copy_of_passed program fun) params) (all_copies params)

  same_text : (flow : FlowTree) (shape : ShapeTree) → text_of (body_names program fun) (passed_of program fun) flow shape ≡ body_text program (λ (one : CFun). shape) fun flow
  same_text flow shape = ap (λ (copies : List Stmt). ended_text (body_names program fun) (behind (stmts copies) (emitted flow shape))) (all_copies fun.params)

  module _ (of : BodyNames) (passed : List PassedTree) (body : CStmt) (are : AreNames program fun of passed body) where
    same_flow : flow_of of body ≡ flow_of (body_names program fun) fun.body
    same_flow = ap (λ (names : BodyNames). flow_of names body) are.names ∙ ap (flow_of (body_names program fun)) are.body_is

    written_is : (made : BodyText) → IsText of passed (flow_of of body) made → IsWritten program fun made
    written_is made is = record {
      shape = is.shape;
      shaped = subst (λ (flow : FlowTree). IsShape (graph_of flow) is.shape) same_flow is.shaped;
      dispatch = is.dispatch;
      text =
          is.text
          ∙ ap (λ (names : BodyNames). text_of names passed (flow_of of body) is.shape) are.names
          ∙ ap (λ (list : List PassedTree). text_of (body_names program fun) list (flow_of of body) is.shape) are.passes
          ∙ ap (λ (flow : FlowTree). text_of (body_names program fun) (passed_of program fun) flow is.shape) same_flow
          ∙ same_text (flow_of (body_names program fun) fun.body) is.shape;
    }

pub written_made : {E : Type 0} (of : BodyNames) (passed : List PassedTree) (body : CStmt) (flow : FlowTree) (made : Result BodyText E) → flow ≡ flow_of of body → IfOk made (λ one. IsText of passed flow one) →
    IfOk made (λ one. (program : NamedProgram) (fun : CFun) → AreNames program fun of passed body → IsWritten program fun one)
written_made of passed body flow (Ok made) same is = λ program fun are. written_is program fun of passed body are made (subst (λ (it : FlowTree). IsText of passed it made) same is)
written_made of passed body flow (Err why) same is = tt
