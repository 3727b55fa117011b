use Rattle.std.proofs.Common.{◌∙◌, ap, map, subst}
use Rattle.build_flow_code.specs.Bodies.{body_of}
use Rattle.emit_rules.specs.Bodies.{emitted}
use Rattle.flow.specs.Views.{flow_view}
use Rattle.reloop.specs.Graphs.{FlowGraph}
use Rattle.reloop.specs.Shapes.{shape_view}
use Rattle.whole_texts.proofs.Ended.{text_joined}
use Rattle.whole_texts.specs.Texts.{IsShape, copies_of, ended_text}
use Rattle.whole_texts.specs.Views.{passed_view}
use Rattle.whole_texts.proofs.bodies.text_of.Goals as goal

pub returns : goal.returns
returns c = record {
  shape = shape_view c.in_ok-shape.shape;
  shaped = subst (λ (graph : FlowGraph). IsShape graph (shape_view c.in_ok-shape.shape)) c.in_ok-graph.ensures (record {
    fits = c.in_ok-shape.ensures.fits;
    entry = c.in_ok-shape.ensures.entry;
    formed = c.in_ok-shape.ensures.formed;
    dispatch = c.in_ok-shape.ensures.dispatch;
    irreducible = c.in_ok-shape.ensures.irreducible;
    cyclic = c.in_ok-shape.ensures.cyclic;
  });
  dispatch = c.has_dispatch.ensures;
  text =
      c.in_ok-statements-2.ensures
      ∙ ap (ended_text (body_of c.args.of.now))
      (text_joined (copies_of (body_of c.args.of.now).names (map passed_view c.args.passed.now)) (emitted (flow_view c.args.flow.now) (shape_view c.in_ok-shape.shape))
      c.in_ok-statements.statements c.in_ok-emit.field-0 c.append.new.self c.in_ok-append.ensures.ok c.in_ok-statements.ensures c.in_ok-emit.ensures);
}
