use Rattle.std.proofs.Common.{map}
use Rattle.build_flow_code.specs.Bodies.{body_of}
use Rattle.cx_core.specs.Views.{view_stmt}
use Rattle.flow.specs.Views.{flow_view}
use Rattle.whole_texts.proofs.Written.{written_made}
use Rattle.whole_texts.specs.Views.{passed_view}
use Rattle.whole_texts.proofs.bodies.written_body.Goals as goal

pub returns-clause-written : goal.returns-clause-written
returns-clause-written c =
    written_made (body_of c.args.of.now) (map passed_view c.args.passed.now) (view_stmt c.args.body.now) (flow_view c.in_ok-flow.flow) c.text_of.result c.in_ok-flow.ensures.flow c.text_of.ensures
