-- Linear code says of each place of a body what is done there. It ends by leaving, so it doesn't matter what stands behind it.
use Rattle.std.specs.Prelude.{◌≡◌}
use Rattle.build_flow_nodes.specs.Builder.{points_in_body}
use Rattle.build_flow_nodes.specs.Parts.{BodyNames}
use Rattle.build_flow_nodes.specs.Points.{Point}
use Rattle.cx_core.specs.Trees.{CStmt}
use Rattle.build_flow_linear.specs.Linear.{places_in, body_code}

abbrev pub LinearCodeStands : Type 0
LinearCodeStands = (of : BodyNames) (last : Point) (body : CStmt) → places_in last (body_code of body) ≡ points_in_body of body
