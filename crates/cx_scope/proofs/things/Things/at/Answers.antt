use Rattle.std.proofs.Common.{ap, ◌∙◌}
use Rattle.cx_scope.proofs.Standing.{thing_at_is}
use Rattle.cx_scope.specs.Names.{place_of}
use Rattle.cx_scope.proofs.things.Things.at.Goals as goal

pub returns : goal.returns
returns c =
    rw (← c.self.view_is) (thing_at_is c.args.name.now c.self.inside.list c.self.inside.names c.self.invariant c.place_of.result
    (c.place_of.ensures ∙ ap (λ name. place_of name c.self.inside.names) c.bytes.ensures))
