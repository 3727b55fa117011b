use Rattle.std.proofs.Common.{ap, ◌∙◌, is_some}
use Rattle.cx_scope.proofs.Listed.{has_is}
use Rattle.cx_scope.specs.Names.{place_of}
use Rattle.cx_scope.proofs.members.Members.has.Goals as goal

pub returns : goal.returns
returns c =
    rw (← c.self.view_is) (c.is_some.ensures ∙ ap is_some (c.place_of.ensures ∙ ap (λ name. place_of name c.self.inside.names) c.bytes.ensures)
    ∙ has_is c.args.name.now c.self.inside.list c.self.inside.names c.self.invariant)
