use Rattle.std.proofs.Common.{ap, ◌∙◌}
use Rattle.cx_scope.proofs.Found.{tag_place}
use Rattle.cx_scope.specs.Names.{place_of}
use Rattle.cx_scope.proofs.declarations.Declarations.tag_place.Goals as goal

pub returns : goal.returns
returns c = rw (← c.self.view_is) (c.place_of.ensures ∙ ap (λ name. place_of name c.self.inside.tags) c.bytes.ensures
    ∙ tag_place c.args.name.now c.self.inside.list c.self.inside.tags c.self.invariant.tags_is)
