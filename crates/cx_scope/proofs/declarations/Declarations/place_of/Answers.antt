use Rattle.std.proofs.Common.{ap, ◌∙◌}
use Rattle.cx_scope.proofs.Found.{ordinary_place}
use Rattle.cx_scope.specs.Names.{place_of}
use Rattle.cx_scope.proofs.declarations.Declarations.place_of.Goals as goal

pub returns : goal.returns
returns c = rw (← c.self.view_is) (c.place_of.ensures ∙ ap (λ name. place_of name c.self.inside.ordinary) c.bytes.ensures
    ∙ ordinary_place c.args.name.now c.self.inside.list c.self.inside.ordinary c.self.invariant.ordinary_is)
