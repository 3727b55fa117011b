use Rattle.std.proofs.Common.{ap, sym, ◌∙◌, map, reverse}
use Rattle.cx_contents.proofs.Newest.{no_object, object_newest}
use Rattle.cx_contents.specs.Contents.{declares_object}
use Rattle.cx_scope.specs.Names.{newest}
use Rattle.cx_scope.specs.Views.{view_declared}
use Rattle.cx_contents.proofs.names.newest_object.Goals as goal

pub returns-in_default : goal.returns-in_default
returns-in_default c = sym (no_object c.args.name.now (reverse (map view_declared c.args.declared.now)) (sym c.place_of.ensures ∙ c.in_default.is))

pub returns-then-is_object_at : goal.returns-then-is_object_at
returns-then-is_object_at c =
    sym (object_newest c.args.name.now c.args.declared.now c.in-Some.place (sym c.place_of.ensures ∙ c.in-Some.is) (sym c.is_object_at.ensures ∙ c.if-is_object_at.true))
