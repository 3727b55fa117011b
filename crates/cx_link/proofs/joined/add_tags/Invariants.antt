use Rattle.std.proofs.Common.{◌≡◌, ◌++◌, map, drop}
use Rattle.cx_core.specs.Views.{view_tag}
use Rattle.cx_link.proofs.joined.add_tags.Given as goal

abbrev pub invariant-loop-one : goal.invariant-loop-one
invariant-loop-one l = map view_tag l.all ++ map view_tag (drop l.one-index l.tags) ≡ map view_tag l.initial.all ++ map view_tag l.tags
